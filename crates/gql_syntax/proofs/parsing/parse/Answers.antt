use Rattle.std.proofs.Common.{List, ℕ, subst}
use Rattle.gql_parser.specs.Judging.{Judged}
use Rattle.gql_syntax.proofs.Judgements.{judged_refuses, judged_fault}
use Rattle.gql_syntax.proofs.parsing.parse.Goals as goal

pub returns-in-Ok-None-clause-refused : goal.returns-in-Ok-None-clause-refused
returns-in-Ok-None-clause-refused c = judged_refuses _ _ (subst (λ (q : List ℕ). Judged q c.judged.result) c.as_str-source.ensures c.judged.ensures)

pub returns-in-Ok-None-clause-fault : goal.returns-in-Ok-None-clause-fault
returns-in-Ok-None-clause-fault c = judged_fault _ _ (subst (λ (q : List ℕ). Judged q c.judged.result) c.as_str-source.ensures c.judged.ensures)
