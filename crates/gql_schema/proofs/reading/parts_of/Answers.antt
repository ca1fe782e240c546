use Rattle.std.proofs.Common.{ℕ, List, sym, subst, ◌∙◌}
use Rattle.std.specs.Str.{IsUtf8}
use Rattle.gql_tokens.specs.Lexing.{IsLexed}
use Rattle.gql_schema.specs.Judging.{Judged}
use Rattle.gql_schema.proofs.reading.parts_of.Goals as goal

pub judge-requires-clause-utf8 : goal.judge-requires-clause-utf8
judge-requires-clause-utf8 c = subst IsUtf8 (sym c.as_bytes.ensures.value) c.as_str-source.utf8

pub judge-requires-clause-lexed : goal.judge-requires-clause-lexed
judge-requires-clause-lexed c = subst (λ (q : List ℕ). IsLexed q c.in-Ok.lexed.tokens.items c.in-Ok.lexed.places.items c.in-Ok.lexed.last) (sym c.as_bytes.ensures.value) c.in-Ok.ensures

pub returns-in-Ok : goal.returns-in-Ok
returns-in-Ok c = subst (λ (q : List ℕ). Judged q c.judge.result) (c.as_bytes.ensures.value ∙ c.as_str-source.ensures) c.judge.ensures
