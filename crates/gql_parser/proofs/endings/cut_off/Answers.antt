use Rattle.std.proofs.Common.{List, subst}
use Rattle.token_read.specs.Texts.{CanFollow}
use Rattle.gql_tokens.specs.declared.kinds.Kind.{Kind}
use Rattle.gql_terms.specs.Grammar.{strict}
use Rattle.gql_parser.specs.Reading.{all}
use Rattle.gql_parser.specs.Judging.{TellsWhether}
use Rattle.gql_parser.proofs.Following.{cut_grown, cut_stops}
use Rattle.gql_parser.proofs.endings.cut_off.Goals as goal

pub returns-then-branch : goal.returns-then-branch
returns-then-branch c = cut_grown c.args.text.now c.args.tokens.items c.args.kinds.items c.args.place _ c.requires.ends
    (subst (λ (q : List Kind). TellsWhether c.in_ok-can_follow.field-0 (CanFollow (all strict) c.args.tokens.items q)) c.as_slice.ensures.value c.in_ok-can_follow.ensures.tells) c.if-branch.true

pub returns : goal.returns
returns c = cut_stops c.args.text.now c.args.tokens.items c.args.kinds.items c.args.place _ c.requires.ends c.requires.begins
    (subst (λ (q : List Kind). TellsWhether c.in_ok-can_follow.field-0 (CanFollow (all strict) c.args.tokens.items q)) c.as_slice.ensures.value c.in_ok-can_follow.ensures.tells) c.if-branch.false
