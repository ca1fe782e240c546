use Rattle.std.proofs.Common.{List, subst}
use Rattle.token_read.specs.Texts.{CanFollow}
use Rattle.gql_tokens.specs.declared.kinds.Kind.{Kind}
use Rattle.gql_terms.specs.Grammar.{strict}
use Rattle.gql_parser.specs.Reading.{all}
use Rattle.gql_parser.specs.Judging.{TellsWhether}
use Rattle.gql_parser.proofs.Following.{some_tokens, grown_explains, refused_last_explains}
use Rattle.gql_parser.proofs.endings.whole.Goals as goal

pub without_last-requires : goal.without_last-requires
without_last-requires c = some_tokens _ _ _ c.requires.ends

pub returns-then-branch : goal.returns-then-branch
returns-then-branch c = grown_explains c.args.text.now c.args.tokens.items _ c.args.kinds.items c.args.place c.args.why c.without_last.ensures.0 _ c.requires.ends c.requires.last c.without_last.ensures.1
    (subst (λ (q : List Kind). TellsWhether c.in_ok-can_follow.field-0 (CanFollow (all strict) c.without_last.new.tokens.items q)) c.as_slice.ensures.value c.in_ok-can_follow.ensures.tells) c.if-branch.true

pub returns : goal.returns
returns c = rw c.placed.ensures
    (refused_last_explains c.args.text.now c.args.tokens.items _ c.args.kinds.items c.args.place c.args.why c.without_last.ensures.0 _ c.requires.ends c.requires.last c.without_last.ensures.1
    (subst (λ (q : List Kind). TellsWhether c.in_ok-can_follow.field-0 (CanFollow (all strict) c.without_last.new.tokens.items q)) c.as_slice.ensures.value c.in_ok-can_follow.ensures.tells) c.if-branch.false)
