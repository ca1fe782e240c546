use Rattle.std.proofs.Common.{ℕ, ◌<◌, List, length, refl, sym, subst, arith, inl, inr}
use Rattle.gql_parser.specs.Judging.{TellsWhether}
use Rattle.gql_tokens.specs.Lexical.{Token}
use Rattle.gql_schema.specs.Judging.{CanGoOn}
use Rattle.gql_schema.proofs.Explained.{last_on, last_off, last_room}
use Rattle.gql_schema.proofs.judging.refused_last.Goals as goal

pub take_last-last-requires : goal.take_last-last-requires
take_last-last-requires c = omega (arith, c.requires.count)

pub rest_from-requires : goal.rest_from-requires
rest_from-requires c = (last_room c.args.text.now c.args.tokens.items c.args.place c.requires).0

pub last_next-requires : goal.last_next-requires
last_next-requires c = subst (λ (q : List ℕ). 0 < length q) (sym c.rest_from.ensures) (last_room c.args.text.now c.args.tokens.items c.args.place c.requires).1

pub returns-then-branch : goal.returns-then-branch
returns-then-branch c = inl (
  last_on c.args.text.now c.args.tokens.items c.take_last-last.new.tokens.items c.args.place c.requires c.take_last-last.result c.take_last-last.ensures c.rest_from.result.now c.in_ok-next.next.items c.in_ok-can_go_on.field-0
      c.rest_from.ensures c.in_ok-next.ensures
      (subst (λ (q : List Token). TellsWhether c.in_ok-can_go_on.field-0 (CanGoOn c.take_last-last.new.tokens.items q)) c.as_slice.ensures.value c.in_ok-can_go_on.ensures) c.if-branch.true,
  refl,
)

pub returns : goal.returns
returns c = inr (last_off c.args.text.now c.args.tokens.items c.take_last-last.new.tokens.items c.args.place c.requires c.take_last-last.result c.take_last-last.ensures c.rest_from.result.now c.in_ok-next.next.items c.in_ok-can_go_on.field-0
    c.rest_from.ensures c.in_ok-next.ensures
    (subst (λ (q : List Token). TellsWhether c.in_ok-can_go_on.field-0 (CanGoOn c.take_last-last.new.tokens.items q)) c.as_slice.ensures.value c.in_ok-can_go_on.ensures) c.if-branch.false)
