use Rattle.std.proofs.Common.{ℕ, ◌<◌, List, length, refl, sym, subst, inl, inr}
use Rattle.std.proofs.Math.Facts.{Fits-lt-pow}
use Rattle.gql_parser.specs.Judging.{TellsWhether}
use Rattle.gql_tokens.specs.Lexical.{Token}
use Rattle.gql_schema.specs.Judging.{CanGoOn}
use Rattle.gql_schema.proofs.Explained.{cut_on, cut_off, cut_room}
use Rattle.gql_schema.proofs.judging.cut_off.Goals as goal

pub rest_from-requires : goal.rest_from-requires
rest_from-requires c = (cut_room c.args.text.now c.args.tokens.items c.args.place (λ i. Fits-lt-pow (c.type_inv.text i)) c.requires.utf8 c.requires.cut).0

pub cut_next-requires : goal.cut_next-requires
cut_next-requires c = subst (λ (q : List ℕ). 0 < length q) (sym c.rest_from.ensures) (cut_room c.args.text.now c.args.tokens.items c.args.place (λ i. Fits-lt-pow (c.type_inv.text i)) c.requires.utf8 c.requires.cut).1

pub returns-then-branch : goal.returns-then-branch
returns-then-branch c = inl (
  cut_on c.args.text.now c.args.tokens.items c.args.place (λ i. Fits-lt-pow (c.type_inv.text i)) c.requires.utf8 c.requires.cut c.rest_from.result.now c.in_ok-next.next.items c.in_ok-can_go_on.field-0 c.rest_from.ensures c.in_ok-next.ensures
      (subst (λ (q : List Token). TellsWhether c.in_ok-can_go_on.field-0 (CanGoOn c.args.tokens.items q)) c.as_slice.ensures.value c.in_ok-can_go_on.ensures) c.if-branch.true,
  refl,
)

pub returns : goal.returns
returns c = inr (cut_off c.args.text.now c.args.tokens.items c.args.place (λ i. Fits-lt-pow (c.type_inv.text i)) c.requires.utf8 c.requires.cut c.rest_from.result.now c.in_ok-next.next.items c.in_ok-can_go_on.field-0 c.rest_from.ensures c.in_ok-next.ensures
    (subst (λ (q : List Token). TellsWhether c.in_ok-can_go_on.field-0 (CanGoOn c.args.tokens.items q)) c.as_slice.ensures.value c.in_ok-can_go_on.ensures) c.if-branch.false)
