use Rattle.std.proofs.Common.{◌≡◌, ℕ, List, sym}
use Rattle.std.specs.Option.{option_copied}
use Rattle.std.specs.List.{find}
use Rattle.gql_spreads.specs.Spreads.{spreads_of, spreads_in}
use Rattle.gql_spreads.specs.Numbers.{is_bad}
use Rattle.gql_spreads.proofs.Finds.{field_spreads, inline_spreads, found, not_found}
use Rattle.gql_spreads.proofs.first.+first_in.Goals as goal

pub first_at-returns-in-Field : goal.first_at-returns-in-Field
first_at-returns-in-Field t c = field_spreads (λ (q : List (List ℕ)). option_copied c.first_in.result ≡ find (is_bad c.args.numbers.now c.args.cyclic.now) q) _ _ _ _ _ _ _ c.in-Field.is c.as_slice.ensures c.first_in.ensures

pub first_at-returns-in-Inline : goal.first_at-returns-in-Inline
first_at-returns-in-Inline t c = inline_spreads (λ (q : List (List ℕ)). option_copied c.first_in-in-Inline.result ≡ find (is_bad c.args.numbers.now c.args.cyclic.now) q) _ _ _ _ _ c.in-Inline.is c.as_slice-in-Inline.ensures
    c.first_in-in-Inline.ensures

pub first_in-returns-in-Some : goal.first_in-returns-in-Some
first_in-returns-in-Some t c = found (is_bad c.args.numbers.now c.args.cyclic.now) spreads_of c.args.selections.now c.loop-i.i c.index-selections-i.result (find (is_bad c.args.numbers.now c.args.cyclic.now) (spreads_in c.args.selections.now))
    c.in-Some.name.now c.loop-i-test.true c.index-selections-i.is c.loop-i.invariant (sym c.in-Some.ensures)

pub first_in-loop-i-preserved : goal.first_in-loop-i-preserved
first_in-loop-i-preserved t c = not_found (is_bad c.args.numbers.now c.args.cyclic.now) spreads_of c.args.selections.now c.loop-i.i c.index-selections-i.result
    (find (is_bad c.args.numbers.now c.args.cyclic.now) (spreads_in c.args.selections.now)) c.loop-i-test.true c.index-selections-i.is c.loop-i.invariant (sym c.in-None.ensures)
