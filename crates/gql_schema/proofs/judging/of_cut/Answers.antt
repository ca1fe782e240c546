use Rattle.std.proofs.Common.{◌≡◌, ℕ, ◌≤◌, ◌-◌, map, length, sym, ap, subst, ◌∙◌, arith, inr}
use Rattle.std.specs.Prelude.{slice_index}
use Rattle.gql_schema.specs.Words.{marked}
use Rattle.gql_schema.specs.Reading.{all}
use Rattle.gql_schema.specs.Faults.{StopsAt}
use Rattle.gql_schema.specs.Judging.{IsReading}
use Rattle.gql_schema.proofs.Explained.{left_within, read_begins, stopped_begins, cut_earlier, cut_at_is}
use Rattle.gql_schema.proofs.judging.of_cut.Goals as goal

pub place_of-end-requires : goal.place_of-end-requires
place_of-end-requires c = (omega arith, omega (arith, c.requires.lexed.counted))

pub cut_off-requires-clause-cut : goal.cut_off-requires-clause-cut
cut_off-requires-clause-cut c =
    let r = subst (IsReading (all (map marked c.args.tokens.items))) c.in-Read.is c.requires.reading in
    cut_at_is c.args.text.now c.args.tokens.items c.args.places.items c.requires.lexed c.place_of-end.result c.place_of-end.ensures (read_begins c.args.tokens.items c.in-Read.field-0 r.0 r.1)

pub place_of-place-requires : goal.place_of-place-requires
place_of-place-requires c =
    let r = subst (IsReading (all (map marked c.args.tokens.items))) c.in-Refused.is c.requires.reading in
    let le : length r.1 ≤ length c.args.tokens.items = left_within c.args.tokens.items r.0 r.1 r.2 in
    (omega (arith, r.3), omega (arith, r.3, c.requires.lexed.counted))

pub returns-then-left-gt0 : goal.returns-then-left-gt0
returns-then-left-gt0 c =
    let r = subst (IsReading (all (map marked c.args.tokens.items))) c.in-Refused.is c.requires.reading in
    inr (subst (StopsAt c.args.text.now) (sym c.place_of-place.ensures)
    (cut_earlier c.args.text.now c.args.tokens.items c.args.places.items (slice_index c.args.places.items (length c.args.tokens.items)) c.requires.lexed.kinds c.requires.lexed.ends c.requires.lexed.placed r.0 r.1 c.in-Refused.left r.2 r.3 c.if-left-gt0.true))

pub cut_off-requires-in-Refused-clause-cut : goal.cut_off-requires-in-Refused-clause-cut
cut_off-requires-in-Refused-clause-cut c =
    let r = subst (IsReading (all (map marked c.args.tokens.items))) c.in-Refused.is c.requires.reading in
    let none : c.in-Refused.left ≡ 0 = omega (arith, c.if-left-gt0.false) in
    cut_at_is c.args.text.now c.args.tokens.items c.args.places.items c.requires.lexed c.place_of-place.result
    (c.place_of-place.ensures ∙ ap (λ (n : ℕ). slice_index c.args.places.items (length c.args.tokens.items - n)) none) (stopped_begins c.args.tokens.items r.0 r.1 r.2 (sym r.3 ∙ none))
