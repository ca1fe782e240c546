use Rattle.std.proofs.Common.{◌≡◌, ℕ, ◌≤◌, ◌<◌, ◌-◌, List, length, refl, sym, subst, ◌∙◌, arith}
use Rattle.std.specs.Prelude.{slice_index}
use Rattle.gql_terms.specs.Grammar.{strict}
use Rattle.gql_parser.specs.Reading.{all}
use Rattle.gql_parser.specs.Faults.{Explains, placed}
use Rattle.gql_tokens.specs.Lexing.{EndsCut}
use Rattle.gql_syntax.specs.Readings.{IsReading}
use Rattle.gql_syntax.proofs.Judgements.{left_within, refused_within, cut_where, begins_read, begins_stopped}
use Rattle.gql_syntax.proofs.judging.of_cut.Goals as goal

pub cut_off-requires-clause-ends : goal.cut_off-requires-clause-ends
cut_off-requires-clause-ends c =
    subst (λ (q : ℕ). EndsCut c.args.text.now c.args.tokens.items q c.args.kinds.items) (sym c.place_of-end.ensures) (cut_where c.args.text.now c.args.tokens.items c.args.places.items c.args.kinds.items c.requires.lexed 0 (omega arith))

pub cut_off-requires-clause-begins : goal.cut_off-requires-clause-begins
cut_off-requires-clause-begins c =
    let r = subst (IsReading (all strict c.args.tokens.items)) c.in-Read.is c.requires.reading in
    begins_read c.args.text.now c.args.tokens.items c.args.places.items c.args.kinds.items c.requires.lexed c.in-Read.field-0 r.0 r.1

pub place_of-place-requires : goal.place_of-place-requires
place_of-place-requires c =
    let r = subst (IsReading (all strict c.args.tokens.items)) c.in-Refused.is c.requires.reading in
    let le : length r.0 ≤ length c.args.tokens.items = left_within c.args.tokens.items c.in-Refused.why r.0 r.1 in
    (omega (arith, r.2), omega (arith, r.2, c.requires.lexed.counted))

pub returns-then-left-gt0 : goal.returns-then-left-gt0
returns-then-left-gt0 c =
    let r = subst (IsReading (all strict c.args.tokens.items)) c.in-Refused.is c.requires.reading in
    subst (Explains c.args.text.now) (sym c.placed.ensures) (subst (λ (q : ℕ). Explains c.args.text.now (placed c.in-Refused.why q)) (sym c.place_of-place.ensures)
    (refused_within c.args.text.now c.args.tokens.items c.args.places.items c.args.kinds.items c.requires.lexed c.in-Refused.why r.0 c.in-Refused.left r.1 r.2 c.if-left-gt0.true))

pub cut_off-requires-in-Refused-clause-ends : goal.cut_off-requires-in-Refused-clause-ends
cut_off-requires-in-Refused-clause-ends c =
    subst (λ (q : ℕ). EndsCut c.args.text.now c.args.tokens.items q c.args.kinds.items) (sym c.place_of-place.ensures) (cut_where c.args.text.now c.args.tokens.items c.args.places.items c.args.kinds.items c.requires.lexed c.in-Refused.left c.if-left-gt0.false)

pub cut_off-requires-in-Refused-clause-begins : goal.cut_off-requires-in-Refused-clause-begins
cut_off-requires-in-Refused-clause-begins c =
    let r = subst (IsReading (all strict c.args.tokens.items)) c.in-Refused.is c.requires.reading in
    begins_stopped c.args.text.now c.args.tokens.items c.args.places.items c.args.kinds.items c.requires.lexed c.in-Refused.why r.0 c.in-Refused.left r.1 r.2 c.if-left-gt0.false
