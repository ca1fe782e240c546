use Rattle.std.proofs.Common.{◌≡◌, ℕ, ◌≤◌, ◌<◌, ◌-◌, List, length, refl, sym, subst, ◌∙◌, arith}
use Rattle.std.specs.Prelude.{slice_index}
use Rattle.gql_terms.specs.Grammar.{strict}
use Rattle.gql_parser.specs.Reading.{all}
use Rattle.gql_parser.specs.Faults.{Explains, placed}
use Rattle.gql_parser.specs.Judging.{RefusedLast}
use Rattle.gql_syntax.specs.Readings.{IsReading}
use Rattle.gql_syntax.proofs.Judgements.{left_within, whole_is, ended_after, refused_earlier, refused_last}
use Rattle.gql_syntax.proofs.judging.of_whole.Goals as goal

pub returns-in-Read : goal.returns-in-Read
returns-in-Read c =
    let r = subst (IsReading (all strict c.args.tokens.items)) c.in-Read.is c.requires.reading in
    whole_is c.args.text.now c.args.tokens.items c.args.places.items c.args.kinds.items c.requires.lexed c.in-Read.document r.0 r.1

pub returns-then-left-eq0 : goal.returns-then-left-eq0
returns-then-left-eq0 c =
    let r = subst (IsReading (all strict c.args.tokens.items)) c.in-Refused.is c.requires.reading in
    ended_after c.args.text.now c.args.tokens.items c.args.places.items c.args.kinds.items c.requires.lexed c.in-Refused.why r.0 r.1 (sym r.2 ∙ c.if-left-eq0.true)

pub place_of-place-requires : goal.place_of-place-requires
place_of-place-requires c =
    let r = subst (IsReading (all strict c.args.tokens.items)) c.in-Refused.is c.requires.reading in
    let le : length r.0 ≤ length c.args.tokens.items = left_within c.args.tokens.items c.in-Refused.why r.0 r.1 in
    (omega (arith, r.2), omega (arith, r.2, c.requires.lexed.counted, c.if-left-eq0.false))

pub returns-then-left-gt1 : goal.returns-then-left-gt1
returns-then-left-gt1 c =
    let r = subst (IsReading (all strict c.args.tokens.items)) c.in-Refused.is c.requires.reading in
    subst (Explains c.args.text.now) (sym c.placed.ensures) (subst (λ (q : ℕ). Explains c.args.text.now (placed c.in-Refused.why q)) (sym c.place_of-place.ensures)
    (refused_earlier c.args.text.now c.args.tokens.items c.args.places.items c.args.kinds.items c.requires.lexed c.in-Refused.why r.0 c.in-Refused.left r.1 r.2 c.if-left-gt1.true))

pub whole-requires-clause-last : goal.whole-requires-clause-last
whole-requires-clause-last c =
    let r = subst (IsReading (all strict c.args.tokens.items)) c.in-Refused.is c.requires.reading in
    subst (λ (q : ℕ). RefusedLast c.args.text.now c.args.tokens.items q c.in-Refused.why) (sym c.place_of-place.ensures)
    (refused_last c.args.text.now c.args.tokens.items c.args.places.items c.args.kinds.items c.requires.lexed c.in-Refused.why r.0 c.in-Refused.left r.1 r.2 c.if-left-eq0.false c.if-left-gt1.false)
