use Rattle.std.proofs.Common.{◌≡◌, ℕ, ◌≤◌, ◌<◌, ◌-◌, List, length, refl, sym, subst, ◌∙◌, arith}
use Rattle.std.specs.Prelude.{slice_index}
use Rattle.gql_terms.specs.Grammar.{strict}
use Rattle.gql_parser.specs.Reading.{all}
use Rattle.gql_parser.specs.Faults.{Explains, placed}
use Rattle.gql_parser.proofs.Explained.{text_is}
use Rattle.gql_syntax.specs.Readings.{IsReading}
use Rattle.gql_syntax.proofs.Judgements.{left_within, ended_between, refused_between}
use Rattle.gql_syntax.proofs.judging.of_settled.Goals as goal

pub returns-in-Read : goal.returns-in-Read
returns-in-Read c =
    let r = subst (IsReading (all strict c.args.tokens.items)) c.in-Read.is c.requires.reading in
    text_is c.args.text.now c.args.tokens.items c.requires.lexed.ends.0 c.in-Read.document r.0 r.1

pub returns-then-left-eq0 : goal.returns-then-left-eq0
returns-then-left-eq0 c =
    let r = subst (IsReading (all strict c.args.tokens.items)) c.in-Refused.is c.requires.reading in
    ended_between c.args.text.now c.args.tokens.items c.args.places.items c.requires.lexed.ends.0 c.requires.lexed.ends.1 c.in-Refused.why r.0 r.1 (sym r.2 ∙ c.if-left-eq0.true)

pub place_of-place-requires : goal.place_of-place-requires
place_of-place-requires c =
    let r = subst (IsReading (all strict c.args.tokens.items)) c.in-Refused.is c.requires.reading in
    let le : length r.0 ≤ length c.args.tokens.items = left_within c.args.tokens.items c.in-Refused.why r.0 r.1 in
    (omega (arith, r.2), omega (arith, r.2, c.requires.lexed.counted, c.if-left-eq0.false))

pub returns : goal.returns
returns c =
    let r = subst (IsReading (all strict c.args.tokens.items)) c.in-Refused.is c.requires.reading in
    subst (Explains c.args.text.now) (sym c.placed.ensures) (subst (λ (q : ℕ). Explains c.args.text.now (placed c.in-Refused.why q)) (sym c.place_of-place.ensures)
    (refused_between c.args.text.now c.args.tokens.items c.args.places.items c.requires.lexed.ends.0 c.requires.lexed.ends.1 c.in-Refused.why r.0 c.in-Refused.left r.1 c.requires.lexed.placed r.2 c.if-left-eq0.false))
