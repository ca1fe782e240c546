use Rattle.std.proofs.Common.{◌≤◌, map, length, refl, sym, subst, ◌∙◌, arith, inl, inr}
use Rattle.gql_schema.specs.Words.{marked}
use Rattle.gql_schema.specs.Reading.{all}
use Rattle.gql_schema.specs.Faults.{StopsAt}
use Rattle.gql_schema.specs.Judging.{IsReading}
use Rattle.gql_schema.proofs.Explained.{left_within, text_is, settled_ended, settled_refused}
use Rattle.gql_schema.proofs.judging.of_settled.Goals as goal

pub returns-in-Read : goal.returns-in-Read
returns-in-Read c =
    let r = subst (IsReading (all (map marked c.args.tokens.items))) c.in-Read.is c.requires.reading in
    text_is c.args.text.now c.args.tokens.items c.requires.lexes c.in-Read.parts r.0 r.1

pub returns-then-left-eq0 : goal.returns-then-left-eq0
returns-then-left-eq0 c =
    let r = subst (IsReading (all (map marked c.args.tokens.items))) c.in-Refused.is c.requires.reading in
    inl (settled_ended c.args.text.now c.args.tokens.items c.requires.lexes c.requires.settled r.0 r.1 r.2 (sym r.3 ∙ c.if-left-eq0.true), refl)

pub place_of-requires : goal.place_of-requires
place_of-requires c =
    let r = subst (IsReading (all (map marked c.args.tokens.items))) c.in-Refused.is c.requires.reading in
    let le : length r.1 ≤ length c.args.tokens.items = left_within c.args.tokens.items r.0 r.1 r.2 in
    (omega (arith, r.3), omega (arith, r.3, c.requires.counted, c.if-left-eq0.false))

pub returns : goal.returns
returns c =
    let r = subst (IsReading (all (map marked c.args.tokens.items))) c.in-Refused.is c.requires.reading in
    inr (subst (StopsAt c.args.text.now) (sym c.place_of.ensures)
    (settled_refused c.args.text.now c.args.tokens.items c.requires.lexes c.requires.settled c.args.places.items r.0 r.1 c.in-Refused.left c.requires.placed r.2 r.3 c.if-left-eq0.false))
