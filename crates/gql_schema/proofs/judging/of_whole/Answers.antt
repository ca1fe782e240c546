use Rattle.std.proofs.Common.{◌≤◌, map, length, refl, sym, subst, ◌∙◌, arith, inl, inr}
use Rattle.gql_schema.specs.Words.{marked}
use Rattle.gql_schema.specs.Reading.{all}
use Rattle.gql_schema.specs.Faults.{StopsAt}
use Rattle.gql_schema.specs.Judging.{IsReading}
use Rattle.gql_schema.proofs.Explained.{left_within, text_is, whole_ended, whole_earlier, refused_last_is}
use Rattle.gql_schema.proofs.judging.of_whole.Goals as goal

pub returns-in-Read : goal.returns-in-Read
returns-in-Read c =
    let r = subst (IsReading (all (map marked c.args.tokens.items))) c.in-Read.is c.requires.reading in
    text_is c.args.text.now c.args.tokens.items c.requires.lexed.ends.lexes c.in-Read.parts r.0 r.1

pub returns-then-left-eq0 : goal.returns-then-left-eq0
returns-then-left-eq0 c =
    let r = subst (IsReading (all (map marked c.args.tokens.items))) c.in-Refused.is c.requires.reading in
    inl (whole_ended c.args.text.now c.args.tokens.items c.requires.lexed.kinds c.requires.lexed.ends c.args.places.items c.requires.lexed.placed r.0 r.1 r.2 (sym r.3 ∙ c.if-left-eq0.true), refl)

pub place_of-place-requires : goal.place_of-place-requires
place_of-place-requires c =
    let r = subst (IsReading (all (map marked c.args.tokens.items))) c.in-Refused.is c.requires.reading in
    let le : length r.1 ≤ length c.args.tokens.items = left_within c.args.tokens.items r.0 r.1 r.2 in
    (omega (arith, r.3), omega (arith, r.3, c.requires.lexed.counted, c.if-left-eq0.false))

pub returns-then-left-gt1 : goal.returns-then-left-gt1
returns-then-left-gt1 c =
    let r = subst (IsReading (all (map marked c.args.tokens.items))) c.in-Refused.is c.requires.reading in
    inr (subst (StopsAt c.args.text.now) (sym c.place_of-place.ensures) (whole_earlier c.args.text.now c.args.tokens.items c.requires.lexed.kinds c.requires.lexed.ends c.args.places.items c.requires.lexed.placed r.0 r.1 c.in-Refused.left r.2 r.3 c.if-left-gt1.true))

pub refused_last-requires : goal.refused_last-requires
refused_last-requires c =
    let r = subst (IsReading (all (map marked c.args.tokens.items))) c.in-Refused.is c.requires.reading in
    refused_last_is c.args.text.now c.args.tokens.items c.args.places.items c.requires.lexed r.0 r.1 c.in-Refused.left c.place_of-place.result r.2 r.3 c.if-left-eq0.false c.if-left-gt1.false c.place_of-place.ensures
