use Rattle.std.proofs.Common.{◌≡◌, ℕ, ◌+◌, ◌<◌, ◌≤◌, length, get_or, rules, arith}
use Rattle.std.proofs.Math.Facts.{Fits-lt-pow}
use Rattle.gql_lexer.proofs.Turns.{so_far_start, turn_ignored, part_bound, part_lexeme, part_some, turn_found, part_within, end_lexeme, end_lexed, bad_lexed, lexed_settled}
use Rattle.gql_lexer.proofs.lexing.lex.Goals as goal

pub loop-at-init : goal.loop-at-init
loop-at-init c = so_far_start c.args.text.now c.utf8.text _ _ c.new-tokens.ensures.items c.new-places.ensures.items

pub loop-at-preserved-in-Ignored : goal.loop-at-preserved-in-Ignored
loop-at-preserved-in-Ignored c =
    let lt : c.loop-at.at < length c.args.text.now = omega arith in
    turn_ignored c.args.text.now c.utf8.text _ _ c.loop-at.at c.loop-at.invariant lt _ c.rest_from-rest.ensures _ c.in-Ignored.ensures

pub part-requires : goal.part-requires
part-requires c =
    let lt : c.loop-at.at < length c.args.text.now = omega arith in
    part_bound c.args.text.now c.utf8.text _ _ c.loop-at.at c.loop-at.invariant lt _ c.rest_from-rest.ensures _ _ c.in-Found.ensures (Fits-lt-pow (c.type_inv.text c.loop-at.at))

pub token_of-requires : goal.token_of-requires
token_of-requires c =
    let lt : c.loop-at.at < length c.args.text.now = omega arith in
    part_lexeme c.args.text.now c.utf8.text _ _ c.loop-at.at c.loop-at.invariant lt _ c.rest_from-rest.ensures _ _ c.in-Found.ensures _ c.part.ensures

pub overflow_add-at-in-Found : goal.overflow_add-at-in-Found
overflow_add-at-in-Found c =
    let lt : c.loop-at.at < length c.args.text.now = omega arith in
    let le : c.loop-at.at + c.in-Found.length ≤ length c.args.text.now = part_within c.args.text.now c.utf8.text _ _ c.loop-at.at c.loop-at.invariant lt _ c.rest_from-rest.ensures _ _ c.in-Found.ensures (Fits-lt-pow (c.type_inv.text c.loop-at.at)) in
    search rules

pub loop-at-smaller : goal.loop-at-smaller
loop-at-smaller c =
    let lt : c.loop-at.at < length c.args.text.now = omega arith in
    let some : 0 < c.in-Found.length = part_some c.args.text.now c.utf8.text _ _ c.loop-at.at c.loop-at.invariant lt _ c.rest_from-rest.ensures _ _ c.in-Found.ensures in
    omega arith

pub loop-at-preserved : goal.loop-at-preserved
loop-at-preserved c =
    let lt : c.loop-at.at < length c.args.text.now = omega arith in
    turn_found c.args.text.now c.utf8.text _ _ c.loop-at.at c.loop-at.invariant lt _ c.rest_from-rest.ensures _ _ c.in-Found.ensures (Fits-lt-pow (c.type_inv.text c.loop-at.at)) _ _ _ _
    c.part.ensures c.token_of.ensures c.in_ok-add-in-Found.ensures.token c.in_ok-add-in-Found.ensures.place

pub end_within-requires : goal.end_within-requires
end_within-requires c =
    let lt : c.loop-at.at < length c.args.text.now = omega arith in
    end_lexeme c.args.text.now c.utf8.text _ _ c.loop-at.at c.loop-at.invariant lt _ c.rest_from-rest.ensures _ c.in-End.ensures

pub returns-in-End : goal.returns-in-End
returns-in-End c =
    let lt : c.loop-at.at < length c.args.text.now = omega arith in
    end_lexed c.args.text.now c.utf8.text _ _ c.loop-at.at c.loop-at.invariant lt _ c.rest_from-rest.ensures _ c.in-End.ensures _ c.in_ok-add_place-in-End.ensures _ _ _ c.in_ok-lexed-in-End.ensures

pub returns-in-Bad : goal.returns-in-Bad
returns-in-Bad c =
    let lt : c.loop-at.at < length c.args.text.now = omega arith in
    bad_lexed c.args.text.now c.utf8.text _ _ c.loop-at.at c.loop-at.invariant lt _ c.rest_from-rest.ensures c.in-Bad.ensures _ c.in_ok-add_place-in-Bad.ensures _ c.new.ensures.items

pub returns : goal.returns
returns c = let over : length c.args.text.now ≤ c.loop-at.at = omega arith in lexed_settled c.args.text.now _ _ c.loop-at.at c.loop-at.invariant over
