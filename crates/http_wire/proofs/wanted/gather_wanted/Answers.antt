use Rattle.std.proofs.Common.{◌≡◌, ◌≢◌, ◌≤◌, ◌+◌, ap, sym, length, arith}
use Rattle.http_wire.proofs.Carrying.{used_so_far, kept_count}
use Rattle.http_wire.proofs.Unique.{never_both}
use Rattle.http_wire.proofs.wanted.gather_wanted.Goals as goal

pub pieces-preserved : goal.pieces-preserved
pieces-preserved g c =
    let fills = c.in-Ok.ensures.fills in
    let count : length c.fill.new.self ≡ length c.pieces.kept + c.in-Ok.count = kept_count c.pieces.kept c.fill.new.self _ _ _ fills in
    let there : length c.as_slice-there.result.now ≡ length c.fill.new.self = ap length c.as_slice-there.ensures in
    let least : length c.args.kept.now ≤ length c.pieces.kept = c.pieces.invariant.grown in
    let begun : c.args.at ≤ length c.pieces.kept = c.pieces.invariant.begun in
    let later : g.S.Source.faults c.args.source.now ≤ g.S.Source.faults c.pieces.source = c.pieces.invariant.later in
    let then : g.S.Source.faults c.pieces.source ≤ g.S.Source.faults c.fill.new.source = c.in-Ok.ensures.later in
    record {
      used = used_so_far _ _ _ _ _ _ _ c.pieces.invariant.used fills;
      later = omega arith;
      seen = there;
      begun = omega arith;
      room = omega arith;
      grown = omega arith;
    }

pub returns-then-count-eq0-clause-gathers : goal.returns-then-count-eq0-clause-gathers
returns-then-count-eq0-clause-gathers g c =
    let fills = c.in-Ok.ensures.fills in
    let count : length c.fill.new.self ≡ length c.pieces.kept + c.in-Ok.count = kept_count c.pieces.kept c.fill.new.self _ _ _ fills in
    let least : length c.args.kept.now ≤ length c.pieces.kept = c.pieces.invariant.grown in
    (used_so_far _ _ _ _ _ _ _ c.pieces.invariant.used fills, omega arith, λ e. absurd (never_both e), λ e. fills.ended c.if-count-eq0.true)

pub returns-then-there-end-clause-gathers : goal.returns-then-there-end-clause-gathers
returns-then-there-end-clause-gathers g c =
    let fills = c.in-Ok.ensures.fills in
    let count : length c.fill.new.self ≡ length c.pieces.kept + c.in-Ok.count = kept_count c.pieces.kept c.fill.new.self _ _ _ fills in
    let least : length c.args.kept.now ≤ length c.pieces.kept = c.pieces.invariant.grown in
    let some : c.in-Ok.count ≢ 0 = c.if-count-eq0.false in
    (used_so_far _ _ _ _ _ _ _ c.pieces.invariant.used fills, omega arith, λ e. omega arith, λ e. absurd (never_both (sym e)))

pub returns-then-is_there-clause-gathers : goal.returns-then-is_there-clause-gathers
returns-then-is_there-clause-gathers g c =
    let fills = c.in-Ok.ensures.fills in
    let count : length c.fill.new.self ≡ length c.pieces.kept + c.in-Ok.count = kept_count c.pieces.kept c.fill.new.self _ _ _ fills in
    let least : length c.args.kept.now ≤ length c.pieces.kept = c.pieces.invariant.grown in
    let some : c.in-Ok.count ≢ 0 = c.if-count-eq0.false in
    (used_so_far _ _ _ _ _ _ _ c.pieces.invariant.used fills, omega arith, λ e. omega arith, λ e. absurd (never_both (sym e)))
