use Rattle.std.proofs.Common.{arith, subst, List, ℕ, ◌≡◌, false}
use Rattle.http_wire.specs.EmptyLine.{ends_empty_line}
use Rattle.std.proofs.lemmas.Grind.{common_steps}
use Rattle.http_wire.proofs.Carrying.{used_so_far, still_none, more_kept, none_joined}
use Rattle.http_wire.proofs.gather.gather_head.Goals as goal

pub pieces-preserved : goal.pieces-preserved
pieces-preserved g c =
    let more = c.in-Ok.ensures.fills in
    let grown = more_kept c.args.kept.now _ _ (g.S.Source.left c.args.source.now) _ _ _ more in
    record {
      used = used_so_far _ _ _ _ _ _ _ c.pieces.invariant.used more;
      later = grind (arith, common_steps);
      seen = grind (arith, common_steps);
      most = grind (arith, common_steps);
      none = still_none _ _ more.given _ more.whole (grind (arith, common_steps)) (none_joined _ _ _ c.pieces.invariant.none (λ at low high. subst (λ (bytes : List ℕ). ends_empty_line bytes at ≡ false) c.as_slice.ensures (c.in_default.ensures.found at low (grind (arith, common_steps)))));
    }
