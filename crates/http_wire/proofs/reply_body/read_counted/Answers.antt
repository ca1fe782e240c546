use Rattle.std.proofs.Common.{◌≡◌, ◌∙◌, sym, ap, ◌+◌, ◌-◌, ◌≤◌, ◌++◌, length, drop, slice_range, arith}
use Rattle.std.proofs.lemmas.Grind.{common_steps}
use Rattle.std.proofs.lemmas.List.{length-drop}
use Rattle.std.proofs.lemmas.List.Folds.{drop_split}
use Rattle.http_wire.proofs.reply_body.read_counted.Goals as goal

pub returns-in-Ok-of-clause-body : goal.returns-in-Ok-of-clause-body
returns-in-Ok-of-clause-body g c =
    let now = c.gather_to.new.kept in
    let whole = c.args.head + c.args.count in
    let fits : whole ≤ length now = c.in-Ok.ensures.gathers.1 in
    let body : c.in-Ok-of.body ≡ slice_range now c.args.head whole = c.in-Ok-of.ensures ∙ ap (λ v. slice_range v c.args.head whole) c.as_slice.ensures in
    let size : length (slice_range now c.args.head whole) ≡ c.args.count = grind (arith, common_steps) in
    let all : length (drop c.args.head now) ≡ length now - c.args.head = length-drop c.args.head now in
    let left : length (drop whole now) ≡ length now - whole = length-drop whole now in (
      c.in-Ok.ensures.gathers.0,
      record {
        rest = drop whole now;
        reads = (drop_split now c.args.head whole (omega arith) ∙ ap (λ b. b ++ drop whole now) (sym body), ap length body ∙ size);
        within = omega arith;
        ended = tt;
      },
    )
