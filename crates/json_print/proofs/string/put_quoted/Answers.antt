use Rattle.std.proofs.Common.{◌≡◌, ◌<◌, ◌+◌, [], ◌∷◌, ◌++◌, refl, length, get_or, rules, arith}
use Rattle.std.specs.Prelude.{string_bytes}
use Rattle.json_print.specs.Escapes.{NeedsEscape, ArePlain}
use Rattle.json_print.proofs.Runs.{begins, escapes, runs_on}
use Rattle.json_print.proofs.string.put_quoted.Goals as goal

pub loop-end-init : goal.loop-end-init
loop-end-init c =
    let same : c.as_bytes-bytes.result.now ≡ c.args.text.now = search rules in
    (runs_on _ _ _ 0 0 _ (omega arith) (search rules) (search rules) (begins _ _ _ c.utf8.text (search rules)), search rules, search rules)

pub loop-end-preserved : goal.loop-end-preserved
loop-end-preserved c =
    let inside : c.loop-end.end < length c.args.text.now = search rules in
    let needs : NeedsEscape (get_or c.args.text.now c.loop-end.end 0) = c.loop-end.invariant.2 inside in
    let plain : ArePlain c.args.text.now (c.loop-end.end + 1) c.plain_end-end-in-loop-end.result = search rules in (
      runs_on _ _ _ _ _ _ c.plain_end-end-in-loop-end.ensures.order (search rules) plain
          (escapes (string_bytes c.loop-end.out) (string_bytes c.push_str.new.self) (string_bytes c.put_escape.new.out) (string_bytes c.args.out.now ++ (34 ∷ [])) _ c.loop-end.run c.loop-end.end _ c.utf8.text inside refl needs (search rules) (search rules) c.loop-end.invariant.0),
      search rules,
      search rules,
    )
