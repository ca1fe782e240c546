use Rattle.std.proofs.Common.{rules, ◌≡◌, sym, ap, ◌∙◌, None, Some, [], arith, List}
use Rattle.json_value.specs.declared.tree.Json.{Json}
use Rattle.json_value.specs.declared.tree.Json.TheVariants as json
use Rattle.merge_paths.specs.Merge.{merge}
use Rattle.merge_paths.proofs.Equations.{merge-null}
use Rattle.plan_exec.specs.Exec.{pieces_of, root_piece}
use Rattle.plan_exec.proofs.Ends.{short_list}
use Rattle.plan_exec.proofs.leaves.run_root.Goals as goal

pub returns-in_default-clause-value : goal.returns-in_default-clause-value
returns-in_default-clause-value c = sym (ap (λ o. merge c.args.start (root_piece o)) c.in_default.ensures ∙ merge-null c.args.start)

pub returns-in-empty-clause-value : goal.returns-in-empty-clause-value
returns-in-empty-clause-value c =
    let none : c.in-Some.done.now.pieces ≡ [] = sym c.as_slice.ensures ∙ short_list c.as_slice.result.now (omega (arith, c.in-empty.len_below)) in
    sym (ap (λ o. merge c.args.start (root_piece o)) c.in-Some.ensures ∙ ap (λ (ps : List Json). merge c.args.start (root_piece (Some ps))) none ∙ merge-null c.args.start)
