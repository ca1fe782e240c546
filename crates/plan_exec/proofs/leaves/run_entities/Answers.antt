use Rattle.std.proofs.Common.{rules, ◌≡◌, sym, ap, ◌∙◌, None, Some}
use Rattle.merge_paths.specs.Placing.{with_entities}
use Rattle.merge_paths.proofs.Progress.{without_entities}
use Rattle.representations.specs.Gather.{used_by}
use Rattle.plan_exec.specs.Exec.{pieces_of, entities, reps_for}
use Rattle.plan_exec.proofs.leaves.run_entities.Goals as goal

pub returns-in_default-clause-value : goal.returns-in_default-clause-value
returns-in_default-clause-value c = sym (ap (λ o. with_entities c.args.start (used_by (reps_for c.args.fetches.now c.args.start c.args.path.now c.args.fetch)) (entities o)) c.in_default.ensures ∙ without_entities c.args.start (used_by (reps_for c.args.fetches.now c.args.start c.args.path.now c.args.fetch)))
