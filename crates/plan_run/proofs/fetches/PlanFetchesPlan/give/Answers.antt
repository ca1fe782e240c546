use Rattle.std.proofs.Common.{◌≡◌, List, [], ◌∷◌, ◌++◌, ap, sym, ◌∙◌, subst, length}
use Rattle.json_value.specs.declared.tree.Json.{Json}
use Rattle.plan_exec.specs.declared.tasks.Done.{Done}
use Rattle.plan_exec.specs.Order.{giving_more}
use Rattle.plan_exec.specs.Giving.{CanTake, fetches_left}
use Rattle.plan_run.specs.Plans.{IsOf}
use Rattle.plan_run.specs.Fetches.{Execution, IsRunSound, progress_of, next_of}
use Rattle.plan_run.proofs.Firsts.{next_first, can_take, sound_more, sound_after, fewer_after}
use Rattle.plan_run.proofs.fetches.PlanFetchesPlan.give.Goals as goal

pub give-requires : goal.give-requires
give-requires c =
    let f = c.self.inside in
    let pieces = c.args.pieces.items in
    let results : c.push.new.self.items ≡ record { fetch = c.args.fetch; pieces = pieces } ∷ [] =
    c.in_ok-push.ensures.items ∙ ap (λ (ds : List Done). ds ++ (record { fetch = c.args.fetch; pieces = c.from_vec.result } ∷ [])) c.in_ok-results.ensures.items
    ∙ ap (λ (p : List Json). record { fetch = c.args.fetch; pieces = p } ∷ []) c.from_vec.ensures in
    let is : IsOf (next_of c.args.self.now.plan c.args.self.now.subgraphs c.args.self.now.variables c.args.self.now.given) c.args.fetch (length pieces) = c.requires in
    let first = next_first f.plan.now f.subgraphs.now f.variables.now f.machine c.args.fetch pieces c.self.invariant.at
    (subst (λ (e : Execution). IsOf (next_of e.plan e.subgraphs e.variables e.given) c.args.fetch (length pieces)) (sym c.self.view_is) is) in
    subst (CanTake f.machine) (sym results) (can_take f.machine c.args.fetch pieces first)

pub invariant_of-self : goal.invariant_of-self
invariant_of-self c =
    let f = c.self.inside in
    let pieces = c.args.pieces.items in
    let results : c.push.new.self.items ≡ record { fetch = c.args.fetch; pieces = pieces } ∷ [] =
    c.in_ok-push.ensures.items ∙ ap (λ (ds : List Done). ds ++ (record { fetch = c.args.fetch; pieces = c.from_vec.result } ∷ [])) c.in_ok-results.ensures.items
    ∙ ap (λ (p : List Json). record { fetch = c.args.fetch; pieces = p } ∷ []) c.from_vec.ensures in
    let is : IsOf (next_of c.args.self.now.plan c.args.self.now.subgraphs c.args.self.now.variables c.args.self.now.given) c.args.fetch (length pieces) = c.requires in
    let first = next_first f.plan.now f.subgraphs.now f.variables.now f.machine c.args.fetch pieces c.self.invariant.at
    (subst (λ (e : Execution). IsOf (next_of e.plan e.subgraphs e.variables e.given) c.args.fetch (length pieces)) (sym c.self.view_is) is) in
    let more : IsRunSound f.plan.now f.subgraphs.now (giving_more f.machine c.push.new.self.items) =
    subst (λ (ds : List Done). IsRunSound f.plan.now f.subgraphs.now (giving_more f.machine ds)) (sym results) (sound_more f.plan.now f.subgraphs.now f.machine c.args.fetch pieces c.self.invariant first) in
    sound_after f.plan.now f.subgraphs.now f.machine c.give.new.self c.push.new.self.items c.give.result c.give.ensures.ok c.give.ensures.err c.self.invariant more

pub returns-clause-fewer : goal.returns-clause-fewer
returns-clause-fewer c =
    let f = c.self.inside in
    let left : fetches_left f.machine ≡ fetches_left (progress_of c.args.self.now.plan c.args.self.now.given) =
    ap fetches_left c.self.invariant.at ∙ ap (λ (e : Execution). fetches_left (progress_of e.plan e.given)) c.self.view_is in
    fewer_after f.plan.now f.machine c.give.new.self (fetches_left (progress_of c.args.self.now.plan c.args.self.now.given)) c.give.result (invariant_of-self c).at left c.give.ensures.fewer
