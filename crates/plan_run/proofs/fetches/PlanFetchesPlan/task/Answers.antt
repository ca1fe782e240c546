use Rattle.std.proofs.Common.{◌≡◌, ℕ, Bool, List, None, Some, ap, ◌∙◌}
use Rattle.std.specs.Prelude.{slice_get}
use Rattle.plan_tree.specs.declared.plan.Fetch.{Fetch}
use Rattle.plan_run.specs.Plans.{Wanted, shown}
use Rattle.plan_run.specs.Fetches.{wanted_by}
use Rattle.plan_run.proofs.Firsts.{none-first, some-first, no-fetch, no-subgraph, one-wanted, wanted_same, next-run}
use Rattle.plan_run.proofs.fetches.PlanFetchesPlan.task.Goals as goal

pub returns-in_default-clause-next : goal.returns-in_default-clause-next
returns-in_default-clause-next c =
    let f = c.self.inside in
    let tasks = c.in_ok-asks.field-0.items in
    next-run f.plan.now f.subgraphs.now f.variables.now f.machine tasks c.args.self.now None c.self.invariant c.self.view_is c.in_ok-asks.ensures.tasks
    (none-first f.plan.now.fetches f.subgraphs.now f.variables.now tasks c.in_default.ensures)

pub returns-in_default-at-clause-next : goal.returns-in_default-at-clause-next
returns-in_default-at-clause-next c =
    let f = c.self.inside in
    let tasks = c.in_ok-asks.field-0.items in
    let task = c.in-Some.task in
    let none : None ≡ slice_get f.plan.now.fetches task.fetch = c.in_default-at.ensures ∙ ap (λ (fetches : List Fetch). slice_get fetches task.fetch) c.as_slice.ensures in
    next-run f.plan.now f.subgraphs.now f.variables.now f.machine tasks c.args.self.now None c.self.invariant c.self.view_is c.in_ok-asks.ensures.tasks
    (some-first f.plan.now.fetches f.subgraphs.now f.variables.now tasks task c.in-Some.ensures ∙ no-fetch f.plan.now.fetches f.subgraphs.now f.variables.now task none)

pub returns-in_default-find-clause-next : goal.returns-in_default-find-clause-next
returns-in_default-find-clause-next c =
    let f = c.self.inside in
    let tasks = c.in_ok-asks.field-0.items in
    let task = c.in-Some.task in
    let fetch = c.in-Some-at.fetch.now in
    let one : Some fetch ≡ slice_get f.plan.now.fetches task.fetch = c.in-Some-at.ensures ∙ ap (λ (fetches : List Fetch). slice_get fetches task.fetch) c.as_slice.ensures in
    next-run f.plan.now f.subgraphs.now f.variables.now f.machine tasks c.args.self.now None c.self.invariant c.self.view_is c.in_ok-asks.ensures.tasks
    (some-first f.plan.now.fetches f.subgraphs.now f.variables.now tasks task c.in-Some.ensures ∙ no-subgraph f.plan.now.fetches f.subgraphs.now f.variables.now task fetch one c.in_default-find.ensures)

pub returns-clause-next : goal.returns-clause-next
returns-clause-next c =
    let f = c.self.inside in
    let tasks = c.in_ok-asks.field-0.items in
    let task = c.in-Some.task in
    let fetch = c.in-Some-at.fetch.now in
    let one : Some fetch ≡ slice_get f.plan.now.fetches task.fetch = c.in-Some-at.ensures ∙ ap (λ (fetches : List Fetch). slice_get fetches task.fetch) c.as_slice.ensures in
    let found : ℕ × Bool = (c.in-Some-find.sub, c.in-Some-find.uncached) in
    let wanted : Wanted = shown (record { fetch = task.fetch; ask = c.in_ok-ask.ask; keys = c.in_ok-ask.keys; places = c.places_of.result }) in
    let same : wanted_by f.variables.now task fetch found ≡ wanted =
    wanted_same f.variables.now task fetch found c.in_ok-ask.ask c.in_ok-ask.keys.items c.places_of.result c.in_ok-ask.ensures.ask c.in_ok-ask.ensures.keys c.places_of.ensures in
    next-run f.plan.now f.subgraphs.now f.variables.now f.machine tasks c.args.self.now (Some wanted) c.self.invariant c.self.view_is c.in_ok-asks.ensures.tasks
    (some-first f.plan.now.fetches f.subgraphs.now f.variables.now tasks task c.in-Some.ensures
    ∙ one-wanted f.plan.now.fetches f.subgraphs.now f.variables.now task fetch found one c.in-Some-find.ensures ∙ ap (λ (w : Wanted). Some w) same)
