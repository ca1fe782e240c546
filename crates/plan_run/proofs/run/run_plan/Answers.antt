use Rattle.std.proofs.Common.{◌≡◌, List, [], ◌∷◌, ◌++◌, refl, ap, sym, ◌∙◌, subst}
use Rattle.std.specs.Prelude.{Option, Some, length}
use Rattle.std.specs.Option.{option_copied}
use Rattle.json_value.specs.declared.tree.Json.{Json}
use Rattle.json_paths.specs.declared.path.Place.{Place}
use Rattle.piece_fetch.specs.declared.fetched.Lasts.{Lasts}
use Rattle.piece_fetch.proofs.Counting.{fetch_has_each}
use Rattle.piece_fetch.proofs.FetchParts.{any_err}
use Rattle.plan_run.specs.declared.outcome.Receipt.{Receipt}
use Rattle.plan_run.specs.declared.outcome.PieceError.{PieceError}
use Rattle.plan_run.specs.Plans.{Wanted, IsOf, wanted_of, shown}
use Rattle.plan_run.specs.Outcomes.{receipts_from, errors_from, errors_by, path_of}
use Rattle.plan_run.proofs.Running.{SoFar, has_begun, done_more, next_dropped, between_dropped}
use Rattle.plan_run.proofs.run.run_plan.Goals as goal

pub running-init : goal.running-init
running-init g c =
    let next = g.P.Plan.next c.args.plan.now in
    let given = g.P.Plan.given c.args.plan.now in
    let c0 = g.C.Cache.seen c.args.cache.now in
    let d = g.C.Cache.seen c.begin-epoch.new.self in
    let l = g.L.Line.line c.args.line.now in
    let log = g.T.Clock.log c.args.clock.now in
    let id = option_copied c.args.id in
    let begun : SoFar next given given id c.args.number c0 d l l log log [] [] [] = has_begun next given id c.args.number c0 d l log c.begin-epoch.result c.begin-epoch.ensures in
    record {
      so_far = subst (λ (rs : List Receipt). SoFar next given given id c.args.number c0 d l l log log rs c.new-2.result.items c.new-3.result.items) (sym c.new.ensures.items)
          (subst (λ (ls : List (Option Lasts)). SoFar next given given id c.args.number c0 d l l log log [] ls c.new-3.result.items) (sym c.new-2.ensures.items)
          (subst (λ (es : List PieceError). SoFar next given given id c.args.number c0 d l l log log [] [] es) (sym c.new-3.ensures.items) begun));
      same_next = refl;
      same_value = refl;
    }

pub returns-in_err-task-clause-err : goal.returns-in_err-task-clause-err
returns-in_err-task-clause-err g c =
    any_err c.from_residual.result _
    (between_dropped (g.P.Plan.next c.args.plan.now) (g.P.Plan.given c.args.plan.now) (g.P.Plan.given c.running.plan) (option_copied c.args.id) c.args.number (g.C.Cache.seen c.args.cache.now) (g.C.Cache.seen c.running.cache) (g.L.Line.line c.args.line.now) (g.L.Line.line c.running.line)
    (g.T.Clock.log c.args.clock.now) (g.T.Clock.log c.running.clock) c.running.outcome.receipts.items c.running.outcome.lasts.items c.running.outcome.errors.items c.running.invariant.so_far)

pub returns-in_err-fetched-clause-err : goal.returns-in_err-fetched-clause-err
returns-in_err-fetched-clause-err g c =
    let next = g.P.Plan.next c.args.plan.now in
    let given = g.P.Plan.given c.args.plan.now in
    let now = g.P.Plan.given c.running.plan in
    let t : Wanted = shown c.in-Some.task in
    let same : g.P.Plan.next c.running.plan now ≡ next now = ap (λ (f : List (List Json) → Option Wanted). f now) c.running.invariant.same_next in
    let is : next now ≡ Some t = sym same ∙ sym c.in_ok-task.ensures.next ∙ ap wanted_of c.in-Some.is in
    any_err c.from_residual-in_err-fetched.result _
    (next_dropped next given now t (option_copied c.args.id) c.args.number (g.C.Cache.seen c.args.cache.now) (g.C.Cache.seen c.running.cache) (g.C.Cache.seen c.fetch_pieces.new.cache)
    (g.L.Line.line c.args.line.now) (g.L.Line.line c.running.line) (g.L.Line.line c.fetch_pieces.new.line) (g.T.Clock.log c.args.clock.now) (g.T.Clock.log c.running.clock) (g.T.Clock.log c.fetch_pieces.new.clock)
    c.running.outcome.receipts.items c.running.outcome.lasts.items c.running.outcome.errors.items c.running.invariant.so_far is c.in_err-fetched.ensures.err)

pub returns-in_err-pieces-clause-err : goal.returns-in_err-pieces-clause-err
returns-in_err-pieces-clause-err g c =
    let next = g.P.Plan.next c.args.plan.now in
    let given = g.P.Plan.given c.args.plan.now in
    let now = g.P.Plan.given c.running.plan in
    let t : Wanted = shown c.in-Some.task in
    let c0 = g.C.Cache.seen c.args.cache.now in
    let d = g.C.Cache.seen c.running.cache in
    let e = g.C.Cache.seen c.fetch_pieces.new.cache in
    let l = g.L.Line.line c.args.line.now in
    let m = g.L.Line.line c.running.line in
    let n = g.L.Line.line c.fetch_pieces.new.line in
    let before = g.T.Clock.log c.args.clock.now in
    let mid = g.T.Clock.log c.running.clock in
    let after = g.T.Clock.log c.fetch_pieces.new.clock in
    let id = option_copied c.args.id in
    let rs = c.running.outcome.receipts.items in
    let ls = c.running.outcome.lasts.items in
    let es = c.running.outcome.errors.items in
    let same : g.P.Plan.next c.running.plan now ≡ next now = ap (λ (f : List (List Json) → Option Wanted). f now) c.running.invariant.same_next in
    let is : next now ≡ Some t = sym same ∙ sym c.in_ok-task.ensures.next ∙ ap wanted_of c.in-Some.is in
    let f = c.in_ok-fetched.fetched in
    any_err c.from_residual-in_err-pieces.result _
    (between_dropped next given (now ++ f.pieces.items ∷ []) id c.args.number c0 e l n before after (rs ++ receipts_from t.fetch 0 f.origins.items) (ls ++ f.lasts.items) (es ++ errors_by t f)
    (done_more next given now t id c.args.number c0 d e l m n before mid after rs ls es f c.running.invariant.so_far is c.in_ok-fetched.ensures.ok))

pub give-requires : goal.give-requires
give-requires g c =
    let now = g.P.Plan.given c.running.plan in
    let t : Wanted = shown c.in-Some.task in
    let is : g.P.Plan.next c.running.plan now ≡ Some t = sym c.in_ok-task.ensures.next ∙ ap wanted_of c.in-Some.is in
    let f = c.in_ok-fetched.fetched in
    let each = fetch_has_each t.ask t.keys (option_copied c.args.id) c.args.number (g.C.Cache.seen c.running.cache) (g.C.Cache.seen c.fetch_pieces.new.cache) (g.L.Line.line c.running.line) (g.L.Line.line c.fetch_pieces.new.line)
    (g.T.Clock.log c.running.clock) (g.T.Clock.log c.fetch_pieces.new.clock) f c.in_ok-fetched.ensures.ok in
    let count : length t.keys ≡ length f.pieces.items = sym each.pieces in
    subst (λ (o : Option Wanted). IsOf o t.fetch (length c.in_ok-pieces.pieces.items)) (sym is) (refl, count ∙ ap (λ (xs : List Json). length xs) (sym c.in_ok-pieces.ensures.pieces))

pub returns-in_err-give-clause-err : goal.returns-in_err-give-clause-err
returns-in_err-give-clause-err g c =
    let next = g.P.Plan.next c.args.plan.now in
    let given = g.P.Plan.given c.args.plan.now in
    let now = g.P.Plan.given c.running.plan in
    let t : Wanted = shown c.in-Some.task in
    let c0 = g.C.Cache.seen c.args.cache.now in
    let d = g.C.Cache.seen c.running.cache in
    let e = g.C.Cache.seen c.fetch_pieces.new.cache in
    let l = g.L.Line.line c.args.line.now in
    let m = g.L.Line.line c.running.line in
    let n = g.L.Line.line c.fetch_pieces.new.line in
    let before = g.T.Clock.log c.args.clock.now in
    let mid = g.T.Clock.log c.running.clock in
    let after = g.T.Clock.log c.fetch_pieces.new.clock in
    let id = option_copied c.args.id in
    let rs = c.running.outcome.receipts.items in
    let ls = c.running.outcome.lasts.items in
    let es = c.running.outcome.errors.items in
    let same : g.P.Plan.next c.running.plan now ≡ next now = ap (λ (f : List (List Json) → Option Wanted). f now) c.running.invariant.same_next in
    let is : next now ≡ Some t = sym same ∙ sym c.in_ok-task.ensures.next ∙ ap wanted_of c.in-Some.is in
    let f = c.in_ok-fetched.fetched in
    any_err c.from_residual-in_err-give.result _
    (between_dropped next given (now ++ f.pieces.items ∷ []) id c.args.number c0 e l n before after (rs ++ receipts_from t.fetch 0 f.origins.items) (ls ++ f.lasts.items) (es ++ errors_by t f)
    (done_more next given now t id c.args.number c0 d e l m n before mid after rs ls es f c.running.invariant.so_far is c.in_ok-fetched.ensures.ok))

pub running-preserved : goal.running-preserved
running-preserved g c =
    let next = g.P.Plan.next c.args.plan.now in
    let given = g.P.Plan.given c.args.plan.now in
    let now = g.P.Plan.given c.running.plan in
    let t : Wanted = shown c.in-Some.task in
    let c0 = g.C.Cache.seen c.args.cache.now in
    let d = g.C.Cache.seen c.running.cache in
    let e = g.C.Cache.seen c.fetch_pieces.new.cache in
    let l = g.L.Line.line c.args.line.now in
    let m = g.L.Line.line c.running.line in
    let n = g.L.Line.line c.fetch_pieces.new.line in
    let before = g.T.Clock.log c.args.clock.now in
    let mid = g.T.Clock.log c.running.clock in
    let after = g.T.Clock.log c.fetch_pieces.new.clock in
    let id = option_copied c.args.id in
    let rs = c.running.outcome.receipts.items in
    let ls = c.running.outcome.lasts.items in
    let es = c.running.outcome.errors.items in
    let same : g.P.Plan.next c.running.plan now ≡ next now = ap (λ (f : List (List Json) → Option Wanted). f now) c.running.invariant.same_next in
    let is : next now ≡ Some t = sym same ∙ sym c.in_ok-task.ensures.next ∙ ap wanted_of c.in-Some.is in
    let f = c.in_ok-fetched.fetched in
    let receipts = rs ++ receipts_from t.fetch 0 f.origins.items in
    let lasts = ls ++ f.lasts.items in
    let whole : SoFar next given (now ++ f.pieces.items ∷ []) id c.args.number c0 e l n before after receipts lasts (es ++ errors_by t f) =
    done_more next given now t id c.args.number c0 d e l m n before mid after rs ls es f c.running.invariant.so_far is c.in_ok-fetched.ensures.ok in
    let o = c.add.new.self in
    let told_errors : o.errors.items ≡ es ++ errors_by t f =
    c.in_ok-pieces.ensures.errors ∙ ap (λ (ps : List (List Place)). es ++ errors_from t.fetch t.ask.sub (path_of ps f.first_sent) f.causes.items) c.as_slice.ensures in
    let told : SoFar next given (now ++ f.pieces.items ∷ []) id c.args.number c0 e l n before after o.receipts.items o.lasts.items o.errors.items =
    subst (λ (x : List Receipt). SoFar next given (now ++ f.pieces.items ∷ []) id c.args.number c0 e l n before after x o.lasts.items o.errors.items) (sym c.in_ok-pieces.ensures.receipts)
    (subst (λ (x : List (Option Lasts)). SoFar next given (now ++ f.pieces.items ∷ []) id c.args.number c0 e l n before after receipts x o.errors.items) (sym c.in_ok-pieces.ensures.lasts)
    (subst (λ (x : List PieceError). SoFar next given (now ++ f.pieces.items ∷ []) id c.args.number c0 e l n before after receipts lasts x) (sym told_errors) whole)) in
    let given_is : g.P.Plan.given c.give.new.self ≡ now ++ f.pieces.items ∷ [] = c.in_ok-give.ensures.given ∙ ap (λ (xs : List Json). now ++ xs ∷ []) c.in_ok-pieces.ensures.pieces in
    record {
      so_far = subst (λ (x : List (List Json)). SoFar next given x id c.args.number c0 e l n before after o.receipts.items o.lasts.items o.errors.items) (sym given_is) told;
      same_next = c.in_ok-give.ensures.same_next ∙ c.running.invariant.same_next;
      same_value = c.in_ok-give.ensures.same_value ∙ c.running.invariant.same_value;
    }
