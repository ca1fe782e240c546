use Rattle.std.proofs.Common.{◌≡◌, ◌<◌, ◌+◌, ℕ, List, ◌∷◌, ◌++◌, length, drop, sym, ap, subst, add-one, drop-cons, suc}
use Rattle.cache_terms.specs.declared.keys.Key.{Key}
use Rattle.cache_terms.specs.declared.events.Mark.{Mark}
use Rattle.cache_book.specs.Permits.{Granted}
use Rattle.line_base.specs.Lines.{PermitName, names_of, name_of}
use Rattle.line_base.specs.Told.{names_told}
use Rattle.line_base.proofs.Scripts.{naming}
use Rattle.line_base.proofs.script.copy_names.Goals as goal

pub naming-preserved : goal.naming-preserved
naming-preserved c =
    let p = c.permit-item.result in
    let ps = c.args.permits.now in
    let i = c.naming.permit-index in
    let less : i < length ps = c.naming-test.true in
    let split : drop i ps ≡ p ∷ drop (i + 1) ps = rw (add-one, drop-cons ps i p) (ap (λ (x : Granted). x ∷ drop (suc i) ps) (sym c.permit-item.is)) in
    let is : ◌≡◌ {A = PermitName} (record { epoch = c.epoch.result; mark = c.mark.result.now; key = c.in_ok-copy.field-0 }) (name_of p) = cc (c.epoch.ensures, c.mark.ensures, c.key.ensures, c.in_ok-copy.ensures) in
    let pushed = c.in_ok-push.ensures.items in
    subst (λ (ns : List (ℕ × Mark × Key)). names_told ns ++ names_of (drop (i + 1) ps) ≡ names_of ps) (sym pushed)
    (naming c.naming.names.items (c.epoch.result, c.mark.result.now, c.in_ok-copy.field-0) p (drop (i + 1) ps) (drop i ps) ps split is c.naming.invariant)
