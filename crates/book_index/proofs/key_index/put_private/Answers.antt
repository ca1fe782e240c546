use Rattle.std.proofs.Common.{◌≡◌, ℕ, List, refl, subst, Some, IsSome}
use Rattle.std.specs.BTreeMap as tree
use Rattle.book_index.specs.Positions.{text_cmp, SetsText}
use Rattle.book_index.proofs.Sets.{sets_text}
use Rattle.book_index.proofs.key_index.put_private.Goals as goal

pub returns-in-Some-clause-put : goal.returns-in-Some-clause-put
returns-in-Some-clause-put c = sets_text _ _ c.args.id.now (Some c.args.position) ((c.get_mut.follows.holds c.args.position).3 (subst IsSome c.in-Some.ensures.value refl))

pub returns-clause-put : goal.returns-clause-put
returns-clause-put c =
    let kept : c.get_mut.follows.lender-at-none ≡ c.args.positions.now = c.get_mut.follows.holds-at-none in
    subst (λ (m : tree.BTreeMap (List ℕ) ℕ). SetsText m c.insert.new.self c.args.id.now (Some c.args.position)) kept (sets_text c.get_mut.follows.lender-at-none c.insert.new.self c.args.id.now (Some c.args.position) (subst (λ (k : List ℕ). tree.Updates text_cmp c.get_mut.follows.lender-at-none c.insert.new.self k (Some c.args.position)) c.in_ok-copy.ensures c.in-Ok.ensures.updates))
