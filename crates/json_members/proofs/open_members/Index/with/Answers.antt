use Rattle.std.proofs.Common.{◌≡◌, List, ℕ, nat_cmp, subst, ap, ◌∙◌}
use Rattle.std.specs.BTreeSet.{BTreeSet, contains}
use Rattle.std.specs.Cmp.Lexicographic.{slice_cmp}
use Rattle.std.proofs.lemmas.Result.{IfOk-weaker}
use Rattle.json_value.specs.Grammar.{has}
use Rattle.json_members.specs.declared.open_members.Index.{Index}
use Rattle.json_members.specs.Covers.{IndexesNames}
use Rattle.json_members.proofs.Names.{name_put}
use Rattle.json_members.proofs.open_members.Index.with.Goals as goal

pub returns-in_ok-names-in-ByName : goal.returns-in_ok-names-in-ByName
returns-in_ok-names-in-ByName c =
    let covers = subst (λ (index : Index). IndexesNames index (has c.args.members.now)) c.in-ByName.is c.requires in
    let same : (k : List ℕ) → contains (slice_cmp nat_cmp) c.into_inner.result k ≡ has c.args.members.now k =
    λ k. ap (λ (s : BTreeSet (List ℕ)). contains (slice_cmp nat_cmp) s k) c.into_inner.ensures ∙ covers k in
    IfOk-weaker c.of_names.result _ _ (λ index covered. covered _ (name_put c.into_inner.result c.in_ok-names-in-ByName.names c.args.name.now c.args.members.now same c.in_ok-names-in-ByName.ensures)) c.of_names.ensures
