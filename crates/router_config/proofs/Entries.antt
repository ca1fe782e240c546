-- The faults of the entries from one on.
use Rattle.std.proofs.Common.{◌≡◌, ℕ, ◌+◌, ◌<◌, List, [], ◌∷◌, ◌++◌, refl, sym, ap, ◌∙◌, length, get_or, drop, add-one, drop-cons}
use Rattle.gql_types.specs.declared.definition.TypeDef.{TypeDef}
use Rattle.plan_book.specs.declared.book.Entry.{Entry}
use Rattle.router_config.specs.declared.config.SubRule.{SubRule}
use Rattle.router_config.specs.Faults.{entry_faults, faults_from}

pub front_is_nil : {X : Type 0} (xs ys : List X) → xs ++ ys ≡ [] → xs ≡ []
front_is_nil [] ys e = refl
front_is_nil (x ∷ xs) ys e = cc

pub rest_is_nil : {X : Type 0} (xs ys : List X) → xs ++ ys ≡ [] → ys ≡ []
rest_is_nil [] ys e = e
rest_is_nil (x ∷ xs) ys e = cc

-- the faults from entry i on are its own and then those from the next one on
pub faults-next : (rules : List SubRule) (schema : List TypeDef) (entries : List Entry) (i : ℕ) (entry : Entry) → i < length entries → entry ≡ get_or entries i entry →
    faults_from rules schema i (drop i entries) ≡ entry_faults rules schema i entry ++ faults_from rules schema (i + 1) (drop (i + 1) entries)
faults-next rules schema entries i entry below is =
    let split : drop i entries ≡ get_or entries i entry ∷ drop (i + 1) entries = rw (add-one, drop-cons entries i entry) refl in
    ap (faults_from rules schema i) (split ∙ ap (λ (e : Entry). e ∷ drop (i + 1) entries) (sym is))
