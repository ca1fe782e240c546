-- Where nothing is wrong the parts fit one another.
use Rattle.std.proofs.Common.{◌≡◌, ℕ, ◌+◌, suc, Bool, true, false, not, List, [], ◌∷◌, ◌⊎◌, inl, inr, refl, arith, get_or}
use Rattle.std.specs.Prelude.{map, filter, All, Contains}
use Rattle.std.specs.Str.{bytes_eq}
use Rattle.std.proofs.lemmas.List.Elements.{All-nil, All-cons}
use Rattle.std.proofs.lemmas.Slice.Eq.{bytes_eq-Decides}
use Rattle.gql_types.specs.declared.definition.TypeDef.{TypeDef}
use Rattle.plan_book.specs.declared.book.Entry.{Entry}
use Rattle.router_config.specs.declared.config.SubRule.{SubRule}
use Rattle.router_config.specs.Inputs.{is_input}
use Rattle.router_config.specs.Rules.{names, is_ruled}
use Rattle.router_config.specs.Faults.{unruled, not_inputs, subs_of, types_of, unknown_subgraph, unknown_type, entry_faults, faults_from}
use Rattle.router_config.specs.Lawful.{EntryFits, EntriesFit}
use Rattle.router_config.proofs.Entries.{front_is_nil, rest_is_nil}

pub either : (b : Bool) → (b ≡ true) ⊎ (b ≡ false)
either true = inl refl
either false = inr refl

map-nil : {X Y : Type 0} (f : X → Y) (xs : List X) → map f xs ≡ [] → xs ≡ []
map-nil f [] e = refl
map-nil f (x ∷ xs) e = cc

-- where no element fails the test each passes it
all_pass : {X : Type 0} (p : X → Bool) (xs : List X) → filter (λ x. not (p x)) xs ≡ [] → All (λ x. p x ≡ true) xs
all_pass p [] e = All-nil (λ x. p x ≡ true)
all_pass p (x ∷ xs) e = by_test (either (p x)) (λ rest. all_pass p xs rest)
  where
    by_test : (p x ≡ true) ⊎ (p x ≡ false) → (filter (λ y. not (p y)) xs ≡ [] → All (λ y. p y ≡ true) xs) → All (λ y. p y ≡ true) (x ∷ xs)
    by_test (inl h) onward = All-cons (λ y. p y ≡ true) x xs h (onward (rw h at e))
    by_test (inr h) onward = let more : (x ∷ filter (λ y. not (p y)) xs) ≡ [] = rw h at e in cc

Contains-next : {X : Type 0} (y : X) (xs : List X) (x : X) → Contains xs x → Contains (y ∷ xs) x
Contains-next y xs x (k, below, is) = (suc k, omega arith, is)

-- a rule with the name is among them
pub ruled : (rules : List SubRule) (name : List ℕ) → is_ruled rules name ≡ true → Contains (names rules) name
ruled [] name e = cc
ruled (rule ∷ rules) name e = by_name (either (bytes_eq rule.name name)) (λ later. ruled rules name later)
  where
    by_name : (bytes_eq rule.name name ≡ true) ⊎ (bytes_eq rule.name name ≡ false) → (is_ruled rules name ≡ true → Contains (names rules) name) → Contains (names (rule ∷ rules)) name
    by_name (inl h) onward = (0, omega arith, (bytes_eq-Decides rule.name name).0 h)
    by_name (inr h) onward = Contains-next rule.name (names rules) name (onward (rw h at e))

All-ruled : (rules : List SubRule) (ns : List (List ℕ)) → All (λ name. is_ruled rules name ≡ true) ns → All (Contains (names rules)) ns
All-ruled rules ns h = λ k d below. ruled rules (get_or ns k d) (h k d below)

entry_fits : (rules : List SubRule) (schema : List TypeDef) (n : ℕ) (entry : Entry) → entry_faults rules schema n entry ≡ [] → EntryFits rules schema entry
entry_fits rules schema n entry e =
    let front : map (unknown_subgraph n) (unruled rules (subs_of entry)) ≡ [] = front_is_nil (map (unknown_subgraph n) (unruled rules (subs_of entry))) (map (unknown_type n) (not_inputs schema (types_of entry))) e in
    let rest : map (unknown_type n) (not_inputs schema (types_of entry)) ≡ [] = rest_is_nil (map (unknown_subgraph n) (unruled rules (subs_of entry))) (map (unknown_type n) (not_inputs schema (types_of entry))) e in
    record {
      subs = All-ruled rules (subs_of entry) (all_pass (is_ruled rules) (subs_of entry) (map-nil (unknown_subgraph n) (unruled rules (subs_of entry)) front));
      types = all_pass (is_input schema) (types_of entry) (map-nil (unknown_type n) (not_inputs schema (types_of entry)) rest);
    }

pub all_fit : (rules : List SubRule) (schema : List TypeDef) (n : ℕ) (entries : List Entry) → faults_from rules schema n entries ≡ [] → EntriesFit rules schema entries
all_fit rules schema n [] e = All-nil (EntryFits rules schema)
all_fit rules schema n (entry ∷ entries) e =
    All-cons (EntryFits rules schema) entry entries
    (entry_fits rules schema n entry (front_is_nil (entry_faults rules schema n entry) (faults_from rules schema (n + 1) entries) e))
    (all_fit rules schema (n + 1) entries (rest_is_nil (entry_faults rules schema n entry) (faults_from rules schema (n + 1) entries) e))
