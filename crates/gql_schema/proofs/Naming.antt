-- Names that come again, and names that are not known.
use Rattle.std.proofs.Common.{◌≡◌, ℕ, suc, ◌+◌, ◌<◌, Bool, true, false, not, cond, if◌then◌else◌, List, [], ◌∷◌, ◌++◌, map, drop, drop-cons, get_or, length, Option, Some, None, refl, sym, ap, ◌∙◌, arith, append_assoc}
use Rattle.std.specs.Prelude.{flat_map}
use Rattle.std.specs.Str.{bytes_eq}
use Rattle.std.proofs.lemmas.List.{append-nil}
use Rattle.std.proofs.lemmas.Bool.{cond-true, cond-false}
use Rattle.std.proofs.lemmas.Grind.{flat_map-append}
use Rattle.indexmap.specs.IndexSet.{insert_key}
use Rattle.gql_schema.specs.declared.terms.Definition.{Definition}
use Rattle.gql_schema.specs.declared.terms.Field.{Field}
use Rattle.gql_schema.specs.declared.terms.Part.{Part}
use Rattle.gql_schema.specs.Rules.{Name, has_name, or_then, first_again, first_not_in, twice_at, twice_from, definition_name, definition_types, field_types, own_definition}

-- ---- one turn of a loop

pub at_turn : {X : Type 0} (xs : List X) (i : ℕ) (x : X) → i < length xs → x ≡ get_or xs i x → drop i xs ≡ x ∷ drop (i + 1) xs
at_turn {X} xs i x lt is =
    let same : suc i ≡ i + 1 = omega arith in
    drop-cons xs i x lt ∙ ap (λ (q : X). q ∷ drop (suc i) xs) (sym is) ∙ ap (λ (n : ℕ). x ∷ drop n xs) same

-- a name that was noted
pub noted : (ks new : List Name) (n k : Name) (r : Bool) → k ≡ n → r ≡ not (has_name ks k) → new ≡ insert_key bytes_eq ks k → new ≡ (if r then ks ++ (n ∷ []) else ks)
noted ks new n k r e is new_is = new_is ∙ go (has_name ks k) refl ∙ sym (ap (λ (q : Bool). if q then ks ++ (n ∷ []) else ks) is)
  where
    go : (b : Bool) → has_name ks k ≡ b → insert_key bytes_eq ks k ≡ (if not (has_name ks k) then ks ++ (n ∷ []) else ks)
    go true h = cond-true (has_name ks k) ks (ks ++ (k ∷ [])) h ∙ sym (ap (λ (q : Bool). if not q then ks ++ (n ∷ []) else ks) h)
    go false h = cond-false (has_name ks k) ks (ks ++ (k ∷ [])) h ∙ ap (λ (q : Name). ks ++ (q ∷ [])) e ∙ sym (ap (λ (q : Bool). if not q then ks ++ (n ∷ []) else ks) h)

-- ---- names that come again

not_true : (b : Bool) → true ≡ not b → b ≡ false
not_true true e = absurd cc
not_true false e = refl

not_false : (b : Bool) → false ≡ not b → b ≡ true
not_false true e = refl
not_false false e = absurd cc

pub again_goes : (seen after rest later : List Name) (n : Name) (r : Bool) (total : Option Name) → rest ≡ n ∷ later → r ≡ not (has_name seen n) → after ≡ (if r then seen ++ (n ∷ []) else seen) → r ≡ true → first_again seen rest ≡ total
    → first_again after later ≡ total
again_goes seen after rest later n r total cut is now new so_far =
    let fresh : has_name seen n ≡ false = not_true (has_name seen n) (sym new ∙ is) in
    let here : after ≡ seen ++ (n ∷ []) = now ∙ ap (λ (q : Bool). if q then seen ++ (n ∷ []) else seen) new in
    ap (λ (q : List Name). first_again q later) here ∙ sym (cond-false (has_name seen n) (Some n) (first_again (seen ++ (n ∷ [])) later) fresh) ∙ sym (ap (first_again seen) cut) ∙ so_far

pub again_here : (seen rest later : List Name) (n : Name) (r : Bool) (total : Option Name) → rest ≡ n ∷ later → r ≡ not (has_name seen n) → r ≡ false → first_again seen rest ≡ total → total ≡ Some n
again_here seen rest later n r total cut is old so_far =
    let there : has_name seen n ≡ true = not_false (has_name seen n) (sym old ∙ is) in
    sym so_far ∙ ap (first_again seen) cut ∙ cond-true (has_name seen n) (Some n) (first_again (seen ++ (n ∷ [])) later) there

-- ---- names that are not known

pub known_goes : (known rest later : List Name) (n : Name) (total : Option Name) → rest ≡ n ∷ later → has_name known n ≡ true → first_not_in known rest ≡ total → first_not_in known later ≡ total
known_goes known rest later n total cut is so_far = sym (cond-true (has_name known n) (first_not_in known later) (Some n) is) ∙ sym (ap (first_not_in known) cut) ∙ so_far

pub unknown_here : (known rest later : List Name) (n : Name) (total : Option Name) → rest ≡ n ∷ later → has_name known n ≡ false → first_not_in known rest ≡ total → total ≡ Some n
unknown_here known rest later n total cut is so_far = sym so_far ∙ ap (first_not_in known) cut ∙ cond-false (has_name known n) (first_not_in known later) (Some n) is

pub not_in_append : (known a b : List Name) → first_not_in known (a ++ b) ≡ or_then (first_not_in known a) (first_not_in known b)
not_in_append known [] b = refl
not_in_append known (n ∷ a) b = go (has_name known n) (not_in_append known a b)
  where
    go : (q : Bool) → first_not_in known (a ++ b) ≡ or_then (first_not_in known a) (first_not_in known b)
        → cond q (first_not_in known (a ++ b)) (Some n) ≡ or_then (cond q (first_not_in known a) (Some n)) (first_not_in known b)
    go true tail = tail
    go false tail = refl

-- what some part says, or what the others say
pub then_some : (a b total : Option Name) (n : Name) → or_then a b ≡ total → a ≡ Some n → total ≡ Some n
then_some a b total n e is = sym e ∙ ap (λ (q : Option Name). or_then q b) is

pub then_none : (a b total : Option Name) → or_then a b ≡ total → a ≡ None → b ≡ total
then_none a b total e is = sym (ap (λ (q : Option Name). or_then q b) is) ∙ e

pub parts_goes : (known rest a later : List Name) (total : Option Name) → rest ≡ a ++ later → first_not_in known a ≡ None → first_not_in known rest ≡ total → first_not_in known later ≡ total
parts_goes known rest a later total cut none so_far = then_none (first_not_in known a) (first_not_in known later) total (sym (not_in_append known a later) ∙ sym (ap (first_not_in known) cut) ∙ so_far) none

pub parts_here : (known rest a later : List Name) (n : Name) (total : Option Name) → rest ≡ a ++ later → first_not_in known a ≡ Some n → first_not_in known rest ≡ total → total ≡ Some n
parts_here known rest a later n total cut some so_far = then_some (first_not_in known a) (first_not_in known later) total n (sym (not_in_append known a later) ∙ sym (ap (first_not_in known) cut) ∙ so_far) some

-- ---- definitions that come again

or_assoc : (a b c : Option Name) → or_then (or_then a b) c ≡ or_then a (or_then b c)
or_assoc (Some n) b c = refl
or_assoc None b c = refl

pub twice_append : (before : List Name) (a b : List Definition) → twice_from before (a ++ b) ≡ or_then (twice_from before a) (twice_from (before ++ map definition_name a) b)
twice_append before [] b = ap (λ (q : List Name). twice_from q b) (sym (append-nil before))
twice_append before (d ∷ a) b = ap (or_then (twice_at before d)) (twice_append (before ++ (d.name ∷ [])) a b ∙ ap (λ (q : List Name). or_then (twice_from (before ++ (d.name ∷ [])) a) (twice_from q b)) (append_assoc before (d.name ∷ []) (map definition_name a)))
    ∙ sym (or_assoc (twice_at before d) (twice_from (before ++ (d.name ∷ [])) a) (twice_from (before ++ map definition_name (d ∷ a)) b))

pub twice_goes : (before after : List Name) (rest a later : List Definition) (total : Option Name) → rest ≡ a ++ later → twice_from before a ≡ None → after ≡ before ++ map definition_name a → twice_from before rest ≡ total → twice_from after later ≡ total
twice_goes before after rest a later total cut none now so_far =
    ap (λ (q : List Name). twice_from q later) now ∙ then_none (twice_from before a) (twice_from (before ++ map definition_name a) later) total (sym (twice_append before a later) ∙ sym (ap (twice_from before) cut) ∙ so_far) none

pub twice_here : (before : List Name) (rest a later : List Definition) (n : Name) (total : Option Name) → rest ≡ a ++ later → twice_from before a ≡ Some n → twice_from before rest ≡ total → total ≡ Some n
twice_here before rest a later n total cut some so_far =
    then_some (twice_from before a) (twice_from (before ++ map definition_name a) later) total n (sym (twice_append before a later) ∙ sym (ap (twice_from before) cut) ∙ so_far) some

-- ---- one part, and then another

pub front_some : (known a given b : List Name) (n : Name) → ◌≡◌ {A = Option Name} (Some n) (first_not_in known given) → given ≡ a → ◌≡◌ {A = Option Name} (Some n) (first_not_in known (a ++ b))
front_some known a given b n e is = sym (then_some (first_not_in known a) (first_not_in known b) (first_not_in known (a ++ b)) n (sym (not_in_append known a b)) (sym (e ∙ ap (first_not_in known) is)))

pub front_none : (known a given b : List Name) (r : Option Name) → ◌≡◌ {A = Option Name} None (first_not_in known given) → given ≡ a → r ≡ first_not_in known b → r ≡ first_not_in known (a ++ b)
front_none known a given b r e is later = later ∙ then_none (first_not_in known a) (first_not_in known b) (first_not_in known (a ++ b)) (sym (not_in_append known a b)) (sym (e ∙ ap (first_not_in known) is))

pub single_known : (known : List Name) (n m : Name) → m ≡ n → has_name known m ≡ true → ◌≡◌ {A = Option Name} None (first_not_in known (n ∷ []))
single_known known n m e is = sym (cond-true (has_name known n) None (Some n) (ap (has_name known) (sym e) ∙ is))

pub single_unknown : (known : List Name) (n m : Name) → m ≡ n → has_name known m ≡ false → ◌≡◌ {A = Option Name} (Some m) (first_not_in known (n ∷ []))
single_unknown known n m e is = ap (λ (q : Name). Some q) e ∙ sym (cond-false (has_name known n) None (Some n) (ap (has_name known) (sym e) ∙ is))

pub own_turn : (parts : List Part) (i : ℕ) (x : Part) → i < length parts → x ≡ get_or parts i x
    → flat_map definition_types (flat_map own_definition (drop i parts)) ≡ flat_map definition_types (own_definition x) ++ flat_map definition_types (flat_map own_definition (drop (i + 1) parts))
own_turn parts i x lt is = ap (λ (q : List Part). flat_map definition_types (flat_map own_definition q)) (at_turn parts i x lt is) ∙ flat_map-append definition_types (own_definition x) (flat_map own_definition (drop (i + 1) parts))

pub field_turn : (fields : List Field) (i : ℕ) (x : Field) → i < length fields → x ≡ get_or fields i x → flat_map field_types (drop i fields) ≡ field_types x ++ flat_map field_types (drop (i + 1) fields)
field_turn fields i x lt is = ap (flat_map field_types) (at_turn fields i x lt is)
