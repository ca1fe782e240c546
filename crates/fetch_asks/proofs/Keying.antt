-- The keys, one by one.
use Rattle.std.proofs.Common.{◌≡◌, ℕ, zero, suc, ◌+◌, ◌<◌, false, List, [], ◌∷◌, ◌++◌, refl, sym, ap, ◌∙◌, add-one, length, take, map, get_or, arith}
use Rattle.std.specs.Prelude.{All}
use Rattle.json_value.specs.declared.tree.Json.{Json}
use Rattle.json_print.specs.Print.{print}
use Rattle.json_paths.specs.declared.path.Place.{Place}
use Rattle.cache_terms.specs.declared.keys.Key.{Key}
use Rattle.plan_tree.specs.declared.plan.Fetch.{Fetch}
use Rattle.plan_exec.specs.declared.tasks.Asked.{Asked}
use Rattle.plan_exec.specs.declared.tasks.Asked.TheVariants as kind
use Rattle.fetch_asks.specs.Asks.{sel_of, type_of, key_of, keys_of, rep_texts, reps_of, are_entities}
use Rattle.fetch_asks.proofs.Naming.{taken}

abbrev pub key_by : (sub type_name sel : List ℕ) → Json → Key
key_by sub type_name sel rep = record { sub = sub; type_name = type_name; rep = print rep; sel = sel }

map-append : {A B : Type 0} (f : A → B) (xs : List A) (y : A) → map f (xs ++ (y ∷ [])) ≡ map f xs ++ (f y ∷ [])
map-append f [] y = refl
map-append {A} {B} f (x ∷ xs) y = ap (λ (l : List B). f x ∷ l) (map-append f xs y)

-- one more key
pub one_more : {A B : Type 0} (f : A → B) (xs : List A) (i : ℕ) (x : A) (before after : List B) → i < length xs → x ≡ get_or xs i x →
    before ≡ map f (take i xs) → after ≡ before ++ (f x ∷ []) → after ≡ map f (take (i + 1) xs)
one_more {A} {B} f xs i x before after lt is kept more =
    rw (add-one, taken xs i x lt is) (more ∙ ap (λ (l : List B). l ++ (f x ∷ [])) kept ∙ sym (map-append f (take i xs) x))

same_keys : (fetch : Fetch) (asked : Asked) (variables : Json) (xs : List Json) → map (key_by fetch.sub (type_of fetch asked) (sel_of fetch variables)) xs ≡ map (key_of fetch asked variables) (map print xs)
same_keys fetch asked variables [] = refl
same_keys fetch asked variables (x ∷ xs) = ap (λ (ks : List Key). key_by fetch.sub (type_of fetch asked) (sel_of fetch variables) x ∷ ks) (same_keys fetch asked variables xs)

pub entity_keys : (fetch : Fetch) (asked : Asked) (distinct : List Json) (used_by : List (List Place)) (variables : Json) (type_name sel : List ℕ) → asked ≡ kind.Entities distinct used_by →
    type_name ≡ type_of fetch asked → sel ≡ sel_of fetch variables → map (key_by fetch.sub type_name sel) distinct ≡ keys_of fetch asked variables
entity_keys fetch asked distinct used_by variables type_name sel entities type_is sel_is =
    ap (λ (t : List ℕ). map (key_by fetch.sub t sel) distinct) type_is
    ∙ ap (λ (s : List ℕ). map (key_by fetch.sub (type_of fetch asked) s) distinct) sel_is
    ∙ same_keys fetch asked variables distinct
    ∙ ap (λ (a : Asked). map (key_of fetch asked variables) (rep_texts a (reps_of a))) (sym entities)

pub root_key : (fetch : Fetch) (asked : Asked) (variables : Json) (type_name sel : List ℕ) → asked ≡ kind.Root →
    type_name ≡ type_of fetch asked → sel ≡ sel_of fetch variables →
    record { sub = fetch.sub; type_name = type_name; rep = []; sel = sel } ∷ [] ≡ keys_of fetch asked variables
root_key fetch asked variables type_name sel root type_is sel_is =
    ap (λ (t : List ℕ). record { sub = fetch.sub; type_name = t; rep = []; sel = sel } ∷ []) type_is
    ∙ ap (λ (s : List ℕ). record { sub = fetch.sub; type_name = type_of fetch asked; rep = []; sel = s } ∷ []) sel_is
    ∙ ap (λ (a : Asked). map (key_of fetch asked variables) (rep_texts a (reps_of a))) (sym root)

-- ---- what all keys have

abbrev IsOf : List ℕ → Key → Type 0
IsOf name key = key.sub ≡ name

named_at : (fetch : Fetch) (asked : Asked) (variables : Json) (texts : List (List ℕ)) (k : ℕ) (d : Key) → k < length (map (key_of fetch asked variables) texts) →
    IsOf fetch.sub (get_or (map (key_of fetch asked variables) texts) k d)
named_at fetch asked variables [] k d lt = absurd (omega arith)
named_at fetch asked variables (t ∷ texts) zero d lt = refl
named_at fetch asked variables (t ∷ texts) (suc k) d lt = named_at fetch asked variables texts k d (omega arith)

pub keys_named : (fetch : Fetch) (asked : Asked) (variables : Json) → All (λ (key : Key). key.sub ≡ fetch.sub) (keys_of fetch asked variables)
keys_named fetch asked variables = named_at fetch asked variables (rep_texts asked (reps_of asked))

pub root_alone : (fetch : Fetch) (asked : Asked) (variables : Json) → are_entities asked ≡ false → length (keys_of fetch asked variables) ≡ 1
root_alone fetch kind.Root variables root = refl
root_alone fetch (kind.Entities distinct used_by) variables root = absurd cc
