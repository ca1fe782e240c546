-- Names that are noted, and members that are found by their places.
use Rattle.std.proofs.Common.{◌≡◌, ℕ, zero, suc, ◌+◌, ◌<◌, Bool, true, false, ◌||◌, not, if◌then◌else◌, List, [], ◌∷◌, ◌++◌, Option, Some, None, length, get_or, take, drop, drop-cons, add-one, refl, sym, ap, ◌∙◌, arith}
use Rattle.std.specs.Prelude.{map}
use Rattle.std.proofs.Math.Seq.{take-suc}
use Rattle.std.specs.Str.{bytes_eq}
use Rattle.json_value.specs.declared.tree.Json.{Json}
use Rattle.json_value.specs.Members.{named}
use Rattle.gql_terms.specs.declared.documents.VarDef.{VarDef}
use Rattle.gql_terms.specs.declared.documents.Value.{Value}
use Rattle.gql_inputs.specs.Constants.{has, with_first, firsts_after, constant, constant_member}
use Rattle.gql_inputs.specs.Variables.{defines}
use Rattle.gql_inputs.specs.Noted.{place_from, value_at}

-- ---- names that are noted

last : (t : Bool) → (t || false) ≡ (if t then true else false)
last true = refl
last false = refl

under : (a t b c : Bool) → c ≡ (if t then true else b) → (a || c) ≡ (if t then true else (a || b))
under true true b c is = refl
under true false b c is = refl
under false t b c is = is

has_more : (ms : List (List ℕ × Json)) (m : List ℕ × Json) (q : List ℕ) → has (ms ++ (m ∷ [])) q ≡ (if bytes_eq m.0 q then true else has ms q)
has_more [] m q = last (bytes_eq m.0 q)
has_more (k ∷ ms) m q = under (bytes_eq k.0 q) (bytes_eq m.0 q) (has ms q) (has (ms ++ (m ∷ [])) q) (has_more ms m q)

defines_more : (ds : List VarDef) (d : VarDef) (q : List ℕ) → defines (ds ++ (d ∷ [])) q ≡ (if bytes_eq d.name q then true else defines ds q)
defines_more [] d q = last (bytes_eq d.name q)
defines_more (e ∷ ds) d q = under (bytes_eq e.name q) (bytes_eq d.name q) (defines ds q) (defines (ds ++ (d ∷ [])) q) (defines_more ds d q)

pub fresh : (new had : Bool) → not new ≡ false → new ≡ not had → had ≡ false
fresh true true e f = absurd cc
fresh true false e f = refl
fresh false true e f = absurd cc
fresh false false e f = refl

pub met : (new had : Bool) → not new ≡ true → new ≡ not had → had ≡ true
met true true e f = refl
met true false e f = absurd cc
met false true e f = refl
met false false e f = absurd cc

module _ (now next : List ℕ → Bool) (name : List ℕ) (notes : (q : List ℕ) → next q ≡ (if bytes_eq name q then true else now q)) where
  pub has_noted : (ms grown : List (List ℕ × Json)) (k : List ℕ) (v : Json) → k ≡ name → grown ≡ ms ++ ((k, v) ∷ []) → ((q : List ℕ) → now q ≡ has ms q) → (q : List ℕ) → next q ≡ has grown q
  has_noted ms grown k v same is before q =
      notes q ∙ ap (λ (b : Bool). if bytes_eq name q then true else b) (before q) ∙ ap (λ (n : List ℕ). if bytes_eq n q then true else has ms q) (sym same)
      ∙ sym (has_more ms (k, v) q) ∙ ap (λ (xs : List (List ℕ × Json)). has xs q) (sym is)

  pub defines_noted : (ds : List VarDef) (i : ℕ) (d : VarDef) → i < length ds → d ≡ get_or ds i d → d.name ≡ name → ((q : List ℕ) → now q ≡ defines (take i ds) q) → (q : List ℕ) → next q ≡ defines (take (i + 1) ds) q
  defines_noted ds i d within is same before q =
      let grown : take (i + 1) ds ≡ take i ds ++ (d ∷ []) = rw add-one (take-suc ds i d within ∙ ap (λ (e : VarDef). take i ds ++ (e ∷ [])) (sym is)) in
      notes q ∙ ap (λ (b : Bool). if bytes_eq name q then true else b) (before q) ∙ ap (λ (n : List ℕ). if bytes_eq n q then true else defines (take i ds) q) (sym same)
      ∙ sym (defines_more (take i ds) d q) ∙ ap (λ (es : List VarDef). defines es q) (sym grown)

pub firsts_new : (members : List (List ℕ × Value)) (i : ℕ) (m : List ℕ × Value) → i < length members → m ≡ get_or members i m → (made grown whole : List (List ℕ × Json)) (k : List ℕ) (v : Json)
    → has made m.0 ≡ false → k ≡ m.0 → v ≡ constant m.1 → grown ≡ made ++ ((k, v) ∷ []) → firsts_after made (map constant_member (drop i members)) ≡ whole
    → firsts_after grown (map constant_member (drop (i + 1) members)) ≡ whole
firsts_new members i m within is made grown whole k v new named_so worth grows before =
    let here : drop i members ≡ m ∷ drop (suc i) members = drop-cons members i m within ∙ ap (λ (n : List ℕ × Value). n ∷ drop (suc i) members) (sym is) in
    let step : firsts_after (with_first made (m.0, constant m.1)) (map constant_member (drop (suc i) members)) ≡ whole = sym (ap (λ (ns : List (List ℕ × Value)). firsts_after made (map constant_member ns)) here) ∙ before in
    let first : with_first made (m.0, constant m.1) ≡ made ++ ((m.0, constant m.1) ∷ []) = rw new refl in
    let pushed : grown ≡ made ++ ((m.0, constant m.1) ∷ []) = grows ∙ ap (λ (n : List ℕ). made ++ ((n, v) ∷ [])) named_so ∙ ap (λ (w : Json). made ++ ((m.0, w) ∷ [])) worth in
    rw add-one (ap (λ (xs : List (List ℕ × Json)). firsts_after xs (map constant_member (drop (suc i) members))) (pushed ∙ sym first) ∙ step)

-- ---- places

pub one_more_place : (ms : List (List ℕ × Json)) (j i : ℕ) (m : List ℕ × Json) → j ≡ suc i → i < length ms → m ≡ get_or ms i m → (now next : List ℕ → Option ℕ) (k : List ℕ) → k ≡ m.0
    → ((q : List ℕ) → now q ≡ place_from j q (drop j ms)) → ((q : List ℕ) → next q ≡ (if bytes_eq k q then Some i else now q))
    → (q : List ℕ) → next q ≡ place_from i q (drop i ms)
one_more_place ms j i m same within is now next k named_so before puts q =
    let here : drop i ms ≡ m ∷ drop (suc i) ms = drop-cons ms i m within ∙ ap (λ (n : List ℕ × Json). n ∷ drop (suc i) ms) (sym is) in
    puts q ∙ ap (λ (o : Option ℕ). if bytes_eq k q then Some i else o) (before q ∙ ap (λ (n : ℕ). place_from n q (drop n ms)) same)
    ∙ ap (λ (n : List ℕ). if bytes_eq n q then Some i else place_from (suc i) q (drop (suc i) ms)) named_so ∙ sym (ap (place_from i q) here)

pub value_at_is : (ms : List (List ℕ × Json)) (i : ℕ) (d : List ℕ × Json) → i < length ms → value_at ms i ≡ Some (get_or ms i d).1
value_at_is [] i d within = absurd (omega arith)
value_at_is (m ∷ ms) zero d within = refl
value_at_is (m ∷ ms) (suc i) d within = value_at_is ms i d (omega arith)

-- where the first member with the name stands
pub record Found (i : ℕ) (name : List ℕ) (ms : List (List ℕ × Json)) (k : ℕ) : Type 0 where
  pub past : ℕ
  pub place : k ≡ i + past
  pub within : past < length ms
  pub is : named name ms ≡ value_at ms past

found_by : (i : ℕ) (name : List ℕ) (m : List ℕ × Json) (ms : List (List ℕ × Json)) (k : ℕ) (t : Bool) → bytes_eq m.0 name ≡ t → (if t then Some i else place_from (suc i) name ms) ≡ Some k
    → (place_from (suc i) name ms ≡ Some k → Found (suc i) name ms k) → Found i name (m ∷ ms) k
found_by i name m ms k true same is later =
    let here : k ≡ i + 0 = (let e : i ≡ k = cc in omega arith) in
    record { past = 0; place = here; within = omega arith; is = rw same refl }
found_by i name m ms k false same is later =
    let there : Found (suc i) name ms k = later is in
    record { past = suc there.past; place = (let e : k ≡ suc i + there.past = there.place in omega arith); within = (let l : there.past < length ms = there.within in omega arith); is = rw same there.is }

pub found : (i : ℕ) (name : List ℕ) (ms : List (List ℕ × Json)) (k : ℕ) → place_from i name ms ≡ Some k → Found i name ms k
found i name [] k is = absurd cc
found i name (m ∷ ms) k is = found_by i name m ms k (bytes_eq m.0 name) refl is (found (suc i) name ms k)

absent_by : (i : ℕ) (name : List ℕ) (m : List ℕ × Json) (ms : List (List ℕ × Json)) (t : Bool) → bytes_eq m.0 name ≡ t → (if t then Some i else place_from (suc i) name ms) ≡ None
    → (place_from (suc i) name ms ≡ None → named name ms ≡ None) → named name (m ∷ ms) ≡ None
absent_by i name m ms true same is later = absurd cc
absent_by i name m ms false same is later = rw same (later is)

pub absent : (i : ℕ) (name : List ℕ) (ms : List (List ℕ × Json)) → place_from i name ms ≡ None → named name ms ≡ None
absent i name [] is = refl
absent i name (m ∷ ms) is = absent_by i name m ms (bytes_eq m.0 name) refl is (absent (suc i) name ms)
