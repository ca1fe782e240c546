-- Where the first of a name stands in a list.
use Rattle.std.proofs.Common.{◌≡◌, ℕ, zero, suc, ◌+◌, Bool, true, false, ◌||◌, if◌then◌else◌, List, [], ◌∷◌, ◌++◌, Option, Some, None, length, append_assoc, refl, sym, ap, ◌∙◌, arith}
use Rattle.std.specs.Prelude.{map, slice_get}
use Rattle.std.specs.Option.{option_map, is_some}
use Rattle.std.specs.Map.{lookup}
use Rattle.std.specs.Str.{bytes_eq}
use Rattle.gql_types.specs.declared.definition.FieldDef.{FieldDef}
use Rattle.gql_types.specs.declared.definition.TypeBody.{TypeBody}
use Rattle.gql_types.specs.declared.definition.TypeBody.TheVariants as body
use Rattle.gql_types.specs.declared.definition.TypeDef.{TypeDef}
use Rattle.gql_types.specs.declared.indexed_type.IndexedType.{IndexedType}
use Rattle.gql_types.specs.Finding.{definition_of, body_in}
use Rattle.gql_types.specs.Schemas.{is_among, field_of, fields_of, body_of}
use Rattle.gql_types.specs.Index.{first_place, names_in, field_def_name, type_def_name}

-- ---- whether a name stands there

pub is_there : (i : ℕ) (name : List ℕ) (ns : List (List ℕ)) → is_some (first_place i name ns) ≡ is_among ns name
is_there i name [] = refl
is_there i name (n ∷ ns) = by_test (bytes_eq n name) (is_there (suc i) name ns)
  where
    by_test : (t : Bool) → is_some (first_place (suc i) name ns) ≡ is_among ns name → is_some (if t then Some i else first_place (suc i) name ns) ≡ (t || is_among ns name)
    by_test true rest = refl
    by_test false rest = rest

-- ---- what stands there

module _ {X : Type 0} (f : X → List ℕ) where
  -- the first with the name
  abbrev pub first_named : List ℕ → List X → Option X
  first_named name [] = None
  first_named name (x ∷ xs) = if bytes_eq (f x) name then Some x else first_named name xs

  pub record Stands (i : ℕ) (name : List ℕ) (xs : List X) (k : ℕ) : Type 0 where
    pub past : ℕ
    pub place : k ≡ i + past
    pub is : slice_get xs past ≡ first_named name xs

  stands_by : (i : ℕ) (name : List ℕ) (x : X) (xs : List X) (k : ℕ) (t : Bool) → bytes_eq (f x) name ≡ t → (if t then Some i else first_place (suc i) name (map f xs)) ≡ Some k
      → (first_place (suc i) name (map f xs) ≡ Some k → Stands (suc i) name xs k) → Stands i name (x ∷ xs) k
  stands_by i name x xs k true same is later =
      let here : k ≡ i + 0 = (let e : i ≡ k = cc in omega arith) in
      record { past = 0; place = here; is = rw same refl }
  stands_by i name x xs k false same is later =
      let there : Stands (suc i) name xs k = later is in
      record { past = suc there.past; place = (let e : k ≡ suc i + there.past = there.place in omega arith); is = rw same there.is }

  pub stands : (i : ℕ) (name : List ℕ) (xs : List X) (k : ℕ) → first_place i name (map f xs) ≡ Some k → Stands i name xs k
  stands i name [] k is = absurd cc
  stands i name (x ∷ xs) k is = stands_by i name x xs k (bytes_eq (f x) name) refl is (stands (suc i) name xs k)

  absent_by : (i : ℕ) (name : List ℕ) (x : X) (xs : List X) (t : Bool) → bytes_eq (f x) name ≡ t → (if t then Some i else first_place (suc i) name (map f xs)) ≡ None
      → (first_place (suc i) name (map f xs) ≡ None → first_named name xs ≡ None) → first_named name (x ∷ xs) ≡ None
  absent_by i name x xs true same is later = absurd cc
  absent_by i name x xs false same is later = rw same (later is)

  pub stands_not : (i : ℕ) (name : List ℕ) (xs : List X) → first_place i name (map f xs) ≡ None → first_named name xs ≡ None
  stands_not i name [] is = refl
  stands_not i name (x ∷ xs) is = absent_by i name x xs (bytes_eq (f x) name) refl is (stands_not (suc i) name xs)

  pub standing : (name : List ℕ) (xs : List X) (k : ℕ) → first_place 0 name (map f xs) ≡ Some k → slice_get xs k ≡ first_named name xs
  standing name xs k is =
      let there : Stands 0 name xs k = stands 0 name xs k is in
      let same : k ≡ there.past = omega arith in
      ap (slice_get xs) same ∙ there.is

-- ---- types and fields

pub field_named : (name : List ℕ) (fs : List FieldDef) → field_of fs name ≡ option_map (λ (f : FieldDef). f.of) (first_named field_def_name name fs)
field_named name [] = refl
field_named name (f ∷ fs) = by_test (bytes_eq f.name name) (field_named name fs)
  where
    by_test : (t : Bool) → field_of fs name ≡ option_map (λ (f : FieldDef). f.of) (first_named field_def_name name fs)
        → (if t then Some f.of else field_of fs name) ≡ option_map (λ (f : FieldDef). f.of) (if t then Some f else first_named field_def_name name fs)
    by_test true rest = refl
    by_test false rest = rest

pub body_named : (name : List ℕ) (ts : List TypeDef) → body_of ts name ≡ option_map (λ (t : TypeDef). t.body) (first_named type_def_name name ts)
body_named name [] = refl
body_named name (d ∷ ds) = by_test (bytes_eq d.name name) (body_named name ds)
  where
    by_test : (t : Bool) → body_of ds name ≡ option_map (λ (t : TypeDef). t.body) (first_named type_def_name name ds)
        → (if t then Some d.body else body_of ds name) ≡ option_map (λ (t : TypeDef). t.body) (if t then Some d else first_named type_def_name name ds)
    by_test true rest = refl
    by_test false rest = rest

pub no_field : (name : List ℕ) (fs : List FieldDef) → first_place 0 name (map field_def_name fs) ≡ None → field_of fs name ≡ None
no_field name fs is = field_named name fs ∙ ap (option_map (λ (f : FieldDef). f.of)) (stands_not field_def_name 0 name fs is)

pub field_at : (name : List ℕ) (fs : List FieldDef) (k : ℕ) → first_place 0 name (map field_def_name fs) ≡ Some k → option_map (λ (f : FieldDef). f.of) (slice_get fs k) ≡ field_of fs name
field_at name fs k is = ap (option_map (λ (f : FieldDef). f.of)) (standing field_def_name name fs k is) ∙ sym (field_named name fs)

-- a name that stands at no place is the name of no field
pub no_field_in : (name : List ℕ) (b : TypeBody) → first_place 0 name (names_in b) ≡ None → field_of (fields_of b) name ≡ None
no_field_in name body.Scalar is = refl
no_field_in name (body.Object interfaces fields) is = no_field name fields is
no_field_in name (body.Interface interfaces fields) is = no_field name fields is
no_field_in name (body.Union members) is = refl
no_field_in name (body.Enum values) is = refl
no_field_in name (body.Input fields) is = refl

-- the field at the place of a name
pub field_in : (name : List ℕ) (b : TypeBody) (k : ℕ) → first_place 0 name (names_in b) ≡ Some k → option_map (λ (f : FieldDef). f.of) (slice_get (fields_of b) k) ≡ field_of (fields_of b) name
field_in name body.Scalar k is = refl
field_in name (body.Object interfaces fields) k is = field_at name fields k is
field_in name (body.Interface interfaces fields) k is = field_at name fields k is
field_in name (body.Union members) k is = refl
field_in name (body.Enum values) k is = refl
field_in name (body.Input fields) k is = refl

pub no_body : (name : List ℕ) (ts : List TypeDef) → first_place 0 name (map type_def_name ts) ≡ None → body_of ts name ≡ None
no_body name ts is = body_named name ts ∙ ap (option_map (λ (t : TypeDef). t.body)) (stands_not type_def_name 0 name ts is)

pub body_at : (name : List ℕ) (ts : List TypeDef) (k : ℕ) → first_place 0 name (map type_def_name ts) ≡ Some k → option_map (λ (t : TypeDef). t.body) (slice_get ts k) ≡ body_of ts name
body_at name ts k is = ap (option_map (λ (t : TypeDef). t.body)) (standing type_def_name name ts k is) ∙ sym (body_named name ts)

-- ---- one more name

pub got_none : (q : List ℕ) (es : List (List ℕ × ℕ)) → es ≡ [] → lookup (bytes_eq q) es ≡ None
got_none q es none = ap (lookup (bytes_eq q)) none

-- the last of the names that were left is taken
pub one_more : (all left rest taken : List (List ℕ)) (name : List ℕ) (place : ℕ) (now next : List ℕ → Option ℕ) → all ≡ left ++ taken → left ≡ rest ++ (name ∷ []) → place ≡ length rest
    → ((q : List ℕ) → now q ≡ first_place (length left) q taken) → ((q : List ℕ) → next q ≡ (if bytes_eq name q then Some place else now q))
    → (q : List ℕ) → next q ≡ first_place (length rest) q (name ∷ taken)
one_more all left rest taken name place now next are popped counted before puts q =
    let long : length left ≡ suc (length rest) = ap length popped ∙ one_longer rest in
    puts q ∙ ap (λ (o : Option ℕ). if bytes_eq name q then Some place else o) (before q ∙ ap (λ (n : ℕ). first_place n q taken) long)
    ∙ ap (λ (k : ℕ). if bytes_eq name q then Some k else first_place (suc (length rest)) q taken) counted
  where
    one_longer : (xs : List (List ℕ)) → length (xs ++ (name ∷ [])) ≡ suc (length xs)
    one_longer [] = refl
    one_longer (x ∷ xs) = ap suc (one_longer xs)

pub moved : (all left rest taken : List (List ℕ)) (name : List ℕ) → all ≡ left ++ taken → left ≡ rest ++ (name ∷ []) → all ≡ rest ++ (name ∷ taken)
moved all left rest taken name are popped = are ∙ ap (λ (ns : List (List ℕ)). ns ++ taken) popped ∙ append_assoc rest (name ∷ []) taken

-- ---- types with indexes

pub body_got : (ts : List IndexedType) (k : ℕ) → option_map body_in (slice_get ts k) ≡ option_map (λ (t : TypeDef). t.body) (slice_get (map definition_of ts) k)
body_got [] k = refl
body_got (t ∷ ts) zero = refl
body_got (t ∷ ts) (suc k) = body_got ts k
