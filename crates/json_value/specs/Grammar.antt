-- Which texts stand for which value (RFC 8259), by cases on the value, with this project's rules: at most 64 lists
-- and objects are open at a place, the names in one object are distinct after their escapes are read, a surrogate is
-- escaped only in a pair, and a byte order mark is refused.
use Rattle.std.specs.Prelude.{◌≡◌, ℕ, suc, Bool, true, false, ◌||◌, ◌&&◌, ◌==◌, List, [], ◌∷◌, ◌++◌, codes}
use Rattle.std.specs.Str.{bytes_eq}
use Rattle.json_value.specs.declared.tree.Json.{Json}
use Rattle.json_value.specs.declared.tree.Json.TheVariants as j
use Rattle.json_value.specs.Strings.{Chars}
use Rattle.json_value.specs.Numbers.{IsNumber}

-- the rules that may be relaxed
pub record Rules : Type 0 where
  -- how deep lists and objects nest
  pub depth : ℕ
  -- the names in one object are distinct
  pub distinct : Bool
  -- the escape of a low surrogate outside a pair may stand as far as its third digit
  pub cut : Bool

abbrev pub strict : Rules
strict = record { depth = 64; distinct = true; cut = false }

-- ws (section 2): space, tab, line feed, carriage return
abbrev pub is_blank : ℕ → Bool
is_blank b = b == 32 || b == 9 || b == 10 || b == 13

abbrev pub IsSpace : List ℕ → Type 0
IsSpace [] = Unit {0}
IsSpace (b ∷ bs) = (is_blank b ≡ true) × IsSpace bs

-- whether one of the members has this name
abbrev pub has : List (List ℕ × Json) → List ℕ → Bool
has [] name = false
has (m ∷ ms) name = bytes_eq m.0 name || has ms name

-- A value that may open this many more levels, and its text: literals (section 3), numbers (6), strings (7), arrays
-- (5) and objects (4). Rest is what follows an item of a list, and Members what follows these members of an object,
-- through the bracket.
mutual
  pub data Spells (r : Rules) : ℕ → Json → List ℕ → Type 0 where
    null : {d : ℕ} → Spells r d j.Null (codes "null")
    yes : {d : ℕ} → Spells r d (j.Bool true) (codes "true")
    no : {d : ℕ} → Spells r d (j.Bool false) (codes "false")
    number : {d : ℕ} (a : List ℕ) → IsNumber a → Spells r d (j.Number a) a
    string : {d : ℕ} (t a : List ℕ) → Chars r.cut t a → Spells r d (j.Str t) (34 ∷ a)
    empty : {d : ℕ} (s : List ℕ) → IsSpace s → Spells r (suc d) (j.List []) (91 ∷ (s ++ (93 ∷ [])))
    list : {d : ℕ} (s : List ℕ) (x : Json) (a : List ℕ) (xs : List Json) (b : List ℕ) →
        IsSpace s → Spells r d x a → Rest r d xs b → Spells r (suc d) (j.List (x ∷ xs)) (91 ∷ (s ++ (a ++ b)))
    bare : {d : ℕ} (s : List ℕ) → IsSpace s → Spells r (suc d) (j.Object []) (123 ∷ (s ++ (125 ∷ [])))
    object : {d : ℕ} (s n : List ℕ) (x : Json) (a : List ℕ) (ms : List (List ℕ × Json)) (b : List ℕ) →
        IsSpace s → Pair r d n x a → Members r d ((n, x) ∷ []) ms b → Spells r (suc d) (j.Object ((n, x) ∷ ms)) (123 ∷ (s ++ (a ++ b)))

  pub data Rest (r : Rules) : ℕ → List Json → List ℕ → Type 0 where
    close : {d : ℕ} (s : List ℕ) → IsSpace s → Rest r d [] (s ++ (93 ∷ []))
    more : {d : ℕ} (s s' : List ℕ) (x : Json) (a : List ℕ) (xs : List Json) (b : List ℕ) →
        IsSpace s → IsSpace s' → Spells r d x a → Rest r d xs b → Rest r d (x ∷ xs) (s ++ (44 ∷ (s' ++ (a ++ b))))

  -- a name, a colon and a value
  pub data Pair (r : Rules) : ℕ → List ℕ → Json → List ℕ → Type 0 where
    pair : {d : ℕ} (n l s s' : List ℕ) (x : Json) (a : List ℕ) →
        Chars r.cut n l → IsSpace s → IsSpace s' → Spells r d x a → Pair r d n x (34 ∷ (l ++ (s ++ (58 ∷ (s' ++ a)))))

  pub data Members (r : Rules) : ℕ → List (List ℕ × Json) → List (List ℕ × Json) → List ℕ → Type 0 where
    shut : {d : ℕ} {before : List (List ℕ × Json)} (s : List ℕ) → IsSpace s → Members r d before [] (s ++ (125 ∷ []))
    another : {d : ℕ} {before : List (List ℕ × Json)} (s s' n : List ℕ) (x : Json) (a : List ℕ) (ms : List (List ℕ × Json)) (b : List ℕ) →
        IsSpace s → IsSpace s' → (r.distinct && has before n) ≡ false → Pair r d n x a → Members r d (before ++ ((n, x) ∷ [])) ms b
        → Members r d before ((n, x) ∷ ms) (s ++ (44 ∷ (s' ++ (a ++ b))))

-- JSON-text = ws value ws (section 2)
pub record IsText (r : Rules) (v : Json) (text : List ℕ) : Type 0 where
  pub before : List ℕ
  pub inner : List ℕ
  pub after : List ℕ
  pub parts : text ≡ before ++ (inner ++ after)
  pub before_is : IsSpace before
  pub inner_is : Spells r r.depth v inner
  pub after_is : IsSpace after

-- some continuation of these bytes is a text
abbrev pub IsViable : Rules → List ℕ → Type 0
IsViable r front = (rest : List ℕ) × (v : Json) × IsText r v (front ++ rest)
