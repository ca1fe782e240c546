-- Where names are distinct, merging goes by name.
use Rattle.std.proofs.Common.{◌≡◌, ℕ, Bool, true, false, List, [], ◌∷◌, ◌++◌, Option, Some, None, ◌⊎◌, inl, inr, refl, ap, ◌∙◌, sym, true≢false}
use Rattle.std.specs.Prelude.{map, ◌||◌}
use Rattle.std.specs.Str.{bytes_eq}
use Rattle.std.proofs.lemmas.Slice.Eq.{bytes_eq-Decides}
use Rattle.json_value.specs.declared.tree.Json.{Json}
use Rattle.json_value.specs.Grammar.{has}
use Rattle.json_value.specs.Members.{named}
use Rattle.merge_paths.specs.Merge.{without}
use Rattle.merge_paths.specs.Levels.{merged_with, merged_members}
use Rattle.merge_paths.specs.ByName.{AreDistinct, only, by_name, merged_member}

pub either : (b : Bool) → (b ≡ true) ⊎ (b ≡ false)
either true = inl refl
either false = inr refl

pub same_name : (a b : List ℕ) → bytes_eq a b ≡ true → a ≡ b
same_name a b is = (bytes_eq-Decides a b).0 is

pub of_same : (a b : List ℕ) → a ≡ b → bytes_eq a b ≡ true
of_same a b is = (bytes_eq-Decides a b).1 is

pub turned : (a b : List ℕ) → bytes_eq a b ≡ false → bytes_eq b a ≡ false
turned a b other = by_same (either (bytes_eq b a))
  where
    by_same : (bytes_eq b a ≡ true) ⊎ (bytes_eq b a ≡ false) → bytes_eq b a ≡ false
    by_same (inl e) = absurd (true≢false (sym (of_same a b (sym (same_name b a e))) ∙ other))
    by_same (inr e) = e

-- another name is found where it was
named-without : (name other : List ℕ) (ms : List (List ℕ × Json)) → bytes_eq other name ≡ false → named name (without other ms) ≡ named name ms
named-without name other [] apart = refl
named-without name other (m ∷ ms) apart = by_same (either (bytes_eq m.0 other)) (either (bytes_eq m.0 name)) (named-without name other ms apart)
  where
    by_same : (bytes_eq m.0 other ≡ true) ⊎ (bytes_eq m.0 other ≡ false) → (bytes_eq m.0 name ≡ true) ⊎ (bytes_eq m.0 name ≡ false) → named name (without other ms) ≡ named name ms → named name (without other (m ∷ ms)) ≡ named name (m ∷ ms)
    by_same (inl e) (inl f) rest = absurd (true≢false (sym (of_same other name (sym (same_name m.0 other e) ∙ same_name m.0 name f)) ∙ apart))
    by_same (inl e) (inr f) rest = rw (e, f) refl
    by_same (inr e) (inl f) rest = rw (e, f) refl
    by_same (inr e) (inr f) rest = rw (e, f) rest

has-without : (name other : List ℕ) (ms : List (List ℕ × Json)) → has ms name ≡ false → has (without other ms) name ≡ false
has-without name other [] lacks = refl
has-without name other (m ∷ ms) lacks = by_same (either (bytes_eq m.0 other)) (either (bytes_eq m.0 name)) (has-without name other ms)
  where
    by_same : (bytes_eq m.0 other ≡ true) ⊎ (bytes_eq m.0 other ≡ false) → (bytes_eq m.0 name ≡ true) ⊎ (bytes_eq m.0 name ≡ false) → (has ms name ≡ false → has (without other ms) name ≡ false) → has (without other (m ∷ ms)) name ≡ false
    by_same e (inl f) rest = let here : has (m ∷ ms) name ≡ true = rw f refl in absurd (true≢false (sym here ∙ lacks))
    by_same (inl e) (inr f) rest = let here : has ms name ≡ false = rw f at lacks in rw e here
    by_same (inr e) (inr f) rest = let here : has ms name ≡ false = rw f at lacks in rw (e, f) (rest here)

distinct-without : (name : List ℕ) (ms : List (List ℕ × Json)) → AreDistinct ms → AreDistinct (without name ms)
distinct-without name [] distinct = tt
distinct-without name (m ∷ ms) distinct = by_same (either (bytes_eq m.0 name)) (distinct-without name ms distinct.1)
  where
    by_same : (bytes_eq m.0 name ≡ true) ⊎ (bytes_eq m.0 name ≡ false) → AreDistinct (without name ms) → AreDistinct (without name (m ∷ ms))
    by_same (inl e) rest = rw e distinct.1
    by_same (inr e) rest = rw e (has-without m.0 name ms distinct.0, rest)

-- the members that are left, without those of one more name
only-without : (m : List ℕ × Json) (ms others : List (List ℕ × Json)) → AreDistinct others → only (without m.0 others) ms ≡ only others (m ∷ ms)
only-without m ms [] distinct = refl
only-without m ms (o ∷ others) distinct = by_same (either (bytes_eq o.0 m.0)) (either (has ms o.0)) (only-without m ms others distinct.1)
  where
    absent : (os : List (List ℕ × Json)) → has os m.0 ≡ false → only os ms ≡ only os (m ∷ ms)
    absent [] lacks = refl
    absent (p ∷ os) lacks = by_other (either (bytes_eq p.0 m.0)) (either (has ms p.0)) (absent os)
      where
        by_other : (bytes_eq p.0 m.0 ≡ true) ⊎ (bytes_eq p.0 m.0 ≡ false) → (has ms p.0 ≡ true) ⊎ (has ms p.0 ≡ false) → (has os m.0 ≡ false → only os ms ≡ only os (m ∷ ms)) → only (p ∷ os) ms ≡ only (p ∷ os) (m ∷ ms)
        by_other (inl e) f rest = let here : has (p ∷ os) m.0 ≡ true = rw e refl in absurd (true≢false (sym here ∙ lacks))
        by_other (inr e) (inl f) rest = let here : has os m.0 ≡ false = rw e at lacks in let back : bytes_eq m.0 p.0 ≡ false = turned p.0 m.0 e in rw (back, f) (rest here)
        by_other (inr e) (inr f) rest = let here : has os m.0 ≡ false = rw e at lacks in let back : bytes_eq m.0 p.0 ≡ false = turned p.0 m.0 e in rw (back, f) (ap (λ ps. p ∷ ps) (rest here))

    by_same : (bytes_eq o.0 m.0 ≡ true) ⊎ (bytes_eq o.0 m.0 ≡ false) → (has ms o.0 ≡ true) ⊎ (has ms o.0 ≡ false) → only (without m.0 others) ms ≡ only others (m ∷ ms) → only (without m.0 (o ∷ others)) ms ≡ only (o ∷ others) (m ∷ ms)
    by_same (inl e) f rest =
        let back : bytes_eq m.0 o.0 ≡ true = of_same m.0 o.0 (sym (same_name o.0 m.0 e)) in
        let lacks : has others m.0 ≡ false = ap (has others) (sym (same_name o.0 m.0 e)) ∙ distinct.0 in
        rw (e, back) (absent others lacks)
    by_same (inr e) (inl f) rest = let back : bytes_eq m.0 o.0 ≡ false = turned o.0 m.0 e in rw (e, back, f) rest
    by_same (inr e) (inr f) rest = let back : bytes_eq m.0 o.0 ≡ false = turned o.0 m.0 e in rw (e, back, f) (ap (λ ps. o ∷ ps) rest)

only-none : (others : List (List ℕ × Json)) → only others [] ≡ others
only-none [] = refl
only-none (o ∷ others) = ap (λ ps. o ∷ ps) (only-none others)

firsts : (name : List ℕ) (ms others : List (List ℕ × Json)) → has ms name ≡ false →
    map (merged_member (without name others)) ms ≡ map (merged_member others) ms
firsts name [] others lacks = refl
firsts name (m ∷ ms) others lacks = by_same (either (bytes_eq m.0 name)) (firsts name ms others)
  where
    by_same : (bytes_eq m.0 name ≡ true) ⊎ (bytes_eq m.0 name ≡ false) →
        (has ms name ≡ false → map (merged_member (without name others)) ms ≡ map (merged_member others) ms) →
        map (merged_member (without name others)) (m ∷ ms) ≡ map (merged_member others) (m ∷ ms)
    by_same (inl e) rest = let here : has (m ∷ ms) name ≡ true = rw e refl in absurd (true≢false (sym here ∙ lacks))
    by_same (inr e) rest =
        let later : has ms name ≡ false = rw e at lacks in
        let one : named m.0 (without name others) ≡ named m.0 others = named-without m.0 name others (turned m.0 name e) in
        rw (one, rest later) refl

pub merges_by_name : (ms others : List (List ℕ × Json)) → AreDistinct ms → AreDistinct others → merged_members ms others ≡ by_name ms others
merges_by_name [] others distinct other_distinct = sym (only-none others)
merges_by_name (m ∷ ms) others distinct other_distinct =
    ap (λ ps. (m.0, merged_with m.1 (named m.0 others)) ∷ ps)
    (merges_by_name ms (without m.0 others) distinct.1 (distinct-without m.0 others other_distinct)
    ∙ ap (λ ps. ps ++ only (without m.0 others) ms) (firsts m.0 ms others distinct.0)
    ∙ ap (λ ps. map (merged_member others) ms ++ ps) (only-without m ms others other_distinct))
