-- An index follows the list of members.
use Rattle.std.proofs.Common.{◌≡◌, ℕ, Bool, true, false, cond, List, [], ◌∷◌, ◌++◌, take, get_or, length, add-one, ◌+◌, ◌<◌, inl, inr, refl, sym, ap, subst, ◌∙◌, nat_cmp}
use Rattle.std.specs.Prelude.{◌||◌}
use Rattle.std.proofs.Math.Seq.{take-suc}
use Rattle.std.proofs.lemmas.Bool.{or_cases}
use Rattle.std.proofs.lemmas.Slice.Eq.{bytes_eq-Decides}
use Rattle.std.specs.Str.{bytes_eq}
use Rattle.std.specs.BTreeSet.{BTreeSet, contains, Updates}
use Rattle.std.specs.Cmp.Lexicographic.{slice_cmp}
use Rattle.std.proofs.lemmas.Map.Text.{is_eq-slice_cmp}
use Rattle.json_value.specs.declared.tree.Json.{Json}
use Rattle.json_value.specs.Grammar.{has}
use Rattle.json_members.specs.declared.digests.Digests.{Digests}
use Rattle.json_members.specs.declared.open_members.Index.{Index}
use Rattle.json_members.specs.declared.open_members.Index.TheVariants.{OneByOne, ByDigest, ByName}
use Rattle.json_members.specs.Covers.{IndexesNames}
use Rattle.json_members.specs.Slots.{digest_of, has_digest, KeepsDigests}

either_way : (a b : Bool) → cond a true b ≡ (b || a)
either_way true true = refl
either_way true false = refl
either_way false true = refl
either_way false false = refl

regroup : (a b c : Bool) → (a || (b || c)) ≡ ((a || b) || c)
regroup true b c = refl
regroup false b c = refl

has_more : (ms : List (List ℕ × Json)) (n : List ℕ) (x : Json) (k : List ℕ) → has (ms ++ ((n, x) ∷ [])) k ≡ (has ms k || bytes_eq n k)
has_more [] n x k = or_false (bytes_eq n k)
  where
    or_false : (b : Bool) → (b || false) ≡ b
    or_false true = refl
    or_false false = refl
has_more (y ∷ ms) n x k = ap (λ (b : Bool). bytes_eq y.0 k || b) (has_more ms n x k) ∙ regroup (bytes_eq y.0 k) (has ms k) (bytes_eq n k)

pub covers_same : (index : Index) (p q : List ℕ → Bool) → ((k : List ℕ) → q k ≡ p k) → IndexesNames index p → IndexesNames index q
covers_same OneByOne p q same covers = tt
covers_same (ByDigest t) p q same covers = λ k is. covers k (sym (same k) ∙ is)
covers_same (ByName s) p q same covers = λ k. covers k ∙ sym (same k)

pub covers_push : (index : Index) (ms ms' : List (List ℕ × Json)) (n : List ℕ) (x : Json) → IndexesNames index (λ k. has ms k || bytes_eq n k) → ms' ≡ ms ++ ((n, x) ∷ []) → IndexesNames index (has ms')
covers_push index ms ms' n x covers grown =
    covers_same index (λ k. has ms k || bytes_eq n k) (has ms') (λ k. ap (λ (q : List (List ℕ × Json)). has q k) grown ∙ has_more ms n x k) covers

-- ---- by name

pub name_put : (s t : BTreeSet (List ℕ)) (n : List ℕ) (ms : List (List ℕ × Json)) → ((k : List ℕ) → contains (slice_cmp nat_cmp) s k ≡ has ms k) → Updates (slice_cmp nat_cmp) s t n true
    → (k : List ℕ) → contains (slice_cmp nat_cmp) t k ≡ (has ms k || bytes_eq n k)
name_put s t n ms same updates k =
    updates.0 k ∙ (ap (λ (b : Bool). cond b true (contains (slice_cmp nat_cmp) s k)) (is_eq-slice_cmp n k) ∙ (ap (λ (b : Bool). cond (bytes_eq n k) true b) (same k) ∙ either_way (bytes_eq n k) (has ms k)))

one_more : (xs : List (List ℕ × Json)) (i : ℕ) (d : List ℕ × Json) → i < length xs → take (i + 1) xs ≡ take i xs ++ (get_or xs i d ∷ [])
one_more xs i d lt = rw add-one (take-suc xs i d lt)

has_step : (ms : List (List ℕ × Json)) (i : ℕ) (d : List ℕ × Json) → i < length ms → (k : List ℕ) → has (take (i + 1) ms) k ≡ (has (take i ms) k || bytes_eq (get_or ms i d).0 k)
has_step ms i d lt k = ap (λ (q : List (List ℕ × Json)). has q k) (one_more ms i d lt) ∙ has_more (take i ms) (get_or ms i d).0 (get_or ms i d).1 k

pub name_step : (s t : BTreeSet (List ℕ)) (ms : List (List ℕ × Json)) (i : ℕ) (d : List ℕ × Json) → i < length ms → ((k : List ℕ) → contains (slice_cmp nat_cmp) s k ≡ has (take i ms) k)
    → Updates (slice_cmp nat_cmp) s t (get_or ms i d).0 true → (k : List ℕ) → contains (slice_cmp nat_cmp) t k ≡ has (take (i + 1) ms) k
name_step s t ms i d lt same updates k = name_put s t (get_or ms i d).0 (take i ms) same updates k ∙ sym (has_step ms i d lt k)

-- ---- by digest

abbrev pub HasAll : Digests → (List ℕ → Bool) → Type 0
HasAll t named = (k : List ℕ) → named k ≡ true → has_digest t (digest_of k) ≡ true

pub digest_put : (t t' : Digests) (n : List ℕ) (d : ℕ) (ms : List (List ℕ × Json)) → HasAll t (has ms) → d ≡ digest_of n → has_digest t' d ≡ true → KeepsDigests t t' → HasAll t' (λ k. has ms k || bytes_eq n k)
digest_put t t' n d ms all of there keeps k is = elim (or_cases (has ms k) (bytes_eq n k) is) [
  | inl h ↦ keeps (digest_of k) (all k h)
  | inr h ↦ subst (λ (q : List ℕ). has_digest t' (digest_of q) ≡ true) ((bytes_eq-Decides n k).0 h) (subst (λ (e : ℕ). has_digest t' e ≡ true) of there)
]

pub digest_step : (t t' : Digests) (ms : List (List ℕ × Json)) (i : ℕ) (m : List ℕ × Json) (d : ℕ) → i < length ms → HasAll t (has (take i ms)) → d ≡ digest_of (get_or ms i m).0 → has_digest t' d ≡ true
    → KeepsDigests t t' → HasAll t' (has (take (i + 1) ms))
digest_step t t' ms i m d lt all of there keeps k is = digest_put t t' (get_or ms i m).0 d (take i ms) all of there keeps k (sym (has_step ms i m lt k) ∙ is)
