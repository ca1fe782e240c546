-- How many stamps there are, and how many pieces an invalidation covers.
use Rattle.std.proofs.Common.{◌≡◌, ◌⊎◌, inl, inr, ℕ, zero, suc, ◌+◌, ◌-◌, ◌<◌, ◌≤◌, Bool, true, false, cond, List, [], ◌∷◌, length, drop, slice_get, Option, Some, None, refl, sym, ap, ◌∙◌, subst, arith, true≢false}
use Rattle.std.specs.Prelude.{◌↔◌, ◌||◌, nat_eq, count_by, IsSomeAnd}
use Rattle.std.specs.List.{list_any, IsDistinct, AllByRecursion}
use Rattle.std.specs.Set.{remove_key}
use Rattle.std.specs.Ordering.{eq_by_cmp, is_eq}
use Rattle.std.specs.FinMap as map
use Rattle.std.proofs.lemmas.Bool.Decides.{nat_tests}
use Rattle.std.proofs.lemmas.Cmp.{tied_itself}
use Rattle.std.proofs.lemmas.List.Sums.{sum_by-cons}
use Rattle.std.proofs.lemmas.Map.Keys.{IsDistinct-head, IsDistinct-tail, IsDistinct-cons}
use Rattle.std.proofs.lemmas.Map.Made.{length-remove_key}
use Rattle.std.proofs.lemmas.Option.{slice_get_within}
use Rattle.cache_terms.specs.declared.keys.Target.{Target}
use Rattle.cache_terms.specs.declared.events.Event.{Event}
use Rattle.cache_terms.specs.declared.events.Event.TheVariants.{Lookup, Start, Settle, Invalidate}
use Rattle.std.specs.Option.{option_and_then}
use Rattle.cache_terms.specs.Keys.{Covers}
use Rattle.cache_model.specs.Journal.{IsLast, IsCount, IsHeld, IsHeldUnder, kept_of}
use Rattle.cache_model.proofs.Unique.{count_unique}
use Rattle.book_index.specs.Targets.{target_cmp}
use Rattle.book_index.specs.Stamps.{Positions}
use Rattle.book_index.specs.Telling.{IsVoidOf, IsVoidedAt, StampsTell, is_void, voids_above}
use Rattle.book_index.proofs.Order.{targets_total, targets_exact}

-- each stamp is that of an event of es, where es begins at this position
abbrev AreOf : List Event → ℕ → Positions → Type 0
AreOf es from stamps = (target : Target) (p : ℕ) → map.get stamps target ≡ Some p → (i : ℕ) × (p ≡ from + i) × IsSomeAnd (slice_get es i) (IsVoidOf target)

no_stamps : (stamps : Positions) (from : ℕ) → AreOf [] from stamps → map.len stamps ≡ 0
no_stamps stamps from are = ap map.len (map.same_map targets_total targets_exact stamps map.empty (λ q. by q (map.get stamps q) refl ∙ sym (map.get-empty target_cmp q))) ∙ map.len-empty target_cmp ℕ
  where
    by : (q : Target) (o : Option ℕ) → map.get stamps q ≡ o → map.get stamps q ≡ None
    by q None at = at
    by q (Some p) at = absurd (are q p at).2

-- an event is no invalidation, or it is one
void_or_not : (e : Event) → ((target : Target) × IsVoidOf target e × (is_void e ≡ true)) ⊎ (((target : Target) → IsVoidOf target e → ⊥) × (is_void e ≡ false))
void_or_not (Invalidate who target count) = inl (target, refl, refl)
void_or_not (Lookup who k id now hit) = inr (λ t h. h, refl)
void_or_not (Start who t k id now) = inr (λ x h. h, refl)
void_or_not (Settle who t got out) = inr (λ x h. h, refl)

one_target : (e : Event) (a b : Target) → IsVoidOf a e → IsVoidOf b e → a ≡ b
one_target (Invalidate who target count) a b ha hb = sym ha ∙ hb
one_target (Lookup who k id now hit) a b ha hb = absurd ha
one_target (Start who t k id now) a b ha hb = absurd ha
one_target (Settle who t got out) a b ha hb = absurd ha

-- without the stamp of the first event, they are those of the others
rest_of : (e : Event) (es : List Event) (from : ℕ) (stamps : Positions) → AreOf (e ∷ es) from stamps → ((target : Target) → map.get stamps target ≡ Some (from + 0) → IsVoidOf target e → ⊥) → AreOf es (from + 1) stamps
rest_of e es from stamps are none target p at = by (are target p at)
  where
    by : (i : ℕ) × (p ≡ from + i) × IsSomeAnd (slice_get (e ∷ es) i) (IsVoidOf target) → (i : ℕ) × (p ≡ (from + 1) + i) × IsSomeAnd (slice_get es i) (IsVoidOf target)
    by (zero, is, h) = absurd (none target (at ∙ ap Some is) h)
    by (suc i, is, h) = let next : p ≡ (from + 1) + i = omega (arith, is) in (i, next, h)

few : (es : List Event) (from : ℕ) (stamps : Positions) → AreOf es from stamps → map.len stamps ≤ count_by is_void es
few [] from stamps are = omega (arith, no_stamps stamps from are)
few (e ∷ es) from stamps are = elim (void_or_not e) [
  | inl one ↦ with_void one.0 one.1 one.2 (few es (from + 1) (map.remove stamps one.0) (rest_of e es from (map.remove stamps one.0) (removed one.0) (gone one.0 one.1)))
  | inr none ↦ without none.1 (few es (from + 1) stamps (rest_of e es from stamps are (λ t at h. none.0 t h)))
]
  where
    count : count_by is_void (e ∷ es) ≡ cond (is_void e) 1 0 + count_by is_void es
    count = sum_by-cons (λ x. cond (is_void x) 1 0) e es

    without : is_void e ≡ false → map.len stamps ≤ count_by is_void es → map.len stamps ≤ count_by is_void (e ∷ es)
    without no_void le = let same : count_by is_void (e ∷ es) ≡ 0 + count_by is_void es = count ∙ ap (λ b. cond b 1 0 + count_by is_void es) no_void in omega (arith, same, le)

    less_one : (target : Target) → map.len stamps ≤ map.len (map.remove stamps target) + 1
    less_one target = by (map.contains_key stamps target) (map.len-remove targets_total stamps target)
      where
        by : (b : Bool) → map.len (map.remove stamps target) ≡ cond b (map.len stamps - 1) (map.len stamps) → map.len stamps ≤ map.len (map.remove stamps target) + 1
        by true len = omega (arith, len)
        by false len = omega (arith, len)

    with_void : (target : Target) → IsVoidOf target e → is_void e ≡ true → map.len (map.remove stamps target) ≤ count_by is_void es → map.len stamps ≤ count_by is_void (e ∷ es)
    with_void target h one le = let more : count_by is_void (e ∷ es) ≡ 1 + count_by is_void es = count ∙ ap (λ b. cond b 1 0 + count_by is_void es) one in omega (arith, more, le, less_one target)

    removed : (target : Target) → AreOf (e ∷ es) from (map.remove stamps target)
    removed target q p at = by (eq_by_cmp target_cmp q target) (sym (map.get-remove targets_total stamps target q) ∙ at)
      where
        by : (b : Bool) → cond b None (map.get stamps q) ≡ Some p → (i : ℕ) × (p ≡ from + i) × IsSomeAnd (slice_get (e ∷ es) i) (IsVoidOf q)
        by true is = absurd (cc is)
        by false is = are q p is

    gone : (target : Target) → IsVoidOf target e → (q : Target) → map.get (map.remove stamps target) q ≡ Some (from + 0) → IsVoidOf q e → ⊥
    gone target h q at v =
        let same : q ≡ target = one_target e q target v h in
        let tied : eq_by_cmp target_cmp q target ≡ true = ap (λ t. is_eq (target_cmp t target)) same ∙ ap is_eq (tied_itself targets_total target) in
        let none : map.get (map.remove stamps target) q ≡ None = map.get-remove targets_total stamps target q ∙ ap (λ b. cond b None (map.get stamps q)) tied in
        cc (at, none)

zero_more : (i : ℕ) → ◌≡◌ {A = ℕ} i (0 + i)
zero_more i = omega arith

suc_more : (n i : ℕ) → ◌≡◌ {A = ℕ} (suc (n + i)) (suc n + i)
suc_more n i = omega arith

slice_get_drop : {X : Type 0} (xs : List X) (n i : ℕ) → slice_get (drop n xs) i ≡ slice_get xs (n + i)
slice_get_drop xs zero i = ap (slice_get xs) (zero_more i)
slice_get_drop [] (suc n) i = refl
slice_get_drop (x ∷ xs) (suc n) i = slice_get_drop xs n i ∙ ap (slice_get (x ∷ xs)) (suc_more n i)

-- there are at most as many stamps as invalidations above the horizon
pub stamps_few : (J : List Event) (horizon : ℕ) (stamps : Positions) → StampsTell J horizon stamps → map.len stamps ≤ voids_above J horizon
stamps_few J horizon stamps tells = few (drop (horizon + 1) J) (horizon + 1) stamps are
  where
    are : AreOf (drop (horizon + 1) J) (horizon + 1) stamps
    are target p at =
        let voided : IsVoidedAt J horizon target p = (subst (λ (o : Option ℕ). IsLast (IsVoidedAt J horizon target) o) at (tells target)).0 in
        let i : ℕ = p - (horizon + 1) in
        let over : horizon < p = voided.0 in
        let is : p ≡ (horizon + 1) + (p - (horizon + 1)) = omega (arith, over) in
        (p - (horizon + 1), is, subst (λ (o : Option Event). IsSomeAnd o (IsVoidOf target)) (ap (slice_get J) is ∙ sym (slice_get_drop J (horizon + 1) (p - (horizon + 1)))) voided.1)

-- a position that is not the one removed is there as before
other_stays : (k q : ℕ) → nat_eq q k ≡ false → (xs : List ℕ) → list_any (nat_eq q) (remove_key (nat_eq k) xs) ≡ list_any (nat_eq q) xs
other_stays k q apart [] = refl
other_stays k q apart (x ∷ xs) = by (other_stays k q apart xs) (nat_eq k x) refl
  where
    by : list_any (nat_eq q) (remove_key (nat_eq k) xs) ≡ list_any (nat_eq q) xs → (b : Bool) → nat_eq k x ≡ b → list_any (nat_eq q) (cond b xs (x ∷ remove_key (nat_eq k) xs)) ≡ list_any (nat_eq q) (x ∷ xs)
    by rest true is =
        let same : x ≡ k = grind (arith, nat_tests) in
        sym (ap (λ c. c || list_any (nat_eq q) xs) (ap (nat_eq q) same ∙ apart))
    by rest false is = ap (λ l. nat_eq q x || l) rest

none_alike : (x : ℕ) (xs : List ℕ) → AllByRecursion (λ y. nat_eq x y ≡ false) xs → list_any (nat_eq x) xs ≡ false
none_alike x [] h = refl
none_alike x (y ∷ ys) h = ap (λ b. b || list_any (nat_eq x) ys) h.0 ∙ none_alike x ys h.1

-- where each is there once, the one removed is not there
self_gone : (k : ℕ) (xs : List ℕ) → IsDistinct nat_eq xs → list_any (nat_eq k) (remove_key (nat_eq k) xs) ≡ false
self_gone k [] once = refl
self_gone k (x ∷ xs) once = by (self_gone k xs (IsDistinct-tail nat_eq x xs once)) (nat_eq k x) refl
  where
    by : list_any (nat_eq k) (remove_key (nat_eq k) xs) ≡ false → (b : Bool) → nat_eq k x ≡ b → list_any (nat_eq k) (cond b xs (x ∷ remove_key (nat_eq k) xs)) ≡ false
    by rest true is =
        let same : x ≡ k = grind (arith, nat_tests) in
        ap (λ y. list_any (nat_eq y) xs) (sym same) ∙ none_alike x xs (IsDistinct-head nat_eq x xs once)
    by rest false is = ap (λ b. b || list_any (nat_eq k) (remove_key (nat_eq k) xs)) is ∙ rest

all_stay : (P : ℕ → Type 0) (test : ℕ → Bool) (xs : List ℕ) → AllByRecursion P xs → AllByRecursion P (remove_key test xs)
all_stay P test [] h = h
all_stay P test (x ∷ xs) h = by (all_stay P test xs h.1) (test x)
  where
    by : AllByRecursion P (remove_key test xs) → (b : Bool) → AllByRecursion P (cond b xs (x ∷ remove_key test xs))
    by rest true = h.1
    by rest false = (h.0, rest)

once_stays : (test : ℕ → Bool) (xs : List ℕ) → IsDistinct nat_eq xs → IsDistinct nat_eq (remove_key test xs)
once_stays test [] once = once
once_stays test (x ∷ xs) once = by (once_stays test xs (IsDistinct-tail nat_eq x xs once)) (test x)
  where
    by : IsDistinct nat_eq (remove_key test xs) → (b : Bool) → IsDistinct nat_eq (cond b xs (x ∷ remove_key test xs))
    by rest true = IsDistinct-tail nat_eq x xs once
    by rest false = IsDistinct-cons nat_eq x (remove_key test xs) (all_stay (λ y. nat_eq x y ≡ false) test xs (IsDistinct-head nat_eq x xs once)) rest

decide : (b : Bool) → (b ≡ true) ⊎ (b ≡ false)
decide true = inl refl
decide false = inr refl

equal_itself : (n : ℕ) → nat_eq n n ≡ true
equal_itself n = grind (arith, nat_tests)

same_number : (a b : ℕ) → nat_eq a b ≡ true → a ≡ b
same_number a b h = grind (arith, nat_tests)

other_number : (a b : ℕ) → nat_eq a b ≡ false → a ≡ b → ⊥
other_number a b h e = true≢false (sym (ap (λ x. nat_eq x b) e ∙ equal_itself b) ∙ h)

less_number : (a b : ℕ) → a < b → nat_eq a b ≡ false
less_number a b lt = elim (decide (nat_eq a b)) [
  | inl is ↦ absurd (omega (arith, lt, same_number a b is))
  | inr no_ ↦ no_
]

-- a list that has each number with the property below n once is as long as there are such numbers
count_listed : (P : ℕ → Type 0) (n : ℕ) (xs : List ℕ) → IsDistinct nat_eq xs → ((q : ℕ) → list_any (nat_eq q) xs ≡ true → P q × (q < n)) → ((q : ℕ) → q < n → P q → list_any (nat_eq q) xs ≡ true) → IsCount P n (length xs)
count_listed P zero [] once sound full = refl
count_listed P zero (x ∷ xs) once sound full = let below : x < 0 = (sound x (ap (λ b. b || list_any (nat_eq x) xs) (equal_itself x))).1 in absurd (omega (arith, below))
count_listed P (suc n) xs once sound full = elim (decide (list_any (nat_eq n) xs)) [
  | inl there ↦ inl ((sound n there).0, (length (remove_key (nat_eq n) xs), count_listed P n (remove_key (nat_eq n) xs) (once_stays (nat_eq n) xs once) left kept, sym (length-remove_key (nat_eq n) xs there)))
  | inr absent ↦ inr (λ h. true≢false (sym (full n (omega arith) h) ∙ absent), count_listed P n xs once (λ q at. ((sound q at).0, below q at (apart absent q at))) (λ q lt h. full q (omega (arith, lt)) h))
]
  where
    below : (q : ℕ) → list_any (nat_eq q) xs ≡ true → (q ≡ n → ⊥) → q < n
    below q at other = by (decide (nat_eq q n))
      where
        by : (nat_eq q n ≡ true) ⊎ (nat_eq q n ≡ false) → q < n
        by (inl is) = absurd (other (same_number q n is))
        by (inr is) = let differ : q ≡ n → ⊥ = other_number q n is in let within : q < suc n = (sound q at).1 in grind (arith, nat_tests)

    apart : list_any (nat_eq n) xs ≡ false → (q : ℕ) → list_any (nat_eq q) xs ≡ true → q ≡ n → ⊥
    apart absent q at e = true≢false (sym (ap (λ k. list_any (nat_eq k) xs) (sym e) ∙ at) ∙ absent)

    left : (q : ℕ) → list_any (nat_eq q) (remove_key (nat_eq n) xs) ≡ true → P q × (q < n)
    left q at = by (decide (nat_eq q n))
      where
        by : (nat_eq q n ≡ true) ⊎ (nat_eq q n ≡ false) → P q × (q < n)
        by (inl is) = absurd (true≢false (sym at ∙ ap (λ k. list_any (nat_eq k) (remove_key (nat_eq n) xs)) (same_number q n is) ∙ self_gone n xs once))
        by (inr is) = let was : list_any (nat_eq q) xs ≡ true = sym (other_stays n q is xs) ∙ at in ((sound q was).0, below q was (other_number q n is))

    kept : (q : ℕ) → q < n → P q → list_any (nat_eq q) (remove_key (nat_eq n) xs) ≡ true
    kept q lt h = other_stays n q (less_number q n lt) xs ∙ full q (omega (arith, lt)) h

held_within : (J : List Event) (target : Target) (q : ℕ) → IsHeldUnder J target q → q < length J
held_within J target q h = by (slice_get J q) refl h
  where
    by : (o : Option Event) → slice_get J q ≡ o → IsSomeAnd (option_and_then (kept_of J) o) (λ k. IsHeld J q k × Covers target k.key k.tags) → q < length J
    by None at v = absurd v
    by (Some e) at v = slice_get_within J q e at

-- positions that are those of the held pieces under a target, each once, are as many as an invalidation of it counts
pub listed_count : (J : List Event) (target : Target) (positions : List ℕ) → IsDistinct nat_eq positions → ((q : ℕ) → (list_any (nat_eq q) positions ≡ true) ↔ IsHeldUnder J target q) → IsCount (IsHeldUnder J target) (length J) (length positions)
listed_count J target positions once listed = count_listed (IsHeldUnder J target) (length J) positions once (λ q at. ((listed q).0 at, held_within J target q ((listed q).0 at))) (λ q lt h. (listed q).1 h)

-- without one position the list is one shorter
pub one_fewer : (n : ℕ) (xs ys : List ℕ) (p : ℕ) → IsDistinct nat_eq xs → IsDistinct nat_eq ys → ((q : ℕ) → list_any (nat_eq q) xs ≡ true → q < n) → list_any (nat_eq p) xs ≡ true → list_any (nat_eq p) ys ≡ false
    → ((q : ℕ) → (q ≡ p → ⊥) → list_any (nat_eq q) ys ≡ list_any (nat_eq q) xs) → length ys + 1 ≡ length xs
one_fewer n xs ys p once_xs once_ys bound there gone others = ap (λ (k : ℕ). k + 1) same ∙ length-remove_key (nat_eq p) xs there
  where
    apart : (zs : List ℕ) → list_any (nat_eq p) zs ≡ false → (q : ℕ) → list_any (nat_eq q) zs ≡ true → q ≡ p → ⊥
    apart zs none q at e = true≢false (sym (ap (λ k. list_any (nat_eq k) zs) (sym e) ∙ at) ∙ none)

    differ : (q : ℕ) → (q ≡ p → ⊥) → nat_eq q p ≡ false
    differ q other = elim (decide (nat_eq q p)) [
      | inl is ↦ absurd (other (same_number q p is))
      | inr no_ ↦ no_
    ]

    left_within : (q : ℕ) → list_any (nat_eq q) (remove_key (nat_eq p) xs) ≡ true → q < n
    left_within q at = bound q (sym (other_stays p q (differ q (apart (remove_key (nat_eq p) xs) (self_gone p xs once_xs) q at)) xs) ∙ at)

    counted_left : IsCount (λ q. list_any (nat_eq q) (remove_key (nat_eq p) xs) ≡ true) n (length (remove_key (nat_eq p) xs))
    counted_left = count_listed (λ q. list_any (nat_eq q) (remove_key (nat_eq p) xs) ≡ true) n (remove_key (nat_eq p) xs) (once_stays (nat_eq p) xs once_xs) (λ q at. (at, left_within q at)) (λ q lt h. h)

    was_there : (q : ℕ) → list_any (nat_eq q) ys ≡ true → list_any (nat_eq q) xs ≡ true
    was_there q at = sym (others q (apart ys gone q at)) ∙ at

    counted_ys : IsCount (λ q. list_any (nat_eq q) (remove_key (nat_eq p) xs) ≡ true) n (length ys)
    counted_ys = count_listed (λ q. list_any (nat_eq q) (remove_key (nat_eq p) xs) ≡ true) n ys once_ys
        (λ q at. (other_stays p q (differ q (apart ys gone q at)) xs ∙ was_there q at, bound q (was_there q at)))
        (λ q lt h. let other : q ≡ p → ⊥ = apart (remove_key (nat_eq p) xs) (self_gone p xs once_xs) q h in others q other ∙ sym (other_stays p q (differ q other) xs) ∙ h)

    same : length ys ≡ length (remove_key (nat_eq p) xs)
    same = count_unique (λ q. list_any (nat_eq q) (remove_key (nat_eq p) xs) ≡ true) n (length ys) (length (remove_key (nat_eq p) xs)) counted_ys counted_left
