-- What the closed lock tells of the handles.
use Rattle.std.proofs.Common.{◌≡◌, ◌≤◌, ◌<◌, length, length-append, ℕ, zero, suc, true, List, [], ◌∷◌, ◌++◌, All, map, get_or, refl, sym, subst, ap, ◌∙◌, arith, ◌⊎◌, inl, inr, Option, Some, None}
use Rattle.std.proofs.lemmas.List.{get_or_append_left, get_or_push}
use Rattle.std.proofs.lemmas.List.Elements.{All-weaker, All-nil, All-cons, All-head, All-tail, All-map, All-push}
use Rattle.atomic_table.specs.Seated.{TableId}
use Rattle.turn_lock.specs.declared.seats.Turn.{Turn}
use Rattle.turn_lock.specs.declared.seats.Part.{Part}
use Rattle.turn_lock.specs.declared.seats.Stage.TheVariants.{Outside}
use Rattle.turn_lock.specs.Turns.{turns_in, served}
use Rattle.turn_lock.specs.Members.{MemberState, backwards, turns_of, InOrder, newcomer, newcomers}
use Rattle.turn_lock.proofs.Membership.{tells}
use Rattle.cache_terms.specs.declared.events.Limits.{Limits}
use Rattle.cache_model.specs.State.{opened, IsWithinRanges}
use Rattle.cache_model.proofs.Legality.{empty_legal}
use Rattle.cache_book.specs.Permits.{Pinned}
use mathlib.Core.Logic.{dite}
use native.Mathlib.Decide.{ℕ_discrete}
use Rattle.cache_seam.specs.Objects.{HasObject}
use Rattle.shared_book.specs.Sharing.{Shared, IsNumbered, untouched, BookFollows, WithoutTurn}
use Rattle.shared_book.specs.Handles.{IsLeftBy, Continues, HasOwnEvents, HandleState, fresh, seen_of, name_of, Chained, IsHandle, all_turns, passes_of}
use Rattle.shared_book.proofs.Own.{own_told}

-- NAMES

lock_of : List ℕ → TableId
lock_of (n ∷ w ∷ s ∷ v ∷ a ∷ b ∷ o ∷ ns) = record { words = w; slots = s; views_name = v; atom = a; block = b; offset = o; slot_names = ns }
lock_of other = record { words = 0; slots = 0; views_name = 0; atom = 0; block = 0; offset = 0; slot_names = [] }

-- locks of one name are one lock
pub one_lock : (m n : ℕ) (y z : TableId) → name_of m y ≡ name_of n z → y ≡ z
unfolding lock_of
one_lock m n y z same = ap lock_of same

-- OPENING

pub fresh_handles : (z : TableId) (limits : Limits) (all n : ℕ) → n ≤ all → IsWithinRanges limits → All (λ (m : MemberState Shared). IsHandle m (record { who = m.number; epoch = 0 }) 0 true) (newcomers z (untouched limits all) n)
fresh_handles z limits all zero few ranges = All-nil (λ (m : MemberState Shared). IsHandle m (record { who = m.number; epoch = 0 }) 0 true)
fresh_handles z limits all (suc n) few ranges = All-push (λ (m : MemberState Shared). IsHandle m (record { who = m.number; epoch = 0 }) 0 true) (newcomers z (untouched limits all) n) (newcomer z (untouched limits all) n) (fresh_handles z limits all n (omega (arith, few)) ranges) (record {
  outside = refl;
  coherent = record { reached = omega arith; current = λ _. refl; over = λ later. absurd (omega (arith, later)); lawful = record { legal = record { legal = empty_legal limits; ranges = ranges }; objects = All-nil HasObject } };
  chained = refl;
  numbered = omega (arith, few);
  pass_is = λ _. refl;
})

-- CLOSING

-- the member of a handle that is outside
abbrev pub member_of : HandleState → MemberState Shared
member_of h = record { home = h.home; number = h.number; last = h.left; turns = h.turns; stage = Outside }

abbrev pub IsChained : HandleState → Type 0
IsChained h = Chained h.number (opened h.left.book.limits 0) h.turns h.left.book

turns_same : (hs : List HandleState) → all_turns hs ≡ turns_of (map member_of hs)
turns_same [] = refl
turns_same (h ∷ hs) = ap (λ (ts : List (Turn Shared)). h.turns ++ ts) (turns_same hs)

-- k took the last turn, or nobody did and k is the first
abbrev pub IsLast : Shared → ℕ → Type 0
IsLast x k = (k < x.members) × ((x.last ≡ Some k) ⊎ (x.last ≡ None))

last_of : (members : ℕ) (last : Option ℕ) → IsNumbered last members → (k : ℕ) × (k < members) × ((last ≡ Some k) ⊎ (last ≡ None))
last_of members (Some k) numbered = (k, numbered.below k refl, inl refl)
last_of members None numbered = (0, numbered.some, inr refl)

left_last : (x : Shared) (k : ℕ) (h : HandleState) → IsLast x k → WithoutTurn h.left x h.number → (k < h.left.members) × (h.number ≡ k → h.left.book ≡ x.book)
left_last x k h (below, inl last) w = (let same = w.members in omega (arith, below, same), λ is. sym (ap (λ (s : Shared). s.book) (w.own (last ∙ ap Some (sym is)))))
left_last x k h (below, inr last) w = (let same = w.members in omega (arith, below, same), λ is. sym (ap (λ (s : Shared). s.book) (w.nobody last)))

pub record Told (x : Shared) (hs : List HandleState) : Type 0 where
  pub continues : All (Continues x.book) hs
  pub own : All (HasOwnEvents x.book) hs
  pub last : (k : ℕ) × IsLeftBy k x.book hs
  pub once : (n : ℕ) → served n (all_turns hs) ≤ 1
  pub order : InOrder BookFollows (all_turns hs)

-- what holds of each member holds of each handle
unmap : {A B : Type 0} (P : B → Type 0) (f : A → B) (xs : List A) → All P (map f xs) → All (λ (x : A). P (f x)) xs
unmap P f [] all = All-nil (λ x. P (f x))
unmap P f (x ∷ xs) all = All-cons (λ x. P (f x)) x xs (All-head P (f x) (map f xs) all) (unmap P f xs (All-tail P (f x) (map f xs) all))

pub told : (x x' : Shared) (all left hs : List HandleState) (ps : List (Part Shared)) → x' ≡ x → IsNumbered x.last x.members → ps ≡ backwards (map member_of hs) → all ≡ left ++ hs → left ≡ [] → All IsChained hs
    → All (λ (p : Part Shared). WithoutTurn p.last x' p.number) ps → All (λ (t : Turn Shared). BookFollows t.left x') (turns_in ps) → ((n : ℕ) → served n (turns_in ps) ≤ 1) → InOrder BookFollows (turns_in ps) → Told x all
told x x' all left hs ps same numbered e is none chained w f o r =
    let ms : List (MemberState Shared) = map member_of hs in
    let q = tells BookFollows WithoutTurn x ps ms [] ms e refl refl (subst (λ (z : Shared). All (λ (p : Part Shared). WithoutTurn p.last z p.number) ps) same w) (subst (λ (z : Shared). All (λ (t : Turn Shared). BookFollows t.left z) (turns_in ps)) same f) o r in
    let without : All (λ (h : HandleState). WithoutTurn h.left x h.number) hs = unmap (λ (m : MemberState Shared). WithoutTurn m.last x m.number) member_of hs q.without in
    let found = last_of x.members x.last numbered in
    let last : IsLast x found.0 = (found.1, found.2) in
    subst (Told x) (sym (is ∙ ap (λ (l : List HandleState). l ++ hs) none)) (record {
      continues = All-weaker (λ (h : HandleState). WithoutTurn h.left x h.number) (Continues x.book) (λ h w. w.book) hs without;
      own = λ k d less. own_told (get_or hs k d).number (get_or hs k d).left.book.limits (get_or hs k d).turns (get_or hs k d).left.book x.book (chained k d less) (without k d less).book;
      last = (found.0, λ k d less. left_last x found.0 (get_or hs k d) last (without k d less));
      once = λ n. subst (λ (ts : List (Turn Shared)). served n ts ≤ 1) (sym (turns_same hs)) (q.once n);
      order = subst (InOrder BookFollows) (sym (turns_same hs)) q.order;
    })

-- FIRST PASSES

pub passes_count : (epoch n : ℕ) → length (passes_of epoch n) ≡ n
passes_count epoch zero = refl
passes_count epoch (suc n) = let before = passes_count epoch n in omega (arith, length-append (passes_of epoch n) (record { who = n; epoch = epoch } ∷ []))

pub passes_at : (epoch n k : ℕ) (d : Pinned) → k < n → get_or (passes_of epoch n) k d ≡ record { who = k; epoch = epoch }
passes_at epoch zero k d less = absurd (omega arith)
passes_at epoch (suc n) k d less = let count = passes_count epoch n in dite (ℕ_discrete k n)
    (λ is. get_or_push (passes_of epoch n) (record { who = n; epoch = epoch }) d k (count ∙ sym is) ∙ ap (λ (w : ℕ). record { who = w; epoch = epoch }) (sym is))
    (λ ne. get_or_append_left (passes_of epoch n) (record { who = n; epoch = epoch } ∷ []) d k (omega (arith, ne, count)) ∙ passes_at epoch n k d (omega (arith, ne)))

pub numbers_below : (z : TableId) (x : Shared) (n : ℕ) → All (λ (m : MemberState Shared). m.number < n) (newcomers z x n)
numbers_below z x zero = All-nil (λ (m : MemberState Shared). m.number < 0)
numbers_below z x (suc n) = All-push (λ (m : MemberState Shared). m.number < suc n) (newcomers z x n) (newcomer z x n)
    (All-weaker (λ (m : MemberState Shared). m.number < n) (λ (m : MemberState Shared). m.number < suc n) (λ m less. omega arith) (newcomers z x n) (numbers_below z x n)) (omega arith)

pub map_more : (ms : List (MemberState Shared)) (m : MemberState Shared) → map fresh (ms ++ m ∷ []) ≡ map fresh ms ++ fresh m ∷ []
map_more [] m = refl
map_more (n ∷ ms) m = ap (λ (hs : List HandleState). fresh n ∷ hs) (map_more ms m)

-- ONE HOME

one_home : (z : TableId) (x : Shared) (n : ℕ) → All (λ (m : MemberState Shared). name_of m.last.members m.home ≡ name_of x.members z) (newcomers z x n)
one_home z x zero = All-nil (λ (m : MemberState Shared). name_of m.last.members m.home ≡ name_of x.members z)
one_home z x (suc n) = All-push (λ (m : MemberState Shared). name_of m.last.members m.home ≡ name_of x.members z) (newcomers z x n) (newcomer z x n) (one_home z x n) refl

pub fresh_home : (z : TableId) (x : Shared) (n : ℕ) → All (λ (h : HandleState). (seen_of h).home ≡ name_of x.members z) (map fresh (newcomers z x n))
fresh_home z x n = All-map (λ (h : HandleState). (seen_of h).home ≡ name_of x.members z) fresh (newcomers z x n) (one_home z x n)
