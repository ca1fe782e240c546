-- Marks, told apart and written.
use Rattle.std.proofs.Common.{◌≡◌, ℕ, zero, suc, ◌+◌, ◌<◌, ◌≤◌, Bool, true, false, List, [], ◌∷◌, ◌++◌, length, set, get_or, refl, sym, ap, subst, ◌∙◌, ◌⊎◌, inl, inr, arith, drop, drop-cons, add-one}
use Rattle.std.specs.Prelude.{Contains, sum_by}
use Rattle.std.proofs.lemmas.Bool.{cases_eq}
use Rattle.std.proofs.lemmas.List.{length-set, get_or-set_same, get_or-set_other, get_or_past, drop_all}
use Rattle.std.proofs.lemmas.List.Sums.{sum_by-set}
use Rattle.gql_spreads.specs.declared.search.Mark.{Mark}
use Rattle.gql_spreads.specs.declared.search.Mark.TheVariants as mark
use Rattle.gql_spreads.specs.Search.{mark_at, IsDone, StaySeen, done_all, steps_for}
use Rattle.gql_spreads.proofs.Members.{contains_none, contains_one, one_contains}

pub fresh_open : (p : ℕ) → mark.Fresh ≡ mark.Open p → ⊥
fresh_open p e = cc

pub fresh_done : (c : Bool) → mark.Fresh ≡ mark.Done c → ⊥
fresh_done c e = cc

pub open_done : (p : ℕ) (c : Bool) → mark.Open p ≡ mark.Done c → ⊥
open_done p c e = cc

pub open_open : (p q : ℕ) → mark.Open p ≡ mark.Open q → p ≡ q
open_open p q e = cc

pub done_done : (c d : Bool) → mark.Done c ≡ mark.Done d → c ≡ d
done_done c d e = cc

-- what a mark is
pub data Marked (m : Mark) : Type 0 where
  fresh : m ≡ mark.Fresh → Marked m
  opened : (p : ℕ) → m ≡ mark.Open p → Marked m
  done : (c : Bool) → m ≡ mark.Done c → Marked m

pub marked : (m : Mark) → Marked m
marked mark.Fresh = fresh refl
marked (mark.Open p) = opened p refl
marked (mark.Done c) = done c refl

-- a node with a mark is one
pub seen_within : (marks : List Mark) (v : ℕ) → (mark_at marks v ≡ mark.Fresh → ⊥) → v < length marks
seen_within marks v seen = elim (cases_le v) [ inl lt ↦ lt | inr ge ↦ absurd (seen (get_or_past marks v mark.Fresh ge)) ]
  where
    cases_le : (v : ℕ) → (v < length marks) ⊎ (length marks ≤ v)
    cases_le v = split v (length marks)
      where
        split : (a b : ℕ) → (a < b) ⊎ (b ≤ a)
        split a zero = inr (omega arith)
        split zero (suc b) = inl (omega arith)
        split (suc a) (suc b) = elim (split a b) [ inl h ↦ inl (omega arith) | inr h ↦ inr (omega arith) ]

pub set_here : (marks : List Mark) (v : ℕ) (m : Mark) → v < length marks → mark_at (set marks v m) v ≡ m
set_here marks v m within = get_or-set_same marks v m mark.Fresh within

pub set_there : (marks : List Mark) (v w : ℕ) (m : Mark) → (w ≡ v → ⊥) → mark_at (set marks v m) w ≡ mark_at marks w
set_there marks v w m apart = get_or-set_other marks v w m mark.Fresh apart

-- a write of anything but Fresh
pub set_seen : (marks : List Mark) (v : ℕ) (m : Mark) → (m ≡ mark.Fresh → ⊥) → StaySeen marks (set marks v m)
set_seen marks v m seen w was now = elim (cases_eq w v) [
  | inl same ↦ seen (sym (set_here marks v m (seen_within marks v (λ e. was (ap (mark_at marks) same ∙ e)))) ∙ sym (ap (mark_at (set marks v m)) same) ∙ now)
  | inr apart ↦ was (sym (set_there marks v w m apart) ∙ now)
]

-- ---- many nodes that are done

pub done_stays : (vs : List ℕ) (c : Bool) (marks : List Mark) (v : ℕ) → mark_at marks v ≡ mark.Done c → mark_at (done_all vs c marks) v ≡ mark.Done c
done_stays [] c marks v is = is
done_stays (x ∷ xs) c marks v is = done_stays xs c (set marks x (mark.Done c)) v (elim (cases_eq v x) [
  | inl same ↦ ap (mark_at (set marks x (mark.Done c))) same ∙ set_here marks x (mark.Done c) (subst (λ (q : ℕ). q < length marks) same (seen_within marks v (λ e. fresh_done c (sym e ∙ is))))
  | inr apart ↦ set_there marks x v (mark.Done c) apart ∙ is
])

pub length-done : (vs : List ℕ) (c : Bool) (marks : List Mark) → length (done_all vs c marks) ≡ length marks
length-done [] c marks = refl
length-done (x ∷ xs) c marks = length-done xs c (set marks x (mark.Done c)) ∙ length-set marks x (mark.Done c)

-- the first element, or one of the rest
pub contains_cases : (x : ℕ) (xs : List ℕ) (y : ℕ) → Contains (x ∷ xs) y → (x ≡ y) ⊎ Contains xs y
contains_cases x xs y (zero, within, is) = inl is
contains_cases x xs y (suc k, within, is) = inr (k, (let w : suc k < suc (length xs) = within in omega arith), is)

pub contains_first : (x : ℕ) (xs : List ℕ) → Contains (x ∷ xs) x
contains_first x xs = (0, omega arith, refl)

pub contains_rest : (x : ℕ) (xs : List ℕ) (y : ℕ) → Contains xs y → Contains (x ∷ xs) y
contains_rest x xs y (k, within, is) = (suc k, (let w : k < length xs = within in omega arith), is)

pub done_at : (vs : List ℕ) (c : Bool) (marks : List Mark) (v : ℕ) → v < length marks → Contains vs v → mark_at (done_all vs c marks) v ≡ mark.Done c
done_at [] c marks v within h = absurd (contains_none v h)
done_at (x ∷ xs) c marks v within h = elim (contains_cases x xs v h) [
  | inl same ↦ done_stays xs c (set marks x (mark.Done c)) v (ap (mark_at (set marks x (mark.Done c))) (sym same) ∙ set_here marks x (mark.Done c) (subst (λ (q : ℕ). q < length marks) (sym same) within))
  | inr rest ↦ done_at xs c (set marks x (mark.Done c)) v (subst (λ (n : ℕ). v < n) (sym (length-set marks x (mark.Done c))) within) rest
]

pub done_apart : (vs : List ℕ) (c : Bool) (marks : List Mark) (v : ℕ) → (Contains vs v → ⊥) → mark_at (done_all vs c marks) v ≡ mark_at marks v
done_apart [] c marks v apart = refl
done_apart (x ∷ xs) c marks v apart =
    done_apart xs c (set marks x (mark.Done c)) v (λ h. apart (contains_rest x xs v h))
    ∙ set_there marks x v (mark.Done c) (λ same. apart (subst (λ (q : ℕ). Contains (x ∷ xs) q) (sym same) (contains_first x xs)))

pub done_seen : (vs : List ℕ) (c : Bool) (marks : List Mark) → StaySeen marks (done_all vs c marks)
done_seen [] c marks v was now = was now
done_seen (x ∷ xs) c marks v was now = done_seen xs c (set marks x (mark.Done c)) v (set_seen marks x (mark.Done c) (λ e. fresh_done c (sym e)) v was) now

-- ---- the steps that are left

pub set_left : (n : ℕ) (marks : List Mark) (v : ℕ) (m : Mark) → v < length marks → sum_by (steps_for n) (set marks v m) + steps_for n (mark_at marks v) ≡ sum_by (steps_for n) marks + steps_for n m
set_left n marks v m within = sum_by-set (steps_for n) marks v m mark.Fresh within

pub done_left : (n : ℕ) (vs : List ℕ) (c : Bool) (marks : List Mark) → ((v : ℕ) → Contains vs v → v < length marks) → sum_by (steps_for n) (done_all vs c marks) ≤ sum_by (steps_for n) marks
done_left n [] c marks within = omega arith
done_left n (x ∷ xs) c marks within =
    let one : sum_by (steps_for n) (set marks x (mark.Done c)) + steps_for n (mark_at marks x) ≡ sum_by (steps_for n) marks + 0 = set_left n marks x (mark.Done c) (within x (contains_first x xs)) in
    let rest : sum_by (steps_for n) (done_all xs c (set marks x (mark.Done c))) ≤ sum_by (steps_for n) (set marks x (mark.Done c)) =
    done_left n xs c (set marks x (mark.Done c)) (λ v h. subst (λ (k : ℕ). v < k) (sym (length-set marks x (mark.Done c))) (within v (contains_rest x xs v h))) in
    omega arith

-- ---- loops

pub fresh_more : (marks : List Mark) → ((v : ℕ) → mark_at marks v ≡ mark.Fresh) → (v : ℕ) → mark_at (marks ++ (mark.Fresh ∷ [])) v ≡ mark.Fresh
fresh_more [] all zero = refl
fresh_more [] all (suc v) = refl
fresh_more (m ∷ ms) all zero = all zero
fresh_more (m ∷ ms) all (suc v) = fresh_more ms (λ w. all (suc w)) v

pub done_step : (nodes : List ℕ) (i : ℕ) (c : Bool) (marks total : List Mark) (node : ℕ) → i < length nodes → node ≡ get_or nodes i 0 → done_all (drop i nodes) c marks ≡ total
    → done_all (drop (i + 1) nodes) c (set marks node (mark.Done c)) ≡ total
done_step nodes i c marks total node within is all =
    ap (λ (q : ℕ). done_all (drop (i + 1) nodes) c (set marks q (mark.Done c))) is
    ∙ sym (ap (λ (q : List ℕ). done_all q c marks) (drop-cons nodes i 0 within ∙ ap (λ (n : ℕ). get_or nodes i 0 ∷ drop n nodes) (sym (add-one i))))
    ∙ all

pub done_end : (nodes : List ℕ) (i : ℕ) (c : Bool) (marks total : List Mark) → length nodes ≤ i → done_all (drop i nodes) c marks ≡ total → marks ≡ total
done_end nodes i c marks total over all = ap (λ (q : List ℕ). done_all q c marks) (sym (drop_all i nodes over)) ∙ all
