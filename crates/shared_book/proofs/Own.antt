-- The events of one user in the last epoch are those that its turns appended.
use Rattle.std.proofs.Common.{◌≡◌, ◌≢◌, ℕ, ◌≤◌, ◌==◌, List, [], ◌∷◌, ◌++◌, map, length, drop, refl, sym, ap, ◌∙◌, inl, inr, arith, append_assoc, le_refl}
use Rattle.std.specs.Prelude.{if◌then◌else◌}
use Rattle.std.proofs.lemmas.List.{append-nil}
use Rattle.std.proofs.Math.Seq.{drop-append_seam}
use mathlib.Core.Logic.{dite}
use native.Mathlib.Decide.{ℕ_discrete}
use Rattle.turn_lock.specs.declared.seats.Turn.{Turn}
use Rattle.cache_terms.specs.declared.events.Event.{Event}
use Rattle.cache_terms.specs.declared.events.Limits.{Limits}
use Rattle.cache_model.specs.State.{State, opened}
use Rattle.cache_model.specs.Story.{Adds, Without, By}
use Rattle.cache_seam.specs.Chains.{own_events, added_in, added_by}
use Rattle.cache_seam.proofs.ChainLaws.{pick_same, pick_other, own_all, own_none, own_append}
use Rattle.cache_seam.proofs.Hands.{adds_epoch}
use Rattle.shared_book.specs.Sharing.{Shared}
use Rattle.shared_book.specs.Handles.{Chained, visited}

-- the events of k in a, where a has the epoch n
base : ℕ → State → ℕ → List Event
base k a n = if a.epoch == n then own_events k a.journal else []

base_here : (k : ℕ) (a : State) (n : ℕ) → a.epoch ≡ n → base k a n ≡ own_events k a.journal
unfolding base
base_here k a n is = pick_same a.epoch n (own_events k a.journal) [] is

base_else : (k : ℕ) (a : State) (n : ℕ) → a.epoch ≢ n → base k a n ≡ []
unfolding base
base_else k a n ne = pick_other a.epoch n (own_events k a.journal) [] ne

-- what k has after ds is added to a
base_after : (k : ℕ) (a b : State) (ds : List Event) (n : ℕ) → Adds a b ds → b.epoch ≡ n → base k b n ≡ base k a n ++ own_events k ds
base_after k a b ds n (inl (x, y)) is = base_here k b n is ∙ (ap (own_events k) y ∙ ap (λ (l : List Event). l ++ own_events k ds) (sym (base_else k a n (λ e. omega arith))))
base_after k a b ds n (inr (x, y)) is = base_here k b n is ∙ (ap (own_events k) y ∙ (own_append k a.journal ds ∙ ap (λ (l : List Event). l ++ own_events k ds) (sym (base_here k a n (x ∙ is)))))

without_base : (k : ℕ) (a b : State) (n : ℕ) → Without a b k → b.epoch ≤ n → base k b n ≡ base k a n
without_base k a b n w le = let low = adds_epoch a b w.added w.adds in dite (ℕ_discrete b.epoch n)
    (λ is. base_after k a b w.added n w.adds is ∙ (ap (λ (l : List Event). base k a n ++ l) (own_none k w.added w.none) ∙ append-nil (base k a n)))
    (λ ne. base_else k b n ne ∙ sym (base_else k a n (λ e. ne (omega arith))))

drop_whole : (xs ys zs : List Event) → zs ≡ xs ++ ys → drop (length xs) zs ≡ ys
drop_whole xs ys zs e = ap (drop (length xs)) e ∙ drop-append_seam xs ys

appended_here : (a b : State) (s : ℕ) (ds : List Event) (n : ℕ) → Adds a b ds → b.epoch ≡ n → added_in n (record { found = a; left = b }) ≡ ds
appended_here a b s ds n (inl (x, y)) is = pick_same b.epoch n (if a.epoch == n then drop (length a.journal) b.journal else b.journal) [] is
    ∙ (pick_other a.epoch n (drop (length a.journal) b.journal) b.journal (λ e. omega arith) ∙ y)
appended_here a b s ds n (inr (x, y)) is = pick_same b.epoch n (if a.epoch == n then drop (length a.journal) b.journal else b.journal) [] is
    ∙ (pick_same a.epoch n (drop (length a.journal) b.journal) b.journal (x ∙ is) ∙ drop_whole a.journal ds b.journal y)

appended_else : (a b : State) (s n : ℕ) → b.epoch ≢ n → added_in n (record { found = a; left = b }) ≡ []
appended_else a b s n ne = pick_other b.epoch n (if a.epoch == n then drop (length a.journal) b.journal else b.journal) [] ne

by_base : (k : ℕ) (t : Turn Shared) (n : ℕ) → By t.entered.book t.left.book k → t.left.book.epoch ≤ n → base k t.left.book n ≡ base k t.entered.book n ++ added_in n (visited t)
by_base k t n b le = let low = adds_epoch t.entered.book t.left.book b.added b.adds in dite (ℕ_discrete t.left.book.epoch n)
    (λ is. base_after k t.entered.book t.left.book b.added n b.adds is ∙ ap (λ (l : List Event). base k t.entered.book n ++ l) (own_all k b.added b.all ∙ sym (appended_here t.entered.book t.left.book t.serving b.added n b.adds is)))
    (λ ne. base_else k t.left.book n ne ∙ (sym (base_else k t.entered.book n (λ e. ne (omega arith))) ∙ (sym (append-nil (base k t.entered.book n)) ∙ ap (λ (l : List Event). base k t.entered.book n ++ l) (sym (appended_else t.entered.book t.left.book t.serving n ne)))))

chained_epoch : (k : ℕ) (a : State) (ts : List (Turn Shared)) (b : State) → Chained k a ts b → a.epoch ≤ b.epoch
chained_epoch k a [] b c = let e = ap (λ (s : State). s.epoch) c in omega arith
chained_epoch k a (t ∷ ts) b c = let x = adds_epoch a t.entered.book c.0.added c.0.adds in let y = adds_epoch t.entered.book t.left.book c.1.added c.1.adds in let z = chained_epoch k t.left.book ts b c.2 in omega arith

chained_base : (k : ℕ) (a : State) (ts : List (Turn Shared)) (b : State) (n : ℕ) → Chained k a ts b → b.epoch ≤ n → base k b n ≡ base k a n ++ added_by n (map visited ts)
chained_base k a [] b n c le = ap (λ (s : State). base k s n) (sym c) ∙ sym (append-nil (base k a n))
chained_base k a (t ∷ ts) b n c le = let y = adds_epoch t.entered.book t.left.book c.1.added c.1.adds in let z = chained_epoch k t.left.book ts b c.2 in
    chained_base k t.left.book ts b n c.2 le ∙ (ap (λ (l : List Event). l ++ added_by n (map visited ts)) (by_base k t n c.1 (omega arith) ∙ ap (λ (l : List Event). l ++ added_in n (visited t)) (without_base k a t.entered.book n c.0 (omega arith)))
    ∙ append_assoc (base k a n) (added_in n (visited t)) (added_by n (map visited ts)))

base_opened : (k n : ℕ) (limits : Limits) → base k (opened limits 0) n ≡ []
base_opened k n limits = dite (ℕ_discrete 0 n) (λ is. base_here k (opened limits 0) n is) (λ ne. base_else k (opened limits 0) n ne)

pub own_told : (k : ℕ) (limits : Limits) (ts : List (Turn Shared)) (b c : State) → Chained k (opened limits 0) ts b → Without b c k → own_events k c.journal ≡ added_by c.epoch (map visited ts)
own_told k limits ts b c chain w = sym (base_here k c c.epoch refl) ∙ (without_base k b c c.epoch w (le_refl c.epoch) ∙ (chained_base k (opened limits 0) ts b c.epoch chain (adds_epoch b c w.added w.adds) ∙ ap (λ (l : List Event). l ++ added_by c.epoch (map visited ts)) (base_opened k c.epoch limits)))
