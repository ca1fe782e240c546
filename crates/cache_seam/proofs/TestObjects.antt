-- What the tests' builders make.
use Rattle.std.proofs.Common.{◌≡◌, ℕ, true, List, [], ◌∷◌, ◌++◌, length, Vec, Global, Option, All, refl, ap, sym, subst, ◌∙◌, arith}
use Rattle.std.proofs.lemmas.List.Elements.{All-nil, All-cons, All-append}
use Rattle.json_value.specs.Grammar.{bare}
use Rattle.cache_terms.specs.declared.keys.Key.{Key}
use Rattle.cache_book.specs.declared.found.Found.{Found}
use Rattle.cache_book.specs.Permits.{Pinned}
use Rattle.cache_book.specs.Calls.{Answer, Begin, Look, Looked}
use Rattle.cache_seam.specs.declared.foreign.Foreign.{Foreign}
use Rattle.cache_seam.specs.Objects.{IsObjectText}
use Rattle.cache_seam.specs.Seen.{Seen}
use Rattle.cache_seam.specs.Turns.{Calls, begun_after}
use Rattle.cache_seam.specs.Meddling.{IsFitting, steps_of}
use Rattle.cache_seam.proofs.Hands.{look_answers}
use Rattle.cache_seam.specs.Hand.{AreAnswers}
use Rattle.cache_book.specs.declared.found.Found.TheVariants as found

pub empty_object : IsObjectText (123 ∷ 125 ∷ [])
empty_object = ([], record { before = []; inner = 123 ∷ 125 ∷ []; after = []; parts = refl; before_is = tt; inner_is = bare [] tt; after_is = tt })

pub begun_of : (old new : Seen) (who : ℕ) (answer : Answer) → Calls old (Begin who) answer new → new.begun ≡ true
begun_of old new who answer h = ap (λ (c : Seen). c.begun) h.after ∙ ap (λ (k : _). begun_after k old.begun) h.call_is

same_length : (pass : Pinned) (id : Option (List ℕ)) (keys : List Key) (fs : List Found) → AreAnswers pass id keys fs → length fs ≡ length keys
same_length pass id [] [] h = refl
same_length pass id (k ∷ keys) (found.Hit l q v m b ∷ fs) h = omega (arith, same_length pass id keys fs h)
same_length pass id (k ∷ keys) (found.Miss l p ∷ fs) h = omega (arith, same_length pass id keys fs h.1)
same_length pass id (k ∷ keys) (found.Bypass p ∷ fs) h = omega (arith, same_length pass id keys fs h.1)
same_length pass id [] (f ∷ fs) h = absurd h
same_length pass id (k ∷ keys) [] h = absurd h

-- each ask has its answer
pub asked_one : (old new : Seen) (pass : Pinned) (id : Option (List ℕ)) (keys : List Key) (now : ℕ) (fs : List Found) → length keys ≡ 1 → Calls old (Look pass id keys now) (Looked fs) new → length fs ≡ 1
asked_one old new pass id keys now fs one h = same_length pass id keys fs (look_answers old new pass id keys now fs h) ∙ one

pub fits_none : All IsFitting []
fits_none = All-nil IsFitting

pub fits_one : (step : Foreign) → IsFitting step → All IsFitting (step ∷ [])
fits_one step h = All-cons IsFitting step [] h (All-nil IsFitting)

steps_push : (lists : List (Vec Foreign Global)) (v : Vec Foreign Global) → steps_of (lists ++ v ∷ []) ≡ steps_of lists ++ v.items ∷ []
steps_push [] v = refl
steps_push (x ∷ lists) v = ap (λ (l : List (List Foreign)). x.items ∷ l) (steps_push lists v)

pub fits_push : (lists : List (Vec Foreign Global)) (v : Vec Foreign Global) → All (All IsFitting) (steps_of lists) → All IsFitting v.items → All (All IsFitting) (steps_of (lists ++ v ∷ []))
fits_push lists v all last = subst (All (All IsFitting)) (sym (steps_push lists v)) (All-append (All IsFitting) (steps_of lists) (v.items ∷ []) all (All-cons (All IsFitting) v.items [] last (All-nil (All IsFitting))))
