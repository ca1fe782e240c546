-- The pieces of the keys, one after another.
use Rattle.std.proofs.Common.{◌≡◌, ℕ, List, [], ◌∷◌, ◌++◌, length, sym, subst, arith, append_assoc, Option}
use Rattle.std.proofs.lemmas.List.{append-nil}
use Rattle.json_value.specs.declared.tree.Json.{Json}
use Rattle.piece_fetch.specs.declared.came.Brought.{Brought}
use Rattle.piece_fetch.specs.declared.fetched.Lasts.{Lasts}
use Rattle.piece_fetch.specs.declared.fetched.Origin.{Origin}
use Rattle.piece_fetch.specs.declared.slots.Slot.{Slot}
use Rattle.piece_fetch.specs.Fetching.{AreGathered, no_more}
use Rattle.piece_fetch.specs.Between.{asked_count}

-- the pieces so far, and those that complete them
abbrev pub Gathers : (line call : ℕ) → List Slot → List Brought → List Json → List Origin → List (Option Lasts) → List Slot → List Brought → Type 0
Gathers n k slots came pieces origins times all all_came = (xs : List Json) (os : List Origin) (ls : List (Option Lasts)) → AreGathered n k slots came xs os ls → AreGathered n k all all_came (pieces ++ xs) (origins ++ os) (times ++ ls)

-- one piece more
pub gathers_more : (n k : ℕ) (slots rest : List Slot) (came left : List Brought) (pieces : List Json) (origins : List Origin) (times : List (Option Lasts)) (all : List Slot) (all_came : List Brought) (x : Json) (o : Origin) (t : Option Lasts)
    → ((xs : List Json) (os : List Origin) (ls : List (Option Lasts)) → AreGathered n k rest left xs os ls → AreGathered n k slots came (x ∷ xs) (o ∷ os) (t ∷ ls))
    → Gathers n k slots came pieces origins times all all_came → Gathers n k rest left (pieces ++ x ∷ []) (origins ++ o ∷ []) (times ++ t ∷ []) all all_came
gathers_more n k slots rest came left pieces origins times all all_came x o t first whole = λ xs os ls h.
    subst (λ (l : List Json). AreGathered n k all all_came l ((origins ++ o ∷ []) ++ os) ((times ++ t ∷ []) ++ ls)) (sym (append_assoc pieces (x ∷ []) xs))
    (subst (λ (l : List Origin). AreGathered n k all all_came (pieces ++ (x ∷ xs)) l ((times ++ t ∷ []) ++ ls)) (sym (append_assoc origins (o ∷ []) os))
    (subst (λ (l : List (Option Lasts)). AreGathered n k all all_came (pieces ++ (x ∷ xs)) (origins ++ (o ∷ os)) l) (sym (append_assoc times (t ∷ []) ls)) (whole (x ∷ xs) (o ∷ os) (t ∷ ls) (first xs os ls h))))

pub gathers_all : (n k : ℕ) (slots : List Slot) (came : List Brought) (pieces : List Json) (origins : List Origin) (times : List (Option Lasts)) (all : List Slot) (all_came : List Brought) → length slots ≡ 0 → asked_count slots ≡ length came
    → Gathers n k slots came pieces origins times all all_came → AreGathered n k all all_came pieces origins times
gathers_all n k [] [] pieces origins times all all_came empty same whole =
    subst (λ (l : List Json). AreGathered n k all all_came l origins times) (append-nil pieces)
    (subst (λ (l : List Origin). AreGathered n k all all_came (pieces ++ []) l times) (append-nil origins)
    (subst (λ (l : List (Option Lasts)). AreGathered n k all all_came (pieces ++ []) (origins ++ []) l) (append-nil times) (whole [] [] [] no_more)))
gathers_all n k [] (v ∷ came) pieces origins times all all_came empty same whole = absurd (omega (arith, same))
gathers_all n k (s ∷ slots) came pieces origins times all all_came empty same whole = absurd (omega (arith, empty))
