-- What is still to be written of a list or an object.
use Rattle.std.proofs.Common.{◌≡◌, ℕ, List, [], ◌∷◌, ◌++◌, refl, ap, ◌∙◌, append_assoc, length, drop, ◌≤◌}
use Rattle.std.proofs.lemmas.List.{drop_all}
use Rattle.std.specs.List.{join_with_byte}
use Rattle.json_print.specs.Print.{comma, bracketed}

-- after an item, through the bracket
abbrev pub rest : ℕ → List (List ℕ) → List ℕ
rest right [] = right ∷ []
rest right (x ∷ xs) = 44 ∷ (x ++ rest right xs)

-- after so many items
abbrev pub tail : ℕ → ℕ → List (List ℕ) → List ℕ
tail right before [] = right ∷ []
tail right before (x ∷ xs) = comma before ++ (x ++ rest right xs)

pub join-rest : (right : ℕ) (x : List ℕ) (xs : List (List ℕ)) → join_with_byte 44 (x ∷ xs) ++ (right ∷ []) ≡ x ++ rest right xs
join-rest right x [] = refl
join-rest right x (y ∷ xs) = rw (append_assoc, join-rest right y xs)

pub bracketed-tail : (left right : ℕ) (texts : List (List ℕ)) → bracketed left texts right ≡ left ∷ tail right 0 texts
bracketed-tail left right [] = refl
bracketed-tail left right (x ∷ xs) = ap (λ (t : List ℕ). left ∷ t) (join-rest right x xs)

-- the bracket at the end closes what is left after the last item
pub wrote : {X : Type 0} (g : List X → List (List ℕ)) (xs : List X) (i : ℕ) (start now end : List ℕ) (left right : ℕ) →
    g [] ≡ [] → length xs ≤ i → now ++ tail right i (g (drop i xs)) ≡ start ++ (left ∷ tail right 0 (g xs)) → end ≡ now ++ (right ∷ []) →
    end ≡ start ++ bracketed left (g xs) right
wrote g xs i start now end left right none all kept is =
    let last : now ++ (right ∷ []) ≡ start ++ (left ∷ tail right 0 (g xs)) = rw (drop_all i xs all, none) at kept in
    rw (bracketed-tail left right (g xs)) (is ∙ last)
