-- Texts with commas between them.
use Rattle.std.proofs.Common.{◌≡◌, ℕ, List, [], ◌∷◌, ◌++◌, map, ap, sym, ◌∙◌, append_assoc}
use Rattle.std.proofs.lemmas.List.{append-nil}
use Rattle.cache_book.specs.Permits.{Granted}
use Rattle.fetch_asks.specs.Asking.{joined, representation_of}
use Rattle.piece_fetch.specs.Between.{after_commas}

-- the first, and then each with a comma before it
pub joined_first : (text : List ℕ) (texts : List (List ℕ)) → joined (text ∷ texts) ≡ text ++ after_commas texts
joined_first text [] = sym (append-nil text)
joined_first text (next ∷ texts) = ap (λ (l : List ℕ). text ++ (44 ∷ l)) (joined_first next texts)

-- what is put after a text: the first, and then the others
pub joined_put : (permits others : List Granted) (first : Granted) (before mid after : List ℕ) → permits ≡ first ∷ others → mid ≡ before ++ representation_of first → after ≡ mid ++ after_commas (map representation_of others) → after ≡ before ++ joined (map representation_of permits)
joined_put permits others first before mid after split one rest =
    rest ∙ ap (λ (l : List ℕ). l ++ after_commas (map representation_of others)) one ∙ append_assoc before (representation_of first) (after_commas (map representation_of others))
    ∙ ap (λ (l : List ℕ). before ++ l) (sym (joined_first (representation_of first) (map representation_of others)) ∙ ap (λ (ps : List Granted). joined (map representation_of ps)) (sym split))
