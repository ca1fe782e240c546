-- What the index says of the entries.
use Rattle.std.proofs.Common.{◌≡◌, ℕ, zero, suc, ◌<◌, Bool, true, false, List, [], ◌∷◌, ◌++◌, Some, None, ◌⊎◌, inl, inr, refl, ap, ◌∙◌, sym, arith, length, get_or, true≢false, subst}
use Rattle.std.specs.Prelude.{map, ◌||◌, if◌then◌else◌, slice_get}
use Rattle.std.specs.List.{list_any, position}
use Rattle.std.specs.Str.{bytes_eq}
use Rattle.std.proofs.lemmas.List.{map-append}
use Rattle.std.proofs.lemmas.List.Quantifiers.{position-Some}
use Rattle.plan_book.specs.declared.book.Entry.{Entry}
use Rattle.plan_book.specs.Book.{entry_with, has_entry, text_of}

either : (b : Bool) → (b ≡ true) ⊎ (b ≡ false)
either true = inl refl
either false = inr refl

pub has-any : (text : List ℕ) (entries : List Entry) → list_any (bytes_eq text) (map text_of entries) ≡ has_entry text entries
has-any text [] = refl
has-any text (entry ∷ entries) = ap (λ (b : Bool). bytes_eq text entry.text || b) (has-any text entries)

pub absent : (text : List ℕ) (entries : List Entry) → has_entry text entries ≡ false → entry_with text entries ≡ None
absent text [] none = refl
absent text (entry ∷ entries) none = by_same (either (bytes_eq text entry.text)) (absent text entries)
  where
    by_same : (bytes_eq text entry.text ≡ true) ⊎ (bytes_eq text entry.text ≡ false) → (has_entry text entries ≡ false → entry_with text entries ≡ None) → entry_with text (entry ∷ entries) ≡ None
    by_same (inl e) rest = let here : has_entry text (entry ∷ entries) ≡ true = rw e refl in absurd (true≢false (sym here ∙ none))
    by_same (inr e) rest = let later : has_entry text entries ≡ false = rw e at none in rw e (rest later)

-- the first entry whose text is this one stands at this index
at_first : (text : List ℕ) (entries : List Entry) (i : ℕ) (d : List ℕ) → i < length (map text_of entries) → bytes_eq text (get_or (map text_of entries) i d) ≡ true →
    ((k : ℕ) → k < i → bytes_eq text (get_or (map text_of entries) k d) ≡ false) → slice_get entries i ≡ entry_with text entries
at_first text [] i d short here before = absurd (omega arith)
at_first text (entry ∷ entries) zero d short here before = rw here refl
at_first text (entry ∷ entries) (suc i) d short here before =
    let other : bytes_eq text entry.text ≡ false = before 0 (omega arith) in
    let rest : slice_get entries i ≡ entry_with text entries = at_first text entries i d (omega arith) here (λ k below. before (suc k) (omega arith)) in
    rw other rest

pub found_at : (text : List ℕ) (entries : List Entry) (texts : List (List ℕ)) (i : ℕ) → texts ≡ map text_of entries → Some i ≡ position (bytes_eq text) texts → slice_get entries i ≡ entry_with text entries
found_at text entries texts i are found =
    let first = position-Some (bytes_eq text) (map text_of entries) i text (subst (λ ts. position (bytes_eq text) ts ≡ Some i) are (sym found)) in
    at_first text entries i text first.0 first.1 first.2

pub texts_more : (entries more : List Entry) (texts next : List (List ℕ)) (entry : Entry) (t : List ℕ) → texts ≡ map text_of entries → list_any (bytes_eq entry.text) texts ≡ false → t ≡ entry.text →
    next ≡ (if list_any (bytes_eq t) texts then texts else texts ++ (t ∷ [])) → more ≡ entries ++ (entry ∷ []) → next ≡ map text_of more
texts_more entries more texts next entry t are new copied inserted pushed =
    let same : list_any (bytes_eq t) texts ≡ false = ap (λ (x : List ℕ). list_any (bytes_eq x) texts) copied ∙ new in
    let appended : next ≡ texts ++ (t ∷ []) = rw same at inserted in
    rw (appended, pushed, are, copied) (sym (map-append text_of entries (entry ∷ [])))
