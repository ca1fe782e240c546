-- What is written of items, one after the other.
use Rattle.std.proofs.Common.{◌≡◌, ℕ, List, ◌∷◌, ◌++◌, map, ap, sym, ◌∙◌, append_assoc}
use Rattle.piece_fetch.specs.Between.{after_commas}
use Rattle.piece_fetch.proofs.Joining.{joined_first}
use Rattle.workload.specs.declared.form.Form.{Form}
use Rattle.workload.specs.Replying.{form_text, forms_text}

-- what is written after a text: the first, and then the others
pub forms_put : (f : Form) (items others : List ℕ) (first : ℕ) (before mid after : List ℕ) → items ≡ first ∷ others → mid ≡ before ++ form_text f first → after ≡ mid ++ after_commas (map (form_text f) others) → after ≡ before ++ forms_text f items
forms_put f items others first before mid after split one rest =
    rest ∙ ap (λ (l : List ℕ). l ++ after_commas (map (form_text f) others)) one ∙ append_assoc before (form_text f first) (after_commas (map (form_text f) others))
    ∙ ap (λ (l : List ℕ). before ++ l) (sym (joined_first (form_text f first) (map (form_text f) others)) ∙ ap (forms_text f) (sym split))
