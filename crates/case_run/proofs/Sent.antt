-- The lines of calls.
use Rattle.std.proofs.Common.{◌≡◌, ℕ, ◌+◌, ◌<◌, ◌≤◌, List, [], ◌∷◌, ◌++◌, length, get_or, drop, sym, ap, ◌∙◌, append_assoc}
use Rattle.std.proofs.lemmas.List.{append-nil, drop_more, drop_all}
use Rattle.line_base.specs.declared.script.Told.{Told}
use Rattle.line_base.specs.Told.{entry_of, entries_told}
use Rattle.case_run.specs.Texts.{call_text, sent_text}

from_here : (ts : List Told) (i : ℕ) (t : Told) → i < length ts → t ≡ get_or ts i t → drop i ts ≡ t ∷ drop (i + 1) ts
from_here ts i t lt is = drop_more ts i t lt ∙ ap (λ x. x ∷ drop (i + 1) ts) (sym is)

pub put_more : (ts : List Told) (i : ℕ) (t : Told) (mid new whole : List ℕ) → i < length ts → t ≡ get_or ts i t → new ≡ mid ++ call_text t.call
    → mid ++ sent_text (entries_told (drop i ts)) ≡ whole → new ++ sent_text (entries_told (drop (i + 1) ts)) ≡ whole
put_more ts i t mid new whole lt is new_is kept =
    let rest = sent_text (entries_told (drop (i + 1) ts)) in
    ap (λ (l : List ℕ). l ++ rest) new_is ∙ append_assoc mid (call_text t.call) rest ∙ sym (ap (λ (xs : List Told). mid ++ sent_text (entries_told xs)) (from_here ts i t lt is)) ∙ kept

pub put_all_of : (ts : List Told) (i : ℕ) (mid whole : List ℕ) → length ts ≤ i → mid ++ sent_text (entries_told (drop i ts)) ≡ whole → mid ≡ whole
put_all_of ts i mid whole past kept =
    sym (append-nil mid) ∙ sym (ap (λ (xs : List Told). mid ++ sent_text (entries_told xs)) (drop_all i ts past)) ∙ kept
