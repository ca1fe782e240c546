-- What one request leaves.
use Rattle.std.proofs.Common.{◌≡◌, ◌⊎◌, inl, inr, ℕ, zero, suc, ◌+◌, List, [], ◌∷◌, ◌++◌, length, drop, refl, sym, ap, ◌∙◌, subst, Option, Some, None}
use Rattle.line_base.specs.Lines.{Line, Entry}
use Rattle.line_base.specs.declared.script.Told as tellings
use Rattle.line_base.specs.Told.{Script, script_line, entry_of, entries_told}
use Rattle.partial_fetch.specs.Headline.{OverFirst}
use Rattle.case_run.specs.Playing.{IsOneLine, script_in}

pub entries-drop : (n : ℕ) (ts : List tellings.Told) → entries_told (drop n ts) ≡ drop n (entries_told ts)
entries-drop zero ts = refl
entries-drop (suc n) [] = refl
entries-drop (suc n) (t ∷ ts) = entries-drop n ts

pub length-entries : (ts : List tellings.Told) → length (entries_told ts) ≡ length ts
length-entries [] = refl
length-entries (t ∷ ts) = ap suc (length-entries ts)

-- the calls that were told since
pub since_is : (old new : List Entry) (ts us : List tellings.Told) (n : ℕ) → entries_told ts ≡ old → entries_told us ≡ new → n ≡ length ts → entries_told (drop n us) ≡ drop (length old) new
since_is old new ts us n before after is =
    let count : n ≡ length old = is ∙ sym (length-entries ts) ∙ ap length before in
    entries-drop n us ∙ ap (drop n) after ∙ ap (λ k. drop k new) count

-- over one line: it is one afterwards, and this was done over it
pub over_one : (lines others : List Script) (P : Line → Line → Type 0) → IsOneLine lines → OverFirst lines others (λ l m. P (script_line l) (script_line m)) → IsOneLine others × P (script_line (script_in lines)) (script_line (script_in others))
over_one [] others P (l, e) over = absurd cc
over_one (k ∷ ks) [] P (l, e) over = absurd over
over_one (k ∷ ks) (m ∷ ms) P (l, e) over =
    let rest : ks ≡ [] = cc in
    ((m, ap (λ xs. m ∷ xs) (over.1 ∙ rest)), over.0)
