-- A word is one number at most.
use Rattle.std.proofs.Common.{◌≡◌, ℕ, ◌<◌, ◌^◌, List, sym, ◌∙◌, arith}
use Rattle.std.proofs.lemmas.Fmt.{decimal_injective}
use Rattle.script_lines.specs.Script.{IsNumber}

small : (n : ℕ) → n < 10 ^ 15 → n < 2 ^ 64
small n h = omega arith

pub number_same : (word : List ℕ) (m n : ℕ) → IsNumber word m → IsNumber word n → m ≡ n
number_same word m n h k = decimal_injective m n (small m h.short) (small n k.short) (sym h.text ∙ k.text)
