-- What is printed of a value that was read stands for that value alone.
use Rattle.std.proofs.Common.{◌≡◌, sym, subst, ℕ, List}
use Rattle.json_value.specs.declared.tree.Json.{Json}
use Rattle.json_value.specs.Grammar.{strict, IsText}
use Rattle.json_value.specs.Laws.{HasText}
use Rattle.json_print.specs.Print.{print}
use Rattle.json_print.proofs.RoundTrip.{text_again}
use Rattle.json_read.proofs.OneValue.{one_value}

pub printed_alone : (v w : Json) → HasText strict v → IsText strict w (print v) → w ≡ v
printed_alone v w of stands = one_value strict w v (print v) stands (text_again v of.0 of.1)

pub printed_apart : (v w : Json) → HasText strict v → HasText strict w → print v ≡ print w → v ≡ w
printed_apart v w of of' same = printed_alone w v of' (subst (λ (text : List ℕ). IsText strict v text) same (text_again v of.0 of.1))
