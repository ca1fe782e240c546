use Rattle.std.proofs.Common.{◌≡◌, ◌∙◌, sym, ap, ℕ, ◌<◌, arith, Bool, true, ◌&&◌}
use Rattle.std.specs.Prelude.{nat_lt}
use Rattle.std.proofs.lemmas.Bool.Decides.{nat_tests}
use Rattle.http_wire.proofs.allowed.is_token.Goals as goal

some : (n : ℕ) (b x : Bool) → 0 < n → x ≡ b → x ≡ (nat_lt 0 n && b)
some n b x lt e = let t : nat_lt 0 n ≡ true = grind (arith, nat_tests) in e ∙ sym (ap (λ v. v && b) t)

pub returns-then-bytes-gt0 : goal.returns-then-bytes-gt0
returns-then-bytes-gt0 c = some _ _ _ c.if-bytes-gt0.true c.are_token_bytes.ensures
