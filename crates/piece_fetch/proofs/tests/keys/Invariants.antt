use Rattle.std.proofs.Common.{◌≡◌, All}
use Rattle.std.specs.Prelude.{codes}
use Rattle.piece_fetch.proofs.tests.keys.Given as goal

abbrev pub invariant-keys : goal.invariant-keys
invariant-keys g l = All (λ key. key.sub ≡ codes "shop") l.keys.items
