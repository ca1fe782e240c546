-- What the tests' lanes are.
use Rattle.std.proofs.Common.{◌≡◌, [], ◌∷◌, All}
use Rattle.std.proofs.lemmas.List.Elements.{All-nil, All-cons}
use Rattle.line_base.specs.Lanes.{LaneOf}

pub fresh_one : {L : Type 0} (lane : LaneOf L) → lane.answers ≡ [] → All (λ (l : LaneOf L). l.answers ≡ []) (lane ∷ [])
fresh_one {L = L} lane fresh = All-cons (λ (l : LaneOf L). l.answers ≡ []) lane [] fresh (All-nil (λ (l : LaneOf L). l.answers ≡ []))
