-- Paths, one after another.
use Rattle.std.proofs.Common.{◌≡◌, ℕ, List, sym, subst, ◌⊎◌, inl, inr}
use Rattle.gql_spreads.specs.Graph.{IsEdge, ReachesNode, edge, further}
use Rattle.gql_spreads.specs.Search.{IsOnward}

pub then : {graph : List (List ℕ)} {a b c : ℕ} → ReachesNode graph a b → ReachesNode graph b c → ReachesNode graph a c
then (edge e) q = further e q
then (further e p) q = further e (then p q)

pub after_edge : (graph : List (List ℕ)) (b c d : ℕ) → IsEdge graph b c → IsOnward graph c d → ReachesNode graph b d
after_edge graph b c d e (inl is) = subst (λ (x : ℕ). ReachesNode graph b x) is (edge e)
after_edge graph b c d e (inr r) = further e r

-- along an edge between two nodes that lead on
pub along : (graph : List (List ℕ)) (a b c d : ℕ) → IsOnward graph a b → IsEdge graph b c → IsOnward graph c d → ReachesNode graph a d
along graph a b c d (inl is) e q = subst (λ (x : ℕ). ReachesNode graph x d) (sym is) (after_edge graph b c d e q)
along graph a b c d (inr p) e q = then p (after_edge graph b c d e q)
