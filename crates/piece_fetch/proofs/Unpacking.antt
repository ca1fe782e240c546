-- The pieces of a reply, one after another.
use Rattle.std.proofs.Common.{◌≡◌, List, [], ◌∷◌, ◌++◌, length, map, sym, ◌∙◌, subst, arith, append_assoc}
use Rattle.std.specs.List.{zip}
use Rattle.std.proofs.lemmas.List.{append-nil}
use Rattle.json_value.specs.declared.tree.Json.{Json}
use Rattle.cache_terms.specs.declared.tags.Tags.{Tags}

module _ {R : Type 0} (f : Json × Tags → R) where
  -- one piece more
  pub offered_more : (vs rest : List Json) (ts left : List Tags) (v : Json) (t : Tags) (so_far whole : List R) → vs ≡ v ∷ rest → ts ≡ t ∷ left → so_far ++ map f (zip vs ts) ≡ whole → (so_far ++ f (v, t) ∷ []) ++ map f (zip rest left) ≡ whole
  offered_more vs rest ts left v t so_far whole one two h =
      let both : so_far ++ map f (zip (v ∷ rest) (t ∷ left)) ≡ whole =
      subst (λ (l : List Json). so_far ++ map f (zip l (t ∷ left)) ≡ whole) one (subst (λ (l : List Tags). so_far ++ map f (zip vs l) ≡ whole) two h) in
      append_assoc so_far (f (v, t) ∷ []) (map f (zip rest left)) ∙ both

  pub offered_all : (vs : List Json) (ts : List Tags) (so_far whole : List R) → length vs ≡ 0 → so_far ++ map f (zip vs ts) ≡ whole → so_far ≡ whole
  offered_all [] ts so_far whole none h = sym (append-nil so_far) ∙ h
  offered_all (v ∷ vs) ts so_far whole none h = absurd (omega (arith, none))
