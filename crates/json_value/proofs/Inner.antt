-- Where a text stands for a value, one stands for each of its parts.
use Rattle.std.proofs.Common.{◌≡◌, ap, sym, subst, ℕ, suc, List, [], ◌∷◌, ◌++◌, arith, inl, inr}
use Rattle.std.specs.Prelude.{Contains, map, true, false}
use Rattle.std.proofs.lemmas.List.{append-nil}
use Rattle.std.proofs.lemmas.List.Elements.{Contains-append_cases, Contains-push_cases}
use Rattle.json_value.specs.declared.tree.Json.{Json}
use Rattle.json_value.specs.declared.tree.Json.TheVariants as j
use Rattle.json_value.specs.Grammar.{Rules, Spells, null, yes, no, number, string, empty, list, bare, object, Rest, close, more, pair, Members, shut, another}
use Rattle.json_value.specs.Members.{parts_of, parts_at, value_of}
use Rattle.json_value.specs.Laws.{HasText}
use Rattle.json_value.proofs.Cases.{out-null, out-bool, out-number, out-string, out-list, out-object}
use Rattle.json_value.proofs.Deeper.{value_deeper}
use Rattle.json_value.proofs.Membership.{Contains-none}

module _ (r : Rules) where
  -- each of these is spelled by some text that may open d more levels
  AreSpelled : ℕ → List Json → Type 0
  AreSpelled d xs = (x : Json) → Contains xs x → (a : List ℕ) × Spells r d x a

  none_spelled : (d : ℕ) → AreSpelled d []
  unfolding AreSpelled
  none_spelled d = λ x has. absurd (Contains-none x has)

  one_more_spelled : (d : ℕ) (x : Json) (a : List ℕ) (xs : List Json) → Spells r d x a → AreSpelled d xs → AreSpelled d (x ∷ xs)
  unfolding AreSpelled
  one_more_spelled d x a xs first others = λ y has. elim (Contains-append_cases (x ∷ []) xs y has) [
    | inl one ↦ elim (Contains-push_cases [] x y one) [ inl never ↦ absurd (Contains-none y never) | inr e ↦ (a, subst (λ (z : Json). Spells r d z a) e first) ]
    | inr later ↦ others y later
  ]

  rest_spelled : (d : ℕ) (xs : List Json) (b : List ℕ) → Rest r d xs b → AreSpelled d xs
  rest_spelled _ _ _ (close {d = d} s space) = none_spelled d
  rest_spelled _ _ _ (more {d = d} s s' x a xs b space space' first others) = one_more_spelled d x a xs first (rest_spelled d xs b others)

  members_spelled : (d : ℕ) (before ms : List (List ℕ × Json)) (b : List ℕ) → Members r d before ms b → AreSpelled d (map value_of ms)
  members_spelled _ _ _ _ (shut {d = d} {before = before} s space) = none_spelled d
  members_spelled _ _ _ _ (another {d = d} {before = before} s s' n x a ms b space space' apart (pair _ l t t' _ w chars blank blank' value) others) =
      one_more_spelled d x w (map value_of ms) value (members_spelled d (before ++ ((n, x) ∷ [])) ms b others)

  deeper_spelled : (d : ℕ) (xs : List Json) → AreSpelled d xs → AreSpelled (suc d) xs
  unfolding AreSpelled
  deeper_spelled d xs all = λ x has. let p : (a : List ℕ) × Spells r d x a = all x has in (p.0, value_deeper r d x p.0 p.1 (suc d) (omega arith))

  at_parts : (d : ℕ) (v : Json) (xs : List Json) → parts_of v ≡ xs → AreSpelled d xs → AreSpelled d (parts_of v)
  at_parts d v xs e all = subst (AreSpelled d) (sym e) all

  value_spelled : (d : ℕ) (v : Json) (a : List ℕ) → Spells r d v a → AreSpelled d (parts_of v)
  value_spelled _ _ _ (null {d = d}) = at_parts d j.Null [] (ap parts_at out-null) (none_spelled d)
  value_spelled _ _ _ (yes {d = d}) = at_parts d (j.Bool true) [] (ap parts_at (out-bool true)) (none_spelled d)
  value_spelled _ _ _ (no {d = d}) = at_parts d (j.Bool false) [] (ap parts_at (out-bool false)) (none_spelled d)
  value_spelled _ _ _ (number {d = d} a is) = at_parts d (j.Number a) [] (ap parts_at (out-number a)) (none_spelled d)
  value_spelled _ _ _ (string {d = d} t a chars) = at_parts d (j.Str t) [] (ap parts_at (out-string t)) (none_spelled d)
  value_spelled _ _ _ (empty {d = d} s space) = at_parts (suc d) (j.List []) [] (ap parts_at (out-list [])) (none_spelled (suc d))
  value_spelled _ _ _ (list {d = d} s x a xs b space first others) =
      at_parts (suc d) (j.List (x ∷ xs)) (x ∷ xs) (ap parts_at (out-list (x ∷ xs))) (deeper_spelled d (x ∷ xs) (one_more_spelled d x a xs first (rest_spelled d xs b others)))
  value_spelled _ _ _ (bare {d = d} s space) = at_parts (suc d) (j.Object []) [] (ap parts_at (out-object [])) (none_spelled (suc d))
  value_spelled _ _ _ (object {d = d} s n x a ms b space (pair _ l t t' _ w chars blank blank' value) others) =
      at_parts (suc d) (j.Object ((n, x) ∷ ms)) (x ∷ map value_of ms) (ap parts_at (out-object ((n, x) ∷ ms)))
      (deeper_spelled d (x ∷ map value_of ms) (one_more_spelled d x w (map value_of ms) value (members_spelled d ((n, x) ∷ []) ms b others)))

  pub part_text : (v part : Json) → HasText r v → Contains (parts_of v) part → HasText r part
  unfolding AreSpelled
  part_text v x has_text has =
      let p : (a : List ℕ) × Spells r r.depth x a = value_spelled r.depth v has_text.1.inner has_text.1.inner_is x has in
      (p.0, record { before = []; inner = p.0; after = []; parts = sym (append-nil p.0); before_is = tt; inner_is = p.1; after_is = tt })
