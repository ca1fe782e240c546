-- What a text spells where it may open some more levels, it spells where it may open at least as many.
use Rattle.std.proofs.Common.{ℕ, zero, suc, ◌≤◌, List, [], ◌∷◌, ◌++◌, arith}
use Rattle.json_value.specs.declared.tree.Json.{Json}
use Rattle.json_value.specs.Grammar.{Rules, Spells, null, yes, no, number, string, empty, list, bare, object, Rest, close, more, Pair, pair, Members, shut, another}

module _ (r : Rules) where
  mutual
    pub value_deeper : (d : ℕ) (v : Json) (a : List ℕ) → Spells r d v a → (e : ℕ) → d ≤ e → Spells r e v a
    value_deeper _ _ _ (null {d = d}) e le = null
    value_deeper _ _ _ (yes {d = d}) e le = yes
    value_deeper _ _ _ (no {d = d}) e le = no
    value_deeper _ _ _ (number {d = d} a is) e le = number a is
    value_deeper _ _ _ (string {d = d} t a chars) e le = string t a chars
    value_deeper _ _ _ (empty {d = d} s space) zero le = absurd (omega arith)
    value_deeper _ _ _ (empty {d = d} s space) (suc e) le = empty s space
    value_deeper _ _ _ (list {d = d} s x a xs b space first others) zero le = absurd (omega arith)
    value_deeper _ _ _ (list {d = d} s x a xs b space first others) (suc e) le =
        list s x a xs b space (value_deeper d x a first e (omega arith)) (rest_deeper d xs b others e (omega arith))
    value_deeper _ _ _ (bare {d = d} s space) zero le = absurd (omega arith)
    value_deeper _ _ _ (bare {d = d} s space) (suc e) le = bare s space
    value_deeper _ _ _ (object {d = d} s n x a ms b space first others) zero le = absurd (omega arith)
    value_deeper _ _ _ (object {d = d} s n x a ms b space first others) (suc e) le =
        object s n x a ms b space (pair_deeper d n x a first e (omega arith)) (members_deeper d ((n, x) ∷ []) ms b others e (omega arith))

    pub rest_deeper : (d : ℕ) (xs : List Json) (b : List ℕ) → Rest r d xs b → (e : ℕ) → d ≤ e → Rest r e xs b
    rest_deeper _ _ _ (close {d = d} s space) e le = close s space
    rest_deeper _ _ _ (more {d = d} s s' x a xs b space space' first others) e le =
        more s s' x a xs b space space' (value_deeper d x a first e le) (rest_deeper d xs b others e le)

    pub pair_deeper : (d : ℕ) (n : List ℕ) (x : Json) (a : List ℕ) → Pair r d n x a → (e : ℕ) → d ≤ e → Pair r e n x a
    pair_deeper _ _ _ _ (pair {d = d} n l s s' x a chars space space' value) e le = pair n l s s' x a chars space space' (value_deeper d x a value e le)

    pub members_deeper : (d : ℕ) (before ms : List (List ℕ × Json)) (b : List ℕ) → Members r d before ms b → (e : ℕ) → d ≤ e → Members r e before ms b
    members_deeper _ _ _ _ (shut {d = d} {before = before} s space) e le = shut s space
    members_deeper _ _ _ _ (another {d = d} {before = before} s s' n x a ms b space space' apart first others) e le =
        another s s' n x a ms b space space' apart (pair_deeper d n x a first e le) (members_deeper d (before ++ ((n, x) ∷ [])) ms b others e le)
