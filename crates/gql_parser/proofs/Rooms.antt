-- What reading is, by the room that is left.
use Rattle.std.proofs.Common.{◌≡◌, ℕ, zero, suc, ◌-◌, ◌<◌, Bool, true, false, List, Ok, Err, refl, ap, ◌∙◌, arith}
use Rattle.std.proofs.lemmas.Bool.{cond-true, cond-false}
use Rattle.token_read.specs.Lexeme.{Lexeme}
use Rattle.token_read.specs.Parse.{sees}
use Rattle.gql_tokens.specs.declared.kinds.Kind.{Kind}
use Rattle.gql_tokens.specs.declared.kinds.Kind.TheVariants as k
use Rattle.gql_terms.specs.declared.faults.Refusal.TheVariants.{Unexpected, Deep}
use Rattle.gql_terms.specs.Grammar.{Rules, is}
use Rattle.gql_parser.specs.Reading.{value, list_of, object_of, simple, unmarked, type_ref, list_type, named_type, set, braced, gap}

pub value_deep_list : (c : Bool) (d : ℕ) (ts : List (Lexeme Kind)) → d ≡ 0 → sees (is k.OpenBracket) ts ≡ true → value c d ts ≡ Err (Deep, ts)
unfolding value
value_deep_list c d ts none h = ap (λ (n : ℕ). value c n ts) none ∙ cond-true _ _ _ h

pub value_deep_object : (c : Bool) (d : ℕ) (ts : List (Lexeme Kind)) → d ≡ 0 → sees (is k.OpenBracket) ts ≡ false → sees (is k.OpenBrace) ts ≡ true → value c d ts ≡ Err (Deep, ts)
unfolding value
value_deep_object c d ts none g h = ap (λ (n : ℕ). value c n ts) none ∙ cond-false _ _ _ g ∙ cond-true _ _ _ h

pub value_list : (c : Bool) (d : ℕ) (ts : List (Lexeme Kind)) → (d ≡ 0 → ⊥) → sees (is k.OpenBracket) ts ≡ true → value c d ts ≡ list_of c (value c (d - 1)) ts
unfolding value
value_list c d ts some h = let n : d ≡ suc (d - 1) = omega arith in ap (λ (n : ℕ). value c n ts) n ∙ cond-true _ _ _ h

pub value_object : (c : Bool) (d : ℕ) (ts : List (Lexeme Kind)) → (d ≡ 0 → ⊥) → sees (is k.OpenBracket) ts ≡ false → sees (is k.OpenBrace) ts ≡ true → value c d ts ≡ object_of (value c (d - 1)) ts
unfolding value
value_object c d ts some g h = let n : d ≡ suc (d - 1) = omega arith in ap (λ (n : ℕ). value c n ts) n ∙ cond-false _ _ _ g ∙ cond-true _ _ _ h

pub value_simple : (c : Bool) (d : ℕ) (ts : List (Lexeme Kind)) → sees (is k.OpenBracket) ts ≡ false → sees (is k.OpenBrace) ts ≡ false → value c d ts ≡ simple c ts
unfolding value
value_simple c zero ts g h = cond-false _ _ _ g ∙ cond-false _ _ _ h
value_simple c (suc d) ts g h = cond-false _ _ _ g ∙ cond-false _ _ _ h

pub type_deep : (d : ℕ) (ts : List (Lexeme Kind)) → d ≡ 0 → sees (is k.OpenBracket) ts ≡ true → unmarked d ts ≡ Err (Deep, ts)
unfolding unmarked
type_deep d ts none h = ap (λ (n : ℕ). unmarked n ts) none ∙ cond-true _ _ _ h

pub type_list : (d : ℕ) (ts : List (Lexeme Kind)) → (d ≡ 0 → ⊥) → sees (is k.OpenBracket) ts ≡ true → unmarked d ts ≡ list_type (type_ref (d - 1)) ts
unfolding unmarked
type_list d ts some h = let n : d ≡ suc (d - 1) = omega arith in ap (λ (n : ℕ). unmarked n ts) n ∙ cond-true _ _ _ h

pub type_named : (d : ℕ) (ts : List (Lexeme Kind)) → sees (is k.OpenBracket) ts ≡ false → unmarked d ts ≡ named_type ts
unfolding unmarked
type_named zero ts h = cond-false _ _ _ h
type_named (suc d) ts h = cond-false _ _ _ h

pub set_deep : (r : Rules) (d : ℕ) (ts : List (Lexeme Kind)) → d ≡ 0 → sees (is k.OpenBrace) ts ≡ true → set r d ts ≡ Err (Deep, ts)
unfolding set
set_deep r d ts none h = ap (λ (n : ℕ). set r n ts) none ∙ cond-true _ _ _ h

pub set_braced : (r : Rules) (d : ℕ) (ts : List (Lexeme Kind)) → (d ≡ 0 → ⊥) → sees (is k.OpenBrace) ts ≡ true → set r d ts ≡ braced r (set r (d - 1)) ts
unfolding set
set_braced r d ts some h = let n : d ≡ suc (d - 1) = omega arith in ap (λ (n : ℕ). set r n ts) n ∙ cond-true _ _ _ h

pub set_gap : (r : Rules) (d : ℕ) (ts : List (Lexeme Kind)) → sees (is k.OpenBrace) ts ≡ false → set r d ts ≡ gap ts
unfolding set
set_gap r zero ts h = cond-false _ _ _ h
set_gap r (suc d) ts h = cond-false _ _ _ h
