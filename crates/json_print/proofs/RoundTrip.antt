-- A value that some text stands for is what its compact text stands for.
use Rattle.std.proofs.Common.{◌≡◌, ℕ, suc, false, List, [], ◌∷◌, ◌++◌, refl, sym}
use Rattle.std.specs.Prelude.{map}
use Rattle.std.proofs.lemmas.List.{append-nil}
use Rattle.json_value.specs.declared.tree.Json.{Json}
use Rattle.json_value.specs.declared.tree.Json.TheVariants as j
use Rattle.json_value.specs.Grammar.{strict, Spells, null, yes, no, number, string, empty, list, bare, object, Rest, close, more, Pair, pair, Members, shut, another, IsText}
use Rattle.json_print.specs.Escapes.{escaped}
use Rattle.json_print.specs.Print.{print, member_text, print_member}
use Rattle.json_print.proofs.Joined.{rest, bracketed-tail}
use Rattle.json_print.proofs.Equations.{print-null, print-true, print-false, print-number, print-string, print-list, print-object}
use Rattle.json_print.proofs.Respelled.{chars_again}

-- between brackets
listed : (d : ℕ) (x : Json) (xs : List Json) → Spells strict d x (print x) → Rest strict d xs (rest 93 (map print xs)) →
    Spells strict (suc d) (j.List (x ∷ xs)) (print (j.List (x ∷ xs)))
listed d x xs first others = rw (print-list (x ∷ xs), bracketed-tail 91 93 (map print (x ∷ xs)))
    (list [] x (print x) xs (rest 93 (map print xs)) tt first others)

named : (d : ℕ) (n : List ℕ) (x : Json) (ms : List (List ℕ × Json)) → Pair strict d n x (member_text (n, print x)) →
    Members strict d ((n, x) ∷ []) ms (rest 125 (map member_text (map print_member ms))) →
    Spells strict (suc d) (j.Object ((n, x) ∷ ms)) (print (j.Object ((n, x) ∷ ms)))
named d n x ms first others = rw (print-object ((n, x) ∷ ms), bracketed-tail 123 125 (map member_text (map print_member ((n, x) ∷ ms))))
    (object [] n x (member_text (n, print x)) ms (rest 125 (map member_text (map print_member ms))) tt first others)

mutual
  pub value_again : (d : ℕ) (v : Json) (a : List ℕ) → Spells strict d v a → Spells strict d v (print v)
  value_again _ _ _ (null {d = d}) = rw print-null null
  value_again _ _ _ (yes {d = d}) = rw print-true yes
  value_again _ _ _ (no {d = d}) = rw print-false no
  value_again _ _ _ (number {d = d} a is) = rw (print-number a) (number a is)
  value_again _ _ _ (string {d = d} t a chars) = rw (print-string t) (string t (escaped t ++ (34 ∷ [])) (chars_again false refl t a chars))
  value_again _ _ _ (empty {d = d} s space) = rw (print-list []) (empty [] tt)
  value_again _ _ _ (list {d = d} s x a xs b space first others) = listed d x xs (value_again d x a first) (rest_again d xs b others)
  value_again _ _ _ (bare {d = d} s space) = rw (print-object []) (bare [] tt)
  value_again _ _ _ (object {d = d} s n x a ms b space first others) = named d n x ms (pair_again d n x a first) (members_again d ((n, x) ∷ []) ms b others)

  pub rest_again : (d : ℕ) (xs : List Json) (b : List ℕ) → Rest strict d xs b → Rest strict d xs (rest 93 (map print xs))
  rest_again _ _ _ (close {d = d} s space) = close [] tt
  rest_again _ _ _ (more {d = d} s s' x a xs b space space' first others) = more [] [] x (print x) xs (rest 93 (map print xs)) tt tt (value_again d x a first) (rest_again d xs b others)

  pub pair_again : (d : ℕ) (n : List ℕ) (x : Json) (a : List ℕ) → Pair strict d n x a → Pair strict d n x (member_text (n, print x))
  pair_again _ _ _ _ (pair {d = d} n l s s' x a chars space space' value) =
      pair n (escaped n ++ (34 ∷ [])) [] [] x (print x) (chars_again false refl n l chars) tt tt (value_again d x a value)

  pub members_again : (d : ℕ) (before ms : List (List ℕ × Json)) (b : List ℕ) → Members strict d before ms b → Members strict d before ms (rest 125 (map member_text (map print_member ms)))
  members_again _ _ _ _ (shut {d = d} {before = before} s space) = shut [] tt
  members_again _ _ _ _ (another {d = d} {before = before} s s' n x a ms b space space' apart first others) =
      another [] [] n x (member_text (n, print x)) ms (rest 125 (map member_text (map print_member ms))) tt tt apart (pair_again d n x a first) (members_again d (before ++ ((n, x) ∷ [])) ms b others)

pub text_again : (v : Json) (text : List ℕ) → IsText strict v text → IsText strict v (print v)
text_again v text is = record {
  before = [];
  inner = print v;
  after = [];
  parts = sym (append-nil (print v));
  before_is = tt;
  inner_is = value_again 64 v is.inner is.inner_is;
  after_is = tt;
}

pub printed_again : (t : List ℕ) (v : Json) → t ≡ print v → (other : List ℕ) → IsText strict v other → IsText strict v t
printed_again t v is other stands = rw is (text_again v other stands)
