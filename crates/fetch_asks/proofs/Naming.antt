-- How the text of an object's members grows.
use Rattle.std.proofs.Common.{◌≡◌, ℕ, suc, zero, ◌<◌, List, [], ◌∷◌, ◌++◌, Option, Some, None, refl, sym, ap, ◌∙◌, append_assoc, add-one, ◌+◌, length, take, get_or, arith}
use Rattle.json_value.specs.declared.tree.Json.{Json}
use Rattle.json_value.specs.declared.tree.Json.TheVariants as json
use Rattle.json_value.specs.Members.{member}
use Rattle.json_print.specs.Escapes.{quoted}
use Rattle.json_print.specs.Print.{print, member_text, print_member}
use Rattle.json_print.proofs.Equations.{print-string}
use Rattle.fetch_asks.specs.Asks.{if_there, picked}
use Rattle.fetch_asks.specs.Texts.{members_text}

pub members-none : members_text [] ≡ []
unfolding members_text
members-none = refl

-- one more behind some
pub members-more : (m : List ℕ × Json) (ms : List (List ℕ × Json)) (name : List ℕ) (value : Json) →
    members_text ((m ∷ ms) ++ ((name, value) ∷ [])) ≡ members_text (m ∷ ms) ++ (44 ∷ (quoted name ++ (58 ∷ print value)))
unfolding members_text
members-more m [] name value = refl
members-more m (n ∷ ms) name value =
    ap (λ (t : List ℕ). member_text (print_member m) ++ (44 ∷ t)) (members-more n ms name value)
    ∙ sym (append_assoc (member_text (print_member m)) (44 ∷ members_text (n ∷ ms)) (44 ∷ (quoted name ++ (58 ∷ print value))))

pub members-first : (name : List ℕ) (value : Json) → members_text ((name, value) ∷ []) ≡ quoted name ++ (58 ∷ print value)
unfolding members_text
members-first name value = refl

-- what has members has a text
pub no-text : (m : List ℕ × Json) (ms : List (List ℕ × Json)) → members_text (m ∷ ms) ≡ [] → ⊥
unfolding members_text
no-text m [] is = cc
no-text m (n ∷ ms) is = cc

pub no_bytes : (s : List ℕ) → length s ≡ 0 → s ≡ []
no_bytes [] is = refl
no_bytes (b ∷ bs) is = absurd (omega arith)

pub named_first : (start now : List ℕ) (members : List (List ℕ × Json)) (name : List ℕ) (value : Json) →
    start ≡ [] → start ≡ members_text members → now ≡ (start ++ print (json.Str name)) ++ (58 ∷ []) →
    now ++ print value ≡ members_text (members ++ ((name, value) ∷ []))
named_first start now [] name value none is made =
    rw (made, none, print-string name, members-first name value) (append_assoc (quoted name) (58 ∷ []) (print value))
named_first start now (m ∷ ms) name value none is made = absurd (no-text m ms (sym is ∙ none))

pub named_next : (start now : List ℕ) (members : List (List ℕ × Json)) (name : List ℕ) (value : Json) →
    (start ≡ [] → ⊥) → start ≡ members_text members → now ≡ ((start ++ (44 ∷ [])) ++ print (json.Str name)) ++ (58 ∷ []) →
    now ++ print value ≡ members_text (members ++ ((name, value) ∷ []))
named_next start now [] name value some is made = absurd (some (is ∙ members-none))
named_next start now (m ∷ ms) name value some is made =
    rw (made, print-string name, members-more m ms name value, ← is) (simp append_assoc)

-- ---- the members that are picked

-- one name before others
over : (n : List ℕ) (o : Option Json) (longer shorter last : List (List ℕ × Json)) → longer ≡ shorter ++ last → if_there n o longer ≡ if_there n o shorter ++ last
over n None longer shorter last is = is
over n (Some v) longer shorter last is = ap (λ (ms : List (List ℕ × Json)). (n, v) ∷ ms) is

pub picked-append : (names : List (List ℕ)) (name : List ℕ) (variables : Json) →
    picked (names ++ (name ∷ [])) variables ≡ picked names variables ++ if_there name (member variables name) []
picked-append [] name variables = refl
picked-append (n ∷ names) name variables =
    over n (member variables n) (picked (names ++ (name ∷ [])) variables) (picked names variables) (if_there name (member variables name) []) (picked-append names name variables)

pub taken : {X : Type 0} (xs : List X) (i : ℕ) (x : X) → i < length xs → x ≡ get_or xs i x → take (suc i) xs ≡ take i xs ++ (x ∷ [])
taken [] i x lt is = absurd (omega arith)
taken (y ∷ xs) zero x lt is = let same : x ≡ y = is in rw same refl
taken {X} (y ∷ xs) (suc i) x lt is = ap (λ (ys : List X). y ∷ ys) (taken xs i x (omega arith) is)

pub picked-taken : (names : List (List ℕ)) (i : ℕ) (name : List ℕ) (variables : Json) (o : Option Json) → i < length names → name ≡ get_or names i name →
    o ≡ member variables name → picked (take (i + 1) names) variables ≡ picked (take i names) variables ++ if_there name o []
picked-taken names i name variables o lt is found =
    rw (add-one, taken names i name lt is, found) (picked-append (take i names) name variables)
