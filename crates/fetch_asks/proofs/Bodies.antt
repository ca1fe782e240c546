-- How the text of a call is put together.
use Rattle.std.proofs.Common.{◌≡◌, ℕ, ◌+◌, ◌-◌, List, [], ◌∷◌, ◌++◌, refl, sym, ap, ◌∙◌, append_assoc, length, map, arith}
use Rattle.std.specs.Prelude.{codes}
use Rattle.std.specs.List.{join_with_byte}
use Rattle.std.proofs.lemmas.List.{append-nil, length-append}
use Rattle.std.proofs.Math.Seq.{take-append_seam}
use Rattle.json_value.specs.declared.tree.Json.{Json}
use Rattle.json_value.specs.declared.tree.Json.TheVariants as json
use Rattle.json_print.specs.Escapes.{quoted}
use Rattle.json_print.specs.Print.{print, bracketed}
use Rattle.json_print.proofs.Equations.{print-list, print-object}
use Rattle.json_paths.specs.declared.path.Place.{Place}
use Rattle.plan_tree.specs.declared.plan.Fetch.{Fetch}
use Rattle.plan_exec.specs.declared.tasks.Asked.{Asked}
use Rattle.plan_exec.specs.declared.tasks.Asked.TheVariants as kind
use Rattle.fetch_asks.specs.Asking.{joined}
use Rattle.fetch_asks.specs.Asks.{picked, sel_of, with_representations, call_value, before, front_of, back_of, rep_texts}
use Rattle.fetch_asks.specs.Texts.{members_text}
use Rattle.fetch_asks.proofs.Naming.{members-first, members-more}

pub joined-join : (texts : List (List ℕ)) → joined texts ≡ join_with_byte 44 texts
joined-join [] = refl
joined-join (x ∷ []) = refl
joined-join (x ∷ y ∷ xs) = ap (λ (t : List ℕ). x ++ (44 ∷ t)) (joined-join (y ∷ xs))

pub before-append : (text end : List ℕ) → before end (text ++ end) ≡ text
before-append text end =
    let e : length (text ++ end) - length end ≡ length text = omega (arith, length-append text end) in
    rw e (take-append_seam text end)

-- the text of an object
pub object-text : (ms : List (List ℕ × Json)) → print (json.Object ms) ≡ 123 ∷ (members_text ms ++ (125 ∷ []))
unfolding members_text
object-text ms = print-object ms

-- what stands before the variables' members
abbrev pub head : List ℕ → List ℕ
head sel = codes "{\"query\":" ++ (print (json.Str sel) ++ codes ",\"variables\":{")

-- the braces, the names and the commas of the body
two_texts : (query variables : List ℕ) →
    bracketed 123 ((quoted (codes "query") ++ (58 ∷ query)) ∷ ((quoted (codes "variables") ++ (58 ∷ variables)) ∷ [])) 125
    ≡ codes "{\"query\":" ++ (query ++ (codes ",\"variables\":" ++ (variables ++ (125 ∷ []))))
two_texts query variables =
    ap (λ (t : List ℕ). codes "{\"query\":" ++ t) (append_assoc query (44 ∷ (quoted (codes "variables") ++ (58 ∷ variables))) (125 ∷ []))

two_members : (sel : List ℕ) (variables : Json) →
    print (json.Object ((codes "query", json.Str sel) ∷ ((codes "variables", variables) ∷ [])))
    ≡ codes "{\"query\":" ++ (print (json.Str sel) ++ (codes ",\"variables\":" ++ (print variables ++ (125 ∷ []))))
two_members sel variables =
    print-object ((codes "query", json.Str sel) ∷ ((codes "variables", variables) ∷ [])) ∙ two_texts (print (json.Str sel)) (print variables)

inner_text : (query members : List ℕ) →
    codes "{\"query\":" ++ (query ++ (codes ",\"variables\":" ++ ((123 ∷ (members ++ (125 ∷ []))) ++ (125 ∷ []))))
    ≡ (codes "{\"query\":" ++ (query ++ codes ",\"variables\":{")) ++ (members ++ codes "}}")
inner_text query members =
    ap (λ (t : List ℕ). codes "{\"query\":" ++ (query ++ (codes ",\"variables\":{" ++ t))) (append_assoc members (125 ∷ []) (125 ∷ []))
    ∙ ap (λ (t : List ℕ). codes "{\"query\":" ++ t) (sym (append_assoc query (codes ",\"variables\":{") (members ++ codes "}}")))

pub call-text : (fetch : Fetch) (asked : Asked) (variables : Json) (reps : List Json) →
    print (call_value fetch asked variables reps)
    ≡ head fetch.sel ++ (members_text (with_representations asked (picked fetch.variables variables) reps) ++ codes "}}")
unfolding call_value
call-text fetch asked variables reps =
    let ms : List (List ℕ × Json) = with_representations asked (picked fetch.variables variables) reps in
    two_members fetch.sel (json.Object ms)
    ∙ ap (λ (t : List ℕ). codes "{\"query\":" ++ (print (json.Str fetch.sel) ++ (codes ",\"variables\":" ++ (t ++ (125 ∷ []))))) (object-text ms)
    ∙ inner_text (print (json.Str fetch.sel)) (members_text ms)

-- ---- what stands before a member's value

abbrev pub named : List (List ℕ × Json) → List ℕ → List ℕ
named [] name = quoted name ++ (58 ∷ [])
named (m ∷ ms) name = members_text (m ∷ ms) ++ (44 ∷ (quoted name ++ (58 ∷ [])))

pub members-named : (ms : List (List ℕ × Json)) (name : List ℕ) (value : Json) → members_text (ms ++ ((name, value) ∷ [])) ≡ named ms name ++ print value
members-named [] name value = members-first name value ∙ sym (append_assoc (quoted name) (58 ∷ []) (print value))
members-named (m ∷ ms) name value = members-more m ms name value ∙ simp append_assoc

list_split : (lead : List ℕ) (reps : List Json) → lead ++ print (json.List reps) ≡ (lead ++ (91 ∷ [])) ++ (joined (map print reps) ++ (93 ∷ []))
list_split lead reps = rw (print-list reps, joined-join (map print reps)) (sym (append_assoc lead (91 ∷ []) (join_with_byte 44 (map print reps) ++ (93 ∷ []))))

-- ---- fronts

four : (a b c d : List ℕ) → a ++ ((b ++ (c ++ (93 ∷ []))) ++ d) ≡ (a ++ b) ++ (c ++ (93 ∷ d))
four a b c d = simp append_assoc

pub entities-text : (fetch : Fetch) (distinct : List Json) (used_by : List (List Place)) (variables : Json) (lead : List ℕ) (reps : List Json) →
    members_text (picked fetch.variables variables ++ ((codes "representations", json.List reps) ∷ [])) ≡ lead ++ print (json.List reps) →
    print (call_value fetch (kind.Entities distinct used_by) variables reps) ≡ (head fetch.sel ++ (lead ++ (91 ∷ []))) ++ (joined (map print reps) ++ codes "]}}")
entities-text fetch distinct used_by variables lead reps is =
    call-text fetch (kind.Entities distinct used_by) variables reps
    ∙ ap (λ (t : List ℕ). head fetch.sel ++ (t ++ codes "}}")) (is ∙ list_split lead reps)
    ∙ four (head fetch.sel) (lead ++ (91 ∷ [])) (joined (map print reps)) (codes "}}")

pub front-entities : (fetch : Fetch) (distinct : List Json) (used_by : List (List Place)) (variables : Json) (lead : List ℕ) →
    members_text (picked fetch.variables variables ++ ((codes "representations", json.List []) ∷ [])) ≡ lead ++ print (json.List []) →
    front_of fetch (kind.Entities distinct used_by) variables ≡ head fetch.sel ++ (lead ++ (91 ∷ []))
unfolding front_of
front-entities fetch distinct used_by variables lead is =
    ap (before (codes "]}}")) (entities-text fetch distinct used_by variables lead [] is)
    ∙ before-append (head fetch.sel ++ (lead ++ (91 ∷ []))) (codes "]}}")

pub front-root : (fetch : Fetch) (variables : Json) → front_of fetch kind.Root variables ≡ print (call_value fetch kind.Root variables [])
unfolding front_of
front-root fetch variables =
    ap (before []) (sym (append-nil (print (call_value fetch kind.Root variables []))))
    ∙ before-append (print (call_value fetch kind.Root variables [])) []

-- ---- bodies

pub same_root : (fetch : Fetch) (variables : Json) (reps : List Json) → call_value fetch kind.Root variables reps ≡ call_value fetch kind.Root variables []
unfolding call_value
same_root fetch variables reps = refl

pub body : (fetch : Fetch) (asked : Asked) (variables : Json) (reps : List Json) →
    front_of fetch asked variables ++ (joined (rep_texts asked reps) ++ back_of asked) ≡ print (call_value fetch asked variables reps)
body fetch kind.Root variables reps =
    rw (front-root fetch variables, same_root fetch variables reps) (append-nil (print (call_value fetch kind.Root variables [])))
body fetch (kind.Entities distinct used_by) variables reps =
    rw (front-entities fetch distinct used_by variables (named (picked fetch.variables variables) (codes "representations")) (members-named (picked fetch.variables variables) (codes "representations") (json.List [])))
    (sym (entities-text fetch distinct used_by variables (named (picked fetch.variables variables) (codes "representations")) reps (members-named (picked fetch.variables variables) (codes "representations") (json.List reps))))

pub sel-text : (fetch : Fetch) (variables : Json) (members : List ℕ) → members ≡ members_text (picked fetch.variables variables) →
    ((fetch.sel ++ codes "\n{") ++ members) ++ codes "}" ≡ sel_of fetch variables
unfolding sel_of
sel-text fetch variables members is =
    rw (is, object-text (picked fetch.variables variables)) (simp append_assoc)

-- ---- what the code makes

three : (a b c d : List ℕ) → ((a ++ b) ++ c) ++ d ≡ (a ++ (b ++ c)) ++ d
three a b c d = simp append_assoc

pub made_root : (fetch : Fetch) (asked : Asked) (variables : Json) (made query start members : List ℕ) → asked ≡ kind.Root → query ≡ print (json.Str fetch.sel) →
    made ≡ ((codes "{\"query\":" ++ query) ++ codes ",\"variables\":{") ++ members → members ≡ start ++ codes "}}" → start ≡ members_text (picked fetch.variables variables) →
    made ≡ front_of fetch asked variables
made_root fetch asked variables made query start members root query_is made_is members_are start_is =
    let ms : List (List ℕ × Json) = picked fetch.variables variables in
    made_is ∙ three (codes "{\"query\":") query (codes ",\"variables\":{") members
    ∙ ap (λ (q : List ℕ). (codes "{\"query\":" ++ (q ++ codes ",\"variables\":{")) ++ members) query_is
    ∙ ap (λ (t : List ℕ). head fetch.sel ++ t) (members_are ∙ ap (λ (t : List ℕ). t ++ codes "}}") start_is)
    ∙ sym (call-text fetch kind.Root variables [])
    ∙ sym (front-root fetch variables)
    ∙ ap (λ (a : Asked). front_of fetch a variables) (sym root)

pub made_entities : (fetch : Fetch) (asked : Asked) (distinct : List Json) (used_by : List (List Place)) (variables : Json) (made query lead members : List ℕ) →
    asked ≡ kind.Entities distinct used_by → query ≡ print (json.Str fetch.sel) →
    made ≡ ((codes "{\"query\":" ++ query) ++ codes ",\"variables\":{") ++ members → members ≡ lead ++ codes "[" →
    lead ++ print (json.List []) ≡ members_text (picked fetch.variables variables ++ ((codes "representations", json.List []) ∷ [])) →
    made ≡ front_of fetch asked variables
made_entities fetch asked distinct used_by variables made query lead members entities query_is made_is members_are lead_is =
    made_is ∙ three (codes "{\"query\":") query (codes ",\"variables\":{") members
    ∙ ap (λ (q : List ℕ). (codes "{\"query\":" ++ (q ++ codes ",\"variables\":{")) ++ members) query_is
    ∙ ap (λ (t : List ℕ). head fetch.sel ++ t) members_are
    ∙ sym (front-entities fetch distinct used_by variables lead (sym lead_is))
    ∙ ap (λ (a : Asked). front_of fetch a variables) (sym entities)
