use Rattle.std.proofs.Common.{rules, ◌≡◌, sym, ap, ◌∙◌, Some, None, refl, ◌++◌, false, true, List, ℕ, ◌∷◌, []}
use Rattle.std.specs.Prelude.{map, if◌then◌else◌, codes}
use Rattle.json_value.specs.declared.tree.Json.{Json}
use Rattle.json_value.specs.declared.tree.Json.TheVariants as json
use Rattle.representations.specs.Represent.{represent, has_type, typed, taken_members, taking}
use Rattle.representations.proofs.representing.represent.Goals as goal

pub returns-then-not-is_of_type : goal.returns-then-not-is_of_type
unfolding represent
returns-then-not-is_of_type c =
    let other : has_type c.args.value.now c.args.needs.now.type_name ≡ false = sym c.is_of_type.ensures ∙ c.if-not-is_of_type.true in
    sym (ap (λ b. if b then typed c.args.needs.now.type_name (taken_members (map taking c.args.needs.now.fields) c.args.value.now) else None) other)

pub returns-in_default : goal.returns-in_default
unfolding represent
returns-in_default c =
    let same : has_type c.args.value.now c.args.needs.now.type_name ≡ true = sym c.is_of_type.ensures ∙ c.if-not-is_of_type.false in
    sym (ap (λ b. if b then typed c.args.needs.now.type_name (taken_members (map taking c.args.needs.now.fields) c.args.value.now) else None) same
    ∙ ap (λ ns. typed c.args.needs.now.type_name (taken_members (map taking ns) c.args.value.now)) (sym c.as_slice.ensures) ∙ ap (typed c.args.needs.now.type_name) (sym c.in_ok-taken.ensures ∙ c.in_default.is))

pub returns : goal.returns
unfolding represent
returns c =
    let same : has_type c.args.value.now c.args.needs.now.type_name ≡ true = sym c.is_of_type.ensures ∙ c.if-not-is_of_type.false in
    let made : c.append.new.self ≡ (codes "__typename", json.Str c.args.needs.now.type_name) ∷ c.in-Some.taken =
    c.in_ok-append.ensures.ok ∙ ap (λ (ms : List (List ℕ × Json)). ms ++ c.in-Some.taken) (c.in_ok-push.ensures.ok ∙ ap (λ (ms : List (List ℕ × Json)). ms ++ ((c.in_ok-of.field-0, json.Str c.in_ok-copy.field-0) ∷ [])) c.new-members.ensures)
    ∙ ap (λ (name : List ℕ). (name, json.Str c.in_ok-copy.field-0) ∷ c.in-Some.taken) c.in_ok-of.ensures ∙ ap (λ (name : List ℕ). (codes "__typename", json.Str name) ∷ c.in-Some.taken) c.in_ok-copy.ensures in
    ap (λ (ms : List (List ℕ × Json)). Some (json.Object ms)) made ∙ sym (ap (λ b. if b then typed c.args.needs.now.type_name (taken_members (map taking c.args.needs.now.fields) c.args.value.now) else None) same
    ∙ ap (λ ns. typed c.args.needs.now.type_name (taken_members (map taking ns) c.args.value.now)) (sym c.as_slice.ensures) ∙ ap (typed c.args.needs.now.type_name) (sym c.in_ok-taken.ensures ∙ c.in-Some.is))
