-- What was read of a fetch's members is well formed.
use Rattle.std.proofs.Common.{◌≡◌, ℕ, zero, suc, ◌<◌, Bool, true, false, List, [], ◌∷◌, Option, Some, None, refl, sym, ap, ◌∙◌, subst, arith}
use Rattle.std.specs.Prelude.{map, codes, ◌&&◌}
use Rattle.json_value.specs.declared.tree.Json.{Json}
use Rattle.json_value.specs.Members.{member}
use Rattle.json_value.specs.Heights.{height, items_height}
use Rattle.json_value.proofs.Heights.{part-height, height-list}
use Rattle.json_paths.specs.declared.needs.Need.{Need}
use Rattle.json_paths.specs.declared.needs.Need.TheViews.{roll-Need}
use Rattle.json_paths.specs.declared.needs.Need.TheFolds.{fold-roll-Need, fold_out-Need}
use Rattle.json_paths.specs.declared.needs.Requires.{Requires}
use Rattle.plan_tree.specs.Lawful.{are_names, is_some_of, all_true, Formed, name_of, is_formed, formed_step, formed, needs_formed}
use Rattle.plan_book.specs.Forms.{text_in, text_of, each, elements, if_fits, are_variables, variables_in, and_also, all_of, need_name, are_needs, need_with, needing, need_of, fields_in, needs_in, requires_with, requires_of, some_of, requires_in}
use Rattle.plan_book.proofs.Deeper.{kept}
use Rattle.plan_book.proofs.Needing.{need_is, needs-list, needs_listed}

pub both_true : (a b : Bool) → (a && b) ≡ true → (a ≡ true) × (b ≡ true)
both_true true b e = (refl, e)
both_true false b e = absurd cc

pub and_true : (a b : Bool) → a ≡ true → b ≡ true → (a && b) ≡ true
and_true a b e f = rw (e, f) refl

-- ---- variables

pub variables_fit : (o : Option Json) (names : List (List ℕ)) → variables_in o ≡ Some names → are_variables names ≡ true
variables_fit None names is = let e : [] ≡ names = cc in ap are_variables (sym e)
variables_fit (Some v) names is = (kept are_variables (each text_of (elements v)) names is).1

-- ---- needs

name-formed : (n : Need) → name_of (formed n) ≡ need_name n
unfolding formed
name-formed n = ap (λ (f : Formed). f.0) (fold_out-Need Formed formed_step n)

names-formed : (ns : List Need) → map name_of (map formed ns) ≡ map need_name ns
names-formed [] = refl
names-formed (n ∷ ns) = rw (name-formed n, names-formed ns) refl

abbrev all_formed : List Need → Bool
all_formed ns = all_true (map is_formed (map formed ns))

is-formed : (name : List ℕ) (fields : List Need) → is_formed (formed (roll-Need (record { name = name; fields = fields }))) ≡ (are_names (map name_of (map formed fields)) && all_formed fields)
unfolding formed
is-formed name fields = ap (λ (f : Formed). f.1) (fold-roll-Need Formed formed_step (record { name = name; fields = fields }))

-- some fields, none of which is malformed
abbrev well : List Need → Type 0
well ns = (are_names (map need_name ns) ≡ true) × (all_formed ns ≡ true)

with-some : (o : Option (List ℕ)) (fields : Option (List Need)) (n : Need) → need_with o fields ≡ Some n → (name : List ℕ) × (ns : List Need) × (fields ≡ Some ns) × (n ≡ roll-Need (record { name = name; fields = ns }))
with-some None fields n is = absurd cc
with-some (Some name) None n is = absurd cc
with-some (Some name) (Some ns) n is = let e : roll-Need (record { name = name; fields = ns }) ≡ n = cc in (name, ns, refl, sym e)

pair_of : {X : Type 0} (o : Option X) (os : Option (List X)) (xs : List X) → and_also o os ≡ Some xs → (x : X) × (later : List X) × (o ≡ Some x) × (os ≡ Some later) × (xs ≡ x ∷ later)
pair_of None os xs is = absurd cc
pair_of (Some x) None xs is = absurd cc
pair_of (Some x) (Some later) xs is = let e : x ∷ later ≡ xs = cc in (x, later, refl, refl, sym e)

-- by the number of levels
abbrev FormsBelow : ℕ → Type 0
FormsBelow k = (v : Json) (n : Need) → height v < k → need_of v ≡ Some n → is_formed (formed n) ≡ true

each_formed : (k : ℕ) → FormsBelow k → (vs : List Json) (ns : List Need) → items_height vs < k → all_of (map need_of vs) ≡ Some ns → all_formed ns ≡ true
unfolding items_height
each_formed k below [] ns low is = let e : [] ≡ ns = cc in ap all_formed (sym e)
each_formed k below (v ∷ vs) ns low is =
    let parts = pair_of (need_of v) (all_of (map need_of vs)) ns is in
    let here : is_formed (formed parts.0) ≡ true = below v parts.0 (omega arith) parts.2 in
    let rest : all_formed parts.1 ≡ true = each_formed k below vs parts.1 (omega arith) parts.3 in
    rw parts.4 (and_true (is_formed (formed parts.0)) (all_formed parts.1) here rest)

listed_well : (k : ℕ) → FormsBelow k → (v : Json) (ns : List Need) → height v < k → (needing v).needs ≡ Some ns → (is_some_of ns ≡ true) × well ns
listed_well k below v ns low is =
    let l = needs_listed v ns is in
    let tall : height v ≡ suc (items_height l.0) = ap height l.1 ∙ height-list l.0 in
    let listed : if_fits are_needs (all_of (map need_of l.0)) ≡ Some ns = sym (needs-list l.0) ∙ ap (λ (w : Json). (needing w).needs) (sym l.1) ∙ is in
    let parts = kept are_needs (all_of (map need_of l.0)) ns listed in
    let fit = both_true (is_some_of ns) (are_names (map need_name ns)) parts.1 in
    (fit.0, (fit.1, each_formed k below l.0 ns (omega arith) parts.0))

fields_well : (k : ℕ) → FormsBelow k → (v : Json) (o : Option Json) (ns : List Need) → height v < suc k → member v (codes "fields") ≡ o → fields_in o ≡ Some ns → well ns
fields_well k below v None ns low at is = let e : [] ≡ ns = cc in subst well e (refl, refl)
fields_well k below v (Some w) ns low at is =
    let less : height w < height v = part-height v (codes "fields") w at in
    (listed_well k below w ns (omega arith) is).1

forms_below : (k : ℕ) → FormsBelow k
forms_below zero v n low is = absurd (omega arith)
forms_below (suc k) v n low is =
    let parts = with-some (text_in (member v (codes "name"))) (fields_in (member v (codes "fields"))) n (sym (need_is v) ∙ is) in
    let fit : well parts.1 = fields_well k (forms_below k) v (member v (codes "fields")) parts.1 low refl parts.2 in
    let names : are_names (map name_of (map formed parts.1)) ≡ true = ap are_names (names-formed parts.1) ∙ fit.0 in
    rw parts.3 (is-formed parts.0 parts.1 ∙ and_true (are_names (map name_of (map formed parts.1))) (all_formed parts.1) names fit.1)

needs_well : (v : Json) (ns : List Need) → (needing v).needs ≡ Some ns → (is_some_of ns ≡ true) × well ns
needs_well v ns is = listed_well (suc (height v)) (forms_below (suc (height v))) v ns (omega arith) is

some_needs : (name : Option (List ℕ)) (fields : Option (List Need)) (needs : Requires) → requires_with name fields ≡ Some needs → fields ≡ Some needs.fields
some_needs None fields needs is = absurd cc
some_needs (Some name) None needs is = absurd cc
some_needs (Some name) (Some ns) needs is =
    let same : ◌≡◌ {A = Requires} (record { type_name = name; fields = ns }) needs = cc in
    ap (λ (r : Requires). Some r.fields) same

needs_there : (o : Option Json) (ns : List Need) → needs_in o ≡ Some ns → (is_some_of ns ≡ true) × well ns
needs_there None ns is = absurd cc
needs_there (Some v) ns is = needs_well v ns is

requires_formed : (o : Option Requires) (needs : Option Requires) → some_of o ≡ Some needs → o ≡ needs
requires_formed None needs is = absurd cc
requires_formed (Some r) needs is = cc

well_formed : (v : Json) (needs : Option Requires) → requires_of v ≡ needs → needs_formed needs ≡ true
well_formed v None is = refl
well_formed v (Some needs) is =
    let fields = some_needs (text_in (member v (codes "type"))) (needs_in (member v (codes "fields"))) needs is in
    let fit = needs_there (member v (codes "fields")) needs.fields fields in
    let names : are_names (map name_of (map formed needs.fields)) ≡ true = ap are_names (names-formed needs.fields) ∙ (fit.1).0 in
    rw (fit.0, names, (fit.1).1) refl

pub requires_fit : (o : Option Json) (needs : Option Requires) → requires_in o ≡ Some needs → needs_formed needs ≡ true
requires_fit None needs is = let e : ◌≡◌ {A = Option Requires} None needs = cc in ap needs_formed (sym e)
requires_fit (Some v) needs is = well_formed v needs (requires_formed (requires_of v) needs is)
