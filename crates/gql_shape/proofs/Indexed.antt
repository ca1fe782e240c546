-- What the indexes of a collection find, and what is known of the groups.
use Rattle.std.proofs.Common.{◌≡◌, ℕ, zero, suc, ◌+◌, ◌<◌, ◌≤◌, Bool, true, false, cond, List, [], ◌∷◌, ◌++◌, Some, None, ◌⊎◌, inl, inr, refl, sym, ap, ◌∙◌, subst, arith, length, get_or, drop, slice_set, true≢false, length-append, append_assoc}
use Rattle.std.specs.Prelude.{map, ◌||◌, if◌then◌else◌, slice_get}
use Rattle.std.specs.List.{list_any, position}
use Rattle.std.specs.Str.{bytes_eq}
use Rattle.std.proofs.lemmas.List.{map-append, take_all, take-append-le, append-nil, length-map}
use Rattle.std.proofs.lemmas.List.Quantifiers.{position-Some}
use Rattle.std.proofs.lemmas.Slice.Eq.{bytes_eq-Decides}
use Rattle.std.proofs.Math.ListN.{get_or-append}
use Rattle.std.proofs.Math.Seq.{drop-append_seam}
use Rattle.indexmap.specs.IndexMap.{IndexMap, get}
use Rattle.gql_terms.specs.declared.documents.Selection.{Selection}
use Rattle.gql_types.specs.declared.definition.TypeDef.{TypeDef}
use Rattle.gql_types.specs.Schemas.{is_among}
use Rattle.gql_shape.specs.declared.known.Stretch.{Stretch}
use Rattle.gql_shape.specs.Terms.{Scope, Field, Group}
use Rattle.gql_shape.specs.Collecting.{Selects, place_of}
use Rattle.gql_shape.specs.Completing.{selections_of}
use Rattle.gql_shape.specs.Indexed.{key_in, RuledGroup, group_in, rule_in, rule_for, with_rule, selections_at, groups_in, IsStretch, AreRuled, HoldsSelected, stretch_known, AreSelected, KnowsNoMore, IsNotedBeside, Collections, Extends}
use Rattle.gql_shape.specs.Kept.{KeptRule}
use Rattle.gql_shape.proofs.Spreads.{either}

-- ---- names that were noted

bytes_eq-swap : (a b : List ℕ) → bytes_eq a b ≡ bytes_eq b a
bytes_eq-swap a b = elim (either (bytes_eq a b)) [
  | inl this ↦ (
      let back : bytes_eq b a ≡ true = (bytes_eq-Decides b a).1 (sym ((bytes_eq-Decides a b).0 this)) in
      this ∙ sym back)
  | inr other ↦ elim (either (bytes_eq b a)) [
    | inl back ↦ (
        let this : bytes_eq a b ≡ true = (bytes_eq-Decides a b).1 (sym ((bytes_eq-Decides b a).0 back)) in
        absurd (true≢false (sym this ∙ other)))
    | inr back ↦ other ∙ sym back
  ]
]

pub among-any : (names : List (List ℕ)) (name : List ℕ) → list_any (bytes_eq name) names ≡ is_among names name
among-any [] name = refl
among-any (n ∷ names) name =
    ap (λ (b : Bool). b || list_any (bytes_eq name) names) (bytes_eq-swap name n) ∙ ap (λ (b : Bool). bytes_eq n name || b) (among-any names name)

pub noted-last : (names next : List (List ℕ)) (name copied : List ℕ) → is_among names name ≡ false → copied ≡ name →
    next ≡ (if list_any (bytes_eq copied) names then names else names ++ (copied ∷ [])) → next ≡ names ++ (name ∷ [])
noted-last names next name copied new is inserted =
    let absent : list_any (bytes_eq copied) names ≡ false = ap (λ (x : List ℕ). list_any (bytes_eq x) names) is ∙ (among-any names name ∙ new) in
    let appended : next ≡ names ++ (copied ∷ []) = rw absent at inserted in
    appended ∙ ap (λ (x : List ℕ). names ++ (x ∷ [])) is

-- ---- groups by their keys

place-first : (key : List ℕ) (gs : List Group) (i : ℕ) (d : List ℕ) → i < length (map key_in gs) → bytes_eq key (get_or (map key_in gs) i d) ≡ true →
    ((k : ℕ) → k < i → bytes_eq key (get_or (map key_in gs) k d) ≡ false) → place_of key gs ≡ i
place-first key [] i d short here before = absurd (omega arith)
place-first key (g ∷ gs) zero d short here before =
    let this : bytes_eq g.first.key key ≡ true = bytes_eq-swap g.first.key key ∙ here in
    rw this refl
place-first key (g ∷ gs) (suc i) d short here before =
    let other : bytes_eq g.first.key key ≡ false = bytes_eq-swap g.first.key key ∙ before 0 (omega arith) in
    let rest : place_of key gs ≡ i = place-first key gs i d (omega arith) here (λ k below. before (suc k) (omega arith)) in
    rw other (ap suc rest)

pub place-found : (key : List ℕ) (keys : List (List ℕ)) (gs : List Group) (i : ℕ) → keys ≡ map key_in gs → Some i ≡ position (bytes_eq key) keys → (place_of key gs ≡ i) × (i < length gs)
place-found key keys gs i are found =
    let first = position-Some (bytes_eq key) (map key_in gs) i key (subst (λ ks. position (bytes_eq key) ks ≡ Some i) are (sym found)) in
    (place-first key gs i key first.0 first.1 first.2, subst (λ (n : ℕ). i < n) (length-map gs key_in) first.0)

pub place-none : (key : List ℕ) (gs : List Group) → list_any (bytes_eq key) (map key_in gs) ≡ false → length gs ≤ place_of key gs
place-none key [] none = omega arith
place-none key (g ∷ gs) none = elim (either (bytes_eq key g.first.key)) [
  | inl this ↦ (
      let here : list_any (bytes_eq key) (map key_in (g ∷ gs)) ≡ true = rw this refl in
      absurd (true≢false (sym here ∙ none)))
  | inr other ↦ (
      let later : list_any (bytes_eq key) (map key_in gs) ≡ false = rw other at none in
      let rest : length gs ≤ place_of key gs = place-none key gs later in
      let differs : bytes_eq g.first.key key ≡ false = bytes_eq-swap g.first.key key ∙ other in
      rw differs (omega arith))
]

pub keys-kept : (gs : List Group) (i : ℕ) (old new : Group) → i < length gs → old ≡ get_or gs i old → new.first ≡ old.first → map key_in (slice_set gs i new) ≡ map key_in gs
keys-kept [] i old new short is same = absurd (omega arith)
keys-kept (g ∷ gs) zero old new short is same = ap (λ (f : Field). f.key ∷ map key_in gs) (same ∙ ap (λ (h : Group). h.first) is)
keys-kept (g ∷ gs) (suc i) old new short is same = ap (λ (ks : List (List ℕ)). g.first.key ∷ ks) (keys-kept gs i old new (omega arith) is same)

pub keys-more : (gs more : List Group) (keys next : List (List ℕ)) (g : Group) (copied : List ℕ) → keys ≡ map key_in gs → list_any (bytes_eq g.first.key) keys ≡ false → copied ≡ g.first.key →
    next ≡ (if list_any (bytes_eq copied) keys then keys else keys ++ (copied ∷ [])) → more ≡ gs ++ (g ∷ []) → next ≡ map key_in more
keys-more gs more keys next g copied are new is inserted pushed =
    let absent : list_any (bytes_eq copied) keys ≡ false = ap (λ (x : List ℕ). list_any (bytes_eq x) keys) is ∙ new in
    let appended : next ≡ keys ++ (copied ∷ []) = rw absent at inserted in
    rw (appended, pushed, are, is) (sym (map-append key_in gs (g ∷ [])))

-- ---- what is known of each group

module _ {S : Type 0} where
  pub known-at : (ms : List (IndexMap (List ℕ) Stretch S)) (i : ℕ) (object : List ℕ) (m : IndexMap (List ℕ) Stretch S) → Some m ≡ slice_get ms i → get bytes_eq m object ≡ stretch_known ms i object
  known-at [] i object m is = absurd cc
  known-at (n ∷ ms) zero object m is = let same : m ≡ n = cc in rw same refl
  known-at (n ∷ ms) (suc i) object m is = known-at ms i object m is

  pub known-past : (ms : List (IndexMap (List ℕ) Stretch S)) (i : ℕ) (object : List ℕ) → None ≡ slice_get ms i → None ≡ stretch_known ms i object
  known-past [] i object is = refl
  known-past (n ∷ ms) zero object is = absurd cc
  known-past (n ∷ ms) (suc i) object is = known-past ms i object is

  known-here : (ms : List (IndexMap (List ℕ) Stretch S)) (i : ℕ) (object : List ℕ) (m : IndexMap (List ℕ) Stretch S) → i < length ms → m ≡ get_or ms i m → get bytes_eq m object ≡ stretch_known ms i object
  known-here [] i object m short is = absurd (omega arith)
  known-here (n ∷ ms) zero object m short is = ap (λ (k : IndexMap (List ℕ) Stretch S). get bytes_eq k object) is
  known-here (n ∷ ms) (suc i) object m short is = known-here ms i object m (omega arith) is

  known-set : (ms : List (IndexMap (List ℕ) Stretch S)) (at i : ℕ) (m : IndexMap (List ℕ) Stretch S) (object : List ℕ) (stretch : Stretch) → at < length ms → stretch_known (slice_set ms at m) i object ≡ Some stretch →
      (stretch_known ms i object ≡ Some stretch) ⊎ ((i ≡ at) × (get bytes_eq m object ≡ Some stretch))
  known-set [] at i m object stretch short is = absurd (omega arith)
  known-set (n ∷ ms) zero zero m object stretch short is = inr (refl, is)
  known-set (n ∷ ms) zero (suc i) m object stretch short is = inl is
  known-set (n ∷ ms) (suc at) zero m object stretch short is = inl is
  known-set (n ∷ ms) (suc at) (suc i) m object stretch short is = elim (known-set ms at i m object stretch (omega arith) is) [
    | inl before ↦ inl before
    | inr now ↦ inr (ap suc now.0, now.1)
  ]

  pub not-noted : (ms : List (IndexMap (List ℕ) Stretch S)) (at : ℕ) (m m' : IndexMap (List ℕ) Stretch S) (name : List ℕ) (noted : Stretch) → at < length ms → m ≡ get_or ms at m → m'.entries ≡ m.entries →
      IsNotedBeside ms at name noted (slice_set ms at m')
  not-noted ms at m m' name noted short is same i object stretch known = elim (known-set ms at i m' object stretch short known) [
    | inl before ↦ inl before
    | inr now ↦ (
        let here : get bytes_eq m object ≡ Some stretch = rw same at now.1 in
        let there : stretch_known ms at object ≡ Some stretch = sym (known-here ms at object m short is) ∙ here in
        inl (subst (λ (k : ℕ). stretch_known ms k object ≡ Some stretch) (sym now.0) there))
  ]

  pub is-noted : (ms : List (IndexMap (List ℕ) Stretch S)) (at : ℕ) (m m' : IndexMap (List ℕ) Stretch S) (name : List ℕ) (noted : Stretch) → at < length ms → m ≡ get_or ms at m →
      ((q : List ℕ) → get bytes_eq m' q ≡ cond (bytes_eq name q) (Some noted) (get bytes_eq m q)) → IsNotedBeside ms at name noted (slice_set ms at m')
  is-noted ms at m m' name noted short is updated i object stretch known = elim (known-set ms at i m' object stretch short known) [
    | inl before ↦ inl before
    | inr now ↦ elim (either (bytes_eq name object)) [
      | inl this ↦ (
          let new : get bytes_eq m' object ≡ Some noted = rw this at (updated object) in
          let same : Some stretch ≡ Some noted = sym now.1 ∙ new in
          inr (now.0, sym ((bytes_eq-Decides name object).0 this), cc))
      | inr other ↦ (
          let old : get bytes_eq m' object ≡ get bytes_eq m object = rw other at (updated object) in
          let there : stretch_known ms at object ≡ Some stretch = sym (known-here ms at object m short is) ∙ (sym old ∙ now.1) in
          inl (subst (λ (k : ℕ). stretch_known ms k object ≡ Some stretch) (sym now.0) there))
    ]
  ]

  pub nothing-more : (ms : List (IndexMap (List ℕ) Stretch S)) (m : IndexMap (List ℕ) Stretch S) → m.entries ≡ [] → KnowsNoMore ms (ms ++ (m ∷ []))
  nothing-more [] m empty zero object stretch known = let none : None ≡ Some stretch = rw empty at known in absurd cc
  nothing-more [] m empty (suc i) object stretch known = absurd cc
  nothing-more (n ∷ ms) m empty zero object stretch known = known
  nothing-more (n ∷ ms) m empty (suc i) object stretch known = nothing-more ms m empty i object stretch known

  pub known-pushed : (first ms next : List (IndexMap (List ℕ) Stretch S)) (m : IndexMap (List ℕ) Stretch S) → KnowsNoMore first ms → m.entries ≡ [] → next ≡ ms ++ (m ∷ []) → KnowsNoMore first next
  known-pushed first ms next m before empty is i object stretch known =
      let at : stretch_known (ms ++ (m ∷ [])) i object ≡ Some stretch = rw is at known in
      before i object stretch (nothing-more ms m empty i object stretch at)

  -- ---- the collections

  pub nothing-known : (s : Scope) (gs : List Group) (rules : List KeptRule) (known : List (IndexMap (List ℕ) Stretch S)) → KnowsNoMore [] known → AreSelected s gs rules known
  nothing-known s gs rules known none i object stretch is = let absent : None ≡ Some stretch = none i object stretch is in absurd cc

selections-more : (gs more : List Group) (i : ℕ) → i < length gs → selections_at (gs ++ more) i ≡ selections_at gs i
selections-more [] more i short = absurd (omega arith)
selections-more (g ∷ gs) more zero short = refl
selections-more (g ∷ gs) more (suc i) short = selections-more gs more i (omega arith)

pub selections-of : (gs : List Group) (i : ℕ) (g : Group) → i < length gs → g ≡ get_or gs i g → selections_at gs i ≡ selections_of g
selections-of [] i g short is = absurd (omega arith)
selections-of (h ∷ gs) zero g short is = ap selections_of (sym is)
selections-of (h ∷ gs) (suc i) g short is = selections-of gs i g (omega arith) is

groups-more : (gs more : List Group) (stretch : Stretch) → IsStretch stretch gs → groups_in stretch (gs ++ more) ≡ groups_in stretch gs
groups-more gs more stretch fits = ap (drop stretch.first) (take-append-le stretch.past gs more fits)

pub groups-kept : (gs more : List Group) → groups_in (record { first = length gs; past = length (gs ++ more) }) (gs ++ more) ≡ more
groups-kept gs more = ap (drop (length gs)) (take_all (length (gs ++ more)) (gs ++ more) (omega arith)) ∙ drop-append_seam gs more

-- ---- the rules

pub get-kept : (rs more : List KeptRule) (i : ℕ) (k : KeptRule) → slice_get rs i ≡ Some k → slice_get (rs ++ more) i ≡ Some k
get-kept [] more i k is = absurd cc
get-kept (r ∷ rs) more zero k is = is
get-kept (r ∷ rs) more (suc i) k is = get-kept rs more i k is

-- the rule at a place is that which stands with the group
pub rule-at : (rs : List RuledGroup) (i : ℕ) (r : RuledGroup) → i < length (map group_in rs) → r ≡ get_or rs i r → slice_get (map rule_in rs) i ≡ Some r.rule
rule-at [] i r short is = absurd (omega arith)
rule-at (q ∷ rs) zero r short is = ap (λ (k : RuledGroup). Some k.rule) (sym is)
rule-at (q ∷ rs) (suc i) r short is = rule-at rs i r (omega arith) is

pub group-in-at : (rs : List RuledGroup) (i : ℕ) (r : RuledGroup) → i < length (map group_in rs) → r ≡ get_or rs i r → r.group ≡ get_or (map group_in rs) i r.group
group-in-at [] i r short is = absurd (omega arith)
group-in-at (q ∷ rs) zero r short is = ap group_in is
group-in-at (q ∷ rs) (suc i) r short is = group-in-at rs i r (omega arith) is

module _ (schema : List TypeDef) (object : List ℕ) where
  pub groups-ruled : (gs : List Group) → map group_in (map (with_rule schema object) gs) ≡ gs
  groups-ruled [] = refl
  groups-ruled (g ∷ gs) = ap (λ (hs : List Group). g ∷ hs) (groups-ruled gs)

  pub rules-ruled : (gs : List Group) → map rule_in (map (with_rule schema object) gs) ≡ map (rule_for schema object) gs
  rules-ruled [] = refl
  rules-ruled (g ∷ gs) = ap (λ (ks : List KeptRule). rule_for schema object g ∷ ks) (rules-ruled gs)

  pub rules-of : (gs : List Group) (i : ℕ) (g : Group) → i < length gs → g ≡ get_or gs i g → slice_get (map (rule_for schema object) gs) i ≡ Some (rule_for schema object g)
  rules-of [] i g short is = absurd (omega arith)
  rules-of (h ∷ gs) zero g short is = ap (λ (k : Group). Some (rule_for schema object k)) (sym is)
  rules-of (h ∷ gs) (suc i) g short is = rules-of gs i g (omega arith) is

  rules-behind : (rs : List RuledGroup) (gs : List Group) (i : ℕ) (g : Group) → length rs ≤ i → i < length (map group_in rs ++ gs) → g ≡ get_or (map group_in rs ++ gs) i g →
      slice_get (map rule_in rs ++ map (rule_for schema object) gs) i ≡ Some (rule_for schema object g)
  rules-behind [] gs i g past short is = rules-of gs i g short is
  rules-behind (r ∷ rs) gs zero g past short is = absurd (omega arith)
  rules-behind (r ∷ rs) gs (suc i) g past short is = rules-behind rs gs i g (omega arith) (omega arith) is

-- all groups of one collection
pub whole-ruled : (s : Scope) (object : List ℕ) (gs : List Group) → AreRuled s object (record { first = 0; past = length gs }) gs (map (rule_for s.schema object) gs)
whole-ruled s object gs i g past before is = rules-of s.schema object gs i g before is

ruled-more : (s : Scope) (object : List ℕ) (stretch : Stretch) (gs more : List Group) (rules added : List KeptRule) → IsStretch stretch gs → AreRuled s object stretch gs rules →
    AreRuled s object stretch (gs ++ more) (rules ++ added)
ruled-more s object stretch gs more rules added fits ruled i g past before is =
    let far : stretch.past ≤ length gs = fits in
    let short : i < length gs = omega arith in
    get-kept rules added i (rule_for s.schema object g) (ruled i g past before (is ∙ get_or-append gs more g i short))

-- ---- a collection behind the others

holds-more : (s : Scope) (gs more : List Group) (rules added : List KeptRule) (i : ℕ) (object : List ℕ) (stretch : Stretch) → HoldsSelected s gs rules i object stretch →
    HoldsSelected s (gs ++ more) (rules ++ added) i object stretch
holds-more s gs more rules added i object stretch holds =
    let long : length (gs ++ more) ≡ length gs + length more = length-append gs more in
    let there = holds.there in
    let within : stretch.past ≤ length gs = holds.within in
    record {
      there = omega (arith, there, long);
      within = omega (arith, long, within);
      selects = rw (selections-more gs more i there, groups-more gs more stretch within) holds.selects;
      ruled = ruled-more s object stretch gs more rules added within holds.ruled;
    }

pub selected-more : {S : Type 0} (s : Scope) (gs more gs' : List Group) (rules added rules' : List KeptRule) (known next : List (IndexMap (List ℕ) Stretch S)) → AreSelected s gs rules known →
    gs' ≡ gs ++ more → rules' ≡ rules ++ added → KnowsNoMore known next → AreSelected s gs' rules' next
selected-more s gs more gs' rules added rules' known next all are ruled none i object stretch is =
    rw (are, ruled) (holds-more s gs more rules added i object stretch (all i object stretch (none i object stretch is)))

pub selected-noted : {S : Type 0} (s : Scope) (gs : List Group) (rules : List KeptRule) (known next : List (IndexMap (List ℕ) Stretch S)) (at : ℕ) (name : List ℕ) (noted : Stretch) → AreSelected s gs rules known →
    HoldsSelected s gs rules at name noted → IsNotedBeside known at name noted next → AreSelected s gs rules next
selected-noted s gs rules known next at name noted all holds beside i object stretch is = elim (beside i object stretch is) [
  | inl before ↦ all i object stretch before
  | inr now ↦ rw (now.0, now.1, now.2) holds
]

-- what was collected for a group stands behind the others, with its rules
module _ (s : Scope) (rs : List RuledGroup) (more : List Group) (rs' : List RuledGroup) (at : ℕ) (object : List ℕ) (r : RuledGroup) (stretch : Stretch) (short : at < length (map group_in rs)) (is : r ≡ get_or rs at r)
    (selected : Selects s object (selections_of r.group) more) (kept : rs' ≡ rs ++ map (with_rule s.schema object) more) (spans : stretch ≡ record { first = length rs; past = length rs' }) where
  abbrev gs : List Group
  gs = map group_in rs

  pub groups-grown : map group_in rs' ≡ gs ++ more
  groups-grown = ap (map group_in) kept ∙ (map-append group_in rs (map (with_rule s.schema object) more) ∙ ap (λ (hs : List Group). gs ++ hs) (groups-ruled s.schema object more))

  pub rules-grown : map rule_in rs' ≡ map rule_in rs ++ map (rule_for s.schema object) more
  rules-grown = ap (map rule_in) kept ∙ (map-append rule_in rs (map (with_rule s.schema object) more) ∙ ap (λ (ks : List KeptRule). map rule_in rs ++ ks) (rules-ruled s.schema object more))

  spans-groups : stretch ≡ record { first = length gs; past = length (map group_in rs') }
  spans-groups = rw (length-map rs group_in, length-map rs' group_in) spans

  group-is : r.group ≡ get_or gs at r.group
  group-is = group-in-at rs at r short is

  stands : groups_in stretch (map group_in rs') ≡ more
  stands = ap (λ (t : Stretch). groups_in t (map group_in rs')) spans-groups ∙ (ap (λ (hs : List Group). groups_in (record { first = length gs; past = length hs }) hs) groups-grown ∙ groups-kept gs more)

  pub selects-kept : Selects s object (selections_at gs at) (groups_in stretch (map group_in rs'))
  selects-kept = rw (selections-of gs at r.group short group-is, stands) selected

  pub ruled-kept : AreRuled s object stretch (map group_in rs') (map rule_in rs')
  ruled-kept i g past before here =
      let first : stretch.first ≡ length rs = ap (λ (t : Stretch). t.first) spans in
      let end : stretch.past ≡ length (map group_in rs') = ap (λ (t : Stretch). t.past) spans-groups in
      let behind : length rs ≤ i = omega (arith, first) in
      let inside : i < length (map group_in rs') = omega (arith, end) in
      rw rules-grown (rules-behind s.schema object rs more i g behind (rw groups-grown at inside) (rw groups-grown at here))

  pub holds-kept : HoldsSelected s (map group_in rs') (map rule_in rs') at object stretch
  holds-kept =
      let long : length (map group_in rs') ≡ length gs + length more = ap (λ (hs : List Group). length hs) groups-grown ∙ length-append gs more in
      let past : stretch.past ≡ length (map group_in rs') = ap (λ (t : Stretch). t.past) spans-groups in
      record {
        there = omega (arith, long);
        within = omega (arith, past);
        selects = subst (λ (xs : List Selection). Selects s object xs (groups_in stretch (map group_in rs')))
            (sym (ap (λ (hs : List Group). selections_at hs at) groups-grown ∙ selections-more gs more at short)) selects-kept;
        ruled = ruled-kept;
      }

pub entered : {S : Type 0} (s : Scope) (rs : List RuledGroup) (more : List Group) (rs' : List RuledGroup) (known next noted : List (IndexMap (List ℕ) Stretch S)) (at : ℕ) (object name : List ℕ) (r : RuledGroup)
    (stretch : Stretch) → at < length (map group_in rs) → r ≡ get_or rs at r → AreSelected s (map group_in rs) (map rule_in rs) known → Selects s object (selections_of r.group) more →
    rs' ≡ rs ++ map (with_rule s.schema object) more → stretch ≡ record { first = length rs; past = length rs' } → KnowsNoMore known next → name ≡ object → IsNotedBeside next at name stretch noted →
    AreSelected s (map group_in rs') (map rule_in rs') noted
entered s rs more rs' known next noted at object name r stretch short is all selected kept spans none same beside =
    let holds : HoldsSelected s (map group_in rs') (map rule_in rs') at name stretch = rw same (holds-kept s rs more rs' at object r stretch short is selected kept spans) in
    let before : AreSelected s (map group_in rs') (map rule_in rs') next =
    selected-more s (map group_in rs) more (map group_in rs') (map rule_in rs) (map (rule_for s.schema object) more) (map rule_in rs') known next all
    (groups-grown s rs more rs' at object r stretch short is selected kept spans) (rules-grown s rs more rs' at object r stretch short is selected kept spans) none in
    selected-noted s (map group_in rs') (map rule_in rs') next noted at name stretch before holds beside

-- ---- collections that grow

pub extends-none : (c : Collections) → Extends c c
extends-none c = record { scope = refl; more = []; groups = sym (append-nil c.groups); more_rules = []; rules = sym (append-nil c.rules) }

pub extends-on : (a b c : Collections) → Extends a b → Extends b c → Extends a c
extends-on a b c first second = record {
  scope = second.scope ∙ first.scope;
  more = first.more ++ second.more;
  groups = second.groups ∙ (ap (λ (gs : List Group). gs ++ second.more) first.groups ∙ append_assoc a.groups first.more second.more);
  more_rules = first.more_rules ++ second.more_rules;
  rules = second.rules ∙ (ap (λ (ks : List KeptRule). ks ++ second.more_rules) first.rules ∙ append_assoc a.rules first.more_rules second.more_rules);
}

pub extends-within : (a b : Collections) (i : ℕ) → Extends a b → i < length a.groups → i < length b.groups
extends-within a b i extends short =
    let long : length b.groups ≡ length a.groups + length extends.more = ap (λ (gs : List Group). length gs) extends.groups ∙ length-append a.groups extends.more in
    omega (arith, long)

pub extends-selections : (a b : Collections) (i : ℕ) → Extends a b → i < length a.groups → selections_at b.groups i ≡ selections_at a.groups i
extends-selections a b i extends short = ap (λ (gs : List Group). selections_at gs i) extends.groups ∙ selections-more a.groups extends.more i short

-- the rule that is kept at a place of a stretch is that of the group there
pub rule-there : (a b : Collections) (object : List ℕ) (stretch : Stretch) (i : ℕ) (g : Group) (k : KeptRule) → Extends a b → AreRuled a.scope object stretch a.groups a.rules → stretch.first ≤ i → i < stretch.past →
    g ≡ get_or a.groups i g → slice_get b.rules i ≡ Some k → k ≡ rule_for a.scope.schema object g
rule-there a b object stretch i g k extends ruled past before is here =
    let there : slice_get b.rules i ≡ Some (rule_for a.scope.schema object g) = rw extends.rules (get-kept a.rules extends.more_rules i (rule_for a.scope.schema object g) (ruled i g past before is)) in
    let same : Some k ≡ Some (rule_for a.scope.schema object g) = sym here ∙ there in
    cc
