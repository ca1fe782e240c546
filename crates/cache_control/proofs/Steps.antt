-- One iteration of the loop over the elements of a text.
use Rattle.std.proofs.Common.{◌≡◌, ℕ, ◌<◌, zero, suc, Bool, true, false, ◌||◌, ◌==◌, List, [], ◌∷◌, ◌++◌, length, Option, None, Some, find, is_some, refl, sym, ap, ◌∙◌, true≢false, arith, option_and_then}
use Rattle.std.specs.Prelude.{codes}
use Rattle.std.specs.Option.{option_map, option_or}
use Rattle.std.proofs.lemmas.Bool.{eqb-true}
use Rattle.std.proofs.lemmas.List.Folds.{find-append}
use Rattle.cache_control.specs.declared.rules.Rules.{Rules}
use Rattle.cache_control.specs.Grammar.{Directive}
use Rattle.cache_control.specs.Reading.{Element, read_element, followed, read, after_comma, directives_of}
use Rattle.cache_control.specs.Rules.{has_name, argument_seconds, first_seconds, has_directive}
use Rattle.cache_control.specs.Counting.{with_directives}

-- some number of elements, enough for the rest, gives what the whole gives
abbrev pub Holds : Option Rules → Rules → List ℕ → Type 0
Holds whole rules rest = (k : ℕ) × (length rest < k) × (whole ≡ option_map (with_directives rules) (read k rest))

first-append : (name : List ℕ) (known : Option ℕ) (a b : List Directive) → option_or (option_or known (first_seconds name a)) (first_seconds name b) ≡ option_or known (first_seconds name (a ++ b))
first-append name known a b = by known (find (has_name name) a) (find (has_name name) b) ∙ ap (λ o. option_or known (option_map argument_seconds o)) (sym (find-append (has_name name) a b))
  where
    by : (known : Option ℕ) (f g : Option Directive) → option_or (option_or known (option_map argument_seconds f)) (option_map argument_seconds g) ≡ option_or known (option_map argument_seconds (option_or f g))
    by None None g = refl
    by None (Some d) g = refl
    by (Some n) f g = refl

has-append : (name : List ℕ) (a b : List Directive) → has_directive name (a ++ b) ≡ (has_directive name a || has_directive name b)
has-append name a b = ap is_some (find-append (has_name name) a b) ∙ by (find (has_name name) a) (find (has_name name) b)
  where
    by : (f g : Option Directive) → is_some (option_or f g) ≡ (is_some f || is_some g)
    by None g = refl
    by (Some d) g = refl

or_nest : (r a b : Bool) → ((r || a) || b) ≡ (r || (a || b))
or_nest true a b = refl
or_nest false a b = refl

or_both : (r a b a' b' : Bool) → ((r || (a || b)) || (a' || b')) ≡ (r || ((a || a') || (b || b')))
or_both true a b a' b' = refl
or_both false true b a' b' = refl
or_both false false true true b' = refl
or_both false false true false b' = refl
or_both false false false true b' = refl
or_both false false false false b' = refl

-- what follows is added in two steps as in one
pub with_more-append : (rules : Rules) (a b : List Directive) → with_directives (with_directives rules a) b ≡ with_directives rules (a ++ b)
with_more-append rules a b =
    let s : option_or (option_or rules.shared (first_seconds (codes "s-maxage") a)) (first_seconds (codes "s-maxage") b) ≡ option_or rules.shared (first_seconds (codes "s-maxage") (a ++ b)) = first-append (codes "s-maxage") rules.shared a b in
    let m : option_or (option_or rules.max_age (first_seconds (codes "max-age") a)) (first_seconds (codes "max-age") b) ≡ option_or rules.max_age (first_seconds (codes "max-age") (a ++ b)) = first-append (codes "max-age") rules.max_age a b in
    let p : ((rules.private || has_directive (codes "private") a) || has_directive (codes "private") b) ≡ (rules.private || has_directive (codes "private") (a ++ b)) = or_nest rules.private (has_directive (codes "private") a) (has_directive (codes "private") b) ∙ ap (λ t. rules.private || t) (sym (has-append (codes "private") a b)) in
    let n : ((rules.no_store || (has_directive (codes "no-store") a || has_directive (codes "no-cache") a)) || (has_directive (codes "no-store") b || has_directive (codes "no-cache") b)) ≡ (rules.no_store || (has_directive (codes "no-store") (a ++ b) || has_directive (codes "no-cache") (a ++ b))) = or_both rules.no_store (has_directive (codes "no-store") a) (has_directive (codes "no-cache") a) (has_directive (codes "no-store") b) (has_directive (codes "no-cache") b) ∙ ap (λ t. rules.no_store || (t || (has_directive (codes "no-cache") a || has_directive (codes "no-cache") b))) (sym (has-append (codes "no-store") a b)) ∙ ap (λ t. rules.no_store || (has_directive (codes "no-store") (a ++ b) || t)) (sym (has-append (codes "no-cache") a b)) in
    λ i. record { shared = s i; max_age = m i; private = p i; no_store = n i }

module _ (whole : Option Rules) (rules : Rules) (rest : List ℕ) where
  -- no element, no list
  pub stops_unread : Holds whole rules rest → None ≡ read_element rest → None ≡ whole
  stops_unread (zero, below, same) e = absurd (omega arith)
  stops_unread (suc k, below, same) e = ap (λ o. option_map (with_directives rules) (option_and_then (λ x. followed (read k) x.directives x.rest) o)) e ∙ sym same

  module _ (element : Element) (is : Some element ≡ read_element rest) where
    read_once : (k : ℕ) → option_map (with_directives rules) (followed (read k) element.directives element.rest) ≡ option_map (with_directives rules) (read (suc k) rest)
    read_once k = ap (λ o. option_map (with_directives rules) (option_and_then (λ x. followed (read k) x.directives x.rest) o)) is

    -- the text ends
    pub ends : Holds whole rules rest → element.rest ≡ [] → Some (with_directives rules element.directives) ≡ whole
    ends (zero, below, same) e = absurd (omega arith)
    ends (suc k, below, same) e = ap (λ l. option_map (with_directives rules) (followed (read k) element.directives l)) (sym e) ∙ read_once k ∙ sym same

    at_comma : (next : List ℕ → Option (List Directive)) (l : List ℕ) (o : Option (List ℕ)) → (l ≡ [] → ⊥) → after_comma l ≡ o → followed next element.directives l ≡ option_map (λ others. element.directives ++ others) (option_and_then next o)
    at_comma next [] o some e = absurd (some refl)
    at_comma next (b ∷ l) o some e = ap (λ x. option_map (λ others. element.directives ++ others) (option_and_then next x)) e

    -- neither the end nor a comma
    pub stops_there : Holds whole rules rest → (element.rest ≡ [] → ⊥) → after_comma element.rest ≡ None → None ≡ whole
    stops_there (zero, below, same) some e = absurd (omega arith)
    stops_there (suc k, below, same) some e = sym (ap (option_map (with_directives rules)) (at_comma (read k) element.rest None some e)) ∙ read_once k ∙ sym same

    -- a comma
    pub goes_on : (later : List ℕ) → Holds whole rules rest → (element.rest ≡ [] → ⊥) → after_comma element.rest ≡ Some later → length later < length rest → Holds whole (with_directives rules element.directives) later
    goes_on later (zero, below, same) some e shorter = absurd (omega arith)
    goes_on later (suc k, below, same) some e shorter = (k, omega arith, same ∙ sym (read_once k) ∙ ap (option_map (with_directives rules)) (at_comma (read k) element.rest (Some later) some e) ∙ by (read k later))
      where
        by : (o : Option (List Directive)) → option_map (with_directives rules) (option_map (λ others. element.directives ++ others) o) ≡ option_map (with_directives (with_directives rules element.directives)) o
        by None = refl
        by (Some others) = ap Some (sym (with_more-append rules element.directives others))

-- at the start nothing is read
pub starts : (text : List ℕ) (rules : Rules) → Holds (option_map (with_directives rules) (directives_of text)) rules text
unfolding directives_of
starts text rules = (suc (length text), omega arith, refl)

-- what a test for no bytes says
pub nothing_left : (l : List ℕ) (b : Bool) → b ≡ (length l == 0) → b ≡ true → l ≡ []
nothing_left [] b h e = refl
nothing_left (x ∷ l) b h e =
    let none : length (x ∷ l) ≡ 0 = eqb-true (length (x ∷ l)) 0 (sym h ∙ e) in
    absurd (omega arith)

pub something_left : (l : List ℕ) (b : Bool) → b ≡ (length l == 0) → b ≡ false → l ≡ [] → ⊥
something_left l b h e nil = true≢false (sym (ap (λ (x : List ℕ). length x == 0) nil) ∙ sym h ∙ e)
