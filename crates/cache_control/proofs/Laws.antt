-- The verdict by the grammar.
use Rattle.std.proofs.Common.{◌≡◌, ℕ, suc, List, [], length, Option, None, Some, refl, sym, ap, ◌∙◌, arith}
use Rattle.cache_control.specs.Grammar.{Directive, IsDirectives}
use Rattle.cache_control.specs.Reading.{directives_of, judged, verdict_of}
use Rattle.cache_terms.specs.declared.offers.Verdict.{Verdict}
use Rattle.cache_control.specs.Rules.{age_of, ruled, refusal, HasDirectives, IsVerdict}
use Rattle.cache_control.proofs.Sound.{sound}
use Rattle.cache_control.proofs.Complete.{complete}

directives_of-complete : (text : List ℕ) (directives : List Directive) → IsDirectives text directives → directives_of text ≡ Some directives
unfolding directives_of
directives_of-complete text directives h = complete (suc (length text)) text directives h (omega arith)

directives_of-sound : (text : List ℕ) (directives : List Directive) → directives_of text ≡ Some directives → IsDirectives text directives
unfolding directives_of
directives_of-sound text directives e = sound (suc (length text)) text directives e

-- the directives of a text in the grammar count
pub accepted : (cache_control age : Option (List ℕ)) (directives : List Directive) → HasDirectives cache_control directives → verdict_of cache_control age ≡ ruled directives (age_of age)
accepted None age directives h = ap (λ d. ruled d (age_of age)) (sym h)
accepted (Some text) age directives h = ap (λ o. judged o (age_of age)) (directives_of-complete text directives h)

-- another text says that nothing is kept
pub refused : (cache_control age : Option (List ℕ)) → ((directives : List Directive) → HasDirectives cache_control directives → ⊥) → verdict_of cache_control age ≡ refusal (age_of age)
refused None age h = absurd (h [] refl)
refused (Some text) age h = by (directives_of text) refl
  where
    by : (o : Option (List Directive)) → directives_of text ≡ o → judged (directives_of text) (age_of age) ≡ refusal (age_of age)
    by None e = ap (λ o. judged o (age_of age)) e
    by (Some directives) e = absurd (h directives (directives_of-sound text directives e))

-- two texts have one verdict: there is one
pub verdict_stands : (cache_control age : Option (List ℕ)) → IsVerdict cache_control age (verdict_of cache_control age)
verdict_stands cache_control age = record { accepted = accepted cache_control age; refused = refused cache_control age }

-- and each is that one
pub verdict_is : (cache_control age : Option (List ℕ)) (v : Verdict) → IsVerdict cache_control age v → v ≡ verdict_of cache_control age
verdict_is None age v h = h.accepted [] refl
verdict_is (Some text) age v h = by (directives_of text) refl
  where
    by : (o : Option (List Directive)) → directives_of text ≡ o → v ≡ judged (directives_of text) (age_of age)
    by None e = h.refused (λ directives d. absurd (cc (sym e ∙ directives_of-complete text directives d))) ∙ ap (λ o. judged o (age_of age)) (sym e)
    by (Some directives) e = h.accepted directives (directives_of-sound text directives e) ∙ ap (λ o. judged o (age_of age)) (sym e)

pub verdict_unique : (cache_control age : Option (List ℕ)) (v w : Verdict) → IsVerdict cache_control age v → IsVerdict cache_control age w → v ≡ w
verdict_unique cache_control age v w h k = verdict_is cache_control age v h ∙ sym (verdict_is cache_control age w k)
