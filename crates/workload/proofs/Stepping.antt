-- What a step does, and where the steps lead.
use Rattle.std.proofs.Common.{◌≡◌, ℕ, ◌+◌, ◌*◌, List, ◌∷◌, [], get_or, refl, sym, ap, ◌∙◌, subst, add-one}
use Rattle.std.specs.Prelude.{◌/◌, ◌%◌, ◌==◌, Bool, true, false, MatchBool}
use Rattle.std.proofs.Common.{eq-eqb}
use Rattle.std.proofs.lemmas.Bool.{ne_eqb}
use Rattle.cache_terms.specs.declared.keys.Target.{Target}
use Rattle.cache_book.specs.declared.answers.Voided as voided
use Rattle.cache_book.specs.Calls.{Invalidate, Voided}
use Rattle.cache_seam.specs.Seen.{Seen}
use Rattle.cache_seam.specs.Turns.{Calls}
use Rattle.line_base.specs.Lines.{Entry}
use Rattle.router_config.specs.declared.site.Site.{Site}
use Rattle.workload.specs.declared.counts.Counts.{Counts}
use Rattle.workload.specs.Draws.{generated, generated_after, drawn_at, moment_of}
use Rattle.workload.specs.Site.{target_drawn}
use Rattle.workload.specs.Tallying.{raised}
use Rattle.workload.specs.Steps.{Midway, InvalidatesOne, RequestsOne, DoesOne, StandsAfter}
use Rattle.workload.specs.Between.{HasOneLine, first_line}

-- ---- the one line

pub first_is : (lines : List (List Entry)) (line : List Entry) → HasOneLine lines → line ≡ get_or lines 0 line → line ≡ first_line lines
first_is [] line (l, e) is = absurd cc
first_is (k ∷ ks) line one is = is

-- ---- one step

pub invalidated : (drawn : ℕ) (s t : Seen) (log : List Entry) (c : Counts) (notice : Target) (answer : voided.Voided) (n : ℕ)
    → notice ≡ target_drawn drawn → Calls s (Invalidate s.number notice) (Voided answer) t → n ≡ raised c.voids 1
    → InvalidatesOne drawn (record { cache = s; log = log; counts = c }) (record { cache = t; log = log; counts = record { requests = c.requests; voids = n; hits = c.hits; misses = c.misses } })
invalidated drawn s t log c notice answer n same calls more = record {
  answer = answer;
  calls = subst (λ (x : Target). Calls s (Invalidate s.number x) (Voided answer) t) same calls;
  log = refl;
  counts = ap (λ (v : ℕ). record { requests = c.requests; voids = v; hits = c.hits; misses = c.misses }) more;
}

module _ (site : Site) (drawn moment : ℕ) (old new : Midway) where
  by_test : (b : Bool) → (drawn % 10 == 0) ≡ b → MatchBool b (InvalidatesOne drawn old new) (RequestsOne site drawn moment old new) → DoesOne site drawn moment old new
  by_test b is h = subst (λ (x : Bool). MatchBool x (InvalidatesOne drawn old new) (RequestsOne site drawn moment old new)) (sym is) h

  pub does_void : drawn % 10 ≡ 0 → InvalidatesOne drawn old new → DoesOne site drawn moment old new
  does_void is h = by_test true (eq-eqb (drawn % 10) 0 is) h

  pub does_request : (drawn % 10 ≡ 0 → ⊥) → RequestsOne site drawn moment old new → DoesOne site drawn moment old new
  does_request is h = by_test false (ne_eqb (drawn % 10) 0 is) h

-- ---- the steps

pub generated_first : 1 ≡ generated 0
unfolding generated
generated_first = refl

pub generated_more : (k number next : ℕ) → number ≡ generated k → next ≡ generated_after number → next ≡ generated (k + 1)
unfolding generated
generated_more k number next h e = e ∙ ap generated_after h ∙ sym (ap generated (add-one k))

pub stands_more : (site : Site) (k drawn : ℕ) (old s : Midway) → drawn ≡ generated (k + 1) → StandsAfter site k old → DoesOne site (drawn / 65536) (100 * (k + 1)) old s → StandsAfter site (k + 1) s
stands_more site k drawn old s is h does =
    let one : DoesOne site (drawn_at (k + 1)) (moment_of (k + 1)) old s = subst (λ (n : ℕ). DoesOne site (n / 65536) (100 * (k + 1)) old s) is does in
    subst (λ (n : ℕ). StandsAfter site n s) (sym (add-one k)) (old, h, subst (λ (n : ℕ). DoesOne site (drawn_at n) (moment_of n) old s) (add-one k) one)
