-- What is told of one request.
use Rattle.std.proofs.Common.{◌≡◌, ℕ, List, [], ◌∷◌, length, drop, get_or, refl, sym, ap, ◌∙◌, Option, Some, Result, Ok, Err, IfOk}
use Rattle.cache_seam.specs.Seen.{Seen}
use Rattle.line_base.specs.Lines.{Entry, Line}
use Rattle.line_base.specs.Told.{Script, script_line}
use Rattle.router_config.specs.declared.site.Site.{Site}
use Rattle.partial_fetch.specs.declared.answer.Answer.{Answer}
use Rattle.partial_fetch.specs.Answering.{Answers}
use Rattle.partial_fetch.specs.Causes.{HasCauses}
use Rattle.partial_fetch.specs.Headline.{KeepsPromise, OverFirst}
use Rattle.case_file.specs.declared.content.Timed.{Timed}
use Rattle.still_clock.specs.declared.still.Still.{Still}
use Rattle.still_clock.specs.Clocks.{told}
use Rattle.case_run.specs.Texts.{request_text}
use Rattle.case_run.specs.Playing.{IsOneLine, script_in, case_state, Tells}
use Rattle.case_run.proofs.Standing.{over_one}
use Rattle.case_run.proofs.Stills.{still_is}

pub first_log : (lines : List Script) (line : Script) → IsOneLine lines → line ≡ get_or lines 0 line → line.log ≡ (script_in lines).log
first_log [] line (l, e) is = absurd cc
first_log (k ∷ ks) line one is = ap (λ (s : Script). s.log) is

pub tells : (site : Site) (timed : Timed) (s t : Seen) (lines others : List Script) (clock : Still) (a : Answer) (text : List ℕ)
    → IsOneLine lines → OverFirst lines others (λ l m. Answers site timed.request s t (script_line l) (script_line m) (Some (timed.moment ∷ [])) (told clock) a)
    → OverFirst lines others (λ l m. KeepsPromise site timed.request t (script_line l) (script_line m) a)
    → OverFirst lines others (λ l m. HasCauses (script_line l) (script_line m) a) → text ≡ request_text (drop (length (script_in lines).log) (script_in others).log) a → Tells site timed (case_state s lines) (case_state t others) text
tells site timed s t lines others clock a text one over promise causes is =
    let o = over_one lines others (λ l m. Answers site timed.request s t l m (Some (timed.moment ∷ [])) (told clock) a) one over in
    let p = over_one lines others (λ l m. KeepsPromise site timed.request t l m a) one promise in
    let q = over_one lines others (λ l m. HasCauses l m a) one causes in
    (a, record { after = told clock; answers = o.1; still = still_is site timed.request s t (script_line (script_in lines)) (script_line (script_in others)) timed.moment clock a o.1; promise = p.1; causes = q.1 }, is)

pub told_if : {E : Type 0} (r : Result (List ℕ) E) (P Q : List ℕ → Type 0) → ((text : List ℕ) → P text → Q text) → IfOk r P → IfOk r Q
told_if (Ok text) P Q f h = f text h
told_if (Err e) P Q f h = tt
