use Rattle.std.proofs.Common.{◌≡◌, ℕ, List, ◌++◌, ap, sym, ◌∙◌, subst}
use Rattle.std.specs.Prelude.{All}
use Rattle.cache_terms.specs.declared.keys.Key.{Key}
use Rattle.fetch_asks.specs.Asking.{joined}
use Rattle.fetch_asks.specs.Asks.{picked, keys_of, rep_texts, front_of}
use Rattle.fetch_asks.specs.Texts.{members_text}
use Rattle.fetch_asks.proofs.Bodies.{body}
use Rattle.fetch_asks.proofs.Keying.{keys_named}
use Rattle.fetch_asks.proofs.fetch.ask_of.Goals as goal

pub returns-clause-bodies : goal.returns-clause-bodies
returns-clause-bodies c = λ reps.
    let fetch = c.args.fetch.now in
    let asked = c.args.asked.now in
    let variables = c.args.variables.now in
    let members = c.in_ok-members.ensures ∙ ap (λ (names : List (List ℕ)). members_text (picked names variables)) c.as_slice.ensures in
    let front : c.in_ok-front_of.field-0 ≡ front_of fetch asked variables = c.in_ok-front_of.ensures variables members in
    ap (λ (t : List ℕ). t ++ (joined (rep_texts asked reps) ++ c.in_ok-back_of.field-0)) front
    ∙ ap (λ (t : List ℕ). front_of fetch asked variables ++ (joined (rep_texts asked reps) ++ t)) c.in_ok-back_of.ensures
    ∙ body fetch asked variables reps

pub returns-clause-named : goal.returns-clause-named
returns-clause-named c =
    let fetch = c.args.fetch.now in
    let asked = c.args.asked.now in
    let variables = c.args.variables.now in
    let members = c.in_ok-members.ensures ∙ ap (λ (names : List (List ℕ)). members_text (picked names variables)) c.as_slice.ensures in
    let keys : c.in_ok-keys.keys.items ≡ keys_of fetch asked variables = c.in_ok-keys.ensures variables (c.in_ok-sel.ensures variables (c.as_str.ensures.value ∙ members)) in
    subst (λ (name : List ℕ). All (λ (key : Key). key.sub ≡ name) c.in_ok-keys.keys.items) (sym c.in_ok-copy.ensures)
    (subst (λ (ks : List Key). All (λ (key : Key). key.sub ≡ fetch.sub) ks) (sym keys) (keys_named fetch asked variables))
