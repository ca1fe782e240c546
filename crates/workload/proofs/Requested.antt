-- What one request does over the one line.
use Rattle.std.proofs.Common.{◌≡◌, ℕ, zero, suc, List, [], ◌∷◌, ◌++◌, length, drop, All, Option, Some, refl, sym, ap, ◌∙◌, subst}
use Rattle.std.specs.Prelude.{count_by}
use Rattle.std.proofs.lemmas.Option.{same_Some}
use Rattle.cache_seam.specs.Seen.{Seen}
use Rattle.line_base.specs.Lines.{Entry, Line}
use Rattle.line_base.specs.declared.script.Told as tellings
use Rattle.line_base.specs.Told.{entries_told}
use Rattle.router_config.specs.declared.site.Site.{Site}
use Rattle.router_config.specs.declared.config.Request.{Request}
use Rattle.plan_run.specs.declared.outcome.Receipt.{Receipt}
use Rattle.plan_run.specs.Outcomes.{turns_of, entries_of}
use Rattle.partial_fetch.specs.declared.answer.Answer.{Answer}
use Rattle.partial_fetch.specs.Answering.{Answers, refused, answered}
use Rattle.partial_fetch.specs.Causes.{HasCauses}
use Rattle.partial_fetch.specs.Headline.{KeepsPromise, OverFirst}
use Rattle.still_clock.specs.declared.still.Still.{Still}
use Rattle.still_clock.specs.Clocks.{told, IsStill}
use Rattle.still_clock.proofs.Standing.{still_since}
use Rattle.workload.specs.declared.counts.Counts.{Counts}
use Rattle.workload.specs.Site.{request_drawn}
use Rattle.workload.specs.Answered.{IsAsReplied, shop_line}
use Rattle.workload.specs.Tallying.{raised, hits_among, misses_among, looked_by, turns_for}
use Rattle.workload.specs.Steps.{RequestsOne}
use Rattle.workload.specs.Between.{HasOneLine, first_line, has_hit, tickets_sent, with_answer}
use Rattle.workload.proofs.Looking.{hits_told}
use Rattle.workload.proofs.Ticketing.{each_steps, misses_told}

-- ---- the one line

pub over_one : (lines others : List (List Entry)) (P : Line → Line → Type 0) → HasOneLine lines → OverFirst lines others (λ l m. P (shop_line l) (shop_line m))
    → HasOneLine others × P (shop_line (first_line lines)) (shop_line (first_line others))
over_one [] others P (l, e) over = absurd cc
over_one (k ∷ ks) [] P (l, e) over = absurd over
over_one (k ∷ ks) (m ∷ ms) P (l, e) over =
    let rest : ks ≡ [] = cc in
    ((m, ap (λ (xs : List (List Entry)). m ∷ xs) (over.1 ∙ rest)), over.0)

-- ---- the calls since

drop_past : (xs ys : List Entry) → drop (length xs) (xs ++ ys) ≡ ys
drop_past [] ys = refl
drop_past (x ∷ xs) ys = drop_past xs ys

drop_all_of : (xs : List Entry) → drop (length xs) xs ≡ []
drop_all_of [] = refl
drop_all_of (x ∷ xs) = drop_all_of xs

entries-drop : (n : ℕ) (ts : List tellings.Told) → entries_told (drop n ts) ≡ drop n (entries_told ts)
entries-drop zero ts = refl
entries-drop (suc n) [] = refl
entries-drop (suc n) (t ∷ ts) = entries-drop n ts

length-entries : (ts : List tellings.Told) → length (entries_told ts) ≡ length ts
length-entries [] = refl
length-entries (t ∷ ts) = ap suc (length-entries ts)

pub since_is : (old new : List Entry) (ts us : List tellings.Told) (n : ℕ) → entries_told ts ≡ old → entries_told us ≡ new → n ≡ length ts → entries_told (drop n us) ≡ drop (length old) new
since_is old new ts us n before after is =
    let count : n ≡ length old = is ∙ sym (length-entries ts) ∙ ap length before in
    entries-drop n us ∙ ap (drop n) after ∙ ap (λ (k : ℕ). drop k new) count

-- ---- the clock

still_is : (site : Site) (request : Request) (s t : Seen) (l m : Line) (moment : ℕ) (c : Still) (a : Answer)
    → Answers site request s t l m (Some (moment ∷ [])) (told c) a → IsStill moment (told c)
still_is site request s t l m moment c a (refused r is_refused is untouched) =
    subst (λ (o : Option (List ℕ)). IsStill moment o) (sym untouched.clock) (0, refl)
still_is site request s t l m moment c a (answered entry variables value o accepted runs is) =
    still_since moment _ c (told c) refl runs.does.ticks

-- ---- the counts

module _ (site : Site) (request : Request) (s t : Seen) (old new : List Entry) (before after : Option (List ℕ)) (a : Answer) where
  found_is : (h : Answers site request s t (shop_line old) (shop_line new) before after a)
      → count_by has_hit a.receipts.items ≡ looked_by hits_among (turns_for site request s t (shop_line old) (shop_line new) before after a h)
  found_is (refused r is_refused is untouched) = ap (λ (rs : List Receipt). count_by has_hit rs) is.receipts
  found_is (answered entry variables value o accepted runs is) =
      ap (λ (rs : List Receipt). count_by has_hit rs) (is.receipts ∙ runs.does.receipts) ∙ sym (hits_told request.id 0 runs.does.pass (length old) runs.does.tasks runs.does.done runs.does.runs)

  missed_is : (h : Answers site request s t (shop_line old) (shop_line new) before after a)
      → tickets_sent (drop (length old) new) ≡ looked_by misses_among (turns_for site request s t (shop_line old) (shop_line new) before after a h)
  missed_is (refused r is_refused is untouched) =
      let same : new ≡ old = same_Some new old (ap (λ (l : Line). l.log) untouched.line) in
      ap (λ (es : List Entry). tickets_sent (drop (length old) es)) same ∙ ap tickets_sent (drop_all_of old)
  missed_is (answered entry variables value o accepted runs is) =
      let does = runs.does in
      let grown : new ≡ old ++ entries_of does.done = does.gains.told in
      let steps = each_steps s (does.begin ∷ turns_of does.done) does.takes.are_turns in
      ap (λ (es : List Entry). tickets_sent (drop (length old) es)) grown ∙ ap tickets_sent (drop_past old (entries_of does.done))
      ∙ sym (misses_told request.id 0 does.pass (length old) does.tasks does.done does.runs steps.1)

-- what a request leaves
pub requested : (site : Site) (drawn moment : ℕ) (request : Request) (s t : Seen) (lines others : List (List Entry)) (clock : Still) (a : Answer) (c d : Counts)
    → request ≡ request_drawn drawn → HasOneLine lines
    → OverFirst lines others (λ l m. Answers site request s t (shop_line l) (shop_line m) (Some (moment ∷ [])) (told clock) a)
    → OverFirst lines others (λ l m. KeepsPromise site request t (shop_line l) (shop_line m) a)
    → OverFirst lines others (λ l m. HasCauses (shop_line l) (shop_line m) a) → All IsAsReplied (first_line others)
    → d ≡ with_answer c a (drop (length (first_line lines)) (first_line others))
    → RequestsOne site drawn moment (record { cache = s; log = first_line lines; counts = c }) (record { cache = t; log = first_line others; counts = d })
requested site drawn moment request s t lines others clock a c d same one over promise causes replied counts_is = record {
  answer = a;
  after = told clock;
  answers = answers;
  still = still_is site (request_drawn drawn) s t (shop_line (first_line lines)) (shop_line (first_line others)) moment clock a answers;
  promise = (over_one lines others (λ l m. KeepsPromise site (request_drawn drawn) t l m a) one promised).1;
  causes = (over_one lines others (λ l m. HasCauses l m a) one causes).1;
  replied = replied;
  counts = counts_is ∙ same_counts (found_is site (request_drawn drawn) s t (first_line lines) (first_line others) (Some (moment ∷ [])) (told clock) a answers)
      (missed_is site (request_drawn drawn) s t (first_line lines) (first_line others) (Some (moment ∷ [])) (told clock) a answers);
}
  where
    answers : Answers site (request_drawn drawn) s t (shop_line (first_line lines)) (shop_line (first_line others)) (Some (moment ∷ [])) (told clock) a
    answers = (over_one lines others (λ l m. Answers site (request_drawn drawn) s t l m (Some (moment ∷ [])) (told clock) a) one
        (subst (λ (q : Request). OverFirst lines others (λ l m. Answers site q s t (shop_line l) (shop_line m) (Some (moment ∷ [])) (told clock) a)) same over)).1

    promised : OverFirst lines others (λ l m. KeepsPromise site (request_drawn drawn) t (shop_line l) (shop_line m) a)
    promised = subst (λ (q : Request). OverFirst lines others (λ l m. KeepsPromise site q t (shop_line l) (shop_line m) a)) same promise

    same_counts : {h h2 m m2 : ℕ} → h ≡ h2 → m ≡ m2 → ◌≡◌ {A = Counts} (record { requests = raised c.requests 1; voids = c.voids; hits = raised c.hits h; misses = raised c.misses m }) (record { requests = raised c.requests 1; voids = c.voids; hits = raised c.hits h2; misses = raised c.misses m2 })
    same_counts p q = cc
