-- Permits are settled one after another.
use Rattle.std.proofs.Common.{◌≡◌, ℕ, List, [], ◌∷◌, ◌++◌, length, sym, subst, arith, append_assoc}
use Rattle.std.proofs.lemmas.List.{append-nil, length-replicate}
use Rattle.cache_book.specs.Permits.{Granted}
use Rattle.cache_book.specs.declared.answers.Settled.{Settled}
use Rattle.cache_book.specs.declared.permit.Report.{Report}
use Rattle.std.specs.Prelude.{replicate}
use Rattle.cache_book.specs.declared.permit.Report.TheVariants as report
use Rattle.cache_book.specs.Calls.{Settle, Closed}
use Rattle.cache_seam.specs.Seen.{Seen}
use Rattle.cache_seam.specs.Turns.{Turn, Calls, TakesTurns}
use Rattle.cache_seam.proofs.Chains.{takes_call}
use Rattle.piece_fetch.specs.Coming.{SettlesEach}

-- the turns so far, and what settles the rest
abbrev pub SettlesOn : Seen → Seen → List Granted → List Report → List Granted → List Report → Type 0
SettlesOn a b ps rs all reports = (turns : List Turn) × TakesTurns a turns b × ((more : List Turn) → SettlesEach ps rs more → SettlesEach all reports (turns ++ more))

-- one permit more is settled
pub settles_more : (a b c : Seen) (p : Granted) (r : Report) (s : Settled) (ps : List Granted) (rs : List Report) (all : List Granted) (reports : List Report) → Calls b (Settle p r) (Closed s) c
    → SettlesOn a b (p ∷ ps) (r ∷ rs) all reports → SettlesOn a c ps rs all reports
settles_more a b c p r s ps rs all reports h on = (
  on.0 ++ h.turn ∷ [],
  takes_call a b c on.0 (Settle p r) (Closed s) on.1 h,
  λ more rest. subst (SettlesEach all reports) (sym (append_assoc on.0 (h.turn ∷ []) more)) (on.2 (h.turn ∷ more) (h.call_is, rest)),
)

-- all are settled
pub settles_all : (a b : Seen) (ps : List Granted) (rs : List Report) (all : List Granted) (reports : List Report) → length ps ≡ 0 → length rs ≡ length ps → SettlesOn a b ps rs all reports → (turns : List Turn) × TakesTurns a turns b × SettlesEach all reports turns
settles_all a b [] [] all reports none same on = (on.0, on.1, subst (SettlesEach all reports) (append-nil on.0) (on.2 [] tt))
settles_all a b (p ∷ ps) rs all reports none same on = absurd (omega (arith, none))
settles_all a b [] (r ∷ rs) all reports none same on = absurd (omega (arith, same))

pub length_failed : (n : ℕ) → length (replicate n report.Failed) ≡ n
length_failed n = length-replicate n report.Failed
