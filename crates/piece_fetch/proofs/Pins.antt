-- A fetch keeps the epoch to which its request is pinned.
use Rattle.std.proofs.Common.{◌≡◌, ℕ, Bool, List, [], ◌∷◌, ◌++◌, Option, refl, ap, sym, ◌∙◌, subst}
use Rattle.cache_terms.specs.declared.keys.Key.{Key}
use Rattle.cache_book.specs.declared.permit.Report.{Report}
use Rattle.cache_book.specs.Permits.{Pinned, Granted}
use Rattle.cache_book.specs.Calls.{Call, Begin, Look, Settle, Invalidate, Tally}
use Rattle.line_base.specs.Lines.{Entry}
use Rattle.cache_seam.specs.Seen.{Seen, pass_of}
use Rattle.cache_seam.specs.Turns.{Turn, seen_after, seen_after_all, pinned_after, begun_after}
use Rattle.fetch_asks.specs.declared.ask.Ask.{Ask}
use Rattle.piece_fetch.specs.declared.fetched.Fetched.{Fetched}
use Rattle.piece_fetch.specs.Coming.{SettlesEach}
use Rattle.piece_fetch.specs.Fetching.{FetchesPieces}

-- the call neither begins a request nor invalidates
abbrev pub KeepsPin : Call → Type 0
KeepsPin (Look pass id asks now) = Unit {0}
KeepsPin (Settle permit r) = Unit {0}
KeepsPin (Begin who) = ⊥
KeepsPin (Invalidate who target) = ⊥
KeepsPin Tally = Unit {0}

abbrev pub KeepPin : List Turn → Type 0
KeepPin [] = Unit {0}
KeepPin (t ∷ ts) = KeepsPin t.call × KeepPin ts

same_pin : (call : Call) (pinned left : ℕ) → KeepsPin call → pinned_after call pinned left ≡ pinned
same_pin (Look pass id asks now) pinned left h = refl
same_pin (Settle permit r) pinned left h = refl
same_pin Tally pinned left h = refl
same_pin (Begin who) pinned left h = absurd h
same_pin (Invalidate who target) pinned left h = absurd h

same_begun : (call : Call) (begun : Bool) → KeepsPin call → begun_after call begun ≡ begun
same_begun (Look pass id asks now) begun h = refl
same_begun (Settle permit r) begun h = refl
same_begun Tally begun h = refl
same_begun (Begin who) begun h = absurd h
same_begun (Invalidate who target) begun h = absurd h

pub pin_kept : (c : Seen) (ts : List Turn) → KeepPin ts → (pass_of (seen_after_all c ts) ≡ pass_of c) × ((seen_after_all c ts).begun ≡ c.begun)
pin_kept c [] h = (refl, refl)
pin_kept c (t ∷ ts) h =
    let rest = pin_kept (seen_after c t) ts h.1 in
    (rest.0 ∙ ap (λ (e : ℕ). record { who = c.number; epoch = e }) (same_pin t.call c.pinned t.left.epoch h.0), rest.1 ∙ same_begun t.call c.begun h.0)

pub settles_keep : (ps : List Granted) (rs : List Report) (ts : List Turn) → SettlesEach ps rs ts → KeepPin ts
settles_keep [] [] [] h = tt
settles_keep (p ∷ ps) (r ∷ rs) (t ∷ ts) h = (subst KeepsPin (sym h.0) tt, settles_keep ps rs ts h.1)
settles_keep [] (r ∷ rs) ts h = absurd h
settles_keep [] [] (t ∷ ts) h = absurd h
settles_keep (p ∷ ps) [] ts h = absurd h
settles_keep (p ∷ ps) (r ∷ rs) [] h = absurd h

pub fetch_keeps : (ask : Ask) (keys : List Key) (id : Option (List ℕ)) (line call : ℕ) (pass : Pinned) (now : ℕ) (turns : List Turn) (entries : List Entry) (f : Fetched) → FetchesPieces ask keys id line call pass now turns entries f → KeepPin turns
fetch_keeps ask keys id line call pass now turns entries f h = subst KeepPin (sym h.turns_are) (subst KeepsPin (sym h.looks) tt, settles_keep _ _ h.settles h.settled)

pub keep_append : (ts us : List Turn) → KeepPin ts → KeepPin us → KeepPin (ts ++ us)
keep_append [] us h k = k
keep_append (t ∷ ts) us h k = (h.0, keep_append ts us h.1 k)
