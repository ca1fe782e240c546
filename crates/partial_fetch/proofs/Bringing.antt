-- What a fetch brought was in the reply to its call.
use Rattle.std.proofs.Common.{◌≡◌, ℕ, zero, suc, ◌+◌, ◌<◌, Bool, true, false, List, [], ◌∷◌, length, map, replicate, Option, Some, None, All, refl, ap, sym, ◌∙◌, subst, arith}
use Rattle.std.specs.Prelude.{if◌then◌else◌, Contains, Result, Ok, Err}
use Rattle.std.specs.List.{zip}
use Rattle.std.proofs.lemmas.List.Elements.{All-cons, All-nil, All-head, All-tail, All-weaker, All-map, All-replicate}
use Rattle.json_value.specs.declared.tree.Json.{Json, out-Json}
use Rattle.json_value.specs.declared.tree.Json.TheVariants as json
use Rattle.json_value.specs.declared.tree.Json.TheOpen.{Json-F}
use Rattle.json_value.specs.declared.tree.Json.TheViews.{roll-Json, roll-out-Json}
use Rattle.json_value.proofs.Cases.{out-null}
use Rattle.cache_terms.specs.declared.events.Reply.{Reply}
use Rattle.cache_terms.specs.declared.offers.Verdict.{Verdict}
use Rattle.cache_terms.specs.declared.tags.Tags.{Tags}
use Rattle.cache_book.specs.Permits.{Granted, Pinned}
use Rattle.cache_terms.specs.declared.keys.Key.{Key}
use Rattle.cache_seam.specs.Turns.{Turn}
use Rattle.line_base.specs.Lines.{Entry}
use Rattle.line_base.specs.declared.line.LineFault.{LineFault}
use Rattle.line_base.specs.declared.line.LineFault.TheVariants as line_fault
use Rattle.reply_read.specs.declared.replies.Pieces.{Pieces}
use Rattle.fetch_asks.specs.declared.ask.Ask.{Ask}
use Rattle.piece_fetch.specs.declared.came.Brought.{Brought}
use Rattle.piece_fetch.specs.declared.came.Coming.{Coming}
use Rattle.piece_fetch.specs.declared.came.Coming.TheVariants.{Nothing, Lost, Came}
use Rattle.piece_fetch.specs.declared.fetched.Cause.{Cause}
use Rattle.piece_fetch.specs.declared.fetched.Fetched.{Fetched}
use Rattle.piece_fetch.specs.declared.fetched.Lasts.{Lasts}
use Rattle.piece_fetch.specs.declared.fetched.Origin.{Origin}
use Rattle.piece_fetch.specs.declared.fetched.Origin.TheVariants as origin
use Rattle.piece_fetch.specs.declared.slots.Slot.{Slot}
use Rattle.piece_fetch.specs.declared.slots.Slot.TheVariants as slot
use Rattle.piece_fetch.specs.Offering.{is_null, is_null_at, pieces_of, brought_of, is_some_error}
use Rattle.piece_fetch.specs.Coming.{Sends, ComesOf, sent_of, brought_by}
use Rattle.piece_fetch.specs.Fetching as fetching
use Rattle.piece_fetch.specs.Fetching.{FetchesPieces, AreGathered}
use Rattle.cache_seam.specs.Hand.{permits_of}
use Rattle.partial_fetch.specs.Headline.{WasFetched, AreFromFetches}

null_at : (x : Json-F Json) → is_null_at x ≡ true → x ≡ Json-F.Null
null_at Json-F.Null h = refl
null_at (Json-F.Bool b) h = absurd (cc h)
null_at (Json-F.Number t) h = absurd (cc h)
null_at (Json-F.Str t) h = absurd (cc h)
null_at (Json-F.List xs) h = absurd (cc h)
null_at (Json-F.Object ms) h = absurd (cc h)

null_is : (v : Json) → is_null v ≡ true → v ≡ json.Null
null_is v h = sym (roll-out-Json v) ∙ (ap roll-Json (null_at (out-Json v) h) ∙ json.rolls-Null)

null_is_null : is_null json.Null ≡ true
null_is_null = ap is_null_at out-null

-- the first of each pair is one of the first list
among_more : (x : Json) (xs : List Json) (y : Json) → Contains xs y → Contains (x ∷ xs) y
among_more x xs y h = (suc h.0, omega (arith, h.1), h.2)

zip_among : (xs : List Json) (ts : List Tags) → All (λ (p : Json × Tags). Contains xs p.0) (zip xs ts)
zip_among [] ts = All-nil (λ (p : Json × Tags). Contains [] p.0)
zip_among (x ∷ xs) [] = All-nil (λ (p : Json × Tags). Contains (x ∷ xs) p.0)
zip_among (x ∷ xs) (t ∷ ts) =
    All-cons (λ (p : Json × Tags). Contains (x ∷ xs) p.0) (x, t) (zip xs ts) (0, omega arith, refl)
    (All-weaker (λ (p : Json × Tags). Contains xs p.0) (λ (p : Json × Tags). Contains (x ∷ xs) p.0) (λ p h. among_more x xs p.0 h) (zip xs ts) (zip_among xs ts))

-- what came for a permit is null, or was fetched
abbrev CameSo : List Entry → Brought → Type 0
CameSo entries one = is_null one.value ≡ false → WasFetched entries one.value

-- the reply whose pieces came
read_from : (ask : Ask) (named : Bool) (n : ℕ) (e : Entry) (entries : List Entry) → entries ≡ e ∷ [] → (answer : Result Reply LineFault) → e.answer ≡ answer → (status : ℕ) (verdict : Verdict) (p : Pieces)
    → ComesOf (sent_of ask n) answer (Came status verdict p) → All (CameSo entries) (brought_by ask named n (Came status verdict p))
read_from ask named n e entries only (Ok reply) is status verdict p h =
    All-map (CameSo entries) (brought_of ask named status verdict (is_some_error p.errors.items)) (pieces_of p)
    (All-weaker (λ (pair : Json × Tags). Contains p.values.items pair.0) (λ (pair : Json × Tags). is_null pair.0 ≡ false → WasFetched entries pair.0)
    (λ pair among not_null. record { call = e; only = only; reply = reply; answered = is; status = h.0; sent = sent_of ask n; pieces = p; reads = h.3; among = among })
    (pieces_of p) (zip_among p.values.items p.tags.items))
read_from ask named n e entries only (Err line_fault.Failed) is status verdict p h = absurd h
read_from ask named n e entries only (Err (line_fault.TooLong k)) is status verdict p h = absurd h
read_from ask named n e entries only (Err line_fault.Memory) is status verdict p h = absurd h

brought_so : (ask : Ask) (named : Bool) (id : Option (List ℕ)) (permits : List Granted) (entries : List Entry) (coming : Coming) → Sends ask id permits entries coming → All (CameSo entries) (brought_by ask named (length permits) coming)
brought_so ask named id permits entries Nothing h = All-nil (CameSo entries)
brought_so ask named id permits entries (Lost why) h = All-replicate (CameSo entries) (length permits) (record { value = json.Null; lasts = None }) (λ (not_null : is_null json.Null ≡ false). absurd (cc (null_is_null, not_null)))
brought_so ask named id [] entries (Came status verdict p) h = absurd (cc (h.1))
brought_so ask named id (q ∷ qs) entries (Came status verdict p) h = read_from ask named (length (q ∷ qs)) h.0 entries h.1 h.0.answer refl status verdict p h.3

-- so the pieces of a fetch are what they are said to be
module _ (entries : List Entry) (line call : ℕ) where
  asked_for : (b : Bool) (v : Json) (xs : List Json) (os : List Origin) → is_null v ≡ b → (is_null v ≡ false → WasFetched entries v) → AreFromFetches entries xs os
      → AreFromFetches entries (v ∷ xs) ((if b then origin.Absent else origin.Own line call) ∷ os)
  asked_for true v xs os is so rest = (null_is v is, rest)
  asked_for false v xs os is so rest = (so is, rest)

  pieces_fetched : (slots : List Slot) (came : List Brought) (xs : List Json) (os : List Origin) (ls : List (Option Lasts)) → AreGathered line call slots came xs os ls → All (CameSo entries) came → AreFromFetches entries xs os
  pieces_fetched _ _ _ _ _ fetching.no_more so = tt
  pieces_fetched _ _ _ _ _ (fetching.hit l q v t x slots came xs os ls reads rest) so = pieces_fetched slots came xs os ls rest so
  pieces_fetched _ _ _ _ _ (fetching.own one slots came xs os ls rest) so =
      asked_for (is_null one.value) one.value xs os refl (All-head (CameSo entries) one came so) (pieces_fetched slots came xs os ls rest (All-tail (CameSo entries) one came so))

pub fetch_fetched : (ask : Ask) (keys : List Key) (id : Option (List ℕ)) (line call : ℕ) (pass : Pinned) (now : ℕ) (turns : List Turn) (entries : List Entry) (f : Fetched) → FetchesPieces ask keys id line call pass now turns entries f → AreFromFetches entries f.pieces.items f.origins.items
fetch_fetched ask keys id line call pass now turns entries f h =
    pieces_fetched entries line call _ _ f.pieces.items f.origins.items f.lasts.items h.pieces (brought_so ask _ id (permits_of h.answers) entries h.coming h.sends)
