-- A request, fetch by fetch.
use Rattle.std.proofs.Common.{◌≡◌, ℕ, ◌+◌, true, List, [], ◌∷◌, ◌++◌, Option, Some, None, refl, ap, sym, ◌∙◌, subst, append_assoc}
use Rattle.std.specs.Prelude.{min, ◌^◌, ◌-◌}
use Rattle.std.proofs.lemmas.List.{append-nil}
use Rattle.json_value.specs.declared.tree.Json.{Json}
use Rattle.cache_book.specs.Permits.{Pinned}
use Rattle.cache_book.specs.Calls.{Call, Begin, Begun}
use Rattle.flow_base.specs.Logs.{Grows}
use Rattle.line_base.specs.Lines.{Line, Entry, Gains, calls_after}
use Rattle.line_base.proofs.Gaining.{gains_none, gains_trans, grows_none, grows_trans}
use Rattle.cache_seam.specs.Seen.{Seen, pass_of}
use Rattle.cache_seam.specs.Turns.{Turn, Calls, TakesTurns, pinned_after, begun_after}
use Rattle.cache_seam.proofs.Hands.{step_of, number_of}
use Rattle.cache_seam.proofs.Chains.{takes_none, takes_one, takes_append}
use Rattle.piece_fetch.specs.declared.fetched.Fetched.{Fetched}
use Rattle.piece_fetch.specs.declared.fetched.Lasts.{Lasts}
use Rattle.piece_fetch.specs.Fetching.{FetchesPieces, DoesFetch, DropsFetch, Drops, unbegun}
use Rattle.piece_fetch.proofs.Pins.{pin_kept, fetch_keeps}
use Rattle.plan_run.specs.declared.outcome.Receipt.{Receipt}
use Rattle.plan_run.specs.declared.outcome.PieceError.{PieceError}
use Rattle.plan_run.specs.declared.outcome.Outcome.{Outcome}
use Rattle.plan_run.specs.Plans.{Wanted}
use Rattle.plan_run.specs.Outcomes.{Done, moments_of, turns_of, entries_of, pieces_of, receipts_of, receipts_from, lasts_of, errors_of, errors_by}
use Rattle.plan_run.specs.Requests.{AreRun, Begins, IsOrder, DoesRequest, DropsNext, DropsRequest}

-- ONE FETCH MORE

turns_more : (ds : List Done) (x : Done) → turns_of (ds ++ x ∷ []) ≡ turns_of ds ++ x.turns
turns_more [] x = append-nil x.turns
turns_more (d ∷ ds) x = ap (λ (l : List Turn). d.turns ++ l) (turns_more ds x) ∙ sym (append_assoc d.turns (turns_of ds) x.turns)

entries_more : (ds : List Done) (x : Done) → entries_of (ds ++ x ∷ []) ≡ entries_of ds ++ x.entries
entries_more [] x = append-nil x.entries
entries_more (d ∷ ds) x = ap (λ (l : List Entry). d.entries ++ l) (entries_more ds x) ∙ sym (append_assoc d.entries (entries_of ds) x.entries)

moments_more : (ds : List Done) (x : Done) → moments_of (ds ++ x ∷ []) ≡ moments_of ds ++ x.now ∷ []
moments_more [] x = refl
moments_more (d ∷ ds) x = ap (λ (l : List ℕ). d.now ∷ l) (moments_more ds x)

calls_append : (n : ℕ) (es fs : List Entry) → calls_after n (es ++ fs) ≡ calls_after (calls_after n es) fs
calls_append n [] fs = refl
calls_append n (e ∷ es) fs = calls_append (min (n + 1) (2 ^ 64 - 1)) es fs

runs_more : (id : Option (List ℕ)) (line : ℕ) (pass : Pinned) (calls : ℕ) (ts : List Wanted) (ds : List Done) (t : Wanted) (x : Done) → AreRun id line pass calls ts ds
    → FetchesPieces t.ask t.keys id line (calls_after calls (entries_of ds)) pass x.now x.turns x.entries x.fetched → AreRun id line pass calls (ts ++ t ∷ []) (ds ++ x ∷ [])
runs_more id line pass calls [] [] t x h one = (one, tt)
runs_more id line pass calls (s ∷ ts) (d ∷ ds) t x h one = (
  h.0,
  runs_more id line pass (calls_after calls d.entries) ts ds t x h.1
      (subst (λ (n : ℕ). FetchesPieces t.ask t.keys id line n pass x.now x.turns x.entries x.fetched) (calls_append calls d.entries (entries_of ds)) one),
)
runs_more id line pass calls [] (d ∷ ds) t x h one = absurd h
runs_more id line pass calls (s ∷ ts) [] t x h one = absurd h

receipts_more : (id : Option (List ℕ)) (line : ℕ) (pass : Pinned) (calls : ℕ) (ts : List Wanted) (ds : List Done) (t : Wanted) (x : Done) → AreRun id line pass calls ts ds
    → receipts_of (ts ++ t ∷ []) (ds ++ x ∷ []) ≡ receipts_of ts ds ++ receipts_from t.fetch 0 x.fetched.origins.items
receipts_more id line pass calls [] [] t x h = append-nil (receipts_from t.fetch 0 x.fetched.origins.items)
receipts_more id line pass calls (s ∷ ts) (d ∷ ds) t x h =
    ap (λ (l : List Receipt). receipts_from s.fetch 0 d.fetched.origins.items ++ l) (receipts_more id line pass (calls_after calls d.entries) ts ds t x h.1)
    ∙ sym (append_assoc (receipts_from s.fetch 0 d.fetched.origins.items) (receipts_of ts ds) (receipts_from t.fetch 0 x.fetched.origins.items))
receipts_more id line pass calls [] (d ∷ ds) t x h = absurd h
receipts_more id line pass calls (s ∷ ts) [] t x h = absurd h

errors_more : (id : Option (List ℕ)) (line : ℕ) (pass : Pinned) (calls : ℕ) (ts : List Wanted) (ds : List Done) (t : Wanted) (x : Done) → AreRun id line pass calls ts ds
    → errors_of (ts ++ t ∷ []) (ds ++ x ∷ []) ≡ errors_of ts ds ++ errors_by t x.fetched
errors_more id line pass calls [] [] t x h = append-nil (errors_by t x.fetched)
errors_more id line pass calls (s ∷ ts) (d ∷ ds) t x h =
    ap (λ (l : List PieceError). errors_by s d.fetched ++ l) (errors_more id line pass (calls_after calls d.entries) ts ds t x h.1)
    ∙ sym (append_assoc (errors_by s d.fetched) (errors_of ts ds) (errors_by t x.fetched))
errors_more id line pass calls [] (d ∷ ds) t x h = absurd h
errors_more id line pass calls (s ∷ ts) [] t x h = absurd h

order_more : (next : List (List Json) → Option Wanted) (given : List (List Json)) (ts : List Wanted) (ds : List Done) (t : Wanted) (x : Done) → IsOrder next given ts ds → next (given ++ pieces_of ds) ≡ Some t → IsOrder next given (ts ++ t ∷ []) (ds ++ x ∷ [])
order_more next given [] [] t x h is = (ap next (sym (append-nil given)) ∙ is, tt)
order_more next given (s ∷ ts) (d ∷ ds) t x h is =
    (h.0, order_more next (given ++ d.fetched.pieces.items ∷ []) ts ds t x h.1 (ap next (append_assoc given (d.fetched.pieces.items ∷ []) (pieces_of ds)) ∙ is))
order_more next given [] (d ∷ ds) t x h is = absurd h
order_more next given (s ∷ ts) [] t x h is = absurd h

lasts_more : (ds : List Done) (x : Done) → lasts_of (ds ++ x ∷ []) ≡ lasts_of ds ++ x.fetched.lasts.items
lasts_more [] x = append-nil x.fetched.lasts.items
lasts_more (d ∷ ds) x = ap (λ (l : List (Option Lasts)). d.fetched.lasts.items ++ l) (lasts_more ds x) ∙ sym (append_assoc d.fetched.lasts.items (lasts_of ds) x.fetched.lasts.items)

pieces_more : (ds : List Done) (x : Done) → pieces_of (ds ++ x ∷ []) ≡ pieces_of ds ++ x.fetched.pieces.items ∷ []
pieces_more [] x = refl
pieces_more (d ∷ ds) x = ap (λ (l : List (List Json)). d.fetched.pieces.items ∷ l) (pieces_more ds x)

-- some first fetches are done
pub record SoFar (next : List (List Json) → Option Wanted) (given now : List (List Json)) (id : Option (List ℕ)) (line : ℕ) (c d : Seen) (l m : Line) (before after : Option (List ℕ)) (receipts : List Receipt) (lasts : List (Option Lasts)) (errors : List PieceError) : Type 0 where
  pub pass : Pinned
  pub begin : Turn
  pub begins : Begins c pass begin
  pub tasks : List Wanted
  pub done : List Done
  pub order : IsOrder next given tasks done
  pub given_is : now ≡ given ++ pieces_of done
  pub runs : AreRun id line pass l.calls tasks done
  pub takes : TakesTurns c (begin ∷ turns_of done) d
  pub gains : Gains l (entries_of done) m
  pub ticks : Grows before after (moments_of done)
  pub receipts_are : receipts ≡ receipts_of tasks done
  pub lasts_are : lasts ≡ lasts_of done
  pub errors_are : errors ≡ errors_of tasks done
  pub here : pass_of d ≡ pass
  pub begun : d.begun ≡ true

-- the request has begun
pub has_begun : (next : List (List Json) → Option Wanted) (given : List (List Json)) (id : Option (List ℕ)) (line : ℕ) (c d : Seen) (l : Line) (log : Option (List ℕ)) (epoch : ℕ) → Calls c (Begin c.number) (Begun (record { who = c.number; epoch = epoch })) d
    → SoFar next given given id line c d l l log log [] [] []
has_begun next given id line c d l log epoch h =
    let call : Call = Begin c.number in
    let pass : Pinned = record { who = c.number; epoch = epoch } in
    let step = step_of c d call (Begun pass) h in
    let epoch_is : epoch ≡ h.turn.left.epoch = ap (λ (p : Pinned). p.epoch) step.1 in
    let pinned : d.pinned ≡ h.turn.left.epoch = ap (λ (s : Seen). s.pinned) h.after ∙ ap (λ (x : Call). pinned_after x c.pinned h.turn.left.epoch) h.call_is in
    let begun : d.begun ≡ true = ap (λ (s : Seen). s.begun) h.after ∙ ap (λ (x : Call). begun_after x c.begun) h.call_is in
    record {
      pass = pass;
      begin = h.turn;
      begins = record { who = refl; call = h.call_is; answer = h.answer_is };
      tasks = [];
      done = [];
      order = tt;
      given_is = sym (append-nil given);
      runs = tt;
      takes = takes_one c d call (Begun pass) h;
      gains = gains_none l;
      ticks = grows_none log;
      receipts_are = refl;
      lasts_are = refl;
      errors_are = refl;
      here = ap (λ (n : ℕ). record { who = n; epoch = d.pinned }) (number_of c d call (Begun pass) h) ∙ ap (λ (e : ℕ). record { who = c.number; epoch = e }) (pinned ∙ sym epoch_is);
      begun = begun;
    }

-- one fetch more is done
pub done_more : (next : List (List Json) → Option Wanted) (given now : List (List Json)) (t : Wanted) (id : Option (List ℕ)) (line : ℕ) (c d e : Seen) (l m n : Line) (before mid after : Option (List ℕ)) (receipts : List Receipt) (lasts : List (Option Lasts)) (errors : List PieceError) (f : Fetched)
    → SoFar next given now id line c d l m before mid receipts lasts errors → next now ≡ Some t → DoesFetch t.ask t.keys id line d e m n mid after f
    → SoFar next given (now ++ f.pieces.items ∷ []) id line c e l n before after (receipts ++ receipts_from t.fetch 0 f.origins.items) (lasts ++ f.lasts.items) (errors ++ errors_by t f)
done_more next given now t id line c d e l m n before mid after receipts lasts errors f s is h =
    let x : Done = record { now = h.now; turns = h.turns; entries = h.entries; fetched = f } in
    let at_pass : FetchesPieces t.ask t.keys id line m.calls s.pass h.now h.turns h.entries f = subst (λ (p : Pinned). FetchesPieces t.ask t.keys id line m.calls p h.now h.turns h.entries f) s.here h.fetches in
    let one : FetchesPieces t.ask t.keys id line (calls_after l.calls (entries_of s.done)) s.pass h.now h.turns h.entries f = subst (λ (k : ℕ). FetchesPieces t.ask t.keys id line k s.pass h.now h.turns h.entries f) s.gains.calls at_pass in
    let pin = pin_kept d h.turns (fetch_keeps t.ask t.keys id line m.calls (pass_of d) h.now h.turns h.entries f h.fetches) in
    record {
      pass = s.pass;
      begin = s.begin;
      begins = s.begins;
      tasks = s.tasks ++ t ∷ [];
      done = s.done ++ x ∷ [];
      order = order_more next given s.tasks s.done t x s.order (ap next (sym s.given_is) ∙ is);
      given_is = ap (λ (g : List (List Json)). g ++ f.pieces.items ∷ []) s.given_is ∙ append_assoc given (pieces_of s.done) (f.pieces.items ∷ []) ∙ ap (λ (l : List (List Json)). given ++ l) (sym (pieces_more s.done x));
      runs = runs_more id line s.pass l.calls s.tasks s.done t x s.runs one;
      takes = subst (λ (ts : List Turn). TakesTurns c (s.begin ∷ ts) e) (sym (turns_more s.done x)) (takes_append c d e (s.begin ∷ turns_of s.done) h.turns s.takes h.takes);
      gains = subst (λ (es : List Entry). Gains l es n) (sym (entries_more s.done x)) (gains_trans l m n (entries_of s.done) h.entries s.gains h.gains);
      ticks = subst (λ (ms : List ℕ). Grows before after ms) (sym (moments_more s.done x)) (grows_trans before mid after (moments_of s.done) (h.now ∷ []) s.ticks h.ticks);
      receipts_are = ap (λ (rs : List Receipt). rs ++ receipts_from t.fetch 0 f.origins.items) s.receipts_are ∙ sym (receipts_more id line s.pass l.calls s.tasks s.done t x s.runs);
      lasts_are = ap (λ (ls : List (Option Lasts)). ls ++ f.lasts.items) s.lasts_are ∙ sym (lasts_more s.done x);
      errors_are = ap (λ (es : List PieceError). es ++ errors_by t f) s.errors_are ∙ sym (errors_more id line s.pass l.calls s.tasks s.done t x s.runs);
      here = ap pass_of h.takes.after ∙ pin.0 ∙ s.here;
      begun = ap (λ (y : Seen). y.begun) h.takes.after ∙ pin.1 ∙ s.begun;
    }

-- none comes next
pub all_done : (next : List (List Json) → Option Wanted) (given now : List (List Json)) (id : Option (List ℕ)) (line : ℕ) (c d : Seen) (l m : Line) (before after : Option (List ℕ)) (o : Outcome) → next now ≡ None
    → SoFar next given now id line c d l m before after o.receipts.items o.lasts.items o.errors.items → DoesRequest next given now id line c d l m before after o
all_done next given now id line c d l m before after o none s = record {
  pass = s.pass;
  begin = s.begin;
  begins = s.begins;
  tasks = s.tasks;
  done = s.done;
  order = s.order;
  given_is = s.given_is;
  ended = none;
  runs = s.runs;
  takes = s.takes;
  gains = s.gains;
  ticks = s.ticks;
  receipts = s.receipts_are;
  lasts = s.lasts_are;
  errors = s.errors_are;
}

-- the next fetch found no memory
pub next_dropped : (next : List (List Json) → Option Wanted) (given now : List (List Json)) (t : Wanted) (id : Option (List ℕ)) (line : ℕ) (c d e : Seen) (l m n : Line) (before mid after : Option (List ℕ)) (receipts : List Receipt) (lasts : List (Option Lasts)) (errors : List PieceError)
    → SoFar next given now id line c d l m before mid receipts lasts errors → next now ≡ Some t → DropsFetch t.ask t.keys id d e m n mid after → DropsRequest next given id line c e l n before after
next_dropped next given now t id line c d e l m n before mid after receipts lasts errors s is h = record {
  pass = s.pass;
  begin = s.begin;
  begins = s.begins;
  tasks = s.tasks;
  done = s.done;
  order = s.order;
  runs = s.runs;
  moments = h.moments;
  turns = h.turns;
  entries = h.entries;
  drops = subst (λ (o : Option Wanted). DropsNext id s.pass o h.moments h.turns h.entries) (sym (ap next (sym s.given_is) ∙ is)) (subst (λ (p : Pinned). Drops t.ask t.keys id p h.moments h.turns h.entries) s.here h.drops);
  takes = takes_append c d e (s.begin ∷ turns_of s.done) h.turns s.takes h.takes;
  gains = gains_trans l m n (entries_of s.done) h.entries s.gains h.gains;
  ticks = grows_trans before mid after (moments_of s.done) h.moments s.ticks h.ticks;
}

none_next : (id : Option (List ℕ)) (pass : Pinned) (o : Option Wanted) → DropsNext id pass o [] [] []
none_next id pass None = (refl, refl, refl)
none_next id pass (Some t) = unbegun

-- memory ran out between two fetches
pub between_dropped : (next : List (List Json) → Option Wanted) (given now : List (List Json)) (id : Option (List ℕ)) (line : ℕ) (c d : Seen) (l m : Line) (before after : Option (List ℕ)) (receipts : List Receipt) (lasts : List (Option Lasts)) (errors : List PieceError)
    → SoFar next given now id line c d l m before after receipts lasts errors → DropsRequest next given id line c d l m before after
between_dropped next given now id line c d l m before after receipts lasts errors s = record {
  pass = s.pass;
  begin = s.begin;
  begins = s.begins;
  tasks = s.tasks;
  done = s.done;
  order = s.order;
  runs = s.runs;
  moments = [];
  turns = [];
  entries = [];
  drops = none_next id s.pass (next (given ++ pieces_of s.done));
  takes = takes_append c d d (s.begin ∷ turns_of s.done) [] s.takes (takes_none d);
  gains = gains_trans l m m (entries_of s.done) [] s.gains (gains_none m);
  ticks = grows_trans before after after (moments_of s.done) [] s.ticks (grows_none after);
}
