-- What the fetches of one request do.
use Rattle.std.specs.Prelude.{◌≡◌, ℕ, List, [], ◌∷◌, ◌++◌, Option, Some, None}
use Rattle.json_value.specs.declared.tree.Json.{Json}
use Rattle.cache_book.specs.Permits.{Pinned}
use Rattle.cache_book.specs.Calls.{Begin, Begun}
use Rattle.flow_base.specs.Logs.{Grows}
use Rattle.line_base.specs.Lines.{Line, Entry, Gains, calls_after}
use Rattle.cache_seam.specs.Seen.{Seen}
use Rattle.cache_seam.specs.Turns.{Turn, TakesTurns}
use Rattle.piece_fetch.specs.Fetching.{FetchesPieces, Drops}
use Rattle.plan_run.specs.declared.outcome.Outcome.{Outcome}
use Rattle.plan_run.specs.Plans.{Wanted}
use Rattle.plan_run.specs.Outcomes.{Done, moments_of, turns_of, entries_of, pieces_of, receipts_of, lasts_of, errors_of}

-- the fetches were done under this pass, one after another; calls is the number of calls before them
abbrev pub AreRun : Option (List ℕ) → (line : ℕ) → Pinned → (calls : ℕ) → List Wanted → List Done → Type 0
AreRun id line pass calls [] [] = Unit {0}
AreRun id line pass calls (w ∷ ws) (d ∷ ds) = FetchesPieces w.ask w.keys id line calls pass d.now d.turns d.entries d.fetched × AreRun id line pass (calls_after calls d.entries) ws ds
AreRun id line pass calls [] (d ∷ ds) = ⊥
AreRun id line pass calls (w ∷ ws) [] = ⊥

-- the pass of the request, which a begin gave
pub record Begins (c : Seen) (pass : Pinned) (t : Turn) : Type 0 where
  pub who : pass.who ≡ c.number
  pub call : t.call ≡ Begin c.number
  pub answer : t.answer ≡ Begun pass

-- each fetch is the one that came next, for the pieces given before it
abbrev pub IsOrder : (next : List (List Json) → Option Wanted) → (given : List (List Json)) → List Wanted → List Done → Type 0
IsOrder next given [] [] = Unit {0}
IsOrder next given (w ∷ ws) (d ∷ ds) = (next given ≡ Some w) × IsOrder next (given ++ d.fetched.pieces.items ∷ []) ws ds
IsOrder next given [] (d ∷ ds) = ⊥
IsOrder next given (w ∷ ws) [] = ⊥

-- ONE REQUEST: it begins, and the fetches of its plan are done in order, until none comes next. Each is given its pieces.
pub record DoesRequest (next : List (List Json) → Option Wanted) (given now : List (List Json)) (id : Option (List ℕ)) (line : ℕ) (c d : Seen) (l m : Line) (before after : Option (List ℕ)) (o : Outcome) : Type 0 where
  pub pass : Pinned
  pub begin : Turn
  pub begins : Begins c pass begin
  pub tasks : List Wanted
  pub done : List Done
  pub order : IsOrder next given tasks done
  pub given_is : now ≡ given ++ pieces_of done
  pub ended : next now ≡ None
  pub runs : AreRun id line pass l.calls tasks done
  pub takes : TakesTurns c (begin ∷ turns_of done) d
  pub gains : Gains l (entries_of done) m
  pub ticks : Grows before after (moments_of done)
  pub receipts : o.receipts.items ≡ receipts_of tasks done
  pub lasts : o.lasts.items ≡ lasts_of done
  pub errors : o.errors.items ≡ errors_of tasks done

-- the next fetch finds no memory, where there is one
abbrev pub DropsNext : Option (List ℕ) → Pinned → Option Wanted → List ℕ → List Turn → List Entry → Type 0
DropsNext id pass None moments turns entries = (moments ≡ []) × (turns ≡ []) × (entries ≡ [])
DropsNext id pass (Some w) moments turns entries = Drops w.ask w.keys id pass moments turns entries

-- A REQUEST THAT FINDS NO MEMORY: some first fetches are done, and the next one finds none
pub record DropsRequest (next : List (List Json) → Option Wanted) (given : List (List Json)) (id : Option (List ℕ)) (line : ℕ) (c d : Seen) (l m : Line) (before after : Option (List ℕ)) : Type 0 where
  pub pass : Pinned
  pub begin : Turn
  pub begins : Begins c pass begin
  pub tasks : List Wanted
  pub done : List Done
  pub order : IsOrder next given tasks done
  pub runs : AreRun id line pass l.calls tasks done
  pub moments : List ℕ
  pub turns : List Turn
  pub entries : List Entry
  pub drops : DropsNext id pass (next (given ++ pieces_of done)) moments turns entries
  pub takes : TakesTurns c ((begin ∷ turns_of done) ++ turns) d
  pub gains : Gains l (entries_of done ++ entries) m
  pub ticks : Grows before after (moments_of done ++ moments)
