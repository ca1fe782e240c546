-- One fetch, from its parts.
use Rattle.std.proofs.Common.{◌≡◌, ◌≤◌, ℕ, false, List, [], ◌∷◌, length, Option, refl, sym, subst}
use Rattle.std.specs.Prelude.{Result, Ok, Err, OnErr, replicate, is_some}
use Rattle.cache_terms.specs.declared.keys.Key.{Key}
use Rattle.cache_book.specs.declared.found.Found.{Found}
use Rattle.cache_book.specs.declared.permit.Report.{Report}
use Rattle.cache_book.specs.declared.permit.Report.TheVariants as report
use Rattle.cache_book.specs.Permits.{Pinned, Granted}
use Rattle.cache_book.specs.Calls.{Look, Looked, OutOfMemory}
use Rattle.line_base.specs.Lines.{Line}
use Rattle.flow_base.specs.Logs.{Grows}
use Rattle.line_base.proofs.Gaining.{gains_none, grows_none}
use Rattle.cache_seam.specs.Seen.{Seen, pass_of}
use Rattle.cache_seam.specs.Turns.{Turn, Calls, TakesTurns}
use Rattle.cache_seam.specs.Hand.{permits_of, AreAnswers}
use Rattle.cache_seam.proofs.Chains.{takes_none, takes_one, takes_append}
use Rattle.fetch_asks.specs.declared.ask.Ask.{Ask}
use Rattle.piece_fetch.specs.declared.prepare.Work.{Work}
use Rattle.piece_fetch.specs.declared.slots.Slot.{Slot}
use Rattle.piece_fetch.specs.Coming.{SettlesEach}
use Rattle.piece_fetch.specs.Fetching.{slots_of, MaySend, DoesFetch, DropsFetch, unbegun, looking, in_hand}
use Rattle.piece_fetch.specs.Between.{Works, MayHaveSent}
use Rattle.piece_fetch.proofs.Parting.{lent_few}
use Rattle.piece_fetch.proofs.Reporting.{AreReports, sent_reports}

pub any_err : {X Y : Type 0} (r : Result X Y) (P : Type 0) → P → OnErr r P
any_err (Ok x) P h = tt
any_err (Err e) P h = h

-- what was made gives reports that the permits may be settled with
pub reports_ready : (ask : Ask) (pass : Pinned) (id : Option (List ℕ)) (keys : List Key) (answers : List Found) (number : ℕ) (slots : List Slot) (lent : List Granted) (l m : Line) (w : Work)
    → AreAnswers pass id keys answers → lent ≡ permits_of answers → (ask.entities ≡ false → length keys ≡ 1) → Works ask id number slots lent l m w → AreReports (length lent) w.reports.items
reports_ready ask pass id keys answers number slots lent l m w answered same one works =
    let few : ask.entities ≡ false → length lent ≤ 1 = lent_few pass id keys answers lent ask.entities answered same one in
    subst (AreReports (length lent)) (sym works.reports) ((sent_reports ask id (is_some id) lent works.entries works.coming few works.sends).0)

module _ (ask : Ask) (keys : List Key) (id : Option (List ℕ)) (c : Seen) (l : Line) (before : Option (List ℕ)) where
  -- nothing has begun
  pub drops_unbegun : DropsFetch ask keys id c c l l before before
  drops_unbegun = record { moments = []; turns = []; entries = []; drops = unbegun; takes = takes_none c; gains = gains_none l; ticks = grows_none before }

  -- the look found no memory
  pub drops_looking : (d : Seen) (after : Option (List ℕ)) (now : ℕ) → Calls c (Look (pass_of c) id keys now) OutOfMemory d → Grows before after (now ∷ []) → DropsFetch ask keys id c d l l before after
  drops_looking d after now h ticks = record {
    moments = now ∷ [];
    turns = h.turn ∷ [];
    entries = [];
    drops = looking now h.turn h.call_is h.answer_is;
    takes = takes_one c d (Look (pass_of c) id keys now) OutOfMemory h;
    gains = gains_none l;
    ticks = ticks;
  }

  module _ (mid : Seen) (m : Line) (after : Option (List ℕ)) (now : ℕ) (answers : List Found) (permits : List Granted) (is : permits ≡ permits_of answers)
      (h : Calls c (Look (pass_of c) id keys now) (Looked answers) mid) (ticks : Grows before after (now ∷ [])) where
    -- memory ran out while the permits were in hand
    pub drops_in_hand : (lent : List Granted) → lent ≡ permits_of answers → (d : Seen) → MayHaveSent ask id lent l m → (turns : List Turn) × TakesTurns mid turns d × SettlesEach permits (replicate (length permits) report.Failed) turns → DropsFetch ask keys id c d l m before after
    drops_in_hand lent same d may st = record {
      moments = now ∷ [];
      turns = h.turn ∷ st.0;
      entries = may.entries;
      drops = in_hand now h.turn answers st.0 may.entries h.call_is h.answer_is (subst (λ (ps : List Granted). MaySend ask id ps may.entries) same may.sends)
          (subst (λ (ps : List Granted). SettlesEach ps (replicate (length ps) report.Failed) st.0) is st.2);
      takes = takes_append c mid d (h.turn ∷ []) st.0 (takes_one c mid (Look (pass_of c) id keys now) (Looked answers) h) st.1;
      gains = may.gains;
      ticks = ticks;
    }

    -- all was done
    pub does_fetch : (number : ℕ) (lent : List Granted) (slots : List Slot) → lent ≡ permits_of answers → slots ≡ slots_of answers → (d : Seen) (w : Work) → Works ask id number slots lent l m w
        → (turns : List Turn) × TakesTurns mid turns d × SettlesEach permits w.reports.items turns → DoesFetch ask keys id number c d l m before after w.fetched
    does_fetch number lent slots same stand d w works st =
        let whole : Works ask id number (slots_of answers) (permits_of answers) l m w =
        subst (λ (ss : List Slot). Works ask id number ss (permits_of answers) l m w) stand (subst (λ (ps : List Granted). Works ask id number slots ps l m w) same works) in
        let settled : SettlesEach (permits_of answers) w.reports.items st.0 = subst (λ (ps : List Granted). SettlesEach ps w.reports.items st.0) is st.2 in
        record {
          now = now;
          turns = h.turn ∷ st.0;
          entries = whole.entries;
          fetches = record {
            answers = answers;
            look = h.turn;
            settles = st.0;
            turns_are = refl;
            looks = h.call_is;
            looked = h.answer_is;
            coming = whole.coming;
            sends = whole.sends;
            settled = subst (λ (rs : List Report). SettlesEach (permits_of answers) rs st.0) whole.reports settled;
            pieces = whole.pieces;
            causes = whole.causes;
            first_sent = whole.first_sent;
          };
          takes = takes_append c mid d (h.turn ∷ []) st.0 (takes_one c mid (Look (pass_of c) id keys now) (Looked answers) h) st.1;
          gains = whole.gains;
          ticks = ticks;
        }
