-- What the permits are settled with.
use Rattle.std.proofs.Common.{◌≡◌, ◌≤◌, ℕ, Bool, true, false, List, [], ◌∷◌, length, map, All, Option, refl, ap, sym, ◌∙◌, subst, arith}
use Rattle.std.specs.Prelude.{Result, Ok, Err, replicate, if◌then◌else◌, ◌&&◌, None}
use Rattle.std.specs.List.{zip, list_all}
use Rattle.std.proofs.lemmas.List.{length-replicate, length-map}
use Rattle.std.proofs.lemmas.Slice.Zip.{length-zip}
use Rattle.std.proofs.lemmas.List.Elements.{All-nil, All-cons, All-head, All-tail, All-replicate}
use Rattle.json_value.specs.declared.tree.Json.{Json}
use Rattle.json_value.specs.declared.tree.Json.TheVariants as json
use Rattle.json_value.specs.Grammar.{strict}
use Rattle.json_value.specs.Laws.{HasText}
use Rattle.json_value.proofs.Cases.{Kind, kind_of, is_null, is_bool, is_number, is_string, is_list, is_object, out-null, out-bool, out-number, out-string, out-list}
use Rattle.json_print.proofs.RoundTrip.{text_again}
use Rattle.cache_terms.specs.declared.events.Reply.{Reply}
use Rattle.cache_terms.specs.declared.offers.Verdict.{Verdict}
use Rattle.cache_terms.specs.declared.tags.Tags.{Tags}
use Rattle.cache_control.proofs.Digits.{verdict_in_range}
use Rattle.cache_book.specs.Permits.{Granted}
use Rattle.cache_book.specs.declared.permit.Report.{Report}
use Rattle.cache_book.specs.declared.permit.Report.TheVariants as report
use Rattle.cache_book.specs.Settling.{IsInRange}
use Rattle.line_base.specs.Lines.{Entry}
use Rattle.line_base.specs.declared.line.LineFault.{LineFault}
use Rattle.line_base.specs.declared.line.LineFault.TheVariants as fault
use Rattle.cache_seam.specs.Objects.{OffersObject}
use Rattle.reply_read.specs.declared.replies.Sent.{Sent}
use Rattle.reply_read.specs.declared.replies.Sent.TheVariants as sent
use Rattle.reply_read.specs.declared.replies.Pieces.{Pieces}
use Rattle.reply_read.specs.Kinds as kinds
use Rattle.reply_read.specs.Replies.{ReadsReply}
use Rattle.reply_read.specs.Values.{count_of}
use Rattle.reply_read.specs.Pieces as reply_pieces
use Rattle.reply_read.proofs.PieceTexts.{pieces_read}
use Rattle.fetch_asks.specs.declared.ask.Ask.{Ask}
use Rattle.piece_fetch.specs.declared.came.Coming.{Coming}
use Rattle.piece_fetch.specs.declared.came.Coming.TheVariants.{Nothing, Lost, Came}
use Rattle.piece_fetch.specs.Offering as offering
use Rattle.piece_fetch.specs.Offering.{offer_of, pieces_of, report_of, brought_of, is_some_error}
use Rattle.piece_fetch.specs.Coming.{ComesOf, Sends, reports_of, brought_by, sent_of}
use Rattle.piece_fetch.specs.Between.{AreAllThere}

-- reports that permits may be settled with: as many as permits, in range, and of objects
pub record AreReports (n : ℕ) (rs : List Report) : Type 0 where
  pub count : length rs ≡ n
  pub range : All IsInRange rs
  pub objects : All OffersObject rs

failed_reports : (n : ℕ) → AreReports n (replicate n report.Failed)
failed_reports n = record { count = length-replicate n report.Failed; range = All-replicate IsInRange n report.Failed tt; objects = All-replicate OffersObject n report.Failed tt }

-- a piece that is not null is an object, and its printed text is an object's
offered_object : (ask : Ask) (status : ℕ) (verdict : Verdict) (errors : Bool) (v : Json) (tags : Tags) → Kind v → kinds.is_piece v ≡ true → HasText strict v → OffersObject (report.Got (offer_of ask status verdict errors v tags))
offered_object ask status verdict errors _ tags is_null kind text = λ there. let clash : true ≡ false = sym (ap offering.is_null_at out-null) ∙ there in absurd (cc clash)
offered_object ask status verdict errors _ tags (is_object members) kind text = λ there. (members, text_again (json.Object members) text.0 text.1)
offered_object ask status verdict errors _ tags (is_bool b) kind text = let clash : false ≡ true = sym (ap kinds.piece_by (out-bool b)) ∙ kind in absurd (cc clash)
offered_object ask status verdict errors _ tags (is_number a) kind text = let clash : false ≡ true = sym (ap kinds.piece_by (out-number a)) ∙ kind in absurd (cc clash)
offered_object ask status verdict errors _ tags (is_string a) kind text = let clash : false ≡ true = sym (ap kinds.piece_by (out-string a)) ∙ kind in absurd (cc clash)
offered_object ask status verdict errors _ tags (is_list xs) kind text = let clash : false ≡ true = sym (ap kinds.piece_by (out-list xs)) ∙ kind in absurd (cc clash)

both_hold : (a b : Bool) → (a && b) ≡ true → (a ≡ true) × (b ≡ true)
both_hold true b h = (refl, h)
both_hold false b h = absurd (cc h)

module _ (ask : Ask) (status : ℕ) (verdict : Verdict) (errors : Bool) where
  offered_range : (lifetime : verdict.lifetime ≤ 2147483648) (age : verdict.age ≤ 2147483648) (vs : List Json) (ts : List Tags) → All IsInRange (map (report_of ask status verdict errors) (zip vs ts))
  offered_range lifetime age [] ts = All-nil IsInRange
  offered_range lifetime age (v ∷ vs) [] = All-nil IsInRange
  offered_range lifetime age (v ∷ vs) (t ∷ ts) = All-cons IsInRange (report_of ask status verdict errors (v, t)) (map (report_of ask status verdict errors) (zip vs ts)) (lifetime, age) (offered_range lifetime age vs ts)

  offered_objects : (vs : List Json) (ts : List Tags) → list_all kinds.is_piece vs ≡ true → All (HasText strict) vs → All OffersObject (map (report_of ask status verdict errors) (zip vs ts))
  offered_objects [] ts kind texts = All-nil OffersObject
  offered_objects (v ∷ vs) [] kind texts = All-nil OffersObject
  offered_objects (v ∷ vs) (t ∷ ts) kind texts =
      let both = both_hold (kinds.is_piece v) (list_all kinds.is_piece vs) kind in
      All-cons OffersObject (report_of ask status verdict errors (v, t)) (map (report_of ask status verdict errors) (zip vs ts))
      (offered_object ask status verdict errors v t (kind_of v) both.0 (All-head (HasText strict) v vs texts)) (offered_objects vs ts both.1 (All-tail (HasText strict) v vs texts))

-- what a readable reply holds
came_pieces : (s : Sent) (body : List ℕ) (p : Pieces) → ReadsReply body s (Ok p) → reply_pieces.ArePieces s p.values.items p.tags.items
came_pieces s body p h = pieces_read body s (Ok p) h

-- so many pieces are asked for
pub sent_count : (ask : Ask) (n : ℕ) → (ask.entities ≡ false → n ≡ 1) → count_of (sent_of ask n) ≡ n
sent_count ask n one = by_test ask.entities refl
  where
    by_test : (b : Bool) → ask.entities ≡ b → count_of (if b then sent.Entities n else sent.Root) ≡ n
    by_test true test = refl
    by_test false test = sym (one test)

module _ (ask : Ask) (n : ℕ) (one : ask.entities ≡ false → n ≡ 1) where
  came_count : (p : Pieces) → reply_pieces.ArePieces (sent_of ask n) p.values.items p.tags.items → length (pieces_of p) ≡ n
  came_count p h =
      let pairs = length-zip p.values.items p.tags.items in
      let many = sent_count ask n one in
      omega (arith, pairs, h.values_count, h.tags_count, many)

  came_reports : (reply : Reply) (status : ℕ) (verdict : Verdict) (p : Pieces) → ComesOf (sent_of ask n) (Ok reply) (Came status verdict p) → AreReports n (reports_of ask n (Came status verdict p))
  came_reports reply status verdict p h =
      let errors : Bool = is_some_error p.errors.items in
      let are = came_pieces (sent_of ask n) reply.body p h.3 in
      let range = verdict_in_range reply.cache_control reply.age verdict h.2 in
      record {
        count = length-map (pieces_of p) (report_of ask status verdict errors) ∙ came_count p are;
        range = offered_range ask status verdict errors range.0 range.1 p.values.items p.tags.items;
        objects = offered_objects ask status verdict errors p.values.items p.tags.items are.kinds are.texts;
      }

  came_brought : (named : Bool) (reply : Reply) (status : ℕ) (verdict : Verdict) (p : Pieces) → ComesOf (sent_of ask n) (Ok reply) (Came status verdict p) → length (brought_by ask named n (Came status verdict p)) ≡ n
  came_brought named reply status verdict p h = length-map (pieces_of p) (brought_of ask named status verdict (is_some_error p.errors.items)) ∙ came_count p (came_pieces (sent_of ask n) reply.body p h.3)

  reports_of_came : (named : Bool) (answer : Result Reply LineFault) (coming : Coming) → ComesOf (sent_of ask n) answer coming → AreReports n (reports_of ask n coming) × (length (brought_by ask named n coming) ≡ n)
  reports_of_came named (Ok reply) (Came status verdict p) h = (came_reports reply status verdict p h, came_brought named reply status verdict p h)
  reports_of_came named answer (Lost why) h = (failed_reports n, length-replicate n (record { value = json.Null; lasts = None }))
  reports_of_came named (Ok reply) Nothing h = absurd h
  reports_of_came named (Err fault.Failed) Nothing h = absurd h
  reports_of_came named (Err (fault.TooLong k)) Nothing h = absurd h
  reports_of_came named (Err fault.Memory) Nothing h = absurd h
  reports_of_came named (Err fault.Failed) (Came status verdict p) h = absurd h
  reports_of_came named (Err (fault.TooLong k)) (Came status verdict p) h = absurd h
  reports_of_came named (Err fault.Memory) (Came status verdict p) h = absurd h

-- what is sent brings a report and a piece for each permit
pub sent_reports : (ask : Ask) (id : Option (List ℕ)) (named : Bool) (permits : List Granted) (entries : List Entry) (coming : Coming) → (ask.entities ≡ false → length permits ≤ 1) → Sends ask id permits entries coming
    → AreReports (length permits) (reports_of ask (length permits) coming) × (length (brought_by ask named (length permits) coming) ≡ length permits)
sent_reports ask id named [] entries coming one h =
    subst (λ (x : Coming). AreReports 0 (reports_of ask 0 x) × (length (brought_by ask named 0 x) ≡ 0)) (sym h.1) (record { count = refl; range = All-nil IsInRange; objects = All-nil OffersObject }, refl)
sent_reports ask id named (p ∷ ps) entries coming one h = reports_of_came ask (length (p ∷ ps)) (λ root. let few : length (p ∷ ps) ≤ 1 = one root in omega (arith, few)) named (h.0.answer) coming (h.3)

came_whole : (s : Sent) (answer : Result Reply LineFault) (coming : Coming) → ComesOf s answer coming → AreAllThere coming
came_whole s (Ok reply) (Came status verdict p) h = let are = came_pieces s reply.body p h.3 in (are.tags_count ∙ sym are.values_count, (verdict_in_range reply.cache_control reply.age verdict h.2).0)
came_whole s answer (Lost why) h = tt
came_whole s answer Nothing h = tt
came_whole s (Err fault.Failed) (Came status verdict p) h = absurd h
came_whole s (Err (fault.TooLong k)) (Came status verdict p) h = absurd h
came_whole s (Err fault.Memory) (Came status verdict p) h = absurd h

-- what comes of what is sent is whole
pub sent_whole : (ask : Ask) (id : Option (List ℕ)) (permits : List Granted) (entries : List Entry) (coming : Coming) → Sends ask id permits entries coming → AreAllThere coming
sent_whole ask id [] entries coming h = subst AreAllThere (sym h.1) tt
sent_whole ask id (p ∷ ps) entries coming h = came_whole (sent_of ask (length (p ∷ ps))) (h.0.answer) coming (h.3)
