-- What is offered of the pieces of a reply.
use Rattle.std.specs.Prelude.{ℕ, Bool, true, false, List, [], ◌∷◌}
use Rattle.std.specs.List.{zip}
use Rattle.json_value.specs.declared.tree.Json.{Json, out-Json}
use Rattle.json_value.specs.declared.tree.Json.TheOpen.{Json-F}
use Rattle.json_print.specs.Print.{print}
use Rattle.cache_terms.specs.declared.offers.Offer.{Offer}
use Rattle.cache_terms.specs.declared.offers.Verdict.{Verdict}
use Rattle.cache_terms.specs.declared.tags.Tags.{Tags}
use Rattle.cache_book.specs.declared.permit.Report.{Report}
use Rattle.cache_book.specs.declared.permit.Report.TheVariants as report
use Rattle.reply_read.specs.declared.replies.Pieces.{Pieces}
use Rattle.fetch_asks.specs.declared.ask.Ask.{Ask}
use Rattle.piece_fetch.specs.declared.came.Brought.{Brought}
use Rattle.piece_fetch.specs.Lasting.{lasts_of}

abbrev pub is_null_at : Json-F Json → Bool
is_null_at Json-F.Null = true
is_null_at _ = false

abbrev pub is_null : Json → Bool
is_null v = is_null_at (out-Json v)

-- whether the reply has errors
abbrev pub is_some_error : List (List ℕ) → Bool
is_some_error [] = false
is_some_error (text ∷ texts) = true

-- what is offered of a piece: its printed value with its tags, by the status and the headers of the reply
abbrev pub offer_of : Ask → (status : ℕ) → Verdict → (errors : Bool) → Json → Tags → Offer
offer_of ask status verdict errors value tags = record {
  value = print value;
  tags = tags;
  verdict = verdict;
  marks = record { status = status; errors = errors; absent = is_null value; mutation = ask.mutation; uncached = ask.uncached };
}

-- the pieces of a reply with their tags, one after another
abbrev pub pieces_of : Pieces → List (Json × Tags)
pieces_of p = zip p.values.items p.tags.items

abbrev pub report_of : Ask → ℕ → Verdict → Bool → Json × Tags → Report
report_of ask status verdict errors piece = report.Got (offer_of ask status verdict errors piece.0 piece.1)

-- what a call brings of a piece: the piece, and how long it lasts
abbrev pub brought_of : Ask → (named : Bool) → ℕ → Verdict → Bool → Json × Tags → Brought
brought_of ask named status verdict errors piece = record { value = piece.0; lasts = lasts_of (offer_of ask status verdict errors piece.0 piece.1) named }
