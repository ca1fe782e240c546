-- Serves private clauses and proofs alone.
-- What stands at the front of bytes.
use Rattle.std.specs.Prelude.{◌≡◌, ℕ, ◌<◌, ◌≤◌, List, take, drop, length, slice_index}
use Rattle.gql_tokens.specs.declared.scanner.Scan.TheVariants as scan
use Rattle.gql_tokens.specs.Lexical.{IsIgnored}
use Rattle.gql_tokens.specs.Scanning.{token_at}
use Rattle.gql_tokens.specs.Lexing.{NoneIgnored}
use Rattle.gql_lexer.specs.declared.lexing.Front.{Front}
use Rattle.gql_lexer.specs.declared.lexing.Front.TheVariants as front

abbrev pub IsFront : List ℕ → Front → Type 0
IsFront text (front.Ignored n) = (0 < n) × (n ≤ length text) × IsIgnored (take n text) (drop n text)
IsFront text (front.Found class n) = NoneIgnored text × (token_at (slice_index text 0) (drop 1 text) ≡ scan.Found class n)
IsFront text (front.End state) = NoneIgnored text × (token_at (slice_index text 0) (drop 1 text) ≡ scan.End state)
IsFront text front.Bad = NoneIgnored text × (token_at (slice_index text 0) (drop 1 text) ≡ scan.Bad)
