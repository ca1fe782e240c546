-- What the tokens of a text and its end say of the text.
use Rattle.std.specs.Prelude.{◌≡◌, ℕ, ◌+◌, List, [], ◌∷◌, ◌++◌, map, drop, length, slice_index, Result, Ok, Err}
use Rattle.token_read.specs.Lexeme.{Lexeme}
use Rattle.token_read.specs.Parse.{Answer}
use Rattle.token_read.specs.Texts.{Among, Consumed}
use Rattle.gql_tokens.specs.declared.kinds.Kind.{Kind}
use Rattle.gql_tokens.specs.declared.scanner.Scan.{Scan}
use Rattle.gql_tokens.specs.declared.scanner.Scan.TheVariants as scan
use Rattle.gql_tokens.specs.Lexical.{Token}
use Rattle.gql_tokens.specs.Lexing.{Placed, EndsWhole, EndsCut}
use Rattle.gql_tokens.specs.Scanning.{token_at}
use Rattle.gql_terms.specs.declared.faults.Refusal.{Refusal}
use Rattle.gql_schema.specs.declared.fault.SdlFault.{SdlFault}
use Rattle.gql_schema.specs.declared.fault.SdlFault.TheVariants as fault
use Rattle.gql_schema.specs.declared.judging.Reading.{Reading}
use Rattle.gql_schema.specs.declared.judging.Reading.TheVariants as reading
use Rattle.gql_schema.specs.declared.terms.Part.{Part}
use Rattle.gql_schema.specs.declared.words.Mark.{Mark}
use Rattle.gql_schema.specs.Words.{marked}
use Rattle.gql_schema.specs.Reading.{all}
use Rattle.gql_schema.specs.Growths.{growths}
use Rattle.gql_schema.specs.Faults.{IsText, IsMisplaced, MayBegin}

-- the definitions that the text is, or the place of its first fault
abbrev pub Judged : List ℕ → Result (List Part) SdlFault → Type 0
Judged text (Ok ps) = IsText ps text
Judged text (Err (fault.Syntax place)) = IsMisplaced text place
Judged text (Err fault.Memory) = Unit {0}
Judged text (Err _) = ⊥

-- the parser's answer
abbrev pub IsReading : Answer Mark Refusal (List Part) → Reading → Type 0
IsReading answer (reading.Read ps) = (rest : List (Lexeme Mark)) × (answer ≡ Ok (ps, rest))
IsReading answer (reading.Refused left) = (why : Refusal) × (rest : List (Lexeme Mark)) × (answer ≡ Err (why, rest)) × (left ≡ length rest)
IsReading answer reading.Memory = Unit {0}

-- the parser refuses none of these tokens: some schema begins with them
abbrev pub BeginsSchema : List Token → Type 0
BeginsSchema ts = Consumed (all (map marked ts))

-- some schema begins with these tokens and one of those
abbrev pub CanGoOn : List Token → List Token → Type 0
CanGoOn ts next = (t : Token) × Among t next × BeginsSchema (ts ++ (t ∷ []))

abbrev pub scanned : List ℕ → Scan
scanned rest = token_at (slice_index rest 0) (drop 1 rest)

-- what the last token may grow to: itself, where it ends before the text
abbrev pub last_next : Scan → List ℕ → Token → List Token
last_next (scan.End state) rest last = growths state rest
last_next _ rest last = last ∷ []

-- what bytes may grow to that are no token
abbrev pub cut_next : Scan → List ℕ → List Token
cut_next (scan.End state) rest = growths state rest
cut_next _ rest = []

-- the last token may grow
pub record IsWhole (text : List ℕ) (tokens : List Token) (places : List ℕ) : Type 0 where
  pub kinds : List Kind
  pub placed : Placed text tokens places
  pub counted : length places ≡ length tokens
  pub ends : EndsWhole text tokens kinds

-- something begins that is no token yet, or never
pub record IsCut (text : List ℕ) (tokens : List Token) (places : List ℕ) : Type 0 where
  pub kinds : List Kind
  pub placed : Placed text tokens places
  pub counted : length places ≡ length tokens + 1
  pub ends : EndsCut text tokens (slice_index places (length tokens)) kinds

-- the last of the tokens is refused, and this is its place
pub record RefusedLast (text : List ℕ) (tokens : List Token) (place : ℕ) : Type 0 where
  pub places : List ℕ
  pub kinds : List Kind
  pub why : Refusal
  pub mark : Lexeme Mark
  pub index : ℕ
  pub stand : Placed text tokens places
  pub ends : EndsWhole text tokens kinds
  pub count : index + 1 ≡ length tokens
  pub place_is : place ≡ slice_index places index
  pub refused : all (map marked tokens) ≡ Err (why, mark ∷ [])

-- a schema begins with all tokens, and what is cut stands at this place
pub record CutAt (text : List ℕ) (tokens : List Token) (place : ℕ) : Type 0 where
  pub kinds : List Kind
  pub ends : EndsCut text tokens place kinds
  pub may : MayBegin tokens
