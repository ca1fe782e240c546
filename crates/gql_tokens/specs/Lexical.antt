-- Which bytes are which tokens (GraphQL, October 2021, section 2.1). The standard's SourceCharacter ends at U+FFFF; here
-- characters above it may stand in strings and comments too, and every character from U+0020 on.
use Rattle.std.specs.Prelude.{◌≡◌, ℕ, ◌-◌, ◌*◌, Bool, true, false, ◌||◌, ◌&&◌, ◌==◌, not, nat_le, if◌then◌else◌, List, [], ◌∷◌, ◌++◌, take, drop, length, Option, Some, None, codes}
use Rattle.std.specs.Str.{bytes_eq}
use Rattle.token_read.specs.Lexeme.{Lexeme}
use Rattle.gql_tokens.specs.declared.kinds.Kind.{Kind}
use Rattle.gql_tokens.specs.declared.kinds.Kind.TheVariants as k
use Rattle.gql_tokens.specs.declared.scanner.Class.{Class}
use Rattle.gql_tokens.specs.declared.scanner.Class.TheVariants as c
use Rattle.gql_tokens.specs.Numbers.{is_digit, IsNumber}

abbrev pub Token : Type 0
Token = Lexeme Kind

-- WhiteSpace, LineTerminator and Comma (sections 2.1.2, 2.1.3 and 2.1.5)
abbrev pub is_blank : ℕ → Bool
is_blank b = b == 32 || b == 9 || b == 10 || b == 13 || b == 44

-- a byte of a SourceCharacter other than a LineTerminator (section 2.1)
abbrev pub is_inline : ℕ → Bool
is_inline b = nat_le 32 b || b == 9

-- NameStart and NameContinue (section 2.1.9)
abbrev pub is_name_start : ℕ → Bool
is_name_start b = (nat_le 65 b && nat_le b 90) || (nat_le 97 b && nat_le b 122) || b == 95

abbrev pub is_name_continue : ℕ → Bool
is_name_continue b = is_name_start b || is_digit b

abbrev pub Every : (ℕ → Bool) → List ℕ → Type 0
Every test [] = Unit {0}
Every test (b ∷ bs) = (test b ≡ true) × Every test bs

-- [lookahead]: the next byte does not pass the test
abbrev pub Stops : (ℕ → Bool) → List ℕ → Type 0
Stops test [] = Unit {0}
Stops test (b ∷ bs) = test b ≡ false

-- Punctuator (section 2.1.8), but for `...`; and 256, which is no byte, for a gap
abbrev pub mark_of : ℕ → Option Kind
mark_of b = if b == 33 then Some k.Bang else (if b == 36 then Some k.Dollar else (if b == 38 then Some k.Amp else (if b == 40 then Some k.OpenParen else
    (if b == 41 then Some k.CloseParen else (if b == 58 then Some k.Colon else (if b == 61 then Some k.Equals else (if b == 64 then Some k.At else
    (if b == 91 then Some k.OpenBracket else (if b == 93 then Some k.CloseBracket else (if b == 123 then Some k.OpenBrace else (if b == 124 then Some k.Bar else
    (if b == 125 then Some k.CloseBrace else (if b == 256 then Some k.Gap else None)))))))))))))

-- the letters after a backslash, EscapedCharacter (section 2.9.4)
abbrev pub is_escape : ℕ → Bool
is_escape b = b == 34 || b == 92 || b == 47 || b == 98 || b == 102 || b == 110 || b == 114 || b == 116

abbrev pub is_hex : ℕ → Bool
is_hex b = is_digit b || (nat_le 65 b && nat_le b 70) || (nat_le 97 b && nat_le b 102)

-- SourceCharacter but not `"`, `\` or LineTerminator
abbrev pub is_plain : ℕ → Bool
is_plain b = is_inline b && (not (b == 34) && not (b == 92))

-- StringCharacters and the closing quote (section 2.9.4)
pub data IsString : List ℕ → Type 0 where
  close : IsString (34 ∷ [])
  plain : (b : ℕ) (w : List ℕ) → is_plain b ≡ true → IsString w → IsString (b ∷ w)
  escape : (e : ℕ) (w : List ℕ) → is_escape e ≡ true → IsString w → IsString (92 ∷ (e ∷ w))
  unicode : (x y z u : ℕ) (w : List ℕ) → is_hex x ≡ true → is_hex y ≡ true → is_hex z ≡ true → is_hex u ≡ true → IsString w
      → IsString (92 ∷ (117 ∷ (x ∷ (y ∷ (z ∷ (u ∷ w))))))

abbrev pub begins : List ℕ → List ℕ → Bool
begins [] w = true
begins (p ∷ ps) [] = false
begins (p ∷ ps) (b ∷ bs) = b == p && begins ps bs

abbrev pub is_block_char : ℕ → Bool
is_block_char b = is_inline b || b == 10 || b == 13

-- BlockStringCharacters and the closing quotes (section 2.9.4): `\"""`, or a SourceCharacter where neither `"""` nor
-- `\"""` begins
pub data IsBlock : List ℕ → Type 0 where
  close : IsBlock (34 ∷ (34 ∷ (34 ∷ [])))
  escaped : (w : List ℕ) → IsBlock w → IsBlock (92 ∷ (34 ∷ (34 ∷ (34 ∷ w))))
  plain : (b : ℕ) (w : List ℕ) → is_block_char b ≡ true → begins (codes "\"\"\"") (b ∷ w) ≡ false → begins (codes "\\\"\"\"") (b ∷ w) ≡ false → IsBlock w → IsBlock (b ∷ w)

-- Token (section 2.1.6)
pub data IsLexeme : Class → List ℕ → Type 0 where
  mark : (kind : Kind) (b : ℕ) → mark_of b ≡ Some kind → IsLexeme (c.Mark kind) (b ∷ [])
  dots : IsLexeme (c.Mark k.Dots) (46 ∷ (46 ∷ (46 ∷ [])))
  name : (b : ℕ) (bs : List ℕ) → is_name_start b ≡ true → Every is_name_continue bs → IsLexeme c.Name (b ∷ bs)
  number : (a : List ℕ) → IsNumber a → IsLexeme c.Number a
  empty : IsLexeme c.Empty (34 ∷ (34 ∷ []))
  -- at least one character
  string : (b : ℕ) (w : List ℕ) → (b == 34) ≡ false → IsString (b ∷ w) → IsLexeme c.Str (34 ∷ (b ∷ w))
  block : (w : List ℕ) → IsBlock w → IsLexeme c.Block (34 ∷ (34 ∷ (34 ∷ w)))

-- Digit, `.` or NameStart
abbrev pub lengthens_number : ℕ → Bool
lengthens_number b = is_digit b || b == 46 || is_name_start b

abbrev pub is_quote : ℕ → Bool
is_quote b = b == 34

-- what may not follow a token
abbrev pub MayFollow : Class → List ℕ → Type 0
MayFollow c.Name rest = Stops is_name_continue rest
MayFollow c.Number rest = Stops lengthens_number rest
MayFollow c.Empty rest = Stops is_quote rest
MayFollow _ rest = Unit {0}

-- the names that the grammar knows
abbrev pub grammar_words : List (List ℕ × Kind)
grammar_words = (codes "query", k.Query) ∷ ((codes "mutation", k.Mutation) ∷ ((codes "subscription", k.Subscription) ∷ ((codes "fragment", k.Fragment) ∷ ((codes "on", k.On)
    ∷ ((codes "true", k.True) ∷ ((codes "false", k.False) ∷ ((codes "null", k.Null) ∷ [])))))))

abbrev pub word_among : List (List ℕ × Kind) → List ℕ → Kind
word_among [] a = k.Name
word_among (w ∷ ws) a = if bytes_eq a w.0 then w.1 else word_among ws a

unfoldable pub name_kind : List ℕ → Kind
name_kind a = word_among grammar_words a

-- without so many bytes at either end
abbrev pub between : ℕ → List ℕ → List ℕ
between n a = take (length a - 2 * n) (drop n a)

-- The token that the bytes are. A string is kept as its source between the quotes.
abbrev pub token_of : Class → List ℕ → Token
token_of (c.Mark kind) a = record { kind = kind; text = a }
token_of c.Name a = record { kind = name_kind a; text = a }
token_of c.Number a = record { kind = k.Number; text = a }
token_of c.Empty a = record { kind = k.Str; text = [] }
token_of c.Str a = record { kind = k.Str; text = between 1 a }
token_of c.Block a = record { kind = k.Block; text = between 3 a }

-- what is ignored between tokens, before these bytes (section 2.1.7). A comment (2.1.4) goes on as long as it can.
pub data IsIgnored : List ℕ → List ℕ → Type 0 where
  blank : {w : List ℕ} (b : ℕ) → is_blank b ≡ true → IsIgnored (b ∷ []) w
  byte_order_mark : {w : List ℕ} → IsIgnored (239 ∷ (187 ∷ (191 ∷ []))) w
  comment : {w : List ℕ} (a : List ℕ) → Every is_inline a → Stops is_inline w → IsIgnored (35 ∷ a) w

-- bytes from which these tokens are read, and what is left then
pub data Leads : List Token → List ℕ → List ℕ → Type 0 where
  here : {rest : List ℕ} → Leads [] rest rest
  skip : {ts : List Token} {rest : List ℕ} (a w : List ℕ) → IsIgnored a w → Leads ts w rest → Leads ts (a ++ w) rest
  token : {ts : List Token} {rest : List ℕ} (class : Class) (a w : List ℕ) → IsLexeme class a → MayFollow class w → Leads ts w rest → Leads (token_of class a ∷ ts) (a ++ w) rest

-- the bytes are these tokens
abbrev pub Lexes : List Token → List ℕ → Type 0
Lexes ts bytes = Leads ts bytes []

-- a token that some bytes are
abbrev pub IsReal : Token → Type 0
IsReal t = (class : Class) × (a : List ℕ) × IsLexeme class a × (t ≡ token_of class a)
