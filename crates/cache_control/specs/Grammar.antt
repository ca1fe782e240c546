-- The grammar of Cache-Control: which text is which list of directives (RFC 9110, sections 5.6.1 to 5.6.4, and
-- RFC 9111, section 5.2).
use Rattle.std.specs.Prelude.{◌≢◌, ℕ, List, [], ◌∷◌, ◌++◌, Option, None, Some, IsTrue}
use Rattle.std.specs.List.{list_all}
use Rattle.cache_control.specs.Octets.{is_blank, is_token_byte, is_quotable, is_quoted_byte}

-- a directive: its name, and its argument with quotes taken off
pub record Directive : Type 0 where
  pub name : List ℕ
  pub argument : Option (List ℕ)

-- spaces and tabs, or nothing
abbrev pub AreBlanks : List ℕ → Type 0
AreBlanks text = IsTrue (list_all is_blank text)

-- one byte or more, each a token's (section 5.6.2)
pub record IsToken (text : List ℕ) : Type 0 where
  pub some : text ≢ []
  pub bytes : IsTrue (list_all is_token_byte text)

-- what may stand between quotes (section 5.6.4)
pub data IsQuotedText : List ℕ → Type 0 where
  nothing : IsQuotedText []
  byte : (b : ℕ) (rest : List ℕ) → IsTrue (is_quoted_byte b) → IsQuotedText rest → IsQuotedText (b ∷ rest)
  pair : (b : ℕ) (rest : List ℕ) → IsTrue (is_quotable b) → IsQuotedText rest → IsQuotedText (92 ∷ b ∷ rest)

-- the text of an argument, and the argument with quotes taken off
pub data IsArgument : List ℕ → List ℕ → Type 0 where
  token : (text : List ℕ) → IsToken text → IsArgument text text
  quoted : (value : List ℕ) → IsQuotedText value → IsArgument (34 ∷ value ++ 34 ∷ []) value

-- the text of a directive: a name, or a name, '=' and an argument (RFC 9111, section 5.2)
pub data IsDirective : List ℕ → Directive → Type 0 where
  bare : (name : List ℕ) → IsToken name → IsDirective name (record { name = name; argument = None })
  valued : (name text value : List ℕ) → IsToken name → IsArgument text value → IsDirective (name ++ 61 ∷ text) (record { name = name; argument = Some value })

-- the text of an element of the list: blanks alone, or a directive with blanks round it (section 5.6.1)
pub data IsElement : List ℕ → List Directive → Type 0 where
  empty : (blanks : List ℕ) → AreBlanks blanks → IsElement blanks []
  one : (before text after : List ℕ) (directive : Directive) → AreBlanks before → IsDirective text directive → AreBlanks after → IsElement (before ++ text ++ after) (directive ∷ [])

-- the text of a list: elements with commas between them
pub data IsDirectives : List ℕ → List Directive → Type 0 where
  last : (text : List ℕ) (directives : List Directive) → IsElement text directives → IsDirectives text directives
  more : (text rest : List ℕ) (first others : List Directive) → IsElement text first → IsDirectives rest others → IsDirectives (text ++ 44 ∷ rest) (first ++ others)
