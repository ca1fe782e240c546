-- Serves private clauses and proofs alone: the directives of a text as a function, which reads an element at a time.
-- That it agrees with the grammar is a clause of `verdict`.
use Rattle.std.specs.Prelude.{ℕ, ◌+◌, zero, suc, Bool, false, not, ◌&&◌, ◌==◌, if◌then◌else◌, List, [], ◌∷◌, ◌++◌, length, take, drop, Option, None, Some, option_and_then}
use Rattle.std.specs.Option.{option_map}
use Rattle.std.specs.List.{take_while}
use Rattle.cache_control.specs.Octets.{is_token_byte, is_quotable, after_blanks}
use Rattle.cache_terms.specs.declared.offers.Verdict.{Verdict}
use Rattle.cache_control.specs.Grammar.{Directive}
use Rattle.cache_control.specs.Rules.{age_of, ruled, refusal}

-- how long the token is with which the text begins
abbrev pub token_len : List ℕ → ℕ
token_len text = length (take_while is_token_byte text)

-- how many bytes stand before the closing quote, where what is between is quoted text
abbrev pub quoted_len : Bool → List ℕ → Option ℕ
quoted_len escaped [] = None
quoted_len escaped (byte ∷ rest) =
    if not escaped && byte == 34 then Some 0
    else if is_quotable byte then option_map (λ n. 1 + n) (quoted_len (not escaped && byte == 92) rest)
    else None

-- an argument with quotes taken off, and what follows it
pub record Taken : Type 0 where
  pub value : List ℕ
  pub rest : List ℕ

abbrev pub take_token : List ℕ → Option Taken
take_token text = if token_len text == 0 then None else Some (record { value = take (token_len text) text; rest = drop (token_len text) text })

abbrev pub take_argument : List ℕ → Option Taken
take_argument [] = None
take_argument (byte ∷ rest) =
    if byte == 34 then option_map (λ n. record { value = take n rest; rest = drop (n + 1) rest }) (quoted_len false rest)
    else take_token (byte ∷ rest)

-- what an element is read as, none or one directive, and what follows it
pub record Element : Type 0 where
  pub directives : List Directive
  pub rest : List ℕ

-- a directive of this name, with the argument that may follow
abbrev pub named : List ℕ → List ℕ → Option Element
named name [] = Some (record { directives = record { name = name; argument = None } ∷ []; rest = [] })
named name (byte ∷ rest) =
    if byte == 61 then option_map (λ t. record { directives = record { name = name; argument = Some t.value } ∷ []; rest = after_blanks t.rest }) (take_argument rest)
    else Some (record { directives = record { name = name; argument = None } ∷ []; rest = after_blanks (byte ∷ rest) })

-- an element, from the first byte that is no blank
abbrev pub element_from : List ℕ → Option Element
element_from text =
    if token_len text == 0 then Some (record { directives = []; rest = text })
    else named (take (token_len text) text) (drop (token_len text) text)

abbrev pub read_element : List ℕ → Option Element
read_element text = element_from (after_blanks text)

-- what follows a comma
abbrev pub after_comma : List ℕ → Option (List ℕ)
after_comma [] = None
after_comma (byte ∷ rest) = if byte == 44 then Some rest else None

-- the directives of an element and those of what `next` reads after a comma, or of the element alone at the end
abbrev pub followed : (List ℕ → Option (List Directive)) → List Directive → List ℕ → Option (List Directive)
followed next directives [] = Some directives
followed next directives (byte ∷ rest) = option_map (λ others. directives ++ others) (option_and_then next (after_comma (byte ∷ rest)))

-- the directives of a text of at most n elements
abbrev pub read : ℕ → List ℕ → Option (List Directive)
read zero text = None
read (suc n) text = option_and_then (λ e. followed (read n) e.directives e.rest) (read_element text)

-- the directives of a text, or None where it is no list of directives
unfoldable pub directives_of : List ℕ → Option (List Directive)
directives_of text = read (suc (length text)) text

-- what two texts say, by the directives that are read
abbrev pub judged : Option (List Directive) → ℕ → Verdict
judged None age = refusal age
judged (Some directives) age = ruled directives age

abbrev pub verdict_of : Option (List ℕ) → Option (List ℕ) → Verdict
verdict_of None age = ruled [] (age_of age)
verdict_of (Some text) age = judged (directives_of text) (age_of age)
