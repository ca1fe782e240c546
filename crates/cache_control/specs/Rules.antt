-- What the directives and the age of a reply say (RFC 9111, sections 4.2, 5.1 and 5.2).
use Rattle.std.specs.Prelude.{◌≡◌, ℕ, ◌-◌, min, reverse, Bool, true, false, not, ◌&&◌, ◌||◌, ◌==◌, if◌then◌else◌, List, [], length, take, find, Option, None, Some, is_some, unwrap_or, option_and_then, codes}
use Rattle.std.specs.Option.{option_map, option_or}
use Rattle.std.specs.List.{list_all, before_first, take_while}
use Rattle.std.specs.Char.{is_ascii_digit}
use Rattle.std.specs.Str.{str_eq_ignore_ascii_case}
use Rattle.std.specs.Str.Parse.{digits_value}
use Rattle.cache_terms.specs.declared.offers.Verdict.{Verdict}
use Rattle.cache_control.specs.Octets.{is_blank, after_blanks}
use Rattle.cache_control.specs.Grammar.{Directive, IsDirectives}

-- the seconds that a text of digits writes, at most 2147483648 (RFC 9111, section 1.2.2)
abbrev pub seconds_of : List ℕ → Option ℕ
seconds_of text = if not (length text == 0) && list_all is_ascii_digit text then Some (min (digits_value 10 text) 2147483648) else None

-- the directive has this name, whatever the case of its letters
abbrev pub has_name : List ℕ → Directive → Bool
has_name name directive = str_eq_ignore_ascii_case directive.name name

-- the seconds of its argument, or 0 where that is none
abbrev pub argument_seconds : Directive → ℕ
argument_seconds directive = unwrap_or (option_and_then seconds_of directive.argument) 0

-- the seconds of the first directive of this name
abbrev pub first_seconds : List ℕ → List Directive → Option ℕ
first_seconds name directives = option_map argument_seconds (find (has_name name) directives)

-- there is a directive of this name
abbrev pub has_directive : List ℕ → List Directive → Bool
has_directive name directives = is_some (find (has_name name) directives)

-- the text without the blanks round it
abbrev pub trimmed : List ℕ → List ℕ
trimmed text = let front = after_blanks text in take (length front - length (take_while is_blank (reverse front))) front

-- the seconds before the first comma, or 0 where there are none (RFC 9111, section 5.1)
abbrev pub age_of : Option (List ℕ) → ℕ
age_of None = 0
age_of (Some text) = unwrap_or (seconds_of (trimmed (before_first (λ byte. byte == 44) text))) 0

-- what a list of directives says: the first `s-maxage` counts, else the first `max-age`
abbrev pub ruled : List Directive → ℕ → Verdict
ruled directives age = record {
  lifetime = unwrap_or (option_or (first_seconds (codes "s-maxage") directives) (first_seconds (codes "max-age") directives)) 0;
  age = age;
  private = has_directive (codes "private") directives;
  no_store = has_directive (codes "no-store") directives || has_directive (codes "no-cache") directives;
}

-- what a text says that is no list of directives
abbrev pub refusal : ℕ → Verdict
refusal age = record { lifetime = 0; age = age; private = false; no_store = true }

-- the directives of a header text by the grammar; one that is absent has none
abbrev pub HasDirectives : Option (List ℕ) → List Directive → Type 0
HasDirectives None directives = directives ≡ []
HasDirectives (Some text) directives = IsDirectives text directives

-- what the texts of `Cache-Control` and `Age` say: the directives of the first count, and one that is no list of
-- directives says that the reply must not be kept
pub record IsVerdict (cache_control age : Option (List ℕ)) (verdict : Verdict) : Type 0 where
  pub accepted : (directives : List Directive) → HasDirectives cache_control directives → verdict ≡ ruled directives (age_of age)
  pub refused : ((directives : List Directive) → HasDirectives cache_control directives → ⊥) → verdict ≡ refusal (age_of age)
