-- What the head of a request says.
use Rattle.std.specs.Prelude.{◌≡◌, ℕ, ◌≤◌, Bool, ◌&&◌, ◌||◌, nat_eq, nat_le, ◌==◌, List, [], ◌∷◌, length, map, codes, Option, Some, None, Result, Ok, Err, if◌then◌else◌}
use Rattle.std.specs.List.{list_all, list_any}
use Rattle.std.specs.Char.{is_ascii_digit}
use Rattle.std.specs.Cmp.Lexicographic.{pointwise}
use Rattle.std.specs.Str.{str_to_ascii_lowercase, str_eq_ignore_ascii_case}
use Rattle.std.specs.Str.Parse.{digits_value}
use Rattle.httparse.specs.Grammar.{RequestHead, ReadsRequest, trim_ows}
use Rattle.httparse.specs.Spans.{name_and_value}
use Rattle.http_wire.specs.declared.message.Field.{Field}
use Rattle.http_wire.specs.declared.head.Opened.{Opened}
use Rattle.http_wire.specs.declared.head.HeadFault.{HeadFault}
use Rattle.http_wire.specs.declared.head.HeadFault.TheVariants as fault

-- a field as it is kept: its name in lower case
abbrev pub kept_field : List ℕ × List ℕ → Field
kept_field f = record { name = str_to_ascii_lowercase f.0; value = f.1 }

-- the fields of a head, as they are kept
abbrev pub kept_fields : RequestHead → List Field
kept_fields head = map kept_field (map name_and_value head.fields)

-- one more byte in front of the first part
abbrev pub with_first_byte : ℕ → List (List ℕ) → List (List ℕ)
with_first_byte b [] = (b ∷ []) ∷ []
with_first_byte b (part ∷ parts) = (b ∷ part) ∷ parts

-- the parts between the commas
abbrev pub split_commas : List ℕ → List (List ℕ)
split_commas [] = [] ∷ []
split_commas (b ∷ bytes) = if b == 44 then [] ∷ split_commas bytes else with_first_byte b (split_commas bytes)

-- the values of the fields with this name
abbrev pub values_of : List ℕ → List Field → List (List ℕ)
values_of name [] = []
values_of name (f ∷ fields) = if pointwise nat_eq f.name name then f.value ∷ values_of name fields else values_of name fields

-- 1 to 15 digits
abbrev pub is_length : List ℕ → Bool
is_length value = nat_le 1 (length value) && nat_le (length value) 15 && list_all is_ascii_digit value

-- the length that the values of the content-length fields declare
abbrev pub length_of : List (List ℕ) → Option ℕ
length_of [] = Some 0
length_of (value ∷ []) = if is_length value then Some (digits_value 10 value) else None
length_of (value ∷ other ∷ more) = None

-- the body's length where the framing is accepted
abbrev pub declared_length : List Field → Option ℕ
declared_length fields = if length (values_of (codes "transfer-encoding") fields) == 0 then length_of (values_of (codes "content-length") fields) else None

-- the part is the token close
abbrev pub is_close : List ℕ → Bool
is_close part = str_eq_ignore_ascii_case (trim_ows part) (codes "close")

-- the list has the token close
abbrev pub lists_close : List ℕ → Bool
lists_close value = list_any is_close (split_commas value)

-- some connection field has the token close in its list
abbrev pub has_close : List Field → Bool
has_close fields = list_any lists_close (values_of (codes "connection") fields)

-- the connection ends after the message
abbrev pub closes : ℕ → List Field → Bool
closes minor fields = minor == 0 || has_close fields

-- what a head says: method, target, fields, whether the connection ends after it, and the body's length
pub record HeadSays : Type 0 where
  pub method : List ℕ
  pub target : List ℕ
  pub fields : List Field
  pub close : Bool
  pub length : ℕ

-- these bytes are an accepted request head, and say this
pub record Opens (bytes : List ℕ) (o : HeadSays) : Type 0 where
  pub head : RequestHead
  pub reads : ReadsRequest bytes head []
  pub few : length head.fields ≤ 100
  pub method : o.method ≡ head.method
  pub target : o.target ≡ head.target
  pub fields : o.fields ≡ kept_fields head
  pub close : o.close ≡ closes head.minor o.fields
  pub declared : declared_length o.fields ≡ Some o.length

-- what was taken from a head
abbrev pub head_said : Opened → HeadSays
head_said o = record { method = o.method; target = o.target; fields = o.fields.items; close = o.close; length = o.length }

-- a head is opened exactly where it is accepted
abbrev pub OpensOr : List ℕ → Result Opened HeadFault → Type 0
OpensOr bytes (Ok o) = Opens bytes (head_said o)
OpensOr bytes (Err fault.Bad) = (o : HeadSays) → ¬ (Opens bytes o)
OpensOr bytes (Err fault.Memory) = Unit {0}
