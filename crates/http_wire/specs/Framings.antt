-- How the end of a reply's body is found, and the texts that its head gives.
use Rattle.std.specs.Prelude.{◌≡◌, ℕ, ◌≤◌, List, [], ◌∷◌, ◌++◌, length, map, codes, Option, Some, None, Result, Ok, Err, if◌then◌else◌}
use Rattle.std.specs.Str.{is_utf8, str_eq_ignore_ascii_case}
use Rattle.std.specs.Str.Parse.{digits_value}
use Rattle.httparse.specs.Grammar.{ResponseHead, ReadsResponse, status_code}
use Rattle.httparse.specs.Spans.{name_and_value}
use Rattle.http_wire.specs.declared.message.Field.{Field}
use Rattle.http_wire.specs.declared.framing.Framing.{Framing}
use Rattle.http_wire.specs.declared.framing.Framing.TheVariants as framing
use Rattle.http_wire.specs.declared.reply_head.ReplyHead.{ReplyHead}
use Rattle.http_wire.specs.declared.head.HeadFault.{HeadFault}
use Rattle.http_wire.specs.declared.head.HeadFault.TheVariants as fault
use Rattle.http_wire.specs.Heads.{kept_field, values_of, is_length}

-- the framing that the values of the content-length fields give
abbrev pub by_lengths : List (List ℕ) → Option Framing
by_lengths [] = Some framing.ToEnd
by_lengths (value ∷ []) = if is_length value then Some (framing.Length (digits_value 10 value)) else None
by_lengths (value ∷ other ∷ more) = None

-- the framing that one transfer coding gives: chunked alone is accepted (RFC 9112, section 7)
abbrev pub by_coding : List ℕ → Option Framing
by_coding coding = if str_eq_ignore_ascii_case coding (codes "chunked") then Some framing.Chunked else None

-- the framing that the values of the transfer-encoding fields give, and without them those of content-length
abbrev pub by_codings : List (List ℕ) → List (List ℕ) → Option Framing
by_codings [] lengths = by_lengths lengths
by_codings (coding ∷ []) lengths = by_coding coding
by_codings (coding ∷ other ∷ more) lengths = None

-- how the end of a reply's body is found, where its framing is accepted (RFC 9112, section 6.3)
abbrev pub framing_of : List Field → Option Framing
framing_of fields = by_codings (values_of (codes "transfer-encoding") fields) (values_of (codes "content-length") fields)

-- a value as text: one that is not UTF-8 is replaced by a question mark
abbrev pub text_or_mark : List ℕ → List ℕ
text_or_mark value = if is_utf8 value then value else codes "?"

-- further values, each after a comma and a space
abbrev pub further_values : List (List ℕ) → List ℕ
further_values [] = []
further_values (value ∷ values) = codes ", " ++ (text_or_mark value ++ further_values values)

-- the values of one field as one list (RFC 9110, section 5.3)
abbrev pub joined : List (List ℕ) → Option (List ℕ)
joined [] = None
joined (value ∷ values) = Some (text_or_mark value ++ further_values values)

-- the first value
abbrev pub first_text : List (List ℕ) → Option (List ℕ)
first_text [] = None
first_text (value ∷ values) = Some (text_or_mark value)

-- the fields of a head, as they are kept
abbrev pub reply_fields : ResponseHead → List Field
reply_fields head = map kept_field (map name_and_value head.fields)

-- these bytes are an accepted head of a reply, and say this
pub record OpensReply (bytes : List ℕ) (h : ReplyHead) : Type 0 where
  pub head : ResponseHead
  pub reads : ReadsResponse bytes head []
  pub few : length head.fields ≤ 100
  pub status : h.status ≡ status_code head
  pub framed : framing_of (reply_fields head) ≡ Some h.framing
  pub cache_control : h.cache_control ≡ joined (values_of (codes "cache-control") (reply_fields head))
  pub age : h.age ≡ first_text (values_of (codes "age") (reply_fields head))

-- a head is opened exactly where it is accepted
abbrev pub OpensReplyOr : List ℕ → Result ReplyHead HeadFault → Type 0
OpensReplyOr bytes (Ok h) = OpensReply bytes h
OpensReplyOr bytes (Err fault.Bad) = (h : ReplyHead) → ¬ (OpensReply bytes h)
OpensReplyOr bytes (Err fault.Memory) = Unit {0}
