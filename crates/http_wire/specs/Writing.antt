-- The bytes of the messages that are written.
use Rattle.std.specs.Prelude.{ℕ, nat_lt, Bool, true, false, ◌==◌, ◌&&◌, not, if◌then◌else◌, List, [], ◌∷◌, ◌++◌, length, codes, decimal, Option, Some, None}
use Rattle.std.specs.List.{list_all, list_any}
use Rattle.std.specs.Str.{str_eq_ignore_ascii_case}
use Rattle.httparse.specs.Grammar.{is_token, is_uri_byte, is_value_byte}
use Rattle.http_wire.specs.declared.message.Field.{Field}
use Rattle.http_wire.specs.declared.response.Response.{Response}

-- name ": " value CR LF (RFC 9112, section 5)
abbrev pub field_line : List ℕ → List ℕ → List ℕ
field_line name value = name ++ codes ": " ++ value ++ codes "\r\n"

-- the line of a field that may be missing
abbrev pub optional_line : List ℕ → Option (List ℕ) → List ℕ
optional_line name None = []
optional_line name (Some value) = field_line name value

-- the line that says that the connection ends
abbrev pub close_line : Bool → List ℕ
close_line true = field_line (codes "connection") (codes "close")
close_line false = []

-- the statuses that a response can have
abbrev pub has_reason : ℕ → Bool
has_reason status = list_any (λ s. s == status) (200 ∷ 400 ∷ 401 ∷ 404 ∷ 405 ∷ 413 ∷ [])

-- the reason phrase of a status (RFC 9110, section 15)
abbrev pub reason_of : ℕ → List ℕ
reason_of status =
    if status == 200 then codes "OK" else
    if status == 400 then codes "Bad Request" else
    if status == 401 then codes "Unauthorized" else
    if status == 404 then codes "Not Found" else
    if status == 405 then codes "Method Not Allowed" else
    codes "Content Too Large"

-- HTTP/1.1 status reason CR LF (RFC 9112, section 4)
abbrev pub status_line : ℕ → List ℕ
status_line status = codes "HTTP/1.1 " ++ decimal status ++ codes " " ++ reason_of status ++ codes "\r\n"

-- the head of a response, without the empty line
abbrev pub response_head : Response → List ℕ
response_head r =
    status_line r.status
    ++ field_line (codes "content-type") (codes "application/json")
    ++ field_line (codes "content-length") (decimal (length r.body))
    ++ optional_line (codes "allow") r.allow
    ++ optional_line (codes "cache-control") r.cache_control
    ++ close_line r.close

-- the bytes of a response
abbrev pub response_bytes : Response → List ℕ
response_bytes r = response_head r ++ codes "\r\n" ++ r.body

-- bytes that can be a field's value: no control byte but the tab, so no line end (RFC 9110, section 5.5)
abbrev pub is_field_value : List ℕ → Bool
is_field_value value = list_all is_value_byte value

-- there is none, or it can be a field's value
abbrev pub is_value_where_there : Option (List ℕ) → Bool
is_value_where_there None = true
is_value_where_there (Some value) = is_field_value value

-- bytes that can be a request target: at least one, and none is white space or a control byte
abbrev pub is_target : List ℕ → Bool
is_target target = nat_lt 0 (length target) && list_all is_uri_byte target

-- a field that can be sent: its name is a token and none of the two that frame a body
abbrev pub can_be_sent : Field → Bool
can_be_sent f =
    is_token f.name
    && is_field_value f.value
    && not (str_eq_ignore_ascii_case f.name (codes "content-length"))
    && not (str_eq_ignore_ascii_case f.name (codes "transfer-encoding"))

-- there is none, or it can be sent
abbrev pub can_be_sent_where_there : Option Field → Bool
can_be_sent_where_there None = true
can_be_sent_where_there (Some f) = can_be_sent f

-- the line of the field that carries the caller's id, where there is one
abbrev pub id_line : Option Field → List ℕ
id_line None = []
id_line (Some f) = field_line f.name f.value

-- the head of a call of a subgraph, without the empty line
abbrev pub call_head : List ℕ → List ℕ → Option Field → ℕ → List ℕ
call_head path host id count =
    codes "POST " ++ path ++ codes " HTTP/1.1\r\n"
    ++ field_line (codes "host") host
    ++ field_line (codes "content-type") (codes "application/json")
    ++ field_line (codes "accept") (codes "application/json")
    ++ id_line id
    ++ field_line (codes "content-length") (decimal count)
    ++ field_line (codes "connection") (codes "close")

-- the bytes of a call of a subgraph
abbrev pub call_bytes : List ℕ → List ℕ → Option Field → List ℕ → List ℕ
call_bytes path host id body = call_head path host id (length body) ++ codes "\r\n" ++ body
