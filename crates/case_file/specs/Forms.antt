-- The forms of the members of a case.
use Rattle.std.specs.Prelude.{ℕ, ◌≤◌, Bool, true, false, ◌&&◌, nat_le, if◌then◌else◌, List, [], ◌∷◌, Option, Some, None, length, map}
use Rattle.std.specs.List.{list_all}
use Rattle.std.specs.Str.Parse.{digits_value}
use Rattle.json_value.specs.declared.tree.Json.{Json, out-Json}
use Rattle.json_value.specs.declared.tree.Json.TheOpen.{Json-F}
use Rattle.json_value.specs.Numbers.{is_digit, is_digit_1_9}

-- ---- strings

abbrev pub text_at : Json-F Json → Option (List ℕ)
text_at (Json-F.Str t) = Some t
text_at _ = None

-- the characters of a string
abbrev pub text_of : Json → Option (List ℕ)
text_of v = text_at (out-Json v)

abbrev pub text_in : Option Json → Option (List ℕ)
text_in None = None
text_in (Some v) = text_of v

abbrev pub text_or_null_at : Json-F Json → Option (Option (List ℕ))
text_or_null_at (Json-F.Str t) = Some (Some t)
text_or_null_at Json-F.Null = Some None
text_or_null_at _ = None

-- the characters of a string, or null
abbrev pub text_or_null : Json → Option (Option (List ℕ))
text_or_null v = text_or_null_at (out-Json v)

abbrev pub text_or_null_in : Option Json → Option (Option (List ℕ))
text_or_null_in None = None
text_or_null_in (Some v) = text_or_null v

-- ---- `true` and `false`

abbrev pub flag_at : Json-F Json → Option Bool
flag_at (Json-F.Bool b) = Some b
flag_at _ = None

abbrev pub flag_of : Json → Option Bool
flag_of v = flag_at (out-Json v)

abbrev pub flag_in : Option Json → Option Bool
flag_in None = None
flag_in (Some v) = flag_of v

-- ---- numbers

abbrev pub int_from : ℕ → List ℕ → Bool
int_from b [] = is_digit b
int_from b (c ∷ cs) = is_digit_1_9 b && list_all is_digit (c ∷ cs)

-- an `int` of RFC 8259, section 6
abbrev pub is_int : List ℕ → Bool
is_int [] = false
is_int (b ∷ bs) = int_from b bs

-- the number that 1 to 15 digits write, without a leading zero but in `0`
abbrev pub number_written : List ℕ → Option ℕ
number_written text = if is_int text && nat_le (length text) 15 then Some (digits_value 10 text) else None

abbrev pub number_at : Json-F Json → Option ℕ
number_at (Json-F.Number text) = number_written text
number_at _ = None

abbrev pub number_of : Json → Option ℕ
number_of v = number_at (out-Json v)

abbrev pub number_in : Option Json → Option ℕ
number_in None = None
number_in (Some v) = number_of v

abbrev pub if_fits : {X : Type 0} → (X → Bool) → Option X → Option X
if_fits test None = None
if_fits test (Some x) = if test x then Some x else None

abbrev pub is_within : ℕ → ℕ → ℕ → Bool
is_within least most n = nat_le least n && nat_le n most

-- a number between the two, or one of them
abbrev pub number_within : ℕ → ℕ → Option Json → Option ℕ
number_within least most o = if_fits (is_within least most) (number_in o)

-- ---- objects and lists

abbrev pub is_object_at : Json-F Json → Bool
is_object_at (Json-F.Object ms) = true
is_object_at _ = false

abbrev pub is_object : Json → Bool
is_object v = is_object_at (out-Json v)

abbrev pub object_in : Option Json → Option Json
object_in o = if_fits is_object o

abbrev pub elements_at : Json-F Json → Option (List Json)
elements_at (Json-F.List items) = Some items
elements_at _ = None

-- the elements of a list
abbrev pub elements : Json → Option (List Json)
elements v = elements_at (out-Json v)

abbrev pub elements_in : Option Json → Option (List Json)
elements_in None = None
elements_in (Some v) = elements v

abbrev pub and_also : {X : Type 0} → Option X → Option (List X) → Option (List X)
and_also (Some x) (Some xs) = Some (x ∷ xs)
and_also _ _ = None

-- all of them, where none is missing
abbrev pub all_of : {X : Type 0} → List (Option X) → Option (List X)
all_of [] = Some []
all_of (o ∷ os) = and_also o (all_of os)

-- what each element is
abbrev pub each : {X : Type 0} → (Json → Option X) → Option (List Json) → Option (List X)
each form None = None
each form (Some items) = all_of (map form items)
