-- What the fields that are written say when they are read.
use Rattle.std.proofs.Common.{◌≡◌, ◌∙◌, ap, ℕ, ◌+◌, ◌%◌, ◌^◌, ◌<◌, ◌≤◌, ◌==◌, arith, codes, Bool, true, not, ◌&&◌, List, [], ◌∷◌, ◌++◌, length, map, reverse, append_assoc, refl, Some, None, All}
use Rattle.std.specs.Prelude.{nat_lt, if◌then◌else◌, IsTrue}
use Rattle.std.specs.Char.{is_ascii_digit}
use Rattle.std.specs.Fmt.{decimal}
use Rattle.std.specs.List.{flat_map, list_all}
use Rattle.std.specs.Str.Parse.{digits_value}
use Rattle.std.proofs.lemmas.Bool.{ltb-true, le-leb, and_from, cond-false, not-true}
use Rattle.std.proofs.lemmas.Bool.Decides.{nat_tests}
use Rattle.std.proofs.lemmas.Fmt.{decimal_by_steps, decimal_is_IsNumeral, length-decimal-le}
use Rattle.std.proofs.lemmas.List.{reverse-reverse}
use Rattle.std.proofs.lemmas.List.Elements.{All-cons, All-nil}
use Rattle.std.proofs.lemmas.List.Folds.{list_all-append}
use Rattle.std.proofs.lemmas.List.Sums.{AllPass-from_list_all, list_all-from_AllPass}
use Rattle.httparse.specs.Grammar.{Field as Line, IsField, crlf, print_end, print_field, is_token, is_token_byte, is_value_byte, is_ows, skip_ows, trim_ows}
use Rattle.httparse.specs.Spans.{name_and_value}
use Rattle.httparse.proofs.GrammarLemmas.{cons-append}
use Rattle.httparse.proofs.TrimLemmas.{AllPass-reverse}
use Rattle.http_wire.specs.declared.message.Field.{Field}
use Rattle.http_wire.specs.Heads.{kept_field, values_of, is_length, length_of, declared_length}
use Rattle.http_wire.specs.Writing.{field_line, is_field_value}
use Rattle.http_wire.specs.ReadBack.{read_field}
use Rattle.http_wire.proofs.Lists.{first_true, second_true}

-- the line of a field, as the grammar has it
abbrev pub line_of : Field → Line
line_of f = record { name = f.name; raw = 32 ∷ f.value; end = crlf }

regroup : (n v : List ℕ) → n ++ 58 ∷ (32 ∷ v) ++ print_end crlf ≡ n ++ (58 ∷ 32 ∷ []) ++ v ++ (13 ∷ 10 ∷ [])
regroup n v = simp (append_assoc, cons-append)

-- the lines of fields
abbrev pub lines : List Field → List ℕ
lines fs = flat_map (λ f. field_line f.name f.value) fs

pub lines_printed : (fs : List Field) → flat_map print_field (map line_of fs) ≡ lines fs
lines_printed [] = refl
lines_printed (f ∷ fs) =
    ap (λ l. l ++ flat_map print_field (map line_of fs)) (regroup f.name f.value) ∙ ap (λ l. field_line f.name f.value ++ l) (lines_printed fs)

pub fields_read : (fs : List Field) → map kept_field (map name_and_value (map line_of fs)) ≡ map read_field fs
unfolding trim_ows
fields_read [] = refl
fields_read (f ∷ fs) = ap (λ r. read_field f ∷ r) (fields_read fs)

-- a field that can be sent, in front of others
pub sent_more : (f : Field) (fs : List Field) → is_token f.name ≡ true → is_field_value f.value ≡ true → All IsField (map line_of fs) → All IsField (map line_of (f ∷ fs))
sent_more f fs token value rest =
    All-cons IsField (line_of f) (map line_of fs) record {
      name = (
        ltb-true 0 (length f.name) (first_true (nat_lt 0 (length f.name)) (list_all is_token_byte f.name) token),
        AllPass-from_list_all is_token_byte f.name (second_true (nat_lt 0 (length f.name)) (list_all is_token_byte f.name) token),
      );
      raw = All-cons (λ b. IsTrue (is_value_byte b)) 32 f.value refl (AllPass-from_list_all is_value_byte f.value value);
    } rest

pub sent_none : All IsField (map line_of [])
sent_none = All-nil _

-- ---- numbers

decimal_all : (p : ℕ → Bool) → ((m : ℕ) → m < 10 → p (48 + m) ≡ true) → (n : ℕ) → n < 2 ^ 64 → list_all p (decimal n) ≡ true
decimal_all p each n small =
    decimal_by_steps (λ m ds. list_all p ds ≡ true) (λ m lt. ap (λ b. b && true) (each m lt))
    (λ m ds ten h. list_all-append p ds ((48 + m % 10) ∷ []) ∙ ap (λ b. b && (p (48 + m % 10) && true)) h ∙ ap (λ b. b && true) (each (m % 10) (omega arith))) n small

digit_is_digit : (m : ℕ) → m < 10 → is_ascii_digit (48 + m) ≡ true
digit_is_digit m lt = grind (arith, nat_tests)

digit_is_value : (m : ℕ) → m < 10 → is_value_byte (48 + m) ≡ true
digit_is_value m lt = grind (arith, nat_tests)

abbrev no_space : ℕ → Bool
no_space b = not (is_ows b)

digit_is_no_space : (m : ℕ) → m < 10 → no_space (48 + m) ≡ true
digit_is_no_space m lt = grind (arith, nat_tests)

pub decimal_digits : (n : ℕ) → n < 2 ^ 64 → list_all is_ascii_digit (decimal n) ≡ true
decimal_digits = decimal_all is_ascii_digit digit_is_digit

pub decimal_value : (n : ℕ) → n < 2 ^ 64 → is_field_value (decimal n) ≡ true
decimal_value = decimal_all is_value_byte digit_is_value

skip_none : (v : List ℕ) → list_all no_space v ≡ true → skip_ows v ≡ v
skip_none [] h = refl
skip_none (b ∷ bs) h = cond-false (is_ows b) (skip_ows bs) (b ∷ bs) (not-true (is_ows b) (first_true (no_space b) (list_all no_space bs) h))

trim_none : (v : List ℕ) → list_all no_space v ≡ true → trim_ows v ≡ v
unfolding trim_ows
trim_none v h =
    ap (λ s. reverse (skip_ows (reverse s))) (skip_none v h)
    ∙ ap reverse (skip_none (reverse v) (list_all-from_AllPass no_space (reverse v) (AllPass-reverse no_space v (AllPass-from_list_all no_space v h))))
    ∙ reverse-reverse v

pub decimal_trimmed : (n : ℕ) → n < 2 ^ 64 → trim_ows (decimal n) ≡ decimal n
decimal_trimmed n small = trim_none (decimal n) (decimal_all no_space digit_is_no_space n small)

pub length_told : (n : ℕ) → n ≤ 4194304 → is_length (decimal n) ≡ true
length_told n most =
    let small : n < 2 ^ 64 = omega arith in
    and_from _ _
    (and_from _ _ (le-leb 1 (length (decimal n)) (decimal_is_IsNumeral n small).0.0) (le-leb (length (decimal n)) 15 (length-decimal-le 15 n (omega arith) (omega arith) small)))
    (decimal_digits n small)

pub number_told : (n : ℕ) → n ≤ 4194304 → digits_value 10 (trim_ows (decimal n)) ≡ n
number_told n most = let small : n < 2 ^ 64 = omega arith in ap (digits_value 10) (decimal_trimmed n small) ∙ (decimal_is_IsNumeral n small).1

pub trimmed_told : (n : ℕ) → n ≤ 4194304 → is_length (trim_ows (decimal n)) ≡ true
trimmed_told n most = ap is_length (decimal_trimmed n (omega arith)) ∙ length_told n most

-- the length that one content-length field declares
pub declares : (fs : List Field) (n : ℕ) → n ≤ 4194304 → values_of (codes "transfer-encoding") fs ≡ [] → values_of (codes "content-length") fs ≡ trim_ows (decimal n) ∷ []
    → declared_length fs ≡ Some n
declares fs n most none one =
    ap (λ (vs : List (List ℕ)). if length vs == 0 then length_of (values_of (codes "content-length") fs) else None) none ∙ ap length_of one
    ∙ ap (λ (b : Bool). if b then Some (digits_value 10 (trim_ows (decimal n))) else None) (trimmed_told n most) ∙ ap Some (number_told n most)

-- ---- names

pub token_post : list_all is_token_byte (codes "POST") ≡ true
unfolding is_token_byte
token_post = refl

pub token_host : is_token (codes "host") ≡ true
unfolding is_token_byte
token_host = refl

pub token_content_type : is_token (codes "content-type") ≡ true
unfolding is_token_byte
token_content_type = refl

pub token_accept : is_token (codes "accept") ≡ true
unfolding is_token_byte
token_accept = refl

pub token_content_length : is_token (codes "content-length") ≡ true
unfolding is_token_byte
token_content_length = refl

pub token_connection : is_token (codes "connection") ≡ true
unfolding is_token_byte
token_connection = refl

pub token_allow : is_token (codes "allow") ≡ true
unfolding is_token_byte
token_allow = refl

pub token_cache_control : is_token (codes "cache-control") ≡ true
unfolding is_token_byte
token_cache_control = refl
