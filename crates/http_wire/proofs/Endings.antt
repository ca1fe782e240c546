-- A head that is written has one empty line, at its end.
use Rattle.std.proofs.Common.{◌≡◌, ◌⊎◌, inl, inr, ◌∙◌, sym, ap, subst, ℕ, ◌+◌, ◌-◌, ◌%◌, ◌^◌, ◌<◌, ◌≤◌, ◌==◌, arith, Bool, true, false, not, ◌&&◌, ◌||◌, List, [], ◌∷◌, ◌++◌, length, codes, get_or, append_assoc, append-nil, length-append, Option, Some, None, refl}
use Rattle.std.specs.Prelude.{slice_index, nat_lt, if◌then◌else◌}
use Rattle.std.specs.List.{list_all}
use Rattle.std.specs.Fmt.{decimal}
use Rattle.std.proofs.lemmas.Bool.{cases_lt}
use Rattle.std.proofs.lemmas.Bool.Decides.{nat_tests}
use Rattle.std.proofs.lemmas.Fmt.{decimal_by_steps}
use Rattle.std.proofs.lemmas.List.{get_or-append-add, get_or_append_left, get_or_at, get_or_push}
use Rattle.std.proofs.lemmas.List.Folds.{list_all-append, list_all_at}
use Rattle.httparse.specs.Grammar.{is_token, is_token_byte, is_uri_byte, is_value_byte}
use Rattle.http_wire.specs.declared.message.Field.{Field}
use Rattle.http_wire.specs.declared.response.Response.{Response}
use Rattle.http_wire.specs.EmptyLine.{ends_empty_line, NoEmptyLine, IsHeadLength}
use Rattle.http_wire.specs.Writing.{field_line, optional_line, close_line, reason_of, status_line, response_head, response_bytes, is_field_value, is_value_where_there, is_target, can_be_sent_where_there, id_line, call_head, call_bytes}
use Rattle.http_wire.proofs.Carrying.{same_end}
use Rattle.http_wire.proofs.Lists.{first_true, second_true}
use Rattle.http_wire.proofs.Unique.{never_both}
use Rattle.http_wire.proofs.Whole.{head_more}

abbrev quiet_byte : ℕ → Bool
quiet_byte b = not (b == 10)

abbrev quiet : List ℕ → Bool
quiet xs = list_all quiet_byte xs

quiet_at : (xs : List ℕ) (k : ℕ) → quiet xs ≡ true → k < length xs → (get_or xs k 0 == 10) ≡ false
quiet_at xs k still lt =
    elim (get_or xs k 0 == 10) as (λ b. (get_or xs k 0 == 10) ≡ b → b ≡ false) [ true ↦ λ e. absurd (never_both (sym still ∙ list_all_at quiet_byte xs k 0 lt (ap not e))) | false ↦ λ e. refl ] refl

dead : (a b : Bool) → ((a && false) || (((a && b) && true) && false)) ≡ false
dead true true = refl
dead true false = refl
dead false true = refl
dead false false = refl

and_false : (x : Bool) → (x && false) ≡ false
and_false true = refl
and_false false = refl

feed_off : (xs : List ℕ) (at : ℕ) → (slice_index xs at == 10) ≡ false → ends_empty_line xs at ≡ false
unfolding ends_empty_line
feed_off xs at e = rw e refl

after_return : (xs : List ℕ) (at : ℕ) → slice_index xs (at - 1) ≡ 13 → (slice_index xs (at - 2) == 10) ≡ false → ends_empty_line xs at ≡ false
unfolding ends_empty_line
after_return xs at e f =
    rw (e, f) (ap (λ v. (slice_index xs at == 10) && v) (dead (not (at == 0)) (not (at == 1))) ∙ and_false (slice_index xs at == 10))

in_line : (pre line : List ℕ) (at k : ℕ) → quiet line ≡ true → 0 < length line → at ≡ length pre + k → k < length line + 2
    → ends_empty_line (pre ++ (line ++ (13 ∷ 10 ∷ []))) at ≡ false
in_line pre line at k still some is fits = by_side (cases_lt k (length line))
  where
    here : (j : ℕ) → slice_index (pre ++ (line ++ (13 ∷ 10 ∷ []))) (length pre + j) ≡ get_or (line ++ (13 ∷ 10 ∷ [])) j 0
    here j = get_or-append-add pre (line ++ (13 ∷ 10 ∷ [])) j 0

    inner : (j : ℕ) → j < length line → (slice_index (pre ++ (line ++ (13 ∷ 10 ∷ []))) (length pre + j) == 10) ≡ false
    inner j lt = ap (λ b. b == 10) (here j ∙ get_or_append_left line (13 ∷ 10 ∷ []) 0 j lt) ∙ quiet_at line j still lt

    return : slice_index (pre ++ (line ++ (13 ∷ 10 ∷ []))) (length pre + length line) ≡ 13
    return = here (length line) ∙ get_or_at line 13 (10 ∷ []) 0 (length line) refl

    at_end : (k ≡ length line) ⊎ (length line < k) → ends_empty_line (pre ++ (line ++ (13 ∷ 10 ∷ []))) at ≡ false
    at_end (inl same) =
        feed_off (pre ++ (line ++ (13 ∷ 10 ∷ []))) at (ap (λ n. slice_index (pre ++ (line ++ (13 ∷ 10 ∷ []))) n == 10) (is ∙ ap (λ n. length pre + n) same) ∙ ap (λ b. b == 10) return)
    at_end (inr past) =
        let one : at - 1 ≡ length pre + length line = omega arith in
        let two : at - 2 ≡ length pre + (length line - 1) = omega arith in
        after_return (pre ++ (line ++ (13 ∷ 10 ∷ []))) at (ap (λ n. slice_index (pre ++ (line ++ (13 ∷ 10 ∷ []))) n) one ∙ return)
        (ap (λ n. slice_index (pre ++ (line ++ (13 ∷ 10 ∷ []))) n == 10) two ∙ inner (length line - 1) (omega arith))

    by_side : (k < length line) ⊎ (length line ≤ k) → ends_empty_line (pre ++ (line ++ (13 ∷ 10 ∷ []))) at ≡ false
    by_side (inl lt) = feed_off (pre ++ (line ++ (13 ∷ 10 ∷ []))) at (ap (λ n. slice_index (pre ++ (line ++ (13 ∷ 10 ∷ []))) n == 10) is ∙ inner k lt)
    by_side (inr le) = at_end (split (cases_lt (length line) k))
      where
        split : (length line < k) ⊎ (k ≤ length line) → (k ≡ length line) ⊎ (length line < k)
        split (inl past) = inr past
        split (inr least) = inl (omega arith)

line_more : (pre line : List ℕ) → NoEmptyLine pre 0 (length pre) → quiet line ≡ true → 0 < length line
    → NoEmptyLine (pre ++ (line ++ (13 ∷ 10 ∷ []))) 0 (length (pre ++ (line ++ (13 ∷ 10 ∷ []))))
line_more pre line none still some at low high = by_side (cases_lt at (length pre))
  where
    by_side : (at < length pre) ⊎ (length pre ≤ at) → ends_empty_line (pre ++ (line ++ (13 ∷ 10 ∷ []))) at ≡ false
    by_side (inl lt) = same_end pre (line ++ (13 ∷ 10 ∷ [])) at lt ∙ none at low lt
    by_side (inr le) =
        let size : length (pre ++ (line ++ (13 ∷ 10 ∷ []))) ≡ length pre + (length line + 2) =
        length-append pre (line ++ (13 ∷ 10 ∷ [])) ∙ ap (λ n. length pre + n) (length-append line (13 ∷ 10 ∷ [])) in
        in_line pre line at (at - length pre) still some (omega arith) (omega arith)

-- lines so far, with no empty one among them
record Good (pre : List ℕ) : Type 0 where
  none : NoEmptyLine pre 0 (length pre)
  front : List ℕ
  ends : pre ≡ front ++ (10 ∷ [])

good_line : (pre line : List ℕ) → NoEmptyLine pre 0 (length pre) → quiet line ≡ true → 0 < length line → Good (pre ++ (line ++ (13 ∷ 10 ∷ [])))
good_line pre line none still some = record {
  none = line_more pre line none still some;
  front = pre ++ (line ++ (13 ∷ []));
  ends = sym (append_assoc pre (line ++ (13 ∷ [])) (10 ∷ []) ∙ ap (λ r. pre ++ r) (append_assoc line (13 ∷ []) (10 ∷ [])));
}

none_yet : NoEmptyLine [] 0 (length {A = ℕ} [])
none_yet at low high = absurd (omega arith)

ends_here : (xs : List ℕ) (at : ℕ) → slice_index xs at ≡ 10 → slice_index xs (at - 1) ≡ 13 → slice_index xs (at - 2) ≡ 10 → (at == 0) ≡ false → (at == 1) ≡ false → ends_empty_line xs at ≡ true
unfolding ends_empty_line
ends_here xs at a b d e f = rw (a, b, d, e, f) refl

head_ends : (pre rest : List ℕ) → Good pre → IsHeadLength ((pre ++ (13 ∷ 10 ∷ [])) ++ rest) (length pre + 2)
head_ends pre rest good =
    let all = pre ++ (13 ∷ 10 ∷ []) in
    let n = length pre in
    let size : length all ≡ n + 2 = length-append pre (13 ∷ 10 ∷ []) in
    let front : n ≡ length good.front + 1 = ap length good.ends ∙ length-append good.front (10 ∷ []) in
    let feed : slice_index all (n + 1) ≡ 10 = get_or-append-add pre (13 ∷ 10 ∷ []) 1 0 in
    let return : slice_index all n ≡ 13 = get_or_at pre 13 (10 ∷ []) 0 n refl in
    let before : slice_index all (n - 1) ≡ 10 =
    get_or_append_left pre (13 ∷ 10 ∷ []) 0 (n - 1) (omega arith) ∙ ap (λ xs. get_or xs (n - 1) 0) good.ends
    ∙ get_or_push good.front 10 0 (n - 1) (omega arith) in
    let one : (n + 1) - 1 ≡ n = omega arith in
    let two : (n + 1) - 2 ≡ n - 1 = omega arith in
    let not_zero : ((n + 1) == 0) ≡ false = grind (arith, nat_tests) in
    let not_one : ((n + 1) == 1) ≡ false = grind (arith, nat_tests) in
    let whole : IsHeadLength all (n + 2) = (
      n + 1,
      omega arith,
      record {
        inside = omega arith;
        ends = ends_here all (n + 1) feed (ap (slice_index all) one ∙ return) (ap (slice_index all) two ∙ before) not_zero not_one;
        first = λ at low high. first_of_head pre at return good.none high (cases_lt at n);
      },
    ) in
    head_more all rest (n + 2) whole
  where
    first_of_head : (p : List ℕ) (at : ℕ) → slice_index (p ++ (13 ∷ 10 ∷ [])) (length p) ≡ 13 → NoEmptyLine p 0 (length p) → at < length p + 1 → (at < length p) ⊎ (length p ≤ at)
        → ends_empty_line (p ++ (13 ∷ 10 ∷ [])) at ≡ false
    first_of_head p at return none high (inl lt) = same_end p (13 ∷ 10 ∷ []) at lt ∙ none at (omega arith) lt
    first_of_head p at return none high (inr le) =
        let same : at ≡ length p = omega arith in
        feed_off (p ++ (13 ∷ 10 ∷ [])) at (ap (λ k. slice_index (p ++ (13 ∷ 10 ∷ [])) k == 10) same ∙ ap (λ b. b == 10) return)

both : (xs ys : List ℕ) → quiet xs ≡ true → quiet ys ≡ true → quiet (xs ++ ys) ≡ true
both xs ys p q = list_all-append quiet_byte xs ys ∙ ap (λ b. b && quiet ys) p ∙ q

weaker : (p : ℕ → Bool) → ((b : ℕ) → p b ≡ true → quiet_byte b ≡ true) → (xs : List ℕ) → list_all p xs ≡ true → quiet xs ≡ true
weaker p each [] h = refl
weaker p each (x ∷ xs) h =
    ap (λ b. b && quiet xs) (each x (first_true (p x) (list_all p xs) h)) ∙ weaker p each xs (second_true (p x) (list_all p xs) h)

value_byte : (b : ℕ) → is_value_byte b ≡ true → quiet_byte b ≡ true
value_byte b h = grind (arith, nat_tests)

target_byte : (b : ℕ) → is_uri_byte b ≡ true → quiet_byte b ≡ true
target_byte b h = grind (arith, nat_tests)

token_byte : (b : ℕ) → is_token_byte b ≡ true → quiet_byte b ≡ true
unfolding is_token_byte
token_byte b h = grind (arith, nat_tests)

digit_byte : (n : ℕ) → quiet_byte (48 + n) ≡ true
digit_byte n = grind (arith, nat_tests)

decimal_quiet : (n : ℕ) → n < 2 ^ 64 → quiet (decimal n) ≡ true
decimal_quiet n small =
    decimal_by_steps (λ m ds. quiet ds ≡ true) (λ m lt. ap (λ b. b && true) (digit_byte m)) (λ m ds ten p. both ds ((48 + m % 10) ∷ []) p (ap (λ b. b && true) (digit_byte (m % 10)))) n small

field_good : (pre name value : List ℕ) → Good pre → quiet name ≡ true → quiet value ≡ true → Good (pre ++ field_line name value)
field_good pre name value good n v =
    let line = name ++ codes ": " ++ value in
    let size : length line ≡ (length name + 2) + length value = length-append (name ++ codes ": ") value ∙ ap (λ k. k + length value) (length-append name (codes ": ")) in
    good_line pre line good.none (both (name ++ codes ": ") value (both name (codes ": ") n refl) v) (omega arith)

optional_good : (pre name : List ℕ) (value : Option (List ℕ)) → Good pre → quiet name ≡ true → is_value_where_there value ≡ true → Good (pre ++ optional_line name value)
optional_good pre name None good n v = subst (λ (p : List ℕ). Good p) (sym (append-nil pre)) good
optional_good pre name (Some value) good n v = field_good pre name value good n (weaker is_value_byte value_byte value v)

close_good : (pre : List ℕ) (close : Bool) → Good pre → Good (pre ++ close_line close)
close_good pre true good = field_good pre (codes "connection") (codes "close") good refl refl
close_good pre false good = subst (λ (p : List ℕ). Good p) (sym (append-nil pre)) good

id_good : (pre : List ℕ) (id : Option Field) → Good pre → can_be_sent_where_there id ≡ true → Good (pre ++ id_line id)
id_good pre None good sent = subst (λ (p : List ℕ). Good p) (sym (append-nil pre)) good
id_good pre (Some f) good sent =
    let three = first_true _ _ sent in
    let two = first_true _ _ three in
    let token = first_true (is_token f.name) (is_field_value f.value) two in
    let bytes = second_true (nat_lt 0 (length f.name)) (list_all is_token_byte f.name) token in
    field_good pre f.name f.value good (weaker is_token_byte token_byte f.name bytes) (weaker is_value_byte value_byte f.value (second_true (is_token f.name) (is_field_value f.value) two))

pick : (b : Bool) (x y : List ℕ) → quiet x ≡ true → quiet y ≡ true → quiet (if b then x else y) ≡ true
pick true x y p q = p
pick false x y p q = q

reason_quiet : (s : ℕ) → quiet (reason_of s) ≡ true
reason_quiet s =
    pick (s == 200) (codes "OK") _ refl (pick (s == 400) (codes "Bad Request") _ refl (pick (s == 401) (codes "Unauthorized") _ refl
    (pick (s == 404) (codes "Not Found") _ refl (pick (s == 405) (codes "Method Not Allowed") (codes "Content Too Large") refl refl))))

status_good : (s : ℕ) → s < 2 ^ 64 → Good (status_line s)
status_good s small =
    let line = codes "HTTP/1.1 " ++ decimal s ++ codes " " ++ reason_of s in
    let still = both (codes "HTTP/1.1 " ++ decimal s ++ codes " ") (reason_of s) (both (codes "HTTP/1.1 " ++ decimal s) (codes " ") (both (codes "HTTP/1.1 ") (decimal s) refl (decimal_quiet s small)) refl) (reason_quiet s) in
    let size : length line ≡ length (codes "HTTP/1.1 " ++ decimal s ++ codes " ") + length (reason_of s) = length-append (codes "HTTP/1.1 " ++ decimal s ++ codes " ") (reason_of s) in
    let more : length (codes "HTTP/1.1 " ++ decimal s ++ codes " ") ≡ length (codes "HTTP/1.1 " ++ decimal s) + 1 = length-append (codes "HTTP/1.1 " ++ decimal s) (codes " ") in
    good_line [] line none_yet still (omega arith)

pub response_head_ends : (r : Response) → r.status < 2 ^ 64 → length r.body < 2 ^ 64 → is_value_where_there r.allow ≡ true → is_value_where_there r.cache_control ≡ true
    → IsHeadLength (response_bytes r) (length (response_head r) + 2)
response_head_ends r status body allow cache_control =
    let a = status_good r.status status in
    let b = field_good _ (codes "content-type") (codes "application/json") a refl refl in
    let d = field_good _ (codes "content-length") (decimal (length r.body)) b refl (decimal_quiet (length r.body) body) in
    let e = optional_good _ (codes "allow") r.allow d refl allow in
    let f = optional_good _ (codes "cache-control") r.cache_control e refl cache_control in
    head_ends (response_head r) r.body (close_good _ r.close f)

call_good : (path : List ℕ) → is_target path ≡ true → Good (codes "POST " ++ path ++ codes " HTTP/1.1\r\n")
call_good path target =
    let line = codes "POST " ++ path ++ codes " HTTP/1.1" in
    let bytes = second_true (nat_lt 0 (length path)) (list_all is_uri_byte path) target in
    let still = both (codes "POST " ++ path) (codes " HTTP/1.1") (both (codes "POST ") path refl (weaker is_uri_byte target_byte path bytes)) refl in
    let size : length line ≡ length (codes "POST " ++ path) + 9 = length-append (codes "POST " ++ path) (codes " HTTP/1.1") in
    subst (λ (p : List ℕ). Good p) (append_assoc (codes "POST " ++ path) (codes " HTTP/1.1") (13 ∷ 10 ∷ [])) (good_line [] line none_yet still (omega arith))

pub call_head_ends : (path host : List ℕ) (id : Option Field) (body : List ℕ) → length body < 2 ^ 64 → is_target path ≡ true → is_field_value host ≡ true → can_be_sent_where_there id ≡ true
    → IsHeadLength (call_bytes path host id body) (length (call_head path host id (length body)) + 2)
call_head_ends path host id body small target value sent =
    let json = field_good _ (codes "content-type") (codes "application/json") (field_good _ (codes "host") host (call_good path target) refl (weaker is_value_byte value_byte host value)) refl refl in
    let a = field_good _ (codes "accept") (codes "application/json") json refl refl in
    let b = id_good _ id a sent in
    let d = field_good _ (codes "content-length") (decimal (length body)) b refl (decimal_quiet (length body) small) in
    head_ends (call_head path host id (length body)) body (field_good _ (codes "connection") (codes "close") d refl refl)
