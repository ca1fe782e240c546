-- A call that is written is read back as one message.
use Rattle.std.proofs.Common.{◌≡◌, ◌∙◌, sym, ap, subst, ℕ, ◌+◌, ◌<◌, ◌≤◌, ◌^◌, arith, codes, Bool, true, false, not, ◌||◌, List, [], ◌∷◌, ◌++◌, length, map, take, drop, append_assoc, append-nil, length-append, refl, Option, Some, None, All, IsUtf8}
use Rattle.std.specs.Prelude.{Result, Ok, Err, nat_lt, nat_eq, if◌then◌else◌}
use Rattle.std.specs.Cmp.Lexicographic.{pointwise}
use Rattle.std.specs.Fmt.{decimal}
use Rattle.std.specs.List.{list_all, list_any}
use Rattle.std.specs.Str.{str_to_ascii_lowercase, str_eq_ignore_ascii_case}
use Rattle.std.proofs.lemmas.Bool.{ltb-true, or_right, not-true}
use Rattle.std.proofs.lemmas.List.{take_at, drop_at, append_cancel_left}
use Rattle.std.proofs.lemmas.List.Sums.{AllPass-from_list_all}
use Rattle.httparse.specs.Grammar.{RequestHead, IsField, crlf, print_request, print_section, is_token, is_token_byte, is_uri_byte, trim_ows}
use Rattle.httparse.proofs.GrammarLemmas.{print_request-append}
use Rattle.http_wire.specs.declared.faults.WireFault.{WireFault}
use Rattle.http_wire.specs.declared.faults.WireFault.TheVariants as fault
use Rattle.http_wire.specs.declared.message.Field.{Field}
use Rattle.http_wire.specs.declared.message.Message.{Message}
use Rattle.http_wire.specs.Heads.{HeadSays, Opens, values_of, has_close, lists_close}
use Rattle.http_wire.specs.Messages.{BeginsWith}
use Rattle.http_wire.specs.ReadBack.{written, read_field, id_fields, call_fields, call_says, IsTheMessage, AreOneMessage}
use Rattle.http_wire.specs.Writing.{field_line, is_field_value, is_target, can_be_sent, can_be_sent_where_there, id_line, call_head, call_bytes}
use Rattle.http_wire.proofs.Endings.{call_head_ends}
use Rattle.http_wire.proofs.Lists.{first_true, second_true}
use Rattle.http_wire.proofs.Named.{miss}
use Rattle.http_wire.proofs.OneAnswer.{View, AfterHead, accepted, refused, headless, view, head_or_none, good_or_bad, same_says, number}
use Rattle.http_wire.proofs.Unique.{SaysSame}
use Rattle.http_wire.proofs.Whole.{begins_more}
use Rattle.http_wire.proofs.WrittenFields.{line_of, lines, lines_printed, fields_read, sent_more, sent_none, decimal_value, declares, token_post, token_host, token_content_type, token_accept, token_content_length, token_connection}

-- ---- the head of a call

abbrev call_tree : List ℕ → List ℕ → Option Field → ℕ → RequestHead
call_tree path host id count = record {
  blank = [];
  method = codes "POST";
  target = path;
  minor = 1;
  line_end = crlf;
  fields = map line_of (call_fields host id count);
  last = crlf;
}

regroup : (p path v a b c d e f z : List ℕ)
    → (p ++ path ++ v ++ a ++ b ++ c ++ d ++ e ++ f) ++ z ≡ p ++ (path ++ (v ++ ((a ++ (b ++ (c ++ (d ++ (e ++ (f ++ [])))))) ++ z)))
regroup p path v a b c d e f z = simp (append_assoc, append-nil)

id_lines : (id : Option Field) (rest : List Field) → lines (id_fields id ++ rest) ≡ id_line id ++ lines rest
id_lines None rest = refl
id_lines (Some f) rest = refl

call_lines : (host : List ℕ) (id : Option Field) (count : ℕ)
    → lines (call_fields host id count)
    ≡ field_line (codes "host") host ++ (field_line (codes "content-type") (codes "application/json") ++ (field_line (codes "accept") (codes "application/json")
    ++ (id_line id ++ (field_line (codes "content-length") (decimal count) ++ (field_line (codes "connection") (codes "close") ++ [])))))
call_lines host id count =
    ap (λ l. field_line (codes "host") host ++ (field_line (codes "content-type") (codes "application/json") ++ (field_line (codes "accept") (codes "application/json") ++ l)))
    (id_lines id (written (codes "content-length") (decimal count) ∷ (written (codes "connection") (codes "close") ∷ [])))

call_printed : (path host : List ℕ) (id : Option Field) (count : ℕ) → call_head path host id count ++ codes "\r\n" ≡ print_request (call_tree path host id count) ++ []
call_printed path host id count =
    let fs = call_fields host id count in
    let section : (lines fs ++ codes "\r\n") ≡ print_section (map line_of fs) crlf ++ [] =
    ap (λ l. l ++ codes "\r\n") (sym (lines_printed fs)) ∙ sym (append-nil (print_section (map line_of fs) crlf)) in
    regroup (codes "POST ") path (codes " HTTP/1.1\r\n") (field_line (codes "host") host) (field_line (codes "content-type") (codes "application/json"))
    (field_line (codes "accept") (codes "application/json")) (id_line id) (field_line (codes "content-length") (decimal count)) (field_line (codes "connection") (codes "close"))
    (codes "\r\n")
    ∙ ap (λ l. codes "POST " ++ (path ++ (codes " HTTP/1.1\r\n" ++ (l ++ codes "\r\n")))) (sym (call_lines host id count))
    ∙ ap (λ s. codes "POST " ++ (path ++ (codes " HTTP/1.1\r\n" ++ s))) section
    ∙ sym (print_request-append (call_tree path host id count) [])

id_token : (f : Field) → can_be_sent f ≡ true → is_token f.name ≡ true
id_token f sent = first_true (is_token f.name) (is_field_value f.value) (first_true _ _ (first_true _ _ sent))

id_value : (f : Field) → can_be_sent f ≡ true → is_field_value f.value ≡ true
id_value f sent = second_true (is_token f.name) (is_field_value f.value) (first_true _ _ (first_true _ _ sent))

lengths_sent : (count : ℕ) → count < 2 ^ 64 → All IsField (map line_of (written (codes "content-length") (decimal count) ∷ (written (codes "connection") (codes "close") ∷ [])))
lengths_sent count small =
    sent_more (written (codes "content-length") (decimal count)) (written (codes "connection") (codes "close") ∷ []) token_content_length (decimal_value count small)
    (sent_more (written (codes "connection") (codes "close")) [] token_connection refl sent_none)

id_sent : (id : Option Field) (rest : List Field) → can_be_sent_where_there id ≡ true → All IsField (map line_of rest) → All IsField (map line_of (id_fields id ++ rest))
id_sent None rest sent all = all
id_sent (Some f) rest sent all = sent_more f rest (id_token f sent) (id_value f sent) all

call_sent : (host : List ℕ) (id : Option Field) (count : ℕ) → count < 2 ^ 64 → is_field_value host ≡ true → can_be_sent_where_there id ≡ true
    → All IsField (map line_of (call_fields host id count))
call_sent host id count small value sent =
    let accept = written (codes "accept") (codes "application/json") in
    let lengths = written (codes "content-length") (decimal count) ∷ (written (codes "connection") (codes "close") ∷ []) in
    sent_more (written (codes "host") host) (written (codes "content-type") (codes "application/json") ∷ (accept ∷ (id_fields id ++ lengths))) token_host value
    (sent_more (written (codes "content-type") (codes "application/json")) (accept ∷ (id_fields id ++ lengths)) token_content_type refl
    (sent_more accept (id_fields id ++ lengths) token_accept refl (id_sent id lengths sent (lengths_sent count small))))

abbrev after_id : ℕ → List Field
after_id count = map read_field (written (codes "content-length") (decimal count) ∷ (written (codes "connection") (codes "close") ∷ []))

call_codings : (host : List ℕ) (id : Option Field) (count : ℕ) → can_be_sent_where_there id ≡ true → values_of (codes "transfer-encoding") (map read_field (call_fields host id count)) ≡ []
call_codings host None count sent = refl
call_codings host (Some f) count sent =
    miss (codes "transfer-encoding") (read_field f) (after_id count) (not-true _ (second_true _ (not (str_eq_ignore_ascii_case f.name (codes "transfer-encoding"))) sent))

call_lengths : (host : List ℕ) (id : Option Field) (count : ℕ) → can_be_sent_where_there id ≡ true
    → values_of (codes "content-length") (map read_field (call_fields host id count)) ≡ trim_ows (decimal count) ∷ []
call_lengths host None count sent = refl
call_lengths host (Some f) count sent =
    miss (codes "content-length") (read_field f) (after_id count)
    (not-true _ (second_true _ (not (str_eq_ignore_ascii_case f.name (codes "content-length"))) (first_true _ (not (str_eq_ignore_ascii_case f.name (codes "transfer-encoding"))) sent)))

close_told : lists_close (trim_ows (codes "close")) ≡ true
unfolding trim_ows
close_told = refl

close_last : list_any lists_close (trim_ows (codes "close") ∷ []) ≡ true
close_last = ap (λ b. b || false) close_told

close_after : (b : Bool) (v : List ℕ) → list_any lists_close (if b then v ∷ (trim_ows (codes "close") ∷ []) else (trim_ows (codes "close") ∷ [])) ≡ true
close_after true v = or_right (lists_close v) _ close_last
close_after false v = close_last

call_closes : (host : List ℕ) (id : Option Field) (count : ℕ) → has_close (map read_field (call_fields host id count)) ≡ true
call_closes host None count = close_last
call_closes host (Some f) count = close_after (pointwise nat_eq (str_to_ascii_lowercase f.name) (codes "connection")) (trim_ows f.value)

call_few : (host : List ℕ) (id : Option Field) (count : ℕ) → length (map line_of (call_fields host id count)) ≤ 100
call_few host None count = let n : length (map line_of (call_fields host None count)) ≡ 5 = refl in omega arith
call_few host (Some f) count = let n : length (map line_of (call_fields host (Some f) count)) ≡ 6 = refl in omega arith

call_opens : (path host : List ℕ) (id : Option Field) (count : ℕ) → count ≤ 1048576 → IsUtf8 path → is_target path ≡ true → is_field_value host ≡ true → can_be_sent_where_there id ≡ true
    → Opens (call_head path host id count ++ codes "\r\n") (call_says path host id count)
call_opens path host id count most text target value sent = record {
  head = call_tree path host id count;
  reads = (
    record {
      method = (omega arith, AllPass-from_list_all is_token_byte (codes "POST") token_post);
      target = (
        ltb-true 0 (length path) (first_true (nat_lt 0 (length path)) (list_all is_uri_byte path) target),
        AllPass-from_list_all is_uri_byte path (second_true (nat_lt 0 (length path)) (list_all is_uri_byte path) target),
      );
      target_text = text;
      minor = omega arith;
      fields = call_sent host id count (omega arith) value sent;
    },
    call_printed path host id count,
  );
  few = call_few host id count;
  method = refl;
  target = refl;
  fields = sym (fields_read (call_fields host id count));
  close = sym (call_closes host id count);
  declared = declares (map read_field (call_fields host id count)) count (omega arith) (call_codings host id count sent) (call_lengths host id count sent);
}

-- ---- how it is read

-- a head with this body behind it is read as one message
one_message : (head body : List ℕ) (n : ℕ) (o : HeadSays) → length head ≡ n → BeginsWith (head ++ body) n o → o.length ≡ length body → o.length ≤ 1048576 → AreOneMessage (head ++ body) o body
one_message head body n o size begins declared most more rest answer inside gives = by_view (view answer ((head ++ body) ++ more) rest inside gives)
  where
    whole : BeginsWith ((head ++ body) ++ more) n o
    whole = begins_more (head ++ body) more n o begins

    split : (head ++ body) ++ more ≡ take n ((head ++ body) ++ more) ++ (body ++ more)
    split = append_assoc head body more ∙ ap (λ h. h ++ (body ++ more)) (sym (take_at head (body ++ more) n size) ∙ ap (take n) (sym (append_assoc head body more)))

    total : length ((head ++ body) ++ more) ≡ (n + length body) + length more
    total = length-append (head ++ body) more ∙ ap (λ k. k + length more) (length-append head body ∙ ap (λ k. k + length body) size)

    same_length : (p : HeadSays) → SaysSame o p → o.length ≡ p.length
    same_length p says = number o.length p.length says.length

    by_head : (r : Result (Option Message) WireFault) (k : ℕ) (p : HeadSays) → n ≡ k → SaysSame o p → AfterHead r k p ((head ++ body) ++ more) rest → IsTheMessage o body r × (rest ≡ more)
    by_head (Ok None) k p same says a = absurd a
    by_head (Ok (Some m)) k p same says a =
        let after : m.body ++ rest ≡ body ++ more =
        append_cancel_left (take n ((head ++ body) ++ more)) (m.body ++ rest) (body ++ more)
        (ap (λ i. take i ((head ++ body) ++ more) ++ (m.body ++ rest)) same ∙ sym a.3 ∙ split) in
        let long : length m.body ≡ length body = sym a.1 ∙ sym (same_length p says) ∙ declared in
        let j = length body in (
          (
            record {
              method = a.0.method ∙ sym says.method;
              target = a.0.target ∙ sym says.target;
              fields = a.0.fields ∙ sym says.fields;
              close = a.0.close ∙ sym says.close;
            },
            sym (take_at m.body rest j long) ∙ ap (take j) after ∙ take_at body more j refl,
          ),
          sym (drop_at m.body rest j long) ∙ ap (drop j) after ∙ drop_at body more j refl,
        )
    by_head (Err fault.Failed) k p same says a = absurd a
    by_head (Err fault.Memory) k p same says a = absurd a
    by_head (Err (fault.Bad t)) k p same says a = absurd a
    by_head (Err (fault.TooLong t)) k p same says a = let size : o.length ≡ p.length = same_length p says in absurd (omega arith)
    by_head (Err (fault.Cut t)) k p same says a =
        let size : o.length ≡ p.length = same_length p says in
        let count : length ((head ++ body) ++ more) ≡ (n + length body) + length more = total in
        absurd (omega arith)

    by_view : View answer ((head ++ body) ++ more) rest → IsTheMessage o body answer × (rest ≡ more)
    by_view (accepted k p c a) = let same = same_says ((head ++ body) ++ more) n k o p whole c in by_head answer k p same.0 same.1 a
    by_view (refused k c a) = absurd (good_or_bad ((head ++ body) ++ more) n k o whole c)
    by_view (headless c a) = absurd (head_or_none ((head ++ body) ++ more) n whole.head whole.short c)

pub call_back : (path host : List ℕ) (id : Option Field) (body : List ℕ) → length body ≤ 1048576 → length (call_head path host id (length body)) + 2 ≤ 16384
    → IsUtf8 path → is_target path ≡ true → is_field_value host ≡ true → can_be_sent_where_there id ≡ true
    → AreOneMessage (call_bytes path host id body) (call_says path host id (length body)) body
call_back path host id body most short text target value sent =
    let head = call_head path host id (length body) ++ codes "\r\n" in
    let n = length (call_head path host id (length body)) + 2 in
    let size : length head ≡ n = length-append (call_head path host id (length body)) (codes "\r\n") in
    one_message head body n (call_says path host id (length body)) size
    record {
      head = call_head_ends path host id body (omega arith) target value sent;
      short = short;
      opens = subst (λ (b : List ℕ). Opens b (call_says path host id (length body))) (sym (take_at head body n size)) (call_opens path host id (length body) most text target value sent);
    }
    refl most
