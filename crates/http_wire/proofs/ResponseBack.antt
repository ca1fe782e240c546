-- A response that is written is read back as a reply.
use Rattle.std.proofs.Common.{◌≡◌, ◌⊎◌, inl, inr, ◌∙◌, sym, ap, subst, ℕ, ◌+◌, ◌/◌, ◌%◌, ◌<◌, ◌≤◌, ◌^◌, ◌==◌, arith, codes, Bool, true, false, ◌&&◌, List, [], ◌∷◌, ◌++◌, length, map, drop, append_assoc, append-nil, length-append, refl, Option, Some, None, All}
use Rattle.std.specs.Prelude.{Result, nat_lt, nat_le, if◌then◌else◌}
use Rattle.std.specs.Char.{is_ascii_digit}
use Rattle.std.specs.Fmt.{decimal}
use Rattle.std.specs.List.{list_all, list_any}
use Rattle.std.specs.Str.Parse.{digits_value}
use Rattle.std.proofs.lemmas.Bool.{eqb-true, ltb-true, leb-true, or_cases}
use Rattle.std.proofs.lemmas.Fmt.{decimal_step, decimal_is_IsNumeral}
use Rattle.std.proofs.lemmas.List.{take_at, drop_at}
use Rattle.std.proofs.lemmas.List.Sums.{AllPass-from_list_all}
use Rattle.itoa.proofs.Decimal.{length_two}
use Rattle.httparse.specs.Grammar.{ResponseHead, IsField, crlf, print_response, print_section, is_token, is_value_byte, trim_ows}
use Rattle.httparse.proofs.GrammarLemmas.{print_response-append}
use Rattle.cache_terms.specs.declared.events.Reply.{Reply}
use Rattle.http_wire.specs.declared.faults.WireFault.{WireFault}
use Rattle.http_wire.specs.declared.framing.Framing.TheVariants as framing
use Rattle.http_wire.specs.declared.message.Field.{Field}
use Rattle.http_wire.specs.declared.reply_head.ReplyHead.{ReplyHead}
use Rattle.http_wire.specs.declared.response.Response.{Response}
use Rattle.http_wire.specs.Framings.{OpensReply, by_codings, by_lengths, framing_of, joined, first_text, text_or_mark}
use Rattle.http_wire.specs.Heads.{values_of}
use Rattle.http_wire.specs.Replies.{BeginsReply}
use Rattle.http_wire.specs.ReadBack.{written, read_field, read_text, IsTheReply, AreItsReply}
use Rattle.http_wire.specs.Writing.{field_line, optional_line, close_line, has_reason, reason_of, response_head, response_bytes, is_field_value, is_value_where_there}
use Rattle.http_wire.proofs.Endings.{response_head_ends}
use Rattle.http_wire.proofs.Lists.{first_true, second_true}
use Rattle.http_wire.proofs.OneReply.{Answered, Tail, counted, counted_long, counted_short, ReplyView, accepted, refused, headless_long, headless_short, reply_view, begins_one, counted_same, no_head_above, no_head_below, good_or_refused}
use Rattle.http_wire.proofs.ReplyFacts.{begins_reply_more}
use Rattle.http_wire.proofs.Unique.{never_both}
use Rattle.http_wire.proofs.WrittenFields.{line_of, lines, lines_printed, fields_read, sent_more, sent_none, decimal_digits, decimal_value, trimmed_told, number_told, token_content_type, token_content_length, token_connection, token_allow, token_cache_control}

-- ---- the fields of a response

abbrev optional_fields : List ℕ → Option (List ℕ) → List Field
optional_fields name None = []
optional_fields name (Some value) = written name value ∷ []

abbrev close_fields : Bool → List Field
close_fields true = written (codes "connection") (codes "close") ∷ []
close_fields false = []

abbrev fields_of : ℕ → Option (List ℕ) → Option (List ℕ) → Bool → List Field
fields_of count allow cached close =
    written (codes "content-type") (codes "application/json")
    ∷ (written (codes "content-length") (decimal count) ∷ (optional_fields (codes "allow") allow ++ (optional_fields (codes "cache-control") cached ++ close_fields close)))

-- what these fields say
record Told (count : ℕ) (cached : Option (List ℕ)) (fs : List Field) : Type 0 where
  codings : values_of (codes "transfer-encoding") (map read_field fs) ≡ []
  lengths : values_of (codes "content-length") (map read_field fs) ≡ trim_ows (decimal count) ∷ []
  cached_text : joined (values_of (codes "cache-control") (map read_field fs)) ≡ read_text cached
  age : first_text (values_of (codes "age") (map read_field fs)) ≡ None
  few : length (map line_of fs) ≤ 100

at_most : (n k : ℕ) → n ≡ k → k ≤ 100 → n ≤ 100
at_most n k same few = omega arith

one_text : (v : List ℕ) → Some (text_or_mark (trim_ows v) ++ []) ≡ Some (text_or_mark (trim_ows v))
one_text v = ap Some (append-nil (text_or_mark (trim_ows v)))

told : (count : ℕ) (allow cached : Option (List ℕ)) (close : Bool) → Told count cached (fields_of count allow cached close)
told count None None true = record { codings = refl; lengths = refl; cached_text = refl; age = refl; few = at_most _ 3 refl (omega arith) }
told count None None false = record { codings = refl; lengths = refl; cached_text = refl; age = refl; few = at_most _ 2 refl (omega arith) }
told count None (Some v) true = record { codings = refl; lengths = refl; cached_text = one_text v; age = refl; few = at_most _ 4 refl (omega arith) }
told count None (Some v) false = record { codings = refl; lengths = refl; cached_text = one_text v; age = refl; few = at_most _ 3 refl (omega arith) }
told count (Some a) None true = record { codings = refl; lengths = refl; cached_text = refl; age = refl; few = at_most _ 4 refl (omega arith) }
told count (Some a) None false = record { codings = refl; lengths = refl; cached_text = refl; age = refl; few = at_most _ 3 refl (omega arith) }
told count (Some a) (Some v) true = record { codings = refl; lengths = refl; cached_text = one_text v; age = refl; few = at_most _ 5 refl (omega arith) }
told count (Some a) (Some v) false = record { codings = refl; lengths = refl; cached_text = one_text v; age = refl; few = at_most _ 4 refl (omega arith) }

optional_sent : (name : List ℕ) (value : Option (List ℕ)) (rest : List Field) → is_token name ≡ true → is_value_where_there value ≡ true → All IsField (map line_of rest)
    → All IsField (map line_of (optional_fields name value ++ rest))
optional_sent name None rest token sent all = all
optional_sent name (Some value) rest token sent all = sent_more (written name value) rest token sent all

close_sent : (close : Bool) → All IsField (map line_of (close_fields close))
close_sent true = sent_more (written (codes "connection") (codes "close")) [] token_connection refl sent_none
close_sent false = sent_none

all_sent : (count : ℕ) (allow cached : Option (List ℕ)) (close : Bool) → count < 2 ^ 64 → is_value_where_there allow ≡ true → is_value_where_there cached ≡ true
    → All IsField (map line_of (fields_of count allow cached close))
all_sent count allow cached close small a c =
    let last = optional_fields (codes "cache-control") cached ++ close_fields close in
    let texts = optional_fields (codes "allow") allow ++ last in
    sent_more (written (codes "content-type") (codes "application/json")) (written (codes "content-length") (decimal count) ∷ texts) token_content_type refl
    (sent_more (written (codes "content-length") (decimal count)) texts token_content_length (decimal_value count small)
    (optional_sent (codes "allow") allow last token_allow a (optional_sent (codes "cache-control") cached (close_fields close) token_cache_control c (close_sent close))))

optional_lines : (name : List ℕ) (value : Option (List ℕ)) (rest : List Field) → lines (optional_fields name value ++ rest) ≡ optional_line name value ++ lines rest
optional_lines name None rest = refl
optional_lines name (Some value) rest = refl

close_lines : (close : Bool) → lines (close_fields close) ≡ close_line close
close_lines true = append-nil (field_line (codes "connection") (codes "close"))
close_lines false = refl

-- ---- the status line

among : (s : ℕ) (ts : List ℕ) → list_all (λ t. nat_le 100 t && nat_lt t 1000) ts ≡ true → list_any (λ t. t == s) ts ≡ true → (100 ≤ s) × (s < 1000)
among s [] all some = absurd (never_both (sym some))
among s (t ∷ ts) all some = by_case (among s ts (second_true (nat_le 100 t && nat_lt t 1000) _ all)) (or_cases (t == s) (list_any (λ t. t == s) ts) some)
  where
    by_case : (list_any (λ t. t == s) ts ≡ true → (100 ≤ s) × (s < 1000)) → ((t == s) ≡ true) ⊎ (list_any (λ t. t == s) ts ≡ true) → (100 ≤ s) × (s < 1000)
    by_case later (inr rest) = later rest
    by_case later (inl here) =
        let same : t ≡ s = eqb-true t s here in
        let both = first_true (nat_le 100 t && nat_lt t 1000) _ all in
        let low : 100 ≤ t = leb-true 100 t (first_true (nat_le 100 t) (nat_lt t 1000) both) in
        let high : t < 1000 = ltb-true t 1000 (second_true (nat_le 100 t) (nat_lt t 1000) both) in
        (omega arith, omega arith)

status_bounds : (s : ℕ) → has_reason s ≡ true → (100 ≤ s) × (s < 1000)
status_bounds s h = among s (200 ∷ 400 ∷ 401 ∷ 404 ∷ 405 ∷ 413 ∷ []) refl h

three_digits : (s : ℕ) → 100 ≤ s → s < 1000 → length (decimal s) ≡ 3
three_digits s low high =
    let front : length (decimal (s / 10)) ≡ 2 = length_two (s / 10) (omega arith) (omega arith) in
    ap length (decimal_step s (omega arith) (omega arith)) ∙ length-append (decimal (s / 10)) ((48 + s % 10) ∷ []) ∙ ap (λ k. k + 1) front

pick : (b : Bool) (x y : List ℕ) → is_field_value x ≡ true → is_field_value y ≡ true → is_field_value (if b then x else y) ≡ true
pick true x y p q = p
pick false x y p q = q

reason_value : (s : ℕ) → is_field_value (reason_of s) ≡ true
reason_value s =
    pick (s == 200) (codes "OK") _ refl (pick (s == 400) (codes "Bad Request") _ refl (pick (s == 401) (codes "Unauthorized") _ refl
    (pick (s == 404) (codes "Not Found") _ refl (pick (s == 405) (codes "Method Not Allowed") (codes "Content Too Large") refl refl))))

-- ---- the head

abbrev fields_in : Response → List Field
fields_in r = fields_of (length r.body) r.allow r.cache_control r.close

abbrev tree : Response → ResponseHead
tree r = record {
  blank = [];
  minor = 1;
  digits = decimal r.status;
  reason = Some (reason_of r.status);
  line_end = crlf;
  fields = map line_of (fields_in r);
  last = crlf;
}

regroup : (p d sp q e a b c f g z : List ℕ)
    → ((p ++ d ++ sp ++ q ++ e) ++ a ++ b ++ c ++ f ++ g) ++ z ≡ p ++ (d ++ (sp ++ (q ++ (e ++ ((a ++ (b ++ (c ++ (f ++ g)))) ++ z)))))
regroup p d sp q e a b c f g z = simp append_assoc

head_lines : (r : Response)
    → lines (fields_in r)
    ≡ field_line (codes "content-type") (codes "application/json") ++ (field_line (codes "content-length") (decimal (length r.body))
    ++ (optional_line (codes "allow") r.allow ++ (optional_line (codes "cache-control") r.cache_control ++ close_line r.close)))
head_lines r =
    ap (λ l. field_line (codes "content-type") (codes "application/json") ++ (field_line (codes "content-length") (decimal (length r.body)) ++ l))
    (optional_lines (codes "allow") r.allow (optional_fields (codes "cache-control") r.cache_control ++ close_fields r.close)
    ∙ ap (λ l. optional_line (codes "allow") r.allow ++ l) (optional_lines (codes "cache-control") r.cache_control (close_fields r.close)
    ∙ ap (λ l. optional_line (codes "cache-control") r.cache_control ++ l) (close_lines r.close)))

head_printed : (r : Response) → response_head r ++ codes "\r\n" ≡ print_response (tree r) ++ []
head_printed r =
    let fs = fields_in r in
    let section : (lines fs ++ codes "\r\n") ≡ print_section (map line_of fs) crlf ++ [] =
    ap (λ l. l ++ codes "\r\n") (sym (lines_printed fs)) ∙ sym (append-nil (print_section (map line_of fs) crlf)) in
    regroup (codes "HTTP/1.1 ") (decimal r.status) (codes " ") (reason_of r.status) (codes "\r\n") (field_line (codes "content-type") (codes "application/json"))
    (field_line (codes "content-length") (decimal (length r.body))) (optional_line (codes "allow") r.allow) (optional_line (codes "cache-control") r.cache_control) (close_line r.close)
    (codes "\r\n")
    ∙ ap (λ l. codes "HTTP/1.1 " ++ (decimal r.status ++ (codes " " ++ (reason_of r.status ++ (codes "\r\n" ++ (l ++ codes "\r\n")))))) (sym (head_lines r))
    ∙ ap (λ s. codes "HTTP/1.1 " ++ (decimal r.status ++ (codes " " ++ (reason_of r.status ++ (codes "\r\n" ++ s))))) section
    ∙ sym (print_response-append (tree r) [])

abbrev says : Response → ReplyHead
says r = record { status = r.status; cache_control = read_text r.cache_control; age = None; framing = framing.Length (length r.body) }

framed_by : (fs : List Field) (n : ℕ) → n ≤ 4194304 → values_of (codes "transfer-encoding") fs ≡ [] → values_of (codes "content-length") fs ≡ trim_ows (decimal n) ∷ []
    → framing_of fs ≡ Some (framing.Length n)
framed_by fs n most none one =
    ap (λ cs. by_codings cs (values_of (codes "content-length") fs)) none ∙ ap by_lengths one
    ∙ ap (λ (b : Bool). if b then Some (framing.Length (digits_value 10 (trim_ows (decimal n)))) else None) (trimmed_told n most)
    ∙ ap (λ k. Some (framing.Length k)) (number_told n most)

response_opens : (r : Response) → has_reason r.status ≡ true → length r.body ≤ 4194304 → is_value_where_there r.allow ≡ true → is_value_where_there r.cache_control ≡ true
    → OpensReply (response_head r ++ codes "\r\n") (says r)
response_opens r status most allow cached =
    let fs = fields_in r in
    let t = told (length r.body) r.allow r.cache_control r.close in
    let read = fields_read fs in
    let low : 100 ≤ r.status = (status_bounds r.status status).0 in
    let high : r.status < 1000 = (status_bounds r.status status).1 in
    record {
      head = tree r;
      reads = (
        record {
          minor = omega arith;
          digits = (three_digits r.status low high, AllPass-from_list_all is_ascii_digit (decimal r.status) (decimal_digits r.status (omega arith)));
          reason = AllPass-from_list_all is_value_byte (reason_of r.status) (reason_value r.status);
          fields = all_sent (length r.body) r.allow r.cache_control r.close (omega arith) allow cached;
        },
        head_printed r,
      );
      few = t.few;
      status = sym (decimal_is_IsNumeral r.status (omega arith)).1;
      framed = ap framing_of read ∙ framed_by (map read_field fs) (length r.body) most t.codings t.lengths;
      cache_control = sym (ap (λ gs. joined (values_of (codes "cache-control") gs)) read ∙ t.cached_text);
      age = sym (ap (λ gs. first_text (values_of (codes "age") gs)) read ∙ t.age);
    }

-- ---- how it is read

its_tail : {answer : Result Reply WireFault} (r : Response) (b more : List ℕ) (total : ℕ) → b ≡ r.body ++ more → length r.body ≤ 4194304 → Answered answer (says r)
    → Tail b total (framing.Length (length r.body)) answer → IsTheReply r answer
its_tail r b more total same most answered (counted {reply = reply} rest p size within) = record {
  status = answered.status;
  cache_control = answered.cache_control;
  age = answered.age;
  body = counted_same b reply.body r.body rest more (length r.body) p size same refl;
}
its_tail r b more total same most answered (counted_long is above) = absurd (omega arith)
its_tail r b more total same most answered (counted_short is below least) =
    let size : length b ≡ length r.body + length more = ap length same ∙ length-append r.body more in absurd (omega arith)

its_reply : (answer : Result Reply WireFault) (r : Response) (all more : List ℕ) (n : ℕ) → BeginsReply all n (says r) → drop n all ≡ r.body ++ more → length r.body ≤ 4194304
    → ReplyView all answer → IsTheReply r answer
its_reply answer r all more n begins behind most (accepted k p c answered tail) =
    let same = begins_one all n k (says r) p begins c in
    its_tail r (drop n all) more (length all) behind most (subst (λ (o : ReplyHead). Answered answer o) (sym same.1) answered)
    (subst (λ (o : ReplyHead). Tail (drop n all) (length all) o.framing answer) (sym same.1) (subst (λ (i : ℕ). Tail (drop i all) (length all) p.framing answer) (sym same.0) tail))
its_reply answer r all more n begins behind most (refused {n = k} head short never) = absurd (good_or_refused all n k (says r) begins head never)
its_reply answer r all more n begins behind most (headless_long above none) = absurd (no_head_above all n begins.head begins.short none)
its_reply answer r all more n begins behind most (headless_short is few none) = absurd (no_head_below all n begins.head begins.short none)

pub response_back : (r : Response) → length (response_head r) + 2 ≤ 16384 → length r.body ≤ 4194304 → has_reason r.status ≡ true → is_value_where_there r.allow ≡ true
    → is_value_where_there r.cache_control ≡ true → AreItsReply (response_bytes r) r
response_back r short most status allow cached more answer inside may =
    let head = response_head r ++ codes "\r\n" in
    let n = length (response_head r) + 2 in
    let size : length head ≡ n = length-append (response_head r) (codes "\r\n") in
    let high : r.status < 1000 = (status_bounds r.status status).1 in
    let front : BeginsReply (head ++ r.body) n (says r) = record {
      head = response_head_ends r (omega arith) (omega arith) allow cached;
      short = short;
      opens = subst (λ (b : List ℕ). OpensReply b (says r)) (sym (take_at head r.body n size)) (response_opens r status most allow cached);
    } in
    let behind : drop n ((head ++ r.body) ++ more) ≡ r.body ++ more = ap (drop n) (append_assoc head r.body more) ∙ drop_at head (r.body ++ more) n size in
    its_reply answer r ((head ++ r.body) ++ more) more n (begins_reply_more (head ++ r.body) more n (says r) front) behind most (reply_view ((head ++ r.body) ++ more) answer inside may)
