-- The fields of a head are text where they have to be.
use Rattle.std.proofs.Common.{◌≡◌, ◌∙◌, sym, ap, ℕ, List, [], length, take, map, subst, ◌<◌, ◌≤◌, arith, true, All, IsUtf8}
use Rattle.std.proofs.lemmas.List.{length-map, length-take, drop_all}
use Rattle.std.proofs.Math.ListN.{get_or-map}
use Rattle.std.proofs.lemmas.Bool.Decides.{nat_tests}
use Rattle.std.proofs.lemmas.List.Elements.{All-map, All-weaker}
use Rattle.std.proofs.lemmas.Str.{IsUtf8-from_ascii}
use Rattle.std.proofs.lemmas.Str.Ascii.{IsAscii-from_all}
use Rattle.httparse.specs.declared.spans.HeaderSpan.{HeaderSpan}
use Rattle.httparse.specs.Grammar.{is_token_byte, IsToken, IsField, Field, RequestHead, ReadsRequest}
use Rattle.httparse.specs.Spans.{header_bytes, span_bytes, name_and_value, AreFieldsAt, IsRequestAt}
use Rattle.httparse.specs.declared.spans.RequestSpans.{RequestSpans}
use Rattle.std.proofs.lemmas.Grind.{common_steps}

token_is_ascii : (b : ℕ) → is_token_byte b ≡ true → b < 128
unfolding is_token_byte
token_is_ascii b token = grind (arith, nat_tests)

pub token_is_text : (bytes : List ℕ) → IsToken bytes → IsUtf8 bytes
token_is_text bytes token = IsUtf8-from_ascii bytes (IsAscii-from_all bytes (All-weaker _ (λ b. b < 128) token_is_ascii bytes token.1))

pub names_are_text : (buf : List ℕ) (headers : List HeaderSpan) (count : ℕ) (fields : List Field) → All IsField fields → AreFieldsAt buf headers count fields
    → All (λ span. IsUtf8 (span_bytes buf span.name)) (take count headers)
names_are_text buf headers count fields each are k d lt =
    let named : All (λ (p : List ℕ × List ℕ). IsUtf8 p.0) (map name_and_value fields) =
    All-map (λ (p : List ℕ × List ℕ). IsUtf8 p.0) name_and_value fields (All-weaker IsField (λ f. IsUtf8 f.name) (λ f ok. token_is_text f.name ok.name) fields each) in
    let covered = subst (λ (ps : List (List ℕ × List ℕ)). All (λ (p : List ℕ × List ℕ). IsUtf8 p.0) ps) (sym are) named in
    let at = covered k (header_bytes buf d) (subst (λ (n : ℕ). k < n) (sym (length-map (take count headers) (header_bytes buf))) lt) in
    subst (λ (p : List ℕ × List ℕ). IsUtf8 p.0) (get_or-map (header_bytes buf) (take count headers) k d) at

pub reads_all : (buf : List ℕ) (headers : List HeaderSpan) (r : RequestSpans) (h : RequestHead) → IsRequestAt buf headers r h → r.len ≡ length buf → ReadsRequest buf h []
reads_all buf headers r h at len = subst (λ (rest : List ℕ). ReadsRequest buf h rest) (drop_all r.len buf (let full : r.len ≡ length buf = len in omega arith)) at.reads

pub fields_fit : (buf : List ℕ) (headers : List HeaderSpan) (count : ℕ) (fields : List Field) → AreFieldsAt buf headers count fields → length fields ≤ length headers
fields_fit buf headers count fields are =
    let same : length (take count headers) ≡ length fields = sym (length-map (take count headers) (header_bytes buf)) ∙ ap length are ∙ length-map fields name_and_value in
    let taken = length-take count headers in
    grind (arith, common_steps)
