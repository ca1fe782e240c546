-- One head of a reply has one framing.
use Rattle.std.proofs.Common.{◌≡◌, ◌∙◌, sym, ap, ℕ, List, [], length, subst, arith, Option, Some, None, IsUtf8, Bool, true, false, codes, refl, append_assoc, ◌++◌, ◌∷◌}
use Rattle.std.specs.Prelude.{if◌then◌else◌}
use Rattle.std.specs.Str.{is_utf8}
use Rattle.std.proofs.lemmas.Str.{IsUtf8-from_is_utf8, is_utf8-from_IsUtf8}
use Rattle.std.proofs.lemmas.List.{drop_all}
use Rattle.httparse.specs.Grammar.{ResponseHead, ReadsResponse}
use Rattle.httparse.specs.declared.spans.HeaderSpan.{HeaderSpan}
use Rattle.httparse.specs.declared.spans.ResponseSpans.{ResponseSpans}
use Rattle.httparse.specs.Spans.{IsResponseAt}
use Rattle.httparse.proofs.GrammarLemmas.{response_unique}
use Rattle.http_wire.specs.declared.message.Field.{Field}
use Rattle.http_wire.specs.declared.reply_head.ReplyHead.{ReplyHead}
use Rattle.http_wire.specs.Heads.{values_of}
use Rattle.http_wire.specs.Framings.{reply_fields, framing_of, OpensReply, text_or_mark, further_values}

pub reply_reads_all : (buf : List ℕ) (headers : List HeaderSpan) (r : ResponseSpans) (h : ResponseHead) → IsResponseAt buf headers r h → r.len ≡ length buf → ReadsResponse buf h []
reply_reads_all buf headers r h at len = subst (λ (rest : List ℕ). ReadsResponse buf h rest) (drop_all r.len buf (let full : r.len ≡ length buf = len in omega arith)) at.reads

pub frames_none : (bytes : List ℕ) (h : ResponseHead) (fields : List Field) (o : ReplyHead) → ReadsResponse bytes h [] → fields ≡ reply_fields h → None ≡ framing_of fields → ¬ (OpensReply bytes o)
frames_none bytes h fields o reads kept none opens =
    let one = response_unique bytes opens.head h [] [] opens.reads reads in
    let e : None ≡ Some o.framing = none ∙ ap framing_of (kept ∙ sym (ap reply_fields one.0)) ∙ opens.framed in cc

pub is_text : (v : List ℕ) → IsUtf8 v → v ≡ text_or_mark v
is_text v text = sym (ap (λ (b : Bool). if b then v else codes "?") (is_utf8-from_IsUtf8 v text))

pub no_text : (v : List ℕ) → ¬ (IsUtf8 v) → codes "?" ≡ text_or_mark v
no_text v none =
    elim (is_utf8 v) as (λ b. is_utf8 v ≡ b → codes "?" ≡ (if b then v else codes "?")) [ true ↦ λ e. absurd (none (IsUtf8-from_is_utf8 v e)) | false ↦ λ e. refl ] refl

pub one_more : (list v name : List ℕ) (rest more : List Field) (whole : Option (List ℕ)) → values_of name rest ≡ v ∷ values_of name more
    → Some (list ++ further_values (values_of name rest)) ≡ whole → Some (((list ++ codes ", ") ++ text_or_mark v) ++ further_values (values_of name more)) ≡ whole
one_more list v name rest more whole named so_far =
    ap Some (append_assoc (list ++ codes ", ") (text_or_mark v) (further_values (values_of name more)) ∙ append_assoc list (codes ", ") (text_or_mark v ++ further_values (values_of name more)) ∙ ap (λ vs. list ++ further_values vs) (sym named)) ∙ so_far
