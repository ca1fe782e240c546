use Rattle.std.proofs.Common.{◌∙◌, sym, ap, map, arith, codes}
use Rattle.std.proofs.lemmas.Grind.{common_steps}
use Rattle.http_wire.specs.Heads.{kept_field, values_of}
use Rattle.http_wire.specs.Framings.{framing_of, joined, first_text}
use Rattle.http_wire.proofs.Names.{names_are_text, fields_fit}
use Rattle.http_wire.proofs.ReplyHeads.{reply_reads_all, frames_none}
use Rattle.http_wire.proofs.reply_head.open_reply.Goals as goal

pub kept_fields-requires-clause-text : goal.kept_fields-requires-clause-text
kept_fields-requires-clause-text c =
    let found = c.in-Some.ensures.found in
    names_are_text c.args.bytes.now _ _ found.0.fields found.1.reads.0.fields found.1.fields

pub returns : goal.returns
returns c =
    let found = c.in-Some.ensures.found in
    let reads = reply_reads_all c.args.bytes.now c.whole_response.new.spans c.in-Some.head found.0 found.1 found.2 in
    let kept = c.in-Ok.ensures ∙ ap (map kept_field) found.1.fields in
    record {
      opens = record {
        head = found.0;
        reads = reads;
        few = (let fit = fields_fit c.args.bytes.now c.whole_response.new.spans _ found.0.fields found.1.fields in let room = c.whole_response.ensures.room in grind (arith, common_steps));
        status = found.1.code;
        framed = sym (c.in-Some-framing_of.ensures ∙ ap framing_of (c.as_slice.ensures.value ∙ kept));
        cache_control = c.in-Ok-joined.ensures ∙ ap (λ fields. joined (values_of (codes "cache-control") fields)) (c.as_slice-2.ensures.value ∙ kept);
        age = c.in-Ok-first_text.ensures ∙ ap (λ fields. first_text (values_of (codes "age") fields)) (c.as_slice-3.ensures.value ∙ kept);
      };
    }

pub returns-in-None-framing_of : goal.returns-in-None-framing_of
returns-in-None-framing_of c =
    let found = c.in-Some.ensures.found in
    let reads = reply_reads_all c.args.bytes.now c.whole_response.new.spans c.in-Some.head found.0 found.1 found.2 in
    record { opens = λ o. frames_none c.args.bytes.now found.0 c.in-Ok.fields.items o reads (c.in-Ok.ensures ∙ ap (map kept_field) found.1.fields) (c.in-None-framing_of.ensures ∙ ap framing_of c.as_slice.ensures.value) }
