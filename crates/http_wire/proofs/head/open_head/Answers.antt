use Rattle.std.proofs.Common.{◌∙◌, subst, sym, ap, List, ℕ, map, arith, IsUtf8}
use Rattle.std.proofs.lemmas.Grind.{common_steps}
use Rattle.http_wire.specs.Heads.{kept_field, closes, declared_length}
use Rattle.http_wire.proofs.Names.{names_are_text, token_is_text, reads_all, fields_fit}
use Rattle.http_wire.proofs.Named.{declares_none}
use Rattle.http_wire.proofs.head.open_head.Goals as goal

pub kept_fields-requires-clause-text : goal.kept_fields-requires-clause-text
kept_fields-requires-clause-text c =
    let found = c.in-Some.ensures.found in
    names_are_text c.args.bytes.now _ _ found.0.fields found.1.reads.0.fields found.1.fields

pub returns : goal.returns
returns c =
    let found = c.in-Some.ensures.found in
    let reads = reads_all c.args.bytes.now c.whole_request.new.spans c.in-Some.head found.0 found.1 found.2 in
    let method = c.of.ensures ∙ found.1.method in
    let target = c.of-2.ensures ∙ found.1.path in
    record {
      opens = record {
        head = found.0;
        reads = reads;
        few = (let fit = fields_fit c.args.bytes.now c.whole_request.new.spans _ found.0.fields found.1.fields in let room = c.whole_request.ensures.room in grind (arith, common_steps));
        method = c.in-Ok-text_of.ensures (subst (λ (bytes : List ℕ). IsUtf8 bytes) (sym method) (token_is_text found.0.method reads.0.method)) ∙ method;
        target = c.in-Ok-text_of-2.ensures (subst (λ (bytes : List ℕ). IsUtf8 bytes) (sym target) reads.0.target_text) ∙ target;
        fields = c.in-Ok.ensures ∙ ap (map kept_field) found.1.fields;
        close = c.closes-close.ensures ∙ ap (closes c.in-Some.head.version) c.as_slice-2.ensures.value ∙ ap (λ m. closes m c.in-Ok.fields.items) found.1.version;
        declared = sym (c.in-Some-declared_length.ensures ∙ ap declared_length c.as_slice.ensures.value);
      };
    }

pub returns-in-None-declared_length : goal.returns-in-None-declared_length
returns-in-None-declared_length c =
    let found = c.in-Some.ensures.found in
    let reads = reads_all c.args.bytes.now c.whole_request.new.spans c.in-Some.head found.0 found.1 found.2 in
    record { opens = λ o. declares_none c.args.bytes.now found.0 c.in-Ok.fields.items o reads (c.in-Ok.ensures ∙ ap (map kept_field) found.1.fields) (c.in-None-declared_length.ensures ∙ ap declared_length c.as_slice.ensures.value) }
