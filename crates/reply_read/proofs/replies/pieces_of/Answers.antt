use Rattle.std.proofs.Common.{◌≡◌, Bool, true, Some, length, ap, sym, ◌∙◌, arith}
use Rattle.std.specs.Prelude.{codes, not, vec_len}
use Rattle.std.proofs.lemmas.Grind.{common_steps}
use Rattle.json_value.specs.Members.{member}
use Rattle.reply_read.specs.Kinds.{is_object}
use Rattle.reply_read.specs.Errors.{error_texts}
use Rattle.reply_read.specs.Values.{data_of}
use Rattle.reply_read.specs.TagTexts.{reply_tags}
use Rattle.reply_read.specs.Replies.{is_some_list}
use Rattle.reply_read.proofs.Giving.{gives_there, some_list}
use Rattle.reply_read.proofs.replies.pieces_of.Goals as goal

pub returns : goal.returns
returns c =
    let v = c.args.value in
    let s = c.args.sent.now in
    let es = c.in-Ok-Some.errors.items in
    let obj : is_object v ≡ true = grind (arith, common_steps) in
    let errs : error_texts (member v (codes "errors")) ≡ Some es = grind (arith, common_steps) in
    let tagged : c.in-Ok.tags.items ≡ reply_tags s (member v (codes "extensions")) = c.in-Ok.ensures ∙ ap (reply_tags s) c.member-2.ensures.value in
    let many : vec_len c.in-Ok-Some.errors ≡ length es = omega (arith, c.in-Ok-Some.errors.ok.0) in
    let flag : is_some_list es ≡ not c.is_empty.result = some_list es (vec_len c.in-Ok-Some.errors) c.is_empty.result many c.is_empty.ensures in
    let there : data_of (is_some_list es) (member v (codes "data")) ≡ Some c.in-Some.found = ap (λ (b : Bool). data_of b (member v (codes "data"))) flag ∙ sym c.in-Some.ensures in
    gives_there v s c.in-Ok.tags.items es c.in-Some.found c.with_values.result obj errs tagged there c.with_values.ensures
