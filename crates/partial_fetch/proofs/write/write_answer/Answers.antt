use Rattle.std.proofs.Common.{◌≡◌, List, Option, Some, map, refl, ap, sym, ◌∙◌}
use Rattle.json_print.specs.Print.{print}
use Rattle.answer_text.specs.declared.fetch_error.FetchError.{FetchError}
use Rattle.answer_text.specs.declared.lasting.Lasts.{Lasts}
use Rattle.answer_text.specs.Bodies.{answer_value}
use Rattle.answer_text.specs.Lasting.{cache_control_of}
use Rattle.piece_fetch.specs.declared.fetched.Lasts as fetched
use Rattle.plan_run.specs.declared.outcome.PieceError.{PieceError}
use Rattle.router_config.specs.declared.config.SubRule.{SubRule}
use Rattle.partial_fetch.specs.Answering.{told_error, lasting_if}
use Rattle.partial_fetch.proofs.write.write_answer.Goals as goal

pub returns : goal.returns
returns c =
    let subs = c.args.site.now.config.subs in
    let errors : c.in_ok-told.told.items ≡ map (told_error subs) c.args.outcome.errors.items =
    c.in_ok-told.ensures ∙ ap (λ (rules : List SubRule). map (told_error rules) c.deref.result.now) c.as_slice.ensures ∙ ap (λ (es : List PieceError). map (told_error subs) es) c.deref.ensures.value in
    let lasts : c.in_ok-lasting.lasting.items ≡ map lasting_if c.args.outcome.lasts.items = c.in_ok-lasting.ensures ∙ ap (λ (ls : List (Option fetched.Lasts)). map lasting_if ls) c.deref-2.ensures.value in
    record {
      shaped = c.in_ok-shaped.shaped;
      is_shaping = c.in_ok-shaped.ensures;
      status = refl;
      body = c.in_ok-body.ensures ∙ ap (λ (es : List FetchError). print (answer_value es c.in_ok-shaped.shaped)) errors;
      cache_control = ap Some (c.in_ok-kept.ensures ∙ ap cache_control_of c.deref-3.ensures.value ∙ ap cache_control_of lasts);
      receipts = refl;
      errors = refl;
    }
