use Rattle.std.proofs.Common.{◌∙◌, ap, take, not, ◌==◌}
use Rattle.std.proofs.lemmas.List.Folds.{length-prefix_len}
use Rattle.cache_control.proofs.rules.before_comma.Goals as goal

pub returns : goal.returns
returns c = ap (λ n. take n c.args.text.now) (c.first_len.ensures.same ∙ length-prefix_len (λ byte. not (byte == 44)) c.args.text.now)
