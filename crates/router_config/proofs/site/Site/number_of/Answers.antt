use Rattle.std.proofs.Common.{List, ap, ◌∙◌}
use Rattle.router_config.specs.declared.config.SubRule.{SubRule}
use Rattle.router_config.specs.Rules.{number_of}
use Rattle.router_config.proofs.Numbers.{named, known}
use Rattle.router_config.proofs.site.Site.number_of.Goals as goal

pub returns-clause-rule : goal.returns-clause-rule
returns-clause-rule c =
    named c.args.self.now.config.subs c.args.name.now c.number_in.result (c.number_in.ensures ∙ ap (λ (rules : List SubRule). number_of rules c.args.name.now) c.as_slice.ensures)

pub returns-clause-known : goal.returns-clause-known
returns-clause-known c =
    known c.args.self.now.config.subs c.args.name.now c.number_in.result (c.number_in.ensures ∙ ap (λ (rules : List SubRule). number_of rules c.args.name.now) c.as_slice.ensures)
