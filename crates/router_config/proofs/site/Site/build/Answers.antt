use Rattle.std.proofs.Common.{◌≡◌, [], refl}
use Rattle.router_config.specs.Faults.{faults_of}
use Rattle.router_config.proofs.Fitting.{all_fit}
use Rattle.router_config.proofs.site.Site.build.Goals as goal

pub returns-in-Ok-clause-fits : goal.returns-in-Ok-clause-fits
returns-in-Ok-clause-fits c =
    let none : faults_of c.args.config.subs c.args.schema c.args.plans.entries.items ≡ [] = cc (c.in-Ok.ensures.ok.0 refl) in
    all_fit c.args.config.subs c.args.schema 0 c.args.plans.entries.items none

pub returns-in-Ok-clause-lawful : goal.returns-in-Ok-clause-lawful
returns-in-Ok-clause-lawful c = λ config plans. record { config = config; plans = plans; fit = returns-in-Ok-clause-fits c }
