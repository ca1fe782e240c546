use Rattle.case_file.specs.Parts.{parts_said}
use Rattle.case_file.proofs.Made.{without_plans, site_none, site_made}
use Rattle.case_file.proofs.read.case_of.Goals as goal

pub returns-in_default-2-clause-case : goal.returns-in_default-2-clause-case
returns-in_default-2-clause-case c = λ ne.
    without_plans (parts_said c.args.parts) c.in-Some.schema (rw c.in-Some.is at c.in_ok-schema.ensures) (rw c.in_default-2.is at c.in_ok-plans.ensures)

pub returns-clause-case : goal.returns-clause-case
returns-clause-case c =
    let plans = rw c.in-Some-2.is at c.in_ok-plans.ensures in
    site_made (parts_said c.args.parts) c.in-Some.schema (rw c.in-Some.is at c.in_ok-schema.ensures) c.in-Some-2.plans.entries.items plans.0
    c.in_ok-config.config c.in_ok-config.ensures c.in-Some-3.site (rw c.in-Some-3.is at c.in_ok-site.ensures)

pub returns-in_default-3-clause-case : goal.returns-in_default-3-clause-case
returns-in_default-3-clause-case c = λ ne.
    let plans = rw c.in-Some-2.is at c.in_ok-plans.ensures in
    site_none (parts_said c.args.parts) c.in-Some.schema (rw c.in-Some.is at c.in_ok-schema.ensures) c.in-Some-2.plans.entries.items plans.0
    c.in_ok-config.config c.in_ok-config.ensures (rw c.in_default-3.is at c.in_ok-site.ensures)
