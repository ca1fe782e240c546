use Rattle.std.proofs.Common.{◌+◌, ◌<◌, sym, ◌∙◌, length, drop, arith}
use Rattle.router_config.specs.Faults.{entry_faults, faults_from}
use Rattle.router_config.proofs.Entries.{front_is_nil, faults-next}
use Rattle.router_config.proofs.check.check_entries.Goals as goal

pub returns-in-Err-clause-ok : goal.returns-in-Err-clause-ok
returns-in-Err-clause-ok c =
    let below : c.loop-i.i < length c.args.entries.now = omega arith in
    let split = faults-next c.args.rules.now c.args.schema.now c.args.entries.now c.loop-i.i c.index-entries-i.result below c.index-entries-i.is in (
      (λ h. cc),
      (λ none.
          c.in-Err.ensures.ok.1
          (front_is_nil (entry_faults c.args.rules.now c.args.schema.now c.loop-i.i c.index-entries-i.result)
          (faults_from c.args.rules.now c.args.schema.now (c.loop-i.i + 1) (drop (c.loop-i.i + 1) c.args.entries.now))
          (sym split ∙ c.loop-i.invariant ∙ none))),
    )
