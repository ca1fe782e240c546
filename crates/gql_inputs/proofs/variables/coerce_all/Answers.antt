use Rattle.std.proofs.Common.{◌≡◌, true, false, not, take, refl, sym, ◌∙◌, rules}
use Rattle.std.specs.Str.{bytes_eq}
use Rattle.indexmap.specs.IndexSet.{contains}
use Rattle.gql_inputs.specs.Variables.{defines}
use Rattle.gql_inputs.proofs.Defining as run
use Rattle.gql_inputs.proofs.Defining.{Faults-map}
use Rattle.gql_inputs.proofs.Noted.{fresh, met, defines_noted}
use Rattle.gql_inputs.proofs.variables.coerce_all.Goals as goal

pub loop-i-preserved-then-not-branch : goal.loop-i-preserved-then-not-branch
loop-i-preserved-then-not-branch c =
    let old : not c.in_ok-note.field-0 ≡ true = search rules in
    let defined : defines (take c.loop-i.i c.args.definitions.now) c.index-definitions-i.result.name ≡ true = sym (c.loop-i.invariant.seen c.index-definitions-i.result.name) ∙ met c.in_ok-note.field-0 (contains bytes_eq c.loop-i.seen c.index-definitions-i.result.name) old c.in_ok-note.ensures.is_new in
    record {
      run = run.vars_pass c.args.schema.now c.args.given.now.members.now c.args.definitions.now c.loop-i.i c.loop-i.made c.loop-i.invariant.run c.index-definitions-i.result c.loop-i-test.true c.index-definitions-i.is defined;
      seen = defines_noted (contains bytes_eq c.loop-i.seen) (contains bytes_eq c.note.new.names) c.index-definitions-i.result.name c.in_ok-note.ensures.notes
          c.args.definitions.now c.loop-i.i c.index-definitions-i.result c.loop-i-test.true c.index-definitions-i.is refl c.loop-i.invariant.seen;
    }

pub returns-in-Err-clause-fault : goal.returns-in-Err-clause-fault
returns-in-Err-clause-fault c =
    let new : not c.in_ok-note.field-0 ≡ false = search rules in
    let lacks : defines (take c.loop-i.i c.args.definitions.now) c.index-definitions-i.result.name ≡ false = sym (c.loop-i.invariant.seen c.index-definitions-i.result.name) ∙ fresh c.in_ok-note.field-0 (contains bytes_eq c.loop-i.seen c.index-definitions-i.result.name) new c.in_ok-note.ensures.is_new in
    Faults-map c.in-Err.fault c.in-Err.ensures.fault (λ v. run.vars_stop c.args.schema.now c.args.given.now.members.now c.args.definitions.now c.loop-i.i c.loop-i.made c.loop-i.invariant.run c.index-definitions-i.result c.loop-i-test.true c.index-definitions-i.is c.in-Err.fault lacks v)

pub loop-i-preserved : goal.loop-i-preserved
loop-i-preserved c =
    let new : not c.in_ok-note.field-0 ≡ false = search rules in
    let lacks : defines (take c.loop-i.i c.args.definitions.now) c.index-definitions-i.result.name ≡ false = sym (c.loop-i.invariant.seen c.index-definitions-i.result.name) ∙ fresh c.in_ok-note.field-0 (contains bytes_eq c.loop-i.seen c.index-definitions-i.result.name) new c.in_ok-note.ensures.is_new in
    record {
      run = run.vars_next c.args.schema.now c.args.given.now.members.now c.args.definitions.now c.loop-i.i c.loop-i.made c.loop-i.invariant.run c.index-definitions-i.result c.loop-i-test.true c.index-definitions-i.is c.in-Ok.more lacks c.in-Ok.ensures.value;
      seen = defines_noted (contains bytes_eq c.loop-i.seen) (contains bytes_eq c.note.new.names) c.index-definitions-i.result.name c.in_ok-note.ensures.notes
          c.args.definitions.now c.loop-i.i c.index-definitions-i.result c.loop-i-test.true c.index-definitions-i.is refl c.loop-i.invariant.seen;
    }

pub returns-clause-value : goal.returns-clause-value
returns-clause-value c = run.vars_end c.args.schema.now c.args.given.now.members.now c.args.definitions.now c.loop-i.i c.loop-i.made c.loop-i.invariant.run c.loop-i-test.false
