use Rattle.std.proofs.Common.{◌≡◌, false, not, sym, ◌∙◌, rules}
use Rattle.std.specs.Prelude.{map}
use Rattle.std.specs.Str.{bytes_eq}
use Rattle.indexmap.specs.IndexSet.{contains}
use Rattle.gql_inputs.specs.Constants.{firsts, constant_member}
use Rattle.gql_inputs.proofs.Noted.{fresh, has_noted, firsts_new}
use Rattle.gql_inputs.proofs.constant.+constant.Goals as goal

pub constant_members-loop-i-preserved : goal.constant_members-loop-i-preserved
constant_members-loop-i-preserved t c =
    let new : not c.in_ok-note.field-0 ≡ false = search rules in
    let lacks : contains bytes_eq c.loop-i.names c.index-members-i.result.0 ≡ false = fresh c.in_ok-note.field-0 (contains bytes_eq c.loop-i.names c.index-members-i.result.0) new c.in_ok-note.ensures.is_new in
    record {
      firsts = firsts_new c.args.members.now c.loop-i.i c.index-members-i.result c.loop-i-test.true c.index-members-i.is c.loop-i.made c.push.new.self (firsts (map constant_member c.args.members.now))
          c.in_ok-copy.field-0 c.in_ok-constant.field-0 (sym (c.loop-i.invariant.names c.index-members-i.result.0) ∙ lacks) c.in_ok-copy.ensures c.in_ok-constant.ensures c.in_ok-push.ensures.ok c.loop-i.invariant.firsts;
      names = has_noted (contains bytes_eq c.loop-i.names) (contains bytes_eq c.note.new.names) c.index-members-i.result.0 c.in_ok-note.ensures.notes
          c.loop-i.made c.push.new.self c.in_ok-copy.field-0 c.in_ok-constant.field-0 c.in_ok-copy.ensures c.in_ok-push.ensures.ok c.loop-i.invariant.names;
    }
