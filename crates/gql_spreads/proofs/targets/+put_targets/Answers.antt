use Rattle.std.proofs.Common.{◌≡◌, ℕ, ◌++◌, List}
use Rattle.std.specs.Prelude.{OnOk}
use Rattle.std.specs.List.{filter_map}
use Rattle.gql_spreads.specs.Spreads.{spreads_of, spreads_in}
use Rattle.gql_spreads.specs.Numbers.{number_in}
use Rattle.gql_spreads.proofs.Finds.{field_spreads, inline_spreads, collected}
use Rattle.gql_spreads.proofs.targets.+put_targets.Goals as goal

pub put_target-returns-in-Field : goal.put_target-returns-in-Field
put_target-returns-in-Field t c = field_spreads (λ (q : List (List ℕ)). OnOk c.put_targets.result (c.put_targets.new.out.items ≡ c.args.out.now.items ++ filter_map (number_in c.args.numbers.now) q)) _ _ _ _ _ _ _
    c.in-Field.is c.as_slice.ensures c.put_targets.ensures

pub put_target-returns-in-Inline : goal.put_target-returns-in-Inline
put_target-returns-in-Inline t c = inline_spreads
    (λ (q : List (List ℕ)). OnOk c.put_targets-in-Inline.result (c.put_targets-in-Inline.new.out.items ≡ c.args.out.now.items ++ filter_map (number_in c.args.numbers.now) q)) _ _ _ _ _
    c.in-Inline.is c.as_slice-in-Inline.ensures c.put_targets-in-Inline.ensures

pub put_targets-loop-i-preserved : goal.put_targets-loop-i-preserved
put_targets-loop-i-preserved t c = collected (number_in c.args.numbers.now) spreads_of c.args.selections.now c.loop-i.i c.index-selections-i.result c.loop-i.out.items c.put_target.new.out.items
    (c.args.out.now.items ++ filter_map (number_in c.args.numbers.now) (spreads_in c.args.selections.now)) c.loop-i-test.true c.index-selections-i.is c.loop-i.invariant c.in_ok-put_target.ensures
