use Rattle.std.proofs.Common.{Result, Ok, Err, OnOk}
use Rattle.std.specs.Option.{option_copied}
use Rattle.book_tables.proofs.Placed.{placed_keyed, placed_targeted}
use Rattle.book_tables.proofs.indexing.index.Goals as goal

on_ok : {T E P Q : Type 0} (r : Result T E) → (P → Q) → OnOk r P → OnOk r Q
on_ok (Ok v) f p = f p
on_ok (Err e) f p = tt

pub returns-clause-keyed : goal.returns-clause-keyed
returns-clause-keyed c = on_ok c.put.result (λ sets. placed_keyed c.args.events.now c.args.keys.now c.put.new.keys c.args.key.now (option_copied c.args.scope) c.args.tags.now c.requires.keyed sets) c.put.ensures.keyed

pub returns-clause-targeted : goal.returns-clause-targeted
returns-clause-targeted c = on_ok c.put.result (λ sets. placed_targeted c.args.events.now c.args.holders.now c.put.new.holders c.args.key.now (option_copied c.args.scope) c.args.tags.now c.superseded-superseded.result c.requires.targeted sets c.superseded-superseded.ensures) c.put.ensures.added
