use Rattle.std.proofs.Common.{◌≡◌, ◌<◌, ◌^◌, List, [], ◌∷◌, ◌++◌, length, arith}
use Rattle.line_base.specs.declared.script.Told.{Told}
use Rattle.line_base.specs.Told.{entries_told, entry_of}
use Rattle.line_base.proofs.Scripts.{length_entries}
use Rattle.workload.proofs.Fetched.{told_is, replied}
use Rattle.workload.proofs.line.ShopLineLine.fetch.Goals as goal

pub invariant_of-self : goal.invariant_of-self
invariant_of-self c =
    let same : c.tell.new.log.items ≡ c.self.inside.log.items = grind arith in
    rw same c.self.invariant

pub invariant_of-self-2 : goal.invariant_of-self-2
invariant_of-self-2 c =
    let told : Told = c.in-Ok-telling.told in
    let items : List Told = c.self.inside.log.items in
    let more : entries_told c.tell.new.log.items ≡ entries_told items ++ entry_of told ∷ [] = grind arith in
    rw more (replied (entries_told items) c.args.permits.now c.args.call.now c.in-Ok.reply (entry_of told) (rw c.as_ref.ensures.value at c.in-Ok-telling.ensures) c.in-Ok.ensures c.self.invariant)

pub returns : goal.returns
returns c =
    let told : Told = c.in-Ok-telling.told in
    let items : List Told = c.self.inside.log.items in
    let after : List Told = c.tell.new.log.items in
    let more : entries_told after ≡ entries_told items ++ entry_of told ∷ [] = grind arith in
    let size : length (entries_told after) ≡ length after = length_entries after in
    let room : length (entries_told items ++ entry_of told ∷ []) < 2 ^ 64 = rw (← more) (omega (arith, size, c.tell.new.log.ok.0, c.tell.new.log.ok.1, c.tell.new.log.small)) in
    rw (c.answer.ensures, more, ← c.self.view_is)
    (told_is (entries_told items) c.args.permits.now c.args.call.now c.in-Ok.reply (entry_of told) room (rw c.as_ref.ensures.value at c.in-Ok-telling.ensures))
