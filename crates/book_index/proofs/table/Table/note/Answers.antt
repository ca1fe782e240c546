use Rattle.std.proofs.Common.{◌+◌, ◌<◌, ◌≤◌, ◌∙◌, sym, ap, subst, arith}
use Rattle.std.specs.FinMap as map
use Rattle.book_index.specs.Targets.{target_cmp}
use Rattle.book_index.specs.Stamps.{Positions, Stamped, noted}
use Rattle.book_index.proofs.Order.{targets_total}
use Rattle.book_index.proofs.Maps.{len_sorted, sorted_put, insert_sorted, len_insert}
use Rattle.book_index.proofs.table.Table.note.Goals as goal

pub put_row-requires-clause-room : goal.put_row-requires-clause-room
put_row-requires-clause-room c =
    let free : map.len (map.from_sorted {R = target_cmp} c.self.inside.rows.items) < c.self.inside.limit = subst (λ (s : Stamped). map.len s.stamps < s.limit) (sym c.self.view_is) c.requires in
    omega (arith, free, c.self.inside.rows.ok.0, len_sorted target_cmp c.self.inside.rows.items c.self.invariant.0, c.self.invariant.1)

pub invariant_of-self : goal.invariant_of-self
invariant_of-self c = (ap (map.is_sorted target_cmp) c.put_row.ensures.rows ∙ sorted_put target_cmp targets_total c.self.inside.rows.items c.self.invariant.0 c.args.target c.args.position, omega (arith, c.put_row.ensures.room, c.self.invariant.1))

pub returns-clause-noted : goal.returns-clause-noted
returns-clause-noted c =
    let with : Positions → Stamped = λ m. record { limit = c.self.inside.limit; probes = c.self.inside.steps; stamps = m } in
    ap with (ap map.from_sorted c.put_row.ensures.rows ∙ insert_sorted target_cmp targets_total c.self.inside.rows.items c.self.invariant.0 c.args.target c.args.position)
    ∙ ap (λ s. noted s c.args.target c.args.position) c.self.view_is

pub returns-clause-few : goal.returns-clause-few
returns-clause-few c = subst (λ (s : Stamped). map.len s.stamps ≤ map.len c.args.self.now.stamps + 1) (sym (returns-clause-noted c)) (len_insert target_cmp targets_total c.args.self.now.stamps c.args.target c.args.position)
