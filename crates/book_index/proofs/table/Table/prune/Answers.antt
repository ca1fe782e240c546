use Rattle.std.proofs.Common.{ℕ, List, length, ◌≡◌, ◌∙◌, sym, ap, arith}
use Rattle.std.specs.Prelude.{nat_lt, count_by}
use Rattle.std.specs.FinMap as map
use Rattle.std.proofs.lemmas.List.Sums.{length-filter, count_by-le-length}
use Rattle.cache_terms.specs.declared.keys.Target.{Target}
use Rattle.book_index.specs.Targets.{target_cmp}
use Rattle.book_index.specs.Stamps.{Stamped, above}
use Rattle.book_index.proofs.Order.{targets_total}
use Rattle.book_index.proofs.Rows.{sorted_filter, find_above}
use Rattle.book_index.proofs.Maps.{get_sorted, len_sorted}
use Rattle.book_index.proofs.table.Table.prune.Goals as goal

pub invariant_of-self : goal.invariant_of-self
invariant_of-self c = (ap (map.is_sorted target_cmp) c.keep_above.ensures.rows ∙ sorted_filter target_cmp targets_total (λ row. nat_lt c.args.horizon row.1) c.self.inside.rows.items c.self.invariant.0, omega (arith, c.keep_above.ensures.room, c.self.invariant.1))

pub returns-clause-stamps : goal.returns-clause-stamps
returns-clause-stamps c target =
    let rows = c.self.inside.rows.items in
    ap (λ es. map.get (map.from_sorted {R = target_cmp} es) target) c.keep_above.ensures.rows
    ∙ get_sorted target_cmp _ (sorted_filter target_cmp targets_total (λ row. nat_lt c.args.horizon row.1) rows c.self.invariant.0) target
    ∙ find_above target_cmp targets_total c.args.horizon target rows c.self.invariant.0
    ∙ ap (above c.args.horizon) (sym (get_sorted target_cmp rows c.self.invariant.0 target) ∙ ap (λ s. map.get s.stamps target) c.self.view_is)

pub returns-clause-few : goal.returns-clause-few
returns-clause-few c =
    let rows : List (Target × ℕ) = c.self.inside.rows.items in
    let new : map.len (map.from_sorted {R = target_cmp} c.keep_above.new.rows.items) ≡ length c.keep_above.new.rows.items = len_sorted target_cmp c.keep_above.new.rows.items (invariant_of-self c).0 in
    let old : map.len (map.from_sorted {R = target_cmp} rows) ≡ length rows = len_sorted target_cmp rows c.self.invariant.0 in
    let seen : map.len (map.from_sorted {R = target_cmp} rows) ≡ map.len c.args.self.now.stamps = ap (λ (s : Stamped). map.len s.stamps) c.self.view_is in
    let kept : length c.keep_above.new.rows.items ≡ count_by (λ row. nat_lt c.args.horizon row.1) rows = ap length c.keep_above.ensures.rows ∙ length-filter (λ row. nat_lt c.args.horizon row.1) rows in
    omega (arith, new, old, seen, kept, count_by-le-length (λ row. nat_lt c.args.horizon row.1) rows)
