use Rattle.std.proofs.Common.{◌≡◌}
use Rattle.std.specs.Prelude.{replicate, None}
use Rattle.json_value.specs.declared.tree.Json.TheVariants as json
use Rattle.cache_book.specs.declared.permit.Report.TheVariants as report
use Rattle.piece_fetch.proofs.unpack.unpack_lost.Given as goal

abbrev pub invariant-losing : goal.invariant-losing
invariant-losing l = record {
  reports : l.reports.items ≡ replicate l._i report.Failed;
  brought : l.brought.items ≡ replicate l._i (record { value = json.Null; lasts = None });
}
