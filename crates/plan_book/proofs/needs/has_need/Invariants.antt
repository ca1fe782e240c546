use Rattle.std.proofs.Common.{◌≡◌, drop, map}
use Rattle.std.specs.List.{list_any}
use Rattle.std.specs.Str.{bytes_eq}
use Rattle.plan_book.specs.Forms.{need_name}
use Rattle.plan_book.proofs.needs.has_need.Given as goal

abbrev pub invariant-loop-i : goal.invariant-loop-i
invariant-loop-i l = list_any (bytes_eq l.name) (map need_name (drop l.i l.needs)) ≡ list_any (bytes_eq l.name) (map need_name l.needs)
