-- The order of targets is total, and targets that compare alike are one.
use Rattle.std.proofs.Common.{sym, ap, ◌∙◌}
use Rattle.std.specs.Cmp.{IsTotalOrder}
use Rattle.std.specs.Ordering.{nat_cmp, ordering_then}
use Rattle.std.specs.Cmp.Lexicographic.{slice_cmp, nat_list_cmp_total}
use Rattle.std.proofs.lemmas.Cmp.{on_total, then_total, nat_cmp_total}
use Rattle.std.proofs.lemmas.Map.Lookups.{CmpEqualImpliesEq, exact_pairs, exact_unsigned, exact_bytes}
use Rattle.book_index.specs.Targets.{subgraph_of, kind_of, name_of, target_cmp, parts, target_of, target_of-parts}

pub targets_total : IsTotalOrder target_cmp
targets_total = then_total (on_total subgraph_of nat_list_cmp_total) (then_total (on_total kind_of nat_cmp_total) (on_total name_of nat_list_cmp_total))

pub targets_exact : CmpEqualImpliesEq target_cmp
targets_exact a b h =
    sym (target_of-parts a)
    ∙ ap target_of (exact_pairs (slice_cmp nat_cmp) (λ x y. ordering_then (nat_cmp x.0 y.0) (slice_cmp nat_cmp x.1 y.1)) exact_bytes (exact_pairs nat_cmp (slice_cmp nat_cmp) exact_unsigned exact_bytes) (parts a) (parts b) h)
    ∙ target_of-parts b
