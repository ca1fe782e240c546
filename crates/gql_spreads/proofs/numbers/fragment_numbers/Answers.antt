use Rattle.std.proofs.Common.{ℕ, ◌+◌, List, take, get_or, Some, sym, ap, subst, ◌∙◌, rules}
use Rattle.std.specs.Ordering.{nat_cmp}
use Rattle.std.specs.Cmp.Lexicographic.{slice_cmp}
use Rattle.std.specs.BTreeMap.{BTreeMap, Updates}
use Rattle.gql_terms.specs.declared.documents.Fragment.{Fragment}
use Rattle.gql_spreads.specs.Numbers.{AreNumbers, number_in}
use Rattle.gql_spreads.proofs.Naming.{number_added, number_kept, absent, present}
use Rattle.gql_spreads.proofs.numbers.fragment_numbers.Goals as goal
use Rattle.gql_spreads.proofs.numbers.fragment_numbers.Goals.{then-not-contains_key+in_ok-copy+in_ok-add_number, else-not-contains_key}

pub loop-i-preserved : goal.loop-i-preserved
loop-i-preserved c = elim c.if-not-contains_key.branch [
  | then-not-contains_key+in_ok-copy+in_ok-add_number w ↦ subst (λ (q : BTreeMap (List ℕ) ℕ). AreNumbers (take (c.loop-i.i + 1) c.args.fragments.now) q) (sym w.numbers-is)
      (number_added c.args.fragments.now c.loop-i.i c.index-fragments-i.result c.loop-i.numbers w.add_number.new.numbers c.loop-i-test.true c.index-fragments-i.is c.loop-i.invariant
      (ap (λ (f : Fragment). number_in c.loop-i.numbers f.name) c.index-fragments-i.is
      ∙ absent (number_in c.loop-i.numbers (get_or c.args.fragments.now c.loop-i.i c.index-fragments-i.result).name) c.contains_key.result c.contains_key.ensures (search rules))
      (subst (λ (q : List ℕ). Updates (λ a b. slice_cmp nat_cmp a b) c.loop-i.numbers w.add_number.new.numbers q (Some c.loop-i.i)) (w.in_ok-copy.ensures ∙ ap (λ (f : Fragment). f.name) (sym c.index-fragments-i.is)) w.in_ok-add_number.ensures))
  | else-not-contains_key w ↦ subst (λ (q : BTreeMap (List ℕ) ℕ). AreNumbers (take (c.loop-i.i + 1) c.args.fragments.now) q) (sym w.numbers-is)
      (let there = present (number_in c.loop-i.numbers (get_or c.args.fragments.now c.loop-i.i c.index-fragments-i.result).name) c.contains_key.result c.contains_key.ensures (search rules) in
      number_kept c.args.fragments.now c.loop-i.i c.index-fragments-i.result c.loop-i.numbers there.0 c.loop-i-test.true c.index-fragments-i.is c.loop-i.invariant (ap (λ (f : Fragment). number_in c.loop-i.numbers f.name) c.index-fragments-i.is ∙ there.1))
]
