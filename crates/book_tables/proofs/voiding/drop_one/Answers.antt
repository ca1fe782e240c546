use Rattle.std.proofs.Common.{◌≡◌, ◌∙◌, ℕ, List, true, get_or, length, ◌+◌, Some, None, ap, sym, subst}
use Rattle.std.specs.Prelude.{nat_eq}
use Rattle.std.specs.List.{list_any}
use Rattle.cache_model.specs.Journal.{Kept, kept_at}
use Rattle.book_index.specs.Positions.{SetsKey}
use Rattle.book_index.specs.Under.{is_under}
use Rattle.book_tables.specs.Refs.{kept_seen, kept_shown}
use Rattle.book_tables.proofs.Covering.{first_under, there_is, covered_at, keyed_rest, one_less}
use Rattle.book_tables.proofs.voiding.drop_one.Goals as goal

pub unwrap-kept-requires : goal.unwrap-kept-requires
unwrap-kept-requires c =
    let q : ℕ = get_or c.under.result.now 0 0 in
    let at : is_under c.args.holders.now c.args.target.now (get_or c.under.result.now 0 0) ≡ true = subst (λ l. list_any (nat_eq (get_or c.under.result.now 0 0)) l ≡ true) c.under.ensures.positions (first_under c.under.result.now 0 (rw c.under.ensures.positions c.requires.some)) in
    let r = c.requires.targeted.forth c.args.target.now (get_or c.under.result.now 0 0) at in
    there_is c.kept_in.result (r.0) (c.kept_in.ensures ∙ r.1.0.kept)

pub returns-clause-keyed : goal.returns-clause-keyed
returns-clause-keyed c =
    let J = c.args.events.now in
    let target = c.args.target.now in
    let old = c.args.holders.now in
    let k : Kept = kept_shown c.unwrap-kept.result in
    let at : is_under c.args.holders.now c.args.target.now (get_or c.under.result.now 0 0) ≡ true = subst (λ l. list_any (nat_eq (get_or c.under.result.now 0 0)) l ≡ true) c.under.ensures.positions (first_under c.under.result.now 0 (rw c.under.ensures.positions c.requires.some)) in
    let kept : kept_at c.args.events.now (get_or c.under.result.now 0 0) ≡ Some (kept_shown c.unwrap-kept.result) = sym c.kept_in.ensures ∙ ap kept_seen c.unwrap-kept.ensures in
    let there = covered_at J target old (get_or c.under.result.now 0 0) k c.requires.targeted at kept in
    let set : SetsKey c.args.keys.now c.remove.new.self k.key k.scope None = rw (← c.scope.ensures) c.remove.ensures.removed in
    keyed_rest J target old c.remove-2.new.self (get_or c.under.result.now 0 0) k there.0 there.1 c.remove-2.ensures c.args.keys.now c.remove.new.self c.requires.keyed set

pub returns-clause-fewer : goal.returns-clause-fewer
returns-clause-fewer c =
    let J = c.args.events.now in
    let target = c.args.target.now in
    let old = c.args.holders.now in
    let k : Kept = kept_shown c.unwrap-kept.result in
    let at : is_under c.args.holders.now c.args.target.now (get_or c.under.result.now 0 0) ≡ true = subst (λ l. list_any (nat_eq (get_or c.under.result.now 0 0)) l ≡ true) c.under.ensures.positions (first_under c.under.result.now 0 (rw c.under.ensures.positions c.requires.some)) in
    let kept : kept_at c.args.events.now (get_or c.under.result.now 0 0) ≡ Some (kept_shown c.unwrap-kept.result) = sym c.kept_in.ensures ∙ ap kept_seen c.unwrap-kept.ensures in
    let there = covered_at J target old (get_or c.under.result.now 0 0) k c.requires.targeted at kept in
    ap (λ (l : List ℕ). length l + 1) c.under-2.ensures.positions ∙ one_less J target old c.remove-2.new.self (get_or c.under.result.now 0 0) k there.0 there.1 c.remove-2.ensures c.requires.targeted
    (rw (← c.under.ensures.positions) c.under.ensures.once) (rw (← c.under-2.ensures.positions) c.under-2.ensures.once) at
