use Rattle.std.proofs.Common.{◌≡◌, sym, ◌∙◌, ap, None, Some, rules}
use Rattle.json_value.specs.declared.tree.Json.{Json}
use Rattle.json_value.specs.Members.{named}
use Rattle.merge_paths.specs.Merge.{without, IsFirstNamed}
use Rattle.merge_paths.proofs.Progress.{without-absent, first_within, first_named_is, first_without}
use Rattle.merge_paths.proofs.others.take_listed.Goals as goal

pub returns-in_default-clause-rest : goal.returns-in_default-clause-rest
returns-in_default-clause-rest c =
    let absent : named c.args.name.now c.args.listed.now ≡ None = search rules in
    sym (without-absent c.args.name.now c.args.listed.now absent)

pub remove-value-requires : goal.remove-value-requires
remove-value-requires c =
    let one : IsFirstNamed c.args.name.now c.args.listed.now c.in-Some.index = search rules in
    first_within c.args.name.now c.args.listed.now c.in-Some.index one

pub returns-clause-value : goal.returns-clause-value
returns-clause-value c =
    let one : IsFirstNamed c.args.name.now c.args.listed.now c.in-Some.index = search rules in
    let item = c.remove-value.ensures.item in
    let here = one.here in
    let same : one.member ≡ c.remove-value.result = cc in
    ap (λ v. Some v.1) (sym same) ∙ sym (first_named_is c.args.name.now c.args.listed.now c.in-Some.index one)

pub returns-clause-rest : goal.returns-clause-rest
returns-clause-rest c =
    let one : IsFirstNamed c.args.name.now c.args.listed.now c.in-Some.index = search rules in
    c.remove-value.ensures.rest ∙ sym (first_without c.args.name.now c.args.listed.now c.in-Some.index one)
