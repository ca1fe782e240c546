use Rattle.std.proofs.Common.{◌≡◌, sym, ◌∙◌, ap, None, Some, List, ℕ, ◌++◌, rules}
use Rattle.json_value.specs.declared.tree.Json.{Json}
use Rattle.json_value.specs.Members.{named}
use Rattle.merge_paths.specs.Merge.{without}
use Rattle.merge_paths.specs.Taking.{taken_back}
use Rattle.merge_paths.proofs.Progress.{without-absent}
use Rattle.merge_paths.proofs.Taken.{named-found, named-passed, without-found, without-passed}
use Rattle.merge_paths.proofs.others.Others.take.Goals as goal

pub returns-in-Some-clause-value : goal.returns-in-Some-clause-value
returns-in-Some-clause-value c =
    let found : named c.args.name.now c.args.self.now.listed ≡ Some c.in-Some.value = sym (rw c.as_str.ensures at c.in-Some.ensures.value) in
    sym (named-found c.args.name.now c.args.self.now.listed (taken_back c.args.self.now.names.keys c.args.self.now.values.items) c.in-Some.value found)

pub returns-in-Some-clause-rest : goal.returns-in-Some-clause-rest
returns-in-Some-clause-rest c =
    let found : named c.args.name.now c.args.self.now.listed ≡ Some c.in-Some.value = sym (rw c.as_str.ensures at c.in-Some.ensures.value) in
    let rest : c.take_listed.new.listed ≡ without c.args.name.now c.args.self.now.listed = rw c.as_str.ensures at c.in-Some.ensures.rest in
    ap (λ ms. ms ++ taken_back c.args.self.now.names.keys c.args.self.now.values.items) rest
    ∙ sym (without-found c.args.name.now c.args.self.now.listed (taken_back c.args.self.now.names.keys c.args.self.now.values.items) c.in-Some.value found)

pub returns-clause-value : goal.returns-clause-value
returns-clause-value c =
    let absent : named c.args.name.now c.args.self.now.listed ≡ None = sym (rw c.as_str.ensures at c.in_default.ensures.value) in
    c.take_indexed.ensures.value ∙ sym (named-passed c.args.name.now c.args.self.now.listed (taken_back c.args.self.now.names.keys c.args.self.now.values.items) absent)

pub returns-clause-rest : goal.returns-clause-rest
returns-clause-rest c =
    let absent : named c.args.name.now c.args.self.now.listed ≡ None = sym (rw c.as_str.ensures at c.in_default.ensures.value) in
    let rest : c.take_listed.new.listed ≡ without c.args.name.now c.args.self.now.listed = rw c.as_str.ensures at c.in_default.ensures.rest in
    ap (λ ms. ms ++ taken_back c.args.self.now.names.keys c.take_indexed.new.values.items) (rest ∙ without-absent c.args.name.now c.args.self.now.listed absent)
    ∙ ap (λ ms. c.args.self.now.listed ++ ms) c.take_indexed.ensures.rest
    ∙ sym (without-passed c.args.name.now c.args.self.now.listed (taken_back c.args.self.now.names.keys c.args.self.now.values.items) absent)
