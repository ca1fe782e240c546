use Rattle.std.proofs.Common.{◌≡◌, sym, ◌∙◌, ap, None, Some, List, ℕ, ◌++◌, ◌∷◌, [], rules, true, false}
use Rattle.json_value.specs.declared.tree.Json.{Json}
use Rattle.merge_paths.specs.Taking.{taken_back}
use Rattle.merge_paths.proofs.Taken.{indexed_last}
use Rattle.merge_paths.proofs.others.Others.index_last.Goals as goal

pub returns-clause-same : goal.returns-clause-same
returns-clause-same c = indexed_last c.args.self.now.listed c.pop.new.self c.args.self.now.names.keys c.insert.new.self.keys c.args.self.now.values.items c.push-2.new.self.items c.in-Some.name c.in-Some.value
    c.in-Some.ensures (sym c.contains.ensures ∙ c.if-contains.false) c.in_ok-insert.ensures.keys c.in_ok-push-2.ensures.items c.requires.long
