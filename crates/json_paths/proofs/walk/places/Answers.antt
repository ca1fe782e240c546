use Rattle.std.proofs.Common.{rules}
use Rattle.json_paths.proofs.Found.{exact_of}
use Rattle.json_paths.proofs.walk.places.Goals as goal

pub returns-clause-exact : goal.returns-clause-exact
returns-clause-exact c = exact_of c.walk.new.found.items c.args.value.now c.args.path.now (search rules)
