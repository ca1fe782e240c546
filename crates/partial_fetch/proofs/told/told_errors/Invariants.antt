use Rattle.std.proofs.Common.{◌≡◌, take, map}
use Rattle.partial_fetch.specs.Answering.{told_error}
use Rattle.partial_fetch.proofs.told.told_errors.Given as goal

abbrev pub invariant-loop-error : goal.invariant-loop-error
invariant-loop-error l = l.told.items ≡ map (told_error l.rules) (take l.error-index l.errors)
