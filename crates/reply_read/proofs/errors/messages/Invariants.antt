use Rattle.std.proofs.Common.{◌≡◌, take, map}
use Rattle.reply_read.specs.Errors.{message}
use Rattle.reply_read.proofs.errors.messages.Given as goal

abbrev pub invariant-loop-error : goal.invariant-loop-error
invariant-loop-error l = l.texts.items ≡ map message (take l.error-index l.errors)
