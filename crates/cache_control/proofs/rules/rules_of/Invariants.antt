use Rattle.std.proofs.Common.{length}
use Rattle.std.specs.Option.{option_map}
use Rattle.cache_control.specs.Reading.{directives_of}
use Rattle.cache_control.specs.Counting.{no_rules, with_directives}
use Rattle.cache_control.proofs.Steps.{Holds}
use Rattle.cache_control.proofs.rules.rules_of.Given as goal

abbrev pub invariant-loop-element : goal.invariant-loop-element
invariant-loop-element l = Holds (option_map (with_directives no_rules) (directives_of l.text)) l.rules l.rest

abbrev pub decreases-loop-element : goal.decreases-loop-element
decreases-loop-element l = length l.rest
