-- Serves private clauses and proofs alone: the parts that the code reads, as the definitions have them.
use Rattle.std.specs.Prelude.{List, [], ◌∷◌, Option, None, Some}
use Rattle.std.specs.Option.{option_copied}
use Rattle.cache_control.specs.declared.read.Directive.{Directive as Part}
use Rattle.cache_control.specs.declared.read.Taken.{Taken as TakenPart}
use Rattle.cache_control.specs.declared.read.Element.{Element as ElementPart}
use Rattle.cache_control.specs.Grammar.{Directive}
use Rattle.cache_control.specs.Reading.{Taken, Element}

abbrev pub seen_directive : Part → Directive
seen_directive part = record { name = part.name.now; argument = option_copied part.argument }

abbrev pub seen_directives : Option Part → List Directive
seen_directives None = []
seen_directives (Some part) = seen_directive part ∷ []

abbrev pub seen_taken : TakenPart → Taken
seen_taken taken = record { value = taken.value.now; rest = taken.rest.now }

abbrev pub seen_element : ElementPart → Element
seen_element element = record { directives = seen_directives element.directive; rest = element.rest.now }
