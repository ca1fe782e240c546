-- What holds of texts and of their faults.
use Rattle.std.specs.Prelude.{◌≡◌, ◌≢◌, ℕ, List}
use Rattle.json_value.specs.declared.fault.JsonFault.{JsonFault}
use Rattle.json_value.specs.declared.fault.JsonFault.TheVariants as fault
use Rattle.json_faults.specs.Faults.{Explains}

-- What explains why a text was not read explains it by one fault, at one place.
abbrev pub JsonTextsHaveOneFault : Type 0
JsonTextsHaveOneFault = (bytes : List ℕ) (f g : JsonFault) → f ≢ fault.Memory → g ≢ fault.Memory → Explains bytes f → Explains bytes g → f ≡ g
