-- What holds of the faults of texts.
use Rattle.std.specs.Prelude.{◌≡◌, ◌≢◌, ℕ, List}
use Rattle.gql_terms.specs.declared.faults.GqlFault.{GqlFault}
use Rattle.gql_terms.specs.declared.faults.GqlFault.TheVariants.{Memory}
use Rattle.gql_parser.specs.Faults.{Explains}

-- A text has one fault at most, want of memory apart.
abbrev pub TextsHaveOneFault : Type 0
TextsHaveOneFault = (text : List ℕ) (f g : GqlFault) → f ≢ Memory → g ≢ Memory
    → Explains text f → Explains text g → f ≡ g
