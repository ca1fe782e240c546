-- What lies outside a run: what can be read, what was written, and how often either failed.
use Rattle.std.specs.Prelude.{ℕ, List, Option}

-- a source: the bytes that are left, where it tells them, and how often it has failed
pub record Input : Type 0 where
  pub left : Option (List ℕ)
  pub faults : ℕ

-- a sink: the bytes that were written, where it tells them, and how often it has failed
pub record Output : Type 0 where
  pub written : Option (List ℕ)
  pub faults : ℕ

-- what a run finds of source and sink, or leaves
pub record Outside : Type 0 where
  pub input : Input
  pub output : Output

abbrev pub input : Option (List ℕ) → ℕ → Input
input left faults = record { left = left; faults = faults }

abbrev pub output : Option (List ℕ) → ℕ → Output
output written faults = record { written = written; faults = faults }

abbrev pub outside : Input → Output → Outside
outside i o = record { input = i; output = o }
