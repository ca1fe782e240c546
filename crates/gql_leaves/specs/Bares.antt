-- A type without its non-null mark.
use Rattle.std.specs.Prelude.{ℕ, Bool, true, false, List}
use Rattle.gql_terms.specs.declared.documents.TypeRef.{TypeRef, out-TypeRef, para-TypeRef}
use Rattle.gql_terms.specs.declared.documents.TypeRef.TheOpen.{TypeRef-F}
use Rattle.gql_leaves.specs.declared.bare.Bare as code
use Rattle.gql_leaves.specs.declared.bare.Bare.TheVariants as shows

pub data Bare : Type 0 where
  named : List ℕ → Bare
  list_of : TypeRef → Bare

abbrev pub bare_step : TypeRef-F (TypeRef × Bare) → Bare
bare_step (TypeRef-F.Named name) = named name
bare_step (TypeRef-F.ListOf t) = list_of t.0
bare_step (TypeRef-F.NonNull t) = t.1

abbrev pub bare : TypeRef → Bare
bare = para-TypeRef Bare bare_step

abbrev pub is_required_at : TypeRef-F TypeRef → Bool
is_required_at (TypeRef-F.NonNull t) = true
is_required_at _ = false

abbrev pub is_required : TypeRef → Bool
is_required of = is_required_at (out-TypeRef of)

-- what the code answers
abbrev pub shown : code.Bare → Bare
shown (shows.Named name) = named name.now
shown (shows.ListOf t) = list_of t.now
