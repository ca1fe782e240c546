-- What is under the marks, by the variants.
use Rattle.std.proofs.Common.{◌≡◌, ℕ, List, sym, ap, ◌∙◌}
use Rattle.gql_terms.specs.declared.documents.TypeRef.{TypeRef}
use Rattle.gql_terms.specs.declared.documents.TypeRef.TheVariants as type_ref
use Rattle.gql_terms.specs.declared.documents.TypeRef.TheOpen.{TypeRef-F}
use Rattle.gql_terms.specs.declared.documents.TypeRef.TheFolds.{para-roll-TypeRef}
use Rattle.gql_leaves.specs.Bares.{Bare, named, list_of, bare, bare_step}

pub bare-Named : (name : List ℕ) → bare (type_ref.Named name) ≡ named name
bare-Named name = ap bare (sym (type_ref.rolls-Named name)) ∙ para-roll-TypeRef Bare bare_step (TypeRef-F.Named name)

pub bare-ListOf : (t : TypeRef) → bare (type_ref.ListOf t) ≡ list_of t
bare-ListOf t = ap bare (sym (type_ref.rolls-ListOf t)) ∙ para-roll-TypeRef Bare bare_step (TypeRef-F.ListOf t)

pub bare-NonNull : (t : TypeRef) → bare (type_ref.NonNull t) ≡ bare t
bare-NonNull t = ap bare (sym (type_ref.rolls-NonNull t)) ∙ para-roll-TypeRef Bare bare_step (TypeRef-F.NonNull t)
