use Rattle.std.proofs.Common.{◌≡◌, ◌∙◌, ap, sym, List, Some, None, map}
use Rattle.std.specs.Prelude.{slice_get}
use Rattle.std.specs.Option.{option_map}
use Rattle.gql_types.specs.declared.definition.TypeDef.{TypeDef}
use Rattle.gql_types.specs.declared.indexed_type.IndexedType.{IndexedType}
use Rattle.gql_types.specs.Index.{first_place, type_def_name}
use Rattle.gql_types.specs.Finding.{definition_of, body_in}
use Rattle.gql_types.specs.Schemas.{body_of}
use Rattle.gql_types.proofs.Standing.{no_body, body_at, body_got}
use Rattle.gql_types.proofs.schema.Schema.find.Goals as goal

pub returns-in_err-place : goal.returns-in_err-place
returns-in_err-place c =
    let none : first_place 0 c.args.name.now (map type_def_name (map definition_of c.self.inside.types.items)) ≡ None = sym (c.self.invariant c.args.name.now) ∙ sym c.in_err-place.ensures.value in
    rw c.from_residual.ensures (sym (no_body c.args.name.now (map definition_of c.self.inside.types.items) none) ∙ ap (λ (ts : List TypeDef). body_of ts c.args.name.now) c.self.view_is)

pub returns : goal.returns
returns c =
    let place : first_place 0 c.args.name.now (map type_def_name (map definition_of c.self.inside.types.items)) ≡ Some c.in_ok-place.place.now = sym (c.self.invariant c.args.name.now) ∙ sym c.in_ok-place.ensures.value in
    ap (option_map body_in) (c.at.ensures ∙ ap (λ (ts : List IndexedType). slice_get ts c.in_ok-place.place.now) c.deref.ensures.value)
    ∙ body_got c.self.inside.types.items c.in_ok-place.place.now
    ∙ body_at c.args.name.now (map definition_of c.self.inside.types.items) c.in_ok-place.place.now place
    ∙ ap (λ (ts : List TypeDef). body_of ts c.args.name.now) c.self.view_is
