use Rattle.std.proofs.Common.{◌≡◌, ◌∙◌, ap, sym, List, Some, None}
use Rattle.std.specs.Prelude.{slice_get}
use Rattle.std.specs.Option.{option_map}
use Rattle.gql_types.specs.declared.definition.FieldDef.{FieldDef}
use Rattle.gql_types.specs.Index.{first_place, names_in}
use Rattle.gql_types.specs.Schemas.{fields_of}
use Rattle.gql_types.proofs.Standing.{no_field_in, field_in}
use Rattle.gql_types.proofs.indexed_type.IndexedType.field.Goals as goal

pub returns-in_err-place : goal.returns-in_err-place
returns-in_err-place c =
    let none : first_place 0 c.args.name.now (names_in c.args.self.now.definition.body) ≡ None = sym (c.args.self.now.names_found c.args.name.now) ∙ sym c.in_err-place.ensures.value in
    rw c.from_residual.ensures (sym (no_field_in c.args.name.now c.args.self.now.definition.body none))

pub returns-in_err-field : goal.returns-in_err-field
returns-in_err-field c =
    let place : first_place 0 c.args.name.now (names_in c.args.self.now.definition.body) ≡ Some c.in_ok-place.place.now = sym (c.args.self.now.names_found c.args.name.now) ∙ sym c.in_ok-place.ensures.value in
    let none : slice_get (fields_of c.args.self.now.definition.body) c.in_ok-place.place.now ≡ None = sym (ap (λ (fs : List FieldDef). slice_get fs c.in_ok-place.place.now) c.fields_in.ensures) ∙ sym c.in_err-field.ensures in
    rw c.from_residual-in_err-field.ensures (sym (ap (option_map (λ (f : FieldDef). f.of)) none) ∙ field_in c.args.name.now c.args.self.now.definition.body c.in_ok-place.place.now place)

pub returns : goal.returns
returns c =
    let place : first_place 0 c.args.name.now (names_in c.args.self.now.definition.body) ≡ Some c.in_ok-place.place.now = sym (c.args.self.now.names_found c.args.name.now) ∙ sym c.in_ok-place.ensures.value in
    let there : Some c.in_ok-field.field.now ≡ slice_get (fields_of c.args.self.now.definition.body) c.in_ok-place.place.now = c.in_ok-field.ensures ∙ ap (λ (fs : List FieldDef). slice_get fs c.in_ok-place.place.now) c.fields_in.ensures in
    ap (option_map (λ (f : FieldDef). f.of)) there ∙ field_in c.args.name.now c.args.self.now.definition.body c.in_ok-place.place.now place
