-- What a selection comes to, by what was found of it.
use Rattle.std.proofs.Common.{◌≡◌, ℕ, true, false, List, Option, Some, None}
use Rattle.gql_terms.specs.declared.documents.Value.{Value}
use Rattle.gql_terms.specs.declared.documents.Directive.{Directive}
use Rattle.gql_terms.specs.declared.documents.Selection.{Selection}
use Rattle.gql_terms.specs.declared.documents.Selection.TheVariants as selection
use Rattle.gql_terms.specs.declared.documents.Fragment.{Fragment}
use Rattle.gql_types.specs.Schemas.{is_among, implements_or_is}
use Rattle.gql_shape.specs.Terms.{Scope, Collection}
use Rattle.gql_shape.specs.Collecting.{is_left_out, key_of, applies, fragment_named, spread_standing, standing, with_field, with_spread, Collects, CollectsOne, nothing, takes_field, within, spreads}

module _ (s : Scope) (type_name : List ℕ) (c d : Collection) (x : Selection) (directives : List Directive) where
  pub no_field : (alias : Option (List ℕ)) (name : List ℕ) (arguments : List (List ℕ × Value)) (xs : List Selection) →
      x ≡ selection.Field alias name arguments directives xs → is_left_out s.variables directives ≡ true → CollectsOne s type_name (standing s type_name c.seen x) c c
  no_field alias name arguments xs is out = rw (is, selection.outs-Field alias name arguments directives xs, out) nothing

  pub a_field : (alias : Option (List ℕ)) (name : List ℕ) (arguments : List (List ℕ × Value)) (xs : List Selection) →
      x ≡ selection.Field alias name arguments directives xs → is_left_out s.variables directives ≡ false →
      d ≡ with_field (record { key = key_of alias name; name = name; selections = xs }) c → CollectsOne s type_name (standing s type_name c.seen x) c d
  a_field alias name arguments xs is stays added = rw (is, selection.outs-Field alias name arguments directives xs, stays, added) takes_field

  pub no_spread : (name : List ℕ) → x ≡ selection.Spread name directives → is_left_out s.variables directives ≡ true → CollectsOne s type_name (standing s type_name c.seen x) c c
  no_spread name is out = rw (is, selection.outs-Spread name directives, out) nothing

  pub seen_spread : (name : List ℕ) → x ≡ selection.Spread name directives → is_left_out s.variables directives ≡ false → is_among c.seen name ≡ true →
      CollectsOne s type_name (standing s type_name c.seen x) c c
  seen_spread name is stays seen = rw (is, selection.outs-Spread name directives, stays, seen) nothing

  pub a_spread : (name : List ℕ) → x ≡ selection.Spread name directives → is_left_out s.variables directives ≡ false → is_among c.seen name ≡ false →
      CollectsOne s type_name (spread_standing s type_name name (fragment_named name s.fragments)) c d → CollectsOne s type_name (standing s type_name c.seen x) c d
  a_spread name is stays new takes = rw (is, selection.outs-Spread name directives, stays, new) takes

  pub no_inline : (on : Option (List ℕ)) (xs : List Selection) → x ≡ selection.Inline on directives xs → is_left_out s.variables directives ≡ true →
      CollectsOne s type_name (standing s type_name c.seen x) c c
  no_inline on xs is out = rw (is, selection.outs-Inline on directives xs, out) nothing

  pub other_inline : (on : Option (List ℕ)) (xs : List Selection) → x ≡ selection.Inline on directives xs → is_left_out s.variables directives ≡ false →
      applies s type_name on ≡ false → CollectsOne s type_name (standing s type_name c.seen x) c c
  other_inline on xs is stays other = rw (is, selection.outs-Inline on directives xs, stays, other) nothing

  pub an_inline : (on : Option (List ℕ)) (xs : List Selection) → x ≡ selection.Inline on directives xs → is_left_out s.variables directives ≡ false →
      applies s type_name on ≡ true → Collects s type_name xs c d → CollectsOne s type_name (standing s type_name c.seen x) c d
  an_inline on xs is stays this collects = rw (is, selection.outs-Inline on directives xs, stays, this) (within collects)

module _ (s : Scope) (type_name name : List ℕ) (c d : Collection) where
  pub no_fragment : fragment_named name s.fragments ≡ None → CollectsOne s type_name (spread_standing s type_name name (fragment_named name s.fragments)) c c
  no_fragment is = rw is nothing

  pub other_fragment : (f : Fragment) → fragment_named name s.fragments ≡ Some f → implements_or_is s.schema type_name f.on ≡ false →
      CollectsOne s type_name (spread_standing s type_name name (fragment_named name s.fragments)) c c
  other_fragment f is other = rw (is, other) nothing

  pub a_fragment : (f : Fragment) → fragment_named name s.fragments ≡ Some f → implements_or_is s.schema type_name f.on ≡ true →
      Collects s type_name f.selections (with_spread name c) d → CollectsOne s type_name (spread_standing s type_name name (fragment_named name s.fragments)) c d
  a_fragment f is this collects = rw (is, this) (spreads collects)
