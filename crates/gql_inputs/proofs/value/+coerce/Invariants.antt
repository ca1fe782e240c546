use Rattle.std.proofs.Common.{◌≡◌, ◌+◌, ◌*◌, drop}
use Rattle.json_value.proofs.tree.Json.TheLaws.{the_size as json_size}
use Rattle.gql_terms.proofs.documents.TypeRef.TheLaws.{the_size as type_size}
use Rattle.gql_inputs.proofs.Running.{ItemsRun, FieldsRun}
use Rattle.gql_inputs.proofs.Depth.{widest}
use Rattle.gql_inputs.proofs.value.+coerce.Given as goal

abbrev pub decreases-coerce_value : goal.decreases-coerce_value
decreases-coerce_value l = json_size l.value.now * (3 * widest type_size l.schema.now + 8) + (3 * type_size l.of.now + 2)

abbrev pub decreases-coerce_some : goal.decreases-coerce_some
decreases-coerce_some l = json_size l.value.now * (3 * widest type_size l.schema.now + 8) + (3 * type_size l.of.now + 1)

abbrev pub decreases-coerce_list : goal.decreases-coerce_list
decreases-coerce_list l = json_size l.value.now * (3 * widest type_size l.schema.now + 8) + (3 * type_size l.inner.now + 3)

abbrev pub decreases-coerce_items : goal.decreases-coerce_items
decreases-coerce_items l = goal.size-coerce_items l * (3 * widest type_size l.schema.now + 8) + (3 * type_size l.inner.now + 4)

abbrev pub decreases-coerce_part : goal.decreases-coerce_part
decreases-coerce_part l = json_size l.value.now * (3 * widest type_size l.schema.now + 8) + (3 * type_size l.of.now + 3)

abbrev pub decreases-coerce_named : goal.decreases-coerce_named
decreases-coerce_named l = json_size l.value.now * (3 * widest type_size l.schema.now + 8) + (1)

abbrev pub decreases-coerce_input : goal.decreases-coerce_input
decreases-coerce_input l = goal.size-coerce_input l * (3 * widest type_size l.schema.now + 8) + (3 * widest type_size l.schema.now + 6)

abbrev pub decreases-coerce_fields : goal.decreases-coerce_fields
decreases-coerce_fields l = goal.size-coerce_fields l * (3 * widest type_size l.schema.now + 8) + (3 * widest type_size l.schema.now + 5)

abbrev pub decreases-coerce_field : goal.decreases-coerce_field
decreases-coerce_field l = goal.size-coerce_field l * (3 * widest type_size l.schema.now + 8) + (3 * type_size l.field.now.of + 4)

abbrev pub invariant-coerce_fields-loop-i : goal.invariant-coerce_fields-loop-i
invariant-coerce_fields-loop-i l = record {
  run : FieldsRun l.schema l.members l.fn.spots.items l.fields (drop l.i l.fields) l.made;
  back : l.spots.items ≡ l.fn.spots.items;
}

abbrev pub invariant-coerce_items-loop-i : goal.invariant-coerce_items-loop-i
invariant-coerce_items-loop-i l = record {
  run : ItemsRun l.schema l.inner l.fn.spots.items l.items (drop l.i l.items) l.i l.made;
  back : l.spots.items ≡ l.fn.spots.items;
}
