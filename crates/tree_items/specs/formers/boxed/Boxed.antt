-- How a `Boxed` keeps its value, so that a type may lead back to itself through it: as that value itself, which stands
-- behind the pointer of its one field, a `Box`.
use mathlib.Core.Path.{refl}
use mathlib.Core.Former.{Former, this, const, pair, via}
use base.Stored.{gnil}
use base.Fml.{ftrue}
use denote.RattleType.{RattleType}
use denote.RawPtr.{Ptr}
use denote.Memory.{part_of}
use denote.Sharing.{nothing}
use denote.HoleLaws.{Alike}
use denote.HolePlaces.{Recodes, struct_places, laid, one_value}
use denote.Hole.Fix.{over}
use denote.Model.Placed.{view_places}
use denote.Param.Weighed.{Weighed}
use Rattle.std.specs.declared.boxed.Box.{Box}
use Rattle.std.specs.contracts.boxed.Box as box
use Rattle.std.specs.declared.alloc.Global.{Global}
use Rattle.std.specs.contracts.alloc.Global as global
use Rattle.std.specs.contracts.impls.GlobalAllocator.TheImpl.{ghosts}
use Rattle.tree_items.specs.declared.boxed.Boxed.TheInside.{Inside}
use Rattle.tree_items.specs.declared.boxed.Boxed.TheView.{view, invariant}
use Rattle.tree_items.specs.contracts.boxed.Boxed as outer
use Rattle.tree_items.specs.contracts.boxed.Boxed.TheInside as inner

abbrev pub the_former : Former {0} → Former {0}
the_former g = g

abbrev pub the_weighed : {g : Former {0}} → Weighed g → Weighed (the_former g)
the_weighed w = w

-- the box at this place, with this value
abbrev boxed_at : {X : Type 0} → Ptr × Global → X → Box X Global
boxed_at place x = record { ptr = place.0; alloc = place.1; value = x }

abbrev with_value : {X Y : Type 0} → Box X Global → Y → Box Y Global
with_value b y = boxed_at (b.ptr, b.alloc) y

-- the field: where the value stands, and the value
abbrev held : Former {0}
held = via (pair (const (Ptr × Global)) this) Inside (λ X i. ((i.held.ptr, i.held.alloc), i.held.value))
    (λ X v. record { held = boxed_at v.0 v.1 }) (λ X i. refl) (λ X v. refl)

abbrev box_row : RattleType → RattleType
box_row R = box.the_row R global.the_row ghosts

module _ (R R' : RattleType) (h : R.Denot → R'.Denot) where
  -- a box owns and lends what its value does
  box_places : Alike R R' h → Alike (box_row R) (box_row R') (λ b. with_value b (h b.value))
  unfolding part_of
  box_places a = record {
    mir_same = λ i. (box_row (one_value R (a.mir_same i) (λ _. ftrue) (λ _ _. nothing) gnil)).mir;
    own_same = λ b i. (box_row (one_value R (a.mir_same i) (a.own_same b.value i) (a.shr_same b.value i) gnil)).own_val (with_value b tt);
    shr_same = λ b i. (box_row (one_value R (a.mir_same i) (a.own_same b.value i) (a.shr_same b.value i) gnil)).shr_at (with_value b tt);
  }

  pub the_places : Alike R R' h → Alike (outer.the_row R) (outer.the_row R') h
  the_places alike = view_places held this view (λ X Y f i. refl) (λ X i. refl) R.Denot R'.Denot h
      (outer.the_row R).coded (outer.the_row R').coded
      (invariant R.Denot) (invariant R'.Denot) (λ i p q. refl) (λ i p q. refl) (λ i p. tt) (λ i p. tt)
      (over (inner.the_row R)) (over (inner.the_row R'))
      (struct_places (inner.the_type R) (inner.the_type R') ((λ b. with_value b (h b.value)), tt) _ (λ i. refl) refl
      (laid _ _ _ (box_places alike), tt))

  pub the_codes_placed : Recodes R R' h → Recodes (outer.the_row R) (outer.the_row R') h
  the_codes_placed same = same
