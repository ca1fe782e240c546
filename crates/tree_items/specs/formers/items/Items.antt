-- How an `Items` keeps its elements, so that a type may lead back to itself through it: as their list does. Its one
-- field is a `Vec`, which std says the same of.
use Rattle.std.specs.Prelude.{◌≡◌, List, []}
use mathlib.Core.Path.{refl, sym}
use mathlib.Core.Former.{Former, this, list, via, children}
use base.Stored.{code_map}
use denote.RattleType.{RattleType}
use denote.HoleLaws.{Alike}
use denote.HolePlaces.{Recodes, struct_places, laid}
use denote.Hole.Carrier.{listed, list-listed}
use denote.Hole.Fix.{over}
use denote.Model.Placed.{view_places}
use denote.Param.Weighed.{Weighed, w_list}
use Rattle.std.specs.formers.vec.Vec as vec
use Rattle.std.specs.declared.alloc.Global.{Global}
use Rattle.std.specs.contracts.alloc.Global as global
use Rattle.std.specs.contracts.impls.GlobalAllocator.TheImpl.{ghosts}
use Rattle.tree_items.specs.declared.items.Items.TheInside.{Inside}
use Rattle.tree_items.specs.declared.items.Items.TheView.{view, invariant}
use Rattle.tree_items.specs.contracts.items.Items as outer
use Rattle.tree_items.specs.contracts.items.Items.TheInside as inner

abbrev pub the_former : Former {0} → Former {0}
the_former g = list g

abbrev pub the_weighed : {g : Former {0}} → Weighed g → Weighed (the_former g)
the_weighed w = w_list w

pub the_empty : List ⊥
the_empty = []

abbrev pub the_items : (X : Type 0) → List X → List X
the_items X elements = elements

pub the_items_listed : (X : Type 0) (elements : List X) → listed _ (children (the_former this) X elements) ≡ the_items X elements
the_items_listed = list-listed

-- the field
abbrev held : Former {0}
held = via (vec.the_former this Global) Inside (λ X i. i.elements) (λ X v. record { elements = v }) (λ X i. refl) (λ X v. refl)

module _ (R R' : RattleType) (h : R.Denot → R'.Denot) where
  abbrev mapped : List R.Denot → List R'.Denot
  mapped = (the_former this).map R.Denot R'.Denot h

  pub the_places : Alike R R' h → Alike (outer.the_row R) (outer.the_row R') mapped
  the_places alike = view_places held (the_former this) view (λ X Y f i. refl) (λ X i. refl) R.Denot R'.Denot h
      (outer.the_row R).coded (outer.the_row R').coded
      (invariant R.Denot) (invariant R'.Denot) (λ i p q. refl) (λ i p q. refl) (λ i p. tt) (λ i p. tt)
      (over (inner.the_row R)) (over (inner.the_row R'))
      (struct_places (inner.the_type R) (inner.the_type R') (vec.mapped h, tt) _ (λ i. refl) refl
      (laid _ _ _ (vec.the_places global.the_row ghosts R R' h alike), tt))

  pub the_codes_placed : Recodes R R' h → Recodes (outer.the_row R) (outer.the_row R') mapped
  the_codes_placed same elements = sym (code_map R.coded.code R'.coded.code h (λ x. sym (same x)) elements)
