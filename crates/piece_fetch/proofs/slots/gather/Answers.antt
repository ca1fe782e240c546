use Rattle.std.proofs.Common.{◌≡◌, List, [], ◌∷◌, ◌++◌, length, ap, sym, ◌∙◌, subst, arith, Option, Some}
use Rattle.std.specs.Vec.Iter.{into_iter_items}
use Rattle.std.proofs.lemmas.Grind.{common_steps}
use Rattle.std.proofs.lemmas.List.Elements.{All-rest}
use Rattle.piece_fetch.specs.declared.came.Brought.{Brought}
use Rattle.piece_fetch.specs.declared.fetched.Lasts.{Lasts}
use Rattle.piece_fetch.specs.declared.fetched.Origin.{Origin}
use Rattle.piece_fetch.specs.declared.fetched.Origin.TheVariants as origin
use Rattle.piece_fetch.specs.declared.slots.Slot.{Slot}
use Rattle.piece_fetch.specs.declared.slots.Slot.TheVariants as slot
use Rattle.piece_fetch.specs.Fetching.{own_origin, hit, own}
use Rattle.piece_fetch.specs.Between.{asked_count, IsReadable}
use Rattle.piece_fetch.proofs.Gathering.{gathers_more, gathers_all, Gathers}
use Rattle.piece_fetch.proofs.slots.gather.Goals as goal

pub gathering-preserved-in-Hit : goal.gathering-preserved-in-Hit
gathering-preserved-in-Hit c =
    let n = c.args.line in
    let k = c.args.call in
    let x = c.in_ok-read_kept-in-Hit.field-0 in
    let o : Origin = origin.Hit c.in-Hit.lookup c.in-Hit.stored in
    let t : Option Lasts = Some c.in-Hit.lasts in
    let s : Slot = slot.Hit c.in-Hit.lookup c.in-Hit.stored c.in-Hit.value c.in-Hit.lasts in
    let next = rw c.in-Some.is at c.next.ensures.steps in
    let slots = into_iter_items c.gathering.slot-iterator in
    let rest = into_iter_items c.next.new.self in
    let split : slots ≡ s ∷ rest = next.0 ∙ ap (λ (y : Slot). y ∷ rest) c.in-Hit.is in
    let came = c.gathering.came.items in
    let whole : Gathers n k (s ∷ rest) came c.gathering.pieces.items c.gathering.origins.items c.gathering.times.items c.args.slots.items c.args.came.items =
    subst (λ (l : List Slot). Gathers n k l came c.gathering.pieces.items c.gathering.origins.items c.gathering.times.items c.args.slots.items c.args.came.items) split c.gathering.invariant.rest in
    let one : c.push.new.self.items ≡ c.gathering.pieces.items ++ x ∷ [] = grind (arith, common_steps) in
    let two : c.push-in-Hit.new.self.items ≡ c.gathering.origins.items ++ o ∷ [] = grind (arith, common_steps) in
    let three : c.push-in-Hit-2.new.self.items ≡ c.gathering.times.items ++ t ∷ [] = grind (arith, common_steps) in
    record {
      rest = rw (one, two, three) (gathers_more n k (s ∷ rest) rest came came c.gathering.pieces.items c.gathering.origins.items c.gathering.times.items c.args.slots.items c.args.came.items x o t
          (λ xs os ls h. hit c.in-Hit.lookup c.in-Hit.stored c.in-Hit.value c.in-Hit.lasts x rest came xs os ls c.in_ok-read_kept-in-Hit.ensures h) whole);
      count = sym (ap asked_count split) ∙ c.gathering.invariant.count;
      readable = All-rest IsReadable s rest slots split c.gathering.invariant.readable;
    }

pub gathering-preserved : goal.gathering-preserved
gathering-preserved c =
    let n = c.args.line in
    let k = c.args.call in
    let b = c.in-Some-pop_front.one in
    let o : Origin = own_origin n k b.value in
    let next = rw c.in-Some.is at c.next.ensures.steps in
    let slots = into_iter_items c.gathering.slot-iterator in
    let rest = into_iter_items c.next.new.self in
    let split : slots ≡ slot.Asked ∷ rest = next.0 ∙ ap (λ (y : Slot). y ∷ rest) c.in-Asked.is in
    let came = c.gathering.came.items in
    let left = c.pop_front.new.self.items in
    let popped : came ≡ b ∷ left = c.in-Some-pop_front.ensures.items in
    let whole : Gathers n k (slot.Asked ∷ rest) (b ∷ left) c.gathering.pieces.items c.gathering.origins.items c.gathering.times.items c.args.slots.items c.args.came.items =
    subst (λ (l : List Brought). Gathers n k (slot.Asked ∷ rest) l c.gathering.pieces.items c.gathering.origins.items c.gathering.times.items c.args.slots.items c.args.came.items) popped
    (subst (λ (l : List Slot). Gathers n k l came c.gathering.pieces.items c.gathering.origins.items c.gathering.times.items c.args.slots.items c.args.came.items) split c.gathering.invariant.rest) in
    let one : c.push-in-Asked-2.new.self.items ≡ c.gathering.pieces.items ++ b.value ∷ [] = grind (arith, common_steps) in
    let two : c.push-in-Asked.new.self.items ≡ c.gathering.origins.items ++ o ∷ [] = grind (arith, common_steps) in
    let three : c.push-in-Asked-3.new.self.items ≡ c.gathering.times.items ++ b.lasts ∷ [] = grind (arith, common_steps) in
    record {
      rest = rw (one, two, three) (gathers_more n k (slot.Asked ∷ rest) rest (b ∷ left) left c.gathering.pieces.items c.gathering.origins.items c.gathering.times.items c.args.slots.items c.args.came.items b.value o b.lasts
          (λ xs os ls h. own b rest left xs os ls h) whole);
      count = omega (arith, ap asked_count split, ap length popped, c.gathering.invariant.count);
      readable = All-rest IsReadable slot.Asked rest slots split c.gathering.invariant.readable;
    }

pub returns : goal.returns
returns c =
    let ended = rw c.in-None.is at c.next.ensures.steps in
    let slots = into_iter_items c.gathering.slot-iterator in
    let none : length slots ≡ 0 = omega (arith, ended.0, c.gathering.slot-iterator.rest.ok.0) in
    gathers_all c.args.line c.args.call slots c.gathering.came.items c.gathering.pieces.items c.gathering.origins.items c.gathering.times.items c.args.slots.items c.args.came.items none c.gathering.invariant.count c.gathering.invariant.rest
