use Rattle.std.proofs.Common.{sym, subst, ap, ◌≡◌, ◌∙◌, ◌++◌, ◌∷◌, ◌-◌, [], ℕ, List, take, map, append_assoc, All, Some}
use Rattle.std.proofs.lemmas.List.Elements.{All-pop, All-cons, All-nil, All-weaker}
use Rattle.shared_book.specs.Sharing.{Shared}
use Rattle.turn_lock.specs.declared.seats.Part.{Part}
use Rattle.turn_lock.specs.Members.{part_for, backwards}
use Rattle.shared_book.specs.Handles.{HandleState, name_of}
use Rattle.shared_book.proofs.Ending.{IsChained, member_of, one_lock, told}
use Rattle.shared_book.proofs.closing.close.Goals as goal

pub loop-other-init : goal.loop-other-init
loop-other-init g c =
    let pop = c.in-Some.ensures.items in
    let all : List HandleState = c.args.handles.items in
    let left : List HandleState = c.pop.new.self.items in
    let last : HandleState = c.in-Some.last in
    let homes = All-pop (λ (h : HandleState). name_of h.left.members h.home ≡ c.requires.one_home.0) all left (Some last) pop c.requires.one_home.1 in
    let same = All-weaker (λ (h : HandleState). name_of h.left.members h.home ≡ c.requires.one_home.0) (λ (h : HandleState). h.home ≡ last.home) (λ h is. one_lock h.left.members last.left.members h.home last.home (is ∙ sym homes.1)) left homes.0 in
    let here = ap (λ n. n.home) c.of-closing.ensures ∙ ap (λ (h : HandleState). h.home) c.last.view_is in (
      subst (λ z. All (λ (h : HandleState). h.home ≡ z) left) (sym here) same,
      (last ∷ [], pop, ap (λ n. n.parts) c.of-closing.ensures ∙ ap (λ (h : HandleState). part_for (member_of h) ∷ []) c.last.view_is, All-cons IsChained last [] (subst IsChained c.last.view_is c.last.invariant.chained) (All-nil IsChained)),
    )

pub loop-other-preserved : goal.loop-other-preserved
loop-other-preserved g c =
    let i = c.loop-other.invariant in
    let pop = c.in-Some-pop.ensures.items in
    let took = c.join.ensures in
    let left : List HandleState = c.pop-in-loop-other.new.self.items in
    let other : HandleState = c.in-Some-pop.other in
    let homes = All-pop (λ (h : HandleState). h.home ≡ c.loop-other.closing.home) _ left (Some other) pop i.0 in (
      subst (λ z. All (λ (h : HandleState). h.home ≡ z) left) (sym (ap (λ n. n.home) took)) homes.0,
      (
        other ∷ i.1.0,
        i.1.1 ∙ (ap (λ (l : List HandleState). l ++ i.1.0) pop ∙ append_assoc left (other ∷ []) i.1.0),
        ap (λ n. n.parts) took ∙ (ap (λ (ps : List (Part Shared)). ps ++ part_for c.other.inside.member ∷ []) i.1.2 ∙ ap (λ (h : HandleState). backwards (map member_of i.1.0) ++ part_for (member_of h) ∷ []) c.other.view_is),
        All-cons IsChained other i.1.0 (subst IsChained c.other.view_is c.other.invariant.chained) i.1.3,
      ),
    )

pub returns-clause-continues : goal.returns-clause-continues
returns-clause-continues g c =
    let h = c.in_default-pop.ensures in
    let i = c.loop-other.invariant.1 in
    let e = c.enter.ensures in
    let x : Shared = record { book = c.book.inside.book; last = c.book.inside.last; members = c.book.inside.members } in
    (told x c.enter.result c.args.handles.items c.loop-other.handles.items i.0 c.loop-other.closing.parts (sym c.book.view_is) c.book.invariant.1 i.2 i.1
    (h.items ∙ ap (λ (l : List HandleState). l ++ []) (h.rest ∙ ap (λ (n : ℕ). take (n - 1) c.loop-other.handles.items) h.cases.0)) i.3
    e.without e.follows e.once e.order).continues

pub returns-clause-own : goal.returns-clause-own
returns-clause-own g c =
    let h = c.in_default-pop.ensures in
    let i = c.loop-other.invariant.1 in
    let e = c.enter.ensures in
    let x : Shared = record { book = c.book.inside.book; last = c.book.inside.last; members = c.book.inside.members } in
    (told x c.enter.result c.args.handles.items c.loop-other.handles.items i.0 c.loop-other.closing.parts (sym c.book.view_is) c.book.invariant.1 i.2 i.1
    (h.items ∙ ap (λ (l : List HandleState). l ++ []) (h.rest ∙ ap (λ (n : ℕ). take (n - 1) c.loop-other.handles.items) h.cases.0)) i.3
    e.without e.follows e.once e.order).own

pub returns-clause-last : goal.returns-clause-last
returns-clause-last g c =
    let h = c.in_default-pop.ensures in
    let i = c.loop-other.invariant.1 in
    let e = c.enter.ensures in
    let x : Shared = record { book = c.book.inside.book; last = c.book.inside.last; members = c.book.inside.members } in
    (told x c.enter.result c.args.handles.items c.loop-other.handles.items i.0 c.loop-other.closing.parts (sym c.book.view_is) c.book.invariant.1 i.2 i.1
    (h.items ∙ ap (λ (l : List HandleState). l ++ []) (h.rest ∙ ap (λ (n : ℕ). take (n - 1) c.loop-other.handles.items) h.cases.0)) i.3
    e.without e.follows e.once e.order).last

pub returns-clause-once : goal.returns-clause-once
returns-clause-once g c =
    let h = c.in_default-pop.ensures in
    let i = c.loop-other.invariant.1 in
    let e = c.enter.ensures in
    let x : Shared = record { book = c.book.inside.book; last = c.book.inside.last; members = c.book.inside.members } in
    (told x c.enter.result c.args.handles.items c.loop-other.handles.items i.0 c.loop-other.closing.parts (sym c.book.view_is) c.book.invariant.1 i.2 i.1
    (h.items ∙ ap (λ (l : List HandleState). l ++ []) (h.rest ∙ ap (λ (n : ℕ). take (n - 1) c.loop-other.handles.items) h.cases.0)) i.3
    e.without e.follows e.once e.order).once

pub returns-clause-order : goal.returns-clause-order
returns-clause-order g c =
    let h = c.in_default-pop.ensures in
    let i = c.loop-other.invariant.1 in
    let e = c.enter.ensures in
    let x : Shared = record { book = c.book.inside.book; last = c.book.inside.last; members = c.book.inside.members } in
    (told x c.enter.result c.args.handles.items c.loop-other.handles.items i.0 c.loop-other.closing.parts (sym c.book.view_is) c.book.invariant.1 i.2 i.1
    (h.items ∙ ap (λ (l : List HandleState). l ++ []) (h.rest ∙ ap (λ (n : ℕ). take (n - 1) c.loop-other.handles.items) h.cases.0)) i.3
    e.without e.follows e.once e.order).order

pub join-requires-clause-lock : goal.join-requires-clause-lock
join-requires-clause-lock g c =
    let i = c.loop-other.invariant in
    let homes = All-pop (λ (h : HandleState). h.home ≡ c.loop-other.closing.home) _ c.pop-in-loop-other.new.self.items (Some c.in-Some-pop.other) c.in-Some-pop.ensures.items i.0 in
    ap (λ (h : HandleState). h.home) c.other.view_is ∙ homes.1
