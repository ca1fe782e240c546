use Rattle.std.proofs.Common.{◌≡◌, sym, subst, ap, ◌∙◌, All, ℕ, map, List, ◌<◌, length, vec_len, get_or, arith, true, map-id, le_refl, None}
use Rattle.std.proofs.lemmas.Iterator.Adapters.{YieldsList-from_vec}
use Rattle.std.proofs.lemmas.Iterator.Consumers.{YieldsList-turn, YieldsList-end}
use Rattle.std.proofs.lemmas.List.Elements.{All-get_or}
use Rattle.cache_model.specs.State.{State}
use Rattle.cache_book.specs.Permits.{Pinned}
use Rattle.turn_lock.specs.Members.{MemberState, newcomers}
use Rattle.shared_book.specs.Sharing.{Shared, untouched}
use Rattle.shared_book.specs.Handles.{HandleState, IsHandle, fresh, seen_of, name_of, passes_of}
use Rattle.shared_book.proofs.Ending.{fresh_handles, fresh_home, numbers_below, passes_at, passes_count}
use Rattle.shared_book.proofs.opening.open.Goals as goal

pub index-pass-requires : goal.index-pass-requires
index-pass-requires g c =
    let b = c.into_iter-member-iterator.ensures.into_iter_gives in
    let seats = c.in_ok-seats.seats in
    let made = c.in_ok-seats.ensures.fresh in
    let m : MemberState Shared = c.in-Some.member in
    let t = YieldsList-turn (YieldsList-from_vec seats.items b.0 (b.1 ∙ seats.ok.0)) c.loop-member.yielded c.loop-member.member-iterator c.loop-member.yielded_by c.next.result c.next.new.self m c.in-Some.is c.next.ensures.steps in
    let numbers = subst (All (λ (m : MemberState Shared). m.number < c.args.members)) (sym made.1) (numbers_below made.0 (record { book = c.in_ok-book.book; last = None; members = c.args.members }) c.args.members) in
    let below : c.in-Some.member.number < c.args.members = subst (λ (m : MemberState Shared). m.number < c.args.members) (sym t.1) (All-get_or (λ (m : MemberState Shared). m.number < c.args.members) seats.items _ m t.0 numbers) in
    let count : length c.in_ok-passes.passes.items ≡ c.args.members = ap (λ (ps : List Pinned). length ps) c.in_ok-passes.ensures ∙ passes_count c.in_ok-book.book.epoch c.args.members in
    let ok : vec_len c.in_ok-passes.passes ≡ length c.in_ok-passes.passes.items = c.in_ok-passes.passes.ok.0 in
    let number : c.number.result ≡ c.in-Some.member.number = c.number.ensures in
    omega (arith, below, count, ok, number)

pub invariant_of-push : goal.invariant_of-push
invariant_of-push g c =
    let b = c.into_iter-member-iterator.ensures.into_iter_gives in
    let seats = c.in_ok-seats.seats in
    let made = c.in_ok-seats.ensures.fresh in
    let m : MemberState Shared = c.in-Some.member in
    let t = YieldsList-turn (YieldsList-from_vec seats.items b.0 (b.1 ∙ seats.ok.0)) c.loop-member.yielded c.loop-member.member-iterator c.loop-member.yielded_by c.next.result c.next.new.self m c.in-Some.is c.next.ensures.steps in
    let numbers = subst (All (λ (m : MemberState Shared). m.number < c.args.members)) (sym made.1) (numbers_below made.0 (record { book = c.in_ok-book.book; last = None; members = c.args.members }) c.args.members) in
    let below : c.in-Some.member.number < c.args.members = subst (λ (m : MemberState Shared). m.number < c.args.members) (sym t.1) (All-get_or (λ (m : MemberState Shared). m.number < c.args.members) seats.items _ m t.0 numbers) in
    let hands = subst (All (λ (m : MemberState Shared). IsHandle m (record { who = m.number; epoch = 0 }) 0 true)) (sym (made.1 ∙ ap (λ (s : State). newcomers made.0 (record { book = s; last = None; members = c.args.members }) c.args.members) c.in_ok-book.ensures)) (fresh_handles made.0 c.args.limits c.args.members c.args.members (le_refl c.args.members) c.requires.limits) in
    let fresh = subst (λ (m : MemberState Shared). IsHandle m (record { who = m.number; epoch = 0 }) 0 true) (sym t.1) (All-get_or (λ (m : MemberState Shared). IsHandle m (record { who = m.number; epoch = 0 }) 0 true) seats.items _ m t.0 hands) in
    let k : ℕ = c.in-Some.member.number in
    let r : Pinned = c.index-pass.result.now in
    let all : c.in_ok-passes.passes.items ≡ passes_of 0 c.args.members = c.in_ok-passes.ensures ∙ ap (λ (s : State). passes_of s.epoch c.args.members) c.in_ok-book.ensures in
    let pass : r ≡ record { who = k; epoch = 0 } = c.index-pass.ensures
    ∙ (ap (λ (n : ℕ). get_or c.in_ok-passes.passes.items n r) c.number.ensures ∙ (ap (λ (ps : List Pinned). get_or ps k r) all ∙ passes_at 0 c.args.members k r below)) in
    subst (λ (p : Pinned). IsHandle m p 0 true) (sym pass) fresh

pub returns-clause-fresh : goal.returns-clause-fresh
returns-clause-fresh g c =
    let b = c.into_iter-member-iterator.ensures.into_iter_gives in
    let made = c.in_ok-seats.ensures.fresh in
    let seats = made.1 ∙ ap (λ (s : State). newcomers made.0 (record { book = s; last = None; members = c.args.members }) c.args.members) c.in_ok-book.ensures in
    let end = YieldsList-end (YieldsList-from_vec c.in_ok-seats.seats.items b.0 (b.1 ∙ c.in_ok-seats.seats.ok.0)) c.loop-member.yielded c.loop-member.member-iterator c.loop-member.yielded_by c.next.result c.next.new.self c.in-None.is c.next.ensures.steps in
    let all = c.loop-member.invariant.2 ∙ ap (map fresh) (sym (map-id c.loop-member.yielded) ∙ (end.0 ∙ seats)) in
    (made.0, all)

pub returns-clause-one_home : goal.returns-clause-one_home
returns-clause-one_home g c =
    let b = c.into_iter-member-iterator.ensures.into_iter_gives in
    let made = c.in_ok-seats.ensures.fresh in
    let seats = made.1 ∙ ap (λ (s : State). newcomers made.0 (record { book = s; last = None; members = c.args.members }) c.args.members) c.in_ok-book.ensures in
    let end = YieldsList-end (YieldsList-from_vec c.in_ok-seats.seats.items b.0 (b.1 ∙ c.in_ok-seats.seats.ok.0)) c.loop-member.yielded c.loop-member.member-iterator c.loop-member.yielded_by c.next.result c.next.new.self c.in-None.is c.next.ensures.steps in
    let all = c.loop-member.invariant.2 ∙ ap (map fresh) (sym (map-id c.loop-member.yielded) ∙ (end.0 ∙ seats)) in
    (name_of c.args.members made.0, subst (All (λ (h : HandleState). (seen_of h).home ≡ name_of c.args.members made.0)) (sym all) (fresh_home made.0 (untouched c.args.limits c.args.members) c.args.members))
