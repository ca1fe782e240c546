use Rattle.std.proofs.Common.{◌≡◌, ◌∙◌, ap, length, vec_len, List, arith}
use Rattle.shared_book.specs.Handles.{HandleState, seen_of, AreOfOneBook}
use Rattle.shared_book.proofs.WrittenBack.{fresh_count, written_some, written_all}
use Rattle.shared_book.proofs.tests.share_a_book.Goals as goal

pub close-book-requires-clause-some : goal.close-book-requires-clause-some
close-book-requires-clause-some g c =
    let made = c.in_ok-handles.ensures.fresh in
    let count : length c.in_ok-handles.handles.items ≡ c.args.members = ap (λ (hs : List HandleState). length hs) made.1 ∙ fresh_count made.0 _ c.args.members in
    let ok : vec_len c.in_ok-handles.handles ≡ length c.in_ok-handles.handles.items = c.in_ok-handles.handles.ok.0 in
    let some = c.requires.0 in
    written_some c.in_ok-handles.handles.len c.work_all.new.handles c.in_ok-handles.handles.items ok (omega (arith, ok, count, some))

pub close-book-requires-clause-one_home : goal.close-book-requires-clause-one_home
close-book-requires-clause-one_home g c =
    let all : AreOfOneBook c.work_all.new.handles = c.work_all.ensures in
    let same : length c.work_all.new.handles ≡ length c.in_ok-handles.handles.items = c.work_all.auto.handles ∙ ap (λ (hs : List HandleState). length hs) c.as_mut_slice.ensures.value in
    (all.0, written_all (λ (h : HandleState). (seen_of h).home ≡ all.0) c.in_ok-handles.handles.len c.work_all.new.handles c.in_ok-handles.handles.items same all.1)
