use Rattle.std.proofs.Common.{List, true, false, sym, subst, ◌∙◌}
use Rattle.json_value.specs.declared.tree.Json.{Json}
use Rattle.json_machine.specs.Mode as m
use Rattle.json_read.specs.Reading.{HasRoom}
use Rattle.json_machine.specs.Machine.{Pairs}
use Rattle.json_machine.proofs.Skips.{value_skips}
use Rattle.json_read.proofs.Values.{later_value, with_room, value_ended, Listed, listing, item_more, items_read, list_deep, object_deep, empty_list, bare_object, list_read, object_read, Named, naming, member_more, members_read, mark_is, some_room}
use Rattle.json_read.proofs.reader.+value.Goals as goal

pub items_of-loop-items-init : goal.items_of-loop-items-init
items_of-loop-items-init t c = subst (λ (xs : List Json). Listed c.args.bytes.now c.args.at c.args.room c.args.at xs) (sym c.new-items.ensures) (listing c.args.bytes.now c.args.at c.args.room c.requires.within c.requires.some c.requires.begins)

pub items_of-returns-then-not-more : goal.items_of-returns-then-not-more
items_of-returns-then-not-more t c =
    items_read c.args.bytes.now c.args.at c.args.room c.loop-items.from c.in_ok-item.end c.in_ok-more.place c.loop-items.items c.fitted.result c.in_ok-item.item c.loop-items.invariant c.in_ok-item.ensures
    (mark_is c.args.bytes.now c.in_ok-item.end 93 c.in_ok-more.place c.in_ok-more.more false c.if-not-more.true c.in_ok-more.ensures) (c.fitted.ensures ∙ c.in_ok-push.ensures.ok)

pub items_of-loop-items-preserved : goal.items_of-loop-items-preserved
items_of-loop-items-preserved t c =
    item_more c.args.bytes.now c.args.at c.args.room c.loop-items.from c.in_ok-item.end c.in_ok-more.place c.loop-items.items c.push.new.self c.in_ok-item.item c.loop-items.invariant c.in_ok-item.ensures
    (mark_is c.args.bytes.now c.in_ok-item.end 93 c.in_ok-more.place c.in_ok-more.more true c.if-not-more.false c.in_ok-more.ensures) c.in_ok-push.ensures.ok

pub list-returns-then-room-eq0 : goal.list-returns-then-room-eq0
list-returns-then-room-eq0 t c = list_deep c.args.bytes.now c.args.at c.args.room c.requires.within c.requires.begins c.if-room-eq0.true

pub list-returns-then-bytes-first-eq93 : goal.list-returns-then-bytes-first-eq93
list-returns-then-bytes-first-eq93 t c =
    empty_list c.args.bytes.now c.args.at c.blanks-first.result c.args.room c.new.result c.requires.within c.requires.begins (some_room c.args.room c.if-room-eq0.false) c.blanks-first.ensures.after c.blanks-first.ensures.skips c.if-first-bytes.true c.if-bytes-first-eq93.true c.new.ensures

pub list-returns : goal.list-returns
list-returns t c =
    list_read c.args.bytes.now c.args.at c.blanks-first.result c.args.room c.items_of.result c.requires.within c.requires.begins (some_room c.args.room c.if-room-eq0.false) c.blanks-first.ensures.after c.blanks-first.ensures.skips c.items_of.ensures

pub members_of-loop-members-init : goal.members_of-loop-members-init
members_of-loop-members-init t c = subst (λ (ms : Pairs). Named c.args.bytes.now c.args.at c.args.room c.args.at ms) (sym c.new-members.ensures) (naming c.args.bytes.now c.args.at c.args.room c.requires.within c.requires.some c.requires.begins)

pub members_of-returns-then-not-more : goal.members_of-returns-then-not-more
members_of-returns-then-not-more t c =
    members_read c.args.bytes.now c.args.at c.args.room c.loop-members.from c.in_ok-name.begins c.in_ok-member.end c.in_ok-more.place c.loop-members.members _ c.in_ok-closed.field-0 c.in_ok-name.name c.in_ok-member.member c.loop-members.invariant c.in_ok-name.ensures.reads c.in_ok-member.ensures
    (mark_is c.args.bytes.now c.in_ok-member.end 125 c.in_ok-more.place c.in_ok-more.more false c.if-not-more.true c.in_ok-more.ensures) c.in_ok-name.ensures.same c.in_ok-closed.ensures

pub members_of-loop-members-preserved : goal.members_of-loop-members-preserved
members_of-loop-members-preserved t c =
    member_more c.args.bytes.now c.args.at c.args.room c.loop-members.from c.in_ok-name.begins c.in_ok-member.end c.in_ok-more.place c.loop-members.members _ c.in_ok-members.members c.in_ok-name.name c.in_ok-member.member c.loop-members.invariant c.in_ok-name.ensures.reads c.in_ok-member.ensures
    (mark_is c.args.bytes.now c.in_ok-member.end 125 c.in_ok-more.place c.in_ok-more.more true c.if-not-more.false c.in_ok-more.ensures) c.in_ok-name.ensures.same c.in_ok-members.ensures

pub object-returns-then-room-eq0 : goal.object-returns-then-room-eq0
object-returns-then-room-eq0 t c = object_deep c.args.bytes.now c.args.at c.args.room c.requires.within c.requires.begins c.if-room-eq0.true

pub object-returns-then-bytes-first-eq125 : goal.object-returns-then-bytes-first-eq125
object-returns-then-bytes-first-eq125 t c =
    bare_object c.args.bytes.now c.args.at c.blanks-first.result c.args.room c.new.result c.requires.within c.requires.begins (some_room c.args.room c.if-room-eq0.false) c.blanks-first.ensures.after c.blanks-first.ensures.skips c.if-first-bytes.true c.if-bytes-first-eq125.true c.new.ensures

pub object-returns : goal.object-returns
object-returns t c =
    object_read c.args.bytes.now c.args.at c.blanks-first.result c.args.room c.members_of.result c.requires.within c.requires.begins (some_room c.args.room c.if-room-eq0.false) c.blanks-first.ensures.after c.blanks-first.ensures.skips c.members_of.ensures

pub value-returns-then-begins-bytes : goal.value-returns-then-begins-bytes
value-returns-then-begins-bytes t c = value_ended (HasRoom c.args.room) c.args.bytes.now c.args.at c.blanks-begins.result (λ fs. c.blanks-begins.ensures.skips m.Value fs value_skips) c.if-begins-bytes.true

pub value-returns-in-91 : goal.value-returns-in-91
value-returns-in-91 t c = later_value (HasRoom c.args.room) c.args.bytes.now c.args.at c.blanks-begins.result m.Value m.Value c.list.result c.blanks-begins.ensures.after (λ fs. c.blanks-begins.ensures.skips m.Value fs value_skips) c.list.ensures

pub value-returns-in-123 : goal.value-returns-in-123
value-returns-in-123 t c = later_value (HasRoom c.args.room) c.args.bytes.now c.args.at c.blanks-begins.result m.Value m.Value c.object.result c.blanks-begins.ensures.after (λ fs. c.blanks-begins.ensures.skips m.Value fs value_skips) c.object.ensures

pub value-returns-in_default : goal.value-returns-in_default
value-returns-in_default t c =
    later_value (HasRoom c.args.room) c.args.bytes.now c.args.at c.blanks-begins.result m.Value m.Value c.leaf.result c.blanks-begins.ensures.after (λ fs. c.blanks-begins.ensures.skips m.Value fs value_skips)
    (with_room c.args.room c.args.bytes.now c.blanks-begins.result m.Value c.leaf.result c.leaf.ensures)
