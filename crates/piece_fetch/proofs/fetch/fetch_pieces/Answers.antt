use Rattle.std.proofs.Common.{◌≡◌, List, length, All, ap, sym, ◌∙◌, subst, arith}
use Rattle.std.specs.Option.{option_copied}
use Rattle.cache_book.specs.Permits.{Granted}
use Rattle.cache_seam.specs.Seen.{pass_of}
use Rattle.cache_seam.specs.Hand.{IsHand, permits_of}
use Rattle.cache_seam.proofs.Hands.{hand_of_look, look_answers}
use Rattle.cache_seam.proofs.FoundObjects.{look_finds}
use Rattle.piece_fetch.specs.Between.{asked_count, IsReadable}
use Rattle.piece_fetch.proofs.Parting.{asked_permits, found_readable, as_many, lent_few, permits_named}
use Rattle.piece_fetch.proofs.FetchParts.{any_err, reports_ready, drops_unbegun, drops_looking, drops_in_hand, does_fetch}
use Rattle.piece_fetch.proofs.fetch.fetch_pieces.Goals as goal

pub returns-in_err-slots-clause-err : goal.returns-in_err-slots-clause-err
returns-in_err-slots-clause-err g c = any_err c.from_residual.result _ (drops_unbegun c.args.ask.now c.args.keys.items (option_copied c.args.id) (g.C.Cache.seen c.args.cache.now) (g.L.Line.line c.args.line.now) (g.T.Clock.log c.args.clock.now))

pub returns-in_err-permits-clause-err : goal.returns-in_err-permits-clause-err
returns-in_err-permits-clause-err g c = any_err c.from_residual-in_err-permits.result _ (drops_unbegun c.args.ask.now c.args.keys.items (option_copied c.args.id) (g.C.Cache.seen c.args.cache.now) (g.L.Line.line c.args.line.now) (g.T.Clock.log c.args.clock.now))

pub returns-in-Err-clause-err : goal.returns-in-Err-clause-err
returns-in-Err-clause-err g c =
    drops_looking c.args.ask.now c.args.keys.items (option_copied c.args.id) (g.C.Cache.seen c.args.cache.now) (g.L.Line.line c.args.line.now) (g.T.Clock.log c.args.clock.now)
    (g.C.Cache.seen c.look.new.self) (g.T.Clock.log c.now_ms-now.new.self) c.now_ms-now.result c.in-Err.ensures.err c.now_ms-now.ensures

pub divide-requires-clause-room_for_slots : goal.divide-requires-clause-room_for_slots
divide-requires-clause-room_for_slots g c =
    let old = g.C.Cache.seen c.args.cache.now in
    let answered = look_answers old (g.C.Cache.seen c.look.new.self) (pass_of old) (option_copied c.args.id) c.args.keys.items c.now_ms-now.result c.in-Ok.answers.items c.in-Ok.ensures.ok in
    let many : length c.in-Ok.answers.items ≡ length c.args.keys.items = as_many (pass_of old) (option_copied c.args.id) c.args.keys.items c.in-Ok.answers.items answered in
    omega (arith, many, c.in_ok-slots.ensures.exact, c.len.ensures, c.args.keys.ok.0)

pub divide-requires-clause-room_for_permits : goal.divide-requires-clause-room_for_permits
divide-requires-clause-room_for_permits g c =
    let old = g.C.Cache.seen c.args.cache.now in
    let answered = look_answers old (g.C.Cache.seen c.look.new.self) (pass_of old) (option_copied c.args.id) c.args.keys.items c.now_ms-now.result c.in-Ok.answers.items c.in-Ok.ensures.ok in
    let many : length c.in-Ok.answers.items ≡ length c.args.keys.items = as_many (pass_of old) (option_copied c.args.id) c.args.keys.items c.in-Ok.answers.items answered in
    omega (arith, many, c.in_ok-permits.ensures.exact, c.len-2.ensures, c.args.keys.ok.0)

pub prepare-requires-clause-one : goal.prepare-requires-clause-one
prepare-requires-clause-one g c =
    let old = g.C.Cache.seen c.args.cache.now in
    let answered = look_answers old (g.C.Cache.seen c.look.new.self) (pass_of old) (option_copied c.args.id) c.args.keys.items c.now_ms-now.result c.in-Ok.answers.items c.in-Ok.ensures.ok in
    lent_few (pass_of old) (option_copied c.args.id) c.args.keys.items c.in-Ok.answers.items c.deref.result.now c.args.ask.now.entities answered (c.deref.ensures.value ∙ c.divide.ensures.permits) c.requires.one

pub prepare-requires-clause-named : goal.prepare-requires-clause-named
prepare-requires-clause-named g c =
    let old = g.C.Cache.seen c.args.cache.now in
    let answered = look_answers old (g.C.Cache.seen c.look.new.self) (pass_of old) (option_copied c.args.id) c.args.keys.items c.now_ms-now.result c.in-Ok.answers.items c.in-Ok.ensures.ok in
    let lent : c.deref.result.now ≡ permits_of c.in-Ok.answers.items = c.deref.ensures.value ∙ c.divide.ensures.permits in
    subst (λ (ps : List Granted). All (λ (p : Granted). p.key.sub ≡ c.args.ask.now.name) ps) (sym lent) (permits_named (pass_of old) (option_copied c.args.id) c.args.keys.items c.in-Ok.answers.items c.args.ask.now.name answered c.requires.named)

pub prepare-requires-clause-count : goal.prepare-requires-clause-count
prepare-requires-clause-count g c = ap asked_count c.divide.ensures.slots ∙ asked_permits c.in-Ok.answers.items ∙ sym (ap length (c.deref.ensures.value ∙ c.divide.ensures.permits))

pub prepare-requires-clause-readable : goal.prepare-requires-clause-readable
prepare-requires-clause-readable g c =
    let old = g.C.Cache.seen c.args.cache.now in
    let finds = look_finds old (g.C.Cache.seen c.look.new.self) (pass_of old) (option_copied c.args.id) c.args.keys.items c.now_ms-now.result c.in-Ok.answers.items c.in-Ok.ensures.ok in
    subst (All IsReadable) (sym c.divide.ensures.slots) (found_readable c.in-Ok.answers.items finds)

pub settle_all-requires-clause-hand : goal.settle_all-requires-clause-hand
settle_all-requires-clause-hand g c =
    subst (IsHand (g.C.Cache.seen c.look.new.self)) (sym c.divide.ensures.permits) (hand_of_look (g.C.Cache.seen c.args.cache.now) (g.C.Cache.seen c.look.new.self) (option_copied c.args.id) c.args.keys.items c.now_ms-now.result c.in-Ok.answers.items c.in-Ok.ensures.ok)

pub settle_all-requires-clause-length : goal.settle_all-requires-clause-length
settle_all-requires-clause-length g c =
    let old = g.C.Cache.seen c.args.cache.now in
    let answers = c.in-Ok.answers.items in
    let answered = look_answers old (g.C.Cache.seen c.look.new.self) (pass_of old) (option_copied c.args.id) c.args.keys.items c.now_ms-now.result answers c.in-Ok.ensures.ok in
    let ready = reports_ready c.args.ask.now (pass_of old) (option_copied c.args.id) c.args.keys.items answers c.args.number c.divide.new.slots.items c.deref.result.now (g.L.Line.line c.args.line.now) (g.L.Line.line c.prepare.new.line)
    c.in-Ok-prepare.work answered (c.deref.ensures.value ∙ c.divide.ensures.permits) c.requires.one c.in-Ok-prepare.ensures.ok in
    ready.count ∙ ap length c.deref.ensures.value

pub settle_all-requires-clause-range : goal.settle_all-requires-clause-range
settle_all-requires-clause-range g c =
    let old = g.C.Cache.seen c.args.cache.now in
    let answers = c.in-Ok.answers.items in
    let answered = look_answers old (g.C.Cache.seen c.look.new.self) (pass_of old) (option_copied c.args.id) c.args.keys.items c.now_ms-now.result answers c.in-Ok.ensures.ok in
    let ready = reports_ready c.args.ask.now (pass_of old) (option_copied c.args.id) c.args.keys.items answers c.args.number c.divide.new.slots.items c.deref.result.now (g.L.Line.line c.args.line.now) (g.L.Line.line c.prepare.new.line)
    c.in-Ok-prepare.work answered (c.deref.ensures.value ∙ c.divide.ensures.permits) c.requires.one c.in-Ok-prepare.ensures.ok in
    ready.range

pub settle_all-requires-clause-objects : goal.settle_all-requires-clause-objects
settle_all-requires-clause-objects g c =
    let old = g.C.Cache.seen c.args.cache.now in
    let answers = c.in-Ok.answers.items in
    let answered = look_answers old (g.C.Cache.seen c.look.new.self) (pass_of old) (option_copied c.args.id) c.args.keys.items c.now_ms-now.result answers c.in-Ok.ensures.ok in
    let ready = reports_ready c.args.ask.now (pass_of old) (option_copied c.args.id) c.args.keys.items answers c.args.number c.divide.new.slots.items c.deref.result.now (g.L.Line.line c.args.line.now) (g.L.Line.line c.prepare.new.line)
    c.in-Ok-prepare.work answered (c.deref.ensures.value ∙ c.divide.ensures.permits) c.requires.one c.in-Ok-prepare.ensures.ok in
    ready.objects

pub give_up-requires : goal.give_up-requires
give_up-requires g c =
    subst (IsHand (g.C.Cache.seen c.look.new.self)) (sym c.divide.ensures.permits) (hand_of_look (g.C.Cache.seen c.args.cache.now) (g.C.Cache.seen c.look.new.self) (option_copied c.args.id) c.args.keys.items c.now_ms-now.result c.in-Ok.answers.items c.in-Ok.ensures.ok)

pub returns-in-Ok-prepare-clause-ok : goal.returns-in-Ok-prepare-clause-ok
returns-in-Ok-prepare-clause-ok g c =
    does_fetch c.args.ask.now c.args.keys.items (option_copied c.args.id) (g.C.Cache.seen c.args.cache.now) (g.L.Line.line c.args.line.now) (g.T.Clock.log c.args.clock.now)
    (g.C.Cache.seen c.look.new.self) (g.L.Line.line c.prepare.new.line) (g.T.Clock.log c.now_ms-now.new.self) c.now_ms-now.result c.in-Ok.answers.items c.divide.new.permits.items c.divide.ensures.permits c.in-Ok.ensures.ok c.now_ms-now.ensures
    c.args.number c.deref.result.now c.divide.new.slots.items (c.deref.ensures.value ∙ c.divide.ensures.permits) c.divide.ensures.slots (g.C.Cache.seen c.settle_all.new.cache) c.in-Ok-prepare.work c.in-Ok-prepare.ensures.ok c.settle_all.ensures

pub returns-in-Err-prepare-clause-err : goal.returns-in-Err-prepare-clause-err
returns-in-Err-prepare-clause-err g c =
    drops_in_hand c.args.ask.now c.args.keys.items (option_copied c.args.id) (g.C.Cache.seen c.args.cache.now) (g.L.Line.line c.args.line.now) (g.T.Clock.log c.args.clock.now)
    (g.C.Cache.seen c.look.new.self) (g.L.Line.line c.prepare.new.line) (g.T.Clock.log c.now_ms-now.new.self) c.now_ms-now.result c.in-Ok.answers.items c.divide.new.permits.items c.divide.ensures.permits c.in-Ok.ensures.ok c.now_ms-now.ensures
    c.deref.result.now (c.deref.ensures.value ∙ c.divide.ensures.permits) (g.C.Cache.seen c.give_up.new.cache) c.in-Err-prepare.ensures.err c.give_up.ensures
