use Rattle.std.proofs.Common.{◌≡◌, ◌<◌, ◌≤◌, ◌∙◌, ◌-◌, length, take, slice_get, arith, refl, sym, ap, ℕ, List, None}
use Rattle.std.proofs.lemmas.Grind.{common_steps}
use Rattle.cache_model.specs.Journal.{starts}
use Rattle.book_tables.specs.Standing.{IsOldest, StampsStand}
use Rattle.book_tables.proofs.Quieting.{rolled, stamps_kept, oldest_before, oldest_past, nothing_past}
use Rattle.book_tables.proofs.tables.Tables.roll_back.Goals as goal

pub returns-then-self-starts-clause-stands : goal.returns-then-self-starts-clause-stands
returns-then-self-starts-clause-stands c = λ J more s regular quiet count.
    let old = c.args.self.now in
    let starts_is : c.truncate.new.self.items ≡ take (starts J) old.starts.items = rw count c.truncate.ensures.items in
    let settled_is : c.truncate-2.new.self.items ≡ take (starts J) old.settled.items = rw count c.truncate-2.ensures.items in
    let past : starts J ≤ old.oldest = omega (arith, count, c.if-self-starts.true) in
    let oldest : IsOldest c.truncate-2.new.self.items c.args.starts = rw (settled_is, ← count) (oldest_past old J more s past) in
    let none : slice_get c.truncate.new.self.items c.args.starts ≡ None = ap (λ (l : List ℕ). slice_get l c.args.starts) starts_is ∙ ap (slice_get (take (starts J) old.starts.items)) (sym count) ∙ nothing_past old.starts.items (starts J) in
    let stamps : StampsStand J (slice_get c.truncate.new.self.items c.args.starts) c.clear.new.self.stamps = rw none (ap (λ s. s.stamps) c.clear.ensures.cleared) in
    let pending : c.saturating_sub-self.result ≡ old.pending - (length old.starts.items - starts J) = rw count (grind (arith, common_steps)) in
    let limit : c.clear.new.self.limit ≡ old.stamps.limit = ap (λ s. s.limit) c.clear.ensures.cleared in
    rolled (regular.0) old J more (record { starts = c.truncate.new.self; settled = c.truncate-2.new.self; oldest = c.args.starts; pending = c.saturating_sub-self.result; bytes = old.bytes; keys = old.keys; holders = old.holders; stamps = c.clear.new.self })
    s (regular.1) quiet starts_is settled_is oldest stamps pending refl refl refl (omega (arith, limit, s.room_starts, c.truncate.ensures.capacity)) (omega (arith, limit, s.room_settled, c.truncate-2.ensures.capacity))

pub returns-else-self-starts-clause-stands : goal.returns-else-self-starts-clause-stands
returns-else-self-starts-clause-stands c = λ J more s regular quiet count.
    let old = c.args.self.now in
    let starts_is : c.truncate.new.self.items ≡ take (starts J) old.starts.items = rw count c.truncate.ensures.items in
    let settled_is : c.truncate-2.new.self.items ≡ take (starts J) old.settled.items = rw count c.truncate-2.ensures.items in
    let before : old.oldest < starts J = omega (arith, count, c.if-self-starts.false) in
    let oldest : IsOldest c.truncate-2.new.self.items old.oldest = rw settled_is (oldest_before (regular.0) old J more s (regular.1) quiet before) in
    let stamps : StampsStand J (slice_get c.truncate.new.self.items old.oldest) old.stamps.stamps = rw starts_is (stamps_kept (regular.0) old J more s (regular.1) quiet before (slice_get (take (starts J) old.starts.items) old.oldest) refl) in
    let pending : c.saturating_sub-self.result ≡ old.pending - (length old.starts.items - starts J) = rw count (grind (arith, common_steps)) in
    rolled (regular.0) old J more (record { starts = c.truncate.new.self; settled = c.truncate-2.new.self; oldest = old.oldest; pending = c.saturating_sub-self.result; bytes = old.bytes; keys = old.keys; holders = old.holders; stamps = old.stamps })
    s (regular.1) quiet starts_is settled_is oldest stamps pending refl refl refl (omega (arith, s.room_starts, c.truncate.ensures.capacity)) (omega (arith, s.room_settled, c.truncate-2.ensures.capacity))
