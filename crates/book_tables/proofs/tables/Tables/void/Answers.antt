use Rattle.std.proofs.Common.{◌≤◌, ◌<◌, ◌∷◌, ◌++◌, [], ap, length, arith, slice_get, refl}
use Rattle.cache_terms.specs.declared.events.Event.TheVariants.{Invalidate}
use Rattle.book_index.specs.Stamps.{Stamped}
use Rattle.book_tables.specs.Standing.{StampsStand}
use Rattle.book_tables.proofs.Voided.{void_stands, stamps_noted, stamps_none}
use Rattle.book_tables.proofs.tables.Tables.void.Goals as goal

pub returns-then-self-len-clause-stands : goal.returns-then-self-len-clause-stands
returns-then-self-len-clause-stands c = λ who.
    let old = c.args.self.now in
    let J = c.args.events.now in
    let count = c.drop_all-count.result in
    let less : old.oldest < length old.starts.items = omega (arith, c.if-self-len.true, c.len.ensures, c.deref.ensures.len, ap length c.deref.ensures.value) in
    let stamps : StampsStand (J ++ Invalidate who c.args.target count ∷ []) (slice_get old.starts.items old.oldest) c.note.new.self.stamps = rw (ap (λ (s : Stamped). s.stamps) c.note.ensures.noted) (stamps_noted J who c.args.target count old.starts.items old.oldest old.stamps.stamps c.requires.stands.started less c.requires.stands.stamps) in
    void_stands old J who c.args.target count c.drop_all-count.new.keys c.drop_all-count.new.holders c.note.new.self c.requires.regular c.requires.stands c.drop_all-count.ensures.keyed c.drop_all-count.ensures.targeted stamps c.note.ensures.few (ap (λ (s : Stamped). s.limit) c.note.ensures.noted)

pub returns-else-self-len-clause-stands : goal.returns-else-self-len-clause-stands
returns-else-self-len-clause-stands c = λ who.
    let old = c.args.self.now in
    let J = c.args.events.now in
    let count = c.drop_all-count.result in
    let past : length old.starts.items ≤ old.oldest = omega (arith, c.if-self-len.false, c.len.ensures, c.deref.ensures.len, ap length c.deref.ensures.value) in
    let stamps : StampsStand (J ++ Invalidate who c.args.target count ∷ []) (slice_get old.starts.items old.oldest) old.stamps.stamps = stamps_none J (J ++ Invalidate who c.args.target count ∷ []) old.starts.items old.oldest old.stamps.stamps past c.requires.stands.stamps in
    void_stands old J who c.args.target count c.drop_all-count.new.keys c.drop_all-count.new.holders old.stamps c.requires.regular c.requires.stands c.drop_all-count.ensures.keyed c.drop_all-count.ensures.targeted stamps (omega arith) refl
