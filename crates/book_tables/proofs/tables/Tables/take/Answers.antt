use Rattle.std.proofs.Common.{rules, ◌≡◌, ◌+◌, ◌∙◌, inl, inr, ap, sym, refl, Some}
use Rattle.std.specs.Option.{option_copied}
use Rattle.cache_terms.specs.Offers.{offer_size}
use Rattle.cache_terms.specs.declared.events.Outcome.TheVariants as outcome
use Rattle.cache_model.specs.Journal.{start_of, bytes}
use Rattle.book_tables.specs.declared.tables.Tables.{Tables}
use Rattle.book_tables.specs.Closing.{got_of}
use Rattle.book_tables.specs.Refs.{start_shown, start_seen}
use Rattle.book_tables.proofs.Judged.{due_found, filled_idle, filled_stored}
use Rattle.book_tables.proofs.Standings.{ticketed_of, keyed_of, targeted_of}
use Rattle.book_tables.proofs.tables.Tables.take.Goals as goal

pub returns-then-not-is_stored-clause-due : goal.returns-then-not-is_stored-clause-due
returns-then-not-is_stored-clause-due c =
    let found : start_of c.args.events.now c.args.ticket ≡ Some (start_shown c.unwrap-start.result) = sym c.start_in.ensures ∙ ap start_seen c.unwrap-start.ensures in
    due_found c.args.limits c.args.events.now c.requires.fits c.args.ticket (c.requires.unsettled.0) (c.requires.unsettled.1) c.args.self.now (ticketed_of c.args.self.now c.args.events.now c.requires.stands) c.args.offer.now (start_shown c.unwrap-start.result) found
    c.judge-outcome.result c.judge-outcome.result c.args.self.now.bytes c.requires.stands.bytes c.judge-outcome.ensures.judged (inl refl)

pub returns-then-not-is_stored-clause-filled : goal.returns-then-not-is_stored-clause-filled
returns-then-not-is_stored-clause-filled c =
    let old : Tables = c.args.self.now in
    let other : c.judge-outcome.result ≡ outcome.Stored → ⊥ = search rules in
    filled_idle c.args.limits c.args.events.now c.requires.fits (record old { stamps = c.judge-outcome.new.stamps }) c.args.ticket (Some (got_of c.args.offer.now c.judge-outcome.result)) c.judge-outcome.result
    other c.requires.stands.bytes (keyed_of old c.args.events.now c.requires.stands) (targeted_of old c.args.events.now c.requires.stands)

pub returns-in_default-clause-due : goal.returns-in_default-clause-due
returns-in_default-clause-due c =
    let found : start_of c.args.events.now c.args.ticket ≡ Some (start_shown c.unwrap-start.result) = sym c.start_in.ensures ∙ ap start_seen c.unwrap-start.ensures in
    let stored : c.judge-outcome.result ≡ outcome.Stored = search rules in
    due_found c.args.limits c.args.events.now c.requires.fits c.args.ticket (c.requires.unsettled.0) (c.requires.unsettled.1) c.args.self.now (ticketed_of c.args.self.now c.args.events.now c.requires.stands) c.args.offer.now (start_shown c.unwrap-start.result) found
    c.judge-outcome.result outcome.Memory c.args.self.now.bytes c.requires.stands.bytes c.judge-outcome.ensures.judged (inr (stored, refl))

pub returns-in_default-clause-filled : goal.returns-in_default-clause-filled
returns-in_default-clause-filled c =
    let old : Tables = c.args.self.now in
    filled_idle c.args.limits c.args.events.now c.requires.fits (record old { keys = c.index.new.keys; holders = c.index.new.holders; stamps = c.judge-outcome.new.stamps }) c.args.ticket (Some (got_of c.args.offer.now outcome.Memory)) outcome.Memory
    (λ h. cc h) c.requires.stands.bytes c.in_default.ensures.same_keys c.in_default.ensures.same_holders

pub returns-clause-due : goal.returns-clause-due
returns-clause-due c =
    let found : start_of c.args.events.now c.args.ticket ≡ Some (start_shown c.unwrap-start.result) = sym c.start_in.ensures ∙ ap start_seen c.unwrap-start.ensures in
    let stored : c.judge-outcome.result ≡ outcome.Stored = search rules in
    due_found c.args.limits c.args.events.now c.requires.fits c.args.ticket (c.requires.unsettled.0) (c.requires.unsettled.1) c.args.self.now (ticketed_of c.args.self.now c.args.events.now c.requires.stands) c.args.offer.now (start_shown c.unwrap-start.result) found
    c.judge-outcome.result outcome.Stored c.args.self.now.bytes c.requires.stands.bytes c.judge-outcome.ensures.judged (inl (sym stored))

pub returns-clause-filled : goal.returns-clause-filled
returns-clause-filled c =
    let old : Tables = c.args.self.now in
    let found : start_of c.args.events.now c.args.ticket ≡ Some (start_shown c.unwrap-start.result) = sym c.start_in.ensures ∙ ap start_seen c.unwrap-start.ensures in
    let size : old.bytes + c.size.result ≡ bytes c.args.events.now + offer_size c.args.offer.now = ap (λ n. n + c.size.result) c.requires.stands.bytes ∙ ap (λ n. bytes c.args.events.now + n) c.size.ensures in
    filled_stored c.args.limits c.args.events.now c.requires.fits (record old { bytes = old.bytes + c.size.result; keys = c.index.new.keys; holders = c.index.new.holders; stamps = c.judge-outcome.new.stamps }) c.args.ticket (start_shown c.unwrap-start.result) c.args.offer.now
    (option_copied c.scope-scope.result) found c.scope-scope.ensures size c.in-Ok.ensures.keyed c.in-Ok.ensures.targeted
