use Rattle.std.proofs.Common.{◌≡◌, ◌+◌, [], ◌∷◌, ◌++◌, length, ◌∙◌, ap, sym, arith, append_assoc}
use Rattle.std.proofs.lemmas.List.Elements.{All-append}
use Rattle.std.specs.Prelude.{IsOk}
use Rattle.std.specs.Option.{option_copied}
use Rattle.std.specs.Vec.Iter.{into_iter_items, into_iter_len}
use Rattle.std.proofs.lemmas.Grind.{common_steps}
use Rattle.cache_terms.specs.declared.events.Limits.{Limits}
use Rattle.cache_model.specs.Journal.{starts}
use Rattle.cache_model.specs.Legal.{IsLegal}
use Rattle.book_tables.specs.Standing.{IsLookupOrStart}
use Rattle.cache_book.specs.Looking.{Asked}
use Rattle.cache_book.proofs.Asking.{asked_room, asked_quiet}
use Rattle.cache_book.proofs.Owing.{asks_owed, asks_keep}
use Rattle.cache_book.proofs.Telling.{asks_new, asks_chosen}
use Rattle.cache_book.proofs.Asks.{asks_step, asks_done}
use Rattle.cache_book.proofs.journal.Journal.ask_all.Goals as goal

pub asks-preserved : goal.asks-preserved
asks-preserved c =
    let pass = c.args.pass in
    let id = option_copied c.args.id in
    let J = c.asks.self.events in
    let K = c.ask.new.self.events in
    let key = c.in-Some.key in
    let answer = c.in-Ok.answer in
    let next = rw c.in-Some.is at c.next.ensures.steps in
    let keys = into_iter_items c.asks.key-iterator in
    let rest = into_iter_items c.next.new.self in
    let split : keys ≡ key ∷ rest = next.0 in
    let longer : length keys ≡ length rest + 1 = omega (arith, ap length split) in
    let fewer : into_iter_len c.next.new.self + 1 ≡ into_iter_len c.asks.key-iterator = next.1 in
    let one : Asked pass id c.args.now key J answer K = c.in-Ok.ensures.ok in
    let more = asked_quiet pass id c.args.now key J answer K one in
    let went = c.asks.invariant.went in
    let ok : IsOk c.push.result = c.push.ensures.succeeds (omega (arith, fewer, c.asks.invariant.slots)) in
    let pushed : c.push.new.self.items ≡ c.asks.answers.items ++ answer ∷ [] = grind (arith, common_steps, ok) in
    record {
      rest = λ fs L h. rw pushed (asks_step pass id c.args.now c.args.asks.items keys rest key c.args.self.now.events J K c.asks.answers.items answer split one c.asks.invariant.rest fs L h);
      limits = c.ask.ensures.limits ∙ c.asks.invariant.limits;
      probes = c.ask.ensures.probes ∙ c.asks.invariant.probes;
      went = (went.0 ++ more.0, more.1 ∙ ap (λ l. l ++ more.0) went.1 ∙ append_assoc c.args.self.now.events (went.0) (more.0), All-append IsLookupOrStart (went.0) (more.0) went.2 more.2);
      room = omega (arith, c.asks.invariant.room, longer, asked_room pass id c.args.now key J answer K one);
      slots = omega (arith, c.asks.invariant.slots, c.push.ensures.upper_bound, c.push.ensures.capacity, fewer);
    }

pub ask-requires : goal.ask-requires
ask-requires c =
    let next = rw c.in-Some.is at c.next.ensures.steps in
    let longer : length (into_iter_items c.asks.key-iterator) ≡ length (into_iter_items c.next.new.self) + 1 = omega (arith, ap length next.0) in
    omega (arith, c.asks.invariant.room, longer, ap (λ (l : Limits). l.events) c.asks.invariant.limits)

pub roll_back-requires : goal.roll_back-requires
roll_back-requires c =
    let went = c.asks.invariant.went in
    let legal : IsLegal c.args.self.now.limits c.args.self.now.events = rw (← c.self.view_is) c.self.invariant.0 in
    let len : c.len-before.result ≡ length c.args.self.now.events = rw (← c.self.view_is) (c.len-before.ensures ∙ c.self.inside.events.ok.0) in
    let started : c.starts-started.result ≡ starts c.args.self.now.events = rw (← c.self.view_is) (c.starts-started.ensures ∙ c.self.invariant.3.count) in
    record {
      front = c.args.self.now.events;
      more = went.0;
      split = c.in-Err.ensures.err ∙ went.1;
      length_is = sym len;
      quiet = went.2;
      legal = rw (c.ask.ensures.limits, c.asks.invariant.limits) legal;
      starts_is = sym started;
    }

pub returns-clause-ok : goal.returns-clause-ok
returns-clause-ok c =
    let ended = rw c.in-None.is at c.next.ensures.steps in
    let none : length (into_iter_items c.asks.key-iterator) ≡ 0 = omega (arith, ended.0, c.asks.key-iterator.rest.ok.0) in
    asks_done c.args.pass (option_copied c.args.id) c.args.now c.args.asks.items (into_iter_items c.asks.key-iterator) c.args.self.now.events c.asks.self.events c.asks.answers.items none c.asks.invariant.rest

pub returns-clause-owed : goal.returns-clause-owed
returns-clause-owed c =
    let legal : IsLegal c.args.self.now.limits c.args.self.now.events = rw (← c.self.view_is) c.self.invariant.0 in
    λ epoch. rw (c.asks.invariant.limits) (asks_owed c.args.self.now.limits epoch c.asks.self.probes c.args.pass (option_copied c.args.id) c.args.now c.args.asks.items c.args.self.now.events c.asks.answers.items c.asks.self.events legal c.requires.room (returns-clause-ok c))

pub returns-clause-keeps : goal.returns-clause-keeps
returns-clause-keeps c = λ t s h. asks_keep c.args.pass (option_copied c.args.id) c.args.now c.args.asks.items c.args.self.now.events c.asks.answers.items c.asks.self.events (returns-clause-ok c) t s h

pub returns-clause-tickets : goal.returns-clause-tickets
returns-clause-tickets c =
    let legal : IsLegal c.args.self.now.limits c.args.self.now.events = rw (← c.self.view_is) c.self.invariant.0 in
    asks_new c.args.self.now.limits c.args.pass (option_copied c.args.id) c.args.now c.args.asks.items c.args.self.now.events c.asks.answers.items c.asks.self.events legal.each (returns-clause-ok c)

pub returns-clause-chosen : goal.returns-clause-chosen
returns-clause-chosen c =
    let legal : IsLegal c.args.self.now.limits c.args.self.now.events = rw (← c.self.view_is) c.self.invariant.0 in
    asks_chosen c.args.self.now.limits c.args.pass (option_copied c.args.id) c.args.now c.args.asks.items c.args.self.now.events c.asks.answers.items c.asks.self.events legal c.requires.room (returns-clause-ok c)
