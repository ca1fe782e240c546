use Rattle.std.proofs.Common.{◌≡◌, ℕ, sym, subst, List, Vec, Global}
use Rattle.std.specs.Option.{option_copied}
use Rattle.cache_book.specs.declared.found.Found.{Found}
use Rattle.cache_model.specs.State.{State}
use Rattle.cache_book.specs.Bounded.{in_epoch}
use Rattle.cache_book.specs.Owed.{AreOwed}
use Rattle.cache_book.specs.Looking.{bypassed}
use Rattle.cache_book.proofs.Owing.{permits_kept, bypassed_owed, mark_free, IfOk_then}
use Rattle.cache_book.specs.Shown.{AreNew, AreChosen, tickets_of}
use Rattle.cache_book.proofs.Telling.{bypassed_new, bypassed_chosen, mark_is_none}
use Rattle.cache_book.proofs.book.Book.look.Goals as goal

pub returns-in-None-clause-keeps : goal.returns-in-None-clause-keeps
returns-in-None-clause-keeps c = rw (← c.self.view_is, c.ask_all.ensures.limits, c.ask_all.ensures.probes) (permits_kept c.self.inside.journal.limits c.self.inside.epoch c.self.inside.journal.probes c.self.inside.journal.events c.ask_all.new.self.events c.ask_all.ensures.keeps)

pub returns-in-None-clause-owed : goal.returns-in-None-clause-owed
returns-in-None-clause-owed c =
    let E = c.self.inside.epoch in
    let j = c.ask_all.new.self in
    IfOk_then c.ask_all.result (λ (v : Vec Found Global). (epoch : ℕ) → AreOwed (in_epoch epoch j) v.items) (λ (v : Vec Found Global). AreOwed (in_epoch E j) v.items) c.ask_all.ensures.owed (λ v owed. owed E)

pub returns-in-Some-clause-owed : goal.returns-in-Some-clause-owed
returns-in-Some-clause-owed c =
    let L = c.self.inside.journal.limits in
    let E = c.self.inside.epoch in
    let J = c.self.inside.journal.events in
    let s : State = record { limits = L; epoch = E; journal = J; probes = c.self.inside.journal.probes } in
    let pass = c.args.pass.now in
    let id = option_copied c.args.id in
    let m = c.in-Some.mark in
    let keys = c.args.asks.items in
    let free = mark_free s pass c.len.result m c.in-Some.ensures in
    IfOk_then c.bypass_all.result (λ (v : Vec Found Global). v.items ≡ bypassed pass id m keys) (λ (v : Vec Found Global). AreOwed c.args.self.now v.items) c.bypass_all.ensures (λ v same. subst (λ (fs : List Found). AreOwed c.args.self.now fs) (sym same) (bypassed_owed c.args.self.now pass id m keys (free c.args.self.now)))

pub returns-in-Some-clause-tickets : goal.returns-in-Some-clause-tickets
returns-in-Some-clause-tickets c =
    let J = c.self.inside.journal.events in
    let s : State = record { limits = c.self.inside.journal.limits; epoch = c.self.inside.epoch; journal = J; probes = c.self.inside.journal.probes } in
    let pass = c.args.pass.now in
    let id = option_copied c.args.id in
    let m = c.in-Some.mark in
    let keys = c.args.asks.items in
    let none = mark_is_none s pass c.len.result m c.in-Some.ensures in
    rw (← c.self.view_is) (IfOk_then c.bypass_all.result (λ (v : Vec Found Global). v.items ≡ bypassed pass id m keys) (λ (v : Vec Found Global). AreNew J (tickets_of v.items)) c.bypass_all.ensures (λ v same. subst (λ (fs : List Found). AreNew J (tickets_of fs)) (sym same) (bypassed_new J pass id m keys none)))

pub returns-in-Some-clause-chosen : goal.returns-in-Some-clause-chosen
returns-in-Some-clause-chosen c =
    let J = c.args.self.now.journal in
    let pass = c.args.pass.now in
    let id = option_copied c.args.id in
    let m = c.in-Some.mark in
    let keys = c.args.asks.items in
    IfOk_then c.bypass_all.result (λ (v : Vec Found Global). v.items ≡ bypassed pass id m keys) (λ (v : Vec Found Global). AreChosen J id c.args.now keys v.items) c.bypass_all.ensures (λ v same. subst (λ (fs : List Found). AreChosen J id c.args.now keys fs) (sym same) (bypassed_chosen J pass id m c.args.now keys))
