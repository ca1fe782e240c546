use Rattle.std.proofs.Common.{arith, ap, ◌∙◌, ◌∷◌, Some}
use Rattle.turn_lock.proofs.Keeps.{advances_ok}
use Rattle.atomic_table.specs.Table.{rest}
use Rattle.turn_lock.specs.Turns.{turn_over}
use Rattle.turn_lock.proofs.steps.go_out.Goals as goal

pub fetch_add-served-requires : goal.fetch_add-served-requires
fetch_add-served-requires g c = let t = c.requires.table in let q = c.requires.turn in let did = c.exchange.ensures in (
  did.0 ∙ t.0,
  let e = t.1 in omega arith,
  advances_ok g.S.Storied.follows g.S.Storied.without g.S.Storied.by (let l = g.S.Storied in record { follows_refl = l.follows_refl; follows_trans = l.follows_trans; without_refl = l.without_refl; without_trans = l.without_trans; by_follows = l.by_follows; by_without = l.by_without }) _ _ c.exchange.new.seat.me q.0 q.1 q.2 c.args.state (ap (λ m. m.0.parts) did.3 ∙ q.3) (ap (λ m. m.0.stage) did.3 ∙ q.4)
      (ap (λ m. m.1) did.3 ∙ ap (λ cs. (0, Some c.args.state) ∷ rest cs) q.5) q.6,
)

pub returns-clause-view : goal.returns-clause-view
returns-clause-view g c = let q = c.requires.turn in let did = c.exchange.ensures in let went = c.fetch_add-served.ensures.2 c.args.state (ap (λ m. m.1) did.3 ∙ ap (λ cs. (0, Some c.args.state) ∷ rest cs) q.5) in
    λ i. ((went.0 ∙ ap (λ m. turn_over c.args.state m.0) did.3) i, went.1 i)
