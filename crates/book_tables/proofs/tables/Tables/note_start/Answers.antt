use Rattle.std.proofs.Common.{arith, ◌≡◌, [], ◌∷◌, ◌++◌, length, false}
use Rattle.std.proofs.lemmas.Grind.{common_steps}
use Rattle.book_tables.proofs.Standings.{start_stands}
use Rattle.book_tables.proofs.tables.Tables.note_start.Goals as goal

pub returns-clause-stands : goal.returns-clause-stands
returns-clause-stands c = λ who key id now.
    let starts : c.push.new.self.items ≡ c.args.self.now.starts.items ++ length c.args.events.now ∷ [] = grind (arith, common_steps) in
    let settled : c.push-2.new.self.items ≡ c.args.self.now.settled.items ++ false ∷ [] = grind (arith, common_steps) in
    start_stands c.args.self.now c.args.events.now c.push.new.self c.push-2.new.self who key id now c.requires.regular c.requires.stands starts settled c.push.ensures.capacity c.push-2.ensures.capacity
