use Rattle.std.proofs.Common.{◌≡◌, ◌∙◌, ap, ◌+◌, ◌∷◌, [], ◌++◌, max, arith, length-append}
use Rattle.plan_tree.specs.Lawful.{deepest}
use Rattle.plan_book.proofs.Each.{deepest-append}
use Rattle.plan_book.proofs.nodes.enter.Goals as goal

pub returns-clause-levels : goal.returns-clause-levels
returns-clause-levels c =
    let e : c.push.new.self.items ≡ c.args.draft.now.levels.items ++ ((c.args.around + 1) ∷ []) = c.in_ok-push.ensures.items in
    let d : deepest (c.args.draft.now.levels.items ++ ((c.args.around + 1) ∷ [])) ≡ max (deepest c.args.draft.now.levels.items) (max (c.args.around + 1) 0) = deepest-append c.args.draft.now.levels.items ((c.args.around + 1) ∷ []) in
    record { deepest_is = ap deepest e ∙ d ∙ omega arith; longer = rw e (simp length-append (omega arith)) }

pub returns-clause-inside : goal.returns-clause-inside
returns-clause-inside c =
    let e : c.push.new.self.items ≡ c.args.draft.now.levels.items ++ ((c.args.around + 1) ∷ []) = c.in_ok-push.ensures.items in
    let d : deepest (c.args.draft.now.levels.items ++ ((c.args.around + 1) ∷ [])) ≡ max (deepest c.args.draft.now.levels.items) (max (c.args.around + 1) 0) = deepest-append c.args.draft.now.levels.items ((c.args.around + 1) ∷ []) in
    let n = c.requires.noted in
    record { noted = rw e (simp length-append (omega arith)); reached = rw e (omega arith) }
