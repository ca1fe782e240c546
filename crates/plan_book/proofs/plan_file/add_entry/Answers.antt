use Rattle.std.proofs.Common.{◌≡◌, ◌∙◌, ap, sym, Bool, true, false, [], ◌∷◌, ◌++◌}
use Rattle.std.specs.Prelude.{if◌then◌else◌}
use Rattle.plan_book.specs.Book.{has_entry}
use Rattle.plan_book.proofs.Entering.{not_there, is_there, joins, is_double}
use Rattle.plan_book.proofs.plan_file.add_entry.Goals as goal

pub returns-then-branch-clause-entry : goal.returns-then-branch-clause-entry
returns-then-branch-clause-entry c =
    let new : has_entry c.in_ok-entry.entry.text c.args.book.now.entries.items ≡ false = not_there (has_entry c.in_ok-entry.entry.text c.args.book.now.entries.items) (sym c.in_ok-add.ensures.added ∙ c.if-branch.true) in (
      c.in_ok-entry.entry,
      joins c.args.number c.args.book.now.entries.items c.args.value.now c.in_ok-entry.entry c.in_ok-entry.ensures new,
      c.in_ok-add.ensures.entries ∙ ap (λ (b : Bool). if b then c.args.book.now.entries.items ++ (c.in_ok-entry.entry ∷ []) else c.args.book.now.entries.items) c.if-branch.true,
    )

pub returns-else-branch-clause-fault : goal.returns-else-branch-clause-fault
returns-else-branch-clause-fault c = λ ne.
    let there : has_entry c.in_ok-entry.entry.text c.args.book.now.entries.items ≡ true = is_there (has_entry c.in_ok-entry.entry.text c.args.book.now.entries.items) (sym c.in_ok-add.ensures.added ∙ c.if-branch.false) in
    is_double c.args.number c.args.book.now.entries.items c.args.value.now c.in_ok-entry.entry c.in_ok-entry.ensures there
