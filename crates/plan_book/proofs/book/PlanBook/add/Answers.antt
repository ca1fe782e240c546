use Rattle.std.proofs.Common.{◌≡◌, sym, ◌∙◌, ap, true, false, not}
use Rattle.std.specs.List.{list_any}
use Rattle.std.specs.Str.{bytes_eq}
use Rattle.plan_book.specs.Book.{has_entry}
use Rattle.plan_book.proofs.Found.{has-any}
use Rattle.plan_book.proofs.book.PlanBook.add.Goals as goal

pub returns-then-contains-clause-added : goal.returns-then-contains-clause-added
returns-then-contains-clause-added c =
    let there : has_entry c.args.entry.text c.args.self.now.entries.items ≡ true =
    sym (has-any c.args.entry.text c.args.self.now.entries.items) ∙ ap (list_any (bytes_eq c.args.entry.text)) (sym c.args.self.now.indexed) ∙ sym c.contains.ensures ∙ c.if-contains.true in
    sym (ap not there)

pub returns-clause-added : goal.returns-clause-added
returns-clause-added c =
    let new : has_entry c.args.entry.text c.args.self.now.entries.items ≡ false =
    sym (has-any c.args.entry.text c.args.self.now.entries.items) ∙ ap (list_any (bytes_eq c.args.entry.text)) (sym c.args.self.now.indexed) ∙ sym c.contains.ensures ∙ c.if-contains.false in
    sym (ap not new)
