use Rattle.std.proofs.Common.{◌≡◌, sym, ◌∙◌, ap, false, List}
use Rattle.std.specs.Prelude.{slice_get}
use Rattle.std.specs.List.{list_any}
use Rattle.std.specs.Str.{bytes_eq}
use Rattle.plan_book.specs.declared.book.Entry.{Entry}
use Rattle.plan_book.specs.Book.{has_entry}
use Rattle.plan_book.proofs.Found.{has-any, absent, found_at}
use Rattle.plan_book.proofs.book.PlanBook.find.Goals as goal

pub returns-in_default : goal.returns-in_default
returns-in_default c =
    let none : has_entry c.args.text.now c.args.self.now.entries.items ≡ false = sym (has-any c.args.text.now c.args.self.now.entries.items) ∙ ap (list_any (bytes_eq c.args.text.now)) (sym c.args.self.now.indexed) ∙ sym c.in_default.ensures.found in
    sym (absent c.args.text.now c.args.self.now.entries.items none)

pub returns : goal.returns
returns c =
    c.at.ensures ∙ ap (λ (es : List Entry). slice_get es c.in-Some.index) c.deref.ensures.value
    ∙ found_at c.args.text.now c.args.self.now.entries.items c.args.self.now.texts.keys c.in-Some.index c.args.self.now.indexed c.in-Some.ensures.index
