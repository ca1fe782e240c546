use Rattle.std.proofs.Common.{rules, ◌≡◌, ℕ, List}
use Rattle.std.specs.FinMap as map
use Rattle.cache_terms.specs.declared.keys.Target.TheVariants.{Subgraph, OfType}
use Rattle.cache_model.specs.Journal.{IsLast}
use Rattle.book_index.specs.Stamps.{Stamped, later, IsTagNoted}
use Rattle.book_index.proofs.Latest.{IsWholeNoted, last_whole, last_known}
use Rattle.book_index.proofs.stamps.last_of.Goals as goal

pub returns-in-Known-clause-last : goal.returns-in-Known-clause-last
returns-in-Known-clause-last c =
    let s : Stamped = c.args.table.now in
    let whole : c.later-whole.result ≡ later (map.get s.stamps (Subgraph c.args.key.now.sub)) (map.get s.stamps (OfType c.args.key.now.sub c.args.key.now.type_name)) = search rules in
    let la : IsLast (IsWholeNoted s.stamps c.args.key.now) c.later-whole.result = rw whole (last_whole s.stamps c.args.key.now) in
    let tags : List (List ℕ) = c.in-Known.tags in
    let lb : IsLast (IsTagNoted s.stamps c.args.key.now.sub tags) c.last_of_tags.result = search (rules) in
    rw (c.later.ensures, c.in-Known.is) (last_known s.stamps c.args.key.now tags c.later-whole.result c.last_of_tags.result la lb)
