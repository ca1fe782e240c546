-- The call for some of a fetch's pieces.
use Rattle.std.specs.Prelude.{ℕ, List, [], ◌∷◌, ◌++◌, map, Option}
use Rattle.cache_book.specs.Permits.{Granted}
use Rattle.line_base.specs.declared.line.Call as line
use Rattle.fetch_asks.specs.declared.ask.Ask.{Ask}

-- with a comma between one and the next
abbrev pub joined : List (List ℕ) → List ℕ
joined [] = []
joined (text ∷ []) = text
joined (text ∷ next ∷ texts) = text ++ (44 ∷ joined (next ∷ texts))

abbrev pub representation_of : Granted → List ℕ
representation_of permit = permit.key.rep

-- the call that asks for the pieces of these permits, in their order
abbrev pub call_of : Ask → Option (List ℕ) → List Granted → line.Call
call_of ask id permits = record {
  sub = ask.sub;
  name = ask.name;
  body = ask.front ++ (joined (map representation_of permits) ++ ask.back);
  id = id;
}
