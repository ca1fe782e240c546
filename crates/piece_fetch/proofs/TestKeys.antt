-- What the tests' builders make.
use Rattle.std.proofs.Common.{◌≡◌, List, [], ◌∷◌, ◌++◌, All}
use Rattle.std.specs.Prelude.{codes}
use Rattle.std.proofs.lemmas.List.Elements.{All-nil, All-cons, All-append}
use Rattle.cache_terms.specs.declared.keys.Key.{Key}

abbrev IsOfShop : Key → Type 0
IsOfShop key = key.sub ≡ codes "shop"

pub named_none : All IsOfShop []
named_none = All-nil IsOfShop

pub named_push : (ks : List Key) (k : Key) → All IsOfShop ks → k.sub ≡ codes "shop" → All IsOfShop (ks ++ k ∷ [])
named_push ks k all one = All-append IsOfShop ks (k ∷ []) all (All-cons IsOfShop k [] one (All-nil IsOfShop))
