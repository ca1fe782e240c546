-- Asks one after another.
use Rattle.std.proofs.Common.{◌≡◌, ℕ, List, [], ◌∷◌, ◌++◌, length, take, Option, refl, ap, sym, ◌∙◌, arith, subst, append_assoc}
use Rattle.std.proofs.lemmas.List.{append-nil}
use Rattle.cache_terms.specs.declared.keys.Key.{Key}
use Rattle.cache_terms.specs.declared.events.Event.{Event}
use Rattle.cache_book.specs.declared.found.Found.{Found}
use Rattle.cache_book.specs.Permits.{Pinned}
use Rattle.cache_book.specs.Looking.{Asked, AskedAll}
use Rattle.cache_model.proofs.Growth.{take_all}
use Rattle.cache_book.proofs.Asking.{asked_appends}

-- one more ask
pub asked_more : (pass : Pinned) (id : Option (List ℕ)) (now : ℕ) (keys : List Key) (J : List Event) (answers : List Found) (M : List Event) (key : Key) (answer : Found) (K : List Event)
    → AskedAll pass id now keys J answers M → Asked pass id now key M answer K → AskedAll pass id now (keys ++ key ∷ []) J (answers ++ answer ∷ []) K
asked_more pass id now [] J [] M key answer K all one = (K, subst (λ (X : List Event). Asked pass id now key X answer K) all one, refl)
asked_more pass id now (k ∷ keys) J (a ∷ answers) M key answer K all one = (all.0, all.1, asked_more pass id now keys (all.0) answers M key answer K (all.2) one)
asked_more pass id now [] J (a ∷ answers) M key answer K all one = absurd all
asked_more pass id now (k ∷ keys) J [] M key answer K all one = absurd all

-- asks only append
pub asks_append : (pass : Pinned) (id : Option (List ℕ)) (now : ℕ) (keys : List Key) (J : List Event) (answers : List Found) (K : List Event) → AskedAll pass id now keys J answers K → (added : List Event) × (K ≡ J ++ added)
asks_append pass id now [] J [] K all = ([], all ∙ sym (append-nil J))
asks_append pass id now (k ∷ keys) J (a ∷ answers) K all =
    let first = asked_appends pass id now k J a (all.0) (all.1) in
    let rest = asks_append pass id now keys (all.0) answers K (all.2) in
    (first.0 ++ rest.0, rest.1 ∙ ap (λ (l : List Event). l ++ rest.0) first.1 ∙ append_assoc J (first.0) (rest.0))
asks_append pass id now [] J (a ∷ answers) K all = absurd all
asks_append pass id now (k ∷ keys) J [] K all = absurd all

-- what was there is the front
pub asks_front : (pass : Pinned) (id : Option (List ℕ)) (now : ℕ) (keys : List Key) (J : List Event) (answers : List Found) (K : List Event) → AskedAll pass id now keys J answers K → take (length J) K ≡ J
asks_front pass id now keys J answers K all = let r = asks_append pass id now keys J answers K all in ap (take (length J)) (r.1) ∙ take_all J (r.0)

-- the asks that are left, after one
pub asks_step : (pass : Pinned) (id : Option (List ℕ)) (now : ℕ) (all asks rest : List Key) (key : Key) (J0 J K : List Event) (answers : List Found) (answer : Found)
    → asks ≡ key ∷ rest → Asked pass id now key J answer K
    → ((more : List Found) (L : List Event) → AskedAll pass id now asks J more L → AskedAll pass id now all J0 (answers ++ more) L)
    → (more : List Found) (L : List Event) → AskedAll pass id now rest K more L → AskedAll pass id now all J0 ((answers ++ answer ∷ []) ++ more) L
asks_step pass id now all asks rest key J0 J K answers answer split one so_far more L h =
    let next : AskedAll pass id now asks J (answer ∷ more) L = subst (λ (ks : List Key). AskedAll pass id now ks J (answer ∷ more) L) (sym split) (K, one, h) in
    subst (λ (fs : List Found). AskedAll pass id now all J0 fs L) (sym (append_assoc answers (answer ∷ []) more)) (so_far (answer ∷ more) L next)

-- the front stays
pub front_kept : {X : Type 0} (xs ys zs : List X) → take (length xs) ys ≡ xs → take (length xs) (ys ++ zs) ≡ xs
front_kept [] ys zs h = refl
front_kept (x ∷ xs) [] zs h = absurd (cc h)
front_kept (x ∷ xs) (y ∷ ys) zs h =
    let rest = front_kept xs ys zs (cc h) in
    cc (h, rest)

-- no asks are left
pub asks_done : (pass : Pinned) (id : Option (List ℕ)) (now : ℕ) (all asks : List Key) (J0 K : List Event) (answers : List Found) → length asks ≡ 0
    → ((more : List Found) (L : List Event) → AskedAll pass id now asks K more L → AskedAll pass id now all J0 (answers ++ more) L)
    → AskedAll pass id now all J0 answers K
asks_done pass id now all [] J0 K answers none so_far = subst (λ (fs : List Found). AskedAll pass id now all J0 fs K) (append-nil answers) (so_far [] K refl)
asks_done pass id now all (k ∷ asks) J0 K answers none so_far = absurd (omega (arith, none))
