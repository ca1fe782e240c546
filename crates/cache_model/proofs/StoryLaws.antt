-- The laws of the three relations on states.
use Rattle.std.proofs.Common.{◌≡◌, ◌≢◌, ℕ, List, [], ◌++◌, All, arith, sym, refl, ap, ◌∙◌, inl, inr, append_assoc}
use Rattle.std.proofs.lemmas.List.{append-nil}
use Rattle.std.proofs.lemmas.List.Elements.{All-append, All-nil, All-weaker}
use Rattle.cache_terms.specs.declared.events.Event.{Event}
use Rattle.cache_model.specs.State.{State}
use Rattle.cache_model.specs.Story.{Adds, Follows, Without, By, who_of}

pub adds_none : (a : State) → Adds a a []
adds_none a = inr (refl, sym (append-nil a.journal))

-- what is added in two steps
adds_more : (P : Event → Type 0) (a b c : State) (ds es : List Event) → Adds a b ds → Adds b c es → All P ds → All P es → (fs : List Event) × Adds a c fs × All P fs
adds_more P a b c ds es (inl (x, y)) (inl (z, w)) p q = (es, inl ((omega arith), w), q)
adds_more P a b c ds es (inl (x, y)) (inr (z, w)) p q = (ds ++ es, inl ((omega arith), w ∙ ap (λ (l : List Event). l ++ es) y), All-append P ds es p q)
adds_more P a b c ds es (inr (x, y)) (inl (z, w)) p q = (es, inl ((omega arith), w), q)
adds_more P a b c ds es (inr (x, y)) (inr (z, w)) p q = (ds ++ es, inr (x ∙ z, w ∙ (ap (λ (l : List Event). l ++ es) y ∙ append_assoc a.journal ds es)), All-append P ds es p q)

any_event : (ds : List Event) → All (λ _. Unit {0}) ds
any_event ds = λ k d less. tt

pub follows_refl : (a : State) → Follows a a
follows_refl a = record { limits = refl; added = []; adds = adds_none a }

pub follows_trans : (a b c : State) → Follows a b → Follows b c → Follows a c
follows_trans a b c f g =
    let h = adds_more (λ _. Unit {0}) a b c f.added g.added f.adds g.adds (any_event f.added) (any_event g.added) in
    record { limits = g.limits ∙ f.limits; added = h.0; adds = h.1 }

pub without_refl : (k : ℕ) (a : State) → Without a a k
without_refl k a = record { limits = refl; added = []; adds = adds_none a; none = All-nil (λ e. who_of e ≢ k) }

pub without_trans : (k : ℕ) (a b c : State) → Without a b k → Without b c k → Without a c k
without_trans k a b c f g =
    let h = adds_more (λ e. who_of e ≢ k) a b c f.added g.added f.adds g.adds f.none g.none in
    record { limits = g.limits ∙ f.limits; added = h.0; adds = h.1; none = h.2 }

pub without_follows : (k : ℕ) (a b : State) → Without a b k → Follows a b
without_follows k a b f = record { limits = f.limits; added = f.added; adds = f.adds }

pub by_follows : (k : ℕ) (a b : State) → By a b k → Follows a b
by_follows k a b f = record { limits = f.limits; added = f.added; adds = f.adds }

pub by_without : (j k : ℕ) (a b : State) → By a b k → j ≢ k → Without a b j
by_without j k a b f n = record { limits = f.limits; added = f.added; adds = f.adds; none = All-weaker (λ e. who_of e ≡ k) (λ e. who_of e ≢ j) (λ e is other. n (sym other ∙ is)) f.added f.all }
