-- What references point to, and what serves.
use Rattle.std.proofs.Common.{◌≡◌, ℕ, List, Option, Some, None, refl, ap, sym, ◌∙◌, subst, zero-add}
use Rattle.std.specs.Prelude.{slice_get}
use Rattle.std.specs.Option.{option_map, option_and_then}
use Rattle.std.proofs.lemmas.Option.{same_Some}
use Rattle.cache_terms.specs.declared.keys.Key.{Key}
use Rattle.cache_terms.specs.declared.events.Event.{Event}
use Rattle.cache_terms.specs.declared.events.Event.TheVariants.{Start}
use Rattle.cache_model.specs.Journal.{Started, start_of, Kept, IsHeld, IsFresh, IsServed}
use Rattle.cache_model.proofs.Growth.{start_stands}
use Rattle.book_tables.specs.Pieces.{AreStarts}
use Rattle.book_tables.specs.Refs.{start_by, start_at}
use Rattle.book_tables.specs.Standing.{IsHeldFor}
use Rattle.book_tables.proofs.Keeping.{held_same, held_one}

-- a ticket has its Start where the positions say
pub start_found : (positions : List ℕ) (J : List Event) → AreStarts positions J → (t p : ℕ) → slice_get positions t ≡ Some p → start_at J p ≡ start_of J t
start_found positions J are t p at = from (start_of J t) refl
  where
    from : (o : Option Started) → start_of J t ≡ o → start_at J p ≡ start_of J t
    from None is = absurd (cc (sym at ∙ are t ∙ ap (option_map (λ (s : Started). s.at)) is))
    from (Some s) is =
        let r = start_stands J 0 t s is in
        let place : s.at ≡ p = same_Some s.at p (sym (are t ∙ ap (option_map (λ (x : Started). x.at)) is) ∙ at) in
        let stands : slice_get J p ≡ Some (Start s.who t s.key s.id s.since) = subst (λ (n : ℕ). slice_get J n ≡ Some (Start s.who t s.key s.id s.since)) (sym (zero-add (r.0)) ∙ sym (r.1) ∙ place) (r.2) in
        ap (option_and_then (start_by p)) stands ∙ ap (λ (n : ℕ). Some (record { who = s.who; key = s.key; id = s.id; since = s.since; at = n })) (sym place) ∙ sym is

-- a ticket has no Start where the positions have none
pub start_missing : (positions : List ℕ) (J : List Event) → AreStarts positions J → (t : ℕ) → slice_get positions t ≡ None → start_of J t ≡ None
start_missing positions J are t at = from (start_of J t) refl
  where
    from : (o : Option Started) → start_of J t ≡ o → o ≡ None
    from None is = refl
    from (Some s) is = absurd (cc (sym at ∙ are t ∙ ap (option_map (λ (x : Started). x.at)) is))

-- nothing serves where nothing is held
pub none_serves : (J : List Event) (key : Key) (scope : Option (List ℕ)) (now : ℕ) (o : Option ℕ) → o ≡ None → IsHeldFor J key scope o → IsServed J key scope now None
none_serves J key scope now None is none q s = none q s.kept s.held s.key_is s.scope_is
none_serves J key scope now (Some p) is held q s = absurd (cc is)

-- the piece that is held for the key and scope
pub held_for : (J : List Event) (key : Key) (scope : Option (List ℕ)) (o : Option ℕ) (p : ℕ) → o ≡ Some p → IsHeldFor J key scope o → (k : Kept) × IsHeld J p k × (k.key ≡ key) × (k.scope ≡ scope)
held_for J key scope o p is held = subst (λ (x : Option ℕ). IsHeldFor J key scope x) is held

-- nothing serves where what is held is not fresh
pub stale_serves_none : (J : List Event) (key : Key) (scope : Option (List ℕ)) (now p : ℕ) (k : Kept) → IsHeld J p k → k.key ≡ key → k.scope ≡ scope → (IsFresh k now → ⊥) → IsServed J key scope now None
stale_serves_none J key scope now p k held is_key is_scope stale q s =
    let same : q ≡ p = held_one J q p s.kept k s.held held (s.key_is ∙ sym is_key) (s.scope_is ∙ sym is_scope) in
    let one : s.kept ≡ k = held_same J p s.kept k (subst (λ (n : ℕ). IsHeld J n s.kept) same s.held) held in
    stale (subst (λ (m : Kept). IsFresh m now) one s.fresh)
