-- What the indexes say of pieces after one more was put in, or after that was undone.
use Rattle.std.proofs.Common.{◌≡◌, inl, inr, ℕ, ◌<◌, Bool, true, false, List, [], ◌∷◌, ◌++◌, length, Option, Some, None, refl, ap, sym, ◌∙◌, subst, arith}
use Rattle.std.specs.Option.{option_map}
use Rattle.std.proofs.lemmas.Option.{same_Some}
use Rattle.cache_terms.specs.declared.keys.Key.{Key}
use Rattle.cache_terms.specs.declared.tags.Tags.{Tags}
use Rattle.cache_terms.specs.declared.events.Event.{Event}
use Rattle.cache_terms.specs.declared.events.Event.TheVariants.{Settle}
use Rattle.cache_terms.specs.declared.events.Outcome.TheVariants as outcome
use Rattle.cache_terms.specs.declared.events.Got.{Got}
use Rattle.cache_terms.specs.declared.events.Limits.{Limits}
use Rattle.cache_terms.specs.Keys.{Covers}
use Rattle.cache_model.specs.Journal.{Started, start_of, Kept, kept_by, kept_of, IsHeld}
use Rattle.cache_model.specs.Legal.{EachFits}
use Rattle.cache_model.proofs.Tickets.{start_before}
use Rattle.book_index.specs.declared.key_index.KeyIndex.{KeyIndex}
use Rattle.book_index.specs.declared.tag_index.TagIndex.{TagIndex}
use Rattle.book_index.specs.Positions.{SetsKey}
use Rattle.book_index.specs.Under.{is_under, SetsUnder, HasSameUnder}
use Rattle.book_tables.specs.declared.refs.KeptRef.{KeptRef}
use Rattle.book_tables.specs.Refs.{kept_shown}
use Rattle.book_tables.specs.Pieces.{Keyed, Targeted, DropsBefore, Supersedes, IsNewPosition, IsSuperseded, Replaced, IsPlaced}
use Rattle.book_tables.proofs.Deciding.{Either, covers_or_not}
use Rattle.book_tables.proofs.Keeping.{kept_within, held_push, held_last, held_back, held_same, held_one}
use Rattle.book_tables.proofs.Placing.{With, Without, number_or_not, keyed_same, targeted_same, keyed_replaced, targeted_with, targeted_without}

-- a new position that is taken out again
pub undone : (old mid new : TagIndex) (key : Key) (tags : Tags) (q : ℕ) → IsNewPosition old q → SetsUnder old mid key tags q true → SetsUnder mid new key tags q false → HasSameUnder old new
undone old mid new key tags q fresh put taken target p = from (number_or_not p q) (covers_or_not target key tags)
  where
    absent : (b : Bool) → is_under old target q ≡ b → false ≡ b
    absent false is = refl
    absent true is = absurd (fresh target is)

    from : Either (p ≡ q) → Either (Covers target key tags) → is_under new target p ≡ is_under old target p
    from (inl same) (inl covers) = ap (is_under new target) same ∙ taken.covering target covers ∙ absent (is_under old target q) refl ∙ ap (is_under old target) (sym same)
    from (inr other) c = taken.others target p (λ h. other h.1) ∙ put.others target p (λ h. other h.1)
    from (inl same) (inr bare) = taken.others target p (λ h. bare h.0) ∙ put.others target p (λ h. bare h.0)

-- no piece is held at the end
pub end_is_new : (J : List Event) (holders : TagIndex) → Targeted holders (IsHeld J) → IsNewPosition holders (length J)
end_is_new J holders targeted target is =
    let r = targeted.forth target (length J) is in
    past (kept_within J (length J) (r.0) r.1.kept)
  where
    past : length J < length J → ⊥
    past h = omega (arith, h)

pub placed_keyed : (J : List Event) (old new : KeyIndex) (key : Key) (scope : Option (List ℕ)) (tags : Tags) → Keyed old (IsHeld J) → SetsKey old new key scope (Some (length J)) → IsPlaced J key scope tags (Keyed new)
placed_keyed J old new key scope tags keyed sets k is_key is_scope is_tags =
    let set : SetsKey old new k.key k.scope (Some (length J)) = subst (λ x. SetsKey old new x k.scope (Some (length J))) (sym is_key) (subst (λ x. SetsKey old new key x (Some (length J))) (sym is_scope) sets) in
    keyed_replaced old new (IsHeld J) (length J) k keyed set

pub placed_targeted : (J : List Event) (old new : TagIndex) (key : Key) (scope : Option (List ℕ)) (tags : Tags) (superseded : Option (ℕ × KeptRef)) → Targeted old (IsHeld J) → Supersedes old new key tags (length J) superseded → IsSuperseded J key scope superseded
    → IsPlaced J key scope tags (Targeted new)
placed_targeted J old new key scope tags superseded targeted (mid, added, drops) is k is_key is_scope is_tags = from superseded drops is
  where
    add : SetsUnder old mid k.key k.tags (length J) true
    add = subst (λ x. SetsUnder old mid x k.tags (length J) true) (sym is_key) (subst (λ x. SetsUnder old mid key x (length J) true) (sym is_tags) added)

    below : (q : ℕ) (m : Kept) → IsHeld J q m → q ≡ length J → ⊥
    below q m h same = past q (kept_within J q m h.kept) same
      where
        past : (q : ℕ) → q < length J → q ≡ length J → ⊥
        past q less same = omega (arith, less, same)

    more : Targeted mid (With (IsHeld J) (length J) k)
    more = targeted_with old mid (IsHeld J) (length J) k (λ m h. below (length J) m h refl) targeted add

    from : (superseded : Option (ℕ × KeptRef)) → DropsBefore mid superseded new → IsSuperseded J key scope superseded → Targeted new (Replaced (IsHeld J) (length J) k)
    from None same none = subst (λ h. Targeted h (Replaced (IsHeld J) (length J) k)) (sym same) (targeted_same mid (With (IsHeld J) (length J) k) (Replaced (IsHeld J) (length J) k) forth back more)
      where
        forth : (r : ℕ) (m : Kept) → With (IsHeld J) (length J) k r m → Replaced (IsHeld J) (length J) k r m
        forth r m (inl h) = inl (h, λ a b. none r m h (a ∙ is_key) (b ∙ is_scope))
        forth r m (inr h) = inr h

        back : (r : ℕ) (m : Kept) → Replaced (IsHeld J) (length J) k r m → With (IsHeld J) (length J) k r m
        back r m (inl h) = inl h.0
        back r m (inr h) = inr h
    from (Some (p, kept)) sets (held, its_key, its_scope) = targeted_same new (Without (With (IsHeld J) (length J) k) p) (Replaced (IsHeld J) (length J) k) forth back
        (targeted_without mid new (With (IsHeld J) (length J) k) p (kept_shown kept) one more sets)
      where
        one : (m : Kept) → With (IsHeld J) (length J) k p m → m ≡ kept_shown kept
        one m (inl h) = held_same J p m (kept_shown kept) h held
        one m (inr h) = absurd (below p (kept_shown kept) held h.0)

        forth : (r : ℕ) (m : Kept) → Without (With (IsHeld J) (length J) k) p r m → Replaced (IsHeld J) (length J) k r m
        forth r m (inl h, other) = inl (h, λ a b. other (held_one J r p m (kept_shown kept) h held (a ∙ is_key ∙ sym its_key) (b ∙ is_scope ∙ sym its_scope)))
        forth r m (inr h, other) = inr h

        back : (r : ℕ) (m : Kept) → Replaced (IsHeld J) (length J) k r m → Without (With (IsHeld J) (length J) k) p r m
        back r m (inl h) = (inl h.0, λ same. apart m h.1 (held_same J p m (kept_shown kept) (subst (λ (n : ℕ). IsHeld J n m) same h.0) held))
          where
            apart : (m : Kept) → (m.key ≡ k.key → m.scope ≡ k.scope → ⊥) → m ≡ kept_shown kept → ⊥
            apart m other same = other (ap (λ (x : Kept). x.key) same ∙ its_key ∙ sym is_key) (ap (λ (x : Kept). x.scope) same ∙ its_scope ∙ sym is_scope)
        back r m (inr h) = (inr h, λ same. below p (kept_shown kept) held (sym same ∙ h.0))

-- A STORED SETTLE

module _ (limits : Limits) (J : List Event) (each : EachFits limits J) (who t : ℕ) (got : Got) (s : Started) (started : start_of J t ≡ Some s) where
  keeps : kept_of (J ++ Settle who t (Some got) outcome.Stored ∷ []) (Settle who t (Some got) outcome.Stored) ≡ Some (kept_by got s)
  keeps = ap (option_map (kept_by got)) (start_before J (Settle who t (Some got) outcome.Stored ∷ []) 0 t s started)

  stored_forth : (r : ℕ) (m : Kept) → Replaced (IsHeld J) (length J) (kept_by got s) r m → IsHeld (J ++ Settle who t (Some got) outcome.Stored ∷ []) r m
  stored_forth r m (inl (h, apart)) = held_push limits J (Settle who t (Some got) outcome.Stored) each r m h (record {
    apart = λ n keeps_n key scope. spared n (same_Some n (kept_by got s) (sym keeps_n ∙ keeps)) key scope;
    uncovered = λ c. c;
  })
    where
      spared : (n : Kept) → n ≡ kept_by got s → n.key ≡ m.key → n.scope ≡ m.scope → ⊥
      spared n same key scope = apart (sym key ∙ ap (λ (x : Kept). x.key) same) (sym scope ∙ ap (λ (x : Kept). x.scope) same)
  stored_forth r m (inr (at, same)) = subst (λ (n : ℕ). IsHeld (J ++ Settle who t (Some got) outcome.Stored ∷ []) n m) (sym at) (subst (λ (x : Kept). IsHeld (J ++ Settle who t (Some got) outcome.Stored ∷ []) (length J) x) (sym same) (held_last J (Settle who t (Some got) outcome.Stored) (kept_by got s) keeps))

  stored_back : (r : ℕ) (m : Kept) → IsHeld (J ++ Settle who t (Some got) outcome.Stored ∷ []) r m → Replaced (IsHeld J) (length J) (kept_by got s) r m
  stored_back r m h = elim (held_back limits J (Settle who t (Some got) outcome.Stored) each r m h) [
    | inl was ↦ inl (was.0, λ a b. was.1.apart (kept_by got s) keeps (sym a) (sym b))
    | inr new ↦ inr (new.0, same_Some m (kept_by got s) (sym new.1 ∙ keeps))
  ]

  pub stored_keyed : (keys : KeyIndex) → Keyed keys (Replaced (IsHeld J) (length J) (kept_by got s)) → Keyed keys (IsHeld (J ++ Settle who t (Some got) outcome.Stored ∷ []))
  stored_keyed keys = keyed_same keys (Replaced (IsHeld J) (length J) (kept_by got s)) (IsHeld (J ++ Settle who t (Some got) outcome.Stored ∷ [])) stored_forth stored_back

  pub stored_targeted : (holders : TagIndex) → Targeted holders (Replaced (IsHeld J) (length J) (kept_by got s)) → Targeted holders (IsHeld (J ++ Settle who t (Some got) outcome.Stored ∷ []))
  stored_targeted holders = targeted_same holders (Replaced (IsHeld J) (length J) (kept_by got s)) (IsHeld (J ++ Settle who t (Some got) outcome.Stored ∷ [])) stored_forth stored_back
