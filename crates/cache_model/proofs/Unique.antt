-- What a journal says is one thing: a choice, an outcome, a count.
use Rattle.std.proofs.Common.{◌≡◌, ◌≢◌, ◌⊎◌, inl, inr, ℕ, zero, suc, ◌+◌, ◌<◌, List, Option, Some, None, refl, ap, sym, ◌∙◌, arith, subst}
use Rattle.std.specs.Prelude.{IsSomeAnd, is_some}
use Rattle.cache_terms.specs.declared.keys.Key.{Key}
use Rattle.cache_terms.specs.declared.events.Got.{Got}
use Rattle.cache_terms.specs.declared.events.Limits.{Limits}
use Rattle.cache_terms.specs.declared.events.Event.{Event}
use Rattle.cache_terms.specs.declared.events.Outcome.{Outcome}
use Rattle.cache_terms.specs.declared.events.Outcome.TheVariants as outcome
use Rattle.cache_terms.specs.declared.reasons.Why.{Why}
use Rattle.cache_terms.specs.Offers.{why_of}
use Rattle.cache_model.specs.Journal.{Started, bytes, IsLast, IsCount, IsLastCover, Serves, IsServed, IsChoice}
use Rattle.cache_model.specs.Legal.{IsDue, IsDueBy, IsOrMemory, due_after}

compared : (q r : ℕ) → (q < r) ⊎ ((r < q) ⊎ (q ≡ r))
compared q r = grind arith

-- the greatest number with a property is one
pub last_unique : (P : ℕ → Type 0) (a b : Option ℕ) → IsLast P a → IsLast P b → a ≡ b
last_unique P None None x y = refl
last_unique P None (Some r) x y = absurd (x r y.0)
last_unique P (Some q) None x y = absurd (y q x.0)
last_unique P (Some q) (Some r) x y = elim (compared q r) [
  | inl less ↦ absurd (x.1 r less y.0)
  | inr rest ↦ elim rest [ inl more ↦ absurd (y.1 q more x.0) | inr same ↦ ap (λ (n : ℕ). Some n) same ]
]

-- so is a count
pub count_unique : (P : ℕ → Type 0) (n c d : ℕ) → IsCount P n c → IsCount P n d → c ≡ d
count_unique P zero c d x y = x ∙ sym y
count_unique P (suc n) c d (inl (h, x)) (inl (k, y)) = x.2 ∙ ap (λ (m : ℕ). m + 1) (count_unique P n (x.0) (y.0) (x.1) (y.1)) ∙ sym y.2
count_unique P (suc n) c d (inl (h, x)) (inr (k, y)) = absurd (k h)
count_unique P (suc n) c d (inr (h, x)) (inl (k, y)) = absurd (h k)
count_unique P (suc n) c d (inr (h, x)) (inr (k, y)) = count_unique P n c d x y

pub served_unique : (J : List Event) (key : Key) (scope : Option (List ℕ)) (now q r : ℕ) → Serves J key scope now q → Serves J key scope now r → q ≡ r
served_unique J key scope now q r x y = elim (compared q r) [
  | inl less ↦ absurd (x.held.last r y.kept less y.held.kept (y.key_is ∙ sym x.key_is) (y.scope_is ∙ sym x.scope_is))
  | inr rest ↦ elim rest [
    | inl more ↦ absurd (y.held.last q x.kept more x.held.kept (x.key_is ∙ sym y.key_is) (x.scope_is ∙ sym y.scope_is))
    | inr same ↦ same
  ]
]

is_served_unique : (J : List Event) (key : Key) (scope : Option (List ℕ)) (now : ℕ) (a b : Option ℕ) → IsServed J key scope now a → IsServed J key scope now b → a ≡ b
is_served_unique J key scope now None None x y = refl
is_served_unique J key scope now None (Some r) x y = absurd (x r y)
is_served_unique J key scope now (Some q) None x y = absurd (y q x)
is_served_unique J key scope now (Some q) (Some r) x y = ap (λ (n : ℕ). Some n) (served_unique J key scope now q r x y)

own_unique : (J : List Event) (key : Key) (scope : Option (List ℕ)) (now : ℕ) (a b : Option ℕ) → IsSomeAnd a (Serves J key scope now) → IsSomeAnd b (Serves J key scope now) → a ≡ b
own_unique J key scope now None b x y = absurd x
own_unique J key scope now (Some q) None x y = absurd y
own_unique J key scope now (Some q) (Some r) x y = ap (λ (n : ℕ). Some n) (served_unique J key scope now q r x y)

own_not_none : (J : List Event) (key : Key) (scope : Option (List ℕ)) (now : ℕ) (a : Option ℕ) → IsSomeAnd a (Serves J key scope now) → ((q : ℕ) → Serves J key scope now q → ⊥) → ⊥
own_not_none J key scope now None x none = x
own_not_none J key scope now (Some q) x none = none q x

-- so is a choice
pub choice_unique : (J : List Event) (key : Key) (id : Option (List ℕ)) (now : ℕ) (a b : Option ℕ) → IsChoice J key id now a → IsChoice J key id now b → a ≡ b
choice_unique J key None now a b x y = is_served_unique J key None now a b x y
choice_unique J key (Some id) now a b (inl x) (inl y) = own_unique J key (Some id) now a b x y
choice_unique J key (Some id) now a b (inl x) (inr y) = absurd (own_not_none J key (Some id) now a x y.0)
choice_unique J key (Some id) now a b (inr x) (inl y) = absurd (own_not_none J key (Some id) now b y x.0)
choice_unique J key (Some id) now a b (inr x) (inr y) = is_served_unique J key None now a b x.1 y.1

-- what is not want of memory is what is due
due_itself : (due out : Outcome) → out ≢ outcome.Memory → IsOrMemory due out → out ≡ due
due_itself due out found (inl same) = same
due_itself due out found (inr other) = absurd (found other.1)

-- so is what is due, for two records of one offer
pub due_by_unique : (why : Option Why) (limits : Limits) (J : List Event) (s : Started) (g h : Got) (a b : Outcome) → g.tags ≡ h.tags → g.size ≡ h.size → a ≢ outcome.Memory → b ≢ outcome.Memory → IsDueBy why limits J s g a → IsDueBy why limits J s h b → a ≡ b
due_by_unique (Some why) limits J s g h a b tags size found also x y = x ∙ sym y
due_by_unique None limits J s g h a b tags size found also x y =
    let same = last_unique _ (x.0) (y.0) (subst (λ t. IsLastCover J s.at s.key t (x.0)) tags (x.1)) (y.1) in
    let first : a ≡ due_after (x.0) (bytes J) g.size limits.bytes = due_itself (due_after (x.0) (bytes J) g.size limits.bytes) a found x.2 in
    let second : b ≡ due_after (y.0) (bytes J) h.size limits.bytes = due_itself (due_after (y.0) (bytes J) h.size limits.bytes) b also y.2 in
    first ∙ ap (λ (c : Option ℕ). due_after c (bytes J) g.size limits.bytes) same ∙ ap (λ (n : ℕ). due_after (y.0) (bytes J) n limits.bytes) size ∙ sym second

pub due_unique : (limits : Limits) (J : List Event) (s : Started) (got : Option Got) (a b : Outcome) → a ≢ outcome.Memory → b ≢ outcome.Memory → IsDue limits J s got a → IsDue limits J s got b → a ≡ b
due_unique limits J s None a b found also x y = x ∙ sym y
due_unique limits J s (Some got) a b found also x y = due_by_unique (why_of got.marks got.verdict got.tags (is_some s.id)) limits J s got got a b refl refl found also x y
