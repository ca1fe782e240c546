-- The same bytes give one answer.
use Rattle.std.proofs.Common.{◌≡◌, ◌≢◌, ◌⊎◌, inl, inr, ◌∙◌, sym, ap, ℕ, ◌+◌, List, [], ◌++◌, length, take, drop, subst, ◌<◌, ◌≤◌, arith, append_assoc, append-nil, length-append, Option, Some, None, refl}
use Rattle.std.specs.Prelude.{Result, Ok, Err}
use Rattle.std.proofs.lemmas.List.{take-append-le, take_at, drop_at, append_cancel_left, length-take-le}
use Rattle.http_wire.specs.declared.faults.WireFault.{WireFault}
use Rattle.http_wire.specs.declared.faults.WireFault.TheVariants as fault
use Rattle.http_wire.specs.declared.message.Message.{Message}
use Rattle.http_wire.specs.EmptyLine.{IsHeadLength, NoEmptyLine}
use Rattle.http_wire.specs.Taking.{Uses}
use Rattle.http_wire.specs.Heads.{HeadSays, Opens}
use Rattle.http_wire.specs.Messages.{BeginsWith, IsMessageOf, IsMessage, IsBadHead, HeadIsTooLong, IsUnfinished, ReadsMessage}
use Rattle.http_wire.specs.Answers.{IsOverLong, GivesMessage, GivesWhereTold, IsInside, SameMessage, SameAnswer, OneAnswer}
use Rattle.http_wire.proofs.Carrying.{same_end}
use Rattle.http_wire.proofs.Unique.{never_both, head_unique, SaysSame, opens_unique}
use Rattle.http_wire.proofs.Whole.{head_more, head_inside, begins_more}

-- an accepted head: the message, what it declares, or less than its body
abbrev pub AfterHead : Result (Option Message) WireFault → ℕ → HeadSays → List ℕ → List ℕ → Type 0
AfterHead (Ok None) n o all rest = ⊥
AfterHead (Ok (Some m)) n o all rest = IsMessageOf m o × (o.length ≡ length m.body) × (o.length ≤ 1048576) × (all ≡ take n all ++ (m.body ++ rest)) × (n + o.length ≤ length all)
AfterHead (Err fault.Failed) n o all rest = ⊥
AfterHead (Err fault.Memory) n o all rest = ⊥
AfterHead (Err (fault.Bad t)) n o all rest = ⊥
AfterHead (Err (fault.TooLong t)) n o all rest = (t ≡ o.length) × (1048576 < t) × (rest ≡ all)
AfterHead (Err (fault.Cut t)) n o all rest = (t ≡ length all) × (o.length ≤ 1048576) × (length all < n + o.length) × (rest ≡ all)

-- a head that is refused
abbrev pub AfterBad : Result (Option Message) WireFault → ℕ → List ℕ → List ℕ → Type 0
AfterBad (Ok None) n all rest = ⊥
AfterBad (Ok (Some m)) n all rest = ⊥
AfterBad (Err fault.Failed) n all rest = ⊥
AfterBad (Err fault.Memory) n all rest = ⊥
AfterBad (Err (fault.Bad t)) n all rest = (t ≡ n) × (rest ≡ all)
AfterBad (Err (fault.TooLong t)) n all rest = ⊥
AfterBad (Err (fault.Cut t)) n all rest = ⊥

-- no head
abbrev pub AfterNone : Result (Option Message) WireFault → List ℕ → List ℕ → Type 0
AfterNone (Ok None) all rest = (length all ≡ 0) × (all ≡ []) × (rest ≡ [])
AfterNone (Ok (Some m)) all rest = ⊥
AfterNone (Err fault.Failed) all rest = ⊥
AfterNone (Err fault.Memory) all rest = ⊥
AfterNone (Err (fault.Bad t)) all rest = ⊥
AfterNone (Err (fault.TooLong t)) all rest = (16384 < length all) × NoEmptyLine all 0 16384 × (rest ≡ all)
AfterNone (Err (fault.Cut t)) all rest = (length all ≢ 0) × (length all ≤ 16384) × (t ≡ length all) × (rest ≡ all)

-- up to here, and to the end or the limit, no empty line ends
pub record Headless (all : List ℕ) : Type 0 where
  pub to : ℕ
  pub none : NoEmptyLine all 0 to
  pub far : (16384 ≤ to) ⊎ (length all ≤ to)

-- which of the three an answer is
pub data View (r : Result (Option Message) WireFault) (all rest : List ℕ) : Type 0 where
  accepted : (n : ℕ) (o : HeadSays) → BeginsWith all n o → AfterHead r n o all rest → View r all rest
  refused : (n : ℕ) → IsBadHead all n → AfterBad r n all rest → View r all rest
  headless : Headless all → AfterNone r all rest → View r all rest

message_view : (m : Message) (all used rest : List ℕ) → IsMessage used m → all ≡ used ++ rest → View (Ok (Some m)) all rest
message_view m all used rest is whole =
    let n = is.n in
    let o = is.o in
    let le : n ≤ length used = head_inside used n is.begins.head in
    let begins : BeginsWith all n o = subst (λ (b : List ℕ). BeginsWith b n o) (sym whole) (begins_more used rest n o is.begins) in
    let front : take n all ≡ take n used = ap (take n) whole ∙ take-append-le n used rest le in
    let split : all ≡ take n all ++ (m.body ++ rest) =
    whole ∙ ap (λ b. b ++ rest) is.whole ∙ append_assoc (take n used) m.body rest ∙ ap (λ b. b ++ (m.body ++ rest)) (sym front) in
    let size : length used ≡ n + length m.body =
    ap length is.whole ∙ length-append (take n used) m.body ∙ ap (λ k. k + length m.body) (length-take-le n used le) in
    let total : length all ≡ length used + length rest = ap length whole ∙ length-append used rest in
    let declared : o.length ≡ length m.body = is.declared in
    accepted n o begins (is.carries, declared, is.within, split, omega arith)

pub view : (r : Result (Option Message) WireFault) (all rest : List ℕ) → IsInside r → GivesMessage all r rest → View r all rest
view (Ok None) all rest inside g =
    headless record { to = 0; none = λ at low high. absurd (omega arith); far = inr (let e : length all ≡ 0 = ap length g.0 in omega arith) } (ap length g.0, g.0, g.1)
view (Ok (Some m)) all rest inside g = message_view m all g.0 rest g.1 g.2
view (Err fault.Failed) all rest inside g = absurd inside
view (Err fault.Memory) all rest inside g = absurd inside
view (Err (fault.Bad t)) all rest inside g = refused t g.0 (refl, g.1)
view (Err (fault.TooLong t)) all rest inside g = long g.0
  where
    long : IsOverLong all t → View (Err (fault.TooLong t)) all rest
    long (inl (above, most, none)) = headless record { to = 16384; none = none; far = inl (omega arith) } (omega arith, none, g.1)
    long (inr (k, o, begins, is, above)) = accepted k o begins (is, above, g.1)
view (Err (fault.Cut t)) all rest inside g = unfinished g.0.1
  where
    unfinished : IsUnfinished all → View (Err (fault.Cut t)) all rest
    unfinished (inl (some, few, none)) = headless record { to = length all; none = none; far = inr (omega arith) } (some, few, g.0.0, g.1)
    unfinished (inr (k, o, begins, within, short)) = accepted k o begins (g.0.0, within, short, g.1)

pub head_or_none : (all : List ℕ) (n : ℕ) → IsHeadLength all n → n ≤ 16384 → Headless all → ⊥
head_or_none all n h short less =
    let is : n ≡ h.0 + 1 = h.1 in
    let inside : h.0 < length all = h.2.inside in
    never_both (sym h.2.ends ∙ less.none h.0 (omega arith) (reach less.far))
  where
    reach : (16384 ≤ less.to) ⊎ (length all ≤ less.to) → h.0 < less.to
    reach (inl far) = let is : n ≡ h.0 + 1 = h.1 in omega arith
    reach (inr far) = let inside : h.0 < length all = h.2.inside in omega arith

pub good_or_bad : (all : List ℕ) (n k : ℕ) (o : HeadSays) → BeginsWith all n o → IsBadHead all k → ⊥
good_or_bad all n k o b bad =
    let same = head_unique all n k b.head bad.head in
    bad.refused o (subst (λ (i : ℕ). Opens (take i all) o) same b.opens)

pub same_says : (all : List ℕ) (n k : ℕ) (o p : HeadSays) → BeginsWith all n o → BeginsWith all k p → (n ≡ k) × SaysSame o p
same_says all n k o p b c =
    let same = head_unique all n k b.head c.head in
    (same, opens_unique (take n all) o p b.opens (subst (λ (i : ℕ). Opens (take i all) p) (sym same) c.opens))

pub number : (a b : ℕ) → Some a ≡ Some b → a ≡ b
number a b e = cc

messages : (m q : Message) (n k : ℕ) (o p : HeadSays) (all rest left : List ℕ) → n ≡ k → SaysSame o p → AfterHead (Ok (Some m)) n o all rest → AfterHead (Ok (Some q)) k p all left
    → SameMessage m q × (rest ≡ left)
messages m q n k o p all rest left same says a b =
    let after : m.body ++ rest ≡ q.body ++ left =
    append_cancel_left (take n all) (m.body ++ rest) (q.body ++ left) (sym a.3 ∙ b.3 ∙ ap (λ i. take i all ++ (q.body ++ left)) (sym same)) in
    let size : length m.body ≡ length q.body = sym a.1 ∙ number o.length p.length says.length ∙ b.1 in
    let j = length m.body in (
      record {
        method = a.0.method ∙ says.method ∙ sym b.0.method;
        target = a.0.target ∙ says.target ∙ sym b.0.target;
        fields = a.0.fields ∙ says.fields ∙ sym b.0.fields;
        body = sym (take_at m.body rest j refl) ∙ ap (take j) after ∙ take_at q.body left j (sym size);
        close = a.0.close ∙ says.close ∙ sym b.0.close;
      },
      sym (drop_at m.body rest j refl) ∙ ap (drop j) after ∙ drop_at q.body left j (sym size),
    )

accepted_same : (r s : Result (Option Message) WireFault) (n k : ℕ) (o p : HeadSays) (all rest left : List ℕ) → n ≡ k → SaysSame o p → AfterHead r n o all rest → AfterHead s k p all left → SameAnswer all r s × (rest ≡ left)
accepted_same (Ok None) s n k o p all rest left same says a b = absurd a
accepted_same (Ok (Some m)) (Ok None) n k o p all rest left same says a b = absurd b
accepted_same (Ok (Some m)) (Ok (Some q)) n k o p all rest left same says a b = messages m q n k o p all rest left same says a b
accepted_same (Ok (Some m)) (Err fault.Failed) n k o p all rest left same says a b = absurd b
accepted_same (Ok (Some m)) (Err fault.Memory) n k o p all rest left same says a b = absurd b
accepted_same (Ok (Some m)) (Err (fault.Bad u)) n k o p all rest left same says a b = absurd b
accepted_same (Ok (Some m)) (Err (fault.TooLong u)) n k o p all rest left same says a b = let size : o.length ≡ p.length = number o.length p.length says.length in absurd (omega arith)
accepted_same (Ok (Some m)) (Err (fault.Cut u)) n k o p all rest left same says a b = let size : o.length ≡ p.length = number o.length p.length says.length in absurd (omega arith)
accepted_same (Err fault.Failed) s n k o p all rest left same says a b = absurd a
accepted_same (Err fault.Memory) s n k o p all rest left same says a b = absurd a
accepted_same (Err (fault.Bad t)) s n k o p all rest left same says a b = absurd a
accepted_same (Err (fault.TooLong t)) (Ok None) n k o p all rest left same says a b = absurd b
accepted_same (Err (fault.TooLong t)) (Ok (Some q)) n k o p all rest left same says a b = let size : o.length ≡ p.length = number o.length p.length says.length in absurd (omega arith)
accepted_same (Err (fault.TooLong t)) (Err fault.Failed) n k o p all rest left same says a b = absurd b
accepted_same (Err (fault.TooLong t)) (Err fault.Memory) n k o p all rest left same says a b = absurd b
accepted_same (Err (fault.TooLong t)) (Err (fault.Bad u)) n k o p all rest left same says a b = absurd b
accepted_same (Err (fault.TooLong t)) (Err (fault.TooLong u)) n k o p all rest left same says a b = (inl (a.0 ∙ number o.length p.length says.length ∙ sym b.0), a.2 ∙ sym b.2)
accepted_same (Err (fault.TooLong t)) (Err (fault.Cut u)) n k o p all rest left same says a b = let size : o.length ≡ p.length = number o.length p.length says.length in absurd (omega arith)
accepted_same (Err (fault.Cut t)) (Ok None) n k o p all rest left same says a b = absurd b
accepted_same (Err (fault.Cut t)) (Ok (Some q)) n k o p all rest left same says a b = let size : o.length ≡ p.length = number o.length p.length says.length in absurd (omega arith)
accepted_same (Err (fault.Cut t)) (Err fault.Failed) n k o p all rest left same says a b = absurd b
accepted_same (Err (fault.Cut t)) (Err fault.Memory) n k o p all rest left same says a b = absurd b
accepted_same (Err (fault.Cut t)) (Err (fault.Bad u)) n k o p all rest left same says a b = absurd b
accepted_same (Err (fault.Cut t)) (Err (fault.TooLong u)) n k o p all rest left same says a b = let size : o.length ≡ p.length = number o.length p.length says.length in absurd (omega arith)
accepted_same (Err (fault.Cut t)) (Err (fault.Cut u)) n k o p all rest left same says a b = (a.0 ∙ sym b.0, a.3 ∙ sym b.3)

refused_same : (r s : Result (Option Message) WireFault) (n k : ℕ) (all rest left : List ℕ) → n ≡ k → AfterBad r n all rest → AfterBad s k all left → SameAnswer all r s × (rest ≡ left)
refused_same (Ok None) s n k all rest left same a b = absurd a
refused_same (Ok (Some m)) s n k all rest left same a b = absurd a
refused_same (Err fault.Failed) s n k all rest left same a b = absurd a
refused_same (Err fault.Memory) s n k all rest left same a b = absurd a
refused_same (Err (fault.Bad t)) (Ok None) n k all rest left same a b = absurd b
refused_same (Err (fault.Bad t)) (Ok (Some q)) n k all rest left same a b = absurd b
refused_same (Err (fault.Bad t)) (Err fault.Failed) n k all rest left same a b = absurd b
refused_same (Err (fault.Bad t)) (Err fault.Memory) n k all rest left same a b = absurd b
refused_same (Err (fault.Bad t)) (Err (fault.Bad u)) n k all rest left same a b = (a.0 ∙ same ∙ sym b.0, a.1 ∙ sym b.1)
refused_same (Err (fault.Bad t)) (Err (fault.TooLong u)) n k all rest left same a b = absurd b
refused_same (Err (fault.Bad t)) (Err (fault.Cut u)) n k all rest left same a b = absurd b
refused_same (Err (fault.TooLong t)) s n k all rest left same a b = absurd a
refused_same (Err (fault.Cut t)) s n k all rest left same a b = absurd a

headless_same : (r s : Result (Option Message) WireFault) (all rest left : List ℕ) → AfterNone r all rest → AfterNone s all left → SameAnswer all r s × (rest ≡ left)
headless_same (Ok None) (Ok None) all rest left a b = (tt, a.2 ∙ sym b.2)
headless_same (Ok None) (Ok (Some q)) all rest left a b = absurd b
headless_same (Ok None) (Err fault.Failed) all rest left a b = absurd b
headless_same (Ok None) (Err fault.Memory) all rest left a b = absurd b
headless_same (Ok None) (Err (fault.Bad u)) all rest left a b = absurd b
headless_same (Ok None) (Err (fault.TooLong u)) all rest left a b = absurd (omega arith)
headless_same (Ok None) (Err (fault.Cut u)) all rest left a b = absurd (b.0 a.0)
headless_same (Ok (Some m)) s all rest left a b = absurd a
headless_same (Err fault.Failed) s all rest left a b = absurd a
headless_same (Err fault.Memory) s all rest left a b = absurd a
headless_same (Err (fault.Bad t)) s all rest left a b = absurd a
headless_same (Err (fault.TooLong t)) (Ok None) all rest left a b = absurd (omega arith)
headless_same (Err (fault.TooLong t)) (Ok (Some q)) all rest left a b = absurd b
headless_same (Err (fault.TooLong t)) (Err fault.Failed) all rest left a b = absurd b
headless_same (Err (fault.TooLong t)) (Err fault.Memory) all rest left a b = absurd b
headless_same (Err (fault.TooLong t)) (Err (fault.Bad u)) all rest left a b = absurd b
headless_same (Err (fault.TooLong t)) (Err (fault.TooLong u)) all rest left a b = (inr a.1, a.2 ∙ sym b.2)
headless_same (Err (fault.TooLong t)) (Err (fault.Cut u)) all rest left a b = absurd (omega arith)
headless_same (Err (fault.Cut t)) (Ok None) all rest left a b = absurd (a.0 b.0)
headless_same (Err (fault.Cut t)) (Ok (Some q)) all rest left a b = absurd b
headless_same (Err (fault.Cut t)) (Err fault.Failed) all rest left a b = absurd b
headless_same (Err (fault.Cut t)) (Err fault.Memory) all rest left a b = absurd b
headless_same (Err (fault.Cut t)) (Err (fault.Bad u)) all rest left a b = absurd b
headless_same (Err (fault.Cut t)) (Err (fault.TooLong u)) all rest left a b = absurd (omega arith)
headless_same (Err (fault.Cut t)) (Err (fault.Cut u)) all rest left a b = (a.2 ∙ sym b.2, a.3 ∙ sym b.3)

both : (r s : Result (Option Message) WireFault) (all rest left : List ℕ) → View r all rest → View s all left → SameAnswer all r s × (rest ≡ left)
both r s all rest left (accepted n o b a) (accepted k p c d) = let same = same_says all n k o p b c in accepted_same r s n k o p all rest left same.0 same.1 a d
both r s all rest left (accepted n o b a) (refused k c d) = absurd (good_or_bad all n k o b c)
both r s all rest left (accepted n o b a) (headless c d) = absurd (head_or_none all n b.head b.short c)
both r s all rest left (refused n b a) (accepted k p c d) = absurd (good_or_bad all k n p c b)
both r s all rest left (refused n b a) (refused k c d) = refused_same r s n k all rest left (head_unique all n k b.head c.head) a d
both r s all rest left (refused n b a) (headless c d) = absurd (head_or_none all n b.head b.short c)
both r s all rest left (headless b a) (accepted k p c d) = absurd (head_or_none all k c.head c.short b)
both r s all rest left (headless b a) (refused k c d) = absurd (head_or_none all k c.head c.short b)
both r s all rest left (headless b a) (headless c d) = headless_same r s all rest left a d

pub one_answer : OneAnswer
one_answer all rest left first second inside within g h = both first second all rest left (view first all rest inside g) (view second all left within h)

-- what a call reads is what all the bytes give
whole_bytes : (kept now l a used : List ℕ) → Uses kept now (Some l) (Some a) used → kept ++ l ≡ used ++ (now ++ a)
whole_bytes kept now l a used u =
    ap (λ b. kept ++ b) u.consumed ∙ sym (append_assoc kept u.given a) ∙ ap (λ b. b ++ a) u.whole ∙ append_assoc used now a

uses_some : (r : Result (Option Message) WireFault) (kept now : List ℕ) (left after : Option (List ℕ)) (before count : ℕ) → ReadsMessage kept now left after before count r → (used : List ℕ) × Uses kept now left after used
uses_some (Ok None) kept now left after before count h = ([], h.0.used)
uses_some (Ok (Some m)) kept now left after before count h = (h.0, h.1)
uses_some (Err fault.Failed) kept now left after before count h = ([], h.0)
uses_some (Err fault.Memory) kept now left after before count h = ([], h)
uses_some (Err (fault.Bad t)) kept now left after before count h = ([], h.0)
uses_some (Err (fault.TooLong t)) kept now left after before count h = ([], h.0)
uses_some (Err (fault.Cut t)) kept now left after before count h = ([], h.0.used)

bad_more : (now a : List ℕ) (n : ℕ) → IsBadHead now n → IsBadHead (now ++ a) n
bad_more now a n b = record {
  head = head_more now a n b.head;
  short = b.short;
  refused = λ o opens. b.refused o (subst (λ (bytes : List ℕ). Opens bytes o) (take-append-le n now a (head_inside now n b.head)) opens);
}

long_more : (now a : List ℕ) (n : ℕ) → HeadIsTooLong now n → IsOverLong (now ++ a) n
long_more now a n (inl (is, above, none)) = inl (above, subst (λ (k : ℕ). n ≤ k) (sym (length-append now a)) (omega arith), λ at low high. same_end now a at (omega arith) ∙ none at low high)
long_more now a n (inr (k, o, begins, is, above)) = inr (k, o, begins_more now a k o begins, is, above)

pub reads_gives : (r : Result (Option Message) WireFault) (kept now : List ℕ) (left after : Option (List ℕ)) (before count : ℕ) → ReadsMessage kept now left after before count r → GivesWhereTold kept now left after r
reads_gives r kept now None after before count h = tt
reads_gives r kept now (Some l) None before count h = absurd (uses_some r kept now (Some l) None before count h).1.consumed
reads_gives (Ok None) kept now (Some l) (Some a) before count h =
    let whole = whole_bytes kept now l a [] h.0.used in
    let none : now ++ a ≡ [] = ap (λ b. b ++ a) h.1 ∙ h.0.ended in
    (whole ∙ none, none)
reads_gives (Ok (Some m)) kept now (Some l) (Some a) before count h = (h.0, h.2, whole_bytes kept now l a h.0 h.1)
reads_gives (Err fault.Failed) kept now (Some l) (Some a) before count h = (tt, sym (whole_bytes kept now l a [] h.0))
reads_gives (Err fault.Memory) kept now (Some l) (Some a) before count h = (tt, sym (whole_bytes kept now l a [] h))
reads_gives (Err (fault.Bad t)) kept now (Some l) (Some a) before count h =
    let whole = whole_bytes kept now l a [] h.0 in
    (subst (λ (b : List ℕ). IsBadHead b t) (sym whole) (bad_more now a t h.1), sym whole)
reads_gives (Err (fault.TooLong t)) kept now (Some l) (Some a) before count h =
    let whole = whole_bytes kept now l a [] h.0 in
    (subst (λ (b : List ℕ). IsOverLong b t) (sym whole) (long_more now a t h.1), sym whole)
reads_gives (Err (fault.Cut t)) kept now (Some l) (Some a) before count h =
    let whole = whole_bytes kept now l a [] h.0.used in
    let all : now ≡ kept ++ l = sym (whole ∙ ap (λ b. now ++ b) h.0.ended ∙ append-nil now) in
    (subst (λ (b : List ℕ). (t ≡ length b) × IsUnfinished b) all (h.1, h.2), sym whole)
