-- A step takes the first byte of each text that may follow.
use Rattle.std.proofs.Common.{◌≡◌, ℕ, suc, ◌+◌, ◌-◌, ◌<◌, Bool, true, false, cond, List, [], ◌∷◌, ◌++◌, length, drop, get_or, Some, None, refl, sym, ap, subst, ◌∙◌, arith, append_assoc, add-one, inl, inr}
use Rattle.std.specs.Prelude.{nat_lt, ◌==◌, ◌&&◌, ◌||◌, slice_index}
use Rattle.std.proofs.lemmas.Bool.{ltb-true, lt-ltb, eq-eqb, ltb-false}
use Rattle.std.proofs.lemmas.List.{drop_all, append-nil}
use Rattle.std.proofs.Math.Seq.{drop-cons}
use Rattle.std.proofs.lemmas.Bool.Decides.{nat_tests}
use Rattle.json_value.specs.declared.tree.Json.{Json}
use Rattle.json_value.specs.declared.tree.Json.TheVariants as j
use Rattle.json_machine.specs.declared.begun.Word.{Word}
use Rattle.json_machine.specs.declared.begun.Word.TheVariants as words
use Rattle.json_machine.specs.Mode.{Mode}
use Rattle.json_machine.specs.Mode as m
use Rattle.json_machine.specs.Frame as f
use Rattle.json_machine.specs.declared.begun.Digit.{Digit}
use Rattle.json_machine.specs.declared.begun.Digit.TheVariants as dg
use Rattle.json_machine.specs.Part.{Part}
use Rattle.json_machine.specs.Part as p
use Rattle.json_value.specs.Numbers.{is_digit, is_e}
use Rattle.json_machine.specs.Numbers.{number_start, number_next}
use Rattle.json_value.specs.Grammar.{Rules, is_blank, has, Spells, null, yes, no, number, string, empty, list, bare, object, Rest, close, more, Pair, pair, Members, shut, another}
use Rattle.json_machine.specs.Scan.{scan}
use Rattle.json_machine.specs.Machine.{Frames, Pairs, Stepped, to, letters, meant, open_by, begin, value_step, first_step, after_step, word_step, number_step, str_by, first_name_step, next_name_step, named, naming_by, colon_step, step_by}
use Rattle.json_machine.specs.Left.{TextLeft}
use Rattle.json_machine.proofs.NumberTexts.{number_reads}
use Rattle.json_machine.proofs.TextsGo.{IsPart, ScanGoes, scan_goes, heads}
use Rattle.json_machine.proofs.TextsEnd.{text_not_empty}
use Rattle.json_machine.proofs.Frames.{room, LeftBy, AfterLeft, ValueLeft, NumberLeft, StrLeft, ColonLeft, NamingLeft, NameLeft, ReadLeft}

-- in a word at least one letter is left
abbrev pub IsValid : Mode → Type 0
IsValid (m.Word word read) = read < length (letters word)
IsValid (m.Str part text) = IsPart part
IsValid (m.Naming ms place part text) = IsPart part
IsValid _ = Unit {0}

-- the outcome is a state in which the rest may follow
pub record Goes (r : Rules) (o : Stepped) (w : List ℕ) (v : Json) : Type 0 where
  pub mode : Mode
  pub frames : Frames
  pub steps : o ≡ to mode frames
  pub valid : IsValid mode
  pub left : LeftBy r mode frames w v

open_goes : (r : Rules) (mode : Mode) (fs : Frames) (d : ℕ) (w : List ℕ) (v : Json) → room r fs ≡ suc d → IsValid mode → LeftBy r mode fs w v → Goes r (open_by r.depth mode fs) w v
unfolding open_by
open_goes r mode fs d w v is valid left = record { mode = mode; frames = fs; steps = rw (lt-ltb (length fs) r.depth (omega arith)) refl; valid = valid; left = left }

pub number_begins : (depth : ℕ) (fs : Frames) (t : ℕ) (part : Digit) → number_start t ≡ Some part → begin depth fs t ≡ to (m.Number part (t ∷ [])) fs
unfolding begin open_by
number_begins depth fs t part is = grind (arith, nat_tests)

pub number_not_blank : (t : ℕ) (part : Digit) → number_start t ≡ Some part → is_blank t ≡ false
number_not_blank t part is = grind (arith, nat_tests)

number_no_bracket : (t : ℕ) (part : Digit) → number_start t ≡ Some part → (t == 93) ≡ false
number_no_bracket t part is = grind (arith, nat_tests)

-- the naming that a pair of the grammar leaves
naming_left : (r : Rules) (fs : Frames) (ms : Pairs) (d : ℕ) (n : List ℕ) (x : Json) (here : List ℕ) (others : Pairs) (there after w : List ℕ) (v : Json)
    → d ≡ r.depth - suc (length fs) → Pair r d n x here → (r.distinct && has ms n) ≡ false → Members r d (ms ++ ((n, x) ∷ [])) others there
    → 34 ∷ w ≡ here ++ (there ++ after) → AfterLeft r fs (j.Object (ms ++ ((n, x) ∷ others))) after v → NamingLeft r fs ms p.Plain [] w v
naming_left r fs ms d _ _ _ others there after w v is (pair n l s s' x a chars blank blank' spelled) fresh members cut left =
    let h = heads 34 34 w ((l ++ (s ++ (58 ∷ (s' ++ a)))) ++ (there ++ after)) cut in (
      l,
      s ++ (58 ∷ (s' ++ (a ++ (there ++ after)))),
      n,
      (n, chars, refl),
      fresh,
      h.1 ∙ simp append_assoc,
      (
        s,
        s' ++ (a ++ (there ++ after)),
        blank,
        refl,
        (s', x, a, there ++ after, blank', rw (← is) spelled, refl, (others, there, after, rw (← is) members, refl, left)),
      ),
    )

no_name : (r : Rules) (n : List ℕ) → (r.distinct && has [] n) ≡ false
no_name r n = by_case r.distinct
  where
    by_case : (b : Bool) → (b && false) ≡ false
    by_case true = refl
    by_case false = refl

quoted : (r : Rules) (d : ℕ) (n : List ℕ) (x : Json) (a c b : List ℕ) → Pair r d n x a → (w : List ℕ) × (34 ∷ w ≡ a ++ (c ++ b))
quoted r d _ _ _ c b (pair n l s s' x a chars blank blank' spelled) = ((l ++ (s ++ (58 ∷ (s' ++ a)))) ++ (c ++ b), refl)

abbrev Began : Rules → Frames → ℕ → List ℕ → Json → Type 0
Began r fs t w v = (is_blank t ≡ false) × ((t == 93) ≡ false) × Goes r (begin r.depth fs t) w v

begin_goes : (r : Rules) (fs : Frames) (d : ℕ) (x : Json) (a : List ℕ) (t : ℕ) (w b : List ℕ) (v : Json) → Spells r d x a → d ≡ room r fs → t ∷ w ≡ a ++ b → AfterLeft r fs x b v → Began r fs t w v
unfolding begin
begin_goes r fs _ _ _ t w b v null is cut left =
    let h = heads t 110 w (117 ∷ (108 ∷ (108 ∷ b))) cut in
    (rw h.0 refl, rw h.0 refl, record { mode = m.Word words.Null 1; frames = fs; steps = rw h.0 refl; valid = omega arith; left = (b, h.1, left) })
begin_goes r fs _ _ _ t w b v yes is cut left =
    let h = heads t 116 w (114 ∷ (117 ∷ (101 ∷ b))) cut in
    (rw h.0 refl, rw h.0 refl, record { mode = m.Word words.True 1; frames = fs; steps = rw h.0 refl; valid = omega arith; left = (b, h.1, left) })
begin_goes r fs _ _ _ t w b v no is cut left =
    let h = heads t 102 w (97 ∷ (108 ∷ (115 ∷ (101 ∷ b)))) cut in
    (rw h.0 refl, rw h.0 refl, record { mode = m.Word words.False 1; frames = fs; steps = rw h.0 refl; valid = omega arith; left = (b, h.1, left) })
begin_goes r fs _ _ _ t w b v (number a n) is cut left =
    let k = number_reads a n in
    let all : t ∷ w ≡ k.first ∷ (k.others ++ b) = cut ∙ ap (λ (q : List ℕ). q ++ b) k.parts in
    let h = heads t k.first w (k.others ++ b) all in
    let begins : number_start t ≡ Some k.part = rw h.0 k.begins in
    let whole : a ≡ t ∷ k.others = k.parts ∙ ap (λ (q : ℕ). q ∷ k.others) (sym h.0) in (
      number_not_blank t k.part begins,
      number_no_bracket t k.part begins,
      record {
        mode = m.Number k.part (t ∷ []);
        frames = fs;
        steps = number_begins r.depth fs t k.part begins;
        valid = tt;
        left = (k.others, b, k.completes, h.1, subst (λ (q : List ℕ). AfterLeft r fs (j.Number q) b v) whole left);
      },
    )
begin_goes r fs _ _ _ t w b v (string k a chars) is cut left =
    let h = heads t 34 w (a ++ b) cut in
    (rw h.0 refl, rw h.0 refl, record { mode = m.Str p.Plain []; frames = fs; steps = rw h.0 refl; valid = tt; left = (a, b, k, (k, chars, refl), h.1, left) })
begin_goes r fs _ _ _ t w b v (empty {d} s blank) is cut left =
    let h = heads t 91 w ((s ++ (93 ∷ [])) ++ b) cut in
    (rw h.0 refl, rw h.0 refl, rw h.0 (open_goes r m.First fs d w v (sym is) tt (inl (s, b, blank, h.1 ∙ append_assoc s (93 ∷ []) b, left))))
begin_goes r fs _ _ _ t w b v (list {d} s x a xs c blank spelled rest) is cut left =
    let h = heads t 91 w ((s ++ (a ++ c)) ++ b) cut in
    let deep : d ≡ room r (f.Items [] ∷ fs) = omega arith in (
      rw h.0 refl,
      rw h.0 refl,
      rw h.0 (open_goes r m.First fs d w v (sym is) tt (inr (s, x, a, c ++ b, blank, rw (← deep) spelled, h.1 ∙ simp append_assoc, (xs, c, b, rw (← deep) rest, refl, left)))),
    )
begin_goes r fs _ _ _ t w b v (bare {d} s blank) is cut left =
    let h = heads t 123 w ((s ++ (125 ∷ [])) ++ b) cut in
    (rw h.0 refl, rw h.0 refl, rw h.0 (open_goes r m.FirstName fs d w v (sym is) tt (inl (s, b, blank, h.1 ∙ append_assoc s (125 ∷ []) b, left))))
begin_goes r fs _ _ _ t w b v (object {d} s n x a ms c blank paired members) is cut left =
    let h = heads t 123 w ((s ++ (a ++ c)) ++ b) cut in
    let deep : d ≡ r.depth - suc (length fs) = omega arith in
    let k = quoted r d n x a c b paired in (
      rw h.0 refl,
      rw h.0 refl,
      rw h.0 (open_goes r m.FirstName fs d w v (sym is) tt (inr (
        s,
        k.0,
        blank,
        h.1 ∙ (append_assoc s (a ++ c) b ∙ ap (λ (q : List ℕ). s ++ q) (append_assoc a c b ∙ sym k.1)),
        naming_left r fs [] d n x a ms c b k.0 v deep paired (no_name r n) members k.1 left,
      ))),
    )

value_goes : (r : Rules) (fs : Frames) (t : ℕ) (w : List ℕ) (v : Json) → ValueLeft r fs (t ∷ w) v → Goes r (value_step r.depth fs t) w v
unfolding value_step
value_goes r fs t w v ([], x, a, b, blank, spelled, cut, left) =
    let g = begin_goes r fs (room r fs) x a t w b v spelled refl cut left in
    rw g.0 g.2
value_goes r fs t w v (c ∷ s, x, a, b, blank, spelled, cut, left) =
    let h = heads t c w (s ++ (a ++ b)) cut in
    record { mode = m.Value; frames = fs; steps = rw (h.0, blank.0) refl; valid = tt; left = (s, x, a, b, blank.1, spelled, h.1, left) }

first_goes : (r : Rules) (fs : Frames) (t : ℕ) (w : List ℕ) (v : Json) → LeftBy r m.First fs (t ∷ w) v → Goes r (first_step r.depth fs t) w v
unfolding first_step
first_goes r fs t w v (inl ([], b, blank, cut, left)) =
    let h = heads t 93 w b cut in
    record { mode = m.After (j.List []); frames = fs; steps = rw h.0 refl; valid = tt; left = rw h.1 left }
first_goes r fs t w v (inl (c ∷ s, b, blank, cut, left)) =
    let h = heads t c w (s ++ (93 ∷ b)) cut in
    record { mode = m.First; frames = fs; steps = rw (h.0, blank.0) refl; valid = tt; left = inl (s, b, blank.1, h.1, left) }
first_goes r fs t w v (inr ([], x, a, b, blank, spelled, cut, left)) =
    let g = begin_goes r (f.Items [] ∷ fs) (room r (f.Items [] ∷ fs)) x a t w b v spelled refl cut left in
    rw (g.0, g.1) g.2
first_goes r fs t w v (inr (c ∷ s, x, a, b, blank, spelled, cut, left)) =
    let h = heads t c w (s ++ (a ++ b)) cut in
    record { mode = m.First; frames = fs; steps = rw (h.0, blank.0) refl; valid = tt; left = inr (s, x, a, b, blank.1, spelled, h.1, left) }

rest_goes : (r : Rules) (xs : List Json) (fs : Frames) (x : Json) (d : ℕ) (ys : List Json) (a : List ℕ) (t : ℕ) (w b : List ℕ) (v : Json) → Rest r d ys a → d ≡ room r (f.Items xs ∷ fs) → t ∷ w ≡ a ++ b
    → AfterLeft r fs (j.List (xs ++ (x ∷ ys))) b v → Goes r (after_step (f.Items xs ∷ fs) x t) w v
unfolding after_step
rest_goes r xs fs x d _ _ t w b v (close [] blank) is cut left =
    let h = heads t 93 w b cut in
    record { mode = m.After (j.List (xs ++ (x ∷ []))); frames = fs; steps = rw h.0 refl; valid = tt; left = rw h.1 left }
rest_goes r xs fs x d _ _ t w b v (close (c ∷ s) blank) is cut left =
    let h = heads t c w ((s ++ (93 ∷ [])) ++ b) cut in
    record { mode = m.After x; frames = f.Items xs ∷ fs; steps = rw (h.0, blank.0) refl; valid = tt; left = ([], s ++ (93 ∷ []), b, rw (← is) (close s blank.1), h.1, left) }
rest_goes r xs fs x d _ _ t w b v (more [] s' y a ys c blank blank' spelled rest) is cut left =
    let h = heads t 44 w ((s' ++ (a ++ c)) ++ b) cut in
    record {
      mode = m.Value;
      frames = f.Items (xs ++ (x ∷ [])) ∷ fs;
      steps = rw h.0 refl;
      valid = tt;
      left = (
        s',
        y,
        a,
        c ++ b,
        blank',
        rw (← is) spelled,
        h.1 ∙ simp append_assoc,
        (ys, c, b, rw (← is) rest, refl, subst (λ (q : List Json). AfterLeft r fs (j.List q) b v) (sym (append_assoc xs (x ∷ []) (y ∷ ys))) left),
      );
    }
rest_goes r xs fs x d _ _ t w b v (more (k ∷ s) s' y a ys c blank blank' spelled rest) is cut left =
    let h = heads t k w ((s ++ (44 ∷ (s' ++ (a ++ c)))) ++ b) cut in
    record { mode = m.After x; frames = f.Items xs ∷ fs; steps = rw (h.0, blank.0) refl; valid = tt; left = (y ∷ ys, s ++ (44 ∷ (s' ++ (a ++ c))), b, rw (← is) (more s s' y a ys c blank.1 blank' spelled rest), h.1, left) }

members_goes : (r : Rules) (ms : Pairs) (n : List ℕ) (fs : Frames) (x : Json) (d : ℕ) (before ys : Pairs) (a : List ℕ) (t : ℕ) (w b : List ℕ) (v : Json) → Members r d before ys a → before ≡ ms ++ ((n, x) ∷ []) → d ≡ r.depth - suc (length fs) → t ∷ w ≡ a ++ b
    → AfterLeft r fs (j.Object (ms ++ ((n, x) ∷ ys))) b v → Goes r (after_step (f.Member ms n ∷ fs) x t) w v
unfolding after_step
members_goes r ms n fs x d before _ _ t w b v (shut [] blank) same is cut left =
    let h = heads t 125 w b cut in
    record { mode = m.After (j.Object (ms ++ ((n, x) ∷ []))); frames = fs; steps = rw h.0 refl; valid = tt; left = rw h.1 left }
members_goes r ms n fs x d before _ _ t w b v (shut (c ∷ s) blank) same is cut left =
    let h = heads t c w ((s ++ (125 ∷ [])) ++ b) cut in
    record { mode = m.After x; frames = f.Member ms n ∷ fs; steps = rw (h.0, blank.0) refl; valid = tt; left = ([], s ++ (125 ∷ []), b, rw (← is) (shut s blank.1), h.1, left) }
members_goes r ms n fs x d before _ _ t w b v (another [] s' k y a ys c blank blank' fresh paired others) same is cut left =
    let h = heads t 44 w ((s' ++ (a ++ c)) ++ b) cut in
    let z = quoted r d k y a c b paired in
    record {
      mode = m.NextName (ms ++ ((n, x) ∷ []));
      frames = fs;
      steps = rw h.0 refl;
      valid = tt;
      left = (
        s',
        z.0,
        blank',
        h.1 ∙ (append_assoc s' (a ++ c) b ∙ ap (λ (q : List ℕ). s' ++ q) (append_assoc a c b ∙ sym z.1)),
        naming_left r fs (ms ++ ((n, x) ∷ [])) d k y a ys c b z.0 v is paired (rw (← same) fresh) (rw (← same) others) z.1
            (subst (λ (q : Pairs). AfterLeft r fs (j.Object q) b v) (sym (append_assoc ms ((n, x) ∷ []) ((k, y) ∷ ys))) left),
      );
    }
members_goes r ms n fs x d before _ _ t w b v (another (q ∷ s) s' k y a ys c blank blank' fresh paired others) same is cut left =
    let h = heads t q w ((s ++ (44 ∷ (s' ++ (a ++ c)))) ++ b) cut in
    record {
      mode = m.After x;
      frames = f.Member ms n ∷ fs;
      steps = rw (h.0, blank.0) refl;
      valid = tt;
      left = ((k, y) ∷ ys, s ++ (44 ∷ (s' ++ (a ++ c))), b, rw (← is, ← same) (another s s' k y a ys c blank.1 blank' fresh paired others), h.1, left);
    }

after_goes : (r : Rules) (fs : Frames) (x : Json) (t : ℕ) (w : List ℕ) (v : Json) → AfterLeft r fs x (t ∷ w) v → Goes r (after_step fs x t) w v
unfolding after_step
after_goes r [] x t w v (blank, same) = record { mode = m.After x; frames = []; steps = rw blank.0 refl; valid = tt; left = (blank.1, same) }
after_goes r (f.Items xs ∷ fs) x t w v (ys, a, b, rest, cut, left) = rest_goes r xs fs x (room r (f.Items xs ∷ fs)) ys a t w b v rest refl cut left
after_goes r (f.Member ms n ∷ fs) x t w v (ys, a, b, others, cut, left) = members_goes r ms n fs x (room r (f.Member ms n ∷ fs)) (ms ++ ((n, x) ∷ [])) ys a t w b v others refl refl cut left

word_goes : (r : Rules) (fs : Frames) (word : Word) (read t : ℕ) (w : List ℕ) (v : Json) → read < length (letters word) → ReadLeft r fs word read (t ∷ w) v → Goes r (word_step fs word read t) w v
unfolding word_step
word_goes r fs word read t w v lt (b, cut, left) =
    let at : drop read (letters word) ≡ get_or (letters word) read 0 ∷ drop (read + 1) (letters word) = rw add-one (drop-cons (letters word) read 0 lt) in
    let h = heads t (get_or (letters word) read 0) w (drop (read + 1) (letters word) ++ b) (cut ∙ ap (λ (q : List ℕ). q ++ b) at) in
    let matched : (nat_lt read (length (letters word)) && t == slice_index (letters word) read) ≡ true = rw (lt-ltb _ _ lt, eq-eqb _ _ h.0) refl in
    rw matched (go (nat_lt (read + 1) (length (letters word))) refl h.1)
  where
    go : (q : Bool) → nat_lt (read + 1) (length (letters word)) ≡ q → w ≡ drop (read + 1) (letters word) ++ b
        → Goes r (cond q (to (m.Word word (read + 1)) fs) (to (m.After (meant word)) fs)) w v
    go true is rest = record { mode = m.Word word (read + 1); frames = fs; steps = refl; valid = ltb-true _ _ is; left = (b, rest, left) }
    go false is rest = record { mode = m.After (meant word); frames = fs; steps = refl; valid = tt; left = rw (rest, drop_all (read + 1) (letters word) (ltb-false _ _ is)) left }

-- a byte that continues no number
record NoNumber (t : ℕ) : Type 0 where
  digit : is_digit t ≡ false
  zero : (t == 48) ≡ false
  dot : (t == 46) ≡ false
  e : is_e t ≡ false
  sign : (t == 43 || t == 45) ≡ false

ends_number : (part : Digit) (t : ℕ) → NoNumber t → number_next part t ≡ None
ends_number dg.Minus t h = rw (h.zero, h.digit) refl
ends_number dg.Zero t h = rw (h.dot, h.e) refl
ends_number dg.Whole t h = rw (h.digit, h.dot, h.e) refl
ends_number dg.Fraction t h = rw (h.digit, h.e) refl
ends_number dg.E t h = rw (h.sign, h.digit) refl
ends_number _ t h = rw h.digit refl

no_number : (t c : ℕ) → t ≡ c → NoNumber c → NoNumber t
no_number t c same h = subst NoNumber (sym same) h

blank_ends : (t : ℕ) → is_blank t ≡ true → NoNumber t
blank_ends t is = record { digit = grind (arith, nat_tests); zero = grind (arith, nat_tests); dot = grind (arith, nat_tests); e = grind (arith, nat_tests); sign = grind (arith, nat_tests) }

after_ends_number : (r : Rules) (fs : Frames) (x : Json) (t : ℕ) (w : List ℕ) (v : Json) → AfterLeft r fs x (t ∷ w) v → NoNumber t
after_ends_number r [] x t w v (blank, same) = blank_ends t blank.0
after_ends_number r (f.Items xs ∷ fs) x t w v (ys, a, b, rest, cut, left) = by_rest _ ys a rest cut
  where
    by_rest : (d : ℕ) (ys : List Json) (a : List ℕ) → Rest r d ys a → t ∷ w ≡ a ++ b → NoNumber t
    by_rest _ _ _ (close [] blank) cut = no_number t 93 (heads t 93 w b cut).0 (record { digit = refl; zero = refl; dot = refl; e = refl; sign = refl })
    by_rest _ _ _ (close (c ∷ s) blank) cut = no_number t c (heads t c w ((s ++ (93 ∷ [])) ++ b) cut).0 (blank_ends c blank.0)
    by_rest _ _ _ (more [] s' y a ys c blank blank' spelled rest) cut = no_number t 44 (heads t 44 w ((s' ++ (a ++ c)) ++ b) cut).0 (record { digit = refl; zero = refl; dot = refl; e = refl; sign = refl })
    by_rest _ _ _ (more (k ∷ s) s' y a ys c blank blank' spelled rest) cut = no_number t k (heads t k w ((s ++ (44 ∷ (s' ++ (a ++ c)))) ++ b) cut).0 (blank_ends k blank.0)
after_ends_number r (f.Member ms n ∷ fs) x t w v (ys, a, b, others, cut, left) = by_members _ _ ys a others cut
  where
    by_members : (d : ℕ) (before ys : Pairs) (a : List ℕ) → Members r d before ys a → t ∷ w ≡ a ++ b → NoNumber t
    by_members _ _ _ _ (shut [] blank) cut = no_number t 125 (heads t 125 w b cut).0 (record { digit = refl; zero = refl; dot = refl; e = refl; sign = refl })
    by_members _ _ _ _ (shut (c ∷ s) blank) cut = no_number t c (heads t c w ((s ++ (125 ∷ [])) ++ b) cut).0 (blank_ends c blank.0)
    by_members _ _ _ _ (another [] s' k y a ys c blank blank' fresh paired others) cut = no_number t 44 (heads t 44 w ((s' ++ (a ++ c)) ++ b) cut).0 (record { digit = refl; zero = refl; dot = refl; e = refl; sign = refl })
    by_members _ _ _ _ (another (q ∷ s) s' k y a ys c blank blank' fresh paired others) cut = no_number t q (heads t q w ((s ++ (44 ∷ (s' ++ (a ++ c)))) ++ b) cut).0 (blank_ends q blank.0)

number_goes : (r : Rules) (fs : Frames) (part : Digit) (text : List ℕ) (t : ℕ) (w : List ℕ) (v : Json) → NumberLeft r fs part text (t ∷ w) v → Goes r (number_step fs part text t) w v
unfolding number_step
number_goes r fs part text t w v ([], b, ends, cut, left) =
    let here : AfterLeft r fs (j.Number text) (t ∷ w) v = subst (λ (q : List ℕ). AfterLeft r fs (j.Number q) (t ∷ w) v) (append-nil text) (subst (λ (q : List ℕ). AfterLeft r fs (j.Number (text ++ [])) q v) (sym cut) left) in
    let stops : number_next part t ≡ None = ends_number part t (after_ends_number r fs (j.Number text) t w v here) in
    rw (stops, ends) (after_goes r fs (j.Number text) t w v here)
number_goes r fs part text t w v (c ∷ a, b, (next, is, completes), cut, left) =
    let h = heads t c w (a ++ b) cut in
    record {
      mode = m.Number next (text ++ (c ∷ []));
      frames = fs;
      steps = rw (h.0, is) refl;
      valid = tt;
      left = (a, b, completes, h.1, subst (λ (q : List ℕ). AfterLeft r fs (j.Number q) b v) (sym (append_assoc text (c ∷ []) a)) left);
    }

str_goes : (r : Rules) (fs : Frames) (at : ℕ) (part : Part) (text : List ℕ) (t : ℕ) (w : List ℕ) (v : Json) → IsPart part → StrLeft r fs part text (t ∷ w) v → Goes r (str_by fs (scan r.cut at part text t)) w v
str_goes r fs at part text t w v valid ([], b, k, there, cut, left) = absurd (text_not_empty r.cut part text k valid there)
str_goes r fs at part text t w v valid (c ∷ a, b, k, there, cut, left) =
    let h = heads t c w (a ++ b) cut in
    by_case h.1 (scan_goes r.cut at part text t a k valid (subst (λ (q : ℕ). TextLeft r.cut part text (q ∷ a) k) (sym h.0) there))
  where
    by_case : w ≡ a ++ b → ScanGoes r.cut (scan r.cut at part text t) a k → Goes r (str_by fs (scan r.cut at part text t)) w v
    by_case rest (inl g) = record { mode = m.Str g.part g.text; frames = fs; steps = ap (str_by fs) g.steps; valid = g.valid; left = (a, b, k, g.left, rest, left) }
    by_case rest (inr g) = record { mode = m.After (j.Str k); frames = fs; steps = ap (str_by fs) g.steps; valid = tt; left = rw (rest, g.nothing) left }

naming_goes : (r : Rules) (fs : Frames) (at : ℕ) (ms : Pairs) (place : ℕ) (part : Part) (text : List ℕ) (t : ℕ) (w : List ℕ) (v : Json) → IsPart part → NamingLeft r fs ms part text (t ∷ w) v
    → Goes r (naming_by r.distinct fs ms place (scan r.cut at part text t)) w v
unfolding named
naming_goes r fs at ms place part text t w v valid ([], b, k, there, fresh, cut, left) = absurd (text_not_empty r.cut part text k valid there)
naming_goes r fs at ms place part text t w v valid (c ∷ a, b, k, there, fresh, cut, left) =
    let h = heads t c w (a ++ b) cut in
    by_case h.1 (scan_goes r.cut at part text t a k valid (subst (λ (q : ℕ). TextLeft r.cut part text (q ∷ a) k) (sym h.0) there))
  where
    by_case : w ≡ a ++ b → ScanGoes r.cut (scan r.cut at part text t) a k → Goes r (naming_by r.distinct fs ms place (scan r.cut at part text t)) w v
    by_case rest (inl g) = record { mode = m.Naming ms place g.part g.text; frames = fs; steps = ap (naming_by r.distinct fs ms place) g.steps; valid = g.valid; left = (a, b, k, g.left, fresh, rest, left) }
    by_case rest (inr g) = record { mode = m.Colon ms k; frames = fs; steps = ap (naming_by r.distinct fs ms place) g.steps ∙ rw fresh refl; valid = tt; left = rw (rest, g.nothing) left }

first_name_goes : (r : Rules) (fs : Frames) (at t : ℕ) (w : List ℕ) (v : Json) → LeftBy r m.FirstName fs (t ∷ w) v → Goes r (first_name_step fs at t) w v
unfolding first_name_step
first_name_goes r fs at t w v (inl ([], b, blank, cut, left)) =
    let h = heads t 125 w b cut in
    record { mode = m.After (j.Object []); frames = fs; steps = rw h.0 refl; valid = tt; left = rw h.1 left }
first_name_goes r fs at t w v (inl (c ∷ s, b, blank, cut, left)) =
    let h = heads t c w (s ++ (125 ∷ b)) cut in
    record { mode = m.FirstName; frames = fs; steps = rw (h.0, blank.0) refl; valid = tt; left = inl (s, b, blank.1, h.1, left) }
first_name_goes r fs at t w v (inr ([], b, blank, cut, left)) =
    let h = heads t 34 w b cut in
    record { mode = m.Naming [] at p.Plain []; frames = fs; steps = rw h.0 refl; valid = tt; left = rw h.1 left }
first_name_goes r fs at t w v (inr (c ∷ s, b, blank, cut, left)) =
    let h = heads t c w (s ++ (34 ∷ b)) cut in
    record { mode = m.FirstName; frames = fs; steps = rw (h.0, blank.0) refl; valid = tt; left = inr (s, b, blank.1, h.1, left) }

next_name_goes : (r : Rules) (fs : Frames) (at : ℕ) (ms : Pairs) (t : ℕ) (w : List ℕ) (v : Json) → NameLeft r fs ms (t ∷ w) v → Goes r (next_name_step fs at ms t) w v
unfolding next_name_step
next_name_goes r fs at ms t w v ([], b, blank, cut, left) =
    let h = heads t 34 w b cut in
    record { mode = m.Naming ms at p.Plain []; frames = fs; steps = rw h.0 refl; valid = tt; left = rw h.1 left }
next_name_goes r fs at ms t w v (c ∷ s, b, blank, cut, left) =
    let h = heads t c w (s ++ (34 ∷ b)) cut in
    record { mode = m.NextName ms; frames = fs; steps = rw (h.0, blank.0) refl; valid = tt; left = (s, b, blank.1, h.1, left) }

colon_goes : (r : Rules) (fs : Frames) (ms : Pairs) (n : List ℕ) (t : ℕ) (w : List ℕ) (v : Json) → ColonLeft r fs ms n (t ∷ w) v → Goes r (colon_step fs ms n t) w v
unfolding colon_step
colon_goes r fs ms n t w v ([], b, blank, cut, left) =
    let h = heads t 58 w b cut in
    record { mode = m.Value; frames = f.Member ms n ∷ fs; steps = rw h.0 refl; valid = tt; left = rw h.1 left }
colon_goes r fs ms n t w v (c ∷ s, b, blank, cut, left) =
    let h = heads t c w (s ++ (58 ∷ b)) cut in
    record { mode = m.Colon ms n; frames = fs; steps = rw (h.0, blank.0) refl; valid = tt; left = (s, b, blank.1, h.1, left) }

pub step_goes : (r : Rules) (at : ℕ) (mode : Mode) (fs : Frames) (t : ℕ) (w : List ℕ) (v : Json) → IsValid mode → LeftBy r mode fs (t ∷ w) v → Goes r (step_by r at mode fs t) w v
step_goes r at m.Value fs t w v valid left = value_goes r fs t w v left
step_goes r at m.First fs t w v valid left = first_goes r fs t w v left
step_goes r at (m.After x) fs t w v valid left = after_goes r fs x t w v left
step_goes r at (m.Word word read) fs t w v valid left = word_goes r fs word read t w v valid left
step_goes r at (m.Number part text) fs t w v valid left = number_goes r fs part text t w v left
step_goes r at (m.Str part text) fs t w v valid left = str_goes r fs at part text t w v valid left
step_goes r at m.FirstName fs t w v valid left = first_name_goes r fs at t w v left
step_goes r at (m.NextName ms) fs t w v valid left = next_name_goes r fs at ms t w v left
step_goes r at (m.Naming ms place part text) fs t w v valid left = naming_goes r fs at ms place part text t w v valid left
step_goes r at (m.Colon ms n) fs t w v valid left = colon_goes r fs ms n t w v left
