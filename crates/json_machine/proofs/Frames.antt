-- What may follow in each state, and that a step takes one byte of it.
use Rattle.std.proofs.Common.{◌≡◌, ℕ, suc, ◌+◌, ◌-◌, ◌<◌, ◌≤◌, true, false, cond, List, [], ◌∷◌, ◌++◌, length, drop, Option, Some, None, Ok, Err, refl, sym, ap, subst, arith, append_assoc, add-one, ◌⊎◌, inl, inr}
use Rattle.std.specs.Prelude.{nat_lt, ◌==◌, ◌&&◌, slice_index}
use Rattle.std.proofs.lemmas.Bool.{cond_both, eqb-true, ltb-true, ltb-false, and_parts}
use Rattle.std.proofs.lemmas.List.{drop_all, append-nil}
use Rattle.std.proofs.Math.Seq.{drop-cons}
use Rattle.json_value.specs.declared.tree.Json.{Json}
use Rattle.json_value.specs.declared.tree.Json.TheVariants as j
use Rattle.json_machine.specs.Refusal as e
use Rattle.json_machine.specs.declared.begun.Word.{Word}
use Rattle.json_machine.specs.declared.begun.Word.TheVariants as w
use Rattle.json_machine.specs.Mode.{Mode}
use Rattle.json_machine.specs.Mode as m
use Rattle.json_machine.specs.Frame.{Frame}
use Rattle.json_machine.specs.Frame as f
use Rattle.json_machine.specs.declared.begun.Digit.{Digit}
use Rattle.json_machine.specs.Part.{Part}
use Rattle.json_machine.specs.Part as p
use Rattle.json_machine.specs.Progress as s
use Rattle.json_value.specs.Strings.{Chars}
use Rattle.json_machine.specs.Numbers.{number_start, number_next, may_end}
use Rattle.json_machine.specs.Left.{CompletesNumber, TextLeft}
use Rattle.json_value.specs.Grammar.{Rules, is_blank, IsSpace, has, Spells, null, yes, no, number, string, empty, list, bare, object, Rest, close, more, Pair, pair, Members, shut, another}
use Rattle.json_machine.specs.Scan.{Scanned, scan}
use Rattle.json_machine.specs.Machine.{Frames, Pairs, ReaderState, Stepped, to, letters, meant, pick, unless_blank, beginnings, number_by, open_by, begin, value_step, first_step, after_by, after_step, word_step, number_go, number_step, str_by, first_name_step, next_name_step, named, naming_by, colon_step, step_by}
use Rattle.json_machine.proofs.Texts.{IsScanSound, scan_sound}
use Rattle.json_machine.proofs.NumberTexts.{reads_number}

-- how many more levels may be opened
abbrev pub room : Rules → Frames → ℕ
room r fs = r.depth - length fs

abbrev pub AfterLeft : Rules → Frames → Json → List ℕ → Json → Type 0
AfterLeft r [] x w v = IsSpace w × (x ≡ v)
AfterLeft r (f.Items xs ∷ fs) x w v = (ys : List Json) × (a : List ℕ) × (b : List ℕ) × Rest r (room r (f.Items xs ∷ fs)) ys a × (w ≡ a ++ b) × AfterLeft r fs (j.List (xs ++ (x ∷ ys))) b v
AfterLeft r (f.Member ms n ∷ fs) x w v = (ys : Pairs) × (a : List ℕ) × (b : List ℕ) × Members r (room r (f.Member ms n ∷ fs)) (ms ++ ((n, x) ∷ [])) ys a × (w ≡ a ++ b)
    × AfterLeft r fs (j.Object (ms ++ ((n, x) ∷ ys))) b v

-- a value, with no white space before it
abbrev pub BareLeft : Rules → Frames → List ℕ → Json → Type 0
BareLeft r fs w v = (x : Json) × (a : List ℕ) × (b : List ℕ) × Spells r (room r fs) x a × (w ≡ a ++ b) × AfterLeft r fs x b v

abbrev pub ValueLeft : Rules → Frames → List ℕ → Json → Type 0
ValueLeft r fs w v = (s : List ℕ) × (x : Json) × (a : List ℕ) × (b : List ℕ) × IsSpace s × Spells r (room r fs) x a × (w ≡ s ++ (a ++ b)) × AfterLeft r fs x b v

-- the bracket that closes an empty list or object
abbrev pub CloseLeft : Rules → Frames → ℕ → Json → List ℕ → Json → Type 0
CloseLeft r fs bracket x w v = (s : List ℕ) × (b : List ℕ) × IsSpace s × (w ≡ s ++ (bracket ∷ b)) × AfterLeft r fs x b v

abbrev pub WordLeft : Rules → Frames → Json → List ℕ → List ℕ → Json → Type 0
WordLeft r fs x rest w v = (b : List ℕ) × (w ≡ rest ++ b) × AfterLeft r fs x b v

abbrev pub NumberLeft : Rules → Frames → Digit → List ℕ → List ℕ → Json → Type 0
NumberLeft r fs part text w v = (a : List ℕ) × (b : List ℕ) × CompletesNumber part a × (w ≡ a ++ b) × AfterLeft r fs (j.Number (text ++ a)) b v

abbrev pub StrLeft : Rules → Frames → Part → List ℕ → List ℕ → Json → Type 0
StrLeft r fs part text w v = (a : List ℕ) × (b : List ℕ) × (t : List ℕ) × TextLeft r.cut part text a t × (w ≡ a ++ b) × AfterLeft r fs (j.Str t) b v

abbrev pub ColonLeft : Rules → Frames → Pairs → List ℕ → List ℕ → Json → Type 0
ColonLeft r fs ms n w v = (s : List ℕ) × (b : List ℕ) × IsSpace s × (w ≡ s ++ (58 ∷ b)) × ValueLeft r (f.Member ms n ∷ fs) b v

abbrev pub NamingLeft : Rules → Frames → Pairs → Part → List ℕ → List ℕ → Json → Type 0
NamingLeft r fs ms part text w v = (a : List ℕ) × (b : List ℕ) × (n : List ℕ) × TextLeft r.cut part text a n × ((r.distinct && has ms n) ≡ false) × (w ≡ a ++ b) × ColonLeft r fs ms n b v

abbrev pub NameLeft : Rules → Frames → Pairs → List ℕ → Json → Type 0
NameLeft r fs ms w v = (s : List ℕ) × (b : List ℕ) × IsSpace s × (w ≡ s ++ (34 ∷ b)) × NamingLeft r fs ms p.Plain [] b v

abbrev pub LeftBy : Rules → Mode → Frames → List ℕ → Json → Type 0
LeftBy r m.Value fs w v = ValueLeft r fs w v
LeftBy r m.First fs w v = CloseLeft r fs 93 (j.List []) w v ⊎ ValueLeft r (f.Items [] ∷ fs) w v
LeftBy r (m.After x) fs w v = AfterLeft r fs x w v
LeftBy r (m.Word word read) fs w v = WordLeft r fs (meant word) (drop read (letters word)) w v
LeftBy r (m.Number part text) fs w v = NumberLeft r fs part text w v
LeftBy r (m.Str part text) fs w v = StrLeft r fs part text w v
LeftBy r m.FirstName fs w v = CloseLeft r fs 125 (j.Object []) w v ⊎ NameLeft r fs [] w v
LeftBy r (m.NextName ms) fs w v = NameLeft r fs ms w v
LeftBy r (m.Naming ms place part text) fs w v = NamingLeft r fs ms part text w v
LeftBy r (m.Colon ms n) fs w v = ColonLeft r fs ms n w v

abbrev pub Left : Rules → ReaderState → List ℕ → Json → Type 0
Left r s w v = LeftBy r s.mode s.frames w v

-- ---- sound: what may follow the step may follow the byte

abbrev pub IsSound : Rules → (List ℕ → Json → Type 0) → ℕ → Stepped → Type 0
IsSound r L t (Ok next) = (w : List ℕ) (v : Json) → Left r next w v → L (t ∷ w) v
IsSound r L t (Err why) = Unit {0}

room_opens : (r : Rules) (fs : Frames) (x : Frame) → length fs < r.depth → room r fs ≡ suc (room r (x ∷ fs))
room_opens r fs x lt = omega arith

open_list_sound : (r : Rules) (fs : Frames) (t : ℕ) → t ≡ 91 → IsSound r (BareLeft r fs) t (open_by r.depth m.First fs)
unfolding open_by
open_list_sound r fs t is = cond_both (nat_lt (length fs) r.depth) (to m.First fs) (Err e.Deep) (IsSound r (BareLeft r fs) t)
    (λ lt. opened (room_opens r fs (f.Items []) (ltb-true _ _ lt)))
    (λ _. tt)
  where
    opened : room r fs ≡ suc (room r (f.Items [] ∷ fs)) → (w : List ℕ) (v : Json) → LeftBy r m.First fs w v → BareLeft r fs (t ∷ w) v
    opened more_room w v (inl (s, b, blank, cut, left)) =
        (j.List [], 91 ∷ (s ++ (93 ∷ [])), b, rw more_room (empty s blank), rw (is, cut) (simp append_assoc), left)
    opened more_room w v (inr (s, x, a, b, blank, spelled, cut, (xs, c, d, rest, cut', left))) =
        (j.List (x ∷ xs), 91 ∷ (s ++ (a ++ c)), d, rw more_room (list s x a xs c blank spelled rest), rw (is, cut, cut') (simp append_assoc), left)

-- a member and those after it, from its opening quote on
pub record PairLeft (r : Rules) (fs : Frames) (ms : Pairs) (w : List ℕ) (v : Json) : Type 0 where
  pub name : List ℕ
  pub value : Json
  pub here : List ℕ
  pub others : Pairs
  pub there : List ℕ
  pub after : List ℕ
  pub is_pair : Pair r (r.depth - suc (length fs)) name value here
  pub fresh : (r.distinct && has ms name) ≡ false
  pub are : Members r (r.depth - suc (length fs)) (ms ++ ((name, value) ∷ [])) others there
  pub parts : w ≡ here ++ (there ++ after)
  pub left : AfterLeft r fs (j.Object (ms ++ ((name, value) ∷ others))) after v

pair_left : (r : Rules) (fs : Frames) (ms : Pairs) (w : List ℕ) (v : Json) → NamingLeft r fs ms p.Plain [] w v → PairLeft r fs ms (34 ∷ w) v
pair_left r fs ms w v (a, b, n, (t, chars, e), fresh, cut, (s, c, blank, cut', (s', x, d, g, blank', spelled, cut'', (ys, h, i, members, cut''', left)))) = record {
  name = n;
  value = x;
  here = 34 ∷ (a ++ (s ++ (58 ∷ (s' ++ d))));
  others = ys;
  there = h;
  after = i;
  is_pair = pair n a s s' x d (subst (λ (k : List ℕ). Chars r.cut k a) (sym e) chars) blank blank' spelled;
  fresh = fresh;
  are = members;
  parts = rw (cut, cut', cut'', cut''') (simp append_assoc);
  left = left;
}

open_object_sound : (r : Rules) (fs : Frames) (t : ℕ) → t ≡ 123 → IsSound r (BareLeft r fs) t (open_by r.depth m.FirstName fs)
unfolding open_by
open_object_sound r fs t is = cond_both (nat_lt (length fs) r.depth) (to m.FirstName fs) (Err e.Deep) (IsSound r (BareLeft r fs) t)
    (λ lt. opened (room_opens r fs (f.Items []) (ltb-true _ _ lt)))
    (λ _. tt)
  where
    opened : room r fs ≡ suc (room r (f.Items [] ∷ fs)) → (w : List ℕ) (v : Json) → LeftBy r m.FirstName fs w v → BareLeft r fs (t ∷ w) v
    opened more_room w v (inl (s, b, blank, cut, left)) =
        (j.Object [], 123 ∷ (s ++ (125 ∷ [])), b, rw more_room (bare s blank), rw (is, cut) (simp append_assoc), left)
    opened more_room w v (inr (s, b, blank, cut, naming)) =
        let k = pair_left r fs [] b v naming in (
          j.Object ((k.name, k.value) ∷ k.others),
          123 ∷ (s ++ (k.here ++ k.there)),
          k.after,
          rw more_room (object s k.name k.value k.here k.others k.there blank k.is_pair k.are),
          rw (is, cut, k.parts) (simp append_assoc),
          k.left,
        )

word_sound : (r : Rules) (word : Word) (fs : Frames) (t c : ℕ) (rest : List ℕ) → ((d : ℕ) → Spells r d (meant word) (c ∷ rest)) → t ≡ c
    → (w : List ℕ) (v : Json) → WordLeft r fs (meant word) rest w v → BareLeft r fs (t ∷ w) v
word_sound r word fs t c rest spelled is w v (b, cut, left) = (meant word, c ∷ rest, b, spelled _, cc, left)

quote_sound : (r : Rules) (fs : Frames) (t : ℕ) → t ≡ 34 → (w : List ℕ) (v : Json) → StrLeft r fs p.Plain [] w v → BareLeft r fs (t ∷ w) v
quote_sound r fs t is w v (a, b, k, (u, chars, e), cut, left) =
    (j.Str k, 34 ∷ a, b, string k a (subst (λ (q : List ℕ). Chars r.cut q a) (sym e) chars), rw (is, cut) refl, left)

number_sound : (r : Rules) (fs : Frames) (t : ℕ) (o : Option Digit) → number_start t ≡ o → IsSound r (BareLeft r fs) t (number_by fs t o)
number_sound r fs t None is = tt
number_sound r fs t (Some part) is = λ w v left. go w v left
  where
    go : (w : List ℕ) (v : Json) → NumberLeft r fs part (t ∷ []) w v → BareLeft r fs (t ∷ w) v
    go w v (a, b, completes, cut, left) = (
      j.Number (t ∷ a),
      t ∷ a,
      b,
      number (t ∷ a) (reads_number t a part is completes),
      ap (λ (q : List ℕ). t ∷ q) cut,
      left,
    )

-- what a table owes
abbrev AreSound : Rules → (List ℕ → Json → Type 0) → ℕ → List (ℕ × Stepped) → Type 0
AreSound r L t [] = Unit {0}
AreSound r L t (x ∷ xs) = (t ≡ x.0 → IsSound r L t x.1) × AreSound r L t xs

pick_sound : (r : Rules) (L : List ℕ → Json → Type 0) (t : ℕ) (xs : List (ℕ × Stepped)) (other : Stepped) → AreSound r L t xs → IsSound r L t other → IsSound r L t (pick t xs other)
pick_sound r L t [] other all h = h
pick_sound r L t (x ∷ xs) other all h = cond_both (t == x.0) x.1 (pick t xs other) (IsSound r L t) (λ k. all.0 (eqb-true _ _ k)) (λ _. pick_sound r L t xs other all.1 h)

begin_sound : (r : Rules) (fs : Frames) (t : ℕ) → IsSound r (BareLeft r fs) t (begin r.depth fs t)
unfolding begin
begin_sound r fs t = pick_sound r (BareLeft r fs) t (beginnings r.depth fs) (number_by fs t (number_start t))
    (open_list_sound r fs t, (open_object_sound r fs t, (quote_sound r fs t, (word_sound r w.Null fs t 110 _ (λ d. null), (word_sound r w.True fs t 116 _ (λ d. yes), (word_sound r w.False fs t 102 _ (λ d. no), tt))))))
    (number_sound r fs t (number_start t) refl)

-- white space before it
ValueLeft-bare : (r : Rules) (fs : Frames) (w : List ℕ) (v : Json) → BareLeft r fs w v → ValueLeft r fs w v
ValueLeft-bare r fs w v (x, a, b, spelled, cut, left) = ([], x, a, b, tt, spelled, cut, left)

weaken : (r : Rules) (L M : List ℕ → Json → Type 0) (t : ℕ) (o : Stepped) → ((w : List ℕ) (v : Json) → L w v → M w v) → IsSound r L t o → IsSound r M t o
weaken r L M t (Ok next) f h = λ w v left. f (t ∷ w) v (h w v left)
weaken r L M t (Err why) f h = tt

blank_sound : (r : Rules) (mode : Mode) (fs : Frames) (t : ℕ) (o : Stepped)
    → (is_blank t ≡ true → (w : List ℕ) (v : Json) → LeftBy r mode fs w v → LeftBy r mode fs (t ∷ w) v) → IsSound r (LeftBy r mode fs) t o → IsSound r (LeftBy r mode fs) t (unless_blank t mode fs o)
blank_sound r mode fs t o stays h = cond_both (is_blank t) (to mode fs) o (IsSound r (LeftBy r mode fs) t) stays (λ _. h)

blank_value : (r : Rules) (fs : Frames) (t : ℕ) → is_blank t ≡ true → (w : List ℕ) (v : Json) → ValueLeft r fs w v → ValueLeft r fs (t ∷ w) v
blank_value r fs t is w v (s, x, a, b, blank, spelled, cut, left) = (t ∷ s, x, a, b, (is, blank), spelled, ap (λ q. t ∷ q) cut, left)

blank_close : (r : Rules) (fs : Frames) (bracket : ℕ) (x : Json) (t : ℕ) → is_blank t ≡ true → (w : List ℕ) (v : Json) → CloseLeft r fs bracket x w v → CloseLeft r fs bracket x (t ∷ w) v
blank_close r fs bracket x t is w v (s, b, blank, cut, left) = (t ∷ s, b, (is, blank), ap (λ q. t ∷ q) cut, left)

blank_name : (r : Rules) (fs : Frames) (ms : Pairs) (t : ℕ) → is_blank t ≡ true → (w : List ℕ) (v : Json) → NameLeft r fs ms w v → NameLeft r fs ms (t ∷ w) v
blank_name r fs ms t is w v (s, b, blank, cut, left) = (t ∷ s, b, (is, blank), ap (λ q. t ∷ q) cut, left)

blank_colon : (r : Rules) (fs : Frames) (ms : Pairs) (n : List ℕ) (t : ℕ) → is_blank t ≡ true → (w : List ℕ) (v : Json) → ColonLeft r fs ms n w v → ColonLeft r fs ms n (t ∷ w) v
blank_colon r fs ms n t is w v (s, b, blank, cut, left) = (t ∷ s, b, (is, blank), ap (λ q. t ∷ q) cut, left)

blank_first : (r : Rules) (fs : Frames) (t : ℕ) → is_blank t ≡ true → (w : List ℕ) (v : Json) → LeftBy r m.First fs w v → LeftBy r m.First fs (t ∷ w) v
blank_first r fs t is w v (inl h) = inl (blank_close r fs 93 (j.List []) t is w v h)
blank_first r fs t is w v (inr h) = inr (blank_value r (f.Items [] ∷ fs) t is w v h)

blank_first_name : (r : Rules) (fs : Frames) (t : ℕ) → is_blank t ≡ true → (w : List ℕ) (v : Json) → LeftBy r m.FirstName fs w v → LeftBy r m.FirstName fs (t ∷ w) v
blank_first_name r fs t is w v (inl h) = inl (blank_close r fs 125 (j.Object []) t is w v h)
blank_first_name r fs t is w v (inr h) = inr (blank_name r fs [] t is w v h)

blank_rest : (r : Rules) (d t : ℕ) → is_blank t ≡ true → (xs : List Json) (a : List ℕ) → Rest r d xs a → Rest r d xs (t ∷ a)
blank_rest r d t is _ _ (close s blank) = close (t ∷ s) (is, blank)
blank_rest r d t is _ _ (more s s' x a xs b blank blank' spelled rest) = more (t ∷ s) s' x a xs b (is, blank) blank' spelled rest

blank_members : (r : Rules) (d t : ℕ) → is_blank t ≡ true → (before ms : Pairs) (a : List ℕ) → Members r d before ms a → Members r d before ms (t ∷ a)
blank_members r d t is _ _ _ (shut s blank) = shut (t ∷ s) (is, blank)
blank_members r d t is _ _ _ (another s s' n x a ms b blank blank' fresh paired others) = another (t ∷ s) s' n x a ms b (is, blank) blank' fresh paired others

blank_after : (r : Rules) (fs : Frames) (x : Json) (t : ℕ) → is_blank t ≡ true → (w : List ℕ) (v : Json) → AfterLeft r fs x w v → AfterLeft r fs x (t ∷ w) v
blank_after r [] x t is w v (blank, same) = ((is, blank), same)
blank_after r (f.Items xs ∷ fs) x t is w v (ys, a, b, rest, cut, left) = (ys, t ∷ a, b, blank_rest r _ t is ys a rest, ap (λ q. t ∷ q) cut, left)
blank_after r (f.Member ms n ∷ fs) x t is w v (ys, a, b, others, cut, left) = (ys, t ∷ a, b, blank_members r _ t is _ ys a others, ap (λ q. t ∷ q) cut, left)

value_sound : (r : Rules) (fs : Frames) (t : ℕ) → IsSound r (ValueLeft r fs) t (value_step r.depth fs t)
unfolding value_step
value_sound r fs t = blank_sound r m.Value fs t (begin r.depth fs t) (blank_value r fs t) (weaken r (BareLeft r fs) (ValueLeft r fs) t (begin r.depth fs t) (ValueLeft-bare r fs) (begin_sound r fs t))

first_sound : (r : Rules) (fs : Frames) (t : ℕ) → IsSound r (LeftBy r m.First fs) t (first_step r.depth fs t)
unfolding first_step
first_sound r fs t = blank_sound r m.First fs t _ (blank_first r fs t) (cond_both (t == 93) (to (m.After (j.List [])) fs) (begin r.depth (f.Items [] ∷ fs) t) (IsSound r (LeftBy r m.First fs) t)
    (λ h w v left. inl ([], w, tt, ap (λ (q : ℕ). q ∷ w) (eqb-true _ _ h), left))
    (λ _. weaken r (BareLeft r (f.Items [] ∷ fs)) (LeftBy r m.First fs) t (begin r.depth (f.Items [] ∷ fs) t) (λ w v q. inr (ValueLeft-bare r (f.Items [] ∷ fs) w v q)) (begin_sound r (f.Items [] ∷ fs) t)))

comma_item_sound : (r : Rules) (xs : List Json) (fs : Frames) (x : Json) (t : ℕ) → t ≡ 44 → (w : List ℕ) (v : Json) → ValueLeft r (f.Items (xs ++ (x ∷ [])) ∷ fs) w v → AfterLeft r (f.Items xs ∷ fs) x (t ∷ w) v
comma_item_sound r xs fs x t is w v (s, y, a, b, blank, spelled, cut, (ys, c, d, rest, cut', left)) = (
  y ∷ ys,
  44 ∷ (s ++ (a ++ c)),
  d,
  more [] s y a ys c tt blank spelled rest,
  rw (is, cut, cut') (simp append_assoc),
  subst (λ (q : List Json). AfterLeft r fs (j.List q) d v) (append_assoc xs (x ∷ []) (y ∷ ys)) left,
)

comma_member_sound : (r : Rules) (ms : Pairs) (n : List ℕ) (fs : Frames) (x : Json) (t : ℕ) → t ≡ 44 → (w : List ℕ) (v : Json) → NameLeft r fs (ms ++ ((n, x) ∷ [])) w v → AfterLeft r (f.Member ms n ∷ fs) x (t ∷ w) v
comma_member_sound r ms n fs x t is w v (s, b, blank, cut, naming) =
    let k = pair_left r fs (ms ++ ((n, x) ∷ [])) b v naming in (
      (k.name, k.value) ∷ k.others,
      44 ∷ (s ++ (k.here ++ k.there)),
      k.after,
      another [] s k.name k.value k.here k.others k.there tt blank k.fresh k.is_pair k.are,
      rw (is, cut, k.parts) (simp append_assoc),
      subst (λ (q : Pairs). AfterLeft r fs (j.Object q) k.after v) (append_assoc ms ((n, x) ∷ []) ((k.name, k.value) ∷ k.others)) k.left,
    )

after_by_sound : (r : Rules) (fs : Frames) (x : Json) (t : ℕ) → IsSound r (AfterLeft r fs x) t (after_by fs x t)
after_by_sound r [] x t = tt
after_by_sound r (f.Items xs ∷ fs) x t = pick_sound r (AfterLeft r (f.Items xs ∷ fs) x) t ((44, to m.Value (f.Items (xs ++ x ∷ []) ∷ fs)) ∷ ((93, to (m.After (j.List (xs ++ x ∷ []))) fs) ∷ [])) (Err e.Syntax)
    (comma_item_sound r xs fs x t, ((λ is w v left. ([], 93 ∷ [], w, close [] tt, ap (λ (q : ℕ). q ∷ w) is, left)), tt)) tt
after_by_sound r (f.Member ms n ∷ fs) x t = pick_sound r (AfterLeft r (f.Member ms n ∷ fs) x) t ((44, to (m.NextName (ms ++ (n, x) ∷ [])) fs) ∷ ((125, to (m.After (j.Object (ms ++ (n, x) ∷ []))) fs) ∷ [])) (Err e.Syntax)
    (comma_member_sound r ms n fs x t, ((λ is w v left. ([], 125 ∷ [], w, shut [] tt, ap (λ (q : ℕ). q ∷ w) is, left)), tt)) tt

after_sound : (r : Rules) (fs : Frames) (x : Json) (t : ℕ) → IsSound r (AfterLeft r fs x) t (after_step fs x t)
unfolding after_step
after_sound r fs x t = blank_sound r (m.After x) fs t _ (blank_after r fs x t) (after_by_sound r fs x t)

abbrev pub Here : Word → ℕ → ℕ → Type 0
Here word read t = (nat_lt read (length (letters word)) ≡ true) × ((t == slice_index (letters word) read) ≡ true)

abbrev pub ReadLeft : Rules → Frames → Word → ℕ → List ℕ → Json → Type 0
ReadLeft r fs word read w v = WordLeft r fs (meant word) (drop read (letters word)) w v

pub cut_at : (word : Word) (read t : ℕ) → Here word read t → drop read (letters word) ≡ t ∷ drop (read + 1) (letters word)
cut_at word read t h = rw (eqb-true _ _ h.1, add-one) (drop-cons (letters word) read 0 (ltb-true _ _ h.0))

word_step_sound : (r : Rules) (fs : Frames) (word : Word) (read t : ℕ) → IsSound r (ReadLeft r fs word read) t (word_step fs word read t)
unfolding word_step
word_step_sound r fs word read t =
    cond_both (nat_lt read (length (letters word)) && t == slice_index (letters word) read) matched (Err e.Syntax) (IsSound r (ReadLeft r fs word read) t)
    (λ h. cond_both (nat_lt (read + 1) (length (letters word))) (to (m.Word word (read + 1)) fs) (to (m.After (meant word)) fs) (IsSound r (ReadLeft r fs word read) t)
    (λ _. goes (and_parts _ _ h))
    (λ ends. stops (and_parts _ _ h) (ltb-false _ _ ends)))
    (λ _. tt)
  where
    matched : Stepped
    matched = cond (nat_lt (read + 1) (length (letters word))) (to (m.Word word (read + 1)) fs) (to (m.After (meant word)) fs)

    goes : Here word read t → (w : List ℕ) (v : Json) → ReadLeft r fs word (read + 1) w v → ReadLeft r fs word read (t ∷ w) v
    goes h w v (b, cut, left) = (b, rw (cut, cut_at word read t h) refl, left)

    stops : Here word read t → length (letters word) ≤ read + 1 → (w : List ℕ) (v : Json) → AfterLeft r fs (meant word) w v → ReadLeft r fs word read (t ∷ w) v
    stops h le w v left = (w, rw (cut_at word read t h, drop_all (read + 1) (letters word) le) refl, left)

number_step_sound : (r : Rules) (fs : Frames) (part : Digit) (text : List ℕ) (t : ℕ) → IsSound r (NumberLeft r fs part text) t (number_step fs part text t)
unfolding number_step
number_step_sound r fs part text t = go (number_next part t) refl
  where
    on : (next : Digit) → number_next part t ≡ Some next → (w : List ℕ) (v : Json) → NumberLeft r fs next (text ++ (t ∷ [])) w v → NumberLeft r fs part text (t ∷ w) v
    on next is w v (a, b, completes, cut, left) =
        (t ∷ a, b, (next, is, completes), ap (λ (q : List ℕ). t ∷ q) cut, subst (λ (q : List ℕ). AfterLeft r fs (j.Number q) b v) (append_assoc text (t ∷ []) a) left)

    whole : may_end part ≡ true → (w : List ℕ) (v : Json) → AfterLeft r fs (j.Number text) w v → NumberLeft r fs part text w v
    whole ends w v left = ([], w, ends, refl, subst (λ (q : List ℕ). AfterLeft r fs (j.Number q) w v) (sym (append-nil text)) left)

    go : (o : Option Digit) → number_next part t ≡ o → IsSound r (NumberLeft r fs part text) t (number_go fs part text t o)
    go (Some next) is = on next is
    go None is = cond_both (may_end part) (after_step fs (j.Number text) t) (Err e.Syntax) (IsSound r (NumberLeft r fs part text) t)
        (λ ends. weaken r (AfterLeft r fs (j.Number text)) (NumberLeft r fs part text) t (after_step fs (j.Number text) t) (whole ends) (after_sound r fs (j.Number text) t))
        (λ _. tt)

str_sound : (r : Rules) (fs : Frames) (part : Part) (text : List ℕ) (t : ℕ) (o : Scanned) → IsScanSound r.cut (TextLeft r.cut part text) t o → IsSound r (StrLeft r fs part text) t (str_by fs o)
str_sound r fs part text t (Err why) h = tt
str_sound r fs part text t (Ok (s.Done k)) h = λ w v left. (t ∷ [], w, k, h, refl, left)
str_sound r fs part text t (Ok (s.More part' text')) h = λ w v left. go w v left
  where
    go : (w : List ℕ) (v : Json) → StrLeft r fs part' text' w v → StrLeft r fs part text (t ∷ w) v
    go w v (a, b, k, there, cut, left) = (t ∷ a, b, k, h a k there, ap (λ (q : List ℕ). t ∷ q) cut, left)

naming_sound : (r : Rules) (fs : Frames) (ms : Pairs) (place : ℕ) (part : Part) (text : List ℕ) (t : ℕ) (o : Scanned) → IsScanSound r.cut (TextLeft r.cut part text) t o
    → IsSound r (NamingLeft r fs ms part text) t (naming_by r.distinct fs ms place o)
unfolding named
naming_sound r fs ms place part text t (Err why) h = tt
naming_sound r fs ms place part text t (Ok (s.Done k)) h = cond_both (r.distinct && has ms k) (Err (e.Twice place)) (to (m.Colon ms k) fs) (IsSound r (NamingLeft r fs ms part text) t)
    (λ _. tt) (λ fresh w v left. (t ∷ [], w, k, h, fresh, refl, left))
naming_sound r fs ms place part text t (Ok (s.More part' text')) h = λ w v left. go w v left
  where
    go : (w : List ℕ) (v : Json) → NamingLeft r fs ms part' text' w v → NamingLeft r fs ms part text (t ∷ w) v
    go w v (a, b, k, there, fresh, cut, left) = (t ∷ a, b, k, h a k there, fresh, ap (λ (q : List ℕ). t ∷ q) cut, left)

first_name_sound : (r : Rules) (fs : Frames) (at t : ℕ) → IsSound r (LeftBy r m.FirstName fs) t (first_name_step fs at t)
unfolding first_name_step
first_name_sound r fs at t = blank_sound r m.FirstName fs t _ (blank_first_name r fs t)
    (pick_sound r (LeftBy r m.FirstName fs) t ((125, to (m.After (j.Object [])) fs) ∷ ((34, to (m.Naming [] at p.Plain []) fs) ∷ [])) (Err e.Syntax)
    ((λ is w v left. inl ([], w, tt, ap (λ (q : ℕ). q ∷ w) is, left)), ((λ is w v left. inr ([], w, tt, ap (λ (q : ℕ). q ∷ w) is, left)), tt)) tt)

next_name_sound : (r : Rules) (fs : Frames) (at : ℕ) (ms : Pairs) (t : ℕ) → IsSound r (NameLeft r fs ms) t (next_name_step fs at ms t)
unfolding next_name_step
next_name_sound r fs at ms t = blank_sound r (m.NextName ms) fs t _ (blank_name r fs ms t)
    (pick_sound r (NameLeft r fs ms) t ((34, to (m.Naming ms at p.Plain []) fs) ∷ []) (Err e.Syntax) ((λ is w v left. ([], w, tt, ap (λ (q : ℕ). q ∷ w) is, left)), tt) tt)

colon_sound : (r : Rules) (fs : Frames) (ms : Pairs) (n : List ℕ) (t : ℕ) → IsSound r (ColonLeft r fs ms n) t (colon_step fs ms n t)
unfolding colon_step
colon_sound r fs ms n t = blank_sound r (m.Colon ms n) fs t _ (blank_colon r fs ms n t)
    (cond_both (t == 58) (to m.Value (f.Member ms n ∷ fs)) (Err e.Syntax) (IsSound r (ColonLeft r fs ms n) t) (λ h w v left. ([], w, tt, ap (λ (q : ℕ). q ∷ w) (eqb-true _ _ h), left)) (λ _. tt))

pub step_sound : (r : Rules) (at : ℕ) (mode : Mode) (fs : Frames) (t : ℕ) → IsSound r (LeftBy r mode fs) t (step_by r at mode fs t)
step_sound r at m.Value fs t = value_sound r fs t
step_sound r at m.First fs t = first_sound r fs t
step_sound r at (m.After x) fs t = after_sound r fs x t
step_sound r at (m.Word word read) fs t = word_step_sound r fs word read t
step_sound r at (m.Number part text) fs t = number_step_sound r fs part text t
step_sound r at (m.Str part text) fs t = str_sound r fs part text t (scan r.cut at part text t) (scan_sound r.cut at part text t)
step_sound r at m.FirstName fs t = first_name_sound r fs at t
step_sound r at (m.NextName ms) fs t = next_name_sound r fs at ms t
step_sound r at (m.Naming ms place part text) fs t = naming_sound r fs ms place part text t (scan r.cut at part text t) (scan_sound r.cut at part text t)
step_sound r at (m.Colon ms n) fs t = colon_sound r fs ms n t
