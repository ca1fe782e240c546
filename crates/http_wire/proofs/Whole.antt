-- A message is cut from what was kept and what came.
use Rattle.std.proofs.Common.{◌≡◌, inr, ◌∙◌, sym, ap, ℕ, List, [], ◌++◌, Option, length, take, drop, append_assoc, subst, ◌+◌, ◌-◌, ◌<◌, ◌≤◌, arith, length-append, take-append-drop, min, ◌^◌}
use Rattle.std.proofs.lemmas.List.{take-append-le, length-take, length-drop, drop-take}
use Rattle.std.proofs.lemmas.Grind.{common_steps}
use Rattle.std.proofs.KnownBytes.{Consumes-trans}
use Rattle.http_wire.specs.declared.message.Message.{Message}
use Rattle.http_wire.specs.EmptyLine.{IsHeadLength}
use Rattle.http_wire.specs.Taking.{Uses, KeepsAll, FillsBut, GathersBut, StopsShort}
use Rattle.flow_base.specs.Causes.{Rose}
use Rattle.http_wire.specs.declared.faults.WireFault.{WireFault}
use Rattle.http_wire.specs.declared.faults.WireFault.TheVariants as fault
use Rattle.http_wire.specs.Heads.{HeadSays, Opens}
use Rattle.http_wire.specs.Messages.{BeginsWith, IsMessageOf, IsMessage, ReadsBut}
use Rattle.http_wire.proofs.Carrying.{same_end}

pub used_twice : (a b d : List ℕ) (l m n : Option (List ℕ)) → Uses a b l m [] → Uses b d m n [] → Uses a d l n []
used_twice a b d l m n first then = record {
  given = first.given ++ then.given;
  consumed = Consumes-trans l m n first.given then.given first.consumed then.consumed;
  whole = sym (append_assoc a first.given then.given) ∙ ap (λ bytes. bytes ++ then.given) first.whole ∙ then.whole;
}

pub used_to_end : (a b d : List ℕ) (l m n : Option (List ℕ)) → Uses a b l m [] → KeepsAll b d m n → KeepsAll a d l n
used_to_end a b d l m n first then = record { used = used_twice a b d l m n first then.used; ended = then.ended }

pub rose_before : (a b c : ℕ) → a ≤ b → Rose b c → Rose a c
rose_before a b c le rose = let r : min (b + 1) (2 ^ 64 - 1) ≤ c = rose in omega arith

-- where no more can be kept, all that there was is still there
pub no_more : (e : WireFault) (a b d : List ℕ) (l m n : Option (List ℕ)) (x y z : ℕ) → x ≤ y → Uses a b l m [] → FillsBut e b d m n y z → FillsBut e a d l n x z
no_more fault.Failed a b d l m n x y z le first fills = (used_twice a b d l m n first fills.0, rose_before x y z le fills.1)
no_more fault.Memory a b d l m n x y z le first fills = used_twice a b d l m n first fills
no_more (fault.Bad t) a b d l m n x y z le first fills = absurd fills
no_more (fault.TooLong t) a b d l m n x y z le first fills = absurd fills
no_more (fault.Cut t) a b d l m n x y z le first fills = absurd fills

pub no_head : (e : WireFault) (a d : List ℕ) (l n : Option (List ℕ)) (x z : ℕ) → FillsBut e a d l n x z → GathersBut e a d l n x z
no_head fault.Failed a d l n x z fills = fills
no_head fault.Memory a d l n x z fills = fills
no_head (fault.Bad t) a d l n x z fills = absurd fills
no_head (fault.TooLong t) a d l n x z fills = absurd fills
no_head (fault.Cut t) a d l n x z fills = absurd fills

pub no_body : (e : WireFault) (want : ℕ) (a d : List ℕ) (l n : Option (List ℕ)) (x z : ℕ) → FillsBut e a d l n x z → StopsShort e want a d l n x z
no_body fault.Failed want a d l n x z fills = fills
no_body fault.Memory want a d l n x z fills = fills
no_body (fault.Bad t) want a d l n x z fills = absurd fills
no_body (fault.TooLong t) want a d l n x z fills = absurd fills
no_body (fault.Cut t) want a d l n x z fills = absurd fills

pub cut_off : (a b : List ℕ) (l m : Option (List ℕ)) (n : ℕ) → Uses a b l m [] → Uses a (drop n b) l m (take n b)
cut_off a b l m n all = record { given = all.given; consumed = all.consumed; whole = all.whole ∙ sym (take-append-drop n b) }

pub head_more : (xs ys : List ℕ) (n : ℕ) → IsHeadLength xs n → IsHeadLength (xs ++ ys) n
head_more xs ys n h = (
  h.0,
  h.1,
  record {
    inside = subst (λ (k : ℕ). h.0 < k) (sym (length-append xs ys)) (let i : h.0 < length xs = h.2.inside in omega arith);
    ends = same_end xs ys h.0 h.2.inside ∙ h.2.ends;
    first = λ at low high. same_end xs ys at (let i : h.0 < length xs = h.2.inside in omega arith) ∙ h.2.first at low high;
  },
)

head_less : (xs ys : List ℕ) (n : ℕ) → n ≤ length xs → IsHeadLength (xs ++ ys) n → IsHeadLength xs n
head_less xs ys n le h =
    let is : n ≡ h.0 + 1 = h.1 in
    let i : h.0 < length xs = omega arith in (
      h.0,
      is,
      record {
        inside = i;
        ends = sym (same_end xs ys h.0 i) ∙ h.2.ends;
        first = λ at low high. sym (same_end xs ys at (omega arith)) ∙ h.2.first at low high;
      },
    )

pub head_inside : (xs : List ℕ) (n : ℕ) → IsHeadLength xs n → n ≤ length xs
head_inside xs n h = let i : h.0 < length xs = h.2.inside in let is : n ≡ h.0 + 1 = h.1 in omega arith

pub begins_more : (xs ys : List ℕ) (n : ℕ) (o : HeadSays) → BeginsWith xs n o → BeginsWith (xs ++ ys) n o
begins_more xs ys n o b = record {
  head = head_more xs ys n b.head;
  short = b.short;
  opens = subst (λ (bytes : List ℕ). Opens bytes o) (sym (take-append-le n xs ys (head_inside xs n b.head))) b.opens;
}

begins_less : (xs ys : List ℕ) (n : ℕ) (o : HeadSays) → n ≤ length xs → BeginsWith (xs ++ ys) n o → BeginsWith xs n o
begins_less xs ys n o le b = record {
  head = head_less xs ys n le b.head;
  short = b.short;
  opens = subst (λ (bytes : List ℕ). Opens bytes o) (take-append-le n xs ys le) b.opens;
}

-- what begins so still does when more is kept
pub begins_on : (a b : List ℕ) (l m : Option (List ℕ)) (n : ℕ) (o : HeadSays) → Uses a b l m [] → BeginsWith a n o → BeginsWith b n o
begins_on a b l m n o all begins = subst (λ (bytes : List ℕ). BeginsWith bytes n o) all.whole (begins_more a all.given n o begins)

-- a front that is long enough begins as the whole does
pub begins_front : (xs : List ℕ) (n k : ℕ) (o : HeadSays) → n ≤ length (take k xs) → BeginsWith xs n o → BeginsWith (take k xs) n o
begins_front xs n k o le begins =
    begins_less (take k xs) (drop k xs) n o le (subst (λ (bytes : List ℕ). BeginsWith bytes n o) (sym (take-append-drop k xs)) begins)

-- the bytes up to the end of the body are the message
pub is_message : (xs body : List ℕ) (n k : ℕ) (o : HeadSays) (m : Message) → BeginsWith xs n o → IsMessageOf m o
    → k ≡ n + o.length → k ≤ length xs → m.body ≡ drop n (take k xs) → o.length ≤ 1048576 → IsMessage (take k xs) m
is_message xs body n k o m begins carries total le same within =
    let l = length-take k xs in
    let size : length (take k xs) ≡ k = grind (arith, common_steps) in
    record {
      n = n;
      o = o;
      begins = begins_front xs n k o (grind (arith, common_steps)) begins;
      carries = carries;
      whole = sym (take-append-drop n (take k xs)) ∙ ap (λ b. take n (take k xs) ++ b) (sym same);
      declared = sym (ap length same ∙ length-drop n (take k xs) ∙ grind (arith, common_steps));
      within = within;
    }

-- a body that can't be had is a message that can't be had
pub stopped : (e : WireFault) (a b d : List ℕ) (l m n : Option (List ℕ)) (x y z : ℕ) (k : ℕ) (o : HeadSays) → x ≤ y
    → Uses a b l m [] → BeginsWith b k o → o.length ≤ 1048576 → StopsShort e (k + o.length) b d m n y z → ReadsBut e a d l n x z
stopped fault.Failed a b d l m n x y z k o le first begins within stops = (used_twice a b d l m n first stops.0, rose_before x y z le stops.1)
stopped fault.Memory a b d l m n x y z k o le first begins within stops = used_twice a b d l m n first stops
stopped (fault.Bad t) a b d l m n x y z k o le first begins within stops = absurd stops
stopped (fault.TooLong t) a b d l m n x y z k o le first begins within stops = absurd stops
stopped (fault.Cut t) a b d l m n x y z k o le first begins within stops =
    let short : t < k + o.length = stops.2 in
    let count : t ≡ length d = stops.1 in
    (used_to_end a b d l m n first stops.0, stops.1, inr (k, o, begins_on b d m n k o stops.0.used begins, within, subst (λ (s : ℕ). s < k + o.length) count short))

pub body_at : (n s : ℕ) (xs : List ℕ) → take ((n + s) - n) (drop n xs) ≡ drop n (take (n + s) xs)
body_at n s xs = let back : (n + s) - n ≡ s = omega arith in ap (λ j. take j (drop n xs)) back ∙ sym (drop-take n s xs)
