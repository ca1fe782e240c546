-- A line has one reading.
use Rattle.std.proofs.Common.{◌≡◌, inl, inr, ℕ, ◌==◌, List, [], ◌∷◌, get_or, Option, Some, None, arith, sym, ◌∙◌, ap, subst, rules, refl}
use Rattle.std.specs.Prelude.{codes, Bool, true, false}
use Rattle.std.specs.List.{slice_split}
use Rattle.std.proofs.lemmas.List.Splits.{slice_split_none, slice_split_at}
use Rattle.cache_terms.specs.declared.keys.Key.{Key}
use Rattle.cache_terms.specs.declared.keys.Target.{Target}
use Rattle.cache_terms.specs.declared.keys.Target.TheVariants as target
use Rattle.cache_terms.specs.declared.tags.Tags.{Tags}
use Rattle.script_lines.specs.declared.commands.Command.{Command}
use Rattle.script_lines.specs.declared.commands.Command.TheVariants as command
use Rattle.script_lines.specs.Script.{IsNumber}
use Rattle.script_lines.specs.Commands.{word, rest_from, IsOptional, IsTicket, IsScope, IsTagWord, IsKey, SaysTarget, Says}
use Rattle.script_lines.proofs.Pieces.{free}
use Rattle.script_lines.proofs.Numbers.{number_same, number_dotless}
use Rattle.script_lines.proofs.Forms.{letter, first_letter}

ticket_split : (w : List ℕ) (e t : ℕ) → (is : IsTicket w e t) → slice_split (λ b. b == 46) w ≡ is.before ∷ is.after ∷ []
ticket_split w e t is =
    ap (slice_split (λ b. b == 46)) is.form
    ∙ slice_split_at (λ b. b == 46) is.before 46 is.after (free 46 is.before (number_dotless is.before e is.epoch_is)) (search rules)
    ∙ ap (λ (l : List (List ℕ)). is.before ∷ l) (slice_split_none (λ b. b == 46) is.after (free 46 is.after (number_dotless is.after t is.ticket_is)))

epoch_same : (a b : List ℕ) (m n : ℕ) → a ≡ b → IsNumber a m → IsNumber b n → m ≡ n
epoch_same a b m n e h k = number_same a m n h (subst (λ (l : List ℕ). IsNumber l n) (sym e) k)

ticket_same : (w : List ℕ) (e t f u : ℕ) → IsTicket w e t → IsTicket w f u → (e ≡ f) × (t ≡ u)
ticket_same w e t f u h k =
    let same : h.before ∷ h.after ∷ [] ≡ k.before ∷ k.after ∷ [] = sym (ticket_split w e t h) ∙ ticket_split w f u k in
    let front : h.before ≡ k.before = cc in
    let back : h.after ≡ k.after = cc in
    (epoch_same h.before k.before e f front h.epoch_is k.epoch_is, epoch_same h.after k.after t u back h.ticket_is k.ticket_is)

optional_same : (w : List ℕ) (a b : Option (List ℕ)) → IsOptional w a → IsOptional w b → a ≡ b
optional_same w None None h k = refl
optional_same w None (Some b) h k = absurd (k.1 h)
optional_same w (Some a) None h k = absurd (h.1 k)
optional_same w (Some a) (Some b) h k = ap Some (h.0 ∙ sym k.0)

scopes_differ : (w : List ℕ) → w ≡ codes "public" → w ≡ codes "private" → ⊥
scopes_differ w h k = let e : 117 ≡ 114 = ap (λ (l : List ℕ). get_or l 1 0) (sym h ∙ k) in absurd (omega (arith, e))

scope_same : (w : List ℕ) (a b : Bool) → IsScope w a → IsScope w b → a ≡ b
scope_same w false false h k = refl
scope_same w false true h k = absurd (scopes_differ w h k)
scope_same w true false h k = absurd (scopes_differ w k h)
scope_same w true true h k = refl

abbrev key_of : (sub type_name rep sel : List ℕ) → Key
key_of sub type_name rep sel = record { sub = sub; type_name = type_name; rep = rep; sel = sel }

key_same : (line : List (List ℕ)) (at : ℕ) (a b : Key) → IsKey line at a → IsKey line at b → a ≡ b
key_same line at a b h k =
    ap (λ (s : List ℕ). key_of s a.type_name a.rep a.sel) (h.sub.same ∙ sym k.sub.same)
    ∙ ap (λ (s : List ℕ). key_of b.sub s a.rep a.sel) (h.type_name.same ∙ sym k.type_name.same)
    ∙ ap (λ (s : List ℕ). key_of b.sub b.type_name s a.sel) (h.rep.same ∙ sym k.rep.same)
    ∙ ap (λ (s : List ℕ). key_of b.sub b.type_name b.rep s) (h.sel.same ∙ sym k.sel.same)

tags_same : (w : List ℕ) (a b : Tags) → IsTagWord w a → IsTagWord w b → a ≡ b
tags_same w a b (inl h) (inl k) = h.1 ∙ sym k.1
tags_same w a b (inl h) (inr k) = absurd (k.0 h.0)
tags_same w a b (inr h) (inl k) = absurd (h.0 k.0)
tags_same w a b (inr h) (inr k) = h.2 ∙ sym k.2

kinds_differ : (w : List ℕ) → w ≡ codes "type" → w ≡ codes "tag" → ⊥
kinds_differ w h k = let e : 121 ≡ 97 = ap (λ (l : List ℕ). get_or l 1 0) (sym h ∙ k) in absurd (omega (arith, e))

target_same : (line : List (List ℕ)) (a b : Target) → SaysTarget line a → SaysTarget line b → a ≡ b
target_same line (target.Subgraph s) (target.Subgraph r) h k = ap target.Subgraph (h.sub_is.same ∙ sym k.sub_is.same)
target_same line (target.Subgraph s) (target.OfType r u) h k = absurd (omega (arith, h.form.counted, k.form.counted))
target_same line (target.Subgraph s) (target.Tag r u) h k = absurd (omega (arith, h.form.counted, k.form.counted))
target_same line (target.OfType s t) (target.Subgraph r) h k = absurd (omega (arith, h.form.counted, k.form.counted))
target_same line (target.OfType s t) (target.OfType r u) h k =
    let sub : s ≡ r = h.sub_is.same ∙ sym k.sub_is.same in
    let within : t ≡ u = h.within_is.same ∙ sym k.within_is.same in
    cc
target_same line (target.OfType s t) (target.Tag r u) h k = absurd (kinds_differ (word line 2) h.kind_is k.kind_is)
target_same line (target.Tag s t) (target.Subgraph r) h k = absurd (omega (arith, h.form.counted, k.form.counted))
target_same line (target.Tag s t) (target.OfType r u) h k = absurd (kinds_differ (word line 2) k.kind_is h.kind_is)
target_same line (target.Tag s t) (target.Tag r u) h k =
    let sub : s ≡ r = h.sub_is.same ∙ sym k.sub_is.same in
    let within : t ≡ u = h.within_is.same ∙ sym k.within_is.same in
    cc

letters : (line : List (List ℕ)) (c d : Command) → Says line c → Says line d → letter c ≡ letter d
letters line c d h k = sym (first_letter line c h) ∙ first_letter line d k

same_begin : (line : List (List ℕ)) (who : ℕ) (d : Command) → Says line (command.Begin who) → Says line d → letter d ≡ 98 → command.Begin who ≡ d
same_begin line who (command.Begin w) h k e = ap command.Begin (number_same (word line 1) who w h.who_is.number k.who_is.number)
same_begin line who d h k e = absurd (omega (arith, e))

same_look : (line : List (List ℕ)) (who : ℕ) (id : Option (List ℕ)) (now : ℕ) (key : Key) (d : Command) → Says line (command.Look who id now key) → Says line d → letter d ≡ 108 → command.Look who id now key ≡ d
same_look line who id now key (command.Look w i n q) h k e =
    let a : who ≡ w = number_same (word line 1) who w h.who_is.number k.who_is.number in
    let b : id ≡ i = optional_same (word line 2) id i h.id_is.same k.id_is.same in
    let c : now ≡ n = number_same (word line 3) now n h.now_is k.now_is in
    let d : key ≡ q = key_same line 4 key q h.key_is k.key_is in
    cc
same_look line who id now key d h k e = absurd (omega (arith, e))

same_settle : (line : List (List ℕ)) (epoch ticket lifetime age : ℕ) (private : Bool) (tags : Tags) (value : List ℕ) (d : Command) → Says line (command.Settle epoch ticket lifetime age private tags value) → Says line d → letter d ≡ 115 → command.Settle epoch ticket lifetime age private tags value ≡ d
same_settle line epoch ticket lifetime age private tags value (command.Settle f u m b p g v) h k e =
    let t = ticket_same (word line 1) epoch ticket f u h.ticket_is k.ticket_is in
    let q0 : epoch ≡ f = t.0 in
    let q1 : ticket ≡ u = t.1 in
    let q2 : lifetime ≡ m = number_same (word line 2) lifetime m h.lifetime_is.number k.lifetime_is.number in
    let q3 : age ≡ b = number_same (word line 3) age b h.age_is.number k.age_is.number in
    let q4 : private ≡ p = scope_same (word line 4) private p h.scope_is k.scope_is in
    let q5 : tags ≡ g = tags_same (word line 5) tags g h.tags_is k.tags_is in
    let q6 : value ≡ v = h.value_is.same ∙ sym k.value_is.same in
    cc
same_settle line epoch ticket lifetime age private tags value d h k e = absurd (omega (arith, e))

same_reply : (line : List (List ℕ)) (epoch ticket status : ℕ) (age : Option (List ℕ)) (tags : Tags) (value : List ℕ) (cache_control : Option (List ℕ)) (d : Command) → Says line (command.Reply epoch ticket status age tags value cache_control) → Says line d → letter d ≡ 114 → command.Reply epoch ticket status age tags value cache_control ≡ d
same_reply line epoch ticket status age tags value cache_control (command.Reply f u s b g v r) h k e =
    let t = ticket_same (word line 1) epoch ticket f u h.ticket_is k.ticket_is in
    let q0 : epoch ≡ f = t.0 in
    let q1 : ticket ≡ u = t.1 in
    let q2 : status ≡ s = h.status_is.value ∙ sym k.status_is.value in
    let q3 : age ≡ b = optional_same (word line 3) age b h.age_is.same k.age_is.same in
    let q4 : tags ≡ g = tags_same (word line 4) tags g h.tags_is k.tags_is in
    let q5 : value ≡ v = h.value_is.same ∙ sym k.value_is.same in
    let q6 : cache_control ≡ r = optional_same (rest_from line 6) cache_control r h.cache_control_is k.cache_control_is in
    cc
same_reply line epoch ticket status age tags value cache_control d h k e = absurd (omega (arith, e))

same_fail : (line : List (List ℕ)) (epoch ticket : ℕ) (d : Command) → Says line (command.Fail epoch ticket) → Says line d → letter d ≡ 102 → command.Fail epoch ticket ≡ d
same_fail line epoch ticket (command.Fail f u) h k e =
    let t = ticket_same (word line 1) epoch ticket f u h.ticket_is k.ticket_is in
    let q0 : epoch ≡ f = t.0 in
    let q1 : ticket ≡ u = t.1 in
    cc
same_fail line epoch ticket d h k e = absurd (omega (arith, e))

same_void : (line : List (List ℕ)) (who : ℕ) (t : Target) (d : Command) → Says line (command.Void who t) → Says line d → letter d ≡ 118 → command.Void who t ≡ d
same_void line who t (command.Void w u) h k e =
    let q0 : who ≡ w = number_same (word line 1) who w h.who_is.number k.who_is.number in
    let q1 : t ≡ u = target_same line t u h.target_is k.target_is in
    cc
same_void line who t d h k e = absurd (omega (arith, e))

same_tally : (d : Command) → letter d ≡ 116 → command.Tally ≡ d
same_tally command.Tally e = refl
same_tally d e = absurd (omega (arith, e))

pub readings_agree : (line : List (List ℕ)) (c d : Command) → Says line c → Says line d → c ≡ d
readings_agree line (command.Begin who) d h k = same_begin line who d h k (sym (letters line (command.Begin who) d h k))
readings_agree line (command.Look who id now key) d h k = same_look line who id now key d h k (sym (letters line (command.Look who id now key) d h k))
readings_agree line (command.Settle epoch ticket lifetime age private tags value) d h k = same_settle line epoch ticket lifetime age private tags value d h k (sym (letters line (command.Settle epoch ticket lifetime age private tags value) d h k))
readings_agree line (command.Reply epoch ticket status age tags value cache_control) d h k = same_reply line epoch ticket status age tags value cache_control d h k (sym (letters line (command.Reply epoch ticket status age tags value cache_control) d h k))
readings_agree line (command.Fail epoch ticket) d h k = same_fail line epoch ticket d h k (sym (letters line (command.Fail epoch ticket) d h k))
readings_agree line (command.Void who t) d h k = same_void line who t d h k (sym (letters line (command.Void who t) d h k))
readings_agree line command.Tally d h k = same_tally d (sym (letters line command.Tally d h k))
