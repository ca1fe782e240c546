-- The first letter of its verb tells a command, so words with one verb are no command of another.
use Rattle.std.proofs.Common.{◌≡◌, ℕ, List, get_or, arith, ap}
use Rattle.std.specs.Prelude.{codes}
use Rattle.std.specs.Prelude.{Bool, Option}
use Rattle.cache_terms.specs.declared.keys.Key.{Key}
use Rattle.cache_terms.specs.declared.keys.Target.{Target}
use Rattle.cache_terms.specs.declared.keys.Target.TheVariants as target
use Rattle.cache_terms.specs.declared.tags.Tags.{Tags}
use Rattle.script_lines.specs.declared.commands.Command.{Command}
use Rattle.script_lines.specs.declared.commands.Command.TheVariants as command
use Rattle.script_lines.specs.Commands.{Says, SaysBegin, SaysLook, SaysSettle, SaysReply, SaysFail, SaysTarget, SaysVoid, word}

abbrev pub letter : Command → ℕ
letter (command.Begin who) = 98
letter (command.Look who id now key) = 108
letter (command.Settle epoch ticket lifetime age private tags value) = 115
letter (command.Reply epoch ticket status age tags value cache_control) = 114
letter (command.Fail epoch ticket) = 102
letter (command.Void who target) = 118
letter command.Tally = 116

abbrev pub first : List (List ℕ) → ℕ
first line = get_or (word line 0) 0 0

target_letter : (line : List (List ℕ)) (t : Target) → SaysTarget line t → first line ≡ 118
target_letter line (target.Subgraph sub) h = ap (λ (l : List ℕ). get_or l 0 0) h.form.verb_is
target_letter line (target.OfType sub type_name) h = ap (λ (l : List ℕ). get_or l 0 0) h.form.verb_is
target_letter line (target.Tag sub tag) h = ap (λ (l : List ℕ). get_or l 0 0) h.form.verb_is

pub first_letter : (line : List (List ℕ)) (c : Command) → Says line c → first line ≡ letter c
first_letter line (command.Begin who) h = ap (λ (l : List ℕ). get_or l 0 0) h.form.verb_is
first_letter line (command.Look who id now key) h = ap (λ (l : List ℕ). get_or l 0 0) h.form.verb_is
first_letter line (command.Settle epoch ticket lifetime age private tags value) h = ap (λ (l : List ℕ). get_or l 0 0) h.form.verb_is
first_letter line (command.Reply epoch ticket status age tags value cache_control) h = ap (λ (l : List ℕ). get_or l 0 0) h.verb_is
first_letter line (command.Fail epoch ticket) h = ap (λ (l : List ℕ). get_or l 0 0) h.form.verb_is
first_letter line (command.Void who target) h = target_letter line target h.target_is
first_letter line command.Tally h = ap (λ (l : List ℕ). get_or l 0 0) h.verb_is

other : (line : List (List ℕ)) (c : Command) (n : ℕ) → first line ≡ n → Says line c → (letter c ≡ n → ⊥) → ⊥
other line c n here h differs = let e : first line ≡ letter c = first_letter line c h in differs (omega (arith, e, here))

pub no_begin : (line : List (List ℕ)) → word line 0 ≡ codes "begin" → ((who : ℕ) → SaysBegin line who → ⊥) → (c : Command) → Says line c → ⊥
no_begin line verb none (command.Begin who) h = none who h
no_begin line verb none c h = other line c 98 (ap (λ (l : List ℕ). get_or l 0 0) verb) h (λ e. absurd (omega (arith, e)))

pub no_look : (line : List (List ℕ)) → word line 0 ≡ codes "look" → ((who : ℕ) (id : Option (List ℕ)) (now : ℕ) (key : Key) → SaysLook line who id now key → ⊥) → (c : Command) → Says line c → ⊥
no_look line verb none (command.Look who id now key) h = none who id now key h
no_look line verb none c h = other line c 108 (ap (λ (l : List ℕ). get_or l 0 0) verb) h (λ e. absurd (omega (arith, e)))

pub no_settle : (line : List (List ℕ)) → word line 0 ≡ codes "settle" → ((epoch ticket lifetime age : ℕ) (private : Bool) (tags : Tags) (value : List ℕ) → SaysSettle line epoch ticket lifetime age private tags value → ⊥) → (c : Command) → Says line c → ⊥
no_settle line verb none (command.Settle epoch ticket lifetime age private tags value) h = none epoch ticket lifetime age private tags value h
no_settle line verb none c h = other line c 115 (ap (λ (l : List ℕ). get_or l 0 0) verb) h (λ e. absurd (omega (arith, e)))

pub no_reply : (line : List (List ℕ)) → word line 0 ≡ codes "reply" → ((epoch ticket status : ℕ) (age : Option (List ℕ)) (tags : Tags) (value : List ℕ) (cache_control : Option (List ℕ)) → SaysReply line epoch ticket status age tags value cache_control → ⊥) → (c : Command) → Says line c → ⊥
no_reply line verb none (command.Reply epoch ticket status age tags value cache_control) h = none epoch ticket status age tags value cache_control h
no_reply line verb none c h = other line c 114 (ap (λ (l : List ℕ). get_or l 0 0) verb) h (λ e. absurd (omega (arith, e)))

pub no_fail : (line : List (List ℕ)) → word line 0 ≡ codes "fail" → ((epoch ticket : ℕ) → SaysFail line epoch ticket → ⊥) → (c : Command) → Says line c → ⊥
no_fail line verb none (command.Fail epoch ticket) h = none epoch ticket h
no_fail line verb none c h = other line c 102 (ap (λ (l : List ℕ). get_or l 0 0) verb) h (λ e. absurd (omega (arith, e)))

pub no_void : (line : List (List ℕ)) → word line 0 ≡ codes "void" → ((who : ℕ) (target : Target) → SaysVoid line who target → ⊥) → (c : Command) → Says line c → ⊥
no_void line verb none (command.Void who target) h = none who target h
no_void line verb none c h = other line c 118 (ap (λ (l : List ℕ). get_or l 0 0) verb) h (λ e. absurd (omega (arith, e)))
