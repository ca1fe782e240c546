-- What the words of a line say.
use Rattle.std.specs.Prelude.{◌≡◌, ◌≢◌, ◌⊎◌, ℕ, ◌+◌, ◌<◌, ◌≤◌, Bool, true, false, List, [], ◌∷◌, ◌++◌, length, drop, slice_index_or, codes, Option, Some, None}
use Rattle.std.specs.List.{join_with_byte}
use Rattle.std.specs.Str.Parse.{AllDigits, digits_value}
use Rattle.cache_terms.specs.declared.keys.Key.{Key}
use Rattle.cache_terms.specs.declared.keys.Target.{Target}
use Rattle.cache_terms.specs.declared.keys.Target.TheVariants as target
use Rattle.cache_terms.specs.declared.tags.Tags.{Tags}
use Rattle.cache_terms.specs.Tags.{tags_of}
use Rattle.script_lines.specs.declared.commands.Command.{Command}
use Rattle.script_lines.specs.declared.commands.Command.TheVariants as command
use Rattle.script_lines.specs.Script.{parts, IsNumber}

-- the word at a place, from 0
abbrev pub word : List (List ℕ) → ℕ → List ℕ
word line i = slice_index_or line i []

-- the rest of a line from the word at a place on, with the spaces in it
abbrev pub rest_from : List (List ℕ) → ℕ → List ℕ
rest_from line i = join_with_byte 32 (drop i line)

-- so many words, and the first is the verb
pub record HasForm (line : List (List ℕ)) (verb : List ℕ) (count : ℕ) : Type 0 where
  pub counted : length line ≡ count
  pub verb_is : word line 0 ≡ verb

-- a word that is not empty
pub record IsWordText (w text : List ℕ) : Type 0 where
  pub same : text ≡ w
  pub some : 0 < length w

-- a text, or none for `-`
abbrev pub IsOptional : List ℕ → Option (List ℕ) → Type 0
IsOptional w None = w ≡ codes "-"
IsOptional w (Some text) = (text ≡ w) × (w ≢ codes "-")

-- a word that is not empty, or none for `-`
pub record IsOptionalWord (w : List ℕ) (text : Option (List ℕ)) : Type 0 where
  pub same : IsOptional w text
  pub some : 0 < length w

-- W, the number of a caller
pub record IsCallerNumber (w : List ℕ) (who : ℕ) : Type 0 where
  pub number : IsNumber w who
  pub within : who ≤ 65535

-- E.T, an epoch and a ticket
pub record IsTicket (w : List ℕ) (epoch ticket : ℕ) : Type 0 where
  pub before : List ℕ
  pub after : List ℕ
  pub form : w ≡ before ++ 46 ∷ after
  pub epoch_is : IsNumber before epoch
  pub ticket_is : IsNumber after ticket

-- a number of seconds
pub record IsSpan (w : List ℕ) (seconds : ℕ) : Type 0 where
  pub number : IsNumber w seconds
  pub within : seconds ≤ 2147483648

-- three digits, of which the first may be 0
pub record IsStatus (w : List ℕ) (status : ℕ) : Type 0 where
  pub three : length w ≡ 3
  pub digits : AllDigits 10 w
  pub value : status ≡ digits_value 10 w

-- `public` or `private`
abbrev pub IsScope : List ℕ → Bool → Type 0
IsScope w false = w ≡ codes "public"
IsScope w true = w ≡ codes "private"

-- none for `-`, else the texts between the commas
abbrev pub IsTagWord : List ℕ → Tags → Type 0
IsTagWord w tags = ((w ≡ codes "-") × (tags ≡ tags_of [])) ⊎ ((w ≢ codes "-") × (0 < length w) × (tags ≡ tags_of (parts w)))

-- the words from a place on are the texts of a key
pub record IsKey (line : List (List ℕ)) (at : ℕ) (key : Key) : Type 0 where
  pub sub : IsWordText (word line at) key.sub
  pub type_name : IsWordText (word line (at + 1)) key.type_name
  pub rep : IsWordText (word line (at + 2)) key.rep
  pub sel : IsWordText (word line (at + 3)) key.sel

-- begin W
pub record SaysBegin (line : List (List ℕ)) (who : ℕ) : Type 0 where
  pub form : HasForm line (codes "begin") 2
  pub who_is : IsCallerNumber (word line 1) who

-- look W ID NOW SUB TYPE REP SEL
pub record SaysLook (line : List (List ℕ)) (who : ℕ) (id : Option (List ℕ)) (now : ℕ) (key : Key) : Type 0 where
  pub form : HasForm line (codes "look") 8
  pub who_is : IsCallerNumber (word line 1) who
  pub id_is : IsOptionalWord (word line 2) id
  pub now_is : IsNumber (word line 3) now
  pub key_is : IsKey line 4 key

-- settle E.T LIFETIME AGE SCOPE TAGS VALUE
pub record SaysSettle (line : List (List ℕ)) (epoch ticket lifetime age : ℕ) (private : Bool) (tags : Tags) (value : List ℕ) : Type 0 where
  pub form : HasForm line (codes "settle") 7
  pub ticket_is : IsTicket (word line 1) epoch ticket
  pub lifetime_is : IsSpan (word line 2) lifetime
  pub age_is : IsSpan (word line 3) age
  pub scope_is : IsScope (word line 4) private
  pub tags_is : IsTagWord (word line 5) tags
  pub value_is : IsWordText (word line 6) value

-- reply E.T STATUS AGE TAGS VALUE CC, where CC is the rest of the line, which may be empty
pub record SaysReply (line : List (List ℕ)) (epoch ticket status : ℕ) (age : Option (List ℕ)) (tags : Tags) (value : List ℕ) (cache_control : Option (List ℕ)) : Type 0 where
  pub counted : 7 ≤ length line
  pub verb_is : word line 0 ≡ codes "reply"
  pub ticket_is : IsTicket (word line 1) epoch ticket
  pub status_is : IsStatus (word line 2) status
  pub age_is : IsOptionalWord (word line 3) age
  pub tags_is : IsTagWord (word line 4) tags
  pub value_is : IsWordText (word line 5) value
  pub cache_control_is : IsOptional (rest_from line 6) cache_control

-- fail E.T
pub record SaysFail (line : List (List ℕ)) (epoch ticket : ℕ) : Type 0 where
  pub form : HasForm line (codes "fail") 2
  pub ticket_is : IsTicket (word line 1) epoch ticket

-- void W sub S
pub record SaysVoidSubgraph (line : List (List ℕ)) (sub : List ℕ) : Type 0 where
  pub form : HasForm line (codes "void") 4
  pub kind : word line 2 ≡ codes "sub"
  pub sub_is : IsWordText (word line 3) sub

-- void W type S T, void W tag S G
pub record SaysVoidWithin (line : List (List ℕ)) (kind sub within : List ℕ) : Type 0 where
  pub form : HasForm line (codes "void") 5
  pub kind_is : word line 2 ≡ kind
  pub sub_is : IsWordText (word line 3) sub
  pub within_is : IsWordText (word line 4) within

abbrev pub SaysTarget : List (List ℕ) → Target → Type 0
SaysTarget line (target.Subgraph sub) = SaysVoidSubgraph line sub
SaysTarget line (target.OfType sub type_name) = SaysVoidWithin line (codes "type") sub type_name
SaysTarget line (target.Tag sub tag) = SaysVoidWithin line (codes "tag") sub tag

pub record SaysVoid (line : List (List ℕ)) (who : ℕ) (target : Target) : Type 0 where
  pub who_is : IsCallerNumber (word line 1) who
  pub target_is : SaysTarget line target

-- the words are this command
abbrev pub Says : List (List ℕ) → Command → Type 0
Says line (command.Begin who) = SaysBegin line who
Says line (command.Look who id now key) = SaysLook line who id now key
Says line (command.Settle epoch ticket lifetime age private tags value) = SaysSettle line epoch ticket lifetime age private tags value
Says line (command.Reply epoch ticket status age tags value cache_control) = SaysReply line epoch ticket status age tags value cache_control
Says line (command.Fail epoch ticket) = SaysFail line epoch ticket
Says line (command.Void who target) = SaysVoid line who target
Says line command.Tally = HasForm line (codes "tally") 1

-- the command that the words are, or none
abbrev pub IsCommandRead : List (List ℕ) → Option Command → Type 0
IsCommandRead line (Some c) = Says line c
IsCommandRead line None = (c : Command) → Says line c → ⊥
