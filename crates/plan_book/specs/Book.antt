-- Entries that are found by their texts.
use Rattle.std.specs.Prelude.{◌≡◌, ℕ, Bool, false, ◌||◌, List, [], ◌∷◌, Option, Some, None, ◌≤◌, length, map, IsTrue, All, if◌then◌else◌}
use Rattle.std.specs.Str.{bytes_eq}
use Rattle.plan_tree.specs.Lawful as plan
use Rattle.plan_tree.specs.Lawful.{differ}
use Rattle.plan_book.specs.declared.book.Entry.{Entry}

-- the first entry with this text
abbrev pub entry_with : List ℕ → List Entry → Option Entry
entry_with text [] = None
entry_with text (entry ∷ entries) = if bytes_eq text entry.text then Some entry else entry_with text entries

-- whether one of the entries has this text
abbrev pub has_entry : List ℕ → List Entry → Bool
has_entry text [] = false
has_entry text (entry ∷ entries) = bytes_eq text entry.text || has_entry text entries

abbrev pub text_of : Entry → List ℕ
text_of entry = entry.text

-- a plan that can be carried out, for a document of one operation
pub record IsLawfulEntry (entry : Entry) : Type 0 where
  pub one : length entry.document.operations ≡ 1
  pub plan : plan.IsLawful entry.plan

-- what holds of the entries of every plan file
pub record AreLawful (entries : List Entry) : Type 0 where
  pub few : length entries ≤ 1000
  pub texts : IsTrue (differ (map text_of entries))
  pub each : All IsLawfulEntry entries
