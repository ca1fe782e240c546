-- What an index knows of the names of an object.
use Rattle.std.specs.Prelude.{◌≡◌, ℕ, Bool, true, List}
use Rattle.std.specs.BTreeSet.{contains}
use Rattle.std.specs.Cmp.Lexicographic.{slice_cmp}
use Rattle.std.specs.Ordering.{nat_cmp}
use Rattle.json_members.specs.declared.open_members.Index.{Index}
use Rattle.json_members.specs.declared.open_members.Index.TheVariants.{OneByOne, ByDigest, ByName}
use Rattle.json_members.specs.Slots.{digest_of, has_digest}

-- the digests of these names may be with others, and the names themselves are not
abbrev pub IndexesNames : Index → (List ℕ → Bool) → Type 0
IndexesNames OneByOne named = Unit {0}
IndexesNames (ByDigest t) named = (k : List ℕ) → named k ≡ true → has_digest t.value (digest_of k) ≡ true
IndexesNames (ByName s) named = (k : List ℕ) → contains (slice_cmp nat_cmp) s.value k ≡ named k
