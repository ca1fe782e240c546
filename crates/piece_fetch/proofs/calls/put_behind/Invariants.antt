use Rattle.std.proofs.Common.{◌≡◌, ◌++◌, drop}
use Rattle.std.specs.Prelude.{map, string_bytes}
use Rattle.fetch_asks.specs.Asking.{representation_of}
use Rattle.piece_fetch.specs.Between.{after_commas}
use Rattle.piece_fetch.proofs.calls.put_behind.Given as goal

-- what is listed so far and what is left are the whole
abbrev pub invariant-listing : goal.invariant-listing
invariant-listing l = string_bytes l.body ++ after_commas (map representation_of (drop l.permit-index l.permits)) ≡ string_bytes l.fn.body ++ after_commas (map representation_of l.permits)
