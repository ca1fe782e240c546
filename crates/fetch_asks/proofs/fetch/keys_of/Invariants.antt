use Rattle.std.proofs.Common.{◌≡◌, take, map}
use Rattle.fetch_asks.proofs.Keying.{key_by}
use Rattle.fetch_asks.proofs.fetch.keys_of.Given as goal

abbrev pub invariant-loop-rep : goal.invariant-loop-rep
invariant-loop-rep l = l.keys.items ≡ map (key_by l.fetch.sub l.type_name l.sel) (take l.rep-index l.rep-items)
