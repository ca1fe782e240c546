use Rattle.std.proofs.Common.{◌≡◌, ◌+◌, ◌-◌, length, take, drop, arith, subst, sym, List, ℕ, Option}
use Rattle.std.proofs.Math.Seq.{take-add}
use Rattle.std.specs.Io.KnownBytes.{Appends}
use Rattle.std.proofs.KnownBytes.{Appends-trans}
use Rattle.std.proofs.lemmas.Grind.{common_steps}
use Rattle.flow_base.proofs.sink.put_all.Goals as goal

rest_whole : (i : ℕ) (bs : List ℕ) → take (length bs - i) (drop i bs) ≡ drop i bs
rest_whole i bs = grind (arith, common_steps)

put_more : (a b d : Option (List ℕ)) (bs : List ℕ) (i n : ℕ) → Appends a b (take i bs) → Appends b d (take n (take (length bs - i) (drop i bs))) → Appends a d (take (i + n) bs)
put_more a b d bs i n front more = subst (λ (l : List ℕ). Appends a d l) (sym (take-add i n bs)) (Appends-trans a b d (take i bs) (take n (drop i bs)) front (subst (λ (l : List ℕ). Appends b d (take n l)) (rest_whole i bs) more))

pub loop-at-preserved : goal.loop-at-preserved
loop-at-preserved g c = record {
  within = grind (arith, common_steps);
  put = put_more _ _ _ c.args.bytes.now c.loop-at.at c.in_ok-at.field-0 c.loop-at.invariant.put c.in_ok-at.ensures.bytes;
  later = grind (arith, common_steps);
}
