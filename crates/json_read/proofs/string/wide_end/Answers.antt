use Rattle.std.proofs.Common.{◌≡◌, Some, refl, sym}
use Rattle.std.proofs.lemmas.Result.{err_from_is_err_and}
use Rattle.std.specs.Prelude.{slice_index}
use Rattle.json_machine.specs.declared.begun.Tail.TheVariants as tails
use Rattle.json_machine.specs.Scan.{lead}
use Rattle.json_read.proofs.Strings.{wide_bad, second_fails, third_fails, two_end, three_end, four_end}
use Rattle.json_read.proofs.string.wide_end.Goals as goal

pub returns-in-None : goal.returns-in-None
returns-in-None c = wide_bad c.args.bytes.now c.args.at c.requires.within c.requires.plain c.requires.inner (sym c.in-None.ensures)

pub returns-in-Some-One : goal.returns-in-Some-One
returns-in-Some-One c =
    let is : lead (slice_index c.args.bytes.now c.args.at) ≡ Some (tails.One c.in-Some-One.low c.in-Some-One.high) = cc in
    two_end c.args.bytes.now c.args.at c.in-Some-One.low c.in-Some-One.high c.tail_end.result c.requires.within is c.tail_end.ensures

pub returns-in_err-second-in-Some-Two : goal.returns-in_err-second-in-Some-Two
returns-in_err-second-in-Some-Two c =
    let is : lead (slice_index c.args.bytes.now c.args.at) ≡ Some (tails.Two c.in-Some-Two.low c.in-Some-Two.high) = cc in
    let k = err_from_is_err_and c.from_residual.result c.from_residual.ensures.1 in
    rw (k.1, k.2) (second_fails c.args.bytes.now c.args.at c.in-Some-Two.low c.in-Some-Two.high (tails.Two c.in-Some-Two.low c.in-Some-Two.high) _ c.requires.within is refl refl c.in_err-second-in-Some-Two.ensures)

pub returns-in_ok-second-in-Some-Two : goal.returns-in_ok-second-in-Some-Two
returns-in_ok-second-in-Some-Two c =
    let is : lead (slice_index c.args.bytes.now c.args.at) ≡ Some (tails.Two c.in-Some-Two.low c.in-Some-Two.high) = cc in
    three_end c.args.bytes.now c.args.at c.in-Some-Two.low c.in-Some-Two.high c.in_ok-second-in-Some-Two.second c.tail_end-in-Some-Two-2.result c.requires.within is c.in_ok-second-in-Some-Two.ensures c.tail_end-in-Some-Two-2.ensures

pub returns-in_err-second-in-Some-Three : goal.returns-in_err-second-in-Some-Three
returns-in_err-second-in-Some-Three c =
    let is : lead (slice_index c.args.bytes.now c.args.at) ≡ Some (tails.Three c.in-Some-Three.low c.in-Some-Three.high) = cc in
    let k = err_from_is_err_and c.from_residual-in_err-second-in-Some-Three.result c.from_residual-in_err-second-in-Some-Three.ensures.1 in
    rw (k.1, k.2) (second_fails c.args.bytes.now c.args.at c.in-Some-Three.low c.in-Some-Three.high (tails.Three c.in-Some-Three.low c.in-Some-Three.high) _ c.requires.within is refl refl c.in_err-second-in-Some-Three.ensures)

pub returns-in_err-third-in-Some-Three : goal.returns-in_err-third-in-Some-Three
returns-in_err-third-in-Some-Three c =
    let is : lead (slice_index c.args.bytes.now c.args.at) ≡ Some (tails.Three c.in-Some-Three.low c.in-Some-Three.high) = cc in
    let k = err_from_is_err_and c.from_residual-in_err-third-in-Some-Three.result c.from_residual-in_err-third-in-Some-Three.ensures.1 in
    rw (k.1, k.2) (third_fails c.args.bytes.now c.args.at c.in-Some-Three.low c.in-Some-Three.high c.in_ok-second-in-Some-Three.second _ c.requires.within is c.in_ok-second-in-Some-Three.ensures c.in_err-third-in-Some-Three.ensures)

pub returns-in_ok-third-in-Some-Three : goal.returns-in_ok-third-in-Some-Three
returns-in_ok-third-in-Some-Three c =
    let is : lead (slice_index c.args.bytes.now c.args.at) ≡ Some (tails.Three c.in-Some-Three.low c.in-Some-Three.high) = cc in
    four_end c.args.bytes.now c.args.at c.in-Some-Three.low c.in-Some-Three.high c.in_ok-second-in-Some-Three.second c.in_ok-third-in-Some-Three.third c.tail_end-in-Some-Three-3.result c.requires.within is c.in_ok-second-in-Some-Three.ensures c.in_ok-third-in-Some-Three.ensures c.tail_end-in-Some-Three-3.ensures
