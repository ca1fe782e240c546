use Rattle.std.proofs.Common.{◌≡◌, ◌≤◌, arith}
use Rattle.fedrouter.proofs.Numbers.{number_same}
use Rattle.fedrouter.proofs.words.limit.Goals as goal

pub returns-then-count-least : goal.returns-then-count-least
returns-then-count-least c n h =
    let same : c.in-Some.count ≡ n = number_same c.args.word.now c.in-Some.count n c.in-Some.ensures h.number in
    let within : c.args.least ≤ n = h.from in
    omega arith

pub returns-then-count-most : goal.returns-then-count-most
returns-then-count-most c n h =
    let same : c.in-Some.count ≡ n = number_same c.args.word.now c.in-Some.count n c.in-Some.ensures h.number in
    let within : n ≤ c.args.most = h.to in
    omega arith
