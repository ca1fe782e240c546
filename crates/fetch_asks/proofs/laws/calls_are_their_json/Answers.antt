use Rattle.std.proofs.Common.{List, ℕ, ◌++◌, ap, ◌∙◌}
use Rattle.fetch_asks.specs.Asking.{joined}
use Rattle.fetch_asks.specs.Asks.{front_of, back_of}
use Rattle.fetch_asks.proofs.Bodies.{body}
use Rattle.fetch_asks.proofs.laws.calls_are_their_json.Goals as goal

pub returns : goal.returns
returns c = λ id permits reps is.
    ap (λ (ts : List (List ℕ)). front_of c.args.fetch.now c.args.asked.now c.args.variables.now ++ (joined ts ++ back_of c.args.asked.now)) is
    ∙ body c.args.fetch.now c.args.asked.now c.args.variables.now reps
