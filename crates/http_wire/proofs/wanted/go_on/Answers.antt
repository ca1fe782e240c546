use Rattle.std.proofs.Common.{◌≡◌, ◌∙◌, ◌≤◌, ◌-◌, ℕ, List, ap, sym, subst, length, drop, arith}
use Rattle.std.proofs.lemmas.List.{length-drop, take_all}
use Rattle.http_wire.specs.Chunks.{AreUnfinishedChunks}
use Rattle.http_wire.proofs.Carrying.{uses_none}
use Rattle.http_wire.proofs.ReplyFacts.{goes_on}
use Rattle.http_wire.proofs.wanted.go_on.Goals as goal

pub returns-then-there-end-clause-goes : goal.returns-then-there-end-clause-goes
returns-then-there-end-clause-goes g c =
    let there : length c.as_slice-there.result.now ≡ length c.args.kept.now = ap length c.as_slice-there.ensures in
    (uses_none c.args.kept.now _, (ap (λ k. k - c.args.head) there ∙ sym (length-drop c.args.head c.args.kept.now), omega arith, c.requires.unfinished))

pub returns-then-ended-clause-goes : goal.returns-then-ended-clause-goes
returns-then-ended-clause-goes g c =
    let there : length c.as_slice-there.result.now ≡ length c.args.kept.now = ap length c.as_slice-there.ensures in
    let size : length (drop c.args.head c.args.kept.now) ≡ length c.args.kept.now - c.args.head = length-drop c.args.head c.args.kept.now in
    let few : length (drop c.args.head c.args.kept.now) ≤ 4194304 = omega arith in (
      record { used = uses_none c.args.kept.now _; ended = c.requires.ended c.if-ended.true },
      there,
      (few, subst (λ (b : List ℕ). AreUnfinishedChunks b) (take_all 4194304 (drop c.args.head c.args.kept.now) few) c.requires.unfinished),
    )

pub returns-clause-goes : goal.returns-clause-goes
returns-clause-goes g c = goes_on _ c.args.head _ _ _ _ _ _ c.gather_wanted.ensures.gathers
