use Rattle.std.proofs.Common.{List, ℕ, [], ◌∷◌, ◌++◌, Some, None, ap, sym, ◌∙◌, take}
use Rattle.std.proofs.lemmas.List.{append-nil}
use Rattle.json_value.specs.declared.tree.Json.{Json}
use Rattle.json_value.specs.Members.{member}
use Rattle.fetch_asks.specs.Asks.{picked}
use Rattle.fetch_asks.specs.Texts.{members_text}
use Rattle.fetch_asks.proofs.Naming.{members-none, picked-taken}
use Rattle.fetch_asks.proofs.members.picked_text.Goals as goal
use Rattle.fetch_asks.proofs.members.picked_text.Goals.{in-Some+in_ok-put_member, in_default}

pub loop-name-init : goal.loop-name-init
loop-name-init c = c.new-out.ensures.bytes ∙ sym members-none

pub loop-name-preserved : goal.loop-name-preserved
loop-name-preserved c =
    let so_far : List (List ℕ × Json) = picked (take c.loop-name.name-index c.args.names.now) c.args.variables.now in
    elim c.match-member.branch [
      | in-Some+in_ok-put_member w ↦
          (let more = picked-taken c.args.names.now c.loop-name.name-index c.name-item.result c.args.variables.now (Some w.in-Some.value.now) c.loop-name-test.true c.name-item.is
          (w.in-Some.ensures.value ∙ ap (member c.args.variables.now) c.as_str.ensures) in
          rw w.out-is (w.in_ok-put_member.ensures so_far c.loop-name.invariant
          ∙ ap (λ (n : List ℕ). members_text (so_far ++ ((n, w.in-Some.value.now) ∷ []))) w.as_str-in-Some.ensures ∙ ap members_text (sym more)))
      | in_default w ↦
          (let more = picked-taken c.args.names.now c.loop-name.name-index c.name-item.result c.args.variables.now None c.loop-name-test.true c.name-item.is
          (w.in_default.ensures.value ∙ ap (member c.args.variables.now) c.as_str.ensures) in
          rw w.out-is (c.loop-name.invariant ∙ ap members_text (sym (append-nil so_far) ∙ sym more)))
    ]
