use Rattle.std.proofs.Common.{rules, ◌≡◌, ℕ, List, [], ◌++◌, ap, ◌∙◌}
use Rattle.std.specs.Prelude.{codes, string_bytes}
use Rattle.json_value.specs.declared.tree.Json.TheVariants as json
use Rattle.json_print.specs.Print.{print}
use Rattle.std.proofs.lemmas.Result.{IfOk-weaker}
use Rattle.fetch_asks.specs.Asks as spec
use Rattle.fetch_asks.specs.Asks.{picked}
use Rattle.fetch_asks.proofs.Bodies.{made_root, made_entities}
use Rattle.fetch_asks.proofs.front.front_of.Goals as goal
use Rattle.fetch_asks.proofs.front.front_of.Goals.{in-Root+in_ok-push_str-in-Root, in-Entities+in_ok-put_name-in-Entities+in_ok-push_str-in-Entities}

pub returns : goal.returns
returns c = λ variables is.
    let query : c.as_str.result.now ≡ print (json.Str c.args.fetch.now.sel) = search rules in
    let members = string_bytes c.match-asked.members in
    let one : string_bytes c.push_str-2.new.self ≡ codes "{\"query\":" = search rules in
    let two : string_bytes c.push_str-3.new.self ≡ string_bytes c.push_str-2.new.self ++ c.as_str.result.now = search rules in
    let three : string_bytes c.push_str-4.new.self ≡ string_bytes c.push_str-3.new.self ++ codes ",\"variables\":{" = c.in_ok-push_str-3.ensures.bytes in
    let four : string_bytes c.push_str-5.new.self ≡ string_bytes c.push_str-4.new.self ++ members =
    c.in_ok-push_str-4.ensures.bytes ∙ ap (λ (t : List ℕ). string_bytes c.push_str-4.new.self ++ t) c.as_str-2.ensures.value in
    let made : string_bytes c.push_str-5.new.self ≡ ((codes "{\"query\":" ++ c.as_str.result.now) ++ codes ",\"variables\":{") ++ members =
    four ∙ ap (λ (t : List ℕ). t ++ members) three ∙ ap (λ (t : List ℕ). (t ++ codes ",\"variables\":{") ++ members) two
    ∙ ap (λ (t : List ℕ). ((t ++ c.as_str.result.now) ++ codes ",\"variables\":{") ++ members) one in
    let whole : string_bytes c.push_str-5.new.self ≡ spec.front_of c.args.fetch.now c.args.asked.now variables = elim c.match-asked.branch [
      | in-Root+in_ok-push_str-in-Root w ↦
          (let members_are : string_bytes c.match-asked.members ≡ string_bytes c.args.members ++ codes "}}" = rw w.members-is w.in_ok-push_str-in-Root.ensures.bytes in
          made_root c.args.fetch.now c.args.asked.now variables (string_bytes c.push_str-5.new.self) c.as_str.result.now (string_bytes c.args.members) (string_bytes c.match-asked.members) w.in-Root.is query made members_are is)
      | in-Entities+in_ok-put_name-in-Entities+in_ok-push_str-in-Entities w ↦
          (let members_are : string_bytes c.match-asked.members ≡ string_bytes w.put_name.new.out ++ codes "[" = rw w.members-is w.in_ok-push_str-in-Entities.ensures.bytes in
          made_entities c.args.fetch.now c.args.asked.now w.in-Entities.distinct w.in-Entities.used_by variables (string_bytes c.push_str-5.new.self) c.as_str.result.now (string_bytes w.put_name.new.out) (string_bytes c.match-asked.members) w.in-Entities.is query made members_are
          (w.in_ok-put_name-in-Entities.ensures (picked c.args.fetch.now.variables variables) (json.List []) is))
    ] in
    IfOk-weaker c.from_string.result _ _ (λ t same. same ∙ whole) c.from_string.ensures
