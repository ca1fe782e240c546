use Rattle.std.proofs.Common.{rules, ◌≡◌, List, ℕ, true, [], ◌++◌, refl, ap, sym, ◌∙◌, length, arith}
use Rattle.std.proofs.lemmas.Bool.{eqb-true}
use Rattle.std.specs.Prelude.{◌==◌, codes, string_bytes}
use Rattle.json_value.specs.declared.tree.Json.TheVariants as json
use Rattle.json_print.specs.Print.{print}
use Rattle.fetch_asks.proofs.Naming.{named_first, named_next, no_bytes}
use Rattle.fetch_asks.proofs.members.put_name.Goals as goal
use Rattle.fetch_asks.proofs.members.put_name.Goals.{then-not-is_empty+in_ok-push_str, else-not-is_empty}

pub returns : goal.returns
returns c = λ members value is.
    let quoted : c.as_str.result.now ≡ print (json.Str c.args.name.now) = search rules in
    let end : string_bytes c.push_str-3.new.self ≡ (string_bytes c.if-not-is_empty.out ++ c.as_str.result.now) ++ codes ":" = search rules in
    let made = end ∙ ap (λ (t : List ℕ). (string_bytes c.if-not-is_empty.out ++ t) ++ codes ":") quoted in
    elim c.if-not-is_empty.branch [
      | then-not-is_empty+in_ok-push_str w ↦
          (let some : string_bytes c.args.out.now ≡ [] → ⊥ = search rules in
          let comma : string_bytes c.if-not-is_empty.out ≡ string_bytes c.args.out.now ++ codes "," = rw w.out-is (search rules) in
          named_next (string_bytes c.args.out.now) (string_bytes c.push_str-3.new.self) members c.args.name.now value some is
          (made ∙ ap (λ (t : List ℕ). (t ++ print (json.Str c.args.name.now)) ++ codes ":") comma))
      | else-not-is_empty w ↦
          (let zero : (c.args.out.now.bytes.len == 0) ≡ true = sym c.is_empty.ensures ∙ w.if-not-is_empty.false in
          let count : length (string_bytes c.args.out.now) ≡ 0 = omega (arith, c.args.out.now.bytes.ok.0, eqb-true c.args.out.now.bytes.len 0 zero) in
          let none : string_bytes c.args.out.now ≡ [] = no_bytes (string_bytes c.args.out.now) count in
          let same : string_bytes c.if-not-is_empty.out ≡ string_bytes c.args.out.now = rw w.out-is refl in
          named_first (string_bytes c.args.out.now) (string_bytes c.push_str-3.new.self) members c.args.name.now value none is
          (made ∙ ap (λ (t : List ℕ). (t ++ print (json.Str c.args.name.now)) ++ codes ":") same))
    ]
