-- What print gives at each kind of value.
use Rattle.std.proofs.Common.{◌≡◌, ℕ, List, ◌++◌, ap, ◌∙◌, sym, true, false}
use Rattle.std.specs.Prelude.{map, codes}
use Rattle.json_value.specs.declared.tree.Json.{Json}
use Rattle.json_value.specs.declared.tree.Json.TheVariants as json
use Rattle.json_value.specs.declared.tree.Json.TheOpen.{Json-F}
use Rattle.json_value.specs.declared.tree.Json.TheFolds.{fold-roll-Json}
use Rattle.json_print.specs.Escapes.{quoted}
use Rattle.json_print.specs.Print.{bracketed, print, print_step, print_member, member_text}

pub print-null : print json.Null ≡ codes "null"
print-null = ap print (sym json.rolls-Null) ∙ fold-roll-Json (List ℕ) print_step Json-F.Null

pub print-true : print (json.Bool true) ≡ codes "true"
print-true = ap print (sym (json.rolls-Bool true)) ∙ fold-roll-Json (List ℕ) print_step (Json-F.Bool true)

pub print-false : print (json.Bool false) ≡ codes "false"
print-false = ap print (sym (json.rolls-Bool false)) ∙ fold-roll-Json (List ℕ) print_step (Json-F.Bool false)

pub print-number : (text : List ℕ) → print (json.Number text) ≡ text
print-number text = ap print (sym (json.rolls-Number text)) ∙ fold-roll-Json (List ℕ) print_step (Json-F.Number text)

pub print-string : (text : List ℕ) → print (json.Str text) ≡ quoted text
print-string text = ap print (sym (json.rolls-Str text)) ∙ fold-roll-Json (List ℕ) print_step (Json-F.Str text)

pub print-list : (items : List Json) → print (json.List items) ≡ bracketed 91 (map print items) 93
print-list items = ap print (sym (json.rolls-List items)) ∙ fold-roll-Json (List ℕ) print_step (Json-F.List items)

pub print-object : (members : List (List ℕ × Json)) →
    print (json.Object members) ≡ bracketed 123 (map member_text (map print_member members)) 125
print-object members = ap print (sym (json.rolls-Object members)) ∙ fold-roll-Json (List ℕ) print_step (Json-F.Object members)

pub wrote_object : (start end : List ℕ) (v : Json) (members : List (List ℕ × Json)) → v ≡ json.Object members →
    end ≡ start ++ bracketed 123 (map member_text (map print_member members)) 125 → end ≡ start ++ print v
wrote_object start end v members is wrote = rw (is, print-object members) wrote
