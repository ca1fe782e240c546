use Rattle.std.proofs.Common.{◌≡◌, ◌++◌, ◌∷◌, map, drop}
use Rattle.std.specs.Prelude.{string_bytes}
use Rattle.json_print.specs.Print.{print, member_text, print_member}
use Rattle.json_print.proofs.Joined.{tail}
use Rattle.json_print.proofs.write.+put.Given as goal

abbrev pub invariant-put_list-loop-i : goal.invariant-put_list-loop-i
invariant-put_list-loop-i l =
    string_bytes l.out ++ tail 93 l.i (map print (drop l.i l.items))
    ≡ string_bytes l.fn.out ++ (91 ∷ tail 93 0 (map print l.items))

abbrev pub invariant-put_object-loop-i : goal.invariant-put_object-loop-i
invariant-put_object-loop-i l =
    string_bytes l.out ++ tail 125 l.i (map member_text (map print_member (drop l.i l.members)))
    ≡ string_bytes l.fn.out ++ (123 ∷ tail 125 0 (map member_text (map print_member l.members)))
