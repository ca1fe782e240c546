use Rattle.std.proofs.Common.{rules, refl, map, string_bytes}
use Rattle.json_print.specs.Print as spec
use Rattle.json_print.proofs.Joined.{wrote}
use Rattle.json_print.proofs.Equations.{wrote_object}
use Rattle.json_print.proofs.write.+put.Goals as goal

pub put-returns-in_ok-put_object-in-Object : goal.put-returns-in_ok-put_object-in-Object
put-returns-in_ok-put_object-in-Object t c = wrote_object _ _ _ _ (search rules) c.in_ok-put_object-in-Object.ensures

pub put_list-returns : goal.put_list-returns
put_list-returns t c = wrote (λ xs. map spec.print xs) c.args.items.now c.loop-i.i (string_bytes c.args.out.now) (string_bytes c.loop-i.out) (string_bytes c.push-2.new.self) 91 93 refl c.loop-i-test.false c.loop-i.invariant (search rules)

pub put_object-returns : goal.put_object-returns
put_object-returns t c = wrote (λ ms. map spec.member_text (map spec.print_member ms)) c.args.members.now c.loop-i.i (string_bytes c.args.out.now) (string_bytes c.loop-i.out) (string_bytes c.push-2.new.self) 123 125 refl c.loop-i-test.false c.loop-i.invariant (search rules)
