-- What a fetch over the shop's line does.
use Rattle.std.proofs.Common.{◌≡◌, ℕ, ◌+◌, ◌-◌, ◌^◌, ◌<◌, ◌≤◌, List, [], ◌∷◌, ◌++◌, length, length-append, Option, Some, None, refl, sym, ap, ◌∙◌, subst, arith, eq-eqb, append-nil}
use Rattle.std.specs.Prelude.{Bool, if◌then◌else◌, min, All, Ok, Err}
use Rattle.std.proofs.lemmas.List.Elements.{All-cons, All-nil, All-append}
use Rattle.cache_terms.specs.declared.events.Reply.{Reply}
use Rattle.cache_book.specs.Permits.{Granted}
use Rattle.line_base.specs.declared.line.Call as calls
use Rattle.line_base.specs.declared.line.LineFault.TheVariants as fault
use Rattle.line_base.specs.Foretold.{answer_told}
use Rattle.line_base.specs.Lines.{Entry, Fetches, names_of, failures, failed_by}
use Rattle.workload.specs.Replying.{IsReplied}
use Rattle.workload.specs.Answered.{IsAsReplied, shop_line}

length_push : (es : List Entry) (e : Entry) → length (es ++ e ∷ []) ≡ length es + 1
length_push es e = omega (arith, length-append es (e ∷ []))

failures_push : (sub : ℕ) (es : List Entry) (e : Entry) → failures sub (es ++ e ∷ []) ≡ failures sub es + failures sub (e ∷ [])
failures_push sub [] e = omega arith
failures_push sub (x ∷ es) e = omega (arith, failures_push sub es e)

calls_more : (es : List Entry) (e : Entry) → length (es ++ e ∷ []) < 2 ^ 64 → length (es ++ e ∷ []) ≡ min (length es + 1) (2 ^ 64 - 1)
calls_more es e room = omega (arith, length_push es e, room)

later : (es : List Entry) (e : Entry) (sub : ℕ) → failures sub es ≤ failures sub (es ++ e ∷ [])
later es e sub = omega (arith, failures_push sub es e)

one_failed : (sub : ℕ) (e : Entry) → e.call.sub ≡ sub → failed_by e.answer ≡ 1 → failures sub (e ∷ []) ≡ 1
one_failed sub e same failed = ap (λ (b : Bool). (if b then failed_by e.answer else 0) + 0) (eq-eqb e.call.sub sub same) ∙ omega (arith, failed)

-- for want of memory nothing is told
pub untold : (es : List Entry) (permits : List Granted) (call : calls.Call) → Fetches (shop_line es) permits call (Err fault.Memory) (shop_line es)
untold es permits call = record { before = refl; told = sym (append-nil es); counted = refl; calls = refl; later = λ sub. omega arith; cause = (refl, refl); foretold = refl }

-- the answer is told
told_by : (es : List Entry) (permits : List Granted) (call : calls.Call) (o : Option Reply) → length (es ++ record { permits = names_of permits; call = call; answer = answer_told o } ∷ []) < 2 ^ 64
    → Fetches (shop_line es) permits call (answer_told o) (shop_line (es ++ record { permits = names_of permits; call = call; answer = answer_told o } ∷ []))
told_by es permits call (Some reply) room =
    let e : Entry = record { permits = names_of permits; call = call; answer = Ok reply } in
    record { before = refl; told = refl; counted = refl; calls = calls_more es e room; later = later es e; cause = tt; foretold = refl }
told_by es permits call None room =
    let e : Entry = record { permits = names_of permits; call = call; answer = Err fault.Failed } in
    let one : failures call.sub (e ∷ []) ≡ 1 = one_failed call.sub e refl refl in
    record { before = refl; told = refl; counted = refl; calls = calls_more es e room; later = later es e; cause = omega (arith, failures_push call.sub es e, one); foretold = refl }

pub told_is : (es : List Entry) (permits : List Granted) (call : calls.Call) (o : Option Reply) (e : Entry) → length (es ++ e ∷ []) < 2 ^ 64
    → e ≡ record { permits = names_of permits; call = call; answer = answer_told o } → Fetches (shop_line es) permits call (answer_told o) (shop_line (es ++ e ∷ []))
told_is es permits call o e room is =
    subst (λ (x : Entry). Fetches (shop_line es) permits call (answer_told o) (shop_line (es ++ x ∷ []))) (sym is)
    (told_by es permits call o (subst (λ (x : Entry). length (es ++ x ∷ []) < 2 ^ 64) is room))

-- and it is what the shop replies
pub replied : (es : List Entry) (permits : List Granted) (call : calls.Call) (o : Option Reply) (e : Entry)
    → e ≡ record { permits = names_of permits; call = call; answer = answer_told o } → IsReplied call o → All IsAsReplied es → All IsAsReplied (es ++ e ∷ [])
replied es permits call o e is reply all =
    All-append IsAsReplied es (e ∷ []) all (All-cons IsAsReplied e [] (subst IsAsReplied (sym is) (o, reply, refl)) (All-nil IsAsReplied))
