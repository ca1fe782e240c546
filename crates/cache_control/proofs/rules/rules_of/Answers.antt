use Rattle.std.proofs.Common.{◌≡◌, ◌<◌, ◌∙◌, sym, subst, length, Some, None, ap, arith}
use Rattle.std.specs.Option.{option_map}
use Rattle.std.proofs.lemmas.Grind.{common_steps}
use Rattle.cache_control.specs.declared.rules.Rules.{Rules}
use Rattle.cache_control.specs.Reading.{directives_of}
use Rattle.cache_control.specs.Counting.{no_rules, with_directives}
use Rattle.cache_control.specs.Seen.{seen_element}
use Rattle.cache_control.proofs.Steps.{Holds, starts, ends, stops_there, goes_on, nothing_left, something_left}
use Rattle.cache_control.proofs.rules.rules_of.Goals as goal

pub loop-element-init : goal.loop-element-init
loop-element-init c = subst (λ (rules : Rules). Holds (option_map (with_directives no_rules) (directives_of c.args.text.now)) rules c.args.text.now) (sym c.no_rules-rules.ensures) (starts c.args.text.now no_rules)

pub returns-then-is_empty : goal.returns-then-is_empty
returns-then-is_empty c = ap Some c.noted-rules.ensures ∙ ends (option_map (with_directives no_rules) (directives_of c.args.text.now)) c.loop-element.rules c.loop-element.rest.now (seen_element c.in_ok-element.element) c.in_ok-element.ensures.same c.loop-element.invariant (nothing_left c.in_ok-element.element.rest.now c.is_empty.result c.is_empty.ensures c.if-is_empty.true)

pub returns-in_err-rest : goal.returns-in_err-rest
returns-in_err-rest c =
    let none : c.from_residual-in_err-rest.result ≡ None = grind (arith, common_steps) in
    none ∙ stops_there (option_map (with_directives no_rules) (directives_of c.args.text.now)) c.loop-element.rules c.loop-element.rest.now (seen_element c.in_ok-element.element) c.in_ok-element.ensures.same c.loop-element.invariant (something_left c.in_ok-element.element.rest.now c.is_empty.result c.is_empty.ensures c.if-is_empty.false) (sym c.in_err-rest.ensures.same)

pub loop-element-preserved : goal.loop-element-preserved
loop-element-preserved c =
    let shorter : length c.in_ok-rest.rest.now < length c.loop-element.rest.now = omega (arith, c.in_ok-rest.ensures.shorter, c.in_ok-element.ensures.shorter) in
    subst (λ (rules : Rules). Holds (option_map (with_directives no_rules) (directives_of c.args.text.now)) rules c.in_ok-rest.rest.now) (sym c.noted-rules.ensures) (goes_on (option_map (with_directives no_rules) (directives_of c.args.text.now)) c.loop-element.rules c.loop-element.rest.now (seen_element c.in_ok-element.element) c.in_ok-element.ensures.same c.in_ok-rest.rest.now c.loop-element.invariant (something_left c.in_ok-element.element.rest.now c.is_empty.result c.is_empty.ensures c.if-is_empty.false) (sym c.in_ok-rest.ensures.same) shorter)
