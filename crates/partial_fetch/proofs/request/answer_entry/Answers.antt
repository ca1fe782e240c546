use Rattle.std.proofs.Common.{◌≡◌, ◌<◌, List, [], ◌∷◌, length, true, false, arith, ap, sym, ◌∙◌, subst}
use Rattle.gql_terms.specs.declared.documents.Operation.{Operation}
use Rattle.answer_text.specs.declared.refusal.Refusal.{Refusal}
use Rattle.answer_text.specs.declared.refusal.Refusal.TheVariants as refusal
use Rattle.partial_fetch.specs.Accepting.{HasOperation, is_named}
use Rattle.partial_fetch.proofs.Accepted.{has_operation, other_name, coerced_variables, bad_variable}
use Rattle.partial_fetch.proofs.Ending.{refused_so}
use Rattle.partial_fetch.proofs.Entries.{one_operation, only_operation}
use Rattle.partial_fetch.proofs.request.answer_entry.Goals as goal

pub bounds-as_slice-0 : goal.bounds-as_slice-0
bounds-as_slice-0 g c =
    let one : length c.args.entry.now.document.operations ≡ 1 = (one_operation c.args.site.now c.args.request.now c.args.entry.now c.requires.lawful c.requires.planned).one in
    subst (λ (ops : List Operation). 0 < length ops) (sym c.as_slice.ensures) (omega (arith, one))

pub returns-then-not-is_named-clause-ok : goal.returns-then-not-is_named-clause-ok
returns-then-not-is_named-clause-ok g c =
    let entry = c.args.entry.now in
    let one : length entry.document.operations ≡ 1 = (one_operation c.args.site.now c.args.request.now entry c.requires.lawful c.requires.planned).one in
    let only : entry.document.operations ≡ c.index-as_slice-0.result ∷ [] = only_operation entry.document.operations c.as_slice.result.now c.index-as_slice-0.result one c.as_slice.ensures c.index-as_slice-0.is in
    refused_so c.args.site.now c.args.request.now (g.C.Cache.seen c.args.cache.now) (g.L.Line.line c.args.line.now) (g.T.Clock.log c.args.clock.now) refusal.OperationUnknown c.refuse.result
    (other_name c.args.site.now c.args.request.now entry c.index-as_slice-0.result c.is_named.result c.requires.planned only c.is_named.ensures c.if-not-is_named.true) c.refuse.ensures

pub answer_plan-requires-clause-accepted : goal.answer_plan-requires-clause-accepted
answer_plan-requires-clause-accepted g c =
    let entry = c.args.entry.now in
    let one : length entry.document.operations ≡ 1 = (one_operation c.args.site.now c.args.request.now entry c.requires.lawful c.requires.planned).one in
    let only : entry.document.operations ≡ c.index-as_slice-0.result ∷ [] = only_operation entry.document.operations c.as_slice.result.now c.index-as_slice-0.result one c.as_slice.ensures c.index-as_slice-0.is in
    coerced_variables c.args.site.now c.args.request.now entry c.index-as_slice-0.result c.in-Ok.variables
    (has_operation c.args.site.now c.args.request.now entry c.index-as_slice-0.result c.is_named.result c.requires.planned only c.is_named.ensures c.if-not-is_named.false) c.in-Ok.ensures.value

pub returns-in_ok-unfit-in-Err-clause-ok : goal.returns-in_ok-unfit-in-Err-clause-ok
returns-in_ok-unfit-in-Err-clause-ok g c =
    let entry = c.args.entry.now in
    let one : length entry.document.operations ≡ 1 = (one_operation c.args.site.now c.args.request.now entry c.requires.lawful c.requires.planned).one in
    let only : entry.document.operations ≡ c.index-as_slice-0.result ∷ [] = only_operation entry.document.operations c.as_slice.result.now c.index-as_slice-0.result one c.as_slice.ensures c.index-as_slice-0.is in
    refused_so c.args.site.now c.args.request.now (g.C.Cache.seen c.args.cache.now) (g.L.Line.line c.args.line.now) (g.T.Clock.log c.args.clock.now) c.in_ok-unfit-in-Err.field-0 c.refuse-in-Err.result
    (bad_variable c.args.site.now c.args.request.now entry c.index-as_slice-0.result c.in-Err.fault c.in_ok-unfit-in-Err.field-0
    (has_operation c.args.site.now c.args.request.now entry c.index-as_slice-0.result c.is_named.result c.requires.planned only c.is_named.ensures c.if-not-is_named.false)
    c.in_ok-unfit-in-Err.ensures.memory c.in-Err.ensures.fault c.in_ok-unfit-in-Err.ensures.why) c.refuse-in-Err.ensures
