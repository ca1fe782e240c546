use Rattle.std.proofs.Common.{◌≡◌, List, ap, ◌∙◌, take, map}
use Rattle.std.proofs.lemmas.List.{take_all}
use Rattle.json_value.specs.declared.tree.Json.{Json}
use Rattle.fetch_asks.proofs.Keying.{key_by, entity_keys}
use Rattle.fetch_asks.proofs.fetch.keys_of.Goals as goal

pub returns : goal.returns
returns c = λ variables is.
    let fetch = c.args.fetch.now in
    let type_name = c.type_of-type_name.result.now in
    let all : take c.loop-rep.rep-index c.as_slice-rep-items.result.now ≡ c.in-Entities.distinct =
    take_all c.loop-rep.rep-index c.as_slice-rep-items.result.now c.loop-rep-test.false ∙ c.as_slice-rep-items.ensures in
    c.loop-rep.invariant ∙ ap (λ (xs : List Json). map (key_by fetch.sub type_name c.args.sel.now) xs) all
    ∙ entity_keys fetch c.args.asked.now c.in-Entities.distinct c.in-Entities.used_by variables type_name c.args.sel.now c.in-Entities.is c.type_of-type_name.ensures is
