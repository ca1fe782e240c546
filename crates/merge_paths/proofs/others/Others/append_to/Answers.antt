use Rattle.std.proofs.Common.{◌≡◌, ◌∙◌, ap, None, Some, Option, ◌++◌, ◌∷◌, []}
use Rattle.json_value.specs.declared.tree.Json.{Json}
use Rattle.merge_paths.proofs.Taken.{put_back, passed_back, last_taken}
use Rattle.merge_paths.proofs.others.Others.append_to.Goals as goal

pub loop-name-preserved : goal.loop-name-preserved
loop-name-preserved c =
    let values_are : c.loop-name.values.items ≡ c.pop-in-Some.new.self.items ++ (Some c.in-Some-kept.value ∷ []) =
    c.in-Some-pop.ensures.items ∙ ap (λ (o : Option Json). c.pop-in-Some.new.self.items ++ (o ∷ [])) c.in-Some-kept.is in
    record {
      whole = put_back c.loop-name.members c.push.new.self c.loop-name.names.keys c.pop.new.self.keys c.loop-name.values.items c.pop-in-Some.new.self.items c.in-Some.name c.in-Some-kept.value
          c.in-Some.ensures.keys values_are c.loop-name.invariant.long c.in_ok-push.ensures.ok ∙ c.loop-name.invariant.whole;
      long = last_taken c.loop-name.names.keys c.pop.new.self.keys c.loop-name.values.items c.pop-in-Some.new.self.items c.in-Some.name (Some c.in-Some-kept.value) c.in-Some.ensures.keys values_are c.loop-name.invariant.long;
    }

pub loop-name-preserved-in_default-kept : goal.loop-name-preserved-in_default-kept
loop-name-preserved-in_default-kept c =
    let values_are : c.loop-name.values.items ≡ c.pop-in-Some.new.self.items ++ (None ∷ []) =
    c.in-Some-pop.ensures.items ∙ ap (λ (o : Option Json). c.pop-in-Some.new.self.items ++ (o ∷ [])) c.in_default-kept.is in
    record {
      whole = passed_back c.loop-name.members c.loop-name.names.keys c.pop.new.self.keys c.loop-name.values.items c.pop-in-Some.new.self.items c.in-Some.name
          c.in-Some.ensures.keys values_are c.loop-name.invariant.long ∙ c.loop-name.invariant.whole;
      long = last_taken c.loop-name.names.keys c.pop.new.self.keys c.loop-name.values.items c.pop-in-Some.new.self.items c.in-Some.name None c.in-Some.ensures.keys values_are c.loop-name.invariant.long;
    }
