use Rattle.std.proofs.Common.{◌≡◌, ◌<◌, ◌++◌, sym, subst, refl, length, get_or}
use Rattle.std.specs.Prelude.{map}
use Rattle.gql_shape.specs.Collecting.{Selects}
use Rattle.gql_shape.specs.Terms.{Group}
use Rattle.gql_shape.specs.Completing.{selections_of}
use Rattle.gql_shape.specs.Indexed.{Collections, group_in, rule_in, with_rule, rule_for, AreRuled, Extends, selections_at, groups_in}
use Rattle.gql_shape.proofs.Indexed.{entered, extends-none, selects-kept, ruled-kept, groups-grown, rules-grown}
use Rattle.gql_shape.proofs.collections.Collections.enter.Goals as goal

pub invariant_of-self-in_err-note_known : goal.invariant_of-self-in_err-note_known
invariant_of-self-in_err-note_known c =
    let short : c.args.at < length (map group_in c.self.inside.ruled) = subst (λ (v : Collections). c.args.at < length v.groups) (sym c.self.view_is) c.requires in
    let is : c.index-as_slice-at.result ≡ get_or c.self.inside.ruled c.args.at c.index-as_slice-at.result = rw c.as_slice-2.ensures at c.index-as_slice-at.is in
    let kept : c.keep.new.ruled ≡ c.self.inside.ruled ++ map (with_rule c.self.inside.scope.schema c.args.object.now) c.in_ok-groups.groups = rw c.in_ok-more.ensures at c.in_ok-stretch.ensures.kept in
    let selected : Selects c.self.inside.scope c.args.object.now (selections_of c.index-as_slice-at.result.group) c.in_ok-groups.groups =
    subst (λ (g : Group). Selects c.self.inside.scope c.args.object.now (selections_of g) c.in_ok-groups.groups) c.group-group.ensures c.in_ok-groups.ensures in
    entered c.self.inside.scope c.self.inside.ruled c.in_ok-groups.groups c.keep.new.ruled c.self.inside.known.items c.keep.new.known.items c.note_known.new.known.items c.args.at c.args.object.now c.in_ok-name.name
    c.index-as_slice-at.result c.in_ok-stretch.stretch short is c.self.invariant selected kept c.in_ok-stretch.ensures.stretch c.keep.ensures.known c.in_ok-name.ensures c.note_known.ensures

pub invariant_of-self-2 : goal.invariant_of-self-2
invariant_of-self-2 c =
    let short : c.args.at < length (map group_in c.self.inside.ruled) = subst (λ (v : Collections). c.args.at < length v.groups) (sym c.self.view_is) c.requires in
    let is : c.index-as_slice-at.result ≡ get_or c.self.inside.ruled c.args.at c.index-as_slice-at.result = rw c.as_slice-2.ensures at c.index-as_slice-at.is in
    let kept : c.keep.new.ruled ≡ c.self.inside.ruled ++ map (with_rule c.self.inside.scope.schema c.args.object.now) c.in_ok-groups.groups = rw c.in_ok-more.ensures at c.in_ok-stretch.ensures.kept in
    let selected : Selects c.self.inside.scope c.args.object.now (selections_of c.index-as_slice-at.result.group) c.in_ok-groups.groups =
    subst (λ (g : Group). Selects c.self.inside.scope c.args.object.now (selections_of g) c.in_ok-groups.groups) c.group-group.ensures c.in_ok-groups.ensures in
    entered c.self.inside.scope c.self.inside.ruled c.in_ok-groups.groups c.keep.new.ruled c.self.inside.known.items c.keep.new.known.items c.note_known.new.known.items c.args.at c.args.object.now c.in_ok-name.name
    c.index-as_slice-at.result c.in_ok-stretch.stretch short is c.self.invariant selected kept c.in_ok-stretch.ensures.stretch c.keep.ensures.known c.in_ok-name.ensures c.note_known.ensures

pub returns-in-Some-clause-extends : goal.returns-in-Some-clause-extends
returns-in-Some-clause-extends c = extends-none c.args.self.now

pub returns-clause-extends : goal.returns-clause-extends
returns-clause-extends c =
    let short : c.args.at < length (map group_in c.self.inside.ruled) = subst (λ (v : Collections). c.args.at < length v.groups) (sym c.self.view_is) c.requires in
    let is : c.index-as_slice-at.result ≡ get_or c.self.inside.ruled c.args.at c.index-as_slice-at.result = rw c.as_slice-2.ensures at c.index-as_slice-at.is in
    let kept : c.keep.new.ruled ≡ c.self.inside.ruled ++ map (with_rule c.self.inside.scope.schema c.args.object.now) c.in_ok-groups.groups = rw c.in_ok-more.ensures at c.in_ok-stretch.ensures.kept in
    let selected : Selects c.self.inside.scope c.args.object.now (selections_of c.index-as_slice-at.result.group) c.in_ok-groups.groups =
    subst (λ (g : Group). Selects c.self.inside.scope c.args.object.now (selections_of g) c.in_ok-groups.groups) c.group-group.ensures c.in_ok-groups.ensures in
    let new : Collections = record { scope = c.self.inside.scope; groups = map group_in c.keep.new.ruled; rules = map rule_in c.keep.new.ruled } in
    subst (λ (v : Collections). Extends v new) c.self.view_is (record {
      scope = refl;
      more = c.in_ok-groups.groups;
      groups = groups-grown c.self.inside.scope c.self.inside.ruled c.in_ok-groups.groups c.keep.new.ruled c.args.at c.args.object.now c.index-as_slice-at.result c.in_ok-stretch.stretch short is
          selected kept c.in_ok-stretch.ensures.stretch;
      more_rules = map (rule_for c.self.inside.scope.schema c.args.object.now) c.in_ok-groups.groups;
      rules = rules-grown c.self.inside.scope c.self.inside.ruled c.in_ok-groups.groups c.keep.new.ruled c.args.at c.args.object.now c.index-as_slice-at.result c.in_ok-stretch.stretch short is
          selected kept c.in_ok-stretch.ensures.stretch;
    })

pub returns-clause-selects : goal.returns-clause-selects
returns-clause-selects c =
    let short : c.args.at < length (map group_in c.self.inside.ruled) = subst (λ (v : Collections). c.args.at < length v.groups) (sym c.self.view_is) c.requires in
    let is : c.index-as_slice-at.result ≡ get_or c.self.inside.ruled c.args.at c.index-as_slice-at.result = rw c.as_slice-2.ensures at c.index-as_slice-at.is in
    let kept : c.keep.new.ruled ≡ c.self.inside.ruled ++ map (with_rule c.self.inside.scope.schema c.args.object.now) c.in_ok-groups.groups = rw c.in_ok-more.ensures at c.in_ok-stretch.ensures.kept in
    let selected : Selects c.self.inside.scope c.args.object.now (selections_of c.index-as_slice-at.result.group) c.in_ok-groups.groups =
    subst (λ (g : Group). Selects c.self.inside.scope c.args.object.now (selections_of g) c.in_ok-groups.groups) c.group-group.ensures c.in_ok-groups.ensures in
    let here : Selects c.self.inside.scope c.args.object.now (selections_at (map group_in c.self.inside.ruled) c.args.at) (groups_in c.in_ok-stretch.stretch (map group_in c.keep.new.ruled)) =
    selects-kept c.self.inside.scope c.self.inside.ruled c.in_ok-groups.groups c.keep.new.ruled c.args.at c.args.object.now c.index-as_slice-at.result c.in_ok-stretch.stretch short is
    selected kept c.in_ok-stretch.ensures.stretch in
    subst (λ (v : Collections). Selects v.scope c.args.object.now (selections_at v.groups c.args.at) (groups_in c.in_ok-stretch.stretch (map group_in c.keep.new.ruled))) c.self.view_is here

pub returns-clause-ruled : goal.returns-clause-ruled
returns-clause-ruled c =
    let short : c.args.at < length (map group_in c.self.inside.ruled) = subst (λ (v : Collections). c.args.at < length v.groups) (sym c.self.view_is) c.requires in
    let is : c.index-as_slice-at.result ≡ get_or c.self.inside.ruled c.args.at c.index-as_slice-at.result = rw c.as_slice-2.ensures at c.index-as_slice-at.is in
    let kept : c.keep.new.ruled ≡ c.self.inside.ruled ++ map (with_rule c.self.inside.scope.schema c.args.object.now) c.in_ok-groups.groups = rw c.in_ok-more.ensures at c.in_ok-stretch.ensures.kept in
    let selected : Selects c.self.inside.scope c.args.object.now (selections_of c.index-as_slice-at.result.group) c.in_ok-groups.groups =
    subst (λ (g : Group). Selects c.self.inside.scope c.args.object.now (selections_of g) c.in_ok-groups.groups) c.group-group.ensures c.in_ok-groups.ensures in
    let here : AreRuled c.self.inside.scope c.args.object.now c.in_ok-stretch.stretch (map group_in c.keep.new.ruled) (map rule_in c.keep.new.ruled) =
    ruled-kept c.self.inside.scope c.self.inside.ruled c.in_ok-groups.groups c.keep.new.ruled c.args.at c.args.object.now c.index-as_slice-at.result c.in_ok-stretch.stretch short is
    selected kept c.in_ok-stretch.ensures.stretch in
    subst (λ (v : Collections). AreRuled v.scope c.args.object.now c.in_ok-stretch.stretch (map group_in c.keep.new.ruled) (map rule_in c.keep.new.ruled)) c.self.view_is here
