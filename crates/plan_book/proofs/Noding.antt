-- What is read as a node, kind by kind.
use Rattle.std.proofs.Common.{◌≡◌, ℕ, suc, ◌+◌, ◌<◌, ◌≤◌, List, [], ◌∷◌, ◌++◌, Option, Some, None, Ok, Err, Result, IsErrAnd, IfOk, IfErr, length, get_or, drop, drop-cons, add-one, append_assoc, refl, sym, ap, ◌∙◌, subst}
use Rattle.std.specs.Prelude.{codes, false}
use Rattle.std.proofs.lemmas.List.{drop_all, append-nil}
use Rattle.json_value.specs.declared.tree.Json.{Json}
use Rattle.json_value.specs.Members.{member}
use Rattle.json_paths.specs.declared.path.Path.{Path}
use Rattle.plan_tree.specs.declared.plan.Node.{Node}
use Rattle.plan_tree.specs.declared.plan.Node.TheVariants as node
use Rattle.plan_tree.specs.declared.plan.Fetch.{Fetch}
use Rattle.plan_book.specs.declared.kinds.Kind.{Kind}
use Rattle.plan_book.specs.declared.kinds.Kind.TheVariants as kinds
use Rattle.plan_book.specs.declared.kinds.Standing.{Standing}
use Rattle.plan_book.specs.declared.fault.PlanFault.{PlanFault}
use Rattle.plan_book.specs.declared.fault.PlanFault.TheVariants as fault
use Rattle.plan_book.specs.Asking.{IsAnswered}
use Rattle.plan_book.specs.Forms.{children_in, kind_of, path_in, object_in}
use Rattle.plan_book.specs.Fetches.{fetch, flatten, entity}
use Rattle.plan_book.specs.Nodes.{SoFar, after, one_node_more, with_fetch, with_first_node, IsNode, by_kind, IsOfKind, is_fetch, no_flatten, is_flatten, AreInside, no_nodes, in_order, AreNodes, no_more, stops, another}

module _ (s : Standing) (b : SoFar) (v : Json) where
  pub fetch_made : (number : ℕ) (f : Fetch) (mid new : SoFar) (n : ℕ) → number ≡ b.nodes → IsAnswered (fetch s false number v) (Ok f) → mid ≡ one_node_more b → n ≡ length mid.fetches → new ≡ with_fetch mid f →
      IsOfKind s (Some kinds.Fetch) b v (Ok (node.Fetch n, new))
  fetch_made number f mid new n here says mid_is n_is new_is = rw (new_is, n_is, mid_is) (is_fetch (Ok f) (subst (λ (k : ℕ). IsAnswered (fetch s false k v) (Ok f)) here says))

  pub fetch_fault : (number : ℕ) (f : PlanFault) → number ≡ b.nodes → IsAnswered (fetch s false number v) (Err f) → IsOfKind s (Some kinds.Fetch) b v (Err f)
  fetch_fault number f here says = is_fetch (Err f) (subst (λ (k : ℕ). IsAnswered (fetch s false k v) (Err f)) here says)

  pub no_path : path_in (member v (codes "path")) ≡ None → IsOfKind s (Some kinds.Flatten) b v (Err (fault.Field s.entry (codes "path")))
  no_path none = no_flatten (rw none refl)

  module _ (path : Path) (has_path : path_in (member v (codes "path")) ≡ Some path) where
    pub no_inner : object_in (member v (codes "node")) ≡ None → IsOfKind s (Some kinds.Flatten) b v (Err (fault.Field s.entry (codes "node")))
    no_inner none = no_flatten (rw (has_path, none) refl)

    module _ (inner : Json) (has_inner : object_in (member v (codes "node")) ≡ Some inner) where
      flatten_is : IsAnswered (flatten s.entry v) (Ok (path, inner))
      flatten_is = rw (has_path, has_inner) refl

      pub flatten_made : (number : ℕ) (f : Fetch) (mid next new : SoFar) (n : ℕ) → number ≡ mid.nodes → IsAnswered (entity s number inner) (Ok f) → mid ≡ one_node_more b → next ≡ one_node_more mid → n ≡ length next.fetches → new ≡ with_fetch next f →
          IsOfKind s (Some kinds.Flatten) b v (Ok (node.Flatten path n, new))
      flatten_made number f mid next new n here says mid_is next_is n_is new_is =
          let there : number ≡ suc b.nodes = here ∙ ap (λ (x : SoFar). x.nodes) mid_is in
          rw (new_is, n_is, next_is, mid_is) (is_flatten path inner (Ok f) flatten_is (subst (λ (k : ℕ). IsAnswered (entity s k inner) (Ok f)) there says))

      pub flatten_fault : (number : ℕ) (f : PlanFault) (mid : SoFar) → number ≡ mid.nodes → mid ≡ one_node_more b → IsAnswered (entity s number inner) (Err f) → IsOfKind s (Some kinds.Flatten) b v (Err f)
      flatten_fault number f mid here mid_is says =
          let there : number ≡ suc b.nodes = here ∙ ap (λ (x : SoFar). x.nodes) mid_is in
          is_flatten path inner (Err f) flatten_is (subst (λ (k : ℕ). IsAnswered (entity s k inner) (Err f)) there says)

  pub of_kind : (k : Option Kind) (r : Result (Node × SoFar) PlanFault) → kind_of v ≡ k → IsOfKind s k b v r → IsNode s b v r
  of_kind k r is h = by_kind (subst (λ (x : Option Kind). IsOfKind s x b v r) (sym is) h)

  pub without_nodes : children_in (member v (codes "nodes")) ≡ None → AreInside s (children_in (member v (codes "nodes"))) b (Err (fault.Field s.entry (codes "nodes")))
  without_nodes none = rw none no_nodes

  pub with_nodes : (vs ws : List Json) (mid : SoFar) (r : Result (List Node × SoFar) PlanFault) → children_in (member v (codes "nodes")) ≡ Some vs → ws ≡ vs → mid ≡ one_node_more b → AreNodes s mid ws r →
      AreInside s (children_in (member v (codes "nodes"))) b r
  with_nodes vs ws mid r has same mid_is h =
      let inside : AreNodes s (one_node_more b) vs r = subst (λ (x : SoFar). AreNodes s x vs r) mid_is (subst (λ (x : List Json). AreNodes s mid x r) same h) in
      rw has (in_order inside)

-- ---- one after the other

abbrev pub behind : List Node → List Node × SoFar → List Node × SoFar
behind done p = (done ++ p.0, p.1)

behind-none : (r : Result (List Node × SoFar) PlanFault) → after (behind []) r ≡ r
behind-none (Ok p) = refl
behind-none (Err f) = refl

behind-first : (done : List Node) (n : Node) (r : Result (List Node × SoFar) PlanFault) → after (behind (done ++ (n ∷ []))) r ≡ after (behind done) (after (with_first_node n) r)
behind-first done n (Ok p) = ap (λ (ns : List Node). Ok (ns, p.1)) (append_assoc done (n ∷ []) p.0)
behind-first done n (Err f) = refl

pub record NodesRun (s : Standing) (first : SoFar) (all rest : List Json) (now : SoFar) (done : List Node) : Type 0 where
  pub goes : (r : Result (List Node × SoFar) PlanFault) → AreNodes s now rest r → AreNodes s first all (after (behind done) r)

module _ (s : Standing) (first : SoFar) (all : List Json) where
  pub nodes_begin : NodesRun s first all all first []
  nodes_begin = record { goes = λ r h. rw (behind-none r) h }

  module _ (i : ℕ) (now : SoFar) (done : List Node) (run : NodesRun s first all (drop i all) now done) where
    module _ (v : Json) (within : i < length all) (is : v ≡ get_or all i v) where
      into : (r : Result (List Node × SoFar) PlanFault) → AreNodes s now (v ∷ drop (suc i) all) r → AreNodes s first all (after (behind done) r)
      into = rw (drop-cons all i v within ∙ ap (λ (w : Json). w ∷ drop (suc i) all) (sym is)) at run.goes

      pub nodes_next : (n : Node) (next : SoFar) → IsNode s now v (Ok (n, next)) → NodesRun s first all (drop (i + 1) all) next (done ++ (n ∷ []))
      nodes_next n next h = rw add-one (record { goes = λ r k. rw (behind-first done n r) (into (after (with_first_node n) r) (another h k)) })

      pub nodes_stop : (f : PlanFault) → IsNode s now v (Err f) → AreNodes s first all (Err f)
      nodes_stop f h = into (Err f) (stops h)

    pub nodes_end : length all ≤ i → AreNodes s first all (Ok (done, now))
    nodes_end past_all =
        let before : (r : Result (List Node × SoFar) PlanFault) → AreNodes s now [] r → AreNodes s first all (after (behind done) r) = rw (drop_all i all past_all) at run.goes in
        rw (append-nil done) at (before (Ok ([], now)) no_more)

-- ---- faults that are handed on

pub handed : {A E : Type 0} (P : E → Type 0) (r : Result A E) (e : E) → IsErrAnd r (λ x. x ≡ e) → P e → IfErr r P
handed P (Ok v) e h p = tt
handed P (Err x) e h p = subst P (sym h) p

pub IfOk-map : {A E : Type 0} {P Q : A → Type 0} (r : Result A E) → IfOk r P → ((x : A) → P x → Q x) → IfOk r Q
IfOk-map (Ok v) h f = f v h
IfOk-map (Err e) h f = tt

pub IfErr-map : {A E : Type 0} {P Q : E → Type 0} (r : Result A E) → IfErr r P → ((x : E) → P x → Q x) → IfErr r Q
IfErr-map (Ok v) h f = tt
IfErr-map (Err e) h f = f e h
