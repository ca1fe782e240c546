-- What a fetch and a Flatten are by their members, each member looked at in turn.
use Rattle.std.specs.Prelude.{ℕ, Bool, true, false, not, ◌&&◌, List, [], ◌∷◌, Option, Some, None, codes}
use Rattle.json_value.specs.declared.tree.Json.{Json}
use Rattle.json_value.specs.Members.{member}
use Rattle.json_paths.specs.declared.path.Path.{Path}
use Rattle.json_paths.specs.declared.needs.Requires.{Requires}
use Rattle.gql_terms.specs.declared.documents.OpKind.{OpKind}
use Rattle.gql_terms.specs.declared.documents.OpKind.TheVariants as op
use Rattle.gql_terms.specs.declared.documents.Operation.{Operation}
use Rattle.gql_terms.specs.declared.documents.Fragment.{Fragment}
use Rattle.gql_terms.specs.declared.documents.Document.{Document}
use Rattle.gql_print.specs.Canonical.{canonical_text}
use Rattle.plan_tree.specs.declared.plan.Fetch.{Fetch}
use Rattle.plan_book.specs.declared.kinds.Kind.{Kind}
use Rattle.plan_book.specs.declared.kinds.Kind.TheVariants as kinds
use Rattle.plan_book.specs.declared.kinds.Standing.{Standing}
use Rattle.plan_book.specs.declared.fault.PlanFault.TheVariants as fault
use Rattle.plan_book.specs.Asking.{Read, faulty, made, needed, refused_if, document_in}
use Rattle.plan_book.specs.Forms.{text_in, variables_in, path_in, requires_in, object_in, children_in, kind_of}

-- ---- operations (GraphQL, October 2021, section 2.3)

-- whether it is a mutation; a subscription is neither query nor mutation
abbrev pub is_mutation : OpKind → Option Bool
is_mutation op.Query = Some false
is_mutation op.Mutation = Some true
is_mutation op.Subscription = None

-- of exactly one operation, a query or mutation: whether it is a mutation
abbrev pub only_one : List Operation → Option Bool
only_one (operation ∷ []) = is_mutation operation.kind
only_one _ = None

abbrev pub without_fragments : List Fragment → Option Bool → Option Bool
without_fragments [] mutation = mutation
without_fragments (fragment ∷ fragments) mutation = None

abbrev pub with_text : Document → Option Bool → Option (Bool × List ℕ)
with_text document None = None
with_text document (Some mutation) = Some (mutation, canonical_text document)

-- a fetch's operation: one query or mutation, and no fragment. Whether it is a mutation, and its canonical text
abbrev pub operation_of : Option Document → Option (Bool × List ℕ)
operation_of None = None
operation_of (Some document) = with_text document (without_fragments document.fragments (only_one document.operations))

-- ---- a fetch

abbrev pub has_needs : Option Requires → Bool
has_needs None = false
has_needs (Some needs) = true

abbrev pub same : Bool → Bool → Bool
same true b = b
same false b = not b

-- an entity fetch, which has needs, stands in a Flatten and is a query; a root fetch stands outside; the plan of a query
-- has no mutation
abbrev pub may_stand : Bool → Bool → Bool → Bool → Bool
may_stand of_query in_flatten entity mutation = same in_flatten entity && not (entity && mutation) && not (mutation && of_query)

-- the node with this number, a Fetch: `subgraph`, `operation`, `variables`, `requires`, and then whether it may stand there
abbrev pub fetch : Standing → Bool → ℕ → Json → Read Fetch
fetch s in_flatten number v =
    needed (fault.Field s.entry (codes "subgraph")) (text_in (member v (codes "subgraph"))) (λ sub.
    document_in (text_in (member v (codes "operation"))) (λ document.
    needed (fault.Field s.entry (codes "operation")) (operation_of document) (λ operation.
    needed (fault.Field s.entry (codes "variables")) (variables_in (member v (codes "variables"))) (λ variables.
    needed (fault.Field s.entry (codes "requires")) (requires_in (member v (codes "requires"))) (λ needs.
    refused_if (not (may_stand s.of_query in_flatten (has_needs needs) operation.0)) (fault.Nesting s.entry number)
    (made (record { sub = sub; mutation = operation.0; sel = operation.1; needs = needs; variables = variables })))))))

-- ---- a Flatten

-- `path`, and `node`, which is an object
abbrev pub flatten : ℕ → Json → Read (Path × Json)
flatten entry v =
    needed (fault.Field entry (codes "path")) (path_in (member v (codes "path"))) (λ path.
    needed (fault.Field entry (codes "node")) (object_in (member v (codes "node"))) (λ node.
    made (path, node)))

-- a Flatten, a Sequence or a Parallel may not stand in a Flatten; its own members are looked at before
abbrev pub nested_flatten : ℕ → ℕ → Json → Read Fetch
nested_flatten entry number v =
    needed (fault.Field entry (codes "path")) (path_in (member v (codes "path"))) (λ path.
    needed (fault.Field entry (codes "node")) (object_in (member v (codes "node"))) (λ node.
    faulty (fault.Nesting entry number)))

abbrev pub nested_many : ℕ → ℕ → Json → Read Fetch
nested_many entry number v =
    needed (fault.Field entry (codes "nodes")) (children_in (member v (codes "nodes"))) (λ nodes.
    faulty (fault.Nesting entry number))

abbrev pub entity_by : Option Kind → Standing → ℕ → Json → Read Fetch
entity_by None s number v = faulty (fault.Kind s.entry number)
entity_by (Some kinds.Fetch) s number v = fetch s true number v
entity_by (Some kinds.Flatten) s number v = nested_flatten s.entry number v
entity_by (Some kinds.Sequence) s number v = nested_many s.entry number v
entity_by (Some kinds.Parallel) s number v = nested_many s.entry number v

-- the node in a Flatten, which has this number and has to be an entity fetch
abbrev pub entity : Standing → ℕ → Json → Read Fetch
entity s number v = entity_by (kind_of v) s number v
