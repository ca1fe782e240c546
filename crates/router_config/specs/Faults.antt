-- What is wrong with the parts of a site: all its faults, in their order.
use Rattle.std.specs.Prelude.{◌≡◌, ℕ, ◌+◌, not, List, [], ◌∷◌, ◌++◌, Option, Some, None, map, filter}
use Rattle.std.specs.List.{flat_map}
use Rattle.gql_terms.specs.declared.documents.VarDef.{VarDef}
use Rattle.gql_terms.specs.declared.documents.Operation.{Operation}
use Rattle.gql_types.specs.declared.definition.TypeDef.{TypeDef}
use Rattle.plan_tree.specs.declared.plan.Fetch.{Fetch}
use Rattle.plan_book.specs.declared.book.Entry.{Entry}
use Rattle.router_config.specs.declared.config.SubRule.{SubRule}
use Rattle.router_config.specs.declared.fault.SiteFault.{SiteFault}
use Rattle.router_config.specs.declared.fault.SiteFault.TheVariants as fault
use Rattle.router_config.specs.Inputs.{innermost, is_input}
use Rattle.router_config.specs.Rules.{is_ruled}

abbrev pub sub_of : Fetch → List ℕ
sub_of fetch = fetch.sub

abbrev pub type_of : VarDef → List ℕ
type_of variable = innermost variable.of

abbrev pub variables_of : Operation → List VarDef
variables_of operation = operation.variables

-- the subgraphs that fetches name, fetch by fetch
abbrev pub subs_of : Entry → List (List ℕ)
subs_of entry = map sub_of entry.plan.fetches

-- the innermost types of variables, definition by definition
abbrev pub types_of : Entry → List (List ℕ)
types_of entry = map type_of (flat_map variables_of entry.document.operations)

abbrev pub unruled : List SubRule → List (List ℕ) → List (List ℕ)
unruled rules names = filter (λ name. not (is_ruled rules name)) names

abbrev pub not_inputs : List TypeDef → List (List ℕ) → List (List ℕ)
not_inputs schema names = filter (λ name. not (is_input schema name)) names

abbrev pub unknown_subgraph : ℕ → List ℕ → SiteFault
unknown_subgraph n name = fault.UnknownSubgraph n name

abbrev pub unknown_type : ℕ → List ℕ → SiteFault
unknown_type n name = fault.UnknownType n name

-- what is wrong with entry n: its fetches first, then its variables
abbrev pub entry_faults : List SubRule → List TypeDef → ℕ → Entry → List SiteFault
entry_faults rules schema n entry = map (unknown_subgraph n) (unruled rules (subs_of entry)) ++ map (unknown_type n) (not_inputs schema (types_of entry))

-- what is wrong with these entries, the first of which is entry n
abbrev pub faults_from : List SubRule → List TypeDef → ℕ → List Entry → List SiteFault
faults_from rules schema n [] = []
faults_from rules schema n (entry ∷ entries) = entry_faults rules schema n entry ++ faults_from rules schema (n + 1) entries

abbrev pub faults_of : List SubRule → List TypeDef → List Entry → List SiteFault
faults_of rules schema entries = faults_from rules schema 0 entries

abbrev pub first : {X : Type 0} → List X → Option X
first [] = None
first (x ∷ xs) = Some x

-- it is the first of these, or want of memory
abbrev pub IsFirstFault : List SiteFault → SiteFault → Type 0
IsFirstFault faults fault.Memory = Unit {0}
IsFirstFault faults (fault.UnknownSubgraph n name) = first faults ≡ Some (fault.UnknownSubgraph n name)
IsFirstFault faults (fault.UnknownType n name) = first faults ≡ Some (fault.UnknownType n name)

-- it is this one, or want of memory
abbrev pub IsFaultOrMemory : SiteFault → SiteFault → Type 0
IsFaultOrMemory f fault.Memory = Unit {0}
IsFaultOrMemory f (fault.UnknownSubgraph n name) = f ≡ fault.UnknownSubgraph n name
IsFaultOrMemory f (fault.UnknownType n name) = f ≡ fault.UnknownType n name
