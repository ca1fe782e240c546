-- The site of the workload, as a case without requests and replies; and what is asked of it by what is drawn.
use Rattle.std.specs.Prelude.{ℕ, ◌%◌, List, [], ◌∷◌, ◌++◌, codes, None}
use Rattle.std.specs.Fmt.{decimal}
use Rattle.json_value.specs.declared.tree.Json.{Json}
use Rattle.json_value.specs.declared.tree.Json.TheVariants as json
use Rattle.cache_terms.specs.declared.keys.Target.{Target}
use Rattle.cache_terms.specs.declared.keys.Target.TheVariants as target
use Rattle.router_config.specs.declared.config.Request.{Request}

unfoldable pub site_text : List ℕ
site_text = codes "{\"schema\":\"type Query { items(from: Int): [Item] } type Item { id: ID! stars: Int }\",\"plans\":[{\"operation\":\"query W($from: Int) { items(from: $from) { id stars } }\",\"plan\":{\"kind\":\"Sequence\",\"nodes\":[{\"kind\":\"Fetch\",\"subgraph\":\"catalog\",\"operation\":\"query ($from: Int) { items(from: $from) { __typename id } }\",\"variables\":[\"from\"]},{\"kind\":\"Flatten\",\"path\":[\"items\",\"@\"],\"node\":{\"kind\":\"Fetch\",\"subgraph\":\"reviews\",\"operation\":\"query ($representations: [_Any!]!) { _entities(representations: $representations) { ... on Item { stars } } }\",\"requires\":{\"type\":\"Item\",\"fields\":[{\"name\":\"id\"}]}}}]}}],\"subgraphs\":[{\"name\":\"catalog\",\"cached\":true},{\"name\":\"reviews\",\"cached\":true}],\"events\":65536,\"bytes\":67108864,\"requests\":[],\"replies\":[]}"

abbrev pub query_text : List ℕ
query_text = codes "query W($from: Int) { items(from: $from) { id stars } }"

-- there are 50 items
abbrev pub item_of : ℕ → ℕ
item_of n = n % 50

abbrev pub variables_drawn : ℕ → Json
variables_drawn d = json.Object ((codes "from", json.Number (decimal (item_of d))) ∷ [])

-- the request for the items from the one drawn on, of a caller without an id
abbrev pub request_drawn : ℕ → Request
request_drawn d = record { query = query_text; operation_name = None; variables = variables_drawn d; id = None }

-- the tag of the item drawn, by which its stars are kept
abbrev pub target_drawn : ℕ → Target
target_drawn d = target.Tag (codes "reviews") (codes "p" ++ decimal (item_of d))
