-- Which parts fit one another, and what a request asks of a site.
use Rattle.std.specs.Prelude.{◌≡◌, ◌≤◌, true, IsTrue, List, All, Contains}
use Rattle.cache_model.specs.State.{IsWithinRanges}
use Rattle.gql_types.specs.declared.definition.TypeDef.{TypeDef}
use Rattle.plan_tree.specs.Lawful.{differ}
use Rattle.plan_book.specs.declared.book.Entry.{Entry}
use Rattle.plan_book.specs.Book.{AreLawful}
use Rattle.router_config.specs.declared.config.SubRule.{SubRule}
use Rattle.router_config.specs.declared.config.Config.{Config}
use Rattle.router_config.specs.declared.site.Site.{Site}
use Rattle.router_config.specs.Inputs.{is_input}
use Rattle.router_config.specs.Rules.{names}
use Rattle.router_config.specs.Faults.{subs_of, types_of}

-- each fetch names a rule, and each variable's innermost type is an input type
pub record EntryFits (rules : List SubRule) (schema : List TypeDef) (entry : Entry) : Type 0 where
  pub subs : All (Contains (names rules)) (subs_of entry)
  pub types : All (λ name. is_input schema name ≡ true) (types_of entry)

abbrev pub EntriesFit : List SubRule → List TypeDef → List Entry → Type 0
EntriesFit rules schema entries = All (EntryFits rules schema) entries

-- the numbers of a configuration are in their ranges, and the names of its subgraphs are distinct
pub record IsLawfulConfig (config : Config) : Type 0 where
  pub limits : IsWithinRanges config.limits
  pub some_workers : 1 ≤ config.workers
  pub most_workers : config.workers ≤ 64
  pub some_lines : 1 ≤ config.lines
  pub most_lines : config.lines ≤ 16
  pub distinct : IsTrue (differ (names config.subs))

-- what a request asks of a site: each of its parts is lawful, and they fit one another
pub record IsLawful (site : Site) : Type 0 where
  pub config : IsLawfulConfig site.config
  pub plans : AreLawful site.plans.entries.items
  pub fit : EntriesFit site.config.subs site.schema site.plans.entries.items
