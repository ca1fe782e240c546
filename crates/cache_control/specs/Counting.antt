-- Serves private clauses and proofs alone: what the directives read so far say, and what those that follow add.
use Rattle.std.specs.Prelude.{ℕ, false, ◌||◌, List, None, unwrap_or, codes}
use Rattle.std.specs.Option.{option_or}
use Rattle.cache_terms.specs.declared.offers.Verdict.{Verdict}
use Rattle.cache_control.specs.declared.rules.Rules.{Rules}
use Rattle.cache_control.specs.Grammar.{Directive}
use Rattle.cache_control.specs.Rules.{first_seconds, has_directive}

abbrev pub no_rules : Rules
no_rules = record { shared = None; max_age = None; private = false; no_store = false }

abbrev pub with_directives : Rules → List Directive → Rules
with_directives rules directives = record {
  shared = option_or rules.shared (first_seconds (codes "s-maxage") directives);
  max_age = option_or rules.max_age (first_seconds (codes "max-age") directives);
  private = rules.private || has_directive (codes "private") directives;
  no_store = rules.no_store || (has_directive (codes "no-store") directives || has_directive (codes "no-cache") directives);
}

-- what the rules say of a reply of this age
abbrev pub said : Rules → ℕ → Verdict
said rules age = record {
  lifetime = unwrap_or (option_or rules.shared rules.max_age) 0;
  age = age;
  private = rules.private;
  no_store = rules.no_store;
}
