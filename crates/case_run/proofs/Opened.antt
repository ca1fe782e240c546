-- What the requests of a case write over a cache and a line as they are opened.
use Rattle.std.proofs.Common.{◌≡◌, List, [], ◌∷◌, subst, true}
use Rattle.cache_terms.specs.declared.events.Limits.{Limits}
use Rattle.cache_model.specs.State.{opened}
use Rattle.cache_seam.specs.Seen.{Seen}
use Rattle.cache_seam.specs.Lonely.{seen_alone}
use Rattle.line_base.specs.declared.script.Scripted.{Scripted}
use Rattle.line_base.specs.Told.{Script}
use Rattle.router_config.specs.declared.site.Site.{Site}
use Rattle.rehearsal.specs.Outside.{Output}
use Rattle.case_file.specs.declared.content.Timed.{Timed}
use Rattle.case_run.specs.declared.ending.Ending.{Ending}
use Rattle.case_run.specs.Asking.{EndsWith}
use Rattle.case_run.specs.Playing.{case_state}
use Rattle.case_run.specs.Runs.{Runs, opening}

module _ (site : Site) (limits : Limits) (replies : List Scripted) (before after : Output) (e : Ending) where
  abbrev unused : Script
  unused = record { replies = replies; log = [] }

  pub opened_ends : (timeds shown : List Timed) (cache : Seen) (lines : List Script) → shown ≡ timeds → cache ≡ seen_alone (opened limits 0) true → lines ≡ unused ∷ []
      → EndsWith (Runs site (case_state cache lines) shown) before after e → EndsWith (Runs site (opening limits replies) timeds) before after e
  opened_ends timeds shown cache lines same empty one ends =
      subst (λ (ts : List Timed). EndsWith (Runs site (opening limits replies) ts) before after e) same
      (subst (λ (c : Seen). EndsWith (Runs site (record { cache = c; line = unused }) shown) before after e) empty
      (subst (λ (ls : List Script). EndsWith (Runs site (case_state cache ls) shown) before after e) one ends))
