-- The clock of a request gives its moment alone.
use Rattle.std.proofs.Common.{◌≡◌, ℕ, List, [], ◌∷◌, Option, Some, refl, sym, subst}
use Rattle.cache_seam.specs.Seen.{Seen}
use Rattle.line_base.specs.Lines.{Line}
use Rattle.router_config.specs.declared.site.Site.{Site}
use Rattle.router_config.specs.declared.config.Request.{Request}
use Rattle.partial_fetch.specs.declared.answer.Answer.{Answer}
use Rattle.partial_fetch.specs.Answering.{Answers, refused, answered}
use Rattle.still_clock.specs.declared.still.Still.{Still}
use Rattle.still_clock.specs.Clocks.{told, IsStill}
use Rattle.still_clock.proofs.Standing.{still_since}

pub still_is : (site : Site) (request : Request) (s t : Seen) (l m : Line) (moment : ℕ) (c : Still) (a : Answer)
    → Answers site request s t l m (Some (moment ∷ [])) (told c) a → IsStill moment (told c)
still_is site request s t l m moment c a (refused r is_refused is untouched) =
    subst (λ (o : Option (List ℕ)). IsStill moment o) (sym untouched.clock) (0, refl)
still_is site request s t l m moment c a (answered entry variables value o accepted runs is) =
    still_since moment _ c (told c) refl runs.does.ticks
