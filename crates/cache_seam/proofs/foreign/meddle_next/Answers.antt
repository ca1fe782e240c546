use Rattle.cache_seam.specs.Meddling.{first_steps, steps_of}
use Rattle.cache_seam.proofs.Amid.{meddles_not, fits_of}
use Rattle.cache_seam.proofs.foreign.meddle_next.Goals as goal

pub returns-in_default-copy_events-clause-meddles : goal.returns-in_default-copy_events-clause-meddles
returns-in_default-copy_events-clause-meddles c = meddles_not (first_steps (steps_of c.args.later.now.items)) c.args.pass.now c.args.book.now

pub meddle-requires : goal.meddle-requires
meddle-requires c = fits_of c.args.later.now.items c.pop_front.new.self.items c.in-Some.steps c.in-Some.ensures.items c.requires
