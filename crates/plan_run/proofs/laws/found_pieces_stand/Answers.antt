use Rattle.plan_run.proofs.Justifying.{request_found}
use Rattle.plan_run.proofs.laws.found_pieces_stand.Goals as goal

pub returns : goal.returns
returns c = request_found c.looks_find_what_is_recorded.ensures c.recorded_hits_stay.ensures
