use Rattle.run_moves.proofs.PipelineVisits.{pipeline_hears}
use Rattle.run_moves.proofs.whole_visits.pipeline_over_a_visit.Goals as goal

pub returns : goal.returns
returns c = λ n now picked farthest seen answers visit. pipeline_hears farthest n now picked seen answers visit
