use Rattle.run_moves.proofs.pipelines.pipeline_to.Goals as goal

pub returns-else-at-n-clause-onward : goal.returns-else-at-n-clause-onward
returns-else-at-n-clause-onward c = λ old. c.end.ensures.onward old _ _
