use Rattle.run_moves.proofs.control.begin.Goals as goal

pub returns-in-Parallel-clause-onward : goal.returns-in-Parallel-clause-onward
returns-in-Parallel-clause-onward c = rw c.in-Parallel.is (c.parallel_to.ensures.onward c.args.memo.now)

pub returns-in-PipelineSequence-clause-onward : goal.returns-in-PipelineSequence-clause-onward
returns-in-PipelineSequence-clause-onward c = rw c.in-PipelineSequence.is (c.pipeline_to.ensures.onward c.args.memo.now)
