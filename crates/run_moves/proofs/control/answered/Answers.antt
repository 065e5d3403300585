use Rattle.run_moves.proofs.control.answered.Goals as goal

pub returns-in-Sequence-clause-next : goal.returns-in-Sequence-clause-next
returns-in-Sequence-clause-next c = λ now. rw c.in-Sequence.is c.go_on.ensures.next

pub returns-in-Fallback-clause-next : goal.returns-in-Fallback-clause-next
returns-in-Fallback-clause-next c = λ now. rw c.in-Fallback.is c.go_on-in-Fallback.ensures.next

pub returns-in-SequenceWithMemory-clause-next : goal.returns-in-SequenceWithMemory-clause-next
returns-in-SequenceWithMemory-clause-next c = λ now. rw c.in-SequenceWithMemory.is c.go_on-in-SequenceWithMemory.ensures.next

pub returns-in-ReactiveSequence-clause-next : goal.returns-in-ReactiveSequence-clause-next
returns-in-ReactiveSequence-clause-next c = λ now. rw c.in-ReactiveSequence.is c.go_on-in-ReactiveSequence.ensures.next

pub returns-in-ReactiveFallback-clause-next : goal.returns-in-ReactiveFallback-clause-next
returns-in-ReactiveFallback-clause-next c = λ now. rw c.in-ReactiveFallback.is c.go_on-in-ReactiveFallback.ensures.next

pub returns-in-Parallel-clause-onward : goal.returns-in-Parallel-clause-onward
returns-in-Parallel-clause-onward c = rw c.in-Parallel.is (c.parallel_answered.ensures.onward c.args.memo.now)

pub returns-in-WhileDoElse-clause-onward : goal.returns-in-WhileDoElse-clause-onward
returns-in-WhileDoElse-clause-onward c = rw c.in-WhileDoElse.is (c.while_do_else_answered.ensures.onward c.args.memo.now)

pub returns-in-PipelineSequence-clause-onward : goal.returns-in-PipelineSequence-clause-onward
returns-in-PipelineSequence-clause-onward c = rw c.in-PipelineSequence.is (c.pipeline_answered.ensures.onward c.args.memo.now)
