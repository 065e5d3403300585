use Rattle.run_moves.specs.declared.rounds.Manner.TheVariants.{Keeps, Restarts, Remembers}
use Rattle.run_moves.proofs.control.next_after.Goals as goal

pub returns-in-Sequence-clause-next : goal.returns-in-Sequence-clause-next
returns-in-Sequence-clause-next c = λ next now. rw c.in-Sequence.is (c.next_in_round.ensures.next Keeps next)

pub returns-in-Fallback-clause-next : goal.returns-in-Fallback-clause-next
returns-in-Fallback-clause-next c = λ next now. rw c.in-Fallback.is (c.next_in_round-in-Fallback.ensures.next Keeps next)

pub returns-in-SequenceWithMemory-clause-next : goal.returns-in-SequenceWithMemory-clause-next
returns-in-SequenceWithMemory-clause-next c = λ next now. rw c.in-SequenceWithMemory.is (c.next_in_round-in-SequenceWithMemory.ensures.next Remembers next)

pub returns-in-ReactiveSequence-clause-next : goal.returns-in-ReactiveSequence-clause-next
returns-in-ReactiveSequence-clause-next c = λ next now. rw c.in-ReactiveSequence.is (c.next_in_round-in-ReactiveSequence.ensures.next Restarts next)

pub returns-in-ReactiveFallback-clause-next : goal.returns-in-ReactiveFallback-clause-next
returns-in-ReactiveFallback-clause-next c = λ next now. rw c.in-ReactiveFallback.is (c.next_in_round-in-ReactiveFallback.ensures.next Restarts next)
