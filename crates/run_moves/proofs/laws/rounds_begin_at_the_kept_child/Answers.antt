use Rattle.spec_run.specs.declared.status.Answer.TheVariants.{Success, Failure}
use Rattle.spec_run.specs.Rules.Sequences.{reactive_end, sequence_end, with_memory_end}
use Rattle.run_moves.proofs.Counted.{round_first, round_here}
use Rattle.run_moves.proofs.laws.rounds_begin_at_the_kept_child.Goals as goal

pub returns-clause-sequence : goal.returns-clause-sequence
returns-clause-sequence c = λ n now picked at seen within. round_here Success (sequence_end Success) n at seen within

pub returns-clause-with_memory : goal.returns-clause-with_memory
returns-clause-with_memory c = λ n now picked at seen within. round_here Success with_memory_end n at seen within

pub returns-clause-reactive : goal.returns-clause-reactive
returns-clause-reactive c = λ n now picked memo within. round_first Success (reactive_end Success) n within

pub returns-clause-reactive_fallback : goal.returns-clause-reactive_fallback
returns-clause-reactive_fallback c = λ n now picked memo within. round_first Failure (reactive_end Failure) n within
