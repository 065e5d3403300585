use Rattle.std.proofs.Common.{subst, ◌≤◌}
use Rattle.spec_outside.specs.Counts.{Rose}
use Rattle.base_outside.proofs.Appends.{AppendedPrefix-more}
use Rattle.base_outside.proofs.out_sink.OutSinkSink.write.Goals as goal

pub returns-then-taken-eq0-clause-failed : goal.returns-then-taken-eq0-clause-failed
returns-then-taken-eq0-clause-failed g c = λ _. subst (λ old. Rose old c.fail.new.self.faults) c.turn-taken.ensures.calm c.fail.ensures.rose

pub returns-then-taken-eq0-clause-count : goal.returns-then-taken-eq0-clause-count
returns-then-taken-eq0-clause-count g c = subst (λ old. old ≤ c.fail.new.self.faults) c.turn-taken.ensures.calm c.fail.ensures.count

pub returns-clause-prefix : goal.returns-clause-prefix
returns-clause-prefix g c =
    AppendedPrefix-more _ _ _ c.args.piece.now c.turn-taken.result c.turn-taken.ensures.text c.write_turns.ensures.prefix

pub returns-clause-failed : goal.returns-clause-failed
returns-clause-failed g c =
    λ failed. subst (λ old. Rose old c.write_turns.new.self.faults) c.turn-taken.ensures.calm (c.write_turns.ensures.failed failed)

pub returns-clause-count : goal.returns-clause-count
returns-clause-count g c = subst (λ old. old ≤ c.write_turns.new.self.faults) c.turn-taken.ensures.calm c.write_turns.ensures.count
