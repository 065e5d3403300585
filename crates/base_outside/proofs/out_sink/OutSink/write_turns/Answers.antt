use Rattle.std.proofs.Common.{arith, sym, subst, ◌∙◌, ◌≤◌}
use Rattle.std.proofs.lemmas.Grind.{common_steps}
use Rattle.spec_outside.specs.Appending.{AppendedPrefix}
use Rattle.spec_outside.specs.Counts.{Rose}
use Rattle.base_outside.specs.OutSink.{written_so_far}
use Rattle.base_outside.proofs.Appends.{Appended-more, AppendedPrefix-taken}
use Rattle.base_outside.proofs.out_sink.OutSink.write_turns.Goals as goal

pub turns-preserved : goal.turns-preserved
turns-preserved g c =
    record {
      within = grind (arith, common_steps);
      text = Appended-more _ _ _ c.args.piece.now c.turns.at c.turn-taken.result c.turns.invariant.text c.turn-taken.ensures.text;
      calm = c.turn-taken.ensures.calm ∙ c.turns.invariant.calm;
    }

pub returns-then-taken-eq0-clause-prefix : goal.returns-then-taken-eq0-clause-prefix
returns-then-taken-eq0-clause-prefix g c =
    let taken = Appended-more _ _ _ c.args.piece.now c.turns.at c.turn-taken.result c.turns.invariant.text c.turn-taken.ensures.text in
    subst (λ text. AppendedPrefix (written_so_far c.args.self.now) text c.args.piece.now) (sym c.fail.ensures.written)
    (AppendedPrefix-taken _ _ c.args.piece.now _ taken)

pub returns-then-taken-eq0-clause-failed : goal.returns-then-taken-eq0-clause-failed
returns-then-taken-eq0-clause-failed g c =
    λ _. subst (λ old. Rose old c.fail.new.self.faults) (c.turn-taken.ensures.calm ∙ c.turns.invariant.calm) c.fail.ensures.rose

pub returns-then-taken-eq0-clause-count : goal.returns-then-taken-eq0-clause-count
returns-then-taken-eq0-clause-count g c =
    subst (λ old. old ≤ c.fail.new.self.faults) (c.turn-taken.ensures.calm ∙ c.turns.invariant.calm) c.fail.ensures.count
