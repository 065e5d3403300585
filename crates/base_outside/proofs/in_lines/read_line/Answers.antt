use Rattle.std.proofs.Common.{rules}
use Rattle.base_outside.proofs.InputLines.{was_read}
use Rattle.base_outside.proofs.in_lines.read_line.Goals.{then-branch-via-then-branch, then-branch-via-else-branch+then-len-gt-MOST_LINE_BYTES}
use Rattle.base_outside.proofs.in_lines.read_line.Goals as goal

pub returns-then-branch : goal.returns-then-branch
returns-then-branch g c =
    let kept = c.loop.invariant in
    record {
      read = was_read _ _ _ c.loop.room.items c.take_turn.new.room.items c.in_ok-take_turn.field-0 kept.consumed kept.unmet c.in_ok-take_turn.ensures.took
          (λ unmet. elim c.then-branch.branch [
            | then-branch-via-then-branch w ↦ absurd (search rules)
            | then-branch-via-else-branch+then-len-gt-MOST_LINE_BYTES w ↦ search rules
          ])
          c.in_ok-take_turn.ensures.few;
    }
