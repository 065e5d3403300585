use Rattle.std.proofs.Common.{◌++◌, None, get_or, length, sym, ap, ◌∙◌, arith}
use Rattle.std.proofs.lemmas.List.{get_or_read}
use Rattle.run_loop.proofs.Entries.{passed_over, told_next}
use Rattle.run_loop.proofs.telling.tell_entries.Goals as goal

-- slots that were not written give no changes
pub loop-slot-init : goal.loop-slot-init
loop-slot-init g c =
    let first = c.next_written-slot in record {
      within = first.ensures.last;
      changes = ap (λ changes. c.args.changes.now.items ++ changes)
          (sym (passed_over c.args.runner g.P.Past.past c.args.board.now c.list-entries.ensures.many 0 first.result first.ensures.later first.ensures.last first.ensures.between));
    }

pub loop-slot-preserved : goal.loop-slot-preserved
loop-slot-preserved g c =
    let l = c.loop-slot in
    let next = c.next_written-slot-in-loop-slot in
    let entries = c.list-entries in record {
      within = next.ensures.last;
      changes = told_next c.args.runner g.P.Past.past c.args.board.now entries.ensures.many l.slot next.result _ _ l.changes.items c.tell_entry.new.changes.items _
          (omega (arith, c.loop-slot-test.true, ap length entries.ensures.value)) c.past.ensures
          (get_or_read entries.result.now l.slot _ c.loop-slot-test.true c.index-entries-slot.is None ∙ ap (λ board. get_or board l.slot None) entries.ensures.value)
          next.ensures.later next.ensures.last next.ensures.between c.in_ok-tell_entry.ensures l.invariant.changes;
    }
