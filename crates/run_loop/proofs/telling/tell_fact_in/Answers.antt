use Rattle.std.proofs.Common.{pos, w64}
use Rattle.std.proofs.lemmas.Int.{to_z-of_z}
use Rattle.std.proofs.lemmas.List.{get_or_read}
use Rattle.run_loop.proofs.Groups.{one_told}
use Rattle.run_loop.proofs.telling.tell_fact_in.Goals as goal

pub returns-clause-facts : goal.returns-clause-facts
returns-clause-facts c =
    rw (← to_z-of_z w64 c.args.value c.ranges.value)
    (one_told c.tell_fact.result c.args.fact c.args.told.now.items _ _ (pos 0) c.args.block.now.facts.items c.tell_fact.new.changes.items c.requires
    (get_or_read c.args.told.now.items c.args.fact _ c.requires c.index_mut.ensures.value (pos 0)) c.tell_fact.ensures.changes)
