use Rattle.cli_answers.proofs.Pairs.{apart_where_done, exclusive_printed}
use Rattle.cli_refusals.proofs.Writings.{at_lines}
use Rattle.cli_answers.proofs.printing.exclusive.print_exclusive.Goals as goal

pub returns-in-Ok-clause-printed : goal.returns-in-Ok-clause-printed
returns-in-Ok-clause-printed g c = exclusive_printed _ _ _ _ c.args.ids.now c.args.tree.now c.in-Ok.exit c.in-Ok.ensures.exit c.in-Ok.ensures.whole

pub returns-in-Ok-clause-apart : goal.returns-in-Ok-clause-apart
returns-in-Ok-clause-apart g c done =
    apart_where_done c.args.ids.now c.args.tree.now c.in-Ok.exit (c.no_run_holds_exclusive_leaves_together.ensures c.args.tree.now c.requires c.args.ids.now) c.in-Ok.ensures.exit done

pub returns-in-Ok-clause-writes : goal.returns-in-Ok-clause-writes
returns-in-Ok-clause-writes g c = at_lines g.K.Sink.write_gives c.in-Ok.exit _ _ c.in-Ok.ensures.writes
