use Rattle.std.proofs.Common.{sym, ◌∙◌}
use Rattle.plan_reorder.proofs.Listed.{found_threat, no_threat, passed_threat}
use Rattle.plan_reorder.proofs.conflicts.first_threat.Goals as goal

pub returns-in-Some : goal.returns-in-Some
returns-in-Some c =
    sym (found_threat c.args.t.now.rules c.args.t.now.nodes c.args.action c.args.keys.now c.loop-key.key-index c.loop-key-test.true c.in-Some.head (sym c.in-Some.ensures)) ∙ c.loop-key.invariant

pub loop-key-preserved : goal.loop-key-preserved
loop-key-preserved c =
    passed_threat c.args.t.now.rules c.args.t.now.nodes c.args.action c.args.keys.now c.loop-key.key-index c.loop-key-test.true (sym c.in_default.ensures) ∙ c.loop-key.invariant

pub returns : goal.returns
returns c = sym (no_threat c.args.t.now.rules c.args.t.now.nodes c.args.action c.args.keys.now c.loop-key.key-index c.loop-key-test.false) ∙ c.loop-key.invariant
