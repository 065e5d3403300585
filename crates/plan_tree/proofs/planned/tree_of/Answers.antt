use Rattle.plan_tree.proofs.Rooted.{root_planned}
use Rattle.plan_tree.proofs.Valid.{planned_lone, planned_nameless, planned_valid}
use Rattle.plan_tree.proofs.planned.tree_of.Goals as goal

pub returns-clause-planned : goal.returns-clause-planned
returns-clause-planned c =
    root_planned c.args.t.now c.args.world.now c.list.result.now c.in-Some.root.now c.len.result c.in_ok-main-in-Some.main c.in_ok-term-in-Some.term
    c.list.ensures c.in-Some.ensures c.len.ensures c.in_ok-main-in-Some.ensures c.in_ok-term-in-Some.ensures

pub returns-clause-valid : goal.returns-clause-valid
returns-clause-valid c =
    planned_valid c.args.world.now c.requires.1.valid c.args.t.now c.requires.0 (record { main = c.in_ok-main-in-Some.main; term = c.in_ok-term-in-Some.term }) c.requires.1 c.requires.2
    (returns-clause-planned c c.requires.0 c.requires.1)

pub returns-clause-lone : goal.returns-clause-lone
returns-clause-lone c =
    planned_lone c.args.world.now c.requires.1.valid c.requires.0 (record { main = c.in_ok-main-in-Some.main; term = c.in_ok-term-in-Some.term })
    (returns-clause-planned c c.requires.0 c.requires.1)

pub returns-clause-nameless : goal.returns-clause-nameless
returns-clause-nameless c =
    planned_nameless c.args.world.now c.requires.1.valid c.requires.0 (record { main = c.in_ok-main-in-Some.main; term = c.in_ok-term-in-Some.term })
    (returns-clause-planned c c.requires.0 c.requires.1)
