use Rattle.std.proofs.Common.{◌∙◌, ap, sym}
use Rattle.spec_tree.specs.declared.term.Tree.{Tree}
use Rattle.spec_world.specs.declared.world.World.{World}
use Rattle.base_tables.specs.SlotTables.{slot_table}
use Rattle.spec_tree.specs.Terms.{leaf_ids}
use Rattle.spec_run.specs.Joins.{first_missing}
use Rattle.plan_trial.proofs.trying.begin.Goals as goal

pub make_planned_runs-requires-clause-slots : goal.make_planned_runs-requires-clause-slots
make_planned_runs-requires-clause-slots g c = c.no_slots-slots.ensures ∙ sym (ap slot_table c.requires.1.0 ∙ c.requires.1.1.1.1.1.1)

pub make_planned_runs-requires-clause-joined : goal.make_planned_runs-requires-clause-joined
make_planned_runs-requires-clause-joined g c =
    let drivers = g.D.Drivers.states c.args.drivers.now in
    ap (λ (w : World). first_missing w.rows drivers (leaf_ids c.args.tree.now.term)) c.requires.1.1.0.world_is
    ∙ ap (λ (t : Tree). first_missing g.of.world.rows drivers (leaf_ids t.term)) c.requires.1.0
    ∙ c.requires.1.1.1.0
