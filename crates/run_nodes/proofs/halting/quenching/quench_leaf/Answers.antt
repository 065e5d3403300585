use Rattle.std.proofs.Common.{Option, sym, ap, ◌∙◌, arith}
use Rattle.spec_run.specs.Drivers.{is_held}
use Rattle.run_arena.specs.declared.nodes.Kept.{Kept}
use Rattle.run_arena.specs.declared.nodes.Node.{Node}
use Rattle.run_arena.specs.declared.nodes.ReadyLeaf.{ReadyLeaf}
use Rattle.run_arena.specs.Noted.{Noted}
use Rattle.run_arena.specs.Rosters.{leaf_instance}
use Rattle.run_nodes.proofs.AboutHalting.Leaving.{free_drivers, free_instances, free_length, free_notes, held_drivers, held_instances, held_length, held_notes}
use Rattle.run_nodes.proofs.AboutHalting.Releasing.{released_serves, marked_is_held}
use Rattle.run_nodes.proofs.AboutHalting.Marks.{mark_is}
use Rattle.run_nodes.proofs.halting.quenching.quench_leaf.Goals as goal

pub halted-requires-clause-held : goal.halted-requires-clause-held
halted-requires-clause-held g c =
    marked_is_held c.args.nodes.now c.args.kept.now _ c.args.uid c.in-Some.leaf (ap (λ (n : Node). n.leaf) (sym c.node.ensures) ∙ c.in-Some.is) c.requires.marks (ap (λ (k : Kept). k.held) (sym c.kept_by.ensures) ∙ c.if-kept_by.true)

pub returns-then-kept_by-clause-drivers : goal.returns-then-kept_by-clause-drivers
returns-then-kept_by-clause-drivers g c =
    held_drivers c.args.nodes.now _ c.args.uid c.in-Some.leaf (ap (λ (n : Node). n.leaf) (sym c.node.ensures) ∙ c.in-Some.is) c.requires.leaves (sym (mark_is c.args.nodes.now c.args.kept.now _ c.args.uid c.requires.marks) ∙ ap (λ (k : Kept). k.held) (sym c.kept_by.ensures) ∙ c.if-kept_by.true) _ c.halted.ensures

pub returns-then-kept_by-clause-instances : goal.returns-then-kept_by-clause-instances
returns-then-kept_by-clause-instances g c =
    held_instances c.args.nodes.now _ c.args.uid c.in-Some.leaf (ap (λ (n : Node). n.leaf) (sym c.node.ensures) ∙ c.in-Some.is) c.requires.leaves (sym (mark_is c.args.nodes.now c.args.kept.now _ c.args.uid c.requires.marks) ∙ ap (λ (k : Kept). k.held) (sym c.kept_by.ensures) ∙ c.if-kept_by.true) _ c.halted.ensures

pub returns-then-kept_by-clause-leaves : goal.returns-then-kept_by-clause-leaves
returns-then-kept_by-clause-leaves g c =
    released_serves c.args.nodes.now c.args.kept.now _ c.args.uid c.in-Some.leaf (ap (λ (n : Node). n.leaf) (sym c.node.ensures) ∙ c.in-Some.is) c.requires.leaves _ c.halted.ensures

pub returns-then-kept_by-clause-notes : goal.returns-then-kept_by-clause-notes
returns-then-kept_by-clause-notes g c =
    held_notes c.args.nodes.now _ c.args.uid c.in-Some.leaf (ap (λ (n : Node). n.leaf) (sym c.node.ensures) ∙ c.in-Some.is) c.requires.leaves (sym (mark_is c.args.nodes.now c.args.kept.now _ c.args.uid c.requires.marks) ∙ ap (λ (k : Kept). k.held) (sym c.kept_by.ensures) ∙ c.if-kept_by.true) _ c.halted.ensures
    c.args.runner c.args.notes.now.list _ (ap (λ (n : Noted). n.list) c.push_reserved.ensures)

pub returns-then-kept_by-clause-reserve : goal.returns-then-kept_by-clause-reserve
returns-then-kept_by-clause-reserve g c =
    let held = ap (λ (k : Kept). k.held) (sym c.kept_by.ensures) ∙ c.if-kept_by.true in
    omega (
      arith,
      c.requires.room held,
      ap (λ (n : Noted). n.reserve) c.push_reserved.ensures,
      held_length c.args.nodes.now _ c.args.uid c.in-Some.leaf (ap (λ (n : Node). n.leaf) (sym c.node.ensures) ∙ c.in-Some.is) c.requires.leaves (sym (mark_is c.args.nodes.now c.args.kept.now _ c.args.uid c.requires.marks) ∙ held) _ c.halted.ensures,
    )

pub returns-else-kept_by-clause-drivers : goal.returns-else-kept_by-clause-drivers
returns-else-kept_by-clause-drivers g c = free_drivers c.args.nodes.now _ c.args.uid (sym (mark_is c.args.nodes.now c.args.kept.now _ c.args.uid c.requires.marks) ∙ ap (λ (k : Kept). k.held) (sym c.kept_by.ensures) ∙ c.if-kept_by.false)

pub returns-else-kept_by-clause-instances : goal.returns-else-kept_by-clause-instances
returns-else-kept_by-clause-instances g c = free_instances c.args.nodes.now _ c.args.uid (sym (mark_is c.args.nodes.now c.args.kept.now _ c.args.uid c.requires.marks) ∙ ap (λ (k : Kept). k.held) (sym c.kept_by.ensures) ∙ c.if-kept_by.false)

pub returns-else-kept_by-clause-notes : goal.returns-else-kept_by-clause-notes
returns-else-kept_by-clause-notes g c = free_notes c.args.nodes.now _ c.args.uid (sym (mark_is c.args.nodes.now c.args.kept.now _ c.args.uid c.requires.marks) ∙ ap (λ (k : Kept). k.held) (sym c.kept_by.ensures) ∙ c.if-kept_by.false) c.args.runner c.args.notes.now.list

pub returns-else-kept_by-clause-reserve : goal.returns-else-kept_by-clause-reserve
returns-else-kept_by-clause-reserve g c =
    omega (arith, free_length c.args.nodes.now _ c.args.uid (sym (mark_is c.args.nodes.now c.args.kept.now _ c.args.uid c.requires.marks) ∙ ap (λ (k : Kept). k.held) (sym c.kept_by.ensures) ∙ c.if-kept_by.false))

pub returns-in-None-clause-instances : goal.returns-in-None-clause-instances
returns-in-None-clause-instances g c =
    free_instances c.args.nodes.now _ c.args.uid
    (ap (λ (o : Option ReadyLeaf). is_held (leaf_instance (g.D.Drivers.states c.args.drivers.now) o)) (ap (λ (n : Node). n.leaf) (sym c.node.ensures) ∙ c.in-None.is))
