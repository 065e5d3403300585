use Rattle.std.proofs.Common.{List, length, sym, ap, ◌∙◌}
use Rattle.spec_run.specs.Run.{Runner}
use Rattle.run_arena.specs.declared.nodes.Kept.{Kept}
use Rattle.run_arena.proofs.Framed.{rested}
use Rattle.run_nodes.proofs.AboutHalting.Lent.{written_back}
use Rattle.run_nodes.proofs.AboutHalting.Marks.{mark_is}
use Rattle.run_nodes.proofs.halting.calls.quench.Goals as goal

pub returns-clause-runner : goal.returns-clause-runner
returns-clause-runner g c = λ tree view board facts fits.
    let instances = rw c.deref.ensures.value at c.quench_nodes.ensures.instances in
    rw (written_back _ c.quench_nodes.new.kept c.args.arena.now.kept.items (c.quench_nodes.auto.kept ∙ c.deref_mut.ensures.len) (ap (λ (k : List Kept). length k) (sym c.deref_mut.ensures.value) ∙ c.deref_mut.ensures.len))
    (λ i. let r : Runner = record { memory = rested tree.term 1 c.quench_nodes.new.kept (λ p low high. c.quench_nodes.ensures.rest p) i; board = board; instances = instances i } in r)

pub returns-clause-rest : goal.returns-clause-rest
returns-clause-rest g c = λ uid.
    rw (written_back _ c.quench_nodes.new.kept c.args.arena.now.kept.items (c.quench_nodes.auto.kept ∙ c.deref_mut.ensures.len) (ap (λ (k : List Kept). length k) (sym c.deref_mut.ensures.value) ∙ c.deref_mut.ensures.len))
    (c.quench_nodes.ensures.rest uid)

pub returns-clause-none : goal.returns-clause-none
returns-clause-none g c = λ uid.
    let marks = rw c.deref.ensures.value at c.quench_nodes.ensures.marks in
    sym (mark_is c.args.arena.now.nodes.items c.quench_nodes.new.kept _ uid marks) ∙ ap (λ (k : Kept). k.held) (c.quench_nodes.ensures.rest uid)
