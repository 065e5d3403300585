use Rattle.std.proofs.Common.{ap, subst, sym, ◌∙◌}
use Rattle.spec_run.specs.Served.{Setup}
use Rattle.spec_world.specs.declared.world.World.{World}
use Rattle.spec_world.specs.Runnable.{IsRunnableWorld}
use Rattle.base_tables.specs.Runnable.{IsRunnable}
use Rattle.run_loop.specs.Runs.{AreRuns}
use Rattle.host_session.specs.Five.{states_of}
use Rattle.host_session.proofs.Opened.{all_nodes, bare_runnable, bare_runs}
use Rattle.host_session.proofs.opening.join.Goals as goal

pub first_block-requires : goal.first_block-requires
first_block-requires g c =
    let of = sym c.requires.0 in
    let drivers = states_of c.make_runs.new.drivers in (
      ap (λ (s : Setup). s.world.events) c.requires.0 ∙ sym c.list.ensures,
      (
        subst (λ (s : Setup). IsRunnable s.tree) of c.requires.1.0,
        (
          subst (λ (s : Setup). IsRunnableWorld s.world) of c.requires.1.1,
          (drivers, subst (λ (s : Setup). AreRuns s.tree s.world drivers c.in_ok-runs.runs) of c.in_ok-runs.ensures.begun.runs),
        ),
      ),
    )

pub invariant_of-result : goal.invariant_of-result
invariant_of-result g c =
    let drivers = states_of c.make_runs.new.drivers in
    let runs = c.in_ok-runs.runs in
    let are = c.in_ok-runs.ensures.begun.runs in
    let bare = sym c.parted-world.ensures.world in
    record {
      tree = c.requires.1.0;
      world = subst IsRunnableWorld bare (bare_runnable c.args.world c.requires.1.1);
      slots = c.in_ok-slots.ensures;
      labels = c.in_ok-labels.ensures;
      nodes = all_nodes c.args.tree c.args.world drivers runs are;
      room = c.in_ok-block.ensures.room;
      runs = λ usable. subst (λ (w : World). AreRuns c.args.tree w drivers runs) bare (bare_runs c.args.tree c.args.world drivers runs are);
    }
