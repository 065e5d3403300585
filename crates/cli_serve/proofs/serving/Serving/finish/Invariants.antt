use Rattle.std.proofs.Common.{◌≡◌, ◌≤◌}
use Rattle.cli_serve.proofs.Finishing.{Finished}
use Rattle.cli_serve.specs.Serving.{CanGoOn, sink}
use Rattle.spec_program.specs.declared.exit.Exit.{Exit}
use Rattle.cli_serve.proofs.serving.Serving.finish.Given as goal

abbrev pub invariant-loop-place : goal.invariant-loop-place
invariant-loop-place g l =
    let out = g.K.Sink in
    record {
      goes_on : CanGoOn l.self;
      world : l.self.session.world ≡ l.fn.self.session.world;
      end : l.runners ≡ l.fn.self.session.world.runners;
      done : (exit : Exit) → Finished l.runners l.place exit l.fn.self.session l.self.session
          (sink (out.written l.fn.out) (out.handed l.fn.out) (out.faults l.fn.out)) (sink (out.written l.out) (out.handed l.out) (out.faults l.out));
      count : out.faults l.fn.out ≤ out.faults l.out;
    }
