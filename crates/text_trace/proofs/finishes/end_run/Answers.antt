use Rattle.std.proofs.Common.{◌∙◌, Ok, ap, refl}
use Rattle.text_trace.specs.declared.ended.Ended.TheVariants.{Done, Faulted}
use Rattle.text_trace.specs.Going.{stage}
use Rattle.text_trace.proofs.Ends.{ends_as, nothing_ends}
use Rattle.text_trace.proofs.finishes.end_run.Goals as goal

pub returns-in-Ok-Faulted-clause-ends : goal.returns-in-Ok-Faulted-clause-ends
returns-in-Ok-Faulted-clause-ends g c = ends_as g.of c.args.ended (Ok Faulted) _ _ _ (c.in-Ok-Faulted.is ∙ ap Ok (rw c.in-Ok-Faulted.is at c.in-Ok-Faulted.field-0-is)) (nothing_ends g.of _)

pub returns-in-Ok-clause-ends : goal.returns-in-Ok-clause-ends
returns-in-Ok-clause-ends g c =
    ends_as g.of c.args.ended (Ok Done) _ _ _ (c.in-Ok-Done.is ∙ ap Ok (rw c.in-Ok-Done.is at c.in-Ok-Done.field-0-is))
    (record { last = stage (g.D.Drivers.states c.finish_all.new.drivers) (g.W.Watch.state c.finish_all.new.watch) c.finish_all.new.underway; finishes = c.in-Ok.ensures.made; watch = refl; done = refl; halts = tt })

pub returns-in-Err-finish_all-clause-ends : goal.returns-in-Err-finish_all-clause-ends
returns-in-Err-finish_all-clause-ends g c =
    let made = c.in-Err-finish_all.ensures.made in
    ends_as g.of c.args.ended (Ok Done) _ _ _ (c.in-Ok-Done.is ∙ ap Ok (rw c.in-Ok-Done.is at c.in-Ok-Done.field-0-is))
    (record {
      last = stage (g.D.Drivers.states c.finish_all.new.drivers) (g.W.Watch.state c.finish_all.new.watch) c.finish_all.new.underway;
      finishes = made;
      watch = refl;
      done = tt;
      halts = rw (← made.arenas) c.finish_unwritten.ensures.halts;
    })

pub returns-in-Err-clause-ends : goal.returns-in-Err-clause-ends
returns-in-Err-clause-ends g c =
    rw c.in-Err.is
    (record {
      last = stage (g.D.Drivers.states c.args.drivers.now) (g.W.Watch.state c.args.watch.now) c.args.underway.now;
      finishes = (refl, refl);
      watch = refl;
      done = tt;
      halts = c.finish_unwritten-in-Err.ensures.halts;
    })
