use Rattle.std.proofs.Common.{ℤ, refl, sym, ap}
use Rattle.std.specs.Global.{Vec}
use Rattle.run_loop.proofs.Endings.{quenched_told, telling_of}
use Rattle.run_loop.proofs.events.end_at_fault.Goals as goal

pub returns-clause-closes : goal.returns-clause-closes
returns-clause-closes g c = λ of fit. (
  refl,
  quenched_told of.tree _ _ c.args.runs.now c.stop.new.runs c.tell.new.runs _ _ _ c.stop.new.notes.list (ap (λ n. n.list) c.push_reserved.ensures) (sym (ap (λ n. n.list) c.in_ok-tell.ensures.notes)) c.in_ok-tell.ensures.runs
      (c.stop.ensures.quenched of fit),
  telling_of c.args.told _ _ _ _ c.tell.new.runs.told.items _ _ c.tell.new.block c.stop.ensures.facts (ap (λ (v : Vec ℤ). v.items) c.stop.ensures.told) refl refl refl c.in_ok-tell.ensures.told,
)
