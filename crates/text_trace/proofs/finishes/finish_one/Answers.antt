use Rattle.std.proofs.Common.{refl}
use Rattle.text_trace.proofs.Rests.{rests_after}
use Rattle.text_trace.proofs.Steps.{event_makes, made_whole}
use Rattle.text_trace.proofs.finishes.finish_one.Goals as goal

pub run_finish-made-requires : goal.run_finish-made-requires
run_finish-made-requires g c = λ lifetimes live.
    let r = c.requires.1.1 in
    (live, (r.0.are, (r.1.0, (r.1.1, r.0.room))))

pub returns-clause-made : goal.returns-clause-made
returns-clause-made g c = event_makes g.of _ _ _ c.run_finish-made.result c.show_event.result c.run_finish-made.ensures c.show_event.ensures.shown c.show_event.ensures.watcher

pub returns-clause-rests : goal.returns-clause-rests
returns-clause-rests g c = λ done before.
    rests_after g.of.tree g.of.world c.args.runner _ c.requires.1.1.0.are before c.run_finish-made.result c.run_finish-made.new.runs c.run_finish-made.new.block _ _ refl
    (made_whole c.run_finish-made.result c.show_event.result _ _ _ c.show_event.ensures.shown done) c.run_finish-made.ensures.step
