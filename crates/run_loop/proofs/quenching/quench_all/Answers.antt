use Rattle.std.proofs.Common.{Some, sym, ap, ◌∙◌, arith}
use Rattle.std.proofs.lemmas.List.{length-set}
use Rattle.std.proofs.lemmas.Option.{get_or_from_slice_get, slice_get-get_or}
use Rattle.std.proofs.Math.Seq.{map-set_same}
use Rattle.spec_run.specs.Run.{root_view}
use Rattle.run_loop.specs.declared.runs.ReadyRunner.{ReadyRunner}
use Rattle.run_loop.proofs.Quenched.{few_notes, nothing_held, quenched_drivers_end, quenched_notes_end, quenched_state_end, quenching_more, room_at}
use Rattle.run_loop.proofs.quenching.quench_all.Goals as goal

pub quench-requires-clause-fits : goal.quench-requires-clause-fits
quench-requires-clause-fits g c =
    let l = c.loop-place in
    let fit = c.requires.fit in
    let at = slice_get-get_or l.runners.items l.place c.index_mut.result.now (omega (arith, c.loop-place-test.true, l.invariant.5, c.len-place-end.ensures)) ∙ ap Some (sym c.index_mut.ensures.value) in
    let r = c.index_mut.result.now in
    (fit.0.tree.term, root_view fit.0.tree fit.0.world, r.board, fit.1, ((l.invariant.0 fit.0 fit.1 fit.2).fit.each l.place r at).fits)

pub quench-requires-clause-room : goal.quench-requires-clause-room
quench-requires-clause-room g c =
    let l = c.loop-place in
    let at = slice_get-get_or l.runners.items l.place c.index_mut.result.now (omega (arith, c.loop-place-test.true, l.invariant.5, c.len-place-end.ensures)) ∙ ap Some (sym c.index_mut.ensures.value) in
    let r = c.index_mut.result.now in
    omega (arith, l.invariant.1, room_at l.runners.items c.args.runners.now.items l.place r at l.invariant.2)

pub loop-place-preserved : goal.loop-place-preserved
loop-place-preserved g c =
    let l = c.loop-place in
    let at = slice_get-get_or l.runners.items l.place c.index_mut.result.now (omega (arith, c.loop-place-test.true, l.invariant.5, c.len-place-end.ensures)) ∙ ap Some (sym c.index_mut.ensures.value) in
    let r = c.index_mut.result.now in
    let new : ReadyRunner = record { arena = c.quench.new.arena; board = r.board } in
    let q = c.quench.ensures in (
      (λ of facts fit.
          let so_far = l.invariant.0 of facts fit in
          let fits = (so_far.fit.each l.place r at).fits in
          quenching_more of.tree of.world facts l.place _ _ c.args.runners.now.items l.runners.items _ _ so_far r at new _ _ q.nodes q.same_runner q.frames (q.fits r.board facts) (q.runner of.tree (root_view of.tree of.world) r.board facts fits) q.drivers q.notes),
      omega (arith, l.invariant.1, room_at l.runners.items c.args.runners.now.items l.place r at l.invariant.2, q.reserve, few_notes (g.D.Drivers.states l.drivers) 0 r.arena.nodes.items),
      map-set_same (λ (x : ReadyRunner). x.arena.nodes.items) l.runners.items l.place new r (q.nodes ∙ ap (λ (x : ReadyRunner). x.arena.nodes.items) (sym (get_or_from_slice_get l.runners.items l.place r r at))) ∙ l.invariant.2,
      map-set_same (λ (x : ReadyRunner). x.board) l.runners.items l.place new r (ap (λ (x : ReadyRunner). x.board) (sym (get_or_from_slice_get l.runners.items l.place r r at))) ∙ l.invariant.3,
      q.full ∙ l.invariant.4,
      length-set l.runners.items l.place new ∙ l.invariant.5,
    )

pub returns-clause-state : goal.returns-clause-state
returns-clause-state g c = λ of facts fit. quenched_state_end of.tree of.world facts _ _ _ _ _ _ _ (c.loop-place.invariant.0 of facts fit) (omega (arith, c.loop-place-test.false, c.loop-place.invariant.5, c.len-place-end.ensures))

pub returns-clause-notes : goal.returns-clause-notes
returns-clause-notes g c = λ of facts fit. quenched_notes_end of.tree of.world facts _ _ _ _ _ _ _ (c.loop-place.invariant.0 of facts fit) (omega (arith, c.loop-place-test.false, c.loop-place.invariant.5, c.len-place-end.ensures))

pub returns-clause-drivers : goal.returns-clause-drivers
returns-clause-drivers g c = λ of facts fit. quenched_drivers_end of.tree of.world facts _ _ _ _ _ _ _ (c.loop-place.invariant.0 of facts fit) (omega (arith, c.loop-place-test.false, c.loop-place.invariant.5, c.len-place-end.ensures))

pub returns-clause-none : goal.returns-clause-none
returns-clause-none g c =
    let fit = c.requires.fit in
    nothing_held fit.0.tree fit.0.world fit.1 _ _ _ _ _ _ _ (c.loop-place.invariant.0 fit.0 fit.1 fit.2) (omega (arith, c.loop-place-test.false, c.loop-place.invariant.5, c.len-place-end.ensures))
