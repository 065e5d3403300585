use Rattle.std.proofs.Common.{◌≡◌, Option, Some, None, sym, ap, subst, ◌∙◌}
use Rattle.std.specs.Prelude.{MatchOption, slice_get}
use Rattle.spec_world.specs.declared.world.World.{World}
use Rattle.spec_run.specs.Leaves.{row_of}
use Rattle.run_driver.specs.declared.row.ReadyRow.{ReadyRow}
use Rattle.run_arena.specs.Rows.{IsReadyRow, row_by}
use Rattle.run_arena.proofs.Readied.{ready_at}
use Rattle.run_arena.proofs.rows.IndexedWorld.find.Goals as goal

pub returns-in_err-ready : goal.returns-in_err-ready
returns-in_err-ready c =
    let world = c.self.inside.world.now in
    let row_is : slice_get world.rows c.in_ok-number.number ≡ Some c.in_ok-row.row.now = cc (c.in_ok-row.ensures, c.list.ensures) in
    absurd (subst (λ (o : Option ReadyRow). MatchOption o ⊥ (IsReadyRow world.facts c.in_ok-row.row.now)) {y = None} (cc (c.in_err-ready.ensures, c.list-2.ensures))
    (ready_at world.facts world.rows c.self.inside.ready c.in_ok-number.number c.in_ok-row.row.now c.self.invariant.1 row_is))

pub returns : goal.returns
returns c =
    let world = c.self.inside.world.now in
    let row_is : slice_get world.rows c.in_ok-number.number ≡ Some c.in_ok-row.row.now = cc (c.in_ok-row.ensures, c.list.ensures) in
    let found : row_of world.rows c.args.id.now ≡ Some c.in_ok-row.row.now =
    ap (λ (w : World). row_of w.rows c.args.id.now) c.self.view_is ∙ sym c.number_of.ensures ∙ ap (row_by c.args.self.now.rows) c.in_ok-number.was
    ∙ ap (λ (w : World). slice_get w.rows c.in_ok-number.number) (sym c.self.view_is) ∙ row_is in
    let ready : IsReadyRow world.facts c.in_ok-row.row.now c.in_ok-ready.ready.now =
    subst (λ (o : Option ReadyRow). MatchOption o ⊥ (IsReadyRow world.facts c.in_ok-row.row.now)) {y = Some c.in_ok-ready.ready.now} (cc (c.in_ok-ready.ensures, c.list-2.ensures))
    (ready_at world.facts world.rows c.self.inside.ready c.in_ok-number.number c.in_ok-row.row.now c.self.invariant.1 row_is) in
    subst (λ (w : World). (row_of w.rows c.args.id.now ≡ Some c.in_ok-row.row.now) × IsReadyRow w.facts c.in_ok-row.row.now c.in_ok-ready.ready.now)
    c.self.view_is (found, ready)
