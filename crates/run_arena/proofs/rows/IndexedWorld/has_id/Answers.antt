use Rattle.std.proofs.Common.{◌≡◌, Some, sym, subst, ◌∙◌}
use Rattle.std.specs.Prelude.{slice_get}
use Rattle.spec_world.specs.declared.world.World.{World}
use Rattle.spec_run.specs.Leaves.{row_of}
use Rattle.run_arena.proofs.Indexed.{found_there}
use Rattle.run_arena.proofs.rows.IndexedWorld.has_id.Goals as goal

pub returns-in-Some : goal.returns-in-Some
returns-in-Some c = λ is.
    let world = c.self.inside.world.now in
    let row_is : slice_get world.rows c.args.number ≡ Some c.in-Some.row.now = cc (c.in-Some.ensures, c.list.ensures) in
    subst (λ (w : World). slice_get w.rows c.args.number ≡ row_of w.rows c.args.id.now) c.self.view_is
    (found_there world.rows c.args.number c.in-Some.row.now c.args.id.now c.self.invariant.2 row_is (sym c.eq.ensures ∙ is))
