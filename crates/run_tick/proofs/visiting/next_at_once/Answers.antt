use Rattle.std.proofs.Common.{[], ◌∷◌, ◌++◌, ap, arith, length, refl, sym, ◌∙◌}
use Rattle.run_laws.proofs.Keeping.{term_keeps}
use Rattle.run_arena.specs.declared.frame.Frame.{Frame}
use Rattle.run_tick.specs.declared.progress.Next.TheVariants as next
use Rattle.run_tick.proofs.Stacks.{can_step, step_made}
use Rattle.run_tick.proofs.Tops.{going_on, less_on_top, one_on_top, top_written, went_on}
use Rattle.run_tick.proofs.visiting.next_at_once.Goals as goal

pub overflow_sub-top : goal.overflow_sub-top
overflow_sub-top g c =
    let (root, start, told, whole, came) = c.requires.going in
    omega (arith, one_on_top came, c.len-top.ensures)

pub bounds-as_mut_slice-top : goal.bounds-as_mut_slice-top
bounds-as_mut_slice-top g c =
    let (root, start, told, whole, came) = c.requires.going in
    omega (arith, one_on_top came, c.len-top.ensures, ap length c.as_mut_slice.ensures.value)

pub goes_on_at_once-requires : goal.goes_on_at_once-requires
goes_on_at_once-requires g c =
    let (root, start, told, whole, came) = c.requires.going in
    let (below, is, going) = going_on _ _ c.as_mut_slice.ensures.value (c.len-top.ensures ∙ sym c.as_mut_slice.ensures.len ∙ ap length c.as_mut_slice.ensures.value) came in
    record { can = can_step term_keeps _ _ refl going }

pub returns-then-goes_on_at_once-clause-came : goal.returns-then-goes_on_at_once-clause-came
returns-then-goes_on_at_once-clause-came g c = λ root start told whole came.
    let (below, is, going) = going_on _ _ c.as_mut_slice.ensures.value (c.len-top.ensures ∙ sym c.as_mut_slice.ensures.len ∙ ap length c.as_mut_slice.ensures.value) came in
    let goes = c.goes_on_at_once.ensures.goes c.if-goes_on_at_once.true in
    went_on term_keeps below c.goes_on_at_once.new.frame refl (top_written _ _ below _ _ _ _ c.as_mut_slice.ensures.value (c.len-top.ensures ∙ sym c.as_mut_slice.ensures.len ∙ ap length c.as_mut_slice.ensures.value) (sym c.as_mut_slice.ensures.len ∙ ap length c.as_mut_slice.ensures.value) is) (step_made term_keeps _ _ _ _ refl going goes)

pub returns-then-goes_on_at_once-clause-work : goal.returns-then-goes_on_at_once-clause-work
returns-then-goes_on_at_once-clause-work g c =
    let (root, start, told, whole, came) = c.requires.going in
    let (below, is, going) = going_on _ _ c.as_mut_slice.ensures.value (c.len-top.ensures ∙ sym c.as_mut_slice.ensures.len ∙ ap length c.as_mut_slice.ensures.value) came in
    less_on_top _ _ (next.Enter c.goes_on_at_once.new.frame.child) c.args.heard _ _ below _ _ refl is (top_written _ _ below _ _ _ _ c.as_mut_slice.ensures.value (c.len-top.ensures ∙ sym c.as_mut_slice.ensures.len ∙ ap length c.as_mut_slice.ensures.value) (sym c.as_mut_slice.ensures.len ∙ ap length c.as_mut_slice.ensures.value) is) refl (c.goes_on_at_once.ensures.work c.if-goes_on_at_once.true)

pub returns-else-goes_on_at_once-clause-came : goal.returns-else-goes_on_at_once-clause-came
returns-else-goes_on_at_once-clause-came g c =
    let (root, start, told, whole, came) = c.requires.going in
    let (below, is, going) = going_on _ _ c.as_mut_slice.ensures.value (c.len-top.ensures ∙ sym c.as_mut_slice.ensures.len ∙ ap length c.as_mut_slice.ensures.value) came in
    top_written _ _ below _ _ _ _ c.as_mut_slice.ensures.value (c.len-top.ensures ∙ sym c.as_mut_slice.ensures.len ∙ ap length c.as_mut_slice.ensures.value) (sym c.as_mut_slice.ensures.len ∙ ap length c.as_mut_slice.ensures.value) is ∙ ap (λ (f : Frame). below ++ f ∷ []) (c.goes_on_at_once.ensures.same c.if-goes_on_at_once.false) ∙ sym is
