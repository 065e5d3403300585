use Rattle.std.proofs.Common.{List, ◌∷◌, [], ◌++◌, take, sym, ap, subst, ◌∙◌}
use Rattle.std.proofs.lemmas.List.{take_all, take_more}
use Rattle.spec_world.specs.declared.world.Row.{Row}
use Rattle.run_driver.specs.Places.{CanBeReady}
use Rattle.run_arena.specs.Rows.{AreReady, IsReadyRow, TellsEachOnce}
use Rattle.run_arena.proofs.Readied.{ready_more}
use Rattle.run_arena.proofs.rows.ready_rows.Goals as goal

pub loop-row-init : goal.loop-row-init
loop-row-init c = subst (AreReady c.args.facts.now []) (sym c.in_ok-all.ensures.items) tt

pub loop-row-preserved : goal.loop-row-preserved
loop-row-preserved c =
    let facts = c.args.facts.now in
    let rows = c.args.rows.now in
    let i = c.loop-row.row-index in
    let row = c.row-item.result in
    let is : IsReadyRow facts row c.in_ok-ready.field-0 = record {
      can = subst (CanBeReady facts) (sym c.row-item.is) (c.requires.can i row c.loop-row-test.true);
      once = subst TellsEachOnce (sym c.row-item.is) (c.requires.once i row c.loop-row-test.true);
      told = c.in_ok-ready.ensures.told;
      kind = c.in_ok-ready.ensures.kind;
      many = c.in_ok-ready.ensures.facts;
      rule = c.in_ok-ready.ensures.rule;
    } in
    let more = ready_more facts (take i rows) c.loop-row.all.items row c.in_ok-of.field-0 c.loop-row.invariant
    (subst (IsReadyRow facts row) (sym c.in_ok-of.ensures) is) in
    subst (λ (so_far : List Row). AreReady facts so_far c.push.new.self.items)
    (sym (take_more rows i row c.loop-row-test.true ∙ ap (λ (r : Row). take i rows ++ r ∷ []) (sym c.row-item.is)))
    (subst (AreReady facts (take i rows ++ row ∷ [])) (sym c.in_ok-push.ensures.items) more)

pub returns : goal.returns
returns c =
    subst (AreReady c.args.facts.now c.args.rows.now) (sym c.of-2.ensures)
    (subst (λ (so_far : List Row). AreReady c.args.facts.now so_far c.loop-row.all.items)
    (take_all c.loop-row.row-index c.args.rows.now c.loop-row-test.false) c.loop-row.invariant)
