use Rattle.std.proofs.Common.{List, [], ◌∷◌, ◌++◌, ◌≡◌, map, ap, sym, subst, ◌∙◌, arith}
use Rattle.std.specs.List.{AllByRecursion}
use Rattle.spec_tree.specs.declared.cell.Naming.{Naming}
use Rattle.tree_board.specs.declared.rows.Row.{Row}
use Rattle.tree_board.specs.Rows.{IsWithin, naming_by}
use Rattle.tree_board.proofs.Numbered.{all_push, grows_key, grows_length, grows_more, named_more, rows_within}
use Rattle.tree_board.proofs.rows.Namings.add.Goals as goal

pub invariant_of-self-in_err-push : goal.invariant_of-self-in_err-push
invariant_of-self-in_err-push c =
    let grown = grows_more _ _ _ c.number.ensures.grown c.number_or.ensures.grown in
    subst (AllByRecursion (IsWithin _)) (sym c.in_err-push.ensures.items) (rows_within _ _ grown c.self.inside.rows.items c.self.invariant)

pub invariant_of-self-2 : goal.invariant_of-self-2
invariant_of-self-2 c =
    let grown = grows_more _ _ _ c.number.ensures.grown c.number_or.ensures.grown in
    let more = grows_length _ _ c.number_or.ensures.grown in
    subst (AllByRecursion (IsWithin _)) (sym c.in_ok-push.ensures.items)
    (all_push (IsWithin _) c.self.inside.rows.items _ (rows_within _ _ grown c.self.inside.rows.items c.self.invariant)
    (omega (arith, c.in_ok-named.ensures.number.0, more), c.in_ok-owned.ensures.number.0))

pub returns : goal.returns
returns c =
    let grown = grows_more _ _ _ c.number.ensures.grown c.number_or.ensures.grown in
    let named = grows_key _ _ c.number_or.ensures.grown c.in_ok-named.named c.in_ok-named.ensures.number.0 ∙ c.in_ok-named.ensures.number.1 in
    let owned = c.in_ok-owned.ensures.number.1 in
    let row : Row = record { named = (c.args.scope, c.in_ok-named.named); cell = (c.args.cell.now.scope, c.in_ok-owned.owned) } in
    let is : naming_by _ row ≡ record { number = c.args.scope; key = c.args.key.now; cell = c.args.cell.now } =
    λ i. record { number = c.args.scope; key = named i; cell = record { scope = c.args.cell.now.scope; key = owned i } } in
    ap (map (naming_by _)) c.in_ok-push.ensures.items
    ∙ named_more _ _ grown c.self.inside.rows.items row _ c.self.invariant is
    ∙ ap (λ (ns : List Naming). ns ++ record { number = c.args.scope; key = c.args.key.now; cell = c.args.cell.now } ∷ []) c.self.view_is
