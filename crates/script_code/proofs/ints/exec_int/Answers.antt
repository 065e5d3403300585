use Rattle.std.proofs.Common.{◌<◌, ◌∙◌, List, ℕ, length, subst, sym}
use Rattle.std.specs.List.{All}
use Rattle.script_code.specs.Codes.{needed}
use Rattle.script_code.proofs.Numbered.{below_all}
use Rattle.script_code.proofs.ints.exec_int.Goals as goal

pub step_int-requires-clause-below : goal.step_int-requires-clause-below
unfolding needed
step_int-requires-clause-below g c =
    let n = length (g.B.Cells.entries c.args.cells.now) in
    subst (λ (slots : List ℕ). All (λ slot. slot < n) slots) (sym (c.list-in-len1.ensures ∙ c.get-in-len1.ensures)) (below_all c.args.code.now.slots n c.requires)
