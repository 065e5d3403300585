use Rattle.std.proofs.Common.{◌++◌, List, map, ap, ◌∙◌}
use Rattle.std.specs.List.{list_any}
use Rattle.spec_tree.specs.Boards.{main_scope, named_in}
use Rattle.spec_tree.specs.declared.cell.Naming.{Naming}
use Rattle.tree_board.proofs.Named.{named_from_none}
use Rattle.tree_board.proofs.naming.name_tree.Goals as goal

-- nothing was named before the first node
pub returns : goal.returns
returns c =
    let here = map (named_in 0 main_scope) in
    named_from_none (c.new-named.result ++ here c.new-keys.result) _ _
    (ap (λ (ns : List Naming). ns ++ here c.new-keys.result) c.new-named.ensures ∙ ap here c.new-keys.ensures)
    (λ p. ap (list_any p) c.in_ok-name_scope.ensures ∙ c.in_ok-name_term.ensures.named p)
