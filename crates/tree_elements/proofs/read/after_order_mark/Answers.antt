use Rattle.std.proofs.Common.{◌≡◌, true, List, ℕ, ◌∷◌, [], ap, sym, ◌∙◌}
use Rattle.spec_tree_file.specs.References.{begins_with}
use Rattle.tree_elements.proofs.Asides.{begins_is}
use Rattle.tree_elements.proofs.Cuts.{cut_order_mark}
use Rattle.tree_elements.proofs.read.after_order_mark.Goals as goal

pub returns-then-starts_with-clause-utf8 : goal.returns-then-starts_with-clause-utf8
returns-then-starts_with-clause-utf8 c =
    let bytes = c.args.bytes.now in
    let word = 0xEF ∷ 0xBB ∷ 0xBF ∷ [] in
    let here : begins_with word bytes ≡ true = sym c.starts_with.ensures.value ∙ c.if-starts_with.true in
    cut_order_mark bytes c.split_at.result.1.now (begins_is word bytes here ∙ ap (λ (z : List ℕ). 0xEF ∷ 0xBB ∷ 0xBF ∷ z) (sym c.split_at.ensures.back)) c.requires
