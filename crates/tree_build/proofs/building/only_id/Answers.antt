use Rattle.std.proofs.Common.{ℕ, List, slice_get, ap, sym, ◌∙◌, Bor}
use Rattle.spec_tree_file.specs.declared.element.Element.{Element}
use Rattle.tree_build.proofs.Tables.{only_id-seen}
use Rattle.tree_build.proofs.building.only_id.Goals as goal

pub returns-in-Some : goal.returns-in-Some
returns-in-Some c =
    only_id-seen c.args.trees.now.entries (c.in-Some.id.now, c.in-Some.field-0-1.now)
    (sym c.len.ensures.len ∙ c.if-len-ne1.false)
    (c.in-Some.ensures.entry ∙ ap (λ (es : List (List ℕ × Bor Element)). slice_get es 0) c.as_slice.ensures.entries)
