use Rattle.std.proofs.Common.{ℕ, List, [], ◌∷◌, ap, ◌∙◌, Bor}
use Rattle.std.specs.Prelude.{bytes_eq}
use Rattle.std.proofs.lemmas.List.{map-append}
use Rattle.indexmap.proofs.CallerLemmas.{insert_entry-new}
use Rattle.spec_tree_file.specs.declared.element.Element.{Element}
use Rattle.tree_build.specs.Seen.{trees_seen}
use Rattle.tree_build.proofs.Tables.{not_there}
use Rattle.tree_build.proofs.trees.with_new.Goals as goal

pub returns : goal.returns
returns c =
    let trees = c.args.trees in
    let new = insert_entry-new bytes_eq trees c.args.id c.args.tree (not_there c.args.id trees.entries c.requires) in
    ap trees_seen (c.in_ok-insert.ensures.entries ∙ new) ∙ map-append (λ (t : List ℕ × Bor Element). (t.0, t.1.now)) trees.entries ((c.args.id, c.args.tree) ∷ [])
