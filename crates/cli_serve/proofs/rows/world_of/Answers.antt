use Rattle.std.proofs.Common.{◌≡◌, [], Ok, Err, ap, sym, ◌∙◌}
use Rattle.std.proofs.lemmas.Result.{err_from_is_err_and}
use Rattle.spec_serve.specs.Rows.{told_rows, tree_starts}
use Rattle.spec_tree.specs.Trees.{nodes_of}
use Rattle.cli_serve.specs.Leaves.{after_starts, with_nodes}
use Rattle.cli_serve.specs.Places.{has_model}
use Rattle.cli_serve.proofs.Kept.{gives_kept}
use Rattle.cli_serve.proofs.Places.{place_tells}
use Rattle.cli_serve.proofs.Rowed.{world_made, world_refused}
use Rattle.cli_serve.proofs.rows.world_of.Goals as goal

pub returns-in_err-rows : goal.returns-in_err-rows
returns-in_err-rows c =
    let p = err_from_is_err_and c.from_residual-in_err-rows.result c.from_residual-in_err-rows.ensures.1 in
    let root = c.args.elements.now.root in
    let term = c.args.tree.now.term in
    let has = has_model c.in_ok-places.places.entries in
    let leaves : c.mark_trees.new.leaves.entries ≡ after_starts (tree_starts root) (with_nodes has (nodes_of term) []) =
    c.mark_trees.ensures ∙ ap (after_starts (tree_starts root)) (c.in_ok-add_leaves.ensures ∙ ap (with_nodes has (nodes_of term)) c.new-leaves.ensures.empty) in
    rw (p.1, p.2) (world_refused c.in_err-rows.field-0.0 (told_rows root term)
    (gives_kept root term has c.models-models.result.now c.mark_trees.new.leaves.entries (Err c.in_err-rows.field-0.0) c.models-models.ensures
    (place_tells c.in_ok-places.places.entries c.models-models.result.now c.in_ok-places.ensures) leaves c.in_err-rows.ensures))

pub returns : goal.returns
returns c =
    let root = c.args.elements.now.root in
    let term = c.args.tree.now.term in
    let has = has_model c.in_ok-places.places.entries in
    let leaves : c.mark_trees.new.leaves.entries ≡ after_starts (tree_starts root) (with_nodes has (nodes_of term) []) =
    c.mark_trees.ensures ∙ ap (after_starts (tree_starts root)) (c.in_ok-add_leaves.ensures ∙ ap (with_nodes has (nodes_of term)) c.new-leaves.ensures.empty) in
    let gives = gives_kept root term has c.models-models.result.now c.mark_trees.new.leaves.entries (Ok c.in_ok-rows.rows) c.models-models.ensures
    (place_tells c.in_ok-places.places.entries c.models-models.result.now c.in_ok-places.ensures) leaves c.in_ok-rows.ensures in
    let facts = sym (c.of.ensures ∙ c.new.ensures.items) in
    let made = sym (c.of-2.ensures ∙ gives.0) in
    let goals = sym (c.of-3.ensures ∙ c.new-2.ensures.items) in
    let events = sym (c.of-4.ensures ∙ c.new-3.ensures.items) in
    world_made (told_rows root term) gives.1 gives.2
    ∙ (λ i. Ok (record { facts = facts i; rows = made i; goals = goals i; runners = 1; events = events i }))
