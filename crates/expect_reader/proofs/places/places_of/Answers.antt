use Rattle.std.proofs.Common.{◌∙◌, ◌++◌, List, ℕ, [], ◌∷◌, ap, sym}
use Rattle.std.specs.List.{flat_map}
use Rattle.spec_tree.specs.declared.term.Term.{Term, out-Term}
use Rattle.spec_expect.specs.declared.place.Place.{Place}
use Rattle.spec_expect.specs.Leaves.{places_below}
use Rattle.expect_reader.proofs.Placing.{inside_of, own_place, places_out}
use Rattle.expect_reader.proofs.places.places_of.Goals as goal

pub returns : goal.returns
returns c =
    let root = c.args.tree.now.term in
    let deeper : List ℕ → List Place = λ text. flat_map (λ (t : Term). places_below t text) (out-Term root).children in
    let inner : List ℕ → List ℕ = λ text. inside_of root text in
    c.in_ok-add_places.ensures
    ∙ ap (λ (ps : List Place). ps ++ deeper c.in_ok-below.below) (c.in_ok-push.ensures.items ∙ ap (λ (ps : List Place). ps ++ c.in_ok-place_of.field-0 ∷ []) c.new-places.ensures.items)
    ∙ ap (λ (p : Place). p ∷ deeper c.in_ok-below.below) (c.in_ok-place_of.ensures ∙ ap (own_place root) c.empty-above.ensures)
    ∙ ap (λ (text : List ℕ). own_place root [] ∷ deeper text) (c.in_ok-below.ensures ∙ ap inner c.empty-above.ensures)
    ∙ sym (places_out root [])
