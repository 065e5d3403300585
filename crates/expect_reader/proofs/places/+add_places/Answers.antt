use Rattle.std.proofs.Common.{◌≡◌, ◌∙◌, ◌+◌, ◌<◌, ◌++◌, List, ℕ, [], ◌∷◌, ap, append_assoc, arith, drop, length, sym}
use Rattle.std.proofs.lemmas.List.{drop_more}
use Rattle.std.specs.List.{flat_map}
use Rattle.spec_tree.specs.declared.term.Term.{Term, out-Term}
use Rattle.spec_expect.specs.declared.place.Place.{Place}
use Rattle.spec_expect.specs.Leaves.{places_below}
use Rattle.expect_reader.proofs.Placing.{inside_of, own_place, places_out}
use Rattle.expect_reader.proofs.places.+add_places.Goals as goal

pub loop-child-preserved : goal.loop-child-preserved
loop-child-preserved t c =
    let above = c.args.above.now in
    let terms = c.list-child-items.result.now in
    let i = c.loop-child.child-index in
    let child = c.child-item.result in
    let below : Term → List Place = λ t. places_below t above in
    let within : i < length terms = omega arith in
    let before = c.loop-child.places.items in
    let rest = flat_map below (drop (i + 1) terms) in
    let deeper : List ℕ → List Place = λ text. flat_map (λ (t : Term). places_below t text) (out-Term child).children in
    let next : drop i terms ≡ child ∷ drop (i + 1) terms = drop_more terms i child within ∙ ap (λ (x : Term). x ∷ drop (i + 1) terms) (sym c.child-item.is) in
    ap (λ (ps : List Place). ps ++ rest) c.in_ok-add_places.ensures
    ∙ ap (λ (ps : List Place). (ps ++ deeper c.in_ok-inside.field-0) ++ rest) (c.in_ok-push.ensures.items ∙ ap (λ (p : Place). before ++ p ∷ []) c.in_ok-place_of.ensures)
    ∙ ap (λ (text : List ℕ). ((before ++ own_place child above ∷ []) ++ deeper text) ++ rest) c.in_ok-inside.ensures
    ∙ ap (λ (ps : List Place). ps ++ rest) (append_assoc before (own_place child above ∷ []) (deeper (inside_of child above)))
    ∙ append_assoc before (own_place child above ∷ deeper (inside_of child above)) rest
    ∙ ap (λ (ps : List Place). before ++ (ps ++ rest)) (sym (places_out child above))
    ∙ ap (λ (ts : List Term). before ++ flat_map below ts) (sym next)
    ∙ c.loop-child.invariant
