use Rattle.std.proofs.Common.{◌≡◌, Some, List, ℕ, [], ◌∷◌, ◌++◌, length, ap, ◌∙◌, sym, arith}
use Rattle.std.proofs.lemmas.Grind.{common_steps}
use Rattle.std.specs.Option.{option_map}
use Rattle.tree_elements.specs.Reading.{after_white, attribute_of, attributes_of}
use Rattle.tree_elements.proofs.Found.{attributes_next, prepended}
use Rattle.tree_elements.proofs.scan.attributes_at.Goals as goal

pub attributes-preserved : goal.attributes-preserved
attributes-preserved c =
    let rest = c.attributes.rest.now in
    let next = c.in_ok-attribute.next.now in
    let is : attribute_of (after_white rest) ≡ Some (c.in_ok-attribute.attribute, next) = grind (arith, common_steps) in
    let items : c.push.new.self.items ≡ c.attributes.attributes.items ++ c.in_ok-attribute.attribute ∷ [] = c.in_ok-push.ensures.items in
    let step = attributes_next c.attributes.attributes.items rest c.in_ok-attribute.attribute next (sym c.begins_attribute.ensures ∙ c.attributes-test.true) is in
    record {
      read = ap (λ (z : List (List ℕ × List ℕ)). option_map (prepended z) (attributes_of (length next) next)) items ∙ step ∙ c.attributes.invariant.read;
      within = omega (arith, c.in_ok-attribute.ensures.within, c.white_at.ensures.within, c.attributes.invariant.within);
      utf8 = c.in_ok-attribute.ensures.utf8;
    }
