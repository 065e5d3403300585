-- Names that are compared each with those after it.
use Rattle.std.proofs.Common.{◌≡◌, ℕ, Bool, true, false, not, ◌&&◌, List, ◌∷◌, ap, sym, ◌∙◌}
use Rattle.std.specs.List.{list_any}
use Rattle.std.specs.Str.{bytes_eq}
use Rattle.spec_tree_file.specs.Marks.{no_name_twice}

-- the first name occurs again
pub first_again : (a : List ℕ × List ℕ) (more rest list : List (List ℕ × List ℕ)) → rest ≡ a ∷ more → list_any (λ b. bytes_eq b.0 a.0) more ≡ true → no_name_twice rest ≡ no_name_twice list → false ≡ no_name_twice list
first_again a more rest list is found same =
    sym (sym same ∙ ap no_name_twice is ∙ ap (λ (b : Bool). not b && no_name_twice more) found)

-- the first name occurs once
pub first_once : (a : List ℕ × List ℕ) (more rest list : List (List ℕ × List ℕ)) → rest ≡ a ∷ more → list_any (λ b. bytes_eq b.0 a.0) more ≡ false → no_name_twice rest ≡ no_name_twice list → no_name_twice more ≡ no_name_twice list
first_once a more rest list is found same =
    sym (ap (λ (b : Bool). not b && no_name_twice more) found) ∙ sym (ap no_name_twice is) ∙ same

pub ruleset few_names = (first_again, first_once)
