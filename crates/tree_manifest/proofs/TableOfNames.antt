-- A table that takes in the names of attributes, one after the other.
use Rattle.std.proofs.Common.{◌≡◌, ℕ, ◌+◌, ◌<◌, Bool, true, false, cond, ◌||◌, List, [], ◌∷◌, Option, Some, length, get_or, take, refl, ap, sym, ◌∙◌}
use Rattle.std.proofs.lemmas.List.Folds.{list_any_more}
use Rattle.std.proofs.lemmas.Bool.Decides.{same_from_decides}
use Rattle.std.proofs.lemmas.Slice.Eq.{bytes_eq-Decides}
use Rattle.std.specs.Prelude.{is_some}
use Rattle.std.specs.List.{list_any}
use Rattle.std.specs.Str.{bytes_eq}
use Rattle.spec_tree_file.specs.Attributes.{Attributes, value_of}

same_either_way : (a b : List ℕ) → bytes_eq a b ≡ bytes_eq b a
same_either_way a b =
    same_from_decides (bytes_eq a b) (bytes_eq b a) (bytes_eq-Decides a b) (λ h. sym ((bytes_eq-Decides b a).0 h), λ e. (bytes_eq-Decides b a).1 (sym e))

-- whether an attribute has the name
abbrev pub has_name : List ℕ → Attributes → Bool
has_name q list = list_any (λ a. bytes_eq q a.0) list

first_or : (t : Bool) (v : List ℕ) (o : Option (List ℕ)) → is_some (cond t (Some v) o) ≡ (t || is_some o)
first_or true v o = refl
first_or false v o = refl

pub found : (q : List ℕ) (list : Attributes) → is_some (value_of q list) ≡ has_name q list
found q [] = refl
found q (a ∷ more) = first_or (bytes_eq q a.0) a.1 (value_of q more) ∙ ap (λ (b : Bool). bytes_eq q a.0 || b) (found q more)

either_cond : (x y : Bool) → cond x true y ≡ (y || x)
either_cond true true = refl
either_cond true false = refl
either_cond false true = refl
either_cond false false = refl

-- one more name
pub name_more : (list : Attributes) (i : ℕ) (a : List ℕ × List ℕ) (q : List ℕ) (old new : Bool) → i < length list → a ≡ get_or list i a →
    old ≡ is_some (value_of q (take i list)) → new ≡ cond (bytes_eq a.0 q) true old → new ≡ is_some (value_of q (take (i + 1) list))
name_more list i a q old new h is was now =
    now ∙ either_cond (bytes_eq a.0 q) old ∙ ap (λ (z : Bool). z || bytes_eq a.0 q) (was ∙ found q (take i list))
    ∙ ap (λ (z : Bool). has_name q (take i list) || z) (same_either_way a.0 q)
    ∙ ap (λ (z : List ℕ × List ℕ). has_name q (take i list) || bytes_eq q z.0) is
    ∙ sym (list_any_more (λ b. bytes_eq q b.0) list i a h)
    ∙ sym (found q (take (i + 1) list))
