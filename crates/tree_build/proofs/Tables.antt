-- The table of trees, as it is seen.
use Rattle.std.proofs.Common.{◌≡◌, ℕ, Bool, true, false, cond, List, [], ◌∷◌, Option, Some, None, length, slice_get, refl, ap, ◌∙◌, arith, Bor}
use Rattle.std.specs.Prelude.{bytes_eq, option_map}
use Rattle.std.specs.Map.{lookup}
use Rattle.std.specs.Option.{option_copied}
use Rattle.spec_tree_file.specs.declared.element.Element.{Element}
use Rattle.spec_tree_file.specs.Reads.{only_id, tree_of}
use Rattle.tree_build.specs.Seen.{trees_seen}

either : (t : Bool) (e : Bor Element) (o : Option (Bor Element)) → option_copied (cond t (Some e) o) ≡ cond t (Some e.now) (option_copied o)
either true e o = refl
either false e o = refl

-- a look-up in the table is one in what it stands for
pub tree_of-seen : (id : List ℕ) (entries : List (List ℕ × Bor Element)) → option_copied (lookup (bytes_eq id) entries) ≡ tree_of id (trees_seen entries)
tree_of-seen id [] = refl
tree_of-seen id (e ∷ es) =
    either (bytes_eq id e.0) e.1 (lookup (bytes_eq id) es) ∙ ap (λ (o : Option Element). cond (bytes_eq id e.0) (Some e.1.now) o) (tree_of-seen id es)

none_copied : {X : Type 0} (o : Option (Bor X)) → option_copied o ≡ None → o ≡ None
none_copied None h = refl
none_copied (Some x) h = cc

-- no tree of this ID is there
pub not_there : (id : List ℕ) (entries : List (List ℕ × Bor Element)) → tree_of id (trees_seen entries) ≡ None → lookup (bytes_eq id) entries ≡ None
not_there id entries h = none_copied (lookup (bytes_eq id) entries) (tree_of-seen id entries ∙ h)

-- the ID of the only entry
pub only_id-seen : (entries : List (List ℕ × Bor Element)) (x : List ℕ × Bor Element) → length entries ≡ 1 → Some x ≡ slice_get entries 0 → Some x.0 ≡ only_id (trees_seen entries)
only_id-seen [] x one h = absurd (omega arith)
only_id-seen (e ∷ []) x one h = ap (option_map (λ (t : List ℕ × Bor Element). t.0)) h
only_id-seen (e ∷ f ∷ es) x one h = absurd (omega arith)
