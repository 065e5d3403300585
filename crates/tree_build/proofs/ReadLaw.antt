-- What is read of a file step by step is what the definition says.
use Rattle.std.proofs.Common.{◌≡◌, ℕ, Bool, true, false, List, [], ◌∷◌, ◌++◌, map, codes, Option, Some, None, Result, Ok, Err, cond, refl, ap, sym, ◌∙◌, append_assoc, append-nil}
use Rattle.std.specs.Prelude.{bytes_eq, not, is_some, filter, find, ok_or, option_map, option_to_list, if◌then◌else◌}
use Rattle.spec_tree_file.specs.declared.element.Element.{Element}
use Rattle.spec_tree.specs.declared.term.Tree.{Tree}
use Rattle.spec_tree_file.specs.Attributes.{value_of}
use Rattle.spec_tree_file.specs.Models.{Models, attributes_of, children_of, name_of, place_of}
use Rattle.spec_tree_file.specs.ReadSteps.{go_on}
use Rattle.spec_tree_file.specs.declared.build_fault.BuildFault.{BuildFault}
use Rattle.spec_tree_file.specs.declared.build_fault.BuildFault.TheVariants.{NotRoot, Format, DoubleTree, NoMain, NoTree, ChildCount}
use Rattle.spec_tree_file.specs.declared.version.Version.{Version}
use Rattle.spec_tree_file.specs.FirstFaults.{unless}
use Rattle.spec_tree_file.specs.Heads.{id_or_empty}
use Rattle.spec_tree_file.specs.Reads.{File, Trees, is_tree, main_of, may_stand, only, reads, repeated, stray, tree_of, trees_among}
use Rattle.tree_build.specs.ReadSteps.{file_steps, main_read, named_read, not_root, read_in, root_faults, root_read, roots_read, stray_place, trees_read, with_id, with_trees}
use Rattle.spec_tree_file.specs.Versions.{version_in}

-- ---- What may not stand there

place_same : (es : List Element) → stray_place es ≡ option_map place_of (find (λ e. not (may_stand (name_of e))) es)
place_same [] = refl
place_same (e ∷ es) = by (place_same es) (may_stand (name_of e))
  where
    by : stray_place es ≡ option_map place_of (find (λ x. not (may_stand (name_of x))) es) → (b : Bool) → (if b then stray_place es else Some (place_of e)) ≡ option_map place_of (cond (not b) (Some e) (find (λ e. not (may_stand (name_of e))) es))
    by same true = same
    by same false = refl

stray_same : (root : Element) → not_root root ≡ stray root
stray_same root = ap (λ (o : Option ℕ). if bytes_eq (name_of root) (codes "root") then o else Some (place_of root)) (place_same (children_of root))

-- ---- The trees

abbrev doubled : Trees → Trees → List BuildFault
doubled earlier trees = option_to_list (option_map DoubleTree (repeated earlier trees))

trees_same : (earlier : Trees) (es : List Element) → with_trees earlier es ≡ unless (doubled earlier (trees_among es)) (earlier ++ trees_among es)
trees_same earlier [] = ap (λ (trees : Trees). Ok trees) (sym (append-nil earlier))
trees_same earlier (e ∷ es) = by_tree (λ more. trees_same more es) (is_tree (name_of e))
  where
    tree : List ℕ × Element
    tree = (id_or_empty (attributes_of e), e)

    next : Trees → Result Trees BuildFault
    next more = with_trees more es

    by_id : ((more : Trees) → next more ≡ unless (doubled more (trees_among es)) (more ++ trees_among es)) → (b : Bool) → go_on next (if b then Err (DoubleTree tree.0) else Ok (earlier ++ tree ∷ []))
        ≡ unless (option_to_list (option_map DoubleTree (if b then Some tree.0 else repeated (earlier ++ tree ∷ []) (trees_among es)))) (earlier ++ tree ∷ trees_among es)
    by_id same true = refl
    by_id same false = same (earlier ++ tree ∷ []) ∙ ap (unless (doubled (earlier ++ tree ∷ []) (trees_among es))) (append_assoc earlier (tree ∷ []) (trees_among es))

    among : Bool → Trees
    among b = map (λ (x : Element). (id_or_empty (attributes_of x), x)) (cond b (e ∷ filter (λ x. is_tree (name_of x)) es) (filter (λ x. is_tree (name_of x)) es))

    by_tree : ((more : Trees) → next more ≡ unless (doubled more (trees_among es)) (more ++ trees_among es)) → (b : Bool) → go_on next (if b then with_id earlier e (id_or_empty (attributes_of e)) else Ok earlier) ≡ unless (doubled earlier (among b)) (earlier ++ among b)
    by_tree same true = by_id same (is_some (tree_of tree.0 earlier))
    by_tree same false = same earlier

-- ---- All together

abbrev Read : Type 0
Read = Result Tree BuildFault

abbrev of_tree : File → List ℕ → Element → Read
of_tree file id tree = go_on (root_read file id) (ok_or (only (children_of tree)) (ChildCount 0))

abbrev of_id : File → List ℕ → Read
of_id file id = go_on (of_tree file id) (ok_or (tree_of id file.trees) (NoTree id))

abbrev of_file : File → Option (List ℕ) → Read
of_file file main = go_on (of_id file) (ok_or main NoMain)

by_roots : (file : File) (id : List ℕ) (roots : List Element) → roots_read file id roots ≡ go_on (root_read file id) (ok_or (only roots) (ChildCount 0))
by_roots file id [] = refl
by_roots file id (root ∷ []) = refl
by_roots file id (root ∷ other ∷ more) = refl

by_tree : (file : File) (id : List ℕ) (o : Option Element) → main_read file id o ≡ go_on (of_tree file id) (ok_or o (NoTree id))
by_tree file id None = refl
by_tree file id (Some tree) = by_roots file id (children_of tree)

by_main : (file : File) (o : Option (List ℕ)) → named_read file o ≡ of_file file o
by_main file None = refl
by_main file (Some id) = by_tree file id (tree_of id file.trees)

-- what is read of a file
pub file_same : (models : Models) (asked : Option (List ℕ)) (root : Element) → file_steps models asked root ≡ reads models asked root
file_same models asked root =
    ap (λ (o : Option ℕ). root_faults o (read_in (version_in format) (λ version. go_on (steps version) (with_trees [] (children_of root))))) (stray_same root) ∙ by_root (stray root)
  where
    format : Option (List ℕ)
    format = value_of (codes "BTCPP_format") (attributes_of root)

    trees : Trees
    trees = trees_among (children_of root)

    steps : Version → Trees → Read
    steps version all = trees_read models asked (attributes_of root) version all

    after : Version → Trees → Read
    after version all = of_file (record { trees = all; models = models; version = version }) (main_of asked (attributes_of root) all)

    by_trees : (version : Version) (fs : List BuildFault) → go_on (steps version) (unless fs trees) ≡ go_on (after version) (unless fs trees)
    by_trees version [] = by_main (record { trees = trees; models = models; version = version }) (main_of asked (attributes_of root) trees)
    by_trees version (f ∷ fs) = refl

    by_version : (o : Option Version) → read_in o (λ version. go_on (steps version) (with_trees [] (children_of root)))
        ≡ go_on (λ version. go_on (after version) (unless (doubled [] trees) trees)) (ok_or o Format)
    by_version None = refl
    by_version (Some version) = ap (go_on (steps version)) (trees_same [] (children_of root)) ∙ by_trees version (doubled [] trees)

    by_root : (o : Option ℕ) → root_faults o (read_in (version_in format) (λ version. go_on (steps version) (with_trees [] (children_of root))))
        ≡ go_on (λ (r : Element). go_on (λ version. go_on (after version) (unless (doubled [] trees) trees)) (ok_or (version_in format) Format)) (unless (option_to_list (option_map NotRoot o)) root)
    by_root None = by_version (version_in format)
    by_root (Some place) = refl
