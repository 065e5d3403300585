-- How the SubTree nodes of a tree open trees.
use Rattle.std.specs.Prelude.{◌≡◌, ℕ, Bool, not, ◌&&◌, List, [], ◌∷◌, ◌++◌, Some, IsTrue}
use Rattle.std.specs.List.{list_all, AllByRecursion}
use Rattle.std.specs.Map.{lookup}
use Rattle.std.specs.Str.{bytes_eq}
use Rattle.spec_tree.specs.Names.{is_among}
use Rattle.spec_tree.specs.declared.term.Kind.{Kind}
use Rattle.spec_tree.specs.declared.term.Kind.TheVariants.{SubTree}
use Rattle.spec_tree.specs.declared.term.Term.{Term, Term-F, fold-Term}
use Rattle.spec_tree.specs.declared.term.Tree.{Tree}
use Rattle.tree_round_trip.specs.TreeElements.{said}

abbrev pub fresh_by : Kind → List ℕ → List (List (List ℕ) → Bool) → List (List ℕ) → Bool
fresh_by SubTree id children opened = not (is_among id opened) && list_all (λ (child : List (List ℕ) → Bool). child (opened ++ id ∷ [])) children
fresh_by kind id children opened = list_all (λ (child : List (List ℕ) → Bool). child opened) children

abbrev pub fresh_step : Term-F (List (List ℕ) → Bool) → List (List ℕ) → Bool
fresh_step f opened = fresh_by f.kind f.id f.children opened

-- whether no SubTree node of a term opens a tree of these IDs, or one inside which it is opened
abbrev pub opens_fresh : Term → List (List ℕ) → Bool
opens_fresh = fold-Term (List (List ℕ) → Bool) fresh_step

-- No tree is opened in itself, and the SubTree nodes of one ID have the same tree below them.
pub record OpensAlike (tree : Tree) : Type 0 where
  pub fresh : IsTrue (opens_fresh tree.term (tree.main ∷ []))
  pub alike : AllByRecursion (λ t. lookup (bytes_eq t.0) (said tree.term).opened ≡ Some t.1) (said tree.term).opened
