-- A node that is added bare, and then filled where it stands.
use Rattle.std.proofs.Common.{◌≡◌, ℕ, false, List, [], ◌∷◌, ◌++◌, length, get_or, set, Option, None, refl, ap, subst, sym, ◌∙◌}
use Rattle.std.specs.List.{All}
use Rattle.std.proofs.Math.Seq.{get_or-append_seam, set-append_seam}
use Rattle.spec_tree.specs.declared.term.Kind.{Kind}
use Rattle.spec_tree.specs.declared.term.Kind.TheVariants.{Leaf}
use Rattle.spec_run.specs.Drivers.{DriverState}
use Rattle.spec_run.specs.Sites.{View}
use Rattle.spec_tree.specs.Trees.{Node as TreeNode}
use Rattle.run_arena.specs.declared.nodes.Node.{Node}
use Rattle.run_arena.specs.declared.nodes.ReadyLeaf.{ReadyLeaf}
use Rattle.run_arena.specs.declared.source.Source.{Source}
use Rattle.run_arena.specs.Laying.{IsBareNode, IsFilled, IsNext, IsScripted, LeafIs, driver_of}
use Rattle.run_arena.specs.Nodes.{IsFit}
use Rattle.spec_run.specs.Joins.{is_leaf}
use Rattle.run_arena.specs.Rows.{counted_at}
use Rattle.run_arena.specs.Sources.{IsSourceOf}
use Rattle.run_arena.proofs.Laid.{leaf_opened}

-- an item that was added last
module _ {X : Type 0} (old pushed : List X) (x : X) (place : ℕ) (is_pushed : pushed ≡ old ++ x ∷ []) (is_place : place ≡ length old) where
  pub last_there : (d : X) → get_or pushed place d ≡ x
  last_there d = (λ i. get_or (is_pushed i) (is_place i) d) ∙ get_or-append_seam old x [] d

  pub last_given : (y : X) → set pushed place y ≡ old ++ y ∷ []
  last_given y = (λ i. set (is_pushed i) (is_place i) y) ∙ set-append_seam old x [] y

pub node_filled : (drivers : List DriverState) (view : View) (written : TreeNode) (old scripted new : Node) (leaf : Option ReadyLeaf) (next left : List ℕ) → IsFit written → IsBareNode view written old →
    scripted ≡ record old { code = scripted.code; guards = scripted.guards } → IsScripted view written scripted →
    LeafIs view written leaf → IsNext drivers next leaf → left ≡ counted_at (driver_of leaf) next → new ≡ record scripted { leaf = leaf } →
    IsFilled drivers view written new next left
node_filled drivers view written old scripted new leaf next left fit bare same scripts stands is_next counted is_new =
    let ports : scripted.ports ≡ old.ports = ap (λ (n : Node). n.ports) same in
    subst (λ (n : Node). IsFilled drivers view written n next left) (sym is_new) (record {
      stands = record {
        kind = ap (λ (n : Node). n.kind) same ∙ bare.kind;
        size = ap (λ (n : Node). n.size) same ∙ bare.size;
        children = ap (λ (n : Node). n.children) same ∙ bare.children;
        code = scripts.code;
        guards = scripts.guards;
        ports = ports ∙ bare.ports;
        slots = subst (λ (ps : List Source). All (IsSourceOf (length view.slots)) ps) (sym ports) bare.slots;
        leaf = leaf_opened view written leaf stands;
        fit = fit;
      };
      is_next = is_next;
      counted = counted;
    })

-- where a node is no leaf, none stands there, and no instance is taken
none_stands : (view : View) (written : TreeNode) → is_leaf written.kind ≡ false → LeafIs view written None
unfolding LeafIs
none_stands view written is = is

none_next : (drivers : List DriverState) (next : List ℕ) → IsNext drivers next None
unfolding IsNext
none_next drivers next = tt

not_leaf : (kind : Kind) → (kind ≡ Leaf → ⊥) → is_leaf kind ≡ false
not_leaf Leaf other = absurd (other refl)
not_leaf _ other = refl

-- so such a node is filled with its code and its guards
pub no_leaf_filled : (drivers : List DriverState) (view : View) (written : TreeNode) (old scripted : Node) (next : List ℕ) → IsFit written → IsBareNode view written old →
    scripted ≡ record old { code = scripted.code; guards = scripted.guards } → IsScripted view written scripted →
    (written.kind ≡ Leaf → ⊥) → IsFilled drivers view written scripted next next
no_leaf_filled drivers view written old scripted next fit bare same scripts other =
    let bare_leaf : scripted.leaf ≡ None = ap (λ (n : Node). n.leaf) same ∙ bare.leaf in
    node_filled drivers view written old scripted scripted None next next fit bare same scripts
    (none_stands view written (not_leaf written.kind other)) (none_next drivers next) refl (λ i. record scripted { leaf = bare_leaf i })
