-- The term of the root of a plan tree is the behavior tree's.
use Rattle.std.proofs.Common.{◌≡◌, ◌≤◌, ℕ, List, [], ◌∷◌, Some, None, ap, sym, ◌∙◌, subst, arith}
use Rattle.std.specs.Prelude.{codes}
use Rattle.slab.specs.Slab.{get, slab_len}
use Rattle.spec_tree.specs.declared.term.Term.{Term, roll-Term}
use Rattle.spec_world.specs.declared.world.Row.{Row}
use Rattle.spec_world.specs.declared.world.World.{World}
use Rattle.plan_tree.specs.declared.node.Node.{Node}
use Rattle.spec_plan.specs.declared.part.Part.{Part}
use Rattle.spec_plan.specs.declared.part.Part.TheVariants.{Goals}
use Rattle.plan_tree.specs.declared.tree.PlanTree.{PlanTree}
use Rattle.spec_plan.specs.Forests.{Forest, Empty, Tree}
use Rattle.plan_tree.specs.Sizes.{height}
use Rattle.plan_tree.specs.Planned.{IsPlanned}
use Rattle.spec_plan.specs.Planned.{kind_of, part_id, plain_node, terms_of}
use Rattle.plan_tree.specs.Stands.{Stands, StandsFor}
use Rattle.plan_tree.proofs.Counted.{height-le_size}

pub root_planned : (t : PlanTree) (world : World) (rows : List Row) (node : Node) (levels : ℕ) (main : List ℕ) (term : Term) → rows ≡ world.rows → Some node ≡ get t.nodes t.root →
    levels ≡ slab_len t.nodes → main ≡ codes "Plan" →
    ((key : ℕ) (below : Forest) → Stands t.nodes (Some key) node.children.items below → height below ≤ levels → term ≡ roll-Term (plain_node (kind_of node.part) (part_id rows node.part) (terms_of rows below))) →
    (tree : Forest) → StandsFor t world tree → IsPlanned world.rows tree (record { main = main; term = term })
root_planned t world rows node levels main term rows_are there len named is_term tree st =
    let root : Stands t.nodes None (t.root ∷ []) (Tree t.root Goals st.shape.below Empty) = subst (λ (f : Forest). Stands t.nodes None (t.root ∷ []) f) st.shape.is st.nodes in
    let same : root.3.node ≡ node = cc (root.3.there, there) in
    let children : root.0 ≡ node.children.items = sym root.3.children_are ∙ ap (λ (n : Node). n.children.items) same in
    let part : node.part ≡ Goals = sym (ap (λ (n : Node). n.part) same) ∙ root.3.part_is in
    let high = height-le_size tree in
    let whole = st.whole in
    let low : height tree ≡ height (Tree t.root Goals st.shape.below Empty) = ap height st.shape.is in
    let own = is_term t.root st.shape.below (subst (λ (l : List ℕ). Stands t.nodes (Some t.root) l st.shape.below) children root.4) (omega (arith, high, whole, len, low)) in
    let by_part : term ≡ roll-Term (plain_node (kind_of Goals) (part_id world.rows Goals) (terms_of world.rows st.shape.below)) =
    own ∙ ap (λ (rs : List Row). roll-Term (plain_node (kind_of node.part) (part_id rs node.part) (terms_of rs st.shape.below))) rows_are
    ∙ ap (λ (x : Part). roll-Term (plain_node (kind_of x) (part_id world.rows x) (terms_of world.rows st.shape.below))) part in
    record {
      main = named;
      term = ap (terms_of world.rows) st.shape.is ∙ ap (λ (x : Term). x ∷ []) (sym by_part);
    }
