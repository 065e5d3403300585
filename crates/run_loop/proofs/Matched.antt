-- What is said of the leaves of an arena, one after the other, is what is said of the nodes of the tree that stands there.
use Rattle.std.proofs.Common.{◌≡◌, ℕ, zero, suc, ◌+◌, List, [], ◌∷◌, ◌++◌, Option, map, length, sum, refl, sym, ap, subst, ◌∙◌, arith}
use Rattle.std.specs.List.{flat_map}
use Rattle.std.proofs.lemmas.List.{length-map, map-append}
use Rattle.std.proofs.lemmas.List.Sums.{sum_by-cons}
use Rattle.spec_tree.specs.declared.term.Term.{Term, Term-F, fold-roll-Term, ind-Term, roll-Term}
use Rattle.spec_world.specs.declared.world.Row.{Row}
use Rattle.spec_run.specs.Sites.{View}
use Rattle.spec_tree.specs.Terms.{node_count}
use Rattle.spec_tree.specs.Trees.{Node as TreeNode, nodes_of, nodes_step}
use Rattle.run_arena.specs.declared.nodes.Node.{Node}
use Rattle.run_arena.specs.declared.nodes.ReadyLeaf.{ReadyLeaf}
use Rattle.run_arena.specs.Nodes.{LeafStands, leaf_at}
use Rattle.run_arena.specs.Stands.{Standing, StandAll, Stands, view_under, written}
use Rattle.run_arena.proofs.Opened.{stands_roll}
use Rattle.run_arena.proofs.Static.{size_is}

module _ {A : Type 0} (said : Option ReadyLeaf → A) where
  -- what is said of this many nodes, from a uid on
  abbrev pub said_from : List Node → ℕ → ℕ → List A
  said_from nodes uid zero = []
  said_from nodes uid (suc count) = said (leaf_at nodes uid) ∷ said_from nodes (uid + 1) count

  module _ (nodes : List Node) where
    -- some nodes, and those after them
    from_both : (m n uid : ℕ) → said_from nodes uid (m + n) ≡ said_from nodes uid m ++ said_from nodes (uid + m) n
    from_both zero n uid =
        let none : 0 + n ≡ n = omega arith in
        let here : uid ≡ uid + 0 = omega arith in
        ap (said_from nodes uid) none ∙ ap (λ u. said_from nodes u n) here
    from_both (suc m) n uid =
        let one : suc m + n ≡ suc (m + n) = omega arith in
        let there : uid + 1 + m ≡ uid + suc m = omega arith in
        ap (said_from nodes uid) one
        ∙ ap (λ (xs : List A). said (leaf_at nodes uid) ∷ xs) (from_both m n (uid + 1) ∙ ap (λ u. said_from nodes (uid + 1) m ++ said_from nodes u n) there)

    from_next : (x : Node) (count uid : ℕ) → said_from (x ∷ nodes) (suc uid) count ≡ said_from nodes uid count
    from_next x zero uid = refl
    from_next x (suc count) uid =
        let next : suc uid + 1 ≡ suc (uid + 1) = omega arith in
        ap (λ (xs : List A). said (leaf_at nodes uid) ∷ xs) (ap (λ u. said_from (x ∷ nodes) u count) next ∙ from_next x count (uid + 1))

  -- all nodes
  pub all_said : (nodes : List Node) → map (λ (node : Node). said node.leaf) nodes ≡ said_from nodes 0 (length nodes)
  all_said [] = refl
  all_said (x ∷ nodes) = ap (λ (xs : List A). said x.leaf ∷ xs) (all_said nodes ∙ sym (from_next nodes x (length nodes) 0))

  -- the same is said of each node of a tree, in a world with these rows
  module _ (of_node : TreeNode → A) (rows : List Row) (nodes : List Node)
      (own : (view : View) (node : TreeNode) (uid : ℕ) → view.rows ≡ rows → LeafStands view node (leaf_at nodes uid) → said (leaf_at nodes uid) ≡ of_node node) where
    abbrev IsMatched : Term → Type 0
    IsMatched t = (view : View) (uid : ℕ) → view.rows ≡ rows → Stands t nodes view uid → said_from nodes uid (node_count t) ≡ map of_node (nodes_of t)

    abbrev AllMatched : List Term → Type 0
    AllMatched ts = (view : View) (uid : ℕ) → view.rows ≡ rows → StandAll ts nodes view uid →
        said_from nodes uid (sum (map node_count ts)) ≡ map of_node (flat_map (λ ns. ns) (map nodes_of ts))

    all_matched : (ts : List ((t : Term) × IsMatched t)) → AllMatched (map (λ e. e.0) ts)
    all_matched [] view uid same stand = refl
    all_matched (e ∷ ts) view uid same stand =
        let others : List Term = map (λ x. x.0) ts in
        let whole : sum (map node_count (e.0 ∷ others)) ≡ node_count e.0 + sum (map node_count others) = sum_by-cons (λ (k : ℕ). k) (node_count e.0) (map node_count others) in
        let rest : StandAll others nodes view (uid + node_count e.0) = subst (λ n. StandAll others nodes view (uid + n)) (size_is e.0) stand.1 in
        ap (said_from nodes uid) whole
        ∙ from_both nodes (node_count e.0) (sum (map node_count others)) uid
        ∙ (λ i. e.1 view uid same stand.0 i ++ all_matched ts view (uid + node_count e.0) same rest i)
        ∙ sym (map-append of_node (nodes_of e.0) (flat_map (λ ns. ns) (map nodes_of others)))

    pub matched : (t : Term) (view : View) (uid : ℕ) → view.rows ≡ rows → Stands t nodes view uid → said_from nodes uid (node_count t) ≡ map of_node (nodes_of t)
    matched = ind-Term IsMatched (λ x y is view uid same stands.
        let here = subst (λ (p : Standing). p nodes view uid) (stands_roll x) stands in
        let count : node_count (roll-Term x) ≡ suc (sum (map node_count x.children)) = fold-roll-Term ℕ (λ node. 1 + sum node.children) x ∙ omega arith in
        let rest : List A = map of_node (flat_map (λ ns. ns) (map nodes_of x.children)) in
        let all : map of_node (nodes_of (roll-Term x)) ≡ of_node (record (written x) { children = length (map nodes_of x.children) }) ∷ rest = ap (map of_node) (fold-roll-Term (List TreeNode) nodes_step x) in
        let as_many : of_node (record (written x) { children = length (map nodes_of x.children) }) ≡ of_node (written x) = ap (λ n. of_node (record (written x) { children = n })) (length-map x.children nodes_of) in
        let first : said (leaf_at nodes uid) ≡ of_node (written x) = own view (written x) uid same here.1.leaf in
        let children : said_from nodes (uid + 1) (sum (map node_count x.children)) ≡ rest =
        subst (λ (z : Term-F Term). AllMatched z.children) is (all_matched y.children) (view_under view uid (written x)) (uid + 1) same here.2 in
        ap (said_from nodes uid) count ∙ (λ i. (first ∙ sym as_many) i ∷ children i) ∙ sym all)
