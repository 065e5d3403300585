-- What was added to an arena, part by part.
use Rattle.std.proofs.Common.{◌≡◌, ℕ, zero, suc, ◌+◌, ◌-◌, ◌<◌, List, [], ◌∷◌, ◌++◌, false, Option, Some, None, map, length, get_or, set, sum, refl, sym, ap, subst, ◌∙◌, append-nil, append_assoc, length-append, arith}
use Rattle.std.specs.List.{flat_map}
use Rattle.std.specs.Prelude.{MatchOption}
use Rattle.std.proofs.lemmas.List.{length-set}
use Rattle.std.proofs.lemmas.List.Sums.{sum_by-cons}
use Rattle.spec_tree.specs.declared.term.Kind.{Kind}
use Rattle.spec_tree.specs.declared.term.Kind.TheVariants.{Leaf}
use Rattle.spec_tree.specs.declared.term.Term.{Term, fold_out-Term, out-Term}
use Rattle.spec_tree.specs.declared.term.Tree.{Tree}
use Rattle.spec_world.specs.declared.world.Row.{Row}
use Rattle.spec_world.specs.declared.world.World.{World}
use Rattle.spec_tree.specs.Boards.{children_scope_number}
use Rattle.spec_run.specs.Drivers.{DriverState, kind_of_row, place_of_kind}
use Rattle.base_tables.specs.DriverCalls.{kind_of_way}
use Rattle.spec_run.specs.Leaf.{Rule, place_of}
use Rattle.spec_run.specs.Leaves.{row_of}
use Rattle.spec_run.specs.Sites.{View, sizes}
use Rattle.spec_tree.specs.Terms.{leaf_ids, node_count, own_leaf_id}
use Rattle.spec_tree.specs.Trees.{Node as TreeNode}
use Rattle.spec_run.specs.Visit.{meaning}
use Rattle.run_driver.proofs.Placing.{same_kind_of_row}
use Rattle.run_driver.specs.Rules.{rule}
use Rattle.run_arena.specs.declared.nodes.Node.{Node}
use Rattle.run_arena.specs.declared.nodes.ReadyLeaf.{ReadyLeaf}
use Rattle.spec_run.specs.Joins.{place_by}
use Rattle.run_arena.specs.Laying.{AreLaid, AreNext, CanBeLaid, IsNext, counted_all, driver_of, next_after}
use Rattle.run_arena.specs.Nodes.{IsLeafOf, IsNode, LeafStands, node_at}
use Rattle.spec_run.specs.Joins.{is_leaf}
use Rattle.run_arena.specs.Resolving.{view_in}
use Rattle.run_arena.specs.Rows.{counted_at}
use Rattle.run_arena.specs.Stands.{StandAll, Stands, uids_of, view_under, written}
use Rattle.run_arena.proofs.Framed.{all_sizes}
use Rattle.run_arena.proofs.Laid.{leaves_out, scope_inside}
use Rattle.run_arena.proofs.Opened.{closed}
use Rattle.run_arena.proofs.Static.{AreSame, size_is, sizes_are, static, static_all}

-- ---- lists

at_front : (xs ys : List Node) (p : ℕ) → p < length xs → node_at (xs ++ ys) p ≡ node_at xs p
at_front [] ys p within = absurd (omega (arith, within))
at_front (x ∷ xs) ys zero within = refl
at_front (x ∷ xs) ys (suc p) within = at_front xs ys p (omega (arith, within))

at_seam : (xs : List Node) (y : Node) (ys : List Node) → node_at (xs ++ y ∷ ys) (length xs) ≡ y
at_seam [] y ys = refl
at_seam (x ∷ xs) y ys = at_seam xs y ys

set_seam : (xs : List Node) (y z : Node) (ys : List Node) → set (xs ++ y ∷ ys) (length xs) z ≡ xs ++ z ∷ ys
set_seam [] y z ys = refl
set_seam (x ∷ xs) y z ys = ap (λ ns. x ∷ ns) (set_seam xs y z ys)

after_seam : (xs : List Node) (y z : Node) (ys : List Node) (p : ℕ) → length xs < p → node_at (xs ++ y ∷ ys) p ≡ node_at (xs ++ z ∷ ys) p
after_seam [] y z ys zero following = absurd (omega (arith, following))
after_seam [] y z ys (suc p) following = refl
after_seam (x ∷ xs) y z ys zero following = absurd (omega (arith, following))
after_seam (x ∷ xs) y z ys (suc p) following = after_seam xs y z ys p (omega (arith, following))

same_in_front : (a b : List Node) (uid size : ℕ) → AreSame uid size a (a ++ b)
same_in_front a b uid size p low high within = (omega (arith, within, length-append a b), at_front a b p within)

-- ---- instances

next_both : (xs ys : List Node) (next : List ℕ) → next_after (xs ++ ys) next ≡ next_after ys (next_after xs next)
next_both [] ys next = refl
next_both (x ∷ xs) ys next = next_both xs ys (counted_at (driver_of x.leaf) next)

are_next_both : (drivers : List DriverState) (xs ys : List Node) (next : List ℕ) → AreNext drivers next xs → AreNext drivers (next_after xs next) ys → AreNext drivers next (xs ++ ys)
are_next_both drivers [] ys next first rest = rest
are_next_both drivers (x ∷ xs) ys next first rest = (first.0, are_next_both drivers xs ys (counted_at (driver_of x.leaf) next) first.1 rest)

module _ (tree : Tree) (world : World) (drivers : List DriverState) where
  counted_both : (xs ys : List (List ℕ)) (next : List ℕ) → counted_all world drivers (xs ++ ys) next ≡ counted_all world drivers ys (counted_all world drivers xs next)
  counted_both [] ys next = refl
  counted_both (x ∷ xs) ys next = counted_both xs ys (counted_at (place_by (row_of world.rows x) drivers) next)

  -- a node is counted where its ID is
  no_leaf : (kind : Kind) (id : List ℕ) → is_leaf kind ≡ false → own_leaf_id kind id ≡ []
  no_leaf Leaf id other = absurd (cc)
  no_leaf _ id other = refl

  row_place : (number : ℕ) (node : TreeNode) (leaf : ReadyLeaf) (found : Option Row) → MatchOption found ⊥ (IsLeafOf (view_in tree world number) node.ports leaf)
      → place_of_kind drivers (kind_of_way (rule leaf.row).way) ≡ Some leaf.driver → place_by found drivers ≡ Some leaf.driver
  row_place number node leaf None stands is = absurd stands
  row_place number node leaf (Some row) stands is =
      let kind : kind_of_way (rule leaf.row).way ≡ kind_of_row row = ap (λ (r : Rule). kind_of_way r.way) stands.rule ∙ same_kind_of_row (place_of row.ports world.facts) row.sort in
      ap (place_of_kind drivers) (sym kind) ∙ is

  own_counted : (number : ℕ) (node : TreeNode) (leaf : Option ReadyLeaf) (next : List ℕ) → LeafStands (view_in tree world number) node leaf → IsNext drivers next leaf
      → counted_all world drivers (own_leaf_id node.kind node.id) next ≡ counted_at (driver_of leaf) next
  unfolding IsNext
  own_counted number node None next stands is = ap (λ (ids : List (List ℕ)). counted_all world drivers ids next) (no_leaf node.kind node.id stands)
  own_counted number node (Some leaf) next stands is =
      ap (λ (kind : Kind). counted_all world drivers (own_leaf_id kind node.id) next) stands.0
      ∙ ap (λ (place : Option ℕ). counted_at place next) (row_place number node leaf (row_of world.rows node.id) stands.1 is.0)

  -- ---- the parts

  pub nothing_laid : (number : ℕ) (nodes : List Node) (next : List ℕ) → AreLaid tree world drivers [] number nodes nodes next next
  nothing_laid number nodes next = record { added = []; is = sym (append-nil nodes); size = refl; stand = tt; next_ones = tt; following = refl; counted = refl }

  -- one term, and then the others
  pub laid_more : (t : Term) (ts : List Term) (number : ℕ) (old mid new : List Node) (next further left : List ℕ) →
      AreLaid tree world drivers (t ∷ []) number old mid next further → AreLaid tree world drivers ts number mid new further left → AreLaid tree world drivers (t ∷ ts) number old new next left
  laid_more t ts number old mid new next further left first rest =
      let view = view_in tree world number in
      let count_here : node_count t + 0 ≡ sum (map node_count (t ∷ [])) = omega (arith, sum_by-cons (λ (k : ℕ). k) (node_count t) []) in
      let far : length old + (meaning t).size ≡ length mid = omega (arith, ap length first.is, length-append old first.added, first.size, count_here, size_is t) in
      record {
        added = first.added ++ rest.added;
        is = rest.is ∙ ap (λ (ns : List Node). ns ++ rest.added) first.is ∙ append_assoc old first.added rest.added;
        size = length-append first.added rest.added ∙ omega (arith, first.size, rest.size, count_here, sum_by-cons (λ (k : ℕ). k) (node_count t) (map node_count ts));
        stand = (
          subst (λ (ns : List Node). Stands t ns view (length old)) (sym rest.is) (static t mid (mid ++ rest.added) view (length old) (same_in_front mid rest.added (length old) (meaning t).size) first.stand.0),
          subst (λ n. StandAll ts new view n) (sym far) rest.stand,
        );
        next_ones = are_next_both drivers first.added rest.added next first.next_ones (subst (λ (n : List ℕ). AreNext drivers n rest.added) first.following rest.next_ones);
        following = rest.following ∙ ap (next_after rest.added) first.following ∙ sym (next_both first.added rest.added next);
        counted = rest.counted ∙ ap (counted_all world drivers (flat_map (λ ids. ids) (map leaf_ids ts))) (first.counted ∙ ap (λ (ids : List (List ℕ)). counted_all world drivers ids next) (append-nil (leaf_ids t)))
            ∙ sym (counted_both (leaf_ids t) (flat_map (λ ids. ids) (map leaf_ids ts)) next);
      }

  -- a node, and then its children
  module _ (t : Term) (number : ℕ) (old mid : List Node) (node : Node) (next further left : List ℕ) (can : CanBeLaid tree world drivers (t ∷ []) (length old) number)
      (is_node : IsNode (view_in tree world number) (written (out-Term t)) 0 node) (is_next : IsNext drivers next node.leaf) (counts : further ≡ counted_at (driver_of node.leaf) next)
      (below : AreLaid tree world drivers (out-Term t).children (children_scope_number (out-Term t).kind (length old) number) (old ++ node ∷ []) mid further left) where
    abbrev view : View
    view = view_in tree world number

    abbrev sized : Node
    sized = record node { size = length mid - length old; child_uids = uids_of (out-Term t).children (length old + 1) }

    abbrev whole : List Node
    whole = old ++ sized ∷ below.added

    mid_is : mid ≡ old ++ node ∷ below.added
    mid_is = below.is ∙ append_assoc old (node ∷ []) below.added

    pub node_there : node_at mid (length old) ≡ node
    node_there = ap (λ (ns : List Node). node_at ns (length old)) mid_is ∙ at_seam old node below.added

    closed_is : set mid (length old) sized ≡ whole
    closed_is = ap (λ (ns : List Node). set ns (length old) sized) mid_is ∙ set_seam old node sized below.added

    mid_size : length mid ≡ length old + (1 + length below.added)
    mid_size = omega (arith, ap length mid_is, length-append old (node ∷ below.added))

    size_here : 1 + sizes (map (λ c. meaning c) (out-Term t).children) ≡ length mid - length old
    size_here = omega (arith, mid_size, below.size, sizes_are (out-Term t).children)

    same_below : AreSame (length old + 1) (all_sizes (out-Term t).children) mid whole
    same_below p low high within = (
      omega (arith, within, mid_size, length-append old (sized ∷ below.added)),
      sym (after_seam old node sized below.added p (omega (arith, low))) ∙ ap (λ (ns : List Node). node_at ns p) (sym mid_is),
    )

    view_inside : view_in tree world (children_scope_number (out-Term t).kind (length old) number) ≡ view_under view (length old) (written (out-Term t))
    view_inside = λ i. record view { scope = sym (scope_inside tree world drivers t (length old) number can) i }

    children_stand : StandAll (out-Term t).children whole (view_under view (length old) (written (out-Term t))) (length old + 1)
    children_stand =
        let at_mid = subst (λ n. StandAll (out-Term t).children mid (view_in tree world (children_scope_number (out-Term t).kind (length old) number)) n) (length-append old (node ∷ [])) below.stand in
        subst (λ (v : View). StandAll (out-Term t).children whole v (length old + 1)) view_inside
        (static_all (out-Term t).children mid whole (view_in tree world (children_scope_number (out-Term t).kind (length old) number)) (length old + 1) same_below at_mid)

    sized_is : IsNode view (written (out-Term t)) (length mid - length old) sized
    sized_is = record { kind = is_node.kind; size = refl; children = is_node.children; code = is_node.code; guards = is_node.guards; ports = is_node.ports; slots = is_node.slots; leaf = is_node.leaf; fit = is_node.fit }

    term_stands : Stands t whole view (length old)
    term_stands = closed t whole view (length old) (
      omega (arith, length-append old (sized ∷ below.added)),
      subst (λ n. IsNode view (written (out-Term t)) n (node_at whole (length old))) (sym size_here) (subst (λ (n : Node). IsNode view (written (out-Term t)) (length mid - length old) n) (sym (at_seam old sized below.added)) sized_is),
      children_stand,
      ap (λ (n : Node). n.child_uids) (at_seam old sized below.added),
    )

    ids_here : flat_map (λ ids. ids) (map leaf_ids (t ∷ [])) ≡ own_leaf_id (out-Term t).kind (out-Term t).id ++ flat_map (λ ids. ids) (map leaf_ids (out-Term t).children)
    ids_here = append-nil (leaf_ids t) ∙ leaves_out tree world drivers t

    pub node_laid : AreLaid tree world drivers (t ∷ []) number old (set mid (length old) sized) next left
    node_laid = record {
      added = sized ∷ below.added;
      is = closed_is;
      size = omega (arith, below.size, sum_by-cons (λ (k : ℕ). k) (node_count t) [], fold_out-Term ℕ (λ node. 1 + sum node.children) t);
      stand = (subst (λ (ns : List Node). Stands t ns view (length old)) (sym closed_is) term_stands, tt);
      next_ones = (is_next, subst (λ (n : List ℕ). AreNext drivers n below.added) counts below.next_ones);
      following = below.following ∙ ap (next_after below.added) counts;
      counted = below.counted ∙ ap (counted_all world drivers (flat_map (λ ids. ids) (map leaf_ids (out-Term t).children))) (counts ∙ sym (own_counted number (written (out-Term t)) node.leaf next is_node.leaf is_next))
          ∙ sym (counted_both (own_leaf_id (out-Term t).kind (out-Term t).id) (flat_map (λ ids. ids) (map leaf_ids (out-Term t).children)) next)
          ∙ sym (ap (λ (ids : List (List ℕ)). counted_all world drivers ids next) ids_here);
    }

  -- a term was added, in the steps of the code
  pub term_laid : (t : Term) (number : ℕ) (old pushed mid new : List Node) (node : Node) (next further left : List ℕ) (place uid : ℕ) (ts : List Term) (inner : ℕ) (uids : List ℕ) →
      place ≡ length old → uid ≡ place → pushed ≡ old ++ node ∷ [] → ts ≡ (out-Term t).children → inner ≡ children_scope_number (out-Term t).kind uid number →
      CanBeLaid tree world drivers (t ∷ []) (length old) number → IsNode (view_in tree world number) (written (out-Term t)) 0 node → IsNext drivers next node.leaf → further ≡ counted_at (driver_of node.leaf) next →
      AreLaid tree world drivers ts inner pushed mid further left → uids ≡ uids_of ts (length pushed) → new ≡ set mid place (record (node_at mid place) { size = length mid - place; child_uids = uids }) →
      AreLaid tree world drivers (t ∷ []) number old new next left
  term_laid t number old pushed mid new node next further left place uid ts inner uids is_place is_uid is_pushed are_children is_inner can is_node is_next counts laid are_uids is_new =
      let kind = (out-Term t).kind in
      let in_scope : inner ≡ children_scope_number kind (length old) number = is_inner ∙ ap (λ u. children_scope_number kind u number) (is_uid ∙ is_place) in
      let below : AreLaid tree world drivers (out-Term t).children (children_scope_number kind (length old) number) (old ++ node ∷ []) mid further left =
      subst (λ (xs : List Term). AreLaid tree world drivers xs (children_scope_number kind (length old) number) (old ++ node ∷ []) mid further left) are_children
      (subst (λ n. AreLaid tree world drivers ts n (old ++ node ∷ []) mid further left) in_scope
      (subst (λ (ns : List Node). AreLaid tree world drivers ts inner ns mid further left) is_pushed laid)) in
      let there : node_at mid (length old) ≡ node = node_there t number old mid node next further left can is_node is_next counts below in
      let below_uids : uids ≡ uids_of (out-Term t).children (length old + 1) = are_uids ∙ (λ i. uids_of (are_children i) (length (is_pushed i))) ∙ ap (uids_of (out-Term t).children) (length-append old (node ∷ [])) in
      let made : new ≡ set mid (length old) (record node { size = length mid - length old; child_uids = uids_of (out-Term t).children (length old + 1) }) =
      is_new ∙ (λ i. set mid (is_place i) (record (node_at mid (is_place i)) { size = length mid - is_place i; child_uids = below_uids i })) ∙ (λ i. set mid (length old) (record (there i) { size = length mid - length old; child_uids = uids_of (out-Term t).children (length old + 1) })) in
      subst (λ (ns : List Node). AreLaid tree world drivers (t ∷ []) number old ns next left) (sym made)
      (node_laid t number old mid node next further left can is_node is_next counts below)

-- the uids of some terms, and then of one more
pub uids_more : (t : Term) (ts rest : List Term) (us more : List ℕ) (uid last next : ℕ) → more ≡ us ++ last ∷ [] → last ≡ uid → next ≡ uid + node_count t → rest ≡ t ∷ ts →
    more ++ uids_of ts next ≡ us ++ uids_of rest uid
uids_more t ts rest us more uid last next is_more is_last far is_rest =
    let following : next ≡ uid + (meaning t).size = far ∙ ap (λ n. uid + n) (sym (size_is t)) in
    ap (λ (l : List ℕ). l ++ uids_of ts next) is_more
    ∙ append_assoc us (last ∷ []) (uids_of ts next)
    ∙ (λ i. us ++ is_last i ∷ uids_of ts (following i))
    ∙ ap (λ (l : List Term). us ++ uids_of l uid) (sym is_rest)

counted_length : (place : Option ℕ) (counts : List ℕ) → length (counted_at place counts) ≡ length counts
counted_length None counts = refl
counted_length (Some place) counts = length-set counts place (get_or counts place 0 + 1)

pub next_length : (place : Option ℕ) (next further : List ℕ) → further ≡ counted_at place next → length further ≡ length next
next_length place next further counts = ap length counts ∙ counted_length place next

after_length : (nodes : List Node) (next : List ℕ) → length (next_after nodes next) ≡ length next
after_length [] next = refl
after_length (n ∷ nodes) next = after_length nodes (counted_at (driver_of n.leaf) next) ∙ counted_length (driver_of n.leaf) next

pub laid_length : (nodes : List Node) (next left : List ℕ) → left ≡ next_after nodes next → length left ≡ length next
laid_length nodes next left following = ap length following ∙ after_length nodes next
