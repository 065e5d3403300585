-- Adding terms to an arena, one after the other: what must hold of each part, and what the whole leaves.
use Rattle.std.proofs.Common.{◌≡◌, ℕ, zero, suc, ◌+◌, ◌<◌, ◌≤◌, List, [], ◌∷◌, ◌++◌, Bool, true, false, Option, Some, None, map, length, get_or, sum, drop, refl, sym, ap, subst, ◌∙◌, append-nil, append_assoc, arith}
use Rattle.std.specs.List.{AllByRecursion, flat_map}
use Rattle.std.specs.Option.{option_or}
use Rattle.std.proofs.lemmas.List.{drop_more, length-map}
use Rattle.std.proofs.lemmas.List.Sums.{sum_by-cons}
use Rattle.spec_script.specs.declared.syntax.Script.{Script}
use Rattle.spec_script.specs.Scripts.{stmt_names}
use Rattle.spec_tree.specs.declared.term.Guards.{Guards}
use Rattle.spec_tree.specs.declared.term.Kind.{Kind}
use Rattle.spec_tree.specs.declared.term.Kind.TheVariants.{SubTree}
use Rattle.spec_tree.specs.declared.term.Port.{Port}
use Rattle.spec_tree.specs.declared.term.Term.{Term, fold_out-Term, out-Term}
use Rattle.spec_tree.specs.declared.term.Tree.{Tree}
use Rattle.spec_world.specs.declared.world.World.{World}
use Rattle.spec_tree.specs.Boards.{Scope, children_scope, children_scope_number, given, keys_named, makes_scope, scope_below, scripts_of, standing_all, standing_from}
use Rattle.base_tables.specs.SlotTables.{is_named, scope_of}
use Rattle.spec_run.specs.Drivers.{DriverState}
use Rattle.spec_run.specs.Sites.{View}
use Rattle.spec_tree.specs.Terms.{leaf_ids, node_count, own_leaf_id}
use Rattle.spec_tree.specs.Trees.{CodeFits, Node as TreeNode, ScriptFits, nodes_of, nodes_step}
use Rattle.base_tables.specs.Runnable.{NodeRuns}
use Rattle.tree_board.proofs.Standings.{standing_count, standing_here, standing_out}
use Rattle.run_arena.specs.declared.nodes.ReadyLeaf.{ReadyLeaf}
use Rattle.spec_run.specs.declared.join_fault.JoinFault.{JoinFault}
use Rattle.spec_run.specs.Joins.{first_missing, leaf_lacks}
use Rattle.run_arena.specs.Laying.{CanBeLaid, LeafIs, StandsIn}
use Rattle.run_arena.specs.Nodes.{IsFit, LeafStands}
use Rattle.run_arena.specs.Resolving.{AreNamed, GuardsAreNamed, names_if_there, names_in_script, port_keys}
use Rattle.run_arena.specs.Stands.{written}
use Rattle.run_arena.proofs.Parts.{each_left, each_right}
use Rattle.run_driver.proofs.Parts.{All-left, All-right}

-- ---- names

abbrev Names : List Script → List (List ℕ)
Names scripts = flat_map (λ (script : Script). flat_map stmt_names script.stmts) scripts

names_both : (xs ys : List Script) → Names (xs ++ ys) ≡ Names xs ++ Names ys
names_both [] ys = refl
names_both (x ∷ xs) ys = ap (λ (ns : List (List ℕ)). names_in_script x ++ ns) (names_both xs ys) ∙ sym (append_assoc (names_in_script x) (Names xs) (Names ys))

names_given : (script : Option Script) → Names (given script) ≡ names_if_there script
names_given None = refl
names_given (Some script) = append-nil (names_in_script script)

module _ (tree : Tree) (number : ℕ) where
  last_named : (xs : List Script) (script : Option Script) → AreNamed tree number (Names (xs ++ given script)) → AreNamed tree number (Names xs) × AreNamed tree number (names_if_there script)
  last_named xs script named =
      let both = subst (AreNamed tree number) (names_both xs (given script)) named in (
        All-left (λ key. is_named tree number key ≡ true) (Names xs) (Names (given script)) both,
        subst (AreNamed tree number) (names_given script) (All-right (λ key. is_named tree number key ≡ true) (Names xs) (Names (given script)) both),
      )

  -- the tree has a slot for each name in a node's scripts
  pub code_named : (code : Option Script) (g : Guards) → AreNamed tree number (Names (scripts_of code g)) → AreNamed tree number (names_if_there code)
  code_named code g named =
      let h = last_named (given code ++ given g.failure_if ++ given g.success_if ++ given g.skip_if ++ given g.while_true ++ given g.on_success ++ given g.on_failure ++ given g.post) g.on_halted named in
      let p = last_named (given code ++ given g.failure_if ++ given g.success_if ++ given g.skip_if ++ given g.while_true ++ given g.on_success ++ given g.on_failure) g.post h.0 in
      let f = last_named (given code ++ given g.failure_if ++ given g.success_if ++ given g.skip_if ++ given g.while_true ++ given g.on_success) g.on_failure p.0 in
      let s = last_named (given code ++ given g.failure_if ++ given g.success_if ++ given g.skip_if ++ given g.while_true) g.on_success f.0 in
      let w = last_named (given code ++ given g.failure_if ++ given g.success_if ++ given g.skip_if) g.while_true s.0 in
      let k = last_named (given code ++ given g.failure_if ++ given g.success_if) g.skip_if w.0 in
      let y = last_named (given code ++ given g.failure_if) g.success_if k.0 in
      let n = last_named (given code) g.failure_if y.0 in
      subst (AreNamed tree number) (names_given code) n.0

  pub guards_named : (code : Option Script) (g : Guards) → AreNamed tree number (Names (scripts_of code g)) → GuardsAreNamed tree number g
  guards_named code g named =
      let h = last_named (given code ++ given g.failure_if ++ given g.success_if ++ given g.skip_if ++ given g.while_true ++ given g.on_success ++ given g.on_failure ++ given g.post) g.on_halted named in
      let p = last_named (given code ++ given g.failure_if ++ given g.success_if ++ given g.skip_if ++ given g.while_true ++ given g.on_success ++ given g.on_failure) g.post h.0 in
      let f = last_named (given code ++ given g.failure_if ++ given g.success_if ++ given g.skip_if ++ given g.while_true ++ given g.on_success) g.on_failure p.0 in
      let s = last_named (given code ++ given g.failure_if ++ given g.success_if ++ given g.skip_if ++ given g.while_true) g.on_success f.0 in
      let w = last_named (given code ++ given g.failure_if ++ given g.success_if ++ given g.skip_if) g.while_true s.0 in
      let k = last_named (given code ++ given g.failure_if ++ given g.success_if) g.skip_if w.0 in
      let y = last_named (given code ++ given g.failure_if) g.success_if k.0 in
      let n = last_named (given code) g.failure_if y.0 in
      record { failure_if = n.1; success_if = y.1; skip_if = k.1; while_true = w.1; on_success = s.1; on_failure = f.1; post = p.1; on_halted = h.1 }

pub code_fits : (b : Bool) (code : Option Script) → CodeFits b code → ScriptFits code
code_fits true None fits = tt
code_fits true (Some script) fits = fits
code_fits false None fits = tt
code_fits false (Some script) fits = absurd fits

pub leaf_opened : (view : View) (node : TreeNode) (leaf : Option ReadyLeaf) → LeafIs view node leaf → LeafStands view node leaf
unfolding LeafIs
leaf_opened view node leaf is = is

pub fit_closed : (node : TreeNode) → NodeRuns node → IsFit node
unfolding IsFit
fit_closed node fits = fits

-- ---- what must hold of the parts

or_none : {X : Type 0} (x y : Option X) → option_or x y ≡ None → (x ≡ None) × (y ≡ None)
or_none None y is = (refl, is)
or_none (Some x) y is = absurd (cc)

module _ (tree : Tree) (world : World) (drivers : List DriverState) where
  abbrev Lack : List (List ℕ) → Option JoinFault
  Lack = first_missing world.rows drivers

  lack_left : (xs ys : List (List ℕ)) → Lack (xs ++ ys) ≡ None → Lack xs ≡ None
  lack_left [] ys is = refl
  lack_left (x ∷ xs) ys is =
      let both = or_none (leaf_lacks world.rows drivers x) (Lack (xs ++ ys)) is in
      (λ i. option_or (both.0 i) (Lack xs)) ∙ lack_left xs ys both.1

  lack_right : (xs ys : List (List ℕ)) → Lack (xs ++ ys) ≡ None → Lack ys ≡ None
  lack_right [] ys is = is
  lack_right (x ∷ xs) ys is = lack_right xs ys (or_none (leaf_lacks world.rows drivers x) (Lack (xs ++ ys)) is).1

  -- what must hold of the first of some terms
  pub can_first : (t : Term) (ts : List Term) (uid number : ℕ) → CanBeLaid tree world drivers (t ∷ ts) uid number → CanBeLaid tree world drivers (t ∷ []) uid number
  can_first t ts uid number can =
      let first = standing_from t uid number (scope_of tree number) in
      record {
        stand = subst (AllByRecursion (StandsIn tree)) (sym (append-nil first)) (each_left (StandsIn tree) first _ can.stand);
        fit = subst (AllByRecursion NodeRuns) (sym (append-nil (nodes_of t))) (each_left NodeRuns (nodes_of t) _ can.fit);
        joined = ap Lack (append-nil (leaf_ids t)) ∙ lack_left (leaf_ids t) _ can.joined;
      }

  -- and of the others
  pub can_rest : (t : Term) (ts : List Term) (uid number : ℕ) → CanBeLaid tree world drivers (t ∷ ts) uid number → CanBeLaid tree world drivers ts (uid + node_count t) number
  can_rest t ts uid number can =
      let first = standing_from t uid number (scope_of tree number) in
      record {
        stand = subst (λ n. AllByRecursion (StandsIn tree) (standing_all (map standing_from ts) (uid + n) number (scope_of tree number))) (standing_count t uid number (scope_of tree number))
            (each_right (StandsIn tree) first _ can.stand);
        fit = each_right NodeRuns (nodes_of t) _ can.fit;
        joined = lack_right (leaf_ids t) _ can.joined;
      }

  pub can_as : (ts us : List Term) (uid other number inner : ℕ) → us ≡ ts → other ≡ uid → inner ≡ number → CanBeLaid tree world drivers ts uid number → CanBeLaid tree world drivers us other inner
  can_as ts us uid other number inner terms uids numbers can =
      subst (λ (xs : List Term). CanBeLaid tree world drivers xs other inner) (sym terms) (subst (λ u. CanBeLaid tree world drivers ts u inner) (sym uids) (subst (λ n. CanBeLaid tree world drivers ts uid n) (sym numbers) can))

  -- the number of the scope of a node's children gives that scope
  pub inner_scope : (kind : Kind) (uid number : ℕ) (ports : List Port) (autoremap : Bool) →
      (makes_scope kind ≡ true → scope_of tree uid ≡ scope_below uid ports autoremap (scope_of tree number)) →
      children_scope kind uid ports autoremap (scope_of tree number) ≡ scope_of tree (children_scope_number kind uid number)
  inner_scope SubTree uid number ports autoremap made = sym (made refl)
  inner_scope _ uid number ports autoremap made = refl

  pub leaves_out : (t : Term) → leaf_ids t ≡ own_leaf_id (out-Term t).kind (out-Term t).id ++ flat_map (λ ids. ids) (map leaf_ids (out-Term t).children)
  leaves_out t = fold_out-Term (List (List ℕ)) (λ node. own_leaf_id node.kind node.id ++ flat_map (λ ids. ids) node.children) t

  nodes_out : (t : Term) → nodes_of t ≡ record (written (out-Term t)) { children = length (map nodes_of (out-Term t).children) } ∷ flat_map (λ nodes. nodes) (map nodes_of (out-Term t).children)
  nodes_out t = fold_out-Term (List TreeNode) nodes_step t

  -- one term, with its node and its children
  module _ (t : Term) (uid number : ℕ) (can : CanBeLaid tree world drivers (t ∷ []) uid number) where
    abbrev scope : Scope
    scope = scope_of tree number

    stand_here : AllByRecursion (StandsIn tree) (standing_here t uid number scope ∷ standing_all (map standing_from (out-Term t).children) (uid + 1) (children_scope_number (out-Term t).kind uid number)
        (children_scope (out-Term t).kind uid (out-Term t).ports (out-Term t).autoremap scope))
    stand_here = subst (AllByRecursion (StandsIn tree)) (append-nil (standing_from t uid number scope) ∙ standing_out t uid number scope) can.stand

    pub stands_here : StandsIn tree (standing_here t uid number scope)
    stands_here = stand_here.0

    fits_all : AllByRecursion NodeRuns (record (written (out-Term t)) { children = length (map nodes_of (out-Term t).children) } ∷ flat_map (λ nodes. nodes) (map nodes_of (out-Term t).children))
    fits_all = subst (AllByRecursion NodeRuns) (append-nil (nodes_of t) ∙ nodes_out t) can.fit

    pub fits_here : NodeRuns (written (out-Term t))
    fits_here = subst (λ n. NodeRuns (record (written (out-Term t)) { children = n })) (length-map (out-Term t).children nodes_of) fits_all.0

    lacks_nothing : Lack (own_leaf_id (out-Term t).kind (out-Term t).id ++ flat_map (λ ids. ids) (map leaf_ids (out-Term t).children)) ≡ None
    lacks_nothing = ap Lack (sym (leaves_out t)) ∙ sym (ap Lack (append-nil (leaf_ids t))) ∙ can.joined

    pub joined_here : Lack (own_leaf_id (out-Term t).kind (out-Term t).id) ≡ None
    joined_here = lack_left (own_leaf_id (out-Term t).kind (out-Term t).id) _ lacks_nothing

    pub scope_inside : children_scope (out-Term t).kind uid (out-Term t).ports (out-Term t).autoremap scope ≡ scope_of tree (children_scope_number (out-Term t).kind uid number)
    scope_inside = inner_scope (out-Term t).kind uid number (out-Term t).ports (out-Term t).autoremap stands_here.made

    pub can_below : CanBeLaid tree world drivers (out-Term t).children (uid + 1) (children_scope_number (out-Term t).kind uid number)
    can_below = record {
      stand = subst (λ (s : Scope). AllByRecursion (StandsIn tree) (standing_all (map standing_from (out-Term t).children) (uid + 1) (children_scope_number (out-Term t).kind uid number) s)) scope_inside stand_here.1;
      fit = fits_all.1;
      joined = lack_right (own_leaf_id (out-Term t).kind (out-Term t).id) _ lacks_nothing;
    }

    keys_here : AreNamed tree number (keys_named (standing_here t uid number scope))
    keys_here = stands_here.named

    pub code_named_here : AreNamed tree number (names_if_there (out-Term t).code)
    code_named_here = code_named tree number (out-Term t).code (out-Term t).guards (All-left (λ key. is_named tree number key ≡ true) (Names (scripts_of (out-Term t).code (out-Term t).guards)) _ keys_here)

    pub guards_named_here : GuardsAreNamed tree number (out-Term t).guards
    guards_named_here = guards_named tree number (out-Term t).code (out-Term t).guards (All-left (λ key. is_named tree number key ≡ true) (Names (scripts_of (out-Term t).code (out-Term t).guards)) _ keys_here)

    pub ports_named_here : AreNamed tree number (port_keys (out-Term t).ports)
    ports_named_here = All-right (λ key. is_named tree number key ≡ true) (Names (scripts_of (out-Term t).code (out-Term t).guards)) _ keys_here

-- the terms from one on
pub terms_here : (ts : List Term) (i : ℕ) (t : Term) → i < length ts → t ≡ get_or ts i t → drop i ts ≡ t ∷ drop (i + 1) ts
terms_here ts i t within is_t = drop_more ts i t within ∙ ap (λ (x : Term). x ∷ drop (i + 1) ts) (sym is_t)

-- a term has more nodes than its children
pub counts_below : (t : Term) → node_count t ≡ 1 + sum (map node_count (out-Term t).children)
counts_below t = fold_out-Term ℕ (λ node. 1 + sum node.children) t

-- one of some terms has no more nodes than they have together
pub counts_within : (ts : List Term) (i : ℕ) (t : Term) → i < length ts → t ≡ get_or ts i t → node_count t ≤ sum (map node_count ts)
counts_within [] i t within is_t = absurd (omega (arith, within))
counts_within (x ∷ ts) zero t within is_t = omega (arith, ap node_count is_t, sum_by-cons (λ (k : ℕ). k) (node_count x) (map node_count ts))
counts_within (x ∷ ts) (suc i) t within is_t = omega (arith, counts_within ts i t (omega (arith, within)) is_t, sum_by-cons (λ (k : ℕ). k) (node_count x) (map node_count ts))
