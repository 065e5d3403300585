-- The cell of each key that a tree names is the one that its scope's number leads to.
use Rattle.std.proofs.Common.{◌≡◌, ℕ, ◌+◌, ◌<◌, List, [], ◌∷◌, ◌++◌, Bool, true, false, cond, ◌&&◌, nat_eq, Option, Some, None, map, length, find, if◌then◌else◌, refl, sym, ap, subst, ◌∙◌, arith}
use Rattle.std.proofs.lemmas.Bool.Decides.{nat_tests}
use Rattle.std.specs.List.{AllByRecursion, flat_map}
use Rattle.spec_tree.specs.declared.cell.Naming.{Naming}
use Rattle.spec_tree.specs.declared.term.Kind.{Kind}
use Rattle.spec_tree.specs.declared.term.Kind.TheVariants.{SubTree}
use Rattle.spec_tree.specs.declared.term.Port.{Port}
use Rattle.spec_tree.specs.declared.term.Term.{Term, Term-F, ind-Term, fold-roll-Term}
use Rattle.spec_tree.specs.declared.term.Tree.{Tree}
use Rattle.spec_tree.specs.Boards.{Scope, Standing, main_scope, standing, standing_step, standing_from, standing_all, children_scope, children_scope_number, literal_names, scope_below, makes_scope, namings, namings_at, named_in, keys_named}
use Rattle.base_tables.specs.SlotTables.{scope_made, scope_of}

-- ---- uids are places in pre-order

-- the uids of nodes rise by one from node to node
abbrev Numbered : ℕ → List Standing → Type 0
Numbered n [] = Unit {0}
Numbered n (node ∷ nodes) = (node.uid ≡ n) × Numbered (n + 1) nodes

numbered_append : (n : ℕ) (xs ys : List Standing) → Numbered n xs → Numbered (n + length xs) ys → Numbered n (xs ++ ys)
numbered_append n [] ys a b = let e : n + 0 ≡ n = omega arith in subst (λ k. Numbered k ys) e b
numbered_append n (x ∷ xs) ys a b =
    let e : n + length (x ∷ xs) ≡ (n + 1) + length xs = omega arith in
    (a.0, numbered_append (n + 1) xs ys a.1 (subst (λ k. Numbered k ys) e b))

abbrev Walk : Type 0
Walk = ℕ → ℕ → Scope → List Standing

abbrev IsNumbered : Term → Type 0
IsNumbered t = (uid number : ℕ) (scope : Scope) → Numbered uid (standing_from t uid number scope)

all_numbered : (ts : List ((t : Term) × IsNumbered t)) (uid number : ℕ) (scope : Scope) → Numbered uid (standing_all (map standing_from (map (λ e. e.0) ts)) uid number scope)
all_numbered [] uid number scope = tt
all_numbered (e ∷ ts) uid number scope =
    let first = standing_from e.0 uid number scope in
    numbered_append uid first _ (e.1 uid number scope) (all_numbered ts (uid + length first) number scope)

numbered : (t : Term) → IsNumbered t
numbered = ind-Term IsNumbered (λ x y is uid number scope.
    let inner = children_scope x.kind uid x.ports x.autoremap scope in
    let children = subst (λ (z : Term-F Term). Numbered (uid + 1) (standing_all (map standing_from z.children) (uid + 1) (children_scope_number x.kind uid number) inner)) is
    (all_numbered y.children (uid + 1) (children_scope_number x.kind uid number) inner) in
    subst (λ (walk : Walk). Numbered uid (walk uid number scope)) (sym (fold-roll-Term Walk standing_step x)) (refl, children))

-- ---- the node that makes a scope is found by its uid

abbrev makes : ℕ → Standing → Bool
makes number node = makes_scope node.kind && nat_eq node.uid number

all_both : {X : Type 0} (P Q R : X → Type 0) → ((x : X) → P x → Q x → R x) → (xs : List X) → AllByRecursion P xs → AllByRecursion Q xs → AllByRecursion R xs
all_both P Q R f [] a b = tt
all_both P Q R f (x ∷ xs) a b = (f x a.0 b.0, all_both P Q R f xs a.1 b.1)

all_append : {X : Type 0} (P : X → Type 0) (xs ys : List X) → AllByRecursion P xs → AllByRecursion P ys → AllByRecursion P (xs ++ ys)
all_append P [] ys a b = b
all_append P (x ∷ xs) ys a b = (a.0, all_append P xs ys a.1 b)

all_split : {X : Type 0} (P : X → Type 0) (xs ys : List X) → AllByRecursion P (xs ++ ys) → AllByRecursion P xs × AllByRecursion P ys
all_split P [] ys a = (tt, a)
all_split P (x ∷ xs) ys a = let parts = all_split P xs ys a.1 in ((a.0, parts.0), parts.1)

all_above : (low n : ℕ) (nodes : List Standing) → low < n → Numbered n nodes → AllByRecursion (λ node. low < node.uid) nodes
all_above low n [] below h = tt
all_above low n (node ∷ nodes) below h = (omega (arith, h.0), all_above low (n + 1) nodes (omega arith) h.1)

misses : (low : ℕ) (node : Standing) (b : Bool) → low < node.uid → b && nat_eq node.uid low ≡ false
misses low node true below = grind (arith, nat_tests)
misses low node false below = refl

none_makes : (low : ℕ) (nodes : List Standing) → AllByRecursion (λ node. low < node.uid) nodes → find (makes low) nodes ≡ None
none_makes low [] all = refl
none_makes low (node ∷ nodes) all = ap (λ b. cond b (Some node) (find (makes low) nodes)) (misses low node (makes_scope node.kind) all.0) ∙ none_makes low nodes all.1

-- among these nodes, a node that makes a scope is the one that its uid finds
abbrev IsFound : List Standing → Standing → Type 0
IsFound nodes node = makes_scope node.kind ≡ true → find (makes node.uid) nodes ≡ Some node

past : (b : Bool) (node later : Standing) → node.uid < later.uid → b && nat_eq node.uid later.uid ≡ false
past true node later below = grind (arith, nat_tests)
past false node later below = refl

here : (node : Standing) → makes_scope node.kind ≡ true → makes node.uid node ≡ true
here node is = ap (λ b. b && nat_eq node.uid node.uid) is ∙ grind (arith, nat_tests)

all_found : (n : ℕ) (nodes : List Standing) → Numbered n nodes → AllByRecursion (IsFound nodes) nodes
all_found n [] h = tt
all_found n (node ∷ nodes) h = (
  (λ is. ap (λ b. cond b (Some node) (find (makes node.uid) nodes)) (here node is)),
  all_both (IsFound nodes) (λ later. node.uid < later.uid) (IsFound (node ∷ nodes))
      (λ later found below is. ap (λ b. cond b (Some node) (find (makes later.uid) nodes)) (past (makes_scope node.kind) node later below) ∙ found is)
      nodes (all_found (n + 1) nodes h.1) (all_above node.uid (n + 1) nodes (omega (arith, h.0)) h.1),
)

-- ---- each node stands in the scope to which its number leads

abbrev leads_to : List Standing → ℕ → Scope
leads_to whole number = scope_made (find (makes number) whole)

abbrev StandsThere : List Standing → Standing → Type 0
StandsThere whole node = leads_to whole node.number ≡ node.scope

-- the number of the scope of a node's children leads to that scope
inner_leads : (whole : List Standing) (kind : Kind) (uid number : ℕ) (ports : List Port) (autoremap : Bool) (scope : Scope) (node : Standing)
    → (makes_scope kind ≡ true → find (makes uid) whole ≡ Some node) → scope_made (Some node) ≡ scope_below uid ports autoremap scope → leads_to whole number ≡ scope
    → leads_to whole (children_scope_number kind uid number) ≡ children_scope kind uid ports autoremap scope
inner_leads whole SubTree uid number ports autoremap scope node found made outer = ap scope_made (found refl) ∙ made
inner_leads whole _ uid number ports autoremap scope node found made outer = outer

abbrev IsSound : List Standing → Term → Type 0
IsSound whole t = (uid number : ℕ) (scope : Scope) → AllByRecursion (IsFound whole) (standing_from t uid number scope) → leads_to whole number ≡ scope
    → AllByRecursion (StandsThere whole) (standing_from t uid number scope)

all_sound : (whole : List Standing) (ts : List ((t : Term) × IsSound whole t)) (uid number : ℕ) (scope : Scope)
    → AllByRecursion (IsFound whole) (standing_all (map standing_from (map (λ e. e.0) ts)) uid number scope) → leads_to whole number ≡ scope
    → AllByRecursion (StandsThere whole) (standing_all (map standing_from (map (λ e. e.0) ts)) uid number scope)
all_sound whole [] uid number scope found leads = tt
all_sound whole (e ∷ ts) uid number scope found leads =
    let first = standing_from e.0 uid number scope in
    let parts = all_split (IsFound whole) first _ found in
    all_append (StandsThere whole) first _ (e.1 uid number scope parts.0 leads) (all_sound whole ts (uid + length first) number scope parts.1 leads)

sound : (whole : List Standing) (t : Term) → IsSound whole t
sound whole = ind-Term (IsSound whole) (λ x y is uid number scope found leads.
    let unrolled = fold-roll-Term Walk standing_step x in
    let found_here = subst (λ (walk : Walk). AllByRecursion (IsFound whole) (walk uid number scope)) unrolled found in
    let inner = children_scope x.kind uid x.ports x.autoremap scope in
    let inner_number = children_scope_number x.kind uid number in
    let inner_is = inner_leads whole x.kind uid number x.ports x.autoremap scope _ found_here.0 refl leads in
    let children = subst (λ (z : Term-F Term). AllByRecursion (IsFound whole) (standing_all (map standing_from z.children) (uid + 1) inner_number inner)
    → AllByRecursion (StandsThere whole) (standing_all (map standing_from z.children) (uid + 1) inner_number inner)) is
    (λ found. all_sound whole y.children (uid + 1) inner_number inner found inner_is) in
    subst (λ (walk : Walk). AllByRecursion (StandsThere whole) (walk uid number scope)) (sym unrolled) (leads, children found_here.1))

-- ---- what is named has the cell to which its number leads

-- a number of a tree leads to its scope
abbrev pub IsTrue_cell : Tree → Naming → Type 0
IsTrue_cell tree n = n.cell ≡ scope_of tree n.number n.key

all_named : (P : Naming → Type 0) (number : ℕ) (scope : Scope) → ((key : List ℕ) → P (named_in number scope key)) → (keys : List (List ℕ)) → AllByRecursion P (map (named_in number scope) keys)
all_named P number scope each [] = tt
all_named P number scope each (key ∷ keys) = (each key, all_named P number scope each keys)

module _ (tree : Tree) where
  node_named : (node : Standing) → StandsThere (standing tree) node → IsFound (standing tree) node → AllByRecursion (IsTrue_cell tree) (namings_at node)
  node_named node stands found =
      all_append (IsTrue_cell tree) (map (named_in node.number node.scope) (keys_named node)) _
      (all_named (IsTrue_cell tree) node.number node.scope (λ key. ap (λ (s : Scope). s key) (sym stands)) (keys_named node))
      (elim (makes_scope node.kind) as (λ b. (b ≡ true → find (makes node.uid) (standing tree) ≡ Some node)
      → AllByRecursion (IsTrue_cell tree) (if b then map (named_in node.uid (scope_below node.uid node.ports node.autoremap node.scope)) (literal_names node.ports) else [])) [
        | true ↦ λ is_found. all_named (IsTrue_cell tree) node.uid (scope_below node.uid node.ports node.autoremap node.scope)
            (λ key. ap (λ (o : Option Standing). scope_made o key) (sym (is_found refl))) (literal_names node.ports)
        | false ↦ λ _. tt
      ] found)

  nodes_named : (nodes : List Standing) → AllByRecursion (StandsThere (standing tree)) nodes → AllByRecursion (IsFound (standing tree)) nodes
      → AllByRecursion (IsTrue_cell tree) (flat_map namings_at nodes)
  nodes_named [] stand found = tt
  nodes_named (node ∷ nodes) stand found =
      all_append (IsTrue_cell tree) (namings_at node) _ (node_named node stand.0 found.0) (nodes_named nodes stand.1 found.1)

  pub namings_sound : AllByRecursion (IsTrue_cell tree) (namings tree)
  namings_sound =
      let whole = standing tree in
      let in_order = numbered tree.term 1 0 main_scope in
      let found = all_found 1 whole in_order in
      let leads : leads_to whole 0 ≡ main_scope = ap scope_made (none_makes 0 whole (all_above 0 1 whole (omega arith) in_order)) in
      nodes_named whole (sound whole tree.term 1 0 main_scope found leads) found

  -- the number 0 leads to the main scope
  pub main_leads : scope_of tree 0 ≡ main_scope
  main_leads = ap scope_made (none_makes 0 (standing tree) (all_above 0 1 (standing tree) (omega arith) (numbered tree.term 1 0 main_scope)))

  -- each node stands in the scope to which its number leads
  pub standings_sound : AllByRecursion (λ node. scope_of tree node.number ≡ node.scope) (standing tree)
  standings_sound =
      let whole = standing tree in
      let in_order = numbered tree.term 1 0 main_scope in
      sound whole tree.term 1 0 main_scope (all_found 1 whole in_order) main_leads

  makes_found : (nodes : List Standing) → AllByRecursion (IsFound (standing tree)) nodes
      → AllByRecursion (λ node. makes_scope node.kind ≡ true → scope_of tree node.uid ≡ scope_below node.uid node.ports node.autoremap node.scope) nodes
  makes_found [] found = tt
  makes_found (node ∷ nodes) found = ((λ is. ap scope_made (found.0 is)), makes_found nodes found.1)

  -- the uid of a node that makes a scope leads to it
  pub standings_make : AllByRecursion (λ node. makes_scope node.kind ≡ true → scope_of tree node.uid ≡ scope_below node.uid node.ports node.autoremap node.scope) (standing tree)
  standings_make = makes_found (standing tree) (all_found 1 (standing tree) (numbered tree.term 1 0 main_scope))
