-- A tree that is read is within the limits.
use Rattle.std.proofs.Common.{◌≡◌, ℕ, zero, suc, ◌+◌, ◌≤◌, ◌<◌, Bool, true, false, List, [], ◌∷◌, ◌++◌, map, length, sum, codes, Option, Some, None, Result, Ok, Err, refl, ap, sym, ◌∙◌, subst, arith}
use Rattle.std.specs.Prelude.{not, ◌&&◌, nat_eq, nat_le, if◌then◌else◌}
use Rattle.std.proofs.lemmas.Bool.{leb-true, leb-false}
use Rattle.std.proofs.lemmas.List.Sums.{sum-map, sum_by-cons}
use Rattle.spec_script.specs.Numbers.{greatest}
use Rattle.spec_tree_file.specs.declared.element.Element.{Element}
use Rattle.spec_tree.specs.declared.term.Kind.{Kind}
use Rattle.spec_tree.specs.declared.term.Kind.TheVariants.{SubTree}
use Rattle.spec_tree.specs.declared.term.Term.{Term, fold-roll-Term}
use Rattle.spec_tree.specs.declared.term.Tree.{Tree}
use Rattle.spec_tree.specs.Boards.{slots}
use Rattle.spec_tree.specs.BuiltIns.{takes}
use Rattle.spec_tree.specs.Names.{is_among}
use Rattle.spec_tree.specs.Terms.{depth_of, node_count, own_scopes, scope_count, work_of}
use Rattle.spec_tree.specs.Trees.{IsWithinLimits}
use Rattle.spec_tree_file.specs.Attributes.{Attributes, value_of}
use Rattle.spec_tree_file.specs.Models.{Models, attributes_of, children_of, name_of}
use Rattle.spec_tree_file.specs.ReadSteps.{go_on}
use Rattle.spec_tree_file.specs.declared.content.Content.{Content}
use Rattle.spec_tree_file.specs.declared.build_fault.BuildFault.{BuildFault}
use Rattle.spec_tree_file.specs.declared.build_fault.BuildFault.TheVariants.{TooManyNodes, TooDeep, Recursive, TooManyScopes, ChildCount, TooManyKeys, TooMuchWork}
use Rattle.spec_tree_file.specs.declared.head.Head.{Head}
use Rattle.spec_tree_file.specs.declared.numbers.Numbers.{Numbers}
use Rattle.spec_tree_file.specs.declared.version.Version.{Version}
use Rattle.spec_tree_file.specs.Content.{content_in}
use Rattle.spec_tree_file.specs.FirstFaults.{refused_if}
use Rattle.spec_tree_file.specs.Heads.{head_of}
use Rattle.spec_tree_file.specs.Versions.{version_in}
use Rattle.spec_tree_file.specs.Reads.{File, Reader, Trees, is_subtree, known, main_of, most_levels, no_numbers, node_of, nodes_by, opened_by, read_node, reads, term_of, tree_of, within_limits}
use Rattle.tree_build.specs.ReadSteps.{main_read, named_read, node_in, node_with, not_root, one_node_more, one_scope_more, plain_by, read_in, read_root, root_faults, root_read, roots_read, trees_read, with_first, with_trees}
use Rattle.tree_build.proofs.ReadLaw.{file_same}

-- what was read next, where all was read
pub went : {A B F : Type 0} (next : A → Result B F) (r : Result A F) (y : B) → go_on next r ≡ Ok y → (x : A) × (r ≡ Ok x) × (next x ≡ Ok y)
went next (Ok x) y h = (x, refl, h)
went next (Err f) y h = absurd (cc)

-- nothing was refused, where something was read
pub not_refused : {A : Type 0} (b : Bool) (f : BuildFault) (r : Result A BuildFault) (x : A) → refused_if b f r ≡ Ok x → (b ≡ false) × (r ≡ Ok x)
not_refused true f r x h = absurd (cc)
not_refused false f r x h = (refl, h)

-- a node that was read after these numbers, where so many levels were left
pub record Sized (left : ℕ) (n m : Numbers) (t : Term) : Type 0 where
  pub nodes : m.nodes ≡ n.nodes + node_count t
  pub few : m.nodes ≤ 4096
  pub scopes : m.scopes ≡ n.scopes + scope_count t
  pub few_scopes : n.scopes ≤ 256 → m.scopes ≤ 256
  pub depth : depth_of t ≤ left

-- some nodes that were read after these numbers, where so many levels were left for each
pub record AllSized (left : ℕ) (n m : Numbers) (ts : List Term) : Type 0 where
  pub nodes : m.nodes ≡ n.nodes + sum (map node_count ts)
  pub few : n.nodes ≤ 4096 → m.nodes ≤ 4096
  pub scopes : m.scopes ≡ n.scopes + sum (map scope_count ts)
  pub few_scopes : n.scopes ≤ 256 → m.scopes ≤ 256
  pub depth : greatest (map depth_of ts) ≤ left

abbrev pub Sizes : ℕ → Reader → Type 0
Sizes left reader = (e : Element) (opened : List (List ℕ)) (n m : Numbers) (t : Term) → reader e opened n ≡ Ok (t, m) → Sized left n m t

pub same_ok : {X : Type 0} (x y : X) → ◌≡◌ {A = Result X BuildFault} (Ok x) (Ok y) → x ≡ y
same_ok x y h = cc

pub both_same : {A B : Type 0} (a c : A) (b d : B) → ◌≡◌ {A = Result (A × B) BuildFault} (Ok (a, b)) (Ok (c, d)) → (a ≡ c) × (b ≡ d)
both_same {A} {B} a c b d h =
    let p = same_ok {X = A × B} (a, b) (c, d) h in (ap (λ (x : A × B). x.0) p, ap (λ (x : A × B). x.1) p)

no_more : (left : ℕ) (n : Numbers) → AllSized left n n []
no_more left n = record { nodes = omega arith; few = λ h. h; scopes = omega arith; few_scopes = λ h. h; depth = omega arith }

summed : (f : Term → ℕ) (t : Term) (ts : List Term) → sum (map f (t ∷ ts)) ≡ f t + sum (map f ts)
summed f t ts = sum-map f (t ∷ ts) ∙ sum_by-cons f t ts ∙ ap (λ (n : ℕ). f t + n) (sym (sum-map f ts))

one_more : (left : ℕ) (n k m : Numbers) (t : Term) (ts : List Term) → Sized left n k t → AllSized left k m ts → AllSized left n m (t ∷ ts)
one_more left n k m t ts s r = record {
  nodes = omega (arith, s.nodes, r.nodes, summed node_count t ts);
  few = λ h. r.few s.few;
  scopes = omega (arith, s.scopes, r.scopes, summed scope_count t ts);
  few_scopes = λ h. r.few_scopes (s.few_scopes h);
  depth = omega (arith, s.depth, r.depth);
}

same_sized : (left : ℕ) (n m k : Numbers) (ts us : List Term) → us ≡ ts → k ≡ m → AllSized left n k us → AllSized left n m ts
same_sized left n m k ts us same_terms same_numbers s = subst (λ (xs : List Term). AllSized left n m xs) same_terms (subst (λ (x : Numbers). AllSized left n x us) same_numbers s)

all_sized : (left : ℕ) (reader : Reader) → Sizes left reader → (opened : List (List ℕ)) (es : List Element) (n m : Numbers) (ts : List Term) →
    nodes_by reader opened es n ≡ Ok (ts, m) → AllSized left n m ts
all_sized left reader sized opened [] n m ts h =
    let p = both_same [] ts n m h in same_sized left n m n ts [] p.0 p.1 (no_more left n)
all_sized left reader sized opened (e ∷ es) n m ts h =
    let w = went (λ (r : Term × Numbers). with_first r.0 (nodes_by reader opened es r.1)) (reader e opened n) (ts, m) h in
    let v = went (λ (r : List Term × Numbers). Ok (w.0.0 ∷ r.0, r.1)) (nodes_by reader opened es w.0.1) (ts, m) w.2 in
    let p = both_same (w.0.0 ∷ v.0.0) ts v.0.1 m v.2 in
    let rest = all_sized left reader sized opened es w.0.1 v.0.1 v.0.0 v.1 in
    same_sized left n m v.0.1 ts (w.0.0 ∷ v.0.0) p.0 p.1 (one_more left n w.0.1 v.0.1 w.0.0 v.0.0 (sized e opened n w.0.1 w.0.0 w.1) rest)

-- a node of some kind, that was counted before its children
pub record NodeSized (left : ℕ) (kind : Kind) (n m : Numbers) (t : Term) : Type 0 where
  pub nodes : m.nodes + 1 ≡ n.nodes + node_count t
  pub few : m.nodes ≤ 4096
  pub scopes : m.scopes + own_scopes kind ≡ n.scopes + scope_count t
  pub few_scopes : n.scopes ≤ 256 → m.scopes ≤ 256
  pub depth : depth_of t ≤ left + 1

above : (left : ℕ) (n m : Numbers) (head : Head) (attributes : Attributes) (content : Content) (ts : List Term) → n.nodes ≤ 4096 → AllSized left n m ts →
    NodeSized left head.kind n m (term_of head attributes content ts)
above left n m head attributes content ts few s = record {
  nodes = omega (arith, s.nodes, fold-roll-Term ℕ (λ node. 1 + sum node.children) (node_in head attributes content ts));
  few = s.few few;
  scopes = omega (arith, s.scopes, fold-roll-Term ℕ (λ node. own_scopes node.kind + sum node.children) (node_in head attributes content ts));
  few_scopes = s.few_scopes;
  depth = omega (arith, s.depth, fold-roll-Term ℕ (λ node. 1 + greatest node.children) (node_in head attributes content ts));
}

node_sized : (left : ℕ) (models : Models) (below : Reader) → Sizes left below → (head : Head) (attributes : Attributes) (opened : List (List ℕ)) (children : List Element) (n m : Numbers) (uid : ℕ) (t : Term) →
    n.nodes ≤ 4096 → node_of models below head attributes opened children n uid ≡ Ok (t, m) → NodeSized left head.kind n m t
node_sized left models below sized head attributes opened children n m uid t few h =
    let w = went (λ (content : Content). go_on (node_with head attributes content) (nodes_by below opened children n)) (content_in uid models head.kind head.id head.form attributes) (t, m) h in
    let v = went (node_with head attributes w.0) (nodes_by below opened children n) (t, m) w.2 in
    let p = both_same (term_of head attributes w.0 v.0.0) t v.0.1 m v.2 in
    let s = above left n v.0.1 head attributes w.0 v.0.0 few (all_sized left below sized opened children n v.0.1 v.0.0 v.1) in
    subst (λ (x : Term). NodeSized left head.kind n m x) p.0 (subst (λ (x : Numbers). NodeSized left head.kind n x (term_of head attributes w.0 v.0.0)) p.1 s)

own_plain : (k : Kind) → is_subtree k ≡ false → own_scopes k ≡ 0
own_plain SubTree h = absurd (cc)
own_plain _ h = refl

own_subtree : (k : Kind) → is_subtree k ≡ true → own_scopes k ≡ 1
own_subtree SubTree h = refl
own_subtree _ h = absurd (cc)

plain_sized : (left : ℕ) (file : File) (below : Reader) → Sizes left below → (head : Head) (e : Element) (opened : List (List ℕ)) (n m : Numbers) (t : Term) →
    n.nodes < 4096 → is_subtree head.kind ≡ false → plain_by file below head e opened n ≡ Ok (t, m) → Sized (left + 1) n m t
plain_sized left file below sized head e opened n m t few plain h =
    let r = not_refused (not (takes head.kind (length (children_of e)))) (ChildCount (n.nodes + 1)) (node_of file.models below head (attributes_of e) opened (children_of e) (one_node_more n) (n.nodes + 1)) (t, m) h in
    let s = node_sized left file.models below sized head (attributes_of e) opened (children_of e) (one_node_more n) m (n.nodes + 1) t (omega arith) r.1 in
    record { nodes = omega (arith, s.nodes); few = s.few; scopes = omega (arith, s.scopes, own_plain head.kind plain); few_scopes = s.few_scopes; depth = s.depth }

opened_sized : (left : ℕ) (file : File) (below : Reader) → Sizes left below → (head : Head) (e : Element) (opened : List (List ℕ)) (n m : Numbers) (t : Term) (o : Option Element) →
    n.nodes < 4096 → is_subtree head.kind ≡ true → opened_by file below head e opened n o ≡ Ok (t, m) → Sized (left + 1) n m t
opened_sized left file below sized head e opened n m t None few own h = absurd (cc)
opened_sized left file below sized head e opened n m t (Some tree) few own h =
    let node = node_of file.models below head (attributes_of e) (opened ++ head.id ∷ []) (children_of tree) (one_scope_more (one_node_more n)) (n.nodes + 1) in
    let counted = refused_if (not (nat_eq (length (children_of e)) 0 && nat_eq (length (children_of tree)) 1)) (ChildCount (n.nodes + 1)) node in
    let r = not_refused (is_among head.id opened) (Recursive head.id) (refused_if (nat_le 256 n.scopes) TooManyScopes counted) (t, m) h in
    let q = not_refused (nat_le 256 n.scopes) TooManyScopes counted (t, m) r.1 in
    let p = not_refused (not (nat_eq (length (children_of e)) 0 && nat_eq (length (children_of tree)) 1)) (ChildCount (n.nodes + 1)) node (t, m) q.1 in
    let scope : n.scopes < 256 = leb-false 256 n.scopes q.0 in
    let s = node_sized left file.models below sized head (attributes_of e) (opened ++ head.id ∷ []) (children_of tree) (one_scope_more (one_node_more n)) m (n.nodes + 1) t (omega arith) p.1 in
    record { nodes = omega (arith, s.nodes); few = s.few; scopes = omega (arith, s.scopes, own_subtree head.kind own); few_scopes = λ x. s.few_scopes (omega arith); depth = s.depth }

by_kind : (left : ℕ) (file : File) (below : Reader) → Sizes left below → (head : Head) (e : Element) (opened : List (List ℕ)) (n m : Numbers) (t : Term) (b : Bool) →
    n.nodes < 4096 → is_subtree head.kind ≡ b → (if b then opened_by file below head e opened n (tree_of head.id file.trees) else plain_by file below head e opened n) ≡ Ok (t, m) → Sized (left + 1) n m t
by_kind left file below sized head e opened n m t true few own h = opened_sized left file below sized head e opened n m t (tree_of head.id file.trees) few own h
by_kind left file below sized head e opened n m t false few own h = plain_sized left file below sized head e opened n m t few own h

known_sized : (left : ℕ) (file : File) (below : Reader) → Sizes left below → (e : Element) (opened : List (List ℕ)) (n m : Numbers) (t : Term) (o : Option Head) →
    n.nodes < 4096 → known file below e opened n o ≡ Ok (t, m) → Sized (left + 1) n m t
known_sized left file below sized e opened n m t None few h = absurd (cc)
known_sized left file below sized e opened n m t (Some head) few h = by_kind left file below sized head e opened n m t (is_subtree head.kind) few refl h

-- every node that is read is within the limits
pub read_sized : (file : File) (left : ℕ) → Sizes left (read_node file left)
read_sized file zero e opened n m t h = absurd (none (not_refused (nat_le 4096 n.nodes) TooManyNodes (Err (TooDeep (n.nodes + 1))) (t, m) h).1)
  where
    none : {A : Type 0} {f : BuildFault} {x : A} → ◌≡◌ {A = Result A BuildFault} (Err f) (Ok x) → ⊥
    none g = cc
read_sized file (suc left) e opened n m t h =
    let all = known file (read_node file left) e opened n (head_of file.version (name_of e) (attributes_of e) (length (children_of e))) in
    let r = not_refused (nat_le 4096 n.nodes) TooManyNodes all (t, m) h in
    let s = known_sized left file (read_node file left) (read_sized file left) e opened n m t (head_of file.version (name_of e) (attributes_of e) (length (children_of e))) (leb-false 4096 n.nodes r.0) r.1 in
    record { nodes = s.nodes; few = s.few; scopes = s.scopes; few_scopes = s.few_scopes; depth = omega (arith, s.depth) }

-- ---- The file

deep : (t : Term) → depth_of t ≤ most_levels → depth_of t ≤ 256
unfolding most_levels
deep t h = h

yes : (b : Bool) → not b ≡ false → b ≡ true
yes true h = refl
yes false h = absurd (cc)

-- a tree that is not refused is the one that was read, with slots and work within their limits
pub record Limited (read t : Tree) : Type 0 where
  pub same : read ≡ t
  pub slots : length (slots read) ≤ 4096
  pub work : work_of read.term ≤ 100000

pub limited : (read t : Tree) → within_limits read ≡ Ok t → Limited read t
limited read t h =
    let few = nat_le (length (slots read)) 4096 in
    let little = nat_le (work_of read.term) 100000 in
    let r = not_refused (not few) TooManyKeys (refused_if (not little) TooMuchWork (Ok read)) t h in
    let q = not_refused (not little) TooMuchWork (Ok read) t r.1 in
    record { same = same_ok read t q.1; slots = leb-true (length (slots read)) 4096 (yes few r.0); work = leb-true (work_of read.term) 100000 (yes little q.0) }

within : (file : File) (id : List ℕ) (root : Element) (t : Tree) → root_read file id root ≡ Ok t → IsWithinLimits t
within file id root t h =
    let w = went (λ (r : Term × Numbers). within_limits (record { main = id; term = r.0 })) (read_root file root id) t h in
    let l = limited (record { main = id; term = w.0.0 }) t w.2 in
    let s = read_sized file most_levels root (id ∷ []) no_numbers w.0.1 w.0.0 w.1 in
    subst IsWithinLimits l.same
    (record {
      nodes = omega (arith, s.nodes, s.few);
      depth = deep w.0.0 s.depth;
      scopes = omega (arith, s.scopes, s.few_scopes (omega arith));
      slots = l.slots;
      work = l.work;
    })

of_roots : (file : File) (id : List ℕ) (roots : List Element) (t : Tree) → roots_read file id roots ≡ Ok t → IsWithinLimits t
of_roots file id [] t h = absurd (cc)
of_roots file id (root ∷ []) t h = within file id root t h
of_roots file id (root ∷ other ∷ more) t h = absurd (cc)

of_main : (file : File) (id : List ℕ) (o : Option Element) (t : Tree) → main_read file id o ≡ Ok t → IsWithinLimits t
of_main file id None t h = absurd (cc)
of_main file id (Some tree) t h = of_roots file id (children_of tree) t h

of_named : (file : File) (o : Option (List ℕ)) (t : Tree) → named_read file o ≡ Ok t → IsWithinLimits t
of_named file None t h = absurd (cc)
of_named file (Some id) t h = of_main file id (tree_of id file.trees) t h

-- what is read of a file that is not refused, and in which version
pub faultless : (o : Option ℕ) (v : Option Version) (read : Version → Result Tree BuildFault) (t : Tree) → root_faults o (read_in v read) ≡ Ok t → (version : Version) × (read version ≡ Ok t)
faultless (Some place) v read t h = absurd (cc)
faultless None None read t h = absurd (cc)
faultless None (Some version) read t h = (version, h)

-- the trees of a file, and what is read of them
pub record FileRead (models : Models) (asked : Option (List ℕ)) (root : Element) (t : Tree) : Type 0 where
  pub version : Version
  pub trees : Trees
  pub are : with_trees [] (children_of root) ≡ Ok trees
  pub read : trees_read models asked (attributes_of root) version trees ≡ Ok t

pub file_read : (models : Models) (asked : Option (List ℕ)) (root : Element) (t : Tree) → reads models asked root ≡ Ok t → FileRead models asked root t
file_read models asked root t g =
    let h = file_same models asked root ∙ g in
    let trees = with_trees [] (children_of root) in
    let read = λ (version : Version). go_on (trees_read models asked (attributes_of root) version) trees in
    let f = faultless (not_root root) (version_in (value_of (codes "BTCPP_format") (attributes_of root))) read t h in
    let w = went (trees_read models asked (attributes_of root) f.0) trees t f.1 in
    record { version = f.0; trees = w.0; are = w.1; read = w.2 }

-- a tree that a file reads as is within the limits
pub reads_within : (models : Models) (asked : Option (List ℕ)) (root : Element) (t : Tree) → reads models asked root ≡ Ok t → IsWithinLimits t
reads_within models asked root t h =
    let f = file_read models asked root t h in
    of_named (record { trees = f.trees; models = models; version = f.version }) (main_of asked (attributes_of root) f.trees) t f.read
