-- Every node of a tree that is read fits its kind.
use Rattle.std.proofs.Common.{◌≡◌, ℕ, zero, suc, ◌+◌, Bool, true, false, List, [], ◌∷◌, ◌++◌, map, length, Option, Some, None, Result, Ok, Err, refl, ap, sym, ◌∙◌, subst}
use Rattle.std.specs.Prelude.{not, ◌&&◌, nat_eq, nat_le, if◌then◌else◌, is_some, flat_map, IfOk}
use Rattle.std.specs.List.{list_all, AllByRecursion}
use Rattle.std.proofs.lemmas.List.{length-map}
use Rattle.std.proofs.lemmas.List.Concat.{flat_map-cons}
use Rattle.spec_script.proofs.Bools.{both}
use Rattle.base_texts.specs.Stops.{Gives}
use Rattle.spec_script.specs.Texts.{value_stands}
use Rattle.base_texts.specs.declared.stop.Stop.{Stop}
use Rattle.spec_tree_file.specs.declared.element.Element.{Element}
use Rattle.tree_elements.specs.Valid.{IsValid as IsValidElement}
use Rattle.spec_tree_file.specs.Marks.{no_name_twice}
use Rattle.tree_elements.specs.Written.{can_be_written, can_stand}
use Rattle.tree_elements.proofs.Writing.{spelled_stands}
use Rattle.spec_tree.specs.declared.term.Kind.{Kind}
use Rattle.spec_tree.specs.declared.term.Kind.TheVariants.{SubTree}
use Rattle.spec_tree.specs.declared.term.Term.{Term, fold-roll-Term}
use Rattle.spec_tree.specs.declared.term.Tree.{Tree}
use Rattle.spec_tree.specs.BuiltIns.{takes}
use Rattle.spec_tree.specs.Names.{is_among}
use Rattle.spec_tree.specs.Trees.{IsValid, Node, NodeFits, nodes_of, nodes_step}
use Rattle.spec_tree_file.specs.Attributes.{Attributes}
use Rattle.spec_tree_file.specs.Models.{Models, attributes_of, children_of, manifest_in, name_of}
use Rattle.spec_tree_file.specs.ReadSteps.{go_on}
use Rattle.spec_tree_file.specs.declared.content.Content.{Content}
use Rattle.spec_tree_file.specs.declared.build_fault.BuildFault.{BuildFault}
use Rattle.spec_tree_file.specs.declared.build_fault.BuildFault.TheVariants.{TooManyNodes, TooDeep, Recursive, TooManyScopes, ChildCount, DoubleTree}
use Rattle.spec_tree_file.specs.declared.head.Head.{Head}
use Rattle.spec_tree_file.specs.declared.numbers.Numbers.{Numbers}
use Rattle.spec_tree_file.specs.Content.{content_in}
use Rattle.spec_tree_file.specs.FirstFaults.{refused_if}
use Rattle.spec_tree_file.specs.Heads.{head_of, id_or_empty}
use Rattle.spec_tree_file.specs.Reads.{File, Reader, Trees, is_subtree, is_tree, known, main_of, most_levels, no_numbers, node_of, nodes_by, opened_by, read_node, reads, term_of, tree_of, within_limits}
use Rattle.tree_build.specs.ReadSteps.{main_read, named_read, node_in, node_with, one_node_more, one_scope_more, plain_by, read_root, root_read, roots_read, with_first, with_id, with_tree, with_trees}
use Rattle.tree_build.proofs.ContentFits.{ContentStands, Fitting, content_fits, content_stands}
use Rattle.tree_build.proofs.ElementTexts.{element_stands, found, head_stands, id_stands, name_in_stands}
use Rattle.tree_build.proofs.HeadFits.{HeadFits, head_fits}
use Rattle.tree_build.proofs.ModelTexts.{ModelsStand, manifest_stands}
use Rattle.tree_build.proofs.Sizes.{both_same, file_read, limited, not_refused, reads_within, same_ok, went}

-- all nodes of a term fit
abbrev pub TermFits : Term → Type 0
TermFits t = AllByRecursion NodeFits (nodes_of t)

joined : (ns ms : List Node) → AllByRecursion NodeFits ns → AllByRecursion NodeFits ms → AllByRecursion NodeFits (ns ++ ms)
joined [] ms a b = b
joined (n ∷ ns) ms a b = (a.0, joined ns ms a.1 b)

all_joined : (ts : List Term) → AllByRecursion TermFits ts → AllByRecursion NodeFits (flat_map (λ nodes. nodes) (map nodes_of ts))
all_joined [] a = tt
all_joined (t ∷ ts) a =
    subst (λ (ns : List Node). AllByRecursion NodeFits ns) (sym (flat_map-cons (λ (nodes : List Node). nodes) (nodes_of t) (map nodes_of ts)))
    (joined (nodes_of t) (flat_map (λ nodes. nodes) (map nodes_of ts)) a.0 (all_joined ts a.1))

above : (head : Head) (attributes : Attributes) (content : Content) (ts : List Term) → Fitting head.kind head.id content → ContentStands content → value_stands head.id ≡ true →
    list_all can_stand attributes ≡ true → takes head.kind (length ts) ≡ true → AllByRecursion TermFits ts → TermFits (term_of head attributes content ts)
above head attributes content ts f texts id stand count all =
    subst (λ (ns : List Node). AllByRecursion NodeFits ns) (sym (fold-roll-Term (List Node) nodes_step (node_in head attributes content ts))) (
      record {
        children = ap (λ (n : ℕ). takes head.kind n) (length-map ts nodes_of) ∙ count;
        id = f.id;
        ports = f.ports;
        code = f.code;
        guards = f.guards;
        autoremap = f.autoremap;
        texts = record {
          id = id;
          name = name_in_stands attributes head.id stand id;
          ports = texts.ports.stand;
          apart = texts.ports.apart;
          code = texts.code;
          guards = texts.guards;
        };
      },
      all_joined ts all,
    )

-- each element that can be written is read as a term that fits
abbrev Fits : Reader → Type 0
Fits reader = (e : Element) (opened : List (List ℕ)) (n m : Numbers) (t : Term) → can_be_written e ≡ true → reader e opened n ≡ Ok (t, m) → TermFits t

all_fit : (reader : Reader) → Fits reader → (opened : List (List ℕ)) (es : List Element) (n m : Numbers) (ts : List Term) →
    list_all can_be_written es ≡ true → nodes_by reader opened es n ≡ Ok (ts, m) → AllByRecursion TermFits ts × (length ts ≡ length es)
all_fit reader fits opened [] n m ts c h =
    subst (λ (us : List Term). AllByRecursion TermFits us × (length us ≡ 0)) (both_same [] ts n m h).0 (tt, refl)
all_fit reader fits opened (e ∷ es) n m ts c h =
    let d = both (can_be_written e) (list_all can_be_written es) c in
    let w = went (λ (r : Term × Numbers). with_first r.0 (nodes_by reader opened es r.1)) (reader e opened n) (ts, m) h in
    let v = went (λ (r : List Term × Numbers). Ok (w.0.0 ∷ r.0, r.1)) (nodes_by reader opened es w.0.1) (ts, m) w.2 in
    let rest = all_fit reader fits opened es w.0.1 v.0.1 v.0.0 d.1 v.1 in
    subst (λ (us : List Term). AllByRecursion TermFits us × (length us ≡ length (e ∷ es))) (both_same (w.0.0 ∷ v.0.0) ts v.0.1 m v.2).0
    ((fits e opened n w.0.1 w.0.0 d.0 w.1, rest.0), ap (λ (k : ℕ). suc k) rest.1)

-- the trees and the models of a file can be written
record FileStands (file : File) : Type 0 where
  trees : AllByRecursion (λ t. (value_stands t.0 ≡ true) × (can_be_written t.1 ≡ true)) file.trees
  models : ModelsStand file.models

-- a head of an element that can be written
record HeadStands (head : Head) (attributes : Attributes) : Type 0 where
  fits : HeadFits head
  id : value_stands head.id ≡ true
  written : list_all can_stand attributes ≡ true
  single : no_name_twice attributes ≡ true

node_fits : (models : Models) (below : Reader) → Fits below → (head : Head) (attributes : Attributes) (opened : List (List ℕ)) (children : List Element) (n m : Numbers) (uid : ℕ) (t : Term) →
    ModelsStand models → HeadStands head attributes → list_all can_be_written children ≡ true → takes head.kind (length children) ≡ true →
    node_of models below head attributes opened children n uid ≡ Ok (t, m) → TermFits t
node_fits models below fits head attributes opened children n m uid t stand is_head c count h =
    let w = went (λ (content : Content). go_on (node_with head attributes content) (nodes_by below opened children n)) (content_in uid models head.kind head.id head.form attributes) (t, m) h in
    let v = went (node_with head attributes w.0) (nodes_by below opened children n) (t, m) w.2 in
    let all = all_fit below fits opened children n v.0.1 v.0.0 c v.1 in
    subst TermFits (both_same (term_of head attributes w.0 v.0.0) t v.0.1 m v.2).0
    (above head attributes w.0 v.0.0 (content_fits uid models head attributes w.0 is_head.fits w.1)
    (content_stands uid models head attributes w.0 stand is_head.fits is_head.written is_head.single w.1) is_head.id is_head.written
    (ap (λ (k : ℕ). takes head.kind k) all.1 ∙ count) all.0)

yes : (b : Bool) → not b ≡ false → b ≡ true
yes true h = refl
yes false h = absurd (cc)

subtree_takes : (k : Kind) (n : ℕ) → is_subtree k ≡ true → nat_eq n 1 ≡ true → takes k n ≡ true
subtree_takes SubTree n h e = e
subtree_takes _ n h e = absurd (cc)

second : (a b : Bool) → (a && b) ≡ true → b ≡ true
second true b h = h
second false b h = absurd (cc)

plain_fits : (file : File) (below : Reader) → Fits below → (head : Head) (e : Element) (opened : List (List ℕ)) (n m : Numbers) (t : Term) →
    FileStands file → HeadStands head (attributes_of e) → can_be_written e ≡ true → plain_by file below head e opened n ≡ Ok (t, m) → TermFits t
plain_fits file below fits head e opened n m t stand is_head c h =
    let r = not_refused (not (takes head.kind (length (children_of e)))) (ChildCount (n.nodes + 1)) (node_of file.models below head (attributes_of e) opened (children_of e) (one_node_more n) (n.nodes + 1)) (t, m) h in
    node_fits file.models below fits head (attributes_of e) opened (children_of e) (one_node_more n) m (n.nodes + 1) t stand.models is_head (element_stands e c).children
    (yes (takes head.kind (length (children_of e))) r.0) r.1

opened_fits : (file : File) (below : Reader) → Fits below → (head : Head) (e : Element) (opened : List (List ℕ)) (n m : Numbers) (t : Term) (o : Option Element) →
    FileStands file → HeadStands head (attributes_of e) → is_subtree head.kind ≡ true → tree_of head.id file.trees ≡ o → opened_by file below head e opened n o ≡ Ok (t, m) → TermFits t
opened_fits file below fits head e opened n m t None stand is_head own is h = absurd (cc)
opened_fits file below fits head e opened n m t (Some tree) stand is_head own is h =
    let node = node_of file.models below head (attributes_of e) (opened ++ head.id ∷ []) (children_of tree) (one_scope_more (one_node_more n)) (n.nodes + 1) in
    let one = nat_eq (length (children_of e)) 0 && nat_eq (length (children_of tree)) 1 in
    let counted = refused_if (not one) (ChildCount (n.nodes + 1)) node in
    let r = not_refused (is_among head.id opened) (Recursive head.id) (refused_if (nat_le 256 n.scopes) TooManyScopes counted) (t, m) h in
    let q = not_refused (nat_le 256 n.scopes) TooManyScopes counted (t, m) r.1 in
    let p = not_refused (not one) (ChildCount (n.nodes + 1)) node (t, m) q.1 in
    let count = second (nat_eq (length (children_of e)) 0) (nat_eq (length (children_of tree)) 1) (yes one p.0) in
    let there = found (λ (x : List ℕ × Element). (value_stands x.0 ≡ true) × (can_be_written x.1 ≡ true)) head.id file.trees tree stand.trees is in
    node_fits file.models below fits head (attributes_of e) (opened ++ head.id ∷ []) (children_of tree) (one_scope_more (one_node_more n)) m (n.nodes + 1) t stand.models is_head
    (element_stands tree there.1).children (subtree_takes head.kind (length (children_of tree)) own count) p.1

by_kind : (file : File) (below : Reader) → Fits below → (head : Head) (e : Element) (opened : List (List ℕ)) (n m : Numbers) (t : Term) (b : Bool) →
    FileStands file → HeadStands head (attributes_of e) → can_be_written e ≡ true → is_subtree head.kind ≡ b →
    (if b then opened_by file below head e opened n (tree_of head.id file.trees) else plain_by file below head e opened n) ≡ Ok (t, m) → TermFits t
by_kind file below fits head e opened n m t true stand is_head c own h = opened_fits file below fits head e opened n m t (tree_of head.id file.trees) stand is_head own refl h
by_kind file below fits head e opened n m t false stand is_head c own h = plain_fits file below fits head e opened n m t stand is_head c h

known_fits : (file : File) (below : Reader) → Fits below → (e : Element) (opened : List (List ℕ)) (n m : Numbers) (t : Term) (o : Option Head) → FileStands file → can_be_written e ≡ true →
    head_of file.version (name_of e) (attributes_of e) (length (children_of e)) ≡ o → known file below e opened n o ≡ Ok (t, m) → TermFits t
known_fits file below fits e opened n m t None stand c is h = absurd (cc)
known_fits file below fits e opened n m t (Some head) stand c is h =
    let s = element_stands e c in
    by_kind file below fits head e opened n m t (is_subtree head.kind) stand
    (record {
      fits = head_fits file.version (name_of e) (attributes_of e) (length (children_of e)) head is;
      id = head_stands file.version (name_of e) (attributes_of e) (length (children_of e)) head s.name s.attributes is;
      written = s.attributes;
      single = s.single;
    }) c refl h

no_read : {X : Type 0} (f : BuildFault) (x : X) → ◌≡◌ {A = Result X BuildFault} (Err f) (Ok x) → ⊥
no_read f x h = cc

read_fits : (file : File) → FileStands file → (left : ℕ) → Fits (read_node file left)
read_fits file stand zero e opened n m t c h =
    absurd (no_read (TooDeep (n.nodes + 1)) (t, m) (not_refused (nat_le 4096 n.nodes) TooManyNodes (Err (TooDeep (n.nodes + 1))) (t, m) h).1)
read_fits file stand (suc left) e opened n m t c h =
    let all = known file (read_node file left) e opened n (head_of file.version (name_of e) (attributes_of e) (length (children_of e))) in
    let r = not_refused (nat_le 4096 n.nodes) TooManyNodes all (t, m) h in
    known_fits file (read_node file left) (read_fits file stand left) e opened n m t (head_of file.version (name_of e) (attributes_of e) (length (children_of e))) stand c refl r.1

-- ---- The file

-- what is so of a tree that is read
abbrev TreeFits : Tree → Type 0
TreeFits t = TermFits t.term × (value_stands t.main ≡ true)

of_root : (file : File) (id : List ℕ) (root : Element) (t : Tree) → FileStands file → value_stands id ≡ true → can_be_written root ≡ true → root_read file id root ≡ Ok t → TreeFits t
of_root file id root t stand v c h =
    let w = went (λ (r : Term × Numbers). within_limits (record { main = id; term = r.0 })) (read_root file root id) t h in
    subst TreeFits (limited (record { main = id; term = w.0.0 }) t w.2).same (read_fits file stand most_levels root (id ∷ []) no_numbers w.0.1 w.0.0 c w.1, v)

of_roots : (file : File) (id : List ℕ) (roots : List Element) (t : Tree) → FileStands file → value_stands id ≡ true → list_all can_be_written roots ≡ true → roots_read file id roots ≡ Ok t → TreeFits t
of_roots file id [] t stand v c h = absurd (cc)
of_roots file id (root ∷ []) t stand v c h = of_root file id root t stand v (both (can_be_written root) true c).0 h
of_roots file id (root ∷ other ∷ more) t stand v c h = absurd (cc)

of_main : (file : File) (id : List ℕ) (o : Option Element) (t : Tree) → FileStands file → tree_of id file.trees ≡ o → main_read file id o ≡ Ok t → TreeFits t
of_main file id None t stand is h = absurd (cc)
of_main file id (Some tree) t stand is h =
    let there = found (λ (x : List ℕ × Element). (value_stands x.0 ≡ true) × (can_be_written x.1 ≡ true)) id file.trees tree stand.trees is in
    of_roots file id (children_of tree) t stand there.0 (element_stands tree there.1).children h

of_named : (file : File) (o : Option (List ℕ)) (t : Tree) → FileStands file → named_read file o ≡ Ok t → TreeFits t
of_named file None t stand h = absurd (cc)
of_named file (Some id) t stand h = of_main file id (tree_of id file.trees) t stand refl h

-- ---- The trees of a file

abbrev TreesStand : Trees → Type 0
TreesStand trees = AllByRecursion (λ t. (value_stands t.0 ≡ true) × (can_be_written t.1 ≡ true)) trees

one_tree_more : (trees : Trees) (id : List ℕ) (e : Element) → TreesStand trees → value_stands id ≡ true → can_be_written e ≡ true → TreesStand (trees ++ (id, e) ∷ [])
one_tree_more [] id e all v c = ((v, c), tt)
one_tree_more (t ∷ trees) id e all v c = (all.0, one_tree_more trees id e all.1 v c)

id_by : (trees new : Trees) (e : Element) (id : List ℕ) (b : Bool) → TreesStand trees → value_stands id ≡ true → can_be_written e ≡ true →
    (if b then Err (DoubleTree id) else Ok (trees ++ (id, e) ∷ [])) ≡ Ok new → TreesStand new
id_by trees new e id true all v c h = absurd (cc)
id_by trees new e id false all v c h = subst TreesStand (same_ok (trees ++ (id, e) ∷ []) new h) (one_tree_more trees id e all v c)

tree_by : (trees new : Trees) (e : Element) (b : Bool) → TreesStand trees → can_be_written e ≡ true → (if b then with_id trees e (id_or_empty (attributes_of e)) else Ok trees) ≡ Ok new → TreesStand new
tree_by trees new e true all c h =
    let id = id_or_empty (attributes_of e) in id_by trees new e id (is_some (tree_of id trees)) all (id_stands (attributes_of e) (element_stands e c).attributes) c h
tree_by trees new e false all c h = subst TreesStand (same_ok trees new h) all

trees_stand : (trees new : Trees) (es : List Element) → TreesStand trees → list_all can_be_written es ≡ true → with_trees trees es ≡ Ok new → TreesStand new
trees_stand trees new [] all c h = subst TreesStand (same_ok trees new h) all
trees_stand trees new (e ∷ es) all c h =
    let d = both (can_be_written e) (list_all can_be_written es) c in
    let w = went (λ (next : Trees). with_trees next es) (with_tree trees e) new h in
    trees_stand w.0 new es (tree_by trees w.0 e (is_tree (name_of e)) all d.0 w.1) d.1 w.2

-- a tree that a valid file reads as is valid
pub reads_valid : (models : Models) (asked : Option (List ℕ)) (root : Element) (t : Tree) → IsValidElement root → manifest_in root ≡ Ok models → reads models asked root ≡ Ok t → IsValid t
reads_valid models asked root t spelled manifest h =
    let c = spelled_stands spelled.0 root spelled.2 in
    let s = element_stands root c in
    let f = file_read models asked root t h in
    let file : File = record { trees = f.trees; models = models; version = f.version } in
    let stand : FileStands file = record { trees = trees_stand [] f.trees (children_of root) tt s.children f.are; models = manifest_stands root models c manifest } in
    let fit = of_named file (main_of asked (attributes_of root) f.trees) t stand f.read in
    record { limits = reads_within models asked root t h; main = fit.1; fit = fit.0 }

pub gives_valid : (r : Result Tree (Stop BuildFault)) (models : Models) (asked : Option (List ℕ)) (root : Element) → IsValidElement root → manifest_in root ≡ Ok models → Gives r (reads models asked root) → IfOk r IsValid
gives_valid (Ok t) models asked root spelled manifest h = reads_valid models asked root t spelled manifest h
gives_valid (Err e) models asked root spelled manifest h = tt
