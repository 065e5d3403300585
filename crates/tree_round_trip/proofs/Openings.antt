-- A tree that is read opens its trees alike: what an element reads as depends on the file alone.
use Rattle.std.proofs.Common.{◌≡◌, ◌⊎◌, inl, inr, ℕ, zero, suc, ◌+◌, Bool, true, false, not, ◌&&◌, cond, if◌then◌else◌, List, [], ◌∷◌, ◌++◌, map, length, Option, Some, None, Result, Ok, Err, refl, ap, sym, ◌∙◌, subst, append_assoc}
use Rattle.std.specs.Prelude.{bytes_eq, is_some, filter_map, nat_eq, nat_le}
use Rattle.std.proofs.lemmas.Slice.Eq.{bytes_eq-Decides}
use Rattle.std.specs.Cmp.Derive.{both_true}
use Rattle.std.specs.List.{list_all, AllByRecursion}
use Rattle.std.specs.Map.{lookup}
use Rattle.spec_script.specs.declared.fault.ScriptFault.{ScriptFault}
use Rattle.spec_tree_file.specs.declared.element.Element.{Element}
use Rattle.spec_tree.specs.declared.term.Kind.{Kind}
use Rattle.spec_tree.specs.declared.term.Kind.TheVariants.{SubTree}
use Rattle.spec_tree.specs.declared.term.Term.{Term, fold-roll-Term}
use Rattle.spec_tree.specs.declared.term.Tree.{Tree}
use Rattle.spec_tree.specs.BuiltIns.{has_code, takes}
use Rattle.spec_tree.specs.Names.{is_among}
use Rattle.spec_tree_file.specs.Attributes.{Attributes}
use Rattle.spec_tree_file.specs.Models.{Models, attributes_of, children_of, name_of}
use Rattle.spec_tree_file.specs.ReadSteps.{go_on}
use Rattle.spec_tree_file.specs.declared.content.Content.{Content}
use Rattle.spec_tree_file.specs.declared.build_fault.BuildFault.{BuildFault}
use Rattle.spec_tree_file.specs.declared.build_fault.BuildFault.TheVariants.{UnknownPort, OldSubTree, BadLiteral, BadScript, TooManyNodes, TooDeep, Recursive, TooManyScopes, ChildCount}
use Rattle.spec_tree_file.specs.declared.head.Head.{Head}
use Rattle.spec_tree_file.specs.declared.numbers.Numbers.{Numbers}
use Rattle.spec_tree_file.specs.declared.version.Form.{Form}
use Rattle.spec_tree_file.specs.Content.{all_known, content_in, content_of, form_fits, rules_of, script_fault, script_names, values_stand}
use Rattle.spec_tree_file.specs.FirstFaults.{fault_if, refused_if, unless}
use Rattle.spec_tree_file.specs.Heads.{head_of}
use Rattle.spec_tree_file.specs.Reads.{File, Reader, is_subtree, known, main_of, most_levels, no_numbers, node_of, nodes_by, opened_by, read_node, reads, term_of, tree_of, within_limits}
use Rattle.tree_build.specs.ReadSteps.{main_read, named_read, node_in, node_with, one_node_more, one_scope_more, plain_by, read_root, root_read, roots_read, with_first}
use Rattle.tree_build.proofs.ElementTexts.{found}
use Rattle.tree_build.proofs.PortFits.{some_same}
use Rattle.tree_build.proofs.PortTexts.{to_not}
use Rattle.tree_build.proofs.Sizes.{both_same, file_read, limited, not_refused, same_ok, went}
use Rattle.tree_round_trip.specs.Openings.{OpensAlike, fresh_by, fresh_step, opens_fresh}
use Rattle.tree_round_trip.specs.TreeElements.{Said, Subtree, own_tree, said, said_node}
use Rattle.tree_round_trip.proofs.ReadNodes.{elements_of, opened_in}

-- ---- What the attributes of a node say does not depend on its uid

-- where the first of two results is a value, the second is the same value
abbrev Keeps : {A : Type 0} → Result A BuildFault → Result A BuildFault → Type 0
Keeps {A} r s = (x : A) → r ≡ Ok x → s ≡ Ok x

first_keeps : {A : Type 0} (b : Bool) (f g : BuildFault) (fs gs : List BuildFault) (x : A) → Keeps (unless fs x) (unless gs x) → Keeps (unless (fault_if b f ++ fs) x) (unless (fault_if b g ++ gs) x)
first_keeps true f g fs gs x kept y h = absurd (cc)
first_keeps false f g fs gs x kept y h = kept y h

scripts_keep : {A : Type 0} (u v : ℕ) (faults : List ScriptFault) (x : A) → Keeps (unless (map (BadScript u) faults) x) (unless (map (BadScript v) faults) x)
scripts_keep u v [] x y h = h
scripts_keep u v (fault ∷ faults) x y h = absurd (cc)

content_keeps : (u v : ℕ) (models : Models) (kind : Kind) (id : List ℕ) (form : Form) (A : Attributes) → Keeps (content_in u models kind id form A) (content_in v models kind id form A)
content_keeps u v models kind id form A =
    let rules = rules_of models kind id in
    let content = content_of kind form rules A in
    let scripts = filter_map (script_fault A) (script_names (has_code kind)) in
    let values = not (values_stand kind form rules A) in
    let fits = not (form_fits form A) in
    first_keeps (not (all_known (has_code kind) rules A)) (UnknownPort u) (UnknownPort v)
    (fault_if fits (OldSubTree u) ++ (fault_if values (BadLiteral u) ++ map (BadScript u) scripts)) (fault_if fits (OldSubTree v) ++ (fault_if values (BadLiteral v) ++ map (BadScript v) scripts)) content
    (first_keeps fits (OldSubTree u) (OldSubTree v) (fault_if values (BadLiteral u) ++ map (BadScript u) scripts) (fault_if values (BadLiteral v) ++ map (BadScript v) scripts) content
    (first_keeps values (BadLiteral u) (BadLiteral v) (map (BadScript u) scripts) (map (BadScript v) scripts) content (scripts_keep u v scripts content)))

-- ---- How a node was read

-- its children are its own, or those of the tree that it opens
abbrev From : File → Head → Element → List (List ℕ) → List (List ℕ) → List Element → Type 0
From file head e opened inner es =
    ((is_subtree head.kind ≡ false) × (inner ≡ opened) × (es ≡ children_of e))
    ⊎ ((is_subtree head.kind ≡ true) × (is_among head.id opened ≡ false) × (inner ≡ opened ++ head.id ∷ []) × ((tree : Element) × (tree_of head.id file.trees ≡ Some tree) × (es ≡ children_of tree)))

record NodeRead (file : File) (left : ℕ) (e : Element) (opened : List (List ℕ)) (m : Numbers) (t : Term) : Type 0 where
  head : Head
  is : head_of file.version (name_of e) (attributes_of e) (length (children_of e)) ≡ Some head
  uid : ℕ
  content : Content
  said_so : content_in uid file.models head.kind head.id head.form (attributes_of e) ≡ Ok content
  inner : List (List ℕ)
  es : List Element
  before : Numbers
  from : From file head e opened inner es
  ts : List Term
  below : nodes_by (read_node file left) inner es before ≡ Ok (ts, m)
  term : term_of head (attributes_of e) content ts ≡ t

made : (file : File) (left : ℕ) (e : Element) (opened inner : List (List ℕ)) (es : List Element) (head : Head) (n m : Numbers) (uid : ℕ) (t : Term) → head_of file.version (name_of e) (attributes_of e) (length (children_of e)) ≡ Some head →
    From file head e opened inner es → node_of file.models (read_node file left) head (attributes_of e) inner es n uid ≡ Ok (t, m) → NodeRead file left e opened m t
made file left e opened inner es head n m uid t is from h =
    let below = read_node file left in
    let A = attributes_of e in
    let w = went (λ (content : Content). go_on (node_with head A content) (nodes_by below inner es n)) (content_in uid file.models head.kind head.id head.form A) (t, m) h in
    let v = went (node_with head A w.0) (nodes_by below inner es n) (t, m) w.2 in
    let p = both_same (term_of head A w.0 v.0.0) t v.0.1 m v.2 in
    record {
      head = head;
      is = is;
      uid = uid;
      content = w.0;
      said_so = w.1;
      inner = inner;
      es = es;
      before = n;
      from = from;
      ts = v.0.0;
      below = subst (λ (k : Numbers). nodes_by below inner es n ≡ Ok (v.0.0, k)) p.1 v.1;
      term = p.0;
    }

opened_made : (file : File) (left : ℕ) (e : Element) (opened : List (List ℕ)) (head : Head) (n m : Numbers) (t : Term) (o : Option Element) → head_of file.version (name_of e) (attributes_of e) (length (children_of e)) ≡ Some head →
    is_subtree head.kind ≡ true → tree_of head.id file.trees ≡ o → opened_by file (read_node file left) head e opened n o ≡ Ok (t, m) → NodeRead file left e opened m t
opened_made file left e opened head n m t None is own there h = absurd (cc)
opened_made file left e opened head n m t (Some tree) is own there h =
    let inner = opened ++ head.id ∷ [] in
    let node = node_of file.models (read_node file left) head (attributes_of e) inner (children_of tree) (one_scope_more (one_node_more n)) (n.nodes + 1) in
    let one = nat_eq (length (children_of e)) 0 && nat_eq (length (children_of tree)) 1 in
    let counted = refused_if (not one) (ChildCount (n.nodes + 1)) node in
    let r = not_refused (is_among head.id opened) (Recursive head.id) (refused_if (nat_le 256 n.scopes) TooManyScopes counted) (t, m) h in
    let q = not_refused (nat_le 256 n.scopes) TooManyScopes counted (t, m) r.1 in
    let p = not_refused (not one) (ChildCount (n.nodes + 1)) node (t, m) q.1 in
    made file left e opened inner (children_of tree) head (one_scope_more (one_node_more n)) m (n.nodes + 1) t is (inr (own, r.0, refl, (tree, there, refl))) p.1

kind_made : (file : File) (left : ℕ) (e : Element) (opened : List (List ℕ)) (head : Head) (n m : Numbers) (t : Term) (b : Bool) → head_of file.version (name_of e) (attributes_of e) (length (children_of e)) ≡ Some head →
    is_subtree head.kind ≡ b → (if b then opened_by file (read_node file left) head e opened n (tree_of head.id file.trees) else plain_by file (read_node file left) head e opened n) ≡ Ok (t, m) → NodeRead file left e opened m t
kind_made file left e opened head n m t true is own h = opened_made file left e opened head n m t (tree_of head.id file.trees) is own refl h
kind_made file left e opened head n m t false is own h =
    let node = node_of file.models (read_node file left) head (attributes_of e) opened (children_of e) (one_node_more n) (n.nodes + 1) in
    let r = not_refused (not (takes head.kind (length (children_of e)))) (ChildCount (n.nodes + 1)) node (t, m) h in
    made file left e opened opened (children_of e) head (one_node_more n) m (n.nodes + 1) t is (inl (own, refl, refl)) r.1

known_made : (file : File) (left : ℕ) (e : Element) (opened : List (List ℕ)) (n m : Numbers) (t : Term) (o : Option Head) → head_of file.version (name_of e) (attributes_of e) (length (children_of e)) ≡ o →
    known file (read_node file left) e opened n o ≡ Ok (t, m) → NodeRead file left e opened m t
known_made file left e opened n m t None is h = absurd (cc)
known_made file left e opened n m t (Some head) is h = kind_made file left e opened head n m t (is_subtree head.kind) is refl h

read_made : (file : File) (left : ℕ) (e : Element) (opened : List (List ℕ)) (n m : Numbers) (t : Term) → read_node file (suc left) e opened n ≡ Ok (t, m) → NodeRead file left e opened m t
read_made file left e opened n m t h =
    let o = head_of file.version (name_of e) (attributes_of e) (length (children_of e)) in
    let r = not_refused (nat_le 4096 n.nodes) TooManyNodes (known file (read_node file left) e opened n o) (t, m) h in
    known_made file left e opened n m t o refl r.1

none_read : (file : File) (e : Element) (opened : List (List ℕ)) (n m : Numbers) (t : Term) → read_node file zero e opened n ≡ Ok (t, m) → ⊥
none_read file e opened n m t h =
    let r = (not_refused (nat_le 4096 n.nodes) TooManyNodes (Err (TooDeep (n.nodes + 1))) (t, m) h).1 in no r
  where
    no : {X : Type 0} {f : BuildFault} {x : X} → ◌≡◌ {A = Result X BuildFault} (Err f) (Ok x) → ⊥
    no k = cc

-- how the first of some nodes was read, and the others
record FirstRead (reader : Reader) (opened : List (List ℕ)) (e : Element) (es : List Element) (n m : Numbers) (ts : List Term) : Type 0 where
  first : Term
  between : Numbers
  rest : List Term
  is_first : reader e opened n ≡ Ok (first, between)
  are_rest : nodes_by reader opened es between ≡ Ok (rest, m)
  all : first ∷ rest ≡ ts

first_read : (reader : Reader) (opened : List (List ℕ)) (e : Element) (es : List Element) (n m : Numbers) (ts : List Term) → nodes_by reader opened (e ∷ es) n ≡ Ok (ts, m) → FirstRead reader opened e es n m ts
first_read reader opened e es n m ts h =
    let w = went (λ (r : Term × Numbers). with_first r.0 (nodes_by reader opened es r.1)) (reader e opened n) (ts, m) h in
    let v = went (λ (r : List Term × Numbers). Ok (w.0.0 ∷ r.0, r.1)) (nodes_by reader opened es w.0.1) (ts, m) w.2 in
    let p = both_same (w.0.0 ∷ v.0.0) ts v.0.1 m v.2 in
    record {
      first = w.0.0;
      between = w.0.1;
      rest = v.0.0;
      is_first = w.1;
      are_rest = subst (λ (k : Numbers). nodes_by reader opened es w.0.1 ≡ Ok (v.0.0, k)) p.1 v.1;
      all = p.0;
    }

-- ---- One element reads in one way

abbrev Same : Reader → Reader → Type 0
Same r s = (e : Element) (o p : List (List ℕ)) (n k m l : Numbers) (t u : Term) → r e o n ≡ Ok (t, m) → s e p k ≡ Ok (u, l) → t ≡ u

all_same : (r s : Reader) → Same r s → (es : List Element) (o p : List (List ℕ)) (n k m l : Numbers) (ts us : List Term) → nodes_by r o es n ≡ Ok (ts, m) → nodes_by s p es k ≡ Ok (us, l) → ts ≡ us
all_same r s same [] o p n k m l ts us h g = sym (both_same [] ts n m h).0 ∙ (both_same [] us k l g).0
all_same r s same (e ∷ es) o p n k m l ts us h g =
    let a = first_read r o e es n m ts h in
    let b = first_read s p e es k l us g in
    let first : a.first ≡ b.first = same e o p n k a.between b.between a.first b.first a.is_first b.is_first in
    let rest : a.rest ≡ b.rest = all_same r s same es o p a.between b.between m l a.rest b.rest a.are_rest b.are_rest in
    sym a.all ∙ ap (λ (t : Term). t ∷ a.rest) first ∙ ap (λ (z : List Term). b.first ∷ z) rest ∙ b.all

from_same : (file : File) (e : Element) (h k : Head) (o p i j : List (List ℕ)) (es fs : List Element) → h ≡ k → From file h e o i es → From file k e p j fs → es ≡ fs
from_same file e h k o p i j es fs same (inl a) (inl b) = a.2 ∙ sym b.2
from_same file e h k o p i j es fs same (inl a) (inr b) = let c : is_subtree h.kind ≡ is_subtree k.kind = ap (λ (x : Head). is_subtree x.kind) same in let x = a.0 in let y = b.0 in absurd (cc)
from_same file e h k o p i j es fs same (inr a) (inl b) = let c : is_subtree h.kind ≡ is_subtree k.kind = ap (λ (x : Head). is_subtree x.kind) same in let x = a.0 in let y = b.0 in absurd (cc)
from_same file e h k o p i j es fs same (inr a) (inr b) =
    let tree : a.3.0 ≡ b.3.0 = some_same a.3.0 b.3.0 (sym a.3.1 ∙ ap (λ (x : Head). tree_of x.id file.trees) same ∙ b.3.1) in
    a.3.2 ∙ ap (λ (x : Element). children_of x) tree ∙ sym b.3.2

node_same : (file : File) (a b : ℕ) (e : Element) (o p : List (List ℕ)) (m l : Numbers) (t u : Term) → Same (read_node file a) (read_node file b) → NodeRead file a e o m t → NodeRead file b e p l u → t ≡ u
node_same file a b e o p m l t u same x y =
    let A = attributes_of e in
    let head : x.head ≡ y.head = some_same x.head y.head (sym x.is ∙ y.is) in
    let moved = subst (λ (h : Head). content_in x.uid file.models h.kind h.id h.form A ≡ Ok x.content) head x.said_so in
    let content : x.content ≡ y.content = same_ok x.content y.content (sym (content_keeps x.uid y.uid file.models y.head.kind y.head.id y.head.form A x.content moved) ∙ y.said_so) in
    let es : x.es ≡ y.es = from_same file e x.head y.head o p x.inner y.inner x.es y.es head x.from y.from in
    let below = subst (λ (z : List Element). nodes_by (read_node file a) x.inner z x.before ≡ Ok (x.ts, m)) es x.below in
    let ts : x.ts ≡ y.ts = all_same (read_node file a) (read_node file b) same y.es x.inner y.inner x.before y.before m l x.ts y.ts below y.below in
    sym x.term
    ∙ ap (λ (h : Head). term_of h A x.content x.ts) head
    ∙ ap (λ (c : Content). term_of y.head A c x.ts) content
    ∙ ap (λ (z : List Term). term_of y.head A y.content z) ts
    ∙ y.term

reads_same : (file : File) (a b : ℕ) → Same (read_node file a) (read_node file b)
reads_same file zero b e o p n k m l t u h g = absurd (none_read file e o n m t h)
reads_same file (suc a) zero e o p n k m l t u h g = absurd (none_read file e p k l u g)
reads_same file (suc a) (suc b) e o p n k m l t u h g = node_same file a b e o p m l t u (reads_same file a b) (read_made file a e o n m t h) (read_made file b e p k l u g)

-- ---- No tree is opened in itself

abbrev Fresh : Reader → Type 0
Fresh reader = (e : Element) (opened : List (List ℕ)) (n m : Numbers) (t : Term) → reader e opened n ≡ Ok (t, m) → opens_fresh t opened ≡ true

abbrev all_open : List Term → List (List ℕ) → Bool
all_open ts opened = list_all (λ (child : List (List ℕ) → Bool). child opened) (map opens_fresh ts)

all_fresh : (reader : Reader) → Fresh reader → (opened : List (List ℕ)) (es : List Element) (n m : Numbers) (ts : List Term) → nodes_by reader opened es n ≡ Ok (ts, m) → all_open ts opened ≡ true
all_fresh reader fresh opened [] n m ts h = subst (λ (z : List Term). all_open z opened ≡ true) (both_same [] ts n m h).0 refl
all_fresh reader fresh opened (e ∷ es) n m ts h =
    let f = first_read reader opened e es n m ts h in
    subst (λ (z : List Term). all_open z opened ≡ true) f.all
    (both_true (fresh e opened n f.between f.first f.is_first) (all_fresh reader fresh opened es f.between m f.rest f.are_rest))

plain_fresh : (kind : Kind) (id : List ℕ) (ts : List Term) (opened : List (List ℕ)) → is_subtree kind ≡ false → all_open ts opened ≡ true → fresh_by kind id (map opens_fresh ts) opened ≡ true
plain_fresh SubTree id ts opened h all = absurd (cc)
plain_fresh kind id ts opened h all = all

subtree_fresh : (kind : Kind) (id : List ℕ) (ts : List Term) (opened : List (List ℕ)) → is_subtree kind ≡ true → is_among id opened ≡ false → all_open ts (opened ++ id ∷ []) ≡ true →
    fresh_by kind id (map opens_fresh ts) opened ≡ true
subtree_fresh SubTree id ts opened h new all = both_true (to_not (is_among id opened) new) all
subtree_fresh kind id ts opened h new all = absurd (cc)

from_fresh : (file : File) (head : Head) (e : Element) (opened inner : List (List ℕ)) (es : List Element) (ts : List Term) → From file head e opened inner es → all_open ts inner ≡ true →
    fresh_by head.kind head.id (map opens_fresh ts) opened ≡ true
from_fresh file head e opened inner es ts (inl a) all = plain_fresh head.kind head.id ts opened a.0 (subst (λ (o : List (List ℕ)). all_open ts o ≡ true) a.1 all)
from_fresh file head e opened inner es ts (inr a) all = subtree_fresh head.kind head.id ts opened a.0 a.1 (subst (λ (o : List (List ℕ)). all_open ts o ≡ true) a.2 all)

read_fresh : (file : File) (left : ℕ) → Fresh (read_node file left)
read_fresh file zero e opened n m t h = absurd (none_read file e opened n m t h)
read_fresh file (suc left) e opened n m t h =
    let x = read_made file left e opened n m t h in
    let below = all_fresh (read_node file left) (read_fresh file left) x.inner x.es x.before m x.ts x.below in
    subst (λ (z : Term). opens_fresh z opened ≡ true) x.term
    (ap (λ (f : List (List ℕ) → Bool). f opened) (fold-roll-Term (List (List ℕ) → Bool) fresh_step (node_in x.head (attributes_of e) x.content x.ts)) ∙ from_fresh file x.head e opened x.inner x.es x.ts x.from below)

-- ---- Each opened tree is what the file's tree of its ID reads as

-- these elements read as these terms
abbrev ReadBy : File → List Element → List Term → Type 0
ReadBy file es ts = (left : ℕ) × (opened : List (List ℕ)) × (n : Numbers) × (m : Numbers) × (nodes_by (read_node file left) opened es n ≡ Ok (ts, m))

record SaidBy (file : File) (t : Subtree) : Type 0 where
  tree : Element
  there : tree_of t.0 file.trees ≡ Some tree
  ts : List Term
  read : ReadBy file (children_of tree) ts
  is : elements_of ts ≡ t.1

abbrev AllSaid : File → List Subtree → Type 0
AllSaid file ts = AllByRecursion (SaidBy file) ts

joined : (file : File) (ts us : List Subtree) → AllSaid file ts → AllSaid file us → AllSaid file (ts ++ us)
joined file [] us p q = q
joined file (t ∷ ts) us p q = (p.0, joined file ts us p.1 q)

abbrev SaysAll : File → Reader → Type 0
SaysAll file reader = (e : Element) (opened : List (List ℕ)) (n m : Numbers) (t : Term) → reader e opened n ≡ Ok (t, m) → AllSaid file (said t).opened

all_say : (file : File) (reader : Reader) → SaysAll file reader → (opened : List (List ℕ)) (es : List Element) (n m : Numbers) (ts : List Term) → nodes_by reader opened es n ≡ Ok (ts, m) → AllSaid file (opened_in ts)
all_say file reader says opened [] n m ts h = let none : AllSaid file (opened_in []) = tt in subst (λ (z : List Term). AllSaid file (opened_in z)) (both_same [] ts n m h).0 none
all_say file reader says opened (e ∷ es) n m ts h =
    let f = first_read reader opened e es n m ts h in
    subst (λ (z : List Term). AllSaid file (opened_in z)) f.all
    (joined file (said f.first).opened (opened_in f.rest) (says e opened n f.between f.first f.is_first) (all_say file reader says opened es f.between m f.rest f.are_rest))

no_own : (file : File) (kind : Kind) (id : List ℕ) (es : List Element) → is_subtree kind ≡ false → AllSaid file (own_tree kind id es)
no_own file SubTree id es h = absurd (cc)
no_own file kind id es h = tt

one_own : (file : File) (kind : Kind) (id : List ℕ) (es : List Element) → SaidBy file (id, es) → AllSaid file (own_tree kind id es)
one_own file SubTree id es s = (s, tt)
one_own file kind id es s = tt

own_said : (file : File) (left : ℕ) (head : Head) (e : Element) (opened inner : List (List ℕ)) (es : List Element) (n m : Numbers) (ts : List Term) → From file head e opened inner es →
    nodes_by (read_node file left) inner es n ≡ Ok (ts, m) → AllSaid file (own_tree head.kind head.id (elements_of ts))
own_said file left head e opened inner es n m ts (inl a) h = no_own file head.kind head.id (elements_of ts) a.0
own_said file left head e opened inner es n m ts (inr a) h =
    one_own file head.kind head.id (elements_of ts)
    (record {
      tree = a.3.0;
      there = a.3.1;
      ts = ts;
      read = (left, inner, n, m, subst (λ (z : List Element). nodes_by (read_node file left) inner z n ≡ Ok (ts, m)) a.3.2 h);
      is = refl;
    })

read_says : (file : File) (left : ℕ) → SaysAll file (read_node file left)
read_says file zero e opened n m t h = absurd (none_read file e opened n m t h)
read_says file (suc left) e opened n m t h =
    let x = read_made file left e opened n m t h in
    let node = node_in x.head (attributes_of e) x.content x.ts in
    subst (λ (z : Term). AllSaid file (said z).opened) x.term
    (subst (λ (s : Said). AllSaid file s.opened) (sym (fold-roll-Term Said said_node node))
    (joined file (own_tree x.head.kind x.head.id (elements_of x.ts)) (opened_in x.ts) (own_said file left x.head e opened x.inner x.es x.before m x.ts x.from x.below)
    (all_say file (read_node file left) (read_says file left) x.inner x.es x.before m x.ts x.below)))

said_same : (file : File) (id : List ℕ) (a b : List Element) → SaidBy file (id, a) → SaidBy file (id, b) → a ≡ b
said_same file id a b x y =
    let tree : x.tree ≡ y.tree = some_same x.tree y.tree (sym x.there ∙ y.there) in
    let below = subst (λ (z : Element). nodes_by (read_node file x.read.0) x.read.1 (children_of z) x.read.2 ≡ Ok (x.ts, x.read.3)) tree x.read.4 in
    let ts : x.ts ≡ y.ts =
    all_same (read_node file x.read.0) (read_node file y.read.0) (reads_same file x.read.0 y.read.0) (children_of y.tree) x.read.1 y.read.1 x.read.2 y.read.2 x.read.3 y.read.3 x.ts y.ts below y.read.4 in
    sym x.is ∙ ap (λ (z : List Term). elements_of z) ts ∙ y.is

there_after : (id : List ℕ) (front : List Subtree) (t : Subtree) (ts : List Subtree) → bytes_eq id t.0 ≡ true → is_some (lookup (bytes_eq id) (front ++ t ∷ ts)) ≡ true
there_after id [] t ts h = ap (λ (b : Bool). is_some (cond b (Some t.1) (lookup (bytes_eq id) ts))) h
there_after id (u ∷ front) t ts h = by_first (bytes_eq id u.0) (there_after id front t ts h)
  where
    by_first : (b : Bool) → is_some (lookup (bytes_eq id) (front ++ t ∷ ts)) ≡ true → is_some (cond b (Some u.1) (lookup (bytes_eq id) (front ++ t ∷ ts))) ≡ true
    by_first true rest = refl
    by_first false rest = rest

first_said : (file : File) (whole : List Subtree) (t : Subtree) (o : Option (List Element)) → AllSaid file whole → SaidBy file t → lookup (bytes_eq t.0) whole ≡ o → is_some o ≡ true → o ≡ Some t.1
first_said file whole t None all s is some = absurd (cc)
first_said file whole t (Some es) all s is some = ap (λ (x : List Element). Some x) (said_same file t.0 es t.1 (found (SaidBy file) t.0 whole es all is) s)

alike_by : (file : File) (whole front ts : List Subtree) → whole ≡ front ++ ts → AllSaid file whole → AllSaid file ts → AllByRecursion (λ t. lookup (bytes_eq t.0) whole ≡ Some t.1) ts
alike_by file whole front [] is all s = tt
alike_by file whole front (t ∷ ts) is all s =
    let some = ap (λ (z : List Subtree). is_some (lookup (bytes_eq t.0) z)) is ∙ there_after t.0 front t ts ((bytes_eq-Decides t.0 t.0).1 refl) in
    (first_said file whole t (lookup (bytes_eq t.0) whole) all s.0 refl some, alike_by file whole (front ++ t ∷ []) ts (is ∙ sym (append_assoc front (t ∷ []) ts)) all s.1)

-- ---- The file

root_opens : (file : File) (id : List ℕ) (root : Element) (t : Tree) → root_read file id root ≡ Ok t → OpensAlike t
root_opens file id root t h =
    let w = went (λ (r : Term × Numbers). within_limits (record { main = id; term = r.0 })) (read_root file root id) t h in
    let all = read_says file most_levels root (id ∷ []) no_numbers w.0.1 w.0.0 w.1 in
    subst OpensAlike (limited (record { main = id; term = w.0.0 }) t w.2).same
    (record { fresh = read_fresh file most_levels root (id ∷ []) no_numbers w.0.1 w.0.0 w.1; alike = alike_by file (said w.0.0).opened [] (said w.0.0).opened refl all all })

roots_open : (file : File) (id : List ℕ) (roots : List Element) (t : Tree) → roots_read file id roots ≡ Ok t → OpensAlike t
roots_open file id [] t h = absurd (cc)
roots_open file id (root ∷ []) t h = root_opens file id root t h
roots_open file id (root ∷ other ∷ more) t h = absurd (cc)

main_opens : (file : File) (id : List ℕ) (o : Option Element) (t : Tree) → main_read file id o ≡ Ok t → OpensAlike t
main_opens file id None t h = absurd (cc)
main_opens file id (Some tree) t h = roots_open file id (children_of tree) t h

named_opens : (file : File) (o : Option (List ℕ)) (t : Tree) → named_read file o ≡ Ok t → OpensAlike t
named_opens file None t h = absurd (cc)
named_opens file (Some id) t h = main_opens file id (tree_of id file.trees) t h

-- a tree that is read opens its trees alike
pub reads_alike : (models : Models) (asked : Option (List ℕ)) (root : Element) (t : Tree) → reads models asked root ≡ Ok t → OpensAlike t
reads_alike models asked root t h =
    let f = file_read models asked root t h in
    named_opens (record { trees = f.trees; models = models; version = f.version }) (main_of asked (attributes_of root) f.trees) t f.read
