-- The tree that the document element of a tree file reads as, or the first fault.
use Rattle.std.specs.Prelude.{ℕ, zero, suc, ◌+◌, List, [], ◌∷◌, ◌++◌, map, filter, find, length, codes, Bool, true, false, not, is_some, ◌&&◌, ◌||◌, nat_eq, nat_le, if◌then◌else◌, Option, Some, None, option_map, option_to_list, ok_or, unwrap_or, Result, Ok, Err}
use Rattle.std.specs.Map.{lookup}
use Rattle.std.specs.Str.{bytes_eq}
use Rattle.spec_tree_file.specs.declared.element.Element.{Element}
use Rattle.spec_tree.specs.declared.term.Kind.{Kind}
use Rattle.spec_tree.specs.declared.term.Kind.TheVariants.{SubTree}
use Rattle.spec_tree.specs.declared.term.Term.{Term, roll-Term}
use Rattle.spec_tree.specs.declared.term.Tree.{Tree}
use Rattle.spec_tree.specs.Boards.{slots}
use Rattle.spec_tree.specs.BuiltIns.{takes}
use Rattle.spec_tree.specs.Limits.{most_nodes, most_depth, most_scopes, most_keys, most_work}
use Rattle.spec_tree.specs.Names.{is_among}
use Rattle.spec_tree.specs.Terms.{work_of}
use Rattle.spec_tree_file.specs.Attributes.{Attributes, value_of}
use Rattle.spec_tree_file.specs.Models.{Models, attributes_of, children_of, name_of, place_of}
use Rattle.spec_tree_file.specs.declared.build_fault.BuildFault.{BuildFault}
use Rattle.spec_tree_file.specs.declared.build_fault.BuildFault.TheVariants.{NotRoot, Format, DoubleTree, NoMain, NoTree, TooManyNodes, TooDeep, UnknownNode, Recursive, TooManyScopes, ChildCount, TooManyKeys, TooMuchWork}
use Rattle.spec_tree_file.specs.declared.numbers.Numbers.{Numbers}
use Rattle.spec_tree_file.specs.declared.content.Content.{Content}
use Rattle.spec_tree_file.specs.declared.head.Head.{Head}
use Rattle.spec_tree_file.specs.declared.version.Version.{Version}
use Rattle.spec_tree_file.specs.Content.{content_in}
use Rattle.spec_tree_file.specs.FirstFaults.{◌>>=◌, refused_if, unless}
use Rattle.spec_tree_file.specs.Heads.{head_of, id_or_empty}
use Rattle.spec_tree_file.specs.Versions.{version_in}

-- the trees of a file by their IDs, in the order of the file
abbrev pub Trees : Type 0
Trees = List (List ℕ × Element)

-- the tree of this ID
abbrev pub tree_of : List ℕ → Trees → Option Element
tree_of id trees = lookup (bytes_eq id) trees

-- what a file defines: its trees, and the models of its leaves; and the version that its nodes are read in
pub record File : Type 0 where
  pub trees : Trees
  pub models : Models
  pub version : Version

-- how a node is read, where so many levels are left for it and below it: from its element, the IDs of the trees that are
-- being opened, and the numbers of nodes and scopes before it
abbrev pub Reader : Type 0
Reader = Element → List (List ℕ) → Numbers → Result (Term × Numbers) BuildFault

-- some nodes, one after another
abbrev pub nodes_by : Reader → List (List ℕ) → List Element → Numbers → Result (List Term × Numbers) BuildFault
nodes_by reader opened [] numbers = Ok ([], numbers)
nodes_by reader opened (e ∷ es) numbers =
    reader e opened numbers >>= λ first.
    nodes_by reader opened es first.1 >>= λ others.
    Ok (first.0 ∷ others.0, others.1)

-- a node of all that was read; its name is its ID where no other is written
abbrev pub term_of : Head → Attributes → Content → List Term → Term
term_of head attributes content children = roll-Term (record {
  kind = head.kind;
  id = head.id;
  name = unwrap_or (value_of (codes "name") attributes) head.id;
  ports = content.ports;
  code = content.code;
  guards = content.guards;
  autoremap = content.autoremap;
  children = children;
})

-- a node of this kind and ID, with these elements as its children: what its attributes say comes before its children
abbrev pub node_of : Models → Reader → Head → Attributes → List (List ℕ) → List Element → Numbers → ℕ → Result (Term × Numbers) BuildFault
node_of models below head attributes opened children numbers uid =
    content_in uid models head.kind head.id head.form attributes >>= λ content.
    nodes_by below opened children numbers >>= λ nodes.
    Ok (term_of head attributes content nodes.0, nodes.1)

-- a SubTree node, whose tree is this element: it opens a scope, and has the root of the tree as its one child
abbrev pub opened_by : File → Reader → Head → Element → List (List ℕ) → Numbers → Option Element → Result (Term × Numbers) BuildFault
opened_by file below head e opened numbers None = Err (NoTree head.id)
opened_by file below head e opened numbers (Some tree) =
    refused_if (is_among head.id opened) (Recursive head.id)
    (refused_if (nat_le most_scopes numbers.scopes) TooManyScopes
    (refused_if (not (nat_eq (length (children_of e)) 0 && nat_eq (length (children_of tree)) 1)) (ChildCount (numbers.nodes + 1))
    (node_of file.models below head (attributes_of e) (opened ++ head.id ∷ []) (children_of tree)
    (record { nodes = numbers.nodes + 1; scopes = numbers.scopes + 1 }) (numbers.nodes + 1))))

-- whether a kind is a SubTree
abbrev pub is_subtree : Kind → Bool
is_subtree SubTree = true
is_subtree _ = false

-- a node of this kind and ID; if it is no SubTree node, so many children have to be of its kind
abbrev pub node_by : File → Reader → Head → Element → List (List ℕ) → Numbers → Result (Term × Numbers) BuildFault
node_by file below head e opened numbers =
    if is_subtree head.kind then opened_by file below head e opened numbers (tree_of head.id file.trees)
    else refused_if (not (takes head.kind (length (children_of e)))) (ChildCount (numbers.nodes + 1))
    (node_of file.models below head (attributes_of e) opened (children_of e)
    (record { nodes = numbers.nodes + 1; scopes = numbers.scopes }) (numbers.nodes + 1))

-- an element as the node that it is, if it is one
abbrev pub known : File → Reader → Element → List (List ℕ) → Numbers → Option Head → Result (Term × Numbers) BuildFault
known file below e opened numbers None = Err (UnknownNode (numbers.nodes + 1))
known file below e opened numbers (Some head) = node_by file below head e opened numbers

-- A node, where so many levels are left. The nodes of a tree are numbered from 1 as they are reached.
abbrev pub read_node : File → ℕ → Reader
read_node file zero e opened numbers = refused_if (nat_le most_nodes numbers.nodes) TooManyNodes (Err (TooDeep (numbers.nodes + 1)))
read_node file (suc left) e opened numbers =
    refused_if (nat_le most_nodes numbers.nodes) TooManyNodes
    (known file (read_node file left) e opened numbers (head_of file.version (name_of e) (attributes_of e) (length (children_of e))))

-- ---- The file

-- whether an element of this name is a tree
abbrev pub is_tree : List ℕ → Bool
is_tree name = bytes_eq name (codes "BehaviorTree")

-- whether an element of this name may stand in the document element
abbrev pub may_stand : List ℕ → Bool
may_stand name = is_tree name || bytes_eq name (codes "TreeNodesModel")

-- the place of the document element, where it is no root, or of the first in it that may not stand there
abbrev pub stray : Element → Option ℕ
stray root =
    if bytes_eq (name_of root) (codes "root") then option_map place_of (find (λ e. not (may_stand (name_of e))) (children_of root)) else Some (place_of root)

-- the trees among these elements, by their IDs
abbrev pub trees_among : List Element → Trees
trees_among elements = map (λ e. (id_or_empty (attributes_of e), e)) (filter (λ e. is_tree (name_of e)) elements)

-- the first ID of a tree that an earlier one has
abbrev pub repeated : Trees → Trees → Option (List ℕ)
repeated earlier [] = None
repeated earlier (tree ∷ trees) = if is_some (tree_of tree.0 earlier) then Some tree.0 else repeated (earlier ++ tree ∷ []) trees

-- the only one of some
abbrev pub only : {A : Type 0} → List A → Option A
only (x ∷ []) = Some x
only all = None

-- the ID of the only tree
abbrev pub only_id : Trees → Option (List ℕ)
only_id (tree ∷ []) = Some tree.0
only_id trees = None

-- the first that is there
abbrev pub or_else : {A : Type 0} → Option A → Option A → Option A
or_else (Some x) other = Some x
or_else None other = other

-- the main tree: the one that is asked for, else the one that the file names, else its only one
abbrev pub main_of : Option (List ℕ) → Attributes → Trees → Option (List ℕ)
main_of asked attributes trees = or_else asked (or_else (value_of (codes "main_tree_to_execute") attributes) (only_id trees))

-- before the first node: one scope is there, the main one
abbrev pub no_numbers : Numbers
no_numbers = record { nodes = 0; scopes = 1 }

-- the levels that are left for a root node
unfoldable pub most_levels : ℕ
most_levels = most_depth

-- the tree, where its slots and then its work are within their limits
abbrev pub within_limits : Tree → Result Tree BuildFault
within_limits tree =
    refused_if (not (nat_le (length (slots tree)) most_keys)) TooManyKeys
    (refused_if (not (nat_le (work_of tree.term) most_work)) TooMuchWork (Ok tree))

-- The tree that a file's document element reads as, with its models, and with the main tree that is asked for, if one is. The faults
-- come in this order.
abbrev pub reads : Models → Option (List ℕ) → Element → Result Tree BuildFault
reads models asked root =
    unless (option_to_list (option_map NotRoot (stray root))) root >>= λ _.
    ok_or (version_in (value_of (codes "BTCPP_format") (attributes_of root))) Format >>= λ version.
    unless (option_to_list (option_map DoubleTree (repeated [] (trees_among (children_of root))))) (trees_among (children_of root)) >>= λ trees.
    ok_or (main_of asked (attributes_of root) trees) NoMain >>= λ id.
    ok_or (tree_of id trees) (NoTree id) >>= λ tree.
    ok_or (only (children_of tree)) (ChildCount 0) >>= λ node.
    read_node (record { trees = trees; models = models; version = version }) most_levels node (id ∷ []) no_numbers >>= λ read.
    within_limits (record { main = id; term = read.0 })
