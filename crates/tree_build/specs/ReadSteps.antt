-- How the trees of a file are read, step by step. Only clauses of private functions cite this; it is proved to be `Reads`.
use Rattle.std.specs.Prelude.{ℕ, ◌+◌, List, [], ◌∷◌, ◌++◌, length, codes, not, is_some, if◌then◌else◌, Option, Some, None, unwrap_or, Result, Ok, Err}
use Rattle.std.specs.Str.{bytes_eq}
use Rattle.spec_tree_file.specs.declared.element.Element.{Element}
use Rattle.spec_tree.specs.declared.term.Term.{Term, Term-F}
use Rattle.spec_tree.specs.declared.term.Tree.{Tree}
use Rattle.spec_tree.specs.BuiltIns.{takes}
use Rattle.spec_tree_file.specs.Attributes.{Attributes, value_of}
use Rattle.spec_tree_file.specs.Models.{Models, attributes_of, children_of, name_of, place_of}
use Rattle.spec_tree_file.specs.ReadSteps.{go_on}
use Rattle.spec_tree_file.specs.declared.build_fault.BuildFault.{BuildFault}
use Rattle.spec_tree_file.specs.declared.build_fault.BuildFault.TheVariants.{NotRoot, Format, DoubleTree, NoMain, NoTree, ChildCount}
use Rattle.spec_tree_file.specs.declared.numbers.Numbers.{Numbers}
use Rattle.spec_tree_file.specs.declared.content.Content.{Content}
use Rattle.spec_tree_file.specs.declared.head.Head.{Head}
use Rattle.spec_tree_file.specs.declared.version.Version.{Version}
use Rattle.spec_tree_file.specs.FirstFaults.{refused_if}
use Rattle.spec_tree_file.specs.Heads.{id_or_empty}
use Rattle.spec_tree_file.specs.Reads.{File, Reader, Trees, is_tree, main_of, may_stand, most_levels, no_numbers, node_of, read_node, term_of, tree_of, within_limits}
use Rattle.spec_tree_file.specs.Versions.{version_in}

-- ---- Nodes

-- one node before the others
abbrev pub with_first : Term → Result (List Term × Numbers) BuildFault → Result (List Term × Numbers) BuildFault
with_first term rest = go_on (λ r. Ok (term ∷ r.0, r.1)) rest

-- the numbers with a node more
abbrev pub one_node_more : Numbers → Numbers
one_node_more numbers = record { nodes = numbers.nodes + 1; scopes = numbers.scopes }

-- the numbers with a scope more
abbrev pub one_scope_more : Numbers → Numbers
one_scope_more numbers = record { nodes = numbers.nodes; scopes = numbers.scopes + 1 }

-- the name of a node is its ID where no other is written
abbrev pub name_in : Attributes → List ℕ → List ℕ
name_in attributes id = unwrap_or (value_of (codes "name") attributes) id

-- a node of all that was read
abbrev pub node_in : Head → Attributes → Content → List Term → Term-F Term
node_in head attributes content children = record {
  kind = head.kind;
  id = head.id;
  name = name_in attributes head.id;
  ports = content.ports;
  code = content.code;
  guards = content.guards;
  autoremap = content.autoremap;
  children = children;
}

-- a node of all that was read, with the numbers after it
abbrev pub node_with : Head → Attributes → Content → List Term × Numbers → Result (Term × Numbers) BuildFault
node_with head attributes content below = Ok (term_of head attributes content below.0, below.1)

-- any other node, of whose kind so many children have to be
abbrev pub plain_by : File → Reader → Head → Element → List (List ℕ) → Numbers → Result (Term × Numbers) BuildFault
plain_by file below head e opened numbers =
    refused_if (not (takes head.kind (length (children_of e)))) (ChildCount (numbers.nodes + 1))
    (node_of file.models below head (attributes_of e) opened (children_of e) (one_node_more numbers) (numbers.nodes + 1))

-- ---- The file

-- the first of these elements that may not stand in a file
abbrev pub stray_place : List Element → Option ℕ
stray_place [] = None
stray_place (e ∷ es) = if may_stand (name_of e) then stray_place es else Some (place_of e)

-- the place of what is no root, if anything is none
abbrev pub not_root : Element → Option ℕ
not_root root = if bytes_eq (name_of root) (codes "root") then stray_place (children_of root) else Some (place_of root)

-- the trees with one of this ID, which no earlier one may have
abbrev pub with_id : Trees → Element → List ℕ → Result Trees BuildFault
with_id trees e id = if is_some (tree_of id trees) then Err (DoubleTree id) else Ok (trees ++ (id, e) ∷ [])

-- the trees with that of this element, where it is one
abbrev pub with_tree : Trees → Element → Result Trees BuildFault
with_tree trees e = if is_tree (name_of e) then with_id trees e (id_or_empty (attributes_of e)) else Ok trees

-- the trees with those of these elements
abbrev pub with_trees : Trees → List Element → Result Trees BuildFault
with_trees trees [] = Ok trees
with_trees trees (e ∷ es) = go_on (λ more. with_trees more es) (with_tree trees e)

-- the term of a root node, the tree of which has this ID
abbrev pub read_root : File → Element → List ℕ → Result (Term × Numbers) BuildFault
read_root file root id = read_node file most_levels root (id ∷ []) no_numbers

-- the tree of this ID and root node
abbrev pub root_read : File → List ℕ → Element → Result Tree BuildFault
root_read file id root = go_on (λ read. within_limits (record { main = id; term = read.0 })) (read_root file root id)

-- a tree has one root
abbrev pub roots_read : File → List ℕ → List Element → Result Tree BuildFault
roots_read file id (root ∷ []) = root_read file id root
roots_read file id roots = Err (ChildCount 0)

-- the tree of this ID
abbrev pub main_read : File → List ℕ → Option Element → Result Tree BuildFault
main_read file id None = Err (NoTree id)
main_read file id (Some tree) = roots_read file id (children_of tree)

-- the main tree, if there is one
abbrev pub named_read : File → Option (List ℕ) → Result Tree BuildFault
named_read file None = Err NoMain
named_read file (Some id) = main_read file id (tree_of id file.trees)

-- the main tree of a file with these trees
abbrev pub trees_read : Models → Option (List ℕ) → Attributes → Version → Trees → Result Tree BuildFault
trees_read models asked attributes version trees = named_read (record { trees = trees; models = models; version = version }) (main_of asked attributes trees)

-- what is read in the version of the file, where it has one
abbrev pub read_in : Option Version → (Version → Result Tree BuildFault) → Result Tree BuildFault
read_in None read = Err Format
read_in (Some version) read = read version

-- the fault of what is no root comes before all that is read
abbrev pub root_faults : Option ℕ → Result Tree BuildFault → Result Tree BuildFault
root_faults (Some place) read = Err (NotRoot place)
root_faults None read = read

-- the tree that a file's document element reads as, with its models, and with the main tree that is asked for, if one is
abbrev pub file_steps : Models → Option (List ℕ) → Element → Result Tree BuildFault
file_steps models asked root =
    root_faults (not_root root)
    (read_in (version_in (value_of (codes "BTCPP_format") (attributes_of root)))
    (λ version. go_on (trees_read models asked (attributes_of root) version) (with_trees [] (children_of root))))
