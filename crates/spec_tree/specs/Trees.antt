-- Which trees are valid: what the readers of trees give, and what printing needs. Which can be run: what a run needs.
use Rattle.std.specs.Prelude.{◌≡◌, ℕ, ◌+◌, ◌≤◌, List, [], ◌∷◌, length, map, Bool, true, false, not, ◌&&◌, if◌then◌else◌, IsTrue, Option, Some, None}
use Rattle.std.specs.List.{list_all, flat_map, AllByRecursion}
use Rattle.std.specs.Str.{bytes_eq}
use Rattle.spec_script.specs.declared.syntax.Script.{Script}
use Rattle.spec_script.specs.Identifiers.{is_identifier}
use Rattle.spec_script.specs.Reading.{ReadsScript}
use Rattle.spec_script.specs.Texts.{name_stands, value_stands}
use Rattle.spec_tree.specs.declared.built_ins.Range.TheVariants.{AnyValue}
use Rattle.spec_tree.specs.declared.term.Guards.{Guards}
use Rattle.spec_tree.specs.declared.term.Kind.{Kind}
use Rattle.spec_tree.specs.declared.term.Kind.TheVariants.{SubTree, Leaf}
use Rattle.spec_tree.specs.declared.term.Port.{Port}
use Rattle.spec_tree.specs.declared.term.Term.{Term, Term-F, fold-Term}
use Rattle.spec_tree.specs.declared.term.Tree.{Tree}
use Rattle.spec_tree.specs.Boards.{slots}
use Rattle.spec_tree.specs.BuiltIns.{PortRule, has_code, kind_named, ports_of, takes}
use Rattle.spec_tree.specs.Limits.{most_depth, most_keys, most_nodes, most_scopes, most_work}
use Rattle.spec_tree.specs.Names.{is_among}
use Rattle.spec_tree.specs.PrintedTree.{port_text}
use Rattle.spec_tree.specs.Terms.{depth_of, node_count, scope_count, work_of}
use Rattle.spec_tree.specs.Values.{is_port_name, value_fits}

-- a built-in node has its own name as its ID, and a leaf has none of these names
abbrev pub IdFits : Kind → List ℕ → Type 0
IdFits SubTree id = Unit {0}
IdFits Leaf id = kind_named id ≡ None
IdFits kind id = kind_named id ≡ Some kind

-- the names of some ports
abbrev pub names_of : List Port → List (List ℕ)
names_of ports = map (λ port. port.name) ports

-- whether a port is one of these, with a value of its range
abbrev pub is_one_of : List PortRule → Port → Bool
is_one_of [] port = false
is_one_of (rule ∷ rules) port = if bytes_eq port.name rule.name then value_fits rule.range port.value else is_one_of rules port

-- A SubTree's ports are identifiers, and a leaf's may have any name. Every other node has each of its own ports, and no
-- other.
abbrev pub ports_fit : Kind → List Port → Bool
ports_fit SubTree ports = list_all (λ port. is_identifier port.name && value_fits AnyValue port.value) ports
ports_fit Leaf ports = list_all (λ port. value_fits AnyValue port.value) ports
ports_fit kind ports =
    list_all (is_one_of (ports_of kind)) ports && list_all (λ rule. is_among rule.name (names_of ports)) (ports_of kind)

-- a script is one that its own text reads as
abbrev pub ScriptFits : Option Script → Type 0
ScriptFits None = Unit {0}
ScriptFits (Some script) = ReadsScript script.text script

-- a node has a code exactly where its kind asks for one
abbrev pub CodeFits : Bool → Option Script → Type 0
CodeFits true None = ⊥
CodeFits true code = ScriptFits code
CodeFits false None = Unit {0}
CodeFits false code = ⊥

-- each guard is a script that its own text reads as
pub record GuardsFit (guards : Guards) : Type 0 where
  pub failure_if : ScriptFits guards.failure_if
  pub success_if : ScriptFits guards.success_if
  pub skip_if : ScriptFits guards.skip_if
  pub while_true : ScriptFits guards.while_true
  pub on_success : ScriptFits guards.on_success
  pub on_failure : ScriptFits guards.on_failure
  pub post : ScriptFits guards.post
  pub on_halted : ScriptFits guards.on_halted

-- only a SubTree node has all its keys mapped
abbrev pub autoremap_fits : Kind → Bool → Bool
autoremap_fits SubTree autoremap = true
autoremap_fits kind autoremap = not autoremap

-- a node with the number of its children in their place
pub record Node : Type 0 where
  pub kind : Kind
  pub id : List ℕ
  pub name : List ℕ
  pub ports : List Port
  pub code : Option Script
  pub guards : Guards
  pub autoremap : Bool
  pub children : ℕ

-- the nodes of a term in pre-order, where those of its children are known
abbrev pub nodes_step : Term-F (List Node) → List Node
nodes_step node = (record {
  kind = node.kind;
  id = node.id;
  name = node.name;
  ports = node.ports;
  code = node.code;
  guards = node.guards;
  autoremap = node.autoremap;
  children = length node.children;
}) ∷ flat_map (λ nodes. nodes) node.children

-- the nodes of a term in pre-order
abbrev pub nodes_of : Term → List Node
nodes_of = fold-Term (List Node) nodes_step

-- whether no name stands twice
abbrev pub all_differ : List (List ℕ) → Bool
all_differ [] = true
all_differ (name ∷ names) = not (is_among name names) && all_differ names

-- a port that can be written as an attribute
abbrev pub port_stands : Port → Bool
port_stands port = is_port_name port.name && (name_stands port.name && value_stands (port_text port.value))

-- whether a script, where there is one, can be written as an attribute
abbrev pub script_stands : Option Script → Bool
script_stands None = true
script_stands (Some script) = value_stands script.text

-- whether each guard can be written
abbrev pub guards_stand : Guards → Bool
guards_stand g =
    script_stands g.failure_if
    && (script_stands g.success_if
    && (script_stands g.skip_if
    && (script_stands g.while_true
    && (script_stands g.on_success && (script_stands g.on_failure && (script_stands g.post && script_stands g.on_halted))))))

-- all texts of a node can be written in a tree file, and no port twice
pub record TextsFit (node : Node) : Type 0 where
  pub id : IsTrue (value_stands node.id)
  pub name : IsTrue (value_stands node.name)
  pub ports : IsTrue (list_all port_stands node.ports)
  pub apart : IsTrue (all_differ (names_of node.ports))
  pub code : IsTrue (script_stands node.code)
  pub guards : IsTrue (guards_stand node.guards)

-- a node has the children, the ports and the scripts that its kind asks, and can be written
pub record NodeFits (node : Node) : Type 0 where
  pub children : IsTrue (takes node.kind node.children)
  pub id : IdFits node.kind node.id
  pub ports : IsTrue (ports_fit node.kind node.ports)
  pub code : CodeFits (has_code node.kind) node.code
  pub guards : GuardsFit node.guards
  pub autoremap : IsTrue (autoremap_fits node.kind node.autoremap)
  pub texts : TextsFit node

-- The nodes of a tree, their depth, the scopes, the main one counted, the slots, and the visits that a visit of the root
-- may make are not too many.
pub record IsWithinLimits (tree : Tree) : Type 0 where
  pub nodes : node_count tree.term ≤ most_nodes
  pub depth : depth_of tree.term ≤ most_depth
  pub scopes : 1 + scope_count tree.term ≤ most_scopes
  pub slots : length (slots tree) ≤ most_keys
  pub work : work_of tree.term ≤ most_work

-- A tree is valid where it is within the limits, its ID can be written, and each of its nodes fits.
pub record IsValid (tree : Tree) : Type 0 where
  pub limits : IsWithinLimits tree
  pub main : IsTrue (value_stands tree.main)
  pub fit : AllByRecursion NodeFits (nodes_of tree.term)
