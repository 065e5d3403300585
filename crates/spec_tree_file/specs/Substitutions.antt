-- The tree that a test runs in the place of a tree: its nodes without children are replaced by rules.
use Rattle.std.specs.Prelude.{ℕ, pos, List, [], ◌∷◌, ◌++◌, map, codes, Bool, true, false, nat_le, length, if◌then◌else◌, Option, Some, None, Result, Ok, Err}
use Rattle.std.specs.Str.{bytes_eq}
use Rattle.spec_script.specs.declared.syntax.Script.{Script}
use Rattle.spec_script.specs.declared.value.Value.TheVariants.{Int}
use Rattle.spec_tree.specs.declared.term.Guards.{Guards}
use Rattle.spec_tree.specs.declared.term.Kind.{Kind}
use Rattle.spec_tree.specs.declared.term.Kind.TheVariants.{AlwaysFailure, AlwaysSuccess, Delay, Leaf, SubTree}
use Rattle.spec_tree.specs.declared.term.Port.{Port}
use Rattle.spec_tree.specs.declared.term.PortValue.TheVariants.{Lit}
use Rattle.spec_tree.specs.declared.term.Term.{Term, Term-F, fold-Term, roll-Term}
use Rattle.spec_tree.specs.declared.term.Tree.{Tree}
use Rattle.spec_tree.specs.Boards.{slots}
use Rattle.spec_tree.specs.Limits.{most_depth, most_keys, most_nodes, most_work}
use Rattle.spec_tree.specs.Terms.{depth_of, node_count, work_of}
use Rattle.spec_tree_file.specs.Patterns.{matches}
use Rattle.spec_tree_file.specs.declared.mock_fault.MockFault.{MockFault}
use Rattle.spec_tree_file.specs.declared.mock_fault.MockFault.TheVariants.{TooManyNodes, TooDeep, TooManyKeys, TooMuchWork}
use Rattle.spec_tree_file.specs.declared.mock_rules.Configuration.{Configuration}
use Rattle.spec_tree_file.specs.declared.mock_rules.ReturnStatus.{ReturnStatus}
use Rattle.spec_tree_file.specs.declared.mock_rules.ReturnStatus.TheVariants.{Success, Failure}
use Rattle.spec_tree_file.specs.declared.mock_rules.Rule.{Rule}
use Rattle.spec_tree_file.specs.declared.mock_rules.Rules.{Rules}

-- ---- Which rule a node has

-- what the paths below a node begin with: the names of the SubTree nodes down to it, each followed by `/`
abbrev pub inside : Kind → List ℕ → List ℕ → List ℕ
inside SubTree name above = above ++ (name ++ codes "/")
inside _ name above = above

-- the first of some rules whose pattern matches a path
abbrev pub rule_of : List Rule → List ℕ → Option Rule
rule_of [] path = None
rule_of (rule ∷ rules) path = if matches rule.pattern path then Some rule else rule_of rules path

-- the first of some configurations that has a name
abbrev pub configuration_of : List Configuration → List ℕ → Option Configuration
configuration_of [] name = None
configuration_of (configuration ∷ configurations) name =
    if bytes_eq configuration.name name then Some configuration else configuration_of configurations name

-- ---- What takes the place of a node

-- guards of which only `_post` may be there
abbrev pub only_post : Option Script → Guards
only_post script = record {
  failure_if = None;
  success_if = None;
  skip_if = None;
  while_true = None;
  on_success = None;
  on_failure = None;
  post = script;
  on_halted = None;
}

-- the built-in leaf that always answers this, and its ID
abbrev pub always_kind : ReturnStatus → Kind
always_kind Success = AlwaysSuccess
always_kind Failure = AlwaysFailure

abbrev pub always_id : ReturnStatus → List ℕ
always_id Success = codes "AlwaysSuccess"
always_id Failure = codes "AlwaysFailure"

-- that leaf, with this name and these guards
abbrev pub always : ReturnStatus → List ℕ → Guards → Term
always status name guards = roll-Term (record {
  kind = always_kind status;
  id = always_id status;
  name = name;
  ports = [];
  code = None;
  guards = guards;
  autoremap = false;
  children = [];
})

-- a leaf of this ID, with the name, the ports and the guards of a node
abbrev pub leaf : List ℕ → Term-F Term → Term
leaf id node = roll-Term (record {
  kind = Leaf;
  id = id;
  name = node.name;
  ports = node.ports;
  code = None;
  guards = node.guards;
  autoremap = false;
  children = [];
})

-- the port `delay_msec` of a Delay of so many milliseconds
abbrev pub delay_port : ℕ → Port
delay_port ms = record { name = codes "delay_msec"; value = Lit (Int (pos ms)) }

-- the leaf that answers as a configuration says, with its script
abbrev pub answering : Configuration → Term
answering c = always c.return_status (always_id c.return_status) (only_post c.post_script)

-- a Delay over that leaf, with the name and the guards of a node
abbrev pub delayed : Configuration → Term-F Term → Term
delayed c node = roll-Term (record {
  kind = Delay;
  id = codes "Delay";
  name = node.name;
  ports = delay_port c.async_delay ∷ [];
  code = None;
  guards = node.guards;
  autoremap = false;
  children = answering c ∷ [];
})

-- what takes the place of a node by a name that is no configuration's: one of the two built-in leaves, or a leaf of that ID
abbrev pub by_id : List ℕ → Term-F Term → Term
by_id id node =
    if bytes_eq id (codes "AlwaysSuccess") then always Success node.name node.guards
    else (if bytes_eq id (codes "AlwaysFailure") then always Failure node.name node.guards else leaf id node)

-- a configuration's name comes first
abbrev pub by_name : Option Configuration → List ℕ → Term-F Term → Term
by_name (Some c) name node = delayed c node
by_name None name node = by_id name node

-- what takes the place of a node by its rule; without one it stays
abbrev pub by_rule : List Configuration → Option Rule → Term-F Term → Term
by_rule configurations (Some rule) node = by_name (configuration_of configurations rule.replacement) rule.replacement node
by_rule configurations None node = roll-Term node

-- ---- The tree

-- a node over these children
abbrev pub with_children : {A : Type 0} → Term-F A → List Term → Term-F Term
with_children node children = record {
  kind = node.kind;
  id = node.id;
  name = node.name;
  ports = node.ports;
  code = node.code;
  guards = node.guards;
  autoremap = node.autoremap;
  children = children;
}

-- A node whose path begins with this text, where its children are known by what their paths begin with: only nodes without
-- children are replaced.
abbrev pub node_by : Rules → Term-F (List ℕ → Term) → List (List ℕ → Term) → List ℕ → Term
node_by rules node [] above = by_rule rules.configurations (rule_of rules.rules (above ++ node.name)) (with_children node [])
node_by rules node children above = roll-Term (with_children node (map (λ child. child (inside node.kind node.name above)) children))

-- a term with its nodes replaced by rules, where the paths of its nodes begin with this text
abbrev pub replaced : Rules → Term → List ℕ → Term
replaced rules = fold-Term (List ℕ → Term) (λ node above. node_by rules node node.children above)

-- a tree with its nodes replaced
abbrev pub with_mocks : Tree → Rules → Tree
with_mocks tree rules = record { main = tree.main; term = replaced rules tree.term [] }

-- ---- The limits

-- a fault where something is not so, else what comes after it
abbrev pub unless : Bool → MockFault → Option MockFault → Option MockFault
unless true fault others = others
unless false fault others = Some fault

-- the limit that a tree passes first, of nodes, depth, entries and work
abbrev pub passed_limit : Tree → Option MockFault
passed_limit tree =
    unless (nat_le (node_count tree.term) most_nodes) TooManyNodes
    (unless (nat_le (depth_of tree.term) most_depth) TooDeep
    (unless (nat_le (length (slots tree)) most_keys) TooManyKeys
    (unless (nat_le (work_of tree.term) most_work) TooMuchWork None)))

-- a tree, or the limit that it passes
abbrev pub refused_by : Option MockFault → Tree → Result Tree MockFault
refused_by None tree = Ok tree
refused_by (Some fault) tree = Err fault

abbrev pub within_limits : Tree → Result Tree MockFault
within_limits tree = refused_by (passed_limit tree) tree

-- the tree that is run in the place of this one, or the limit that it passes
abbrev pub substitute : Tree → Rules → Result Tree MockFault
substitute tree rules = within_limits (with_mocks tree rules)
