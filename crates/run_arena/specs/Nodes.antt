-- The nodes of an arena as nodes of a term.
use Rattle.std.specs.Prelude.{◌≡◌, ℕ, ◌≤◌, List, [], length, map, slice_index_or, Bool, false, ◌||◌, is_some, Option, Some, None, MatchOption}
use Rattle.std.specs.List.{All}
use Rattle.spec_script.specs.declared.syntax.Script.{Script}
use Rattle.script_code.specs.declared.codes.Code.{Code}
use Rattle.script_code.specs.Codes.{needed, program}
use Rattle.script_code.specs.Programs.{program_of}
use Rattle.spec_run.specs.declared.memory.Memo.TheVariants.{Nothing}
use Rattle.spec_run.specs.declared.status.Status.TheVariants.{Idle}
use Rattle.spec_tree.specs.declared.term.Guards.{Guards}
use Rattle.spec_tree.specs.declared.term.Kind.TheVariants.{Leaf, AlwaysSuccess}
use Rattle.spec_tree.specs.declared.term.Port.{Port}
use Rattle.spec_world.specs.declared.world.Row.{Row}
use Rattle.spec_world.specs.Worlds.{is_told, outs_told}
use Rattle.spec_tree.specs.BuiltIns.{PortRule, ports_of}
use Rattle.spec_run.specs.Leaf.{rule_of}
use Rattle.spec_run.specs.Leaves.{row_of}
use Rattle.spec_run.specs.Sites.{View}
use Rattle.spec_tree.specs.Trees.{Node as TreeNode}
use Rattle.base_tables.specs.Runnable.{NodeRuns}
use Rattle.run_driver.specs.Ready.{ready_told}
use Rattle.run_driver.specs.Rules.{rule}
use Rattle.run_arena.specs.declared.nodes.Kept.{Kept}
use Rattle.run_arena.specs.declared.nodes.Node.{Node}
use Rattle.run_arena.specs.declared.nodes.ReadyGuards.{ReadyGuards}
use Rattle.run_arena.specs.declared.nodes.ReadyLeaf.{ReadyLeaf}
use Rattle.run_arena.specs.Rows.{TellsEachOnce, output_names}
use Rattle.run_arena.specs.Sources.{IsSourceOf, slot_in_view, source_at}
use Rattle.spec_run.specs.Joins.{is_leaf}

-- ---- Places

abbrev pub no_guards : ReadyGuards
no_guards = record {
  before = false;
  after = false;
  failure_if = None;
  success_if = None;
  skip_if = None;
  while_true = None;
  on_success = None;
  on_failure = None;
  post = None;
  on_halted = None;
}

-- the node at place 0, which belongs to no term
abbrev pub nobody : Node
nobody = record { kind = AlwaysSuccess; size = 0; children = 0; child_uids = []; code = None; guards = no_guards; ports = []; leaf = None }

-- what a node keeps before its first visit, and after a quench
abbrev pub at_rest : Kept
at_rest = record { status = Idle; memo = Nothing; held = false }

-- the node of a uid
abbrev pub node_at : List Node → ℕ → Node
node_at nodes uid = slice_index_or nodes uid nobody

abbrev pub leaf_at : List Node → ℕ → Option ReadyLeaf
leaf_at nodes uid = (node_at nodes uid).leaf

-- what the node of a uid keeps
abbrev pub kept_at : List Kept → ℕ → Kept
kept_at kept uid = slice_index_or kept uid at_rest

-- ---- Scripts

-- a code does what its script does in the scope of a view, and needs no more slots than the view has
pub record IsCodeOf (view : View) (script : Script) (code : Code) : Type 0 where
  pub meaning : program code ≡ program_of (slot_in_view view) script.stmts
  pub reach : needed code ≤ length view.slots

-- there is a code exactly where there is a script
abbrev pub IsCompiled : View → Option Script → Option Code → Type 0
IsCompiled view None None = Unit {0}
IsCompiled view (Some script) (Some code) = IsCodeOf view script code
IsCompiled view _ _ = ⊥

-- whether a guard is there that may answer before a visit, and whether one is there that runs after an answer
abbrev pub has_before : Guards → Bool
has_before guards = is_some guards.failure_if || (is_some guards.success_if || (is_some guards.skip_if || is_some guards.while_true))

abbrev pub has_after : Guards → Bool
has_after guards = is_some guards.on_success || (is_some guards.on_failure || is_some guards.post)

pub record AreCompiled (view : View) (guards : Guards) (ready : ReadyGuards) : Type 0 where
  pub before : ready.before ≡ has_before guards
  pub after : ready.after ≡ has_after guards
  pub failure_if : IsCompiled view guards.failure_if ready.failure_if
  pub success_if : IsCompiled view guards.success_if ready.success_if
  pub skip_if : IsCompiled view guards.skip_if ready.skip_if
  pub while_true : IsCompiled view guards.while_true ready.while_true
  pub on_success : IsCompiled view guards.on_success ready.on_success
  pub on_failure : IsCompiled view guards.on_failure ready.on_failure
  pub post : IsCompiled view guards.post ready.post
  pub on_halted : IsCompiled view guards.on_halted ready.on_halted

-- ---- Leaves

-- a leaf follows this row, with its ports resolved in a view
pub record IsLeafOf (view : View) (ports : List Port) (leaf : ReadyLeaf) (row : Row) : Type 0 where
  pub rule : rule leaf.row ≡ rule_of view.facts row
  pub facts : leaf.row.facts ≡ length view.facts
  pub inputs : leaf.inputs ≡ map (λ name. source_at view ports name) row.ports
  pub few_inputs : is_told row.sort ≡ false → length row.ports ≤ 8
  pub read : All (IsSourceOf (length view.slots)) leaf.inputs
  pub outputs : leaf.outputs ≡ map (λ name. source_at view ports name) (output_names row)
  pub few_outputs : length row.outs ≤ 8
  pub written : All (IsSourceOf (length view.slots)) leaf.outputs
  pub told : ready_told leaf.row.sort ≡ outs_told row.sort
  pub once : TellsEachOnce row

-- a node of the kind Leaf, and no other, is a leaf with a driver, and follows the row of its ID
abbrev pub LeafStands : View → TreeNode → Option ReadyLeaf → Type 0
LeafStands view node None = is_leaf node.kind ≡ false
LeafStands view node (Some leaf) = (node.kind ≡ Leaf) × MatchOption (row_of view.rows node.id) ⊥ (IsLeafOf view node.ports leaf)

-- ---- Nodes

-- a node has what a visit needs, as each of a tree that can be run does
unfoldable pub IsFit : TreeNode → Type 0
IsFit written = NodeRuns written

-- a node of an arena is this node of a term in a view, has this size with all below it, and fits its kind
pub record IsNode (view : View) (written : TreeNode) (whole : ℕ) (node : Node) : Type 0 where
  pub kind : node.kind ≡ written.kind
  pub size : node.size ≡ whole
  pub children : node.children ≡ written.children
  pub code : IsCompiled view written.code node.code
  pub guards : AreCompiled view written.guards node.guards
  pub ports : node.ports ≡ map (λ (port : PortRule). source_at view written.ports port.name) (ports_of written.kind)
  pub slots : All (IsSourceOf (length view.slots)) node.ports
  pub leaf : LeafStands view written node.leaf
  pub fit : IsFit written
