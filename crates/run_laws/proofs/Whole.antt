-- A node with children that keep their rules: the rule of the node itself, and those of its children.
use Rattle.std.proofs.Common.{◌≡◌, ℕ, ◌+◌, ◌<◌, ◌≤◌, List, Option, Some, None, sym, subst, ◌∙◌, arith}
use Rattle.spec_run.specs.declared.memory.Memo.{Memo}
use Rattle.spec_run.specs.declared.memory.Memo.TheVariants.{Since as Begun, Pace as Paced}
use Rattle.spec_run.specs.declared.memory.Memory.{Memory, Memory-F, out-Memory, out-roll-Memory}
use Rattle.spec_run.specs.declared.memory.Pace.{Pace}
use Rattle.spec_run.specs.declared.memory.Since.{Since}
use Rattle.spec_run.specs.declared.status.Answer.{Answer}
use Rattle.spec_run.specs.declared.status.Status.{Status}
use Rattle.spec_run.specs.declared.status.Status.TheVariants as status
use Rattle.spec_tree.specs.declared.term.Kind.{Kind}
use Rattle.spec_tree.specs.declared.term.Kind.TheVariants.{Timeout, Delay, RateController}
use Rattle.spec_tree.specs.declared.term.Port.{Port}
use Rattle.spec_tree.specs.declared.term.Term.{Term-F}
use Rattle.spec_world.specs.declared.world.Row.{Row}
use Rattle.spec_run.specs.Done.{Done, State}
use Rattle.spec_run.specs.Leaves.{row_of}
use Rattle.base_tables.specs.Shapes.{IsBegun, IsPaced, RestingShape, RunningShape, Shape}
use Rattle.spec_run.specs.Sites.{View, remembered}
use Rattle.base_tables.specs.Sound.{Leaves, NodeRule, OffPath}
use Rattle.spec_run.specs.Steps.{Given}
use Rattle.spec_run.specs.Visit.{status_of}
use Rattle.run_laws.proofs.Parts.{Same}
use Rattle.run_laws.proofs.Children.{Family, SoundAll, all_move, size_all, status_in}

-- ---- A later moment

begun_later : (since : Since) (moment later : ℕ) (ports : List Port) (name : List ℕ) → moment ≤ later → IsBegun since moment ports name → IsBegun since later ports name
begun_later since moment later ports name ahead begun = record { first = omega (arith, begun.first, ahead); length = begun.length }

paced_later : (p : Pace) (moment later : ℕ) (ports : List Port) → moment ≤ later → IsPaced p moment ports → IsPaced p later ports
paced_later p moment later ports ahead paced = record { first = omega (arith, paced.first, ahead); rate = paced.rate }

running_later : (kind : Kind) (ports : List Port) (row : Option Row) (moment later : ℕ) (memo : Memo) (ss : List Status) → moment ≤ later → RunningShape kind ports row moment memo ss → RunningShape kind ports row later memo ss
running_later Timeout ports row moment later (Begun since) ss ahead shape = (begun_later since moment later ports _ ahead shape.0, shape.1)
running_later Delay ports row moment later (Begun since) ss ahead shape = (begun_later since moment later ports _ ahead shape.0, shape.1)
running_later RateController ports row moment later (Paced p) ss ahead shape = (paced_later p moment later ports ahead shape.0, shape.1)
running_later _ ports row moment later _ ss ahead shape = shape

resting_later : (ports : List Port) (moment later : ℕ) (memo : Memo) (kind : Kind) (ss : List Status) → moment ≤ later → RestingShape ports moment memo kind ss → RestingShape ports later memo kind ss
resting_later ports moment later (Paced p) RateController ss ahead shape = (paced_later p moment later ports ahead shape.0, shape.1, shape.2)
resting_later ports moment later _ kind ss ahead shape = shape

-- a shape stays while time passes
pub shape_later : (st : Status) (kind : Kind) (ports : List Port) (row : Option Row) (moment later : ℕ) (memo : Memo) (ss : List Status) → moment ≤ later → Shape st kind ports row moment memo ss → Shape st kind ports row later memo ss
shape_later status.Running kind ports row moment later memo ss ahead shape = running_later kind ports row moment later memo ss ahead shape
shape_later status.Idle kind ports row moment later memo ss ahead shape = resting_later ports moment later memo kind ss ahead shape
shape_later status.Success kind ports row moment later memo ss ahead shape = resting_later ports moment later memo kind ss ahead shape
shape_later status.Failure kind ports row moment later memo ss ahead shape = resting_later ports moment later memo kind ss ahead shape

-- ---- The node

module _ (F : Family) (node : Term-F F.Child) (view : View) (uid : ℕ) where
  abbrev pub size_here : ℕ
  size_here = 1 + size_all F node.children

  -- the rule of the node with this status, this memo and these children
  abbrev pub NodeKeeps : Status → Memo → List Memory → State → Type 0
  NodeKeeps st memo ms s = NodeRule node.kind node.ports (row_of view.rows node.id) uid st memo ms s

  -- the rule of the node itself, unless it is on the path to a fault, and the rules of the children
  abbrev pub Fields : Option ℕ → Status → Memo → List Memory → State → Type 0
  Fields fault st memo ms s = OffPath fault uid size_here (NodeKeeps st memo ms s) × SoundAll F view.rows node.children fault (uid + 1) ms s

  abbrev pub Own : Option ℕ → Memory → State → Type 0
  Own fault m s = Fields fault (out-Memory m).status (out-Memory m).memo (out-Memory m).children s

  -- an answer is the node's status
  abbrev pub Answers : Answer → Memory → State → Type 0
  Answers a m s = status_in m ≡ status_of a

  pub as_kept : (fault : Option ℕ) (st : Status) (memo : Memo) (ms : List Memory) (s : State) → Fields fault st memo ms s → Own fault (remembered st memo ms) s
  as_kept fault st memo ms s fields =
      subst (λ (x : Memory-F Memory). Fields fault x.status x.memo x.children s) (sym (out-roll-Memory (record { status = st; memo = memo; children = ms }))) fields

  -- on the path to a fault the node's own rule need not hold
  pub on_path : (fault : ℕ) (st : Status) (memo : Memo) (ms : List Memory) (s : State) → uid ≤ fault → fault < uid + size_here → SoundAll F view.rows node.children (Some fault) (uid + 1) ms s →
      Own (Some fault) (remembered st memo ms) s
  on_path fault st memo ms s low high all = as_kept (Some fault) st memo ms s ((λ off. absurd (off low high)), all)

  -- the rule of the node stays where its instance does and no time goes back
  pub node_moves : (st : Status) (memo : Memo) (ms : List Memory) (s s1 : State) → NodeKeeps st memo ms s → Same uid 1 s s1 → s.moment ≤ s1.moment → NodeKeeps st memo ms s1
  node_moves st memo ms s s1 own same later = record {
    shape = shape_later st node.kind node.ports (row_of view.rows node.id) s.moment s1.moment memo _ later own.shape;
    held = same uid (omega arith) (omega arith) ∙ own.held;
  }

  -- and so do the rules of the children
  pub fields_move : (fault : Option ℕ) (st : Status) (memo : Memo) (ms : List Memory) (s s1 : State) → Fields None st memo ms s → Same uid size_here s s1 → s.moment ≤ s1.moment → Fields fault st memo ms s1
  fields_move None st memo ms s s1 sound same later = (
    node_moves st memo ms s s1 sound.0 (λ p a b. same p a (omega (arith, b))) later,
    all_move F view.rows node.children None (uid + 1) ms s s1 sound.1 (λ p a b. same p (omega (arith, a)) (omega (arith, b))) later,
  )
  fields_move (Some f) st memo ms s s1 sound same later = (
    (λ off. node_moves st memo ms s s1 sound.0 (λ p a b. same p a (omega (arith, b))) later),
    all_move F view.rows node.children (Some f) (uid + 1) ms s s1 sound.1 (λ p a b. same p (omega (arith, a)) (omega (arith, b))) later,
  )

  -- what the rule of the node leaves, as one of this kind: the rules of its children, and its own at its next status
  abbrev pub RuledAs : Kind → State → Done Given (List Memory) → Type 0
  RuledAs kind s d =
      Leaves (λ f ms s1. SoundAll F view.rows node.children f (uid + 1) ms s1)
      (λ g ms s1. NodeRule kind node.ports (row_of view.rows node.id) uid (status_of g.answer) g.memo ms s1) uid size_here s d
