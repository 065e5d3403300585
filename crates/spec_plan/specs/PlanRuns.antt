-- Plan runs: whole trees, each with its modelled run, the steps between them, and one end.
use Rattle.std.specs.Prelude.{◌≡◌, ℕ, ◌+◌, ◌<◌, List, [], ◌∷◌, length, codes, Some, None, slice_get, slice_index_or}
use Rattle.spec_run.specs.declared.note.Note.{Note}
use Rattle.spec_tree.specs.declared.term.Kind.TheVariants.{ReactiveSequence}
use Rattle.spec_tree.specs.declared.term.Term.{roll-Term}
use Rattle.spec_tree.specs.declared.term.Tree.{Tree}
use Rattle.spec_world.specs.declared.world.Row.{Row}
use Rattle.spec_world.specs.declared.world.World.{World}
use Rattle.spec_run.specs.Run.{Trace}
use Rattle.spec_plan.specs.declared.domain.Template.{Template}
use Rattle.spec_plan.specs.Expansion.{NewKeys, expanded, goal_tree, untried}
use Rattle.spec_plan.specs.Forests.{AreApart, Forest}
use Rattle.spec_plan.specs.Planned.{id_of, plain_node, terms_of}
use Rattle.spec_plan.specs.Achievers.{needs_of}
use Rattle.spec_plan.specs.Conflicts.{Pair}
use Rattle.spec_plan.specs.declared.pace.Pace.{Pace}
use Rattle.spec_plan.specs.declared.verdict.Verdict.{Verdict}
use Rattle.spec_plan.specs.declared.verdict.Verdict.TheVariants.{Reaches, Fails, GoesOn}
use Rattle.spec_plan.specs.Modelled.{IsLast, modelled_run, next_tick, verdict_after}
use Rattle.spec_plan.specs.declared.ending.End.{End}
use Rattle.spec_plan.specs.declared.ending.End.TheVariants.{Reached, NoTemplate, NoOrder, Expansions, StillRunning, Faulted}
use Rattle.spec_plan.specs.declared.ending.Limits.{Limits}
use Rattle.spec_plan.specs.declared.ending.PlanEnd.{PlanEnd}
use Rattle.spec_plan.specs.declared.ending.Step.{Step}
use Rattle.spec_plan.specs.declared.places.Place.{Place}
use Rattle.spec_plan.specs.Failing.{failed, first_open, ids_of}
use Rattle.spec_plan.specs.Settling.{Settles, Stalls, name_at}

-- how each tree is ticked in its run
abbrev pub pace_of : Limits → Pace
pace_of limits = record { ticks = limits.ticks; period = limits.period }

-- ---- One tree

-- the behavior tree of a plan tree
abbrev pub tree_of : List Row → Forest → Tree
tree_of rows tree = record {
  main = codes "Plan";
  term = slice_index_or (terms_of rows tree) 0 (roll-Term (plain_node ReactiveSequence (codes "ReactiveSequence") []));
}

-- A tree and its modelled run, by how many ticks come before the last one.
pub record Trial : Type 0 where
  pub tree : Forest
  pub before : ℕ

-- the run of a trial, with its finish
abbrev pub run_of : World → Limits → Trial → Trace
run_of world limits t = modelled_run (tree_of world.rows t.tree) world limits.period (t.before + 1)

abbrev pub IsTried : World → Limits → Trial → Type 0
IsTried world limits t = IsLast (tree_of world.rows t.tree) world (pace_of limits) t.before

-- the run has no fault, and its last tick decided so
pub record Decides (world : World) (limits : Limits) (t : Trial) (verdict : Verdict) : Type 0 where
  pub unbroken : (run_of world limits t).fault ≡ None
  pub last : verdict_after (tree_of world.rows t.tree) world limits.period t.before ≡ Some verdict

-- what happened in the last tick, and the conditions that failed in it, in breadth-first order
abbrev pub last_notes : World → Limits → Trial → List Note
last_notes world limits t = (next_tick (tree_of world.rows t.tree) world limits.period t.before).block.notes

abbrev pub failed_in : World → Limits → Trial → List Place
failed_in world limits t = failed t.tree (last_notes world limits t)

-- ---- From one tree to the next

-- The tree failed, and the first failed condition with an untried template is expanded by its first one. The new keys
-- name no other node.
pub record Grows (world : World) (limits : Limits) (t : Trial) (place : Place) (template : Template) (sequence : ℕ) (after : Forest) : Type 0 where
  pub decides : Decides world limits t Fails
  pub first : first_open world.rows t.tree (failed_in world limits t) ≡ Some place
  pub untried : slice_get (untried world.rows place.key t.tree) 0 ≡ Some template
  pub keys : NewKeys
  pub all : length keys.leaves ≡ length (needs_of world.rows template.row) + 1
  pub named : sequence ≡ keys.sequence
  pub is : after ≡ expanded world.rows keys place.key template.row t.tree
  pub apart : AreApart after

-- a step: an expansion, and then raises until nothing conflicts
pub record IsStep (world : World) (limits : Limits) (t : Trial) (s : Step) (after : Forest) : Type 0 where
  pub place : Place
  pub template : Template
  pub sequence : ℕ
  pub grown : Forest
  pub grows : Grows world limits t place template sequence grown
  pub settles : Settles world.rows sequence s.raises grown after
  pub uid : s.uid ≡ place.uid
  pub condition : s.condition ≡ id_of world.rows place.row
  pub action : s.action ≡ id_of world.rows template.row

-- an expansion after which these two conflict, though no raise is left
pub record HasNoOrder (world : World) (limits : Limits) (t : Trial) (action condition : List ℕ) : Type 0 where
  pub place : Place
  pub template : Template
  pub sequence : ℕ
  pub grown : Forest
  pub after : Forest
  pub pair : Pair
  pub grows : Grows world limits t place template sequence grown
  pub stalls : Stalls world.rows sequence grown after pair
  pub action_is : action ≡ name_at world.rows after pair.0
  pub condition_is : condition ≡ name_at world.rows after pair.1

-- ---- Ends

-- the failed tree can't be expanded: no condition that failed has an untried template, and these are their IDs
pub record HasNoTemplate (world : World) (limits : Limits) (t : Trial) (names : List (List ℕ)) : Type 0 where
  pub decides : Decides world limits t Fails
  pub none : first_open world.rows t.tree (failed_in world limits t) ≡ None
  pub are : names ≡ ids_of world.rows (failed_in world limits t)

-- the failed tree could be expanded
pub record IsOpen (world : World) (limits : Limits) (t : Trial) : Type 0 where
  pub decides : Decides world limits t Fails
  pub place : Place
  pub first : first_open world.rows t.tree (failed_in world limits t) ≡ Some place

-- how a plan run ends with a tree, to which so many sequences were added
abbrev pub Ends : World → Limits → ℕ → Trial → End → Type 0
Ends world limits added t (Reached tree tick) = Decides world limits t Reaches × (tree ≡ tree_of world.rows t.tree) × (tick ≡ t.before + 1)
Ends world limits added t (NoTemplate names) = HasNoTemplate world limits t names
Ends world limits added t (Expansions n) = IsOpen world limits t × (added ≡ limits.expand) × (n ≡ limits.expand)
Ends world limits added t (NoOrder action condition) = HasNoOrder world limits t action condition × (added < limits.expand)
Ends world limits added t (StillRunning n) = Decides world limits t GoesOn × (n ≡ limits.ticks)
Ends world limits added t (Faulted uid cause) = (run_of world limits t).fault ≡ Some (record { runner = 1; uid = uid; cause = cause })

-- ---- Plan runs

-- From a tree, to which so many sequences were added, these trials and steps lead to another one.
abbrev pub Lead : World → Limits → ℕ → Forest → List Trial → List Step → Forest → Type 0
Lead world limits added tree [] [] after = tree ≡ after
Lead world limits added tree (t ∷ trials) (s ∷ steps) after =
    (t.tree ≡ tree) × IsTried world limits t × (added < limits.expand) × ((next : Forest) × IsStep world limits t s next × Lead world limits (added + 1) next trials steps after)
Lead world limits added tree _ _ after = ⊥

-- the first plan tree of a world, with any keys
pub record IsFirst (world : World) (tree : Forest) : Type 0 where
  pub root : ℕ
  pub keys : List ℕ
  pub all : length keys ≡ length world.goals
  pub is : tree ≡ goal_tree root keys world.goals
  pub apart : AreApart tree

-- A plan run: from the first tree, trials and steps lead to the tree of the last trial, with which it ends.
pub record PlanRun (world : World) (limits : Limits) (planned : PlanEnd) (trials : List Trial) (last : Trial) : Type 0 where
  pub first : Forest
  pub is_first : IsFirst world first
  pub lead : Lead world limits 0 first trials planned.steps last.tree
  pub tried : IsTried world limits last
  pub ends : Ends world limits (length planned.steps) last planned.end
