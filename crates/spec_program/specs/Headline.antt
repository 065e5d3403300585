-- What `bt` says of its answer.
use Rattle.std.specs.Prelude.{ℕ, ◌≡◌, ◌≤◌, List, ◌++◌, length, map, Option, Some, None, Ok}
use Rattle.std.specs.List.{concat}
use Rattle.spec_world_file.specs.GroundFile.{Grounded, reads_ground}
use Rattle.spec_tree.specs.declared.term.Tree.{Tree}
use Rattle.spec_world.specs.declared.world.World.{World}
use Rattle.spec_tree.specs.Limits.{most_file_bytes}
use Rattle.spec_tree.specs.PrintedTree.{tree_lines}
use Rattle.spec_run.specs.Joins.{lack_of}
use Rattle.spec_world_file.specs.WorldFile.{ReadsWorld}
use Rattle.spec_program.specs.TreeFiles.{TreeReads}
use Rattle.spec_plan.specs.declared.ending.End.TheVariants.{Reached}
use Rattle.spec_plan.specs.declared.ending.Step.{Step}
use Rattle.spec_plan.specs.PlanLines.{end_line, step_line}
use Rattle.spec_plan.specs.Modelled.{ReachedAt, modelled, ticks}
use Rattle.spec_output.specs.NoNames.{no_names}
use Rattle.spec_program.specs.Answers.{IfTold, IsWhole, Side, no_moments}
use Rattle.spec_program.specs.Reads.{AllRead, ReadsEnd, StoppedAt}
use Rattle.spec_program.specs.Jobs.{CommandGives}
use Rattle.spec_program.specs.Output.{Output}
use Rattle.spec_program.specs.declared.exit.Exit.{Exit}
use Rattle.spec_program.specs.Words.{Command, Live, Plan, GroundPlan}
use Rattle.spec_outside.specs.Appending.{Appended}
use Rattle.spec_outside.specs.Moments.{Moments}
use Rattle.spec_program.specs.declared.exit.Exit.TheVariants as exit

-- the exits that the definition of the output gives
abbrev pub IsGiven : Exit → Type 0
IsGiven exit.Read = ⊥
IsGiven exit.Write = ⊥
IsGiven exit.Memory = ⊥
IsGiven _ = Unit {0}

-- these bytes of a world script describe this world
abbrev pub IsScriptOf : List ℕ → World → Type 0
IsScriptOf file world = ReadsWorld file (Ok world)

-- these bytes of a ground file stand for a script that describes it
abbrev pub IsGroundOf : List ℕ → World → Type 0
IsGroundOf file world = (g : Grounded) × (reads_ground file ≡ Ok g) × ReadsWorld g.text (Ok world)

-- the file that a plan is: some steps, the tick that reaches the goals, and the tree
abbrev pub plan_file : List Step → Tree → ℕ → List ℕ
plan_file steps tree tick = concat (map step_line steps) ++ (end_line no_names (Reached tree tick) ++ concat (tree_lines tree))

-- the world, where its script is the first ticks of a modelled run
abbrev pub ticking : World → ℕ → ℕ → World
ticking world period n = record (modelled world) { events = ticks period n }

-- The goals of the world that these bytes describe are reached by a tree. What was written is a tree file that is not too
-- long: some steps, the tick that reaches the goals, and the tree. As it stands it reads as the tree, which joins the world
-- with the drivers that were there, where the script of the world is a tick each period. And in the tree's own run, ticked so,
-- every goal is true after this tick, and not all are true after any earlier one.
pub record PlanReaches (file : List ℕ) (Describes : List ℕ → World → Type 0) (period : ℕ) (old new : Side) : Type 0 where
  pub world : World
  pub described : Describes file world
  pub steps : List Step
  pub tree : Tree
  pub tick : ℕ
  pub printed : Appended old.written new.written (plan_file steps tree tick)
  pub short : length (plan_file steps tree tick) ≤ most_file_bytes
  pub reads_back : TreeReads None (plan_file steps tree tick) (Ok tree)
  pub joins : (n : ℕ) → lack_of tree (ticking world period n) old.drivers ≡ None
  pub reached : ReachedAt tree world period tick

-- where the command is a plan: its file was read, and a tree reaches the goals of the world that its bytes describe
abbrev pub ReachesIfPlan : Option Command → ReadsEnd → Side → Side → Type 0
ReachesIfPlan (Some (Plan world expand ticks period)) (AllRead files) old new = PlanReaches files.world IsScriptOf period old new
ReachesIfPlan (Some (GroundPlan world expand ticks period)) (AllRead files) old new = PlanReaches files.world IsGroundOf period old new
ReachesIfPlan (Some (Plan world expand ticks period)) (StoppedAt which gave) old new = ⊥
ReachesIfPlan (Some (GroundPlan world expand ticks period)) (StoppedAt which gave) old new = ⊥
ReachesIfPlan _ end old new = Unit {0}

-- what has to be told of a clock for the output of a command: its moments for `live`, and nothing for others
abbrev pub moments_for : Option Command → Option Moments → Option Moments
moments_for (Some (Live tree world rounds main)) clock = clock
moments_for _ clock = Some no_moments

-- the output of a command over told files and moments was given whole
abbrev pub WholeOutput : Option (List ℕ → List ℕ) → Option Command → Exit → Side → Side → Type 0
WholeOutput None command result old new = Unit {0}
WholeOutput (Some holds) command result old new = IfTold (moments_for command old.clock) (λ moments.
    (o : Output) × CommandGives command holds moments old.drivers o × IsWhole o result old new)

-- a fact of each output of a command over told files and moments, and what it found
abbrev pub EachOutput : Option (List ℕ → List ℕ) → Option Command → Side → (Output → Type 0) → Type 0
EachOutput None command old P = Unit {0}
EachOutput (Some holds) command old P = IfTold (moments_for command old.clock) (λ moments.
    (o : Output) → CommandGives command holds moments old.drivers o → P o)
