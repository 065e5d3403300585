-- What the runs of a command have begun, and how often the clock was asked, whatever is answered.
use Rattle.std.proofs.Common.{◌≡◌, ℕ, List, [], ◌∷◌, Bool, true, false, inl, inr, Option, Some, None, refl, sym, ap, subst, ◌∙◌, arith, MatchBool, Result, Ok, Err}
use Rattle.std.specs.Prelude.{option_map}
use Rattle.spec_run.specs.declared.join_fault.JoinFault.{JoinFault}
use Rattle.spec_program.specs.declared.exit.Exit.{Exit}
use Rattle.spec_program.specs.declared.exit.Exit.TheVariants as exit
use Rattle.spec_program.specs.Words.{Command, Tick, Live, Load, Check, Dead, Exclusive, Plan, Mock, MockPrint, Ground, GroundPlan, Expect}
use Rattle.spec_output.specs.LoadTexts.{tree_text, world_text}
use Rattle.run_loop.proofs.Preparing.{run_same}
use Rattle.spec_run.specs.Served.{Setup, roster_after_run}
use Rattle.spec_run.specs.declared.leaf.Totals.{Totals}
use Rattle.spec_tree.specs.declared.term.Tree.{Tree}
use Rattle.spec_world.specs.declared.world.World.{World}
use Rattle.spec_world_file.specs.declared.world_fault.WorldFault.{WorldFault}
use Rattle.spec_run.specs.Drivers.{DriverState, driver_at}
use Rattle.spec_run.specs.Run.{RunnerCall, opening, run as run_of_script}
use Rattle.spec_expect.specs.declared.expect_fault.ExpectFault.{ExpectFault}
use Rattle.spec_expect.specs.declared.expectation.Expected.{Expected}
use Rattle.spec_program.specs.Expecting.{ExpectGives, JoinExpects, TreeExpects, WorldExpects, expect_output, expecting, setup}
use Rattle.spec_world_file.specs.WorldFile.{ReadsWorld}
use Rattle.spec_world.specs.Worlds.{IsValidWorld}
use Rattle.base_outside.proofs.Appends.{AppendedPrefix-nothing}
use Rattle.spec_outside.specs.Appending.{AppendedPrefix}
use Rattle.spec_outside.specs.Moments.{Moments}
use Rattle.cli_commands.proofs.Files.{short_is}
use Rattle.cli_answers.proofs.AboutCourses.Within.{as_often, uncalled_within}
use Rattle.spec_program.specs.Answers.{ClockLeft, ClockWithin, DriversCutOff, DriversLeft, DriversRanOut, DriversWithin, Gave, RanOut, Side}
use Rattle.spec_program.specs.declared.course.Course.{Course}
use Rattle.spec_program.specs.declared.course.Course.TheVariants as course
use Rattle.spec_program.specs.declared.print.Print.{Print}
use Rattle.spec_program.specs.declared.print.Print.TheVariants as print
use Rattle.spec_program.specs.declared.file.File.{File}
use Rattle.spec_program.specs.declared.file.File.TheVariants as file
use Rattle.spec_world_file.specs.declared.ground_fault.GroundFault.{GroundFault}
use Rattle.spec_world_file.specs.GroundFile.{Grounded, MakesWorld, reads_ground, world_from}
use Rattle.spec_tree_file.specs.declared.mock_fault.MockFault.{MockFault}
use Rattle.spec_program.specs.Files.{Contents}
use Rattle.spec_program.specs.Grounds.{GroundBegun, GroundGives, GroundPlanGives, GroundedPlans, SaidPlans}
use Rattle.spec_program.specs.Printed.{ground_output, print_made, print_output}
use Rattle.spec_program.specs.Jobs.{FilesBegin, FilesGive}
use Rattle.spec_program.specs.Output.{AreUncalled, Asked, Calls, Never, NoCalls, OfPlan, OfRun, Output, Times, UpToFault, line_of}
use Rattle.spec_program.specs.Courses.{Given, given, joined_output, run_output}
use Rattle.spec_run.specs.Joins.{lack_of}
use Rattle.spec_exclusive.specs.declared.pair.Pair.{Pair}
use Rattle.spec_exclusive.specs.Pairs.{meeting_pairs, missing_leaf}
use Rattle.spec_program.specs.Exclusives.{ExclusiveGives, exclusive_output, leaves_output, pairs_output}
use Rattle.spec_program.specs.Gives.{MadeGives, MockGives, PrintGives, RunGives, Standing, TreeGives, is_too_long, itself, made_output, mocked, mocked_apart, standing_output, world_output}
use Rattle.spec_program.specs.RefusalOutputs.{ground_refused, too_long, tree_refused, unread, world_refused}
use Rattle.spec_program.specs.Plans.{FileBegun, PlanGives, ReadPlans}
use Rattle.spec_program.specs.PlanOutputs.{IsPlanned, PlannedOr, first_unserved, refusal_for}
use Rattle.spec_plan.specs.PlanAnswers.{IsPlan, IsPlanCut}
use Rattle.spec_plan.specs.declared.ending.Limits.{Limits}
use Rattle.spec_plan.specs.declared.ending.PlanEnd.{PlanEnd}
use Rattle.cli_program.specs.LawWords.{IsNotLive}
use Rattle.spec_program.specs.declared.tree_fault.TreeFault.{TreeFault}
use Rattle.text_trace.proofs.Cuts.{cut_off_has_begun_within}
use Rattle.text_trace.proofs.Unbegun.{none_begin}
use Rattle.spec_output.specs.Cuts.{HaveBegunWithin}
use Rattle.spec_output.specs.Rounds.{moments_after}

-- ---- Outputs

-- what is so of each line without a run, and of a run, is so of each output
module _ (Q : Output → Type 0) (line : (bytes : List ℕ) (exit : Exit) → Q (line_of bytes exit)) where
  same_output : (o z : Output) → o ≡ z → Q z → Q o
  same_output o z e q = subst Q (sym e) q

  by_length : (long : Bool) (o z : Output) (P : Type 0) → Q z → MatchBool long (o ≡ z) P → (P → Q o) → Q o
  by_length true o z P q p more = same_output o z p q
  by_length false o z P q p more = more p

  by_lack : (lack : Option JoinFault) (tree : Tree) (world : World) (g : Given) → Q (run_output tree world g) → Q (joined_output lack tree world g)
  by_lack None tree world g run = run
  by_lack (Some fault) tree world g run = line _ exit.World

  by_standing : (stands : Result Tree MockFault) (world : World) (g : Given) → ((tree : Tree) → Q (run_output tree world g)) → Q (standing_output stands world g)
  by_standing (Ok tree) world g run = by_lack (lack_of tree world g.drivers) tree world g (run tree)
  by_standing (Err fault) world g run = line _ exit.Rules

  by_world : (described : Result World WorldFault) (stands : Result Tree MockFault) (g : Given) → ((tree : Tree) (world : World) → Q (run_output tree world g)) → Q (world_output described stands g)
  by_world (Ok world) stands g run = by_standing stands world g (λ tree. run tree world)
  by_world (Err fault) stands g run = line _ exit.World

  by_tree : (read : Result Tree TreeFault) (stands : Standing) (world : List ℕ) (g : Given) (o : Output) → ((tree : Tree) (world : World) → Q (run_output tree world g)) → TreeGives read stands world g o → Q o
  by_tree (Ok tree) stands world g o run p = same_output o (world_output p.0 (stands tree) g) p.2 (by_world p.0 (stands tree) g run)
  by_tree (Err fault) stands world g o run p = same_output o (tree_refused fault) p (line _ exit.Tree)

  of_run : (main : Option (List ℕ)) (tree world : List ℕ) (g : Given) (o : Output) → ((tree : Tree) (world : World) → Q (run_output tree world g)) → RunGives main tree world g o → Q o
  of_run main tree world g o run p =
      by_length (is_too_long tree) o (too_long file.Tree) _ (line _ exit.Tree) p
      (λ p1. by_length (is_too_long world) o (too_long file.World) _ (line _ exit.World) p1 (λ p2. by_tree p2.0 itself world g o run p2.2))

  of_mock : (main : Option (List ℕ)) (tree world rules : List ℕ) (g : Given) (o : Output) → ((tree : Tree) (world : World) → Q (run_output tree world g)) → MockGives main tree world rules g o → Q o
  of_mock main tree world rules g o run p =
      by_length (is_too_long tree) o (too_long file.Tree) _ (line _ exit.Tree) p
      (λ p1. by_length (is_too_long world) o (too_long file.World) _ (line _ exit.World) p1
      (λ p2. by_length (is_too_long rules) o (too_long file.Rules) _ (line _ exit.Rules) p2 (λ p3. by_tree p3.0 (mocked rules) world g o run p3.2)))

  -- .. of a run of which something is expected
  abbrev OfExpecting : Type 0
  OfExpecting = (of : Setup) (expected : List Expected) → Q (expecting expected of (run_of_script of.tree of.world))

  by_expected : (read : Result (List Expected) ExpectFault) (of : Setup) → OfExpecting → Q (expect_output read of)
  by_expected (Ok expected) of run = run of expected
  by_expected (Err fault) of run = line _ exit.Expect

  by_joined : (lack : Option JoinFault) (of : Setup) (expect : List ℕ) (o : Output) → OfExpecting → JoinExpects lack of expect o → Q o
  by_joined None of expect o run p = same_output o (expect_output p.0 of) p.2 (by_expected p.0 of run)
  by_joined (Some fault) of expect o run p = same_output o _ p (line _ exit.World)

  by_expecting_world : (described : Result World WorldFault) (tree : Tree) (expect : List ℕ) (drivers : List DriverState) (o : Output) → OfExpecting → WorldExpects described tree expect drivers o → Q o
  by_expecting_world (Ok world) tree expect drivers o run p = by_joined (lack_of tree world drivers) (setup tree world) expect o run p
  by_expecting_world (Err fault) tree expect drivers o run p = same_output o (world_refused fault) p (line _ exit.World)

  by_expecting_tree : (read : Result Tree TreeFault) (world expect : List ℕ) (drivers : List DriverState) (o : Output) → OfExpecting → TreeExpects read world expect drivers o → Q o
  by_expecting_tree (Ok tree) world expect drivers o run p = by_expecting_world p.0 tree expect drivers o run p.2
  by_expecting_tree (Err fault) world expect drivers o run p = same_output o (tree_refused fault) p (line _ exit.Tree)

  of_expects : (main : Option (List ℕ)) (tree world expect : List ℕ) (moments : Moments) (drivers : List DriverState) (o : Output) → OfExpecting → ExpectGives main tree world expect moments drivers o → Q o
  of_expects main tree world expect moments drivers o run p =
      by_length (is_too_long tree) o (too_long file.Tree) _ (line _ exit.Tree) p
      (λ p1. by_length (is_too_long world) o (too_long file.World) _ (line _ exit.World) p1
      (λ p2. by_length (is_too_long expect) o (too_long file.Expect) _ (line _ exit.Expect) p2 (λ p3. by_expecting_tree p3.0 world expect drivers o run p3.2)))

  printed : (print : Print) (read : Result Tree TreeFault) → Q (print_output print read)
  printed print (Ok tree) = line _ exit.Done
  printed print (Err fault) = line _ exit.Tree

  of_print : (print : Print) (main : Option (List ℕ)) (tree : List ℕ) (o : Output) → PrintGives print main tree o → Q o
  of_print print main tree o p = by_length (is_too_long tree) o (too_long file.Tree) _ (line _ exit.Tree) p (λ p1. same_output o (print_output print p1.0) p1.2 (printed print p1.0))

  met : (pairs : List Pair) → Q (pairs_output pairs)
  met [] = line _ exit.Done
  met (pair ∷ pairs) = line _ exit.NotExclusive

  met_by : (missing : Option (List ℕ)) (ids : List (List ℕ)) (tree : Tree) → Q (leaves_output missing ids tree)
  met_by (Some id) ids tree = line _ exit.Tree
  met_by None ids tree = met (meeting_pairs ids tree)

  met_read : (ids : List (List ℕ)) (read : Result Tree TreeFault) → Q (exclusive_output ids read)
  met_read ids (Ok tree) = met_by (missing_leaf ids tree) ids tree
  met_read ids (Err fault) = line _ exit.Tree

  of_exclusive : (ids : List (List ℕ)) (main : Option (List ℕ)) (tree : List ℕ) (o : Output) → ExclusiveGives ids main tree o → Q o
  of_exclusive ids main tree o p = by_length (is_too_long tree) o (too_long file.Tree) _ (line _ exit.Tree) p (λ p1. same_output o (exclusive_output ids p1.0) p1.2 (met_read ids p1.0))

  made : (r : Result Tree MockFault) → Q (print_made r)
  made (Ok tree) = line _ exit.Done
  made (Err fault) = line _ exit.Rules

  by_rules : (rules : List ℕ) (read : Result Tree TreeFault) → Q (made_output rules read)
  by_rules rules (Ok tree) = made (mocked_apart rules tree)
  by_rules rules (Err fault) = line _ exit.Tree

  of_made : (main : Option (List ℕ)) (tree rules : List ℕ) (o : Output) → MadeGives main tree rules o → Q o
  of_made main tree rules o p =
      by_length (is_too_long tree) o (too_long file.Tree) _ (line _ exit.Tree) p
      (λ p1. by_length (is_too_long rules) o (too_long file.Rules) _ (line _ exit.Rules) p1 (λ p2. same_output o (made_output rules p2.0) p2.2 (by_rules rules p2.0)))

  by_refusal : (goals : List ℕ) (lack : Option JoinFault) (world : World) (limits : Limits) (drivers : List DriverState) (o : Output) → (IsPlanned world limits drivers o → Q o) → PlannedOr (refusal_for goals lack) world limits drivers o → Q o
  by_refusal [] lack world limits drivers o run p = same_output o _ p (line _ exit.World)
  by_refusal (goal ∷ goals) (Some fault) world limits drivers o run p = same_output o _ p (line _ exit.World)
  by_refusal (goal ∷ goals) None world limits drivers o run p = run p

  by_script : (described : Result World WorldFault) (limits : Limits) (drivers : List DriverState) (o : Output) → ((world : World) → IsPlanned world limits drivers o → Q o) → ReadPlans described limits drivers o → Q o
  by_script (Ok world) limits drivers o run p = by_refusal world.goals (first_unserved drivers world.rows) world limits drivers o (run world) p
  by_script (Err fault) limits drivers o run p = same_output o (world_refused fault) p (line _ exit.World)

  of_plan : (limits : Limits) (world : List ℕ) (drivers : List DriverState) (o : Output) → ((world : World) → IsPlanned world limits drivers o → Q o) → PlanGives limits world drivers o → Q o
  of_plan limits world drivers o run p = by_length (is_too_long world) o (too_long file.World) _ (line _ exit.World) p (λ p1. by_script p1.0 limits drivers o run p1.2)

  by_text : (read : Result Grounded GroundFault) → Q (ground_output read)
  by_text (Ok g) = line _ exit.Done
  by_text (Err fault) = line _ exit.World

  of_ground : (bytes : List ℕ) (o : Output) → GroundGives bytes o → Q o
  of_ground bytes o p = by_length (is_too_long bytes) o (too_long file.World) _ (line _ exit.World) p (λ p1. same_output o (ground_output (reads_ground bytes)) p1 (by_text (reads_ground bytes)))

  by_said : (said : Result World GroundFault) (limits : Limits) (drivers : List DriverState) (o : Output) → ((world : World) → IsPlanned world limits drivers o → Q o) → SaidPlans said limits drivers o → Q o
  by_said (Ok world) limits drivers o run p = by_refusal world.goals (first_unserved drivers world.rows) world limits drivers o (run world) p
  by_said (Err fault) limits drivers o run p = same_output o (ground_refused fault) p (line _ exit.World)

  by_grounded : (read : Result Grounded GroundFault) (limits : Limits) (drivers : List DriverState) (o : Output) → ((world : World) → IsPlanned world limits drivers o → Q o) → GroundedPlans read limits drivers o → Q o
  by_grounded (Ok g) limits drivers o run p = by_said p.0 limits drivers o run p.2
  by_grounded (Err fault) limits drivers o run p = same_output o (ground_refused fault) p (line _ exit.World)

  of_ground_plan : (limits : Limits) (bytes : List ℕ) (drivers : List DriverState) (o : Output) → ((world : World) → IsPlanned world limits drivers o → Q o) → GroundPlanGives limits bytes drivers o → Q o
  of_ground_plan limits bytes drivers o run p =
      by_length (is_too_long bytes) o (too_long file.World) _ (line _ exit.World) p (λ p1. by_grounded (reads_ground bytes) limits drivers o run p1)

-- ---- Drivers

-- the drivers of a plan that was cut off were asked no more often than in the whole plan
abbrev pub CutLaw : Type 0
CutLaw = (world : World) (limits : Limits) (before now after : List DriverState) (planned : PlanEnd) → IsValidWorld world →
    IsPlanCut world limits before now → IsPlan world limits before after planned → HaveBegunWithin before now after

-- the limits of a plan
abbrev limits_of : ℕ → ℕ → ℕ → Limits
limits_of expand ticks period = record { expand = expand; ticks = ticks; period = period }

-- moments that were not asked for
all_ahead : (clock : Option Moments) → clock ≡ option_map (moments_after 0) clock
all_ahead None = refl
all_ahead (Some m) = refl

still_within : (asked : Asked) (old new : Option Moments) → new ≡ old → ClockWithin asked old new
still_within Never old new same = same
still_within (Times times) old new same = (0, omega arith, same ∙ all_ahead old)
still_within (UpToFault tree world moments) None new same = tt
still_within (UpToFault tree world moments) (Some m) new same = (0, none_begin tree world 0 moments (opening tree world), same)

-- a world file describes one world
abbrev pub WorldLaw : Type 0
WorldLaw = (bytes : List ℕ) (a b : Result World WorldFault) → ReadsWorld bytes a → ReadsWorld bytes b → a ≡ b

-- what drivers were asked for is within what an output says of them
abbrev Within : List DriverState → List DriverState → Output → Type 0
Within old new o = DriversWithin o.calls old new

-- memory ran out before an output was known of which this is so, and nothing was written
abbrev Unwritten : Side → Side → Output → Type 0
Unwritten old new o = DriversRanOut o.calls old new

-- before a run no driver was called: that is within it
before_run : (old new : List DriverState) → AreUncalled old new → (tree : Tree) (world : World) (calls : List RunnerCall) → HaveBegunWithin old new (roster_after_run tree world old calls)
before_run old new same tree world calls place =
    let risen = (run_same tree world old calls).totals place in
    let starts : (driver_at new place).totals.starts ≡ (driver_at old place).totals.starts = ap (λ (t : Totals). t.starts) (same place) in
    let runnings : (driver_at new place).totals.runnings ≡ (driver_at old place).totals.runnings = ap (λ (t : Totals). t.runnings) (same place) in
    record {
      starts = λ few. let more = risen.starts few in omega (arith, starts, more.0);
      runnings = λ few. let more = risen.runnings few in omega (arith, runnings, more.0);
    }

-- ---- What was begun

left_within : (calls : Calls) (old new : List DriverState) → DriversLeft calls old new → DriversWithin calls old new
left_within NoCalls old new p = p
left_within (OfRun tree world calls) old new p = as_often old new (roster_after_run tree world old calls) p
left_within (OfPlan after) old new p = as_often old new after p

cut_off_within : (calls : Calls) (a b : Side) → DriversCutOff calls a b → DriversWithin calls a.drivers b.drivers
cut_off_within NoCalls a b p = p
cut_off_within (OfRun tree world calls) a b p = cut_off_has_begun_within tree world calls a.drivers b.drivers p
cut_off_within (OfPlan after) a b p = as_often a.drivers b.drivers after p

ran_out_within : (calls : Calls) (a b : Side) → DriversRanOut calls a b → DriversWithin calls a.drivers b.drivers
ran_out_within NoCalls a b p = p
ran_out_within (OfRun tree world calls) a b (inl p) = cut_off_has_begun_within tree world calls a.drivers b.drivers p
ran_out_within (OfRun tree world calls) a b (inr p) = before_run a.drivers b.drivers p.1 tree world calls
ran_out_within (OfPlan after) a b (inl p) = as_often a.drivers b.drivers after p
ran_out_within (OfPlan after) a b (inr p) = p.1

-- no driver was called, and nothing was written
module _ (a b : Side) (same : AreUncalled a.drivers b.drivers) (unwritten : b.written ≡ a.written) where
  no_calls : (bytes : List ℕ) (exit : Exit) → Unwritten a b (line_of bytes exit)
  no_calls bytes exit = same

  unbegun_run : (course : Course) (main : Option (List ℕ)) (tree world : List ℕ) (moments : Moments) (o : Output) → RunGives main tree world (given course moments a.drivers) o → Unwritten a b o
  unbegun_run course main tree world moments o p =
      of_run (Unwritten a b) no_calls main tree world (given course moments a.drivers) o (λ t w. inr (unwritten, same)) p

  unbegun_mock : (main : Option (List ℕ)) (tree world rules : List ℕ) (moments : Moments) (o : Output) → MockGives main tree world rules (given course.Script moments a.drivers) o → Unwritten a b o
  unbegun_mock main tree world rules moments o p =
      of_mock (Unwritten a b) no_calls main tree world rules (given course.Script moments a.drivers) o (λ t w. inr (unwritten, same)) p

  unbegun_expects : (main : Option (List ℕ)) (tree world expect : List ℕ) (moments : Moments) (o : Output) → ExpectGives main tree world expect moments a.drivers o → Unwritten a b o
  unbegun_expects main tree world expect moments o p =
      of_expects (Unwritten a b) no_calls main tree world expect moments a.drivers o (λ of expected. inr (unwritten, same)) p

  not_planned : (world : World) (limits : Limits) → IsPlanCut world limits a.drivers b.drivers
  not_planned world limits = record { trials = []; begins = inl refl; within = uncalled_within a.drivers b.drivers same }

if_short : (long : Bool) (P Q : Type 0) → long ≡ false → MatchBool long P Q → Q
if_short true P Q e p = cc
if_short false P Q e p = p

module _ (cuts : CutLaw) (worlds : WorldLaw) where
  unwritten_plan : (world : World) (limits : Limits) (a b : Side) (o : Output) → b.written ≡ a.written → IsPlanCut world limits a.drivers b.drivers → IsPlanned world limits a.drivers o → Unwritten a b o
  unwritten_plan world limits a b o unwritten cut p = subst (Unwritten a b) (sym p.is) (inr (unwritten, cuts world limits a.drivers b.drivers p.after p.planned p.valid cut p.run))

  unwritten_file : (limits : Limits) (file : List ℕ) (a b : Side) (o : Output) → b.written ≡ a.written → PlanGives limits file a.drivers o → FileBegun limits file a.drivers b.drivers → Unwritten a b o
  unwritten_file limits file a b o unwritten p begun =
      let read = if_short (is_too_long file) _ _ (short_is file begun.short) p in
      let plans : ReadPlans (Ok begun.world) limits a.drivers o = subst (λ (r : Result World WorldFault). ReadPlans r limits a.drivers o) (worlds file read.0 (Ok begun.world) read.1 begun.described) read.2 in
      unwritten_plan begun.world limits a b o unwritten begun.begun.1 (subst (λ (r : Option Output). PlannedOr r begun.world limits a.drivers o) begun.begun.0 plans)

  -- the world that a text describes is one
  made_once : (g : Grounded) (a b : Result World GroundFault) → MakesWorld g a → MakesWorld g b → a ≡ b
  made_once g a b p q = p.is ∙ ap (world_from g.origins) (worlds g.text p.read q.read p.reads q.reads) ∙ sym q.is

  unwritten_ground : (limits : Limits) (file : List ℕ) (a b : Side) (o : Output) → b.written ≡ a.written → GroundPlanGives limits file a.drivers o → GroundBegun limits file a.drivers b.drivers → Unwritten a b o
  unwritten_ground limits file a b o unwritten p begun =
      let read = if_short (is_too_long file) _ _ (short_is file begun.short) p in
      let made : GroundedPlans (Ok begun.text) limits a.drivers o = subst (λ (r : Result Grounded GroundFault). GroundedPlans r limits a.drivers o) begun.grounded read in
      let plans : SaidPlans (Ok begun.world) limits a.drivers o = subst (λ (r : Result World GroundFault). SaidPlans r limits a.drivers o) (made_once begun.text made.0 (Ok begun.world) made.1 begun.described) made.2 in
      unwritten_plan begun.world limits a b o unwritten begun.begun.1 (subst (λ (r : Option Output). PlannedOr r begun.world limits a.drivers o) begun.begun.0 plans)

  -- no driver was called, and nothing was written, of an output of a command
  pub uncalled_unwritten : (c : Command) (files : Contents) (moments : Moments) (a b : Side) (o : Output) → FilesGive c files moments a.drivers o → AreUncalled a.drivers b.drivers → b.written ≡ a.written → Unwritten a b o
  uncalled_unwritten (Tick t w main) files moments a b o p same unwritten = unbegun_run a b same unwritten course.Script main files.tree files.world moments o p
  uncalled_unwritten (Live t w rounds main) files moments a b o p same unwritten = unbegun_run a b same unwritten (course.Rounds rounds) main files.tree files.world moments o p
  uncalled_unwritten (Load leaves) files moments a b o p same unwritten = unbegun_run a b same unwritten (course.Load leaves) None (tree_text leaves) (world_text leaves) moments o p
  uncalled_unwritten (Check t main) files moments a b o p same unwritten = of_print (Unwritten a b) (λ bytes exit. same) print.Whole main files.tree o p
  uncalled_unwritten (Dead t main) files moments a b o p same unwritten = of_print (Unwritten a b) (λ bytes exit. same) print.Dead main files.tree o p
  uncalled_unwritten (Exclusive t ids main) files moments a b o p same unwritten = of_exclusive (Unwritten a b) (λ bytes exit. same) ids main files.tree o p
  uncalled_unwritten (Plan w expand ticks period) files moments a b o p same unwritten =
      of_plan (Unwritten a b) (λ bytes exit. same) (limits_of expand ticks period) files.world a.drivers o
      (λ described planned. unwritten_plan described (limits_of expand ticks period) a b o unwritten (not_planned a b same unwritten described (limits_of expand ticks period)) planned) p
  uncalled_unwritten (Mock t w rules main) files moments a b o p same unwritten = unbegun_mock a b same unwritten main files.tree files.world files.rules moments o p
  uncalled_unwritten (MockPrint t rules main) files moments a b o p same unwritten = of_made (Unwritten a b) (λ bytes exit. same) main files.tree files.rules o p
  uncalled_unwritten (Expect t w x main) files moments a b o p same unwritten = unbegun_expects a b same unwritten main files.tree files.world files.expect moments o p
  uncalled_unwritten (Ground w) files moments a b o p same unwritten = of_ground (Unwritten a b) (λ bytes exit. same) files.world o p
  uncalled_unwritten (GroundPlan w expand ticks period) files moments a b o p same unwritten =
      of_ground_plan (Unwritten a b) (λ bytes exit. same) (limits_of expand ticks period) files.world a.drivers o
      (λ described planned. unwritten_plan described (limits_of expand ticks period) a b o unwritten (not_planned a b same unwritten described (limits_of expand ticks period)) planned) p

  -- .. and so it is of what a command may have begun before its output is known
  begun_unwritten : (c : Command) (files : Contents) (moments : Moments) (a b : Side) (o : Output) → FilesGive c files moments a.drivers o → FilesBegin c files a.drivers b.drivers → b.written ≡ a.written → Unwritten a b o
  begun_unwritten (Tick t w main) files moments a b o p same unwritten = uncalled_unwritten (Tick t w main) files moments a b o p same unwritten
  begun_unwritten (Live t w rounds main) files moments a b o p same unwritten = uncalled_unwritten (Live t w rounds main) files moments a b o p same unwritten
  begun_unwritten (Load leaves) files moments a b o p same unwritten = uncalled_unwritten (Load leaves) files moments a b o p same unwritten
  begun_unwritten (Check t main) files moments a b o p same unwritten = uncalled_unwritten (Check t main) files moments a b o p same unwritten
  begun_unwritten (Dead t main) files moments a b o p same unwritten = uncalled_unwritten (Dead t main) files moments a b o p same unwritten
  begun_unwritten (Exclusive t ids main) files moments a b o p same unwritten = uncalled_unwritten (Exclusive t ids main) files moments a b o p same unwritten
  begun_unwritten (Plan w expand ticks period) files moments a b o p (inl same) unwritten = uncalled_unwritten (Plan w expand ticks period) files moments a b o p same unwritten
  begun_unwritten (Plan w expand ticks period) files moments a b o p (inr begun) unwritten = unwritten_file (limits_of expand ticks period) files.world a b o unwritten p begun
  begun_unwritten (Mock t w rules main) files moments a b o p same unwritten = uncalled_unwritten (Mock t w rules main) files moments a b o p same unwritten
  begun_unwritten (MockPrint t rules main) files moments a b o p same unwritten = uncalled_unwritten (MockPrint t rules main) files moments a b o p same unwritten
  begun_unwritten (Expect t w x main) files moments a b o p same unwritten = uncalled_unwritten (Expect t w x main) files moments a b o p same unwritten
  begun_unwritten (Ground w) files moments a b o p same unwritten = uncalled_unwritten (Ground w) files moments a b o p same unwritten
  begun_unwritten (GroundPlan w expand ticks period) files moments a b o p (inl same) unwritten = uncalled_unwritten (GroundPlan w expand ticks period) files moments a b o p same unwritten
  begun_unwritten (GroundPlan w expand ticks period) files moments a b o p (inr begun) unwritten = unwritten_ground (limits_of expand ticks period) files.world a b o unwritten p begun

  -- memory ran out before an output was known, of which a part was given, which is nothing
  pub ran_out_gave : (c : Command) (files : Contents) (moments : Moments) (o : Output) (result : Exit) (a b : Side) → FilesGive c files moments a.drivers o → RanOut (FilesBegin c files) result a b → Gave o result a b
  ran_out_gave c files moments o result a b p out =
      subst (λ (e : Exit). Gave o e a b) (sym out.exit) (record {
        written = subst (λ (z : Option (List ℕ)). AppendedPrefix a.written z o.bytes) (sym out.written) (AppendedPrefix-nothing a.written o.bytes);
        drivers = begun_unwritten c files moments a b o p out.drivers out.written;
        clock = still_within o.asked a.clock b.clock out.clock;
      })

  -- no driver was called: that is within each output of a command
  pub uncalled_is_within : (c : Command) (files : Contents) (moments : Moments) (a b : Side) (o : Output) → FilesGive c files moments a.drivers o → AreUncalled a.drivers b.drivers → Within a.drivers b.drivers o
  uncalled_is_within c files moments a b o p same =
      ran_out_within o.calls a (record { written = a.written; faults = b.faults; clock = b.clock; drivers = b.drivers }) (uncalled_unwritten c files moments a (record { written = a.written; faults = b.faults; clock = b.clock; drivers = b.drivers }) o p same refl)

-- whatever was given, the run has begun no more than all of it begins
pub gave_within : (o : Output) (result : Exit) (a b : Side) → Gave o result a b → Within a.drivers b.drivers o
gave_within o exit.Done a b p = left_within o.calls a.drivers b.drivers p.2
gave_within o exit.Words a b p = left_within o.calls a.drivers b.drivers p.2
gave_within o exit.Tree a b p = left_within o.calls a.drivers b.drivers p.2
gave_within o exit.World a b p = left_within o.calls a.drivers b.drivers p.2
gave_within o exit.Fault a b p = left_within o.calls a.drivers b.drivers p.2
gave_within o exit.NoPlan a b p = left_within o.calls a.drivers b.drivers p.2
gave_within o exit.Read a b p = left_within o.calls a.drivers b.drivers p.2
gave_within o exit.Write a b p = cut_off_within o.calls a b p.1.drivers
gave_within o exit.Memory a b p = ran_out_within o.calls a b p.drivers
gave_within o exit.Rules a b p = left_within o.calls a.drivers b.drivers p.2
gave_within o exit.Request a b p = left_within o.calls a.drivers b.drivers p.2
gave_within o exit.NotExclusive a b p = left_within o.calls a.drivers b.drivers p.2
gave_within o exit.Expect a b p = left_within o.calls a.drivers b.drivers p.2
gave_within o exit.Unmet a b p = left_within o.calls a.drivers b.drivers p.2

unread_uncalled : (f : File) (old new : List DriverState) → Within old new (unread f) → AreUncalled old new
unread_uncalled file.Tree old new p = p
unread_uncalled file.World old new p = p
unread_uncalled file.Rules old new p = p
unread_uncalled file.Expect old new p = p

-- no driver was called where a file was not read
pub unread_called_none : (f : File) (result : Exit) (a b : Side) → Gave (unread f) result a b → AreUncalled a.drivers b.drivers
unread_called_none f result a b gave = unread_uncalled f a.drivers b.drivers (gave_within (unread f) result a b gave)

-- ---- The clock

abbrev IsUnasked : Output → Type 0
IsUnasked o = o.asked ≡ Never

-- an output that does not ask the clock leaves it, whatever is answered
pub gave_unasked : (o : Output) (result : Exit) (a b : Side) → IsUnasked o → Gave o result a b → b.clock ≡ a.clock
gave_unasked o exit.Done a b never p = subst (λ (k : Asked). ClockLeft k a.clock b.clock) never p.3
gave_unasked o exit.Words a b never p = subst (λ (k : Asked). ClockLeft k a.clock b.clock) never p.3
gave_unasked o exit.Tree a b never p = subst (λ (k : Asked). ClockLeft k a.clock b.clock) never p.3
gave_unasked o exit.World a b never p = subst (λ (k : Asked). ClockLeft k a.clock b.clock) never p.3
gave_unasked o exit.Fault a b never p = subst (λ (k : Asked). ClockLeft k a.clock b.clock) never p.3
gave_unasked o exit.NoPlan a b never p = subst (λ (k : Asked). ClockLeft k a.clock b.clock) never p.3
gave_unasked o exit.Read a b never p = subst (λ (k : Asked). ClockLeft k a.clock b.clock) never p.3
gave_unasked o exit.Write a b never p = subst (λ (k : Asked). ClockWithin k a.clock b.clock) never p.1.clock
gave_unasked o exit.Rules a b never p = subst (λ (k : Asked). ClockLeft k a.clock b.clock) never p.3
gave_unasked o exit.Request a b never p = subst (λ (k : Asked). ClockLeft k a.clock b.clock) never p.3
gave_unasked o exit.NotExclusive a b never p = subst (λ (k : Asked). ClockLeft k a.clock b.clock) never p.3
gave_unasked o exit.Expect a b never p = subst (λ (k : Asked). ClockLeft k a.clock b.clock) never p.3
gave_unasked o exit.Unmet a b never p = subst (λ (k : Asked). ClockLeft k a.clock b.clock) never p.3
gave_unasked o exit.Memory a b never p = subst (λ (k : Asked). ClockWithin k a.clock b.clock) never p.clock

pub unread_unasked : (f : File) → IsUnasked (unread f)
unread_unasked file.Tree = refl
unread_unasked file.World = refl
unread_unasked file.Rules = refl
unread_unasked file.Expect = refl

-- no output of a command but `live` asks it
pub files_unasked : (c : Command) (files : Contents) (moments : Moments) (drivers : List DriverState) (o : Output) → IsNotLive (Some c) → FilesGive c files moments drivers o → IsUnasked o
files_unasked (Tick t w main) files moments drivers o other p = of_run IsUnasked (λ bytes exit. refl) main files.tree files.world (given course.Script moments drivers) o (λ t w. refl) p
files_unasked (Live t w rounds main) files moments drivers o other p = absurd other
files_unasked (Load leaves) files moments drivers o other p = of_run IsUnasked (λ bytes exit. refl) None (tree_text leaves) (world_text leaves) (given (course.Load leaves) moments drivers) o (λ t w. refl) p
files_unasked (Check t main) files moments drivers o other p = of_print IsUnasked (λ bytes exit. refl) print.Whole main files.tree o p
files_unasked (Dead t main) files moments drivers o other p = of_print IsUnasked (λ bytes exit. refl) print.Dead main files.tree o p
files_unasked (Exclusive t ids main) files moments drivers o other p = of_exclusive IsUnasked (λ bytes exit. refl) ids main files.tree o p
files_unasked (Plan w expand ticks period) files moments drivers o other p =
    of_plan IsUnasked (λ bytes exit. refl) (limits_of expand ticks period) files.world drivers o (λ described planned. ap (λ (z : Output). z.asked) planned.is) p
files_unasked (Mock t w rules main) files moments drivers o other p = of_mock IsUnasked (λ bytes exit. refl) main files.tree files.world files.rules (given course.Script moments drivers) o (λ t w. refl) p
files_unasked (MockPrint t rules main) files moments drivers o other p = of_made IsUnasked (λ bytes exit. refl) main files.tree files.rules o p
files_unasked (Expect t w x main) files moments drivers o other p = of_expects IsUnasked (λ bytes exit. refl) main files.tree files.world files.expect moments drivers o (λ of expected. refl) p
files_unasked (Ground w) files moments drivers o other p = of_ground IsUnasked (λ bytes exit. refl) files.world o p
files_unasked (GroundPlan w expand ticks period) files moments drivers o other p =
    of_ground_plan IsUnasked (λ bytes exit. refl) (limits_of expand ticks period) files.world drivers o (λ described planned. ap (λ (z : Output). z.asked) planned.is) p
