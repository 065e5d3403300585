-- The clauses of `bt`, one by one, by what its words were answered.
use Rattle.std.proofs.Common.{◌≡◌, ℕ, nat_eq, if◌then◌else◌, List, [], ◌∷◌, ◌++◌, map, Bool, true, false, ◌⊎◌, inl, inr, Option, Some, None, IfSome, refl, sym, ap, subst, ◌∙◌, MatchBool, Result, Ok, Err}
use Rattle.spec_tree_file.specs.declared.element.Element.{Element}
use Rattle.spec_tree_file.specs.declared.element.ElementFault.{ElementFault}
use Rattle.spec_tree_file.specs.Elements.{Spells}
use Rattle.spec_tree_file.specs.ElementFaults.{ElementFaultOf}
use Rattle.spec_program.specs.declared.course.Course.TheVariants as course
use Rattle.spec_program.specs.declared.print.Print.{Print}
use Rattle.spec_program.specs.declared.print.Print.TheVariants as print
use Rattle.spec_program.specs.declared.exit.Exit.{Exit}
use Rattle.spec_program.specs.declared.exit.Exit.TheVariants as exit
use Rattle.spec_program.specs.declared.tree_fault.TreeFault.{TreeFault}
use Rattle.spec_program.specs.declared.tree_fault.TreeFault.TheVariants as fault
use Rattle.spec_program.specs.Answers.{Answers, AtMoments, DriversLeft, DriversWithin, Gave, IfTold, IsWhole, Side}
use Rattle.spec_program.specs.Answered.{AnsweredAfter, AreTold, GaveOf, ReadFailed, ToldIfNamed}
use Rattle.spec_program.specs.Reads.{AllRead, ReadsEnd, StoppedAt}
use Rattle.spec_outside.specs.declared.shelf_fault.ShelfFault.TheVariants as shelf_fault
use Rattle.cli_commands.specs.Answering.{CommandAnswered, FilesAnswered}
use Rattle.cli_answers.proofs.AboutPlanning.Plans.{all_served}
use Rattle.cli_program.proofs.PlanFiles.{PlanLaws, file_reads, tree_joins}
use Rattle.cli_program.proofs.Ranges.{IsInRange}
use Rattle.cli_program.proofs.Begun.{CutLaw, files_unasked, gave_unasked, gave_within, ran_out_gave, uncalled_is_within, unread_called_none, unread_unasked}
use Rattle.spec_program.specs.Headline.{EachOutput, IsGiven, IsGroundOf, IsScriptOf, PlanReaches, ReachesIfPlan, WholeOutput, moments_for}
use Rattle.cli_program.specs.LawWords.{IsNotLive, UnreadLine}
use Rattle.spec_program.specs.Plans.{Begins, PlanGives, Plans, ReadPlans}
use Rattle.spec_program.specs.PlanOutputs.{IsPlanned, PlannedOr, first_unserved, plan_exit, plan_output, reached_lines, refusal_for}
use Rattle.spec_plan.specs.declared.ending.End.{End}
use Rattle.spec_plan.specs.declared.ending.End.TheVariants.{Reached, NoTemplate, NoOrder, Expansions, StillRunning, Faulted}
use Rattle.spec_plan.specs.declared.ending.Limits.{Limits}
use Rattle.spec_plan.specs.declared.ending.PlanEnd.{PlanEnd}
use Rattle.spec_plan.specs.declared.ending.Step.{Step}
use Rattle.spec_plan.specs.PlanAnswers.{IsPlan, StandsAlone}
use Rattle.spec_plan.specs.PlanLines.{end_line, step_line}
use Rattle.plan_search.specs.Joining.{IsNamedPlainly, JoinsWorld}
use Rattle.plan_search.specs.Reached.{AreInRange, IsReached}
use Rattle.plan_search.specs.Written.{IsShort}
use Rattle.spec_output.specs.NoNames.{no_names}
use Rattle.spec_world.specs.Worlds.{IsValidWorld}
use Rattle.std.specs.List.{AllByRecursion, concat}
use Rattle.spec_program.specs.Files.{Contents, Named}
use Rattle.spec_world_file.specs.declared.ground_fault.GroundFault.{GroundFault}
use Rattle.spec_world_file.specs.GroundFile.{Grounded, MakesWorld, reads_ground, world_from}
use Rattle.spec_expect.specs.declared.expect_fault.ExpectFault.{ExpectFault}
use Rattle.spec_expect.specs.declared.expectation.Expected.{Expected}
use Rattle.spec_expect.specs.ExpectFile.{ReadsExpected}
use Rattle.spec_run.specs.Run.{run}
use Rattle.spec_run.specs.Served.{Setup}
use Rattle.spec_program.specs.Expecting.{ExpectGives, JoinExpects, TreeExpects, WorldExpects, expect_exit, expect_output, setup}
use Rattle.spec_expect.specs.Verdicts.{failed}
use Rattle.spec_program.specs.Grounds.{GroundBegins, GroundGives, GroundPlanGives, GroundPlans, GroundedPlans, SaidPlans}
use Rattle.spec_program.specs.Printed.{ground_output, print_made, print_output}
use Rattle.spec_program.specs.Jobs.{CommandGives, FilesBegin, FilesGive, files_of, held, held_by}
use Rattle.spec_program.specs.Output.{AreUncalled, Output}
use Rattle.spec_exclusive.specs.declared.pair.Pair.{Pair}
use Rattle.spec_exclusive.specs.Pairs.{meeting_pairs, missing_leaf}
use Rattle.spec_program.specs.Exclusives.{ExclusiveGives, exclusive_output, leaves_output, pairs_output}
use Rattle.spec_program.specs.Gives.{Beginning, Giving, MadeGives, MockGives, OrTooLong, PrintGives, ReadGives, RunGives, Standing, TreeGives, WorldGives, is_too_long, itself, made_output, mocked, mocked_apart, standing_output, world_output}
use Rattle.spec_program.specs.Courses.{Given, given, joined_output, run_exit}
use Rattle.spec_run.specs.Joins.{lack_of}
use Rattle.spec_program.specs.RefusalOutputs.{ground_refused, join_refused, no_goal, too_long, tree_refused, unread, words_refused, world_refused}
use Rattle.spec_program.specs.TreeFiles.{TreeReads, element_read}
use Rattle.spec_program.specs.Words.{Command, Tick, Live, Load, Check, Dead, Exclusive, Plan, Mock, MockPrint, Ground, GroundPlan, Expect}
use Rattle.spec_program.specs.declared.file.File.{File}
use Rattle.spec_program.specs.declared.file.File.TheVariants as file
use Rattle.spec_run.specs.declared.join_fault.JoinFault.{JoinFault}
use Rattle.spec_output.specs.LoadTexts.{tree_text, world_text}
use Rattle.spec_tree_file.specs.declared.mock_fault.MockFault.{MockFault}
use Rattle.spec_run.specs.declared.fault.RunFault.{RunFault}
use Rattle.spec_tree.specs.declared.term.Tree.{Tree}
use Rattle.spec_world.specs.declared.world.World.{World}
use Rattle.spec_world_file.specs.declared.world_fault.WorldFault.{WorldFault}
use Rattle.spec_run.specs.Drivers.{DriverState}
use Rattle.spec_run.specs.Run.{run_over}
use Rattle.spec_world_file.specs.WorldFile.{ReadsWorld}
use Rattle.spec_outside.specs.Appending.{Appended}
use Rattle.spec_outside.specs.Counts.{Rose}
use Rattle.spec_outside.specs.Moments.{Moments}

-- each file reads in one way: its bytes spell one element or have one fault, and never both, and they describe one world
-- or have one fault; expectations of a tree in a world too; and a world is planned for in one way
pub record OneReading : Type 0 where
  pub element : (bytes : List ℕ) (a b : Element) → Spells bytes a → Spells bytes b → a ≡ b
  pub fault : (bytes : List ℕ) (a b : ElementFault) → ElementFaultOf bytes a → ElementFaultOf bytes b → a ≡ b
  pub not_both : (bytes : List ℕ) (e : Element) (f : ElementFault) → Spells bytes e → ElementFaultOf bytes f → ⊥
  pub world : (bytes : List ℕ) (a b : Result World WorldFault) → ReadsWorld bytes a → ReadsWorld bytes b → a ≡ b
  pub expect : (tree : Tree) (world : World) (bytes : List ℕ) (a b : Result (List Expected) ExpectFault) → ReadsExpected tree world bytes a → ReadsExpected tree world bytes b → a ≡ b
  pub plan : (world : World) (limits : Limits) (before : List DriverState) → IsValidWorld world → (after other : List DriverState) (planned again : PlanEnd) →
      IsPlan world limits before after planned → IsPlan world limits before other again → (planned ≡ again) × (after ≡ other)

-- the same bytes read as one tree, or have one fault
one_tree : OneReading → (main : Option (List ℕ)) (bytes : List ℕ) (a b : Result Tree TreeFault) → TreeReads main bytes a → TreeReads main bytes b → a ≡ b
one_tree one main bytes a b (inl p) (inl q) = p.2 ∙ ap (element_read main) (one.element bytes p.0 q.0 p.1 q.1) ∙ sym q.2
one_tree one main bytes a b (inl p) (inr q) = absurd (one.not_both bytes p.0 q.0 p.1 q.1)
one_tree one main bytes a b (inr p) (inl q) = absurd (one.not_both bytes q.0 p.0 q.1 p.1)
one_tree one main bytes a b (inr p) (inr q) =
    p.2 ∙ ap (λ (f : ElementFault). let r : Result Tree TreeFault = Err (fault.Elements f) in r) (one.fault bytes p.0 q.0 p.1 q.1) ∙ sym q.2

one_if : (b : Bool) (x y z : Output) (P Q : Type 0) → MatchBool b (x ≡ z) P → MatchBool b (y ≡ z) Q → (P → Q → x ≡ y) → x ≡ y
one_if true x y z P Q p q k = p ∙ sym q
one_if false x y z P Q p q k = k p q

one_world : OneReading → (tree : Tree) (stands : Standing) (world : List ℕ) (g : Given) (x y : Output) → WorldGives tree stands world g x → WorldGives tree stands world g y → x ≡ y
one_world one tree stands world g x y p q =
    p.2 ∙ ap (λ (r : Result World WorldFault). world_output r (stands tree) g) (one.world world p.0 q.0 p.1 q.1) ∙ sym q.2

one_reading : OneReading → (r : Result Tree TreeFault) (stands : Standing) (world : List ℕ) (g : Given) (x y : Output) → TreeGives r stands world g x → TreeGives r stands world g y → x ≡ y
one_reading one (Ok tree) stands world g x y p q = one_world one tree stands world g x y p q
one_reading one (Err f) stands world g x y p q = p ∙ sym q

one_read : OneReading → (main : Option (List ℕ)) (stands : Standing) (tree world : List ℕ) (g : Given) (x y : Output) → ReadGives main stands tree world g x → ReadGives main stands tree world g y → x ≡ y
one_read one main stands tree world g x y p q =
    one_reading one q.0 stands world g x y (subst (λ (r : Result Tree TreeFault). TreeGives r stands world g x) (one_tree one main tree p.0 q.0 p.1 q.1) p.2) q.2

pub one_run : OneReading → (main : Option (List ℕ)) (tree world : List ℕ) (g : Given) (x y : Output) → RunGives main tree world g x → RunGives main tree world g y → x ≡ y
one_run one main tree world g x y p q =
    one_if (is_too_long tree) x y (too_long file.Tree) _ _ p q (λ p1 q1. one_if (is_too_long world) x y (too_long file.World) _ _ p1 q1
    (λ p2 q2. one_read one main itself tree world g x y p2 q2))

one_mock : OneReading → (main : Option (List ℕ)) (tree world rules : List ℕ) (g : Given) (x y : Output) → MockGives main tree world rules g x → MockGives main tree world rules g y → x ≡ y
one_mock one main tree world rules g x y p q =
    one_if (is_too_long tree) x y (too_long file.Tree) _ _ p q (λ p1 q1. one_if (is_too_long world) x y (too_long file.World) _ _ p1 q1
    (λ p2 q2. one_if (is_too_long rules) x y (too_long file.Rules) _ _ p2 q2 (λ p3 q3. one_read one main (mocked rules) tree world g x y p3 q3)))

one_joined : OneReading → (lack : Option JoinFault) (of : Setup) (expect : List ℕ) (x y : Output) → JoinExpects lack of expect x → JoinExpects lack of expect y → x ≡ y
one_joined one None of expect x y p q =
    p.2 ∙ ap (λ (r : Result (List Expected) ExpectFault). expect_output r of) (one.expect of.tree of.world expect p.0 q.0 p.1 q.1) ∙ sym q.2
one_joined one (Some fault) of expect x y p q = p ∙ sym q

one_expecting_world : OneReading → (described : Result World WorldFault) (tree : Tree) (expect : List ℕ) (drivers : List DriverState) (x y : Output) → WorldExpects described tree expect drivers x → WorldExpects described tree expect drivers y → x ≡ y
one_expecting_world one (Ok world) tree expect drivers x y p q = one_joined one (lack_of tree world drivers) (setup tree world) expect x y p q
one_expecting_world one (Err fault) tree expect drivers x y p q = p ∙ sym q

one_expecting_tree : OneReading → (read : Result Tree TreeFault) (world expect : List ℕ) (drivers : List DriverState) (x y : Output) → TreeExpects read world expect drivers x → TreeExpects read world expect drivers y → x ≡ y
one_expecting_tree one (Ok tree) world expect drivers x y p q =
    one_expecting_world one q.0 tree expect drivers x y (subst (λ (r : Result World WorldFault). WorldExpects r tree expect drivers x) (one.world world p.0 q.0 p.1 q.1) p.2) q.2
one_expecting_tree one (Err fault) world expect drivers x y p q = p ∙ sym q

one_expects : OneReading → (main : Option (List ℕ)) (tree world expect : List ℕ) (moments : Moments) (drivers : List DriverState) (x y : Output) → ExpectGives main tree world expect moments drivers x → ExpectGives main tree world expect moments drivers y → x ≡ y
one_expects one main tree world expect moments drivers x y p q =
    one_if (is_too_long tree) x y (too_long file.Tree) _ _ p q (λ p1 q1. one_if (is_too_long world) x y (too_long file.World) _ _ p1 q1
    (λ p2 q2. one_if (is_too_long expect) x y (too_long file.Expect) _ _ p2 q2
    (λ p3 q3. one_expecting_tree one q3.0 world expect drivers x y (subst (λ (r : Result Tree TreeFault). TreeExpects r world expect drivers x) (one_tree one main tree p3.0 q3.0 p3.1 q3.1) p3.2) q3.2)))

one_print : OneReading → (print : Print) (main : Option (List ℕ)) (tree : List ℕ) (x y : Output) → PrintGives print main tree x → PrintGives print main tree y → x ≡ y
one_print one print main tree x y p q =
    one_if (is_too_long tree) x y (too_long file.Tree) _ _ p q (λ p1 q1. p1.2 ∙ ap (print_output print) (one_tree one main tree p1.0 q1.0 p1.1 q1.1) ∙ sym q1.2)

one_exclusive : OneReading → (ids : List (List ℕ)) (main : Option (List ℕ)) (tree : List ℕ) (x y : Output) → ExclusiveGives ids main tree x → ExclusiveGives ids main tree y → x ≡ y
one_exclusive one ids main tree x y p q =
    one_if (is_too_long tree) x y (too_long file.Tree) _ _ p q (λ p1 q1. p1.2 ∙ ap (exclusive_output ids) (one_tree one main tree p1.0 q1.0 p1.1 q1.1) ∙ sym q1.2)

one_print_made : OneReading → (main : Option (List ℕ)) (tree rules : List ℕ) (x y : Output) → MadeGives main tree rules x → MadeGives main tree rules y → x ≡ y
one_print_made one main tree rules x y p q =
    one_if (is_too_long tree) x y (too_long file.Tree) _ _ p q (λ p1 q1. one_if (is_too_long rules) x y (too_long file.Rules) _ _ p1 q1
    (λ p2 q2. p2.2 ∙ ap (made_output rules) (one_tree one main tree p2.0 q2.0 p2.1 q2.1) ∙ sym q2.2))

one_planned : OneReading → (world : World) (limits : Limits) (drivers : List DriverState) (x y : Output) → IsPlanned world limits drivers x → IsPlanned world limits drivers y → x ≡ y
one_planned one world limits drivers x y p q =
    let same = one.plan world limits drivers p.valid p.after q.after p.planned q.planned p.run q.run in
    p.is ∙ ap (λ (planned : PlanEnd). plan_output planned p.after) same.0 ∙ ap (plan_output q.planned) same.1 ∙ sym q.is

one_plan_or : OneReading → (refused : Option Output) (world : World) (limits : Limits) (drivers : List DriverState) (x y : Output) → PlannedOr refused world limits drivers x → PlannedOr refused world limits drivers y → x ≡ y
one_plan_or one None world limits drivers x y p q = one_planned one world limits drivers x y p q
one_plan_or one (Some refused) world limits drivers x y p q = p ∙ sym q

one_read_plan : OneReading → (described : Result World WorldFault) (limits : Limits) (drivers : List DriverState) (x y : Output) → ReadPlans described limits drivers x → ReadPlans described limits drivers y → x ≡ y
one_read_plan one (Ok world) limits drivers x y p q = one_plan_or one (refusal_for world.goals (first_unserved drivers world.rows)) world limits drivers x y p q
one_read_plan one (Err fault) limits drivers x y p q = p ∙ sym q

one_plan : OneReading → (limits : Limits) (world : List ℕ) (drivers : List DriverState) (x y : Output) → PlanGives limits world drivers x → PlanGives limits world drivers y → x ≡ y
one_plan one limits world drivers x y p q =
    one_if (is_too_long world) x y (too_long file.World) _ _ p q (λ p1 q1.
    one_read_plan one q1.0 limits drivers x y (subst (λ (r : Result World WorldFault). ReadPlans r limits drivers x) (one.world world p1.0 q1.0 p1.1 q1.1) p1.2) q1.2)

one_ground : (bytes : List ℕ) (x y : Output) → GroundGives bytes x → GroundGives bytes y → x ≡ y
one_ground bytes x y p q = one_if (is_too_long bytes) x y (too_long file.World) _ _ p q (λ p1 q1. p1 ∙ sym q1)

one_said : OneReading → (said : Result World GroundFault) (limits : Limits) (drivers : List DriverState) (x y : Output) → SaidPlans said limits drivers x → SaidPlans said limits drivers y → x ≡ y
one_said one (Ok world) limits drivers x y p q = one_plan_or one (refusal_for world.goals (first_unserved drivers world.rows)) world limits drivers x y p q
one_said one (Err fault) limits drivers x y p q = p ∙ sym q

one_made : OneReading → (g : Grounded) (a b : Result World GroundFault) → MakesWorld g a → MakesWorld g b → a ≡ b
one_made one g a b p q = p.is ∙ ap (world_from g.origins) (one.world g.text p.read q.read p.reads q.reads) ∙ sym q.is

one_grounded : OneReading → (read : Result Grounded GroundFault) (limits : Limits) (drivers : List DriverState) (x y : Output) → GroundedPlans read limits drivers x → GroundedPlans read limits drivers y → x ≡ y
one_grounded one (Ok g) limits drivers x y p q =
    one_said one q.0 limits drivers x y (subst (λ (r : Result World GroundFault). SaidPlans r limits drivers x) (one_made one g p.0 q.0 p.1 q.1) p.2) q.2
one_grounded one (Err fault) limits drivers x y p q = p ∙ sym q

one_ground_plan : OneReading → (limits : Limits) (bytes : List ℕ) (drivers : List DriverState) (x y : Output) → GroundPlanGives limits bytes drivers x → GroundPlanGives limits bytes drivers y → x ≡ y
one_ground_plan one limits bytes drivers x y p q =
    one_if (is_too_long bytes) x y (too_long file.World) _ _ p q (λ p1 q1. one_grounded one (reads_ground bytes) limits drivers x y p1 q1)

-- the limits of a plan
abbrev limits_of : ℕ → ℕ → ℕ → Limits
limits_of expand ticks period = record { expand = expand; ticks = ticks; period = period }

-- the files of a command have one output
one_files : OneReading → (c : Command) (files : Contents) (moments : Moments) (drivers : List DriverState) (x y : Output) → FilesGive c files moments drivers x → FilesGive c files moments drivers y → x ≡ y
one_files one (Tick t w main) files moments drivers x y p q = one_run one main files.tree files.world (given course.Script moments drivers) x y p q
one_files one (Live t w rounds main) files moments drivers x y p q = one_run one main files.tree files.world (given (course.Rounds rounds) moments drivers) x y p q
one_files one (Load leaves) files moments drivers x y p q = one_run one None (tree_text leaves) (world_text leaves) (given (course.Load leaves) moments drivers) x y p q
one_files one (Check t main) files moments drivers x y p q = one_print one print.Whole main files.tree x y p q
one_files one (Dead t main) files moments drivers x y p q = one_print one print.Dead main files.tree x y p q
one_files one (Exclusive t ids main) files moments drivers x y p q = one_exclusive one ids main files.tree x y p q
one_files one (Plan w expand ticks period) files moments drivers x y p q = one_plan one (limits_of expand ticks period) files.world drivers x y p q
one_files one (Expect t w e main) files moments drivers x y p q = one_expects one main files.tree files.world files.expect moments drivers x y p q
one_files one (Ground w) files moments drivers x y p q = one_ground files.world x y p q
one_files one (GroundPlan w expand ticks period) files moments drivers x y p q = one_ground_plan one (limits_of expand ticks period) files.world drivers x y p q
one_files one (Mock t w rules main) files moments drivers x y p q = one_mock one main files.tree files.world files.rules (given course.Script moments drivers) x y p q
one_files one (MockPrint t rules main) files moments drivers x y p q = one_print_made one main files.tree files.rules x y p q

-- a given exit is that of the output, which was given whole
whole_given : (o : Output) (result : Exit) (a b : Side) → IsGiven result → Gave o result a b → IsWhole o result a b
whole_given o exit.Done a b i p = p
whole_given o exit.Words a b i p = p
whole_given o exit.Tree a b i p = p
whole_given o exit.World a b i p = p
whole_given o exit.Fault a b i p = p
whole_given o exit.NoPlan a b i p = p
whole_given o exit.Read a b i p = absurd i
whole_given o exit.Write a b i p = absurd i
whole_given o exit.Memory a b i p = absurd i
whole_given o exit.Rules a b i p = p
whole_given o exit.Request a b i p = p
whole_given o exit.NotExclusive a b i p = p
whole_given o exit.Expect a b i p = p
whole_given o exit.Unmet a b i p = p

-- where the sink's count did not rise, the output is whole or memory ran out
whole_or_memory : (o : Output) (result : Exit) (a b : Side) → (Rose a.faults b.faults → ⊥) → Gave o result a b → (result ≡ exit.Memory) ⊎ IsWhole o result a b
whole_or_memory o exit.Done a b n p = inr p
whole_or_memory o exit.Words a b n p = inr p
whole_or_memory o exit.Tree a b n p = inr p
whole_or_memory o exit.World a b n p = inr p
whole_or_memory o exit.Fault a b n p = inr p
whole_or_memory o exit.NoPlan a b n p = inr p
whole_or_memory o exit.Read a b n p = inr p
whole_or_memory o exit.Write a b n p = absurd (n p.0)
whole_or_memory o exit.Memory a b n p = inl refl
whole_or_memory o exit.Rules a b n p = inr p
whole_or_memory o exit.Request a b n p = inr p
whole_or_memory o exit.NotExclusive a b n p = inr p
whole_or_memory o exit.Expect a b n p = inr p
whole_or_memory o exit.Unmet a b n p = inr p

-- where a write failed the sink's count rose
write_gave : (o : Output) (result : Exit) (a b : Side) → result ≡ exit.Write → Gave o result a b → Rose a.faults b.faults
write_gave o result a b is gave = let failed : Gave o exit.Write a b = subst (λ (e : Exit). Gave o e a b) is gave in failed.0

-- the bytes of the files that are named, and none of the others
abbrev only : Option (List ℕ) → List ℕ → List ℕ
only (Some name) bytes = bytes
only None bytes = []

abbrev own : Named → Contents → Contents
own named files = record { tree = only named.tree files.tree; world = only named.world files.world; rules = only named.rules files.rules; expect = only named.expect files.expect }

-- what the shelf tells
held_is : (h : List ℕ → List ℕ) (name : Option (List ℕ)) (bytes : List ℕ) → ToldIfNamed (Some h) name (λ file. bytes ≡ file) → only name bytes ≡ held h name
held_is h None bytes told = refl
held_is h (Some name) bytes told = told

told_is : (h : List ℕ → List ℕ) (named : Named) (files : Contents) → AreTold (Some h) named files → own named files ≡ held_by h named
told_is h named files told =
    ap (λ (z : List ℕ). let c : Contents = record { tree = z; world = only named.world files.world; rules = only named.rules files.rules; expect = only named.expect files.expect } in c) (held_is h named.tree files.tree told.tree)
    ∙ ap (λ (z : List ℕ). let c : Contents = record { tree = held h named.tree; world = z; rules = only named.rules files.rules; expect = only named.expect files.expect } in c) (held_is h named.world files.world told.world)
    ∙ ap (λ (z : List ℕ). let c : Contents = record { tree = held h named.tree; world = held h named.world; rules = z; expect = only named.expect files.expect } in c) (held_is h named.rules files.rules told.rules)
    ∙ ap (λ (z : List ℕ). let c : Contents = record { tree = held h named.tree; world = held h named.world; rules = held h named.rules; expect = z } in c) (held_is h named.expect files.expect told.expect)

-- an output is about the files that are named alone
of_own : (c : Command) (files : Contents) (moments : Moments) (drivers : List DriverState) (o : Output) → FilesGive c files moments drivers o → FilesGive c (own (files_of c) files) moments drivers o
of_own (Tick t w main) files moments drivers o p = p
of_own (Live t w rounds main) files moments drivers o p = p
of_own (Load leaves) files moments drivers o p = p
of_own (Check t main) files moments drivers o p = p
of_own (Dead t main) files moments drivers o p = p
of_own (Exclusive t ids main) files moments drivers o p = p
of_own (Plan w expand ticks period) files moments drivers o p = p
of_own (Mock t w rules main) files moments drivers o p = p
of_own (MockPrint t rules main) files moments drivers o p = p
of_own (Expect t w x main) files moments drivers o p = p
of_own (Ground w) files moments drivers o p = p
of_own (GroundPlan w expand ticks period) files moments drivers o p = p

from_own : (c : Command) (files : Contents) (moments : Moments) (drivers : List DriverState) (o : Output) → FilesGive c (own (files_of c) files) moments drivers o → FilesGive c files moments drivers o
from_own (Tick t w main) files moments drivers o p = p
from_own (Live t w rounds main) files moments drivers o p = p
from_own (Load leaves) files moments drivers o p = p
from_own (Check t main) files moments drivers o p = p
from_own (Dead t main) files moments drivers o p = p
from_own (Exclusive t ids main) files moments drivers o p = p
from_own (Plan w expand ticks period) files moments drivers o p = p
from_own (Mock t w rules main) files moments drivers o p = p
from_own (MockPrint t rules main) files moments drivers o p = p
from_own (Expect t w x main) files moments drivers o p = p
from_own (Ground w) files moments drivers o p = p
from_own (GroundPlan w expand ticks period) files moments drivers o p = p

-- the bytes that the shelf tells are those of the answer
files_told : (h : List ℕ → List ℕ) (c : Command) (files : Contents) (moments : Moments) (drivers : List DriverState) (o : Output) → AreTold (Some h) (files_of c) files
    → FilesGive c (held_by h (files_of c)) moments drivers o → FilesGive c files moments drivers o
files_told h c files moments drivers o told p =
    from_own c files moments drivers o (subst (λ (z : Contents). FilesGive c z moments drivers o) (sym (told_is h (files_of c) files told)) p)

told_files : (h : List ℕ → List ℕ) (c : Command) (files : Contents) (moments : Moments) (drivers : List DriverState) (o : Output) → AreTold (Some h) (files_of c) files
    → FilesGive c files moments drivers o → FilesGive c (held_by h (files_of c)) moments drivers o
told_files h c files moments drivers o told p =
    subst (λ (z : Contents). FilesGive c z moments drivers o) (told_is h (files_of c) files told) (of_own c files moments drivers o p)

-- ---- Moments

-- a fact of any moments, and one that follows
each_always : (clock : Option Moments) {P : Moments → Type 0} → ((moments : Moments) → P moments) → IfTold clock P
each_always None p = tt
each_always (Some told) p = p told

if_more : (clock : Option Moments) (P Q : Moments → Type 0) → ((moments : Moments) → P moments → Q moments) → IfTold clock P → IfTold clock Q
if_more None P Q more x = tt
if_more (Some told) P Q more x = more told x

-- what is so of each output, and what follows
pub each_more : (holds : Option (List ℕ → List ℕ)) (command : Option Command) (a : Side) (P Q : Output → Type 0) → ((o : Output) → P o → Q o) → EachOutput holds command a P → EachOutput holds command a Q
each_more None command a P Q more x = tt
each_more (Some h) command a P Q more x =
    if_more (moments_for command a.clock) (λ moments. (o : Output) → CommandGives command h moments a.drivers o → P o) (λ moments. (o : Output) → CommandGives command h moments a.drivers o → Q o)
    (λ moments each o p. more o (each o p)) x

-- what is so of some moments is so of those that have to be told
needed : (c : Command) (files : Contents) (result : Exit) (a b : Side) (clock : Option Moments) →
    AtMoments clock (λ moments. Answers (FilesGive c files moments a.drivers) (FilesBegin c files) result a b) → IfTold (moments_for (Some c) clock) (λ moments. Answers (FilesGive c files moments a.drivers) (FilesBegin c files) result a b)
needed (Tick t w main) files result a b clock x = x.holds
needed (Live t w rounds main) files result a b None x = tt
needed (Live t w rounds main) files result a b (Some told) x = subst (λ (moments : Moments). Answers (FilesGive (Live t w rounds main) files moments a.drivers) (FilesBegin (Live t w rounds main) files) result a b) x.told x.holds
needed (Load leaves) files result a b clock x = x.holds
needed (Check t main) files result a b clock x = x.holds
needed (Dead t main) files result a b clock x = x.holds
needed (Exclusive t ids main) files result a b clock x = x.holds
needed (Plan w expand ticks period) files result a b clock x = x.holds
needed (Mock t w rules main) files result a b clock x = x.holds
needed (MockPrint t rules main) files result a b clock x = x.holds
needed (Expect t w e main) files result a b clock x = x.holds
needed (Ground w) files result a b clock x = x.holds
needed (GroundPlan w expand ticks period) files result a b clock x = x.holds

-- ---- Clauses

-- the files of a command were answered
abbrev Answered : Option (List ℕ → List ℕ) → Command → Exit → Side → Side → Type 0
Answered holds c result a b = FilesAnswered holds (files_of c) (FilesGive c) (FilesBegin c) result a b

-- the clauses of a command
module _ (one : OneReading) (cuts : CutLaw) (c : Command) (result : Exit) (shelf : Type 0) (IsUnread : File → Type 0) (a b : Side) where
  answered_gave : (files : Contents) (moments : Moments) (o : Output) → FilesGive c files moments a.drivers o → Answers (FilesGive c files moments a.drivers) (FilesBegin c files) result a b → Gave o result a b
  answered_gave files moments o p (inl x) = subst (λ (z : Output). Gave z result a b) (one_files one c files moments a.drivers x.0 o x.1 p) x.2
  answered_gave files moments o p (inr y) = ran_out_gave cuts one.world c files moments o result a b p y

  each_answered : (h : List ℕ → List ℕ) (f : Answered (Some h) c result a b) → EachOutput (Some h) (Some c) a (λ o. Gave o result a b)
  each_answered h f =
      if_more (moments_for (Some c) a.clock) (λ moments. Answers (FilesGive c f.files moments a.drivers) (FilesBegin c f.files) result a b) (λ moments. (o : Output) → CommandGives (Some c) h moments a.drivers o → Gave o result a b)
      (λ moments answers o p. answered_gave f.files moments o (files_told h c f.files moments a.drivers o f.told p) answers)
      (needed c f.files result a b a.clock f.answers)

  each_told : (h : List ℕ → List ℕ) → ReadFailed shelf IsUnread result a b ⊎ Answered (Some h) c result a b → EachOutput (Some h) (Some c) a (λ o. Gave o result a b ⊎ ReadFailed shelf IsUnread result a b)
  each_told h (inl r) = each_always (moments_for (Some c) a.clock) (λ moments o p. inr r)
  each_told h (inr f) =
      if_more (moments_for (Some c) a.clock) (λ moments. (o : Output) → CommandGives (Some c) h moments a.drivers o → Gave o result a b) (λ moments. (o : Output) → CommandGives (Some c) h moments a.drivers o → Gave o result a b ⊎ ReadFailed shelf IsUnread result a b)
      (λ moments each o p. inl (each o p)) (each_answered h f)

  -- each output of the command was given, or a read failed
  pub each_clause : (holds : Option (List ℕ → List ℕ)) → ReadFailed shelf IsUnread result a b ⊎ Answered holds c result a b → EachOutput holds (Some c) a (λ o. Gave o result a b ⊎ ReadFailed shelf IsUnread result a b)
  each_clause None x = tt
  each_clause (Some h) x = each_told h x

  -- whatever is answered, no more was begun than in the run
  pub begun_clause : (holds : Option (List ℕ → List ℕ)) → ReadFailed shelf IsUnread result a b ⊎ Answered holds c result a b → EachOutput holds (Some c) a (λ o. DriversWithin o.calls a.drivers b.drivers)
  begun_clause None x = tt
  begun_clause (Some h) (inl r) =
      each_always (moments_for (Some c) a.clock)
      (λ moments o p. uncalled_is_within cuts one.world c (held_by h (files_of c)) moments a b o p (unread_called_none r.1 result a b r.3))
  begun_clause (Some h) (inr f) =
      if_more (moments_for (Some c) a.clock) (λ moments. (o : Output) → CommandGives (Some c) h moments a.drivers o → Gave o result a b) (λ moments. (o : Output) → CommandGives (Some c) h moments a.drivers o → DriversWithin o.calls a.drivers b.drivers)
      (λ moments each o p. gave_within o result a b (each o p)) (each_answered h f)

-- the clauses of words that are no command
module _ (result : Exit) (shelf : Type 0) (IsUnread : File → Type 0) (a b : Side) (gave : Gave words_refused result a b) where
  pub none_whole : (holds : Option (List ℕ → List ℕ)) → IsGiven result → WholeOutput holds None result a b
  none_whole None i = tt
  none_whole (Some h) i = (words_refused, refl, whole_given words_refused result a b i gave)

  refused_gave : (o : Output) → o ≡ words_refused → Gave o result a b
  refused_gave o e = subst (λ (z : Output). Gave z result a b) (sym e) gave

  pub none_each : (holds : Option (List ℕ → List ℕ)) → EachOutput holds None a (λ o. Gave o result a b ⊎ ReadFailed shelf IsUnread result a b)
  none_each None = tt
  none_each (Some h) = λ o e. inl (refused_gave o e)

  pub none_begun : (holds : Option (List ℕ → List ℕ)) → EachOutput holds None a (λ o. DriversWithin o.calls a.drivers b.drivers)
  none_begun None = tt
  none_begun (Some h) = λ o e. gave_within o result a b (refused_gave o e)

  none_exit : result ≡ exit.Read → ⊥
  none_exit is = let gave : Gave words_refused exit.Read a b = subst (λ (e : Exit). Gave words_refused e a b) is gave in let e = gave.0 in cc

  pub none_read : {A : Type 0} → result ≡ exit.Read → A
  none_read is = absurd (none_exit is)

-- the exits of the outputs of files
abbrev IsOfFiles : Exit → Type 0
IsOfFiles exit.Done = Unit {0}
IsOfFiles exit.Tree = Unit {0}
IsOfFiles exit.World = Unit {0}
IsOfFiles exit.Fault = Unit {0}
IsOfFiles exit.NoPlan = Unit {0}
IsOfFiles exit.Rules = Unit {0}
IsOfFiles exit.NotExclusive = Unit {0}
IsOfFiles exit.Expect = Unit {0}
IsOfFiles exit.Unmet = Unit {0}
IsOfFiles _ = ⊥

same_exit : (o z : Output) → o ≡ z → IsOfFiles z.exit → IsOfFiles o.exit
same_exit o z p x = subst (λ (y : Output). IsOfFiles y.exit) (sym p) x

exit_of_end : (fault : Option RunFault) → IsOfFiles (run_exit fault)
exit_of_end None = tt
exit_of_end (Some fault) = tt

exit_of_join : (lack : Option JoinFault) (tree : Tree) (world : World) (g : Given) → IsOfFiles (joined_output lack tree world g).exit
exit_of_join None tree world g = exit_of_end (run_over tree world (g.events world)).fault
exit_of_join (Some fault) tree world g = tt

exit_of_standing : (stands : Result Tree MockFault) (world : World) (g : Given) → IsOfFiles (standing_output stands world g).exit
exit_of_standing (Ok tree) world g = exit_of_join (lack_of tree world g.drivers) tree world g
exit_of_standing (Err f) world g = tt

exit_of_world : (r : Result World WorldFault) (stands : Result Tree MockFault) (g : Given) → IsOfFiles (world_output r stands g).exit
exit_of_world (Ok world) stands g = exit_of_standing stands world g
exit_of_world (Err f) stands g = tt

exit_of_printed : (print : Print) (r : Result Tree TreeFault) → IsOfFiles (print_output print r).exit
exit_of_printed print (Ok tree) = tt
exit_of_printed print (Err f) = tt

exit_of_tree : (r : Result Tree TreeFault) (stands : Standing) (world : List ℕ) (g : Given) (o : Output) → TreeGives r stands world g o → IsOfFiles o.exit
exit_of_tree (Ok tree) stands world g o p = same_exit o _ p.2 (exit_of_world p.0 (stands tree) g)
exit_of_tree (Err f) stands world g o p = same_exit o (tree_refused f) p tt

exit_of_long : (b : Bool) (o z : Output) (P : Type 0) → IsOfFiles z.exit → MatchBool b (o ≡ z) P → (P → IsOfFiles o.exit) → IsOfFiles o.exit
exit_of_long true o z P x p k = same_exit o z p x
exit_of_long false o z P x p k = k p

exit_of_run : (main : Option (List ℕ)) (tree world : List ℕ) (g : Given) (o : Output) → RunGives main tree world g o → IsOfFiles o.exit
exit_of_run main tree world g o p =
    exit_of_long (is_too_long tree) o (too_long file.Tree) _ tt p
    (λ p1. exit_of_long (is_too_long world) o (too_long file.World) _ tt p1 (λ p2. exit_of_tree p2.0 itself world g o p2.2))

exit_of_mock : (main : Option (List ℕ)) (tree world rules : List ℕ) (g : Given) (o : Output) → MockGives main tree world rules g o → IsOfFiles o.exit
exit_of_mock main tree world rules g o p =
    exit_of_long (is_too_long tree) o (too_long file.Tree) _ tt p (λ p1. exit_of_long (is_too_long world) o (too_long file.World) _ tt p1
    (λ p2. exit_of_long (is_too_long rules) o (too_long file.Rules) _ tt p2 (λ p3. exit_of_tree p3.0 (mocked rules) world g o p3.2)))

exit_of_count : (fault : Option RunFault) (failed : ℕ) → IsOfFiles (expect_exit fault failed)
exit_of_count (Some fault) failed = tt
exit_of_count None failed = by (nat_eq failed 0)
  where
    by : (b : Bool) → IsOfFiles (if b then exit.Done else exit.Unmet)
    by true = tt
    by false = tt

exit_of_expected : (read : Result (List Expected) ExpectFault) (of : Setup) → IsOfFiles (expect_output read of).exit
exit_of_expected (Ok expected) of = exit_of_count (run of.tree of.world).fault (failed of (run of.tree of.world).blocks expected)
exit_of_expected (Err fault) of = tt

exit_of_joined : (lack : Option JoinFault) (of : Setup) (expect : List ℕ) (o : Output) → JoinExpects lack of expect o → IsOfFiles o.exit
exit_of_joined None of expect o p = same_exit o (expect_output p.0 of) p.2 (exit_of_expected p.0 of)
exit_of_joined (Some fault) of expect o p = same_exit o (join_refused fault) p tt

exit_of_expecting_world : (described : Result World WorldFault) (tree : Tree) (expect : List ℕ) (drivers : List DriverState) (o : Output) → WorldExpects described tree expect drivers o → IsOfFiles o.exit
exit_of_expecting_world (Ok world) tree expect drivers o p = exit_of_joined (lack_of tree world drivers) (setup tree world) expect o p
exit_of_expecting_world (Err fault) tree expect drivers o p = same_exit o (world_refused fault) p tt

exit_of_expecting_tree : (read : Result Tree TreeFault) (world expect : List ℕ) (drivers : List DriverState) (o : Output) → TreeExpects read world expect drivers o → IsOfFiles o.exit
exit_of_expecting_tree (Ok tree) world expect drivers o p = exit_of_expecting_world p.0 tree expect drivers o p.2
exit_of_expecting_tree (Err fault) world expect drivers o p = same_exit o (tree_refused fault) p tt

exit_of_expects : (main : Option (List ℕ)) (tree world expect : List ℕ) (moments : Moments) (drivers : List DriverState) (o : Output) → ExpectGives main tree world expect moments drivers o → IsOfFiles o.exit
exit_of_expects main tree world expect moments drivers o p =
    exit_of_long (is_too_long tree) o (too_long file.Tree) _ tt p (λ p1. exit_of_long (is_too_long world) o (too_long file.World) _ tt p1
    (λ p2. exit_of_long (is_too_long expect) o (too_long file.Expect) _ tt p2 (λ p3. exit_of_expecting_tree p3.0 world expect drivers o p3.2)))

exit_of_print : (print : Print) (main : Option (List ℕ)) (tree : List ℕ) (o : Output) → PrintGives print main tree o → IsOfFiles o.exit
exit_of_print print main tree o p =
    exit_of_long (is_too_long tree) o (too_long file.Tree) _ tt p (λ p1. same_exit o (print_output print p1.0) p1.2 (exit_of_printed print p1.0))

exit_of_pairs : (pairs : List Pair) → IsOfFiles (pairs_output pairs).exit
exit_of_pairs [] = tt
exit_of_pairs (pair ∷ pairs) = tt

exit_of_leaves : (missing : Option (List ℕ)) (ids : List (List ℕ)) (tree : Tree) → IsOfFiles (leaves_output missing ids tree).exit
exit_of_leaves (Some id) ids tree = tt
exit_of_leaves None ids tree = exit_of_pairs (meeting_pairs ids tree)

exit_of_read_leaves : (ids : List (List ℕ)) (r : Result Tree TreeFault) → IsOfFiles (exclusive_output ids r).exit
exit_of_read_leaves ids (Ok tree) = exit_of_leaves (missing_leaf ids tree) ids tree
exit_of_read_leaves ids (Err f) = tt

exit_of_exclusive : (ids : List (List ℕ)) (main : Option (List ℕ)) (tree : List ℕ) (o : Output) → ExclusiveGives ids main tree o → IsOfFiles o.exit
exit_of_exclusive ids main tree o p =
    exit_of_long (is_too_long tree) o (too_long file.Tree) _ tt p (λ p1. same_exit o (exclusive_output ids p1.0) p1.2 (exit_of_read_leaves ids p1.0))

exit_of_made : (r : Result Tree MockFault) → IsOfFiles (print_made r).exit
exit_of_made (Ok tree) = tt
exit_of_made (Err f) = tt

exit_of_rules : (rules : List ℕ) (r : Result Tree TreeFault) → IsOfFiles (made_output rules r).exit
exit_of_rules rules (Ok tree) = exit_of_made (mocked_apart rules tree)
exit_of_rules rules (Err f) = tt

exit_of_print_made : (main : Option (List ℕ)) (tree rules : List ℕ) (o : Output) → MadeGives main tree rules o → IsOfFiles o.exit
exit_of_print_made main tree rules o p =
    exit_of_long (is_too_long tree) o (too_long file.Tree) _ tt p
    (λ p1. exit_of_long (is_too_long rules) o (too_long file.Rules) _ tt p1 (λ p2. same_exit o (made_output rules p2.0) p2.2 (exit_of_rules rules p2.0)))

exit_of_end_of_plan : (end : End) → IsOfFiles (plan_exit end)
exit_of_end_of_plan (Reached tree tick) = tt
exit_of_end_of_plan (NoTemplate failed) = tt
exit_of_end_of_plan (NoOrder action condition) = tt
exit_of_end_of_plan (Expansions n) = tt
exit_of_end_of_plan (StillRunning ticks) = tt
exit_of_end_of_plan (Faulted uid cause) = tt

exit_of_plan_or : (goals : List ℕ) (lack : Option JoinFault) (world : World) (limits : Limits) (drivers : List DriverState) (o : Output) → PlannedOr (refusal_for goals lack) world limits drivers o → IsOfFiles o.exit
exit_of_plan_or [] lack world limits drivers o p = same_exit o no_goal p tt
exit_of_plan_or (goal ∷ goals) (Some fault) world limits drivers o p = same_exit o (join_refused fault) p tt
exit_of_plan_or (goal ∷ goals) None world limits drivers o p = same_exit o (plan_output p.planned p.after) p.is (exit_of_end_of_plan p.planned.end)

exit_of_read_plan : (described : Result World WorldFault) (limits : Limits) (drivers : List DriverState) (o : Output) → ReadPlans described limits drivers o → IsOfFiles o.exit
exit_of_read_plan (Ok world) limits drivers o p = exit_of_plan_or world.goals (first_unserved drivers world.rows) world limits drivers o p
exit_of_read_plan (Err fault) limits drivers o p = same_exit o (world_refused fault) p tt

exit_of_plan : (limits : Limits) (world : List ℕ) (drivers : List DriverState) (o : Output) → PlanGives limits world drivers o → IsOfFiles o.exit
exit_of_plan limits world drivers o p = exit_of_long (is_too_long world) o (too_long file.World) _ tt p (λ p1. exit_of_read_plan p1.0 limits drivers o p1.2)

exit_of_text : (read : Result Grounded GroundFault) → IsOfFiles (ground_output read).exit
exit_of_text (Ok g) = tt
exit_of_text (Err fault) = tt

exit_of_ground : (bytes : List ℕ) (o : Output) → GroundGives bytes o → IsOfFiles o.exit
exit_of_ground bytes o p = exit_of_long (is_too_long bytes) o (too_long file.World) _ tt p (λ p1. same_exit o (ground_output (reads_ground bytes)) p1 (exit_of_text (reads_ground bytes)))

exit_of_said : (said : Result World GroundFault) (limits : Limits) (drivers : List DriverState) (o : Output) → SaidPlans said limits drivers o → IsOfFiles o.exit
exit_of_said (Ok world) limits drivers o p = exit_of_plan_or world.goals (first_unserved drivers world.rows) world limits drivers o p
exit_of_said (Err fault) limits drivers o p = same_exit o (ground_refused fault) p tt

exit_of_grounded : (read : Result Grounded GroundFault) (limits : Limits) (drivers : List DriverState) (o : Output) → GroundedPlans read limits drivers o → IsOfFiles o.exit
exit_of_grounded (Ok g) limits drivers o p = exit_of_said p.0 limits drivers o p.2
exit_of_grounded (Err fault) limits drivers o p = same_exit o (ground_refused fault) p tt

exit_of_ground_plan : (limits : Limits) (bytes : List ℕ) (drivers : List DriverState) (o : Output) → GroundPlanGives limits bytes drivers o → IsOfFiles o.exit
exit_of_ground_plan limits bytes drivers o p = exit_of_long (is_too_long bytes) o (too_long file.World) _ tt p (λ p1. exit_of_grounded (reads_ground bytes) limits drivers o p1)

exit_of_files : (c : Command) (files : Contents) (moments : Moments) (drivers : List DriverState) (o : Output) → FilesGive c files moments drivers o → IsOfFiles o.exit
exit_of_files (Tick t w main) files moments drivers o p = exit_of_run main files.tree files.world (given course.Script moments drivers) o p
exit_of_files (Live t w rounds main) files moments drivers o p = exit_of_run main files.tree files.world (given (course.Rounds rounds) moments drivers) o p
exit_of_files (Load leaves) files moments drivers o p = exit_of_run None (tree_text leaves) (world_text leaves) (given (course.Load leaves) moments drivers) o p
exit_of_files (Check t main) files moments drivers o p = exit_of_print print.Whole main files.tree o p
exit_of_files (Dead t main) files moments drivers o p = exit_of_print print.Dead main files.tree o p
exit_of_files (Exclusive t ids main) files moments drivers o p = exit_of_exclusive ids main files.tree o p
exit_of_files (Plan w expand ticks period) files moments drivers o p = exit_of_plan (limits_of expand ticks period) files.world drivers o p
exit_of_files (Expect t w e main) files moments drivers o p = exit_of_expects main files.tree files.world files.expect moments drivers o p
exit_of_files (Ground w) files moments drivers o p = exit_of_ground files.world o p
exit_of_files (GroundPlan w expand ticks period) files moments drivers o p = exit_of_ground_plan (limits_of expand ticks period) files.world drivers o p
exit_of_files (Mock t w rules main) files moments drivers o p = exit_of_mock main files.tree files.world files.rules (given course.Script moments drivers) o p
exit_of_files (MockPrint t rules main) files moments drivers o p = exit_of_print_made main files.tree files.rules o p

-- no tree was run where a file was not read
unread_left : (f : File) (a b : Side) → DriversLeft (unread f).calls a.drivers b.drivers → AreUncalled a.drivers b.drivers
unread_left file.Tree a b p = p
unread_left file.World a b p = p
unread_left file.Rules a b p = p
unread_left file.Expect a b p = p

not_given : (f : File) → IsGiven (unread f).exit → ⊥
not_given file.Tree x = x
not_given file.World x = x
not_given file.Rules x = x
not_given file.Expect x = x

not_words : (f : File) → (unread f).exit ≡ exit.Words → ⊥
not_words file.Tree e = cc
not_words file.World e = cc
not_words file.Rules e = cc
not_words file.Expect e = cc

-- what was given whole, and what a failed read gave
module _ (c : Command) (result : Exit) (shelf : Type 0) (IsUnread : File → Type 0) (a b : Side) where
  whole_answered : (h : List ℕ → List ℕ) (f : Answered (Some h) c result a b) → IsGiven result → (moments : Moments) → Answers (FilesGive c f.files moments a.drivers) (FilesBegin c f.files) result a b
      → (o : Output) × CommandGives (Some c) h moments a.drivers o × IsWhole o result a b
  whole_answered h f given moments (inl x) = (x.0, told_files h c f.files moments a.drivers x.0 f.told x.1, whole_given x.0 result a b given x.2)
  whole_answered h f given moments (inr y) = absurd (subst IsGiven y.exit given)

  pub whole_clause : (holds : Option (List ℕ → List ℕ)) → ReadFailed shelf IsUnread result a b ⊎ Answered holds c result a b → IsGiven result → WholeOutput holds (Some c) result a b
  whole_clause None x given = tt
  whole_clause (Some h) (inl r) given = absurd (not_given r.1 (subst IsGiven (sym (whole_given (unread r.1) result a b given r.3).0) given))
  whole_clause (Some h) (inr f) given =
      if_more (moments_for (Some c) a.clock) (λ moments. Answers (FilesGive c f.files moments a.drivers) (FilesBegin c f.files) result a b) (λ moments. (o : Output) × CommandGives (Some c) h moments a.drivers o × IsWhole o result a b)
      (whole_answered h f given) (needed c f.files result a b a.clock f.answers)

  read_answered : (files : Contents) (moments : Moments) → result ≡ exit.Read → Answers (FilesGive c files moments a.drivers) (FilesBegin c files) result a b → ⊥
  read_answered files moments is (inl x) =
      let gave : Gave x.0 exit.Read a b = subst (λ (e : Exit). Gave x.0 e a b) is x.2 in
      subst IsOfFiles gave.0 (exit_of_files c files moments a.drivers x.0 x.1)
  read_answered files moments is (inr y) = let e : exit.Memory ≡ exit.Read = sym y.exit ∙ is in cc

  never_read : (clock : Option Moments) (files : Contents) → result ≡ exit.Read → AtMoments clock (λ moments. Answers (FilesGive c files moments a.drivers) (FilesBegin c files) result a b) → ⊥
  never_read clock files is x = read_answered files x.moments is x.holds

  pub read_clause : (holds : Option (List ℕ → List ℕ)) → ReadFailed shelf IsUnread result a b ⊎ Answered holds c result a b → result ≡ exit.Read → shelf × UnreadLine IsUnread a b
  read_clause holds (inl r) is =
      let gave : Gave (unread r.1) exit.Read a b = subst (λ (e : Exit). Gave (unread r.1) e a b) is r.3 in
      (r.0, (r.1, r.2, gave.1, unread_left r.1 a b gave.2))
  read_clause holds (inr f) is = absurd (never_read a.clock f.files is f.answers)

  words_answered : (files : Contents) (moments : Moments) → result ≡ exit.Words → Answers (FilesGive c files moments a.drivers) (FilesBegin c files) result a b → ⊥
  words_answered files moments is (inl x) =
      let gave : Gave x.0 exit.Words a b = subst (λ (e : Exit). Gave x.0 e a b) is x.2 in
      subst IsOfFiles gave.0 (exit_of_files c files moments a.drivers x.0 x.1)
  words_answered files moments is (inr y) = let e : exit.Memory ≡ exit.Words = sym y.exit ∙ is in cc

  never_words : (clock : Option Moments) (files : Contents) → result ≡ exit.Words → AtMoments clock (λ moments. Answers (FilesGive c files moments a.drivers) (FilesBegin c files) result a b) → ⊥
  never_words clock files is x = words_answered files x.moments is x.holds

  -- words that are a command are not refused
  pub words_clause : (holds : Option (List ℕ → List ℕ)) → ReadFailed shelf IsUnread result a b ⊎ Answered holds c result a b → result ≡ exit.Words → ⊥
  words_clause holds (inl r) is =
      let gave : Gave (unread r.1) exit.Words a b = subst (λ (e : Exit). Gave (unread r.1) e a b) is r.3 in
      not_words r.1 gave.0
  words_clause holds (inr f) is = never_words a.clock f.files is f.answers

  write_answered : (files : Contents) (moments : Moments) → result ≡ exit.Write → Answers (FilesGive c files moments a.drivers) (FilesBegin c files) result a b → Rose a.faults b.faults
  write_answered files moments is (inl x) = write_gave x.0 result a b is x.2
  write_answered files moments is (inr y) = let e : exit.Memory ≡ exit.Write = sym y.exit ∙ is in cc

  -- a write failed
  pub write_clause : (holds : Option (List ℕ → List ℕ)) → ReadFailed shelf IsUnread result a b ⊎ Answered holds c result a b → result ≡ exit.Write → Rose a.faults b.faults
  write_clause holds (inl r) is = write_gave (unread r.1) result a b is r.3
  write_clause holds (inr f) is = write_answered f.files f.answers.moments is f.answers.holds

  unasked_answered : (files : Contents) (moments : Moments) → IsNotLive (Some c) → Answers (FilesGive c files moments a.drivers) (FilesBegin c files) result a b → b.clock ≡ a.clock
  unasked_answered files moments other (inl x) = gave_unasked x.0 result a b (files_unasked c files moments a.drivers x.0 other x.1) x.2
  unasked_answered files moments other (inr y) = y.clock

  -- the clock was not asked
  pub unasked_clause : (holds : Option (List ℕ → List ℕ)) → IsNotLive (Some c) → ReadFailed shelf IsUnread result a b ⊎ Answered holds c result a b → b.clock ≡ a.clock
  unasked_clause holds other (inl r) = gave_unasked (unread r.1) result a b (unread_unasked r.1) r.3
  unasked_clause holds other (inr f) = unasked_answered f.files f.answers.moments other f.answers.holds

-- ---- Plans

-- a plan was given whole, with Done, for a world that its file describes so
module _ (laws : PlanLaws) (limits : Limits) (Describes : List ℕ → World → Type 0) (a b : Side) where
  abbrev pub Reaches : List ℕ → Type 0
  Reaches file = PlanReaches file Describes limits.period a b

  -- its end reaches the goals
  by_end : (script : List ℕ) (world : World) (steps : List Step) (end : End) → Describes script world → IsReached world limits end → StandsAlone end
      → AllByRecursion IsNamedPlainly steps → JoinsWorld world a.drivers end → IsShort steps end
      → plan_exit end ≡ exit.Done → Appended a.written b.written (concat (map step_line steps) ++ (end_line no_names end ++ concat (reached_lines end))) → Reaches script
  by_end script world steps (Reached tree tick) described reached alone named joins short done written = record {
    world = world;
    described = described;
    steps = steps;
    tree = tree;
    tick = tick;
    printed = written;
    short = short;
    reads_back = file_reads laws steps tree tick named alone.0 alone.1;
    joins = λ n. tree_joins world a.drivers tree tick limits.period n joins;
    reached = reached;
  }
  by_end script world steps (NoTemplate failed) described reached alone named joins short done written = cc
  by_end script world steps (NoOrder action condition) described reached alone named joins short done written = cc
  by_end script world steps (Expansions n) described reached alone named joins short done written = cc
  by_end script world steps (StillRunning ticks) described reached alone named joins short done written = cc
  by_end script world steps (Faulted uid cause) described reached alone named joins short done written = cc

  pub by_plan : AreInRange limits → (goals : List ℕ) (lack : Option JoinFault) (script : List ℕ) (world : World) (o : Output) → first_unserved a.drivers world.rows ≡ lack → Describes script world
      → PlannedOr (refusal_for goals lack) world limits a.drivers o → o.exit ≡ exit.Done → Appended a.written b.written o.bytes → Reaches script
  by_plan range [] lack script world o lacks described p done written = let e : exit.World ≡ exit.Done = sym (ap (λ (z : Output). z.exit) p) ∙ done in cc
  by_plan range (goal ∷ goals) (Some fault) script world o lacks described p done written = let e : exit.World ≡ exit.Done = sym (ap (λ (z : Output). z.exit) p) ∙ done in cc
  by_plan range (goal ∷ goals) None script world o lacks described p done written =
      let served = all_served a.drivers world.rows lacks in
      by_end script world p.planned.steps p.planned.end described (laws.reach world limits p.planned p.run.trials p.run.last p.run.run) p.alone
      (laws.named world limits p.planned p.run.trials p.run.last p.valid p.run.run) (laws.join world limits p.planned p.run.trials p.run.last a.drivers p.valid served p.run.run)
      (laws.short world limits p.planned p.run.trials p.run.last p.valid range p.run.run)
      (sym (ap (λ (z : Output). z.exit) p.is) ∙ done) (subst (λ (z : Output). Appended a.written b.written z.bytes) p.is written)

  -- what is not a plan is no output at Done
  pub not_done : (script : List ℕ) (o refused : Output) → refused.exit ≡ exit.World → o ≡ refused → o.exit ≡ exit.Done → Reaches script
  not_done script o refused is p done = let e : exit.World ≡ exit.Done = sym is ∙ sym (ap (λ (z : Output). z.exit) p) ∙ done in cc

  by_length : (long : Bool) (script : List ℕ) (o : Output) (Plans : Type 0) → (Plans → o.exit ≡ exit.Done → Appended a.written b.written o.bytes → Reaches script)
      → MatchBool long (o ≡ too_long file.World) Plans → o.exit ≡ exit.Done → Appended a.written b.written o.bytes → Reaches script
  by_length true script o Plans by p done written = not_done script o (too_long file.World) refl p done
  by_length false script o Plans by p done written = by p done written

  -- an output was given whose file is not too long
  module _ (Gives : Giving) (Begins : Beginning) (Plans : List ℕ → Output → Type 0)
      (opens : (files : Contents) (moments : Moments) (o : Output) → Gives files moments a.drivers o → OrTooLong files.world (too_long file.World) o (Plans files.world o))
      (by : (script : List ℕ) (o : Output) → Plans script o → o.exit ≡ exit.Done → Appended a.written b.written o.bytes → Reaches script)
    where
      by_answer : (files : Contents) (moments : Moments) → Answers (Gives files moments a.drivers) (Begins files) exit.Done a b → Reaches files.world
      by_answer files moments (inl x) = by_length (is_too_long files.world) files.world x.0 (Plans files.world x.0) (by files.world x.0) (opens files moments x.0 x.1) x.2.0 x.2.1
      by_answer files moments (inr y) = let e : exit.Done ≡ exit.Memory = y.exit in cc

      pub reached_by : (files : Contents) → GaveOf files Gives Begins exit.Done a b → Reaches files.world
      reached_by files gave = by_answer files gave.moments gave.holds

-- .. by a world script
module _ (laws : PlanLaws) (limits : Limits) (range : AreInRange limits) (a b : Side) where
  by_world : (described : Result World WorldFault) (script : List ℕ) (o : Output) → ReadsWorld script described → ReadPlans described limits a.drivers o
      → o.exit ≡ exit.Done → Appended a.written b.written o.bytes → Reaches laws limits IsScriptOf a b script
  by_world (Ok world) script o described p done written = by_plan laws limits IsScriptOf a b range world.goals (first_unserved a.drivers world.rows) script world o refl described p done written
  by_world (Err fault) script o described p done written = not_done laws limits IsScriptOf a b script o (world_refused fault) refl p done

  pub reached_of : (files : Contents) → GaveOf files (Plans limits) (Begins limits) exit.Done a b → Reaches laws limits IsScriptOf a b files.world
  reached_of = reached_by laws limits IsScriptOf a b (Plans limits) (Begins limits) (λ bytes o. (described : Result World WorldFault) × ReadsWorld bytes described × ReadPlans described limits a.drivers o)
      (λ files moments o p. p) (λ script o p done written. by_world p.0 script o p.1 p.2 done written)

-- .. by the script that a ground file stands for
module _ (laws : PlanLaws) (limits : Limits) (range : AreInRange limits) (a b : Side) where
  by_said : (g : Grounded) (read : Result World WorldFault) (said : Result World GroundFault) (script : List ℕ) (o : Output) → said ≡ world_from g.origins read → reads_ground script ≡ Ok g
      → ReadsWorld g.text read → SaidPlans said limits a.drivers o → o.exit ≡ exit.Done → Appended a.written b.written o.bytes → Reaches laws limits IsGroundOf a b script
  by_said g (Ok world) said script o is grounded described p done written =
      by_plan laws limits IsGroundOf a b range world.goals (first_unserved a.drivers world.rows) script world o refl (g, grounded, described)
      (subst (λ (r : Result World GroundFault). SaidPlans r limits a.drivers o) is p) done written
  by_said g (Err fault) said script o is grounded described p done written =
      not_done laws limits IsGroundOf a b script o _ refl (subst (λ (r : Result World GroundFault). SaidPlans r limits a.drivers o) is p) done

  by_ground : (read : Result Grounded GroundFault) (script : List ℕ) (o : Output) → reads_ground script ≡ read → GroundedPlans read limits a.drivers o
      → o.exit ≡ exit.Done → Appended a.written b.written o.bytes → Reaches laws limits IsGroundOf a b script
  by_ground (Ok g) script o grounded p done written = by_said g p.1.read p.0 script o p.1.is grounded p.1.reads p.2 done written
  by_ground (Err fault) script o grounded p done written = not_done laws limits IsGroundOf a b script o (ground_refused fault) refl p done

  pub ground_reached_of : (files : Contents) → GaveOf files (GroundPlans limits) (GroundBegins limits) exit.Done a b → Reaches laws limits IsGroundOf a b files.world
  ground_reached_of = reached_by laws limits IsGroundOf a b (GroundPlans limits) (GroundBegins limits) (λ bytes o. GroundedPlans (reads_ground bytes) limits a.drivers o)
      (λ files moments o p. p) (λ script o p done written. by_ground (reads_ground script) script o refl p done written)

-- ---- Words

-- the clauses of words, be they a command or none
module _ (holds : Option (List ℕ → List ℕ)) (result : Exit) (shelf : Type 0) (IsUnread : File → Type 0) (a b : Side) where
  pub whole_of : (command : Option Command) → CommandAnswered command holds shelf IsUnread result a b → IsGiven result → WholeOutput holds command result a b
  whole_of None gave = none_whole result shelf IsUnread a b gave holds
  whole_of (Some c) answered = whole_clause c result shelf IsUnread a b holds answered

  pub each_of : OneReading → CutLaw → (command : Option Command) → CommandAnswered command holds shelf IsUnread result a b → EachOutput holds command a (λ o. Gave o result a b ⊎ ReadFailed shelf IsUnread result a b)
  each_of one cuts None gave = none_each result shelf IsUnread a b gave holds
  each_of one cuts (Some c) answered = each_clause one cuts c result shelf IsUnread a b holds answered

  complete_told : (o : Output) → Gave o result a b ⊎ ReadFailed shelf IsUnread result a b → (shelf → ⊥) → (Rose a.faults b.faults → ⊥) → (result ≡ exit.Memory) ⊎ IsWhole o result a b
  complete_told o (inl p) s k = whole_or_memory o result a b k p
  complete_told o (inr r) s k = absurd (s r.0)

  -- by what each output was given: where no count rose, it is whole or memory ran out
  pub complete_of : (command : Option Command) → EachOutput holds command a (λ o. Gave o result a b ⊎ ReadFailed shelf IsUnread result a b)
      → EachOutput holds command a (λ o. (shelf → ⊥) → (Rose a.faults b.faults → ⊥) → (result ≡ exit.Memory) ⊎ IsWhole o result a b)
  complete_of command each =
      each_more holds command a (λ o. Gave o result a b ⊎ ReadFailed shelf IsUnread result a b) (λ o. (shelf → ⊥) → (Rose a.faults b.faults → ⊥) → (result ≡ exit.Memory) ⊎ IsWhole o result a b) complete_told each

  pub begun_of : OneReading → CutLaw → (command : Option Command) → CommandAnswered command holds shelf IsUnread result a b → EachOutput holds command a (λ o. DriversWithin o.calls a.drivers b.drivers)
  begun_of one cuts None gave = none_begun result shelf IsUnread a b gave holds
  begun_of one cuts (Some c) answered = begun_clause one cuts c result shelf IsUnread a b holds answered

  pub unasked_of : (command : Option Command) → CommandAnswered command holds shelf IsUnread result a b → IsNotLive command → b.clock ≡ a.clock
  unasked_of None gave other = gave_unasked words_refused result a b refl gave
  unasked_of (Some c) answered other = unasked_clause c result shelf IsUnread a b holds other answered

  -- a plan that is done has read its file
  planned_read : PlanLaws → (c : Command) → IsInRange c → (files : Contents) → GaveOf files (FilesGive c) (FilesBegin c) exit.Done a b → ReachesIfPlan (Some c) (AllRead files) a b
  planned_read laws (Tick t w main) range files gave = tt
  planned_read laws (Live t w rounds main) range files gave = tt
  planned_read laws (Load leaves) range files gave = tt
  planned_read laws (Check t main) range files gave = tt
  planned_read laws (Dead t main) range files gave = tt
  planned_read laws (Exclusive t ids main) range files gave = tt
  planned_read laws (Mock t w rules main) range files gave = tt
  planned_read laws (MockPrint t rules main) range files gave = tt
  planned_read laws (Expect t w e main) range files gave = tt
  planned_read laws (Ground w) range files gave = tt
  planned_read laws (GroundPlan w expand ticks period) range files gave = ground_reached_of laws (limits_of expand ticks period) range a b files gave
  planned_read laws (Plan w expand ticks period) range files gave = reached_of laws (limits_of expand ticks period) range a b files gave

  unread_not_done : (P : Type 0) (which : File) → Gave (unread which) exit.Done a b → P
  unread_not_done P which gave = absurd (not_given which (subst IsGiven (sym gave.0) tt))

  too_long_not_done : (P : Type 0) (which : File) → Gave (too_long which) exit.Done a b → P
  too_long_not_done P file.Tree gave = let e : exit.Tree ≡ exit.Done = gave.0 in cc
  too_long_not_done P file.World gave = let e : exit.World ≡ exit.Done = gave.0 in cc
  too_long_not_done P file.Rules gave = let e : exit.Rules ≡ exit.Done = gave.0 in cc
  too_long_not_done P file.Expect gave = let e : exit.Expect ≡ exit.Done = gave.0 in cc

  planned_end : PlanLaws → (command : Option Command) → IfSome command IsInRange → (end : ReadsEnd) → AnsweredAfter command holds shelf end exit.Done a b → ReachesIfPlan command end a b
  planned_end laws None range end answered = tt
  planned_end laws (Some c) range (AllRead files) answered = planned_read laws c range files answered.1
  planned_end laws (Some c) range (StoppedAt which shelf_fault.Failed) answered = unread_not_done _ which answered.1
  planned_end laws (Some c) range (StoppedAt which shelf_fault.TooLong) answered = too_long_not_done _ which answered
  planned_end laws (Some c) range (StoppedAt which shelf_fault.NoMemory) answered = let e : exit.Done ≡ exit.Memory = answered.exit in cc

  pub planned_of : PlanLaws → (command : Option Command) → IfSome command IsInRange → (end : ReadsEnd) → AnsweredAfter command holds shelf end result a b → result ≡ exit.Done → ReachesIfPlan command end a b
  planned_of laws command range end answered is = planned_end laws command range end (subst (λ (e : Exit). AnsweredAfter command holds shelf end e a b) is answered)

  pub read_of : (command : Option Command) → CommandAnswered command holds shelf IsUnread result a b → result ≡ exit.Read → shelf × UnreadLine IsUnread a b
  read_of None gave is = none_read result shelf IsUnread a b gave is
  read_of (Some c) answered is = read_clause c result shelf IsUnread a b holds answered is

  pub write_of : (command : Option Command) → CommandAnswered command holds shelf IsUnread result a b → result ≡ exit.Write → Rose a.faults b.faults
  write_of None gave is = write_gave words_refused result a b is gave
  write_of (Some c) answered is = write_clause c result shelf IsUnread a b holds answered is

  pub words_of : (command : Option Command) → CommandAnswered command holds shelf IsUnread result a b → result ≡ exit.Words → command ≡ None
  words_of None gave is = refl
  words_of (Some c) answered is = absurd (words_clause c result shelf IsUnread a b holds answered is)

  pub no_command_of : (command : Option Command) → CommandAnswered command holds shelf IsUnread result a b → command ≡ None → Gave words_refused result a b
  no_command_of None gave none = gave
  no_command_of (Some c) answered none = cc
