-- What words were answered, of any bytes: where a read gave that a file is too long, of bytes that are.
use Rattle.std.proofs.Common.{◌≡◌, ℕ, ◌≤◌, List, [], ◌∷◌, inl, inr, Option, Some, None, length, refl, sym, subst}
use Rattle.spec_program.specs.declared.exit.Exit.{Exit}
use Rattle.spec_program.specs.Words.{Command, Tick, Live, Load, Check, Dead, Exclusive, Plan, Mock, MockPrint, Ground, GroundPlan, Expect}
use Rattle.spec_program.specs.declared.course.Course.TheVariants as course
use Rattle.spec_program.specs.declared.print.Print.TheVariants as print
use Rattle.spec_tree.specs.Limits.{most_file_bytes}
use Rattle.spec_outside.specs.Files.{Told}
use Rattle.spec_outside.specs.Moments.{Moments}
use Rattle.spec_outside.specs.declared.shelf_fault.ShelfFault.TheVariants as fault
use Rattle.spec_plan.specs.declared.ending.Limits.{Limits}
use Rattle.spec_program.specs.declared.file.File.{File}
use Rattle.spec_program.specs.declared.file.File.TheVariants as file
use Rattle.spec_program.specs.RefusalOutputs.{too_long}
use Rattle.spec_program.specs.Answers.{Answers, Gave, RanOut, Side}
use Rattle.spec_program.specs.Output.{AreUncalled}
use Rattle.spec_program.specs.Answered.{AnsweredAfter, AreTold, WordsAnswered}
use Rattle.cli_commands.specs.Answering.{CommandAnswered, FilesAnswered}
use Rattle.spec_program.specs.Files.{Contents, Named, tree_alone, tree_and_rules, tree_and_world, tree_world_expect, tree_world_rules, world_alone}
use Rattle.spec_program.specs.Exclusives.{Exclusives}
use Rattle.spec_program.specs.Expecting.{Expects}
use Rattle.spec_program.specs.Gives.{Beginning, BeginsNothing, Giving, Mocks, Prints, PrintsMade, RunsOn}
use Rattle.spec_program.specs.Grounds.{GroundBegins, GroundPlans, Grounds}
use Rattle.spec_program.specs.Jobs.{FilesBegin, FilesGive, files_of}
use Rattle.spec_program.specs.Plans.{Begins, Plans}
use Rattle.spec_program.specs.Reads.{AllRead, AreRead, IsLong, NamedFile, Reading, ReadsEnd, StoppedAt, WordsUnread, in_order}
use Rattle.cli_commands.proofs.Files.{LongAlone, LongExpect, LongLast, LongRules, LongTree, LongWorld, alone, holding, long_exclusive, long_expected, long_expects, long_expects_world, long_made, long_made_rules, long_mock, long_mock_world, long_print, long_rules, long_run, long_world, no_bytes, uncalled_begin}
use Rattle.cli_commands.proofs.Grounds.{long_ground, long_ground_plan}
use Rattle.cli_commands.proofs.Plans.{long_plan}
use Rattle.cli_refusals.proofs.AboutLent.Moments.{at_any}

-- bytes of a file that is not too long, which are those that the shelf tells
record Within (holds : Option (List ℕ → List ℕ)) (name : List ℕ) : Type 0 where
  pub bytes : List ℕ
  pub told : Told holds name (λ file. bytes ≡ file)
  pub short : length bytes ≤ most_file_bytes

within : (holds : Option (List ℕ → List ℕ)) (name : List ℕ) → Told holds name (λ file. length file ≤ most_file_bytes) → Within holds name
within None name short = record { bytes = []; told = tt; short = no_bytes }
within (Some h) name short = record { bytes = h name; told = refl; short = short }

-- the read of a file gave that it is too long, and its line was given, which is the output of its bytes
module _ {Shelf : Type 0} (read_gives : Reading Shelf) (holds : Option (List ℕ → List ℕ)) (which : File) (old new : Shelf) (result : Exit) (a b : Side) (gave : Gave (too_long which) result a b) where
  abbrev Answered : Named → Giving → Beginning → Type 0
  Answered named Gives Begins = FilesAnswered holds named Gives Begins result a b

  abbrev IsRead : List NamedFile → Shelf → Type 0
  IsRead files found = AreRead read_gives holds files (StoppedAt which fault.TooLong) found new

  module _ (Gives : Giving) (Begins : Beginning) where
    long_answered : (named : Named) (files : Contents) (long : File) → which ≡ long → AreTold holds named files → ((moments : Moments) → Gives files moments a.drivers (too_long long)) → Answered named Gives Begins
    long_answered named files long is told gives = record {
      files = files;
      told = told;
      answers = at_any a.clock (λ moments. Answers (Gives files moments a.drivers) (Begins files) result a b)
          (λ moments. inl (too_long which, subst (λ (f : File). Gives files moments a.drivers (too_long f)) (sym is) (gives moments), gave));
    }

    tree_long : (tree : List ℕ) (world rules expect : Option (List ℕ)) → LongTree Gives → which ≡ file.Tree → IsLong holds tree → Answered (record { tree = Some tree; world = world; rules = rules; expect = expect }) Gives Begins
    tree_long tree world rules expect long is x =
        let w = holding holds world in
        let l = holding holds rules in
        let e = holding holds expect in
        let files : Contents = record { tree = x.bytes; world = w.bytes; rules = l.bytes; expect = e.bytes } in
        long_answered (record { tree = Some tree; world = world; rules = rules; expect = expect }) files file.Tree is (record { tree = x.told; world = w.told; rules = l.told; expect = e.told }) (λ moments. long files moments a.drivers x.long)

    world_long : (tree world : List ℕ) (rules expect : Option (List ℕ)) → LongWorld Gives → which ≡ file.World → Within holds tree → IsLong holds world → Answered (record { tree = Some tree; world = Some world; rules = rules; expect = expect }) Gives Begins
    world_long tree world rules expect long is t x =
        let l = holding holds rules in
        let e = holding holds expect in
        let files : Contents = record { tree = t.bytes; world = x.bytes; rules = l.bytes; expect = e.bytes } in
        long_answered (record { tree = Some tree; world = Some world; rules = rules; expect = expect }) files file.World is (record { tree = t.told; world = x.told; rules = l.told; expect = e.told }) (λ moments. long files moments a.drivers t.short x.long)

    rules_long : (tree world rules : List ℕ) → LongRules Gives → which ≡ file.Rules → Within holds tree → Within holds world → IsLong holds rules → Answered (tree_world_rules tree world rules) Gives Begins
    rules_long tree world rules long is t w x =
        let files : Contents = record { tree = t.bytes; world = w.bytes; rules = x.bytes; expect = [] } in
        long_answered (tree_world_rules tree world rules) files file.Rules is (record { tree = t.told; world = w.told; rules = x.told; expect = tt }) (λ moments. long files moments a.drivers t.short w.short x.long)

    expect_long : (tree world expect : List ℕ) → LongExpect Gives → which ≡ file.Expect → Within holds tree → Within holds world → IsLong holds expect → Answered (tree_world_expect tree world expect) Gives Begins
    expect_long tree world expect long is t w x =
        let files : Contents = record { tree = t.bytes; world = w.bytes; rules = []; expect = x.bytes } in
        long_answered (tree_world_expect tree world expect) files file.Expect is (record { tree = t.told; world = w.told; rules = tt; expect = x.told }) (λ moments. long files moments a.drivers t.short w.short x.long)

    -- of a world file alone
    alone_long : (world : List ℕ) → LongAlone Gives → IsRead (in_order (world_alone world)) old → Answered (world_alone world) Gives Begins
    alone_long world long (inl x) =
        let l = x.1.0 in
        long_answered (world_alone world) (alone l.bytes) file.World x.0 (record { tree = tt; world = l.told; rules = tt; expect = tt }) (λ moments. long l.bytes moments a.drivers l.long)
    alone_long world long (inr x) = absurd x.1.3

    -- of a tree file alone
    tree_alone_long : (tree : List ℕ) → LongTree Gives → IsRead (in_order (tree_alone tree)) old → Answered (tree_alone tree) Gives Begins
    tree_alone_long tree long (inl x) = tree_long tree None None None long x.0 x.1.0
    tree_alone_long tree long (inr x) = absurd x.1.3

    -- of both files of a run
    second_long : (tree world : List ℕ) (found : Shelf) → LongWorld Gives → Within holds tree → IsRead ((file.World, world) ∷ []) found → Answered (tree_and_world tree world) Gives Begins
    second_long tree world found long t (inl x) = world_long tree world None None long x.0 t x.1.0
    second_long tree world found long t (inr x) = absurd x.1.3

    both_long : (tree world : List ℕ) → LongTree Gives → LongWorld Gives → IsRead (in_order (tree_and_world tree world)) old → Answered (tree_and_world tree world) Gives Begins
    both_long tree world first second (inl x) = tree_long tree (Some world) None None first x.0 x.1.0
    both_long tree world first second (inr x) = second_long tree world x.1.0 second (within holds tree x.1.2) x.1.3

    -- of a tree file and a rules file
    rules_after : (tree rules : List ℕ) (found : Shelf) → LongLast Gives → Within holds tree → IsRead ((file.Rules, rules) ∷ []) found → Answered (tree_and_rules tree rules) Gives Begins
    rules_after tree rules found long t (inl x) =
        let l = x.1.0 in
        let files : Contents = record { tree = t.bytes; world = []; rules = l.bytes; expect = [] } in
        long_answered (tree_and_rules tree rules) files file.Rules x.0 (record { tree = t.told; world = tt; rules = l.told; expect = tt }) (λ moments. long files moments a.drivers t.short l.long)
    rules_after tree rules found long t (inr x) = absurd x.1.3

    tree_rules_long : (tree rules : List ℕ) → LongTree Gives → LongLast Gives → IsRead (in_order (tree_and_rules tree rules)) old → Answered (tree_and_rules tree rules) Gives Begins
    tree_rules_long tree rules first second (inl x) = tree_long tree None (Some rules) None first x.0 x.1.0
    tree_rules_long tree rules first second (inr x) = rules_after tree rules x.1.0 second (within holds tree x.1.2) x.1.3

    -- of the three files of a run of mocks
    last_long : (tree world rules : List ℕ) (found : Shelf) → LongRules Gives → Within holds tree → Within holds world → IsRead ((file.Rules, rules) ∷ []) found → Answered (tree_world_rules tree world rules) Gives Begins
    last_long tree world rules found long t w (inl x) = rules_long tree world rules long x.0 t w x.1.0
    last_long tree world rules found long t w (inr x) = absurd x.1.3

    later_long : (tree world rules : List ℕ) (found : Shelf) → LongWorld Gives → LongRules Gives → Within holds tree → IsRead ((file.World, world) ∷ (file.Rules, rules) ∷ []) found → Answered (tree_world_rules tree world rules) Gives Begins
    later_long tree world rules found second third t (inl x) = world_long tree world (Some rules) None second x.0 t x.1.0
    later_long tree world rules found second third t (inr x) = last_long tree world rules x.1.0 third t (within holds world x.1.2) x.1.3

    three_long : (tree world rules : List ℕ) → LongTree Gives → LongWorld Gives → LongRules Gives → IsRead (in_order (tree_world_rules tree world rules)) old → Answered (tree_world_rules tree world rules) Gives Begins
    three_long tree world rules first second third (inl x) = tree_long tree (Some world) (Some rules) None first x.0 x.1.0
    three_long tree world rules first second third (inr x) = later_long tree world rules x.1.0 second third (within holds tree x.1.2) x.1.3

    -- of the three files of a run of which something is expected
    last_expect : (tree world expect : List ℕ) (found : Shelf) → LongExpect Gives → Within holds tree → Within holds world → IsRead ((file.Expect, expect) ∷ []) found → Answered (tree_world_expect tree world expect) Gives Begins
    last_expect tree world expect found long t w (inl x) = expect_long tree world expect long x.0 t w x.1.0
    last_expect tree world expect found long t w (inr x) = absurd x.1.3

    later_expect : (tree world expect : List ℕ) (found : Shelf) → LongWorld Gives → LongExpect Gives → Within holds tree → IsRead ((file.World, world) ∷ (file.Expect, expect) ∷ []) found → Answered (tree_world_expect tree world expect) Gives Begins
    later_expect tree world expect found second third t (inl x) = world_long tree world None (Some expect) second x.0 t x.1.0
    later_expect tree world expect found second third t (inr x) = last_expect tree world expect x.1.0 third t (within holds world x.1.2) x.1.3

    expect_three : (tree world expect : List ℕ) → LongTree Gives → LongWorld Gives → LongExpect Gives → IsRead (in_order (tree_world_expect tree world expect)) old → Answered (tree_world_expect tree world expect) Gives Begins
    expect_three tree world expect first second third (inl x) = tree_long tree (Some world) None (Some expect) first x.0 x.1.0
    expect_three tree world expect first second third (inr x) = later_expect tree world expect x.1.0 second third (within holds tree x.1.2) x.1.3

  -- the limits of a plan
  abbrev limits_of : ℕ → ℕ → ℕ → Limits
  limits_of expand ticks period = record { expand = expand; ticks = ticks; period = period }

  -- .. of each command
  pub command_long : (c : Command) → IsRead (in_order (files_of c)) old → Answered (files_of c) (FilesGive c) (FilesBegin c)
  command_long (Tick t w main) read = both_long (RunsOn course.Script main) BeginsNothing t w (long_run course.Script main) (long_world course.Script main) read
  command_long (Live t w rounds main) read = both_long (RunsOn (course.Rounds rounds) main) BeginsNothing t w (long_run (course.Rounds rounds) main) (long_world (course.Rounds rounds) main) read
  command_long (Load leaves) read = absurd read
  command_long (Check t main) read = tree_alone_long (Prints print.Whole main) BeginsNothing t (long_print print.Whole main) read
  command_long (Dead t main) read = tree_alone_long (Prints print.Dead main) BeginsNothing t (long_print print.Dead main) read
  command_long (Exclusive t ids main) read = tree_alone_long (Exclusives ids main) BeginsNothing t (long_exclusive ids main) read
  command_long (Plan w expand ticks period) read = alone_long (Plans (limits_of expand ticks period)) (Begins (limits_of expand ticks period)) w (long_plan (limits_of expand ticks period)) read
  command_long (Mock t w rules main) read = three_long (Mocks main) BeginsNothing t w rules (long_mock main) (long_mock_world main) (long_rules main) read
  command_long (MockPrint t rules main) read = tree_rules_long (PrintsMade main) BeginsNothing t rules (long_made main) (long_made_rules main) read
  command_long (Expect t w x main) read = expect_three (Expects main) BeginsNothing t w x (long_expects main) (long_expects_world main) (long_expected main) read
  command_long (Ground w) read = alone_long Grounds BeginsNothing w long_ground read
  command_long (GroundPlan w expand ticks period) read =
      alone_long (GroundPlans (limits_of expand ticks period)) (GroundBegins (limits_of expand ticks period)) w (long_ground_plan (limits_of expand ticks period)) read

-- memory ran out in a read
ran_out : (holds : Option (List ℕ → List ℕ)) (c : Command) (result : Exit) (a b : Side) → RanOut AreUncalled result a b → FilesAnswered holds (files_of c) (FilesGive c) (FilesBegin c) result a b
ran_out holds c result a b out =
    let tree = holding holds (files_of c).tree in
    let world = holding holds (files_of c).world in
    let rules = holding holds (files_of c).rules in
    let expect = holding holds (files_of c).expect in
    let files : Contents = record { tree = tree.bytes; world = world.bytes; rules = rules.bytes; expect = expect.bytes } in
    record {
      files = files;
      told = record { tree = tree.told; world = world.told; rules = rules.told; expect = expect.told };
      answers = at_any a.clock (λ moments. Answers (FilesGive c files moments a.drivers) (FilesBegin c files) result a b)
          (λ moments. inr (record { exit = out.exit; written = out.written; clock = out.clock; drivers = uncalled_begin c files a.drivers b.drivers out.drivers }));
    }

-- what words were answered after their reads
module _ {Shelf : Type 0} (read_gives : Reading Shelf) (holds : Option (List ℕ → List ℕ)) (rose : Type 0) (old new : Shelf) (result : Exit) (a b : Side) where
  answered_by : (c : Command) (end : ReadsEnd) → AreRead read_gives holds (in_order (files_of c)) end old new → AnsweredAfter (Some c) holds rose end result a b
      → CommandAnswered (Some c) holds rose (WordsUnread read_gives holds (Some c) old new) result a b
  answered_by c (AllRead files) reads f = inr (record { files = files; told = f.0.told; answers = f.1 })
  answered_by c (StoppedAt which fault.Failed) reads x = inl (x.0, which, reads, x.1)
  answered_by c (StoppedAt which fault.TooLong) reads gave = inr (command_long read_gives holds which old new result a b gave c reads)
  answered_by c (StoppedAt which fault.NoMemory) reads out = inr (ran_out holds c result a b out)

  pub any_bytes : (command : Option Command) → WordsAnswered read_gives holds command rose old new result a b → CommandAnswered command holds rose (WordsUnread read_gives holds command old new) result a b
  any_bytes None answered = answered.answered
  any_bytes (Some c) answered = answered_by c answered.end answered.reads answered.answered
