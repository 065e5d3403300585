-- What the files of a command give, and what a command comes to.
use Rattle.std.proofs.Common.{◌≡◌, ◌∙◌, ℕ, ◌<◌, ◌≤◌, List, [], ◌∷◌, ◌++◌, Bool, true, false, inl, inr, Option, Some, None, length, refl, sym, ap, subst, arith, MatchBool, Result, Ok, Err}
use Rattle.std.specs.Prelude.{IfSome, MatchOption}
use Rattle.std.proofs.lemmas.Grind.{common_steps}
use Rattle.spec_program.specs.declared.exit.Exit.{Exit}
use Rattle.spec_program.specs.declared.exit.Exit.TheVariants as exit
use Rattle.spec_program.specs.Words.{Command, Tick, Live, Load, Check, Dead, Exclusive, Plan, Mock, MockPrint, Ground, GroundPlan, Expect}
use Rattle.spec_output.specs.LoadTexts.{tree_text, world_text}
use Rattle.spec_tree.specs.declared.term.Tree.{Tree}
use Rattle.spec_world.specs.declared.world.World.{World}
use Rattle.spec_world_file.specs.declared.world_fault.WorldFault.{WorldFault}
use Rattle.spec_run.specs.Drivers.{DriverState}
use Rattle.spec_tree.specs.Limits.{most_file_bytes}
use Rattle.spec_world_file.specs.WorldFile.{ReadsWorld}
use Rattle.spec_outside.specs.Counts.{Rose}
use Rattle.spec_outside.specs.Files.{Told}
use Rattle.spec_outside.specs.Moments.{Moments}
use Rattle.base_outside.proofs.Rises.{Rose-after}
use Rattle.spec_program.specs.declared.course.Course.{Course}
use Rattle.spec_program.specs.declared.course.Course.TheVariants as course
use Rattle.spec_program.specs.declared.print.Print.{Print}
use Rattle.spec_program.specs.declared.file.File.{File}
use Rattle.spec_program.specs.declared.file.File.TheVariants as file
use Rattle.cli_refusals.specs.declared.refusal.Refusal.{Refusal}
use Rattle.cli_refusals.specs.declared.refusal.Refusal.TheVariants as refusal
use Rattle.spec_program.specs.Answers.{Answers, Gave, Side, side}
use Rattle.cli_refusals.specs.Printing.{Printed}
use Rattle.spec_program.specs.Answered.{AnsweredAfter, AreWithin, ToldIfNamed, WordsAnswered}
use Rattle.cli_refusals.specs.Refusing.{IsRefused, refused_as, stopped_as}
use Rattle.spec_program.specs.RefusalOutputs.{too_long, tree_refused, unread, world_refused}
use Rattle.cli_refusals.specs.Ends.{Ends, EndsAt, IsUntouched}
use Rattle.spec_program.specs.Files.{Contents}
use Rattle.spec_program.specs.Jobs.{FilesBegin, FilesGive, files_of}
use Rattle.spec_program.specs.Output.{AreUncalled, Begun, Ending, Output}
use Rattle.spec_program.specs.Expecting.{ExpectGives, Expects, JoinExpects, TreeExpects, setup}
use Rattle.spec_run.specs.Joins.{lack_of}
use Rattle.spec_program.specs.Gives.{CourseGives, Giving, MadeGives, MockGives, Mocks, PrintGives, Prints, PrintsMade, ReadGives, RunGives, RunsOn, ScriptMocks, Standing, is_too_long, itself, made_output, mocked, mocked_apart, standing_output}
use Rattle.cli_commands.specs.Standing.{StandingGives}
use Rattle.spec_program.specs.Courses.{Given, given}
use Rattle.cli_answers.specs.Courses.Joined.{JoinGives}
use Rattle.spec_program.specs.Exclusives.{ExclusiveGives, Exclusives, exclusive_output}
use Rattle.spec_program.specs.Printed.{print_made, print_output}
use Rattle.spec_outside.specs.declared.shelf_fault.ShelfFault.{ShelfFault}
use Rattle.spec_outside.specs.declared.shelf_fault.ShelfFault.TheVariants as shelf
use Rattle.spec_program.specs.Reads.{AllRead, AreRead, NamedFile, Reading, StoppedAt, bytes_of, if_named, in_order}
use Rattle.cli_commands.specs.NamedReads.{AreStopped, IsUnreadIfNamed, WasReadIfNamed, refusal_of}
use Rattle.cli_commands.specs.Unread.{IsUnread}
use Rattle.tree_reader.specs.TreeRead.{ReadsAs}
use Rattle.spec_program.specs.TreeFiles.{TreeReads}
use Rattle.spec_program.specs.declared.tree_fault.TreeFault.{TreeFault}
use Rattle.spec_tree_file.specs.declared.mock_fault.MockFault.{MockFault}
use Rattle.base_texts.specs.Stops.{Gives as Makes}
use Rattle.world_reader.specs.Readings.{Gives}
use Rattle.base_texts.specs.declared.stop.Stop.{Stop}
use Rattle.base_texts.specs.declared.stop.Stop.TheVariants as stop
use Rattle.cli_refusals.proofs.AboutLent.Moments.{at_any, at_more}
use Rattle.cli_refusals.proofs.Ends.{ends_more, refused_ends, still}

-- ---- Lengths

-- what is not too long, and what is
pub short_is : (bytes : List ℕ) → length bytes ≤ most_file_bytes → is_too_long bytes ≡ false
short_is bytes short = grind (arith, common_steps)

pub long_is : (bytes : List ℕ) → most_file_bytes < length bytes → is_too_long bytes ≡ true
long_is bytes long = grind (arith, common_steps)

pub match_false : (b : Bool) (P Q : Type 0) → b ≡ false → Q → MatchBool b P Q
match_false true P Q e q = cc
match_false false P Q e q = q

pub match_true : (b : Bool) (P Q : Type 0) → b ≡ true → P → MatchBool b P Q
match_true true P Q e p = p
match_true false P Q e p = cc

-- no bytes are not too many
pub no_bytes : (let bytes : List ℕ = [] in length bytes ≤ most_file_bytes)
no_bytes = omega (arith)

-- ---- Bytes

-- the output of files that are not too long
run_gives : (main : Option (List ℕ)) (tree world : List ℕ) (g : Given) (o : Output) → length tree ≤ most_file_bytes → length world ≤ most_file_bytes → ReadGives main itself tree world g o → RunGives main tree world g o
run_gives main tree world g o st sw gives = match_false (is_too_long tree) _ _ (short_is tree st) (match_false (is_too_long world) _ _ (short_is world sw) gives)

mock_gives : (main : Option (List ℕ)) (tree world rules : List ℕ) (g : Given) (o : Output) → length tree ≤ most_file_bytes → length world ≤ most_file_bytes → length rules ≤ most_file_bytes
    → ReadGives main (mocked rules) tree world g o → MockGives main tree world rules g o
mock_gives main tree world rules g o st sw sr gives =
    match_false (is_too_long tree) _ _ (short_is tree st) (match_false (is_too_long world) _ _ (short_is world sw) (match_false (is_too_long rules) _ _ (short_is rules sr) gives))

print_gives : (print : Print) (main : Option (List ℕ)) (tree : List ℕ) (r : Result Tree TreeFault) → length tree ≤ most_file_bytes → TreeReads main tree r → PrintGives print main tree (print_output print r)
print_gives print main tree r short reads_as = match_false (is_too_long tree) _ _ (short_is tree short) (r, reads_as, refl)

-- the bytes of the files of a run
module _ (P : Ending) (course : Course) (main : Option (List ℕ)) (stands : Standing) (tree world : List ℕ)
    (gives : (moments : Moments) (drivers : List DriverState) (o : Output) → ReadGives main stands tree world (given course moments drivers) o → P moments drivers o)
  where
    -- the tree file could not be parsed
    tree_failed : (stopped : Stop TreeFault) (a : Side) → ReadsAs (Err stopped) main tree → EndsAt P AreUncalled (Err (stopped_as refusal.Tree stopped)) a a
    tree_failed (stop.Fault f) a reads = refused_ends P AreUncalled (refusal.Tree f) a (λ moments. gives moments a.drivers (tree_refused f) (Err f, reads, refl))
    tree_failed stop.NoMemory a reads = refused_ends P AreUncalled refusal.NoMemory a (λ moments. tt)

    -- the world script could not be parsed
    world_failed : (t : Tree) (stopped : Stop WorldFault) (a : Side) → ReadsAs (Ok t) main tree → (let r : Result World (Stop WorldFault) = Err stopped in Gives r (ReadsWorld world)) → EndsAt P AreUncalled (Err (stopped_as refusal.World stopped)) a a
    world_failed t (stop.Fault f) a reads described = refused_ends P AreUncalled (refusal.World f) a (λ moments. gives moments a.drivers (world_refused f) (Ok t, reads, (Err f, described, refl)))
    world_failed t stop.NoMemory a reads described = refused_ends P AreUncalled refusal.NoMemory a (λ moments. tt)

    -- both were parsed, and what stands in the place of the tree was run
    place_ended : (t : Tree) (w : World) (result : Result Exit Refusal) (a b : Side) → ReadsAs (Ok t) main tree → ReadsWorld world (Ok w) → EndsAt (StandingGives (stands t) w course) AreUncalled result a b → EndsAt P AreUncalled result a b
    place_ended t w result a b reads described ends =
        at_more a.clock (λ moments. Ends (StandingGives (stands t) w course moments a.drivers) AreUncalled result a b) (λ moments. Ends (P moments a.drivers) AreUncalled result a b)
        (λ moments. ends_more (StandingGives (stands t) w course moments a.drivers) (P moments a.drivers) AreUncalled AreUncalled
        (λ o e. gives moments a.drivers o (Ok t, reads, (Ok w, described, e))) (λ old new begun. begun) result a b) ends

-- the bytes of both files of a run
module _ (course : Course) (main : Option (List ℕ)) (tree world : List ℕ) (st : length tree ≤ most_file_bytes) (sw : length world ≤ most_file_bytes) where
  runs : (moments : Moments) (drivers : List DriverState) (o : Output) → ReadGives main itself tree world (given course moments drivers) o → CourseGives course main tree world moments drivers o
  runs moments drivers o gives = run_gives main tree world (given course moments drivers) o st sw gives

  pub tree_stopped : (stopped : Stop TreeFault) (a : Side) → ReadsAs (Err stopped) main tree → EndsAt (CourseGives course main tree world) AreUncalled (Err (stopped_as refusal.Tree stopped)) a a
  tree_stopped stopped a reads = tree_failed (CourseGives course main tree world) course main itself tree world runs stopped a reads

  pub world_stopped : (t : Tree) (stopped : Stop WorldFault) (a : Side) → ReadsAs (Ok t) main tree → (let r : Result World (Stop WorldFault) = Err stopped in Gives r (ReadsWorld world)) → EndsAt (CourseGives course main tree world) AreUncalled (Err (stopped_as refusal.World stopped)) a a
  world_stopped t stopped a reads described = world_failed (CourseGives course main tree world) course main itself tree world runs t stopped a reads described

  pub both_parsed : (t : Tree) (w : World) (result : Result Exit Refusal) (a b : Side) → ReadsAs (Ok t) main tree → ReadsWorld world (Ok w) → EndsAt (JoinGives t w course) AreUncalled result a b → EndsAt (CourseGives course main tree world) AreUncalled result a b
  both_parsed t w result a b reads described ends = place_ended (CourseGives course main tree world) course main itself tree world runs t w result a b reads described ends

-- the bytes of the three files of a run of mocks
module _ (main : Option (List ℕ)) (tree world rules : List ℕ) (st : length tree ≤ most_file_bytes) (sw : length world ≤ most_file_bytes) (sr : length rules ≤ most_file_bytes) where
  mocks : (moments : Moments) (drivers : List DriverState) (o : Output) → ReadGives main (mocked rules) tree world (given course.Script moments drivers) o → ScriptMocks main tree world rules moments drivers o
  mocks moments drivers o gives = mock_gives main tree world rules (given course.Script moments drivers) o st sw sr gives

  pub mock_tree_stopped : (stopped : Stop TreeFault) (a : Side) → ReadsAs (Err stopped) main tree → EndsAt (ScriptMocks main tree world rules) AreUncalled (Err (stopped_as refusal.Tree stopped)) a a
  mock_tree_stopped stopped a reads = tree_failed (ScriptMocks main tree world rules) course.Script main (mocked rules) tree world mocks stopped a reads

  pub mock_world_stopped : (t : Tree) (stopped : Stop WorldFault) (a : Side) → ReadsAs (Ok t) main tree → (let r : Result World (Stop WorldFault) = Err stopped in Gives r (ReadsWorld world)) → EndsAt (ScriptMocks main tree world rules) AreUncalled (Err (stopped_as refusal.World stopped)) a a
  mock_world_stopped t stopped a reads described = world_failed (ScriptMocks main tree world rules) course.Script main (mocked rules) tree world mocks t stopped a reads described

  pub both_mocked : (t : Tree) (w : World) (result : Result Exit Refusal) (a b : Side) → ReadsAs (Ok t) main tree → ReadsWorld world (Ok w) → EndsAt (StandingGives (mocked rules t) w course.Script) AreUncalled result a b → EndsAt (ScriptMocks main tree world rules) AreUncalled result a b
  both_mocked t w result a b reads described ends = place_ended (ScriptMocks main tree world rules) course.Script main (mocked rules) tree world mocks t w result a b reads described ends

-- the rules of a file make of a tree what is run in a world
module _ (rules : List ℕ) (tree : Tree) (world : World) where
  -- they make none
  pub rules_stopped : (stopped : Stop MockFault) (a : Side) → (let r : Result Tree (Stop MockFault) = Err stopped in Makes r (mocked rules tree)) → EndsAt (StandingGives (mocked rules tree) world course.Script) AreUncalled (Err (stopped_as refusal.Rules stopped)) a a
  rules_stopped (stop.Fault f) a none =
      refused_ends (StandingGives (mocked rules tree) world course.Script) AreUncalled (refusal.Rules f) a (λ moments. sym (ap (λ (s : Result Tree MockFault). standing_output s world (given course.Script moments a.drivers)) none))
  rules_stopped stop.NoMemory a none = refused_ends (StandingGives (mocked rules tree) world course.Script) AreUncalled refusal.NoMemory a (λ moments. tt)

  -- it was run
  pub mocked_ran : (standing : Tree) (result : Result Exit Refusal) (a b : Side) → mocked rules tree ≡ Ok standing → EndsAt (JoinGives standing world course.Script) AreUncalled result a b → EndsAt (StandingGives (mocked rules tree) world course.Script) AreUncalled result a b
  mocked_ran standing result a b is ends =
      at_more a.clock (λ moments. Ends (JoinGives standing world course.Script moments a.drivers) AreUncalled result a b) (λ moments. Ends (StandingGives (mocked rules tree) world course.Script moments a.drivers) AreUncalled result a b)
      (λ moments. ends_more (JoinGives standing world course.Script moments a.drivers) (StandingGives (mocked rules tree) world course.Script moments a.drivers) AreUncalled AreUncalled
      (λ o e. e ∙ sym (ap (λ (s : Result Tree MockFault). standing_output s world (given course.Script moments a.drivers)) is)) (λ old new begun. begun) result a b) ends

-- ---- Files

-- what a file holds that may be named, where the shelf tells it
pub record Holding (holds : Option (List ℕ → List ℕ)) (name : Option (List ℕ)) : Type 0 where
  pub bytes : List ℕ
  pub told : ToldIfNamed holds name (λ file. bytes ≡ file)

pub holding : (holds : Option (List ℕ → List ℕ)) (name : Option (List ℕ)) → Holding holds name
holding holds None = record { bytes = []; told = tt }
holding None (Some name) = record { bytes = []; told = tt }
holding (Some h) (Some name) = record { bytes = h name; told = refl }

-- files of which this one is the first that is too long have this output
abbrev pub LongTree : Giving → Type 0
LongTree Gives = (files : Contents) (moments : Moments) (drivers : List DriverState) → most_file_bytes < length files.tree → Gives files moments drivers (too_long file.Tree)

abbrev pub LongWorld : Giving → Type 0
LongWorld Gives = (files : Contents) (moments : Moments) (drivers : List DriverState) → length files.tree ≤ most_file_bytes → most_file_bytes < length files.world → Gives files moments drivers (too_long file.World)

abbrev pub LongRules : Giving → Type 0
LongRules Gives = (files : Contents) (moments : Moments) (drivers : List DriverState) → length files.tree ≤ most_file_bytes → length files.world ≤ most_file_bytes
    → most_file_bytes < length files.rules → Gives files moments drivers (too_long file.Rules)

pub long_run : (course : Course) (main : Option (List ℕ)) → LongTree (RunsOn course main)
long_run course main files moments drivers long = match_true (is_too_long files.tree) _ _ (long_is files.tree long) refl

pub long_world : (course : Course) (main : Option (List ℕ)) → LongWorld (RunsOn course main)
long_world course main files moments drivers st long =
    match_false (is_too_long files.tree) _ _ (short_is files.tree st) (match_true (is_too_long files.world) _ _ (long_is files.world long) refl)

pub long_mock : (main : Option (List ℕ)) → LongTree (Mocks main)
long_mock main files moments drivers long = match_true (is_too_long files.tree) _ _ (long_is files.tree long) refl

pub long_mock_world : (main : Option (List ℕ)) → LongWorld (Mocks main)
long_mock_world main files moments drivers st long =
    match_false (is_too_long files.tree) _ _ (short_is files.tree st) (match_true (is_too_long files.world) _ _ (long_is files.world long) refl)

pub long_rules : (main : Option (List ℕ)) → LongRules (Mocks main)
long_rules main files moments drivers st sw long =
    match_false (is_too_long files.tree) _ _ (short_is files.tree st)
    (match_false (is_too_long files.world) _ _ (short_is files.world sw) (match_true (is_too_long files.rules) _ _ (long_is files.rules long) refl))

pub long_print : (print : Print) (main : Option (List ℕ)) → LongTree (Prints print main)
long_print print main files moments drivers long = match_true (is_too_long files.tree) _ _ (long_is files.tree long) refl

pub long_exclusive : (ids : List (List ℕ)) (main : Option (List ℕ)) → LongTree (Exclusives ids main)
long_exclusive ids main files moments drivers long = match_true (is_too_long files.tree) _ _ (long_is files.tree long) refl

-- .. of a tree file and a rules file
abbrev pub LongLast : Giving → Type 0
LongLast Gives = (files : Contents) (moments : Moments) (drivers : List DriverState) → length files.tree ≤ most_file_bytes → most_file_bytes < length files.rules → Gives files moments drivers (too_long file.Rules)

pub long_made : (main : Option (List ℕ)) → LongTree (PrintsMade main)
long_made main files moments drivers long = match_true (is_too_long files.tree) _ _ (long_is files.tree long) refl

pub long_made_rules : (main : Option (List ℕ)) → LongLast (PrintsMade main)
long_made_rules main files moments drivers st long =
    match_false (is_too_long files.tree) _ _ (short_is files.tree st) (match_true (is_too_long files.rules) _ _ (long_is files.rules long) refl)

-- .. of the three files of a run of which something is expected
abbrev pub LongExpect : Giving → Type 0
LongExpect Gives = (files : Contents) (moments : Moments) (drivers : List DriverState) → length files.tree ≤ most_file_bytes → length files.world ≤ most_file_bytes
    → most_file_bytes < length files.expect → Gives files moments drivers (too_long file.Expect)

pub long_expects : (main : Option (List ℕ)) → LongTree (Expects main)
long_expects main files moments drivers long = match_true (is_too_long files.tree) _ _ (long_is files.tree long) refl

pub long_expects_world : (main : Option (List ℕ)) → LongWorld (Expects main)
long_expects_world main files moments drivers st long =
    match_false (is_too_long files.tree) _ _ (short_is files.tree st) (match_true (is_too_long files.world) _ _ (long_is files.world long) refl)

pub long_expected : (main : Option (List ℕ)) → LongExpect (Expects main)
long_expected main files moments drivers st sw long =
    match_false (is_too_long files.tree) _ _ (short_is files.tree st)
    (match_false (is_too_long files.world) _ _ (short_is files.world sw) (match_true (is_too_long files.expect) _ _ (long_is files.expect long) refl))

-- a file that is told is as long as its bytes
told_short : (holds : Option (List ℕ → List ℕ)) (name bytes : List ℕ) → Told holds name (λ file. bytes ≡ file) → length bytes ≤ most_file_bytes → Told holds name (λ file. length file ≤ most_file_bytes)
told_short None name bytes told short = tt
told_short (Some h) name bytes told short = subst (λ (file : List ℕ). length file ≤ most_file_bytes) told short

-- the reads of files that may be named, one after another
module _ {Shelf : Type 0} (read_gives : Reading Shelf) (faults : Shelf → ℕ) (holds : Option (List ℕ → List ℕ)) where
  abbrev pub IsRead : Option (List ℕ) → List ℕ → Shelf → Shelf → Type 0
  IsRead name bytes old new = WasReadIfNamed read_gives holds name bytes old new

  abbrev pub Stops : List NamedFile → Refusal → Shelf → Shelf → Type 0
  Stops files r old new = AreStopped read_gives holds files (Rose (faults old) (faults new)) r old new

  -- what was read of a file is what the shelf tells, and is not too long
  pub told_of : (name : Option (List ℕ)) (bytes : List ℕ) (old new : Shelf) → IsRead name bytes old new → ToldIfNamed holds name (λ file. bytes ≡ file)
  told_of None bytes old new read = tt
  told_of (Some name) bytes old new read = read.told

  pub short_of : (name : Option (List ℕ)) (bytes : List ℕ) (old new : Shelf) → IsRead name bytes old new → length bytes ≤ most_file_bytes
  short_of None bytes old new read = subst (λ (z : List ℕ). length z ≤ most_file_bytes) (sym read.0) no_bytes
  short_of (Some name) bytes old new read = read.short

  -- the first file was read, and then the others
  pub read_first : (which : File) (name : Option (List ℕ)) (files : List NamedFile) (contents : Contents) (old between new : Shelf) → IsRead name (bytes_of contents which) old between
      → AreRead read_gives holds files (AllRead contents) between new → AreRead read_gives holds (if_named which name ++ files) (AllRead contents) old new
  read_first which None files contents old between new read rest = subst (λ (s : Shelf). AreRead read_gives holds files (AllRead contents) s new) read.1 rest
  read_first which (Some name) files contents old between new read rest = (between, read.gave, told_short holds name (bytes_of contents which) read.told read.short, rest)

  -- .. of which there are no others
  pub read_last : (which : File) (name : Option (List ℕ)) (contents : Contents) (old new : Shelf) → IsRead name (bytes_of contents which) old new → AreRead read_gives holds (if_named which name) (AllRead contents) old new
  read_last which None contents old new read = read.1
  read_last which (Some name) contents old new read = (new, read.gave, told_short holds name (bytes_of contents which) read.told read.short, refl)

  -- .. or the reads of the others ended at one
  stop_after : (which : File) (name : Option (List ℕ)) (files : List NamedFile) (bytes : List ℕ) (old between new : Shelf) (other : File) (gave : ShelfFault) → IsRead name bytes old between
      → AreRead read_gives holds files (StoppedAt other gave) between new → AreRead read_gives holds (if_named which name ++ files) (StoppedAt other gave) old new
  stop_after which None files bytes old between new other gave read rest = subst (λ (s : Shelf). AreRead read_gives holds files (StoppedAt other gave) s new) read.1 rest
  stop_after which (Some name) files bytes old between new other gave read rest = inr (bytes, (between, read.gave, told_short holds name bytes read.told read.short, rest))

  -- .. of which one was refused
  pub stop_later : (which : File) (name : Option (List ℕ)) (files : List NamedFile) (bytes : List ℕ) (old between new : Shelf) (r : Refusal) → faults old ≤ faults between → IsRead name bytes old between
      → Stops files r between new → Stops (if_named which name ++ files) r old new
  stop_later which name files bytes old between new r less read rest = record {
    which = rest.which;
    gave = rest.gave;
    reads = stop_after which name files bytes old between new rest.which rest.gave read rest.reads;
    rose = λ failed. Rose-after (faults old) (faults between) (faults new) less (rest.rose failed);
    is = rest.is;
  }

  -- the read of the first one was refused
  stop_at : (which : File) (name : List ℕ) (files : List NamedFile) (old new : Shelf) (r : Refusal) → IsUnread read_gives faults holds which name r old new → Stops ((which, name) ∷ files) r old new
  stop_at which name files old new (refusal.Unread asked) u = record { which = asked; gave = shelf.Failed; reads = inl (u.0, u.2); rose = λ is. u.1; is = refl }
  stop_at which name files old new (refusal.TooLong asked) u = record { which = asked; gave = shelf.TooLong; reads = inl (u.0, (u.1, u.2)); rose = λ is. cc; is = refl }
  stop_at which name files old new refusal.NoMemory u = record { which = which; gave = shelf.NoMemory; reads = inl (refl, u); rose = λ is. cc; is = refl }
  stop_at which name files old new refusal.Words u = absurd u
  stop_at which name files old new (refusal.Tree f) u = absurd u
  stop_at which name files old new (refusal.World f) u = absurd u
  stop_at which name files old new (refusal.Join f) u = absurd u
  stop_at which name files old new refusal.NoGoal u = absurd u
  stop_at which name files old new (refusal.Rules f) u = absurd u
  stop_at which name files old new (refusal.Ground f) u = absurd u
  stop_at which name files old new (refusal.Expect f) u = absurd u

  pub stop_first : (which : File) (name : Option (List ℕ)) (files : List NamedFile) (old new : Shelf) (r : Refusal) → IsUnreadIfNamed read_gives faults holds which name r old new
      → Stops (if_named which name ++ files) r old new
  stop_first which None files old new r u = absurd u
  stop_first which (Some name) files old new r u = stop_at which name files old new r u

  pub stop_last : (which : File) (name : Option (List ℕ)) (old new : Shelf) (r : Refusal) → IsUnreadIfNamed read_gives faults holds which name r old new → Stops (if_named which name) r old new
  stop_last which None old new r u = absurd u
  stop_last which (Some name) old new r u = stop_at which name [] old new r u

-- the bytes of a world file alone
abbrev pub alone : List ℕ → Contents
alone bytes = record { tree = []; world = bytes; rules = []; expect = [] }

-- a world file is the one file of a command, and it is refused where it is too long
abbrev pub LongAlone : Giving → Type 0
LongAlone Gives = (bytes : List ℕ) (moments : Moments) (drivers : List DriverState) → most_file_bytes < length bytes → Gives (alone bytes) moments drivers (too_long file.World)

-- the bytes of a tree file that is not too long, of whose tree this is printed
module _ (print : Print) (main : Option (List ℕ)) (bytes : List ℕ) (short : length bytes ≤ most_file_bytes) where
  abbrev pub Shown : Ending
  Shown moments drivers output = PrintGives print main bytes output

  pub print_stopped : (stopped : Stop TreeFault) (a : Side) → ReadsAs (Err stopped) main bytes → EndsAt Shown AreUncalled (Err (stopped_as refusal.Tree stopped)) a a
  print_stopped (stop.Fault f) a reads = refused_ends Shown AreUncalled (refusal.Tree f) a (λ moments. print_gives print main bytes (Err f) short reads)
  print_stopped stop.NoMemory a reads = refused_ends Shown AreUncalled refusal.NoMemory a (λ moments. tt)

  pub tree_printed : (t : Tree) (exit : Exit) (written : Option (List ℕ)) (faults : ℕ) (a : Side) → ReadsAs (Ok t) main bytes → Printed (print_output print (Ok t)) exit a.written a.faults written faults
      → EndsAt Shown AreUncalled (Ok exit) a (side written faults a.clock a.drivers)
  tree_printed t exit written faults a reads printed =
      at_any a.clock (λ moments. Ends (PrintGives print main bytes) AreUncalled (Ok exit) a (side written faults a.clock a.drivers))
      (λ moments. inl (print_output print (Ok t), print_gives print main bytes (Ok t) short reads, printed a.clock a.drivers a.drivers (λ place. refl)))

-- the bytes of a tree file that is not too long, of whose tree it is printed which leaves with these IDs may be held together
module _ (ids : List (List ℕ)) (main : Option (List ℕ)) (bytes : List ℕ) (short : length bytes ≤ most_file_bytes) where
  abbrev pub Met : Ending
  Met moments drivers output = ExclusiveGives ids main bytes output

  met_gives : (r : Result Tree TreeFault) → TreeReads main bytes r → ExclusiveGives ids main bytes (exclusive_output ids r)
  met_gives r reads = match_false (is_too_long bytes) _ _ (short_is bytes short) (r, reads, refl)

  pub met_stopped : (stopped : Stop TreeFault) (a : Side) → ReadsAs (Err stopped) main bytes → EndsAt Met AreUncalled (Err (stopped_as refusal.Tree stopped)) a a
  met_stopped (stop.Fault f) a reads = refused_ends Met AreUncalled (refusal.Tree f) a (λ moments. met_gives (Err f) reads)
  met_stopped stop.NoMemory a reads = refused_ends Met AreUncalled refusal.NoMemory a (λ moments. tt)

  pub met_printed : (t : Tree) (exit : Exit) (written : Option (List ℕ)) (faults : ℕ) (a : Side) → ReadsAs (Ok t) main bytes → Printed (exclusive_output ids (Ok t)) exit a.written a.faults written faults
      → EndsAt Met AreUncalled (Ok exit) a (side written faults a.clock a.drivers)
  met_printed t exit written faults a reads printed =
      at_any a.clock (λ moments. Ends (ExclusiveGives ids main bytes) AreUncalled (Ok exit) a (side written faults a.clock a.drivers))
      (λ moments. inl (exclusive_output ids (Ok t), met_gives (Ok t) reads, printed a.clock a.drivers a.drivers (λ place. refl)))

-- the bytes of a tree file and of a rules file that are not too long, of which is printed what the rules make of the tree
module _ (main : Option (List ℕ)) (tree rules : List ℕ) (st : length tree ≤ most_file_bytes) (sr : length rules ≤ most_file_bytes) where
  abbrev pub Made : Ending
  Made moments drivers output = MadeGives main tree rules output

  made_gives : (r : Result Tree TreeFault) → TreeReads main tree r → MadeGives main tree rules (made_output rules r)
  made_gives r reads = match_false (is_too_long tree) _ _ (short_is tree st) (match_false (is_too_long rules) _ _ (short_is rules sr) (r, reads, refl))

  -- .. of a tree that was read, by what they make of it
  made_as : (t : Tree) (made : Result Tree MockFault) → ReadsAs (Ok t) main tree → mocked_apart rules t ≡ made → MadeGives main tree rules (print_made made)
  made_as t made reads is = subst (λ (m : Result Tree MockFault). MadeGives main tree rules (print_made m)) is (made_gives (Ok t) reads)

  pub made_tree_stopped : (stopped : Stop TreeFault) (a : Side) → ReadsAs (Err stopped) main tree → EndsAt Made AreUncalled (Err (stopped_as refusal.Tree stopped)) a a
  made_tree_stopped (stop.Fault f) a reads = refused_ends Made AreUncalled (refusal.Tree f) a (λ moments. made_gives (Err f) reads)
  made_tree_stopped stop.NoMemory a reads = refused_ends Made AreUncalled refusal.NoMemory a (λ moments. tt)

  pub made_rules_stopped : (t : Tree) (stopped : Stop MockFault) (a : Side) → ReadsAs (Ok t) main tree → (let r : Result Tree (Stop MockFault) = Err stopped in Makes r (mocked_apart rules t))
      → EndsAt Made AreUncalled (Err (stopped_as refusal.Rules stopped)) a a
  made_rules_stopped t (stop.Fault f) a reads none = refused_ends Made AreUncalled (refusal.Rules f) a (λ moments. made_as t (Err f) reads none)
  made_rules_stopped t stop.NoMemory a reads none = refused_ends Made AreUncalled refusal.NoMemory a (λ moments. tt)

  pub made_printed : (t made : Tree) (exit : Exit) (written : Option (List ℕ)) (faults : ℕ) (a : Side) → ReadsAs (Ok t) main tree → mocked_apart rules t ≡ Ok made → Printed (print_made (Ok made)) exit a.written a.faults written faults
      → EndsAt Made AreUncalled (Ok exit) a (side written faults a.clock a.drivers)
  made_printed t made exit written faults a reads is printed =
      at_any a.clock (λ moments. Ends (MadeGives main tree rules) AreUncalled (Ok exit) a (side written faults a.clock a.drivers))
      (λ moments. inl (print_made (Ok made), made_as t (Ok made) reads is, printed a.clock a.drivers a.drivers (λ place. refl)))

-- the bytes of the three files of a run of which something is expected, which are not too long
module _ (main : Option (List ℕ)) (tree world expect : List ℕ) (st : length tree ≤ most_file_bytes) (sw : length world ≤ most_file_bytes) (sx : length expect ≤ most_file_bytes) where
  abbrev pub Expecting : Ending
  Expecting = ExpectGives main tree world expect

  expect_gives : (moments : Moments) (drivers : List DriverState) (r : Result Tree TreeFault) (o : Output) → TreeReads main tree r → TreeExpects r world expect drivers o → Expecting moments drivers o
  expect_gives moments drivers r o reads expects =
      match_false (is_too_long tree) _ _ (short_is tree st) (match_false (is_too_long world) _ _ (short_is world sw)
      (match_false (is_too_long expect) _ _ (short_is expect sx) (r, reads, expects)))

  pub expect_tree_stopped : (stopped : Stop TreeFault) (a : Side) → ReadsAs (Err stopped) main tree → EndsAt Expecting AreUncalled (Err (stopped_as refusal.Tree stopped)) a a
  expect_tree_stopped (stop.Fault f) a reads = refused_ends Expecting AreUncalled (refusal.Tree f) a (λ moments. expect_gives moments a.drivers (Err f) (tree_refused f) reads refl)
  expect_tree_stopped stop.NoMemory a reads = refused_ends Expecting AreUncalled refusal.NoMemory a (λ moments. tt)

  pub expect_world_stopped : (t : Tree) (stopped : Stop WorldFault) (a : Side) → ReadsAs (Ok t) main tree → (let r : Result World (Stop WorldFault) = Err stopped in Gives r (ReadsWorld world)) → EndsAt Expecting AreUncalled (Err (stopped_as refusal.World stopped)) a a
  expect_world_stopped t (stop.Fault f) a reads described = refused_ends Expecting AreUncalled (refusal.World f) a (λ moments. expect_gives moments a.drivers (Ok t) (world_refused f) reads (Err f, described, refl))
  expect_world_stopped t stop.NoMemory a reads described = refused_ends Expecting AreUncalled refusal.NoMemory a (λ moments. tt)

  -- the tree and the world were parsed
  pub both_expected : (t : Tree) (w : World) (result : Result Exit Refusal) (a b : Side) → ReadsAs (Ok t) main tree → ReadsWorld world (Ok w)
      → EndsAt (λ moments drivers. JoinExpects (lack_of t w drivers) (setup t w) expect) AreUncalled result a b → EndsAt Expecting AreUncalled result a b
  both_expected t w result a b reads described ends =
      at_more a.clock (λ moments. Ends (JoinExpects (lack_of t w a.drivers) (setup t w) expect) AreUncalled result a b) (λ moments. Ends (Expecting moments a.drivers) AreUncalled result a b)
      (λ moments. ends_more (JoinExpects (lack_of t w a.drivers) (setup t w) expect) (Expecting moments a.drivers) AreUncalled AreUncalled
      (λ o e. expect_gives moments a.drivers (Ok t) o reads (Ok w, described, e)) (λ old new begun. begun) result a b) ends

-- memory ran out when the files of a load were made
pub load_stopped : (leaves : ℕ) (a : Side) → EndsAt (CourseGives (course.Load leaves) None (tree_text leaves) (world_text leaves)) AreUncalled (Err refusal.NoMemory) a a
load_stopped leaves a = refused_ends (CourseGives (course.Load leaves) None (tree_text leaves) (world_text leaves)) AreUncalled refusal.NoMemory a (λ moments. tt)

-- ---- Words

-- the line of a refusal was written after nothing was done
gave_after : (o : Output) (result : Exit) (a b : Side) (written : Option (List ℕ)) (faults : ℕ) → IsUntouched a b → Printed o result b.written b.faults written faults → Gave o result a (side written faults b.clock b.drivers)
gave_after o result a b written faults same printed =
    subst (λ (w : Option (List ℕ)). Gave o result (side w a.faults a.clock a.drivers) (side written faults b.clock b.drivers)) same.written
    (subst (λ (n : ℕ). Gave o result (side b.written n a.clock a.drivers) (side written faults b.clock b.drivers)) same.faults
    (subst (λ (c : Option Moments). Gave o result (side b.written b.faults a.clock a.drivers) (side written faults c b.drivers)) (sym same.clock)
    (printed a.clock a.drivers b.drivers same.drivers)))

-- without a call, no more was begun than a command may begin
pub uncalled_begin : (c : Command) (files : Contents) (old new : List DriverState) → AreUncalled old new → FilesBegin c files old new
uncalled_begin (Tick t w main) files old new same = same
uncalled_begin (Live t w rounds main) files old new same = same
uncalled_begin (Load leaves) files old new same = same
uncalled_begin (Check t main) files old new same = same
uncalled_begin (Dead t main) files old new same = same
uncalled_begin (Exclusive t ids main) files old new same = same
uncalled_begin (Plan w expand ticks period) files old new same = inl same
uncalled_begin (Mock t w rules main) files old new same = same
uncalled_begin (MockPrint t rules main) files old new same = same
uncalled_begin (Ground w) files old new same = same
uncalled_begin (Expect t w x main) files old new same = same
uncalled_begin (GroundPlan w expand ticks period) files old new same = inl same

-- a command was answered after its reads
module _ {Shelf : Type 0} (read_gives : Reading Shelf) (holds : Option (List ℕ → List ℕ)) (command : Command) (rose : Type 0) (old new : Shelf) where
  abbrev Answer : Exit → Side → Side → Type 0
  Answer exit a b = WordsAnswered read_gives holds (Some command) rose old new exit a b

  abbrev Comes : Contents → Result Exit Refusal → Side → Side → Type 0
  Comes files result a b = EndsAt (FilesGive command files) (FilesBegin command files) result a b

  -- over what was read, with an exit
  pub exit_answered : (files : Contents) (exit : Exit) (a b : Side) → AreRead read_gives holds (in_order (files_of command)) (AllRead files) old new → AreWithin holds (files_of command) files → Comes files (Ok exit) a b → Answer exit a b
  exit_answered files exit a b reads within ends = record { end = AllRead files; reads = reads; answered = (within, ends) }

  refused_answers : (P : Output → Type 0) (H : Begun) (o : Option Output) (end : Exit) (a b : Side) (written : Option (List ℕ)) (faults : ℕ) → (AreUncalled a.drivers b.drivers → H a.drivers b.drivers) → IfSome o P → IsUntouched a b
      → MatchOption o ((end ≡ exit.Memory) × (written ≡ b.written)) (λ o. Printed o end b.written b.faults written faults) → Answers P H end a (side written faults b.clock b.drivers)
  refused_answers P H None end a b written faults begun is same x = inr (record { exit = x.0; written = x.1 ∙ same.written; clock = same.clock; drivers = begun same.drivers })
  refused_answers P H (Some o) end a b written faults begun is same x = inl (o, is, gave_after o end a b written faults same x)

  -- .. with a refusal, whose line was then written
  pub refusal_answered : (files : Contents) (r : Refusal) (end : Exit) (a b : Side) (written : Option (List ℕ)) (faults : ℕ) → AreRead read_gives holds (in_order (files_of command)) (AllRead files) old new → AreWithin holds (files_of command) files
      → Comes files (Err r) a b → IsRefused r end b.written b.faults written faults → Answer end a (side written faults b.clock b.drivers)
  refusal_answered files r end a b written faults reads within ends refused = record {
    end = AllRead files;
    reads = reads;
    answered = (
      within,
      at_more a.clock (λ moments. Ends (FilesGive command files moments a.drivers) (FilesBegin command files) (Err r) a b)
          (λ moments. Answers (FilesGive command files moments a.drivers) (FilesBegin command files) end a (side written faults b.clock b.drivers))
          (λ moments x. refused_answers (FilesGive command files moments a.drivers) (FilesBegin command files) (refused_as r) end a b written faults
          (uncalled_begin command files a.drivers b.drivers) x.0 x.1 refused) ends,
    );
  }

  fault_answered : (which : File) (gave : ShelfFault) (end : Exit) (a : Side) (written : Option (List ℕ)) (faults : ℕ) → (gave ≡ shelf.Failed → rose) → IsRefused (refusal_of which gave) end a.written a.faults written faults
      → AnsweredAfter (Some command) holds rose (StoppedAt which gave) end a (side written faults a.clock a.drivers)
  fault_answered which shelf.Failed end a written faults rises refused = (rises refl, gave_after (unread which) end a a written faults (still a) refused)
  fault_answered which shelf.TooLong end a written faults rises refused = gave_after (too_long which) end a a written faults (still a) refused
  fault_answered which shelf.NoMemory end a written faults rises refused = record { exit = refused.0; written = refused.1; clock = refl; drivers = λ place. refl }

  -- .. by the line of a file that was not read
  pub unread_answered : (r : Refusal) (end : Exit) (a : Side) (written : Option (List ℕ)) (faults : ℕ) → AreStopped read_gives holds (in_order (files_of command)) rose r old new → IsRefused r end a.written a.faults written faults
      → Answer end a (side written faults a.clock a.drivers)
  unread_answered r end a written faults stopped refused = record {
    end = StoppedAt stopped.which stopped.gave;
    reads = stopped.reads;
    answered = fault_answered stopped.which stopped.gave end a written faults stopped.rose (subst (λ (s : Refusal). IsRefused s end a.written a.faults written faults) stopped.is refused);
  }
