-- A run that ends in a fault has told of it: so what is told of its expectations is lines, and the last one is there.
use Rattle.std.proofs.Common.{ℕ, zero, suc, ◌+◌, List, [], ◌∷◌, ◌++◌, codes, decimal, Option, Some, None, IsSome, Result, Ok, Err, Bool, true, false, cond, refl}
use Rattle.std.specs.Prelude.{find}
use Rattle.spec_expect.specs.declared.expectation.Expected.{Expected}
use Rattle.spec_expect.specs.Told.{is_fault, last_line, line_of_note, told_of}
use Rattle.spec_expect.specs.Verdicts.{failed, lines_of, passed, sum_line}
use Rattle.spec_outside.specs.Writes.{AreLines}
use Rattle.spec_output.specs.Counts.{notes_in}
use Rattle.spec_output.specs.Lines.{LineNames, line_names}
use Rattle.spec_run.specs.declared.block.Block.{Block}
use Rattle.spec_run.specs.declared.block.Header.{Header}
use Rattle.spec_run.specs.declared.block.Header.TheVariants as header
use Rattle.spec_run.specs.declared.fault.Cause.{Cause}
use Rattle.spec_run.specs.declared.fault.NodeFault.{NodeFault}
use Rattle.spec_run.specs.declared.fault.RunFault.{RunFault}
use Rattle.spec_run.specs.declared.note.Note.{Note}
use Rattle.spec_run.specs.declared.note.Note.TheVariants.{Faulted}
use Rattle.spec_run.specs.Done.{Call}
use Rattle.spec_run.specs.Run.{RunState, Runner, Stepped, Trace, before_rest, finish, finishes, quench_notes, reset_step, root_reset, root_view, run_from, runner_at, state_of, step, step_by, tell_step, tick_step, ticked, told}
use Rattle.spec_run.specs.Served.{Setup}
use Rattle.spec_tree.specs.declared.term.Tree.{Tree}
use Rattle.spec_world.specs.declared.world.Event.{Event}
use Rattle.spec_world.specs.declared.world.What.{What}
use Rattle.spec_world.specs.declared.world.What.TheVariants.{Tick, Halt, Change, Tell}
use Rattle.spec_world.specs.declared.world.World.{World}
use Rattle.base_outside.proofs.Writings.{lines-after, lines-feed}
use Rattle.text_lines.proofs.LineEnds.{note_lines}

-- ---- The note of a fault is found

abbrev IsTold : List Note → Type 0
IsTold notes = IsSome (find is_fault notes)

told_here : (notes : List Note) (runner uid : ℕ) (cause : Cause) (rest : List Note) → IsTold (notes ++ Faulted runner uid cause ∷ rest)
told_here [] runner uid cause rest = refl
told_here (n ∷ notes) runner uid cause rest = by_test (told_here notes runner uid cause rest) (is_fault n) where
  by_test : IsTold (notes ++ Faulted runner uid cause ∷ rest) → (b : Bool) → IsSome (cond b (Some n) (find is_fault (notes ++ Faulted runner uid cause ∷ rest)))
  by_test p true = refl
  by_test p false = p

told_before : (xs ys : List Note) → IsTold xs → IsTold (xs ++ ys)
told_before [] ys p = cc
told_before (x ∷ xs) ys p = by_test (told_before xs ys) (is_fault x) p where
  by_test : (IsTold xs → IsTold (xs ++ ys)) → (b : Bool) → IsSome (cond b (Some x) (find is_fault xs)) → IsSome (cond b (Some x) (find is_fault (xs ++ ys)))
  by_test rest true p = refl
  by_test rest false p = rest p

told_after : (xs ys : List Note) → IsTold ys → IsTold (xs ++ ys)
told_after [] ys p = p
told_after (x ∷ xs) ys p = by_test (told_after xs ys p) (is_fault x) where
  by_test : IsTold (xs ++ ys) → (b : Bool) → IsSome (cond b (Some x) (find is_fault (xs ++ ys)))
  by_test rest true = refl
  by_test rest false = rest

-- ---- An event that faults tells it

abbrev Tells : Stepped → Type 0
Tells s = IsSome s.fault → IsTold s.block.notes

part_tells : {A : Type 0} (answer : Result A NodeFault) (h : Header) (tree : Tree) (runner : ℕ) (notes : List Note) (calls : List Call) (s after : RunState) → Tells (told answer h tree runner notes calls s after)
part_tells (Ok a) h tree runner notes calls s after faulted = cc
part_tells (Err f) h tree runner notes calls s after faulted = told_here notes runner f.uid f.cause (quench_notes 1 after.runners)

tick_tells : (o : Option Runner) (tree : Tree) (world : World) (runner at : ℕ) (s : RunState) → Tells (tick_step o tree world runner at s)
tick_tells (Some r) tree world runner at s faulted =
    let d = ticked tree (root_view tree world) runner r.memory (state_of r s.facts at) in
    part_tells d.answer (header.Tick runner at) tree runner d.notes d.calls s _ faulted
tick_tells None tree world runner at s faulted = cc

reset_tells : (o : Option Runner) (h : Header) (tree : Tree) (world : World) (runner at : ℕ) (s : RunState) → Tells (reset_step o h tree world runner at s)
reset_tells (Some r) h tree world runner at s faulted =
    let d = root_reset tree (root_view tree world) r.memory (state_of r s.facts at) in
    part_tells d.answer h tree runner d.notes d.calls s _ faulted
reset_tells None h tree world runner at s faulted = cc

step_tells : (what : What) (tree : Tree) (world : World) (at : ℕ) (s : RunState) → Tells (step_by what tree world at s)
step_tells (Tick runner) tree world at s = tick_tells (runner_at s runner) tree world runner at s
step_tells (Halt runner) tree world at s = reset_tells (runner_at s runner) (header.Halt runner at) tree world runner at s
step_tells (Change fact value) tree world at s = λ faulted. cc
step_tells (Tell runner uid telling) tree world at s = by_runner (runner_at s runner) where
  by_runner : (o : Option Runner) → Tells (tell_step o runner uid telling at s)
  by_runner (Some r) faulted = cc
  by_runner None faulted = cc

-- ---- A run that ends in a fault tells it

abbrev Says : Trace → Type 0
Says t = IsSome t.fault → IsTold (notes_in t.blocks)

goes_on : (first : Stepped) (rest : RunState → Trace) → ((s : RunState) → Says (rest s)) → (fault : Option RunFault) → (IsSome fault → IsTold first.block.notes) → Says (before_rest fault first rest)
goes_on first rest says (Some fault) tells faulted = told_before first.block.notes [] (tells refl)
goes_on first rest says None tells faulted = told_after first.block.notes (notes_in (rest first.state).blocks) (says first.state faulted)

finishes_say : (tree : Tree) (world : World) (runner others : ℕ) (s : RunState) → Says (finishes tree world runner others s)
finishes_say tree world runner zero s = λ faulted. cc
finishes_say tree world runner (suc others) s =
    goes_on (finish tree world runner s) (finishes tree world (runner + 1) others) (finishes_say tree world (runner + 1) others)
    (finish tree world runner s).fault (reset_tells (runner_at s runner) (header.Finish runner s.last) tree world runner s.last s)

run_says : (tree : Tree) (world : World) (events : List Event) (s : RunState) → Says (run_from tree world events s)
run_says tree world [] s = finishes_say tree world 1 world.runners s
run_says tree world (e ∷ events) s =
    goes_on (step tree world e s) (run_from tree world events) (run_says tree world events)
    (step tree world e s).fault (step_tells e.what tree world e.at s)

-- ---- Lines

sum_end : AreLines (codes " failed\n")
sum_end = lines-after (codes " failed") _ lines-feed

sum_lines : (met lost : ℕ) → AreLines (sum_line met lost)
sum_lines met lost = lines-after (codes "expected " ++ decimal met ++ codes " passed, " ++ decimal lost) _ sum_end

note_there : (names : LineNames) (note : Option Note) → IsSome note → AreLines (line_of_note names note)
note_there names (Some note) there = note_lines names note
note_there names None there = cc

last_lines : (of : Setup) (expected : List Expected) (blocks : List Block) (fault : Option RunFault) → (IsSome fault → IsTold (notes_in blocks)) → AreLines (last_line of expected blocks fault)
last_lines of expected blocks (Some fault) says = note_there (line_names of.tree of.world) (find is_fault (notes_in blocks)) (says refl)
last_lines of expected blocks None says = sum_lines (passed of blocks expected) (failed of blocks expected)

-- what is told of what is expected of a run
pub told_lines : (of : Setup) (expected : List Expected) (events : List Event) (s : RunState) → AreLines (told_of of expected (run_from of.tree of.world events s))
told_lines of expected events s =
    let trace = run_from of.tree of.world events s in
    lines-after (lines_of of trace.blocks expected) _ (last_lines of expected trace.blocks trace.fault (run_says of.tree of.world events s))
