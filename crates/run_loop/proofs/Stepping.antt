-- An event of one runner, compared with the definition's step.
use Rattle.std.proofs.Common.{OnOk, OnErr, ◌≡◌, inl, inr, ℕ, ℤ, zero, suc, ◌+◌, ◌-◌, ◌<◌, ◌≤◌, true, List, [], ◌∷◌, ◌++◌, Option, Some, IfSome, Result, Ok, Err, map, length, get_or, set, refl, sym, ap, subst, ◌∙◌, append_assoc, append-nil, arith}
use Rattle.std.proofs.lemmas.List.{length-map, map-set, get_or-set_same}
use Rattle.std.specs.Global.{Vec}
use Rattle.base_texts.specs.declared.stop.NoMemory.{NoMemory}
use Rattle.base_texts.specs.declared.stop.Stop.{Stop}
use Rattle.base_texts.specs.declared.stop.Stop.TheVariants as stop
use Rattle.base_texts.specs.Stops.{UnlessMemory}
use Rattle.spec_script.specs.declared.value.Value.{Value}
use Rattle.spec_run.specs.declared.block.Header.{Header}
use Rattle.spec_run.specs.declared.fault.NodeFault.{NodeFault}
use Rattle.spec_run.specs.declared.fault.RunFault.{RunFault}
use Rattle.spec_run.specs.declared.memory.Memory.{Memory}
use Rattle.spec_run.specs.declared.note.Note.{Note}
use Rattle.spec_run.specs.declared.note.Note.TheVariants.{Faulted}
use Rattle.spec_tree.specs.declared.term.Term.{Term}
use Rattle.spec_tree.specs.declared.term.Tree.{Tree}
use Rattle.spec_world.specs.declared.world.World.{World}
use Rattle.spec_run.specs.Done.{Call, Done}
use Rattle.spec_run.specs.Drivers.{DriverState}
use Rattle.spec_run.specs.Run.{RunState, Runner, RunnerCall, Stepped, changed_boards, changed_entries, changed_from, quench_calls, quench_notes, quenched, quenched_runner, runner_at, runner_calls, told, with_runner}
use Rattle.run_arena.specs.declared.block.Block.{Block}
use Rattle.run_arena.specs.declared.nodes.Node.{Node}
use Rattle.run_arena.specs.Noted.{calls_named}
use Rattle.run_arena.specs.Rosters.{instances_of}
use Rattle.run_loop.specs.declared.runs.ReadyRunner.{ReadyRunner}
use Rattle.run_loop.specs.declared.runs.Runs.{Runs}
use Rattle.run_loop.specs.Ending.{CanTell, Closing, IsQuenched, IsTelling}
use Rattle.run_loop.specs.Parts.{PartEnds, PartMade, state_of_all}
use Rattle.run_loop.specs.Runs.{AreRuns, RunnersFit, arenas_in, arenas_of, boards_in, nth_board, roster_over, runner_in, runners_in, state_of_runs}
use Rattle.run_loop.specs.Steps.{EndsInFault, EventEnds, IsCutOff}
use Rattle.run_loop.proofs.Entries.{no_change}
use Rattle.run_loop.proofs.Lists.{entry}
use Rattle.run_loop.proofs.Others.{over_both}
use Rattle.run_loop.proofs.Quenched.{twice}
use Rattle.run_loop.proofs.Results.{ok_gives}

-- ---- What changed

pub same_entries : (runner slot : ℕ) (entries : List (Option Value)) → changed_entries runner slot entries entries ≡ []
same_entries runner slot [] = refl
same_entries runner slot (e ∷ es) = no_change runner slot e (changed_entries runner (slot + 1) es es) ∙ same_entries runner (slot + 1) es

pub same_boards : (runner : ℕ) (rs : List Runner) → changed_boards runner rs rs ≡ []
same_boards runner [] = refl
same_boards runner (r ∷ rs) = (λ i. same_entries runner 0 r.board i ++ same_boards (runner + 1) rs i)

abbrev pub board_of : Runner → List (Option Value)
board_of r = r.board

-- one runner's blackboard has changed
pub one_board : (runner : ℕ) (rs : List Runner) (i : ℕ) (new : Runner) → i < length rs → changed_boards runner rs (set rs i new) ≡ changed_entries (runner + i) 0 (get_or (map board_of rs) i []) new.board
one_board runner [] i new low = absurd (omega (arith, low))
one_board runner (r ∷ rs) zero new low =
    ap (λ xs. changed_entries runner 0 r.board new.board ++ xs) (same_boards (runner + 1) rs)
    ∙ append-nil (changed_entries runner 0 r.board new.board)
    ∙ ap (λ n. changed_entries n 0 r.board new.board) (let e : runner ≡ runner + 0 = omega arith in e)
one_board runner (r ∷ rs) (suc i) new low =
    ap (λ xs. xs ++ changed_boards (runner + 1) rs (set rs i new)) (same_entries runner 0 r.board)
    ∙ one_board (runner + 1) rs i new (omega (arith, low))
    ∙ ap (λ n. changed_entries n 0 (get_or (map board_of rs) i []) new.board) (let e : runner + 1 + i ≡ runner + suc i = omega arith in e)

-- a quench does not change a blackboard
quench_boards : (tree : Tree) (runner : ℕ) (rs ss : List Runner) → changed_boards runner rs (map (quenched_runner tree) ss) ≡ changed_boards runner rs ss
quench_boards tree runner [] ss = refl
quench_boards tree runner (r ∷ rs) [] = refl
quench_boards tree runner (r ∷ rs) (s ∷ ss) = ap (λ xs. changed_entries runner 0 r.board s.board ++ xs) (quench_boards tree (runner + 1) rs ss)

-- ---- Runners as they are kept

boards_are : (t : Term) (drivers : List DriverState) (rs : List ReadyRunner) → map board_of (runners_in t drivers rs) ≡ boards_in rs
boards_are t drivers [] = refl
boards_are t drivers (r ∷ rs) = ap (λ xs. r.board ∷ xs) (boards_are t drivers rs)

pub instances_are : (t : Term) (drivers : List DriverState) (rs : List ReadyRunner) → map (λ (r : Runner). r.instances) (runners_in t drivers rs) ≡ map (λ nodes. instances_of nodes drivers) (arenas_in rs)
instances_are t drivers [] = refl
instances_are t drivers (r ∷ rs) = ap (λ xs. instances_of r.arena.nodes.items drivers ∷ xs) (instances_are t drivers rs)

as_many_calls : (runner : ℕ) (calls : List Call) → length (runner_calls runner calls) ≡ length calls
as_many_calls runner calls = length-map calls _

both_calls : (runner : ℕ) (xs ys : List Call) → runner_calls runner (xs ++ ys) ≡ runner_calls runner xs ++ runner_calls runner ys
both_calls runner [] ys = refl
both_calls runner (x ∷ xs) ys = ap (λ cs. (let call : RunnerCall = record { runner = runner; call = x } in call) ∷ cs) (both_calls runner xs ys)

-- ---- A step begins with its part

module _ (header : Header) (tree : Tree) (number : ℕ) (notes : List Note) (calls : List Call) (s after : RunState) where
  more_notes : (r : Result (Unit {0}) NodeFault) → (more : List Note) × (notes ++ more ≡ (told r header tree number notes calls s after).block.notes)
  more_notes (Ok a) = ([], append-nil notes)
  more_notes (Err f) = (Faulted number f.uid f.cause ∷ quench_notes 1 after.runners, refl)

  more_calls : (r : Result (Unit {0}) NodeFault) → (more : List RunnerCall) × (runner_calls number calls ++ more ≡ (told r header tree number notes calls s after).calls)
  more_calls (Ok a) = ([], append-nil (runner_calls number calls))
  more_calls (Err f) = (quench_calls 1 after.runners, refl)

-- what is said of entries that were told
entries_there : {P : Type 0} {told : Result (Unit {0}) NoMemory} → told ≡ Ok tt → OnOk told P → P
entries_there {P} is said = subst (λ (r : Result (Unit {0}) NoMemory). OnOk r P) is said

-- a block that had no entries has those that were added
pub entries_of : (ended : Result (Unit {0}) (Stop NodeFault)) (told : Result (Unit {0}) NoMemory) (before after added : List (ℕ × ℕ × Value)) → before ≡ [] →
    UnlessMemory ended (OnOk told (after ≡ before ++ added)) → UnlessMemory ended (OnOk told (after ≡ added))
entries_of (Ok a) told before after added none said = ok_gives told (λ (more : after ≡ before ++ added). more ∙ ap (λ xs. xs ++ added) none) said
entries_of (Err (stop.Fault f)) told before after added none said = ok_gives told (λ (more : after ≡ before ++ added). more ∙ ap (λ xs. xs ++ added) none) said
entries_of (Err stop.NoMemory) told before after added none said = tt

-- what holds of runs after an event that was made, apart from the rules of states
pub record StayRuns (tree : Tree) (world : World) (drivers : List DriverState) (runs : Runs) : Type 0 where
  pub usable : runs.usable ≡ true
  pub fit : RunnersFit tree world runs.facts drivers runs.runners.items
  pub told : runs.told.items ≡ runs.facts

-- ---- The event

module _ (tree : Tree) (header : Header) (number at : ℕ) (runs0 runs1 runs2 : Runs) (before mid after : List DriverState) (block1 block2 : Block)
    (first : 1 ≤ number) (last : number ≤ length runs0.runners.items)
    (was_told : runs0.told.items ≡ runs0.facts)
    (arenas : arenas_of runs1 ≡ arenas_of runs0) (same_told : runs1.told ≡ runs0.told) (last_is : runs1.last ≡ at)
    (begun : block1.header ≡ header) (no_facts : block1.facts.items ≡ []) (entries_told : Result (Unit {0}) NoMemory)
    (d : Done (Unit {0}) Memory) where
  abbrev t : Term
  t = tree.term

  abbrev s : RunState
  s = state_of_runs t before runs0

  abbrev left : RunState
  left = with_runner s number at d

  abbrev step_by : Result (Unit {0}) NodeFault → Stepped
  step_by r = told r header tree number d.notes d.calls s left

  abbrev whole : Stepped
  whole = step_by d.answer

  abbrev held : List Runner
  held = runners_in t mid runs1.runners.items

  -- the entries of the block are those of the runner's blackboard that changed
  abbrev EntriesTold : Type 0
  EntriesTold = block1.entries.items ≡ changed_entries number 0 (nth_board runs0.runners.items number) (nth_board runs1.runners.items number)

  module _ (left_is : state_of_all t mid runs1.runners.items runs1.facts at ≡ left) where
    held_is : held ≡ left.runners
    held_is = ap (λ (x : RunState). x.runners) left_is

    facts_are : runs1.facts ≡ left.facts
    facts_are = ap (λ (x : RunState). x.facts) left_is

    facts_told : (block : Block) (new : List ℤ) → IsTelling entries_told runs1.facts runs1.told.items new block1 block → block.facts.items ≡ changed_from 0 s.facts left.facts
    facts_told block new telling =
        telling.changed
        ∙ (λ i. no_facts i ++ changed_from 0 (same_told i).items (facts_are i))
        ∙ ap (λ xs. changed_from 0 xs left.facts) was_told

    board_is : get_or (boards_in runs1.runners.items) (number - 1) [] ≡ d.state.board
    board_is =
        ap (λ xs. get_or xs (number - 1) []) (sym (boards_are t mid runs1.runners.items) ∙ ap (map board_of) held_is ∙ map-set board_of s.runners (number - 1) _)
        ∙ get_or-set_same (map board_of s.runners) (number - 1) d.state.board []
        (omega (arith, first, last, length-map s.runners board_of, length-map runs0.runners.items (runner_in t before)))

    entries_told_are : (block : Block) → block.entries.items ≡ block1.entries.items → EntriesTold → block.entries.items ≡ changed_boards 1 s.runners left.runners
    entries_told_are block same are =
        same
        ∙ are
        ∙ (λ i. changed_entries number 0 (get_or (sym (boards_are t before runs0.runners.items) i) (number - 1) []) (board_is i))
        ∙ ap (λ n. changed_entries n 0 (get_or (map board_of s.runners) (number - 1) []) d.state.board) (let e : number ≡ 1 + (number - 1) = omega (arith, first) in e)
        ∙ sym (one_board 1 s.runners (number - 1) _ (omega (arith, first, last, length-map runs0.runners.items (runner_in t before))))

  -- the part was made, and what changed was told
  made_told : PartMade t number at s (arenas_of runs0) before mid runs1.runners.items runs1.facts [] block1.notes.list (Ok tt) d →
      IsTelling entries_told runs1.facts runs1.told.items runs2.told.items block1 block2 → EntriesTold → runs2 ≡ record runs1 { told = runs2.told } → block2.notes ≡ block1.notes → after ≡ mid →
      EventEnds (Ok tt) t before after runs2 block2 whole
  made_told m telling entries same_runs same_notes same_drivers =
      subst (λ (r : Result (Unit {0}) NodeFault). EventEnds (Ok tt) t before after runs2 block2 (step_by r)) (sym m.answer) (
        refl,
        record {
          state =
              (λ i. state_of_runs t (same_drivers i) (same_runs i))
              ∙ (λ i. let all : RunState = record { runners = held; facts = runs1.facts; last = last_is i } in all) ∙ m.state;
          shown = λ i. record {
            header = (telling.header ∙ begun) i;
            notes = (ap (λ n. n.list) same_notes ∙ m.notes) i;
            facts = facts_told m.state block2 runs2.told.items telling i;
            entries = entries_told_are m.state block2 telling.entries entries i;
          };
          drivers = same_drivers ∙ m.drivers ∙ ap (λ ns. roster_over ns (runner_calls number d.calls) before) (sym arenas ∙ sym (ap arenas_of same_runs));
        },
      )

  -- what is left of an event that was cut off in its runner's part has all of its fault
  still_to_come : (r : Result (Unit {0}) NodeFault) (unsaid : List Note) (unmade : List RunnerCall) →
      IfSome (step_by r).fault (λ fault. EndsInFault fault (unsaid ++ (more_notes header tree number d.notes d.calls s left r).0) (unmade ++ (more_calls header tree number d.notes d.calls s left r).0))
  unfolding more_notes more_calls
  still_to_come (Ok done) unsaid unmade = tt
  still_to_come (Err f) unsaid unmade = record { first_notes = unsaid; first_calls = unmade; runners = left.runners; all_notes = refl; all_calls = refl }

  -- the event was cut off after some notes and calls
  cut_off : (r : Result (Unit {0}) NodeFault) (said unsaid : List Note) (made unmade : List Call) → said ++ unsaid ≡ d.notes → made ++ unmade ≡ d.calls → length made ≡ calls_named said →
      block1.notes.list ≡ said → mid ≡ roster_over (arenas_of runs0) (runner_calls number made) before → IsQuenched tree mid after runs1 runs2 block1.notes.list block2.notes.list → IsCutOff (arenas_of runs2) before after block2.notes.list (step_by r)
  cut_off r said unsaid made unmade all_notes all_calls named noted called q =
      let more : (more : List Note) × (d.notes ++ more ≡ (step_by r).block.notes) = more_notes header tree number d.notes d.calls s left r in
      let others : (more : List RunnerCall) × (runner_calls number d.calls ++ more ≡ (step_by r).calls) = more_calls header tree number d.notes d.calls s left r in
      let same : arenas_of runs2 ≡ arenas_of runs0 = q.arenas ∙ arenas in
      let mid_is : mid ≡ roster_over (arenas_of runs2) (runner_calls number made) before = called ∙ ap (λ ns. roster_over ns (runner_calls number made) before) (sym same) in
      record {
        told = said;
        untold = unsaid ++ more.0;
        made = runner_calls number made;
        unmade = runner_calls number unmade ++ others.0;
        held = held;
        all_notes = sym (append_assoc said unsaid more.0) ∙ ap (λ xs. xs ++ more.0) all_notes ∙ more.1;
        all_calls = sym (append_assoc (runner_calls number made) (runner_calls number unmade) others.0) ∙ ap (λ xs. xs ++ others.0) (sym (both_calls number made unmade) ∙ ap (runner_calls number) all_calls) ∙ others.1;
        named = as_many_calls number made ∙ named;
        before_fault = still_to_come r unsaid (runner_calls number unmade);
        instances = instances_are t mid runs1.runners.items ∙ (λ i. map (λ nodes. instances_of nodes (mid_is i)) (sym q.arenas i));
        noted = q.notes ∙ ap (λ xs. xs ++ quench_notes 1 held) noted;
        drivers = q.drivers ∙ (λ i. roster_over (sym q.arenas i) (quench_calls 1 held) (mid_is i));
      }

  module _ (f : NodeFault) (m : PartMade t number at s (arenas_of runs0) before mid runs1.runners.items runs1.facts [] block1.notes.list (Err f) d) (q : IsQuenched tree mid after runs1 runs2 (block1.notes.list ++ Faulted number f.uid f.cause ∷ []) block2.notes.list) where
    notes_at_fault : block2.notes.list ≡ d.notes ++ Faulted number f.uid f.cause ∷ quench_notes 1 left.runners
    notes_at_fault =
        q.notes
        ∙ append_assoc block1.notes.list (Faulted number f.uid f.cause ∷ []) (quench_notes 1 held)
        ∙ (λ i. m.notes i ++ Faulted number f.uid f.cause ∷ quench_notes 1 (held_is m.state i))

    drivers_at_fault : after ≡ roster_over (arenas_of runs2) (runner_calls number d.calls ++ quench_calls 1 left.runners) before
    drivers_at_fault =
        q.drivers
        ∙ (λ i. roster_over (arenas i) (quench_calls 1 (held_is m.state i)) (m.drivers i))
        ∙ sym (over_both (arenas_of runs0) (runner_calls number d.calls) (quench_calls 1 left.runners) before)
        ∙ ap (λ ns. roster_over ns (runner_calls number d.calls ++ quench_calls 1 left.runners) before) (sym (q.arenas ∙ arenas))

    -- there was a fault, and all was told
    fault_told : (g : RunFault) → g ≡ record { runner = number; uid = f.uid; cause = f.cause } → IsTelling entries_told runs1.facts runs1.told.items runs2.told.items block1 block2 → EntriesTold →
        EventEnds (Err (stop.Fault g)) t before after runs2 block2 whole
    fault_told g is telling entries =
        subst (λ (r : Result (Unit {0}) NodeFault). EventEnds (Err (stop.Fault g)) t before after runs2 block2 (step_by r)) (sym m.answer) (
          ap Some (sym is),
          record {
            state = λ i. record { runners = (q.state ∙ ap (map (quenched_runner tree)) (held_is m.state)) i; facts = (q.facts ∙ facts_are m.state) i; last = (q.last ∙ last_is) i };
            shown = λ i. record {
              header = (telling.header ∙ begun) i;
              notes = notes_at_fault i;
              facts = facts_told m.state block2 runs2.told.items telling i;
              entries = (entries_told_are m.state block2 telling.entries entries ∙ sym (quench_boards tree 1 s.runners left.runners)) i;
            };
            drivers = drivers_at_fault;
          },
        )

    -- there was a fault, and not all was told
    fault_untold : EventEnds (Err stop.NoMemory) t before after runs2 block2 whole
    fault_untold =
        subst (λ (r : Result (Unit {0}) NodeFault). EventEnds (Err stop.NoMemory) t before after runs2 block2 (step_by r)) (sym m.answer)
        (inr (record { fault = record { runner = number; uid = f.uid; cause = f.cause }; faulted = refl; noted = notes_at_fault; drivers = drivers_at_fault }))

  -- what holds of runs still does
  stays : (world : World) → runs1.usable ≡ true → RunnersFit tree world runs1.facts mid runs1.runners.items → IsTelling entries_told runs1.facts runs1.told.items runs2.told.items block1 block2 → runs2 ≡ record runs1 { told = runs2.told } → after ≡ mid → StayRuns tree world after runs2
  stays world usable fit telling same_runs same_drivers =
      record {
        usable = ap (λ (r : Runs). r.usable) same_runs ∙ usable;
        fit = subst (λ (ds : List DriverState). RunnersFit tree world runs2.facts ds runs2.runners.items) (sym same_drivers) (subst (λ (r : Runs). RunnersFit tree world r.facts mid r.runners.items) (sym same_runs) fit);
        told = telling.told ∙ sym (ap (λ (r : Runs). r.facts) same_runs);
      }

  pub stay_runs : (world : World) → runs1.usable ≡ true → RunnersFit tree world runs1.facts mid runs1.runners.items → (ended : Result (Unit {0}) (Stop NodeFault)) (result : Result (Unit {0}) (Stop RunFault)) →
      PartEnds ended t number at s (arenas_of runs0) before mid runs1.runners.items runs1.facts [] block1.notes.list d → Closing ended entries_told result tree number mid after runs1 runs2 block1 block2 → OnOk result (StayRuns tree world after runs2)
  stay_runs world usable fit (Ok a) (Ok b) m closing = stays world usable fit closing.0 closing.1 closing.3
  stay_runs world usable fit (Ok a) (Err e) m closing = tt
  stay_runs world usable fit (Err (stop.Fault f)) (Ok b) m closing = absurd closing
  stay_runs world usable fit (Err stop.NoMemory) (Ok b) m closing = absurd closing
  stay_runs world usable fit (Err e) (Err x) m closing = tt

  -- whether the part and the event were made or stopped, the event ends as the definition says
  pub steps : (ended : Result (Unit {0}) (Stop NodeFault)) (result : Result (Unit {0}) (Stop RunFault)) →
      PartEnds ended t number at s (arenas_of runs0) before mid runs1.runners.items runs1.facts [] block1.notes.list d → UnlessMemory ended (OnOk entries_told EntriesTold) →
      Closing ended entries_told result tree number mid after runs1 runs2 block1 block2 → EventEnds result t before after runs2 block2 whole
  steps (Ok a) (Ok b) m entries closing = made_told m.0 closing.0 (entries_there closing.0.is_told entries) closing.1 closing.2 closing.3
  steps (Ok a) (Err stop.NoMemory) m entries closing = inl (cut_off d.answer d.notes [] d.calls [] (append-nil d.notes) (append-nil d.calls) m.1 m.0.notes m.0.drivers closing)
  steps (Ok a) (Err (stop.Fault g)) m entries closing = absurd closing
  steps (Err (stop.Fault f)) (Ok b) m entries closing = absurd closing
  steps (Err (stop.Fault f)) (Err (stop.Fault g)) m entries closing = fault_told f m closing.1 g closing.0 closing.2 (entries_there closing.2.is_told entries)
  steps (Err (stop.Fault f)) (Err stop.NoMemory) m entries closing = fault_untold f m closing
  steps (Err stop.NoMemory) (Ok b) m entries closing = absurd closing
  steps (Err stop.NoMemory) (Err (stop.Fault g)) m entries closing = absurd closing
  steps (Err stop.NoMemory) (Err stop.NoMemory) m entries closing = inl (cut_off d.answer m.told m.untold m.made m.unmade m.all_notes m.all_calls m.named m.notes m.drivers closing)

-- ---- After an event

all_twice : (tree : Tree) (rs : List Runner) → map (quenched_runner tree) (map (quenched_runner tree) rs) ≡ map (quenched_runner tree) rs
all_twice tree [] = refl
all_twice tree (r ∷ rs) = λ i. twice tree r i ∷ all_twice tree rs i

pub quenched_stays : (tree : Tree) (before after : List DriverState) (old new : Runs) (n0 n1 : List Note) → IsQuenched tree before after old new n0 n1 → state_of_runs tree.term after new ≡ quenched tree (state_of_runs tree.term after new)
quenched_stays tree before after old new n0 n1 q =
    let again : map (quenched_runner tree) (runners_in tree.term after new.runners.items) ≡ runners_in tree.term after new.runners.items =
    ap (map (quenched_runner tree)) q.state ∙ all_twice tree (runners_in tree.term before old.runners.items) ∙ sym q.state in
    λ i. record { runners = sym again i; facts = new.facts; last = new.last }

-- after a stop all runners are quenched
pub stop_quenched : (ended : Result (Unit {0}) (Stop NodeFault)) (told : Result (Unit {0}) NoMemory) (result : Result (Unit {0}) (Stop RunFault)) (tree : Tree) (number : ℕ) (before after : List DriverState) (old new : Runs) (begun block : Block) →
    Closing ended told result tree number before after old new begun block → OnErr result (state_of_runs tree.term after new ≡ quenched tree (state_of_runs tree.term after new))
stop_quenched (Ok a) said (Ok b) tree number before after old new begun block c = tt
stop_quenched (Ok a) said (Err stop.NoMemory) tree number before after old new begun block c = quenched_stays tree before after old new _ _ c
stop_quenched (Ok a) said (Err (stop.Fault g)) tree number before after old new begun block c = absurd c
stop_quenched (Err e) said (Ok b) tree number before after old new begun block c = tt
stop_quenched (Err (stop.Fault f)) said (Err (stop.Fault g)) tree number before after old new begun block c = quenched_stays tree before after old new _ _ c.1
stop_quenched (Err (stop.Fault f)) said (Err stop.NoMemory) tree number before after old new begun block c = quenched_stays tree before after old new _ _ c
stop_quenched (Err stop.NoMemory) said (Err (stop.Fault g)) tree number before after old new begun block c = absurd c
stop_quenched (Err stop.NoMemory) said (Err stop.NoMemory) tree number before after old new begun block c = quenched_stays tree before after old new _ _ c

-- no arena changes, and the drivers took some calls
abbrev pub Called : List (List Node) → List DriverState → List DriverState → Type 0
Called arenas before after = (calls : List RunnerCall) × (after ≡ roster_over arenas calls before)

pub closing_keeps : (ended : Result (Unit {0}) (Stop NodeFault)) (told : Result (Unit {0}) NoMemory) (result : Result (Unit {0}) (Stop RunFault)) (tree : Tree) (number : ℕ) (before after : List DriverState) (old new : Runs) (begun block : Block) →
    Closing ended told result tree number before after old new begun block → (arenas_of new ≡ arenas_of old) × Called (arenas_of old) before after
closing_keeps (Ok a) said (Ok b) tree number before after old new begun block c = (ap arenas_of c.1, ([], c.3))
closing_keeps (Ok a) said (Err stop.NoMemory) tree number before after old new begun block c = (c.arenas, (quench_calls 1 (runners_in tree.term before old.runners.items), c.drivers))
closing_keeps (Ok a) said (Err (stop.Fault g)) tree number before after old new begun block c = absurd c
closing_keeps (Err (stop.Fault f)) said (Ok b) tree number before after old new begun block c = absurd c
closing_keeps (Err stop.NoMemory) said (Ok b) tree number before after old new begun block c = absurd c
closing_keeps (Err (stop.Fault f)) said (Err (stop.Fault g)) tree number before after old new begun block c = (c.1.arenas, (quench_calls 1 (runners_in tree.term before old.runners.items), c.1.drivers))
closing_keeps (Err (stop.Fault f)) said (Err stop.NoMemory) tree number before after old new begun block c = (c.arenas, (quench_calls 1 (runners_in tree.term before old.runners.items), c.drivers))
closing_keeps (Err stop.NoMemory) said (Err (stop.Fault g)) tree number before after old new begun block c = absurd c
closing_keeps (Err stop.NoMemory) said (Err stop.NoMemory) tree number before after old new begun block c = (c.arenas, (quench_calls 1 (runners_in tree.term before old.runners.items), c.drivers))

pub part_calls : (ended : Result (Unit {0}) (Stop NodeFault)) (t : Term) (number at : ℕ) (s : RunState) (arenas : List (List Node)) (before after : List DriverState) (runners : List ReadyRunner) (facts : List ℤ) (n0 n1 : List Note) (d : Done (Unit {0}) Memory) →
    PartEnds ended t number at s arenas before after runners facts n0 n1 d → Called arenas before after
part_calls (Ok a) t number at s arenas before after runners facts n0 n1 d m = (runner_calls number d.calls, m.0.drivers)
part_calls (Err (stop.Fault f)) t number at s arenas before after runners facts n0 n1 d m = (runner_calls number d.calls, m.drivers)
part_calls (Err stop.NoMemory) t number at s arenas before after runners facts n0 n1 d m = (runner_calls number m.made, m.drivers)

-- ---- What can be told

pub can_tell : (tree : Tree) (world : World) (before mid : List DriverState) (runs0 runs1 : Runs) → AreRuns tree world before runs0 → RunnersFit tree world runs1.facts mid runs1.runners.items → runs1.told ≡ runs0.told → CanTell runs1
can_tell tree world before mid runs0 runs1 are fit told = record {
  facts = ap (λ (x : Vec ℤ). length x.items) told ∙ ap length are.told ∙ are.fit.many_facts ∙ sym fit.many_facts;
  few_facts = omega (arith, fit.few_facts, fit.many_facts);
}

-- ---- The runner of a number

pub runner_there : (t : Term) (drivers : List DriverState) (runs : Runs) (number : ℕ) → 1 ≤ number → number ≤ length runs.runners.items → (r : Runner) × (runner_at (state_of_runs t drivers runs) number ≡ Some r)
runner_there t drivers runs number first last = entry (runners_in t drivers runs.runners.items) (number - 1) (omega (arith, first, last, length-map runs.runners.items (runner_in t drivers)))

pub from_none : (ended : Result (Unit {0}) (Stop NodeFault)) (t : Term) (number at : ℕ) (s : RunState) (arenas : List (List Node)) (before after : List DriverState) (runners : List ReadyRunner) (facts : List ℤ) (n0 n1 : List Note) (d : Done (Unit {0}) Memory) →
    n0 ≡ [] → PartEnds ended t number at s arenas before after runners facts n0 n1 d → PartEnds ended t number at s arenas before after runners facts [] n1 d
from_none ended t number at s arenas before after runners facts n0 n1 d none m = subst (λ xs. PartEnds ended t number at s arenas before after runners facts xs n1 d) none m
