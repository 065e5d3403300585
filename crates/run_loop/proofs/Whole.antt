-- The events of runs are the definition's steps, and what holds between events still does.
use Rattle.std.proofs.Common.{◌≡◌, ℕ, ℤ, ◌≤◌, List, [], ◌++◌, Some, Result, Ok, Err, OnOk, length, map, set, w64, refl, sym, ap, subst, ◌∙◌}
use Rattle.std.proofs.lemmas.List.{length-set}
use Rattle.std.proofs.lemmas.Int.{to_z-of_z}
use Rattle.std.specs.Global.{Vec}
use Rattle.std.specs.Int.{cast_signed, cast_unsigned}
use Rattle.base_tables.proofs.Canonical.{fits_from_int}
use Rattle.base_texts.specs.declared.stop.Stop.{Stop}
use Rattle.spec_run.specs.declared.block.Header.{Header}
use Rattle.spec_run.specs.declared.block.Header.TheVariants as header
use Rattle.spec_run.specs.declared.fault.NodeFault.{NodeFault}
use Rattle.spec_run.specs.declared.fault.RunFault.{RunFault}
use Rattle.spec_run.specs.declared.note.Note.{Note}
use Rattle.spec_tree.specs.declared.term.Tree.{Tree}
use Rattle.spec_world.specs.declared.world.What.{What}
use Rattle.spec_world.specs.declared.world.What.TheVariants.{Tick, Halt, Change}
use Rattle.spec_world.specs.declared.world.World.{World}
use Rattle.spec_run.specs.Done.{Call}
use Rattle.spec_run.specs.Drivers.{DriverState}
use Rattle.spec_run.specs.Run.{RunState, Runner, Stepped, change_step, changed_from, quench_calls, quench_notes, reset_step, root_view, runner_at, runner_step, state_of, tick_step, ticked, told}
use Rattle.base_tables.specs.Sound.{RunSteady}
use Rattle.spec_world.specs.Worlds.{IsValidWhat}
use Rattle.run_laws.proofs.Events.{reset_steady, step_steady}
use Rattle.run_arena.specs.declared.block.Block.{Block}
use Rattle.run_arena.specs.Rosters.{instances_of}
use Rattle.run_loop.specs.declared.parts.Part.{Part}
use Rattle.run_loop.specs.declared.parts.Part.TheVariants as part
use Rattle.run_loop.specs.declared.runs.ReadyRunner.{ReadyRunner}
use Rattle.run_loop.specs.declared.runs.Runs.{Runs}
use Rattle.run_loop.specs.Ending.{IsQuenched}
use Rattle.run_loop.specs.Parts.{ending_of, header_by, part_of, step_by_part}
use Rattle.run_loop.specs.Runs.{AreRuns, RunnersFit, arenas_of, roster_over, runners_in, state_of_runs}
use Rattle.run_loop.specs.Steps.{EventEnds, IsCutOff}
use Rattle.run_loop.proofs.Stepping.{StayRuns, instances_are, same_boards}

-- ---- Steps

told_alike : {A : Type 0} (r : Result A NodeFault) (h : Header) (tree : Tree) (number : ℕ) (notes : List Note) (calls : List Call) (s after : RunState) → told (ending_of r) h tree number notes calls s after ≡ told r h tree number notes calls s after
told_alike (Ok a) h tree number notes calls s after = refl
told_alike (Err f) h tree number notes calls s after = refl

-- the step of a runner's part
abbrev pub part_step : Part → Tree → World → ℕ → ℕ → RunState → Runner → Stepped
part_step p tree world number at s r = runner_step (header_by p number at) tree number at s (part_of p tree world number r.memory (state_of r s.facts at))

pub part_is : (p : Part) (tree : Tree) (world : World) (number at : ℕ) (s : RunState) (r : Runner) → runner_at s number ≡ Some r → part_step p tree world number at s r ≡ step_by_part p tree world number at s
part_is part.Tick tree world number at s r is =
    told_alike (ticked tree (root_view tree world) number r.memory (state_of r s.facts at)).answer (header.Tick number at) tree number _ _ s _
    ∙ ap (λ o. tick_step o tree world number at s) (sym is)
part_is part.Halt tree world number at s r is = ap (λ o. reset_step o (header.Halt number at) tree world number at s) (sym is)
part_is part.Finish tree world number at s r is = ap (λ o. reset_step o (header.Finish number at) tree world number at s) (sym is)

pub part_steady : (p : Part) (tree : Tree) (world : World) (number at : ℕ) (s : RunState) → RunSteady tree.term world.rows s → s.last ≤ at → RunSteady tree.term world.rows (step_by_part p tree world number at s).state
part_steady part.Tick tree world number at s steady ahead = step_steady tree world s steady at ahead (Tick number)
part_steady part.Halt tree world number at s steady ahead = step_steady tree world s steady at ahead (Halt number)
part_steady part.Finish tree world number at s steady ahead = reset_steady tree world s steady at ahead (header.Finish number at) number (runner_at s number) refl

-- ---- What holds between events

pub steady_after : (result : Result (Unit {0}) (Stop RunFault)) (tree : Tree) (world : World) (before after : List DriverState) (runs : Runs) (block : Block) (d : Stepped) →
    EventEnds result tree.term before after runs block d → RunSteady tree.term world.rows d.state → OnOk result (StayRuns tree world after runs) → OnOk result (AreRuns tree world after runs)
steady_after (Ok a) tree world before after runs block d ends steady stay = record {
  usable = stay.usable;
  fit = stay.fit;
  told = stay.told;
  steady = subst (λ (s : RunState). RunSteady tree.term world.rows s) (sym ends.1.state) steady;
}
steady_after (Err e) tree world before after runs block d ends steady stay = tt

-- ---- A change of a fact

-- with other facts, as many as before, the runners still fit
pub fit_facts : (tree : Tree) (world : World) (facts facts1 : List ℤ) (drivers : List DriverState) (rs : List ReadyRunner) → length facts1 ≡ length facts → RunnersFit tree world facts drivers rs → RunnersFit tree world facts1 drivers rs
fit_facts tree world facts facts1 drivers rs same fit = record {
  many = fit.many;
  each = λ k r at.
      let was = fit.each k r at in
      record {
        numbered = was.numbered;
        fits = record { stands = was.fits.stands; few = was.fits.few; marks = was.fits.marks; leaves = was.fits.leaves; slots = was.fits.slots; facts = same ∙ was.fits.facts };
        nodes = was.nodes;
        nobody = was.nobody;
        deep = was.deep;
      };
  apart = fit.apart;
  theirs = fit.theirs;
  many_facts = same ∙ fit.many_facts;
  few_facts = fit.few_facts;
  few_slots = fit.few_slots;
}

-- ---- Which event it is

pub runner_of_tick : (world : World) (what : What) (number : ℕ) → what ≡ Tick number → IsValidWhat world.facts world.runners what → (1 ≤ number) × (number ≤ world.runners)
runner_of_tick world what number is valid = subst (IsValidWhat world.facts world.runners) is valid

pub runner_of_halt : (world : World) (what : What) (number : ℕ) → what ≡ Halt number → IsValidWhat world.facts world.runners what → (1 ≤ number) × (number ≤ world.runners)
runner_of_halt world what number is valid = subst (IsValidWhat world.facts world.runners) is valid

-- a value of a valid event is one of 64 bits
pub value_is : (world : World) (what : What) (fact : ℕ) (value : ℤ) → what ≡ Change fact value → IsValidWhat world.facts world.runners what → cast_signed w64 (cast_unsigned w64 value) ≡ value
value_is world what fact value is valid = to_z-of_z w64 value (fits_from_int value (subst (IsValidWhat world.facts world.runners) is valid).1)

-- ---- A fact that has changed

module _ (tree : Tree) (world : World) (fact : ℕ) (value : ℤ) (at : ℕ) (drivers : List DriverState) (runs0 : Runs) (are : AreRuns tree world drivers runs0) (facts1 : List ℤ) (set_is : facts1 ≡ set runs0.facts fact value) (begun : Block)
    (header_is : begun.header ≡ header.Change fact value at) (no_notes : begun.notes.list ≡ []) (no_facts : begun.facts.items ≡ []) (no_entries : begun.entries.items ≡ []) where
  abbrev runs1 : Vec ℤ → Runs
  runs1 told = record { runners = runs0.runners; facts = facts1; told = told; last = at; usable = runs0.usable }

  abbrev s0 : RunState
  s0 = state_of_runs tree.term drivers runs0

  many_same : length facts1 ≡ length runs0.facts
  many_same = ap length set_is ∙ length-set runs0.facts fact value

  pub change_fits : RunnersFit tree world facts1 drivers runs0.runners.items
  change_fits = fit_facts tree world runs0.facts facts1 drivers runs0.runners.items many_same are.fit

  -- with this fact all facts are told
  all_told : set runs0.told.items fact value ≡ facts1
  all_told = ap (λ (xs : List ℤ). set xs fact value) are.told ∙ sym set_is

  -- the change was told
  pub change_told : (told : Vec ℤ) (block : Block) → block ≡ record begun { facts = block.facts } → block.facts.items ≡ begun.facts.items ++ changed_from 0 runs0.told.items (set runs0.told.items fact value) →
      EventEnds (Ok tt) tree.term drivers drivers (runs1 told) block (change_step fact value at s0)
  change_told told block rest changed = (
    refl,
    record {
      state = λ i. record { runners = runners_in tree.term drivers runs0.runners.items; facts = set_is i; last = at };
      shown = λ i. record {
        header = (ap (λ (b : Block). b.header) rest ∙ header_is) i;
        notes = (ap (λ (b : Block). b.notes.list) rest ∙ no_notes) i;
        facts = (changed ∙ (λ j. no_facts j ++ changed_from 0 (are.told j) ((all_told ∙ set_is) j))) i;
        entries = (ap (λ (b : Block). b.entries.items) rest ∙ no_entries ∙ sym (same_boards 1 (runners_in tree.term drivers runs0.runners.items))) i;
      };
      drivers = refl;
    },
  )

  pub change_stays : (told : Vec ℤ) → told.items ≡ set runs0.told.items fact value → StayRuns tree world drivers (runs1 told)
  change_stays told facts = record { usable = are.usable; fit = change_fits; told = facts ∙ all_told }

  -- there was want of memory
  pub change_cut : (told : Vec ℤ) (runs2 : Runs) (after : List DriverState) (n1 n2 : List Note) → n1 ≡ begun.notes.list → IsQuenched tree drivers after (runs1 told) runs2 n1 n2 → IsCutOff (arenas_of runs2) drivers after n2 (change_step fact value at s0)
  change_cut told runs2 after n1 n2 same q = record {
    told = [];
    untold = [];
    made = [];
    unmade = [];
    held = runners_in tree.term drivers runs0.runners.items;
    all_notes = refl;
    all_calls = refl;
    named = refl;
    before_fault = tt;
    instances = instances_are tree.term drivers runs0.runners.items ∙ ap (map (λ nodes. instances_of nodes drivers)) (sym q.arenas);
    noted = q.notes ∙ ap (λ xs. xs ++ quench_notes 1 (runners_in tree.term drivers runs0.runners.items)) (same ∙ no_notes);
    drivers = q.drivers ∙ ap (λ ns. roster_over ns (quench_calls 1 (runners_in tree.term drivers runs0.runners.items)) drivers) (sym q.arenas);
  }
