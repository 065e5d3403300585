-- Runs that were cut off: the first calls of the trace were made, and then all that is held was halted.
use Rattle.std.proofs.Common.{◌≡◌, ◌⊎◌, inl, inr, ℕ, ◌+◌, List, [], ◌∷◌, ◌++◌, Option, Some, None, Result, Ok, Err, length, refl, sym, ap, subst, ◌∙◌, append_assoc, append-nil, arith}
use Rattle.std.proofs.lemmas.Bool.{cases_eq, cases_lt}
use Rattle.std.proofs.lemmas.List.{get_or-set_same, get_or-set_other}
use Rattle.std.proofs.Math.Seq.{set_out}
use Rattle.base_texts.specs.declared.stop.Stop.{Stop}
use Rattle.base_texts.specs.declared.stop.Stop.TheVariants as stop
use Rattle.spec_run.specs.declared.block.Header.{Header}
use Rattle.spec_run.specs.declared.block.Header.TheVariants as header
use Rattle.spec_run.specs.declared.fault.NodeFault.{NodeFault}
use Rattle.spec_run.specs.declared.fault.RunFault.{RunFault}
use Rattle.spec_run.specs.declared.leaf.DriverKind.TheVariants as driver
use Rattle.spec_run.specs.declared.leaf.Instance.{Instance}
use Rattle.spec_run.specs.declared.leaf.Phase.{Phase}
use Rattle.spec_run.specs.declared.leaf.Phase.TheVariants as phase
use Rattle.spec_run.specs.declared.note.Note.{Note}
use Rattle.spec_tree.specs.declared.term.Term.{Term}
use Rattle.spec_tree.specs.declared.term.Tree.{Tree}
use Rattle.spec_world.specs.declared.world.World.{World}
use Rattle.spec_run.specs.Done.{Call}
use Rattle.spec_run.specs.Drivers.{DriverState, after_call, driver_at, new_driver, roster_called, roster_prepared}
use Rattle.spec_run.specs.Run.{RunState, Runner, RunnerCall, Stepped, Trace, before_rest, finish, releases, quench_calls, reset_step, root_reset, root_view, runner_at, runner_calls, state_of, then_rest, told, with_runner}
use Rattle.base_tables.specs.Sound.{begins, begun_calls}
use Rattle.run_laws.proofs.TermWork.{resets_make_none}
use Rattle.run_arena.specs.declared.block.Block.{Block}
use Rattle.run_arena.specs.declared.nodes.Node.{Node}
use Rattle.run_arena.specs.declared.nodes.ReadyLeaf.{ReadyLeaf}
use Rattle.run_arena.specs.Nodes.{leaf_at}
use Rattle.run_arena.specs.Rosters.{leaf_called}
use Rattle.run_loop.specs.declared.runs.Runs.{Runs}
use Rattle.run_loop.specs.Runs.{arenas_of, nodes_of_runner, roster_over}
use Rattle.run_loop.specs.Steps.{EventEnds}
use Rattle.spec_run.specs.Rosters.{IsSameRoster}
use Rattle.spec_run.specs.Served.{call_made, calls_made, instance_number, instances_wanted, place_called, roster_after_run, serving_places}
use Rattle.run_loop.proofs.Preparing.{prepared_same}
use Rattle.run_loop.proofs.Rising.{all_made_same, over_same, roster_both}
use Rattle.text_trace.specs.Halted.{IsCut, HaveHalted}
use Rattle.spec_output.specs.Cuts.{AreHalts, HasBegunWithin, HaveBegunWithin, IsCutOff}

pub over_both : (arenas : List (List Node)) (xs ys : List RunnerCall) (ds : List DriverState) → roster_over arenas (xs ++ ys) ds ≡ roster_over arenas ys (roster_over arenas xs ds)
over_both arenas [] ys ds = refl
over_both arenas (x ∷ xs) ys ds = over_both arenas xs ys _

-- ---- Calls that halt

halts_both : (xs ys : List RunnerCall) → AreHalts xs → AreHalts ys → AreHalts (xs ++ ys)
halts_both [] ys p q = q
halts_both (x ∷ xs) ys p q = (p.0, halts_both xs ys p.1 q)

halts_front : (xs ys : List RunnerCall) → AreHalts (xs ++ ys) → AreHalts xs
halts_front [] ys p = tt
halts_front (x ∷ xs) ys p = (p.0, halts_front xs ys p.1)

-- calls of one runner that begin nothing
none_begun : (runner : ℕ) (calls : List Call) → begun_calls calls ≡ 0 → AreHalts (runner_calls runner calls)
none_begun runner [] e = tt
none_begun runner (c ∷ calls) e = (halted_by c.phase (omega (arith, e)), none_begun runner calls (omega (arith, e))) where
  halted_by : (p : Phase) → begins p ≡ 0 → p ≡ phase.Halted
  halted_by phase.Halted z = refl
  halted_by phase.Start z = cc
  halted_by phase.Running z = cc
  halted_by phase.Told z = cc

releases_by : (uid : ℕ) (since : Option ℕ) (i : Instance) (is : List Instance) → i.since ≡ since → begun_calls (releases (uid + 1) is) ≡ 0 → begun_calls (releases uid (i ∷ is)) ≡ 0
releases_by uid (Some t) i is e rest =
    let more : 0 + begun_calls (releases (uid + 1) is) ≡ 0 = omega (arith, rest) in
    ap (λ (o : Option ℕ). begun_calls (releases uid (record { since = o; completions = i.completions; told = i.told; length = i.length; inputs = i.inputs } ∷ is))) e ∙ more
releases_by uid None i is e rest = ap (λ (o : Option ℕ). begun_calls (releases uid (record { since = o; completions = i.completions; told = i.told; length = i.length; inputs = i.inputs } ∷ is))) e ∙ rest

releases_begin : (uid : ℕ) (is : List Instance) → begun_calls (releases uid is) ≡ 0
releases_begin uid [] = refl
releases_begin uid (i ∷ is) = releases_by uid i.since i is refl (releases_begin (uid + 1) is)

quench_halts : (runner : ℕ) (rs : List Runner) → AreHalts (quench_calls runner rs)
quench_halts runner [] = tt
quench_halts runner (r ∷ rs) = halts_both (runner_calls runner (releases 0 r.instances)) (quench_calls (runner + 1) rs) (none_begun runner (releases 0 r.instances) (releases_begin 0 r.instances)) (quench_halts (runner + 1) rs)

-- a finish halts alone
told_halts : (answer : Result (Unit {0}) NodeFault) (h : Header) (tree : Tree) (runner : ℕ) (notes : List Note) (calls : List Call) (s after : RunState) → begun_calls calls ≡ 0 → AreHalts (told answer h tree runner notes calls s after).calls
told_halts (Ok a) h tree runner notes calls s after none = none_begun runner calls none
told_halts (Err f) h tree runner notes calls s after none = halts_both (runner_calls runner calls) (quench_calls 1 after.runners) (none_begun runner calls none) (quench_halts 1 after.runners)

reset_halts : (o : Option Runner) (h : Header) (tree : Tree) (world : World) (runner at : ℕ) (s : RunState) → AreHalts (reset_step o h tree world runner at s).calls
reset_halts None h tree world runner at s = tt
reset_halts (Some r) h tree world runner at s =
    let d = root_reset tree (root_view tree world) r.memory (state_of r s.facts at) in
    told_halts d.answer h tree runner d.notes d.calls s (with_runner s runner at d) (resets_make_none tree.term (root_view tree world) 1 r.memory (state_of r s.facts at))

pub finish_halts : (tree : Tree) (world : World) (runner : ℕ) (s : RunState) → AreHalts (finish tree world runner s).calls
finish_halts tree world runner s = reset_halts (runner_at s runner) (header.Finish runner s.last) tree world runner s.last s

-- ---- One event

-- what an event leaves of the drivers, whatever is answered: its first calls, and calls that halt
record Partly (arenas : List (List Node)) (before after : List DriverState) (d : Stepped) : Type 0 where
  made : List RunnerCall
  unmade : List RunnerCall
  halts : List RunnerCall
  all : made ++ unmade ≡ d.calls
  are : AreHalts halts
  drivers : after ≡ roster_over arenas (made ++ halts) before

wholly : (arenas : List (List Node)) (before after : List DriverState) (d : Stepped) → after ≡ roster_over arenas d.calls before → Partly arenas before after d
wholly arenas before after d drivers = record {
  made = d.calls;
  unmade = [];
  halts = [];
  all = append-nil d.calls;
  are = tt;
  drivers = drivers ∙ ap (λ (cs : List RunnerCall). roster_over arenas cs before) (sym (append-nil d.calls));
}

partly : (made : Result (Unit {0}) (Stop RunFault)) (term : Term) (before after : List DriverState) (runs : Runs) (block : Block) (d : Stepped) → EventEnds made term before after runs block d → Partly (arenas_of runs) before after d
partly (Ok done) term before after runs block d ends = wholly (arenas_of runs) before after d ends.1.drivers
partly (Err (stop.Fault fault)) term before after runs block d ends = wholly (arenas_of runs) before after d ends.1.drivers
partly (Err stop.NoMemory) term before after runs block d ends = elim ends [
  | inl cut ↦ record {
    made = cut.made;
    unmade = cut.unmade;
    halts = quench_calls 1 cut.held;
    all = cut.all_calls;
    are = quench_halts 1 cut.held;
    drivers = cut.drivers ∙ sym (over_both (arenas_of runs) cut.made (quench_calls 1 cut.held) before);
  }
  | inr told ↦ wholly (arenas_of runs) before after d told.drivers
]

-- the calls of a step are the first of a trace that begins with it
more_by : (fault : Option RunFault) (d : Stepped) (rest : RunState → Trace) → (more : List RunnerCall) × (d.calls ++ more ≡ (before_rest fault d rest).calls)
more_by None d rest = ((rest d.state).calls, refl)
more_by (Some fault) d rest = ([], append-nil d.calls)

module _ (made : Result (Unit {0}) (Stop RunFault)) (term : Term) (arenas : List (List Node)) (before after : List DriverState) (runs : Runs) (same : arenas_of runs ≡ arenas) (block : Block) (d : Stepped) (ends : EventEnds made term before after runs block d) where
  kept : Partly arenas before after d
  kept = subst (λ (x : List (List Node)). Partly x before after d) same (partly made term before after runs block d ends)

  -- a run is cut off in this event, or after it
  pub event_cut : (rest : RunState → Trace) → IsCut arenas before after (then_rest d rest)
  event_cut rest =
      let more : (more : List RunnerCall) × (d.calls ++ more ≡ (then_rest d rest).calls) = more_by d.fault d rest in
      record {
        made = kept.made;
        unmade = kept.unmade ++ more.0;
        halts = kept.halts;
        all = sym (append_assoc kept.made kept.unmade more.0) ∙ ap (λ (cs : List RunnerCall). cs ++ more.0) kept.all ∙ more.1;
        are = kept.are;
        drivers = kept.drivers;
      }

  -- an event that halts alone
  pub event_halts : AreHalts d.calls → HaveHalted arenas before after
  event_halts are = record {
    halts = kept.made ++ kept.halts;
    are = halts_both kept.made kept.halts (halts_front kept.made kept.unmade (subst AreHalts (sym kept.all) are)) kept.are;
    drivers = kept.drivers;
  }

-- ---- Parts of a run

pub halted_none : (arenas : List (List Node)) (drivers : List DriverState) → HaveHalted arenas drivers drivers
halted_none arenas drivers = record { halts = []; are = tt; drivers = refl }

pub halted_both : (arenas arenas1 : List (List Node)) (d0 d1 d2 : List DriverState) → arenas1 ≡ arenas → HaveHalted arenas d0 d1 → HaveHalted arenas1 d1 d2 → HaveHalted arenas d0 d2
halted_both arenas arenas1 d0 d1 d2 same p q = record {
  halts = p.halts ++ q.halts;
  are = halts_both p.halts q.halts p.are q.are;
  drivers = q.drivers ∙ ap (λ (x : List (List Node)). roster_over x q.halts d1) same ∙ ap (roster_over arenas q.halts) p.drivers ∙ sym (over_both arenas p.halts q.halts d0);
}

-- nothing was made
pub cut_none : (arenas : List (List Node)) (drivers : List DriverState) (trace : Trace) → IsCut arenas drivers drivers trace
cut_none arenas drivers trace = record { made = []; unmade = trace.calls; halts = []; all = refl; are = tt; drivers = refl }

-- after the calls of a part of a run
pub cut_after : (arenas arenas1 : List (List Node)) (d0 d1 d2 : List DriverState) (whole part : Trace) → arenas1 ≡ arenas → (made : List RunnerCall) → made ++ part.calls ≡ whole.calls → d1 ≡ roster_over arenas made d0 → IsCut arenas1 d1 d2 part → IsCut arenas d0 d2 whole
cut_after arenas arenas1 d0 d1 d2 whole part same made calls drivers q = record {
  made = made ++ q.made;
  unmade = q.unmade;
  halts = q.halts;
  all = append_assoc made q.made q.unmade ∙ ap (λ (cs : List RunnerCall). made ++ cs) q.all ∙ calls;
  are = q.are;
  drivers =
      q.drivers ∙ ap (λ (x : List (List Node)). roster_over x (q.made ++ q.halts) d1) same ∙ ap (roster_over arenas (q.made ++ q.halts)) drivers ∙ sym (over_both arenas made (q.made ++ q.halts) d0)
      ∙ ap (λ (cs : List RunnerCall). roster_over arenas cs d0) (sym (append_assoc made q.made q.halts));
}

-- in the middle of a run, whose first calls were made
pub cut_here : (arenas : List (List Node)) (before after : List DriverState) (whole rest : Trace) (made : List RunnerCall) → made ++ rest.calls ≡ whole.calls → after ≡ roster_over arenas made before → IsCut arenas before after whole
cut_here arenas before after whole rest made calls drivers = record {
  made = made;
  unmade = rest.calls;
  halts = [];
  all = calls;
  are = tt;
  drivers = drivers ∙ ap (λ (cs : List RunnerCall). roster_over arenas cs before) (sym (append-nil made));
}

-- before calls that halt
pub cut_before : (arenas arenas1 : List (List Node)) (d0 d1 d2 : List DriverState) (trace : Trace) → arenas1 ≡ arenas → IsCut arenas d0 d1 trace → HaveHalted arenas1 d1 d2 → IsCut arenas d0 d2 trace
cut_before arenas arenas1 d0 d1 d2 trace same p q = record {
  made = p.made;
  unmade = p.unmade;
  halts = p.halts ++ q.halts;
  all = p.all;
  are = halts_both p.halts q.halts p.are q.are;
  drivers =
      q.drivers ∙ ap (λ (x : List (List Node)). roster_over x q.halts d1) same ∙ ap (roster_over arenas q.halts) p.drivers ∙ sym (over_both arenas (p.made ++ p.halts) q.halts d0)
      ∙ ap (λ (cs : List RunnerCall). roster_over arenas cs d0) (append_assoc p.made p.halts q.halts);
}

-- ---- Totals

-- calls that halt are counted as no start and no running
module _ (ds : List DriverState) (place instance : ℕ) (left : Instance) where
  abbrev halted : List DriverState
  halted = roster_called ds place phase.Halted instance left

  one_driver : (other : ℕ) → (driver_at halted other ≡ driver_at ds other) ⊎ (driver_at halted other ≡ after_call (driver_at ds other) phase.Halted instance left)
  one_driver other = elim (cases_eq other place) [
    | inl same ↦ elim (cases_lt place (length ds)) [
      | inl there ↦ inr (subst (λ k. driver_at halted k ≡ after_call (driver_at ds k) phase.Halted instance left) (sym same) (get_or-set_same ds place (after_call (driver_at ds place) phase.Halted instance left) (new_driver driver.Condition) there))
      | inr beyond ↦ inl (ap (λ (xs : List DriverState). driver_at xs other) (set_out ds place (after_call (driver_at ds place) phase.Halted instance left) beyond))
    ]
    | inr apart ↦ inl (get_or-set_other ds place other (after_call (driver_at ds place) phase.Halted instance left) (new_driver driver.Condition) apart)
  ]

  halted_starts : (other : ℕ) → (driver_at halted other).totals.starts ≡ (driver_at ds other).totals.starts
  halted_starts other = elim (one_driver other) [ inl e ↦ ap (λ (d : DriverState). d.totals.starts) e | inr e ↦ ap (λ (d : DriverState). d.totals.starts) e ]

  halted_runnings : (other : ℕ) → (driver_at halted other).totals.runnings ≡ (driver_at ds other).totals.runnings
  halted_runnings other = elim (one_driver other) [ inl e ↦ ap (λ (d : DriverState). d.totals.runnings) e | inr e ↦ ap (λ (d : DriverState). d.totals.runnings) e ]

-- the two counts of a driver that rise as it begins
abbrev begun_of : List DriverState → ℕ → ℕ × ℕ
begun_of ds place = ((driver_at ds place).totals.starts, (driver_at ds place).totals.runnings)

leaf_begun : (found : Option ReadyLeaf) (call : Call) (ds : List DriverState) (place : ℕ) → call.phase ≡ phase.Halted → begun_of (leaf_called found call ds) place ≡ begun_of ds place
leaf_begun None call ds place is = refl
leaf_begun (Some leaf) call ds place is =
    ap (λ (p : Phase). begun_of (roster_called ds leaf.driver p leaf.instance call.left) place) is
    ∙ (λ i. (halted_starts ds leaf.driver leaf.instance call.left place i, halted_runnings ds leaf.driver leaf.instance call.left place i))

halts_begun : (arenas : List (List Node)) (calls : List RunnerCall) (ds : List DriverState) (place : ℕ) → AreHalts calls → begun_of (roster_over arenas calls ds) place ≡ begun_of ds place
halts_begun arenas [] ds place are = refl
halts_begun arenas (c ∷ calls) ds place are =
    let found = leaf_at (nodes_of_runner arenas c.runner) c.call.uid in
    halts_begun arenas calls (leaf_called found c.call ds) place are.1 ∙ leaf_begun found c.call ds place are.0

-- calls were made, then some that halt, and in the whole run others: no more was begun than in the whole run
begun_within : (before made after whole : List DriverState) (place : ℕ) → IsSameRoster before made → IsSameRoster made whole → begun_of after place ≡ begun_of made place
    → HasBegunWithin (driver_at before place).totals (driver_at after place).totals (driver_at whole place).totals
begun_within before made after whole place first then now =
    let starts_now : (driver_at after place).totals.starts ≡ (driver_at made place).totals.starts = ap (λ (p : ℕ × ℕ). p.0) now in
    let runnings_now : (driver_at after place).totals.runnings ≡ (driver_at made place).totals.runnings = ap (λ (p : ℕ × ℕ). p.1) now in
    record {
      starts = λ few. let a = (first.totals place).starts few in let b = (then.totals place).starts a.1 in omega (arith, starts_now, b.0);
      runnings = λ few. let a = (first.totals place).runnings few in let b = (then.totals place).runnings a.1 in omega (arith, runnings_now, b.0);
    }

-- drivers of a run that was cut off were asked to start and to go on no more often than in the whole run
pub cut_has_begun_within : (arenas : List (List Node)) (before after : List DriverState) (trace : Trace) → IsCut arenas before after trace → HaveBegunWithin before after (roster_over arenas trace.calls before)
cut_has_begun_within arenas before after trace cut place =
    let made : List DriverState = roster_over arenas cut.made before in
    let whole : roster_over arenas cut.unmade made ≡ roster_over arenas trace.calls before = sym (over_both arenas cut.made cut.unmade before) ∙ ap (λ (cs : List RunnerCall). roster_over arenas cs before) cut.all in
    begun_within before made after (roster_over arenas trace.calls before) place (over_same arenas cut.made before)
    (subst (IsSameRoster made) whole (over_same arenas cut.unmade made))
    (ap (λ (ds : List DriverState). begun_of ds place) (cut.drivers ∙ over_both arenas cut.made cut.halts before) ∙ halts_begun arenas cut.halts made place cut.are)

-- ---- Calls of a run of a tree in a world

module _ (runners : ℕ) (places : List (Option ℕ)) where
  made_both : (xs ys : List RunnerCall) (ds : List DriverState) → calls_made runners places (xs ++ ys) ds ≡ calls_made runners places ys (calls_made runners places xs ds)
  made_both [] ys ds = refl
  made_both (x ∷ xs) ys ds = made_both xs ys _

  call_begun : (found : Option ℕ) (c : RunnerCall) (ds : List DriverState) (place : ℕ) → c.call.phase ≡ phase.Halted → begun_of (call_made found places c ds) place ≡ begun_of ds place
  call_begun None c ds place is = refl
  call_begun (Some driver) c ds place is =
      let instance : ℕ = instance_number places c.runner driver c.call.uid in
      ap (λ (p : Phase). begun_of (roster_called ds driver p instance c.call.left) place) is
      ∙ (λ i. (halted_starts ds driver instance c.call.left place i, halted_runnings ds driver instance c.call.left place i))

  calls_begun : (calls : List RunnerCall) (ds : List DriverState) (place : ℕ) → AreHalts calls → begun_of (calls_made runners places calls ds) place ≡ begun_of ds place
  calls_begun [] ds place are = refl
  calls_begun (c ∷ calls) ds place are =
      let found = place_called runners places c in
      calls_begun calls (call_made found places c ds) place are.1 ∙ call_begun found c ds place are.0

-- .. and so were those of a run of which this is said by its tree and its world
pub cut_off_has_begun_within : (tree : Tree) (world : World) (calls : List RunnerCall) (old new : List DriverState) → IsCutOff tree world calls old new → HaveBegunWithin old new (roster_after_run tree world old calls)
cut_off_has_begun_within tree world calls old new cut place =
    let places : List (Option ℕ) = serving_places tree world old in
    let prepared : List DriverState = roster_prepared old (instances_wanted tree world old) in
    let made : List DriverState = calls_made world.runners places cut.made prepared in
    let whole : calls_made world.runners places cut.unmade made ≡ roster_after_run tree world old calls =
    sym (made_both world.runners places cut.made cut.unmade prepared) ∙ ap (λ (cs : List RunnerCall). calls_made world.runners places cs prepared) cut.all in
    begun_within old made new (roster_after_run tree world old calls) place
    (roster_both old prepared made (prepared_same old (instances_wanted tree world old)) (all_made_same world.runners places cut.made prepared))
    (subst (IsSameRoster made) whole (all_made_same world.runners places cut.unmade made))
    (ap (λ (ds : List DriverState). begun_of ds place) (cut.drivers ∙ made_both world.runners places cut.made cut.halts prepared)
    ∙ calls_begun world.runners places cut.halts made place cut.are)
