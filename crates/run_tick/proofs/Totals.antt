-- A visit makes no more calls of start and running than its work.
use Rattle.std.proofs.Common.{◌≡◌, ℕ, ◌+◌, ◌≤◌, List, [], ◌∷◌, ◌++◌, length, slice_set, Option, Some, None, Result, Ok, Err, ap, arith, ⊎_elim}
use Rattle.std.proofs.Math.Nat.{min-le_left}
use Rattle.std.proofs.lemmas.Bool.{cases_lt}
use Rattle.std.proofs.lemmas.List.{set_past}
use Rattle.std.proofs.lemmas.List.Sums.{sum_by-set}
use Rattle.std.specs.List.{AllByRecursion}
use Rattle.base_texts.specs.declared.stop.Stop.{Stop}
use Rattle.base_texts.specs.declared.stop.Stop.TheVariants as stop
use Rattle.spec_run.specs.declared.fault.NodeFault.{NodeFault}
use Rattle.spec_run.specs.declared.leaf.DriverKind.TheVariants as driver
use Rattle.spec_run.specs.declared.leaf.Instance.{Instance}
use Rattle.spec_run.specs.declared.leaf.Phase.{Phase}
use Rattle.spec_run.specs.declared.leaf.Phase.TheVariants as phase
use Rattle.spec_run.specs.declared.leaf.Totals.{Totals}
use Rattle.spec_run.specs.declared.note.Note.{Note}
use Rattle.spec_run.specs.declared.status.Answer.{Answer}
use Rattle.spec_tree.specs.declared.term.Term.{Term}
use Rattle.spec_run.specs.Done.{Call, Done}
use Rattle.spec_run.specs.Drivers.{DriverState, after_call, counted, driver_at, new_driver, raised, roster_called}
use Rattle.spec_run.specs.Sites.{View}
use Rattle.base_tables.specs.Sound.{begins, begun_calls}
use Rattle.spec_tree.specs.Terms.{work_of}
use Rattle.base_tables.specs.Runnable.{NodeRuns}
use Rattle.spec_tree.specs.Trees.{nodes_of}
use Rattle.run_arena.specs.declared.nodes.Kept.{Kept}
use Rattle.run_arena.specs.declared.nodes.Node.{Node}
use Rattle.run_arena.specs.declared.nodes.ReadyLeaf.{ReadyLeaf}
use Rattle.run_arena.specs.Ends.{Meets}
use Rattle.run_arena.specs.Nodes.{leaf_at}
use Rattle.run_arena.specs.Rosters.{leaf_called, roster_after}
use Rattle.run_arena.specs.declared.stage.Stage.{Stage}
use Rattle.run_arena.specs.Scenes.{Scene}
use Rattle.run_arena.specs.Stages.{MeetsOn, scene_on, state_on}
use Rattle.run_arena.specs.Stands.{memory_of}
use Rattle.run_laws.proofs.Spending.{begun_both}
use Rattle.run_laws.proofs.TermWork.{term_bounded}
use Rattle.run_tick.specs.Turns.{CanVisitOn, visit_on}
use Rattle.run_tick.specs.Work.{begun_by}

abbrev begun_one : DriverState → ℕ
begun_one d = d.totals.starts + d.totals.runnings

raised_most : (n : ℕ) → raised n ≤ n + 1
raised_most n = min-le_left (n + 1) _

counted_most : (t : Totals) (ph : Phase) (instance : ℕ) → (counted t ph instance).starts + (counted t ph instance).runnings ≤ t.starts + t.runnings + begins ph
counted_most t phase.Start instance = omega (arith, raised_most t.starts)
counted_most t phase.Running instance = omega (arith, raised_most t.runnings)
counted_most t phase.Halted instance = omega arith
counted_most t phase.Told instance = omega arith

called_most : (ds : List DriverState) (place : ℕ) (ph : Phase) (instance : ℕ) (left : Instance) → begun_by (roster_called ds place ph instance left) ≤ begun_by ds + begins ph
called_most ds place ph instance left =
    let d : DriverState = driver_at ds place in
    let after : DriverState = after_call d ph instance left in
    let more : begun_one after ≤ begun_one d + begins ph = counted_most d.totals ph instance in
    ⊎_elim
    (λ within. let sum = sum_by-set begun_one ds place after (new_driver driver.Condition) within in omega (arith, sum, more))
    (λ past. let same : begun_by (slice_set ds place after) ≡ begun_by ds = ap (λ (x : List DriverState). begun_by x) (set_past ds place after past) in omega (arith, same))
    (cases_lt place (length ds))

leaf_most : (o : Option ReadyLeaf) (call : Call) (ds : List DriverState) → begun_by (leaf_called o call ds) ≤ begun_by ds + begins call.phase
leaf_most (Some leaf) call ds = called_most ds leaf.driver call.phase leaf.instance call.left
leaf_most None call ds = omega arith

after_most : (nodes : List Node) (calls : List Call) (ds : List DriverState) → begun_by (roster_after nodes calls ds) ≤ begun_by ds + begun_calls calls
after_most nodes [] ds = omega arith
after_most nodes (c ∷ cs) ds = omega (arith, after_most nodes cs (leaf_called (leaf_at nodes c.uid) c ds), leaf_most (leaf_at nodes c.uid) c ds)

-- the totals rise by no more than the calls of the definition, whatever the answer
totals_most : {M : Type 0} (nodes : List Node) (moment : ℕ) (memory : List Kept → M) (r : Result Answer (Stop NodeFault)) (s s1 : Scene) (n0 n1 : List Note) (d : Done Answer M) (work : ℕ) →
    begun_calls d.calls ≤ work → Meets nodes moment memory r s s1 n0 n1 d → begun_by s1.drivers ≤ begun_by s.drivers + work
totals_most nodes moment memory (Ok a) s s1 n0 n1 d work most m =
    let after : begun_by s1.drivers ≡ begun_by (roster_after nodes d.calls s.drivers) = ap (λ (x : List DriverState). begun_by x) m.0.drivers in
    omega (arith, most, after, after_most nodes d.calls s.drivers)
totals_most nodes moment memory (Err (stop.Fault f)) s s1 n0 n1 d work most m =
    let after : begun_by s1.drivers ≡ begun_by (roster_after nodes d.calls s.drivers) = ap (λ (x : List DriverState). begun_by x) m.drivers in
    omega (arith, most, after, after_most nodes d.calls s.drivers)
totals_most nodes moment memory (Err stop.NoMemory) s s1 n0 n1 d work most m =
    let after : begun_by s1.drivers ≡ begun_by (roster_after nodes m.made s.drivers) = ap (λ (x : List DriverState). begun_by x) m.drivers in
    let all : begun_calls (m.made ++ m.unmade) ≡ begun_calls d.calls = ap begun_calls m.all_calls in
    omega (arith, most, after, after_most nodes m.made s.drivers, all, begun_both m.made m.unmade)

-- of a visit on a stage, by the work of the tree
pub spent_on : {D P : Type 0} (states : D → List DriverState) (old new : Stage D P) (r : Result Answer (Stop NodeFault)) (term : Term) (view : View) → CanVisitOn states old 1 term view → AllByRecursion NodeRuns (nodes_of term) →
    MeetsOn states (memory_of term 1) r old new (visit_on states old 1 term view) → begun_by (states new.drivers.now) ≤ begun_by (states old.drivers.now) + work_of term
spent_on states old new r term view can fit m =
    totals_most old.nodes.now old.moment (memory_of term 1) r (scene_on states old) (scene_on states new) old.notes.now.list new.notes.now.list (visit_on states old 1 term view) (work_of term)
    ((term_bounded term).visit fit view 1 (memory_of term 1 old.kept.now) (state_on states old) can.sound) m
