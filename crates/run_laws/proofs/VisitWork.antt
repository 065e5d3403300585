-- A visit of a node makes no more calls of start and running than its work counts, and a reset makes none.
use Rattle.std.proofs.Common.{◌≡◌, ℕ, ◌+◌, ◌*◌, ◌≤◌, List, map, Bool, true, false, Option, Some, None, IfOk, Result, Ok, Err, IsTrue, refl, ap, arith}
use Rattle.spec_script.specs.declared.syntax.Script.{Script}
use Rattle.spec_run.specs.declared.fault.NumericPort.{NumericPort}
use Rattle.spec_run.specs.declared.memory.Memo.{Memo}
use Rattle.spec_run.specs.declared.memory.Memory.{Memory, out-Memory}
use Rattle.spec_run.specs.declared.moves.Span.TheVariants as span
use Rattle.spec_run.specs.declared.status.Answer.{Answer}
use Rattle.spec_run.specs.declared.status.Answer.TheVariants as answer
use Rattle.spec_run.specs.declared.status.Status.{Status}
use Rattle.spec_run.specs.declared.status.Status.TheVariants as status
use Rattle.spec_tree.specs.declared.term.Kind.{Kind}
use Rattle.spec_tree.specs.declared.term.Kind.TheVariants.{AlwaysSuccess, AlwaysFailure, ScriptNode, ScriptCondition, Leaf}
use Rattle.spec_tree.specs.declared.term.Term.{Term-F}
use Rattle.spec_world.specs.declared.world.Row.{Row}
use Rattle.spec_run.specs.Done.{Done, State, done, ends, follow}
use Rattle.spec_run.specs.Leaves.{gives, leaf_call, phase_of, row_of, script_condition, script_node}
use Rattle.spec_run.specs.Ports.{new_memo}
use Rattle.spec_run.specs.NodeScripts.{answers_where, goes_on, goes_on_by, guard, guards_answer, posts, script_holds, script_if_there, script_run, truth_of}
use Rattle.base_tables.specs.Shapes.{is_running}
use Rattle.spec_run.specs.Sites.{Site, View, children_of, remembered, view_below}
use Rattle.base_tables.specs.Sound.{begins, begun_calls, statuses}
use Rattle.spec_run.specs.Steps.{Given, resets}
use Rattle.spec_tree.specs.Terms.{once_more, times_of}
use Rattle.spec_tree.specs.Trees.{ports_fit}
use Rattle.spec_run.specs.Visit.{begun, cleared, continued, ended, guarded, halt, halt_calls, halt_state, halted, node_rule, or_bad_port, remembers, reset_by, ruled, started, starts, visit_by}
use Rattle.run_laws.proofs.Children.{Family, SoundAll, status_in}
use Rattle.spec_tree.specs.BuiltIns.{has_rule}
use Rattle.run_laws.proofs.Beginnings.{Begins, site_here}
use Rattle.run_laws.proofs.Scripts.{goes_on_leaves, guards_leave}
use Rattle.run_laws.proofs.Whole.{NodeKeeps, Own}
use Rattle.run_laws.proofs.AfterScripts.{Still, fields_still}
use Rattle.run_laws.proofs.NodeRules.{Ready}
use Rattle.run_laws.proofs.Visits.{new_begins, ready_kept, ready_new, ready_running, rests_as_well, starts_with_rule}
use Rattle.run_laws.proofs.Shares.{whole}
use Rattle.run_laws.proofs.Spending.{Labour, ResetsAreFree, Spends, begun_both, follow_free, follow_with, span_spends}
use Rattle.run_laws.proofs.KindWork.{kind_rule_spends}

-- ---- Scripts make none

module _ (site : Site) where
  holds_free : (script : Script) (s : State) → Spends 0 (script_holds site script s)
  holds_free script s =
      follow_free (script_run site script s) (λ _. tt) (λ value _ s1. ends (truth_of site.uid value) tt s1) (omega arith) (λ value. omega arith)

  if_there_free : (script : Option Script) (s : State) → Spends 0 (script_if_there site script s)
  if_there_free None s = omega arith
  if_there_free (Some script) s = follow_free (script_run site script s) (λ _. tt) (λ value _ s1. done tt tt s1) (omega arith) (λ value. omega arith)

  answers_free : (truth : Bool) (a : Answer) (next : State → Done (Option Answer) (Unit {0})) (b : Bool) (s : State) → Spends 0 (next s) → Spends 0 (answers_where truth a next b s)
  answers_free true a next true s goes = omega arith
  answers_free false a next false s goes = omega arith
  answers_free true a next false s goes = goes
  answers_free false a next true s goes = goes

  guard_free : (script : Option Script) (truth : Bool) (a : Answer) (next : State → Done (Option Answer) (Unit {0})) → ((s : State) → Spends 0 (next s)) → (s : State) → Spends 0 (guard site script truth a next s)
  guard_free None truth a next goes s = goes s
  guard_free (Some script) truth a next goes s =
      let d : Done Bool (Unit {0}) = script_holds site script s in
      follow_free d (λ _. tt) (λ b _ s1. answers_where truth a next b s1) (holds_free script s) (λ b. answers_free truth a next b d.state (goes d.state))

  guards_free : (s : State) → Spends 0 (guards_answer site s)
  guards_free =
      guard_free site.node.guards.failure_if true answer.Failure _
      (guard_free site.node.guards.success_if true answer.Success _
      (guard_free site.node.guards.skip_if true answer.Skipped _
      (guard_free site.node.guards.while_true false answer.Skipped (λ s1. done None tt s1) (λ s1. omega arith))))

  goes_on_free_by : (script : Option Script) (s : State) → Spends 0 (goes_on_by site script s)
  goes_on_free_by None s = omega arith
  goes_on_free_by (Some script) s = holds_free script s

  two_free : (one other : Option Script) (s : State) → Spends 0 (follow (script_if_there site one s) (λ _. tt) (λ _ _ s1. script_if_there site other s1))
  two_free one other s =
      let d : Done (Unit {0}) (Unit {0}) = script_if_there site one s in
      follow_free d (λ _. tt) (λ _ _ s1. script_if_there site other s1) (if_there_free one s) (λ _. if_there_free other d.state)

  posts_free : (a : Answer) (s : State) → Spends 0 (posts site a s)
  posts_free answer.Running s = omega arith
  posts_free answer.Skipped s = omega arith
  posts_free answer.Success s = two_free site.node.guards.on_success site.node.guards.post s
  posts_free answer.Failure s = two_free site.node.guards.on_failure site.node.guards.post s

  -- the end of a visit makes no such call either
  ended_free : (old : Status) (g : Given) (ms : List Memory) (s : State) → Spends 0 (ended site old g ms s)
  ended_free old g ms s = follow_free (posts site g.answer s) (λ _. remembered old g.memo ms) _ (posts_free g.answer s) (λ _. omega arith)

-- ---- Nodes without children

one_call : (st : Status) → begins (phase_of st) ≤ 1
one_call status.Running = omega arith
one_call status.Idle = omega arith
one_call status.Success = omega arith
one_call status.Failure = omega arith

leaf_spends : (row : Option Row) (site : Site) (st : Status) (ms : List Memory) (s : State) → Spends 1 (leaf_call row site st ms s)
leaf_spends None site st ms s = omega arith
leaf_spends (Some row) site st ms s = omega (arith, one_call st)

script_node_free : (code : Option Script) (site : Site) (ms : List Memory) (s : State) → Spends 0 (script_node code site ms s)
script_node_free None site ms s = omega arith
script_node_free (Some code) site ms s = follow_free (script_run site code s) (λ _. ms) (λ value _ s1. gives answer.Success ms s1) (omega arith) (λ value. omega arith)

script_condition_free : (code : Option Script) (site : Site) (ms : List Memory) (s : State) → Spends 0 (script_condition code site ms s)
script_condition_free None site ms s = omega arith
script_condition_free (Some code) site ms s = follow_free (script_holds site code s) (λ _. ms) _ (holds_free site code s) (λ b. omega arith)

-- ---- A halt

halt_calls_free : (kind : Kind) (uid : ℕ) (s : State) → begun_calls (halt_calls kind uid s) ≤ 0
halt_calls_free Leaf uid s = omega arith
halt_calls_free _ uid s = omega arith

module _ (F : Family) (node : Term-F F.Child) (free : ResetsAreFree F) (view : View) (uid : ℕ) where
  abbrev here : Site
  here = site_here F node view uid

  halted_free : (idle : Memory) (s : State) → Spends 0 (halted here idle s)
  halted_free idle s =
      let freed : State = halt_state node.kind uid s in
      let d : Done (Unit {0}) Memory = follow (script_if_there here node.guards.on_halted freed) (λ _. idle) (λ _ _ s1. done tt idle s1) in
      let script : Spends 0 d = follow_free (script_if_there here node.guards.on_halted freed) (λ _. idle) (λ _ _ s1. done tt idle s1) (if_there_free here node.guards.on_halted freed) (λ _. omega arith) in
      omega (arith, script, halt_calls_free node.kind uid s, begun_both (halt_calls node.kind uid s) d.calls)

  halt_free : (m : Memory) (s : State) → Spends 0 (halt here m s)
  halt_free m s =
      let d : Done (Unit {0}) (List Memory) = resets span.All (children_of here) 0 (out-Memory m).children s in
      follow_free d (λ ms. remembered status.Running (out-Memory m).memo ms) (λ _ ms s1. halted here (remembered status.Idle (cleared (out-Memory m).memo) ms) s1)
      (span_spends F free (view_below here) node.children (uid + 1) span.All (out-Memory m).children s) (λ _. halted_free (remembered status.Idle (cleared (out-Memory m).memo) d.memory) d.state)

  -- a reset makes no such call
  pub reset_free : (st : Status) (m : Memory) (s : State) → Spends 0 (reset_by st here m s)
  reset_free status.Running m s = halt_free m s
  reset_free status.Idle m s = omega arith
  reset_free status.Success m s = omega arith
  reset_free status.Failure m s = omega arith

-- ---- A visit

module _ (F : Family) (node : Term-F F.Child) (L : Labour F node.children) (view : View) (uid : ℕ) (fit : IsTrue (ports_fit node.kind node.ports)) where
  abbrev site : Site
  site = site_here F node view uid

  abbrev rounds : ℕ
  rounds = times_of node.kind node.ports * whole L.work node.children + once_more node.kind (map L.work node.children)

  abbrev All : Option ℕ → List Memory → State → Type 0
  All f ms s = SoundAll F view.rows node.children f (uid + 1) ms s

  abbrev Holds : Option ℕ → Memory → State → Type 0
  Holds f m s = Own F node view uid f m s

  node_rule_spends : (st : Status) (memo : Memo) (ms : List Memory) (s : State) (kind : Kind) → node.kind ≡ kind → Ready F node view uid node.kind st memo ms s → All None ms s →
      Spends (1 + rounds) (node_rule kind site st memo ms s)
  node_rule_spends st memo ms s Leaf is ready all = omega (arith, leaf_spends (row_of view.rows node.id) site st ms s)
  node_rule_spends st memo ms s ScriptNode is ready all = omega (arith, script_node_free node.code site ms s)
  node_rule_spends st memo ms s ScriptCondition is ready all = omega (arith, script_condition_free node.code site ms s)
  node_rule_spends st memo ms s AlwaysSuccess is ready all = omega arith
  node_rule_spends st memo ms s AlwaysFailure is ready all = omega arith
  node_rule_spends st memo ms s kind is ready all = omega (arith, kind_rule_spends F node L view uid memo ms s all (ready.begins (ap has_rule is)) fit)

  ruled_spends : (st : Status) (memo : Memo) (ms : List Memory) (s : State) → Ready F node view uid node.kind st memo ms s → All None ms s → Spends (1 + rounds) (ruled site st memo ms s)
  ruled_spends st memo ms s ready all =
      let d : Done Given (List Memory) = node_rule node.kind site st memo ms s in
      follow_with (1 + rounds) 0 (1 + rounds) d (λ ms1. remembered st memo ms1) (λ g ms1 s1. ended site st g ms1 s1) (omega arith)
      (node_rule_spends st memo ms s node.kind refl ready all) (λ g. ended_free site st g d.memory d.state)

  -- the memo of a start is new, or a port is bad
  started_by_spends : (m : Memory) (s : State) (r : Result Memo NumericPort) → has_rule node.kind ≡ true → IfOk r (λ memo. Begins node.kind node.ports s.moment memo (statuses (out-Memory m).children)) →
      NodeKeeps F node view uid status.Idle (out-Memory m).memo (out-Memory m).children s → All None (out-Memory m).children s →
      Spends (1 + rounds) (follow (ends (or_bad_port uid r) (out-Memory m).children s) (λ ms. remembered status.Running (out-Memory m).memo ms) (λ memo ms s1. ruled site status.Running memo ms s1))
  started_by_spends m s (Ok memo) has begins own all = ruled_spends status.Running memo (out-Memory m).children s (ready_new F node view uid memo m s has begins own) all
  started_by_spends m s (Err port) has begins own all = omega arith

  started_spends : (m : Memory) (s : State) → starts node.kind (out-Memory m).memo ≡ true → is_running (status_in m) ≡ false → Holds None m s → Spends (1 + rounds) (started site m s)
  started_spends m s is rests sound =
      let has : has_rule node.kind ≡ true = starts_with_rule node.kind (out-Memory m).memo is in
      let own : NodeKeeps F node view uid status.Idle (out-Memory m).memo (out-Memory m).children s = rests_as_well F node view uid (status_in m) status.Idle (out-Memory m).memo (out-Memory m).children s rests refl sound.0 in
      started_by_spends m s (new_memo node.kind site (remembers (status_in m) (out-Memory m).memo) s) has (new_begins F node view uid m s has own sound.1) own sound.1

  begun_spends : (b : Bool) (m : Memory) (s : State) → starts node.kind (out-Memory m).memo ≡ b → is_running (status_in m) ≡ false → Holds None m s → Spends (1 + rounds) (begun b site m s)
  begun_spends true m s is rests sound = started_spends m s is rests sound
  begun_spends false m s is rests sound = ruled_spends (status_in m) (out-Memory m).memo (out-Memory m).children s (ready_kept F node view uid m s is rests sound) sound.1

  guarded_spends : (o : Option Answer) (m : Memory) (s : State) → is_running (status_in m) ≡ false → Holds None m s → Spends (1 + rounds) (guarded o site m s)
  guarded_spends (Some a) m s rests sound =
      let g : Given = record { answer = a; memo = remembers (status_in m) (out-Memory m).memo } in
      omega (arith, ended_free site (status_in m) g (out-Memory m).children s)
  guarded_spends None m s rests sound = begun_spends (starts node.kind (out-Memory m).memo) m s refl rests sound

  -- where only scripts have run, the node is as it was
  as_it_was : {s s1 : State} (m : Memory) → Still s s1 → Holds None m s → Holds None m s1
  as_it_was m still sound = fields_still still F node view uid None (status_in m) (out-Memory m).memo (out-Memory m).children sound

  rests_spend : (m : Memory) (s : State) → is_running (status_in m) ≡ false → Holds None m s → Spends (1 + rounds) (follow (guards_answer site s) (λ _. m) (λ a _ s1. guarded a site m s1))
  rests_spend m s rests sound =
      let d : Done (Option Answer) (Unit {0}) = guards_answer site s in
      let still : Still s d.state = record { instances = (guards_leave site s).sound; moment = (guards_leave site s).within.moment } in
      follow_with 0 (1 + rounds) (1 + rounds) d (λ _. m) (λ a _ s1. guarded a site m s1) (omega arith) (guards_free site s) (λ a. guarded_spends a m d.state rests (as_it_was m still sound))

  continued_spends : (b : Bool) (m : Memory) (s : State) → status_in m ≡ status.Running → Holds None m s → Spends (1 + rounds) (continued b site m s)
  continued_spends true m s is sound = ruled_spends status.Running (out-Memory m).memo (out-Memory m).children s (ready_running F node view uid m s is sound) sound.1
  continued_spends false m s is sound =
      let d : Done (Unit {0}) Memory = halt site m s in
      follow_with 0 0 (1 + rounds) d (λ m1. m1) (λ _ m1 s1. done answer.Skipped m1 s1) (omega arith) (halt_free F node L.reset view uid m s) (λ _. omega arith)

  runs_spend : (m : Memory) (s : State) → status_in m ≡ status.Running → Holds None m s → Spends (1 + rounds) (follow (goes_on site s) (λ _. m) (λ b _ s1. continued b site m s1))
  runs_spend m s is sound =
      let d : Done Bool (Unit {0}) = goes_on site s in
      let still : Still s d.state = record { instances = (goes_on_leaves site s).sound; moment = (goes_on_leaves site s).within.moment } in
      follow_with 0 (1 + rounds) (1 + rounds) d (λ _. m) (λ b _ s1. continued b site m s1) (omega arith) (goes_on_free_by site node.guards.while_true s) (λ b. continued_spends b m d.state is (as_it_was m still sound))

  visit_by_spends : (st : Status) (m : Memory) (s : State) → status_in m ≡ st → Holds None m s → Spends (1 + rounds) (visit_by st site m s)
  visit_by_spends status.Running m s is sound = runs_spend m s is sound
  visit_by_spends status.Idle m s is sound = rests_spend m s (ap is_running is) sound
  visit_by_spends status.Success m s is sound = rests_spend m s (ap is_running is) sound
  visit_by_spends status.Failure m s is sound = rests_spend m s (ap is_running is) sound

  -- a visit makes one call at most in addition to those of the visits of the children
  pub visit_spends : (m : Memory) (s : State) → Holds None m s → Spends (1 + rounds) (visit_by (out-Memory m).status site m s)
  visit_spends m s sound = visit_by_spends (status_in m) m s refl sound
