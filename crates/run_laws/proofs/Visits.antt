-- A visit of a node keeps the rules of states.
use Rattle.std.proofs.Common.{◌≡◌, ℕ, ◌+◌, List, [], Bool, true, false, length, Option, Some, None, IfOk, Result, Ok, Err, refl, sym, ap, subst, ◌∙◌, arith}
use Rattle.std.proofs.lemmas.List.{length-map}
use Rattle.spec_run.specs.declared.fault.NumericPort.{NumericPort}
use Rattle.spec_run.specs.declared.memory.Memo.{Memo}
use Rattle.spec_run.specs.declared.memory.Memo.TheVariants.{Pace as Paced}
use Rattle.spec_run.specs.declared.memory.Memory.{Memory, out-Memory}
use Rattle.spec_run.specs.declared.status.Answer.{Answer}
use Rattle.spec_run.specs.declared.status.Answer.TheVariants as answer
use Rattle.spec_run.specs.declared.status.Status.{Status}
use Rattle.spec_run.specs.declared.status.Status.TheVariants as status
use Rattle.spec_tree.specs.declared.term.Kind.{Kind}
use Rattle.spec_tree.specs.declared.term.Kind.TheVariants.{RateController, RunOnce}
use Rattle.spec_tree.specs.declared.term.Port.{Port}
use Rattle.spec_tree.specs.declared.term.Term.{Term-F}
use Rattle.spec_world.specs.declared.world.Row.{Row}
use Rattle.spec_run.specs.Done.{Done, State, following, done, ends, follow}
use Rattle.spec_run.specs.Leaves.{row_of}
use Rattle.spec_run.specs.Ports.{new_memo}
use Rattle.spec_run.specs.NodeScripts.{goes_on, guards_answer, posts}
use Rattle.base_tables.specs.Shapes.{RestingShape, Shape, is_running}
use Rattle.spec_run.specs.Sites.{Site, View, remembered}
use Rattle.base_tables.specs.Sound.{Leaves, NodeRule, statuses}
use Rattle.spec_run.specs.Steps.{Given}
use Rattle.spec_run.specs.Visit.{begun, change, continued, ended, guarded, halt, node_rule, or_bad_port, remembers, ruled, started, starts, status_of, visit_by}
use Rattle.run_laws.proofs.Parts.{follow_leaves, within_same}
use Rattle.run_laws.proofs.Children.{Family, SoundAll, all_move, status_in, status_kept}
use Rattle.run_laws.proofs.Acts.{as_many_statuses}
use Rattle.spec_tree.specs.BuiltIns.{has_rule}
use Rattle.run_laws.proofs.Beginnings.{Begins, site_here}
use Rattle.run_laws.proofs.KindRules.{kept_begins, running_begins, starts_begin}
use Rattle.run_laws.proofs.Scripts.{Rests, goes_on_leaves, guards_leave, posts_leave}
use Rattle.run_laws.proofs.Whole.{Answers, NodeKeeps, Own, as_kept, on_path, size_here}
use Rattle.run_laws.proofs.AfterScripts.{after_scripts, children_still, fields_still}
use Rattle.run_laws.proofs.NodeRules.{Ready, node_rule_leaves, rests_free, rule_free}

-- ---- A node that is not RUNNING

pub resting_shape : (st : Status) (kind : Kind) (ports : List Port) (row : Option Row) (moment : ℕ) (memo : Memo) (ss : List Status) → is_running st ≡ false → Shape st kind ports row moment memo ss → RestingShape ports moment memo kind ss
resting_shape status.Running kind ports row moment memo ss rests shape = cc
resting_shape status.Idle kind ports row moment memo ss rests shape = shape
resting_shape status.Success kind ports row moment memo ss rests shape = shape
resting_shape status.Failure kind ports row moment memo ss rests shape = shape

shape_rests : (st : Status) (kind : Kind) (ports : List Port) (row : Option Row) (moment : ℕ) (memo : Memo) (ss : List Status) → is_running st ≡ false → RestingShape ports moment memo kind ss → Shape st kind ports row moment memo ss
shape_rests status.Running kind ports row moment memo ss rests shape = cc
shape_rests status.Idle kind ports row moment memo ss rests shape = shape
shape_rests status.Success kind ports row moment memo ss rests shape = shape
shape_rests status.Failure kind ports row moment memo ss rests shape = shape

-- what a node remembers is a memo of a node that is not RUNNING
pub remembered_shape : (st : Status) (ports : List Port) (moment : ℕ) (memo : Memo) (kind : Kind) (ss : List Status) → RestingShape ports moment memo kind ss → RestingShape ports moment (remembers st memo) kind ss
remembered_shape status.Idle ports moment (Paced p) RateController ss shape = shape.2
remembered_shape status.Idle ports moment (Paced p) _ ss shape = absurd shape
remembered_shape _ ports moment _ kind ss shape = shape

-- a node that starts has children
pub starts_with_rule : (kind : Kind) (memo : Memo) → starts kind memo ≡ true → has_rule kind ≡ true
starts_with_rule RunOnce memo e = refl
starts_with_rule _ memo e = e

not_both : {b : Bool} → b ≡ true → b ≡ false → ⊥
not_both is_true is_false = cc

module _ (F : Family) (node : Term-F F.Child) (view : View) (uid : ℕ) where
  abbrev here : Site
  here = site_here F node view uid

  abbrev size : ℕ
  size = size_here F node view uid

  abbrev row : Option Row
  row = row_of view.rows node.id

  abbrev All : Option ℕ → List Memory → State → Type 0
  All f ms s = SoundAll F view.rows node.children f (uid + 1) ms s

  abbrev Keeps : Status → Memo → List Memory → State → Type 0
  Keeps st memo ms s = NodeKeeps F node view uid st memo ms s

  abbrev Holds : Option ℕ → Memory → State → Type 0
  Holds f m s = Own F node view uid f m s

  -- a visit keeps the rules of the node and of all below it, and its answer is the node's status
  abbrev pub Visited : State → Done Answer Memory → Type 0
  Visited s d = Leaves Holds (Answers F node view uid) uid size s d

  -- what holds at one status that is not RUNNING holds at another
  pub rests_as_well : (st st1 : Status) (memo : Memo) (ms : List Memory) (s : State) → is_running st ≡ false → is_running st1 ≡ false → Keeps st memo ms s → Keeps st1 memo ms s
  rests_as_well st st1 memo ms s rests rests1 own = record {
    shape = shape_rests st1 node.kind node.ports row s.moment memo (statuses ms) rests1 (resting_shape st node.kind node.ports row s.moment memo (statuses ms) rests own.shape);
    held = own.held ∙ ap Some (rests_free st node.kind rests ∙ sym (rests_free st1 node.kind rests1));
  }

  -- .. with what the node remembers
  pub rests_remembering : (st st1 : Status) (memo : Memo) (ms : List Memory) (s : State) → is_running st ≡ false → is_running st1 ≡ false → Keeps st memo ms s → Keeps st1 (remembers st memo) ms s
  rests_remembering st st1 memo ms s rests rests1 own = record {
    shape = shape_rests st1 node.kind node.ports row s.moment (remembers st memo) (statuses ms) rests1
        (remembered_shape st node.ports s.moment memo node.kind (statuses ms) (resting_shape st node.kind node.ports row s.moment memo (statuses ms) rests own.shape));
    held = own.held ∙ ap Some (rests_free st node.kind rests ∙ sym (rests_free st1 node.kind rests1));
  }

  -- ---- The rule and the end

  -- the end of a visit: the scripts after the answer run, and then the status changes
  ended_leaves : (old : Status) (g : Given) (ms : List Memory) (s : State) → Keeps (status_of g.answer) g.memo ms s → All None ms s → Visited s (ended here old g ms s)
  ended_leaves old g ms s own all =
      let d : Done (Unit {0}) (Unit {0}) = posts here g.answer s in
      after_scripts F node view uid Holds (Answers F node view uid) (λ _. Unit {0}) (remembered old g.memo ms) s d
      (λ _ s1. following (change uid old (status_of g.answer)) [] (done g.answer (remembered (status_of g.answer) g.memo ms) s1)) (posts_leave here g.answer s)
      (λ _ _ still. record {
        sound = as_kept F node view uid None (status_of g.answer) g.memo ms d.state (fields_still still F node view uid None (status_of g.answer) g.memo ms (own, all));
        within = within_same uid size d.state;
        ends = status_kept (status_of g.answer) g.memo ms;
      })
      (λ f low high still. on_path F node view uid f old g.memo ms d.state low (omega (arith, high)) (children_still still F node view uid (Some f) ms all))

  ruled_leaves : (st : Status) (memo : Memo) (ms : List Memory) (s : State) → Ready F node view uid node.kind st memo ms s → All None ms s → Visited s (ruled here st memo ms s)
  ruled_leaves st memo ms s ready all =
      let d : Done Given (List Memory) = node_rule node.kind here st memo ms s in
      follow_leaves {rules = All} {fits = λ g ms1 s1. NodeRule node.kind node.ports row uid (status_of g.answer) g.memo ms1 s1} {rules2 = Holds} {fits2 = Answers F node view uid}
      d (λ ms1. remembered st memo ms1) (λ g ms1 s1. ended here st g ms1 s1) uid size uid size s (omega arith) (omega arith)
      (node_rule_leaves F node view uid st memo ms s all node.kind refl ready)
      (λ g own all1 w. ended_leaves st g d.memory d.state own all1)
      (λ f low high all1 w. on_path F node view uid f st memo d.memory d.state low high all1)

  -- ---- From a node that is not RUNNING

  -- the rule can begin with the memo of a start,
  pub ready_new : (memo : Memo) (m : Memory) (s : State) → has_rule node.kind ≡ true → Begins node.kind node.ports s.moment memo (statuses (out-Memory m).children) →
      Keeps status.Idle (out-Memory m).memo (out-Memory m).children s → Ready F node view uid node.kind status.Running memo (out-Memory m).children s
  ready_new memo m s has begins own =
      record { begins = λ e. begins; shape = λ e. absurd (not_both has e); held = own.held ∙ ap Some (sym (rule_free status.Running node.kind has)) }

  -- with the memo of a node that does not start,
  pub ready_kept : (m : Memory) (s : State) → starts node.kind (out-Memory m).memo ≡ false → is_running (status_in m) ≡ false → Holds None m s →
      Ready F node view uid node.kind (status_in m) (out-Memory m).memo (out-Memory m).children s
  ready_kept m s is rests sound = record {
    begins = λ e. kept_begins node.kind node.ports s.moment (out-Memory m).memo (statuses (out-Memory m).children) e is
        (resting_shape (status_in m) node.kind node.ports row s.moment (out-Memory m).memo (statuses (out-Memory m).children) rests sound.0.shape);
    shape = λ e. sound.0.shape;
    held = sound.0.held;
  }

  -- and with that of a RUNNING one
  pub ready_running : (m : Memory) (s : State) → status_in m ≡ status.Running → Holds None m s → Ready F node view uid node.kind status.Running (out-Memory m).memo (out-Memory m).children s
  ready_running m s is sound =
      let own : Keeps status.Running (out-Memory m).memo (out-Memory m).children s = subst (λ (st : Status). Keeps st (out-Memory m).memo (out-Memory m).children s) is sound.0 in
      record {
        begins = λ e. running_begins node.kind node.ports row s.moment (out-Memory m).memo (statuses (out-Memory m).children) e own.shape;
        shape = λ e. own.shape;
        held = own.held;
      }

  -- the memo of a start is new, or a port is bad
  started_by : (m : Memory) (s : State) (r : Result Memo NumericPort) → has_rule node.kind ≡ true → IfOk r (λ memo. Begins node.kind node.ports s.moment memo (statuses (out-Memory m).children)) →
      Keeps status.Idle (out-Memory m).memo (out-Memory m).children s → All None (out-Memory m).children s →
      Visited s (follow (ends (or_bad_port uid r) (out-Memory m).children s) (λ ms. remembered status.Running (out-Memory m).memo ms) (λ memo ms s1. ruled here status.Running memo ms s1))
  started_by m s (Ok memo) has begins own all =
      ruled_leaves status.Running memo (out-Memory m).children s (ready_new memo m s has begins own) all
  started_by m s (Err port) has begins own all = record {
    sound = on_path F node view uid uid status.Running (out-Memory m).memo (out-Memory m).children s (omega arith) (omega arith)
        (all_move F view.rows node.children (Some uid) (uid + 1) (out-Memory m).children s s all (λ p a b. refl) (omega arith));
    within = within_same uid size s;
    ends = (omega arith, omega arith);
  }

  as_many_children : (ms : List Memory) (s : State) → All None ms s → length here.node.children ≡ length (statuses ms)
  as_many_children ms s all = length-map node.children F.meaning ∙ sym (as_many_statuses F view node.children (uid + 1) ms s all)

  -- the memo of a start is one with which the rule can begin
  pub new_begins : (m : Memory) (s : State) → has_rule node.kind ≡ true → Keeps status.Idle (out-Memory m).memo (out-Memory m).children s → All None (out-Memory m).children s →
      IfOk (new_memo node.kind here (remembers (status_in m) (out-Memory m).memo) s) (λ memo. Begins node.kind node.ports s.moment memo (statuses (out-Memory m).children))
  new_begins m s has own all =
      starts_begin here (remembers (status_in m) (out-Memory m).memo) s (statuses (out-Memory m).children) (as_many_children (out-Memory m).children s all) node.kind has
      (remembered_shape (status_in m) node.ports s.moment (out-Memory m).memo node.kind (statuses (out-Memory m).children) own.shape)

  started_leaves : (m : Memory) (s : State) → starts node.kind (out-Memory m).memo ≡ true → Keeps status.Idle (out-Memory m).memo (out-Memory m).children s → All None (out-Memory m).children s → Visited s (started here m s)
  started_leaves m s begins own all =
      let has : has_rule node.kind ≡ true = starts_with_rule node.kind (out-Memory m).memo begins in
      started_by m s (new_memo node.kind here (remembers (status_in m) (out-Memory m).memo) s) has
      (new_begins m s has own all) own all

  begun_leaves : (b : Bool) (m : Memory) (s : State) → starts node.kind (out-Memory m).memo ≡ b → is_running (status_in m) ≡ false → Holds None m s → Visited s (begun b here m s)
  begun_leaves true m s is rests sound = started_leaves m s is (rests_as_well (status_in m) status.Idle (out-Memory m).memo (out-Memory m).children s rests refl sound.0) sound.1
  begun_leaves false m s is rests sound =
      ruled_leaves (status_in m) (out-Memory m).memo (out-Memory m).children s (ready_kept m s is rests sound) sound.1

  guarded_leaves : (o : Option Answer) (m : Memory) (s : State) → Rests here o → is_running (status_in m) ≡ false → Holds None m s → Visited s (guarded o here m s)
  guarded_leaves None m s guard rests sound = begun_leaves (starts node.kind (out-Memory m).memo) m s refl rests sound
  guarded_leaves (Some a) m s guard rests sound =
      ended_leaves (status_in m) (record { answer = a; memo = remembers (status_in m) (out-Memory m).memo }) (out-Memory m).children s
      (rests_remembering (status_in m) (status_of a) (out-Memory m).memo (out-Memory m).children s rests guard sound.0) sound.1

  -- a visit of a node that is not RUNNING
  rests_visited : (m : Memory) (s : State) → is_running (status_in m) ≡ false → Holds None m s →
      Visited s (follow (guards_answer here s) (λ _. m) (λ a _ s1. guarded a here m s1))
  rests_visited m s rests sound =
      let d : Done (Option Answer) (Unit {0}) = guards_answer here s in
      after_scripts F node view uid Holds (Answers F node view uid) (Rests here) m s d (λ a s1. guarded a here m s1) (guards_leave here s)
      (λ a guard still. guarded_leaves a m d.state guard rests (fields_still still F node view uid None (status_in m) (out-Memory m).memo (out-Memory m).children sound))
      (λ f low high still. fields_still still F node view uid (Some f) (status_in m) (out-Memory m).memo (out-Memory m).children sound)

  -- ---- From a RUNNING node

  module _ (halts : (m : Memory) (s : State) → status_in m ≡ status.Running → Holds None m s → Leaves Holds (λ _ m1 s1. status_in m1 ≡ status.Idle) uid size s (halt here m s)) where
    continued_leaves : (b : Bool) (m : Memory) (s : State) → status_in m ≡ status.Running → Holds None m s → Visited s (continued b here m s)
    continued_leaves true m s is sound =
        ruled_leaves status.Running (out-Memory m).memo (out-Memory m).children s (ready_running m s is sound) sound.1
    continued_leaves false m s is sound =
        let d : Done (Unit {0}) Memory = halt here m s in
        follow_leaves {rules = Holds} {fits = λ _ m1 s1. status_in m1 ≡ status.Idle} {rules2 = Holds} {fits2 = Answers F node view uid}
        d (λ m1. m1) (λ _ m1 s1. done answer.Skipped m1 s1) uid size uid size s (omega arith) (omega arith) (halts m s is sound)
        (λ _ idle sound1 w. record { sound = sound1; within = within_same uid size d.state; ends = idle })
        (λ f low high sound1 w. sound1)

    runs_visited : (m : Memory) (s : State) → status_in m ≡ status.Running → Holds None m s →
        Visited s (follow (goes_on here s) (λ _. m) (λ b _ s1. continued b here m s1))
    runs_visited m s is sound =
        let d : Done Bool (Unit {0}) = goes_on here s in
        after_scripts F node view uid Holds (Answers F node view uid) (λ _. Unit {0}) m s d (λ b s1. continued b here m s1) (goes_on_leaves here s)
        (λ b _ still. continued_leaves b m d.state is (fields_still still F node view uid None (status_in m) (out-Memory m).memo (out-Memory m).children sound))
        (λ f low high still. fields_still still F node view uid (Some f) (status_in m) (out-Memory m).memo (out-Memory m).children sound)

    visit_cases : (st : Status) (m : Memory) (s : State) → status_in m ≡ st → Holds None m s → Visited s (visit_by st here m s)
    visit_cases status.Running m s is sound = runs_visited m s is sound
    visit_cases status.Idle m s is sound = rests_visited m s (ap is_running is) sound
    visit_cases status.Success m s is sound = rests_visited m s (ap is_running is) sound
    visit_cases status.Failure m s is sound = rests_visited m s (ap is_running is) sound

    -- a visit of the node
    pub visit_leaves : (m : Memory) (s : State) → Holds None m s → Visited s (visit_by (out-Memory m).status here m s)
    visit_leaves m s sound = visit_cases (status_in m) m s refl sound
