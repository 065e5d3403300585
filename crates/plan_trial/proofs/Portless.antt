-- No fault of a run has a name in its cause, where no node has a script and no leaf's row has an input port.
use Rattle.std.proofs.Common.{◌≡◌, ℕ, zero, suc, ◌+◌, List, [], ◌∷◌, length, map, Option, Some, None, IfSome, Result, Ok, Err, refl, sym, ap, subst, ◌∙◌}
use Rattle.std.specs.List.{AllByRecursion}
use Rattle.std.proofs.lemmas.List.{length-map, length-set}
use Rattle.spec_script.specs.declared.cells.Seen.{Seen}
use Rattle.spec_run.specs.declared.block.Header.{Header}
use Rattle.spec_run.specs.declared.block.Header.TheVariants as header
use Rattle.spec_run.specs.declared.fault.NodeFault.{NodeFault}
use Rattle.spec_run.specs.declared.fault.RunFault.{RunFault}
use Rattle.spec_run.specs.declared.leaf.Instance.{Instance}
use Rattle.spec_run.specs.declared.leaf.Phase.{Phase}
use Rattle.spec_run.specs.declared.leaf.Reply.{Reply}
use Rattle.spec_run.specs.declared.leaf.Reply.TheVariants as reply
use Rattle.spec_run.specs.declared.memory.Memory.{Memory, out-Memory}
use Rattle.spec_run.specs.declared.note.Note.{Note}
use Rattle.spec_run.specs.declared.note.Note.TheVariants.{Root}
use Rattle.spec_run.specs.declared.status.Answer.{Answer}
use Rattle.spec_run.specs.declared.status.Status.{Status}
use Rattle.spec_tree.specs.declared.term.Kind.{Kind}
use Rattle.spec_tree.specs.declared.term.Kind.TheVariants.{Leaf}
use Rattle.spec_tree.specs.declared.term.Term.{Term, fold-roll-Term, roll-Term}
use Rattle.spec_tree.specs.declared.term.Tree.{Tree}
use Rattle.spec_world.specs.declared.world.Event.{Event}
use Rattle.spec_world.specs.declared.world.Fact.{Fact}
use Rattle.spec_world.specs.declared.world.Row.{Row}
use Rattle.spec_world.specs.declared.world.Telling.{Telling}
use Rattle.spec_world.specs.declared.world.What.{What}
use Rattle.spec_world.specs.declared.world.What.TheVariants.{Tick, Halt, Change, Tell}
use Rattle.spec_world.specs.declared.world.World.{World}
use Rattle.spec_run.specs.Done.{Call, Done, State, done}
use Rattle.spec_run.specs.Leaf.{leaf_rule, rule_of}
use Rattle.spec_run.specs.Leaves.{inputs_of, instance_asked, leaf_call, phase_of, reply_answer, row_of, sight}
use Rattle.spec_run.specs.Ports.{value_at}
use Rattle.spec_run.specs.Run.{RunState, Runner, Stepped, Trace, before_rest, finish, finishes, opening, reset_step, root_reset, root_told, root_view, run_from, run_over, runner_at, settled, state_of, step, step_by, tell_step, tick_step, ticked, told, with_runner}
use Rattle.spec_run.specs.Sites.{Meaning, Site, remembered}
use Rattle.spec_run.specs.Visit.{change, meaning, meaning_of_node}
use Rattle.spec_world.specs.Worlds.{IsValidRow}
use Rattle.base_tables.proofs.Calls.{as_many_facts}
use Rattle.spec_plan.specs.Planned.{plain_node}
use Rattle.run_laws.proofs.Claims.{Claim, EndMeets, Meets, TermMeets, done_meets, follow_meets, following_meets}
use Rattle.run_laws.proofs.ClaimedVisits.{node_meets}
use Rattle.plan_trial.proofs.PortlessRows.{HasNoName, ReplyThere, portless_there}

module _ (world : World) where
  -- there are as many facts as the world has, and no cause has a name
  abbrev pub portless : Claim
  portless = record {
    state = λ s. length s.facts ≡ length world.facts;
    notes = λ s notes s1. Unit {0};
    cause = HasNoName;
    view = λ view. (view.rows ≡ world.rows) × (view.facts ≡ world.facts);
    reach = λ far. Unit {0};
    no_note = λ s. tt;
    both = λ s s1 s2 xs ys one other. tt;
    changed = λ s uid old new. tt;
    halted = λ s uid fits. (fits, tt);
    bad_port = λ port. tt;
    mixed = tt;
    below = λ v scope seen. seen;
    nearer = λ near far low high. tt;
  }

  -- ---- Nodes

  -- a row without input ports
  pub record IsPortless (row : Row) : Type 0 where
    pub valid : IsValidRow world.facts world.rows row
    pub none : row.ports ≡ []

  reply_end : (uid : ℕ) (r : Reply) → ReplyThere r → EndMeets portless (reply_answer uid r)
  reply_end uid reply.Running there = tt
  reply_end uid reply.Success there = tt
  reply_end uid reply.Failure there = tt
  reply_end uid (reply.Broken cause) there = there

  leaf_meets : (row : Option Row) → IfSome row IsPortless → (site : Site) → site.view.facts ≡ world.facts → (st : Status) (ms : List Memory) (s : State) → length s.facts ≡ length world.facts → Meets portless s (leaf_call row site st ms s)
  leaf_meets None is site seen st ms s fits = done_meets portless _ ms s fits
  leaf_meets (Some row) is site seen st ms s fits =
      let phase : Phase = phase_of st in
      let i : Instance = instance_asked site row phase s in
      let no_inputs : inputs_of site s row ≡ [] = ap (λ (ports : List (List ℕ)). map (λ name. sight (value_at site s name)) ports) is.none in
      let there : ReplyThere (leaf_rule world.facts row phase i [] s.facts s.moment).reply = portless_there world.facts s.facts fits world.rows row is.valid is.none phase i s.moment in
      record {
        state = as_many_facts (rule_of site.view.facts row) phase i (inputs_of site s row) s.facts s.moment ∙ fits;
        notes = tt;
        end = reply_end site.uid (leaf_rule site.view.facts row phase i (inputs_of site s row) s.facts s.moment).reply
            (subst (λ (facts : List Fact). ReplyThere (leaf_rule facts row phase i (inputs_of site s row) s.facts s.moment).reply) (sym seen)
            (subst (λ (inputs : List Seen). ReplyThere (leaf_rule world.facts row phase i inputs s.facts s.moment).reply) (sym no_inputs) there));
      }

  -- a plain node, whose row has no input port where it is a leaf
  pub plain_meets : (kind : Kind) (id : List ℕ) (children : List Term) → (kind ≡ Leaf → IfSome (row_of world.rows id) IsPortless) →
      AllByRecursion (TermMeets portless) (map meaning children) → TermMeets portless (meaning (roll-Term (plain_node kind id children)))
  plain_meets kind id children is each =
      subst (λ (c : Meaning). TermMeets portless c) (sym (fold-roll-Term Meaning meaning_of_node (plain_node kind id children)))
      (node_meets portless _ (λ view seen uid near. record {
        failure_if = tt;
        success_if = tt;
        skip_if = tt;
        while_true = tt;
        on_success = tt;
        on_failure = tt;
        post = tt;
        on_halted = tt;
        code = tt;
        leaf = λ leaf st ms s fits. leaf_meets (row_of view.rows id) (subst (λ (rows : List Row). IfSome (row_of rows id) IsPortless) (sym seen.0) (is leaf)) _ seen.1 st ms s fits;
      }) each)

  -- ---- Runs

  -- a tree of such nodes
  module _ (tree : Tree) (meets : TermMeets portless (meaning tree.term)) where
    abbrev Fits : RunState → Type 0
    Fits s = length s.facts ≡ length world.facts

    abbrev pub FaultMeets : Option RunFault → Type 0
    FaultMeets fault = IfSome fault (λ (f : RunFault). HasNoName f.cause)

    record StepMeets (d : Stepped) : Type 0 where
      state : Fits d.state
      fault : FaultMeets d.fault

    told_meets : {A : Type 0} (answer : Result A NodeFault) (header : Header) (runner : ℕ) (notes : List Note) (calls : List Call) (s after : RunState) → Fits after → EndMeets portless answer → StepMeets (told answer header tree runner notes calls s after)
    told_meets (Ok a) header runner notes calls s after fits end = record { state = fits; fault = tt }
    told_meets (Err f) header runner notes calls s after fits end = record { state = fits; fault = end }

    done_step : {A : Type 0} (header : Header) (runner at : ℕ) (s : RunState) (s1 : State) (d : Done A Memory) → Meets portless s1 d → StepMeets (told d.answer header tree runner d.notes d.calls s (with_runner s runner at d))
    done_step header runner at s s1 d meets = told_meets d.answer header runner d.notes d.calls s (with_runner s runner at d) meets.state meets.end

    tick_meets : (o : Option Runner) (runner at : ℕ) (s : RunState) → Fits s → StepMeets (tick_step o tree world runner at s)
    tick_meets None runner at s fits = record { state = fits; fault = tt }
    tick_meets (Some r) runner at s fits =
        let s1 : State = state_of r s.facts at in
        let d : Done Answer Memory = (meaning tree.term).visit (root_view tree world) 1 r.memory s1 in
        done_step (header.Tick runner at) runner at s s1 (ticked tree (root_view tree world) runner r.memory s1)
        (follow_meets portless s1 d (λ m1. m1) (λ a m1 s2. root_told runner a m1 s2) (meets.visit (root_view tree world) (refl, refl) 1 tt r.memory s1 fits)
        (λ a after. following_meets portless (Root runner a ∷ change 1 (out-Memory d.memory).status (settled (out-Memory d.memory).status)) [] d.state d.state (done a (remembered (settled (out-Memory d.memory).status) (out-Memory d.memory).memo (out-Memory d.memory).children) d.state) tt (done_meets portless a _ d.state after)))

    reset_meets : (o : Option Runner) (header : Header) (runner at : ℕ) (s : RunState) → Fits s → StepMeets (reset_step o header tree world runner at s)
    reset_meets None header runner at s fits = record { state = fits; fault = tt }
    reset_meets (Some r) header runner at s fits =
        let s1 : State = state_of r s.facts at in
        done_step header runner at s s1 (root_reset tree (root_view tree world) r.memory s1) (meets.reset (root_view tree world) (refl, refl) 1 tt r.memory s1 fits)

    tell_meets : (o : Option Runner) (runner uid : ℕ) (telling : Telling) (at : ℕ) (s : RunState) → Fits s → StepMeets (tell_step o runner uid telling at s)
    tell_meets None runner uid telling at s fits = record { state = fits; fault = tt }
    tell_meets (Some r) runner uid telling at s fits = record { state = fits; fault = tt }

    step_meets : (what : What) (at : ℕ) (s : RunState) → Fits s → StepMeets (step_by what tree world at s)
    step_meets (Tick runner) at s fits = tick_meets (runner_at s runner) runner at s fits
    step_meets (Halt runner) at s fits = reset_meets (runner_at s runner) (header.Halt runner at) runner at s fits
    step_meets (Change fact value) at s fits = record { state = length-set s.facts fact value ∙ fits; fault = tt }
    step_meets (Tell runner uid telling) at s fits = tell_meets (runner_at s runner) runner uid telling at s fits

    -- a step and what follows it
    rest_meets : (o : Option RunFault) (d : Stepped) (rest : RunState → Trace) → FaultMeets o → FaultMeets (rest d.state).fault → FaultMeets (before_rest o d rest).fault
    rest_meets (Some fault) d rest own later = own
    rest_meets None d rest own later = later

    finishes_meet : (runners runner : ℕ) (s : RunState) → Fits s → FaultMeets (finishes tree world runner runners s).fault
    finishes_meet zero runner s fits = tt
    finishes_meet (suc others) runner s fits =
        let d : Stepped = finish tree world runner s in
        let own : StepMeets d = reset_meets (runner_at s runner) (header.Finish runner s.last) runner s.last s fits in
        rest_meets d.fault d (finishes tree world (runner + 1) others) own.fault (finishes_meet others (runner + 1) d.state own.state)

    events_meet : (events : List Event) (s : RunState) → Fits s → FaultMeets (run_from tree world events s).fault
    events_meet [] s fits = finishes_meet world.runners 1 s fits
    events_meet (e ∷ events) s fits =
        let d : Stepped = step tree world e s in
        let own : StepMeets d = step_meets e.what e.at s fits in
        rest_meets d.fault d (run_from tree world events) own.fault (events_meet events d.state own.state)

    -- a fault of a run has a cause without a name
    pub run_meets : (events : List Event) → FaultMeets (run_over tree world events).fault
    run_meets events = events_meet events (opening tree world) (length-map world.facts (λ (f : Fact). f.opening))
