-- Visits and resets of a node meet a claim, where its scripts, its row and its children do.
use Rattle.std.proofs.Common.{◌≡◌, ℕ, ◌+◌, List, [], ◌∷◌, ◌++◌, Bool, true, false, Option, Some, None, Result, Ok, Err, length, refl, arith}
use Rattle.std.specs.List.{AllByRecursion}
use Rattle.spec_script.specs.declared.syntax.Script.{Script}
use Rattle.spec_script.specs.declared.value.Value.{Value}
use Rattle.spec_script.specs.declared.value.Value.TheVariants.{Int, Text}
use Rattle.spec_run.specs.declared.fault.NumericPort.{NumericPort}
use Rattle.spec_run.specs.declared.memory.Memo.{Memo}
use Rattle.spec_run.specs.declared.memory.Memory.{Memory, out-Memory}
use Rattle.spec_run.specs.declared.moves.Span.TheVariants as span
use Rattle.spec_run.specs.declared.note.Note.TheVariants.{Changed}
use Rattle.spec_run.specs.declared.status.Answer.{Answer}
use Rattle.spec_run.specs.declared.status.Answer.TheVariants as answer
use Rattle.spec_run.specs.declared.status.Status.{Status}
use Rattle.spec_run.specs.declared.status.Status.TheVariants as status
use Rattle.spec_tree.specs.declared.term.Kind.{Kind}
use Rattle.spec_tree.specs.declared.term.Kind.TheVariants.{AlwaysSuccess, AlwaysFailure, ScriptNode, ScriptCondition, Leaf}
use Rattle.spec_tree.specs.declared.term.Term.{Term-F}
use Rattle.spec_run.specs.Done.{Done, State, done, ends, follow}
use Rattle.spec_run.specs.Leaves.{gives, leaf_call, row_of, script_condition, script_node}
use Rattle.spec_run.specs.Ports.{new_memo, picked}
use Rattle.spec_run.specs.NodeScripts.{answers_where, goes_on, goes_on_by, guard, guards_answer, posts, script_holds, script_if_there, script_run, truth_of}
use Rattle.spec_run.specs.Sites.{Meaning, Site, View, children_of, remembered, sizes, view_below}
use Rattle.spec_run.specs.Steps.{Given, child_at, resets}
use Rattle.spec_run.specs.Visit.{begun, change, cleared, continued, ended, guarded, halt, halt_calls, halt_notes, halt_state, halted, kind_rule, meaning_of_node, node_rule, or_bad_port, remembers, reset_by, ruled, site_of, started, starts, status_of, visit_by}
use Rattle.run_laws.proofs.Claims.{ChildMeets, Claim, EndMeets, Meets, TermMeets, children_meet, done_meets, ends_meet, follow_meets, following_meets, resets_meet}
use Rattle.run_laws.proofs.ClaimedRules.{rule_meets}

module _ (claim : Claim) where
  -- ---- What is asked of a node

  -- this script of a node meets the claim, where it is there
  abbrev pub ScriptMeets : Site → Option Script → Type 0
  ScriptMeets site None = Unit {0}
  ScriptMeets site (Some script) = (s : State) → claim.state s → Meets claim s (script_run site script s)

  -- the scripts of a node meet the claim, and the calls of its driver, where it is a leaf
  pub record NodeMeets (site : Site) : Type 0 where
    pub failure_if : ScriptMeets site site.node.guards.failure_if
    pub success_if : ScriptMeets site site.node.guards.success_if
    pub skip_if : ScriptMeets site site.node.guards.skip_if
    pub while_true : ScriptMeets site site.node.guards.while_true
    pub on_success : ScriptMeets site site.node.guards.on_success
    pub on_failure : ScriptMeets site site.node.guards.on_failure
    pub post : ScriptMeets site site.node.guards.post
    pub on_halted : ScriptMeets site site.node.guards.on_halted
    pub code : ScriptMeets site site.node.code
    pub leaf : site.node.kind ≡ Leaf → (st : Status) (ms : List Memory) (s : State) → claim.state s → Meets claim s (leaf_call (row_of site.view.rows site.node.id) site st ms s)

  -- ---- Notes

  pub change_meets : (s : State) (uid : ℕ) (old new : Status) → claim.notes s (change uid old new) s
  change_meets s uid status.Idle status.Idle = claim.no_note s
  change_meets s uid status.Running status.Running = claim.no_note s
  change_meets s uid status.Success status.Success = claim.no_note s
  change_meets s uid status.Failure status.Failure = claim.no_note s
  change_meets s uid old new = claim.changed s uid old new

  -- the call by which a leaf is halted; no other node makes it
  freed_meets : (kind : Kind) (uid : ℕ) (s : State) → claim.state s → claim.state (halt_state kind uid s) × claim.notes s (halt_notes kind uid) (halt_state kind uid s)
  freed_meets Leaf uid s fits = claim.halted s uid fits
  freed_meets _ uid s fits = (fits, claim.no_note s)

  -- ---- Scripts

  truth_meets : (uid : ℕ) (value : Value) → EndMeets claim (truth_of uid value)
  truth_meets uid (Int n) = tt
  truth_meets uid (Text t) = claim.mixed

  module _ (site : Site) where
    holds_meets : (script : Script) → ScriptMeets site (Some script) → (s : State) → claim.state s → Meets claim s (script_holds site script s)
    holds_meets script meets s fits =
        let d : Done Value (Unit {0}) = script_run site script s in
        follow_meets claim s d (λ _. tt) (λ value _ s1. ends (truth_of site.uid value) tt s1) (meets s fits) (λ value after. ends_meet claim (truth_of site.uid value) tt d.state after (truth_meets site.uid value))

    if_there_meets : (script : Option Script) → ScriptMeets site script → (s : State) → claim.state s → Meets claim s (script_if_there site script s)
    if_there_meets None meets s fits = done_meets claim tt tt s fits
    if_there_meets (Some script) meets s fits =
        let d : Done Value (Unit {0}) = script_run site script s in
        follow_meets claim s d (λ _. tt) (λ value _ s1. done tt tt s1) (meets s fits) (λ value after. done_meets claim tt tt d.state after)

    answers_meet : (truth : Bool) (a : Answer) (next : State → Done (Option Answer) (Unit {0})) (b : Bool) (s : State) → claim.state s → Meets claim s (next s) → Meets claim s (answers_where truth a next b s)
    answers_meet true a next true s fits goes = done_meets claim (Some a) tt s fits
    answers_meet false a next false s fits goes = done_meets claim (Some a) tt s fits
    answers_meet true a next false s fits goes = goes
    answers_meet false a next true s fits goes = goes

    abbrev NextMeets : (State → Done (Option Answer) (Unit {0})) → Type 0
    NextMeets next = (s : State) → claim.state s → Meets claim s (next s)

    guard_meets : (script : Option Script) → ScriptMeets site script → (truth : Bool) (a : Answer) (next : State → Done (Option Answer) (Unit {0})) → NextMeets next → NextMeets (guard site script truth a next)
    guard_meets None meets truth a next goes s fits = goes s fits
    guard_meets (Some script) meets truth a next goes s fits =
        let d : Done Bool (Unit {0}) = script_holds site script s in
        follow_meets claim s d (λ _. tt) (λ b _ s1. answers_where truth a next b s1) (holds_meets script meets s fits) (λ b after. answers_meet truth a next b d.state after (goes d.state after))

    goes_on_meets : (script : Option Script) → ScriptMeets site script → (s : State) → claim.state s → Meets claim s (goes_on_by site script s)
    goes_on_meets None meets s fits = done_meets claim true tt s fits
    goes_on_meets (Some script) meets s fits = holds_meets script meets s fits

    two_meet : (one other : Option Script) → ScriptMeets site one → ScriptMeets site other → (s : State) → claim.state s →
        Meets claim s (follow (script_if_there site one s) (λ _. tt) (λ _ _ s1. script_if_there site other s1))
    two_meet one other first second s fits =
        let d : Done (Unit {0}) (Unit {0}) = script_if_there site one s in
        follow_meets claim s d (λ _. tt) (λ _ _ s1. script_if_there site other s1) (if_there_meets one first s fits) (λ _ after. if_there_meets other second d.state after)

    -- ---- Nodes without children

    script_node_meets : (code : Option Script) → ScriptMeets site code → (ms : List Memory) (s : State) → claim.state s → Meets claim s (script_node code site ms s)
    script_node_meets None meets ms s fits = done_meets claim _ ms s fits
    script_node_meets (Some code) meets ms s fits =
        let d : Done Value (Unit {0}) = script_run site code s in
        follow_meets claim s d (λ _. ms) (λ value _ s1. gives answer.Success ms s1) (meets s fits) (λ value after. done_meets claim _ ms d.state after)

    script_condition_meets : (code : Option Script) → ScriptMeets site code → (ms : List Memory) (s : State) → claim.state s → Meets claim s (script_condition code site ms s)
    script_condition_meets None meets ms s fits = done_meets claim _ ms s fits
    script_condition_meets (Some code) meets ms s fits =
        let d : Done Bool (Unit {0}) = script_holds site code s in
        follow_meets claim s d (λ _. ms) _ (holds_meets code meets s fits) (λ b after. done_meets claim _ ms d.state after)

  -- ---- Nodes

  -- a node whose children meet the claim
  module _ (site : Site) (own : NodeMeets site) (each : (place : ℕ) → ChildMeets claim (child_at (children_of site) place)) where
    guards_meet : NextMeets site (guards_answer site)
    guards_meet =
        guard_meets site site.node.guards.failure_if own.failure_if true answer.Failure _
        (guard_meets site site.node.guards.success_if own.success_if true answer.Success _
        (guard_meets site site.node.guards.skip_if own.skip_if true answer.Skipped _
        (guard_meets site site.node.guards.while_true own.while_true false answer.Skipped (λ s1. done None tt s1) (λ s1 fits. done_meets claim None tt s1 fits))))

    posts_meet : (a : Answer) (s : State) → claim.state s → Meets claim s (posts site a s)
    posts_meet answer.Running s fits = done_meets claim tt tt s fits
    posts_meet answer.Skipped s fits = done_meets claim tt tt s fits
    posts_meet answer.Success s fits = two_meet site site.node.guards.on_success site.node.guards.post own.on_success own.post s fits
    posts_meet answer.Failure s fits = two_meet site site.node.guards.on_failure site.node.guards.post own.on_failure own.post s fits

    ended_meets : (old : Status) (g : Given) (ms : List Memory) (s : State) → claim.state s → Meets claim s (ended site old g ms s)
    ended_meets old g ms s fits =
        let d : Done (Unit {0}) (Unit {0}) = posts site g.answer s in
        follow_meets claim s d (λ _. remembered old g.memo ms) _ (posts_meet g.answer s fits)
        (λ _ after. following_meets claim (change site.uid old (status_of g.answer)) [] d.state d.state (done g.answer (remembered (status_of g.answer) g.memo ms) d.state) (change_meets d.state site.uid old (status_of g.answer)) (done_meets claim g.answer _ d.state after))

    halted_meets : (idle : Memory) (s : State) → claim.state s → Meets claim s (halted site idle s)
    halted_meets idle s fits =
        let freed : State = halt_state site.node.kind site.uid s in
        let d : Done (Unit {0}) (Unit {0}) = script_if_there site site.node.guards.on_halted freed in
        let is_freed : claim.state freed × claim.notes s (halt_notes site.node.kind site.uid) freed = freed_meets site.node.kind site.uid s fits in
        following_meets claim (halt_notes site.node.kind site.uid ++ Changed site.uid status.Running status.Idle ∷ []) (halt_calls site.node.kind site.uid s) s freed (follow d (λ _. idle) (λ _ _ s1. done tt idle s1))
        (claim.both s freed freed (halt_notes site.node.kind site.uid) (Changed site.uid status.Running status.Idle ∷ []) is_freed.1 (claim.changed freed site.uid status.Running status.Idle))
        (follow_meets claim freed d (λ _. idle) (λ _ _ s1. done tt idle s1) (if_there_meets site site.node.guards.on_halted own.on_halted freed is_freed.0) (λ _ after. done_meets claim tt idle d.state after))

    halt_meets : (m : Memory) (s : State) → claim.state s → Meets claim s (halt site m s)
    halt_meets m s fits =
        let d : Done (Unit {0}) (List Memory) = resets span.All (children_of site) 0 (out-Memory m).children s in
        follow_meets claim s d (λ ms. remembered status.Running (out-Memory m).memo ms) (λ _ ms s1. halted site (remembered status.Idle (cleared (out-Memory m).memo) ms) s1)
        (resets_meet claim span.All (children_of site) 0 (out-Memory m).children s each fits) (λ _. halted_meets (remembered status.Idle (cleared (out-Memory m).memo) d.memory) d.state)

    idle_meets : (old : Status) (m : Memory) (s : State) → claim.state s → Meets claim s (reset_by old site m s)
    idle_meets status.Running m s fits = halt_meets m s fits
    idle_meets status.Idle m s fits = following_meets claim [] [] s s (done tt _ s) (claim.no_note s) (done_meets claim tt _ s fits)
    idle_meets status.Success m s fits = following_meets claim (change site.uid status.Success status.Idle) [] s s (done tt _ s) (change_meets s site.uid status.Success status.Idle) (done_meets claim tt _ s fits)
    idle_meets status.Failure m s fits = following_meets claim (change site.uid status.Failure status.Idle) [] s s (done tt _ s) (change_meets s site.uid status.Failure status.Idle) (done_meets claim tt _ s fits)

    port_meets : {A : Type 0} (r : Result A NumericPort) → EndMeets claim (or_bad_port site.uid r)
    port_meets (Ok a) = tt
    port_meets (Err port) = claim.bad_port port

    kind_meets : (memo : Memo) (ms : List Memory) (s : State) → claim.state s → Meets claim s (kind_rule site memo ms s)
    kind_meets memo ms s fits =
        let r : Result ℕ NumericPort = picked site.node.kind site memo s in
        follow_meets claim s (ends (or_bad_port site.uid r) ms s) (λ ms1. ms1) _ (ends_meet claim (or_bad_port site.uid r) ms s fits (port_meets r))
        (λ place. rule_meets claim (children_of site) each site.node.kind (length site.node.children) memo place s.moment ms s)

    node_rule_meets : (kind : Kind) → site.node.kind ≡ kind → (st : Status) (memo : Memo) (ms : List Memory) (s : State) → claim.state s → Meets claim s (node_rule kind site st memo ms s)
    node_rule_meets Leaf is st memo ms s fits = own.leaf is st ms s fits
    node_rule_meets ScriptNode is st memo ms s fits = script_node_meets site site.node.code own.code ms s fits
    node_rule_meets ScriptCondition is st memo ms s fits = script_condition_meets site site.node.code own.code ms s fits
    node_rule_meets AlwaysSuccess is st memo ms s fits = done_meets claim _ ms s fits
    node_rule_meets AlwaysFailure is st memo ms s fits = done_meets claim _ ms s fits
    node_rule_meets _ is st memo ms s fits = kind_meets memo ms s fits

    ruled_meets : (st : Status) (memo : Memo) (ms : List Memory) (s : State) → claim.state s → Meets claim s (ruled site st memo ms s)
    ruled_meets st memo ms s fits =
        let d : Done Given (List Memory) = node_rule site.node.kind site st memo ms s in
        follow_meets claim s d (λ ms1. remembered st memo ms1) (λ g ms1 s1. ended site st g ms1 s1) (node_rule_meets site.node.kind refl st memo ms s fits) (λ g. ended_meets st g d.memory d.state)

    started_meets : (m : Memory) (s : State) → claim.state s → Meets claim s (started site m s)
    started_meets m s fits =
        let made : Result Memo NumericPort = new_memo site.node.kind site (remembers (out-Memory m).status (out-Memory m).memo) s in
        let d : Done Memo (List Memory) = ends (or_bad_port site.uid made) (out-Memory m).children s in
        let go : Memo → List Memory → State → Done Answer Memory = λ memo ms s1. ruled site status.Running memo ms s1 in
        following_meets claim (change site.uid (out-Memory m).status status.Running) [] s s (follow d (λ ms. remembered status.Running (out-Memory m).memo ms) go) (change_meets s site.uid (out-Memory m).status status.Running)
        (follow_meets claim s d (λ ms. remembered status.Running (out-Memory m).memo ms) go (ends_meet claim (or_bad_port site.uid made) (out-Memory m).children s fits (port_meets made)) (λ memo. ruled_meets status.Running memo (out-Memory m).children s))

    begun_meets : (b : Bool) (m : Memory) (s : State) → claim.state s → Meets claim s (begun b site m s)
    begun_meets true m s fits = started_meets m s fits
    begun_meets false m s fits = ruled_meets (out-Memory m).status (out-Memory m).memo (out-Memory m).children s fits

    guarded_meets : (o : Option Answer) (m : Memory) (s : State) → claim.state s → Meets claim s (guarded o site m s)
    guarded_meets (Some a) m s fits = ended_meets (out-Memory m).status (record { answer = a; memo = remembers (out-Memory m).status (out-Memory m).memo }) (out-Memory m).children s fits
    guarded_meets None m s fits = begun_meets (starts site.node.kind (out-Memory m).memo) m s fits

    rests_meet : (m : Memory) (s : State) → claim.state s → Meets claim s (follow (guards_answer site s) (λ _. m) (λ a _ s1. guarded a site m s1))
    rests_meet m s fits =
        let d : Done (Option Answer) (Unit {0}) = guards_answer site s in
        follow_meets claim s d (λ _. m) (λ a _ s1. guarded a site m s1) (guards_meet s fits) (λ a. guarded_meets a m d.state)

    continued_meets : (b : Bool) (m : Memory) (s : State) → claim.state s → Meets claim s (continued b site m s)
    continued_meets true m s fits = ruled_meets status.Running (out-Memory m).memo (out-Memory m).children s fits
    continued_meets false m s fits =
        let d : Done (Unit {0}) Memory = halt site m s in
        follow_meets claim s d (λ m1. m1) (λ _ m1 s1. done answer.Skipped m1 s1) (halt_meets m s fits) (λ _. done_meets claim answer.Skipped d.memory d.state)

    acts_meet : (st : Status) (m : Memory) (s : State) → claim.state s → Meets claim s (visit_by st site m s)
    acts_meet status.Running m s fits =
        let d : Done Bool (Unit {0}) = goes_on site s in
        follow_meets claim s d (λ _. m) (λ b _ s1. continued b site m s1) (goes_on_meets site site.node.guards.while_true own.while_true s fits) (λ b. continued_meets b m d.state)
    acts_meet status.Idle m s fits = rests_meet m s fits
    acts_meet status.Success m s fits = rests_meet m s fits
    acts_meet status.Failure m s fits = rests_meet m s fits

  -- a node with its meaning, wherever it stands
  module _ (node : Term-F Meaning) (own : (view : View) → claim.view view → (uid : ℕ) → claim.reach (uid + 1) → NodeMeets (site_of node view uid)) (children : AllByRecursion (TermMeets claim) node.children) where
    own_near : (uid : ℕ) → claim.reach (uid + (1 + sizes node.children)) → claim.reach (uid + 1)
    own_near uid reached = claim.nearer (uid + 1) (uid + (1 + sizes node.children)) (omega arith) reached

    each_child : (view : View) → claim.view view → (uid : ℕ) → claim.reach (uid + (1 + sizes node.children)) → (place : ℕ) → ChildMeets claim (child_at (children_of (site_of node view uid)) place)
    each_child view seen uid reached place =
        let site : Site = site_of node view uid in
        children_meet claim (view_below site) (claim.below view (view_below site).scope seen) node.children children (uid + 1) 0 place
        (claim.nearer (uid + 1 + sizes node.children) (uid + (1 + sizes node.children)) (omega arith) reached)

    pub node_meets : TermMeets claim (meaning_of_node node)
    node_meets = record {
      reset = λ view seen uid reached m s. idle_meets (site_of node view uid) (own view seen uid (own_near uid reached)) (each_child view seen uid reached) (out-Memory m).status m s;
      visit = λ view seen uid reached m s. acts_meet (site_of node view uid) (own view seen uid (own_near uid reached)) (each_child view seen uid reached) (out-Memory m).status m s;
    }
