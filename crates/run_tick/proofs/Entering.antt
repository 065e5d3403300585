-- When a node is entered: what its guards, its start and its rule do of its visit.
use Rattle.std.proofs.Common.{◌≡◌, ℕ, ℤ, ◌+◌, ◌<◌, ◌≤◌, ◌^◌, Bool, true, false, List, [], ◌∷◌, ◌++◌, map, length, refl, sym, ap, subst, ◌∙◌, arith, append-nil, slice_set, Option, Some, None, Result, Ok, Err}
use Rattle.std.proofs.lemmas.List.{get_or-set_same, length-map}
use Rattle.std.specs.Prelude.{IfOk, IsErrAnd}
use Rattle.base_texts.specs.declared.stop.Stop.{Stop}
use Rattle.base_texts.specs.declared.stop.Stop.TheVariants as stop
use Rattle.spec_script.specs.declared.value.Value.{Value}
use Rattle.spec_run.specs.declared.fault.NodeFault.{NodeFault}
use Rattle.spec_run.specs.declared.fault.NumericPort.{NumericPort}
use Rattle.spec_run.specs.declared.memory.Memo.{Memo}
use Rattle.spec_run.specs.declared.memory.Memory.{Memory, Memory-F, out-Memory, out-roll-Memory}
use Rattle.spec_run.specs.declared.moves.Heard.TheVariants.{Begin}
use Rattle.spec_run.specs.declared.note.Note.{Note}
use Rattle.spec_run.specs.declared.note.Note.TheVariants.{Changed}
use Rattle.spec_run.specs.declared.status.Answer.{Answer}
use Rattle.spec_run.specs.declared.status.Answer.TheVariants as answer
use Rattle.spec_run.specs.declared.status.Status.{Status}
use Rattle.spec_run.specs.declared.status.Status.TheVariants as status
use Rattle.spec_tree.specs.declared.term.Kind.{Kind}
use Rattle.spec_tree.specs.declared.term.Kind.TheVariants.{AlwaysSuccess, AlwaysFailure, ScriptNode, ScriptCondition, Leaf}
use Rattle.spec_tree.specs.declared.term.Term.{Term, Term-F, fold_out-Term, out-Term}
use Rattle.spec_tree.specs.declared.term.Term.TheFolds.{map-Term}
use Rattle.spec_tree.specs.BuiltIns.{has_rule}
use Rattle.spec_run.specs.Done.{Done, State, following, done, ends, follow}
use Rattle.spec_run.specs.Drivers.{DriverState}
use Rattle.base_tables.specs.DriverCalls.{instance_at}
use Rattle.spec_run.specs.Leaves.{row_of}
use Rattle.base_tables.specs.Moves.{FitsStart, rest, visits_left}
use Rattle.spec_run.specs.Ports.{new_memo, picked}
use Rattle.spec_run.specs.Rules.Kinds.{rule}
use Rattle.spec_run.specs.NodeScripts.{goes_on, guards_answer}
use Rattle.base_tables.specs.Shapes.{RestingShape, RunningShape, Shape, is_running}
use Rattle.spec_run.specs.Sites.{Meaning, Site, View, children_of, remembered, sizes}
use Rattle.base_tables.specs.Sound.{Sound, is_held, statuses}
use Rattle.spec_run.specs.Steps.{Given}
use Rattle.spec_run.specs.Visit.{begun, change, continued, ended, guarded, halt, kind_rule, meaning, meaning_of_node, node_rule, or_bad_port, remembers, ruled, starts, visit_by}
use Rattle.run_arena.specs.declared.nodes.Kept.{Kept}
use Rattle.run_arena.specs.declared.nodes.Node.{Node}
use Rattle.run_arena.specs.declared.nodes.ReadyGuards.{ReadyGuards}
use Rattle.run_arena.specs.declared.nodes.ReadyLeaf.{ReadyLeaf}
use Rattle.run_arena.specs.declared.stage.Stage.{Stage}
use Rattle.run_arena.specs.Ends.{IsMade, Meets, StaysFit}
use Rattle.run_arena.specs.Nodes.{AreCompiled, IsNode, at_rest, kept_at, leaf_at, node_at}
use Rattle.run_arena.specs.Scenes.{Fits, Scene, scene, state_in}
use Rattle.run_arena.specs.Stages.{IsSame, scene_on}
use Rattle.run_arena.specs.Stands.{Beside, memory_of, written}
use Rattle.run_arena.proofs.Framed.{all_sizes, sizes_cons}
use Rattle.run_arena.proofs.Opened.{memory_out, opened, size_out}
use Rattle.run_arena.proofs.Follows.{stopped}
use Rattle.run_arena.proofs.Staged.{beside_both, beside_more, beside_none, earlier, later}
use Rattle.run_nodes.proofs.AboutHalting.Within.{stands_within}
use Rattle.run_laws.proofs.Acts.{as_many_statuses}
use Rattle.run_laws.proofs.Beginnings.{Begins}
use Rattle.run_laws.proofs.Children.{Keeps}
use Rattle.run_laws.proofs.KindRules.{kept_begins, running_begins, starts_begin}
use Rattle.run_laws.proofs.Visits.{remembered_shape, starts_with_rule}
use Rattle.run_nodes.specs.Calls.{IsInPhase}
use Rattle.run_nodes.specs.Settles.{Settles}
use Rattle.run_nodes.proofs.Following.{stops_with}
use Rattle.run_nodes.proofs.Phases.{in_phase}
use Rattle.run_nodes.proofs.Settled.{settles_met}
use Rattle.run_nodes.proofs.Standing.{beside_one, children_same, fits_here, stays_fit}
use Rattle.run_tick.specs.Asking.{back_with}
use Rattle.run_tick.specs.Machine.{Turn}
use Rattle.run_tick.specs.Machine as turn
use Rattle.run_nodes.specs.Here.{children_in, ruled_in, ruled_on, site_at}
use Rattle.run_tick.specs.declared.progress.Entered.TheVariants as entered
use Rattle.run_tick.specs.Turns.{CanBegin, CanFollow, CanFollowOn, CanGoOn, CanPick, CanVisit, ChildrenSound, Comes, Goes, GoesTo, Starts, TakesTurn, cost, goes_by, kind_of, left_of, memory_in, number, started_in, turn_after, visit_in}
use Rattle.run_tick.proofs.Children.{terms}
use Rattle.run_tick.proofs.Bounds.{begins_less, visits_few}
use Rattle.run_tick.proofs.Held.{leaf_kind, sound_opened}
use Rattle.run_tick.proofs.Moving.{as_many_kept, ends_so, kind_is, node_fits, node_there, number_is, size_is}
use Rattle.run_tick.proofs.Passing.{comes_both, comes_same, met_after, none_told, part_made}
use Rattle.run_tick.proofs.Starting.{begins_so, picks_so}

-- ---- Kinds

node_rule_is : (kind : Kind) (site : Site) (st : Status) (memo : Memo) (ms : List Memory) (s : State) → has_rule kind ≡ true → node_rule kind site st memo ms s ≡ kind_rule site memo ms s
node_rule_is AlwaysSuccess site st memo ms s e = cc
node_rule_is AlwaysFailure site st memo ms s e = cc
node_rule_is ScriptNode site st memo ms s e = cc
node_rule_is ScriptCondition site st memo ms s e = cc
node_rule_is Leaf site st memo ms s e = cc
node_rule_is _ site st memo ms s e = refl

-- ---- Faults

-- a fault, without a note or a call
pub faulted : (nodes : List Node) (moment : ℕ) (term : Term) (uid : ℕ) (s s1 : Scene) (n : List Note) (f : NodeFault) (d : Done Answer Memory) → s1.drivers ≡ s.drivers →
    d ≡ ends (Err f) (memory_of term uid s1.kept) (state_in nodes s1 moment) → Meets {A = Answer} nodes moment (memory_of term uid) (Err (stop.Fault f)) s s1 n n d
faulted nodes moment term uid s s1 n f d same is =
    subst (λ (x : Done Answer Memory). IsMade nodes moment (memory_of term uid) (Err f) s s1 n n x) (sym is)
    (record { answer = refl; memory = refl; state = refl; notes = sym (append-nil n); drivers = same })

-- ---- The visit of a term that stands

module _ (nodes : List Node) (moment : ℕ) (term : Term) (view : View) (uid : ℕ) (s : Scene) where
  abbrev pub site : Site
  site = site_at view uid term

  abbrev pub st : Status
  st = (kept_at s.kept uid).status

  abbrev pub memo : Memo
  memo = (kept_at s.kept uid).memo

  abbrev pub ms : List Memory
  ms = children_in term uid s.kept

  abbrev pub now : State
  now = state_in nodes s moment

  memory_parts : out-Memory (memory_in term uid s) ≡ record { status = st; memo = memo; children = ms }
  memory_parts = ap out-Memory (memory_out term uid s.kept) ∙ out-roll-Memory (record { status = st; memo = memo; children = ms })

  visit_out : visit_in nodes moment term view uid s ≡ visit_by st site (memory_in term uid s) now
  visit_out =
      ap (λ (c : Meaning). c.visit view uid (memory_in term uid s) now) (fold_out-Term Meaning meaning_of_node term)
      ∙ ap (λ (r : Memory-F Memory). visit_by r.status site (memory_in term uid s) now) memory_parts

  -- the visit of a RUNNING node begins with the test whether it goes on
  pub running_visit : st ≡ status.Running → visit_in nodes moment term view uid s ≡ follow (goes_on site now) (λ _. memory_in term uid s) (λ b _ s1. continued b site (memory_in term uid s) s1)
  running_visit runs = visit_out ∙ ap (λ (x : Status). visit_by x site (memory_in term uid s) now) runs

  -- the visit of any other node begins with its guards
  pub resting_visit : is_running st ≡ false → visit_in nodes moment term view uid s ≡ follow (guards_answer site now) (λ _. memory_in term uid s) (λ a _ s1. guarded a site (memory_in term uid s) s1)
  resting_visit rests = visit_out ∙ by st rests
    where
      by : (x : Status) → is_running x ≡ false → visit_by x site (memory_in term uid s) now ≡ follow (guards_answer site now) (λ _. memory_in term uid s) (λ a _ s1. guarded a site (memory_in term uid s) s1)
      by status.Running e = cc
      by status.Idle e = refl
      by status.Success e = refl
      by status.Failure e = refl

  pub goes_again : continued true site (memory_in term uid s) now ≡ ruled site status.Running memo ms now
  goes_again = ap (λ (r : Memory-F Memory). ruled site status.Running r.memo r.children now) memory_parts

  pub guard_answers : (a : Answer) → guarded (Some a) site (memory_in term uid s) now ≡ ended site st (record { answer = a; memo = remembers st memo }) ms now
  guard_answers a = ap (λ (r : Memory-F Memory). ended site r.status (record { answer = a; memo = remembers r.status r.memo }) r.children now) memory_parts

  pub none_answers : (b : Bool) → starts (kind_of term) memo ≡ b → guarded None site (memory_in term uid s) now ≡ begun b site (memory_in term uid s) now
  none_answers b is = ap (λ (r : Memory-F Memory). begun (starts (kind_of term) r.memo) site (memory_in term uid s) now) memory_parts ∙ ap (λ (x : Bool). begun x site (memory_in term uid s) now) is

  pub begins_kept : begun false site (memory_in term uid s) now ≡ ruled_in nodes moment term view uid s
  begins_kept = ap (λ (r : Memory-F Memory). ruled site r.status r.memo r.children now) memory_parts

  pub starts_with : started_in nodes moment term view uid s ≡ following (change uid st status.Running) []
      (follow (ends (or_bad_port uid (new_memo (kind_of term) site (remembers st memo) now)) ms now) (λ ms1. remembered status.Running memo ms1) (λ memo1 ms1 s1. ruled site status.Running memo1 ms1 s1))
  starts_with = ap (λ (r : Memory-F Memory). following (change uid r.status status.Running) []
      (follow (ends (or_bad_port uid (new_memo (kind_of term) site (remembers r.status r.memo) now)) r.children now) (λ ms1. remembered status.Running r.memo ms1) (λ memo1 ms1 s1. ruled site status.Running memo1 ms1 s1))) memory_parts

  -- ---- The rule

  abbrev rule_of : Result ℕ NodeFault → Done Given (List Memory)
  rule_of r = follow (ends r ms now) (λ ms1. ms1) (λ place ms1 s1. rule (kind_of term) (length site.node.children) memo place s1.moment (children_of site) ms1 s1)

  abbrev after_rule : Done Given (List Memory) → Done Answer Memory
  after_rule d = follow d (λ ms1. remembered st memo ms1) (λ g ms1 s1. ended site st g ms1 s1)

  ruled_so : has_rule (kind_of term) ≡ true → (r : Result ℕ NodeFault) → r ≡ or_bad_port uid (picked (kind_of term) site memo now) → ruled_in nodes moment term view uid s ≡ after_rule (rule_of r)
  ruled_so with_rule r is = ap after_rule (node_rule_is (kind_of term) site st memo ms now with_rule ∙ ap rule_of (sym is))

  -- with what is picked, the rule begins
  pub rule_begins : has_rule (kind_of term) ≡ true → (place : ℕ) → Ok place ≡ or_bad_port uid (picked (kind_of term) site memo now) →
      ruled_in nodes moment term view uid s ≡ goes_by nodes moment term view uid s (rest (kind_of term) (number term) moment memo (Begin place))
  rule_begins with_rule place is =
      ruled_so with_rule (Ok place) is
      ∙ ap (λ (n : ℕ). after_rule (rule (kind_of term) n memo place moment (children_of site) ms now)) (length-map (out-Term term).children meaning)

  -- a bad port ends the visit
  pub rule_faults : has_rule (kind_of term) ≡ true → (f : NodeFault) → Err f ≡ or_bad_port uid (picked (kind_of term) site memo now) → ruled_in nodes moment term view uid s ≡ ends (Err f) (memory_of term uid s.kept) now
  rule_faults with_rule f is = ruled_so with_rule (Err f) is ∙ ap (λ (m : Memory). ends (Err f) m now) (sym (memory_out term uid s.kept))

picked_so : (uid : ℕ) (place : ℕ) (r : Result ℕ NumericPort) → Ok place ≡ or_bad_port uid r → r ≡ Ok place
picked_so uid place (Ok p) is = cc
picked_so uid place (Err p) is = cc

-- a node with children goes on by its moves
pub follows_on : (nodes : List Node) (moment : ℕ) (term : Term) (view : View) (uid : ℕ) (s : Scene) (n : List Note) → CanFollow nodes moment term view uid s → has_rule (kind_of term) ≡ true → (place : ℕ) →
    Ok place ≡ or_bad_port uid (picked (kind_of term) (site nodes moment term view uid s) (memo nodes moment term view uid s) (now nodes moment term view uid s)) →
    GoesTo nodes moment term view uid (Ok (turn.GoOn (record { uid = uid; memo = (kept_at s.kept uid).memo; heard = Begin place }))) s s n n (ruled_in nodes moment term view uid s)
follows_on nodes moment term view uid s n follow with_rule place is =
    let next : Done Answer Memory = goes_by nodes moment term view uid s (rest (kind_of term) (number term) moment (kept_at s.kept uid).memo (Begin place)) in
    record {
      next = next;
      does = record {
        here = refl;
        can = follow.can;
        ruled = with_rule;
        fits = follow.begins with_rule place (picks_so (kind_of term) (site nodes moment term view uid s) (kept_at s.kept uid).memo (state_in nodes s moment) place (picked_so uid place _ is));
        next_is = refl;
      };
      comes = comes_same nodes s s n (ruled_in nodes moment term view uid s) next refl (rule_begins nodes moment term view uid s with_rule place is);
    }

-- ---- What comes after a script of the node

module _ (nodes : List Node) (moment : ℕ) (term : Term) (view : View) (uid : ℕ) (s s1 : Scene) (n : List Note) (kept_same : s1.kept ≡ s.kept) (drivers_same : s1.drivers ≡ s.drivers) where
  module _ {A : Type 0} (d : Done A (Unit {0})) (go : A → Unit {0} → State → Done Answer Memory) where
    -- the script ran, and what comes after it is still to come
    pub script_made : (a : A) → Settles (Ok a) (state_in nodes s1 moment) d → Comes nodes s s1 n n (follow d (λ _. memory_in term uid s) go) (go a tt (state_in nodes s1 moment))
    script_made a k = part_made nodes moment (λ (_ : List Kept). tt) s s1 n n d (λ _. memory_in term uid s) go a (settles_met nodes moment tt (Ok a) s s1 n d drivers_same k)

    -- the script ended with a fault or for want of memory
    pub script_stopped : (e : Stop NodeFault) → Settles {A = A} (Err e) (state_in nodes s1 moment) d → Meets {A = Answer} nodes moment (memory_of term uid) (Err e) s s1 n n (follow d (λ _. memory_in term uid s) go)
    script_stopped e k =
        stopped nodes moment (λ (_ : List Kept). tt) (memory_of term uid) s s1 n n d (λ _. memory_in term uid s) go e (ap (λ (kept : List Kept). memory_of term uid kept) (sym kept_same))
        (settles_met nodes moment tt (Err e) s s1 n d drivers_same k)

-- ---- What holds after a script

pub number_few : (ts : List Term) → length ts ≤ all_sizes ts
number_few [] = omega arith
number_few (c ∷ cs) = omega (arith, number_few cs, sizes_cons c cs, size_out c)

module _ (keeps : (t : Term) → Keeps (meaning t) (Sound t)) (nodes : List Node) (moment : ℕ) (term : Term) (view : View) (uid : ℕ) where
  -- with another board of as many slots, the node can still go on
  pub still_can : (kept : List Kept) (board board1 : List (Option Value)) (facts : List ℤ) (drivers : List DriverState) → length board1 ≡ length board →
      CanVisit nodes moment term view uid (scene kept board facts drivers) → CanVisit nodes moment term view uid (scene kept board1 facts drivers)
  still_can kept board board1 facts drivers slots can = record {
    fits = record { stands = can.fits.stands; few = can.fits.few; marks = can.fits.marks; leaves = can.fits.leaves; slots = slots ∙ can.fits.slots; facts = can.fits.facts };
    sound = (keeps term).moves view.rows None uid (memory_of term uid kept) (state_in nodes (scene kept board facts drivers) moment) (state_in nodes (scene kept board1 facts drivers) moment) can.sound (λ p low high. refl) (omega arith);
    dated = can.dated;
  }

  module _ (s : Scene) (can : CanVisit nodes moment term view uid s) where
    pub can_go : CanGoOn nodes moment term view uid s
    can_go = record { fits = can.fits; sound = (sound_opened term view.rows uid s.kept (state_in nodes s moment) can.sound).1; dated = can.dated }

    abbrev here_statuses : List Status
    here_statuses = statuses (children_in term uid s.kept)

    as_many_here : length here_statuses ≡ number term
    as_many_here = as_many_statuses (terms keeps) view (out-Term term).children (uid + 1) (children_in term uid s.kept) (state_in nodes s moment) can_go.sound

    few_here : number term < 2 ^ 30
    few_here = omega (arith, number_few (out-Term term).children, size_out term, stands_within term nodes view uid can.fits.stands, can.fits.few)

    begins_by : (memo : Memo) → Begins (kind_of term) (out-Term term).ports moment memo here_statuses → CanBegin (kind_of term) (number term) memo
    begins_by memo begins = begins_so (out-Term term).ports moment (number term) here_statuses (sym as_many_here) few_here (kind_of term) memo (node_fits can.fits).children (node_fits can.fits).ports begins

    -- a RUNNING node can apply its rule
    pub can_run : (kept_at s.kept uid).status ≡ status.Running → CanFollow nodes moment term view uid s
    can_run runs =
        let here = sound_opened term view.rows uid s.kept (state_in nodes s moment) can.sound in
        let shape : RunningShape (kind_of term) (out-Term term).ports (row_of view.rows (out-Term term).id) moment (kept_at s.kept uid).memo here_statuses =
        subst (λ (x : Status). Shape x (kind_of term) (out-Term term).ports (row_of view.rows (out-Term term).id) moment (kept_at s.kept uid).memo here_statuses) runs here.0.shape in
        record {
          can = can_go;
          begins = λ with_rule. begins_by (kept_at s.kept uid).memo (running_begins (kind_of term) (out-Term term).ports (row_of view.rows (out-Term term).id) moment (kept_at s.kept uid).memo here_statuses with_rule shape);
          held = λ alone. here.0.held;
        }

    resting_shape : (x : Status) (memo : Memo) → is_running x ≡ false → Shape x (kind_of term) (out-Term term).ports (row_of view.rows (out-Term term).id) moment memo here_statuses → RestingShape (out-Term term).ports moment memo (kind_of term) here_statuses
    resting_shape status.Running memo e shape = cc
    resting_shape status.Idle memo e shape = shape
    resting_shape status.Success memo e shape = shape
    resting_shape status.Failure memo e shape = shape

    rests_so : is_running (kept_at s.kept uid).status ≡ false → RestingShape (out-Term term).ports moment (kept_at s.kept uid).memo (kind_of term) here_statuses
    rests_so rests = resting_shape (kept_at s.kept uid).status (kept_at s.kept uid).memo rests (sound_opened term view.rows uid s.kept (state_in nodes s moment) can.sound).0.shape

    -- a node that does not start can apply its rule
    pub can_keep : is_running (kept_at s.kept uid).status ≡ false → starts (kind_of term) (kept_at s.kept uid).memo ≡ false → CanFollow nodes moment term view uid s
    can_keep rests none = record {
      can = can_go;
      begins = λ with_rule. begins_by (kept_at s.kept uid).memo (kept_begins (kind_of term) (out-Term term).ports moment (kept_at s.kept uid).memo here_statuses with_rule none (rests_so rests));
      held = λ alone. (sound_opened term view.rows uid s.kept (state_in nodes s moment) can.sound).0.held;
    }

    -- the memo with which a node starts
    pub starts_so : is_running (kept_at s.kept uid).status ≡ false → starts (kind_of term) (kept_at s.kept uid).memo ≡ true → (memo : Memo) →
        Ok memo ≡ or_bad_port uid (new_memo (kind_of term) (site_at view uid term) (remembers (kept_at s.kept uid).status (kept_at s.kept uid).memo) (state_in nodes s moment)) → CanBegin (kind_of term) (number term) memo
    starts_so rests start memo is =
        let site = site_at view uid term in
        let all : length site.node.children ≡ length here_statuses = length-map (out-Term term).children meaning ∙ sym as_many_here in
        let old : Memo = remembers (kept_at s.kept uid).status (kept_at s.kept uid).memo in
        let shape = remembered_shape (kept_at s.kept uid).status (out-Term term).ports moment (kept_at s.kept uid).memo (kind_of term) here_statuses (rests_so rests) in
        let begins = starts_begin site old (state_in nodes s moment) here_statuses all (kind_of term) (starts_with_rule (kind_of term) (kept_at s.kept uid).memo start) shape in
        begins_by memo (given_so (new_memo (kind_of term) site old (state_in nodes s moment)) is begins)
      where
        given_so : (r : Result Memo NumericPort) → Ok memo ≡ or_bad_port uid r → IfOk r (λ m. Begins (kind_of term) (out-Term term).ports moment m here_statuses) → Begins (kind_of term) (out-Term term).ports moment memo here_statuses
        given_so (Ok m) is begins = let same : m ≡ memo = cc in subst (λ (x : Memo). Begins (kind_of term) (out-Term term).ports moment x here_statuses) same begins
        given_so (Err p) is begins = cc

-- ---- A rule that is applied

-- the node of a term, with the meanings of its children
abbrev pub as_node : Term → Term-F Meaning
as_node term = map-Term Term Meaning meaning (out-Term term)

-- the node in the arena is that of the term
pub node_here : (term : Term) (view : View) (uid : ℕ) (nodes : List Node) (s : Scene) → Fits term view uid nodes s → (node : Node) → node ≡ node_at nodes uid →
    IsNode view (written (map-Term Term Meaning meaning (out-Term term))) (1 + sizes (map meaning (out-Term term).children)) node
node_here term view uid nodes s fits node is =
    subst (λ (n : Node). IsNode view (written (map-Term Term Meaning meaning (out-Term term))) (1 + sizes (map meaning (out-Term term).children)) n) (sym is) (fits_here term view uid nodes s fits).node

-- its guards, where they are lent, are compiled for those of the term
pub guards_here : (term : Term) (view : View) (uid : ℕ) (nodes : List Node) (s : Scene) → Fits term view uid nodes s → (node : Node) → node ≡ node_at nodes uid →
    (lent : ReadyGuards) → lent ≡ node.guards → AreCompiled view (written (map-Term Term Meaning meaning (out-Term term))).guards lent
guards_here term view uid nodes s fits node is lent is_lent =
    subst (AreCompiled view (written (map-Term Term Meaning meaning (out-Term term))).guards) (sym is_lent) (node_here term view uid nodes s fits node is).guards

module _ {nodes : List Node} {moment : ℕ} {term : Term} {view : View} {uid : ℕ} {s : Scene} (follow : CanFollow nodes moment term view uid s) where
  pub alone_here : (node : Node) → node ≡ node_at nodes uid → (kind : Bool) → kind ≡ has_rule node.kind → has_rule (kind_of term) ≡ kind
  alone_here node is b e = ap has_rule (sym (ap (λ (n : Node). n.kind) is ∙ kind_is follow.can.fits)) ∙ sym e

  -- a leaf is called in its phase
  pub phase_here : has_rule (kind_of term) ≡ false → (leaf : ReadyLeaf) → leaf_at nodes uid ≡ Some leaf → IsInPhase (kept_at s.kept uid).status (instance_at s.drivers leaf.driver leaf.instance) moment
  phase_here alone leaf is =
      let kind : kind_of term ≡ Leaf = leaf_kind view (written (out-Term term)) (leaf_at nodes uid) leaf is (opened term nodes view uid follow.can.fits.stands).1.leaf in
      in_phase nodes s moment uid leaf is follow.can.dated (kept_at s.kept uid).status (follow.held alone ∙ ap (λ (k : Kind). Some (is_held (kept_at s.kept uid).status k)) kind)

  -- the visit of a node without children is at its end
  pub alone_goes : (r : Result Answer (Stop NodeFault)) (s1 : Scene) (n0 n1 : List Note) → StaysFit nodes s s1 → Beside uid 1 s.kept s1.kept →
      Meets nodes moment (memory_of term uid) r s s1 n0 n1 (ruled_in nodes moment term view uid s) → Goes nodes moment term view uid (back_with r) s s1 n0 n1 (ruled_in nodes moment term view uid s)
  alone_goes r s1 n0 n1 stays beside m = record {
    ends = ends_so nodes moment term view uid s s s1 n0 n0 n1 (ruled_in nodes moment term view uid s) (ruled_in nodes moment term view uid s) r (comes_same nodes s s n0 (ruled_in nodes moment term view uid s) (ruled_in nodes moment term view uid s) refl refl) m;
    beside = beside_more beside (omega arith) (omega (arith, size_out term));
    stays = stays;
  }

  module _ (with_rule : has_rule (kind_of term) ≡ true) where
    -- a node with children goes on by its moves
    pub goes_follow : (n : List Note) (place : ℕ) → Ok place ≡ or_bad_port uid (picked (kind_of term) (site_at view uid term) (kept_at s.kept uid).memo (state_in nodes s moment)) →
        Goes nodes moment term view uid (Ok (turn_after uid s.kept (entered.GoesOn (Begin place)))) s s n n (ruled_in nodes moment term view uid s)
    goes_follow n place is = record {
      ends = follows_on nodes moment term view uid s n follow with_rule place is;
      beside = beside_none uid (meaning term).size s.kept;
      stays = λ t v u fits. fits;
    }

    -- a bad port ends the visit of such a node
    pub goes_fault : (n : List Note) (f : NodeFault) → Err f ≡ or_bad_port uid (picked (kind_of term) (site_at view uid term) (kept_at s.kept uid).memo (state_in nodes s moment)) →
        Goes nodes moment term view uid (Err (stop.Fault f)) s s n n (ruled_in nodes moment term view uid s)
    goes_fault n f is = record {
      ends = faulted nodes moment term uid s s n f (ruled_in nodes moment term view uid s) refl (rule_faults nodes moment term view uid s with_rule f is);
      beside = beside_none uid (meaning term).size s.kept;
      stays = λ t v u fits. fits;
    }

    -- and its first turn is less than its visit
    pub begin_less : (place : ℕ) → Ok place ≡ or_bad_port uid (picked (kind_of term) (site_at view uid term) (kept_at s.kept uid).memo (state_in nodes s moment)) →
        1 + left_of (node_at nodes uid) (kept_at s.kept uid).memo 0 < cost (node_at nodes uid).size
    begin_less place is =
        let memo : Memo = (kept_at s.kept uid).memo in
        let pick : CanPick (kind_of term) place = picks_so (kind_of term) (site_at view uid term) memo (state_in nodes s moment) place (picked_so uid place _ is) in
        let fits : FitsStart (kind_of term) (number term) memo place = follow.begins with_rule place pick in
        let many : number term < 2 ^ 30 = omega (arith, number_few (out-Term term).children, size_out term, stands_within term nodes view uid follow.can.fits.stands, follow.can.fits.few) in
        let few : visits_left (node_at nodes uid).kind (node_at nodes uid).children memo 0 ≤ 2 ^ 32 + 1 =
        subst (λ (kd : Kind). visits_left kd (node_at nodes uid).children memo 0 ≤ 2 ^ 32 + 1) (sym (kind_is follow.can.fits))
        (subst (λ (m : ℕ). visits_left (kind_of term) m memo 0 ≤ 2 ^ 32 + 1) (sym (number_is follow.can.fits)) (visits_few (kind_of term) (number term) memo place many fits)) in
        begins_less (node_at nodes uid) memo 0 (omega (arith, size_is follow.can.fits, size_out term)) few

-- ---- A part of a visit, and the part after it

-- a turn, after what was done before
pub goes_after : (nodes : List Node) (moment : ℕ) (term : Term) (view : View) (uid : ℕ) (r : Result Turn (Stop NodeFault)) (s0 s1 s2 : Scene) (n0 n1 n2 : List Note) (d e : Done Answer Memory) →
    Comes nodes s0 s1 n0 n1 d e → Beside uid (meaning term).size s0.kept s1.kept → StaysFit nodes s0 s1 → Goes nodes moment term view uid r s1 s2 n1 n2 e → Goes nodes moment term view uid r s0 s2 n0 n2 d
goes_after nodes moment term view uid (Ok t) s0 s1 s2 n0 n1 n2 d e k beside stays goes = record {
  ends = record { next = goes.ends.next; does = goes.ends.does; comes = comes_both nodes s0 s1 s2 n0 n1 n2 d e goes.ends.next k goes.ends.comes };
  beside = beside_both beside goes.beside (omega arith) (omega arith) (omega arith) (omega arith);
  stays = λ t v u fits. goes.stays t v u (stays t v u fits);
}
goes_after nodes moment term view uid (Err x) s0 s1 s2 n0 n1 n2 d e k beside stays goes = record {
  ends = met_after nodes moment (memory_of term uid) s0 s1 s2 n0 n1 n2 d e (Err x) k goes.ends;
  beside = beside_both beside goes.beside (omega arith) (omega arith) (omega arith) (omega arith);
  stays = λ t v u fits. goes.stays t v u (stays t v u fits);
}

-- scripts do not change what the nodes keep
module _ (nodes : List Node) (moment : ℕ) (term : Term) (view : View) (uid : ℕ) (kept : List Kept) (board board1 : List (Option Value)) (facts : List ℤ) (drivers : List DriverState) (n : List Note) (slots : length board1 ≡ length board) where
  abbrev before : Scene
  before = scene kept board facts drivers

  abbrev after_script : Scene
  after_script = scene kept board1 facts drivers

  pub script_stays : StaysFit nodes before after_script
  script_stays = λ t v u fits. record { stands = fits.stands; few = fits.few; marks = fits.marks; leaves = fits.leaves; slots = slots ∙ fits.slots; facts = fits.facts }

  pub script_beside : Beside uid (meaning term).size before.kept after_script.kept
  script_beside = beside_none uid (meaning term).size kept

  module _ {A : Type 0} (d : Done A (Unit {0})) (go : A → Unit {0} → State → Done Answer Memory) (is : visit_in nodes moment term view uid before ≡ follow d (λ _. memory_in term uid before) go) where
    -- a script of the node ended with a fault or for want of memory
    pub script_ends : (e : Stop NodeFault) → Settles {A = A} (Err e) (state_in nodes after_script moment) d → Goes nodes moment term view uid (Err e) before after_script n n (visit_in nodes moment term view uid before)
    script_ends e k = record {
      ends = subst (λ (x : Done Answer Memory). Meets {A = Answer} nodes moment (memory_of term uid) (Err e) before after_script n n x) (sym is) (script_stopped nodes moment term view uid before after_script n refl refl d go e k);
      beside = script_beside;
      stays = script_stays;
    }

    -- a script of the node ran, and this comes after it
    pub script_goes : (a : A) → Settles (Ok a) (state_in nodes after_script moment) d → (e : Done Answer Memory) → go a tt (state_in nodes after_script moment) ≡ e →
        (r : Result Turn (Stop NodeFault)) (s2 : Scene) (n2 : List Note) → Goes nodes moment term view uid r after_script s2 n n2 e → Goes nodes moment term view uid r before s2 n n2 (visit_in nodes moment term view uid before)
    script_goes a k e is_next r s2 n2 goes =
        goes_after nodes moment term view uid r before after_script s2 n n n2 (visit_in nodes moment term view uid before) e
        (subst (λ (x : Done Answer Memory). Comes nodes before after_script n n x e) (sym is)
        (subst (λ (x : Done Answer Memory). Comes nodes before after_script n n (follow d (λ _. memory_in term uid before) go) x) is_next (script_made nodes moment term view uid before after_script n refl refl d go a k)))
        script_beside script_stays goes

-- ---- A RUNNING node that does not go on

-- the halt was made, and the node answers SKIPPED
pub halt_goes : (nodes : List Node) (moment : ℕ) (term : Term) (view : View) (uid : ℕ) (s s1 : Scene) (n0 n1 : List Note) → Beside uid (meaning term).size s.kept s1.kept → StaysFit nodes s s1 →
    Meets nodes moment (memory_of term uid) (Ok tt) s s1 n0 n1 (halt (site_at view uid term) (memory_in term uid s) (state_in nodes s moment)) →
    Goes nodes moment term view uid (Ok (turn.Back answer.Skipped)) s s1 n0 n1 (continued false (site_at view uid term) (memory_in term uid s) (state_in nodes s moment))
halt_goes nodes moment term view uid s s1 n0 n1 beside stays m = record {
  ends = record {
    next = done answer.Skipped (memory_in term uid s1) (state_in nodes s1 moment);
    does = refl;
    comes = part_made nodes moment (memory_of term uid) s s1 n0 n1 (halt (site_at view uid term) (memory_in term uid s) (state_in nodes s moment)) (λ m1. m1) (λ _ m1 x. done answer.Skipped m1 x) tt m;
  };
  beside = beside;
  stays = stays;
}

pub halt_stops : (nodes : List Node) (moment : ℕ) (term : Term) (view : View) (uid : ℕ) (s s1 : Scene) (n0 n1 : List Note) (e : Stop NodeFault) → Beside uid (meaning term).size s.kept s1.kept → StaysFit nodes s s1 →
    Meets {A = Unit {0}} nodes moment (memory_of term uid) (Err e) s s1 n0 n1 (halt (site_at view uid term) (memory_in term uid s) (state_in nodes s moment)) →
    Goes nodes moment term view uid (Err e) s s1 n0 n1 (continued false (site_at view uid term) (memory_in term uid s) (state_in nodes s moment))
halt_stops nodes moment term view uid s s1 n0 n1 e beside stays m = record {
  ends = stopped nodes moment (memory_of term uid) (memory_of term uid) s s1 n0 n1 (halt (site_at view uid term) (memory_in term uid s) (state_in nodes s moment)) (λ m1. m1) (λ _ m1 x. done answer.Skipped m1 x) e refl m;
  beside = beside;
  stays = stays;
}

-- ---- The scripts before a rule

module _ (nodes : List Node) (moment : ℕ) (term : Term) (view : View) (uid : ℕ) (kept : List Kept) (board board1 : List (Option Value)) (facts : List ℤ) (drivers : List DriverState) (n : List Note) (slots : length board1 ≡ length board) where
  abbrev first : Scene
  first = scene kept board facts drivers

  abbrev second : Scene
  second = scene kept board1 facts drivers

  abbrev its : Site
  its = site_at view uid term

  abbrev m : Memory
  m = memory_of term uid kept

  module _ (runs : (kept_at kept uid).status ≡ status.Running) where
    pub resume_ends : (e : Stop NodeFault) → Settles {A = Bool} (Err e) (state_in nodes second moment) (goes_on its (state_in nodes first moment)) → Goes nodes moment term view uid (Err e) first second n n (visit_in nodes moment term view uid first)
    resume_ends e k =
        script_ends nodes moment term view uid kept board board1 facts drivers n slots (goes_on its (state_in nodes first moment)) (λ b _ x. continued b its m x) (running_visit nodes moment term view uid first runs) e k

    pub resume_goes : (b : Bool) → Settles (Ok b) (state_in nodes second moment) (goes_on its (state_in nodes first moment)) → (e : Done Answer Memory) → continued b its m (state_in nodes second moment) ≡ e →
        (r : Result Turn (Stop NodeFault)) (s2 : Scene) (n2 : List Note) → Goes nodes moment term view uid r second s2 n n2 e → Goes nodes moment term view uid r first s2 n n2 (visit_in nodes moment term view uid first)
    resume_goes b k e is r s2 n2 goes =
        script_goes nodes moment term view uid kept board board1 facts drivers n slots (goes_on its (state_in nodes first moment)) (λ x _ y. continued x its m y) (running_visit nodes moment term view uid first runs) b k e is r s2 n2 goes

    pub again_so : (b : Bool) → b ≡ true → continued b its m (state_in nodes second moment) ≡ ruled_in nodes moment term view uid second
    again_so b is =
        ap (λ (x : Bool). continued x its m (state_in nodes second moment)) is
        ∙ goes_again nodes moment term view uid second
        ∙ ap (λ (x : Status). ruled its x (kept_at kept uid).memo (children_in term uid kept) (state_in nodes second moment)) (sym runs)

    pub halts_so : (b : Bool) → b ≡ false → continued b its m (state_in nodes second moment) ≡ continued false its m (state_in nodes second moment)
    halts_so b is = ap (λ (x : Bool). continued x its m (state_in nodes second moment)) is

  module _ (rests : is_running (kept_at kept uid).status ≡ false) where
    pub begin_ends : (e : Stop NodeFault) → Settles {A = Option Answer} (Err e) (state_in nodes second moment) (guards_answer its (state_in nodes first moment)) → Goes nodes moment term view uid (Err e) first second n n (visit_in nodes moment term view uid first)
    begin_ends e k =
        script_ends nodes moment term view uid kept board board1 facts drivers n slots (guards_answer its (state_in nodes first moment)) (λ a _ x. guarded a its m x) (resting_visit nodes moment term view uid first rests) e k

    pub begin_goes : (a : Option Answer) → Settles (Ok a) (state_in nodes second moment) (guards_answer its (state_in nodes first moment)) → (e : Done Answer Memory) → guarded a its m (state_in nodes second moment) ≡ e →
        (r : Result Turn (Stop NodeFault)) (s2 : Scene) (n2 : List Note) → Goes nodes moment term view uid r second s2 n n2 e → Goes nodes moment term view uid r first s2 n n2 (visit_in nodes moment term view uid first)
    begin_goes a k e is r s2 n2 goes =
        script_goes nodes moment term view uid kept board board1 facts drivers n slots (guards_answer its (state_in nodes first moment)) (λ x _ y. guarded x its m y) (resting_visit nodes moment term view uid first rests) a k e is r s2 n2 goes

  module _ (o : Option Answer) where
    -- a guard has answered
    pub answers_so : (a : Answer) → o ≡ Some a → (memo : Memo) → memo ≡ remembers (kept_at kept uid).status (kept_at kept uid).memo →
        guarded o its m (state_in nodes second moment) ≡ ended its (kept_at kept uid).status (record { answer = a; memo = memo }) (children_in term uid kept) (state_in nodes second moment)
    answers_so a is left same =
        ap (λ (x : Option Answer). guarded x its m (state_in nodes second moment)) is
        ∙ guard_answers nodes moment term view uid second a
        ∙ ap (λ (x : Memo). ended its (kept_at kept uid).status (record { answer = a; memo = x }) (children_in term uid kept) (state_in nodes second moment)) (sym same)

    -- no guard has answered, and the node does not start
    pub keeps_so : o ≡ None → starts (kind_of term) (kept_at kept uid).memo ≡ false → guarded o its m (state_in nodes second moment) ≡ ruled_in nodes moment term view uid second
    keeps_so is none =
        ap (λ (x : Option Answer). guarded x its m (state_in nodes second moment)) is ∙ none_answers nodes moment term view uid second false none ∙ begins_kept nodes moment term view uid second

    -- no guard has answered, and the node starts
    pub begins_so_far : o ≡ None → starts (kind_of term) (kept_at kept uid).memo ≡ true → guarded o its m (state_in nodes second moment) ≡ started_in nodes moment term view uid second
    begins_so_far is start =
        ap (λ (x : Option Answer). guarded x its m (state_in nodes second moment)) is ∙ none_answers nodes moment term view uid second true start

-- a guard's answer ends the visit
pub ended_goes : (nodes : List Node) (moment : ℕ) (term : Term) (view : View) (uid : ℕ) (r : Result Answer (Stop NodeFault)) (s s1 : Scene) (n0 n1 : List Note) (d : Done Answer Memory) → StaysFit nodes s s1 → Beside uid 1 s.kept s1.kept →
    Meets nodes moment (memory_of term uid) r s s1 n0 n1 d → Goes nodes moment term view uid (back_with r) s s1 n0 n1 d
ended_goes nodes moment term view uid r s s1 n0 n1 d stays beside k = record {
  ends = ends_so nodes moment term view uid s s s1 n0 n0 n1 d d r (comes_same nodes s s n0 d d refl refl) k;
  beside = beside_more beside (omega arith) (omega (arith, size_out term));
  stays = stays;
}

-- ---- A start

-- whether a node starts, as the code reads it
pub starts_here : {term : Term} {view : View} {uid : ℕ} {nodes : List Node} {s : Scene} (fits : Fits term view uid nodes s) (node : Node) → node ≡ node_at nodes uid →
    (b : Bool) → b ≡ starts node.kind (kept_at s.kept uid).memo → starts (kind_of term) (kept_at s.kept uid).memo ≡ b
starts_here {uid = uid} {s = s} fits node is b e = ap (λ (k : Kind). starts k (kept_at s.kept uid).memo) (sym (ap (λ (n : Node). n.kind) is ∙ kind_is fits)) ∙ sym e

changes : (uid : ℕ) (st : Status) → is_running st ≡ false → change uid st status.Running ≡ Changed uid st status.Running ∷ []
changes uid status.Running e = cc
changes uid status.Idle e = refl
changes uid status.Success e = refl
changes uid status.Failure e = refl

module _ (keeps : (t : Term) → Keeps (meaning t) (Sound t)) (nodes : List Node) (moment : ℕ) (term : Term) (view : View) (uid : ℕ) (kept kept1 : List Kept) (board : List (Option Value)) (facts : List ℤ) (drivers : List DriverState) (n0 n1 : List Note)
    (can : CanVisit nodes moment term view uid (scene kept board facts drivers)) (rests : is_running (kept_at kept uid).status ≡ false)
    (noted : n1 ≡ n0 ++ Changed uid (kept_at kept uid).status status.Running ∷ []) (is1 : kept1 ≡ slice_set kept uid (record (kept_at kept uid) { status = status.Running })) where
  abbrev s0 : Scene
  s0 = scene kept board facts drivers

  abbrev s1 : Scene
  s1 = scene kept1 board facts drivers

  abbrev old : Kept
  old = kept_at kept uid

  there : uid < length kept
  there = omega (arith, node_there can.fits, as_many_kept can.fits)

  here1 : kept_at kept1 uid ≡ record old { status = status.Running }
  here1 = ap (λ (ks : List Kept). kept_at ks uid) is1 ∙ get_or-set_same kept uid (record old { status = status.Running }) at_rest there

  children1 : children_in term uid kept1 ≡ children_in term uid kept
  children1 = children_same kept kept1 uid (record old { status = status.Running }) is1 (out-Term term).children

  stays1 : StaysFit nodes s0 s1
  stays1 = stays_fit nodes uid (record old { status = status.Running }) s0 s1 is1 refl refl refl refl

  -- what a start from this memo comes to
  abbrev starting : Memo → Result Memo NodeFault
  starting m = or_bad_port uid (new_memo (kind_of term) (site_at view uid term) (remembers old.status m) (state_in nodes s0 moment))

  memo_read : starting (kept_at kept1 uid).memo ≡ starting old.memo
  memo_read = ap (λ (k : Kept). starting k.memo) here1

  abbrev after_start : Result Memo NodeFault → Done Answer Memory
  after_start r =
      follow (ends r (children_in term uid kept) (state_in nodes s0 moment)) (λ ms1. remembered status.Running old.memo ms1) (λ memo1 ms1 x. ruled (site_at view uid term) status.Running memo1 ms1 x)

  -- the start reads the memo after the change of status
  started_as : (r : Result Memo NodeFault) → r ≡ starting (kept_at kept1 uid).memo →
      started_in nodes moment term view uid s0 ≡ following (Changed uid old.status status.Running ∷ []) [] (after_start r)
  started_as r is =
      starts_with nodes moment term view uid s0
      ∙ ap (λ (ns : List Note). following ns [] (after_start (starting old.memo))) (changes uid old.status rests)
      ∙ ap (λ (x : Result Memo NodeFault). following (Changed uid old.status status.Running ∷ []) [] (after_start x)) (sym (is ∙ memo_read))

  module _ (kept2 : List Kept) (memo : Memo) (is2 : kept2 ≡ slice_set kept1 uid (record (kept_at kept1 uid) { memo = memo })) where
    abbrev s2 : Scene
    s2 = scene kept2 board facts drivers

    there1 : uid < length kept1
    there1 = omega (arith, there, (beside_one kept kept1 uid (record old { status = status.Running }) is1).as_many)

    pub here2 : kept_at kept2 uid ≡ record { status = status.Running; memo = memo; held = old.held }
    here2 =
        ap (λ (ks : List Kept). kept_at ks uid) is2 ∙ get_or-set_same kept1 uid (record (kept_at kept1 uid) { memo = memo }) at_rest there1
        ∙ ap (λ (x : Kept). record x { memo = memo }) here1

    children2 : children_in term uid kept2 ≡ children_in term uid kept
    children2 = children_same kept1 kept2 uid (record (kept_at kept1 uid) { memo = memo }) is2 (out-Term term).children ∙ children1

    start_stays : StaysFit nodes s0 s2
    start_stays = λ t v u fits. stays_fit nodes uid (record (kept_at kept1 uid) { memo = memo }) s1 s2 is2 refl refl refl refl t v u (stays1 t v u fits)

    -- a bad port: the node has become RUNNING, and nothing else was done
    pub start_faults : (f : NodeFault) → Err f ≡ starting (kept_at kept1 uid).memo → memo ≡ (kept_at kept1 uid).memo →
        Starts nodes moment term view uid (Err (stop.Fault f)) s0 s2 n0 n1
    start_faults f is same =
        let as_old : memo ≡ old.memo = same ∙ ap (λ (k : Kept). k.memo) here1 in
        subst (λ (x : Done Answer Memory). IsMade nodes moment (memory_of term uid) (Err f) s0 s2 n0 n1 x) (sym (started_as (Err f) is))
        (record {
          answer = refl;
          memory = (λ i. remembered status.Running (sym as_old i) (sym children2 i)) ∙ ap (λ (k : Kept). remembered k.status k.memo (children_in term uid kept2)) (sym here2) ∙ sym (memory_out term uid kept2);
          state = refl;
          notes = noted;
          drivers = refl;
        })

    -- the node has started, and its rule is still to come
    pub start_made : starts (kind_of term) old.memo ≡ true → Ok memo ≡ starting (kept_at kept1 uid).memo → Starts nodes moment term view uid (Ok tt) s0 s2 n0 n1
    start_made start is = (
      record {
        can = record {
          fits = start_stays term view uid can.fits;
          sound = subst (λ (x : List Memory). ChildrenSound term view uid x (state_in nodes s0 moment)) (sym children2) (can_go keeps nodes moment term view uid s0 can).sound;
          dated = can.dated;
        };
        begins = λ with_rule. subst (λ (x : Kept). CanBegin (kind_of term) (number term) x.memo) (sym here2) (starts_so keeps nodes moment term view uid s0 can rests start memo (is ∙ memo_read));
        held = λ alone. absurd (not_both (has_rule (kind_of term)) (starts_with_rule (kind_of term) old.memo start) alone);
      },
      record {
        told = Changed uid old.status status.Running ∷ [];
        made = [];
        all = started_as (Ok memo) is ∙ (λ i. following (Changed uid old.status status.Running ∷ []) [] (ruled (site_at view uid term) (sym here2 i).status (sym here2 i).memo (sym children2 i) (state_in nodes s0 moment)));
        named = refl;
        notes = noted;
        drivers = refl;
      },
    )
      where
        not_both : (b : Bool) → b ≡ true → b ≡ false → ⊥
        not_both b holds fails = cc

-- there was want of memory for the note
pub starts_stopped : (nodes : List Node) (moment : ℕ) (term : Term) (view : View) (uid : ℕ) (s : Scene) (n0 n1 : List Note) (r : Result (Unit {0}) (Stop NodeFault)) → IsErrAnd r (λ x. x ≡ stop.NoMemory) → n1 ≡ n0 → Starts nodes moment term view uid r s s n0 n1
starts_stopped nodes moment term view uid s n0 n1 r is same =
    subst (λ (x : Result (Unit {0}) (Stop NodeFault)). Starts nodes moment term view uid x s s n0 n1) (sym (stops_with r stop.NoMemory is))
    (subst (λ (n : List Note). Starts nodes moment term view uid (Err stop.NoMemory) s s n0 n) (sym same) (none_told nodes s n0 (started_in nodes moment term view uid s)))

-- a change of status does not change the marks
stays_running : (nodes : List Node) (uid : ℕ) (kept kept1 : List Kept) (board : List (Option Value)) (facts : List ℤ) (drivers : List DriverState) → kept1 ≡ slice_set kept uid (record (kept_at kept uid) { status = status.Running }) →
    StaysFit nodes (scene kept board facts drivers) (scene kept1 board facts drivers)
stays_running nodes uid kept kept1 board facts drivers is = stays_fit nodes uid (record (kept_at kept uid) { status = status.Running }) (scene kept board facts drivers) (scene kept1 board facts drivers) is refl refl refl refl

-- nor does a change of the memo after it
pub stays_twice : (nodes : List Node) (uid : ℕ) (kept kept1 kept2 : List Kept) (board : List (Option Value)) (facts : List ℤ) (drivers : List DriverState) → kept1 ≡ slice_set kept uid (record (kept_at kept uid) { status = status.Running }) →
    (memo : Memo) → kept2 ≡ slice_set kept1 uid (record (kept_at kept1 uid) { memo = memo }) → StaysFit nodes (scene kept board facts drivers) (scene kept2 board facts drivers)
stays_twice nodes uid kept kept1 kept2 board facts drivers is memo is2 = λ t v u fits.
    stays_fit nodes uid (record (kept_at kept1 uid) { memo = memo }) (scene kept1 board facts drivers) (scene kept2 board facts drivers) is2 refl refl refl refl t v u (stays_running nodes uid kept kept1 board facts drivers is t v u fits)

-- a change of the node itself is a change among the nodes of its term
pub one_within : (term : Term) (uid : ℕ) (a b : List Kept) → Beside uid 1 a b → Beside uid (meaning term).size a b
one_within term uid a b k = beside_more k (omega arith) (omega (arith, size_out term))

-- a start ended with a fault or for want of memory
pub start_stops : (nodes : List Node) (moment : ℕ) (term : Term) (view : View) (uid : ℕ) (e : Stop NodeFault) (s s1 : Scene) (n0 n1 : List Note) → StaysFit nodes s s1 → Beside uid 1 s.kept s1.kept →
    Starts nodes moment term view uid (Err e) s s1 n0 n1 → Goes nodes moment term view uid (Err e) s s1 n0 n1 (started_in nodes moment term view uid s)
start_stops nodes moment term view uid e s s1 n0 n1 stays beside k = record { ends = k; beside = one_within term uid s.kept s1.kept beside; stays = stays }

-- ---- On a later stage

module _ {D P : Type 0} (states : D → List DriverState) {old new : Stage D P} (same : IsSame old new) (uid : ℕ) where
  -- the rule of a node can still be applied
  pub follow_later : (term : Term) (view : View) → CanFollow old.nodes.now old.moment term view uid (scene_on states new) → CanFollowOn states new uid term view
  follow_later term view follow = later same (λ nodes moment. CanFollow nodes moment term view uid (scene_on states new)) follow

  -- and what it does is the same
  pub follow_earlier : (r : Result Turn (Stop NodeFault)) →
      ((term : Term) (view : View) → CanFollowOn states new uid term view → TakesTurn states new new uid term view r (ruled_on states new uid term view)) →
      (term : Term) (view : View) → CanFollow old.nodes.now old.moment term view uid (scene_on states new) →
      Goes old.nodes.now old.moment term view uid r (scene_on states new) (scene_on states new) new.notes.now.list new.notes.now.list (ruled_in old.nodes.now old.moment term view uid (scene_on states new))
  follow_earlier r goes =
      earlier same (λ nodes moment. (term : Term) (view : View) → CanFollow nodes moment term view uid (scene_on states new) →
      Goes nodes moment term view uid r (scene_on states new) (scene_on states new) new.notes.now.list new.notes.now.list (ruled_in nodes moment term view uid (scene_on states new))) goes
