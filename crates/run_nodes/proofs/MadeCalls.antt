-- A call of a leaf's driver, compared with its definition, and what it leaves as it was.
use Rattle.std.proofs.Common.{◌≡◌, ℕ, List, [], ◌++◌, length, map, get_or, set, Bool, false, Option, Some, Result, Err, refl, sym, ap, subst, ◌∙◌, append-nil, arith}
use Rattle.std.specs.List.{All, IsDistinct}
use Rattle.std.specs.Str.{bytes_eq}
use Rattle.std.proofs.lemmas.List.{length-map}
use Rattle.std.specs.Prelude.{is_some}
use Rattle.std.proofs.Math.ListN.{get_or-map}
use Rattle.base_texts.specs.declared.stop.Stop.{Stop}
use Rattle.base_texts.specs.declared.stop.Stop.TheVariants as stop
use Rattle.spec_run.specs.declared.fault.NodeFault.{NodeFault}
use Rattle.spec_run.specs.declared.leaf.Instance.{Instance}
use Rattle.spec_run.specs.declared.leaf.Reply.{Reply}
use Rattle.spec_run.specs.declared.leaf.Reply.TheVariants as reply
use Rattle.spec_run.specs.declared.memory.Memory.{Memory}
use Rattle.spec_run.specs.declared.note.Note.{Note}
use Rattle.spec_run.specs.declared.status.Answer.{Answer}
use Rattle.spec_run.specs.declared.status.Answer.TheVariants as answer
use Rattle.spec_run.specs.declared.status.Status.{Status}
use Rattle.spec_tree.specs.declared.term.Term.{Term-F}
use Rattle.spec_run.specs.Done.{Done, State}
use Rattle.spec_run.specs.Drivers.{DriverState, is_held, roster_called}
use Rattle.spec_run.specs.Leaf.{Answered, Rule, fresh, is_told_way, padded, place_of, start_of}
use Rattle.base_tables.specs.Outputs.{outputs_given, since_after}
use Rattle.spec_run.specs.Leaves.{leaf_call, phase_of, replied, reply_answer, reply_notes, row_of}
use Rattle.spec_run.specs.Sites.{Meaning, View}
use Rattle.spec_run.specs.Steps.{Given}
use Rattle.spec_run.specs.Visit.{site_of}
use Rattle.spec_world.specs.Worlds.{is_told}
use Rattle.run_driver.specs.Ready.{is_ready_told}
use Rattle.run_driver.specs.Rules.{rule}
use Rattle.base_tables.proofs.Asked.{asked_since}
use Rattle.base_tables.proofs.Calls.{as_many_facts, held_while_running}
use Rattle.run_arena.specs.declared.nodes.Kept.{Kept}
use Rattle.run_arena.specs.declared.nodes.Node.{Node}
use Rattle.run_arena.specs.declared.nodes.ReadyLeaf.{ReadyLeaf}
use Rattle.run_arena.specs.Ends.{IsCut, IsMade, Meets, StaysFit}
use Rattle.run_arena.specs.Nodes.{at_rest, kept_at, leaf_at}
use Rattle.run_arena.specs.Noted.{calls_named}
use Rattle.run_arena.specs.Rosters.{AreServed, instances_of, leaf_instance}
use Rattle.run_arena.specs.Scenes.{Scene, marks_of, state_in}
use Rattle.run_arena.specs.declared.source.Source.{Source}
use Rattle.run_arena.specs.Sources.{IsSourceOf}
use Rattle.run_arena.proofs.Called.{instance_at_uid, instances_called, marks_called, roster_after_call, served_after}
use Rattle.run_nodes.specs.Calls.{CanBeCalled, IsInPhase, as_given, board_left, instance_kept, leaf_answer, mark_left, seen_inputs, values_held}
use Rattle.run_nodes.specs.Here.{FitsHere, in_stop}
use Rattle.run_nodes.proofs.Answering.{HasRow, answer_means, board_means, has_row, named_once, told_way}

-- nothing was done before there was want of memory
pub cut_before : {A M : Type 0} (nodes : List Node) (now : ℕ) (read : List Kept → M) (r : Result A (Stop NodeFault)) (s : Scene) (old new : List Note) (d : Done A M) →
    r ≡ Err stop.NoMemory → new ≡ old → Meets nodes now read r s s old new d
cut_before {A} {M} nodes now read r s old new d is same =
    let cut : IsCut nodes s s old new d = record { told = []; untold = d.notes; made = []; unmade = d.calls; all_notes = refl; all_calls = refl; named = refl; notes = same ∙ sym (append-nil old); drivers = refl } in
    subst (λ (r1 : Result A (Stop NodeFault)). Meets nodes now read r1 s s old new d) (sym is) cut

-- a mark says whether the instance is held
mark_is : (nodes : List Node) (kept : List Kept) (drivers : List DriverState) (uid : ℕ) → marks_of kept ≡ map is_held (instances_of nodes drivers) → (kept_at kept uid).held ≡ is_held (leaf_instance drivers (leaf_at nodes uid))
mark_is nodes kept drivers uid marks =
    sym (get_or-map (λ (k : Kept). k.held) kept uid at_rest)
    ∙ ap (λ (bs : List Bool). get_or bs uid false) marks
    ∙ get_or-map is_held (instances_of nodes drivers) uid fresh
    ∙ ap is_held (instance_at_uid nodes drivers uid)

-- a mark after a reply says whether the instance is held after it
mark_by : (r : Reply) (mark : Bool) (start : ℕ) (before : Option ℕ) → mark ≡ is_some before → mark_left r mark ≡ is_some (since_after r start before)
mark_by reply.Running mark start before right = refl
mark_by reply.Success mark start before right = refl
mark_by reply.Failure mark start before right = refl
mark_by (reply.Broken cause) mark start before right = right

-- a leaf of an arena with this status was called, and this was left
pub record WasCalled (nodes : List Node) (uid : ℕ) (leaf : ReadyLeaf) (now : ℕ) (status : Status) (a : Answered) (before after : Scene) : Type 0 where
  pub here : leaf_at nodes uid ≡ Some leaf
  pub answered : a ≡ leaf_answer leaf status before.board before.facts before.drivers now
  pub board : after.board ≡ board_left a.reply leaf (outputs_given a) before.board
  pub slots : length after.board ≡ length before.board
  pub facts : after.facts ≡ a.facts
  pub drivers : after.drivers ≡ roster_called before.drivers leaf.driver (phase_of status) leaf.instance a.instance
  pub kept : after.kept ≡ set before.kept uid (record (kept_at before.kept uid) { held = mark_left a.reply (kept_at before.kept uid).held })
  pub kept_status : status ≡ (kept_at before.kept uid).status

module _ (nodes : List Node) (uid : ℕ) (leaf : ReadyLeaf) (now : ℕ) (status : Status) (a : Answered) (before after : Scene) (was : WasCalled nodes uid leaf now status a before after) where
  abbrev instance : Instance
  instance = instance_kept leaf status before.board before.drivers

  -- ---- What stays

  mark_right : AreServed before.drivers nodes → marks_of before.kept ≡ map is_held (instances_of nodes before.drivers) → mark_left a.reply (kept_at before.kept uid).held ≡ is_held a.instance
  mark_right are marks =
      let inputs = padded (seen_inputs before.board leaf.inputs) in
      let since = asked_since (rule leaf.row).way (phase_of status) (values_held before.board leaf.inputs) (leaf_instance before.drivers (Some leaf)) in
      let right = mark_is nodes before.kept before.drivers uid marks ∙ ap (λ o. is_held (leaf_instance before.drivers o)) was.here ∙ ap is_some (sym since) in
      let held = held_while_running (rule leaf.row) (phase_of status) instance inputs before.facts now in
      mark_by a.reply (kept_at before.kept uid).held (start_of (phase_of status) instance now) instance.since right
      ∙ ap (λ (x : Answered). is_some (since_after x.reply (start_of (phase_of status) instance now) instance.since)) was.answered
      ∙ ap is_some (sym held)
      ∙ ap (λ (x : Answered). is_held x.instance) (sym was.answered)

  pub fits_called : StaysFit nodes before after
  fits_called term view top fits = record {
    stands = fits.stands;
    few = fits.few;
    marks =
        ap marks_of was.kept
        ∙ marks_called nodes before.drivers uid leaf (phase_of status) a.instance fits.leaves was.here before.kept (record (kept_at before.kept uid) { held = mark_left a.reply (kept_at before.kept uid).held }) fits.marks (mark_right fits.leaves fits.marks)
        ∙ ap (λ ds. map is_held (instances_of nodes ds)) (sym was.drivers);
    leaves = subst (λ ds. AreServed ds nodes) (sym was.drivers) (served_after nodes before.drivers leaf.driver (phase_of status) leaf.instance a.instance fits.leaves);
    slots = was.slots ∙ fits.slots;
    facts =
        ap length was.facts
        ∙ ap (λ (x : Answered). length x.facts) was.answered
        ∙ as_many_facts (rule leaf.row) (phase_of status) instance (padded (seen_inputs before.board leaf.inputs)) before.facts now
        ∙ fits.facts;
  }

  -- ---- What it does

  module _ (term : Term-F Meaning) (view : View) (ms : List Memory) (fits : FitsHere term view uid nodes before) (old new : List Note) (told : new ≡ old ++ reply_notes (phase_of status) uid a.reply) where
    abbrev state : State
    state = state_in nodes before now

    call_means : (has : HasRow term view leaf) → leaf_call (row_of view.rows term.id) (site_of term view uid) status ms state ≡ replied (site_of term view uid) has.row (phase_of status) ms state a
    call_means has =
        ap (λ o. leaf_call o (site_of term view uid) status ms state) has.found
        ∙ ap (λ (x : Answered). replied (site_of term view uid) has.row (phase_of status) ms state x)
        (sym (was.answered ∙ answer_means term view uid state leaf has.row has.follows before.drivers status (instance_at_uid nodes before.drivers uid ∙ ap (leaf_instance before.drivers) was.here)))

    state_left : (has : HasRow term view leaf) → (replied (site_of term view uid) has.row (phase_of status) ms state a).state ≡ state_in nodes after now
    state_left has =
        let board = was.board ∙ board_means term view uid state leaf has.row has.follows a a.reply in
        let instances = sym (instances_called nodes before.drivers uid leaf (phase_of status) a.instance fits.leaves was.here) ∙ ap (instances_of nodes) (sym was.drivers) in
        λ i. record { board = sym board i; facts = sym was.facts i; instances = instances i; moment = now }

    made : (has : HasRow term view leaf) (r : Result Given NodeFault) → reply_answer uid a.reply ≡ r →
        IsMade nodes now (λ _. ms) r before after old new (replied (site_of term view uid) has.row (phase_of status) ms state a)
    made has r is = record {
      answer = is;
      memory = refl;
      state = state_left has;
      notes = told;
      drivers = was.drivers ∙ sym (roster_after_call nodes before.drivers uid leaf (phase_of status) a.instance fits.leaves was.here (record { uid = uid; phase = phase_of status; left = a.instance }) [] refl refl refl);
    }

    met_by : (has : HasRow term view leaf) (q : Reply) → a.reply ≡ q →
        Meets nodes now (λ _. ms) (in_stop (reply_answer uid q)) before after old new (replied (site_of term view uid) has.row (phase_of status) ms state a)
    met_by has reply.Running is = (made has _ (ap (reply_answer uid) is), named_once (phase_of status) uid answer.Running ∙ ap (λ q. calls_named (reply_notes (phase_of status) uid q)) (sym is))
    met_by has reply.Success is = (made has _ (ap (reply_answer uid) is), named_once (phase_of status) uid answer.Success ∙ ap (λ q. calls_named (reply_notes (phase_of status) uid q)) (sym is))
    met_by has reply.Failure is = (made has _ (ap (reply_answer uid) is), named_once (phase_of status) uid answer.Failure ∙ ap (λ q. calls_named (reply_notes (phase_of status) uid q)) (sym is))
    met_by has (reply.Broken cause) is = made has _ (ap (reply_answer uid) is)

    -- the call is that of the definition
    pub call_met : (r : Result Answer (Stop NodeFault)) → as_given r ≡ in_stop (reply_answer uid a.reply) →
        Meets nodes now (λ _. ms) (as_given r) before after old new (leaf_call (row_of view.rows term.id) (site_of term view uid) (kept_at before.kept uid).status ms state)
    call_met r is =
        let has = has_row term view uid nodes before leaf fits was.here in
        let P : Result Given (Stop NodeFault) → Type 0 = λ r1. Meets nodes now (λ _. ms) r1 before after old new (replied (site_of term view uid) has.row (phase_of status) ms state a) in
        let Q : Done Given (List Memory) → Type 0 = λ d. Meets nodes now (λ _. ms) (as_given r) before after old new d in
        subst Q (sym (call_means has) ∙ ap (λ st. leaf_call (row_of view.rows term.id) (site_of term view uid) st ms state) was.kept_status) (subst P (sym is) (met_by has a.reply refl))

-- a leaf that stands can be called
pub can_be_called : (term : Term-F Meaning) (view : View) (uid : ℕ) (nodes : List Node) (s : Scene) (leaf : ReadyLeaf) (status : Status) (now : ℕ) →
    FitsHere term view uid nodes s → leaf_at nodes uid ≡ Some leaf → IsInPhase status (leaf_instance s.drivers (Some leaf)) now → CanBeCalled (length s.board) (length s.facts) s.drivers status now leaf
can_be_called term view uid nodes s leaf status now fits is phase =
    let has = has_row term view uid nodes s leaf fits is in
    let k = has.follows in
    let told : is_ready_told leaf.row.sort ≡ is_told has.row.sort = ap (λ (r : Rule). is_told_way r.way) k.rule ∙ told_way (place_of has.row.ports view.facts) has.row.sort in
    record {
      read = subst (λ n. All (IsSourceOf n) leaf.inputs) (sym fits.slots) k.read;
      few_inputs = λ other. let few = k.few_inputs (sym told ∙ other) in omega (arith, few, ap length k.inputs, length-map {A = List ℕ} {B = Source});
      written = subst (λ n. All (IsSourceOf n) leaf.outputs) (sym fits.slots) k.written;
      names = subst (IsDistinct bytes_eq) (sym k.told) k.once.distinct;
      table = fits.facts ∙ sym k.facts;
      served = fits.leaves.served uid leaf is;
      phase = phase;
    }
