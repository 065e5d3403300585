-- A node that goes on: what a move changes in what is still to come.
use Rattle.std.proofs.Common.{◌≡◌, ℕ, ◌+◌, ◌-◌, ◌<◌, ◌≤◌, Bool, true, false, List, [], ◌∷◌, length, get_or, refl, sym, ap, subst, ◌∙◌, arith, Result, Ok, Err, cond}
use Rattle.std.specs.Prelude.{IsErrAnd, IsTrue}
use Rattle.std.proofs.lemmas.List.{length-map}
use Rattle.base_texts.specs.declared.stop.Stop.{Stop}
use Rattle.spec_run.specs.declared.fault.NodeFault.{NodeFault}
use Rattle.spec_run.specs.declared.memory.Memo.{Memo}
use Rattle.spec_run.specs.declared.memory.Memory.{Memory, Memory-F, out-Memory, out-roll-Memory}
use Rattle.spec_run.specs.declared.moves.Heard.{Heard}
use Rattle.spec_run.specs.declared.moves.Heard.TheVariants.{Answered, Passed}
use Rattle.spec_run.specs.declared.moves.Move.{Move}
use Rattle.spec_run.specs.declared.moves.Span.{Span}
use Rattle.spec_run.specs.declared.moves.Span.TheVariants as span
use Rattle.spec_run.specs.declared.moves.Then.{Then}
use Rattle.spec_run.specs.declared.moves.Then.TheVariants as then_
use Rattle.spec_run.specs.declared.note.Note.{Note}
use Rattle.spec_run.specs.declared.status.Answer.{Answer}
use Rattle.spec_run.specs.declared.status.Status.{Status}
use Rattle.spec_tree.specs.declared.term.Kind.{Kind}
use Rattle.spec_tree.specs.declared.term.Kind.TheVariants.{Parallel}
use Rattle.spec_tree.specs.declared.term.Term.{Term, out-Term}
use Rattle.spec_tree.specs.BuiltIns.{has_rule, takes}
use Rattle.spec_run.specs.Done.{Done, State, done, follow}
use Rattle.spec_run.specs.Drivers.{is_held}
use Rattle.base_tables.specs.Moves.{Fits as FitsMoves, GoesOn, after, after_resets, going, hears, makes, next_place, rest}
use Rattle.spec_run.specs.Sites.{View, child_of, children_of, remembered}
use Rattle.spec_run.specs.Steps.{Child, Rule, child_at, keep, reset, resets, visit, visit_or_pass}
use Rattle.base_tables.specs.Sound.{Dated, fault_of}
use Rattle.base_tables.specs.Runnable.{NodeRuns}
use Rattle.spec_run.specs.Visit.{ended, meaning}
use Rattle.run_arena.specs.declared.nodes.Kept.{Kept}
use Rattle.run_arena.specs.declared.nodes.Node.{Node}
use Rattle.run_arena.specs.Ends.{Meets, StaysFit}
use Rattle.run_arena.specs.Nodes.{IsFit, kept_at, node_at}
use Rattle.run_arena.specs.Rosters.{instances_of, leaf_instance}
use Rattle.run_arena.specs.Scenes.{Fits, Scene, state_in}
use Rattle.run_arena.specs.Stands.{Beside, StandAll, memory_of, uid_of, view_under, written}
use Rattle.run_arena.proofs.Framed.{memory_at_place}
use Rattle.run_arena.proofs.Follows.{done_met, stopped}
use Rattle.run_arena.proofs.Opened.{memory_out, opened, size_out}
use Rattle.run_arena.proofs.Staged.{beside_both, beside_more}
use Rattle.run_laws.proofs.Acts.{AllLeft}
use Rattle.run_laws.proofs.Children.{Keeps, SoundAll}
use Rattle.run_laws.proofs.Resting.{Rested, span_leaves}
use Rattle.base_tables.specs.Sound.{Sound}
use Rattle.run_nodes.proofs.Following.{stops_with}
use Rattle.run_arena.specs.declared.frame.Frame.{Frame}
use Rattle.run_tick.specs.declared.progress.Entered.{Entered}
use Rattle.run_tick.specs.declared.progress.Next.{Next}
use Rattle.run_tick.specs.Asking.{back_with}
use Rattle.run_tick.specs.Machine.{Step}
use Rattle.run_tick.specs.Machine.{Turn}
use Rattle.run_nodes.specs.Here.{children_in, site_at}
use Rattle.run_tick.specs.Turns.{CanGoOn, ChildrenSound, Comes, Goes, GoesOnBy, GoesTo, TurnDoes, goes_by, kind_of, memory_in, number, passes_over, ruled_by, turn_to, turn_with, turned}
use Rattle.run_tick.proofs.Children.{child_seen, terms}
use Rattle.run_tick.proofs.Passing.{comes_both, follow_follow, met_after, met_comes, part_made}

-- ---- The node

module _ {term : Term} {view : View} {uid : ℕ} {nodes : List Node} {s : Scene} (fits : Fits term view uid nodes s) where
  pub node_there : uid < length nodes
  node_there = (opened term nodes view uid fits.stands).0

  pub kind_is : (node_at nodes uid).kind ≡ kind_of term
  kind_is = (opened term nodes view uid fits.stands).1.kind

  pub number_is : (node_at nodes uid).children ≡ number term
  number_is = (opened term nodes view uid fits.stands).1.children

  pub size_is : (node_at nodes uid).size ≡ (meaning term).size
  size_is = (opened term nodes view uid fits.stands).1.size ∙ sym (size_out term)

  pub node_fits : NodeRuns (written (out-Term term))
  unfolding IsFit
  node_fits = (opened term nodes view uid fits.stands).1.fit

  pub as_many_kept : length s.kept ≡ length nodes
  as_many_kept =
      sym (length-map s.kept (λ (k : Kept). k.held)) ∙ ap length fits.marks ∙ length-map (instances_of nodes s.drivers) is_held ∙ length-map nodes (λ (node : Node). leaf_instance s.drivers node.leaf)

  pub children_stand : StandAll (out-Term term).children nodes (view_under view uid (written (out-Term term))) (uid + 1)
  children_stand = (opened term nodes view uid fits.stands).2

-- ---- Resets

none_resets : (cs : List Child) (place : ℕ) (ms : List Memory) (s : State) → resets span.None cs place ms s ≡ done tt ms s
none_resets [] place ms s = refl
none_resets (c ∷ cs) place ms s = none_resets cs (place + 1) ms s

-- no child is reset
pub none_reset : (nodes : List Node) (moment : ℕ) (term : Term) (view : View) (uid : ℕ) (s : Scene) (n : List Note) (which : Span) → which ≡ span.None →
    Meets nodes moment (children_in term uid) (Ok tt) s s n n (resets which (children_of (site_at view uid term)) 0 (children_in term uid s.kept) (state_in nodes s moment))
none_reset nodes moment term view uid s n which is =
    subst (λ (d : Done (Unit {0}) (List Memory)). Meets nodes moment (children_in term uid) (Ok tt) s s n n d)
    (sym (ap (λ (sp : Span). resets sp (children_of (site_at view uid term)) 0 (children_in term uid s.kept) (state_in nodes s moment)) is ∙ none_resets (children_of (site_at view uid term)) 0 (children_in term uid s.kept) (state_in nodes s moment)))
    (done_met nodes moment (children_in term uid) tt s n)

module _ (term : Term) (view : View) (uid : ℕ) (st : Status) (memo : Memo) (rule : Rule) (ms : List Memory) (s : State) where
  abbrev after_all : Span → Done Answer Memory
  after_all span =
      follow (resets span (children_of (site_at view uid term)) 0 ms s) (λ ms1. remembered st memo ms1) (λ _ ms1 s1. ruled_by term view uid st memo rule ms1 s1)

  reset_opened : (span : Span) → ruled_by term view uid st memo (reset span rule) ms s ≡ after_all span
  unfolding reset
  reset_opened span =
      follow_follow (resets span (children_of (site_at view uid term)) 0 ms s) (λ ms1. ms1) (λ _ ms1 s1. rule (children_of (site_at view uid term)) ms1 s1)
      (λ ms1. remembered st memo ms1) (λ g ms1 s1. ended (site_at view uid term) st g ms1 s1)

  -- of a rule after resets, the resets come first
  pub resets_first : (span : Span) → ruled_by term view uid st memo (after_resets span rule) ms s ≡ after_all span
  resets_first span.None = ap (λ (d : Done (Unit {0}) (List Memory)). follow d (λ ms1. remembered st memo ms1) (λ _ ms1 s1. ruled_by term view uid st memo rule ms1 s1)) (sym (none_resets (children_of (site_at view uid term)) 0 ms s))
  resets_first span.All = reset_opened span.All
  resets_first (span.From first) = reset_opened (span.From first)
  resets_first (span.AllBut other) = reset_opened (span.AllBut other)
  resets_first (span.One only) = reset_opened (span.One only)

-- ---- The memory after resets

module _ (term : Term) (uid : ℕ) (a b : List Kept) (beside : Beside (uid + 1) ((meaning term).size - 1) a b) where
  node_kept : kept_at b uid ≡ kept_at a uid
  node_kept = beside.below uid (omega arith)

  memory_after : remembered (kept_at a uid).status (kept_at a uid).memo (children_in term uid b) ≡ memory_of term uid b
  memory_after = (λ i. remembered (sym node_kept i).status (sym node_kept i).memo (children_in term uid b)) ∙ sym (memory_out term uid b)

-- ---- A move

module _ (keeps : (t : Term) → Keeps (meaning t) (Sound t)) (nodes : List Node) (moment : ℕ) (term : Term) (view : View) (uid : ℕ) (s : Scene) (can : CanGoOn nodes moment term view uid s) where
  abbrev below : View
  below = view_under view uid (written (out-Term term))

  resets_left : (span : Span) → AllLeft (terms keeps) below (out-Term term).children (uid + 1) (λ _ ss ss1. Rested span ss ss1) (children_in term uid s.kept) (state_in nodes s moment)
      (resets span (children_of (site_at view uid term)) 0 (children_in term uid s.kept) (state_in nodes s moment))
  resets_left span = span_leaves (terms keeps) below (out-Term term).children (uid + 1) span (children_in term uid s.kept) (state_in nodes s moment) can.sound

  module _ (span : Span) (s1 : Scene) (n0 n1 : List Note) (stays : StaysFit nodes s s1) (beside : Beside (uid + 1) ((meaning term).size - 1) s.kept s1.kept) where
    abbrev resets_here : Done (Unit {0}) (List Memory)
    resets_here = resets span (children_of (site_at view uid term)) 0 (children_in term uid s.kept) (state_in nodes s moment)

    -- after the resets the node can go on
    pub can_after : Meets nodes moment (children_in term uid) (Ok tt) s s1 n0 n1 resets_here → CanGoOn nodes moment term view uid s1
    can_after m =
        let left = resets_left span in
        let all : ChildrenSound term view uid resets_here.memory resets_here.state = subst (λ (r : Result (Unit {0}) NodeFault). SoundAll (terms keeps) view.rows (out-Term term).children (fault_of r) (uid + 1) resets_here.memory resets_here.state) m.0.answer left.sound in
        record {
          fits = stays term view uid can.fits;
          sound = subst (λ (ms : List Memory). ChildrenSound term view uid ms (state_in nodes s1 moment)) m.0.memory (subst (λ (x : State). ChildrenSound term view uid resets_here.memory x) m.0.state all);
          dated = subst Dated m.0.state (left.within.dated can.dated);
        }

    module _ (rule : Rule) where
      abbrev first : Done Answer Memory
      first = goes_by nodes moment term view uid s (after_resets span rule)

      first_is : first ≡ after_all term view uid (kept_at s.kept uid).status (kept_at s.kept uid).memo rule (children_in term uid s.kept) (state_in nodes s moment) span
      first_is = resets_first term view uid (kept_at s.kept uid).status (kept_at s.kept uid).memo rule (children_in term uid s.kept) (state_in nodes s moment) span

      -- the resets were made, and the rule is still to come
      pub resets_made : Meets nodes moment (children_in term uid) (Ok tt) s s1 n0 n1 resets_here → Comes nodes s s1 n0 n1 first (goes_by nodes moment term view uid s1 rule)
      resets_made m =
          let same = node_kept term uid s.kept s1.kept beside in
          subst (λ (d : Done Answer Memory). Comes nodes s s1 n0 n1 d (goes_by nodes moment term view uid s1 rule)) (sym first_is)
          (subst (λ (k : Kept). Comes nodes s s1 n0 n1 (after_all term view uid (kept_at s.kept uid).status (kept_at s.kept uid).memo rule (children_in term uid s.kept) (state_in nodes s moment) span)
          (ruled_by term view uid k.status k.memo rule (children_in term uid s1.kept) (state_in nodes s1 moment))) (sym same)
          (part_made nodes moment (children_in term uid) s s1 n0 n1 resets_here (λ ms1. remembered (kept_at s.kept uid).status (kept_at s.kept uid).memo ms1)
          (λ _ ms1 x. ruled_by term view uid (kept_at s.kept uid).status (kept_at s.kept uid).memo rule ms1 x) tt m))

      -- the resets ended with a fault or for want of memory
      pub resets_stopped : (e : Stop NodeFault) → Meets {A = Unit {0}} nodes moment (children_in term uid) (Err e) s s1 n0 n1 resets_here → Meets {A = Answer} nodes moment (memory_of term uid) (Err e) s s1 n0 n1 first
      resets_stopped e m =
          subst (λ (d : Done Answer Memory). Meets {A = Answer} nodes moment (memory_of term uid) (Err e) s s1 n0 n1 d) (sym first_is)
          (stopped nodes moment (children_in term uid) (memory_of term uid) s s1 n0 n1 resets_here (λ ms1. remembered (kept_at s.kept uid).status (kept_at s.kept uid).memo ms1)
          (λ _ ms1 x. ruled_by term view uid (kept_at s.kept uid).status (kept_at s.kept uid).memo rule ms1 x) e (memory_after term uid s.kept s1.kept beside) m)

-- ---- What comes after the resets

-- an answer is given, and the visit ends
pub keep_opened : (term : Term) (view : View) (uid : ℕ) (st : Status) (memo kept : Memo) (a : Answer) (ms : List Memory) (s : State) →
    ruled_by term view uid st memo (keep a kept) ms s ≡ ended (site_at view uid term) st (record { answer = a; memo = kept }) ms s
unfolding keep
keep_opened term view uid st memo kept a ms s = refl

-- a child is visited, or passed over
module _ (term : Term) (view : View) (uid : ℕ) (st : Status) (memo : Memo) (place : ℕ) (go : Heard → Rule) (ms : List Memory) (s : State) where
  abbrev status_there : Status
  status_there = (child_at (children_of (site_at view uid term)) place).status ms

  pub hears_passed : (kind : Kind) → passes_over kind status_there ≡ true → ruled_by term view uid st memo (hears kind place go) ms s ≡ ruled_by term view uid st memo (go (Passed place)) ms s
  unfolding visit_or_pass
  hears_passed Parallel e = ap (λ (b : Bool). follow (cond b (go (Passed place) (children_of (site_at view uid term)) ms s) (visit place (λ a. go (Answered place a)) (children_of (site_at view uid term)) ms s)) (λ ms1. remembered st memo ms1) (λ g ms1 s1. ended (site_at view uid term) st g ms1 s1)) e
  hears_passed _ e = cc

  pub hears_visited : (kind : Kind) → passes_over kind status_there ≡ false → ruled_by term view uid st memo (hears kind place go) ms s ≡ ruled_by term view uid st memo (visit place (λ a. go (Answered place a))) ms s
  unfolding visit_or_pass
  hears_visited Parallel e = ap (λ (b : Bool). follow (cond b (go (Passed place) (children_of (site_at view uid term)) ms s) (visit place (λ a. go (Answered place a)) (children_of (site_at view uid term)) ms s)) (λ ms1. remembered st memo ms1) (λ g ms1 s1. ended (site_at view uid term) st g ms1 s1)) e
  hears_visited _ e = refl

-- the status of a child is the one that its memory says
pub child_status : (term : Term) (view : View) (uid place at : ℕ) (kept : List Kept) → place < number term → at ≡ uid_of (out-Term term).children (uid + 1) place →
    (child_at (children_of (site_at view uid term)) place).status (children_in term uid kept) ≡ (kept_at kept at).status
child_status term view uid place at kept there is =
    let c : Term = get_or (out-Term term).children place term in
    let seen = child_seen (view_under view uid (written (out-Term term))) (out-Term term).children place (uid + 1) 0 term there in
    let index : 0 + place ≡ place = omega arith in
    ap (λ (x : Child). x.status (children_in term uid kept)) (seen ∙ (λ i. child_of (view_under view uid (written (out-Term term))) (meaning c) (uid_of (out-Term term).children (uid + 1) place) (index i)))
    ∙ ap (λ (m : Memory). (out-Memory m).status) (memory_at_place (out-Term term).children place (uid + 1) term kept there ∙ (λ i. memory_of c (sym is i) kept) ∙ memory_out c at kept)
    ∙ ap (λ (r : Memory-F Memory). r.status) (out-roll-Memory (record { status = (kept_at kept at).status; memo = (kept_at kept at).memo; children = children_in c at kept }))

-- ---- The turn to a child

module _ (nodes : List Node) (moment : ℕ) (term : Term) (view : View) (uid : ℕ) (s : Scene) (can : CanGoOn nodes moment term view uid s) (frame : Frame) (here : frame.uid ≡ uid) (ruled : has_rule (kind_of term) ≡ true)
    (first : ℕ) (memo : Memo) (onward : GoesOn (kind_of term) (number term) memo first frame.memo (then_.Visit frame.place)) (child : frame.child ≡ uid_of (out-Term term).children (uid + 1) frame.place) where
  abbrev comes_then : Done Answer Memory
  comes_then = goes_by nodes moment term view uid s (hears (kind_of term) frame.place (after (kind_of term) (number term) moment frame.memo))

  status_is : (child_at (children_of (site_at view uid term)) frame.place).status (children_in term uid s.kept) ≡ (kept_at s.kept frame.child).status
  status_is = child_status term view uid frame.place frame.child s.kept onward.0 child

  passes_is : (kind : Kind) → passes_over kind ((child_at (children_of (site_at view uid term)) frame.place).status (children_in term uid s.kept)) ≡ passes_over kind (kept_at s.kept frame.child).status
  passes_is kind = ap (λ (x : Status). passes_over kind x) status_is

  parallel_alone : (kind : Kind) (x : Status) → passes_over kind x ≡ true → kind ≡ Parallel
  parallel_alone Parallel x e = refl
  parallel_alone _ x e = cc

  pub turns : (b : Bool) → passes_over (kind_of term) (kept_at s.kept frame.child).status ≡ b → TurnDoes nodes moment term view uid (turn_to b frame) s comes_then
  turns true e = record {
    here = here;
    can = can;
    ruled = ruled;
    fits = (parallel_alone (kind_of term) (kept_at s.kept frame.child).status e, onward.0, onward.1);
    next_is = hears_passed term view uid (kept_at s.kept uid).status (kept_at s.kept uid).memo frame.place (after (kind_of term) (number term) moment frame.memo) (children_in term uid s.kept) (state_in nodes s moment) (kind_of term) (passes_is (kind_of term) ∙ e);
  }
  turns false e = record {
    here = here;
    can = can;
    ruled = ruled;
    fits = λ a. (onward.0, onward.1);
    there = onward.0;
    child = child;
    next_is = hears_visited term view uid (kept_at s.kept uid).status (kept_at s.kept uid).memo frame.place (after (kind_of term) (number term) moment frame.memo) (children_in term uid s.kept) (state_in nodes s moment) (kind_of term) (passes_is (kind_of term) ∙ e);
  }

-- the child at this place is visited, and none is reset
abbrev pub next_child : ℕ → Move
next_child place = record { reset = span.None; then = then_.Visit place }

-- only a Parallel passes over children
pub visits_all : (kind : Kind) (x : Status) → (kind ≡ Parallel → ⊥) → passes_over kind x ≡ false
visits_all Parallel x other = absurd (other refl)
visits_all _ x other = refl

-- ---- The end of a visit

-- what was still to come was done, and the visit has ended
pub ends_so : (nodes : List Node) (moment : ℕ) (term : Term) (view : View) (uid : ℕ) (s s1 s2 : Scene) (n0 n1 n2 : List Note) (d e : Done Answer Memory) (r : Result Answer (Stop NodeFault)) →
    Comes nodes s s1 n0 n1 d e → Meets nodes moment (memory_of term uid) r s1 s2 n1 n2 e → GoesTo nodes moment term view uid (back_with r) s s2 n0 n2 d
ends_so nodes moment term view uid s s1 s2 n0 n1 n2 d e (Ok a) k m = record {
  next = done a (memory_in term uid s2) (state_in nodes s2 moment);
  does = refl;
  comes = comes_both nodes s s1 s2 n0 n1 n2 d e (done a (memory_in term uid s2) (state_in nodes s2 moment)) k (met_comes nodes moment (memory_of term uid) a s1 s2 n1 n2 e m);
}
ends_so nodes moment term view uid s s1 s2 n0 n1 n2 d e (Err x) k m = met_after nodes moment (memory_of term uid) s s1 s2 n0 n1 n2 d e (Err x) k m

-- where a node that goes on ended with this, so did the turn
pub next_with : (nodes : List Node) (moment : ℕ) (term : Term) (view : View) (uid : ℕ) (frame : Frame) (r : Result Next (Stop NodeFault)) (e : Stop NodeFault) (s s1 : Scene) (n0 n1 : List Note) (d : Done Answer Memory) →
    IsErrAnd r (λ x. x ≡ e) → Goes nodes moment term view uid (Err e) s s1 n0 n1 d → Goes nodes moment term view uid (turn_with frame r) s s1 n0 n1 d
next_with nodes moment term view uid frame r e s s1 n0 n1 d is goes =
    subst (λ (x : Result Next (Stop NodeFault)). Goes nodes moment term view uid (turn_with frame x) s s1 n0 n1 d) (sym (stops_with r e is)) goes

-- where a node was entered and ended with this, so did the turn
pub turned_with : (nodes : List Node) (moment : ℕ) (term : Term) (view : View) (uid : ℕ) (r : Result Entered (Stop NodeFault)) (e : Stop NodeFault) (s s1 : Scene) (n0 n1 : List Note) (d : Done Answer Memory) →
    IsErrAnd r (λ x. x ≡ e) → Goes nodes moment term view uid (Err e) s s1 n0 n1 d → Goes nodes moment term view uid (turned uid s1.kept r) s s1 n0 n1 d
turned_with nodes moment term view uid r e s s1 n0 n1 d is goes = subst (λ (x : Result Entered (Stop NodeFault)). Goes nodes moment term view uid (turned uid s1.kept x) s s1 n0 n1 d) (sym (stops_with r e is)) goes

-- ---- A step

-- an equal memo makes no difference
pub same_memo : (nodes : List Node) (moment : ℕ) (term : Term) (view : View) (step : Step) (s : Scene) (next : Done Answer Memory) (memo : Memo) → memo ≡ step.memo →
    GoesOnBy nodes moment term view step.uid step s next → GoesOnBy nodes moment term view step.uid (record { uid = step.uid; memo = memo; heard = step.heard }) s next
same_memo nodes moment term view step s next memo same k =
    subst (λ (m : Memo). GoesOnBy nodes moment term view step.uid (record { uid = step.uid; memo = m; heard = step.heard }) s next) (sym same) k

module _ (keeps : (t : Term) → Keeps (meaning t) (Sound t)) (nodes : List Node) (moment : ℕ) (term : Term) (view : View) (step : Step) (s : Scene) (next : Done Answer Memory) (k : GoesOnBy nodes moment term view step.uid step s next) where
  module _ (here : Node) (is : here ≡ node_at nodes step.uid) where
    pub here_kind : here.kind ≡ kind_of term
    here_kind = ap (λ (n : Node). n.kind) is ∙ kind_is k.can.fits

    pub here_number : here.children ≡ number term
    here_number = ap (λ (n : Node). n.children) is ∙ number_is k.can.fits

    pub here_ruled : has_rule here.kind ≡ true
    here_ruled = ap has_rule here_kind ∙ k.ruled

    pub here_takes : IsTrue (takes here.kind here.children)
    here_takes = (λ i. takes (here_kind i) (here_number i)) ∙ (node_fits k.can.fits).children

    pub here_fits : FitsMoves here.kind here.children step.memo step.heard
    here_fits =
        subst (λ (kd : Kind). FitsMoves kd here.children step.memo step.heard) (sym here_kind)
        (subst (λ (n : ℕ). FitsMoves (kind_of term) n step.memo step.heard) (sym here_number) k.fits)

    module _ (memo : Memo) (go : Move) (moves : rest here.kind here.children moment step.memo step.heard ≡ makes (hears here.kind) (after here.kind here.children moment) memo go)
        (onward : GoesOn here.kind here.children step.memo (next_place step.heard) memo go.then) where
      abbrev pub still : Then → Rule
      still then = going (hears (kind_of term)) (after (kind_of term) (number term) moment) memo then

      pub moves_so : rest (kind_of term) (number term) moment step.memo step.heard ≡ after_resets go.reset (still go.then)
      moves_so =
          subst (λ (kd : Kind). rest kd (number term) moment step.memo step.heard ≡ makes (hears kd) (after kd (number term) moment) memo go) here_kind
          (subst (λ (n : ℕ). rest here.kind n moment step.memo step.heard ≡ makes (hears here.kind) (after here.kind n moment) memo go) here_number moves)

      pub onward_so : GoesOn (kind_of term) (number term) step.memo (next_place step.heard) memo go.then
      onward_so =
          subst (λ (kd : Kind). GoesOn kd (number term) step.memo (next_place step.heard) memo go.then) here_kind
          (subst (λ (n : ℕ). GoesOn here.kind n step.memo (next_place step.heard) memo go.then) here_number onward)

      -- the child that comes next is there
      pub visit_there : (place : ℕ) → go.then ≡ then_.Visit place → GoesOn (kind_of term) (number term) step.memo (next_place step.heard) memo (then_.Visit place)
      visit_there place visits = subst (λ (x : Then). GoesOn (kind_of term) (number term) step.memo (next_place step.heard) memo x) visits onward_so

      next_so : next ≡ goes_by nodes moment term view step.uid s (after_resets go.reset (still go.then))
      next_so = k.next_is ∙ ap (λ (r : Rule). goes_by nodes moment term view step.uid s r) moves_so

      module _ (s1 : Scene) (n0 n1 : List Note) (stays : StaysFit nodes s s1) (beside_code : Beside (step.uid + 1) ((node_at nodes step.uid).size - 1) s.kept s1.kept) where
        beside : Beside (step.uid + 1) ((meaning term).size - 1) s.kept s1.kept
        beside = subst (λ (n : ℕ). Beside (step.uid + 1) (n - 1) s.kept s1.kept) (size_is k.can.fits) beside_code

        abbrev reset_part : Done (Unit {0}) (List Memory)
        reset_part = resets go.reset (children_of (site_at view step.uid term)) 0 (children_in term step.uid s.kept) (state_in nodes s moment)

        some_size : 1 ≤ (meaning term).size
        some_size = omega (arith, size_out term)

        within_node : {a b : List Kept} → Beside (step.uid + 1) ((meaning term).size - 1) a b → Beside step.uid (meaning term).size a b
        within_node x = beside_more x (omega arith) (omega (arith, some_size))

        -- the resets ended with a fault or for want of memory
        pub step_stopped : (e : Stop NodeFault) → Meets {A = Unit {0}} nodes moment (children_in term step.uid) (Err e) s s1 n0 n1 reset_part → Goes nodes moment term view step.uid (Err e) s s1 n0 n1 next
        step_stopped e m = record {
          ends = subst (λ (d : Done Answer Memory). Meets {A = Answer} nodes moment (memory_of term step.uid) (Err e) s s1 n0 n1 d) (sym next_so)
              (resets_stopped keeps nodes moment term view step.uid s k.can go.reset s1 n0 n1 stays beside (still go.then) e m);
          beside = within_node beside;
          stays = stays;
        }

        module _ (m : Meets nodes moment (children_in term step.uid) (Ok tt) s s1 n0 n1 reset_part) where
          comes_so : (then : Then) → go.then ≡ then → Comes nodes s s1 n0 n1 next (goes_by nodes moment term view step.uid s1 (still then))
          comes_so then is_then =
              subst (λ (x : Then). Comes nodes s s1 n0 n1 next (goes_by nodes moment term view step.uid s1 (still x))) is_then
              (subst (λ (d : Done Answer Memory). Comes nodes s s1 n0 n1 d (goes_by nodes moment term view step.uid s1 (still go.then))) (sym next_so)
              (resets_made keeps nodes moment term view step.uid s k.can go.reset s1 n0 n1 stays beside (still go.then) m))

          -- the answer is given
          pub step_given : (a : Answer) → go.then ≡ then_.Give a → (s2 : Scene) (n2 : List Note) (r : Result Answer (Stop NodeFault)) → StaysFit nodes s1 s2 → Beside step.uid 1 s1.kept s2.kept →
              Meets nodes moment (memory_of term step.uid) r s1 s2 n1 n2 (ended (site_at view step.uid term) (kept_at s1.kept step.uid).status (record { answer = a; memo = memo }) (children_in term step.uid s1.kept) (state_in nodes s1 moment)) →
              Goes nodes moment term view step.uid (back_with r) s s2 n0 n2 next
          step_given a gives s2 n2 r stays2 beside2 m2 = record {
            ends = ends_so nodes moment term view step.uid s s1 s2 n0 n1 n2 next (goes_by nodes moment term view step.uid s1 (keep a memo)) r (comes_so (then_.Give a) gives)
                (subst (λ (d : Done Answer Memory). Meets nodes moment (memory_of term step.uid) r s1 s2 n1 n2 d)
                (sym (keep_opened term view step.uid (kept_at s1.kept step.uid).status (kept_at s1.kept step.uid).memo memo a (children_in term step.uid s1.kept) (state_in nodes s1 moment))) m2);
            beside = beside_both (within_node beside) beside2 (omega arith) (omega arith) (omega arith) (omega (arith, some_size));
            stays = λ t v u fits. stays2 t v u (stays t v u fits);
          }

          -- a child comes next
          pub step_turned : (place child : ℕ) → go.then ≡ then_.Visit place → child ≡ uid_of (out-Term term).children (step.uid + 1) place →
              (b : Bool) → passes_over (kind_of term) (kept_at s1.kept child).status ≡ b → (t : Turn) → t ≡ turn_to b (record { uid = step.uid; memo = memo; place = place; child = child }) →
              Goes nodes moment term view step.uid (Ok t) s s1 n0 n1 next
          step_turned place child visits is_child b passes t is_turn =
              subst (λ (x : Turn). Goes nodes moment term view step.uid (Ok x) s s1 n0 n1 next) (sym is_turn)
              (record {
                ends = record {
                  next = goes_by nodes moment term view step.uid s1 (still (then_.Visit place));
                  does = turns nodes moment term view step.uid s1 (can_after keeps nodes moment term view step.uid s k.can go.reset s1 n0 n1 stays beside m) (record { uid = step.uid; memo = memo; place = place; child = child }) refl k.ruled
                      (next_place step.heard) step.memo (visit_there place visits) is_child b passes;
                  comes = comes_so (then_.Visit place) visits;
                };
                beside = within_node beside;
                stays = stays;
              })
