-- The end of a tick, after the visit of the root.
use Rattle.std.proofs.Common.{◌≡◌, ℕ, ◌<◌, List, [], ◌∷◌, ◌++◌, length, set, Result, Ok, Err, refl, sym, ap, subst, ◌∙◌, append-nil, arith}
use Rattle.std.specs.Prelude.{OnOk}
use Rattle.std.proofs.lemmas.List.{get_or-set_same, get_or-set_other, length-set}
use Rattle.base_texts.specs.declared.stop.Stop.{Stop}
use Rattle.base_texts.specs.declared.stop.Stop.TheVariants as stop
use Rattle.spec_run.specs.declared.fault.NodeFault.{NodeFault}
use Rattle.spec_run.specs.declared.memory.Memory.{Memory, Memory-F, out-Memory, out-roll-Memory}
use Rattle.spec_run.specs.declared.note.Note.{Note}
use Rattle.spec_run.specs.declared.note.Note.TheVariants.{Root}
use Rattle.spec_run.specs.declared.status.Answer.{Answer}
use Rattle.spec_run.specs.declared.status.Status.{Status}
use Rattle.spec_run.specs.declared.status.Status.TheVariants as status
use Rattle.spec_tree.specs.declared.term.Term.{Term, out-Term}
use Rattle.spec_run.specs.Done.{Done, State, following, carried, done, follow}
use Rattle.spec_run.specs.Run.{root_told, settled}
use Rattle.spec_run.specs.Sites.{View, remembered}
use Rattle.spec_run.specs.Visit.{change}
use Rattle.run_arena.specs.declared.nodes.Kept.{Kept}
use Rattle.run_arena.specs.declared.nodes.Node.{Node}
use Rattle.run_arena.specs.Ends.{IsCut, Meets, StaysFit}
use Rattle.run_arena.specs.Nodes.{at_rest, kept_at}
use Rattle.run_arena.specs.Noted.{calls_named}
use Rattle.run_arena.specs.Rosters.{instances_of}
use Rattle.run_arena.specs.Scenes.{Fits, Scene, state_in}
use Rattle.run_arena.specs.Stands.{memories_of, memory_of}
use Rattle.run_arena.proofs.Follows.{followed, stopped}
use Rattle.run_arena.proofs.Opened.{memory_out, opened}
use Rattle.run_nodes.proofs.AboutHalting.Marks.{as_many_marks}
use Rattle.run_nodes.proofs.AboutHalting.Memories.{memory_above}
use Rattle.run_nodes.proofs.Standing.{stays_fit}
use Rattle.run_loop.specs.Parts.{EndsTick, root_notes, unanswered}

-- ---- Without an answer

unanswered_by : {A B M N : Type 0} (r : Result A NodeFault) (d : Done A M) (place : M → N) (go : A → M → State → Done B N) → unanswered (carried r d place go) ≡ carried r d place (λ a m s. unanswered (go a m s))
unanswered_by (Ok a) d place go = refl
unanswered_by (Err f) d place go = refl

-- two parts without an answer, one after the other
pub unanswered_follow : {A B M N : Type 0} (d : Done A M) (place : M → N) (go : A → M → State → Done B N) → unanswered (follow d place go) ≡ follow d place (λ a m s. unanswered (go a m s))
unanswered_follow d place go = unanswered_by d.answer d place go

-- ---- The root

-- what is so is so whatever was answered
pub whatever : {A E : Type 0} {P : Type 0} (r : Result A E) → P → OnOk r P
whatever (Ok a) p = p
whatever (Err e) p = tt

-- the root's place is there
pub root_there : (t : Term) (v : View) (nodes : List Node) (s : Scene) → Fits t v 1 nodes s → 1 < length s.kept
root_there t v nodes s fits = omega (arith, (opened t nodes v 1 fits.stands).0, as_many_marks nodes s.kept s.drivers fits.marks)

no_call : (runner : ℕ) (answer : Answer) (st : Status) → calls_named (root_notes runner answer st) ≡ 0
no_call runner answer status.Idle = refl
no_call runner answer status.Running = refl
no_call runner answer status.Success = refl
no_call runner answer status.Failure = refl

module _ (t : Term) (nodes : List Node) (at runner : ℕ) (answer : Answer) (s1 s2 : Scene) (n1 n2 : List Note) where
  abbrev st : Status
  st = (kept_at s1.kept 1).status

  abbrev told : Done Answer Memory
  told = root_told runner answer (memory_of t 1 s1.kept) (state_in nodes s1 at)

  abbrev opened_to : Memory-F Memory
  opened_to = record { status = st; memo = (kept_at s1.kept 1).memo; children = memories_of (out-Term t).children 2 s1.kept }

  out_is : out-Memory (memory_of t 1 s1.kept) ≡ opened_to
  out_is = ap out-Memory (memory_out t 1 s1.kept) ∙ out-roll-Memory opened_to

  abbrev told_by : Memory-F Memory → Done Answer Memory
  told_by o = following (Root runner answer ∷ change 1 o.status (settled o.status)) [] (done answer (remembered (settled o.status) o.memo o.children) (state_in nodes s1 at))

  told_is : told ≡ told_by opened_to
  told_is = ap told_by out_is

  -- the end was made, and both its notes were added
  pub end_told : 1 < length s1.kept → s2.kept ≡ set s1.kept 1 (record (kept_at s1.kept 1) { status = settled st }) → s2.board ≡ s1.board → s2.facts ≡ s1.facts → s2.drivers ≡ s1.drivers → n2 ≡ n1 ++ root_notes runner answer st →
      Meets nodes at (memory_of t 1) (Ok tt) s1 s2 n1 n2 (unanswered told)
  end_told there kept board facts drivers noted =
      let now : Kept = record (kept_at s1.kept 1) { status = settled st } in
      let here : kept_at s2.kept 1 ≡ now = ap (λ (k : List Kept). kept_at k 1) kept ∙ get_or-set_same s1.kept 1 now at_rest there in
      let memory : remembered (settled st) (kept_at s1.kept 1).memo (memories_of (out-Term t).children 2 s1.kept) ≡ memory_of t 1 s2.kept =
      ap (λ (k : Kept). remembered k.status k.memo (memories_of (out-Term t).children 2 s1.kept)) (sym here)
      ∙ sym (memory_above t 1 s1.kept s2.kept (λ p low high. sym (ap (λ (k : List Kept). kept_at k p) kept ∙ get_or-set_other s1.kept 1 p now at_rest (λ e. absurd (omega (arith, low, e)))))) in
      subst (λ (d : Done Answer Memory). Meets nodes at (memory_of t 1) (Ok tt) s1 s2 n1 n2 (unanswered d)) (sym told_is) (
        record {
          answer = refl;
          memory = memory;
          state = λ i. record { board = sym board i; facts = sym facts i; instances = instances_of nodes (sym drivers i); moment = at };
          notes = noted ∙ ap (λ xs. n1 ++ xs) (sym (append-nil (root_notes runner answer st)));
          drivers = drivers;
        },
        sym (ap calls_named (append-nil (root_notes runner answer st)) ∙ no_call runner answer st),
      )

  -- there was want of memory in the end
  pub end_cut : (said unsaid : List Note) → said ++ unsaid ≡ root_notes runner answer st → calls_named said ≡ 0 → n2 ≡ n1 ++ said → s2.drivers ≡ s1.drivers → Meets {A = Unit {0}} nodes at (memory_of t 1) (Err stop.NoMemory) s1 s2 n1 n2 (unanswered told)
  end_cut said unsaid all none noted drivers =
      subst (λ (d : Done Answer Memory). IsCut nodes s1 s2 n1 n2 (unanswered d)) (sym told_is)
      (record { told = said; untold = unsaid; made = []; unmade = []; all_notes = all ∙ sym (append-nil (root_notes runner answer st)); all_calls = refl; named = sym none; notes = noted; drivers = drivers })

module _ (t : Term) (view : View) (nodes : List Node) (at runner : ℕ) (s0 s1 : Scene) (n0 n1 : List Note) (d : Done Answer Memory) where
  abbrev go : Answer → Memory → State → Done Answer Memory
  go a m s = root_told runner a m s

  -- the visit ended with a fault or for want of memory
  pub tick_stopped : (e : Stop NodeFault) (r : Result (Unit {0}) (Stop NodeFault)) → r ≡ Err e → Meets {A = Answer} nodes at (memory_of t 1) (Err e) s0 s1 n0 n1 d → Meets nodes at (memory_of t 1) r s0 s1 n0 n1 (unanswered (follow d (λ m. m) go))
  tick_stopped e r is m =
      subst (λ (x : Result (Unit {0}) (Stop NodeFault)). Meets nodes at (memory_of t 1) x s0 s1 n0 n1 (unanswered (follow d (λ m1. m1) go))) (sym is)
      (subst (λ (x : Done (Unit {0}) Memory). Meets {A = Unit {0}} nodes at (memory_of t 1) (Err e) s0 s1 n0 n1 x) (sym (unanswered_follow d (λ m1. m1) go))
      (stopped nodes at (memory_of t 1) (memory_of t 1) s0 s1 n0 n1 d (λ m1. m1) (λ a m1 s. unanswered (go a m1 s)) e refl m))

  -- the visit was made, and the end after it
  pub tick_followed : (a : Answer) (r : Result (Unit {0}) (Stop NodeFault)) (s2 : Scene) (n2 : List Note) → Meets nodes at (memory_of t 1) (Ok a) s0 s1 n0 n1 d →
      Meets nodes at (memory_of t 1) r s1 s2 n1 n2 (unanswered (go a (memory_of t 1 s1.kept) (state_in nodes s1 at))) → Meets nodes at (memory_of t 1) r s0 s2 n0 n2 (unanswered (follow d (λ m. m) go))
  tick_followed a r s2 n2 m rest =
      subst (λ (x : Done (Unit {0}) Memory). Meets nodes at (memory_of t 1) r s0 s2 n0 n2 x) (sym (unanswered_follow d (λ m1. m1) go))
      (followed nodes at (memory_of t 1) (memory_of t 1) s0 s1 n0 n1 d (λ m1. m1) (λ a1 m1 s. unanswered (go a1 m1 s)) a r s2 n2 m rest)

  -- the end of a tick, whatever the visit came to
  pub tick_ended : (visited : Result Answer (Stop NodeFault)) (r : Result (Unit {0}) (Stop NodeFault)) (kept : List Kept) (n2 : List Note) →
      OnOk visited (1 < length s1.kept) → EndsTick runner visited r s1.kept kept n1 n2 → Meets nodes at (memory_of t 1) visited s0 s1 n0 n1 d →
      Meets nodes at (memory_of t 1) r s0 (record s1 { kept = kept }) n0 n2 (unanswered (follow d (λ m. m) go))
  tick_ended (Ok a) (Ok done) kept n2 there ends met =
      let s2 = record s1 { kept = kept } in
      tick_followed a (Ok tt) s2 n2 met (end_told t nodes at runner a s1 s2 n1 n2 there ends.0 refl refl refl ends.1)
  tick_ended (Ok a) (Err stop.NoMemory) kept n2 there ends met =
      let s2 = record s1 { kept = kept } in
      let e = ends.1 in
      tick_followed a (Err stop.NoMemory) s2 n2 met (end_cut t nodes at runner a s1 s2 n1 n2 e.0 e.1 e.2 e.3 e.4 refl)
  tick_ended (Ok a) (Err (stop.Fault f)) kept n2 there ends met = absurd ends
  tick_ended (Err e) (Ok done) kept n2 there ends met = absurd ends
  tick_ended (Err e) (Err why) kept n2 there ends met =
      let rest = unanswered (follow d (λ m. m) go) in
      subst (λ (n : List Note). Meets nodes at (memory_of t 1) (Err why) s0 (record s1 { kept = kept }) n0 n rest) (sym ends.2)
      (subst (λ (k : List Kept). Meets nodes at (memory_of t 1) (Err why) s0 (record s1 { kept = k }) n0 n1 rest) (sym ends.1)
      (tick_stopped e (Err why) (ap Err ends.0) met))

-- the end of a tick after the same
pub ends_as : (runner : ℕ) (visited : Result Answer (Stop NodeFault)) (r : Result (Unit {0}) (Stop NodeFault)) (kept : List Kept) (noted : List Note) {k k1 : List Kept} {l l1 : List Note} → k ≡ k1 → l ≡ l1 →
    EndsTick runner visited r k kept l noted → EndsTick runner visited r k1 kept l1 noted
ends_as runner visited r kept noted {k} {k1} {l} {l1} same_kept same_notes ends =
    subst (λ (x : List Note). EndsTick runner visited r k1 kept x noted) same_notes (subst (λ (x : List Kept). EndsTick runner visited r x kept l noted) same_kept ends)

module _ (nodes : List Node) (runner : ℕ) (s0 s1 : Scene) (n1 n2 : List Note) where
  -- what fitted before the visit still fits after the end
  pub fits_ended : (visited : Result Answer (Stop NodeFault)) (r : Result (Unit {0}) (Stop NodeFault)) (kept : List Kept) →
      EndsTick runner visited r s1.kept kept n1 n2 → StaysFit nodes s0 s1 → StaysFit nodes s0 (record s1 { kept = kept })
  fits_ended (Ok a) (Ok done) kept ends stays = λ term view uid fits.
      stays_fit nodes 1 (record (kept_at s1.kept 1) { status = settled (kept_at s1.kept 1).status }) s1 (record s1 { kept = kept }) ends.0 refl refl refl refl term view uid (stays term view uid fits)
  fits_ended (Ok a) (Err stop.NoMemory) kept ends stays = subst (λ (k : List Kept). StaysFit nodes s0 (record s1 { kept = k })) (sym ends.0) stays
  fits_ended (Ok a) (Err (stop.Fault f)) kept ends stays = absurd ends
  fits_ended (Err e) (Ok done) kept ends stays = absurd ends
  fits_ended (Err e) (Err why) kept ends stays = subst (λ (k : List Kept). StaysFit nodes s0 (record s1 { kept = k })) (sym ends.1) stays

  -- as many nodes keep something
  pub as_many_ended : (visited : Result Answer (Stop NodeFault)) (r : Result (Unit {0}) (Stop NodeFault)) (kept : List Kept) →
      EndsTick runner visited r s1.kept kept n1 n2 → length kept ≡ length s1.kept
  as_many_ended (Ok a) (Ok done) kept ends = ap length ends.0 ∙ length-set s1.kept 1 (record (kept_at s1.kept 1) { status = settled (kept_at s1.kept 1).status })
  as_many_ended (Ok a) (Err stop.NoMemory) kept ends = ap length ends.0
  as_many_ended (Ok a) (Err (stop.Fault f)) kept ends = absurd ends
  as_many_ended (Err e) (Ok done) kept ends = absurd ends
  as_many_ended (Err e) (Err why) kept ends = ap length ends.1
