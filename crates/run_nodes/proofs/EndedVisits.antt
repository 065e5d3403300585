-- The end of a visit, compared with its definition.
use Rattle.std.proofs.Common.{◌≡◌, ℕ, ◌<◌, ℤ, List, [], ◌++◌, length, set, Option, Result, Ok, Err, refl, sym, ap, subst, ◌∙◌, append-nil}
use Rattle.std.proofs.lemmas.List.{get_or-set_same, set-set}
use Rattle.base_texts.specs.declared.stop.Stop.{Stop}
use Rattle.base_texts.specs.declared.stop.Stop.TheVariants as stop
use Rattle.spec_script.specs.declared.value.Value.{Value}
use Rattle.spec_run.specs.declared.fault.NodeFault.{NodeFault}
use Rattle.spec_run.specs.declared.memory.Memo.{Memo}
use Rattle.spec_run.specs.declared.memory.Memory.{Memory}
use Rattle.spec_run.specs.declared.note.Note.{Note}
use Rattle.spec_run.specs.declared.status.Answer.{Answer}
use Rattle.spec_run.specs.declared.status.Status.{Status}
use Rattle.spec_run.specs.declared.status.Status.TheVariants.{Idle, Running, Success, Failure}
use Rattle.spec_tree.specs.declared.term.Term.{Term-F}
use Rattle.spec_run.specs.Done.{Done, State, following, done, follow}
use Rattle.spec_run.specs.Drivers.{DriverState}
use Rattle.spec_run.specs.NodeScripts.{posts}
use Rattle.spec_run.specs.Sites.{Meaning, View, remembered}
use Rattle.spec_run.specs.Visit.{change, ended, site_of, status_of}
use Rattle.run_arena.specs.declared.nodes.Kept.{Kept}
use Rattle.run_arena.specs.declared.nodes.Node.{Node}
use Rattle.run_arena.specs.Ends.{IsMade, Meets}
use Rattle.run_arena.specs.Nodes.{at_rest, kept_at}
use Rattle.run_arena.specs.Noted.{calls_named}
use Rattle.run_arena.specs.Scenes.{scene, state_in}
use Rattle.run_nodes.specs.Settles.{Settles, on_board}

-- a change of a status is no call
pub no_call : (uid : ℕ) (old new : Status) → 0 ≡ calls_named (change uid old new ++ [])
no_call uid Idle Idle = refl
no_call uid Idle Running = refl
no_call uid Idle Success = refl
no_call uid Idle Failure = refl
no_call uid Running Idle = refl
no_call uid Running Running = refl
no_call uid Running Success = refl
no_call uid Running Failure = refl
no_call uid Success Idle = refl
no_call uid Success Running = refl
no_call uid Success Success = refl
no_call uid Success Failure = refl
no_call uid Failure Idle = refl
no_call uid Failure Running = refl
no_call uid Failure Success = refl
no_call uid Failure Failure = refl

-- what a node keeps after it was given a memo
pub memo_set : (kept kept1 : List Kept) (uid : ℕ) (memo : Memo) → uid < length kept → kept1 ≡ set kept uid (record (kept_at kept uid) { memo = memo }) → kept_at kept1 uid ≡ record (kept_at kept uid) { memo = memo }
memo_set kept kept1 uid memo there is = ap (λ ks. kept_at ks uid) is ∙ get_or-set_same kept uid (record (kept_at kept uid) { memo = memo }) at_rest there

-- and after it was given a memo, then a status
pub status_set : (kept kept1 kept2 : List Kept) (uid : ℕ) (memo : Memo) (status : Status) → uid < length kept → kept1 ≡ set kept uid (record (kept_at kept uid) { memo = memo }) →
    kept2 ≡ set kept1 uid (record (kept_at kept1 uid) { status = status }) → kept2 ≡ set kept uid (record { status = status; memo = memo; held = (kept_at kept uid).held })
status_set kept kept1 kept2 uid memo status there is is2 =
    is2
    ∙ (λ i. set (is i) uid (record (memo_set kept kept1 uid memo there is i) { status = status }))
    ∙ set-set kept uid (record (kept_at kept uid) { memo = memo }) (record { status = status; memo = memo; held = (kept_at kept uid).held })

pub now_kept : (kept kept2 : List Kept) (uid : ℕ) (k : Kept) → uid < length kept → kept2 ≡ set kept uid k → kept_at kept2 uid ≡ k
now_kept kept kept2 uid k there is = ap (λ ks. kept_at ks uid) is ∙ get_or-set_same kept uid k at_rest there

module _ (nodes : List Node) (term : Term-F Meaning) (view : View) (uid : ℕ) (ms : List Memory) (facts : List ℤ) (drivers : List DriverState) (now : ℕ) (kept kept1 : List Kept) (board board1 : List (Option Value)) (old new : List Note) (answer : Answer) (memo : Memo) where
  abbrev before : State
  before = state_in nodes (scene kept board facts drivers) now

  abbrev read : List Kept → Memory
  read k = remembered (kept_at k uid).status (kept_at k uid).memo ms

  abbrev end : Done Answer Memory
  end = ended (site_of term view uid) (kept_at kept uid).status (record { answer = answer; memo = memo }) ms before

  abbrev end_by : Done (Unit {0}) (Unit {0}) → Done Answer Memory
  end_by d = follow d (λ _. remembered (kept_at kept uid).status memo ms) (λ _ _ s1. following (change uid (kept_at kept uid).status (status_of answer)) [] (done answer (remembered (status_of answer) memo ms) s1))

  -- the scripts ran, and the status became that of the answer
  pub ended_met : posts (site_of term view uid) answer before ≡ done tt tt (on_board board1 before) →
      (kept_at kept1 uid).status ≡ status_of answer → (kept_at kept1 uid).memo ≡ memo → new ≡ old ++ change uid (kept_at kept uid).status (status_of answer) →
      Meets nodes now read (Ok answer) (scene kept board facts drivers) (scene kept1 board1 facts drivers) old new end
  ended_met ran status kept_memo told =
      let P : Done Answer Memory → Type 0 = λ d. Meets nodes now read (Ok answer) (scene kept board facts drivers) (scene kept1 board1 facts drivers) old new d in
      let changes = change uid (kept_at kept uid).status (status_of answer) in
      subst P (sym (ap end_by ran)) (
        record {
          answer = refl;
          memory = λ i. remembered (sym status i) (sym kept_memo i) ms;
          state = refl;
          notes = told ∙ ap (λ (ns : List Note). old ++ ns) (sym (append-nil changes));
          drivers = refl;
        },
        no_call uid (kept_at kept uid).status (status_of answer),
      )

  stopped_by : (cause : Stop NodeFault) → Settles {A = Unit {0}} (Err cause) (on_board board1 before) (posts (site_of term view uid) answer before) →
      (kept_at kept1 uid).status ≡ (kept_at kept uid).status → (kept_at kept1 uid).memo ≡ memo → new ≡ old →
      Meets {A = Answer} nodes now read (Err cause) (scene kept board facts drivers) (scene kept1 board1 facts drivers) old new end
  stopped_by (stop.Fault f) ran status kept_memo told =
      let P : Done Answer Memory → Type 0 = λ d. IsMade {A = Answer} nodes now read (Err f) (scene kept board facts drivers) (scene kept1 board1 facts drivers) old new d in
      subst P (sym (ap end_by ran)) (record {
        answer = refl;
        memory = λ i. remembered (sym status i) (sym kept_memo i) ms;
        state = refl;
        notes = told ∙ sym (append-nil old);
        drivers = refl;
      })
  stopped_by stop.NoMemory ran status kept_memo told =
      record { told = []; untold = end.notes; made = []; unmade = end.calls; all_notes = refl; all_calls = refl; named = refl; notes = told ∙ sym (append-nil old); drivers = refl }

  -- a script stopped with a fault or for want of memory, after the memo was kept
  pub end_stopped : (r : Result Answer (Stop NodeFault)) (cause : Stop NodeFault) → r ≡ Err cause → Settles {A = Unit {0}} (Err cause) (on_board board1 before) (posts (site_of term view uid) answer before) →
      (kept_at kept1 uid).status ≡ (kept_at kept uid).status → (kept_at kept1 uid).memo ≡ memo → new ≡ old →
      Meets nodes now read r (scene kept board facts drivers) (scene kept1 board1 facts drivers) old new end
  end_stopped r cause is settles status kept_memo told =
      let P : Result Answer (Stop NodeFault) → Type 0 = λ r1. Meets nodes now read r1 (scene kept board facts drivers) (scene kept1 board1 facts drivers) old new end in
      subst P (sym is) (stopped_by cause settles status kept_memo told)
