-- A part that can change the blackboard alone, and then the next.
use Rattle.std.proofs.Common.{◌≡◌, ℕ, List, Option, Some, None, Result, Ok, Err, refl, sym, ap, subst, ◌∙◌}
use Rattle.std.specs.Prelude.{IsErrAnd}
use Rattle.spec_script.specs.declared.fault.ExecFault.{ExecFault}
use Rattle.base_texts.specs.declared.stop.Stop.{Stop}
use Rattle.base_texts.specs.declared.stop.Stop.TheVariants as stop
use Rattle.spec_script.specs.declared.syntax.Script.{Script}
use Rattle.spec_script.specs.declared.value.Value.{Value}
use Rattle.spec_script.specs.Evaluation.{Run}
use Rattle.base_texts.specs.Stops.{Gives}
use Rattle.script_code.specs.declared.codes.Code.{Code}
use Rattle.script_code.specs.Codes.{program}
use Rattle.script_code.specs.Programs.{Program}
use Rattle.spec_run.specs.declared.fault.NodeFault.{NodeFault}
use Rattle.spec_tree.specs.declared.term.Term.{Term-F}
use Rattle.spec_run.specs.Done.{Done, State, done, ends, follow}
use Rattle.spec_run.specs.NodeScripts.{script_answer, script_left, script_run}
use Rattle.spec_run.specs.Sites.{Meaning, View}
use Rattle.spec_run.specs.Visit.{site_of}
use Rattle.run_arena.specs.Nodes.{IsCodeOf, IsCompiled}
use Rattle.run_nodes.specs.Settles.{Settles, SettlesWith, on_board}

-- a script's run is that of its code
pub run_of_code : (term : Term-F Meaning) (view : View) (uid : ℕ) (script : Script) (code : Code) (s : State) (old new : List (Option Value)) (answer : Result Value ExecFault) →
    IsCodeOf view script code → ((program code).run old).answer ≡ answer → new ≡ ((program code).run old).entries →
    script_run (site_of term view uid) script (on_board old s) ≡ ends (script_answer uid answer) tt (on_board new s)
run_of_code term view uid script code s old new answer k is_answer is_new =
    ap (λ (r : Run). script_left uid (on_board old s) r) (ap (λ (p : Program). p.run old) (sym k.meaning))
    ∙ (λ i. ends (script_answer uid (is_answer i)) tt (on_board (sym is_new i) s))

module _ (P : Option Script → Type 0) where
  some_script_by : (view : View) (script : Option Script) {code : Code} → IsCompiled view script (Some code) → ((x : Script) → IsCodeOf view x code → P (Some x)) → P script
  some_script_by view None k go = absurd k
  some_script_by view (Some x) k go = go x k

  -- a code that is there is that of a script
  pub some_script : (view : View) (script : Option Script) (compiled : Option Code) {code : Code} →
      compiled ≡ Some code → IsCompiled view script compiled → ((x : Script) → IsCodeOf view x code → P (Some x)) → P script
  some_script view script compiled is k go = some_script_by view script (let Q : Option Code → Type 0 = λ o. IsCompiled view script o in subst Q is k) go

-- an answer or a fault that is computed
pub gives_settles : {A : Type 0} (s : State) (said : Result A NodeFault) (r : Result A (Stop NodeFault)) → Gives r said → Settles r s (ends said tt s)
gives_settles s said (Ok a) e = ap (λ r. ends r tt s) e
gives_settles s said (Err (stop.Fault f)) e = ap (λ r. ends r tt s) e
gives_settles s said (Err stop.NoMemory) e = tt

pub stops_with : {A : Type 0} (r : Result A (Stop NodeFault)) (stop : Stop NodeFault) → IsErrAnd r (λ x. x ≡ stop) → r ≡ Err stop
stops_with (Ok a) stop h = absurd h
stops_with (Err x) stop h = ap Err h

module _ {A B : Type 0} (go : A → Unit {0} → State → Done B (Unit {0})) where
  -- a part was made, and the next one goes on
  pub went_on : (d : Done A (Unit {0})) (a : A) (s1 s2 : State) (r : Result B (Stop NodeFault)) →
      d ≡ done a tt s1 → Settles r s2 (go a tt s1) → Settles r s2 (follow d (λ _. tt) go)
  went_on d a s1 s2 r e next = subst (λ (d1 : Done A (Unit {0})). Settles r s2 (follow d1 (λ _. tt) go)) (sym e) next

  stopped_by : (stop : Stop NodeFault) (d : Done A (Unit {0})) (s1 : State) → Settles {A = A} (Err stop) s1 d → Settles {A = B} (Err stop) s1 (follow d (λ _. tt) go)
  stopped_by (stop.Fault f) d s1 e = ap (λ (d1 : Done A (Unit {0})). follow d1 (λ _. tt) go) e
  stopped_by stop.NoMemory d s1 e = tt

  -- a part stopped, so the next one is not made
  pub stopped : (stop : Stop NodeFault) (d : Done A (Unit {0})) (s1 : State) (r : Result B (Stop NodeFault)) →
      IsErrAnd r (λ x. x ≡ stop) → Settles {A = A} (Err stop) s1 d → Settles r s1 (follow d (λ _. tt) go)
  stopped stop d s1 r is e =
      subst (λ (r1 : Result B (Stop NodeFault)). Settles r1 s1 (follow d (λ _. tt) go)) (sym (stops_with r stop is)) (stopped_by stop d s1 e)

-- a part stopped before one with a memory, so the next one is not made and the memory is this one
pub stopped_with : {A B M : Type 0} (m : M) (go : A → Unit {0} → State → Done B M) (stop : Stop NodeFault) (d : Done A (Unit {0})) (s1 : State) (r : Result B (Stop NodeFault)) →
    r ≡ Err stop → Settles {A = A} (Err stop) s1 d → SettlesWith m r s1 (follow d (λ _. m) go)
stopped_with {A} {B} {M} m go (stop.Fault f) d s1 r is e = subst (λ (r1 : Result B (Stop NodeFault)). SettlesWith m r1 s1 (follow d (λ _. m) go)) (sym is) (ap (λ (d1 : Done A (Unit {0})). follow d1 (λ _. m) go) e)
stopped_with {A} {B} {M} m go stop.NoMemory d s1 r is e = subst (λ (r1 : Result B (Stop NodeFault)). SettlesWith m r1 s1 (follow d (λ _. m) go)) (sym is) tt

-- a part whose value is dropped before the next one, as if it were passed on
pub dropped : {A B M : Type 0} (m : M) (go : State → Done B M) (r : Result A NodeFault) (s : State) →
    follow {A = Unit {0}} {M = Unit {0}} (follow {N = Unit {0}} (ends {M = Unit {0}} r tt s) (λ _. tt) (λ value _ s1. done tt tt s1)) (λ _. m) (λ value _ s1. go s1)
    ≡ follow {M = Unit {0}} (ends r tt s) (λ _. m) (λ value _ s1. go s1)
dropped m go (Ok a) s = refl
dropped m go (Err f) s = refl
