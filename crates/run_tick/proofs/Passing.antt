-- What was done on the way, and what is still to come.
use Rattle.std.proofs.Common.{◌≡◌, ℕ, List, [], ◌++◌, refl, sym, ap, ◌∙◌, subst, append_assoc, append-nil, length-append, Result, Ok, Err, arith}
use Rattle.std.specs.Prelude.{IsErrAnd}
use Rattle.base_texts.specs.declared.stop.Stop.{Stop}
use Rattle.spec_run.specs.declared.fault.NodeFault.{NodeFault}
use Rattle.spec_run.specs.declared.note.Note.{Note}
use Rattle.spec_run.specs.Done.{Call, Done, State, following, carried, done, follow}
use Rattle.run_arena.specs.declared.nodes.Kept.{Kept}
use Rattle.run_arena.specs.declared.nodes.Node.{Node}
use Rattle.run_arena.specs.Rosters.{roster_after}
use Rattle.run_arena.specs.Scenes.{Scene, state_in}
use Rattle.run_arena.specs.Ends.{IsCut, Meets}
use Rattle.run_arena.proofs.Follows.{after_both, after_met, named_both}
use Rattle.run_nodes.proofs.Following.{stops_with}
use Rattle.run_tick.specs.Turns.{Comes}

-- ---- Parts one after the other

after_twice : {A M : Type 0} (ns ms : List Note) (cs es : List Call) (d : Done A M) → following (ns ++ ms) (cs ++ es) d ≡ following ns cs (following ms es d)
after_twice ns ms cs es d = λ i. record {
  answer = d.answer;
  memory = d.memory;
  state = d.state;
  notes = append_assoc ns ms d.notes i;
  calls = append_assoc cs es d.calls i;
}

module _ {A M B N : Type 0} (ns : List Note) (cs : List Call) (d : Done A M) (place : M → N) (go : A → M → State → Done B N) where
  carried_after : (r : Result A NodeFault) → carried r (following ns cs d) place go ≡ following ns cs (carried r d place go)
  carried_after (Ok a) = after_twice ns d.notes cs d.calls (go a d.memory d.state)
  carried_after (Err f) = refl

  -- what comes after some notes and calls still comes after them
  pub follow_after : follow (following ns cs d) place go ≡ following ns cs (follow d place go)
  follow_after = carried_after d.answer

module _ {A M B N C O : Type 0} (d : Done A M) (place : M → N) (go : A → M → State → Done B N) (place2 : N → O) (go2 : B → N → State → Done C O) where
  carried_follow : (r : Result A NodeFault) → follow (carried r d place go) place2 go2 ≡ carried r d (λ m. place2 (place m)) (λ a m s. follow (go a m s) place2 go2)
  carried_follow (Ok a) = follow_after d.notes d.calls (go a d.memory d.state) place2 go2
  carried_follow (Err f) = refl

  -- two parts after a third
  pub follow_follow : follow (follow d place go) place2 go2 ≡ follow d (λ m. place2 (place m)) (λ a m s. follow (go a m s) place2 go2)
  follow_follow = carried_follow d.answer

-- ---- What comes

module _ {A M : Type 0} (nodes : List Node) where
  -- nothing was done
  pub comes_same : (s0 s1 : Scene) (n : List Note) (d e : Done A M) → s1.drivers ≡ s0.drivers → d ≡ e → Comes nodes s0 s1 n n d e
  comes_same s0 s1 n d e same is = record { told = []; made = []; all = is; named = refl; notes = sym (append-nil n); drivers = same }

  pub comes_both : (s0 s1 s2 : Scene) (n0 n1 n2 : List Note) (d e f : Done A M) → Comes nodes s0 s1 n0 n1 d e → Comes nodes s1 s2 n1 n2 e f → Comes nodes s0 s2 n0 n2 d f
  comes_both s0 s1 s2 n0 n1 n2 d e f k l = record {
    told = k.told ++ l.told;
    made = k.made ++ l.made;
    all = k.all ∙ ap (λ (x : Done A M). following k.told k.made x) l.all ∙ sym (after_twice k.told l.told k.made l.made f);
    named = omega (arith, k.named, l.named, length-append k.made l.made, named_both k.told l.told);
    notes = l.notes ∙ ap (λ (x : List Note). x ++ l.told) k.notes ∙ append_assoc n0 k.told l.told;
    drivers = l.drivers ∙ ap (roster_after nodes l.made) k.drivers ∙ sym (after_both nodes k.made l.made s0.drivers);
  }

  -- if the rest meets its definition, so does the whole
  pub met_after : (moment : ℕ) (memory : List Kept → M) (s0 s1 s2 : Scene) (n0 n1 n2 : List Note) (d e : Done A M) (r : Result A (Stop NodeFault)) →
      Comes nodes s0 s1 n0 n1 d e → Meets nodes moment memory r s1 s2 n1 n2 e → Meets nodes moment memory r s0 s2 n0 n2 d
  met_after moment memory s0 s1 s2 n0 n1 n2 d e r k m =
      subst (λ (x : Done A M). Meets nodes moment memory r s0 s2 n0 n2 x) (sym k.all)
      (after_met nodes moment memory s0 s1 s2 n0 n1 n2 k.told k.made k.notes k.drivers e k.named r m)

module _ {A M B N : Type 0} (nodes : List Node) (moment : ℕ) (memory : List Kept → M) (s0 s1 : Scene) (n0 n1 : List Note) (d : Done A M) (place : M → N) (go : A → M → State → Done B N) where
  -- a part was made, and what comes after it is still to come
  pub part_made : (a : A) → Meets nodes moment memory (Ok a) s0 s1 n0 n1 d → Comes nodes s0 s1 n0 n1 (follow d place go) (go a (memory s1.kept) (state_in nodes s1 moment))
  part_made a m = record {
    told = d.notes;
    made = d.calls;
    all =
        ap (λ (r : Result A NodeFault). carried r d place go) m.0.answer
        ∙ ap (λ (k : M). following d.notes d.calls (go a k d.state)) m.0.memory
        ∙ ap (λ (s : State). following d.notes d.calls (go a (memory s1.kept) s)) m.0.state;
    named = m.1;
    notes = m.0.notes;
    drivers = m.0.drivers;
  }

-- no note was added yet
pub none_told : {A M : Type 0} (nodes : List Node) (s : Scene) (n : List Note) (d : Done A M) → IsCut nodes s s n n d
none_told nodes s n d = record { told = []; untold = d.notes; made = []; unmade = d.calls; all_notes = refl; all_calls = refl; named = refl; notes = sym (append-nil n); drivers = refl }

-- what ends with this ends the whole with it
pub met_with : {A M : Type 0} (nodes : List Node) (moment : ℕ) (memory : List Kept → M) (r : Result A (Stop NodeFault)) (e : Stop NodeFault) (s0 s1 : Scene) (n0 n1 : List Note) (d : Done A M) → IsErrAnd r (λ x. x ≡ e) →
    Meets nodes moment memory (Err e) s0 s1 n0 n1 d → Meets nodes moment memory r s0 s1 n0 n1 d
met_with {A} nodes moment memory r e s0 s1 n0 n1 d is m = subst (λ (x : Result A (Stop NodeFault)). Meets nodes moment memory x s0 s1 n0 n1 d) (sym (stops_with r e is)) m

-- a part was made, and nothing is still to come
pub met_comes : {A M : Type 0} (nodes : List Node) (moment : ℕ) (memory : List Kept → M) (a : A) (s0 s1 : Scene) (n0 n1 : List Note) (d : Done A M) →
    Meets nodes moment memory (Ok a) s0 s1 n0 n1 d → Comes nodes s0 s1 n0 n1 d (done a (memory s1.kept) (state_in nodes s1 moment))
met_comes nodes moment memory a s0 s1 n0 n1 d m = record {
  told = d.notes;
  made = d.calls;
  all = λ i. record { answer = m.0.answer i; memory = m.0.memory i; state = m.0.state i; notes = sym (append-nil d.notes) i; calls = sym (append-nil d.calls) i };
  named = m.1;
  notes = m.0.notes;
  drivers = m.0.drivers;
}
