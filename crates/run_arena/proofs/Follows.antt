-- A part of an event that was made or stopped, and the part after it.
use Rattle.std.proofs.Common.{◌≡◌, ℕ, ◌+◌, List, [], ◌∷◌, ◌++◌, length, refl, sym, ap, ◌∙◌, subst, append_assoc, append-nil, cond, length-append, Result, Ok, Err, arith}
use Rattle.std.proofs.lemmas.List.Sums.{sum_by-append}
use Rattle.base_texts.specs.declared.stop.Stop.{Stop}
use Rattle.base_texts.specs.declared.stop.Stop.TheVariants as stop
use Rattle.spec_run.specs.declared.fault.NodeFault.{NodeFault}
use Rattle.spec_run.specs.declared.note.Note.{Note}
use Rattle.spec_run.specs.Done.{Call, Done, State, following, carried, done, follow}
use Rattle.spec_run.specs.Drivers.{DriverState}
use Rattle.run_arena.specs.declared.nodes.Kept.{Kept}
use Rattle.run_arena.specs.declared.nodes.Node.{Node}
use Rattle.run_arena.specs.Nodes.{leaf_at}
use Rattle.run_arena.specs.Noted.{calls_named, is_of_call}
use Rattle.run_arena.specs.Rosters.{leaf_called, roster_after}
use Rattle.run_arena.specs.Scenes.{Scene, state_in}
use Rattle.run_arena.specs.Ends.{IsCut, IsMade, Meets}

-- the drivers after calls, followed by others
pub after_both : (nodes : List Node) (cs ds : List Call) (drivers : List DriverState) → roster_after nodes (cs ++ ds) drivers ≡ roster_after nodes ds (roster_after nodes cs drivers)
after_both nodes [] ds drivers = refl
after_both nodes (c ∷ cs) ds drivers = after_both nodes cs ds (leaf_called (leaf_at nodes c.uid) c drivers)

-- how many calls these notes name, and further notes
pub named_both : (ns ms : List Note) → calls_named (ns ++ ms) ≡ calls_named ns + calls_named ms
named_both ns ms = sum_by-append (λ (n : Note). cond (is_of_call n) 1 0) ns ms

module _ (nodes : List Node) (moment : ℕ) where
  -- nothing was done
  pub done_met : {A M : Type 0} (memory : List Kept → M) (a : A) (s : Scene) (n : List Note) → Meets nodes moment memory (Ok a) s s n n (done a (memory s.kept) (state_in nodes s moment))
  done_met memory a s n = (record { answer = refl; memory = refl; state = refl; notes = sym (append-nil n); drivers = refl }, refl)

  module _ {A M : Type 0} (memory : List Kept → M) (s0 s1 s2 : Scene) (n0 n1 n2 : List Note) (ns : List Note) (cs : List Call) (noted : n1 ≡ n0 ++ ns) (called : s1.drivers ≡ roster_after nodes cs s0.drivers) (d : Done A M) where
    notes_after : (l : List Note) → n2 ≡ n1 ++ l → n2 ≡ n0 ++ (ns ++ l)
    notes_after l e = e ∙ ap (λ (x : List Note). x ++ l) noted ∙ append_assoc n0 ns l

    drivers_after : (l : List Call) → s2.drivers ≡ roster_after nodes l s1.drivers → s2.drivers ≡ roster_after nodes (cs ++ l) s0.drivers
    drivers_after l e = e ∙ ap (roster_after nodes l) called ∙ sym (after_both nodes cs l s0.drivers)

    made_after : (r : Result A NodeFault) → IsMade nodes moment memory r s1 s2 n1 n2 d → IsMade nodes moment memory r s0 s2 n0 n2 (following ns cs d)
    made_after r m = record { answer = m.answer; memory = m.memory; state = m.state; notes = notes_after d.notes m.notes; drivers = drivers_after d.calls m.drivers }

    named_after : length cs ≡ calls_named ns → (ms : List Note) (es : List Call) → length es ≡ calls_named ms → length (cs ++ es) ≡ calls_named (ns ++ ms)
    named_after here ms es e = omega (arith, here, e, length-append cs es, named_both ns ms)

    -- what meets its definition does so too with the notes and calls of an earlier part
    pub after_met : length cs ≡ calls_named ns → (r : Result A (Stop NodeFault)) → Meets nodes moment memory r s1 s2 n1 n2 d → Meets nodes moment memory r s0 s2 n0 n2 (following ns cs d)
    after_met named (Ok a) m = (made_after (Ok a) m.0, named_after named d.notes d.calls m.1)
    after_met named (Err (stop.Fault f)) m = made_after (Err f) m
    after_met named (Err stop.NoMemory) m = record {
      told = ns ++ m.told;
      untold = m.untold;
      made = cs ++ m.made;
      unmade = m.unmade;
      all_notes = append_assoc ns m.told m.untold ∙ ap (λ (x : List Note). ns ++ x) m.all_notes;
      all_calls = append_assoc cs m.made m.unmade ∙ ap (λ (x : List Call). cs ++ x) m.all_calls;
      named = named_after named m.told m.made m.named;
      notes = notes_after m.told m.notes;
      drivers = drivers_after m.made m.drivers;
    }

  module _ {A M B N : Type 0} (memory : List Kept → M) (memory2 : List Kept → N) (s0 s1 : Scene) (n0 n1 : List Note) (d : Done A M) (place : M → N) (go : A → M → State → Done B N) where
    goes_on : (a : A) → IsMade nodes moment memory (Ok a) s0 s1 n0 n1 d → follow d place go ≡ following d.notes d.calls (go a (memory s1.kept) (state_in nodes s1 moment))
    goes_on a m =
        ap (λ (r : Result A NodeFault). carried r d place go) m.answer
        ∙ ap (λ (k : M). following d.notes d.calls (go a k d.state)) m.memory
        ∙ ap (λ (s : State). following d.notes d.calls (go a (memory s1.kept) s)) m.state

    -- a part was made, and the next one goes on from what it has left
    pub followed : (a : A) (r : Result B (Stop NodeFault)) (s2 : Scene) (n2 : List Note) → Meets nodes moment memory (Ok a) s0 s1 n0 n1 d →
        Meets nodes moment memory2 r s1 s2 n1 n2 (go a (memory s1.kept) (state_in nodes s1 moment)) → Meets nodes moment memory2 r s0 s2 n0 n2 (follow d place go)
    followed a r s2 n2 m rest =
        subst (λ (x : Done B N). Meets nodes moment memory2 r s0 s2 n0 n2 x) (sym (goes_on a m.0))
        (after_met memory2 s0 s1 s2 n0 n1 n2 d.notes d.calls m.0.notes m.0.drivers (go a (memory s1.kept) (state_in nodes s1 moment)) m.1 r rest)

    cut_within : (r : Result A NodeFault) → IsCut nodes s0 s1 n0 n1 d → IsCut nodes s0 s1 n0 n1 (carried r d place go)
    cut_within (Ok a) m = record {
      told = m.told;
      untold = m.untold ++ (go a d.memory d.state).notes;
      made = m.made;
      unmade = m.unmade ++ (go a d.memory d.state).calls;
      all_notes = sym (append_assoc m.told m.untold (go a d.memory d.state).notes) ∙ ap (λ (x : List Note). x ++ (go a d.memory d.state).notes) m.all_notes;
      all_calls = sym (append_assoc m.made m.unmade (go a d.memory d.state).calls) ∙ ap (λ (x : List Call). x ++ (go a d.memory d.state).calls) m.all_calls;
      named = m.named;
      notes = m.notes;
      drivers = m.drivers;
    }
    cut_within (Err f) m = record { told = m.told; untold = m.untold; made = m.made; unmade = m.unmade; all_notes = m.all_notes; all_calls = m.all_calls; named = m.named; notes = m.notes; drivers = m.drivers }

    -- a part stopped, and no other comes after it
    pub stopped : (e : Stop NodeFault) → place (memory s1.kept) ≡ memory2 s1.kept → Meets {A = A} nodes moment memory (Err e) s0 s1 n0 n1 d → Meets {A = B} nodes moment memory2 (Err e) s0 s1 n0 n1 (follow d place go)
    stopped (stop.Fault f) kept m =
        let left : Done B N = record { answer = Err f; memory = place d.memory; state = d.state; notes = d.notes; calls = d.calls } in
        let made : IsMade nodes moment memory2 (Err f) s0 s1 n0 n1 left = record { answer = refl; memory = ap place m.memory ∙ kept; state = m.state; notes = m.notes; drivers = m.drivers } in
        subst (λ (x : Done B N). IsMade nodes moment memory2 (Err f) s0 s1 n0 n1 x) (ap (λ (r : Result A NodeFault). carried r d place go) (sym m.answer)) made
    stopped stop.NoMemory kept m = cut_within d.answer m
