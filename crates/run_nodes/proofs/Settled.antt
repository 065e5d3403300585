-- A part that can change the blackboard alone, as a part of an event of an arena.
use Rattle.std.proofs.Common.{◌≡◌, ℕ, List, [], Result, Ok, Err, refl, sym, subst, append-nil}
use Rattle.base_texts.specs.declared.stop.Stop.{Stop}
use Rattle.base_texts.specs.declared.stop.Stop.TheVariants as stop
use Rattle.spec_run.specs.declared.fault.NodeFault.{NodeFault}
use Rattle.spec_run.specs.declared.note.Note.{Note}
use Rattle.spec_run.specs.Done.{Done}
use Rattle.run_arena.specs.declared.nodes.Node.{Node}
use Rattle.run_arena.specs.Ends.{IsMade, Meets}
use Rattle.run_arena.specs.Scenes.{Scene, state_in}
use Rattle.run_nodes.specs.Settles.{SettlesWith}

-- what settles also meets its definition, with no note and no call
pub settles_met : {A M : Type 0} (nodes : List Node) (now : ℕ) (m : M) (r : Result A (Stop NodeFault)) (before after : Scene) (old : List Note) (d : Done A M) →
    after.drivers ≡ before.drivers → SettlesWith m r (state_in nodes after now) d → Meets nodes now (λ _. m) r before after old old d
settles_met {A} {M} nodes now m (Ok a) before after old d same e =
    let P : Done A M → Type 0 = λ d1. Meets nodes now (λ _. m) (Ok a) before after old old d1 in
    subst P (sym e) (record { answer = refl; memory = refl; state = refl; notes = sym (append-nil old); drivers = same }, refl)
settles_met {A} {M} nodes now m (Err (stop.Fault f)) before after old d same e =
    let P : Done A M → Type 0 = λ d1. IsMade nodes now (λ _. m) (Err f) before after old old d1 in
    subst P (sym e) (record { answer = refl; memory = refl; state = refl; notes = sym (append-nil old); drivers = same })
settles_met nodes now m (Err stop.NoMemory) before after old d same e =
    record { told = []; untold = d.notes; made = []; unmade = d.calls; all_notes = refl; all_calls = refl; named = refl; notes = sym (append-nil old); drivers = same }
