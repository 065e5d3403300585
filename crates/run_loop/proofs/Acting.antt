-- A runner's part, made over a record of its blackboard, among all runners.
use Rattle.std.proofs.Common.{◌≡◌, ◌-◌, ℤ, List, ◌<◌, ◌^◌, Option, Some, Result, length, set, slice_get, sym, ap, subst, ◌∙◌, arith}
use Rattle.std.proofs.lemmas.Option.{get_or_from_slice_get}
use Rattle.std.proofs.Math.Seq.{map-set_same}
use Rattle.base_texts.specs.declared.stop.Stop.{Stop}
use Rattle.spec_script.specs.declared.value.Value.{Value}
use Rattle.spec_run.specs.declared.fault.NodeFault.{NodeFault}
use Rattle.spec_run.specs.declared.note.Note.{Note}
use Rattle.spec_run.specs.Drivers.{DriverState}
use Rattle.spec_run.specs.Run.{Runner, root_view, runner_at}
use Rattle.spec_run.specs.Served.{Setup}
use Rattle.run_arena.specs.Ends.{StaysFit}
use Rattle.run_arena.specs.Scenes.{Fits}
use Rattle.run_arena.specs.Stands.{memory_of}
use Rattle.run_loop.specs.declared.parts.Turn.{Turn}
use Rattle.run_loop.specs.declared.runs.ReadyRunner.{ReadyRunner}
use Rattle.run_loop.specs.declared.runs.Runs.{Runs}
use Rattle.run_loop.specs.Parts.{CanAct, CanTake, MeetsPart, PartEnds, StaysArena, acting, scene_of, turn_part}
use Rattle.run_loop.specs.Runs.{RunnersFit, arenas_in, arenas_of, state_of_runs}
use Rattle.run_loop.proofs.Putting.{calls_of, can_act, fit_put, part_among}

module _ (of : Setup) (turn : Turn) (before : List DriverState) (runs : Runs) (can : CanTake of turn before runs) (r : ReadyRunner) (is : slice_get runs.runners.items (turn.runner - 1) ≡ Some r)
    (board : List (Option Value)) (same : board ≡ r.board) where
  -- the runner can make its part over the record
  pub can_over : CanAct of.tree of.world turn.at runs.facts before (acting r.arena board)
  can_over =
      subst (λ (b : List (Option Value)). CanAct of.tree of.world turn.at runs.facts before (acting r.arena b)) (sym same)
      (can_act of.tree of.world turn.at before runs can.are can.ahead (turn.runner - 1) r is)

  -- it was made, and then the runner has its blackboard back
  module _ (new1 new : ReadyRunner) (left : new ≡ new1) (facts : List ℤ) (after : List DriverState) (ended1 ended : Result (Unit {0}) (Stop NodeFault)) (so : ended ≡ ended1)
      (old notes1 notes : List Note) (said : notes ≡ notes1) (stays1 : StaysArena r.arena new1.arena)
      (met : MeetsPart of turn.part turn.at ended1 (acting r.arena board) (scene_of (acting r.arena board) runs.facts before) (scene_of new1 facts after) old notes1) where
    stays : StaysArena r.arena new.arena
    stays = subst (λ (n : ReadyRunner). StaysArena r.arena n.arena) (sym left) stays1

    own : MeetsPart of turn.part turn.at ended r (scene_of r runs.facts before) (scene_of new facts after) old notes
    own =
        subst (λ (n : ReadyRunner). MeetsPart of turn.part turn.at ended r (scene_of r runs.facts before) (scene_of n facts after) old notes) (sym left)
        (subst (λ (e : Result (Unit {0}) (Stop NodeFault)). MeetsPart of turn.part turn.at e r (scene_of r runs.facts before) (scene_of new1 facts after) old notes) (sym so)
        (subst (λ (ns : List Note). MeetsPart of turn.part turn.at ended1 r (scene_of r runs.facts before) (scene_of new1 facts after) old ns) (sym said)
        (subst (λ (b : List (Option Value)). MeetsPart of turn.part turn.at ended1 (acting r.arena b) (scene_of (acting r.arena b) runs.facts before) (scene_of new1 facts after) old notes1) same met)))

    -- it ends as the definition says, among all runners
    pub part_over : (x : Runner) → runner_at (state_of_runs of.tree.term before runs) turn.runner ≡ Some x →
        PartEnds ended of.tree.term turn.runner turn.at (state_of_runs of.tree.term before runs) (arenas_of runs) before after (set runs.runners.items (turn.runner - 1) new) facts old notes
        (turn_part of turn (state_of_runs of.tree.term before runs) x)
    part_over x at = part_among of turn before runs can.are can.first r is new facts after stays.nodes ended old notes own x at

    -- all runners fit again
    pub fit_over : StaysFit r.arena.nodes.items (scene_of (acting r.arena board) runs.facts before) (scene_of new1 facts after) → RunnersFit of.tree of.world facts after (set runs.runners.items (turn.runner - 1) new)
    fit_over fits =
        let made = calls_of r.arena.nodes.items turn.at (memory_of of.tree.term 1) ended (scene_of r runs.facts before) (scene_of new facts after) old notes _ own in
        fit_put of.tree of.world runs.runners.items runs.facts before can.are.fit (turn.runner - 1) r is new facts after stays.nodes made.0 made.1 stays.number stays.room
        (subst (λ (n : ReadyRunner). Fits of.tree.term (root_view of.tree of.world) 1 r.arena.nodes.items (scene_of n facts after)) (sym left) (fits of.tree.term (root_view of.tree of.world) 1 can_over.fits))

  -- the blackboard has as many slots
  pub few_over : (new : ReadyRunner) (facts : List ℤ) (after : List DriverState) → StaysFit r.arena.nodes.items (scene_of (acting r.arena board) runs.facts before) (scene_of new facts after) → length new.board < 2 ^ 32
  few_over new facts after fits = omega (arith, can.are.fit.few_slots, (fits of.tree.term (root_view of.tree of.world) 1 can_over.fits).slots)

  -- and all arenas are the same
  pub arenas_over : (new1 new : ReadyRunner) → new ≡ new1 → StaysArena r.arena new1.arena → arenas_in (set runs.runners.items (turn.runner - 1) new) ≡ arenas_in runs.runners.items
  arenas_over new1 new left stays =
      map-set_same (λ (x : ReadyRunner). x.arena.nodes.items) runs.runners.items (turn.runner - 1) new r
      (ap (λ (x : ReadyRunner). x.arena.nodes.items) left ∙ stays.nodes ∙ ap (λ (x : ReadyRunner). x.arena.nodes.items) (sym (get_or_from_slice_get runs.runners.items (turn.runner - 1) r r is)))
