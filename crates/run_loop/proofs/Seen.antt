-- What is said of a stage, said of the runner of which it was made.
use Rattle.std.proofs.Common.{◌≡◌, ◌<◌, ℕ, ℤ, List, ◌++◌, length, Option, Result, refl, sym, ap, subst, ◌∙◌}
use Rattle.std.specs.Vec.{with_items}
use Rattle.base_texts.specs.declared.stop.Stop.{Stop}
use Rattle.spec_script.specs.declared.value.Value.{Value}
use Rattle.spec_run.specs.declared.fault.NodeFault.{NodeFault}
use Rattle.spec_run.specs.declared.note.Note.{Note}
use Rattle.spec_run.specs.Drivers.{DriverState}
use Rattle.spec_run.specs.Run.{root_view}
use Rattle.run_arena.specs.declared.nodes.Kept.{Kept}
use Rattle.run_arena.specs.declared.nodes.Node.{Node}
use Rattle.run_arena.specs.Ends.{Meets, StaysFit}
use Rattle.run_arena.specs.Scenes.{Scene, scene, state_in}
use Rattle.run_arena.specs.Stands.{memory_of}
use Rattle.run_nodes.proofs.AboutHalting.Lent.{written_back}
use Rattle.run_nodes.proofs.AboutHalting.Marks.{as_many_marks}
use Rattle.run_tick.specs.Turns.{CanVisit}
use Rattle.run_loop.specs.declared.parts.Part.{Part}
use Rattle.run_loop.specs.declared.runs.ReadyRunner.{ReadyRunner}
use Rattle.run_loop.specs.Parts.{CanAct, MeetsPart, part_of, scene_of}
use Rattle.spec_run.specs.Served.{Setup}

-- scenes of the same parts are the same
pub scene_as : {k k1 : List Kept} {b b1 : List (Option Value)} {f f1 : List ℤ} {d d1 : List DriverState} →
    k ≡ k1 → b ≡ b1 → f ≡ f1 → d ≡ d1 → scene k b f d ≡ scene k1 b1 f1 d1
scene_as kept board facts drivers = λ i. scene (kept i) (board i) (facts i) (drivers i)

-- a place is there among the same
pub there_as : {a b : List Kept} (n : ℕ) → b ≡ a → n < length a → n < length b
there_as n same there = subst (λ (k : List Kept). n < length k) (sym same) there

-- notes after the same notes are the same
pub told_as : {l l1 : List Note} (ns : List Note) → l ≡ l1 → l ++ ns ≡ l1 ++ ns
told_as ns same = ap (λ (l : List Note). l ++ ns) same

-- A stage was made of a runner, with these facts and drivers and at this time: its nodes are the runner's, and so is
-- what they keep.
pub record Made : Type 0 where
  pub runner : ReadyRunner
  pub facts : List ℤ
  pub drivers : List DriverState
  pub at : ℕ
  pub nodes : List Node
  pub kept : List Kept
  pub same_nodes : nodes ≡ runner.arena.nodes.items
  pub same_kept : kept ≡ runner.arena.kept.items
  pub size : length kept ≡ runner.arena.kept.len

abbrev pub made_of : (r : ReadyRunner) (facts : List ℤ) (drivers : List DriverState) (at : ℕ) {nodes : List Node} {kept : List Kept} →
    nodes ≡ r.arena.nodes.items → kept ≡ r.arena.kept.items → length kept ≡ r.arena.kept.len → Made
made_of r facts drivers at {nodes} {kept} same_nodes same_kept size =
    record { runner = r; facts = facts; drivers = drivers; at = at; nodes = nodes; kept = kept; same_nodes = same_nodes; same_kept = same_kept; size = size }

module _ (of : Setup) (m : Made) where
  -- the scene of the stage, and that of the runner
  abbrev pub first : Scene
  first = scene m.kept m.runner.board m.facts m.drivers

  abbrev old : Scene
  old = scene_of m.runner m.facts m.drivers

  abbrev Can : Type 0
  Can = CanAct of.tree of.world m.at m.facts m.drivers m.runner

  first_is : first ≡ old
  first_is = scene_as m.same_kept refl refl refl

  -- the root can be visited there
  pub can_visit : Can → CanVisit m.nodes m.at of.tree.term (root_view of.tree of.world) 1 first
  can_visit can =
      let P : List Node → Scene → Type 0 = λ ns s. CanVisit ns m.at of.tree.term (root_view of.tree of.world) 1 s in
      subst (λ (ns : List Node). P ns first) (sym m.same_nodes)
      (subst (λ (s : Scene). P m.runner.arena.nodes.items s) (sym first_is) (record { fits = can.fits; sound = can.sound; dated = can.dated }))

  -- a part that was made there is the runner's
  pub part_seen : (part : Part) (result : Result (Unit {0}) (Stop NodeFault)) (last new : Scene) (before told noted : List Note) → new ≡ last → noted ≡ told →
      Meets m.nodes m.at (memory_of of.tree.term 1) result first last before told (part_of part of.tree of.world m.runner.arena.runner (memory_of of.tree.term 1 first.kept) (state_in m.nodes first m.at)) →
      MeetsPart of part m.at result m.runner old new before noted
  part_seen part result last new before told noted left said met =
      let P : List Node → Scene → Scene → List Note → Type 0 = λ ns s s1 n.
      Meets ns m.at (memory_of of.tree.term 1) result s s1 before n (part_of part of.tree of.world m.runner.arena.runner (memory_of of.tree.term 1 s.kept) (state_in ns s m.at)) in
      subst (λ (n : List Note). P m.runner.arena.nodes.items old new n) (sym said)
      (subst (λ (s : Scene). P m.runner.arena.nodes.items old s told) (sym left)
      (subst (λ (s : Scene). P m.runner.arena.nodes.items s last told) first_is
      (subst (λ (ns : List Node). P ns first last told) m.same_nodes met)))

  -- what fits there still fits the runner
  pub stays_seen : (last new : Scene) → new ≡ last → StaysFit m.nodes first last → StaysFit m.runner.arena.nodes.items old new
  stays_seen last new left stays =
      subst (λ (s : Scene). StaysFit m.runner.arena.nodes.items old s) (sym left)
      (subst (λ (s : Scene). StaysFit m.runner.arena.nodes.items s last) first_is
      (subst (λ (ns : List Node). StaysFit ns first last) m.same_nodes stays))

  -- what nodes keep on the stage in the end is what the runner's keep then
  pub given_back : (last : Scene) → Can → StaysFit m.nodes first last → (new : List Kept) → length new ≡ length last.kept → (with_items m.runner.arena.kept new).items ≡ new
  given_back last can stays new as_many =
      let fits = (can_visit can).fits in
      written_back m.runner.arena.kept.len new m.runner.arena.kept.items
      (as_many
      ∙ as_many_marks m.nodes last.kept last.drivers (stays of.tree.term (root_view of.tree of.world) 1 fits).marks
      ∙ sym (as_many_marks m.nodes m.kept m.drivers fits.marks)
      ∙ m.size)
      (ap length (sym m.same_kept) ∙ m.size)
