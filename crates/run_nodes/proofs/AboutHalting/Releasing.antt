-- A held leaf is halted.
use Rattle.std.proofs.Common.{◌≡◌, ℕ, ℤ, List, [], ◌∷◌, ◌++◌, map, get_or, slice_set, true, false, IsSome, is_some, Option, Some, None, refl, sym, ap, subst, ◌∙◌, Ok}
use Rattle.spec_script.specs.declared.value.Value.{Value}
use Rattle.spec_run.specs.declared.leaf.Instance.{Instance}
use Rattle.spec_run.specs.declared.leaf.Phase.TheVariants as phase
use Rattle.spec_run.specs.declared.note.Note.{Note}
use Rattle.spec_run.specs.declared.note.Note.TheVariants.{Halted}
use Rattle.spec_run.specs.Done.{State}
use Rattle.spec_run.specs.Drivers.{DriverState, is_held}
use Rattle.base_tables.specs.DriverCalls.{instance_at, roster_halted}
use Rattle.spec_run.specs.Leaf.{fresh, released}
use Rattle.run_arena.specs.declared.nodes.Kept.{Kept}
use Rattle.run_arena.specs.declared.nodes.Node.{Node}
use Rattle.run_arena.specs.declared.nodes.ReadyLeaf.{ReadyLeaf}
use Rattle.run_arena.specs.Nodes.{kept_at, leaf_at}
use Rattle.run_arena.specs.Rosters.{AreServed, instances_of, leaf_instance}
use Rattle.run_arena.specs.Scenes.{marks_of, scene, state_in}
use Rattle.run_arena.proofs.Called.{instance_at_uid, instances_called, marks_called, roster_after_call, served_after}
use Rattle.run_arena.specs.Ends.{Meets}
use Rattle.run_nodes.specs.Halting.Halts.{leaf_released}
use Rattle.run_nodes.proofs.AboutHalting.Marks.{mark_is}

some_since : (since : Option ℕ) → is_some since ≡ true → IsSome since
some_since (Some n) held = refl
some_since None held = cc

module _ (nodes : List Node) (kept : List Kept) (drivers : List DriverState) (uid : ℕ) (leaf : ReadyLeaf) (is : leaf_at nodes uid ≡ Some leaf) where
  -- the instance of a marked leaf is held
  pub marked_is_held : marks_of kept ≡ map is_held (instances_of nodes drivers) → (kept_at kept uid).held ≡ true → IsSome (instance_at drivers leaf.driver leaf.instance).since
  marked_is_held marks held =
      some_since (instance_at drivers leaf.driver leaf.instance).since
      (ap (λ (o : Option ReadyLeaf). is_held (leaf_instance drivers o)) (sym is) ∙ sym (mark_is nodes kept drivers uid marks) ∙ held)

  here : get_or (instances_of nodes drivers) uid fresh ≡ instance_at drivers leaf.driver leaf.instance
  here = instance_at_uid nodes drivers uid ∙ ap (leaf_instance drivers) is

  module _ (served : AreServed drivers nodes) (drivers1 : List DriverState) (halted : drivers1 ≡ roster_halted drivers leaf.driver leaf.instance) where
    -- the call is that of the definition
    pub released_met : (moment : ℕ) (kept1 : List Kept) (board : List (Option Value)) (facts : List ℤ) (n n1 : List Note) → n1 ≡ n ++ Halted uid ∷ [] →
        Meets nodes moment (λ (k : List Kept). tt) (Ok tt) (scene kept board facts drivers) (scene kept1 board facts drivers1) n n1
        (leaf_released (leaf_at nodes uid) uid (state_in nodes (scene kept board facts drivers) moment))
    released_met moment kept1 board facts n n1 noted =
        let s0 = scene kept board facts drivers in
        let s1 = scene kept1 board facts drivers1 in
        let left : Instance = released (instance_at drivers leaf.driver leaf.instance) in
        let lets : slice_set (instances_of nodes drivers) uid (released (get_or (instances_of nodes drivers) uid fresh)) ≡ instances_of nodes drivers1 =
        ap (λ (i : Instance). slice_set (instances_of nodes drivers) uid (released i)) here ∙ sym (instances_called nodes drivers uid leaf phase.Halted left served is) ∙ ap (instances_of nodes) (sym halted) in
        subst (λ (o : Option ReadyLeaf). Meets nodes moment (λ (k : List Kept). tt) (Ok tt) s0 s1 n n1 (leaf_released o uid (state_in nodes s0 moment))) (sym is) (
          record {
            answer = refl;
            memory = refl;
            state = ap (λ (is : List Instance). let s : State = record { board = board; facts = facts; instances = is; moment = moment } in s) lets;
            notes = noted;
            drivers = halted ∙ sym (roster_after_call nodes drivers uid leaf phase.Halted left served is (record { uid = uid; phase = phase.Halted; left = released (get_or (instances_of nodes drivers) uid fresh) }) [] refl refl (ap released here));
          },
          refl,
        )

    -- and the marks are right again after the leaf's mark is removed
    pub released_marks : (kept1 : List Kept) → kept1 ≡ slice_set kept uid (record (kept_at kept uid) { held = false }) → marks_of kept ≡ map is_held (instances_of nodes drivers) → marks_of kept1 ≡ map is_held (instances_of nodes drivers1)
    released_marks kept1 unmarked marks =
        ap marks_of unmarked
        ∙ marks_called nodes drivers uid leaf phase.Halted (released (instance_at drivers leaf.driver leaf.instance)) served is kept (record (kept_at kept uid) { held = false }) marks refl
        ∙ ap (λ (ds : List DriverState). map is_held (instances_of nodes ds)) (sym halted)

    pub released_serves : AreServed drivers1 nodes
    released_serves = subst (λ (ds : List DriverState). AreServed ds nodes) (sym halted) (served_after nodes drivers leaf.driver phase.Halted leaf.instance (released (instance_at drivers leaf.driver leaf.instance)) served)
