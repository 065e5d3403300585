-- What a telling leaves of the leaves of an arena.
use Rattle.std.proofs.Common.{◌≡◌, ℕ, ℤ, List, map, set, Option, Some, refl, sym, ap, subst, ◌∙◌}
use Rattle.std.proofs.Math.Seq.{map-set_same}
use Rattle.spec_script.specs.declared.value.Value.{Value}
use Rattle.spec_world.specs.declared.world.Telling.{Telling}
use Rattle.spec_run.specs.declared.leaf.DriverKind.TheVariants as driver
use Rattle.spec_run.specs.declared.leaf.Instance.{Instance}
use Rattle.spec_run.specs.declared.leaf.Phase.TheVariants as phase
use Rattle.spec_run.specs.Drivers.{DriverState, driver_at, is_held}
use Rattle.base_tables.specs.DriverCalls.{IsThere, instance_at, kind_of_way, roster_told}
use Rattle.spec_run.specs.Leaf.{fresh, told}
use Rattle.run_driver.specs.Rules.{rule}
use Rattle.run_arena.specs.declared.nodes.Kept.{Kept}
use Rattle.run_arena.specs.declared.nodes.Node.{Node}
use Rattle.run_arena.specs.declared.nodes.ReadyLeaf.{ReadyLeaf}
use Rattle.run_arena.specs.Ends.{StaysFit}
use Rattle.run_arena.specs.Nodes.{leaf_at}
use Rattle.run_arena.specs.Rosters.{AreServed, instances_of, leaf_instance}
use Rattle.run_arena.specs.Scenes.{scene}
use Rattle.run_arena.proofs.Called.{instance_at_uid, instances_called, served_after}
use Rattle.run_nodes.specs.Tellings.{CanBeTold, telling_at}

module _ (nodes : List Node) (drivers : List DriverState) (uid : ℕ) (telling : Telling) (leaf : ReadyLeaf) (are : AreServed drivers nodes) (is : leaf_at nodes uid ≡ Some leaf) where
  -- its driver serves rows whose leaves are told what they answer
  pub serves_told : CanBeTold nodes uid → (driver_at drivers leaf.driver).kind ≡ driver.Told
  serves_told can =
      let same : can.leaf ≡ leaf = cc (can.here, is) in
      sym (are.served uid leaf is).kind ∙ ap (λ (l : ReadyLeaf). kind_of_way (rule l.row).way) (sym same) ∙ can.kind

  pub is_there : IsThere drivers leaf.driver leaf.instance
  is_there = (are.served uid leaf is).there

  module _ (drivers1 : List DriverState) (was : drivers1 ≡ roster_told drivers leaf.driver leaf.instance telling) where
    abbrev left : Instance
    left = told telling (instance_at drivers leaf.driver leaf.instance)

    left_is : (telling_at nodes drivers uid telling).left ≡ left
    left_is = ap (told telling) (instance_at_uid nodes drivers uid ∙ ap (leaf_instance drivers) is)

    pub told_instances : instances_of nodes drivers1 ≡ set (instances_of nodes drivers) uid (telling_at nodes drivers uid telling).left
    told_instances =
        ap (instances_of nodes) was
        ∙ instances_called nodes drivers uid leaf phase.Told left are is
        ∙ ap (set (instances_of nodes drivers) uid) (sym left_is)

    -- no instance is held that was not, and none is let go
    held_alike : map is_held (instances_of nodes drivers1) ≡ map is_held (instances_of nodes drivers)
    held_alike =
        ap (map is_held) told_instances
        ∙ map-set_same is_held (instances_of nodes drivers) uid (telling_at nodes drivers uid telling).left fresh refl

    pub told_serves : AreServed drivers1 nodes
    told_serves = subst (λ (ds : List DriverState). AreServed ds nodes) (sym was) (served_after nodes drivers leaf.driver phase.Told leaf.instance left are)

    pub told_fits : (kept : List Kept) (board : List (Option Value)) (facts : List ℤ) → StaysFit nodes (scene kept board facts drivers) (scene kept board facts drivers1)
    told_fits kept board facts term view top fits = record {
      stands = fits.stands;
      few = fits.few;
      marks = fits.marks ∙ sym held_alike;
      leaves = told_serves;
      slots = fits.slots;
      facts = fits.facts;
    }
