-- A driver that keeps the inputs of a start is otherwise as it was.
use Rattle.std.proofs.Common.{◌≡◌, ℕ, ◌<◌, List, [], ◌∷◌, length, Bool, true, false, Option, Some, refl, sym, ap, subst, ◌∙◌, arith}
use Rattle.std.proofs.lemmas.List.{get_or-set_same, length-map, length-set, set-set}
use Rattle.std.specs.List.{All}
use Rattle.std.specs.Prelude.{slice_set, if◌then◌else◌}
use Rattle.spec_script.specs.declared.value.Value.{Value}
use Rattle.spec_run.specs.declared.leaf.DriverKind.TheVariants as driver
use Rattle.spec_run.specs.declared.leaf.Instance.{Instance}
use Rattle.spec_run.specs.declared.leaf.Phase.{Phase}
use Rattle.spec_run.specs.declared.leaf.Phase.TheVariants as phase
use Rattle.spec_run.specs.declared.status.Status.{Status}
use Rattle.spec_run.specs.declared.status.Status.TheVariants as status
use Rattle.spec_run.specs.Drivers.{DriverState, after_call, driver_at, instance_of, new_driver, roster_called}
use Rattle.spec_run.specs.Leaf.{Way, Tests, Lasts, Replays, Waits, Heeds, Obeys, asked, fresh, is_told_way, keeping, started_with}
use Rattle.spec_run.specs.Leaves.{phase_of}
use Rattle.base_tables.specs.DriverCalls.{IsThere, after_kept, instance_at, kind_of_way, roster_kept}
use Rattle.run_driver.specs.Rules.{rule}
use Rattle.run_arena.specs.declared.nodes.ReadyLeaf.{ReadyLeaf}
use Rattle.run_arena.specs.Rosters.{IsServed}
use Rattle.run_arena.specs.Sources.{IsSourceOf, source_value}
use Rattle.run_arena.specs.declared.source.Source.{Source}
use Rattle.run_arena.specs.Stages.{IsSame}
use Rattle.run_arena.specs.declared.stage.Stage.{Stage}
use Rattle.base_tables.proofs.Asked.{asked_since, asked_told}
use Rattle.run_arena.proofs.Staged.{same_here}
use Rattle.run_nodes.specs.Calls.{CallableOn, IsInPhase, IsReadied, instance_kept, values_held}

-- ---- What a driver is that keeps them

module _ (ds : List DriverState) (place instance : ℕ) (inputs : List (Option Value)) (there : IsThere ds place instance) where
  abbrev kept : List DriverState
  kept = roster_kept ds place instance inputs

  driver_kept : driver_at kept place ≡ after_kept (driver_at ds place) instance inputs
  driver_kept = get_or-set_same ds place (after_kept (driver_at ds place) instance inputs) (new_driver driver.Condition) there.0

  keeps_inputs : instance_at kept place instance ≡ keeping inputs (instance_at ds place instance)
  keeps_inputs =
      ap (λ (d : DriverState). instance_of d instance) driver_kept
      ∙ get_or-set_same (driver_at ds place).table instance (keeping inputs (instance_at ds place instance)) fresh there.1

  -- a call leaves what it would have left
  call_left_kept : (p : Phase) (left : Instance) → after_call (after_kept (driver_at ds place) instance inputs) p instance left ≡ after_call (driver_at ds place) p instance left
  call_left_kept p left =
      ap (λ (table : List Instance). record (after_call (driver_at ds place) p instance left) { table = table })
      (set-set (driver_at ds place).table instance (keeping inputs (instance_at ds place instance)) left)

  pub called_kept : (p : Phase) (left : Instance) → roster_called kept place p instance left ≡ roster_called ds place p instance left
  called_kept p left =
      ap (λ (d : DriverState). slice_set kept place (after_call d p instance left)) driver_kept
      ∙ ap (slice_set kept place) (call_left_kept p left)
      ∙ set-set ds place (after_kept (driver_at ds place) instance inputs) (after_call (driver_at ds place) p instance left)

  pub served_kept : (leaf : ReadyLeaf) → leaf.driver ≡ place → leaf.instance ≡ instance → IsServed ds leaf → IsServed kept leaf
  served_kept leaf of_place of_instance is =
      let own : driver_at kept leaf.driver ≡ after_kept (driver_at ds place) instance inputs = ap (driver_at kept) of_place ∙ driver_kept in
      let many : length (driver_at kept leaf.driver).table ≡ length (driver_at ds leaf.driver).table =
      ap (λ (d : DriverState). length d.table) own
      ∙ length-set (driver_at ds place).table instance (keeping inputs (instance_at ds place instance))
      ∙ ap (λ (p : ℕ). length (driver_at ds p).table) (sym of_place) in
      record {
        there = (omega (arith, is.there.0, length-set ds place (after_kept (driver_at ds place) instance inputs)), omega (arith, is.there.1, many));
        kind = is.kind ∙ ap (λ (p : ℕ). (driver_at ds p).kind) of_place ∙ sym (ap (λ (d : DriverState). d.kind) own);
      }

-- ---- A leaf that is to be called

-- whether it begins or goes on stays
pub in_phase : (way : Way) (st : Status) (inputs : List (Option Value)) (before after : Instance) (now : ℕ) → after ≡ asked way (phase_of st) inputs before → IsInPhase st before now → IsInPhase st after now
in_phase way status.Running inputs before after now is was = subst (λ (i : Instance). IsInPhase status.Running i now) (sym is) was
in_phase way status.Idle inputs before after now is was = ap (λ (i : Instance). i.since) is ∙ asked_since way phase.Start inputs before ∙ was
in_phase way status.Success inputs before after now is was = ap (λ (i : Instance). i.since) is ∙ asked_since way phase.Start inputs before ∙ was
in_phase way status.Failure inputs before after now is was = ap (λ (i : Instance). i.since) is ∙ asked_since way phase.Start inputs before ∙ was

-- one that begins does not go on
begins_anew : (st : Status) → phase_of st ≡ phase.Start → st ≡ status.Running → ⊥
begins_anew st begins is = let both : phase.Start ≡ phase.Running = sym begins ∙ ap phase_of is in cc (both)

module _ {D P : Type 0} (states : D → List DriverState) (st : Status) (leaf : ReadyLeaf) where
  -- its driver keeps nothing
  pub readied_same : (s : Stage D P) → CallableOn states s st leaf →
      instance_at (states s.drivers.now) leaf.driver leaf.instance ≡ instance_kept leaf st s.board.now (states s.drivers.now) → IsReadied states st leaf s s
  readied_same s can is = record {
    same = same_here s;
    kept = refl;
    board = refl;
    facts = refl;
    notes = refl;
    instance = is;
    served = can.served;
    called = λ p left. refl;
  }

  -- its driver keeps what the inputs hold
  pub readied_kept : (old new : Stage D P) → CallableOn states old st leaf → 0 < length leaf.inputs → is_told_way (rule leaf.row).way ≡ true → phase_of st ≡ phase.Start →
      IsSame old new → new.kept.now ≡ old.kept.now → new.board.now ≡ old.board.now → new.facts.now ≡ old.facts.now → new.notes.now ≡ old.notes.now →
      states new.drivers.now ≡ roster_kept (states old.drivers.now) leaf.driver leaf.instance (values_held old.board.now leaf.inputs) → IsReadied states st leaf old new
  readied_kept old new can some told begins same kept board facts notes was =
      let ds = states old.drivers.now in
      let inputs = values_held old.board.now leaf.inputs in
      let there = can.served.there in
      let many : 0 < length inputs = omega (arith, some, length-map leaf.inputs (λ (source : Source). source_value old.board.now source)) in
      record {
        same = same;
        kept = kept;
        board = board;
        facts = facts;
        notes = notes;
        instance =
            ap (λ (xs : List DriverState). instance_at xs leaf.driver leaf.instance) was
            ∙ keeps_inputs ds leaf.driver leaf.instance inputs there
            ∙ asked_told (rule leaf.row).way st inputs (instance_at ds leaf.driver leaf.instance) told (begins_anew st begins) many;
        served = subst (λ (xs : List DriverState). IsServed xs leaf) (sym was) (served_kept ds leaf.driver leaf.instance inputs there leaf refl refl can.served);
        called = λ p left. ap (λ (xs : List DriverState). roster_called xs leaf.driver p leaf.instance left) was ∙ called_kept ds leaf.driver leaf.instance inputs there p left;
      }

  -- and it can be called
  pub callable_after : (old new : Stage D P) → IsReadied states st leaf old new → CallableOn states old st leaf → CallableOn states new st leaf
  callable_after old new is can = record {
    read = subst (λ (board : List (Option Value)). All (IsSourceOf (length board)) leaf.inputs) (sym is.board) can.read;
    few_inputs = can.few_inputs;
    written = subst (λ (board : List (Option Value)). All (IsSourceOf (length board)) leaf.outputs) (sym is.board) can.written;
    names = can.names;
    table = ap length is.facts ∙ can.table;
    served = is.served;
    phase =
        subst (λ (now : ℕ). IsInPhase st (instance_at (states new.drivers.now) leaf.driver leaf.instance) now) (sym is.same.moment)
        (in_phase (rule leaf.row).way st (values_held old.board.now leaf.inputs) (instance_at (states old.drivers.now) leaf.driver leaf.instance)
        (instance_at (states new.drivers.now) leaf.driver leaf.instance) old.moment is.instance can.phase);
  }
