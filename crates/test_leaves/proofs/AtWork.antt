-- A roster while a row is tried, before and after each call.
use Rattle.std.proofs.Common.{◌≡◌, ℕ, ℤ, zero, suc, ◌+◌, ◌<◌, Bool, true, false, if◌then◌else◌, List, [], ◌∷◌, length, map, set, get_or, replicate, Option, Some, None, refl, sym, ap, subst, ◌∙◌, add-one, arith}
use Rattle.std.specs.Prelude.{IfSome, option_map, unwrap_or}
use Rattle.std.proofs.lemmas.Bool.{false≢true}
use Rattle.std.proofs.lemmas.List.{get_or-map, get_or-set_same, length-map, length-set, map-set, set-get_or}
use Rattle.spec_script.specs.declared.cells.Seen.{Seen}
use Rattle.spec_run.specs.declared.leaf.DriverKind.{DriverKind}
use Rattle.spec_run.specs.declared.leaf.DriverKind.TheVariants as driver
use Rattle.spec_run.specs.declared.leaf.Instance.{Instance}
use Rattle.spec_run.specs.declared.leaf.Phase.{Phase}
use Rattle.spec_run.specs.declared.leaf.Phase.TheVariants as phase
use Rattle.spec_run.specs.declared.leaf.Reply.{Reply}
use Rattle.spec_run.specs.Leaf.{Answered, Rule, fresh, start_of}
use Rattle.spec_run.specs.Leaf as leaf
use Rattle.spec_world.specs.declared.world.Telling.{Telling}
use Rattle.base_tables.specs.Outputs.{since_after}
use Rattle.spec_run.specs.Drivers.{DriverState, after_call, driver_at, new_driver, place_of_kind, prepared, roster_called, roster_prepared, same_kind}
use Rattle.base_tables.specs.DriverCalls.{IsThere, instance_at, roster_answer, roster_told}
use Rattle.base_tables.proofs.Calls.{held_while_running}
use Rattle.run_driver.proofs.Preparing.{length_prepared}
use Rattle.test_leaves.specs.Stages.{IsAtWork}

module _ (ds : List DriverState) (place : ℕ) (kind : DriverKind) (since : List (Option ℕ)) (work : IsAtWork ds place kind since) (instance : ℕ) where
  -- after a call the instance is held since this time
  pub after : (phase : Phase) (left : Instance) (moment : Option ℕ) → left.since ≡ moment →
      IsAtWork (roster_called ds place phase instance left) place kind (set since instance moment)
  after phase left moment same =
      let called : driver_at (roster_called ds place phase instance left) place ≡ after_call (driver_at ds place) phase instance left =
      get_or-set_same ds place (after_call (driver_at ds place) phase instance left) (new_driver driver.Condition) work.there in
      record {
        there = omega (arith, work.there, length-set ds place (after_call (driver_at ds place) phase instance left));
        kind = ap (λ (d : DriverState). d.kind) called ∙ work.kind;
        held =
            ap (λ (d : DriverState). map (λ (i : Instance). i.since) d.table) called
            ∙ map-set (λ (i : Instance). i.since) (driver_at ds place).table instance left
            ∙ (λ j. set (work.held j) instance (same j));
      }

  module _ (within : instance < length since) where
    -- the instance is there
    pub there : IsThere ds place instance
    there = (work.there, omega (arith, within, ap length work.held, length-map (driver_at ds place).table (λ (i : Instance). i.since)))

    -- the instance is held since the time that is known
    pub moment_of : (instance_at ds place instance).since ≡ get_or since instance None
    moment_of =
        sym (get_or-map (λ (i : Instance). i.since) (driver_at ds place).table instance fresh None there.1)
        ∙ ap (λ (xs : List (Option ℕ)). get_or xs instance None) work.held

    -- an instance that is told something is held since the same time
    pub told_there : (telling : Telling) (new : List DriverState) → new ≡ roster_told ds place instance telling → IsAtWork new place kind since
    told_there telling new is =
        let at_work = after phase.Told (leaf.told telling (instance_at ds place instance)) (get_or since instance None) moment_of in
        subst (λ (drivers : List DriverState). IsAtWork drivers place kind since) (sym is)
        (subst (λ (times : List (Option ℕ)). IsAtWork (roster_told ds place instance telling) place kind times) (set-get_or since instance None) at_work)

    -- what is left after a call of `start` or `running` for a leaf that began at this time
    module _ (rule : Rule) (inputs : List Seen) (facts : List ℤ) (now : ℕ) (reply : Reply) (new : List DriverState) (moment : Option ℕ) where
      abbrev pub left_by : Phase → Answered
      left_by phase = roster_answer ds place instance rule phase inputs facts now

      called : (phase : Phase) (start : ℕ) → start_of phase (instance_at ds place instance) now ≡ start → reply ≡ (left_by phase).reply →
          new ≡ roster_called ds place phase instance (left_by phase).instance → moment ≡ since_after reply start (get_or since instance None) →
          IsAtWork new place kind (set since instance moment)
      called phase start began is_reply is_new is_moment =
          subst (λ (drivers : List DriverState). IsAtWork drivers place kind (set since instance moment)) (sym is_new)
          (after phase (left_by phase).instance moment
          (held_while_running rule phase (instance_at ds place instance) inputs facts now
          ∙ (λ i. since_after (sym is_reply i) (began i) (moment_of i)) ∙ sym is_moment))

      pub begun : get_or since instance None ≡ None → reply ≡ (left_by phase.Start).reply →
          new ≡ roster_called ds place phase.Start instance (left_by phase.Start).instance → moment ≡ since_after reply now None →
          IsAtWork new place kind (set since instance moment)
      begun free is_reply is_new is_moment =
          called phase.Start now refl is_reply is_new (is_moment ∙ ap (since_after reply now) (sym free))

      pub gone_on : (start : ℕ) → get_or since instance None ≡ Some start → reply ≡ (left_by phase.Running).reply →
          new ≡ roster_called ds place phase.Running instance (left_by phase.Running).instance → moment ≡ since_after reply start (Some start) →
          IsAtWork new place kind (set since instance moment)
      gone_on start held is_reply is_new is_moment =
          called phase.Running start (ap (λ since. unwrap_or since now) (moment_of ∙ held)) is_reply is_new
          (is_moment ∙ ap (since_after reply start) (sym held))

-- ---- A roster that is prepared for a row

same : (a b : DriverKind) → same_kind a b ≡ true → a ≡ b
same driver.Condition driver.Condition is = refl
same driver.Timed driver.Timed is = refl
same driver.Replay driver.Replay is = refl
same driver.Gate driver.Gate is = refl
same driver.Told driver.Told is = refl
same _ _ is = absurd (false≢true is)

-- if a driver was found, the one at its place is of this kind
abbrev IsOfKind : List DriverState → DriverKind → Option ℕ → Type 0
IsOfKind ds kind found = IfSome found (λ place. (place < length ds) × ((driver_at ds place).kind ≡ kind))

following : (d : DriverState) (ds : List DriverState) (kind : DriverKind) (found : Option ℕ) → IsOfKind ds kind found → IsOfKind (d ∷ ds) kind (option_map (λ place. place + 1) found)
following d ds kind None is = tt
following d ds kind (Some place) is =
    (omega (arith, is.0), ap (λ n. (driver_at (d ∷ ds) n).kind) (add-one place) ∙ is.1)

first : (d : DriverState) (ds : List DriverState) (kind : DriverKind) (b : Bool) → same_kind d.kind kind ≡ b → IsOfKind ds kind (place_of_kind ds kind) →
    IsOfKind (d ∷ ds) kind (if b then Some 0 else option_map (λ place. place + 1) (place_of_kind ds kind))
first d ds kind true is rest = (omega arith, same d.kind kind is)
first d ds kind false is rest = following d ds kind (place_of_kind ds kind) rest

of_kind : (ds : List DriverState) (kind : DriverKind) → IsOfKind ds kind (place_of_kind ds kind)
of_kind [] kind = tt
of_kind (d ∷ ds) kind = first d ds kind (same_kind d.kind kind) refl (of_kind ds kind)

prepared_at : (ds : List DriverState) (place count : ℕ) → place < length ds → driver_at (roster_prepared ds (replicate (length ds) count)) place ≡ prepared (driver_at ds place) count
prepared_at [] place count there = absurd (omega arith)
prepared_at (d ∷ ds) zero count there = refl
prepared_at (d ∷ ds) (suc place) count there = prepared_at ds place count (omega arith)

-- the driver of a kind, which was found, has two instances, none of them held
pub prepared_work : (ds : List DriverState) (kind : DriverKind) (place : ℕ) → place_of_kind ds kind ≡ Some place →
    (counts : List ℕ) → counts ≡ replicate (length ds) 2 → (new : List DriverState) → new ≡ roster_prepared ds counts → (since : List (Option ℕ)) → since ≡ replicate 2 None →
    IsAtWork new place kind since
prepared_work ds kind place found counts are new is since none =
    let there = subst (IsOfKind ds kind) found (of_kind ds kind) in
    let all : new ≡ roster_prepared ds (replicate (length ds) 2) = is ∙ ap (roster_prepared ds) are in
    let made : driver_at new place ≡ prepared (driver_at ds place) 2 = ap (λ (xs : List DriverState). driver_at xs place) all ∙ prepared_at ds place 2 there.0 in
    record {
      there = omega (arith, there.0, ap length all, length_prepared ds (replicate (length ds) 2));
      kind = ap (λ (d : DriverState). d.kind) made ∙ there.1;
      held = ap (λ (d : DriverState). map (λ (i : Instance). i.since) d.table) made ∙ sym none;
    }
