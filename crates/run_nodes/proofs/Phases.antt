-- A leaf is called in its phase: it is held since an earlier time exactly where it is RUNNING.
use Rattle.std.proofs.Common.{◌≡◌, ℕ, ◌≤◌, List, Bool, true, false, Option, Some, None, refl, sym, ap, ◌∙◌}
use Rattle.std.specs.Prelude.{MatchOption, is_some, option_map, slice_get, unwrap_or}
use Rattle.std.proofs.lemmas.Option.{unwrap_or-slice_get}
use Rattle.spec_run.specs.declared.leaf.Instance.{Instance}
use Rattle.spec_run.specs.declared.status.Status.{Status}
use Rattle.spec_run.specs.declared.status.Status.TheVariants.{Failure, Idle, Running, Success}
use Rattle.spec_tree.specs.declared.term.Kind.TheVariants.{Leaf}
use Rattle.spec_run.specs.Leaf.{fresh}
use Rattle.base_tables.specs.Sound.{Dated, held_at, is_held}
use Rattle.run_arena.specs.declared.nodes.Node.{Node}
use Rattle.run_arena.specs.declared.nodes.ReadyLeaf.{ReadyLeaf}
use Rattle.run_arena.specs.Nodes.{leaf_at}
use Rattle.run_arena.specs.Rosters.{instances_of, leaf_instance}
use Rattle.run_arena.specs.Scenes.{Scene, state_in}
use Rattle.run_arena.proofs.Called.{instance_at_uid}
use Rattle.run_nodes.specs.Calls.{IsInPhase}

-- an instance that is there, with whether it is held
record IsHeldSo (found : Option Instance) (held : Bool) (instance : Instance) : Type 0 where
  there : found ≡ Some instance
  so : is_some instance.since ≡ held

held_so : (found : Option Instance) (held : Bool) (instance : Instance) → option_map (λ (i : Instance). is_some i.since) found ≡ Some held → unwrap_or found fresh ≡ instance → IsHeldSo found held instance
held_so None held instance e is = cc
held_so (Some x) held instance e is =
    let so : is_some x.since ≡ held = cc in record { there = ap Some is; so = ap (λ (i : Instance). is_some i.since) (sym is) ∙ so }

held_since : (since : Option ℕ) (now : ℕ) → is_some since ≡ true → ((moment : ℕ) → since ≡ Some moment → moment ≤ now) → MatchOption since ⊥ (λ moment. moment ≤ now)
held_since (Some moment) now held dated = dated moment refl
held_since None now held dated = cc

not_held : (since : Option ℕ) → is_some since ≡ false → since ≡ None
not_held None free = refl
not_held (Some moment) free = cc

module _ (nodes : List Node) (s : Scene) (now uid : ℕ) (leaf : ReadyLeaf) (is : leaf_at nodes uid ≡ Some leaf) (dated : Dated (state_in nodes s now)) where
  abbrev instance : Instance
  instance = leaf_instance s.drivers (Some leaf)

  found : (held : Bool) → held_at (state_in nodes s now) uid ≡ Some held → IsHeldSo (slice_get (instances_of nodes s.drivers) uid) held instance
  found held e =
      held_so (slice_get (instances_of nodes s.drivers) uid) held instance e
      (unwrap_or-slice_get (instances_of nodes s.drivers) uid fresh ∙ instance_at_uid nodes s.drivers uid ∙ ap (leaf_instance s.drivers) is)

  -- what the rules of states say of a leaf and its instance
  pub in_phase : (status : Status) → held_at (state_in nodes s now) uid ≡ Some (is_held status Leaf) → IsInPhase status instance now
  in_phase Running e =
      let f = found true e in
      held_since instance.since now f.so (λ moment at. dated uid moment (ap (option_map (λ (i : Instance). i.since)) f.there ∙ ap Some at))
  in_phase Idle e = not_held instance.since (found false e).so
  in_phase Success e = not_held instance.since (found false e).so
  in_phase Failure e = not_held instance.since (found false e).so
