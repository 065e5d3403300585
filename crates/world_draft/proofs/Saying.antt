-- What is said of the outputs of a telling.
use Rattle.std.proofs.Common.{◌≡◌, ℕ, Bool, true, false, ◌||◌, List, [], length, Result, Err, ap, ◌∙◌, if◌then◌else◌}
use Rattle.std.specs.Prelude.{nat_lt}
use Rattle.std.specs.List.{list_all, list_any}
use Rattle.spec_world.specs.declared.world.ToldOut.{ToldOut}
use Rattle.spec_world.specs.Worlds.{ports_told}
use Rattle.spec_world_file.specs.declared.world_fault.WorldFaultKind.{WorldFaultKind}
use Rattle.spec_world_file.specs.declared.world_fault.WorldFaultKind.TheVariants.{DoubleName, Range, TooMany}
use Rattle.spec_world_file.specs.WorldFile.{Reading, is_long, is_small, ranged, repeats, with_telling}
use Rattle.world_draft.specs.Tellings.{outs_said}

module _ (outs : List ToldOut) where
  pub range_said : list_all (λ out. is_small out.value) outs ≡ false → (said : Result Reading WorldFaultKind) → outs_said outs said ≡ Err Range
  range_said e said = ap (λ (b : Bool). ranged b (with_telling outs said)) e

  small_said : list_all (λ out. is_small out.value) outs ≡ true → (said : Result Reading WorldFaultKind) → outs_said outs said ≡ with_telling outs said
  small_said e said = ap (λ (b : Bool). ranged b (with_telling outs said)) e

  pub double_said : list_all (λ out. is_small out.value) outs ≡ true → repeats [] (ports_told outs) ≡ true → (said : Result Reading WorldFaultKind) → outs_said outs said ≡ Err DoubleName
  double_said e d said =
      small_said e said ∙ ap (λ (b : Bool). if b then Err DoubleName else (if nat_lt 8 (length outs) || list_any (λ out. is_long out.value) outs then Err TooMany else said)) d

  pub counted_said : (many : Bool) → list_all (λ out. is_small out.value) outs ≡ true → repeats [] (ports_told outs) ≡ false → (nat_lt 8 (length outs) || list_any (λ out. is_long out.value) outs) ≡ many → (said : Result Reading WorldFaultKind) → outs_said outs said ≡ (if many then Err TooMany else said)
  counted_said many e d m said =
      small_said e said ∙ ap (λ (b : Bool). if b then Err DoubleName else (if nat_lt 8 (length outs) || list_any (λ out. is_long out.value) outs then Err TooMany else said)) d
      ∙ ap (λ (b : Bool). if b then Err TooMany else said) m
