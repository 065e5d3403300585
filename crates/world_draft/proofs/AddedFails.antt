-- What is said of when an action fails is what is said of its row.
use Rattle.std.proofs.Common.{◌≡◌, ℕ, Bool, true, false, List, Option, Some, None, Result, Ok, Err, refl, ap, sym, ◌∙◌}
use Rattle.base_texts.specs.declared.stop.Stop.{Stop}
use Rattle.base_texts.specs.declared.stop.Stop.TheVariants as stop
use Rattle.spec_script.specs.declared.syntax.Expr.{Expr}
use Rattle.spec_world.specs.declared.world.Fact.{Fact}
use Rattle.spec_world.specs.declared.world.Row.{Row}
use Rattle.spec_world.specs.declared.world.RowSort.{RowSort}
use Rattle.spec_world.specs.declared.world.RowSort.TheVariants.{Timed, TimedBy}
use Rattle.spec_world_file.specs.declared.world_fault.WorldFaultKind.{WorldFaultKind}
use Rattle.spec_world_file.specs.WorldFile.{fails_by, knows_all, row_with_fails}
use Rattle.world_draft.specs.Drafts.{fails_said}
use Rattle.world_draft.specs.Readings.{Leaves}

-- the row with what is said
abbrev row_said : (Option Expr → RowSort) → Row → Result (Option Expr) WorldFaultKind → Result Row WorldFaultKind
row_said sort row (Ok fails) = Ok (record row { sort = sort fails })
row_said sort row (Err kind) = Err kind

leaves_row : {A : Type 0} (result : Result A (Stop WorldFaultKind)) (left : Option Expr) (sort : Option Expr → RowSort) (row : Row) (said : Result (Option Expr) WorldFaultKind) (whole : Result Row WorldFaultKind) →
    row_said sort row said ≡ whole → Leaves result left (λ s. s ≡ said) → Leaves result (record row { sort = sort left }) (λ s. s ≡ whole)
leaves_row (Ok a) left sort row said whole is h = ap (row_said sort row) h ∙ is
leaves_row (Err stop.NoMemory) left sort row said whole is h = tt
leaves_row (Err (stop.Fault kind)) left sort row said whole is h = ap (row_said sort row) h ∙ is

by_row : (facts : List Fact) (row : Row) (sort : RowSort) (known : Bool) (e : Expr) → row.sort ≡ sort → known ≡ knows_all row.ports facts e → fails_by sort row known e ≡ row_with_fails facts e row
by_row facts row sort known e is knows =
    ap (λ (k : Bool). fails_by sort row k e) knows ∙ ap (λ (s : RowSort). fails_by s row (knows_all row.ports facts e) e) (sym is)

timed_said : (ms : ℕ) (fails : Option Expr) (row : Row) (known : Bool) (e : Expr) → row_said (Timed ms) row (fails_said fails known e) ≡ fails_by (Timed ms fails) row known e
timed_said ms None row true e = refl
timed_said ms None row false e = refl
timed_said ms (Some other) row known e = refl

measured_said : (length : Expr) (fails : Option Expr) (row : Row) (known : Bool) (e : Expr) → row_said (TimedBy length) row (fails_said fails known e) ≡ fails_by (TimedBy length fails) row known e
measured_said length None row true e = refl
measured_said length None row false e = refl
measured_said length (Some other) row known e = refl

-- of an action whose length is a number
pub timed_fails : {A : Type 0} (result : Result A (Stop WorldFaultKind)) (ms : ℕ) (old new : Option Expr) (row : Row) (facts : List Fact) (known : Bool) (e : Expr) →
    row.sort ≡ Timed ms old → known ≡ knows_all row.ports facts e → Leaves result new (λ s. s ≡ fails_said old known e) →
    Leaves result (record row { sort = Timed ms new }) (λ s. s ≡ row_with_fails facts e row)
timed_fails result ms old new row facts known e is knows =
    leaves_row result new (Timed ms) row (fails_said old known e) (row_with_fails facts e row) (timed_said ms old row known e ∙ by_row facts row (Timed ms old) known e is knows)

-- .. and of one whose length is an expression
pub measured_fails : {A : Type 0} (result : Result A (Stop WorldFaultKind)) (length : Expr) (old new : Option Expr) (row : Row) (facts : List Fact) (known : Bool) (e : Expr) →
    row.sort ≡ TimedBy length old → known ≡ knows_all row.ports facts e → Leaves result new (λ s. s ≡ fails_said old known e) →
    Leaves result (record row { sort = TimedBy length new }) (λ s. s ≡ row_with_fails facts e row)
measured_fails result length old new row facts known e is knows =
    leaves_row result new (TimedBy length) row (fails_said old known e) (row_with_fails facts e row)
    (measured_said length old row known e ∙ by_row facts row (TimedBy length old) known e is knows)
