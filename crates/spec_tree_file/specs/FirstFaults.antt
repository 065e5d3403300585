-- How faults come before what is read.
use Rattle.std.specs.Prelude.{List, [], ◌∷◌, Bool, true, false, if◌then◌else◌, Result, Ok, Err}
use Rattle.spec_tree_file.specs.ReadSteps.{go_on}
use Rattle.spec_tree_file.specs.declared.build_fault.BuildFault.{BuildFault}

-- a fault where something is so
abbrev pub fault_if : Bool → BuildFault → List BuildFault
fault_if so fault = if so then fault ∷ [] else []

-- the first of some faults, or else what is read
abbrev pub unless : {A : Type 0} → List BuildFault → A → Result A BuildFault
unless [] read = Ok read
unless (fault ∷ faults) read = Err fault

-- a fault where something is so, or else what is read
abbrev pub refused_if : {A : Type 0} → Bool → BuildFault → Result A BuildFault → Result A BuildFault
refused_if true fault read = Err fault
refused_if false fault read = read

infixl 10 ◌>>=◌
-- what is read next from what was read, or the first fault
abbrev pub ◌>>=◌ : {A B : Type 0} → Result A BuildFault → (A → Result B BuildFault) → Result B BuildFault
read >>= next = go_on next read
