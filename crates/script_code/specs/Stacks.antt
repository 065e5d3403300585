-- What a call on a stack leaves, against what is said of it.
use Rattle.std.specs.Prelude.{◌≡◌, Result, Ok, Err}
use Rattle.base_texts.specs.declared.stop.Stop.{Stop}
use Rattle.base_texts.specs.declared.stop.Stop.TheVariants as stop
use Rattle.spec_script.specs.declared.fault.ExecFault.{ExecFault}

-- The call gives and leaves what is said, seen by view, or gives the fault that is said. Want of memory may come anywhere.
abbrev pub Leaves : {X Y : Type 0} → Result X (Stop ExecFault) → Result Y ExecFault → (X → Y) → Type 0
Leaves (Ok x) said view = said ≡ Ok (view x)
Leaves (Err stop.NoMemory) said view = Unit {0}
Leaves (Err (stop.Fault f)) said view = said ≡ Err f

-- The call gives where to go on, and what is said is what is given there, or it gives the fault that is said. Want of memory may come anywhere.
abbrev pub Leads : {X Y : Type 0} → Result X (Stop ExecFault) → Result Y ExecFault → (X → Result Y ExecFault) → Type 0
Leads (Ok x) said go = said ≡ go x
Leads (Err stop.NoMemory) said go = Unit {0}
Leads (Err (stop.Fault f)) said go = said ≡ Err f
