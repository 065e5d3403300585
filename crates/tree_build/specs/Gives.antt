-- What a call that gives a list that it made gives.
use Rattle.std.specs.Prelude.{◌≡◌, List, Result, Ok, Err, Vec}
use Rattle.std.specs.Global.{Global}
use Rattle.base_texts.specs.declared.stop.Stop.{Stop}
use Rattle.base_texts.specs.declared.stop.Stop.TheVariants as stop

-- the list that is said, or exactly the fault that is said; want of memory may come anywhere
abbrev pub GivesList : {X F : Type 0} → Result (Vec X Global) (Stop F) → Result (List X) F → Type 0
GivesList (Ok v) said = said ≡ Ok v.items
GivesList (Err stop.NoMemory) said = Unit {0}
GivesList (Err (stop.Fault f)) said = said ≡ Err f

-- the value that is said, as it is seen, or exactly the fault that is said; want of memory may come anywhere
abbrev pub GivesSeen : {X Y F : Type 0} → (X → Y) → Result X (Stop F) → Result Y F → Type 0
GivesSeen seen (Ok x) said = said ≡ Ok (seen x)
GivesSeen seen (Err stop.NoMemory) said = Unit {0}
GivesSeen seen (Err (stop.Fault f)) said = said ≡ Err f
