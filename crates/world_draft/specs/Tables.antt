-- The names of maps and sets, in the order of their numbers.
use Rattle.std.specs.Prelude.{ℕ, List, map, Vec}
use Rattle.std.specs.Global.{Global}
use Rattle.indexmap.specs.IndexMap.{IndexMap, keys}
use Rattle.indexmap.specs.IndexSet.{IndexSet}

-- the names of a map
abbrev pub names_in : {V S : Type 0} → IndexMap (Vec ℕ Global) V S → List (List ℕ)
names_in m = map (λ key. key.items) (keys m)

-- the names of a set
abbrev pub names_of_set : {S : Type 0} → IndexSet (Vec ℕ Global) S → List (List ℕ)
names_of_set s = map (λ key. key.items) s.keys
