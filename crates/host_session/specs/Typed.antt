-- What the types of an event say of it.
use Rattle.std.specs.Prelude.{◌<◌, ◌^◌, IsTrue}
use Rattle.spec_tree.specs.Numbers.{is_int}
use Rattle.spec_world.specs.declared.world.What.{What}
use Rattle.spec_world.specs.declared.world.What.TheVariants.{Tick, Halt, Change, Tell}

-- the value of a fact has 64 bits, and a uid 32
abbrev pub IsTyped : What → Type 0
IsTyped (Tick runner) = Unit {0}
IsTyped (Halt runner) = Unit {0}
IsTyped (Change fact value) = IsTrue (is_int value)
IsTyped (Tell runner uid telling) = uid < 2 ^ 32
