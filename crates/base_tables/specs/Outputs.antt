-- What a call of a leaf leaves of its outputs, and since when it is held.
use Rattle.std.specs.Prelude.{ℕ, ℤ, List, [], Option, Some, None}
use Rattle.spec_run.specs.declared.leaf.Reply.{Reply}
use Rattle.spec_run.specs.declared.leaf.Reply.TheVariants.{Running, Success, Broken}
use Rattle.spec_world.specs.declared.world.ToldOut.{ToldOut}
use Rattle.spec_run.specs.Leaf.{Answered}

-- the outputs of a leaf: the numbers that its row works out, or the values that were told
pub record Outputs : Type 0 where
  pub numbers : List ℤ
  pub told : List ToldOut

-- none
abbrev pub no_outputs : Outputs
no_outputs = record { numbers = []; told = [] }

-- these numbers
abbrev pub numbered : List ℤ → Outputs
numbered numbers = record { numbers = numbers; told = [] }

-- the outputs that a call gives
abbrev pub outputs_given : Answered → Outputs
outputs_given a = record { numbers = a.outputs; told = a.told }

-- the outputs that stand after a call: on SUCCESS those that it gives, else those that stood before
abbrev pub outputs_left : Reply → Outputs → Outputs → Outputs
outputs_left Success given before = given
outputs_left _ given before = before

-- the outputs that stand after this call, from those that stood before it
abbrev pub outputs_after : Answered → Outputs → Outputs
outputs_after a before = outputs_left a.reply (outputs_given a) before

-- the moment since which an instance is held after a reply to a leaf that began at this moment: it
-- is held while the leaf runs; a fault changes nothing
abbrev pub since_after : Reply → ℕ → Option ℕ → Option ℕ
since_after Running start before = Some start
since_after (Broken cause) start before = before
since_after _ start before = None
