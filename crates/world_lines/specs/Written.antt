-- Values and outputs of a telling, and parts of rounds, as they are written.
use Rattle.std.specs.Prelude.{◌≡◌, ◌+◌, ℕ, List, ◌∷◌, drop, Option, Some, None, option_and_then, option_map}
use Rattle.std.specs.Str.Parse.{signed_digits_value}
use Rattle.spec_script.specs.declared.value.Value.TheVariants as value
use Rattle.spec_script.specs.declared.value.Value.{Value}
use Rattle.spec_world.specs.declared.world.ToldOut.{ToldOut}
use Rattle.spec_world_file.specs.WorldFile.{BeginsWith, HaltPart, Part, TickPart, parts_in}
use Rattle.world_lines.specs.declared.values.Written.{Written}
use Rattle.world_lines.specs.declared.values.Written.TheVariants.{Number, Text}
use Rattle.world_lines.specs.declared.rounds.WrittenPart.{WrittenPart}
use Rattle.world_lines.specs.declared.rounds.WrittenPart.TheVariants as part
use Rattle.world_lines.specs.declared.values.WrittenOut.{WrittenOut}

-- the value that is written
abbrev pub seen_value : Written → Value
seen_value (Number n) = value.Int (signed_digits_value 10 n.word.now)
seen_value (Text text) = value.Text text

-- the output that is written
abbrev pub seen_out : WrittenOut → ToldOut
seen_out out = record { port = out.port; value = seen_value out.value }

-- the part that is written
abbrev pub seen_part : WrittenPart → Part
seen_part (part.Tick n) = TickPart (signed_digits_value 10 n.word.now)
seen_part (part.Halt n) = HaltPart (signed_digits_value 10 n.word.now)

-- the words from a place on begin with a part, or are none
abbrev pub PartFound : List (List ℕ) → ℕ → Option Part → Type 0
PartFound words place found = parts_in (drop place words) ≡ option_and_then (λ part. option_map (λ parts. part ∷ parts) (parts_in (drop (place + 2) words))) found

-- a text begins with an output, before what follows it, or with none
abbrev pub FindsOut : List ℕ → Option (ToldOut × List ℕ) → Type 0
FindsOut text None = (out : ToldOut) (rest : List ℕ) → BeginsWith text out rest → ⊥
FindsOut text (Some (out, rest)) = BeginsWith text out rest
