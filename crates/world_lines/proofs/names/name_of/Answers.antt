use Rattle.std.proofs.Common.{◌≡◌, ℕ, true, List}
use Rattle.std.specs.Str.{IsUtf8}
use Rattle.spec_script.specs.Identifiers.{is_identifier}
use Rattle.spec_script.proofs.Bools.{both}
use Rattle.script_reader.proofs.Identifiers.{IsUtf8-from_is_identifier}
use Rattle.spec_world.specs.Worlds.{is_name}
use Rattle.world_lines.proofs.names.name_of.Goals as goal

-- a name is UTF-8
IsUtf8-from_is_name : (word : List ℕ) → is_name word ≡ true → IsUtf8 word
IsUtf8-from_is_name word h = IsUtf8-from_is_identifier word (both (is_identifier word) _ h).0

pub copied-requires : goal.copied-requires
copied-requires c = IsUtf8-from_is_name c.args.word.now c.requires
