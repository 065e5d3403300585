-- The head of a row, as the code has it.
use Rattle.spec_world_file.specs.WorldFile as file
use Rattle.world_lines.specs.declared.head.Head.{Head}

-- a head of the code as the definition has it
abbrev pub seen_head : Head → file.Head
seen_head head = record { id = head.id; ports = head.ports.items }
