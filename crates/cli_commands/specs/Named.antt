-- The files of a command, as they were read.
use Rattle.std.specs.Prelude.{ℕ, List, Option}
use Rattle.std.specs.Option.{option_copied}
use Rattle.cli_commands.specs.declared.reading.FilesRead.{FilesRead}
use Rattle.cli_commands.specs.declared.reading.NamedFiles.{NamedFiles}
use Rattle.spec_program.specs.Files.{Named, Contents}

abbrev pub named : Option (List ℕ) → Option (List ℕ) → Option (List ℕ) → Option (List ℕ) → Named
named tree world rules expect = record { tree = tree; world = world; rules = rules; expect = expect }

-- .. as the code keeps them
abbrev pub names_seen : NamedFiles → Named
names_seen n = named (option_copied n.tree) (option_copied n.world) (option_copied n.rules) (option_copied n.expect)

-- what was read of them
abbrev pub contents_of : FilesRead → Contents
contents_of files = record { tree = files.tree.items; world = files.world.items; rules = files.rules.items; expect = files.expect.items }
