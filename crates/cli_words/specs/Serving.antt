-- What contracts see of what is served.
use Rattle.std.specs.Option.{option_copied}
use Rattle.spec_program.specs.Words.{Served}
use Rattle.cli_words.specs.declared.words.Serve.{Serve}

-- .. with its names
abbrev pub serve_seen : Serve → Served
serve_seen s = record { tree = s.tree.now; world = option_copied s.world; main = option_copied s.main }
