-- Names that are not there.
use Rattle.std.specs.Prelude.{[]}
use Rattle.spec_output.specs.Lines.{LineNames}

-- no names at all
abbrev pub no_names : LineNames
no_names = record { facts = []; cells = []; inputs = [] }
