-- What is so of a text as a script.
use Rattle.std.specs.Prelude.{ℕ, List, Result, Ok, Err}
use Rattle.spec_script.specs.declared.fault.ScriptFault.{ScriptFault}
use Rattle.spec_script.specs.declared.syntax.Script.{Script}
use Rattle.spec_script.specs.Reading.{ReadsScript, StmtsFault}

-- it reads as this script, or it has this fault
abbrev pub IsSaid : List ℕ → Result Script ScriptFault → Type 0
IsSaid text (Ok script) = ReadsScript text script
IsSaid text (Err fault) = StmtsFault text fault

-- a text with what is said of it
abbrev pub Reading : List ℕ → Type 0
Reading text = (said : Result Script ScriptFault) × IsSaid text said

-- every text has a reading
abbrev pub EveryText : Type 0
EveryText = (text : List ℕ) → Reading text
