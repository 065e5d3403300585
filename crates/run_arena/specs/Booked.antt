-- Codes that are kept by the texts of their scripts.
use Rattle.std.specs.Prelude.{◌≡◌, ℕ, List, map}
use Rattle.spec_script.specs.declared.syntax.Script.{Script}
use Rattle.spec_script.specs.Reading.{ReadsScript}
use Rattle.script_code.specs.declared.codes.Code.{Code}
use Rattle.script_code.specs.declared.codes.ScriptCode.{ScriptCode}
use Rattle.script_code.specs.Codes.{IsCodeFor, needed, program, program_over}
use Rattle.script_code.specs.Statements.{slots_below}

-- a code is that of the script that a text reads as
abbrev pub IsCodeOfText : List ℕ → ScriptCode → Type 0
IsCodeOfText text code = (script : Script) → ReadsScript text script → IsCodeFor script code

-- a code does what a script's code does over these slots of its names
pub record IsOver (slot : List ℕ → ℕ) (made : ScriptCode) (code : Code) : Type 0 where
  pub program : program code ≡ program_over made (map slot made.names)
  pub needed : needed code ≡ slots_below (map slot made.names)
  pub slots : code.slots ≡ map slot made.names

-- so does one with the number of a scope, over the slots of that scope
abbrev pub IsLatest : (ℕ → List ℕ → ℕ) → ScriptCode → ℕ × Code → Type 0
IsLatest slot made latest = IsOver (slot latest.0) made latest.1

-- a code is that of a script, over these slots of its names
pub record IsCodeIn (slot : List ℕ → ℕ) (script : Script) (code : Code) : Type 0 where
  pub made : ScriptCode
  pub of : IsCodeFor script made
  pub over : IsOver slot made code
