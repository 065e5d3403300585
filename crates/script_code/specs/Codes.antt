-- The meaning of a code.
use Rattle.std.specs.Prelude.{◌≡◌, ℕ, List, [], map}
use Rattle.std.specs.List.{flat_map}
use Rattle.std.specs.Str.{bytes_eq}
use Rattle.indexmap.specs.IndexSet.{insert_all}
use Rattle.spec_script.specs.declared.syntax.Script.{Script}
use Rattle.spec_script.specs.Scripts.{stmt_names}
use Rattle.script_code.specs.declared.codes.Code.{Code}
use Rattle.script_code.specs.declared.codes.ExprCode.{ExprCode}
use Rattle.script_code.specs.declared.codes.ScriptCode.{ScriptCode}
use Rattle.script_code.specs.Programs.{Formula, Program, program_of}
use Rattle.script_code.specs.Sources.{place_in}
use Rattle.script_code.specs.Statements.{code_formula, one_by_one, slot_in, slots_below, stmt_program}

-- what a script's code does where its names have these slots, by number
unfoldable pub program_over : ScriptCode → List ℕ → Program
program_over code slots = one_by_one (map (stmt_program (slot_in slots)) code.stmts)

-- A code is that of a script: over any slots of its names it does what the script does. Its names are those of the script,
-- each once, in the order in which they are first met.
pub record IsCodeFor (script : Script) (code : ScriptCode) : Type 0 where
  pub meaning : (slots : List ℕ) → program_over code slots ≡ program_of (λ name. slot_in slots (place_in code.names name)) script.stmts
  pub names : code.names ≡ insert_all bytes_eq [] (flat_map stmt_names script.stmts)

-- what a script's code does over its slots
unfoldable pub program : Code → Program
program code = one_by_one (map (stmt_program (slot_in code.slots)) code.stmts)

-- how many slots it needs
unfoldable pub needed : Code → ℕ
needed code = slots_below code.slots

-- what an expression's code gives, and what it needs
unfoldable pub formula : ExprCode → Formula
formula code = code_formula code.postfix.instrs
