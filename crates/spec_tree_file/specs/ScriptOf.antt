-- The script that a text reads as.
use Rattle.std.specs.Prelude.{ℕ, List, Result}
use Rattle.spec_script.specs.declared.fault.ScriptFault.{ScriptFault}
use Rattle.spec_script.specs.declared.syntax.Script.{Script}
use Rattle.spec_tree_file.specs.EveryText.{every_text}

-- The script that a text reads as, or its fault. `every_text` proves that every text has a reading (`Readings`), and this is what the
-- reading says. By the grammar of scripts a text has one reading alone, so it is all the same how that is proved.
unfoldable pub script_in : List ℕ → Result Script ScriptFault
script_in text = (every_text text).0
