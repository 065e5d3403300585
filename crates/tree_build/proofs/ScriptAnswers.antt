-- What the reader of scripts answers is the script that the text reads as.
use Rattle.std.proofs.Common.{◌≡◌, ℕ, List, Result, Ok, Err, ap}
use Rattle.spec_script.specs.declared.fault.ScriptFault.{ScriptFault}
use Rattle.base_texts.specs.declared.stop.Stop.{Stop}
use Rattle.base_texts.specs.declared.stop.Stop.TheVariants as stop
use Rattle.spec_script.specs.declared.syntax.Script.{Script}
use Rattle.script_reader.specs.Parsing.{Answers}
use Rattle.spec_script.specs.Reading.{ReadsScript, StmtsFault}
use Rattle.base_texts.specs.Stops.{Gives}
use Rattle.script_reader.proofs.Exclusive.{no-stmts_fault, one-script, one-stmts_fault}
use Rattle.spec_tree_file.specs.ScriptOf.{script_in}
use Rattle.spec_tree_file.specs.Readings.{Reading}
use Rattle.spec_tree_file.specs.EveryText.{every_text}

is_script : (text : List ℕ) (s : Script) → ReadsScript text s → (r : Reading text) → r.0 ≡ Ok s
is_script text s h (Ok t, is) = ap (λ (x : Script). Ok x) (one-script text t s is h)
is_script text s h (Err f, has) = absurd (no-stmts_fault text s f h has)

is_fault : (text : List ℕ) (f : ScriptFault) → StmtsFault text f → (r : Reading text) → r.0 ≡ Err f
is_fault text f h (Ok t, is) = absurd (no-stmts_fault text t f is h)
is_fault text f h (Err g, has) = ap (λ (x : ScriptFault). Err x) (one-stmts_fault text g f has h)

-- a text that reads as a script has this script
pub script_in-script : (text : List ℕ) (s : Script) → ReadsScript text s → script_in text ≡ Ok s
unfolding script_in
script_in-script text s h = is_script text s h (every_text text)

-- a text that has a fault has this fault
pub script_in-fault : (text : List ℕ) (f : ScriptFault) → StmtsFault text f → script_in text ≡ Err f
unfolding script_in
script_in-fault text f h = is_fault text f h (every_text text)

-- what the reader answers
pub gives-script_in : (text : List ℕ) (r : Result Script (Stop ScriptFault)) → Answers ReadsScript StmtsFault text r → Gives r (script_in text)
gives-script_in text (Ok s) h = script_in-script text s h
gives-script_in text (Err stop.NoMemory) h = tt
gives-script_in text (Err (stop.Fault f)) h = script_in-fault text f h
