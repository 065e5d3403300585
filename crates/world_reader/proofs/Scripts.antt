-- A world script from which a host goes on.
use Rattle.std.proofs.Common.{◌≡◌, ℕ, Bool, true, false, List, [], ◌∷◌, MatchBool, Result, Ok, Err, refl}
use Rattle.std.specs.Prelude.{IfOk, bytes_eq, codes}
use Rattle.base_texts.specs.declared.stop.Stop.{Stop}
use Rattle.base_texts.specs.declared.stop.Stop.TheVariants as stop
use Rattle.spec_world.specs.declared.world.World.{World}
use Rattle.spec_world.specs.Worlds.{IsValidWorld}
use Rattle.spec_world_file.specs.declared.world_fault.WorldFault.{WorldFault}
use Rattle.spec_world_file.specs.declared.world_fault.WorldFaultKind.TheVariants.{Header}
use Rattle.spec_world_file.specs.WorldFile.{AfterLines, AllAfter, LinesMake, LinesRead, Reading, ReadsScript, ReadsWorld, ScriptReads, lines_in, no_header, nothing_read, script_after, without_return}
use Rattle.world_reader.specs.Readings.{Gives, ScriptLines, ScriptMakes, no_script}

-- the world of a file from which a host goes on is the world of the file
pub lines_make : (texts : List (List ℕ)) (read : World × Reading) (after : Result Reading WorldFault) → AllAfter texts after → Ok read ≡ script_after after → LinesRead texts (Ok read.0)
lines_make texts read (Err fault) lines is = absurd (cc)
lines_make [] read (Ok r) lines is = absurd (cc)
lines_make (first ∷ rest) read (Ok r) lines is = by (bytes_eq (without_return first) (codes "bt-world 1")) lines
  where
    by : (b : Bool) → MatchBool b (AfterLines 2 rest nothing_read (Ok r)) (◌≡◌ {A = Result Reading WorldFault} (Ok r) (Err (record { line = 1; kind = Header })))
        → MatchBool b (LinesMake rest (Ok read.0)) (◌≡◌ {A = Result World WorldFault} (Ok read.0) no_header)
    by true read_all = record { after = Ok r; lines = read_all; is = cc }
    by false faulty = absurd (cc)

-- it is valid
pub valid_script : (bytes : List ℕ) → ((w : World) → ReadsWorld bytes (Ok w) → IsValidWorld w) → (result : Result (World × Reading) (Stop WorldFault)) → Gives result (ReadsScript bytes)
    → IfOk result (λ read. IsValidWorld read.0)
valid_script bytes law (Ok read) reads = law read.0 (lines_make (lines_in bytes) read reads.after reads.lines reads.is)
valid_script bytes law (Err e) reads = tt

-- ---- The header

-- the lines of a file, of which the first is the header
lines_read : (texts : List (List ℕ)) (said : Result (World × Reading) WorldFault) → ScriptLines texts said → ScriptReads texts said
lines_read [] said is = record { after = Err (record { line = 1; kind = Header }); lines = refl; is = is }
lines_read (first ∷ rest) said is = let read = by (bytes_eq (without_return first) (codes "bt-world 1")) is in record { after = read.0; lines = read.1; is = read.2 }
  where
    by : (b : Bool) → MatchBool b (ScriptMakes rest said) (said ≡ no_script)
        → (after : Result Reading WorldFault) × MatchBool b (AfterLines 2 rest nothing_read after) (after ≡ Err (record { line = 1; kind = Header })) × (said ≡ script_after after)
    by true makes = (makes.after, makes.lines, makes.is)
    by false is = (Err (record { line = 1; kind = Header }), refl, is)

-- .. are those of a script
pub script_reads : (texts : List (List ℕ)) (result : Result (World × Reading) (Stop WorldFault)) → Gives result (ScriptLines texts) → Gives result (ScriptReads texts)
script_reads texts (Ok read) is = lines_read texts (Ok read) is
script_reads texts (Err stop.NoMemory) is = tt
script_reads texts (Err (stop.Fault f)) is = lines_read texts (Err f) is
