-- The world script that a ground file stands for is whole lines.
use Rattle.std.proofs.Common.{◌≡◌, ℕ, List, [], ◌∷◌, ◌++◌, codes, length, Bool, true, false, Result, Ok, Err, sym, subst, append-nil}
use Rattle.std.specs.Prelude.{bytes_eq, flat_map, if◌then◌else◌, nat_le}
use Rattle.spec_outside.specs.Writes.{AreLines}
use Rattle.spec_tree.specs.Limits.{most_file_bytes}
use Rattle.spec_world_file.specs.Blocks.{Line, lines_of, parts_of, script_of}
use Rattle.spec_world_file.specs.GroundFile.{Grounded, Reading, closed, ground_after, ground_of, grounded, headed, nothing_read, reads_ground, with_lines}
use Rattle.spec_world_file.specs.WorldFile.{lines_in, without_return}
use Rattle.spec_world_file.specs.declared.ground_fault.GroundFault.{GroundFault}
use Rattle.spec_world_file.specs.declared.ground_fault.GroundFault.TheVariants as fault
use Rattle.spec_world_file.specs.declared.open_block.OpenBlock.{OpenBlock}
use Rattle.base_outside.proofs.Writings.{lines-after, lines-equal, lines-feed}

-- ---- A script

abbrev ended : Line → List ℕ
ended line = line.text ++ 10 ∷ []

all_lines : (line : Line) (lines : List Line) → AreLines (flat_map ended (line ∷ lines))
all_lines line [] = lines-equal (ended line ++ []) (ended line) (append-nil (ended line)) (lines-after line.text _ lines-feed)
all_lines line (next ∷ lines) = lines-after (ended line) _ (all_lines next lines)

script_lines : (lines : List Line) → AreLines (script_of lines)
script_lines [] = lines-after (codes "bt-world 1") _ lines-feed
script_lines (line ∷ lines) = lines-after (codes "bt-world 1\n") _ (all_lines line lines)

-- ---- A file

-- where a text was read, it is lines
abbrev GivesLines : Result Grounded GroundFault → Type 0
GivesLines (Ok g) = AreLines g.text
GivesLines (Err f) = Unit {0}

sized_lines : (fits : Bool) (g : Grounded) → AreLines g.text → GivesLines (if fits then Ok g else Err (fault.TooManyGround (length g.text)))
sized_lines true g lines = lines
sized_lines false g lines = tt

closed_lines : (blocks : List OpenBlock) (r : Reading) → GivesLines (closed blocks r)
closed_lines [] r =
    let lines = lines_of r.sorts (parts_of r.items) in
    sized_lines (nat_le (length (script_of lines)) most_file_bytes) (grounded lines) (script_lines lines)
closed_lines (block ∷ blocks) r = tt

after_lines : (read : Result Reading GroundFault) → GivesLines (ground_after read)
after_lines (Ok r) = closed_lines r.blocks r
after_lines (Err f) = tt

headed_lines : (there : Bool) (lines : List (List ℕ)) → GivesLines (headed there lines)
headed_lines true lines = after_lines (with_lines 2 lines nothing_read)
headed_lines false lines = tt

file_lines : (lines : List (List ℕ)) → GivesLines (ground_of lines)
file_lines [] = tt
file_lines (first ∷ rest) = headed_lines (bytes_eq (without_return first) (codes "bt-ground 1")) rest

pub ground_lines : (bytes : List ℕ) (g : Grounded) → (let read : Result Grounded GroundFault = Ok g in read ≡ reads_ground bytes) → AreLines g.text
ground_lines bytes g said = subst (λ (read : Result Grounded GroundFault). GivesLines read) (sym said) (file_lines (lines_in bytes))
