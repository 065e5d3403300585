-- Ground files: what a line says, its faults in their order, and the text that a file stands for.
use Rattle.std.specs.Prelude.{◌≡◌, ℕ, ◌+◌, ◌-◌, ◌==◌, Bool, true, false, not, ◌&&◌, ◌||◌, nat_le, nat_lt, if◌then◌else◌, List, [], ◌∷◌, ◌++◌, map, length, codes, bytes_eq, position, Option, Some, None, is_some, Result, Ok, Err, slice_get, unwrap_or}
use Rattle.std.specs.List.{list_all, list_any}
use Rattle.spec_world.specs.declared.world.World.{World}
use Rattle.spec_world_file.specs.declared.world_fault.WorldFault.{WorldFault}
use Rattle.spec_tree.specs.Limits.{most_file_bytes}
use Rattle.spec_world.specs.Worlds.{is_name}
use Rattle.spec_world_file.specs.WorldFile.{ReadsWorld, after_word, content, ends_after, front_word, is_ignored, is_line_byte, lines_in, repeats, without_return, word, words_in}
use Rattle.spec_world_file.specs.declared.ground_fault.GroundFault.{GroundFault}
use Rattle.spec_world_file.specs.declared.ground_fault.GroundFault.TheVariants as fault
use Rattle.spec_world_file.specs.declared.sort.Sort.{Sort}
use Rattle.spec_world_file.specs.declared.open_block.OpenBlock.{OpenBlock}
use Rattle.spec_world_file.specs.Blocks.{Body, End, Forall, Item, Line, after_marks, is_variable, lines_of, parts_of, script_of}

-- ---- Limits

-- the most sorts of a file, and the most values of a sort
abbrev pub most_sorts : ℕ
most_sorts = 16

abbrev pub most_values : ℕ
most_values = 16

-- the most blocks that are open at a place
abbrev pub most_open : ℕ
most_open = 3

-- ---- What was read so far

-- the sorts, the blocks that are open, the innermost first, and what the text is made of
pub record Reading : Type 0 where
  pub sorts : List Sort
  pub blocks : List OpenBlock
  pub items : List Item

-- before the first line
abbrev pub nothing_read : Reading
nothing_read = record { sorts = []; blocks = []; items = [] }

-- the number of the sort of this name
abbrev pub sort_number : List Sort → List ℕ → Option ℕ
sort_number sorts name = position (λ sort. bytes_eq name sort.name) sorts

-- whether a block of this variable is open
abbrev pub is_open : List OpenBlock → ℕ → Bool
is_open blocks variable = list_any (λ block. block.variable == variable) blocks

-- ---- What a line adds, or its first fault; each line is known by its number

-- a sort of this name and these values, if they may be one: it has 1 to 16 values
abbrev pub sort_with : List ℕ → List (List ℕ) → Option Sort
sort_with name values =
    if is_name name && list_all is_name values && nat_lt 0 (length values) && nat_le (length values) most_values
    then Some (record { name = name; values = values }) else None

-- the sort that these words are, if they are one: its name and its values
abbrev pub sort_in : List (List ℕ) → Option Sort
sort_in [] = None
sort_in (name ∷ values) = sort_with name values

-- whether a sort may not be added since a name would stand twice
abbrev pub is_double : List Sort → Sort → Bool
is_double sorts sort = is_some (sort_number sorts sort.name) || repeats [] sort.values

-- one more sort, outside all blocks
abbrev pub with_sort : ℕ → Option Sort → Reading → Result Reading GroundFault
with_sort number None r = Err (fault.BadLine number)
with_sort number (Some sort) r =
    if not (length r.blocks == 0) then Err (fault.BadLine number)
    else if is_double r.sorts sort then Err (fault.DoubleName number)
    else if nat_le most_sorts (length r.sorts) then Err (fault.TooMany number)
    else Ok (record r { sorts = r.sorts ++ sort ∷ [] })

-- a block of the sort of this number, or none where the sort is not known
abbrev pub with_block : ℕ → ℕ → Option ℕ → Reading → Result Reading GroundFault
with_block number variable None r = Err (fault.NoName number)
with_block number variable (Some sort) r =
    if nat_le most_open (length r.blocks) then Err (fault.TooNested number)
    else Ok (record r { blocks = record { variable = variable; line = number } ∷ r.blocks; items = r.items ++ Forall variable sort ∷ [] })

-- a block of this variable
abbrev pub with_variable : ℕ → ℕ → List ℕ → Reading → Result Reading GroundFault
with_variable number variable sort r =
    if is_open r.blocks variable then Err (fault.DoubleName number) else with_block number variable (sort_number r.sorts sort) r

-- the variable that a word is
abbrev pub variable_in : List ℕ → Option ℕ
variable_in (b ∷ []) = if is_variable b then Some b else None
variable_in _ = None

-- a block of the variable and the sort that these words are
abbrev pub with_words : ℕ → Option ℕ → List ℕ → Reading → Result Reading GroundFault
with_words number None sort r = Err (fault.BadLine number)
with_words number (Some variable) sort r = if is_name sort then with_variable number variable sort r else Err (fault.BadLine number)

-- `forall X SORT`, from after `forall`
abbrev pub with_forall : ℕ → List ℕ → Reading → Result Reading GroundFault
with_forall number text r =
    if ends_after 2 text then with_words number (variable_in (word 0 text)) (word 1 text) r else Err (fault.BadLine number)

-- the innermost of these blocks ends, where one is open
abbrev pub without_block : ℕ → List OpenBlock → Reading → Result Reading GroundFault
without_block number [] r = Err (fault.BadLine number)
without_block number (block ∷ blocks) r = Ok (record r { blocks = blocks; items = r.items ++ End ∷ [] })

-- `end`, from after `end`
abbrev pub with_end : ℕ → List ℕ → Reading → Result Reading GroundFault
with_end number text r = if ends_after 0 text then without_block number r.blocks r else Err (fault.BadLine number)

-- a body line
abbrev pub with_body : ℕ → List ℕ → Reading → Result Reading GroundFault
with_body number text r =
    if not (after_marks is_variable text) then Err (fault.BadLine number)
    else if not (after_marks (is_open r.blocks) text) then Err (fault.NoName number)
    else Ok (record r { items = r.items ++ Body (record { origin = number; text = text }) ∷ [] })

-- a line that begins with this word, with what follows the word; one that begins with none of the three is a body line
abbrev pub with_form : ℕ → (kind rest text : List ℕ) → Reading → Result Reading GroundFault
with_form number kind rest text r =
    if bytes_eq kind (codes "sort") then with_sort number (sort_in (words_in rest)) r
    else if bytes_eq kind (codes "forall") then with_forall number rest r
    else if bytes_eq kind (codes "end") then with_end number rest r
    else with_body number text r

-- a line of this content, which without its carriage return is this text; blank lines and comments are ignored
abbrev pub with_content : ℕ → (held text : List ℕ) → Reading → Result Reading GroundFault
with_content number held text r =
    if is_ignored held then Ok r
    else if not (list_all is_line_byte held) then Err (fault.BadLine number)
    else with_form number (front_word held) (after_word held) text r

-- a line
abbrev pub with_line : ℕ → List ℕ → Reading → Result Reading GroundFault
with_line number line r = with_content number (content line) (without_return line) r

-- ---- All lines

-- what was read before is read on, where it has no fault
abbrev pub goes_on : Result Reading GroundFault → (Reading → Result Reading GroundFault) → Result Reading GroundFault
goes_on (Ok r) rest = rest r
goes_on (Err f) rest = Err f

-- these lines, of which the first has this number
abbrev pub with_lines : ℕ → List (List ℕ) → Reading → Result Reading GroundFault
with_lines number [] r = Ok r
with_lines number (line ∷ lines) r = goes_on (with_line number line r) (with_lines (number + 1) lines)

-- ---- The text of a file

-- a text, and for each of its lines the number of the line of the file from which it comes
pub record Grounded : Type 0 where
  pub text : List ℕ
  pub origins : List ℕ

-- the text of these lines; its first line comes from the first of the file
abbrev pub grounded : List Line → Grounded
grounded lines = record { text = script_of lines; origins = 1 ∷ map (λ line. line.origin) lines }

-- a text that is not too long
abbrev pub sized : Grounded → Result Grounded GroundFault
sized g = if nat_le (length g.text) most_file_bytes then Ok g else Err (fault.TooManyGround (length g.text))

-- the text of what was read, where no block is open
abbrev pub closed : List OpenBlock → Reading → Result Grounded GroundFault
closed [] r = sized (grounded (lines_of r.sorts (parts_of r.items)))
closed (block ∷ blocks) r = Err (fault.Unended block.line)

-- the text of what was read, or the first faulty line
abbrev pub ground_after : Result Reading GroundFault → Result Grounded GroundFault
ground_after (Ok r) = closed r.blocks r
ground_after (Err f) = Err f

-- the text of the lines after the header, where it is there
abbrev pub headed : Bool → List (List ℕ) → Result Grounded GroundFault
headed true lines = ground_after (with_lines 2 lines nothing_read)
headed false lines = Err (fault.Header 1)

-- the text of the lines of a file, of which the first is the header
abbrev pub ground_of : List (List ℕ) → Result Grounded GroundFault
ground_of [] = Err (fault.Header 1)
ground_of (first ∷ rest) = headed (bytes_eq (without_return first) (codes "bt-ground 1")) rest

-- the text that the bytes of a ground file stand for, or its fault
abbrev pub reads_ground : List ℕ → Result Grounded GroundFault
reads_ground bytes = ground_of (lines_in bytes)

-- ---- The world of a text

-- the line of the file from which the line of this number comes
abbrev pub origin_at : List ℕ → ℕ → ℕ
origin_at origins line = unwrap_or (slice_get origins (line - 1)) 1

-- what is said of a text, with its fault at the line of the file
abbrev pub world_from : List ℕ → Result World WorldFault → Result World GroundFault
world_from origins (Ok world) = Ok world
world_from origins (Err f) = Err (fault.World (origin_at origins f.line) f.kind)

-- the world that a text reads as, or the fault of its first faulty line
pub record MakesWorld (g : Grounded) (said : Result World GroundFault) : Type 0 where
  pub read : Result World WorldFault
  pub reads : ReadsWorld g.text read
  pub is : said ≡ world_from g.origins read
