-- What the code of statements does, one after the other.
use Rattle.std.specs.Prelude.{ℕ, ◌+◌, pos, max, Bool, false, ◌||◌, List, [], ◌∷◌, map, Option, Ok, Result, slice_index_or}
use Rattle.spec_script.specs.declared.value.Value.{Value}
use Rattle.spec_script.specs.declared.value.Value.TheVariants.{Int}
use Rattle.spec_script.specs.declared.fault.ExecFault.{ExecFault}
use Rattle.spec_script.specs.Entries.{entry_of}
use Rattle.spec_script.specs.Evaluation.{Run, written, if_there, followed}
use Rattle.spec_script.specs.Numbers.{greatest}
use Rattle.script_code.specs.declared.instr.Instr.{Instr}
use Rattle.script_code.specs.declared.codes.StmtCode.{StmtCode}
use Rattle.script_code.specs.declared.codes.StmtCode.TheVariants.{Create, Assign, Plain}
use Rattle.script_code.specs.Meeting.{is_ok_and}
use Rattle.script_code.specs.Programs.{Formula, Program}
use Rattle.script_code.specs.Running.{code_value, code_reach, code_texts, code_meets}

-- the meaning of an expression's code
abbrev pub code_formula : List Instr → Formula
code_formula code = record {
  value = λ look. code_value look code;
  reach = code_reach code;
  texts = code_texts code;
  meets = λ look. code_meets look code;
}

-- the code of a statement's expression
abbrev pub expression : StmtCode → List Instr
expression (Create k code) = code.instrs
expression (Assign k code) = code.instrs
expression (Plain code) = code.instrs

-- the slot of a name, by its number
abbrev pub slot_in : List ℕ → ℕ → ℕ
slot_in slots number = slice_index_or slots number 0

-- the least number above these slots
abbrev pub slots_below : List ℕ → ℕ
slots_below slots = greatest (map (λ slot. slot + 1) slots)

-- the entry of a name, where numbers have these slots
abbrev pub entry_at : (ℕ → ℕ) → List (Option Value) → ℕ → Result Value ExecFault
entry_at slots entries number = entry_of entries (slots number)

-- what the code of a statement gives and leaves
abbrev pub stmt_run : (ℕ → ℕ) → StmtCode → List (Option Value) → Run
stmt_run slots (Create k code) entries = written (slots k) entries (code_value (entry_at slots entries) code.instrs)
stmt_run slots (Assign k code) entries = written (slots k) entries (if_there (slots k) entries (code_value (entry_at slots entries) code.instrs))
stmt_run slots (Plain code) entries = record { answer = code_value (entry_at slots entries) code.instrs; entries = entries }

-- how many names the code of a statement needs: each of its numbers is below
abbrev pub stmt_code_reach : StmtCode → ℕ
stmt_code_reach (Create k code) = max (k + 1) (code_reach code.instrs)
stmt_code_reach (Assign k code) = max (k + 1) (code_reach code.instrs)
stmt_code_reach (Plain code) = code_reach code.instrs

-- whether the code of a statement meets a text
abbrev pub stmt_code_meets : (ℕ → ℕ) → StmtCode → List (Option Value) → Bool
stmt_code_meets slots (Create k code) entries = code_meets (entry_at slots entries) code.instrs
stmt_code_meets slots (Assign k code) entries = code_meets (entry_at slots entries) code.instrs
stmt_code_meets slots (Plain code) entries = code_meets (entry_at slots entries) code.instrs

-- the meaning of a statement's code
abbrev pub stmt_program : (ℕ → ℕ) → StmtCode → Program
stmt_program slots s = record { run = stmt_run slots s; meets = stmt_code_meets slots s }

-- one run after the other; the last value counts
abbrev pub runs : Value → List Program → List (Option Value) → Run
runs last [] entries = record { answer = Ok last; entries = entries }
runs last (p ∷ rest) entries =
    followed (p.run entries).answer (p.run entries).entries (λ value left. runs value rest left)

-- whether one of some runs, one after the other up to a fault, meets a text
abbrev pub one_meets : List Program → List (Option Value) → Bool
one_meets [] entries = false
one_meets (p ∷ rest) entries = p.meets entries || is_ok_and (p.run entries).answer (λ _. one_meets rest (p.run entries).entries)

-- the meaning of programs one after the other
abbrev pub one_by_one : List Program → Program
one_by_one programs = record {
  run = runs (Int (pos 0)) programs;
  meets = one_meets programs;
}
