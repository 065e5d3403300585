-- The lines of the trace, as C is told them.
use Rattle.std.specs.Prelude.{◌⊎◌, ℕ, List, []}
use Rattle.std.specs.List.{concat}
use Rattle.spec_output.specs.Lines.{line_names, lines_of}
use Rattle.spec_session.specs.Sessions.{Sitting}
use Rattle.host_library.specs.Texts.{TextTold}

-- the lines of the last event of a session
abbrev pub trace_of : Sitting → List ℕ
trace_of s = concat (lines_of (line_names s.tree s.world) s.block)

-- C is told these lines, or nothing for want of memory
abbrev pub LinesTold : List ℕ → List ℕ → ℕ → List ℕ → Type 0
LinesTold lines room size after = TextTold lines room size after ⊎ TextTold [] room size after
