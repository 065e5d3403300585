-- What the readers of lines give.
use Rattle.std.proofs.Common.{◌<◌, ℕ, ◌+◌, List, ◌∷◌, drop, get_or, length, map, Result, Ok, Err, refl, subst}
use Rattle.std.proofs.lemmas.List.{drop_more}
use Rattle.std.specs.Prelude.{IfOk}
use Rattle.base_texts.specs.declared.stop.Stop.{Stop}
use Rattle.base_texts.specs.declared.stop.Stop.TheVariants as stop
use Rattle.spec_tree.specs.declared.term.Tree.{Tree}
use Rattle.spec_world.specs.declared.world.World.{World}
use Rattle.spec_world_file.specs.WorldFile.{content}
use Rattle.spec_expect.specs.declared.expect_fault.ExpectFault.{ExpectFault}
use Rattle.spec_expect.specs.declared.expect_fault.ExpectFaultKind.{ExpectFaultKind}
use Rattle.spec_expect.specs.declared.expectation.Expected.{Expected}
use Rattle.spec_expect.specs.ExpectFile.{AfterContent, AfterLines, ReadsExpected, Subject}
use Rattle.world_draft.specs.Readings.{Leaves}
use Rattle.expect_watch.specs.Over.{AreOver}
use Rattle.expect_reader.specs.Reading.{GivesItems, IsAfter, located}
use Rattle.expect_reader.proofs.Over.{read_over}

-- a line that is faulty is the first one
line_stopped : (A : Type 0) (s : Subject) (all : List (List ℕ)) (first before : List Expected) (line : ℕ) (text : List ℕ) (rest : List (List ℕ)) (stopped : Stop ExpectFaultKind) (left other : List Expected) →
    IsAfter s all first line (text ∷ rest) before → Leaves {A = A} (Err stopped) left (AfterContent s before line (content text)) → Leaves {A = A} (Err (located stopped line)) other (AfterLines s 2 all first)
line_stopped A s all first before line text rest stop.NoMemory left other after h = tt
line_stopped A s all first before line text rest (stop.Fault kind) left other after h = after (Err (record { line = line; kind = kind })) (Err kind, h, refl)

pub stopped_at : {L : Type 0} (A : Type 0) (text : L → List ℕ) (lines : List L) (i : ℕ) (d : L) (s : Subject) (first before : List Expected) (line : ℕ) (stopped : Stop ExpectFaultKind) (left other : List Expected) → i < length lines →
    IsAfter s (map text lines) first line (map text (drop i lines)) before → Leaves {A = A} (Err stopped) left (AfterContent s before line (content (text (get_or lines i d))))
    → Leaves {A = A} (Err (located stopped line)) other (AfterLines s 2 (map text lines) first)
stopped_at A text lines i d s first before line stopped left other within after h =
    line_stopped A s (map text lines) first before line (text (get_or lines i d)) (map text (drop (i + 1) lines)) stopped left other
    (subst (λ rest. IsAfter s (map text lines) first line (map text rest) before) (drop_more lines i d within) after) h

-- what was read is over the facts
pub given_over : (tree : Tree) (world : World) (bytes : List ℕ) (given : Result (List Expected) (Stop ExpectFault)) → GivesItems given (ReadsExpected tree world bytes) → IfOk given (AreOver world.facts)
given_over tree world bytes (Ok expected) reads = read_over tree world bytes (Ok expected) reads
given_over tree world bytes (Err stopped) reads = tt
