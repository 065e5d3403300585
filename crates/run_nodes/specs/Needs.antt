-- How many slots the scripts of a node need.
use Rattle.std.specs.Prelude.{ℕ, ◌≤◌, Option, Some, None}
use Rattle.script_code.specs.declared.codes.Code.{Code}
use Rattle.script_code.specs.Codes.{needed}
use Rattle.run_arena.specs.declared.nodes.ReadyGuards.{ReadyGuards}

-- a code, where it is there, needs this many slots at most
abbrev pub NeedsAtMost : ℕ → Option Code → Type 0
NeedsAtMost slots None = Unit {0}
NeedsAtMost slots (Some code) = needed code ≤ slots

pub record GuardsNeedAtMost (slots : ℕ) (guards : ReadyGuards) : Type 0 where
  pub failure_if : NeedsAtMost slots guards.failure_if
  pub success_if : NeedsAtMost slots guards.success_if
  pub skip_if : NeedsAtMost slots guards.skip_if
  pub while_true : NeedsAtMost slots guards.while_true
  pub on_success : NeedsAtMost slots guards.on_success
  pub on_failure : NeedsAtMost slots guards.on_failure
  pub post : NeedsAtMost slots guards.post
  pub on_halted : NeedsAtMost slots guards.on_halted
