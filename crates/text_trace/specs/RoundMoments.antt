-- The moments of rounds.
use Rattle.std.specs.Prelude.{◌≡◌, ℕ, ◌≤◌, List, length, Option, IfSome, Result, Ok, OnOk}
use Rattle.std.specs.Option.{option_map}
use Rattle.spec_tree.specs.declared.term.Tree.{Tree}
use Rattle.spec_world.specs.declared.world.World.{World}
use Rattle.spec_run.specs.Run.{RunState}
use Rattle.spec_outside.specs.Moments.{Moments}
use Rattle.text_lines.specs.declared.stop.TextStop.{TextStop}
use Rattle.text_trace.specs.declared.ended.Ended.{Ended}
use Rattle.text_trace.specs.declared.ended.Ended.TheVariants.{Done}
use Rattle.spec_output.specs.Rounds.{taken, moments_after, CanBegin, AreBegun}

-- the moments of so many rounds: those that the clock gives, where it tells them
pub record AreMoments (rounds : ℕ) (told : Option Moments) (moments : List ℕ) : Type 0 where
  pub many : length moments ≡ rounds
  pub given : IfSome told (λ m. moments ≡ taken rounds m)

-- how often a clock was asked for the moments of so many rounds, with this answer: once for each round that began
pub record WasAsked (result : Result Ended TextStop) (tree : Tree) (world : World) (rounds last : ℕ) (s : RunState) (old new : Option Moments) : Type 0 where
  pub begun : ℕ
  pub within : begun ≤ rounds
  pub asked : new ≡ option_map (moments_after begun) old
  pub can : IfSome old (λ m. CanBegin tree world last (taken rounds m) s begun)
  pub begin : IfSome old (λ m. OnOk result (AreBegun tree world last (taken rounds m) s begun))
  pub all : result ≡ Ok Done → begun ≡ rounds
