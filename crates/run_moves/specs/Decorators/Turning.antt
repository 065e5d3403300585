-- The turns of a Retry or Repeat.
use Rattle.std.specs.Prelude.{◌≡◌, ◌<◌}
use Rattle.spec_run.specs.declared.memory.Memo.{Memo}
use Rattle.spec_run.specs.declared.memory.Memo.TheVariants.{Turns as Turned}
use Rattle.spec_run.specs.declared.memory.Turns.{Turns}
use Rattle.spec_run.specs.declared.moves.Then.{Then}
use Rattle.spec_run.specs.declared.moves.Then.TheVariants.{Visit, Give}
use Rattle.base_tables.specs.Moves.{TurnIsLeft, turns_to_do}
use Rattle.spec_run.specs.Rules.Turns.{limit_of, turns_of}

-- the child is visited again only where fewer turns are left than before, and at least one
abbrev pub TurnsOn : Turns → Memo → Then → Type 0
TurnsOn t kept (Give a) = Unit {0}
TurnsOn t kept (Visit place) =
    (place ≡ 0) × (kept ≡ Turned (turns_of kept)) × TurnIsLeft (turns_of kept).done (limit_of (turns_of kept).limit) × (turns_to_do (turns_of kept) < turns_to_do t)
