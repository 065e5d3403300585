-- The child at hand of a RecoveryNode and of a RoundRobin.
use Rattle.std.specs.Prelude.{ℕ, ◌≡◌, ◌<◌}
use Rattle.spec_run.specs.declared.memory.Memo.{Memo}
use Rattle.spec_run.specs.declared.memory.Memo.TheVariants.{Recoveries as Recovering, Rotation as Rotating}
use Rattle.spec_run.specs.declared.memory.Recoveries.{Recoveries}
use Rattle.spec_run.specs.declared.memory.Rotation.{Rotation}
use Rattle.spec_run.specs.declared.moves.Then.{Then}
use Rattle.spec_run.specs.declared.moves.Then.TheVariants.{Visit, Give}
use Rattle.base_tables.specs.Moves.{HasChildAtHand, RecoveryIsLeft, place_at_hand, recoveries_to_do}
use Rattle.spec_run.specs.Rules.Recoveries.{recoveries_of}
use Rattle.spec_run.specs.Rules.RoundRobins.{rotation_of}

-- the child that is visited is at hand by the memo, a recovery is left to it, and fewer visits are left than before
abbrev pub RecoversOn : Recoveries → Memo → Then → Type 0
RecoversOn r kept (Give a) = Unit {0}
RecoversOn r kept (Visit place) =
    (kept ≡ Recovering (recoveries_of kept)) × (place ≡ place_at_hand (recoveries_of kept)) × RecoveryIsLeft (recoveries_of kept)
    × (recoveries_to_do (recoveries_of kept) < recoveries_to_do r)

-- the child that is visited is at hand by the memo, and more have failed or were skipped than before
abbrev pub RotatesOn : ℕ → Rotation → Memo → Then → Type 0
RotatesOn n r kept (Give a) = Unit {0}
RotatesOn n r kept (Visit place) =
    (kept ≡ Rotating (rotation_of kept)) × (place ≡ (rotation_of kept).at) × HasChildAtHand n (rotation_of kept)
    × (r.passed < (rotation_of kept).passed)
