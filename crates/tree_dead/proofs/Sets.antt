-- Answers among sets of answers.
use Rattle.std.proofs.Common.{◌≡◌, Bool, true, false, refl}
use Rattle.std.proofs.lemmas.Bool.{or_left, or_right}
use Rattle.spec_run.specs.declared.status.Answer.{Answer}
use Rattle.spec_run.specs.declared.status.Answer.TheVariants.{Running, Success, Failure, Skipped}
use Rattle.spec_dead.specs.declared.answers.Answers.{Answers}
use Rattle.spec_dead.specs.Answers.{either, may, only, only_if}

-- an answer is among these
abbrev pub Has : Answer → Answers → Type 0
Has a set = may a set ≡ true

-- a truth is not both
pub not_both : {b : Bool} → b ≡ true → b ≡ false → ⊥
not_both holds fails = cc

pub either_left : (a : Answer) (x y : Answers) → Has a x → Has a (either x y)
either_left Running x y e = or_left x.running y.running e
either_left Success x y e = or_left x.success y.success e
either_left Failure x y e = or_left x.failure y.failure e
either_left Skipped x y e = or_left x.skipped y.skipped e

pub either_right : (a : Answer) (x y : Answers) → Has a y → Has a (either x y)
either_right Running x y e = or_right x.running y.running e
either_right Success x y e = or_right x.success y.success e
either_right Failure x y e = or_right x.failure y.failure e
either_right Skipped x y e = or_right x.skipped y.skipped e

-- these answers are there where something holds
pub if_so : (a : Answer) (b : Bool) (x : Answers) → b ≡ true → Has a x → Has a (only_if b x)
if_so a true x e has = has
if_so a false x e has = cc

pub only_has : (a : Answer) → Has a (only a)
only_has Running = refl
only_has Success = refl
only_has Failure = refl
only_has Skipped = refl
