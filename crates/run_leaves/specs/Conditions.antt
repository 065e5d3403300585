-- What a condition answers, and what it leaves of its instance.
use Rattle.std.specs.Prelude.{Bool, true, false, Result, Ok, Err}
use Rattle.spec_run.specs.declared.fault.Cause.{Cause}
use Rattle.spec_run.specs.declared.leaf.Instance.{Instance}
use Rattle.spec_run.specs.declared.leaf.Reply.{Reply}
use Rattle.spec_run.specs.declared.leaf.Reply.TheVariants.{Success, Failure, Broken}
use Rattle.spec_run.specs.Leaf.{released}

-- what a condition answers that is true or not, or that has a fault
abbrev pub reply_by : Result Bool Cause → Reply
reply_by (Ok true) = Success
reply_by (Ok false) = Failure
reply_by (Err cause) = Broken cause

-- a condition is not held after a call, and a fault changes nothing
abbrev pub left_by : Reply → Instance → Instance
left_by (Broken cause) instance = instance
left_by _ instance = released instance
