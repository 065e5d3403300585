use Rattle.std.proofs.Common.{◌≡◌, drop, map, max}
use Rattle.spec_script.specs.Numbers.{greatest}
use Rattle.spec_tree.specs.Terms.{depth_of}
use Rattle.run_arena.proofs.frame.+depth.Given as goal

-- the greatest depth so far, or of a child still to come, is that of all
abbrev pub invariant-loop-child : goal.invariant-loop-child
invariant-loop-child l = max l.below (greatest (map depth_of (drop l.child-index l.child-items))) ≡ greatest (map depth_of l.child-items)
