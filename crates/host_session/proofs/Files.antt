-- What the bytes of two files open.
use Rattle.std.proofs.Common.{◌≡◌, ℕ, List, Bool, true, false, Option, Ok, Err}
use Rattle.std.specs.Prelude.{Result, MatchBool}
use Rattle.base_texts.specs.declared.stop.Stop.{Stop}
use Rattle.base_texts.specs.declared.stop.Stop.TheVariants as stop
use Rattle.spec_program.specs.Gives.{is_too_long}
use Rattle.spec_program.specs.TreeFiles.{TreeReads}
use Rattle.spec_session.specs.declared.open_fault.OpenFault.{OpenFault}
use Rattle.spec_session.specs.Opening.{OpensTo, TreeOpens}
use Rattle.spec_session.specs.Sessions.{Sitting}
use Rattle.spec_tree.specs.declared.term.Tree.{Tree}
use Rattle.world_reader.specs.Readings as readings

-- the second of two facts, where a test decides for it
pub when_not : (A B : Type 0) (b : Bool) → b ≡ false → B → MatchBool b A B
when_not A B true is fact = absurd (cc)
when_not A B false is fact = fact

-- files that are not too long, of which the first reads as a tree
pub tree_opens : (main : Option (List ℕ)) (bytes world : List ℕ) (tree : Tree) (given : Result Sitting (Stop OpenFault)) → is_too_long bytes ≡ false → is_too_long world ≡ false
    → TreeReads main bytes (Ok tree) → readings.Gives given (TreeOpens (Ok tree) world) → OpensTo given main bytes world
tree_opens main bytes world tree (Ok s) short short_world reads opens = when_not _ _ (is_too_long bytes) short (when_not _ _ (is_too_long world) short_world (Ok tree, reads, opens))
tree_opens main bytes world tree (Err stop.NoMemory) short short_world reads opens = tt
tree_opens main bytes world tree (Err (stop.Fault f)) short short_world reads opens = when_not _ _ (is_too_long bytes) short (when_not _ _ (is_too_long world) short_world (Ok tree, reads, opens))
