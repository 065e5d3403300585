use Rattle.run_arena.specs.Resolving.{named_slot}
use Rattle.run_arena.proofs.joining.first_arena_of.Given as goal

-- the slots that the tree has for its keys
abbrev pub ghosts-arena_over : goal.ghosts-arena_over
ghosts-arena_over g a = record { slot = named_slot a.tree.now }
