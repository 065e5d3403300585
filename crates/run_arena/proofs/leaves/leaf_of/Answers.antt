use Rattle.std.proofs.Common.{◌<◌, sym, subst, ◌∙◌}
use Rattle.run_arena.proofs.Joined.{place_within}
use Rattle.run_arena.proofs.leaves.leaf_of.Goals as goal

pub next_instance-requires : goal.next_instance-requires
next_instance-requires g c = subst (λ n. c.in-Some-place_of.driver < n) (sym c.requires.places) (place_within _ _ _ (sym c.place_of.ensures ∙ c.in-Some-place_of.is))
