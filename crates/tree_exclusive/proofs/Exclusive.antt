-- Leaves that are no pair of those that may be held together never are.
use Rattle.std.proofs.Common.{◌≡◌, ◌⊎◌, ⊎_elim, ℕ, ◌+◌, ◌<◌, ◌≤◌, List, take, Bool, true, false, ap, subst, ◌∙◌}
use Rattle.std.specs.List.{Contains}
use Rattle.run_laws.proofs.ReadNotes.{read_all}
use Rattle.spec_dead.specs.Dead.{dead_nodes}
use Rattle.spec_exclusive.specs.declared.meeting.Meeting.{Meeting}
use Rattle.spec_exclusive.specs.declared.meeting.Meeting.TheVariants.{Never, Handover, Together}
use Rattle.spec_exclusive.specs.Meetings.{meetings}
use Rattle.spec_exclusive.specs.Pairs.{all_listed, meeting_pairs, pair_of}
use Rattle.spec_run.specs.declared.block.Block.{Block}
use Rattle.spec_run.specs.Run.{opening, run_over}
use Rattle.spec_run.specs.Visit.{meaning}
use Rattle.spec_tree.specs.declared.term.Tree.{Tree}
use Rattle.spec_tree.specs.Trees.{IsValid}
use Rattle.spec_world.specs.declared.world.Event.{Event}
use Rattle.spec_world.specs.declared.world.World.{World}
use Rattle.tree_dead.specs.Runs.{IsNeverNamed, LeavesHaveRows}
use Rattle.tree_dead.proofs.Unvisited.{notes_law}
use Rattle.tree_exclusive.specs.Runs.{AreApart, AreInOrder, NeverTogether, NotTogetherAfterEvents, noted_of}
use Rattle.tree_exclusive.proofs.AfterEvents.{whole_ends}
use Rattle.tree_exclusive.proofs.Held.{held, read_noted}
use Rattle.tree_exclusive.proofs.Listed.{Dead, DeadToo, Living, Standing, hands_over, is_dead, meets, never_meets, standing, within}
use Rattle.tree_exclusive.proofs.Moments.{ApartAll, all_take, opening_free, whole_run}
use Rattle.tree_exclusive.proofs.Said.{after_events, apart_said, first_unnamed, second_unnamed, unnamed_among}
use Rattle.tree_exclusive.proofs.Words.{NeverIn}

module _ (tree : Tree) (world : World) (valid : IsValid tree) (rows : LeavesHaveRows tree world) (events : List Event) (order : AreInOrder events) (runner : ℕ) where
  abbrev blocks : List Block
  blocks = (run_over tree world events).blocks

  -- a dead leaf is named by no note
  unnamed : (uid : ℕ) → is_dead tree uid ≡ true → IsNeverNamed blocks uid
  unnamed uid dead = unnamed_among uid (dead_nodes tree) blocks (notes_law tree world valid rows events) dead

  -- no leaf is held at first
  from_opening : (u v : ℕ) → ApartAll runner u v (noted_of blocks) (held (opening tree world).runners runner u) (held (opening tree world).runners runner v) → ApartAll runner u v (noted_of blocks) false false
  from_opening u v all =
      subst (λ (a : Bool). ApartAll runner u v (noted_of blocks) a false) (opening_free tree world runner runner u)
      (subst (λ (b : Bool). ApartAll runner u v (noted_of blocks) (held (opening tree world).runners runner u) b) (opening_free tree world runner runner v) all)

  -- leaves that never meet are never held together
  apart : (u v : ℕ) → NeverIn (meetings tree.term) (meaning tree.term).size 1 u v → NeverTogether runner u v blocks
  apart u v pair so_far = apart_said runner u v (take so_far (noted_of blocks)) (all_take runner u v (noted_of blocks) so_far false false (from_opening u v (whole_run tree world runner events order u v pair)))

  -- leaves that hand over are held together after no event
  handed : (u v : ℕ) → u < v → 1 ≤ u → v < 1 + (meaning tree.term).size → (meetings tree.term).meeting 1 u v ≡ Handover → NotTogetherAfterEvents runner u v blocks
  handed u v less low high is so_far =
      let read = whole_ends tree world runner u v less low high is events order so_far in
      apart_said runner u v (noted_of (take so_far blocks)) (λ a b. read
      (ap (λ known. read_all (read_noted runner u) (noted_of (take so_far blocks)) known) (opening_free tree world runner runner u) ∙ a)
      (ap (λ known. read_all (read_noted runner v) (noted_of (take so_far blocks)) known) (opening_free tree world runner runner v) ∙ b))

  module _ (ids : List (List ℕ)) (u v : ℕ) (has_u : Contains (all_listed ids tree) u) (has_v : Contains (all_listed ids tree) v) (less : u < v) where
    pub never_together : ((meeting : Meeting) → Contains (meeting_pairs ids tree) (pair_of u v meeting) → ⊥) → NeverTogether runner u v blocks
    never_together none = by (standing tree u v)
      where
        by : Standing tree u v → NeverTogether runner u v blocks
        by (Dead e) = first_unnamed runner u v blocks (unnamed u e)
        by (DeadToo e) = second_unnamed runner u v blocks (unnamed v e)
        by (Living e f) = apart u v (never_meets tree ids u v has_u has_v less e f none)

    pub not_after_events : (Contains (meeting_pairs ids tree) (pair_of u v Together) → ⊥) → NotTogetherAfterEvents runner u v blocks
    not_after_events none = by (standing tree u v)
      where
        living : (meets tree ids u v has_u has_v less ≡ Never) ⊎ (meets tree ids u v has_u has_v less ≡ Handover) → NotTogetherAfterEvents runner u v blocks
        living found = ⊎_elim
            (λ never. after_events runner u v blocks (apart u v ((within tree ids u v has_u has_v less).0, less, (within tree ids u v has_u has_v less).1, never)))
            (λ hands. handed u v less (within tree ids u v has_u has_v less).0 (within tree ids u v has_u has_v less).1 hands)
            found

        by : Standing tree u v → NotTogetherAfterEvents runner u v blocks
        by (Dead e) = after_events runner u v blocks (first_unnamed runner u v blocks (unnamed u e))
        by (DeadToo e) = after_events runner u v blocks (second_unnamed runner u v blocks (unnamed v e))
        by (Living e f) = living (hands_over tree ids u v has_u has_v less e f none)

-- all leaves with listed IDs are apart but for the pairs that may be held together
pub all_apart : (tree : Tree) → IsValid tree → (ids : List (List ℕ)) → AreApart ids tree (meeting_pairs ids tree)
all_apart tree valid ids = record {
  moments = λ world rows events order runner u v are none. never_together tree world valid rows events order runner ids u v are.first are.second are.order none;
  between = λ world rows events order runner u v are none. not_after_events tree world valid rows events order runner ids u v are.first are.second are.order none;
}
