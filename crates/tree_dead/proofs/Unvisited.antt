-- No run names a dead node, and dead nodes are IDLE between events.
use Rattle.std.proofs.Common.{◌≡◌, ℕ, ◌+◌, ◌-◌, List, [], ◌∷◌, slice_index_or, Bool, true, false, not, Option, Some, None, IfSome, refl, sym, ap, ◌∙◌, arith}
use Rattle.std.specs.List.{AllByRecursion}
use Rattle.spec_run.specs.declared.block.Block.{Block}
use Rattle.spec_run.specs.declared.note.Note.{Note}
use Rattle.spec_tree.specs.declared.term.Tree.{Tree}
use Rattle.spec_world.specs.declared.world.Event.{Event}
use Rattle.spec_world.specs.declared.world.World.{World}
use Rattle.spec_run.specs.Run.{RunState, run_over}
use Rattle.spec_tree.specs.Trees.{IsValid}
use Rattle.spec_run.specs.Visit.{idle}
use Rattle.spec_dead.specs.Dead.{dead_nodes, outlook, unmarked}
use Rattle.tree_dead.specs.Runs.{IsIdleIn, IsNeverNamed, LeavesHaveRows, named_by, states_between}
use Rattle.tree_dead.proofs.Events.{AllSteady, BlocksLive, between_steady, whole_run_well}
use Rattle.tree_dead.proofs.Fits.{Stands}
use Rattle.tree_dead.proofs.Opening.{AreMarked, marked_back, term_opens}
use Rattle.tree_dead.proofs.Sets.{not_both}
use Rattle.tree_dead.proofs.Parts.{AllLive, Lives}
use Rattle.tree_dead.proofs.Statuses.{term_shows}

all_map : {A : Type 0} (P Q : A → Type 0) (xs : List A) → ((x : A) → P x → Q x) → AllByRecursion P xs → AllByRecursion Q xs
all_map P Q [] goes all = tt
all_map P Q (x ∷ xs) goes all = (goes x all.0, all_map P Q xs goes all.1)

module _ (is_dead : ℕ → Bool) where
  -- the nodes that are not marked are dead
  unmarked_dead : (first : ℕ) (marks : List Bool) → AreMarked is_dead [] first marks → AllByRecursion (λ uid. is_dead uid ≡ true) (unmarked first marks)
  unmarked_dead first [] are = tt
  unmarked_dead first (true ∷ marks) are = unmarked_dead (first + 1) marks (marked_back is_dead [] first 1 (true ∷ []) marks refl are)
  unmarked_dead first (false ∷ marks) are =
      let here : first + 0 ≡ first = omega arith in
      (ap is_dead (sym here) ∙ are 0 (omega arith), unmarked_dead (first + 1) marks (marked_back is_dead [] first 1 (false ∷ []) marks refl are))

  not_named : (uid : ℕ) → is_dead uid ≡ true → (o : Option ℕ) → IfSome o (Lives is_dead) → o ≡ Some uid → ⊥
  not_named uid dead None lives e = cc
  not_named uid dead (Some k) lives e = let same : k ≡ uid = cc in not_both dead (sym (ap is_dead same) ∙ lives)

  notes_unnamed : (uid : ℕ) → is_dead uid ≡ true → (notes : List Note) → AllLive is_dead notes → AllByRecursion (λ note. named_by note ≡ Some uid → ⊥) notes
  notes_unnamed uid dead [] live = tt
  notes_unnamed uid dead (note ∷ notes) live = (λ e. not_named uid dead (named_by note) live.0 e, notes_unnamed uid dead notes live.1)

module _ (tree : Tree) (world : World) (valid : IsValid tree) (rows : LeavesHaveRows tree world) where
  abbrev marks : List Bool
  marks = (outlook tree.term).marks true

  abbrev is_dead : ℕ → Bool
  is_dead uid = not (slice_index_or marks (uid - 1) true)

  are_marked : AreMarked is_dead world.rows 1 marks
  are_marked = λ k within. ap (λ (j : ℕ). not (slice_index_or marks j true)) (let here : 1 + k - 1 ≡ k = omega arith in here)

  opens : Stands is_dead world.rows tree.term true 1 (idle tree.term)
  opens = (term_opens is_dead world.rows tree.term).opens valid.fit rows true 1 are_marked

  all_dead : AllByRecursion (λ uid. is_dead uid ≡ true) (dead_nodes tree)
  all_dead = unmarked_dead is_dead 1 marks are_marked

  blocks_unnamed : (uid : ℕ) → is_dead uid ≡ true → (blocks : List Block) → BlocksLive is_dead tree world opens blocks → IsNeverNamed blocks uid
  blocks_unnamed uid dead [] live = tt
  blocks_unnamed uid dead (block ∷ blocks) live = (notes_unnamed is_dead uid dead block.notes live.0, blocks_unnamed uid dead blocks live.1)

  pub notes_law : (events : List Event) → AllByRecursion (IsNeverNamed (run_over tree world events).blocks) (dead_nodes tree)
  notes_law events = all_map (λ uid. is_dead uid ≡ true) (IsNeverNamed (run_over tree world events).blocks) (dead_nodes tree)
      (λ uid dead. blocks_unnamed uid dead (run_over tree world events).blocks (whole_run_well is_dead tree world opens events).live) all_dead

  unmarked_of : (b : Bool) → not b ≡ true → b ≡ false
  unmarked_of true e = cc
  unmarked_of false e = refl

  steady_idle : (s : RunState) → AllSteady is_dead tree world opens s → AllByRecursion (IsIdleIn s) (dead_nodes tree)
  steady_idle s steady = all_map (λ uid. is_dead uid ≡ true) (IsIdleIn s) (dead_nodes tree)
      (λ uid dead k r is. (term_shows is_dead world.rows tree.term).rests true 1 r.memory (steady k r is).stands (uid - 1) (unmarked_of (slice_index_or marks (uid - 1) true) dead)) all_dead

  pub states_law : (events : List Event) → AllByRecursion (λ s. AllByRecursion (IsIdleIn s) (dead_nodes tree)) (states_between tree world events)
  states_law events = all_map (AllSteady is_dead tree world opens) (λ s. AllByRecursion (IsIdleIn s) (dead_nodes tree)) (states_between tree world events) steady_idle (between_steady is_dead tree world opens events)

  pub end_law : (events : List Event) → AllByRecursion (IsIdleIn (run_over tree world events).state) (dead_nodes tree)
  end_law events = steady_idle (run_over tree world events).state (whole_run_well is_dead tree world opens events).steady
