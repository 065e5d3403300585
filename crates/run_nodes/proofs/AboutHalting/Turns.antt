-- One round of the loop over the children of a node.
use Rattle.std.proofs.Common.{◌≡◌, ℕ, ◌+◌, ◌<◌, ◌≤◌, List, length, get_or, Bool, sym, ap, subst, ◌∙◌, arith, Result, Ok, Err}
use Rattle.base_texts.specs.declared.stop.Stop.{Stop}
use Rattle.spec_run.specs.declared.fault.NodeFault.{NodeFault}
use Rattle.spec_run.specs.declared.moves.Span.{Span}
use Rattle.spec_run.specs.declared.note.Note.{Note}
use Rattle.spec_tree.specs.declared.term.Term.{Term, out-Term}
use Rattle.spec_run.specs.Sites.{View}
use Rattle.spec_run.specs.Steps.{spans}
use Rattle.spec_run.specs.Visit.{meaning}
use Rattle.run_arena.specs.declared.nodes.Node.{Node}
use Rattle.run_arena.specs.Nodes.{node_at}
use Rattle.run_arena.specs.Scenes.{Fits, Scene, state_in}
use Rattle.run_arena.specs.Stands.{Beside, memories_of, memory_of, uid_of, view_under, written}
use Rattle.run_arena.specs.Ends.{Meets}
use Rattle.run_nodes.specs.Halting.Halts.{reset_if}
use Rattle.run_nodes.proofs.AboutHalting.Children.{NextChild, StillResets, all_reset, all_resets, child_reset, child_stopped, next_child, still_at_place}
use Rattle.run_nodes.proofs.AboutHalting.Memories.{uids_at, uids_many}
use Rattle.run_nodes.proofs.AboutHalting.Within.{child_fits, child_lies, child_uids_are, size_of_term}

-- the child that comes next, at its place
pub record Turn (t : Term) (view : View) (uid : ℕ) (nodes : List Node) (s : Scene) (place child : ℕ) (rest : List Term) : Type 0 where
  pub next : NextChild (out-Term t).children rest (uid + 1) place child
  pub fits : Fits next.child (view_under view uid (written (out-Term t))) child nodes s
  pub low : uid + 1 ≤ child
  pub high : child + (node_at nodes child).size ≤ uid + (node_at nodes uid).size
  pub size : (node_at nodes child).size ≡ (meaning next.child).size

-- a node's uids of its children are as many as its term has, and each is that at its place
module _ (t : Term) (view : View) (uid : ℕ) (nodes : List Node) (s : Scene) (fits : Fits t view uid nodes s) (uids : List ℕ) (is : uids ≡ (node_at nodes uid).child_uids) where
  pub many : length uids ≡ length (out-Term t).children
  many = ap length (is ∙ child_uids_are t view uid nodes s fits) ∙ uids_many (out-Term t).children (uid + 1)

  child_is : (place : ℕ) → place < length uids → get_or uids place 0 ≡ uid_of (out-Term t).children (uid + 1) place
  child_is place within =
      ap (λ (us : List ℕ). get_or us place 0) (is ∙ child_uids_are t view uid nodes s fits)
      ∙ uids_at (out-Term t).children place (uid + 1) (omega (arith, within, many))

  module _ (moment : ℕ) (which : Span) (before : Scene) (old : List Note) (place : ℕ) (n : List Note) where
    abbrev StillFrom : ℕ → Type 0
    StillFrom child = StillResets nodes moment which (view_under view uid (written (out-Term t))) (out-Term t).children (uid + 1) before old place child s n

    -- the loop comes to the child that has the uid at this place
    pub comes : StillFrom (uid_of (out-Term t).children (uid + 1) place) → place < length uids → StillFrom (get_or uids place 0)
    comes k within = subst StillFrom (sym (child_is place within)) k

module _ (nodes : List Node) (moment : ℕ) (which : Span) (t : Term) (view : View) (uid : ℕ) (before : Scene) (old : List Note) (place child : ℕ) (s : Scene) (n : List Note) (fits : Fits t view uid nodes s) (k : StillResets nodes moment which (view_under view uid (written (out-Term t))) (out-Term t).children (uid + 1) before old place child s n) where
  abbrev below : View
  below = view_under view uid (written (out-Term t))

  abbrev ts : List Term
  ts = (out-Term t).children

  pub turn : place < length ts → Turn t view uid nodes s place child k.rest
  turn more =
      let next : NextChild ts k.rest (uid + 1) place child = next_child nodes moment which below ts (uid + 1) before old place child s n k more in
      let fit : Fits next.child below child nodes s = child_fits t view uid nodes s fits place next.child child next.is_child in
      let lies = child_lies t view uid nodes s fits place next.child child next.is_child in
      let size : (node_at nodes child).size ≡ (meaning next.child).size = size_of_term next.child below child nodes s fit in
      record { next = next; fits = fit; low = lies.0; high = omega (arith, lies.1, size); size = size }

  -- no child is left, and all is done
  pub no_turn : length ts ≤ place → Meets nodes moment (memories_of ts (uid + 1)) (Ok tt) before s old n (all_resets nodes moment which below ts (uid + 1) before)
  no_turn over = all_reset nodes moment which below ts (uid + 1) before old place child s n k over

  module _ (w : Turn t view uid nodes s place child k.rest) (wanted : Bool) (is_wanted : wanted ≡ spans which place) (s1 : Scene) (n1 : List Note) (beside : Beside child (node_at nodes child).size s.kept s1.kept) where
    beside_child : Beside child (meaning w.next.child).size s.kept s1.kept
    beside_child = subst (λ (size : ℕ). Beside child size s.kept s1.kept) w.size beside

    abbrev pub Of : Result (Unit {0}) (Stop NodeFault) → Bool → Type 0
    Of r b = Meets nodes moment (memory_of w.next.child child) r s s1 n n1 (reset_if b w.next.child below child (memory_of w.next.child child s.kept) (state_in nodes s moment))

    -- the child is done, and the next one comes
    pub turned : Of (Ok tt) wanted → StillResets nodes moment which below ts (uid + 1) before old (place + 1) (uid_of ts (uid + 1) (place + 1)) s1 n1
    turned m =
        still_at_place nodes moment which below ts (uid + 1) before old (place + 1) (child + (meaning w.next.child).size) s1 n1
        (child_reset nodes moment which below ts (uid + 1) before old place child s n k w.next s1 n1 beside_child (subst (Of (Ok tt)) is_wanted m))

    -- the child stopped with a fault or for want of memory
    pub not_turned : (e : Stop NodeFault) → Of (Err e) wanted → Meets {A = Unit {0}} nodes moment (memories_of ts (uid + 1)) (Err e) before s1 old n1 (all_resets nodes moment which below ts (uid + 1) before)
    not_turned e m = child_stopped nodes moment which below ts (uid + 1) before old place child s n k w.next s1 n1 beside_child e (subst (Of (Err e)) is_wanted m)
