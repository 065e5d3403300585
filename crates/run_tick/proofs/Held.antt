-- What the rules of a term say of its nodes in an arena.
use Rattle.std.proofs.Common.{◌≡◌, ℕ, ◌+◌, ◌<◌, ◌≤◌, List, [], ◌∷◌, true, Option, Some, None, sym, ap, subst, ◌∙◌, arith, ⊎_elim}
use Rattle.std.proofs.lemmas.Bool.{cases_eq, cases_lt}
use Rattle.spec_run.specs.declared.memory.Memo.{Memo}
use Rattle.spec_run.specs.declared.memory.Memory.{Memory, Memory-F, out-Memory, out-roll-Memory}
use Rattle.spec_run.specs.declared.status.Status.{Status}
use Rattle.spec_run.specs.declared.status.Status.TheVariants.{Running}
use Rattle.spec_tree.specs.declared.term.Kind.{Kind}
use Rattle.spec_tree.specs.declared.term.Kind.TheVariants.{Leaf}
use Rattle.spec_tree.specs.declared.term.Term.{Term, Term-F, out-Term}
use Rattle.spec_world.specs.declared.world.Row.{Row}
use Rattle.spec_run.specs.Done.{State}
use Rattle.spec_run.specs.Leaves.{row_of}
use Rattle.spec_run.specs.Sites.{View, remembered}
use Rattle.base_tables.specs.Sound.{NodeRule, Sound, Sounds, States, states_of_node}
use Rattle.spec_tree.specs.Trees.{Node as TreeNode}
use Rattle.spec_run.specs.Visit.{meaning}
use Rattle.run_arena.specs.declared.nodes.Kept.{Kept}
use Rattle.run_arena.specs.declared.nodes.Node.{Node}
use Rattle.run_arena.specs.declared.nodes.ReadyLeaf.{ReadyLeaf}
use Rattle.run_arena.specs.Nodes.{LeafStands, kept_at, leaf_at}
use Rattle.run_arena.specs.Stands.{StandAll, Stands, memories_of, memory_of, view_under, written}
use Rattle.run_arena.proofs.Framed.{all_sizes, sized, sizes_cons}
use Rattle.run_arena.proofs.Opened.{memory_out, opened}
use Rattle.run_arena.specs.Scenes.{Fits, Scene, state_in}
use Rattle.run_nodes.specs.Here.{children_in}
use Rattle.run_nodes.specs.Halting.Halts.{RunningAreHeld}
use Rattle.run_nodes.proofs.AboutHalting.Sounding.{sound_marks}
use Rattle.spec_tree.specs.BuiltIns.{has_rule}
use Rattle.run_tick.specs.Turns.{CanGoOn, kind_of}
use Rattle.run_tick.proofs.Children.{size_stands, sound_out}

-- the rules of a node with a memory of these parts
rules_opened : (x : Term-F Term) (rows : List Row) (uid : ℕ) (m : Memory) (st : Status) (memo : Memo) (ms : List Memory) (s : State) → m ≡ remembered st memo ms → states_of_node Term (λ t. t) Sound x rows None uid m s →
    NodeRule x.kind x.ports (row_of rows x.id) uid st memo ms s × Sounds (λ c. (meaning c).size) Sound x.children rows None (uid + 1) ms s
rules_opened x rows uid m st memo ms s is k =
    subst (λ (r : Memory-F Memory). NodeRule x.kind x.ports (row_of rows x.id) uid r.status r.memo r.children s × Sounds (λ c. (meaning c).size) Sound x.children rows None (uid + 1) r.children s)
    (ap out-Memory is ∙ out-roll-Memory (record { status = st; memo = memo; children = ms })) k

-- the rules of a term that stands in an arena: that of its node, and those of its children
pub sound_opened : (t : Term) (rows : List Row) (uid : ℕ) (kept : List Kept) (s : State) → Sound t rows None uid (memory_of t uid kept) s →
    NodeRule (kind_of t) (out-Term t).ports (row_of rows (out-Term t).id) uid (kept_at kept uid).status (kept_at kept uid).memo (children_in t uid kept) s
    × Sounds (λ c. (meaning c).size) Sound (out-Term t).children rows None (uid + 1) (children_in t uid kept) s
sound_opened t rows uid kept s sound =
    rules_opened (out-Term t) rows uid (memory_of t uid kept) (kept_at kept uid).status (kept_at kept uid).memo (children_in t uid kept) s (memory_out t uid kept)
    (subst (λ (r : States). r rows None uid (memory_of t uid kept) s) (sound_out t) sound)

-- ---- RUNNING leaves are held

module _ (nodes : List Node) (s : Scene) (moment : ℕ) (rows : List Row) (view : View) (base : (c : Term) (at : ℕ) → Stands c nodes view at → Fits c view at nodes s) where
  -- each RUNNING leaf of these nodes has its mark
  abbrev HeldIn : ℕ → ℕ → Type 0
  HeldIn uid size = (p : ℕ) (leaf : ReadyLeaf) → uid ≤ p → p < uid + size → leaf_at nodes p ≡ Some leaf → (kept_at s.kept p).status ≡ Running → (kept_at s.kept p).held ≡ true

  children_marked : (ts : List Term) (uid : ℕ) → StandAll ts nodes view uid → Sounds (λ c. (meaning c).size) Sound ts rows None uid (memories_of ts uid s.kept) (state_in nodes s moment) → HeldIn uid (all_sizes ts)
  children_marked [] uid stand sound = λ p leaf low high is runs. absurd (omega (arith, low, high))
  children_marked (c ∷ cs) uid stand sound = λ p leaf low high is runs.
      let size = size_stands c nodes view uid stand.0 in
      ⊎_elim
      (λ here. sound_marks c view uid nodes s moment rows (base c uid stand.0) sound.0 p leaf low (omega (arith, here, size)) is runs)
      (λ past. children_marked cs (uid + (meaning c).size) stand.1
      (subst (λ (k : ℕ). Sounds (λ x. (meaning x).size) Sound cs rows None (uid + (meaning c).size) (memories_of cs (uid + k) s.kept) (state_in nodes s moment)) (sized c) sound.1)
      p leaf past (omega (arith, high, sizes_cons c cs)) is runs)
      (cases_lt p (uid + (meaning c).size))

-- a node that is a leaf of an arena is a leaf
pub leaf_kind : (view : View) (node : TreeNode) (o : Option ReadyLeaf) (leaf : ReadyLeaf) → o ≡ Some leaf → LeafStands view node o → node.kind ≡ Leaf
leaf_kind view node (Some l) leaf is stands = stands.0
leaf_kind view node None leaf is stands = cc

ruled_no_leaf : (kind : Kind) → has_rule kind ≡ true → kind ≡ Leaf → ⊥
ruled_no_leaf kind ruled is = cc

-- where a node with children goes on, each RUNNING leaf below it has its mark
pub marked_below : (nodes : List Node) (moment : ℕ) (term : Term) (view : View) (uid : ℕ) (s : Scene) → CanGoOn nodes moment term view uid s → has_rule (kind_of term) ≡ true → RunningAreHeld nodes s.kept uid
marked_below nodes moment term view uid s can ruled = λ p leaf low high is runs.
    let under : View = view_under view uid (written (out-Term term)) in
    let node = opened term nodes view uid can.fits.stands in
    ⊎_elim
    (λ at. absurd (ruled_no_leaf (kind_of term) ruled (leaf_kind view (written (out-Term term)) (leaf_at nodes uid) leaf (ap (λ (k : ℕ). leaf_at nodes k) (sym at) ∙ is) node.1.leaf)))
    (λ other. children_marked nodes s moment view.rows under
    (λ c at stands. record { stands = stands; few = can.fits.few; marks = can.fits.marks; leaves = can.fits.leaves; slots = can.fits.slots; facts = can.fits.facts })
    (out-Term term).children (uid + 1) node.2 can.sound p leaf (omega (arith, low, other)) (omega (arith, high, node.1.size)) is runs)
    (cases_eq p uid)
