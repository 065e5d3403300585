-- Where the rules of states hold for a term in an arena, each RUNNING leaf has its mark.
use Rattle.std.proofs.Common.{◌≡◌, inl, inr, ℕ, zero, suc, ◌+◌, ◌<◌, ◌≤◌, List, [], ◌∷◌, map, get_or, slice_get, true, is_some, option_map, Option, Some, None, refl, sym, ap, subst, ◌∙◌, arith}
use Rattle.std.proofs.lemmas.Bool.{cases_eq, cases_lt}
use Rattle.std.proofs.lemmas.List.Sums.{sum_by-cons}
use Rattle.spec_run.specs.declared.leaf.Instance.{Instance}
use Rattle.spec_run.specs.declared.memory.Memo.{Memo}
use Rattle.spec_run.specs.declared.memory.Memory.{Memory, out-Memory, out-roll-Memory}
use Rattle.spec_run.specs.declared.status.Status.{Status}
use Rattle.spec_run.specs.declared.status.Status.TheVariants.{Running}
use Rattle.spec_tree.specs.declared.term.Kind.{Kind}
use Rattle.spec_tree.specs.declared.term.Kind.TheVariants.{Leaf}
use Rattle.spec_tree.specs.declared.term.Port.{Port}
use Rattle.spec_tree.specs.declared.term.Term.{Term, Term-F, ind-Term, out-roll-Term, roll-Term}
use Rattle.spec_tree.specs.declared.term.Term.TheFolds.{map-Term, rec-roll-Term}
use Rattle.spec_world.specs.declared.world.Row.{Row}
use Rattle.spec_run.specs.Done.{State}
use Rattle.spec_run.specs.Drivers.{is_held}
use Rattle.spec_run.specs.Leaf.{fresh}
use Rattle.spec_run.specs.Leaves.{row_of}
use Rattle.spec_run.specs.Sites.{Meaning, View, remembered, sizes}
use Rattle.base_tables.specs.Sound.{NodeRule, OffPath, Sound, Sounds, States, held_at, states_of_node}
use Rattle.base_tables.specs.Sound as model
use Rattle.spec_tree.specs.Trees.{Node as TreeNode}
use Rattle.spec_run.specs.Visit.{meaning}
use Rattle.run_arena.specs.declared.nodes.Node.{Node}
use Rattle.run_arena.specs.declared.nodes.ReadyLeaf.{ReadyLeaf}
use Rattle.run_arena.specs.Nodes.{LeafStands, kept_at, leaf_at}
use Rattle.run_arena.specs.Rosters.{instances_of}
use Rattle.run_arena.specs.Scenes.{Fits, Scene, marks_of, state_in}
use Rattle.run_arena.specs.Stands.{StandAll, Stands, memories_of, memory_of, node_stands, view_under, written}
use Rattle.run_arena.proofs.Called.{instance_at_uid}
use Rattle.run_arena.proofs.Framed.{sized}
use Rattle.run_arena.proofs.Opened.{map_twice, memory_out, opened, size_out}
use Rattle.run_nodes.specs.Halting.Halts.{RunningAreHeld}
use Rattle.run_nodes.proofs.AboutHalting.Marks.{mark_is}
use Rattle.run_nodes.proofs.AboutHalting.Within.{size_of_term}

-- ---- The rules of a term, opened

module _ {X : Type 0} (term : X → Term) where
  sounds_as_terms : (rules : Term → States) (cs : List X) (rows : List Row) (fault : Option ℕ) (uid : ℕ) (ms : List Memory) (s : State) →
      Sounds (λ c. (meaning (term c)).size) (λ c. rules (term c)) cs rows fault uid ms s ≡ Sounds (λ t. (meaning t).size) rules (map term cs) rows fault uid ms s
  sounds_as_terms rules [] rows fault uid [] s = refl
  sounds_as_terms rules [] rows fault uid (m ∷ ms) s = refl
  sounds_as_terms rules (c ∷ cs) rows fault uid [] s = refl
  sounds_as_terms rules (c ∷ cs) rows fault uid (m ∷ ms) s = λ i. rules (term c) rows fault uid m s × sounds_as_terms rules cs rows fault (uid + (meaning (term c)).size) ms s i

  states_as_terms : (rules : Term → States) (node : Term-F X) → states_of_node X term (λ c. rules (term c)) node ≡ states_of_node Term (λ t. t) rules (map-Term X Term term node)
  states_as_terms rules node = λ i rows fault uid m s.
      OffPath fault uid (1 + sizes (map_twice term meaning node.children i))
      (NodeRule node.kind node.ports (row_of rows node.id) uid (out-Memory m).status (out-Memory m).memo (out-Memory m).children s)
      × sounds_as_terms rules node.children rows fault (uid + 1) (out-Memory m).children s i

sound_roll : (x : Term-F Term) → Sound (roll-Term x) ≡ states_of_node Term (λ t. t) Sound x
sound_roll x = rec-roll-Term States states_of_node (λ Y v k x. states_as_terms v k x) x

abbrev SoundAll : List Term → List Row → ℕ → List Memory → State → Type 0
SoundAll ts rows uid ms s = Sounds (λ t. (meaning t).size) Sound ts rows None uid ms s

-- ---- One leaf

-- a node with a driver is a leaf
leaf_kind : (view : View) (node : TreeNode) (found : Option ReadyLeaf) (leaf : ReadyLeaf) → found ≡ Some leaf → LeafStands view node found → node.kind ≡ Leaf
leaf_kind view node None leaf is stands = cc
leaf_kind view node (Some other) leaf is stands = stands.0

module _ (nodes : List Node) (s : Scene) (moment : ℕ) (marks : marks_of s.kept ≡ map is_held (instances_of nodes s.drivers)) where
  held_instance : (is : List Instance) (p : ℕ) → option_map (λ (i : Instance). is_some i.since) (slice_get is p) ≡ Some true → is_held (get_or is p fresh) ≡ true
  held_instance [] p held = cc
  held_instance (i ∷ is) zero held = cc
  held_instance (i ∷ is) (suc p) held = held_instance is p held

  -- a leaf that is RUNNING by its rule has its mark
  rule_marks : (kind : Kind) (row : Option Row) (ports : List Port) (uid : ℕ) (st : Status) (memo : Memo) (ms : List Memory) → NodeRule kind ports row uid st memo ms (state_in nodes s moment) → kind ≡ Leaf → st ≡ Running → (kept_at s.kept uid).held ≡ true
  rule_marks kind row ports uid st memo ms rule is_leaf running =
      let held : held_at (state_in nodes s moment) uid ≡ Some true = rule.held ∙ (λ i. Some (model.is_held (running i) (is_leaf i))) in
      mark_is nodes s.kept s.drivers uid marks ∙ ap is_held (sym (instance_at_uid nodes s.drivers uid)) ∙ held_instance (instances_of nodes s.drivers) uid held

  -- each RUNNING leaf of these nodes has its mark
  abbrev HeldIn : ℕ → ℕ → Type 0
  HeldIn uid size = (p : ℕ) (leaf : ReadyLeaf) → uid ≤ p → p < uid + size → leaf_at nodes p ≡ Some leaf → (kept_at s.kept p).status ≡ Running → (kept_at s.kept p).held ≡ true

  module _ (rows : List Row) where
    abbrev IsHeld : Term → Type 0
    IsHeld t = (view : View) (uid : ℕ) → Stands t nodes view uid → Sound t rows None uid (memory_of t uid s.kept) (state_in nodes s moment) → HeldIn uid (meaning t).size

    all_held : (ts : List ((t : Term) × IsHeld t)) (view : View) (uid : ℕ) → StandAll (map (λ e. e.0) ts) nodes view uid → SoundAll (map (λ e. e.0) ts) rows uid (memories_of (map (λ e. e.0) ts) uid s.kept) (state_in nodes s moment) → HeldIn uid (sizes (map meaning (map (λ e. e.0) ts)))
    all_held [] view uid stand sound = λ p leaf low high is running. absurd (omega (arith, low, high))
    all_held (e ∷ ts) view uid stand sound = λ p leaf low high is running.
        let more : sizes (map meaning (map (λ x. x.0) (e ∷ ts))) ≡ (meaning e.0).size + sizes (map meaning (map (λ x. x.0) ts)) = sum_by-cons (λ (c : Meaning). c.size) (meaning e.0) (map meaning (map (λ x. x.0) ts)) in
        let others : SoundAll (map (λ x. x.0) ts) rows (uid + (meaning e.0).size) (memories_of (map (λ x. x.0) ts) (uid + (meaning e.0).size) s.kept) (state_in nodes s moment) =
        subst (λ (size : ℕ). SoundAll (map (λ x. x.0) ts) rows (uid + (meaning e.0).size) (memories_of (map (λ x. x.0) ts) (uid + size) s.kept) (state_in nodes s moment)) (sized e.0) sound.1 in
        elim (cases_lt p (uid + (meaning e.0).size)) [
          | inl first ↦ e.1 view uid stand.0 sound.0 p leaf low first is running
          | inr following ↦ all_held ts view (uid + (meaning e.0).size) stand.1 others p leaf following (omega (arith, high, more)) is running
        ]

    held_by_rules : (t : Term) → IsHeld t
    held_by_rules = ind-Term IsHeld (λ x y is view uid stands sound p leaf low high at_leaf running.
        let here : node_stands Term (λ c. c) Stands x nodes view uid = subst (λ (z : Term-F Term). node_stands Term (λ c. c) Stands z nodes view uid) (out-roll-Term x) (opened (roll-Term x) nodes view uid stands) in
        let ms : List Memory = memories_of x.children (uid + 1) s.kept in
        let memory : memory_of (roll-Term x) uid s.kept ≡ remembered (kept_at s.kept uid).status (kept_at s.kept uid).memo ms =
        memory_out (roll-Term x) uid s.kept ∙ ap (λ (z : Term-F Term). remembered (kept_at s.kept uid).status (kept_at s.kept uid).memo (memories_of z.children (uid + 1) s.kept)) (out-roll-Term x) in
        let rules : states_of_node Term (λ t. t) Sound x rows None uid (remembered (kept_at s.kept uid).status (kept_at s.kept uid).memo ms) (state_in nodes s moment) =
        subst (λ (m : Memory). states_of_node Term (λ t. t) Sound x rows None uid m (state_in nodes s moment)) memory
        (subst (λ (r : States). r rows None uid (memory_of (roll-Term x) uid s.kept) (state_in nodes s moment)) (sound_roll x) sound) in
        let open_rules = simp out-roll-Memory at rules in
        let size : (meaning (roll-Term x)).size ≡ 1 + sizes (map meaning x.children) = size_out (roll-Term x) ∙ ap (λ (z : Term-F Term). 1 + sizes (map meaning z.children)) (out-roll-Term x) in
        let children : StandAll x.children nodes (view_under view uid (written x)) (uid + 1) → SoundAll x.children rows (uid + 1) ms (state_in nodes s moment) → HeldIn (uid + 1) (sizes (map meaning x.children)) =
        subst (λ (z : Term-F Term). StandAll z.children nodes (view_under view uid (written x)) (uid + 1) → SoundAll z.children rows (uid + 1) (memories_of z.children (uid + 1) s.kept) (state_in nodes s moment) → HeldIn (uid + 1) (sizes (map meaning z.children))) is (all_held y.children (view_under view uid (written x)) (uid + 1)) in
        elim (cases_eq p uid) [
          | inl same ↦
              let is_leaf : x.kind ≡ Leaf = leaf_kind view (written x) (leaf_at nodes uid) leaf (ap (leaf_at nodes) (sym same) ∙ at_leaf) here.1.leaf in
              ap (λ (q : ℕ). (kept_at s.kept q).held) same ∙ rule_marks x.kind (row_of rows x.id) x.ports uid (kept_at s.kept uid).status (kept_at s.kept uid).memo ms open_rules.0 is_leaf (ap (λ (q : ℕ). (kept_at s.kept q).status) (sym same) ∙ running)
          | inr other ↦ children here.2 open_rules.1 p leaf (omega (arith, low, other)) (omega (arith, high, size)) at_leaf running
        ])

-- where the rules hold for a term, each RUNNING leaf of it has its mark
pub sound_marks : (t : Term) (view : View) (uid : ℕ) (nodes : List Node) (s : Scene) (moment : ℕ) (rows : List Row) → Fits t view uid nodes s → Sound t rows None uid (memory_of t uid s.kept) (state_in nodes s moment) → RunningAreHeld nodes s.kept uid
sound_marks t view uid nodes s moment rows fits sound = λ p leaf low high is running.
    held_by_rules nodes s moment fits.marks rows t view uid fits.stands sound p leaf low (omega (arith, high, size_of_term t view uid nodes s fits)) is running
