-- The end of a halt: a leaf is halted, the node comes to rest, and its script runs.
use Rattle.std.proofs.Common.{◌≡◌, ℕ, ◌+◌, ◌<◌, List, [], ◌∷◌, ◌++◌, map, length, slice_set, false, Option, Some, None, refl, sym, ap, subst, ◌∙◌, append-nil, arith, Result, Ok, Err}
use Rattle.std.proofs.lemmas.List.{get_or-set_other, get_or-set_same}
use Rattle.base_texts.specs.declared.stop.Stop.{Stop}
use Rattle.base_texts.specs.declared.stop.Stop.TheVariants as stop
use Rattle.spec_run.specs.declared.fault.NodeFault.{NodeFault}
use Rattle.spec_run.specs.declared.memory.Memo.{Memo}
use Rattle.spec_run.specs.declared.memory.Memory.{Memory}
use Rattle.spec_run.specs.declared.note.Note.{Note}
use Rattle.spec_run.specs.declared.note.Note.TheVariants.{Changed}
use Rattle.spec_run.specs.declared.status.Status.TheVariants.{Idle, Running}
use Rattle.spec_tree.specs.declared.term.Kind.{Kind}
use Rattle.spec_tree.specs.declared.term.Kind.TheVariants.{Leaf}
use Rattle.spec_tree.specs.declared.term.Term.{Term, out-Term}
use Rattle.spec_run.specs.Done.{Done, State, following, done, follow}
use Rattle.spec_run.specs.Drivers.{is_held}
use Rattle.spec_run.specs.NodeScripts.{script_if_there}
use Rattle.spec_run.specs.Sites.{Site, View, remembered, sizes}
use Rattle.spec_tree.specs.Trees.{Node as TreeNode}
use Rattle.spec_run.specs.Visit.{cleared, halt_calls, halt_notes, halt_state, halted, meaning}
use Rattle.run_arena.specs.declared.nodes.Kept.{Kept}
use Rattle.run_arena.specs.declared.nodes.Node.{Node}
use Rattle.run_arena.specs.declared.nodes.ReadyLeaf.{ReadyLeaf}
use Rattle.run_arena.specs.Nodes.{IsNode, LeafStands, at_rest, kept_at, leaf_at, node_at}
use Rattle.spec_run.specs.Joins.{is_leaf}
use Rattle.run_arena.specs.Rosters.{AreServed, instances_of}
use Rattle.run_arena.specs.Scenes.{Scene, marks_of, state_in}
use Rattle.run_arena.specs.Stands.{Beside, Stands, memories_of, memory_of, written}
use Rattle.run_arena.proofs.Opened.{opened}
use Rattle.run_arena.specs.Ends.{IsCut, Meets, StaysFit}
use Rattle.run_nodes.specs.Halting.Halts.{leaf_released, rests}
use Rattle.run_nodes.specs.Here.{site_at}
use Rattle.run_arena.proofs.Follows.{done_met, followed, stopped}
use Rattle.run_nodes.proofs.AboutHalting.Memories.{memory_above}

-- ---- The parts of the end

module _ (site : Site) (idle : Memory) where
  abbrev scripted : State → Done (Unit {0}) Memory
  scripted s = follow (script_if_there site site.node.guards.on_halted s) (λ _. idle) (λ _ _ s1. done tt idle s1)

  abbrev rested : State → Done (Unit {0}) Memory
  rested s = follow (rests site.uid s) (λ _. idle) (λ _ _ s1. scripted s1)

  -- the end of a halt, made of its parts
  abbrev pub end_in_parts : Option ReadyLeaf → State → Done (Unit {0}) Memory
  end_in_parts leaf s = follow (leaf_released leaf site.uid s) (λ _. idle) (λ _ _ s1. rested s1)

  abbrev halted_by : Kind → State → Done (Unit {0}) Memory
  halted_by k s =
      following (halt_notes k site.uid ++ Changed site.uid Running Idle ∷ []) (halt_calls k site.uid s)
      (follow (script_if_there site site.node.guards.on_halted (halt_state k site.uid s)) (λ _. idle) (λ _ _ s1. done tt idle s1))

  no_leaf : (k : Kind) (s : State) → is_leaf k ≡ false → halted_by k s ≡ end_in_parts None s
  no_leaf Leaf s is = cc
  no_leaf _ s is = refl

  is_in_parts : (k : Kind) (leaf : Option ReadyLeaf) (s : State) (view : View) (node : TreeNode) → k ≡ node.kind → LeafStands view node leaf → halted_by k s ≡ end_in_parts leaf s
  is_in_parts k None s view node same stands = no_leaf k s (ap is_leaf same ∙ stands)
  is_in_parts k (Some leaf) s view node same stands = ap (λ (x : Kind). halted_by x s) (same ∙ stands.0)

-- ---- A term that stands

-- a part was cut off before anything of it was done
pub nothing_cut : {A M : Type 0} (nodes : List Node) (s s1 : Scene) (n n1 : List Note) (d : Done A M) → s1.drivers ≡ s.drivers → n1 ≡ n → IsCut nodes s s1 n n1 d
nothing_cut nodes s s1 n n1 d called noted = record { told = []; untold = d.notes; made = []; unmade = d.calls; all_notes = refl; all_calls = refl; named = refl; notes = noted ∙ sym (append-nil n); drivers = called }

-- the node of a term that stands
pub node_of : (t : Term) (nodes : List Node) (view : View) (uid : ℕ) → Stands t nodes view uid → IsNode view (written (out-Term t)) (1 + sizes (map meaning (out-Term t).children)) (node_at nodes uid)
node_of t nodes view uid stands = (opened t nodes view uid stands).1

module _ (nodes : List Node) (moment : ℕ) (t : Term) (view : View) (uid : ℕ) (stands : Stands t nodes view uid) (idle : Memory) where
  abbrev site : Site
  site = site_at view uid t

  -- the end of a halt is that of its parts
  in_parts : (s : State) → halted site idle s ≡ end_in_parts site idle (leaf_at nodes uid) s
  in_parts s = is_in_parts site idle site.node.kind (leaf_at nodes uid) s view (written (out-Term t)) refl (node_of t nodes view uid stands).leaf

  module _ (s0 s1 : Scene) (n0 n1 : List Note) (released : Meets nodes moment (λ (k : List Kept). tt) (Ok tt) s0 s1 n0 n1 (leaf_released (leaf_at nodes uid) uid (state_in nodes s0 moment))) where
    abbrev Whole : Result (Unit {0}) (Stop NodeFault) → Scene → List Note → Type 0
    Whole r s n = Meets nodes moment (memory_of t uid) r s0 s n0 n (halted site idle (state_in nodes s0 moment))

    after_released : (r : Result (Unit {0}) (Stop NodeFault)) (s : Scene) (n : List Note) → Meets nodes moment (memory_of t uid) r s1 s n1 n (rested site idle (state_in nodes s1 moment)) → Whole r s n
    after_released r s n m =
        subst (λ (d : Done (Unit {0}) Memory). Meets nodes moment (memory_of t uid) r s0 s n0 n d) (sym (in_parts (state_in nodes s0 moment)))
        (followed nodes moment (λ (k : List Kept). tt) (memory_of t uid) s0 s1 n0 n1 (leaf_released (leaf_at nodes uid) uid (state_in nodes s0 moment)) (λ _. idle) (λ _ _ s2. rested site idle s2) tt r s n released m)

    -- there is want of memory for the note of the status
    pub not_rested : (s2 : Scene) (n2 : List Note) → s2.drivers ≡ s1.drivers → n2 ≡ n1 → Whole (Err stop.NoMemory) s2 n2
    not_rested s2 n2 called noted = after_released (Err stop.NoMemory) s2 n2 (nothing_cut nodes s1 s2 n1 n2 (rested site idle (state_in nodes s1 moment)) called noted)

    module _ (s2 : Scene) (n2 : List Note) (same_board : s2.board ≡ s1.board) (same_facts : s2.facts ≡ s1.facts) (same_drivers : s2.drivers ≡ s1.drivers) (noted : n2 ≡ n1 ++ Changed uid Running Idle ∷ []) where
      same_state : state_in nodes s1 moment ≡ state_in nodes s2 moment
      same_state = λ i. record { board = sym same_board i; facts = sym same_facts i; instances = instances_of nodes (sym same_drivers i); moment = moment }

      rests_met : Meets nodes moment (λ (k : List Kept). tt) (Ok tt) s1 s2 n1 n2 (rests uid (state_in nodes s1 moment))
      rests_met = (record { answer = refl; memory = refl; state = same_state; notes = noted; drivers = same_drivers }, refl)

      after_rest : (r : Result (Unit {0}) (Stop NodeFault)) (s : Scene) (n : List Note) → Meets nodes moment (memory_of t uid) r s2 s n2 n (scripted site idle (state_in nodes s2 moment)) → Whole r s n
      after_rest r s n m = after_released r s n (followed nodes moment (λ (k : List Kept). tt) (memory_of t uid) s1 s2 n1 n2 (rests uid (state_in nodes s1 moment)) (λ _. idle) (λ _ _ s3. scripted site idle s3) tt r s n rests_met m)

      -- the script ran, or ended with a fault or for want of memory
      pub end_met : (r : Result (Unit {0}) (Stop NodeFault)) (s3 : Scene) (n3 : List Note) → idle ≡ memory_of t uid s3.kept →
          Meets nodes moment (λ (k : List Kept). tt) r s2 s3 n2 n3 (script_if_there site site.node.guards.on_halted (state_in nodes s2 moment)) → Whole r s3 n3
      end_met (Ok a) s3 n3 is m =
          after_rest (Ok a) s3 n3
          (followed nodes moment (λ (k : List Kept). tt) (memory_of t uid) s2 s3 n2 n3 (script_if_there site site.node.guards.on_halted (state_in nodes s2 moment)) (λ _. idle) (λ _ _ s4. done tt idle s4) tt (Ok a) s3 n3 m
          (subst (λ (k : Memory). Meets {A = Unit {0}} nodes moment (memory_of t uid) (Ok tt) s3 s3 n3 n3 (done tt k (state_in nodes s3 moment))) (sym is) (done_met nodes moment (memory_of t uid) tt s3 n3)))
      end_met (Err e) s3 n3 is m =
          after_rest (Err e) s3 n3
          (stopped nodes moment (λ (k : List Kept). tt) (memory_of t uid) s2 s3 n2 n3 (script_if_there site site.node.guards.on_halted (state_in nodes s2 moment)) (λ _. idle) (λ _ _ s4. done tt idle s4) e is m)

-- the memory of a node that has come to rest
pub idle_is : (t : Term) (uid : ℕ) (kept0 kept1 kept2 : List Kept) → Beside uid 1 kept0 kept1 → (kept_at kept1 uid).memo ≡ (kept_at kept0 uid).memo → uid < length kept1 →
    kept2 ≡ slice_set kept1 uid (record { status = Idle; memo = cleared (kept_at kept1 uid).memo; held = (kept_at kept1 uid).held }) →
    remembered Idle (cleared (kept_at kept0 uid).memo) (memories_of (out-Term t).children (uid + 1) kept0) ≡ memory_of t uid kept2
idle_is t uid kept0 kept1 kept2 beside memo within is =
    let rest : Kept = record { status = Idle; memo = cleared (kept_at kept1 uid).memo; held = (kept_at kept1 uid).held } in
    let here : kept_at kept2 uid ≡ rest = ap (λ (k : List Kept). kept_at k uid) is ∙ get_or-set_same kept1 uid rest at_rest within in
    let ms = memories_of (out-Term t).children (uid + 1) kept0 in
    ap (λ (x : Memo). remembered Idle (cleared x) ms) (sym memo)
    ∙ ap (λ (k : Kept). remembered k.status k.memo ms) (sym here)
    ∙ sym (memory_above t uid kept0 kept2 (λ p low high. sym (ap (λ (k : List Kept). kept_at k p) is ∙ get_or-set_other kept1 uid p rest at_rest (λ e. absurd (omega (arith, low, e))) ∙ beside.above p low)))

-- ---- What stays

-- what fitted the arena still fits it, where the marks are right and each leaf is served
pub fits_still : (nodes : List Node) (s0 s1 : Scene) → marks_of s1.kept ≡ map is_held (instances_of nodes s1.drivers) → AreServed s1.drivers nodes → length s1.board ≡ length s0.board → length s1.facts ≡ length s0.facts → StaysFit nodes s0 s1
fits_still nodes s0 s1 marks served slots facts = λ t view uid fits. record {
  stands = fits.stands;
  few = fits.few;
  marks = marks;
  leaves = served;
  slots = slots ∙ fits.slots;
  facts = facts ∙ fits.facts;
}
