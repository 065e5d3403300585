-- A term that stands in an arena, as its node, and what a change at its node leaves.
use Rattle.std.proofs.Common.{◌≡◌, ◌≢◌, ℕ, ◌+◌, ◌<◌, List, map, length, set, Result, Ok, Err, sym, ap, subst, ◌∙◌, arith}
use Rattle.std.proofs.lemmas.List.{get_or-set_other, length-map, length-set}
use Rattle.base_texts.specs.declared.stop.Stop.{Stop}
use Rattle.base_texts.specs.declared.stop.Stop.TheVariants as stop
use Rattle.spec_run.specs.declared.fault.NodeFault.{NodeFault}
use Rattle.spec_run.specs.declared.memory.Memory.{Memory}
use Rattle.spec_run.specs.declared.note.Note.{Note}
use Rattle.spec_tree.specs.declared.term.Term.{Term, Term-F, out-Term}
use Rattle.spec_tree.specs.declared.term.Term.TheFolds.{map-Term}
use Rattle.spec_run.specs.Done.{Done}
use Rattle.spec_run.specs.Drivers.{DriverState, is_held}
use Rattle.spec_run.specs.Sites.{Meaning, View, remembered, sizes}
use Rattle.spec_run.specs.Visit.{meaning}
use Rattle.run_arena.specs.declared.nodes.Kept.{Kept}
use Rattle.run_arena.specs.declared.nodes.Node.{Node}
use Rattle.run_arena.specs.Ends.{Meets, StaysFit}
use Rattle.run_arena.specs.Nodes.{IsNode, at_rest, kept_at, node_at}
use Rattle.run_arena.specs.Rosters.{AreServed, instances_of, leaf_instance}
use Rattle.run_arena.specs.Scenes.{Fits, Scene, marks_of}
use Rattle.run_arena.specs.Stands.{Beside, memories_of, memory_of, written}
use Rattle.run_arena.proofs.Called.{marks_same}
use Rattle.run_arena.proofs.Framed.{framed_all}
use Rattle.run_arena.proofs.Opened.{memory_out, opened}
use Rattle.run_nodes.specs.Here.{FitsHere}

-- a term that fits an arena, as its node with what its children mean
pub fits_here : (t : Term) (view : View) (uid : ℕ) (nodes : List Node) (s : Scene) → Fits t view uid nodes s → FitsHere (map-Term Term Meaning meaning (out-Term t)) view uid nodes s
fits_here t view uid nodes s fits =
    let stands = opened t nodes view uid fits.stands in
    record {
      there = stands.0;
      node = subst (λ (n : ℕ). IsNode view (record (written (out-Term t)) { children = n }) (1 + sizes (map meaning (out-Term t).children)) (node_at nodes uid)) (sym (length-map (out-Term t).children meaning)) stands.1;
      marks = fits.marks;
      leaves = fits.leaves;
      slots = fits.slots;
      facts = fits.facts;
    }

-- there are as many kept values as nodes
as_many_kept : (nodes : List Node) (kept : List Kept) (drivers : List DriverState) → marks_of kept ≡ map is_held (instances_of nodes drivers) → length kept ≡ length nodes
as_many_kept nodes kept drivers marks =
    sym (length-map kept (λ (k : Kept). k.held)) ∙ ap length marks ∙ length-map (instances_of nodes drivers) is_held ∙ length-map nodes (λ (node : Node). leaf_instance drivers node.leaf)

-- a node that fits is one of those that keep something
pub kept_there : (term : Term-F Meaning) (view : View) (uid : ℕ) (nodes : List Node) (s : Scene) → FitsHere term view uid nodes s → uid < length s.kept
kept_there term view uid nodes s fits = omega (arith, fits.there, as_many_kept nodes s.kept s.drivers fits.marks)

-- a part that meets its definition, its memory read in another way
pub read_as : {A M : Type 0} (nodes : List Node) (now : ℕ) (read other : List Kept → M) (r : Result A (Stop NodeFault)) (before after : Scene) (old new : List Note) (d : Done A M) →
    read after.kept ≡ other after.kept → Meets nodes now read r before after old new d → Meets nodes now other r before after old new d
read_as nodes now read other (Ok a) before after old new d same m =
    (record { answer = m.0.answer; memory = m.0.memory ∙ same; state = m.0.state; notes = m.0.notes; drivers = m.0.drivers }, m.1)
read_as nodes now read other (Err (stop.Fault f)) before after old new d same m =
    record { answer = m.answer; memory = m.memory ∙ same; state = m.state; notes = m.notes; drivers = m.drivers }
read_as nodes now read other (Err stop.NoMemory) before after old new d same m = m

module _ (kept kept1 : List Kept) (uid : ℕ) (k : Kept) (is : kept1 ≡ set kept uid k) where
  kept_other : (p : ℕ) → p ≢ uid → kept_at kept1 p ≡ kept_at kept p
  kept_other p apart = ap (λ ks. kept_at ks p) is ∙ get_or-set_other kept uid p k at_rest apart

  -- no other node has changed
  pub beside_one : Beside uid 1 kept kept1
  beside_one = record {
    below = λ p low. kept_other p (λ same. omega (arith, low, same));
    above = λ p high. kept_other p (λ same. omega (arith, high, same));
    as_many = ap length is ∙ length-set kept uid k;
  }

  -- its children remember the same
  pub children_same : (ts : List Term) → memories_of ts (uid + 1) kept1 ≡ memories_of ts (uid + 1) kept
  children_same ts = framed_all ts (uid + 1) kept1 kept (λ p low high. kept_other p (λ same. omega (arith, low, same)))

  -- its memory is what it keeps now, and that of its children as before
  pub memory_now : (t : Term) → memory_of t uid kept1 ≡ remembered (kept_at kept1 uid).status (kept_at kept1 uid).memo (memories_of (out-Term t).children (uid + 1) kept)
  memory_now t = memory_out t uid kept1 ∙ ap (λ (ms : List Memory). remembered (kept_at kept1 uid).status (kept_at kept1 uid).memo ms) (children_same (out-Term t).children)

-- where the mark of a node, the slots and the facts stay, the arena still fits
pub stays_fit : (nodes : List Node) (uid : ℕ) (k : Kept) (before after : Scene) → after.kept ≡ set before.kept uid k → k.held ≡ (kept_at before.kept uid).held →
    length after.board ≡ length before.board → length after.facts ≡ length before.facts → after.drivers ≡ before.drivers → StaysFit nodes before after
stays_fit nodes uid k before after kept mark slots facts drivers term view top fits = record {
  stands = fits.stands;
  few = fits.few;
  marks = ap marks_of kept ∙ marks_same before.kept uid k mark ∙ fits.marks ∙ ap (λ ds. map is_held (instances_of nodes ds)) (sym drivers);
  leaves = subst (λ ds. AreServed ds nodes) (sym drivers) fits.leaves;
  slots = slots ∙ fits.slots;
  facts = facts ∙ fits.facts;
}
