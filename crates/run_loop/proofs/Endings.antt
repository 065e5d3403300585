-- A quench of runs, and what was told of them.
use Rattle.std.proofs.Common.{◌≡◌, ℕ, ℤ, List, ◌++◌, Result, sym, ap, subst, ◌∙◌}
use Rattle.std.specs.Global.{Vec}
use Rattle.base_texts.specs.declared.stop.NoMemory.{NoMemory}
use Rattle.spec_script.specs.declared.value.Value.{Value}
use Rattle.spec_run.specs.declared.note.Note.{Note}
use Rattle.spec_tree.specs.declared.term.Tree.{Tree}
use Rattle.spec_world.specs.declared.world.World.{World}
use Rattle.spec_run.specs.Drivers.{DriverState}
use Rattle.spec_run.specs.Run.{changed_from}
use Rattle.run_arena.specs.declared.block.Block.{Block}
use Rattle.run_loop.specs.declared.runs.Runs.{Runs}
use Rattle.run_loop.specs.Ending.{IsQuenched, IsTelling}
use Rattle.run_loop.specs.Runs.{RunnersFit}

-- runs that fit still do, whatever was told
pub still_fit : (tree : Tree) (world : World) (drivers : List DriverState) (old new : Runs) → new ≡ record old { told = new.told } → RunnersFit tree world old.facts drivers old.runners.items → RunnersFit tree world new.facts drivers new.runners.items
still_fit tree world drivers old new same fit = subst (λ (r : Runs). RunnersFit tree world r.facts drivers r.runners.items) (sym same) fit

module _ (tree : Tree) (before after : List DriverState) (old new other : Runs) (n0 n1 m0 m1 : List Note) (same0 : m0 ≡ n0) (same1 : m1 ≡ n1) where
  noted : IsQuenched tree before after old new m0 m1 → IsQuenched tree before after old new n0 n1
  noted q = subst (λ xs. IsQuenched tree before after old new xs n1) same0 (subst (λ xs. IsQuenched tree before after old new m0 xs) same1 q)

  told_before : IsQuenched tree before after (record old { told = other.told }) new n0 n1 → IsQuenched tree before after old new n0 n1
  told_before q = record { state = q.state; notes = q.notes; drivers = q.drivers; facts = q.facts; last = q.last; arenas = q.arenas; boards = q.boards }

  told_after : IsQuenched tree before after old new n0 n1 → IsQuenched tree before after old (record new { told = other.told }) n0 n1
  told_after q = record { state = q.state; notes = q.notes; drivers = q.drivers; facts = q.facts; last = q.last; arenas = q.arenas; boards = q.boards }

  -- a quench after what changed was told
  pub quenched_after : other ≡ record old { told = other.told } → IsQuenched tree before after other new m0 m1 → IsQuenched tree before after old new n0 n1
  quenched_after same q =
      told_before (subst (λ (r : Runs). IsQuenched tree before after r new n0 n1) same
      (subst (λ xs. IsQuenched tree before after other new xs n1) same0 (subst (λ xs. IsQuenched tree before after other new m0 xs) same1 q)))

  -- what changed is told after a quench
  pub quenched_told : other ≡ record new { told = other.told } → IsQuenched tree before after old new m0 m1 → IsQuenched tree before after old other n0 n1
  quenched_told same q = subst (λ (r : Runs). IsQuenched tree before after old r n0 n1) (sym same) (told_after (noted q))

-- what is told depends on the facts and on what was told before, and not on the notes of the block
pub telling_of : (entries : Result (Unit {0}) NoMemory) (f0 f1 t0 t1 told : List ℤ) (begun other block : Block) → f0 ≡ f1 → t0 ≡ t1 → begun.header ≡ other.header → begun.facts ≡ other.facts → begun.entries ≡ other.entries →
    IsTelling entries f0 t0 told begun block → IsTelling entries f1 t1 told other block
telling_of entries f0 f1 t0 t1 told begun other block same_facts same_told header facts same_entries t = record {
  is_told = t.is_told;
  header = t.header ∙ header;
  entries = t.entries ∙ ap (λ (v : Vec (ℕ × ℕ × Value)). v.items) same_entries;
  changed = t.changed ∙ (λ i. (facts i).items ++ changed_from 0 (same_told i) (same_facts i));
  told = t.told ∙ same_facts;
}
