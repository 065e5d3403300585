-- The notes of each step of a run say which leaves are held after it.
use Rattle.std.proofs.Common.{◌≡◌, ◌⊎◌, ℕ, zero, suc, ◌+◌, ◌-◌, ◌<◌, ◌≤◌, List, [], ◌∷◌, ◌++◌, map, length, nat_eq, cond, Bool, true, false, is_some, option_map, slice_get, slice_set, Option, Some, None, Result, Ok, Err, refl, sym, ap, ◌∙◌, arith}
use Rattle.std.proofs.lemmas.Bool.{eqb-true}
use Rattle.std.proofs.lemmas.List.{length-map, length-set}
use Rattle.std.proofs.Math.Dec.{eqb-suc-suc, eqb-suc-zero, eqb-zero-suc}
use Rattle.run_laws.proofs.ReadNotes.{read_all, read_both}
use Rattle.spec_run.specs.declared.block.Header.{Header}
use Rattle.spec_run.specs.declared.fault.NodeFault.{NodeFault}
use Rattle.spec_run.specs.declared.fault.RunFault.{RunFault}
use Rattle.spec_run.specs.declared.leaf.Instance.{Instance}
use Rattle.spec_run.specs.declared.memory.Memory.{Memory}
use Rattle.spec_run.specs.declared.note.Note.{Note}
use Rattle.spec_run.specs.declared.note.Note.TheVariants as note
use Rattle.spec_run.specs.Done.{Done}
use Rattle.spec_run.specs.Run.{RunState, Runner, Stepped, quench_notes, runner_at, told, with_runner}
use Rattle.spec_run.specs.Visit.{meaning}
use Rattle.spec_serve.specs.Inputs.{runner_of}
use Rattle.spec_serve.specs.Traces.{Noted, noted_in}
use Rattle.spec_tree.specs.declared.term.Tree.{Tree}
use Rattle.tree_exclusive.proofs.Held.{held, held_among, held_by, quench_reads, quenched_free, read_leaf, read_noted, seen, there}

-- ---- One runner among all

set_at : (rs : List Runner) (place k uid : ℕ) (old x : Runner) → slice_get rs place ≡ Some old → held_by (slice_get (slice_set rs place x) k) uid ≡ cond (nat_eq k place) (held_among x.instances uid) (held_by (slice_get rs k) uid)
set_at [] place k uid old x is = cc
set_at (r ∷ rs) zero zero uid old x is = refl
set_at (r ∷ rs) zero (suc k) uid old x is = ap (λ b. cond b (held_among x.instances uid) (held_by (slice_get rs k) uid)) (sym (eqb-suc-zero k))
set_at (r ∷ rs) (suc place) zero uid old x is = ap (λ b. cond b (held_among x.instances uid) (held_among r.instances uid)) (sym (eqb-zero-suc place))
set_at (r ∷ rs) (suc place) (suc k) uid old x is =
    set_at rs place k uid old x is ∙ ap (λ b. cond b (held_among x.instances uid) (held_by (slice_get rs k) uid)) (sym (eqb-suc-suc k place))

set_place : (rs : List Runner) (place : ℕ) (old x : Runner) → slice_get rs place ≡ Some old → (runner uid : ℕ) →
    held (slice_set rs place x) runner uid ≡ cond (nat_eq runner (suc place)) (held_among x.instances uid) (held rs runner uid)
set_place rs place old x is zero uid = ap (λ b. cond b (held_among x.instances uid) false) (sym (eqb-zero-suc place))
set_place rs place old x is (suc k) uid =
    set_at rs place k uid old x is ∙ ap (λ b. cond b (held_among x.instances uid) (held_by (slice_get rs k) uid)) (sym (eqb-suc-suc k place))

module _ (rs : List Runner) (old : Runner) where
  -- where the runner of a number has changed, its leaves are held by what it is now, and those of the others as they were
  pub set_runner : (by : ℕ) → 1 ≤ by → slice_get rs (by - 1) ≡ Some old → (x : Runner) (runner uid : ℕ) →
      held (slice_set rs (by - 1) x) runner uid ≡ cond (nat_eq runner by) (held_among x.instances uid) (held rs runner uid)
  set_runner zero named is x runner uid = absurd (omega (arith, named))
  set_runner (suc place) named is x runner uid =
      let at : suc place - 1 ≡ place = omega arith in
      ap (λ (k : ℕ). held (slice_set rs k x) runner uid) at ∙ set_place rs place old x (ap (slice_get rs) (sym at) ∙ is) runner uid

  -- the leaves of the runner of a number
  pub held_here : (by : ℕ) → 1 ≤ by → slice_get rs (by - 1) ≡ Some old → (uid : ℕ) → held rs by uid ≡ held_among old.instances uid
  held_here zero named is uid = absurd (omega (arith, named))
  held_here (suc place) named is uid =
      let at : suc place - 1 ≡ place = omega arith in
      ap (λ (o : Option Runner). held_by o uid) (ap (slice_get rs) (sym at) ∙ is)

  own_by : (by : ℕ) → 1 ≤ by → slice_get rs (by - 1) ≡ Some old → (b : Bool) (runner uid : ℕ) → nat_eq runner by ≡ b → held rs runner uid ≡ cond b (held_among old.instances uid) (held rs runner uid)
  own_by by named is false runner uid e = refl
  own_by by named is true runner uid e = ap (λ (n : ℕ). held rs n uid) (eqb-true runner by e) ∙ held_here by named is uid

  pub own_runner : (by : ℕ) → 1 ≤ by → slice_get rs (by - 1) ≡ Some old → (runner uid : ℕ) → held rs runner uid ≡ seen runner uid by (held rs runner uid) old.instances
  own_runner by named is runner uid = own_by by named is (nat_eq runner by) runner uid refl

-- ---- What a step says

-- no leaf is held
abbrev pub Free : List Runner → Type 0
Free rs = (runner uid : ℕ) → held rs runner uid ≡ false

-- only nodes of the tree are held
abbrev pub HoldsInside : Tree → List Runner → Type 0
HoldsInside tree rs = (runner uid : ℕ) → (uid < 1) ⊎ (1 + (meaning tree.term).size ≤ uid) → held rs runner uid ≡ false

-- what a step leaves, by its notes
pub record Tells (tree : Tree) (s : RunState) (d : Stepped) : Type 0 where
  pub reads : (runner uid : ℕ) → read_all (read_noted runner uid) (noted_in d.block) (held s.runners runner uid) ≡ held d.state.runners runner uid
  pub inside : HoldsInside tree s.runners → HoldsInside tree d.state.runners
  pub many : length d.state.runners ≡ length s.runners
  pub faulted : (f : RunFault) → d.fault ≡ Some f → Free d.state.runners

-- the notes of an event of one runner
read_mapped : (runner uid by : ℕ) (notes : List Note) (known : Bool) →
    read_all (read_noted runner uid) (map (λ n. let one : Noted = record { runner = by; note = n } in one) notes) known ≡ read_all (read_leaf runner uid by) notes known
read_mapped runner uid by [] known = refl
read_mapped runner uid by (n ∷ notes) known = read_mapped runner uid by notes (read_leaf runner uid by n known)

module _ {A : Type 0} (tree : Tree) (s : RunState) (h : Header) (by at : ℕ) (named : 1 ≤ by) (of : runner_of h ≡ by) (x : Runner) (is : runner_at s by ≡ Some x) (d : Done A Memory) where
  abbrev after : RunState
  after = with_runner s by at d

  module _ (meets : (runner uid : ℕ) (other : Bool) → read_all (read_leaf runner uid by) d.notes (seen runner uid by other x.instances) ≡ seen runner uid by other d.state.instances)
      (stay : (p : ℕ) → (p < 1) ⊎ (1 + (meaning tree.term).size ≤ p) → slice_get d.state.instances p ≡ slice_get x.instances p) where
    part_reads : (runner uid : ℕ) → read_all (read_leaf runner uid by) d.notes (held s.runners runner uid) ≡ held after.runners runner uid
    part_reads runner uid =
        let before : Bool = held s.runners runner uid in
        ap (λ b. read_all (read_leaf runner uid by) d.notes b) (own_runner s.runners x by named is runner uid)
        ∙ meets runner uid before
        ∙ sym (set_runner s.runners x by named is (record { memory = d.memory; board = d.state.board; instances = d.state.instances }) runner uid)

    inside_by : HoldsInside tree s.runners → (b : Bool) (runner uid : ℕ) → (uid < 1) ⊎ (1 + (meaning tree.term).size ≤ uid) → nat_eq runner by ≡ b → cond b (held_among d.state.instances uid) (held s.runners runner uid) ≡ false
    inside_by inside false runner uid out e = inside runner uid out
    inside_by inside true runner uid out e =
        ap (λ (o : Option Instance). there (option_map (λ (i : Instance). is_some i.since) o)) (stay uid out) ∙ sym (held_here s.runners x by named is uid) ∙ inside by uid out

    part_inside : HoldsInside tree s.runners → HoldsInside tree after.runners
    part_inside inside runner uid out =
        set_runner s.runners x by named is (record { memory = d.memory; board = d.state.board; instances = d.state.instances }) runner uid
        ∙ inside_by inside (nat_eq runner by) runner uid out refl

    as_many : length after.runners ≡ length s.runners
    as_many = length-set s.runners (by - 1) _

    pub told_tells : (answer : Result A NodeFault) → Tells tree s (told answer h tree by d.notes d.calls s after)
    told_tells (Ok a) = record {
      reads = λ runner uid. read_mapped runner uid (runner_of h) d.notes (held s.runners runner uid)
          ∙ ap (λ (n : ℕ). read_all (read_leaf runner uid n) d.notes (held s.runners runner uid)) of
          ∙ part_reads runner uid;
      inside = part_inside;
      many = as_many;
      faulted = λ f e. cc;
    }
    told_tells (Err fault) =
        let quench : List Note = quench_notes 1 after.runners in
        let faulted : Note = note.Faulted by fault.uid fault.cause in
        record {
          reads = λ runner uid. read_mapped runner uid (runner_of h) (d.notes ++ faulted ∷ quench) (held s.runners runner uid)
              ∙ ap (λ (n : ℕ). read_all (read_leaf runner uid n) (d.notes ++ faulted ∷ quench) (held s.runners runner uid)) of
              ∙ read_both (read_leaf runner uid by) d.notes (faulted ∷ quench) (held s.runners runner uid)
              ∙ ap (λ b. read_all (read_leaf runner uid by) quench b) (part_reads runner uid)
              ∙ quench_reads runner uid by after.runners
              ∙ sym (quenched_free tree after.runners runner uid);
          inside = λ inside runner uid out. quenched_free tree after.runners runner uid;
          many = length-map after.runners _ ∙ as_many;
          faulted = λ f e runner uid. quenched_free tree after.runners runner uid;
        }

-- a step that leaves the runners and has no note
pub idle_tells : (tree : Tree) (s : RunState) (d : Stepped) → d.state.runners ≡ s.runners → d.block.notes ≡ [] → d.fault ≡ None → Tells tree s d
idle_tells tree s d same none fine = record {
  reads = λ runner uid. ap (λ (notes : List Note). read_all (read_noted runner uid) (map (λ n. let one : Noted = record { runner = runner_of d.block.header; note = n } in one) notes) (held s.runners runner uid)) none
      ∙ ap (λ (rs : List Runner). held rs runner uid) (sym same);
  inside = λ inside runner uid out. ap (λ (rs : List Runner). held rs runner uid) same ∙ inside runner uid out;
  many = ap (λ (rs : List Runner). length rs) same;
  faulted = λ f e. absurd (not_both d.fault fine e);
} where
  not_both : {X : Type 0} (o : Option X) → o ≡ None → {x : X} → o ≡ Some x → ⊥
  not_both o none some = cc
