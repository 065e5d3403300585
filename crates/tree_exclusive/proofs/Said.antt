-- What the definitions say of two leaves in a run, where they are read as apart.
use Rattle.std.proofs.Common.{◌≡◌, ℕ, zero, suc, List, [], ◌∷◌, ◌++◌, map, take, drop, length, nat_eq, cond, Bool, true, false, ◌&&◌, ◌||◌, Some, refl, sym, ap, subst, ◌∙◌}
use Rattle.std.specs.List.{AllByRecursion, list_any}
use Rattle.std.proofs.lemmas.Bool.{eqb-true}
use Rattle.std.proofs.lemmas.List.{take-append-drop}
use Rattle.std.proofs.lemmas.List.Concat.{flat_map-append}
use Rattle.std.proofs.Math.Seq.{take-append_seam}
use Rattle.base_tables.specs.Shapes.{is_running}
use Rattle.run_laws.proofs.ReadNotes.{read_all}
use Rattle.spec_run.specs.declared.block.Block.{Block}
use Rattle.spec_run.specs.declared.note.Note.{Note}
use Rattle.spec_run.specs.declared.note.Note.TheVariants as note
use Rattle.spec_run.specs.declared.status.Answer.{Answer}
use Rattle.spec_run.specs.declared.status.Answer.TheVariants as answer
use Rattle.spec_run.specs.Visit.{status_of}
use Rattle.spec_serve.specs.Inputs.{runner_of}
use Rattle.spec_serve.specs.Traces.{Noted, is_call, noted_in}
use Rattle.tree_dead.specs.Runs.{IsNeverNamed, named_by}
use Rattle.tree_exclusive.specs.Runs.{NeverTogether, NotTogetherAfterEvents, held_after, held_after_note, held_together, holds_on, leaves_held, noted_of}
use Rattle.tree_exclusive.proofs.Held.{read_noted}
use Rattle.tree_exclusive.proofs.Held as held

-- ---- As it is read

holds_as : (a : Answer) → holds_on a ≡ is_running (status_of a)
holds_as answer.Running = refl
holds_as answer.Success = refl
holds_as answer.Failure = refl
holds_as answer.Skipped = refl

leaves_as : (n : Note) → leaves_held n ≡ held.leaves_held n
leaves_as (note.Started uid a) = holds_as a
leaves_as (note.Ran uid a) = holds_as a
leaves_as (note.Changed uid old new) = refl
leaves_as (note.Halted uid) = refl
leaves_as (note.Root runner a) = refl
leaves_as (note.Faulted runner uid cause) = refl
leaves_as (note.Quenched runner uid) = refl

pub read_as : (runner uid : ℕ) (ns : List Noted) (known : Bool) → held_after runner uid ns known ≡ read_all (read_noted runner uid) ns known
read_as runner uid [] known = refl
read_as runner uid (n ∷ ns) known =
    read_as runner uid ns (held_after_note runner uid n known)
    ∙ ap (λ b. read_all (read_noted runner uid) ns (cond (is_call runner uid n.runner n.note) b known)) (leaves_as n.note)

-- ---- Not both

not_both : (a b : Bool) → (a ≡ true → b ≡ true → ⊥) → (a && b) ≡ false
not_both true true never = absurd (never refl refl)
not_both true false never = refl
not_both false b never = refl

module _ (runner u v : ℕ) where
  pub apart_said : (ns : List Noted) → (read_all (read_noted runner u) ns false ≡ true → read_all (read_noted runner v) ns false ≡ true → ⊥) → held_together runner u v ns ≡ false
  apart_said ns never = not_both (held_after runner u ns false) (held_after runner v ns false) (λ a b. never (sym (read_as runner u ns false) ∙ a) (sym (read_as runner v ns false) ∙ b))

  -- what is so at each moment is so after each event
  seam : (k : ℕ) (blocks : List Block) → take (length (noted_of (take k blocks))) (noted_of blocks) ≡ noted_of (take k blocks)
  seam k blocks =
      ap (λ (ns : List Noted). take (length (noted_of (take k blocks))) ns) (ap noted_of (sym (take-append-drop k blocks)) ∙ flat_map-append noted_in (take k blocks) (drop k blocks))
      ∙ take-append_seam (noted_of (take k blocks)) (noted_of (drop k blocks))

  pub after_events : (blocks : List Block) → NeverTogether runner u v blocks → NotTogetherAfterEvents runner u v blocks
  after_events blocks never k = ap (held_together runner u v) (sym (seam k blocks)) ∙ never (length (noted_of (take k blocks)))

-- ---- A leaf that no note names

abbrev Unnamed : ℕ → Noted → Type 0
Unnamed uid n = named_by n.note ≡ Some uid → ⊥

free_of : (b : Bool) → (b ≡ true → ⊥) → b ≡ false
free_of true never = absurd (never refl)
free_of false never = refl

and_second : (a b : Bool) → (a && b) ≡ true → b ≡ true
and_second true b e = e
and_second false b e = cc

same_name : (uid other : ℕ) → nat_eq uid other ≡ true → Some other ≡ Some uid
same_name uid other e = ap Some (sym (eqb-true uid other e))

no_call : (runner uid by : ℕ) (n : Note) → (named_by n ≡ Some uid → ⊥) → is_call runner uid by n ≡ true → ⊥
no_call runner uid by (note.Started other a) never is = never (same_name uid other (and_second (nat_eq runner by) (nat_eq uid other) is))
no_call runner uid by (note.Ran other a) never is = never (same_name uid other (and_second (nat_eq runner by) (nat_eq uid other) is))
no_call runner uid by (note.Halted other) never is = never (same_name uid other (and_second (nat_eq runner by) (nat_eq uid other) is))
no_call runner uid by (note.Quenched of other) never is = never (same_name uid other (and_second (nat_eq runner of) (nat_eq uid other) is))
no_call runner uid by (note.Changed other old new) never is = cc
no_call runner uid by (note.Root of a) never is = cc
no_call runner uid by (note.Faulted of other cause) never is = cc

never_held : (runner uid : ℕ) (ns : List Noted) (k : ℕ) → AllByRecursion (Unnamed uid) ns → held_after runner uid (take k ns) false ≡ false
never_held runner uid [] zero all = refl
never_held runner uid [] (suc k) all = refl
never_held runner uid (n ∷ ns) zero all = refl
never_held runner uid (n ∷ ns) (suc k) all =
    ap (λ b. held_after runner uid (take k ns) (cond b (leaves_held n.note) false)) (free_of (is_call runner uid n.runner n.note) (no_call runner uid n.runner n.note all.0))
    ∙ never_held runner uid ns k all.1

block_unnamed : (uid by : ℕ) (notes : List Note) → AllByRecursion (λ n. named_by n ≡ Some uid → ⊥) notes → AllByRecursion (Unnamed uid) (map (λ n. let one : Noted = record { runner = by; note = n } in one) notes)
block_unnamed uid by [] all = tt
block_unnamed uid by (n ∷ notes) all = (all.0, block_unnamed uid by notes all.1)

all_more : (uid : ℕ) (xs ys : List Noted) → AllByRecursion (Unnamed uid) xs → AllByRecursion (Unnamed uid) ys → AllByRecursion (Unnamed uid) (xs ++ ys)
all_more uid [] ys one other = other
all_more uid (x ∷ xs) ys one other = (one.0, all_more uid xs ys one.1 other)

blocks_unnamed : (uid : ℕ) (blocks : List Block) → IsNeverNamed blocks uid → AllByRecursion (Unnamed uid) (noted_of blocks)
blocks_unnamed uid [] never = tt
blocks_unnamed uid (block ∷ blocks) never = all_more uid (noted_in block) (noted_of blocks) (block_unnamed uid (runner_of block.header) block.notes never.0) (blocks_unnamed uid blocks never.1)

and_none : (a b : Bool) → b ≡ false → (a && b) ≡ false
and_none true b e = e
and_none false b e = refl

-- the first or the second leaf is named by no note
pub first_unnamed : (runner u v : ℕ) (blocks : List Block) → IsNeverNamed blocks u → NeverTogether runner u v blocks
first_unnamed runner u v blocks never k = ap (λ b. b && held_after runner v (take k (noted_of blocks)) false) (never_held runner u (noted_of blocks) k (blocks_unnamed u blocks never))

pub second_unnamed : (runner u v : ℕ) (blocks : List Block) → IsNeverNamed blocks v → NeverTogether runner u v blocks
second_unnamed runner u v blocks never k = and_none (held_after runner u (take k (noted_of blocks)) false) _ (never_held runner v (noted_of blocks) k (blocks_unnamed v blocks never))

-- a leaf among those that no note names
or_cases : (a b : Bool) → (a || b) ≡ true → a ≡ false → b ≡ true
or_cases true b e f = cc
or_cases false b e f = e

pub unnamed_among : (uid : ℕ) (uids : List ℕ) (blocks : List Block) → AllByRecursion (IsNeverNamed blocks) uids → list_any (nat_eq uid) uids ≡ true → IsNeverNamed blocks uid
unnamed_among uid [] blocks all e = cc
unnamed_among uid (x ∷ uids) blocks all e = by (nat_eq uid x) refl (λ later. unnamed_among uid uids blocks all.1 later)
  where
    by : (b : Bool) → nat_eq uid x ≡ b → (list_any (nat_eq uid) uids ≡ true → IsNeverNamed blocks uid) → IsNeverNamed blocks uid
    by true f later = subst (IsNeverNamed blocks) (sym (eqb-true uid x f)) all.0
    by false f later = later (or_cases (nat_eq uid x) (list_any (nat_eq uid) uids) e f)
