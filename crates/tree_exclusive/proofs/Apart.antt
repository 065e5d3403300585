-- Two leaves that are never both held, read from the notes of parts of an event.
use Rattle.std.proofs.Common.{◌≡◌, ℕ, List, [], ◌∷◌, ◌++◌, nat_eq, cond, Bool, true, false, ◌&&◌, refl, sym, ◌∙◌}
use Rattle.std.proofs.lemmas.Bool.{ne_eqb}
use Rattle.run_laws.proofs.ReadNotes.{read_all}
use Rattle.spec_run.specs.declared.note.Note.{Note}
use Rattle.spec_run.specs.declared.status.Status.{Status}
use Rattle.spec_run.specs.declared.status.Status.TheVariants as status
use Rattle.spec_run.specs.Visit.{change}
use Rattle.tree_exclusive.proofs.Held.{read_leaf}

-- in the events of this runner
module _ (runner : ℕ) where
  -- what is known of a leaf after a note
  abbrev pub after_note : ℕ → Note → Bool → Bool
  after_note uid n known = read_leaf runner uid runner n known

  -- .. and after some notes
  abbrev pub after : ℕ → List Note → Bool → Bool
  after uid notes known = read_all (after_note uid) notes known

  -- ---- Two leaves

  -- they are not both held: not at first, and not after any of these notes
  abbrev pub Apart : ℕ → ℕ → List Note → Bool → Bool → Type 0
  Apart p q [] a b = a ≡ true → b ≡ true → ⊥
  Apart p q (n ∷ ns) a b = (a ≡ true → b ≡ true → ⊥) × Apart p q ns (after_note p n a) (after_note q n b)

  pub apart_first : (p q : ℕ) (ns : List Note) (a b : Bool) → Apart p q ns a b → a ≡ true → b ≡ true → ⊥
  apart_first p q [] a b apart = apart
  apart_first p q (n ∷ ns) a b apart = apart.0

  pub apart_last : (p q : ℕ) (ns : List Note) (a b : Bool) → Apart p q ns a b → after p ns a ≡ true → after q ns b ≡ true → ⊥
  apart_last p q [] a b apart = apart
  apart_last p q (n ∷ ns) a b apart = apart_last p q ns (after_note p n a) (after_note q n b) apart.1

  pub apart_both : (p q : ℕ) (ns ms : List Note) (a b : Bool) → Apart p q ns a b → Apart p q ms (after p ns a) (after q ns b) → Apart p q (ns ++ ms) a b
  apart_both p q [] ms a b one other = other
  apart_both p q (n ∷ ns) ms a b one other = (one.0, apart_both p q ns ms (after_note p n a) (after_note q n b) one.1 other)

  -- ---- Notes that leave a leaf as it is, and notes that free leaves

  -- no note is of a call of this leaf
  abbrev pub Stays : ℕ → List Note → Type 0
  Stays p [] = Unit {0}
  Stays p (n ∷ ns) = ((known : Bool) → after_note p n known ≡ known) × Stays p ns

  -- no note leaves this leaf held that was not
  abbrev pub Frees : ℕ → List Note → Type 0
  Frees p [] = Unit {0}
  Frees p (n ∷ ns) = ((known : Bool) → after_note p n known ≡ true → known ≡ true) × Frees p ns

  pub stays_both : (p : ℕ) (ns ms : List Note) → Stays p ns → Stays p ms → Stays p (ns ++ ms)
  stays_both p [] ms one other = other
  stays_both p (n ∷ ns) ms one other = (one.0, stays_both p ns ms one.1 other)

  pub frees_both : (p : ℕ) (ns ms : List Note) → Frees p ns → Frees p ms → Frees p (ns ++ ms)
  frees_both p [] ms one other = other
  frees_both p (n ∷ ns) ms one other = (one.0, frees_both p ns ms one.1 other)

  pub stays_frees : (p : ℕ) (ns : List Note) → Stays p ns → Frees p ns
  stays_frees p [] stays = tt
  stays_frees p (n ∷ ns) stays = ((λ known e. sym (stays.0 known) ∙ e), stays_frees p ns stays.1)

  -- leaves that are only freed stay apart
  pub frees_apart : (p q : ℕ) (ns : List Note) (a b : Bool) → Frees p ns → Frees q ns → (a ≡ true → b ≡ true → ⊥) → Apart p q ns a b
  frees_apart p q [] a b one other free = free
  frees_apart p q (n ∷ ns) a b one other free = (free, frees_apart p q ns (after_note p n a) (after_note q n b) one.1 other.1 (λ e f. free (one.0 a e) (other.0 b f)))

  -- a leaf that is free and only freed is apart from all
  not_both : {b : Bool} → b ≡ true → b ≡ false → ⊥
  not_both one other = cc

  none_of : (b : Bool) → (b ≡ true → ⊥) → b ≡ false
  none_of true never = absurd (never refl)
  none_of false never = refl

  pub first_free_apart : (p q : ℕ) (ns : List Note) (a b : Bool) → Frees p ns → a ≡ false → Apart p q ns a b
  first_free_apart p q [] a b frees free = λ e f. not_both e free
  first_free_apart p q (n ∷ ns) a b frees free = ((λ e f. not_both e free), first_free_apart p q ns (after_note p n a) (after_note q n b) frees.1 (none_of (after_note p n a) (λ e. not_both (frees.0 a e) free)))

  pub second_free_apart : (p q : ℕ) (ns : List Note) (a b : Bool) → Frees q ns → b ≡ false → Apart p q ns a b
  second_free_apart p q [] a b frees free = λ e f. not_both f free
  second_free_apart p q (n ∷ ns) a b frees free = ((λ e f. not_both f free), second_free_apart p q ns (after_note p n a) (after_note q n b) frees.1 (none_of (after_note q n b) (λ e. not_both (frees.0 b e) free)))

  -- ---- Notes

  same_cond : (b known : Bool) → b ≡ false → (left : Bool) → cond b left known ≡ known
  same_cond true known e left = cc
  same_cond false known e left = refl

  and_false : (a b : Bool) → b ≡ false → (a && b) ≡ false
  and_false true b e = e
  and_false false b e = refl

  -- a call of another leaf
  pub other_call : (p uid : ℕ) (left known : Bool) → (p ≡ uid → ⊥) → cond (nat_eq runner runner && nat_eq p uid) left known ≡ known
  other_call p uid left known other = same_cond (nat_eq runner runner && nat_eq p uid) known (and_false (nat_eq runner runner) (nat_eq p uid) (ne_eqb p uid other)) left

  -- a call that does not leave its leaf held
  pub freeing : (b known : Bool) → cond b false known ≡ true → known ≡ true
  freeing true known e = cc
  freeing false known e = e

  -- a change of a status is no call
  pub change_stays : (p uid : ℕ) (old new : Status) → Stays p (change uid old new)
  change_stays p uid status.Idle status.Idle = tt
  change_stays p uid status.Running status.Running = tt
  change_stays p uid status.Success status.Success = tt
  change_stays p uid status.Failure status.Failure = tt
  change_stays p uid old new = ((λ known. refl), tt)
