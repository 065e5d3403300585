-- Plan trees that differ by their keys alone are raised alike.
use Rattle.std.proofs.Common.{◌≡◌, ℕ, zero, suc, List, Option, Some, None, refl, sym, ap, subst, ◌∙◌}
use Rattle.spec_world.specs.declared.world.Row.{Row}
use Rattle.spec_plan.specs.Forests.{Forest}
use Rattle.spec_plan.specs.Conflicts.{Pair}
use Rattle.spec_plan.specs.Raising.{raised}
use Rattle.spec_plan.specs.Settling.{AreRaises, Settles, Stalls, first_conflict}
use Rattle.plan_search.proofs.Alike.{Marks, Same}
use Rattle.plan_search.proofs.AlikeRaised.{conflict_alike, conflict_none, raised_none, raised_same}

-- what there is, is one
pub some_same : {A : Type 0} (o : Option A) (a b : A) → o ≡ Some a → o ≡ Some b → a ≡ b
some_same o a b is again = cc (is, again)

module _ (rows : List Row) where
  -- the raises of a tree are made in the other one too
  raised_along : (n s r : ℕ) (f g after : Forest) → Same f g → Marks s r f g → AreRaises rows s n f after → (other : Forest) × AreRaises rows r n g other × Same after other × Marks s r after other
  raised_along zero s r f g after same marks raises =
      let end : g ≡ g = refl in
      (g, end, subst (λ (x : Forest). Same x g) raises same, subst (λ (x : Forest). Marks s r x g) raises marks)
  raised_along (suc n) s r f g after same marks (pair, next, conflict, moved, rest) =
      let c = conflict_alike rows f g pair same conflict in
      let m = raised_same s r f g next same marks moved in
      let found = raised_along n s r next m.0 after m.2 m.3 rest in
      (found.0, (c.0, m.0, c.1, m.1, found.1), found.2, found.3)

  -- no raise follows
  abbrev IsDone : ℕ → Forest → Type 0
  IsDone s f = (pair : Pair) (next : Forest) → first_conflict rows f ≡ Some pair → raised s f ≡ Some next → ⊥

  done_settled : (s : ℕ) (f : Forest) → first_conflict rows f ≡ None → IsDone s f
  done_settled s f none pair next some moved = cc (none, some)

  done_stalled : (s : ℕ) (f : Forest) → raised s f ≡ None → IsDone s f
  done_stalled s f none pair next some moved = cc (none, moved)

  record RaisedOnce (n m : ℕ) (after other : Forest) : Type 0 where
    many : n ≡ m
    tree : after ≡ other

  raised_once : (n m s : ℕ) (f after other : Forest) → AreRaises rows s n f after → AreRaises rows s m f other → IsDone s after → IsDone s other → RaisedOnce n m after other
  raised_once zero zero s f after other raises again done over = record { many = refl; tree = sym raises ∙ again }
  raised_once zero (suc m) s f after other raises (pair, next, conflict, moved, rest) done over =
      absurd (subst (IsDone s) (sym raises) done pair next conflict moved)
  raised_once (suc n) zero s f after other (pair, next, conflict, moved, rest) again done over =
      absurd (subst (IsDone s) (sym again) over pair next conflict moved)
  raised_once (suc n) (suc m) s f after other (pair, next, conflict, moved, rest) (twin, second, same_conflict, same_move, others) done over =
      let one : second ≡ next = some_same (raised s f) second next same_move moved in
      let once = raised_once n m s next after other rest (subst (λ (x : Forest). AreRaises rows s m x other) one others) done over in
      record { many = ap suc once.many; tree = once.tree }

  module _ (s r : ℕ) (f g : Forest) (same : Same f g) (marks : Marks s r f g) where
    pub record SettledAlike (n m : ℕ) (after other : Forest) : Type 0 where
      pub many : n ≡ m
      pub trees : Same after other

    pub settled_alike : (n m : ℕ) (after other : Forest) → Settles rows s n f after → Settles rows r m g other → SettledAlike n m after other
    settled_alike n m after other settles again =
        let found = raised_along n s r f g after same marks settles.raised in
        let once = raised_once n m r g found.0 other found.1 again.raised (done_settled r found.0 (conflict_none rows after found.0 found.2 settles.settled)) (done_settled r other again.settled) in
        record { many = once.many; trees = subst (Same after) once.tree found.2 }

    pub settled_not_stalled : (n : ℕ) (after other : Forest) (pair : Pair) → Settles rows s n f after → Stalls rows r g other pair → ⊥
    settled_not_stalled n after other pair settles stalls =
        let found = raised_along n s r f g after same marks settles.raised in
        let none = conflict_none rows after found.0 found.2 settles.settled in
        let once = raised_once n stalls.raises r g found.0 other found.1 stalls.raised (done_settled r found.0 none) (done_stalled r other stalls.last) in
        let is : first_conflict rows other ≡ None = subst (λ (x : Forest). first_conflict rows x ≡ None) once.tree none in
        cc (is, stalls.conflict)

    -- the same nodes conflict where no raise is left
    pub record StalledAlike (after other : Forest) (pair twin : Pair) : Type 0 where
      pub action : Marks pair.0 twin.0 after other
      pub condition : Marks pair.1 twin.1 after other

    pub stalled_alike : (after other : Forest) (pair twin : Pair) → Stalls rows s f after pair → Stalls rows r g other twin → StalledAlike after other pair twin
    stalled_alike after other pair twin stalls again =
        let found = raised_along stalls.raises s r f g after same marks stalls.raised in
        let none = raised_none s r after found.0 found.2 found.3 stalls.last in
        let once = raised_once stalls.raises again.raises r g found.0 other found.1 again.raised (done_stalled r found.0 none) (done_stalled r other again.last) in
        let c = conflict_alike rows after found.0 pair found.2 stalls.conflict in
        let one : c.0 ≡ twin = some_same (first_conflict rows other) c.0 twin (subst (λ (x : Forest). first_conflict rows x ≡ Some c.0) once.tree c.1) again.conflict in
        subst (λ (q : Pair). StalledAlike after other pair q) one (subst (λ (x : Forest). StalledAlike after x pair c.0) once.tree (record { action = c.2; condition = c.3 }))
