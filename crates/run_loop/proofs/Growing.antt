-- Runners that are made one after another.
use Rattle.std.proofs.Common.{◌≡◌, ◌⊎◌, inl, inr, ℕ, zero, suc, ◌+◌, ◌<◌, List, [], ◌∷◌, ◌++◌, Some, length, get_or, slice_get, refl, sym, ap, subst, ◌∙◌, arith}
use Rattle.std.proofs.lemmas.Option.{slice_get-get_or}
use Rattle.spec_tree.specs.declared.term.Tree.{Tree}
use Rattle.spec_world.specs.declared.world.World.{World}
use Rattle.spec_run.specs.Drivers.{DriverState}
use Rattle.run_loop.specs.declared.runs.ReadyRunner.{ReadyRunner}
use Rattle.run_loop.specs.Opening.{AreOpening, IsOpening}

-- an entry of a list to which one was added is that one, or was there before
last_or_there : {A : Type 0} (xs : List A) (y : A) (k : ℕ) (z : A) → slice_get (xs ++ y ∷ []) k ≡ Some z → ((k ≡ length xs) × (y ≡ z)) ⊎ (slice_get xs k ≡ Some z)
last_or_there [] y zero z is = inl (refl, cc)
last_or_there [] y (suc k) z is = absurd cc
last_or_there (x ∷ xs) y zero z is = inr is
last_or_there (x ∷ xs) y (suc k) z is = elim (last_or_there xs y k z is) [
  | inl last ↦ inl (ap suc last.0, last.1)
  | inr there ↦ inr there
]

-- one more runner
pub opening_more : (tree : Tree) (world : World) (drivers : List DriverState) (runners after : List ReadyRunner) (before : ℕ) (r : ReadyRunner) →
    AreOpening tree world drivers runners → length runners ≡ before → IsOpening tree world drivers (before + 1) r → after ≡ runners ++ r ∷ [] → AreOpening tree world drivers after
opening_more tree world drivers runners after before r are many is more k x at =
    elim (last_or_there runners r k x (ap (λ (rs : List ReadyRunner). slice_get rs k) (sym more) ∙ at)) [
      | inl last ↦
          let number : before + 1 ≡ k + 1 = omega (arith, many, last.0) in
          subst (λ n. IsOpening tree world drivers n x) number (subst (IsOpening tree world drivers (before + 1)) last.1 is)
      | inr there ↦ are k x there
    ]

-- the entry at a place of a list, as an index gives it
pub indexed : {A : Type 0} (xs ys : List A) (k : ℕ) (x : A) → ys ≡ xs → k < length xs → x ≡ get_or ys k x → slice_get xs k ≡ Some x
indexed xs ys k x same low is = slice_get-get_or xs k x low ∙ ap Some (ap (λ (zs : List _). get_or zs k x) (sym same) ∙ sym is)

-- the first runner alone
pub opening_alone : (tree : Tree) (world : World) (drivers : List DriverState) (before after : List ReadyRunner) (r : ReadyRunner) →
    before ≡ [] → IsOpening tree world drivers 1 r → after ≡ before ++ r ∷ [] → AreOpening tree world drivers after
opening_alone tree world drivers before after r none is more =
    opening_more tree world drivers [] after 0 r (λ k x at. absurd (cc)) refl is (more ∙ ap (λ (rs : List ReadyRunner). rs ++ r ∷ []) none)
