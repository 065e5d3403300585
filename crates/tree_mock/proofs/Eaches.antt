-- What some members say, one after another.
use Rattle.std.proofs.Common.{◌≡◌, ℕ, List, [], ◌∷◌, ◌++◌, Result, Ok, Err, refl, ap, sym, ◌∙◌, append_assoc, append-nil}
use Rattle.serde_json.specs.Data.{Data, Members, member}
use Rattle.spec_tree_file.specs.ReadSteps.{go_on}
use Rattle.spec_tree_file.specs.declared.mock_fault.MockFault.{MockFault}
use Rattle.spec_tree_file.specs.RuleFiles.{each}

-- what is read, after what was read before it
abbrev pub before : {A : Type 0} → List A → Result (List A) MockFault → Result (List A) MockFault
before xs rest = go_on (λ others. Ok (xs ++ others)) rest

pub before-nothing : {A : Type 0} (r : Result (List A) MockFault) → before [] r ≡ r
before-nothing (Ok xs) = refl
before-nothing (Err fault) = refl

pub before-end : {A : Type 0} (xs : List A) → before xs (Ok []) ≡ Ok xs
before-end xs = ap (λ ys. Ok ys) (append-nil xs)

first_of_more : {A : Type 0} (xs : List A) (x : A) (r : Result (List A) MockFault) → before xs (go_on (λ others. Ok (x ∷ others)) r) ≡ before (xs ++ x ∷ []) r
first_of_more xs x (Ok others) = ap (λ ys. Ok ys) (sym (append_assoc xs (x ∷ []) others))
first_of_more xs x (Err fault) = refl

module _ {A : Type 0} (one : List ℕ → Data → Result A MockFault) (xs : List A) (name : List ℕ) (d : Data) (members : Members) where
  pub before-more : (x : A) → one name d ≡ Ok x → before xs (each one (member name d members)) ≡ before (xs ++ x ∷ []) (each one members)
  before-more x e = ap (λ r. before xs (go_on (λ first. go_on (λ others. Ok (first ∷ others)) (each one members)) r)) e ∙ first_of_more xs x (each one members)

  pub before-fault : (fault : MockFault) → one name d ≡ Err fault → before xs (each one (member name d members)) ≡ Err fault
  before-fault fault e = ap (λ r. before xs (go_on (λ first. go_on (λ others. Ok (first ∷ others)) (each one members)) r)) e
