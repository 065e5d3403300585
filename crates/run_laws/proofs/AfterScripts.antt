-- What a node does after scripts of it have run.
use Rattle.std.proofs.Common.{◌≡◌, ℕ, ◌+◌, ◌<◌, ◌≤◌, List, Option, Some, None, slice_get, ap, arith}
use Rattle.spec_run.specs.declared.leaf.Instance.{Instance}
use Rattle.spec_run.specs.declared.memory.Memo.{Memo}
use Rattle.spec_run.specs.declared.memory.Memory.{Memory}
use Rattle.spec_run.specs.declared.status.Status.{Status}
use Rattle.spec_tree.specs.declared.term.Term.{Term-F}
use Rattle.spec_run.specs.Done.{Done, State, follow}
use Rattle.spec_run.specs.Sites.{View}
use Rattle.base_tables.specs.Sound.{Leaves, held_at}
use Rattle.run_laws.proofs.Parts.{follow_leaves, held_same}
use Rattle.run_laws.proofs.Children.{Family, SoundAll, all_move}
use Rattle.run_laws.proofs.Beginnings.{site_here}
use Rattle.run_laws.proofs.Scripts.{Runs}
use Rattle.run_laws.proofs.Whole.{Fields, fields_move, size_here}

-- the instances and the moment are as they were
pub record Still (s s1 : State) : Type 0 where
  pub instances : s1.instances ≡ s.instances
  pub moment : s1.moment ≡ s.moment

module _ {s s1 : State} (still : Still s s1) where
  still_there : (p : ℕ) → slice_get s1.instances p ≡ slice_get s.instances p
  still_there p = ap (λ (is : List Instance). slice_get is p) still.instances

  pub still_held : (uid : ℕ) → held_at s1 uid ≡ held_at s uid
  still_held uid = held_same s s1 uid (still_there uid)

  module _ (F : Family) (node : Term-F F.Child) (view : View) (uid : ℕ) where
    pub children_still : (fault : Option ℕ) (ms : List Memory) → SoundAll F view.rows node.children None (uid + 1) ms s → SoundAll F view.rows node.children fault (uid + 1) ms s1
    children_still fault ms all = all_move F view.rows node.children fault (uid + 1) ms s s1 all (λ p a b. still_held p) (omega (arith, still.moment))

    pub fields_still : (fault : Option ℕ) (st : Status) (memo : Memo) (ms : List Memory) → Fields F node view uid None st memo ms s → Fields F node view uid fault st memo ms s1
    fields_still fault st memo ms fields = fields_move F node view uid fault st memo ms s s1 fields (λ p a b. still_held p) (omega (arith, still.moment))

-- scripts of a node, then what the node does; a fault leaves what was there before
pub after_scripts : {A B M : Type 0} (F : Family) (node : Term-F F.Child) (view : View) (uid : ℕ) (rules : Option ℕ → M → State → Type 0) (fits : B → M → State → Type 0) (script_fits : A → Type 0)
    (m : M) (s : State) (d : Done A (Unit {0})) (go : A → State → Done B M) → Runs (site_here F node view uid) script_fits s d →
    ((a : A) → script_fits a → Still s d.state → Leaves rules fits uid (size_here F node view uid) d.state (go a d.state)) →
    ((f : ℕ) → uid ≤ f → f < uid + 1 → Still s d.state → rules (Some f) m d.state) →
    Leaves rules fits uid (size_here F node view uid) s (follow d (λ _. m) (λ a _ s1. go a s1))
after_scripts F node view uid rules fits script_fits m s d go runs goes stops =
    follow_leaves {rules = λ f _ s1. s1.instances ≡ s.instances} {fits = λ a _ s1. script_fits a} {rules2 = rules} {fits2 = fits}
    d (λ _. m) (λ a _ s1. go a s1) uid (size_here F node view uid) uid 1 s (omega arith) (omega arith) runs
    (λ a fit same w. goes a fit (record { instances = same; moment = w.moment }))
    (λ f low high same w. stops f low high (record { instances = same; moment = w.moment }))
