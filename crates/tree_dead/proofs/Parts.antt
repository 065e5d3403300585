-- Parts of an event that concern no dead node.
use Rattle.std.proofs.Common.{◌≡◌, ℕ, List, [], ◌∷◌, ◌++◌, Bool, true, false, IfSome, slice_get, Result, Ok, Err, refl, ◌∙◌}
use Rattle.spec_run.specs.declared.fault.NodeFault.{NodeFault}
use Rattle.spec_run.specs.declared.note.Note.{Note}
use Rattle.spec_run.specs.Done.{Call, Done, State, following, carried, done, follow}
use Rattle.tree_dead.specs.Runs.{named_by}

module _ (is_dead : ℕ → Bool) where
  -- a node is not dead
  abbrev pub Lives : ℕ → Type 0
  Lives uid = is_dead uid ≡ false

  -- no note names a dead node
  abbrev pub AllLive : List Note → Type 0
  AllLive [] = Unit {0}
  AllLive (note ∷ notes) = IfSome (named_by note) Lives × AllLive notes

  pub live_both : (ns ms : List Note) → AllLive ns → AllLive ms → AllLive (ns ++ ms)
  live_both [] ms first second = second
  live_both (n ∷ ns) ms first second = (first.0, live_both ns ms first.1 second)

  -- the instances of dead nodes are as they were
  abbrev pub Spares : State → State → Type 0
  Spares s s1 = (p : ℕ) → is_dead p ≡ true → slice_get s1.instances p ≡ slice_get s.instances p

  -- an answer fits its memory, and a fault is of a node that is not dead
  abbrev pub EndsLive : {A M : Type 0} → (A → M → Type 0) → Result A NodeFault → M → Type 0
  EndsLive fits (Ok a) m = fits a m
  EndsLive fits (Err f) m = Lives f.uid

  -- what a part of an event leaves that began in a state
  pub record Left {A M : Type 0} (fits : A → M → Type 0) (s : State) (answer : Result A NodeFault) (m : M) (s1 : State) (notes : List Note) : Type 0 where
    pub ends : EndsLive fits answer m
    pub live : AllLive notes
    pub spares : Spares s s1

  -- by all that it leaves
  abbrev pub Leaves : {A M : Type 0} → (A → M → Type 0) → State → Done A M → Type 0
  Leaves fits s d = Left fits s d.answer d.memory d.state d.notes

  pub nothing_left : {A M : Type 0} (fits : A → M → Type 0) (a : A) (m : M) (s : State) → fits a m → Leaves fits s (done a m s)
  nothing_left fits a m s fit = record { ends = fit; live = tt; spares = λ p e. refl }

  pub after_left : {A M : Type 0} (fits : A → M → Type 0) (notes : List Note) (calls : List Call) (s : State) (d : Done A M) → AllLive notes → Leaves fits s d → Leaves fits s (following notes calls d)
  after_left fits notes calls s d live left = record { ends = left.ends; live = live_both notes d.notes live left.live; spares = left.spares }

  -- what is left, with another memory
  pub left_into :
      {A M N : Type 0} (fits : A → M → Type 0) (fits2 : A → N → Type 0) (s : State) (r : Result A NodeFault) (m : M) (n : N) (s1 : State) (notes : List Note) →
      Left fits s r m s1 notes → ((a : A) → fits a m → fits2 a n) → Left fits2 s r n s1 notes
  left_into fits fits2 s (Ok a) m n s1 notes left goes = record { ends = goes a left.ends; live = left.live; spares = left.spares }
  left_into fits fits2 s (Err f) m n s1 notes left goes = record { ends = left.ends; live = left.live; spares = left.spares }

  module _ {A M B N : Type 0} (fits : A → M → Type 0) (fits2 : B → N → Type 0) where
    -- a part and the next one
    carried_left :
        (r : Result A NodeFault) (d : Done A M) (place : M → N) (go : A → M → State → Done B N) (s : State) →
        Left fits s r d.memory d.state d.notes → ((a : A) → fits a d.memory → Leaves fits2 d.state (go a d.memory d.state)) → Leaves fits2 s (carried r d place go)
    carried_left (Ok a) d place go s left goes =
        let next : Leaves fits2 d.state (go a d.memory d.state) = goes a left.ends in
        record { ends = next.ends; live = live_both d.notes (go a d.memory d.state).notes left.live next.live; spares = λ p e. next.spares p e ∙ left.spares p e }
    carried_left (Err f) d place go s left goes = record { ends = left.ends; live = left.live; spares = left.spares }

    pub follow_left : (d : Done A M) (place : M → N) (go : A → M → State → Done B N) (s : State) → Leaves fits s d → ((a : A) → fits a d.memory → Leaves fits2 d.state (go a d.memory d.state)) → Leaves fits2 s (follow d place go)
    follow_left d = carried_left d.answer d
