-- Where a part of an event keeps the rules, and the next part does, both together do.
use Rattle.std.proofs.Common.{◌≡◌, ℕ, ◌+◌, ◌<◌, ◌≤◌, Option, Some, None, Result, Ok, Err, is_some, option_map, slice_get, refl, ap, ◌∙◌, arith}
use Rattle.spec_run.specs.declared.fault.NodeFault.{NodeFault}
use Rattle.spec_run.specs.declared.leaf.Instance.{Instance}
use Rattle.spec_run.specs.Done.{Done, State, carried, follow}
use Rattle.base_tables.specs.Sound.{Leaves, Left, Within, held_at}

-- the instances of these nodes are held where they were
abbrev pub Same : ℕ → ℕ → State → State → Type 0
Same uid size s s1 = (p : ℕ) → uid ≤ p → p < uid + size → held_at s1 p ≡ held_at s p

-- an instance that is as it was is held as it was
pub held_same : (s s1 : State) (uid : ℕ) → slice_get s1.instances uid ≡ slice_get s.instances uid → held_at s1 uid ≡ held_at s uid
held_same s s1 uid same = ap (λ (o : Option Instance). option_map (λ (i : Instance). is_some i.since) o) same

pub within_same : (uid size : ℕ) (s : State) → Within uid size s s
within_same uid size s = record { below = λ p e. refl; above = λ p e. refl; slots = refl; facts = refl; instances = refl; moment = refl; dated = λ d. d }

-- two parts in order, each of which changes some of the nodes
pub within_both :
    {uid size uid1 size1 uid2 size2 : ℕ} {s s1 s2 : State} → Within uid1 size1 s s1 → Within uid2 size2 s1 s2 →
    uid ≤ uid1 → uid1 + size1 ≤ uid + size → uid ≤ uid2 → uid2 + size2 ≤ uid + size → Within uid size s s2
within_both w v a b c d = record {
  below = λ p e. v.below p (omega (arith, e, c)) ∙ w.below p (omega (arith, e, a));
  above = λ p e. v.above p (omega (arith, e, d)) ∙ w.above p (omega (arith, e, b));
  slots = v.slots ∙ w.slots;
  facts = v.facts ∙ w.facts;
  instances = v.instances ∙ w.instances;
  moment = v.moment ∙ w.moment;
  dated = λ d. v.dated (w.dated d);
}

-- a part that changes some of the nodes, seen among more nodes
pub within_more : {uid size uid1 size1 : ℕ} {s s1 : State} → Within uid1 size1 s s1 → uid ≤ uid1 → uid1 + size1 ≤ uid + size → Within uid size s s1
within_more {uid} {size} {s1 = s1} w low high = within_both w (within_same uid size s1) low high (omega arith) (omega arith)

module _ {A M N : Type 0} {rules : Option ℕ → M → State → Type 0} {fits : A → M → State → Type 0} {rules2 : Option ℕ → N → State → Type 0} {fits2 : A → N → State → Type 0} where
  -- what a part leaves of some of these nodes, as what it leaves of all
  pub left_into :
      (uid size uid1 size1 : ℕ) (s : State) (r : Result A NodeFault) (m : M) (n : N) (s1 : State) → uid ≤ uid1 → uid1 + size1 ≤ uid + size →
      Left rules fits uid1 size1 s r m s1 →
      ((fault : Option ℕ) → rules fault m s1 → Within uid1 size1 s s1 → rules2 fault n s1) →
      ((a : A) → fits a m s1 → rules None m s1 → Within uid1 size1 s s1 → fits2 a n s1) → Left rules2 fits2 uid size s r n s1
  left_into uid size uid1 size1 s (Ok a) m n s1 low high left keeps goes =
      record { sound = keeps None left.sound left.within; within = within_more left.within low high; ends = goes a left.ends left.sound left.within }
  left_into uid size uid1 size1 s (Err f) m n s1 low high left keeps goes =
      record { sound = keeps (Some f.uid) left.sound left.within; within = within_more left.within low high; ends = (omega (arith, low, left.ends.0), omega (arith, high, left.ends.1)) }

module _ {A M B N : Type 0} {rules : Option ℕ → M → State → Type 0} {fits : A → M → State → Type 0} {rules2 : Option ℕ → N → State → Type 0} {fits2 : B → N → State → Type 0} where
  -- a part and the next one; a fault of the first ends both
  carried_leaves :
      (r : Result A NodeFault) (d : Done A M) (place : M → N) (go : A → M → State → Done B N) (uid size uid1 size1 : ℕ) (s : State) →
      uid ≤ uid1 → uid1 + size1 ≤ uid + size →
      Left rules fits uid1 size1 s r d.memory d.state →
      ((a : A) → fits a d.memory d.state → rules None d.memory d.state → Within uid1 size1 s d.state → Leaves rules2 fits2 uid size d.state (go a d.memory d.state)) →
      ((f : ℕ) → uid1 ≤ f → f < uid1 + size1 → rules (Some f) d.memory d.state → Within uid1 size1 s d.state → rules2 (Some f) (place d.memory) d.state) →
      Leaves rules2 fits2 uid size s (carried r d place go)
  carried_leaves (Ok a) d place go uid size uid1 size1 s low high left goes stops =
      let next : Leaves rules2 fits2 uid size d.state (go a d.memory d.state) = goes a left.ends left.sound left.within in
      record { sound = next.sound; within = within_both left.within next.within low high (omega arith) (omega arith); ends = next.ends }
  carried_leaves (Err f) d place go uid size uid1 size1 s low high left goes stops =
      record { sound = stops f.uid left.ends.0 left.ends.1 left.sound left.within; within = within_more left.within low high; ends = (omega (arith, low, left.ends.0), omega (arith, high, left.ends.1)) }

  pub follow_leaves :
      (d : Done A M) (place : M → N) (go : A → M → State → Done B N) (uid size uid1 size1 : ℕ) (s : State) →
      uid ≤ uid1 → uid1 + size1 ≤ uid + size →
      Leaves rules fits uid1 size1 s d →
      ((a : A) → fits a d.memory d.state → rules None d.memory d.state → Within uid1 size1 s d.state → Leaves rules2 fits2 uid size d.state (go a d.memory d.state)) →
      ((f : ℕ) → uid1 ≤ f → f < uid1 + size1 → rules (Some f) d.memory d.state → Within uid1 size1 s d.state → rules2 (Some f) (place d.memory) d.state) →
      Leaves rules2 fits2 uid size s (follow d place go)
  follow_leaves d = carried_leaves d.answer d
