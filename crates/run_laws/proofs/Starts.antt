-- The memo with which a node starts is one with which its rule can begin.
use Rattle.std.proofs.Common.{◌≡◌, ℕ, suc, ◌+◌, ◌≤◌, List, [], ◌∷◌, length, Bool, true, false, ◌&&◌, cond, count_by, pos, negsuc, nat_abs, int_le, Option, Some, None, IfOk, IfSome, refl, sym, ap, ◌∙◌, arith, ⊎_elim, leb, ltb, ◌-◌}
use Rattle.std.proofs.lemmas.Bool.{and_parts, and_right, cond_both, leb-true, le-ltb, lt-leb, or_cases, or_from}
use Rattle.std.proofs.lemmas.List.Sums.{sum_by-cons}
use Rattle.std.specs.Prelude.{ℤ, codes}
use Rattle.std.specs.Ordering.{int_eq}
use Rattle.spec_script.specs.declared.value.Value.{Value}
use Rattle.spec_script.specs.declared.value.Value.TheVariants.{Int, Text}
use Rattle.spec_tree.specs.declared.built_ins.Range.{Range}
use Rattle.spec_tree.specs.declared.built_ins.Range.TheVariants as range
use Rattle.spec_run.specs.declared.fault.NumericPort.{NumericPort}
use Rattle.spec_run.specs.declared.memory.Counts.{Counts}
use Rattle.spec_run.specs.declared.memory.Memo.{Memo}
use Rattle.spec_run.specs.declared.memory.Memo.TheVariants.{Counts as Counted, Turns as Turned, Since as Begun, Recoveries as Recovering, Pace as Paced}
use Rattle.spec_run.specs.declared.status.Status.{Status}
use Rattle.spec_run.specs.declared.status.Status.TheVariants as status
use Rattle.spec_tree.specs.declared.term.Port.{Port}
use Rattle.spec_tree.specs.declared.term.PortValue.{PortValue}
use Rattle.spec_tree.specs.declared.term.PortValue.TheVariants.{Lit, Key}
use Rattle.spec_tree.specs.Boards.{port_of}
use Rattle.spec_tree.specs.BuiltIns.{fits}
use Rattle.spec_run.specs.Done.{State}
use Rattle.spec_run.specs.Ports.{given_at, given_by, number_at, number_by, pace_start, parallel_start, rate_by, rate_given, recoveries_start, since_start, threshold, threshold_of, threshold_within, turns_start, value_by, within}
use Rattle.base_tables.specs.Shapes.{AllIdle, IsBegun, IsCounted, IsGiven, IsGivenAt, IsPaced, IsRate, IsRecovering, IsTurned, TurnsGoOn, is_failure, is_success}
use Rattle.spec_run.specs.Sites.{Site}

-- ---- Numbers of ports

-- a number within a range has a property that each number of the range has
in_range : (r : Range) (k : ℤ) (P : ℤ → Type 0) → (fits r (Int k) ≡ true → P k) → IfSome (within r (Some k)) P
in_range r k P holds = cond_both (fits r (Int k)) (Some k) None (λ o. IfSome o P) holds (λ _. tt)

-- what is read from a port within a range
abbrev Read : Range → Option PortValue → ℤ → Type 0
Read r given k = IsGiven r given k × (fits r (Int k) ≡ true)

key_read : (r : Range) (v : Option Value) → IfSome (within r (number_by v)) (λ k. (fits r (Int k) ≡ true) × (fits r (Int k) ≡ true))
key_read r None = tt
key_read r (Some (Text t)) = tt
key_read r (Some (Int k)) = in_range r k (λ k. (fits r (Int k) ≡ true) × (fits r (Int k) ≡ true)) (λ e. (e, e))

port_read : (r : Range) (site : Site) (s : State) (given : Option PortValue) → IfSome (within r (number_by (value_by site s given))) (λ k. Read r given k)
port_read r site s None = tt
port_read r site s (Some (Lit (Text t))) = tt
port_read r site s (Some (Lit (Int k))) = in_range r k (λ k0. Read r (Some (Lit (Int k))) k0) (λ e. (refl, e))
port_read r site s (Some (Key key)) = key_read r (value_by site s (Some (Key key)))

number_read : (r : Range) (site : Site) (s : State) (name : List ℕ) → IfSome (within r (number_at site s name)) (λ k. Read r (given_at site name) k)
number_read r site s name = port_read r site s (given_at site name)

-- ---- Retry and Repeat

turns_go_on : (k : ℤ) → fits range.Turns (Int k) ≡ true → TurnsGoOn (record { done = 0; limit = k }) k
turns_go_on (negsuc k) e = refl
turns_go_on (pos k) e = ⊎_elim
    (λ same. absurd (not_same same))
    (λ between. leb-true 1 k (and_parts (int_le (pos 1) (pos k)) (int_le (pos k) (pos 1000)) between).0)
    (or_cases (int_eq (pos k) (negsuc 0)) (int_le (pos 1) (pos k) && int_le (pos k) (pos 1000)) e)
  where
    not_same : int_eq (pos k) (negsuc 0) ≡ true → ⊥
    not_same same = cc

turns_by : (port : NumericPort) (ports : List Port) (name : List ℕ) (o : Option ℤ) (P : Memo → Type 0) → ((k : ℤ) → IsTurned (record { done = 0; limit = k }) ports name → P (Turned (record { done = 0; limit = k }))) →
    IfSome o (λ k. IsGivenAt range.Turns ports name k × (fits range.Turns (Int k) ≡ true)) → IfOk (turns_start port o) P
turns_by port ports name None P holds given = tt
turns_by port ports name (Some k) P holds given = holds k (record { limit = given.0; goes_on = turns_go_on k given.1 })

pub turns_begin : (port : NumericPort) (site : Site) (s : State) (name : List ℕ) (P : Memo → Type 0) → ((k : ℤ) → IsTurned (record { done = 0; limit = k }) site.node.ports name → P (Turned (record { done = 0; limit = k }))) →
    IfOk (turns_start port (within range.Turns (number_at site s name))) P
turns_begin port site s name P holds = turns_by port site.node.ports name (within range.Turns (number_at site s name)) P holds (number_read range.Turns site s name)

-- ---- Timeout and Delay

length_given : (now : ℕ) (ports : List Port) (name : List ℕ) (k : ℤ) → IsGivenAt range.Duration ports name k → fits range.Duration (Int k) ≡ true → IsBegun (record { first = now; length = nat_abs k }) now ports name
length_given now ports name (pos k) given e = record { first = omega arith; length = given }
length_given now ports name (negsuc k) given e = cc

since_by : (port : NumericPort) (now : ℕ) (ports : List Port) (name : List ℕ) (o : Option ℤ) (P : Memo → Type 0) → ((k : ℕ) → IsBegun (record { first = now; length = k }) now ports name → P (Begun (record { first = now; length = k }))) →
    IfSome o (λ k. IsGivenAt range.Duration ports name k × (fits range.Duration (Int k) ≡ true)) → IfOk (since_start port now o) P
since_by port now ports name None P holds given = tt
since_by port now ports name (Some k) P holds given = holds (nat_abs k) (length_given now ports name k given.0 given.1)

pub since_begins : (port : NumericPort) (site : Site) (s : State) (name : List ℕ) (P : Memo → Type 0) → ((k : ℕ) → IsBegun (record { first = s.moment; length = k }) s.moment site.node.ports name → P (Begun (record { first = s.moment; length = k }))) →
    IfOk (since_start port s.moment (within range.Duration (number_at site s name))) P
since_begins port site s name P holds = since_by port s.moment site.node.ports name (within range.Duration (number_at site s name)) P holds (number_read range.Duration site s name)

-- ---- RecoveryNode

recoveries_given : (ports : List Port) (k : ℤ) → IsGivenAt range.Recoveries ports (codes "number_of_retries") k → fits range.Recoveries (Int k) ≡ true → IsRecovering (record { done = 0; limit = nat_abs k; recovers = false }) ports
recoveries_given ports (pos k) given e = record { limit = given; within = omega arith; goes_on = λ f. cc }
recoveries_given ports (negsuc k) given e = cc

recoveries_by : (ports : List Port) (o : Option ℤ) (P : Memo → Type 0) → ((k : ℕ) → IsRecovering (record { done = 0; limit = k; recovers = false }) ports → P (Recovering (record { done = 0; limit = k; recovers = false }))) →
    IfSome o (λ k. IsGivenAt range.Recoveries ports (codes "number_of_retries") k × (fits range.Recoveries (Int k) ≡ true)) → IfOk (recoveries_start o) P
recoveries_by ports None P holds given = tt
recoveries_by ports (Some k) P holds given = holds (nat_abs k) (recoveries_given ports k given.0 given.1)

pub recoveries_begin : (site : Site) (s : State) (P : Memo → Type 0) → ((k : ℕ) → IsRecovering (record { done = 0; limit = k; recovers = false }) site.node.ports → P (Recovering (record { done = 0; limit = k; recovers = false }))) →
    IfOk (recoveries_start (within range.Recoveries (number_at site s (codes "number_of_retries")))) P
recoveries_begin site s P holds = recoveries_by site.node.ports (within range.Recoveries (number_at site s (codes "number_of_retries"))) P holds (number_read range.Recoveries site s (codes "number_of_retries"))

-- ---- RateController

entry_rate : (key : List ℕ) (v : Option Value) (rate : ℕ) → rate_given (Key key) v ≡ Some rate → IsRate (Some (Key key)) rate
entry_rate key None rate e = cc
entry_rate key (Some (Text t)) rate e = cc
entry_rate key (Some (Int k)) rate e = (k, e)

rate_read : (site : Site) (s : State) (given : Option PortValue) (rate : ℕ) → rate_by site s given ≡ Some rate → IsRate given rate
rate_read site s None rate e = cc
rate_read site s (Some (Lit value)) rate e = e
rate_read site s (Some (Key key)) rate e = entry_rate key (value_by site s (Some (Key key))) rate e

pace_by : (now : ℕ) (ports : List Port) (o : Option ℕ) (P : Memo → Type 0) → ((rate : ℕ) → IsPaced (record { first = now; rate = rate; due = true }) now ports → P (Paced (record { first = now; rate = rate; due = true }))) →
    ((rate : ℕ) → o ≡ Some rate → IsRate (given_by (port_of ports (codes "hz"))) rate) → IfOk (pace_start now o) P
pace_by now ports None P holds given = tt
pace_by now ports (Some rate) P holds given = holds rate (record { first = omega arith; rate = given rate refl })

pub pace_begins : (site : Site) (s : State) (P : Memo → Type 0) → ((rate : ℕ) → IsPaced (record { first = s.moment; rate = rate; due = true }) s.moment site.node.ports → P (Paced (record { first = s.moment; rate = rate; due = true }))) →
    IfOk (pace_start s.moment (rate_by site s (given_at site (codes "hz")))) P
pace_begins site s P holds = pace_by s.moment site.node.ports (rate_by site s (given_at site (codes "hz"))) P holds (rate_read site s (given_at site (codes "hz")))

-- ---- Parallel

abbrev InRange : ℕ → ℕ → Type 0
InRange n k = (1 ≤ k) × (k ≤ n)

within_range : (n : ℕ) (c : ℤ) → (int_le (pos 1) c && int_le c (pos n)) ≡ true → InRange n (nat_abs c)
within_range n (pos c) e = let both : (int_le (pos 1) (pos c) ≡ true) × (int_le (pos c) (pos n) ≡ true) = and_parts (int_le (pos 1) (pos c)) (int_le (pos c) (pos n)) e in (leb-true 1 c both.0, leb-true c n both.1)
within_range n (negsuc c) e = cc

threshold_in : (n : ℕ) (c : ℤ) → IfSome (threshold_within n c) (λ k. InRange n k)
threshold_in n c = cond_both (int_le (pos 1) c && int_le c (pos n)) (Some (nat_abs c)) None (λ o. IfSome o (λ k. InRange n k)) (λ e. within_range n c e) (λ _. tt)

threshold_read : (n : ℕ) (o : Option ℤ) → IfSome (threshold n o) (λ k. InRange n k)
threshold_read n None = tt
threshold_read n (Some c) = threshold_in n (threshold_of n c)

-- none of the children is counted where all are IDLE
idle_counts : (p : Status → Bool) → p status.Idle ≡ false → (ss : List Status) → AllIdle ss → count_by p ss ≡ 0
idle_counts p none [] idle = refl
idle_counts p none (st ∷ ss) idle =
    let one : Status → ℕ = λ x. cond (p x) 1 0 in
    let first : st ≡ status.Idle = idle 0 (omega arith) in
    sum_by-cons one st ss ∙ ap (λ b. cond b 1 0 + count_by p ss) (ap p first ∙ none) ∙ omega (arith, idle_counts p none ss (λ k from. idle (suc k) (omega arith)))

opening_counts : (need most : ℕ) (skips : Bool) (ss : List Status) → InRange (length ss) need → InRange (length ss) most → AllIdle ss →
    IsCounted (record { need = need; most = most; skips = skips; successes = 0; failures = 0; skipped = 0 }) ss
opening_counts need most skips ss is_need is_most idle = record {
  need = is_need;
  most = is_most;
  successes = sym (idle_counts is_success refl ss idle);
  failures = sym (idle_counts is_failure refl ss idle);
  skipped = refl;
  goes_on = (
    or_from (leb need 0) (skips && leb need (0 + 0)) (lt-leb need 0 (omega (arith, is_need.0))) (and_right skips (leb need (0 + 0)) (lt-leb need (0 + 0) (omega (arith, is_need.0)))),
    or_from (ltb (length ss - 0) need) (leb most 0) (le-ltb (length ss - 0) need (omega (arith, is_need.1))) (lt-leb most 0 (omega (arith, is_most.0))),
  );
}

threshold_by : (n : ℕ) (need most : Option ℕ) (skips : Bool) (ss : List Status) (P : Memo → Type 0) → n ≡ length ss → AllIdle ss → ((c : Counts) → IsCounted c ss → P (Counted c)) →
    IfSome need (λ k. InRange n k) → IfSome most (λ k. InRange n k) → IfOk (parallel_start need skips most) P
threshold_by n None most skips ss P all idle holds is_need is_most = tt
threshold_by n (Some need) None skips ss P all idle holds is_need is_most = tt
threshold_by n (Some need) (Some most) skips ss P all idle holds is_need is_most =
    holds (record { need = need; most = most; skips = skips; successes = 0; failures = 0; skipped = 0 }) (opening_counts need most skips ss (is_need.0, omega (arith, is_need.1, all)) (is_most.0, omega (arith, is_most.1, all)) idle)

pub parallel_begins : (n : ℕ) (need most : Option ℤ) (skips : Bool) (ss : List Status) (P : Memo → Type 0) → n ≡ length ss → AllIdle ss → ((c : Counts) → IsCounted c ss → P (Counted c)) →
    IfOk (parallel_start (threshold n need) skips (threshold n most)) P
parallel_begins n need most skips ss P all idle holds = threshold_by n (threshold n need) (threshold n most) skips ss P all idle holds (threshold_read n need) (threshold_read n most)
