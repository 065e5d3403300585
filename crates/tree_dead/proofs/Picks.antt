-- What is picked for a visit, and the memos with which rules begin.
use Rattle.std.proofs.Common.{◌≡◌, ℕ, ℤ, pos, negsuc, ◌<◌, List, length, Bool, true, false, ◌&&◌, ◌||◌, not, nat_abs, nat_eq, int_le, Option, Some, None, IfSome, IfOk, refl, sym, ap, subst, arith, ⊎_elim}
use Rattle.std.specs.Prelude.{codes}
use Rattle.std.specs.Ordering.{int_eq}
use Rattle.std.specs.Str.{bytes_eq}
use Rattle.std.proofs.lemmas.Bool.{cond_both, or_cases}
use Rattle.std.proofs.lemmas.Bool.Decides.{Decides-int_eq}
use Rattle.std.proofs.lemmas.Slice.Eq.{bytes_eq-Decides}
use Rattle.spec_script.specs.declared.value.Value.TheVariants.{Int, Text}
use Rattle.spec_tree.specs.declared.built_ins.Range.TheVariants as range
use Rattle.spec_run.specs.declared.fault.NumericPort.{NumericPort}
use Rattle.spec_run.specs.declared.fault.NumericPort.TheVariants as port
use Rattle.spec_run.specs.declared.memory.Memo.{Memo}
use Rattle.spec_run.specs.declared.memory.Memo.TheVariants.{Nothing, Index, Turns as Turned, Since as Begun, Finished, Recoveries as Recovered, Rotation as Rotating, Pace as Paced}
use Rattle.spec_run.specs.declared.status.Answer.{Answer}
use Rattle.spec_run.specs.declared.status.Answer.TheVariants as answer
use Rattle.spec_run.specs.declared.status.Status.{Status}
use Rattle.spec_run.specs.declared.status.Status.TheVariants as status
use Rattle.spec_tree.specs.declared.term.Kind.{Kind}
use Rattle.spec_tree.specs.declared.term.Kind.TheVariants.{Sequence, SequenceWithMemory, Fallback, Parallel, Switch, RecoveryNode, RoundRobin, Retry, Repeat, Timeout, Delay, RunOnce, RateController, AlwaysSuccess, AlwaysFailure, ScriptNode, ScriptCondition, Leaf}
use Rattle.spec_tree.specs.declared.term.Port.{Port}
use Rattle.spec_tree.specs.declared.term.PortValue.{PortValue}
use Rattle.spec_tree.specs.declared.term.PortValue.TheVariants.{Lit, Key}
use Rattle.spec_tree.specs.BuiltIns.{fits}
use Rattle.spec_run.specs.Done.{State}
use Rattle.spec_run.specs.Ports.{given_at, new_memo, next_pace, number_at, number_by, pace_start, parallel_start, picked, rate_by, recoveries_start, run_once_picked, since_start, then_skip, turns_start, value_by, within}
use Rattle.spec_run.specs.Rules.OneVisit.{mark_of}
use Rattle.spec_run.specs.Rules.RoundRobins.{rotation_at, rotation_of}
use Rattle.spec_run.specs.Rules.Sequences.{index_of}
use Rattle.spec_run.specs.Sites.{Site}
use Rattle.spec_run.specs.Visit.{cleared, remembers, starts}
use Rattle.spec_dead.specs.declared.answers.Answers.{Answers}
use Rattle.spec_dead.specs.Reached.{all_end}
use Rattle.spec_dead.specs.Rules.{never_skips}
use Rattle.tree_dead.proofs.Fits.{Begins, CameRound, CameTo, FewCases, IsLength, IsLimit, RestsWith, SkipsAll, SkipsLast, WentRound}
use Rattle.tree_dead.proofs.KindRules.{PickFits}
use Rattle.tree_dead.proofs.Selecting.{selected_within, selects}

-- the text `true` is not the text `false`
true_only : (t : List ℕ) → bytes_eq t (codes "true") ≡ true → not (bytes_eq t (codes "false")) ≡ true
true_only t is = ap (λ (x : List ℕ). not (bytes_eq x (codes "false"))) ((bytes_eq-Decides t (codes "true")).0 is)

module _ (site : Site) (s : State) (children : List Answers) where
  -- ---- Picks

  -- a RunOnce that may not skip does not skip
  skips_given : (o : Option PortValue) → then_skip site s o ≡ Some true → not (never_skips o) ≡ true
  skips_given None e = cc
  skips_given (Some (Key key)) e = refl
  skips_given (Some (Lit (Int n))) e = cc
  skips_given (Some (Lit (Text t))) e = true_only t (let is : bytes_eq t (codes "true") ≡ true = cc in is)

  run_once_picks : (mark : Option Answer) (o : Option Bool) (port : Option PortValue) → then_skip site s port ≡ o → IfOk (run_once_picked mark o) (λ k. nat_eq k 0 ≡ false → IfSome mark (λ a. not (never_skips port) ≡ true))
  run_once_picks None o port is = λ e. tt
  run_once_picks (Some a) None port is = tt
  run_once_picks (Some a) (Some true) port is = λ e. skips_given port is
  run_once_picks (Some a) (Some false) port is = λ e. cc

  pub picks : (kind : Kind) (memo : Memo) → FewCases kind (length children) → IfOk (picked kind site memo s) (λ k. PickFits kind site.node.ports children memo k)
  picks (Switch cases) memo few = (let below = selected_within site s cases few.0 in omega (arith, below, few.1), selects site s cases few.0)
  picks RunOnce memo few = run_once_picks (mark_of memo) (then_skip site s (given_at site (codes "then_skip"))) (given_at site (codes "then_skip")) refl
  picks _ memo few = tt

  -- ---- Starts

  negative_only : (k : ℕ) → int_eq (negsuc k) (negsuc 0) || int_le (pos 1) (negsuc k) && int_le (negsuc k) (pos 1000) ≡ true → int_eq (negsuc k) (negsuc 0) ≡ true
  negative_only k e = ⊎_elim (λ same. same) (λ between. cc) (or_cases (int_eq (negsuc k) (negsuc 0)) (int_le (pos 1) (negsuc k) && int_le (negsuc k) (pos 1000)) e)

  -- a limit that a port is given
  limit_is : (o : Option PortValue) (n : ℤ) → number_by (value_by site s o) ≡ Some n → fits range.Turns (Int n) ≡ true → IsLimit o n
  limit_is None n e fit = cc
  limit_is (Some (Key key)) (pos n) e fit = tt
  limit_is (Some (Key key)) (negsuc n) e fit = tt
  limit_is (Some (Lit (Text t))) n e fit = cc
  limit_is (Some (Lit (Int m))) (pos n) e fit = let is : m ≡ pos n = cc in subst (λ (z : ℤ). int_eq z (negsuc 0) ≡ false) (sym is) refl
  limit_is (Some (Lit (Int m))) (negsuc n) e fit = let is : m ≡ negsuc n = cc in subst (λ (z : ℤ). int_eq z (negsuc 0) ≡ true) (sym is) (negative_only n fit)

  turns_start_fits : (id : NumericPort) (o : Option PortValue) (number : Option ℤ) (P : Memo → Type 0) → number_by (value_by site s o) ≡ number → ((n : ℤ) → IsLimit o n → P (Turned (record { done = 0; limit = n }))) → IfOk (turns_start id (within range.Turns number)) P
  turns_start_fits id o None P is goes = tt
  turns_start_fits id o (Some n) P is goes =
      cond_both (fits range.Turns (Int n)) (Some n) None (λ (x : Option ℤ). IfOk (turns_start id x) P) (λ fit. goes n (limit_is o n is fit)) (λ _. tt)

  zero_length : (n : ℤ) → int_eq n (pos 0) ≡ true → nat_abs n ≡ 0
  zero_length n e = ap nat_abs ((Decides-int_eq n (pos 0)).0 e)

  length_is : (o : Option PortValue) (n : ℤ) → number_by (value_by site s o) ≡ Some n → IsLength o (nat_abs n)
  length_is None n e = λ none. cc
  length_is (Some (Key key)) n e = λ none. cc
  length_is (Some (Lit (Text t))) n e = λ none. cc
  length_is (Some (Lit (Int m))) n e = λ none. let is : m ≡ n = cc in zero_length n (subst (λ (z : ℤ). int_eq z (pos 0) ≡ true) is none)

  since_start_fits : (id : NumericPort) (o : Option PortValue) (number : Option ℤ) (P : Memo → Type 0) → number_by (value_by site s o) ≡ number → ((n : ℕ) → IsLength o n → P (Begun (record { first = s.moment; length = n }))) → IfOk (since_start id s.moment (within range.Duration number)) P
  since_start_fits id o None P is goes = tt
  since_start_fits id o (Some n) P is goes =
      cond_both (fits range.Duration (Int n)) (Some n) None (λ (x : Option ℤ). IfOk (since_start id s.moment x) P) (λ _. goes (nat_abs n) (length_is o n is)) (λ _. tt)

  recoveries_start_fits : (o : Option PortValue) (number : Option ℤ) → number_by (value_by site s o) ≡ number → ((n : ℤ) → IsLength o (nat_abs n) → Begins RecoveryNode site.node.ports children (Recovered (record { done = 0; limit = nat_abs n; recovers = false }))) →
      IfOk (recoveries_start (within range.Recoveries number)) (λ next. Begins RecoveryNode site.node.ports children next)
  recoveries_start_fits o None is goes = tt
  recoveries_start_fits o (Some n) is goes =
      cond_both (fits range.Recoveries (Int n)) (Some n) None (λ (x : Option ℤ). IfOk (recoveries_start x) (λ next. Begins RecoveryNode site.node.ports children next)) (λ _. goes n (length_is o n is)) (λ _. tt)

  -- no child was passed
  none_passed : (Holds : ℕ → Type 0) (at : ℕ) → WentRound (length children) Holds at 0
  none_passed Holds at = record { before = λ k earlier near. absurd (omega (arith, earlier, near)); after = λ k later within near. absurd (omega (arith, within, near)) }

  from_child : (at : ℕ) → all_end children at ≡ true → at < length children → CameRound children (rotation_at at)
  from_child at reached inside = record { inside = inside; reached = reached; few = omega arith; passed = none_passed _ at; skipped = λ all. none_passed _ at; failed = λ some. absurd (omega (arith, some)) }

  from_rotation : (memo : Memo) → RestsWith RoundRobin children memo → 0 < length children → Begins RoundRobin site.node.ports children (Rotating (rotation_at (rotation_of memo).at))
  from_rotation (Rotating r) rests some = (from_child r.at rests.0 rests.1, some)
  from_rotation _ rests some = (from_child 0 refl some, some)

  from_first : (goes : Answer) → CameTo goes (SkipsAll children) children 0 false
  from_first goes = record { inside = omega arith; passed = refl; saw = λ e. cc; skipped = λ e. refl }

  from_index : (memo : Memo) → RestsWith SequenceWithMemory children memo → 0 < length children → CameTo answer.Success (SkipsLast children) children (index_of memo) false
  from_index (Index at seen) rests some = record { inside = omega (arith, rests.1); passed = rests.0; saw = λ e. cc; skipped = λ e past. absurd (omega (arith, past, rests.1)) }
  from_index _ rests some = record { inside = omega arith; passed = refl; saw = λ e. cc; skipped = λ e past. absurd (omega (arith, past, some)) }

  -- the memo of a start is one with which the rule can begin
  pub starts_fit : (kind : Kind) (memo : Memo) → FewCases kind (length children) → RestsWith kind children memo → IfOk (new_memo kind site memo s) (λ next. Begins kind site.node.ports children next)
  starts_fit Sequence memo few rests = from_first answer.Success
  starts_fit Fallback memo few rests = from_first answer.Failure
  starts_fit SequenceWithMemory memo few rests = from_index memo rests few
  starts_fit Parallel memo few rests = parallel_starts _ _ _
    where
      parallel_starts : (need : Option ℕ) (skips : Bool) (most : Option ℕ) → IfOk (parallel_start need skips most) (λ next. Unit {0})
      parallel_starts (Some need) skips (Some most) = tt
      parallel_starts (Some need) skips None = tt
      parallel_starts None skips most = tt
  starts_fit RecoveryNode memo few rests =
      recoveries_start_fits (given_at site (codes "number_of_retries")) (number_at site s (codes "number_of_retries")) refl (λ n is. record { limit = is; recovers = λ e. cc })
  starts_fit RoundRobin memo few rests = from_rotation memo rests few
  starts_fit RateController memo few rests = paces memo (rate_by site s (given_at site (codes "hz")))
    where
      paces : (memo : Memo) (rate : Option ℕ) → IfOk (next_pace memo (pace_start s.moment rate)) (λ next. Unit {0})
      paces (Paced p) rate = tt
      paces _ (Some rate) = tt
      paces _ None = tt
  starts_fit Retry memo few rests = turns_start_fits port.NumAttempts (given_at site (codes "num_attempts")) (number_at site s (codes "num_attempts")) (λ next. Begins Retry site.node.ports children next) refl (λ n is. is)
  starts_fit Repeat memo few rests = turns_start_fits port.NumCycles (given_at site (codes "num_cycles")) (number_at site s (codes "num_cycles")) (λ next. Begins Repeat site.node.ports children next) refl (λ n is. is)
  starts_fit Timeout memo few rests = since_start_fits port.Msec (given_at site (codes "msec")) (number_at site s (codes "msec")) (λ next. Begins Timeout site.node.ports children next) refl (λ n is. is)
  starts_fit Delay memo few rests = since_start_fits port.DelayMsec (given_at site (codes "delay_msec")) (number_at site s (codes "delay_msec")) (λ next. Begins Delay site.node.ports children next) refl (λ n is. is)
  starts_fit _ memo few rests = tt

-- without a start the rule begins with the memo that is kept
pub kept_fits : (kind : Kind) (ports : List Port) (children : List Answers) (memo : Memo) → starts kind memo ≡ false → RestsWith kind children memo → Begins kind ports children memo
kept_fits RunOnce ports children (Finished (Some a)) none rests = rests
kept_fits Leaf ports children memo none rests = tt
kept_fits ScriptNode ports children memo none rests = tt
kept_fits ScriptCondition ports children memo none rests = tt
kept_fits AlwaysSuccess ports children memo none rests = tt
kept_fits AlwaysFailure ports children memo none rests = tt
kept_fits _ ports children _ none rests = cc

-- a memo that is cleared may be kept
pub cleared_rests : (kind : Kind) (ports : List Port) (children : List Answers) (memo : Memo) → Begins kind ports children memo → RestsWith kind children (cleared memo)
cleared_rests RunOnce ports children memo begins = marked memo begins
  where
    marked : (memo : Memo) → Begins RunOnce ports children memo → RestsWith RunOnce children (cleared memo)
    marked (Finished (Some a)) begins = begins
    marked _ begins = tt
cleared_rests RoundRobin ports children memo begins = forgets memo
  where
    forgets : (memo : Memo) → RestsWith RoundRobin children (cleared memo)
    forgets (Finished (Some a)) = tt
    forgets _ = tt
cleared_rests SequenceWithMemory ports children memo begins = forgets memo
  where
    forgets : (memo : Memo) → RestsWith SequenceWithMemory children (cleared memo)
    forgets (Finished (Some a)) = tt
    forgets _ = tt
cleared_rests _ ports children memo begins = tt

-- no memo may be kept
pub nothing_rests : (kind : Kind) (children : List Answers) → RestsWith kind children Nothing
nothing_rests SequenceWithMemory children = tt
nothing_rests RoundRobin children = tt
nothing_rests RunOnce children = tt
nothing_rests _ children = tt

-- what a node remembers may be kept
pub remembers_rests : (st : Status) (kind : Kind) (children : List Answers) (memo : Memo) → RestsWith kind children memo → RestsWith kind children (remembers st memo)
remembers_rests status.Idle kind children (Paced p) rests = nothing_rests kind children
remembers_rests _ kind children _ rests = rests
