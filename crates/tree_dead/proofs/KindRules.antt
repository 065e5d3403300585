-- The rule of a node of any kind.
use Rattle.std.proofs.Common.{◌≡◌, ℕ, ◌<◌, List, length, Bool, true, false, not, nat_eq, IfSome, refl}
use Rattle.std.specs.Prelude.{codes}
use Rattle.spec_run.specs.declared.memory.Memo.{Memo}
use Rattle.spec_run.specs.declared.status.Answer.{Answer}
use Rattle.spec_run.specs.declared.status.Answer.TheVariants as answer
use Rattle.spec_tree.specs.declared.term.Kind.{Kind}
use Rattle.spec_tree.specs.declared.term.Kind.TheVariants.{Sequence, SequenceWithMemory, ReactiveSequence, Fallback, ReactiveFallback, Parallel, Switch, IfThenElse, WhileDoElse, RecoveryNode, PipelineSequence, RoundRobin, Inverter, ForceSuccess, ForceFailure, KeepRunningUntilFailure, Retry, Repeat, Timeout, Delay, RunOnce, RateController, SubTree}
use Rattle.spec_tree.specs.declared.term.Port.{Port}
use Rattle.spec_world.specs.declared.world.Row.{Row}
use Rattle.spec_tree.specs.BuiltIns.{has_rule, ports_of}
use Rattle.spec_run.specs.Rules.Choices.{chosen_of}
use Rattle.spec_run.specs.Rules.OneVisit.{as_it_is, forced, inverted, mark_of}
use Rattle.spec_run.specs.Rules.Kinds.{rule}
use Rattle.spec_run.specs.Rules.Parallels.{counts_of}
use Rattle.spec_run.specs.Rules.Rates.{pace_of}
use Rattle.spec_run.specs.Rules.Recoveries.{recoveries_of}
use Rattle.spec_run.specs.Rules.RoundRobins.{rotation_of}
use Rattle.spec_run.specs.Rules.Sequences.{index_of, seen_of}
use Rattle.spec_run.specs.Rules.Turns.{turns_of}
use Rattle.spec_dead.specs.declared.answers.Answers.{Answers}
use Rattle.spec_dead.specs.Answers.{becoming, exchanged}
use Rattle.spec_dead.specs.Reached.{always_selected, answers_at, given, may_be_selected, reaches}
use Rattle.spec_dead.specs.Rules.{never_skips}
use Rattle.tree_dead.proofs.Branches.{becomes_in, child_fits, delay_fits, if_fits, keep_running_fits, run_once_fits, stays_in, switch_fits, timeout_fits, turns_fit, while_fits}
use Rattle.tree_dead.proofs.Fits.{Begins}
use Rattle.tree_dead.proofs.Pipelines.{pipeline_fits}
use Rattle.tree_dead.proofs.Rates.{rate_fits}
use Rattle.tree_dead.proofs.Recovering.{recovery_fits}
use Rattle.tree_dead.proofs.RoundRobins.{robin_fits}
use Rattle.tree_dead.proofs.Rounds.{Gives, memory_fits, parallel_fits, reactive_fits, sequence_fits}
use Rattle.tree_dead.proofs.Sets.{Has}
use Rattle.tree_dead.proofs.Words.{Children, Goes, answers_here}

-- ---- What decorators make of an answer

exchanged_has : (a : Answer) (set : Answers) → Has a set → Has (inverted a) (exchanged set)
exchanged_has answer.Running set has = has
exchanged_has answer.Success set has = has
exchanged_has answer.Failure set has = has
exchanged_has answer.Skipped set has = has

success_has : (a : Answer) (set : Answers) → Has a set → Has (forced answer.Success a) (becoming answer.Failure answer.Success set)
success_has answer.Running set has = stays_in answer.Failure answer.Success answer.Running set refl has
success_has answer.Success set has = stays_in answer.Failure answer.Success answer.Success set refl has
success_has answer.Failure set has = becomes_in answer.Failure answer.Success set has
success_has answer.Skipped set has = stays_in answer.Failure answer.Success answer.Skipped set refl has

failure_has : (a : Answer) (set : Answers) → Has a set → Has (forced answer.Failure a) (becoming answer.Success answer.Failure set)
failure_has answer.Running set has = stays_in answer.Success answer.Failure answer.Running set refl has
failure_has answer.Failure set has = stays_in answer.Success answer.Failure answer.Failure set refl has
failure_has answer.Success set has = becomes_in answer.Success answer.Failure set has
failure_has answer.Skipped set has = stays_in answer.Success answer.Failure answer.Skipped set refl has

-- ---- Picks

-- what is picked for a visit fits
abbrev pub PickFits : Kind → List Port → List Answers → Memo → ℕ → Type 0
PickFits (Switch cases) ports children memo picked = (picked < length children) × (may_be_selected (always_selected (ports_of (Switch cases)) ports) picked ≡ true)
PickFits RunOnce ports children memo picked = nat_eq picked 0 ≡ false → IfSome (mark_of memo) (λ a. not (never_skips (given ports (codes "then_skip"))) ≡ true)
PickFits _ ports children memo picked = Unit {0}

-- ---- All kinds with children

module _ (is_dead : ℕ → Bool) (rows : List Row) (n : Children is_dead rows) (ports : List Port) (memo : Memo) (picked now : ℕ) where
  abbrev all : List Answers
  all = answers_here is_dead rows n

  abbrev Comes : Kind → Type 0
  Comes kind = (place : ℕ) → reaches kind ports all place ≡ true → n.visits place ≡ true

  pub kind_fits : (kind : Kind) → has_rule kind ≡ true → Begins kind ports all memo → PickFits kind ports all memo picked → Comes kind → Goes is_dead rows n (Gives kind ports all) (rule kind (length all) memo picked now)
  kind_fits Sequence e begins pick comes = sequence_fits is_dead rows n Sequence ports answer.Success refl tt (λ e. cc) comes (λ place came. came) (index_of memo) (seen_of memo) begins
  kind_fits Fallback e begins pick comes = sequence_fits is_dead rows n Fallback ports answer.Failure refl tt (λ e. cc) comes (λ place came. came) (index_of memo) (seen_of memo) begins
  kind_fits SequenceWithMemory e begins pick comes = memory_fits is_dead rows n ports comes (index_of memo) (seen_of memo) begins
  kind_fits ReactiveSequence e begins pick comes = reactive_fits is_dead rows n ReactiveSequence ports answer.Success refl tt (λ e. cc) comes (λ place. tt)
  kind_fits ReactiveFallback e begins pick comes = reactive_fits is_dead rows n ReactiveFallback ports answer.Failure refl tt (λ e. cc) comes (λ place. tt)
  kind_fits Parallel e begins pick comes = parallel_fits is_dead rows n ports (λ place. comes place refl) (length all) (length all) 0 (counts_of memo)
  kind_fits (Switch cases) e begins pick comes = switch_fits is_dead rows n cases ports comes (chosen_of memo) picked pick.0 pick.1
  kind_fits IfThenElse e begins pick comes = if_fits is_dead rows n ports comes (chosen_of memo) begins
  kind_fits WhileDoElse e begins pick comes = while_fits is_dead rows n ports comes memo
  kind_fits RecoveryNode e begins pick comes = recovery_fits is_dead rows n ports comes (recoveries_of memo) begins
  kind_fits PipelineSequence e begins pick comes = pipeline_fits is_dead rows n ports comes (index_of memo)
  kind_fits RoundRobin e begins pick comes = robin_fits is_dead rows n ports comes (rotation_of memo) begins.0 begins.1
  kind_fits RateController e begins pick comes = rate_fits is_dead rows n (comes 0 refl) ports (pace_of memo) now
  kind_fits SubTree e begins pick comes = child_fits is_dead rows n (comes 0 refl) SubTree ports as_it_is memo (λ a has. has) tt tt
  kind_fits Inverter e begins pick comes = child_fits is_dead rows n (comes 0 refl) Inverter ports inverted memo (λ a has. exchanged_has a (answers_at all 0) has) tt tt
  kind_fits ForceSuccess e begins pick comes = child_fits is_dead rows n (comes 0 refl) ForceSuccess ports (forced answer.Success) memo (λ a has. success_has a (answers_at all 0) has) tt tt
  kind_fits ForceFailure e begins pick comes = child_fits is_dead rows n (comes 0 refl) ForceFailure ports (forced answer.Failure) memo (λ a has. failure_has a (answers_at all 0) has) tt tt
  kind_fits KeepRunningUntilFailure e begins pick comes = keep_running_fits is_dead rows n (comes 0 refl) ports memo
  kind_fits Retry e begins pick comes = turns_fit is_dead rows n (comes 0 refl) Retry ports answer.Failure (given ports (codes "num_attempts")) refl (λ e. cc) (λ t is. is) tt (turns_of memo) begins
  kind_fits Repeat e begins pick comes = turns_fit is_dead rows n (comes 0 refl) Repeat ports answer.Success (given ports (codes "num_cycles")) refl (λ e. cc) (λ t is. is) tt (turns_of memo) begins
  kind_fits Timeout e begins pick comes = timeout_fits is_dead rows n (comes 0 refl) ports memo now begins
  kind_fits Delay e begins pick comes = delay_fits is_dead rows n (comes 0 refl) ports memo now begins
  kind_fits RunOnce e begins pick comes = run_once_fits is_dead rows n (comes 0 refl) ports (mark_of memo) picked begins pick
  kind_fits _ e begins pick comes = cc
