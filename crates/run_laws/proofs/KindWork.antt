-- The rule of every kind with children makes no more calls of start and running than its work counts.
use Rattle.std.proofs.Common.{ℕ, ◌+◌, ◌*◌, ◌-◌, List, false, length, map, pos, None, Result, Ok, Err, IsTrue, arith}
use Rattle.spec_run.specs.declared.fault.NumericPort.{NumericPort}
use Rattle.spec_run.specs.declared.memory.Memo.{Memo}
use Rattle.spec_run.specs.declared.memory.Memo.TheVariants.{Turns as Turned, Recoveries as Recovering}
use Rattle.spec_run.specs.declared.memory.Memory.{Memory}
use Rattle.spec_run.specs.declared.status.Answer.TheVariants as answer
use Rattle.spec_run.specs.declared.status.Status.{Status}
use Rattle.spec_tree.specs.declared.term.Kind.{Kind}
use Rattle.spec_tree.specs.declared.term.Kind.TheVariants.{Sequence, SequenceWithMemory, ReactiveSequence, Fallback, ReactiveFallback, Parallel, Switch, IfThenElse, WhileDoElse, RecoveryNode, PipelineSequence, RoundRobin, Inverter, ForceSuccess, ForceFailure, KeepRunningUntilFailure, Retry, Repeat, Timeout, Delay, RunOnce, RateController, SubTree}
use Rattle.spec_tree.specs.declared.term.Port.{Port}
use Rattle.spec_tree.specs.declared.term.Term.{Term-F}
use Rattle.spec_run.specs.Done.{State, ends, follow}
use Rattle.spec_run.specs.Ports.{picked}
use Rattle.spec_run.specs.Rules.Choices.{chosen_of}
use Rattle.spec_run.specs.Rules.OneVisit.{as_it_is, forced, inverted, mark_of}
use Rattle.spec_run.specs.Rules.Kinds.{rule}
use Rattle.spec_run.specs.Rules.Parallels.{counts_of}
use Rattle.spec_run.specs.Rules.Rates.{pace_of}
use Rattle.spec_run.specs.Rules.RoundRobins.{rotation_of}
use Rattle.spec_run.specs.Rules.Sequences.{index_of, reactive_end, seen_of, sequence_end, with_memory_end}
use Rattle.spec_run.specs.Sites.{Site, View, children_of, view_below}
use Rattle.base_tables.specs.Sound.{statuses}
use Rattle.spec_tree.specs.Terms.{once_more, times_of, turns_of}
use Rattle.spec_tree.specs.Trees.{ports_fit}
use Rattle.spec_run.specs.Visit.{kind_rule, or_bad_port}
use Rattle.run_laws.proofs.Children.{Family, SoundAll}
use Rattle.run_laws.proofs.Beginnings.{Begins, site_here}
use Rattle.run_laws.proofs.Shares.{first_once_more, left_from, left_most, share, whole}
use Rattle.run_laws.proofs.Spending.{Labour, Makes, Spends}
use Rattle.run_laws.proofs.TurnLimits.{recoveries_allow, repeat_allows, retry_allows}
use Rattle.run_laws.proofs.NavigationWork.{pipeline_costs, rate_costs, recovery_costs, round_robin_costs}
use Rattle.run_laws.proofs.Working.{child_costs, delay_costs, if_then_else_costs, keep_running_costs, memory_ending, parallel_costs, reactive_ending, round_costs, run_once_costs, sequence_ending, switch_costs, timeout_costs, turns_cost, while_costs}

module _ (F : Family) (cs : List F.Child) (L : Labour F cs) (view : View) (uid : ℕ) (n picked : ℕ) (ports : List Port) (moment : ℕ) (ss : List Status) where
  abbrev total : ℕ
  total = whole L.work cs

  abbrev Costs : ℕ → Kind → Memo → Type 0
  Costs most kind memo = Makes F cs L view uid most (rule kind n memo picked moment)

  -- a kind that visits no child twice
  once : (kind : Kind) (memo : Memo) → Costs total kind memo → Costs (1 * total + 0) kind memo
  once kind memo costs = λ ms s all. omega (arith, costs ms s all)

  -- a kind that visits no child twice, and begins at a place
  once_from : (kind : Kind) (memo : Memo) (place : ℕ) → Costs (left_from L.work cs place) kind memo → Costs (1 * total + 0) kind memo
  once_from kind memo place costs = λ ms s all. omega (arith, costs ms s all, left_most L.work cs place)

  -- a kind that visits its child in turns
  in_turns : (kind : Kind) (memo : Memo) (times : ℕ) → Costs (times * total) kind memo → Costs (times * total + 0) kind memo
  in_turns kind memo times costs = λ ms s all. omega (arith, costs ms s all)

  -- a RecoveryNode, which visits its first child once more
  recovers : (memo : Memo) (times : ℕ) → Costs (times * total + share L.work cs 0) RecoveryNode memo → Costs (times * total + once_more RecoveryNode (map L.work cs)) RecoveryNode memo
  recovers memo times costs = λ ms s all. omega (arith, costs ms s all, first_once_more L.work cs)

  kind_makes : (kind : Kind) (memo : Memo) → Begins kind ports moment memo ss → IsTrue (ports_fit kind ports) → Costs (times_of kind ports * total + once_more kind (map L.work cs)) kind memo
  kind_makes Sequence memo begins fit = once_from Sequence memo (index_of memo) (round_costs F cs L view uid answer.Success (sequence_end answer.Success) (sequence_ending F cs L view uid answer.Success) (n - index_of memo) (index_of memo) (seen_of memo))
  kind_makes Fallback memo begins fit = once_from Fallback memo (index_of memo) (round_costs F cs L view uid answer.Failure (sequence_end answer.Failure) (sequence_ending F cs L view uid answer.Failure) (n - index_of memo) (index_of memo) (seen_of memo))
  kind_makes SequenceWithMemory memo begins fit = once_from SequenceWithMemory memo (index_of memo) (round_costs F cs L view uid answer.Success with_memory_end (memory_ending F cs L view uid) (n - index_of memo) (index_of memo) (seen_of memo))
  kind_makes ReactiveSequence memo begins fit = once_from ReactiveSequence memo 0 (round_costs F cs L view uid answer.Success (reactive_end answer.Success) (reactive_ending F cs L view uid answer.Success) n 0 false)
  kind_makes ReactiveFallback memo begins fit = once_from ReactiveFallback memo 0 (round_costs F cs L view uid answer.Failure (reactive_end answer.Failure) (reactive_ending F cs L view uid answer.Failure) n 0 false)
  kind_makes Parallel memo begins fit = once_from Parallel memo 0 (parallel_costs F cs L view uid n n 0 (counts_of memo))
  kind_makes (Switch cases) memo begins fit = once (Switch cases) memo (switch_costs F cs L view uid (chosen_of memo) picked)
  kind_makes IfThenElse memo begins fit = once IfThenElse memo (if_then_else_costs F cs L view uid n (chosen_of memo))
  kind_makes WhileDoElse memo begins fit = once WhileDoElse memo (while_costs F cs L view uid n memo)
  kind_makes SubTree memo begins fit = once SubTree memo (child_costs F cs L view uid as_it_is memo)
  kind_makes Inverter memo begins fit = once Inverter memo (child_costs F cs L view uid inverted memo)
  kind_makes ForceSuccess memo begins fit = once ForceSuccess memo (child_costs F cs L view uid (forced answer.Success) memo)
  kind_makes ForceFailure memo begins fit = once ForceFailure memo (child_costs F cs L view uid (forced answer.Failure) memo)
  kind_makes KeepRunningUntilFailure memo begins fit = once KeepRunningUntilFailure memo (keep_running_costs F cs L view uid memo)
  kind_makes Timeout memo begins fit = once Timeout memo (timeout_costs F cs L view uid memo moment)
  kind_makes Delay memo begins fit = once Delay memo (delay_costs F cs L view uid memo moment)
  kind_makes RunOnce memo begins fit = once RunOnce memo (run_once_costs F cs L view uid (mark_of memo) picked)
  kind_makes Retry (Turned t) begins fit = in_turns Retry (Turned t) (turns_of ports) (turns_cost F cs L view uid answer.Failure t (turns_of ports) begins.0.goes_on (retry_allows ports t.limit fit begins.0.limit))
  kind_makes Repeat (Turned t) begins fit = in_turns Repeat (Turned t) (turns_of ports) (turns_cost F cs L view uid answer.Success t (turns_of ports) begins.0.goes_on (repeat_allows ports t.limit fit begins.0.limit))
  kind_makes RecoveryNode (Recovering r) begins fit =
      recovers (Recovering r) (turns_of ports) (recovery_costs F cs L view uid r ports (turns_of ports) begins.0 (recoveries_allow ports (pos r.limit) fit begins.0.limit))
  kind_makes PipelineSequence memo begins fit = once_from PipelineSequence memo 0 (pipeline_costs F cs L view uid (index_of memo) n 0 false)
  kind_makes RoundRobin memo begins fit = once RoundRobin memo (round_robin_costs F cs L view uid n (rotation_of memo))
  kind_makes RateController memo begins fit = once RateController memo (rate_costs F cs L view uid (pace_of memo) moment)
  kind_makes _ memo begins fit = absurd begins

module _ (F : Family) (node : Term-F F.Child) (L : Labour F node.children) (view : View) (uid : ℕ) (memo : Memo) (ms : List Memory) (s : State) (sound : SoundAll F view.rows node.children None (uid + 1) ms s)
    (begins : Begins node.kind node.ports s.moment memo (statuses ms)) (fit : IsTrue (ports_fit node.kind node.ports)) where
  abbrev here : Site
  here = site_here F node view uid

  made_with : (r : Result ℕ NumericPort) →
      Spends (times_of node.kind node.ports * whole L.work node.children + once_more node.kind (map L.work node.children)) (follow (ends (or_bad_port uid r) ms s) (λ ms1. ms1) (λ place ms1 s1. rule node.kind (length here.node.children) memo place s1.moment (children_of here) ms1 s1))
  made_with (Ok place) = kind_makes F node.children L (view_below here) (uid + 1) (length here.node.children) place node.ports s.moment (statuses ms) node.kind memo begins fit ms s sound
  made_with (Err bad) = omega arith

  -- the rule of a node of any kind with children
  pub kind_rule_spends : Spends (times_of node.kind node.ports * whole L.work node.children + once_more node.kind (map L.work node.children)) (kind_rule here memo ms s)
  kind_rule_spends = made_with (picked node.kind here memo s)
