-- How many calls of start and running the rules of RecoveryNode, PipelineSequence, RoundRobin and RateController make.
use Rattle.std.proofs.Common.{◌≡◌, ℕ, zero, suc, ◌+◌, ◌*◌, ◌-◌, ◌<◌, ◌≤◌, Bool, true, false, if◌then◌else◌, List, nat_eq, nat_lt, refl, arith, mul-le-mul_right}
use Rattle.spec_run.specs.declared.memory.Memo.TheVariants.{Index, Recoveries as Recovering, Rotation as Rotating, Pace as Paced}
use Rattle.spec_run.specs.declared.memory.Pace.{Pace}
use Rattle.spec_run.specs.declared.memory.Recoveries.{Recoveries}
use Rattle.spec_run.specs.declared.memory.Rotation.{Rotation}
use Rattle.spec_run.specs.declared.moves.Span.TheVariants as span
use Rattle.spec_run.specs.declared.status.Answer.{Answer}
use Rattle.spec_run.specs.declared.status.Answer.TheVariants as answer
use Rattle.spec_tree.specs.declared.term.Port.{Port}
use Rattle.spec_run.specs.Rules.Pipelines.{pipeline, pipeline_after, pipeline_end}
use Rattle.spec_run.specs.Rules.Rates.{is_due, rate_after, rate_controller}
use Rattle.spec_run.specs.Rules.Recoveries.{attempt, attempt_after, attempt_on, one_recovered, recover, recoveries_left, recovery_after, recovery_node}
use Rattle.spec_run.specs.Rules.RoundRobins.{next_of, passed_by, robin_after, robin_on, rotation_at, round_robin}
use Rattle.base_tables.specs.Shapes.{IsRecovering}
use Rattle.spec_run.specs.Sites.{View}
use Rattle.spec_run.specs.Steps.{Rule, keep, visit}
use Rattle.run_laws.proofs.Children.{Family}
use Rattle.run_laws.proofs.Shares.{first_and_later, in_turn, in_turn_most, left_from, one_and_rest, share, share_most, whole}
use Rattle.run_laws.proofs.Spending.{Labour, keep_makes, over_makes, pass_on_makes, reset_makes, visit_makes}
use Rattle.run_laws.proofs.Working.{Costs, child_first, either, more_costs}

module _ (F : Family) (cs : List F.Child) (L : Labour F cs) (view : View) (uid : ℕ) where
  abbrev Makes : ℕ → Rule → Type 0
  Makes most rule = Costs F cs L view uid most rule

  abbrev total : ℕ
  total = whole L.work cs

  abbrev first : ℕ
  first = share L.work cs 0

  abbrev second : ℕ
  second = share L.work cs 1

  both_children : first + second ≤ total
  both_children = first_and_later L.work cs 0

  -- ---- RecoveryNode

  attempted_costs : (most : ℕ) (r : Recoveries) (failed : Rule) (a : Answer) → Makes most failed → Makes most (attempt_after r failed a)
  attempted_costs most r failed answer.Failure costs = costs
  attempted_costs most r failed answer.Running costs = pass_on_makes F cs L view uid most (Recovering (record r { recovers = false })) answer.Running
  attempted_costs most r failed answer.Success costs = over_makes F cs L view uid most answer.Success
  attempted_costs most r failed answer.Skipped costs = over_makes F cs L view uid most answer.Skipped

  attempt_costs : (rest : ℕ) (r : Recoveries) (failed : Rule) → Makes rest failed → Makes (first + rest) (attempt r failed)
  attempt_costs rest r failed costs = visit_makes F cs L view uid rest (first + rest) 0 (λ a. attempt_after r failed a) (omega arith) (λ a. attempted_costs rest r failed a costs)

  helped_costs : (most : ℕ) (r : Recoveries) (again : Rule) (a : Answer) → Makes most again → Makes most (recovery_after r again a)
  helped_costs most r again answer.Success costs = reset_makes F cs L view uid most (span.One 1) again costs
  helped_costs most r again answer.Running costs = keep_makes F cs L view uid most answer.Running (Recovering (record r { recovers = true }))
  helped_costs most r again answer.Failure costs = over_makes F cs L view uid most answer.Failure
  helped_costs most r again answer.Skipped costs = over_makes F cs L view uid most answer.Failure

  -- each recovery visits both children
  recover_costs : (left : ℕ) (r : Recoveries) → Makes (left * total) (recover left r)
  recover_costs zero r = over_makes F cs L view uid (0 * total) answer.Failure
  recover_costs (suc left) r =
      let again : Rule = attempt (one_recovered r) (recover left (one_recovered r)) in
      reset_makes F cs L view uid (suc left * total) (span.One 0) (visit 1 (λ a. recovery_after r again a))
      (visit_makes F cs L view uid (first + left * total) (suc left * total) 1 (λ a. recovery_after r again a) (omega (arith, both_children))
      (λ a. helped_costs (first + left * total) r again a (attempt_costs (left * total) (one_recovered r) (recover left (one_recovered r)) (recover_costs left (one_recovered r)))))

  attempt_on_costs : (r : Recoveries) → Makes (first + recoveries_left r * total) (attempt_on r)
  attempt_on_costs r = attempt_costs (recoveries_left r * total) r (recover (recoveries_left r) r) (recover_costs (recoveries_left r) r)

  node_costs : (recovers : Bool) (r : Recoveries) (most : ℕ) → r.limit ≤ most → (recovers ≡ true → r.done < r.limit) → Makes (most * total + first) (recovery_node recovers r)
  node_costs false r most limit goes_on =
      more_costs F cs L view uid (first + recoveries_left r * total) (most * total + first) (attempt_on r)
      (omega (arith, mul-le-mul_right total (let below : recoveries_left r ≤ most = omega (arith, limit) in below))) (attempt_on_costs r)
  node_costs true r most limit goes_on =
      let rest : ℕ = first + recoveries_left (one_recovered r) * total in
      let below : suc (recoveries_left (one_recovered r)) * total ≤ most * total = mul-le-mul_right total (omega (arith, limit, goes_on refl)) in
      visit_makes F cs L view uid rest (most * total + first) 1 (λ a. recovery_after r (attempt_on (one_recovered r)) a) (omega (arith, below, both_children))
      (λ a. helped_costs rest r (attempt_on (one_recovered r)) a (attempt_on_costs (one_recovered r)))

  -- the first child is visited once more than there are recoveries
  pub recovery_costs : (r : Recoveries) (ports : List Port) (most : ℕ) → IsRecovering r ports → r.limit ≤ most → Makes (most * total + first) (recovery_node r.recovers r)
  recovery_costs r ports most is limit = node_costs r.recovers r most limit is.goes_on

  -- ---- PipelineSequence

  pipeline_ends : (most : ℕ) (seen : Bool) → Makes most (pipeline_end seen)
  pipeline_ends most true = over_makes F cs L view uid most answer.Success
  pipeline_ends most false = over_makes F cs L view uid most answer.Skipped

  flow_costs : (most farthest place : ℕ) (seen : Bool) (others : Bool → Rule) (a : Answer) → ((b : Bool) → Makes most (others b)) → Makes most (pipeline_after farthest place seen others a)
  flow_costs most farthest place seen others answer.Running costs =
      either F cs L view uid most (nat_lt place farthest) (others true) (keep answer.Running (Index place true)) (costs true) (keep_makes F cs L view uid most answer.Running (Index place true))
  flow_costs most farthest place seen others answer.Success costs = costs true
  flow_costs most farthest place seen others answer.Failure costs = over_makes F cs L view uid most answer.Failure
  flow_costs most farthest place seen others answer.Skipped costs = costs seen

  pub pipeline_costs : (farthest left place : ℕ) (seen : Bool) → Makes (left_from L.work cs place) (pipeline farthest left place seen)
  pipeline_costs farthest zero place seen = pipeline_ends (left_from L.work cs place) seen
  pipeline_costs farthest (suc left) place seen =
      let rest : ℕ = left_from L.work cs (place + 1) in
      let go : Bool → Rule = λ b. pipeline farthest left (place + 1) b in
      visit_makes F cs L view uid rest (left_from L.work cs place) place (λ a. pipeline_after farthest place seen go a) (one_and_rest L.work cs place)
      (λ a. flow_costs rest farthest place seen go a (λ b. pipeline_costs farthest left (place + 1) b))

  -- ---- RoundRobin

  -- with so many children, each of which is visited once at most
  module _ (n : ℕ) where
    abbrev turn : ℕ → ℕ → ℕ
    turn count place = in_turn L.work n cs count place

    robin_costs : (most : ℕ) (r : Rotation) (others : Rule) (a : Answer) → Makes most others → Makes most (robin_after n r others a)
    robin_costs most r others answer.Running costs = keep_makes F cs L view uid most answer.Running (Rotating r)
    robin_costs most r others answer.Success costs =
        let last : Rule = keep answer.Success (Rotating (rotation_at (next_of n r.at))) in
        reset_makes F cs L view uid most span.All last (keep_makes F cs L view uid most answer.Success (Rotating (rotation_at (next_of n r.at))))
    robin_costs most r others answer.Failure costs = costs
    robin_costs most r others answer.Skipped costs = costs

    robin_on_costs : (left : ℕ) (r : Rotation) (a : Answer) → Makes (turn left (next_of n r.at)) (robin_on n left r a)
    robin_on_costs zero r a = over_makes F cs L view uid 0 (if nat_eq (passed_by n a r).skipped n then answer.Skipped else answer.Failure)
    robin_on_costs (suc left) r a =
        let next : Rotation = passed_by n a r in
        let most : ℕ = turn (suc left) next.at in
        let rest : ℕ = turn left (next_of n next.at) in
        reset_makes F cs L view uid most (span.One r.at) (visit next.at (λ b. robin_after n next (robin_on n left next b) b))
        (visit_makes F cs L view uid rest most next.at (λ b. robin_after n next (robin_on n left next b) b) (omega arith)
        (λ b. robin_costs rest next (robin_on n left next b) b (robin_on_costs left next b)))

    -- so many children are left after the one at hand
    begun_costs : (left : ℕ) (r : Rotation) → Makes (turn (suc left) r.at) (visit r.at (λ a. robin_after n r (robin_on n left r a) a))
    begun_costs left r =
        let rest : ℕ = turn left (next_of n r.at) in
        visit_makes F cs L view uid rest (turn (suc left) r.at) r.at (λ a. robin_after n r (robin_on n left r a) a) (omega arith)
        (λ a. robin_costs rest r (robin_on n left r a) a (robin_on_costs left r a))

    turn_most : (left place : ℕ) → left ≤ n - 1 → turn (suc left) place ≤ total
    turn_most zero place few = omega (arith, share_most L.work cs place)
    turn_most (suc left) place few = in_turn_most L.work n cs (suc (suc left)) place (omega (arith, few))

    pub round_robin_costs : (r : Rotation) → Makes total (round_robin n r)
    round_robin_costs r =
        let left : ℕ = n - (r.passed + 1) in
        more_costs F cs L view uid (turn (suc left) r.at) total (round_robin n r) (turn_most left r.at (omega arith)) (begun_costs left r)

  -- ---- RateController

  rate_free : (p : Pace) (now : ℕ) (a : Answer) → Makes 0 (rate_after p now a)
  rate_free p now answer.Running = keep_makes F cs L view uid 0 answer.Running (Paced (record p { due = true }))
  rate_free p now answer.Success =
      reset_makes F cs L view uid 0 span.All (keep answer.Success (Paced (record p { first = now; due = false }))) (keep_makes F cs L view uid 0 answer.Success (Paced (record p { first = now; due = false })))
  rate_free p now answer.Failure = reset_makes F cs L view uid 0 span.All (keep answer.Failure (Paced (record p { due = false }))) (keep_makes F cs L view uid 0 answer.Failure (Paced (record p { due = false })))
  rate_free p now answer.Skipped = over_makes F cs L view uid 0 answer.Skipped

  pub rate_costs : (p : Pace) (now : ℕ) → Makes total (rate_controller p now)
  rate_costs p now =
      either F cs L view uid total (is_due p now) (visit 0 (λ a. rate_after p now a)) (keep answer.Running (Paced p)) (child_first F cs L view uid (λ a. rate_after p now a) (rate_free p now))
      (keep_makes F cs L view uid total answer.Running (Paced p))
