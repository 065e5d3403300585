-- PipelineSequence keeps the rules.
use Rattle.std.proofs.Common.{◌≡◌, ℕ, zero, suc, ◌+◌, ◌<◌, ◌≤◌, List, Bool, true, false, nat_lt, refl, ◌∙◌, arith}
use Rattle.std.proofs.lemmas.Bool.{cond_both, ltb-false}
use Rattle.spec_run.specs.declared.memory.Memo.TheVariants.{Index}
use Rattle.spec_run.specs.declared.status.Answer.{Answer}
use Rattle.spec_run.specs.declared.status.Answer.TheVariants as answer
use Rattle.spec_run.specs.declared.status.Status.{Status}
use Rattle.spec_run.specs.declared.status.Status.TheVariants as status
use Rattle.spec_tree.specs.declared.term.Kind.TheVariants.{PipelineSequence}
use Rattle.spec_run.specs.Rules.Pipelines.{pipeline, pipeline_after, pipeline_end}
use Rattle.base_tables.specs.Shapes.{FarthestRuns, IdleFrom, status_at}
use Rattle.spec_run.specs.Steps.{Rule, keep}
use Rattle.spec_run.specs.Visit.{status_of}
use Rattle.run_laws.proofs.Acts.{Changed, others}
use Rattle.run_laws.proofs.Nodes.{Goes, Node, is_over, keeps, visits}

-- the children from a place on that are after the farthest one are IDLE
abbrev LaterIdle : ℕ → ℕ → List Status → Type 0
LaterIdle farthest place ss = (k : ℕ) → farthest < k → place ≤ k → status_at ss k ≡ status.Idle

-- so it is from the next place on, whatever the child at this place has answered
onward : (farthest place : ℕ) (st : Status) (ss ss1 : List Status) → LaterIdle farthest place ss → Changed place st ss ss1 → LaterIdle farthest (place + 1) ss1
onward farthest place st ss ss1 idle changed = λ k past from. others changed k (λ same. absurd (omega (arith, same, from))) ∙ idle k past (omega (arith, from))

-- a child that is RUNNING and not before the farthest one is the farthest
is_farthest : (farthest place : ℕ) (ss ss1 : List Status) → farthest ≤ place → LaterIdle farthest place ss → Changed place status.Running ss ss1 → FarthestRuns place ss1
is_farthest farthest place ss ss1 far idle changed = record {
  runs = changed.here;
  following = λ k from. others changed k (λ same. absurd (omega (arith, same, from))) ∙ idle k (omega (arith, far, from)) (omega (arith, from));
}

module _ (n : Node) (farthest : ℕ) where
  ends : (seen : Bool) (ss : List Status) → Goes n PipelineSequence ss (pipeline_end seen)
  ends true ss = is_over n PipelineSequence answer.Success ss refl
  ends false ss = is_over n PipelineSequence answer.Skipped ss refl

  -- after an answer of the child at a place, where the others go on
  after_goes : (place : ℕ) (seen : Bool) (rest : Bool → Rule) (a : Answer) (ss ss1 : List Status) → LaterIdle farthest place ss → Changed place (status_of a) ss ss1 →
      ((b : Bool) → Goes n PipelineSequence ss1 (rest b)) → Goes n PipelineSequence ss1 (pipeline_after farthest place seen rest a)
  after_goes place seen rest answer.Running ss ss1 idle changed goes =
      cond_both (nat_lt place farthest) (rest true) (keep answer.Running (Index place true)) (λ rule. Goes n PipelineSequence ss1 rule)
      (λ _. goes true)
      (λ far. keeps n PipelineSequence answer.Running (Index place true) ss1 (is_farthest farthest place ss ss1 (ltb-false place farthest far) idle changed))
  after_goes place seen rest answer.Success ss ss1 idle changed goes = goes true
  after_goes place seen rest answer.Failure ss ss1 idle changed goes = is_over n PipelineSequence answer.Failure ss1 refl
  after_goes place seen rest answer.Skipped ss ss1 idle changed goes = goes seen

  children_go : (left place : ℕ) (seen : Bool) (ss : List Status) → LaterIdle farthest place ss → Goes n PipelineSequence ss (pipeline farthest left place seen)
  children_go zero place seen ss idle = ends seen ss
  children_go (suc left) place seen ss idle =
      let go : Bool → Rule = λ b. pipeline farthest left (place + 1) b in
      visits n PipelineSequence place (λ a. pipeline_after farthest place seen go a) ss
      (λ a ss1 changed. after_goes place seen go a ss ss1 idle changed (λ b. children_go left (place + 1) b ss1 (onward farthest place (status_of a) ss ss1 idle changed)))

-- a PipelineSequence of so many children, of which those after the farthest one are IDLE
pub pipeline_goes : (n : Node) (farthest children : ℕ) (ss : List Status) → IdleFrom (farthest + 1) ss → Goes n PipelineSequence ss (pipeline farthest children 0 false)
pipeline_goes n farthest children ss idle = children_go n farthest children 0 false ss (λ k past from. idle k (omega (arith, past)))
