-- A node above children that keep their rules, and the ends that all kinds share.
use Rattle.std.proofs.Common.{◌≡◌, ℕ, List, true, false, Option, refl}
use Rattle.spec_run.specs.declared.memory.Memo.{Memo}
use Rattle.spec_run.specs.declared.memory.Memo.TheVariants.{Nothing}
use Rattle.spec_run.specs.declared.moves.Span.{Span}
use Rattle.spec_run.specs.declared.moves.Span.TheVariants as span
use Rattle.spec_run.specs.declared.status.Answer.{Answer}
use Rattle.spec_run.specs.declared.status.Answer.TheVariants as answer
use Rattle.spec_run.specs.declared.status.Status.{Status}
use Rattle.spec_tree.specs.declared.term.Kind.{Kind}
use Rattle.spec_tree.specs.declared.term.Port.{Port}
use Rattle.spec_world.specs.declared.world.Row.{Row}
use Rattle.spec_run.specs.Rules.Answers.{pass_on}
use Rattle.base_tables.specs.Shapes.{AllIdle, Shape, is_running, status_at}
use Rattle.spec_run.specs.Sites.{View}
use Rattle.spec_run.specs.Steps.{Given, Rule, is_completed, keep, over, reset, visit, visit_or_pass}
use Rattle.spec_run.specs.Visit.{status_of}
use Rattle.run_laws.proofs.Children.{Family}
use Rattle.run_laws.proofs.Acts.{Changed}
use Rattle.run_laws.proofs.Resting.{Rested}
use Rattle.run_laws.proofs.Leading.{Leads, keep_leads, pass_leads, reset_leads, visit_leads}

-- a node apart from its kind: its children, of which the first has this uid, what they see, and what its shape
-- depends on
pub record Node : Type 1 where
  pub family : Family
  pub view : View
  pub children : List family.Child
  pub first : ℕ
  pub ports : List Port
  pub row : Option Row
  pub moment : ℕ

-- what a node of a kind gives fits its next status
abbrev pub Fits : Node → Kind → Given → List Status → Type 0
Fits n kind g ss = Shape (status_of g.answer) kind n.ports n.row n.moment g.memo ss

-- from children with these statuses a rule leaves the rules of the children, and the node has a shape of its kind
abbrev pub Goes : Node → Kind → List Status → Rule → Type 0
Goes n kind ss rule = Leads n.family n.view n.children n.first (Fits n kind) ss rule

module _ (n : Node) (kind : Kind) where
  pub keeps : (a : Answer) (memo : Memo) (ss : List Status) → Fits n kind (record { answer = a; memo = memo }) ss → Goes n kind ss (keep a memo)
  keeps a memo ss fit = keep_leads n.family n.view n.children n.first (Fits n kind) a memo ss fit

  pub visits : (place : ℕ) (go : Answer → Rule) (ss : List Status) → ((a : Answer) (ss1 : List Status) → Changed place (status_of a) ss ss1 → Goes n kind ss1 (go a)) → Goes n kind ss (visit place go)
  visits place go ss goes = visit_leads n.family n.view n.children n.first (Fits n kind) place go ss goes

  pub visits_or_passes : (place : ℕ) (passed : Rule) (go : Answer → Rule) (ss : List Status) →
      (is_completed (status_at ss place) ≡ true → Goes n kind ss passed) → (is_completed (status_at ss place) ≡ false → Goes n kind ss (visit place go)) → Goes n kind ss (visit_or_pass place passed go)
  visits_or_passes place passed go ss passes goes = pass_leads n.family n.view n.children n.first (Fits n kind) place passed go ss passes goes

  pub resets_first : (span : Span) (rule : Rule) (ss : List Status) → ((ss1 : List Status) → Rested span ss ss1 → Goes n kind ss1 rule) → Goes n kind ss (reset span rule)
  resets_first span rule ss goes = reset_leads n.family n.view n.children n.first (Fits n kind) span rule ss goes

  -- where a node has ended, its children are IDLE and its memo is cleared
  over_fits : (a : Answer) (ss : List Status) → is_running (status_of a) ≡ false → AllIdle ss → Fits n kind (record { answer = a; memo = Nothing }) ss
  over_fits answer.Running ss rests idle = cc
  over_fits answer.Success ss rests idle = idle
  over_fits answer.Failure ss rests idle = idle
  over_fits answer.Skipped ss rests idle = idle

  pub is_over : (a : Answer) (ss : List Status) → is_running (status_of a) ≡ false → Goes n kind ss (over a)
  is_over a ss rests = resets_first span.All (keep a Nothing) ss (λ ss1 rested. keeps a Nothing ss1 (over_fits a ss1 rests (λ k from. rested.away k refl)))

  -- an answer is passed on
  pub passes_on : (memo : Memo) (a : Answer) (ss : List Status) → (a ≡ answer.Running → Fits n kind (record { answer = answer.Running; memo = memo }) ss) → Goes n kind ss (pass_on memo a)
  passes_on memo answer.Running ss fit = keeps answer.Running memo ss (fit refl)
  passes_on memo answer.Success ss fit = is_over answer.Success ss refl
  passes_on memo answer.Failure ss fit = is_over answer.Failure ss refl
  passes_on memo answer.Skipped ss fit = is_over answer.Skipped ss refl
