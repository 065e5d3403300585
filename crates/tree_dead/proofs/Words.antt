-- What the words of rules do, where no dead child is visited.
use Rattle.std.proofs.Common.{◌≡◌, ℕ, suc, ◌+◌, Bool, true, List, [], ◌∷◌, map, refl, sym, ap, subst, ◌∙◌, arith}
use Rattle.std.proofs.lemmas.Bool.{cond_both}
use Rattle.spec_run.specs.declared.memory.Memo.{Memo}
use Rattle.spec_run.specs.declared.memory.Memo.TheVariants.{Nothing}
use Rattle.spec_run.specs.declared.memory.Memory.{Memory}
use Rattle.spec_run.specs.declared.moves.Span.{Span}
use Rattle.spec_run.specs.declared.moves.Span.TheVariants as span
use Rattle.spec_run.specs.declared.status.Answer.{Answer}
use Rattle.spec_run.specs.declared.status.Answer.TheVariants as answer
use Rattle.spec_world.specs.declared.world.Row.{Row}
use Rattle.spec_run.specs.Done.{Done, State, done}
use Rattle.spec_run.specs.Rules.Answers.{pass_on}
use Rattle.spec_run.specs.Sites.{View}
use Rattle.spec_run.specs.Steps.{Child, Given, Rule, child_at, is_completed, keep, over, reset, reset_within, resets, spans, visit, visit_or_pass}
use Rattle.spec_dead.specs.declared.answers.Answers.{Answers}
use Rattle.spec_dead.specs.Reached.{answers_at}
use Rattle.tree_dead.proofs.Parts.{Leaves, follow_left, nothing_left}
use Rattle.tree_dead.proofs.Seats.{All, Family, children_here, reset_at, visit_at}
use Rattle.tree_dead.proofs.Sets.{Has}

-- the children of a node apart from the node: what they mean, which may be visited, and where they stand
pub record Children (is_dead : ℕ → Bool) (rows : List Row) : Type 1 where
  pub family : Family is_dead rows
  pub visits : ℕ → Bool
  pub view : View
  pub same : view.rows ≡ rows
  pub list : List family.Child
  pub first : ℕ

module _ (is_dead : ℕ → Bool) (rows : List Row) (n : Children is_dead rows) where
  abbrev pub answers_here : List Answers
  answers_here = map n.family.answers n.list

  abbrev here : List Child
  here = children_here is_dead rows n.family n.visits n.view n.same n.list n.first

  abbrev pub Stand : List Memory → Type 0
  Stand ms = All is_dead rows n.family n.visits n.view n.same n.list n.first ms

  -- ---- Resets

  within_left : (span : Span) (place : ℕ) (c : Child) (ms : List Memory) (s : State) → c ≡ child_at here place → Stand ms → Leaves is_dead (λ _ ms1. Stand ms1) s (reset_within span place c ms s)
  within_left span place c ms s is all =
      let Goal : Done (Unit {0}) (List Memory) → Type 0 = λ d. Leaves is_dead (λ _ ms1. Stand ms1) s d in
      cond_both (spans span place) (c.reset ms s) (done tt ms s) Goal
      (λ _. subst (λ (k : Child). Goal (k.reset ms s)) (sym is) (reset_at is_dead rows n.family n.visits n.view n.same n.list n.first place ms s all))
      (λ _. nothing_left is_dead (λ _ ms1. Stand ms1) tt ms s all)

  resets_left : (span : Span) (cs : List Child) (place : ℕ) (ms : List Memory) (s : State) → ((i : ℕ) → child_at cs i ≡ child_at here (place + i)) → Stand ms →
      Leaves is_dead (λ _ ms1. Stand ms1) s (resets span cs place ms s)
  resets_left span [] place ms s same all = nothing_left is_dead (λ _ ms1. Stand ms1) tt ms s all
  resets_left span (c ∷ cs) place ms s same all =
      let first : place + 0 ≡ place = omega arith in
      follow_left is_dead (λ _ ms1. Stand ms1) (λ _ ms1. Stand ms1) (reset_within span place c ms s) (λ ms1. ms1) (λ _ ms1 s1. resets span cs (place + 1) ms1 s1) s
      (within_left span place c ms s (same 0 ∙ ap (child_at here) first) all)
      (λ _ all1. resets_left span cs (place + 1) (reset_within span place c ms s).memory (reset_within span place c ms s).state (λ i. same (suc i) ∙ ap (child_at here) (let e : place + suc i ≡ place + 1 + i = omega arith in e)) all1)

  -- the children of a span are reset in order
  pub span_left : (span : Span) (ms : List Memory) (s : State) → Stand ms → Leaves is_dead (λ _ ms1. Stand ms1) s (resets span here 0 ms s)
  span_left span ms s all = resets_left span here 0 ms s (λ i. ap (child_at here) (let e : i ≡ 0 + i = omega arith in e)) all

  -- ---- Rules

  module _ (fits : Given → Type 0) where
    -- a rule gives what fits, and leaves the children standing
    abbrev pub Goes : Rule → Type 0
    Goes rule = (ms : List Memory) (s : State) → Stand ms → Leaves is_dead (λ g ms1. fits g × Stand ms1) s (rule here ms s)

    pub keep_goes : (a : Answer) (memo : Memo) → fits (record { answer = a; memo = memo }) → Goes (keep a memo)
    unfolding keep
    keep_goes a memo fit = λ ms s all. nothing_left is_dead (λ g ms1. fits g × Stand ms1) (record { answer = a; memo = memo }) ms s (fit, all)

    -- a child that is reached is visited
    pub visit_goes : (place : ℕ) (go : Answer → Rule) → n.visits place ≡ true → ((a : Answer) → Has a (answers_at answers_here place) → Goes (go a)) → Goes (visit place go)
    unfolding visit
    visit_goes place go comes goes = λ ms s all.
        let d : Done Answer (List Memory) = (child_at here place).visit ms s in
        follow_left is_dead (λ a ms1. Has a (answers_at answers_here place) × Stand ms1) (λ g ms1. fits g × Stand ms1) d (λ ms1. ms1) (λ a ms1 s1. go a here ms1 s1) s
        (visit_at is_dead rows n.family n.visits n.view n.same n.list n.first place ms s comes all)
        (λ a is. goes a is.0 d.memory d.state is.1)

    pub pass_goes : (place : ℕ) (passed : Rule) (go : Answer → Rule) → Goes passed → Goes (visit place go) → Goes (visit_or_pass place passed go)
    unfolding visit_or_pass
    pass_goes place passed go passes visits = λ ms s all.
        cond_both (is_completed ((child_at here place).status ms)) (passed here ms s) (visit place go here ms s) (λ d. Leaves is_dead (λ g ms1. fits g × Stand ms1) s d)
        (λ _. passes ms s all) (λ _. visits ms s all)

    pub reset_goes : (span : Span) (rule : Rule) → Goes rule → Goes (reset span rule)
    unfolding reset
    reset_goes span rule goes = λ ms s all.
        let d : Done (Unit {0}) (List Memory) = resets span here 0 ms s in
        follow_left is_dead (λ _ ms1. Stand ms1) (λ g ms1. fits g × Stand ms1) d (λ ms1. ms1) (λ _ ms1 s1. rule here ms1 s1) s (span_left span ms s all) (λ _ all1. goes d.memory d.state all1)

    pub over_goes : (a : Answer) → fits (record { answer = a; memo = Nothing }) → Goes (over a)
    over_goes a fit = reset_goes span.All (keep a Nothing) (keep_goes a Nothing fit)

    -- an answer is passed on: RUNNING with this memo, and any other with a memo that is cleared
    pub pass_on_goes : (memo : Memo) (a : Answer) → (a ≡ answer.Running → fits (record { answer = answer.Running; memo = memo })) → ((a ≡ answer.Running → ⊥) → fits (record { answer = a; memo = Nothing })) → Goes (pass_on memo a)
    pass_on_goes memo answer.Running runs ends = keep_goes answer.Running memo (runs refl)
    pass_on_goes memo answer.Success runs ends = over_goes answer.Success (ends (λ e. cc))
    pass_on_goes memo answer.Failure runs ends = over_goes answer.Failure (ends (λ e. cc))
    pass_on_goes memo answer.Skipped runs ends = over_goes answer.Skipped (ends (λ e. cc))
