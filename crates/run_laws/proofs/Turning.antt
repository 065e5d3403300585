-- Retry and Repeat keep the rules.
use Rattle.std.proofs.Common.{◌≡◌, ℕ, zero, suc, ◌+◌, ◌-◌, ◌<◌, List, false, pos, negsuc, refl, sym, subst, arith}
use Rattle.std.proofs.lemmas.Bool.{cond_both}
use Rattle.std.specs.Prelude.{ℤ}
use Rattle.spec_run.specs.declared.memory.Memo.TheVariants.{Turns as Turned}
use Rattle.spec_run.specs.declared.memory.Turns.{Turns}
use Rattle.spec_run.specs.declared.moves.Span.TheVariants as span
use Rattle.spec_run.specs.declared.status.Answer.{Answer}
use Rattle.spec_run.specs.declared.status.Answer.TheVariants as answer
use Rattle.spec_run.specs.declared.status.Status.{Status}
use Rattle.spec_tree.specs.declared.term.Kind.{Kind}
use Rattle.spec_run.specs.Rules.Answers.{pass_on, same_answer}
use Rattle.spec_run.specs.Rules.Turns.{limit_of, one_more, turn_after, turn_again, turns, turns_on}
use Rattle.base_tables.specs.Shapes.{IsTurned, NoneCompleted, TurnsGoOn, is_running}
use Rattle.spec_run.specs.Steps.{Rule, visit}
use Rattle.spec_run.specs.Visit.{status_of}
use Rattle.run_laws.proofs.Acts.{Changed}
use Rattle.run_laws.proofs.Choices.{none_completed}
use Rattle.run_laws.proofs.Decorators.{idle_none_completed, reset_goes}
use Rattle.run_laws.proofs.Nodes.{Fits, Goes, Node, is_over, passes_on, resets_first, visits}

-- a kind with its limit in the port of this name, whose child is visited again after this answer
module _ (n : Node) (kind : Kind) (name : List ℕ) (again : Answer) (rests : is_running (status_of again) ≡ false)
    (fits : (t : Turns) (ss : List Status) → IsTurned t n.ports name → NoneCompleted ss → Fits n kind (record { answer = answer.Running; memo = Turned t }) ss) where
  -- after an answer of the child, with what is done where the child is visited again
  after_goes : (t : Turns) (next : Rule) (a : Answer) (ss ss1 : List Status) → IsTurned t n.ports name → NoneCompleted ss → Changed 0 (status_of a) ss ss1 →
      Goes n kind ss1 next → Goes n kind ss1 (turn_after again t next a)
  after_goes t next a ss ss1 turned none changed goes =
      cond_both (same_answer a again) next (pass_on (Turned t) a) (λ rule. Goes n kind ss1 rule)
      (λ _. goes)
      (λ _. passes_on n kind (Turned t) a ss1 (λ is. fits t ss1 turned (none_completed 0 a ss ss1 (λ k apart. none k) changed is)))

  -- one more turn is done, and some are left
  turned_more : (t : Turns) (limit left : ℕ) → t.limit ≡ pos limit → t.done + 1 + suc left ≡ limit → IsTurned t n.ports name → IsTurned (one_more t) n.ports name
  turned_more t limit left is sums turned = record {
    limit = turned.limit;
    goes_on = subst (λ (l : ℤ). TurnsGoOn (one_more t) l) (sym is) (let below : t.done + 1 < limit = omega (arith, sums) in below);
  }

  again_goes : (left limit : ℕ) (t : Turns) (ss : List Status) → t.limit ≡ pos limit → t.done + 1 + left ≡ limit → IsTurned t n.ports name → Goes n kind ss (turn_again again left t)
  again_goes zero limit t ss is sums turned = is_over n kind again ss rests
  again_goes (suc left) limit t ss is sums turned =
      let go : Answer → Rule = λ a. turn_after again (one_more t) (turn_again again left (one_more t)) a in
      let more : IsTurned (one_more t) n.ports name = turned_more t limit left is sums turned in
      resets_first n kind span.All (visit 0 go) ss
      (λ ss1 rested. visits n kind 0 go ss1
      (λ a ss2 changed. after_goes (one_more t) (turn_again again left (one_more t)) a ss1 ss2 more (idle_none_completed ss1 (λ k from. rested.away k refl)) changed
      (again_goes left limit (one_more t) ss2 is (omega (arith, sums)) more)))

  -- the child is visited again, up to the limit
  on_goes : (limit : ℤ) (t : Turns) (ss : List Status) → t.limit ≡ limit → IsTurned t n.ports name → Goes n kind ss (turns_on again (limit_of limit) t)
  on_goes (pos limit) t ss is turned =
      let below : t.done < limit = subst (λ (l : ℤ). TurnsGoOn t l) is turned.goes_on in
      again_goes (limit - (t.done + 1)) limit t ss is (omega (arith, below)) turned
  on_goes (negsuc k) t ss is turned = reset_goes n kind (Turned t) (λ ss1 none. fits t ss1 turned none) ss

  pub turns_go : (t : Turns) (ss : List Status) → IsTurned t n.ports name → NoneCompleted ss → Goes n kind ss (turns again t)
  turns_go t ss turned none =
      visits n kind 0 (λ a. turn_after again t (turns_on again (limit_of t.limit) t) a) ss
      (λ a ss1 changed. after_goes t (turns_on again (limit_of t.limit) t) a ss ss1 turned none changed (on_goes t.limit t ss1 refl turned))
