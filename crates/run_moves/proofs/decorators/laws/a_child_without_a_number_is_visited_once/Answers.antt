use Rattle.std.proofs.Common.{[], ◌∷◌, refl}
use Rattle.spec_run.specs.declared.memory.Memo.TheVariants.{Turns as Turned}
use Rattle.spec_run.specs.declared.moves.Span.TheVariants.{All}
use Rattle.spec_run.specs.declared.status.Answer.TheVariants.{Failure, Running, Success}
use Rattle.spec_tree.specs.declared.term.Kind.TheVariants.{Repeat, Retry}
use Rattle.spec_run.specs.Steps.{keep, reset}
use Rattle.run_moves.specs.Decorators.Again.{keeps_turns}
use Rattle.run_moves.proofs.AboutDecorators.Again.{failure_again, one_visit, repeat_other, retry_other, success_again}
use Rattle.run_moves.proofs.decorators.laws.a_child_without_a_number_is_visited_once.Goals as goal

pub returns : goal.returns
returns c = record {
  retry = λ now picked t unlimited. one_visit Retry (λ _ _. refl) Failure failure_again t Failure (reset All (keep Running (Turned t))) unlimited refl;
  retry_other = λ now picked t a unlimited other. one_visit Retry (λ _ _. refl) Failure failure_again t a (keeps_turns Failure t (a ∷ []) a) unlimited (retry_other t a other);
  repeat = λ now picked t unlimited. one_visit Repeat (λ _ _. refl) Success success_again t Success (reset All (keep Running (Turned t))) unlimited refl;
  repeat_other = λ now picked t a unlimited other. one_visit Repeat (λ _ _. refl) Success success_again t a (keeps_turns Success t (a ∷ []) a) unlimited (repeat_other t a other);
}
