-- A round over what children may answer, from one child to the next.
use Rattle.std.proofs.Common.{◌≡◌, ℕ, suc, ◌+◌, ◌<◌, List, length, drop, Bool, true, false, ◌&&◌, ◌||◌, refl, sym, ap, subst, ◌∙◌, arith}
use Rattle.std.proofs.lemmas.List.{drop_more, get_or_default}
use Rattle.std.proofs.Math.ListN.{get_or}
use Rattle.spec_run.specs.declared.status.Answer.TheVariants.{Skipped}
use Rattle.spec_dead.specs.declared.answers.Answers.{Answers}
use Rattle.spec_dead.specs.Answers.{either, only, only_if}
use Rattle.spec_dead.specs.Reached.{all_before, answers_at}
use Rattle.spec_dead.specs.Rules.{reached_answers}

-- what holds of all children before a place, from one place to the next
pub all_before_next : (holds : Answers → Bool) (children : List Answers) (place : ℕ) → all_before holds children (place + 1) ≡ (all_before holds children place && holds (answers_at children place))
all_before_next holds children place =
    let next : suc place ≡ place + 1 = omega arith in
    subst (λ (k : ℕ). all_before holds children k ≡ (all_before holds children place && holds (answers_at children place))) next refl

pub passes_next : (holds : Answers → Bool) (children : List Answers) (place : ℕ) (d : Answers) (passes passes1 : Bool) → place < length children → passes ≡ all_before holds children place →
    passes1 ≡ (passes && holds (get_or children place d)) → passes1 ≡ all_before holds children (place + 1)
passes_next holds children place d passes passes1 within known next =
    next ∙ ap (λ (b : Bool). b && holds (get_or children place d)) known
    ∙ ap (λ (a : Answers). all_before holds children place && holds a) (get_or_default children place d (only Skipped) within)
    ∙ sym (all_before_next holds children place)

or_thrice : (b c d : Bool) → (b || c) || d ≡ b || (c || d)
or_thrice true c d = refl
or_thrice false c d = refl

either_thrice : (a b c : Answers) → either (either a b) c ≡ either a (either b c)
either_thrice a b c = λ i. record {
  running = or_thrice a.running b.running c.running i;
  success = or_thrice a.success b.success c.success i;
  failure = or_thrice a.failure b.failure c.failure i;
  skipped = or_thrice a.skipped b.skipped c.skipped i;
}

-- what the children so far may answer that are reached, with one more, and what the others may
pub reached_next : (reached : ℕ → Bool) (children : List Answers) (place : ℕ) (d : Answers) (passes : Bool) (so_far one more all : Answers) → place < length children → passes ≡ reached place →
    one ≡ only_if passes (get_or children place d) → more ≡ either so_far one → either so_far (reached_answers reached place (drop place children)) ≡ all →
    either more (reached_answers reached (place + 1) (drop (place + 1) children)) ≡ all
reached_next reached children place d passes so_far one more all within known is_one is_more is_all =
    ap (λ (x : Answers). either x (reached_answers reached (place + 1) (drop (place + 1) children))) (is_more ∙ ap (λ (x : Answers). either so_far x) (is_one ∙ ap (λ (b : Bool). only_if b (get_or children place d)) known))
    ∙ either_thrice so_far (only_if (reached place) (get_or children place d)) (reached_answers reached (place + 1) (drop (place + 1) children))
    ∙ ap (λ (cs : List Answers). either so_far (reached_answers reached place cs)) (sym (drop_more children place d within))
    ∙ is_all
