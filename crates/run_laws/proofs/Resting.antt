-- What becomes of the children where those of a span are reset.
use Rattle.std.proofs.Common.{◌≡◌, ℕ, suc, ◌+◌, ◌<◌, ◌≤◌, Bool, true, false, List, [], ◌∷◌, length, Option, None, refl, sym, ap, subst, ◌∙◌, arith, ⊎_elim}
use Rattle.std.proofs.lemmas.Bool.{cases_eq, cases_lt, cond_both}
use Rattle.std.proofs.lemmas.List.{get_or_past}
use Rattle.spec_run.specs.declared.memory.Memory.{Memory}
use Rattle.spec_run.specs.declared.moves.Span.{Span}
use Rattle.spec_run.specs.declared.status.Status.{Status}
use Rattle.spec_run.specs.declared.status.Status.TheVariants.{Idle}
use Rattle.spec_run.specs.Done.{Done, State, done}
use Rattle.base_tables.specs.Shapes.{status_at}
use Rattle.spec_run.specs.Sites.{View}
use Rattle.base_tables.specs.Sound.{statuses}
use Rattle.spec_run.specs.Steps.{Child, child_at, reset_within, resets, spans}
use Rattle.run_laws.proofs.Parts.{follow_leaves, left_into, within_same}
use Rattle.run_laws.proofs.Children.{Family, size_all}
use Rattle.run_laws.proofs.Seats.{number_of_children}
use Rattle.run_laws.proofs.Acts.{All, AllLeft, as_many_statuses, children_here, others, reset_at, same_number}

-- the children that a span has are IDLE now, and the others have the statuses that they had
pub record Rested (span : Span) (ss ss1 : List Status) : Type 0 where
  pub away : (k : ℕ) → spans span k ≡ true → status_at ss1 k ≡ Idle
  pub stays : (k : ℕ) → spans span k ≡ false → status_at ss1 k ≡ status_at ss k
  pub as_many : length ss1 ≡ length ss

-- the child at this place is IDLE if the span has it, and all others have the statuses that they had
record RestedAt (span : Span) (place : ℕ) (ss ss1 : List Status) : Type 0 where
  away : spans span place ≡ true → status_at ss1 place ≡ Idle
  stays : spans span place ≡ false → status_at ss1 place ≡ status_at ss place
  other : (k : ℕ) → (k ≡ place → ⊥) → status_at ss1 k ≡ status_at ss k
  as_many : length ss1 ≡ length ss

record RestedFrom (span : Span) (first : ℕ) (ss ss1 : List Status) : Type 0 where
  away : (k : ℕ) → first ≤ k → spans span k ≡ true → status_at ss1 k ≡ Idle
  before : (k : ℕ) → k < first → status_at ss1 k ≡ status_at ss k
  stays : (k : ℕ) → spans span k ≡ false → status_at ss1 k ≡ status_at ss k
  as_many : length ss1 ≡ length ss

rested_none : (span : Span) (first : ℕ) (ss : List Status) → length ss ≤ first → RestedFrom span first ss ss
rested_none span first ss past = record { away = λ k from e. get_or_past ss k Idle (omega (arith, past, from)); before = λ k e. refl; stays = λ k e. refl; as_many = refl }

rested_more : (span : Span) (first : ℕ) (ss ss1 ss2 : List Status) → RestedAt span first ss ss1 → RestedFrom span (first + 1) ss1 ss2 → RestedFrom span first ss ss2
rested_more span first ss ss1 ss2 one rest = record {
  away = λ k from spanned. ⊎_elim
      (λ same. rest.before k (omega (arith, same)) ∙ ap (status_at ss1) same ∙ one.away (subst (λ (x : ℕ). spans span x ≡ true) same spanned))
      (λ other. rest.away k (later k from other) spanned)
      (cases_eq k first);
  before = λ k below. rest.before k (omega (arith, below)) ∙ one.other k (λ same. absurd (omega (arith, same, below)));
  stays = λ k outside. rest.stays k outside ∙ ⊎_elim
      (λ same. ap (status_at ss1) same ∙ one.stays (subst (λ (x : ℕ). spans span x ≡ false) same outside) ∙ sym (ap (status_at ss) same))
      (λ other. one.other k other)
      (cases_eq k first);
  as_many = rest.as_many ∙ one.as_many;
}
  where
    later : (k : ℕ) → first ≤ k → (k ≡ first → ⊥) → first + 1 ≤ k
    later k from other = ⊎_elim (λ below. omega (arith, below)) (λ reached. absurd (other (omega (arith, from, reached)))) (cases_lt first k)

module _ (F : Family) (view : View) (cs : List F.Child) (uid : ℕ) where
  abbrev here : List Child
  here = children_here F view cs uid

  abbrev Holds : Option ℕ → List Memory → State → Type 0
  Holds f ms s = All F view cs uid f ms s

  reset_within_leaves : (span : Span) (place : ℕ) (c : Child) (ms : List Memory) (s : State) → c ≡ child_at here place → Holds None ms s →
      AllLeft F view cs uid (λ _ ss ss1. RestedAt span place ss ss1) ms s (reset_within span place c ms s)
  reset_within_leaves span place c ms s is all =
      subst (λ (child : Child). AllLeft F view cs uid (λ _ ss ss1. RestedAt span place ss ss1) ms s (reset_within span place child ms s)) (sym is)
      (cond_both (spans span place) ((child_at here place).reset ms s) (done tt ms s) (AllLeft F view cs uid (λ _ ss ss1. RestedAt span place ss ss1) ms s)
      (λ spanned. let d : Done (Unit {0}) (List Memory) = (child_at here place).reset ms s in
      left_into uid (size_all F cs) uid (size_all F cs) s d.answer d.memory d.memory d.state (omega arith) (omega arith) (reset_at F view cs uid place ms s all)
      (λ f sound w. sound)
      (λ _ changed sound w. record { away = λ e. changed.here; stays = λ e. absurd (both_tests spanned e); other = others changed; as_many = same_number changed }))
      (λ outside. record { sound = all; within = within_same uid (size_all F cs) s; ends = record { away = λ e. absurd (both_tests e outside); stays = λ e. refl; other = λ k e. refl; as_many = refl } }))
    where
      both_tests : {b : Bool} → b ≡ true → b ≡ false → ⊥
      both_tests is_true is_false = cc

  resets_leave : (span : Span) (ks : List Child) (first : ℕ) (ms : List Memory) (s : State) → ((i : ℕ) → child_at ks i ≡ child_at here (first + i)) → length cs ≤ first + length ks → Holds None ms s →
      AllLeft F view cs uid (λ _ ss ss1. RestedFrom span first ss ss1) ms s (resets span ks first ms s)
  resets_leave span [] first ms s same many all = record {
    sound = all;
    within = within_same uid (size_all F cs) s;
    ends = rested_none span first (statuses ms) (omega (arith, many, as_many_statuses F view cs uid ms s all));
  }
  resets_leave span (k ∷ ks) first ms s same many all =
      let d : Done (Unit {0}) (List Memory) = reset_within span first k ms s in
      let all_from : List Memory → List Memory → State → Type 0 = λ ms0 ms1 s1. RestedFrom span first (statuses ms0) (statuses ms1) in
      follow_leaves {rules = Holds} {fits = λ _ ms1 s1. RestedAt span first (statuses ms) (statuses ms1)} {rules2 = Holds} {fits2 = λ _ ms1 s1. RestedFrom span first (statuses ms) (statuses ms1)}
      d (λ ms1. ms1) (λ _ ms1 s1. resets span ks (first + 1) ms1 s1) uid (size_all F cs) uid (size_all F cs) s (omega arith) (omega arith)
      (reset_within_leaves span first k ms s (same 0 ∙ ap (child_at here) (let e : first + 0 ≡ first = omega arith in e)) all)
      (λ _ one all1 w.
      let rest : Done (Unit {0}) (List Memory) = resets span ks (first + 1) d.memory d.state in
      left_into uid (size_all F cs) uid (size_all F cs) d.state rest.answer rest.memory rest.memory rest.state (omega arith) (omega arith)
      (resets_leave span ks (first + 1) d.memory d.state (λ i. same (suc i) ∙ ap (child_at here) (let e : first + suc i ≡ first + 1 + i = omega arith in e)) (omega (arith, many)) all1)
      (λ f sound w1. sound)
      (λ _ others sound w1. rested_more span first (statuses ms) (statuses d.memory) (statuses rest.memory) one others))
      (λ f low high sound w. sound)

  -- the children of a span are reset in order
  pub span_leaves : (span : Span) (ms : List Memory) (s : State) → Holds None ms s → AllLeft F view cs uid (λ _ ss ss1. Rested span ss ss1) ms s (resets span here 0 ms s)
  span_leaves span ms s all =
      let d : Done (Unit {0}) (List Memory) = resets span here 0 ms s in
      left_into uid (size_all F cs) uid (size_all F cs) s d.answer d.memory d.memory d.state (omega arith) (omega arith)
      (resets_leave span here 0 ms s (λ i. ap (child_at here) (let e : i ≡ 0 + i = omega arith in e)) (omega (arith, number_of_children F view cs uid 0)) all)
      (λ f sound w. sound)
      (λ _ rested sound w. record { away = λ k. rested.away k (omega arith); stays = rested.stays; as_many = rested.as_many })
