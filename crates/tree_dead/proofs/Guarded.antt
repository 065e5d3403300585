-- What the guards of a node answer is among what they may do.
use Rattle.std.proofs.Common.{◌≡◌, ℕ, Bool, true, false, not, Option, Some, None, refl, sym, subst}
use Rattle.std.proofs.lemmas.Bool.{and_from, and_parts}
use Rattle.spec_script.specs.declared.syntax.Script.{Script}
use Rattle.spec_run.specs.declared.status.Answer.{Answer}
use Rattle.spec_run.specs.declared.status.Answer.TheVariants.{Running, Success, Failure, Skipped}
use Rattle.spec_tree.specs.declared.term.Guards.{Guards}
use Rattle.spec_run.specs.Done.{Done, State, done, follow}
use Rattle.spec_run.specs.NodeScripts.{answers_where, goes_on, goes_on_by, guard, guards_answer, posts, script_holds, script_if_there}
use Rattle.base_tables.specs.Shapes.{is_running}
use Rattle.spec_run.specs.Sites.{Site}
use Rattle.spec_run.specs.Visit.{status_of}
use Rattle.spec_dead.specs.declared.guarding.Guarding.{Guarding}
use Rattle.spec_dead.specs.Answers.{no_answer, only, only_if}
use Rattle.spec_dead.specs.Guards.{before_rule, constant_of, may_be, with_guard}
use Rattle.tree_dead.proofs.Parts.{Lives, follow_left, left_into, nothing_left}
use Rattle.tree_dead.proofs.Constants.{Runs, script_holds_runs, script_if_there_runs}
use Rattle.tree_dead.proofs.Sets.{Has, either_left, either_right, if_so, only_has}

-- the answer of guards is one that they may give, and not RUNNING; or else the rule may be applied
abbrev pub Guarded : Guarding → Option Answer → Type 0
Guarded before (Some a) = Has a before.answers × (is_running (status_of a) ≡ false)
Guarded before None = before.goes_on ≡ true

-- what stands after a guard counts where the guard may have the other truth
module _ (script : Script) (truth : Bool) (answer : Answer) (after : Guarding) where
  abbrev whole : Guarding
  whole = with_guard (Some script) truth answer after

  passes : (o : Option Answer) → may_be (not truth) (constant_of script.stmts) ≡ true → Guarded after o → Guarded whole o
  passes (Some a) may is = (
    either_right a (only_if (may_be truth (constant_of script.stmts)) (only answer)) (only_if (may_be (not truth) (constant_of script.stmts)) after.answers)
        (if_so a (may_be (not truth) (constant_of script.stmts)) after.answers may is.0),
    is.1,
  )
  passes None may is = and_from (may_be (not truth) (constant_of script.stmts)) after.goes_on may is

  answers : is_running (status_of answer) ≡ false → may_be truth (constant_of script.stmts) ≡ true → Guarded whole (Some answer)
  answers rests may = (
    either_left answer (only_if (may_be truth (constant_of script.stmts)) (only answer)) (only_if (may_be (not truth) (constant_of script.stmts)) after.answers)
        (if_so answer (may_be truth (constant_of script.stmts)) (only answer) may (only_has answer)),
    rests,
  )

module _ (is_dead : ℕ → Bool) (site : Site) (lives : Lives is_dead site.uid) where
  abbrev Ran : {A : Type 0} → (A → Type 0) → State → Done A (Unit {0}) → Type 0
  Ran fits s d = Runs is_dead site lives fits s d

  module _ (script : Script) (answer : Answer) (next : State → Done (Option Answer) (Unit {0})) (after : Guarding) (rests : is_running (status_of answer) ≡ false)
      (goes : (s : State) → Ran (Guarded after) s (next s)) where
    then_passes : (truth : Bool) (s : State) → may_be (not truth) (constant_of script.stmts) ≡ true → Ran (Guarded (with_guard (Some script) truth answer after)) s (next s)
    then_passes truth s may =
        let d : Done (Option Answer) (Unit {0}) = next s in
        left_into is_dead (λ o _. Guarded after o) (λ o _. Guarded (with_guard (Some script) truth answer after) o) s d.answer d.memory d.memory d.state d.notes (goes s)
        (λ o is. passes script truth answer after o may is)

    gives : (truth : Bool) (s : State) → may_be truth (constant_of script.stmts) ≡ true → Ran (Guarded (with_guard (Some script) truth answer after)) s (done (Some answer) tt s)
    gives truth s may = nothing_left is_dead (λ o _. Guarded (with_guard (Some script) truth answer after) o) (Some answer) tt s (answers script truth answer after rests may)

    answers_left : (truth b : Bool) (s : State) → may_be b (constant_of script.stmts) ≡ true → Ran (Guarded (with_guard (Some script) truth answer after)) s (answers_where truth answer next b s)
    answers_left true true s may = gives true s may
    answers_left false false s may = gives false s may
    answers_left true false s may = then_passes true s may
    answers_left false true s may = then_passes false s may

    there : (truth : Bool) (s : State) → Ran (Guarded (with_guard (Some script) truth answer after)) s (guard site (Some script) truth answer next s)
    there truth s =
        follow_left is_dead (λ b _. may_be b (constant_of script.stmts) ≡ true) (λ o _. Guarded (with_guard (Some script) truth answer after) o) (script_holds site script s) (λ _. tt)
        (λ b _ s1. answers_where truth answer next b s1) s (script_holds_runs is_dead site lives script s) (λ b may. answers_left truth b (script_holds site script s).state may)

  guard_left : (script : Option Script) (truth : Bool) (answer : Answer) (next : State → Done (Option Answer) (Unit {0})) (after : Guarding) → is_running (status_of answer) ≡ false →
      ((s : State) → Ran (Guarded after) s (next s)) → (s : State) → Ran (Guarded (with_guard script truth answer after)) s (guard site script truth answer next s)
  guard_left None truth answer next after rests goes s = goes s
  guard_left (Some script) truth answer next after rests goes s = there script answer next after rests goes truth s

  abbrev rule_next : Guarding
  rule_next = record { answers = no_answer; goes_on = true }

  -- the guards of a node that is not RUNNING
  pub guards_left : (s : State) → Ran (Guarded (before_rule site.node.guards)) s (guards_answer site s)
  guards_left s =
      let g : Guards = site.node.guards in
      let no_guard : State → Done (Option Answer) (Unit {0}) = λ s1. done None tt s1 in
      let while_next : State → Done (Option Answer) (Unit {0}) = guard site g.while_true false Skipped no_guard in
      let skip_next : State → Done (Option Answer) (Unit {0}) = guard site g.skip_if true Skipped while_next in
      let success_next : State → Done (Option Answer) (Unit {0}) = guard site g.success_if true Success skip_next in
      let while_g : Guarding = with_guard g.while_true false Skipped rule_next in
      let skip_g : Guarding = with_guard g.skip_if true Skipped while_g in
      let success_g : Guarding = with_guard g.success_if true Success skip_g in
      guard_left g.failure_if true Failure success_next success_g refl
      (guard_left g.success_if true Success skip_next skip_g refl
      (guard_left g.skip_if true Skipped while_next while_g refl
      (guard_left g.while_true false Skipped no_guard rule_next refl (λ s1. nothing_left is_dead (λ o _. Guarded rule_next o) None tt s1 refl)))) s

  -- ---- While RUNNING

  -- where the rule may be applied after a guard, what may come after the guard may come
  through : (script : Option Script) (truth : Bool) (answer : Answer) (after : Guarding) (a : Answer) → (with_guard script truth answer after).goes_on ≡ true →
      (after.goes_on ≡ true → Has a after.answers) → Has a (with_guard script truth answer after).answers
  through None truth answer after a goes has = has goes
  through (Some script) truth answer after a goes has =
      let both : (may_be (not truth) (constant_of script.stmts) ≡ true) × (after.goes_on ≡ true) = and_parts (may_be (not truth) (constant_of script.stmts)) after.goes_on goes in
      either_right a (only_if (may_be truth (constant_of script.stmts)) (only answer)) (only_if (may_be (not truth) (constant_of script.stmts)) after.answers)
      (if_so a (may_be (not truth) (constant_of script.stmts)) after.answers both.0 (has both.1))

  -- a node whose `_while` may be false may be skipped, where its rule may be applied
  while_skips : (g : Guards) (script : Script) → g.while_true ≡ Some script → may_be false (constant_of script.stmts) ≡ true → (before_rule g).goes_on ≡ true → Has Skipped (before_rule g).answers
  while_skips g script is may goes =
      let while_g : Guarding = with_guard g.while_true false Skipped rule_next in
      let skip_g : Guarding = with_guard g.skip_if true Skipped while_g in
      let success_g : Guarding = with_guard g.success_if true Success skip_g in
      through g.failure_if true Failure success_g Skipped goes
      (λ goes1. through g.success_if true Success skip_g Skipped goes1
      (λ goes2. through g.skip_if true Skipped while_g Skipped goes2
      (λ goes3. subst (λ (w : Option Script). Has Skipped (with_guard w false Skipped rule_next).answers) (sym is)
      ((answers script false Skipped rule_next refl may).0))))

  -- a RUNNING node goes on, or it may be skipped
  abbrev pub GoesOn : Bool → Type 0
  GoesOn b = b ≡ false → Has Skipped (before_rule site.node.guards).answers

  goes_on_left_by : (w : Option Script) (s : State) → site.node.guards.while_true ≡ w → (before_rule site.node.guards).goes_on ≡ true → Ran GoesOn s (goes_on_by site w s)
  goes_on_left_by None s is goes = nothing_left is_dead (λ b _. GoesOn b) true tt s (λ e. cc)
  goes_on_left_by (Some script) s is goes =
      let d : Done Bool (Unit {0}) = script_holds site script s in
      left_into is_dead (λ b _. may_be b (constant_of script.stmts) ≡ true) (λ b _. GoesOn b) s d.answer d.memory d.memory d.state d.notes (script_holds_runs is_dead site lives script s)
      (λ b may e. while_skips site.node.guards script is (subst (λ (x : Bool). may_be x (constant_of script.stmts) ≡ true) e may) goes)

  pub goes_on_left : (s : State) → (before_rule site.node.guards).goes_on ≡ true → Ran GoesOn s (goes_on site s)
  goes_on_left s goes = goes_on_left_by site.node.guards.while_true s refl goes

  -- ---- After an answer

  two_run : (first second : Option Script) (s : State) → Ran (λ (u : Unit {0}). Unit {0}) s (follow (script_if_there site first s) (λ _. tt) (λ _ _ s1. script_if_there site second s1))
  two_run first second s =
      follow_left is_dead (λ _ _. Unit {0}) (λ _ _. Unit {0}) (script_if_there site first s) (λ _. tt) (λ _ _ s1. script_if_there site second s1) s
      (script_if_there_runs is_dead site lives first s) (λ _ _. script_if_there_runs is_dead site lives second (script_if_there site first s).state)

  pub posts_run : (a : Answer) (s : State) → Ran (λ (u : Unit {0}). Unit {0}) s (posts site a s)
  posts_run Running s = nothing_left is_dead (λ _ _. Unit {0}) tt tt s tt
  posts_run Skipped s = nothing_left is_dead (λ _ _. Unit {0}) tt tt s tt
  posts_run Success s = two_run site.node.guards.on_success site.node.guards.post s
  posts_run Failure s = two_run site.node.guards.on_failure site.node.guards.post s
