-- What the scripts of a node leave: all but the values of the board stays, and a fault is of the node.
use Rattle.std.proofs.Common.{◌≡◌, ℕ, List, [], ◌∷◌, Bool, true, false, length, Option, Some, None, IfSome, Result, Ok, Err, refl, ◌∙◌, arith}
use Rattle.std.proofs.lemmas.List.{length-set}
use Rattle.spec_script.specs.declared.fault.ExecFault.{ExecFault}
use Rattle.spec_script.specs.declared.syntax.Script.{Script}
use Rattle.spec_script.specs.declared.syntax.Stmt.{Stmt}
use Rattle.spec_script.specs.declared.syntax.Stmt.TheVariants.{Create, Assign, Change, Plain}
use Rattle.spec_script.specs.declared.value.Value.{Value}
use Rattle.spec_script.specs.declared.value.Value.TheVariants.{Int, Text}
use Rattle.spec_script.specs.Evaluation.{Run, followed, stmt_of, stmts_of, written}
use Rattle.spec_run.specs.declared.status.Answer.{Answer}
use Rattle.spec_run.specs.declared.status.Answer.TheVariants.{Running, Success, Failure, Skipped}
use Rattle.spec_run.specs.Done.{Done, State, done, follow}
use Rattle.spec_run.specs.NodeScripts.{answers_where, goes_on, goes_on_by, guard, guards_answer, posts, script_holds, script_if_there, script_left, script_run, truth_of}
use Rattle.base_tables.specs.Shapes.{is_running}
use Rattle.spec_run.specs.Sites.{Site}
use Rattle.base_tables.specs.Sound.{Leaves, Within}
use Rattle.spec_run.specs.Visit.{status_of}
use Rattle.run_laws.proofs.Parts.{follow_leaves, left_into, within_same}

-- ---- The entries

written_many : (slot : ℕ) (entries : List (Option Value)) (found : Result Value ExecFault) → length (written slot entries found).entries ≡ length entries
written_many slot entries (Ok value) = length-set entries slot (Some value)
written_many slot entries (Err fault) = refl

stmt_many : (names : List ℕ → ℕ) (stmt : Stmt) (entries : List (Option Value)) → length (stmt_of names stmt entries).entries ≡ length entries
stmt_many names (Create name e) entries = written_many (names name) entries _
stmt_many names (Assign name e) entries = written_many (names name) entries _
stmt_many names (Change op name e) entries = written_many (names name) entries _
stmt_many names (Plain e) entries = refl

followed_many : (r : Result Value ExecFault) (entries : List (Option Value)) (next : Value → List (Option Value) → Run) → ((value : Value) → length (next value entries).entries ≡ length entries) →
    length (followed r entries next).entries ≡ length entries
followed_many (Ok value) entries next many = many value
followed_many (Err fault) entries next many = refl

-- statements leave as many entries
stmts_many : (names : List ℕ → ℕ) (last : Value) (stmts : List Stmt) (entries : List (Option Value)) → length (stmts_of names last stmts entries).entries ≡ length entries
stmts_many names last [] entries = refl
stmts_many names last (s ∷ rest) entries =
    let run : Run = stmt_of names s entries in
    followed_many run.answer run.entries (λ value left. stmts_of names value rest left) (λ value. stmts_many names value rest run.entries) ∙ stmt_many names s entries

-- ---- One script

module _ (site : Site) where
  -- some scripts leave all but the values of the board, and their answer is one of these; a fault is one of the node
  abbrev pub Runs : {A : Type 0} → (A → Type 0) → State → Done A (Unit {0}) → Type 0
  Runs fits s d = Leaves (λ f _ s1. s1.instances ≡ s.instances) (λ a _ s1. fits a) site.uid 1 s d

  -- one script, and then what comes after it
  then_runs : {A B : Type 0} (fits : A → Type 0) (fits2 : B → Type 0) (s : State) (d : Done A (Unit {0})) (go : A → State → Done B (Unit {0})) →
      Runs fits s d → ((a : A) → fits a → Runs fits2 d.state (go a d.state)) → Runs fits2 s (follow d (λ _. tt) (λ a _ s1. go a s1))
  then_runs {A} {B} fits fits2 s d go first goes =
      follow_leaves {rules = λ f _ s1. s1.instances ≡ s.instances} {fits = λ a _ s1. fits a} {rules2 = λ f _ s1. s1.instances ≡ s.instances} {fits2 = λ b _ s1. fits2 b}
      d (λ _. tt) (λ a _ s1. go a s1) site.uid 1 site.uid 1 s (omega arith) (omega arith) first
      (λ a fit same w. let e : Done B (Unit {0}) = go a d.state in
      left_into site.uid 1 site.uid 1 d.state e.answer e.memory e.memory e.state (omega arith) (omega arith) (goes a fit) (λ f still w1. still ∙ same) (λ b fit2 still w1. fit2))
      (λ f low high same w. same)

  -- nothing runs
  none_runs : {A : Type 0} (fits : A → Type 0) (a : A) (s : State) → fits a → Runs fits s (done a tt s)
  none_runs fits a s fit = record { sound = refl; within = within_same site.uid 1 s; ends = fit }

  board_within : (s : State) (board : List (Option Value)) → length board ≡ length s.board → Within site.uid 1 s (record s { board = board })
  board_within s board many = record { below = λ p e. refl; above = λ p e. refl; slots = many; facts = refl; instances = refl; moment = refl; dated = λ d. d }

  run_leaves : (s : State) (answer : Result Value ExecFault) (entries : List (Option Value)) → length entries ≡ length s.board →
      Runs (λ _. Unit {0}) s (script_left site.uid s (record { answer = answer; entries = entries }))
  run_leaves s (Ok value) entries many = record { sound = refl; within = board_within s entries many; ends = tt }
  run_leaves s (Err fault) entries many = record { sound = refl; within = board_within s entries many; ends = (omega arith, omega arith) }

  pub script_run_leaves : (script : Script) (s : State) → Runs (λ _. Unit {0}) s (script_run site script s)
  script_run_leaves script s = run_leaves s _ _ (stmts_many _ (Int _) script.stmts s.board)

  truth_leaves : (value : Value) (s : State) → Runs (λ _. Unit {0}) s (record { answer = truth_of site.uid value; memory = tt; state = s; notes = []; calls = [] })
  truth_leaves (Int n) s = record { sound = refl; within = within_same site.uid 1 s; ends = tt }
  truth_leaves (Text t) s = record { sound = refl; within = within_same site.uid 1 s; ends = (omega arith, omega arith) }

  pub script_holds_leaves : (script : Script) (s : State) → Runs (λ _. Unit {0}) s (script_holds site script s)
  script_holds_leaves script s =
      then_runs (λ _. Unit {0}) (λ _. Unit {0}) s (script_run site script s) (λ value s1. record { answer = truth_of site.uid value; memory = tt; state = s1; notes = []; calls = [] })
      (script_run_leaves script s) (λ value _. truth_leaves value (script_run site script s).state)

  pub script_if_there_leaves : (script : Option Script) (s : State) → Runs (λ _. Unit {0}) s (script_if_there site script s)
  script_if_there_leaves None s = none_runs (λ _. Unit {0}) tt s tt
  script_if_there_leaves (Some script) s =
      then_runs (λ _. Unit {0}) (λ _. Unit {0}) s (script_run site script s) (λ value s1. done tt tt s1) (script_run_leaves script s)
      (λ value _. none_runs (λ _. Unit {0}) tt (script_run site script s).state tt)

  -- ---- Guards

  -- no guard answers RUNNING
  abbrev pub Rests : Option Answer → Type 0
  Rests o = IfSome o (λ a. is_running (status_of a) ≡ false)

  answers_leave : (truth : Bool) (a : Answer) (next : State → Done (Option Answer) (Unit {0})) (b : Bool) (s : State) → is_running (status_of a) ≡ false → Runs Rests s (next s) →
      Runs Rests s (answers_where truth a next b s)
  answers_leave true a next true s rests goes = none_runs Rests (Some a) s rests
  answers_leave false a next false s rests goes = none_runs Rests (Some a) s rests
  answers_leave true a next false s rests goes = goes
  answers_leave false a next true s rests goes = goes

  guard_leaves : (script : Option Script) (truth : Bool) (a : Answer) (next : State → Done (Option Answer) (Unit {0})) → is_running (status_of a) ≡ false → ((s : State) → Runs Rests s (next s)) →
      (s : State) → Runs Rests s (guard site script truth a next s)
  guard_leaves None truth a next rests goes s = goes s
  guard_leaves (Some script) truth a next rests goes s =
      then_runs (λ _. Unit {0}) Rests s (script_holds site script s) (λ b s1. answers_where truth a next b s1) (script_holds_leaves script s)
      (λ b _. let s1 : State = (script_holds site script s).state in answers_leave truth a next b s1 rests (goes s1))

  pub guards_leave : (s : State) → Runs Rests s (guards_answer site s)
  guards_leave =
      guard_leaves site.node.guards.failure_if true Failure _ refl
      (guard_leaves site.node.guards.success_if true Success _ refl
      (guard_leaves site.node.guards.skip_if true Skipped _ refl
      (guard_leaves site.node.guards.while_true false Skipped (λ s1. done None tt s1) refl (λ s1. none_runs Rests None s1 tt))))

  goes_on_leaves_by : (script : Option Script) (s : State) → Runs (λ _. Unit {0}) s (goes_on_by site script s)
  goes_on_leaves_by None s = none_runs (λ _. Unit {0}) true s tt
  goes_on_leaves_by (Some script) s = script_holds_leaves script s

  pub goes_on_leaves : (s : State) → Runs (λ _. Unit {0}) s (goes_on site s)
  goes_on_leaves s = goes_on_leaves_by site.node.guards.while_true s

  -- ---- After an answer

  two_leave : (first second : Option Script) (s : State) → Runs (λ _. Unit {0}) s (follow (script_if_there site first s) (λ _. tt) (λ _ _ s1. script_if_there site second s1))
  two_leave first second s =
      then_runs (λ _. Unit {0}) (λ _. Unit {0}) s (script_if_there site first s) (λ _ s1. script_if_there site second s1)
      (script_if_there_leaves first s) (λ _ _. script_if_there_leaves second (script_if_there site first s).state)

  pub posts_leave : (a : Answer) (s : State) → Runs (λ _. Unit {0}) s (posts site a s)
  posts_leave Running s = none_runs (λ _. Unit {0}) tt s tt
  posts_leave Skipped s = none_runs (λ _. Unit {0}) tt s tt
  posts_leave Success s = two_leave site.node.guards.on_success site.node.guards.post s
  posts_leave Failure s = two_leave site.node.guards.on_failure site.node.guards.post s
