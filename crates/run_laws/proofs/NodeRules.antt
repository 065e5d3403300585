-- The rule of a node of any kind keeps the rules of states.
use Rattle.std.proofs.Common.{◌≡◌, ℕ, ◌+◌, List, Bool, true, false, if◌then◌else◌, Option, Some, None, refl, sym, ap, subst, ◌∙◌, arith}
use Rattle.spec_script.specs.declared.syntax.Script.{Script}
use Rattle.spec_run.specs.declared.memory.Memo.{Memo}
use Rattle.spec_run.specs.declared.memory.Memo.TheVariants.{Nothing}
use Rattle.spec_run.specs.declared.memory.Memory.{Memory}
use Rattle.spec_run.specs.declared.status.Answer.{Answer}
use Rattle.spec_run.specs.declared.status.Answer.TheVariants as answer
use Rattle.spec_run.specs.declared.status.Status.{Status}
use Rattle.spec_run.specs.declared.status.Status.TheVariants as status
use Rattle.spec_tree.specs.declared.term.Kind.{Kind}
use Rattle.spec_tree.specs.declared.term.Kind.TheVariants.{AlwaysSuccess, AlwaysFailure, ScriptNode, ScriptCondition, Leaf}
use Rattle.spec_tree.specs.declared.term.Term.{Term-F}
use Rattle.spec_world.specs.declared.world.Row.{Row}
use Rattle.spec_run.specs.Done.{Done, State, follow}
use Rattle.spec_run.specs.Leaves.{gives, row_of, script_condition, script_node}
use Rattle.spec_run.specs.NodeScripts.{script_holds, script_run}
use Rattle.base_tables.specs.Shapes.{AllIdle, RunningShape, Shape, is_running}
use Rattle.spec_run.specs.Sites.{Site, View}
use Rattle.base_tables.specs.Sound.{NodeRule, held_at, is_held, statuses}
use Rattle.spec_run.specs.Steps.{Given}
use Rattle.spec_run.specs.Visit.{kind_rule, node_rule, status_of}
use Rattle.run_laws.proofs.Parts.{held_same, left_into, within_same}
use Rattle.run_laws.proofs.Children.{Family, SoundAll}
use Rattle.spec_tree.specs.BuiltIns.{has_rule}
use Rattle.run_laws.proofs.Beginnings.{Begins, site_here}
use Rattle.run_laws.proofs.KindRules.{kind_rule_leaves, rests_idle, rests_whole}
use Rattle.run_laws.proofs.Scripts.{Runs, script_holds_leaves, script_run_leaves}
use Rattle.run_laws.proofs.Whole.{RuledAs, size_here}
use Rattle.run_laws.proofs.AfterScripts.{after_scripts, children_still, still_held}
use Rattle.run_laws.proofs.LeafCalls.{leaf_call_leaves}

-- no instance of a node that is not RUNNING is held
pub rests_free : (st : Status) (kind : Kind) → is_running st ≡ false → is_held st kind ≡ false
rests_free status.Running kind rests = cc
rests_free status.Idle kind rests = refl
rests_free status.Success kind rests = refl
rests_free status.Failure kind rests = refl

-- no instance of a node with children is held
pub rule_free : (st : Status) (kind : Kind) → has_rule kind ≡ true → is_held st kind ≡ false
rule_free status.Running Leaf ruled = cc
rule_free status.Running _ ruled = refl
rule_free status.Idle kind ruled = refl
rule_free status.Success kind ruled = refl
rule_free status.Failure kind ruled = refl

module _ (F : Family) (node : Term-F F.Child) (view : View) (uid : ℕ) where
  abbrev here : Site
  here = site_here F node view uid

  abbrev row : Option Row
  row = row_of view.rows node.id

  abbrev All : Option ℕ → List Memory → State → Type 0
  All f ms s = SoundAll F view.rows node.children f (uid + 1) ms s

  abbrev NodeIs : Kind → Status → Memo → List Memory → State → Type 0
  NodeIs kind st memo ms s = NodeRule kind node.ports row uid st memo ms s

  -- what is needed for the rule of a node of this kind to begin at this status
  pub record Ready (kind : Kind) (st : Status) (memo : Memo) (ms : List Memory) (s : State) : Type 0 where
    pub begins : has_rule kind ≡ true → Begins kind node.ports s.moment memo (statuses ms)
    pub shape : has_rule kind ≡ false → Shape st kind node.ports row s.moment memo (statuses ms)
    pub held : held_at s uid ≡ Some (is_held st kind)

  -- ---- Nodes without children and without a driver

  -- the children are IDLE and the instance is not held
  record Plain (ms : List Memory) (s : State) : Type 0 where
    idle : AllIdle (statuses ms)
    free : held_at s uid ≡ Some false

  module _ (kind : Kind) (ms : List Memory) where
    rests_as : (a : Answer) (s : State) → is_running (status_of a) ≡ false → Plain ms s → NodeIs kind (status_of a) Nothing ms s
    rests_as answer.Running s rests plain = cc
    rests_as answer.Success s rests plain = record { shape = plain.idle; held = plain.free }
    rests_as answer.Failure s rests plain = record { shape = plain.idle; held = plain.free }
    rests_as answer.Skipped s rests plain = record { shape = plain.idle; held = plain.free }

    gives_leaves : (a : Answer) (s : State) → is_running (status_of a) ≡ false → Plain ms s → All None ms s → RuledAs F node view uid kind s (gives a ms s)
    gives_leaves a s rests plain sound = record { sound = sound; within = within_same uid (size_here F node view uid) s; ends = rests_as a s rests plain }

    if_rests : (b : Bool) → is_running (status_of (if b then answer.Success else answer.Failure)) ≡ false
    if_rests true = refl
    if_rests false = refl

    module _ (s : State) (plain : Plain ms s) (sound : All None ms s) where
      -- scripts, and then an answer that is not RUNNING
      gives_after : {A : Type 0} (d : Done A (Unit {0})) (a : A → Answer) → ((x : A) → is_running (status_of (a x)) ≡ false) → Runs here (λ (x : A). Unit {0}) s d →
          RuledAs F node view uid kind s (follow d (λ _. ms) (λ x _ s1. gives (a x) ms s1))
      gives_after d a rests runs =
          after_scripts F node view uid All (λ g ms1 s1. NodeIs kind (status_of g.answer) g.memo ms1 s1) (λ _. Unit {0}) ms s d (λ x s1. gives (a x) ms s1) runs
          (λ x _ still. gives_leaves (a x) d.state (rests x) (record { idle = plain.idle; free = still_held still uid ∙ plain.free }) (children_still still F node view uid None ms sound))
          (λ f low high still. children_still still F node view uid (Some f) ms sound)

      script_node_leaves : (code : Option Script) → RuledAs F node view uid kind s (script_node code here ms s)
      script_node_leaves None = gives_leaves answer.Skipped s refl plain sound
      script_node_leaves (Some code) = gives_after (script_run here code s) (λ value. answer.Success) (λ value. refl) (script_run_leaves here code s)

      script_condition_leaves : (code : Option Script) → RuledAs F node view uid kind s (script_condition code here ms s)
      script_condition_leaves None = gives_leaves answer.Skipped s refl plain sound
      script_condition_leaves (Some code) = gives_after (script_holds here code s) (λ b. if b then answer.Success else answer.Failure) if_rests (script_holds_leaves here code s)

  -- ---- All kinds

  module _ (st : Status) (memo : Memo) (ms : List Memory) (s : State) (sound : All None ms s) where
    -- a node of a kind that is never RUNNING when its rule begins, and that has no memo
    module _ (kind : Kind) (never : RunningShape kind node.ports row s.moment memo (statuses ms) → ⊥) (whole : rests_whole kind ≡ true) where
      plain_by : (old : Status) → Shape old kind node.ports row s.moment memo (statuses ms) → held_at s uid ≡ Some (is_held old kind) → Plain ms s
      plain_by status.Running shape held = absurd (never shape)
      plain_by status.Idle shape held = record { idle = rests_idle node.ports s.moment memo kind (statuses ms) whole shape; free = held }
      plain_by status.Success shape held = record { idle = rests_idle node.ports s.moment memo kind (statuses ms) whole shape; free = held }
      plain_by status.Failure shape held = record { idle = rests_idle node.ports s.moment memo kind (statuses ms) whole shape; free = held }

      is_plain : has_rule kind ≡ false → Ready kind st memo ms s → Plain ms s
      is_plain ruled ready = plain_by st (ready.shape ruled) ready.held

    -- a node with children
    kind_leaves : Ready node.kind st memo ms s → has_rule node.kind ≡ true → RuledAs F node view uid node.kind s (kind_rule here memo ms s)
    kind_leaves ready ruled =
        let d : Done Given (List Memory) = kind_rule here memo ms s in
        left_into uid (size_here F node view uid) uid (size_here F node view uid) s d.answer d.memory d.memory d.state (omega arith) (omega arith)
        (kind_rule_leaves F node view uid row memo ms s sound (ready.begins ruled))
        (λ f all w. all)
        (λ g fits all w. record {
          shape = fits.0;
          held = held_same s d.state uid fits.1 ∙ ready.held ∙ ap Some (rule_free st node.kind ruled ∙ sym (rule_free (status_of g.answer) node.kind ruled));
        })

    -- the rule of a node of any kind
    pub node_rule_leaves : (kind : Kind) → node.kind ≡ kind → Ready kind st memo ms s → RuledAs F node view uid kind s (node_rule kind here st memo ms s)
    node_rule_leaves Leaf is ready = leaf_call_leaves F node view uid row st memo ms s sound (record { shape = ready.shape refl; held = ready.held })
    node_rule_leaves ScriptNode is ready = script_node_leaves ScriptNode ms s (is_plain ScriptNode (λ shape. shape) refl refl ready) sound node.code
    node_rule_leaves ScriptCondition is ready = script_condition_leaves ScriptCondition ms s (is_plain ScriptCondition (λ shape. shape) refl refl ready) sound node.code
    node_rule_leaves AlwaysSuccess is ready = gives_leaves AlwaysSuccess ms answer.Success s refl (is_plain AlwaysSuccess (λ shape. shape) refl refl ready) sound
    node_rule_leaves AlwaysFailure is ready = gives_leaves AlwaysFailure ms answer.Failure s refl (is_plain AlwaysFailure (λ shape. shape) refl refl ready) sound
    node_rule_leaves kind is ready =
        subst (λ (k : Kind). RuledAs F node view uid k s (kind_rule here memo ms s)) is
        (kind_leaves (subst (λ (k : Kind). Ready k st memo ms s) (sym is) ready) (ap has_rule is))
