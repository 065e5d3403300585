-- What holds of the memory of a node and of all below it, at each point of a run.
use Rattle.std.proofs.Common.{◌≡◌, ℕ, ℤ, zero, suc, pos, negsuc, ◌+◌, ◌<◌, ◌≤◌, List, [], ◌∷◌, length, map, Bool, true, false, ◌&&◌, nat_lt, Option, Some, None, IfSome}
use Rattle.std.specs.Prelude.{codes}
use Rattle.std.specs.Ordering.{int_eq}
use Rattle.spec_script.specs.declared.syntax.Script.{Script}
use Rattle.spec_script.specs.declared.value.Value.TheVariants.{Int}
use Rattle.spec_run.specs.declared.memory.Memo.{Memo}
use Rattle.spec_run.specs.declared.memory.Memo.TheVariants.{Index, Finished, Rotation as Rotating}
use Rattle.spec_run.specs.declared.memory.Memory.{Memory, out-Memory}
use Rattle.spec_run.specs.declared.memory.Recoveries.{Recoveries}
use Rattle.spec_run.specs.declared.memory.Rotation.{Rotation}
use Rattle.spec_run.specs.declared.status.Answer.{Answer}
use Rattle.spec_run.specs.declared.status.Answer.TheVariants as answer
use Rattle.spec_run.specs.declared.status.Status.{Status}
use Rattle.spec_run.specs.declared.status.Status.TheVariants as status
use Rattle.spec_tree.specs.declared.term.Guards.{Guards}
use Rattle.spec_tree.specs.declared.term.Kind.{Kind}
use Rattle.spec_tree.specs.declared.term.Kind.TheVariants.{Sequence, SequenceWithMemory, Fallback, IfThenElse, Switch, RecoveryNode, RoundRobin, Retry, Repeat, Timeout, Delay, RunOnce, ScriptNode, ScriptCondition, Leaf}
use Rattle.spec_tree.specs.declared.term.Port.{Port}
use Rattle.spec_tree.specs.declared.term.PortValue.{PortValue}
use Rattle.spec_tree.specs.declared.term.PortValue.TheVariants.{Lit, Key}
use Rattle.spec_tree.specs.declared.term.Term.{Term, Term-F, rec-Term}
use Rattle.spec_world.specs.declared.world.Row.{Row}
use Rattle.spec_run.specs.Rules.Choices.{chosen_of}
use Rattle.spec_run.specs.Rules.OneVisit.{mark_of, since_of}
use Rattle.spec_run.specs.Rules.Recoveries.{recoveries_of}
use Rattle.spec_run.specs.Rules.RoundRobins.{rotation_of}
use Rattle.spec_run.specs.Rules.Sequences.{index_of, seen_of}
use Rattle.spec_run.specs.Rules.Turns.{turns_of}
use Rattle.spec_run.specs.Visit.{meaning}
use Rattle.spec_dead.specs.declared.answers.Answers.{Answers}
use Rattle.spec_dead.specs.Dead.{outlook}
use Rattle.spec_dead.specs.Guards.{answers_after, before_rule}
use Rattle.spec_dead.specs.Reached.{all_before, all_end, all_pass, answers_at, given, is_zero, may_pass, may_recover, reaches}
use Rattle.spec_dead.specs.Rules.{last_skips, rule_answers, some_fails, some_seen}
use Rattle.tree_dead.specs.Runs.{HasRow}
use Rattle.tree_dead.proofs.Sets.{Has}

-- a node apart from its children, with what they may answer
pub record About : Type 0 where
  pub kind : Kind
  pub id : List ℕ
  pub ports : List Port
  pub code : Option Script
  pub guards : Guards
  pub children : List Answers

-- what its rule may answer, and what it may
abbrev pub by_rule : About → Answers
by_rule n = rule_answers n.kind n.ports n.children

abbrev pub by_visit : About → Answers
by_visit n = answers_after (before_rule n.guards) (by_rule n)

-- the children that it may visit, where it is reached or not
abbrev pub may_visit : About → Bool → ℕ → Bool
may_visit n reached place = reached && (before_rule n.guards).goes_on && reaches n.kind n.ports n.children place

-- ---- Memos

-- all children before a place may be skipped
abbrev pub all_skip_before : List Answers → ℕ → Bool
all_skip_before children place = all_before (λ (child : Answers). child.skipped) children place

-- a round that goes on after this answer has come to a place: all children before may let it go on, and one of them may
-- be seen where one was
pub record CameTo (goes : Answer) (skips : ℕ → Type 0) (children : List Answers) (place : ℕ) (seen : Bool) : Type 0 where
  pub inside : place ≤ length children
  pub passed : all_pass goes children place ≡ true
  pub saw : seen ≡ true → some_seen goes children ≡ true
  pub skipped : seen ≡ false → skips place

abbrev pub SkipsAll : List Answers → ℕ → Type 0
SkipsAll children place = all_skip_before children place ≡ true

abbrev pub SkipsLast : List Answers → ℕ → Type 0
SkipsLast children place = length children < place + 1 → last_skips children ≡ true

-- a branch that is reached
abbrev pub IsBranch : List Answers → ℕ → Type 0
IsBranch children (suc zero) = (answers_at children 0).success ≡ true
IsBranch children (suc (suc zero)) = ((answers_at children 0).failure ≡ true) × (nat_lt 2 (length children) ≡ true)
IsBranch children place = ⊥

-- a limit of turns that a port may give
abbrev pub MayEnd : Option PortValue → Type 0
MayEnd (Some (Lit (Int n))) = int_eq n (negsuc 0) ≡ false
MayEnd given = Unit {0}

abbrev pub MayGoOn : Option PortValue → Type 0
MayGoOn (Some (Lit (Int n))) = int_eq n (negsuc 0) ≡ true
MayGoOn (Some (Key key)) = Unit {0}
MayGoOn given = ⊥

abbrev pub IsLimit : Option PortValue → ℤ → Type 0
IsLimit given (pos n) = MayEnd given
IsLimit given (negsuc n) = MayGoOn given

-- a length that is always 0 is 0
abbrev pub IsLength : Option PortValue → ℕ → Type 0
IsLength given length = is_zero given ≡ true → length ≡ 0

-- a RecoveryNode has its second child at hand where that may be reached
pub record Recovers (ports : List Port) (children : List Answers) (r : Recoveries) : Type 0 where
  pub limit : IsLength (given ports (codes "number_of_retries")) r.limit
  pub recovers : r.recovers ≡ true → may_recover ports (answers_at children 0) ≡ true

-- something holds of so many of n children that stand before the one at hand, going round
pub record WentRound (n : ℕ) (Holds : ℕ → Type 0) (at passed : ℕ) : Type 0 where
  pub before : (k : ℕ) → k < at → at ≤ k + passed → Holds k
  pub after : (k : ℕ) → at ≤ k → k < n → at + n ≤ k + passed → Holds k

-- a RoundRobin has come to the child at hand: those that were passed may have failed or been skipped, and one of them may
-- fail where not all were skipped
pub record CameRound (children : List Answers) (r : Rotation) : Type 0 where
  pub inside : r.at < length children
  pub reached : all_end children r.at ≡ true
  pub few : r.skipped ≤ r.passed
  pub passed : WentRound (length children) (λ k. may_pass answer.Failure (answers_at children k) ≡ true) r.at r.passed
  pub skipped : r.skipped ≡ r.passed → WentRound (length children) (λ k. (answers_at children k).skipped ≡ true) r.at r.passed
  pub failed : r.skipped < r.passed → some_fails children ≡ true

-- the memo with which the rule of a node can begin
abbrev pub Begins : Kind → List Port → List Answers → Memo → Type 0
Begins Sequence ports children memo = CameTo answer.Success (SkipsAll children) children (index_of memo) (seen_of memo)
Begins Fallback ports children memo = CameTo answer.Failure (SkipsAll children) children (index_of memo) (seen_of memo)
Begins SequenceWithMemory ports children memo = CameTo answer.Success (SkipsLast children) children (index_of memo) (seen_of memo)
Begins RecoveryNode ports children memo = Recovers ports children (recoveries_of memo)
Begins RoundRobin ports children memo = CameRound children (rotation_of memo) × ((rotation_of memo).passed < length children)
Begins IfThenElse ports children memo = IfSome (chosen_of memo) (IsBranch children)
Begins Retry ports children memo = IsLimit (given ports (codes "num_attempts")) (turns_of memo).limit
Begins Repeat ports children memo = IsLimit (given ports (codes "num_cycles")) (turns_of memo).limit
Begins Timeout ports children memo = IsLength (given ports (codes "msec")) (since_of memo).length
Begins Delay ports children memo = IsLength (given ports (codes "delay_msec")) (since_of memo).length
Begins RunOnce ports children memo = IfSome (mark_of memo) (λ a. Has a (answers_at children 0))
Begins _ ports children memo = Unit {0}

-- the memo that a node keeps that is not RUNNING
abbrev pub RestsWith : Kind → List Answers → Memo → Type 0
RestsWith SequenceWithMemory children (Index at seen) = (all_pass answer.Success children at ≡ true) × (at < length children)
RestsWith RoundRobin children (Rotating r) = (all_end children r.at ≡ true) × (r.at < length children)
RestsWith RunOnce children (Finished (Some a)) = Has a (answers_at children 0)
RestsWith kind children memo = Unit {0}

-- the memo of a node with this status
abbrev pub MemoOf : Kind → List Port → List Answers → Status → Memo → Type 0
MemoOf kind ports children status.Running memo = Begins kind ports children memo
MemoOf kind ports children _ memo = RestsWith kind children memo

-- ---- Nodes

abbrev pub HasCode : Kind → Option Script → Type 0
HasCode ScriptNode None = ⊥
HasCode ScriptCondition None = ⊥
HasCode kind code = Unit {0}

abbrev pub HasOwnRow : Kind → List Row → List ℕ → Type 0
HasOwnRow Leaf rows id = HasRow rows id
HasOwnRow kind rows id = Unit {0}

-- a Switch has a child after its cases, and a child for each case; and nodes that keep a child at hand have one
abbrev pub FewCases : Kind → ℕ → Type 0
FewCases (Switch cases) children = (cases < 7) × (children ≡ cases + 1)
FewCases SequenceWithMemory children = 0 < children
FewCases RoundRobin children = 0 < children
FewCases kind children = Unit {0}

-- what a node has for its rule
pub record IsAble (rows : List Row) (n : About) : Type 0 where
  pub code : HasCode n.kind n.code
  pub row : HasOwnRow n.kind rows n.id
  pub children : FewCases n.kind (length n.children)

-- the status and the memo of a node
pub record HasState (n : About) (reached : Bool) (st : Status) (memo : Memo) : Type 0 where
  pub rests : reached ≡ false → st ≡ status.Idle
  pub goes_on : st ≡ status.Running → (before_rule n.guards).goes_on ≡ true
  pub kept : MemoOf n.kind n.ports n.children st memo

module _ (is_dead : ℕ → Bool) (rows : List Row) where
  pub record NodeStands (n : About) (reached : Bool) (uid : ℕ) (st : Status) (memo : Memo) : Type 0 where
    pub lives : reached ≡ true → is_dead uid ≡ false
    pub able : IsAble rows n
    pub state : HasState n reached st memo

  -- what is asked of a term: where it is reached or not, of its uid and of its memory
  abbrev pub Claims : Type 1
  Claims = Bool → ℕ → Memory → Type 0

  -- .. of some terms in order, of which the first has this uid and this place
  abbrev pub StandAll : {X : Type 0} → (X → ℕ) → (X → Claims) → (ℕ → Bool) → List X → ℕ → ℕ → List Memory → Type 0
  StandAll size stands visits [] uid place [] = Unit {0}
  StandAll size stands visits (c ∷ cs) uid place (m ∷ ms) = stands c (visits place) uid m × StandAll size stands visits cs (uid + size c) (place + 1) ms
  StandAll size stands visits _ uid place _ = ⊥

  abbrev pub about_of : {X : Type 0} → Term-F X → List Answers → About
  about_of node children = record { kind = node.kind; id = node.id; ports = node.ports; code = node.code; guards = node.guards; children = children }

  abbrev pub stands_of_node : (X : Type 0) → (X → Term) → (X → Claims) → Term-F X → Claims
  stands_of_node X term stands node reached uid m =
      NodeStands (about_of node (map (λ c. (outlook (term c)).answers) node.children)) reached uid (out-Memory m).status (out-Memory m).memo
      × StandAll (λ c. (meaning (term c)).size) stands (may_visit (about_of node (map (λ c. (outlook (term c)).answers) node.children)) reached) node.children (uid + 1) 0 (out-Memory m).children

  abbrev pub Stands : Term → Claims
  Stands = rec-Term Claims stands_of_node
