-- A visit, a halt and a reset of a node above children that are known.
use Rattle.std.proofs.Common.{◌≡◌, ℕ, zero, suc, ◌+◌, List, [], ◌∷◌, ◌++◌, length, map, Bool, true, false, ◌&&◌, Option, Some, None, Result, Ok, Err, IfOk, slice_get, slice_set, refl, sym, ap, subst, ◌∙◌, if◌then◌else◌}
use Rattle.std.proofs.lemmas.Bool.{and_from}
use Rattle.std.proofs.lemmas.List.{length-map}
use Rattle.spec_script.specs.declared.syntax.Script.{Script}
use Rattle.spec_run.specs.declared.fault.NumericPort.{NumericPort}
use Rattle.spec_run.specs.declared.leaf.Phase.{Phase}
use Rattle.spec_run.specs.declared.leaf.Phase.TheVariants as phase
use Rattle.spec_run.specs.declared.leaf.Reply.{Reply}
use Rattle.spec_run.specs.declared.leaf.Reply.TheVariants as reply
use Rattle.spec_run.specs.declared.memory.Memo.{Memo}
use Rattle.spec_run.specs.declared.memory.Memo.TheVariants.{Nothing}
use Rattle.spec_run.specs.declared.memory.Memory.{Memory, Memory-F, out-Memory, out-roll-Memory}
use Rattle.spec_run.specs.declared.moves.Span.TheVariants as span
use Rattle.spec_run.specs.declared.status.Answer.{Answer}
use Rattle.spec_run.specs.declared.status.Answer.TheVariants as answer
use Rattle.spec_run.specs.declared.status.Status.{Status}
use Rattle.spec_run.specs.declared.status.Status.TheVariants as status
use Rattle.spec_tree.specs.declared.term.Kind.{Kind}
use Rattle.spec_tree.specs.declared.term.Kind.TheVariants.{AlwaysSuccess, AlwaysFailure, ScriptNode, ScriptCondition, Leaf}
use Rattle.spec_tree.specs.declared.term.Term.{Term-F}
use Rattle.spec_tree.specs.declared.term.Term.TheFolds.{map-Term}
use Rattle.spec_world.specs.declared.world.Row.{Row}
use Rattle.spec_tree.specs.BuiltIns.{has_rule}
use Rattle.spec_run.specs.Done.{Done, State, following, done, ends, follow}
use Rattle.spec_run.specs.Leaf.{Answered}
use Rattle.spec_run.specs.Leaves.{called, gives, leaf_answered, leaf_call, phase_of, reply_answer, reply_board, reply_notes, row_of, script_condition, script_node}
use Rattle.spec_run.specs.Ports.{new_memo, picked}
use Rattle.spec_run.specs.Rules.Kinds.{rule}
use Rattle.spec_run.specs.Run.{settled}
use Rattle.spec_run.specs.NodeScripts.{goes_on, guards_answer, posts, script_holds, script_if_there, script_run}
use Rattle.base_tables.specs.Shapes.{is_running}
use Rattle.spec_run.specs.Sites.{Meaning, Site, View, children_of, remembered, view_below}
use Rattle.spec_run.specs.Steps.{Given, resets}
use Rattle.spec_run.specs.Visit.{begun, change, cleared, continued, ended, guarded, halt, halt_notes, halt_state, halted, kind_rule, node_rule, or_bad_port, remembers, reset_by, ruled, site_of, starts, status_of, visit_by}
use Rattle.spec_dead.specs.Answers.{only_if}
use Rattle.spec_dead.specs.Guards.{before_rule, constant_of}
use Rattle.spec_dead.specs.Reached.{reaches}
use Rattle.tree_dead.proofs.Constants.{IsConstant, script_holds_runs, script_if_there_runs, script_runs}
use Rattle.tree_dead.proofs.Fits.{About, Begins, HasCode, HasOwnRow, HasState, IsAble, MemoOf, NodeStands, RestsWith, about_of, by_rule, by_visit, may_visit}
use Rattle.tree_dead.proofs.Guarded.{GoesOn, Guarded, goes_on_left, guards_left, posts_run}
use Rattle.tree_dead.proofs.KindRules.{PickFits, kind_fits}
use Rattle.tree_dead.proofs.Parts.{AllLive, Leaves, Left, Lives, after_left, follow_left, live_both, nothing_left}
use Rattle.tree_dead.proofs.Picks.{cleared_rests, kept_fits, picks, remembers_rests, starts_fit}
use Rattle.tree_dead.proofs.Rounds.{Gives}
use Rattle.tree_dead.proofs.Seats.{Family}
use Rattle.tree_dead.proofs.Sets.{Has, either_left, either_right, if_so, not_both}
use Rattle.tree_dead.proofs.Words.{Children, Stand, span_left}

-- an entry of a list where another one was set
get_set_other : {A : Type 0} (xs : List A) (i p : ℕ) (a : A) → (p ≡ i → ⊥) → slice_get (slice_set xs i a) p ≡ slice_get xs p
get_set_other [] i p a other = refl
get_set_other (x ∷ xs) zero zero a other = absurd (other refl)
get_set_other (x ∷ xs) zero (suc p) a other = refl
get_set_other (x ∷ xs) (suc i) zero a other = refl
get_set_other (x ∷ xs) (suc i) (suc p) a other = get_set_other xs i p a (λ same. other (ap suc same))

module _ (is_dead : ℕ → Bool) (uid : ℕ) (lives : Lives is_dead uid) where
  -- a node that is not dead is another one than a dead one
  apart : (p : ℕ) → is_dead p ≡ true → p ≡ uid → ⊥
  apart p dead same = not_both dead (ap is_dead same ∙ lives)

  pub change_live : (old new : Status) → AllLive is_dead (change uid old new)
  change_live status.Idle status.Idle = tt
  change_live status.Idle status.Running = (lives, tt)
  change_live status.Idle status.Success = (lives, tt)
  change_live status.Idle status.Failure = (lives, tt)
  change_live status.Running status.Idle = (lives, tt)
  change_live status.Running status.Running = tt
  change_live status.Running status.Success = (lives, tt)
  change_live status.Running status.Failure = (lives, tt)
  change_live status.Success status.Idle = (lives, tt)
  change_live status.Success status.Running = (lives, tt)
  change_live status.Success status.Success = tt
  change_live status.Success status.Failure = (lives, tt)
  change_live status.Failure status.Idle = (lives, tt)
  change_live status.Failure status.Running = (lives, tt)
  change_live status.Failure status.Success = (lives, tt)
  change_live status.Failure status.Failure = tt

  called_live : (p : Phase) (a : Answer) → AllLive is_dead (called p uid a ∷ [])
  called_live phase.Start a = (lives, tt)
  called_live phase.Running a = (lives, tt)
  called_live phase.Told a = (lives, tt)
  called_live phase.Halted a = (lives, tt)

module _ (is_dead : ℕ → Bool) (rows : List Row) (F : Family is_dead rows) (node : Term-F F.Child) (view : View) (same : view.rows ≡ rows) (uid : ℕ) where
  abbrev about : About
  about = about_of is_dead rows node (map F.answers node.children)

  abbrev here : Site
  here = site_of (map-Term F.Child Meaning F.meaning node) view uid

  -- the children, where the node is reached or not
  abbrev kids : Bool → Children is_dead rows
  kids reached = record { family = F; visits = may_visit about reached; view = view_below here; same = same; list = node.children; first = uid + 1 }

  abbrev Below : Bool → List Memory → Type 0
  Below reached ms = Stand is_dead rows (kids reached) ms

  -- the node and its children
  abbrev pub Own : Bool → Memory → Type 0
  Own reached m = NodeStands is_dead rows about reached uid (out-Memory m).status (out-Memory m).memo × Below reached (out-Memory m).children

  as_kept : (reached : Bool) (st : Status) (memo : Memo) (ms : List Memory) → NodeStands is_dead rows about reached uid st memo → Below reached ms → Own reached (remembered st memo ms)
  as_kept reached st memo ms own all =
      subst (λ (x : Memory-F Memory). NodeStands is_dead rows about reached uid x.status x.memo × Below reached x.children) (sym (out-roll-Memory (record { status = st; memo = memo; children = ms }))) (own, all)

  module _ (lives : Lives is_dead uid) (able : IsAble rows about) where
    stands_with : (st : Status) (memo : Memo) → (st ≡ status.Running → (before_rule node.guards).goes_on ≡ true) → MemoOf node.kind node.ports about.children st memo → NodeStands is_dead rows about true uid st memo
    stands_with st memo goes kept = record { lives = λ e. lives; able = able; state = record { rests = λ e. cc; goes_on = goes; kept = kept } }

    -- what a visit leaves
    abbrev pub Visited : State → Done Answer Memory → Type 0
    Visited s d = Leaves is_dead (λ a m1. Has a (by_visit about) × Own true m1) s d

    -- the end of a visit
    ended_left : (old : Status) (g : Given) (ms : List Memory) (s : State) → Has g.answer (by_visit about) → (status_of g.answer ≡ status.Running → (before_rule node.guards).goes_on ≡ true) → MemoOf node.kind node.ports about.children (status_of g.answer) g.memo → Below true ms →
        Visited s (ended here old g ms s)
    ended_left old g ms s has goes kept all =
        let d : Done (Unit {0}) (Unit {0}) = posts here g.answer s in
        follow_left is_dead (λ _ _. Unit {0}) (λ a m1. Has a (by_visit about) × Own true m1) d (λ _. remembered old g.memo ms)
        (λ _ _ s1. following (change uid old (status_of g.answer)) [] (done g.answer (remembered (status_of g.answer) g.memo ms) s1)) s (posts_run is_dead here lives g.answer s)
        (λ _ _. after_left is_dead (λ a m1. Has a (by_visit about) × Own true m1) (change uid old (status_of g.answer)) [] d.state (done g.answer (remembered (status_of g.answer) g.memo ms) d.state)
        (change_live is_dead uid lives old (status_of g.answer))
        (nothing_left is_dead (λ a m1. Has a (by_visit about) × Own true m1) g.answer (remembered (status_of g.answer) g.memo ms) d.state (has, as_kept true (status_of g.answer) g.memo ms (stands_with (status_of g.answer) g.memo goes kept) all)))

    -- ---- The rule

    -- what the rule of a node leaves, as one of this kind
    abbrev Ruled : Kind → State → Done Given (List Memory) → Type 0
    Ruled kind s d = Leaves is_dead (λ g ms1. Gives kind node.ports about.children g × Below true ms1) s d

    gives_left : (kind : Kind) (a : Answer) (ms : List Memory) (s : State) → Gives kind node.ports about.children (record { answer = a; memo = Nothing }) → Below true ms → Ruled kind s (gives a ms s)
    gives_left kind a ms s fit all = nothing_left is_dead (λ g ms1. Gives kind node.ports about.children g × Below true ms1) (record { answer = a; memo = Nothing }) ms s (fit, all)

    leaf_fit : (a : Answer) → (a ≡ answer.Skipped → ⊥) → Gives Leaf node.ports about.children (record { answer = a; memo = Nothing })
    leaf_fit answer.Running other = (refl, tt)
    leaf_fit answer.Success other = (refl, tt)
    leaf_fit answer.Failure other = (refl, tt)
    leaf_fit answer.Skipped other = absurd (other refl)

    module _ (row : Row) (p : Phase) (a : Answered) (ms : List Memory) (s : State) (all : Below true ms) where
      reply_left : (r : Reply) →
          Left is_dead (λ g ms1. Gives Leaf node.ports about.children g × Below true ms1) s (reply_answer uid r) ms
          (record { board = reply_board here row a s.board r; facts = a.facts; instances = slice_set s.instances uid a.instance; moment = s.moment }) (reply_notes p uid r)
      reply_left reply.Running = record { ends = (leaf_fit answer.Running (λ e. cc), all); live = called_live is_dead uid lives p answer.Running; spares = λ k dead. get_set_other s.instances uid k a.instance (apart is_dead uid lives k dead) }
      reply_left reply.Success = record { ends = (leaf_fit answer.Success (λ e. cc), all); live = called_live is_dead uid lives p answer.Success; spares = λ k dead. get_set_other s.instances uid k a.instance (apart is_dead uid lives k dead) }
      reply_left reply.Failure = record { ends = (leaf_fit answer.Failure (λ e. cc), all); live = called_live is_dead uid lives p answer.Failure; spares = λ k dead. get_set_other s.instances uid k a.instance (apart is_dead uid lives k dead) }
      reply_left (reply.Broken cause) = record { ends = lives; live = tt; spares = λ k dead. get_set_other s.instances uid k a.instance (apart is_dead uid lives k dead) }

    leaf_left : (o : Option Row) (st : Status) (ms : List Memory) (s : State) → (o ≡ None → ⊥) → Below true ms → Ruled Leaf s (leaf_call o here st ms s)
    leaf_left None st ms s there all = absurd (there refl)
    leaf_left (Some row) st ms s there all =
        let a : Answered = leaf_answered here row st s in
        reply_left row (phase_of st) a ms s all a.reply

    script_left_here : (code : Option Script) (ms : List Memory) (s : State) → HasCode ScriptNode code → Below true ms → Ruled ScriptNode s (script_node code here ms s)
    script_left_here None ms s has all = absurd has
    script_left_here (Some code) ms s has all =
        follow_left is_dead (λ v _. IsConstant (constant_of code.stmts) v) (λ g ms1. Gives ScriptNode node.ports about.children g × Below true ms1) (script_run here code s) (λ _. ms) (λ value _ s1. gives answer.Success ms s1) s
        (script_runs is_dead here lives code s) (λ v is. gives_left ScriptNode answer.Success ms (script_run here code s).state (refl, tt) all)

    condition_left : (code : Option Script) (ms : List Memory) (s : State) → HasCode ScriptCondition code → Below true ms → Ruled ScriptCondition s (script_condition code here ms s)
    condition_left None ms s has all = absurd has
    condition_left (Some code) ms s has all =
        follow_left is_dead (λ b _. _) (λ g ms1. Gives ScriptCondition node.ports about.children g × Below true ms1) (script_holds here code s) (λ _. ms) (λ b _ s1. gives (if b then answer.Success else answer.Failure) ms s1) s
        (script_holds_runs is_dead here lives code s) (λ b is. either_way b)
      where
        either_way : (b : Bool) → Ruled ScriptCondition (script_holds here code s).state (gives (if b then answer.Success else answer.Failure) ms (script_holds here code s).state)
        either_way true = gives_left ScriptCondition answer.Success ms (script_holds here code s).state (refl, tt) all
        either_way false = gives_left ScriptCondition answer.Failure ms (script_holds here code s).state (refl, tt) all

    many : length here.node.children ≡ length about.children
    many = length-map node.children F.meaning ∙ sym (length-map node.children F.answers)

    module _ (goes : (before_rule node.guards).goes_on ≡ true) where
      comes : (place : ℕ) → reaches node.kind node.ports about.children place ≡ true → may_visit about true place ≡ true
      comes place is = and_from (true && (before_rule node.guards).goes_on) (reaches node.kind node.ports about.children place) goes is

      picked_left : (memo : Memo) (ms : List Memory) (s : State) (r : Result ℕ NumericPort) → has_rule node.kind ≡ true → Begins node.kind node.ports about.children memo → IfOk r (λ k. PickFits node.kind node.ports about.children memo k) → Below true ms →
          Ruled node.kind s (follow (ends (or_bad_port uid r) ms s) (λ ms1. ms1) (λ place ms1 s1. rule node.kind (length here.node.children) memo place s1.moment (children_of here) ms1 s1))
      picked_left memo ms s (Err bad) has begins pick all = record { ends = lives; live = tt; spares = λ p e. refl }
      picked_left memo ms s (Ok place) has begins pick all =
          let d : Done Given (List Memory) = rule node.kind (length here.node.children) memo place s.moment (children_of here) ms s in
          let left : Ruled node.kind s d =
          subst (λ (k : ℕ). Ruled node.kind s (rule node.kind k memo place s.moment (children_of here) ms s)) (sym many) (kind_fits is_dead rows (kids true) node.ports memo place s.moment node.kind has begins pick comes ms s all) in
          record { ends = left.ends; live = left.live; spares = left.spares }

      rule_left : (kind : Kind) (st : Status) (memo : Memo) (ms : List Memory) (s : State) → node.kind ≡ kind → Begins node.kind node.ports about.children memo → Below true ms → Ruled kind s (node_rule kind here st memo ms s)
      rule_left Leaf st memo ms s is begins all = leaf_left (row_of view.rows node.id) st ms s (subst (λ (k : Kind). HasOwnRow k rows node.id → row_of view.rows node.id ≡ None → ⊥) (sym is) (λ has none. has (ap (λ (rs : List Row). row_of rs node.id) (sym same) ∙ none)) able.row) all
      rule_left ScriptNode st memo ms s is begins all = script_left_here node.code ms s (subst (λ (k : Kind). HasCode k node.code) is able.code) all
      rule_left ScriptCondition st memo ms s is begins all = condition_left node.code ms s (subst (λ (k : Kind). HasCode k node.code) is able.code) all
      rule_left AlwaysSuccess st memo ms s is begins all = gives_left AlwaysSuccess answer.Success ms s (refl, tt) all
      rule_left AlwaysFailure st memo ms s is begins all = gives_left AlwaysFailure answer.Failure ms s (refl, tt) all
      rule_left kind st memo ms s is begins all =
          subst (λ (k : Kind). Ruled k s (kind_rule here memo ms s)) is
          (picked_left memo ms s (picked node.kind here memo s) (ap has_rule is) begins (picks here s about.children node.kind memo able.children) all)

      -- the rule, and then the end
      ruled_left : (st : Status) (memo : Memo) (ms : List Memory) (s : State) → Begins node.kind node.ports about.children memo → Below true ms → Visited s (ruled here st memo ms s)
      ruled_left st memo ms s begins all =
          let d : Done Given (List Memory) = node_rule node.kind here st memo ms s in
          follow_left is_dead (λ g ms1. Gives node.kind node.ports about.children g × Below true ms1) (λ a m1. Has a (by_visit about) × Own true m1) d (λ ms1. remembered st memo ms1) (λ g ms1 s1. ended here st g ms1 s1) s
          (rule_left node.kind st memo ms s refl begins all)
          (λ g fit. ended_left st g d.memory d.state
          (either_right g.answer (before_rule node.guards).answers (only_if (before_rule node.guards).goes_on (by_rule about)) (if_so g.answer (before_rule node.guards).goes_on (by_rule about) goes fit.0.0))
          (λ e. goes) fit.0.1 fit.1)

      -- ---- From a node that is not RUNNING

      started_by : (m : Memory) (s : State) (r : Result Memo NumericPort) → IfOk r (λ memo. Begins node.kind node.ports about.children memo) → Below true (out-Memory m).children →
          Visited s (follow (ends (or_bad_port uid r) (out-Memory m).children s) (λ ms. remembered status.Running (out-Memory m).memo ms) (λ memo ms s1. ruled here status.Running memo ms s1))
      started_by m s (Err bad) begins all = record { ends = lives; live = tt; spares = λ p e. refl }
      started_by m s (Ok memo) begins all =
          let left : Visited s (ruled here status.Running memo (out-Memory m).children s) = ruled_left status.Running memo (out-Memory m).children s begins all in
          record { ends = left.ends; live = left.live; spares = left.spares }

      begun_left : (b : Bool) (m : Memory) (s : State) → starts node.kind (out-Memory m).memo ≡ b → RestsWith node.kind about.children (out-Memory m).memo → Below true (out-Memory m).children → Visited s (begun b here m s)
      begun_left true m s is rests all =
          let known : Memo = remembers (out-Memory m).status (out-Memory m).memo in
          after_left is_dead (λ a m1. Has a (by_visit about) × Own true m1) (change uid (out-Memory m).status status.Running) [] s
          (follow (ends (or_bad_port uid (new_memo node.kind here known s)) (out-Memory m).children s) (λ ms. remembered status.Running (out-Memory m).memo ms) (λ memo ms s1. ruled here status.Running memo ms s1)) (change_live is_dead uid lives (out-Memory m).status status.Running)
          (started_by m s (new_memo node.kind here known s) (starts_fit here s about.children node.kind known able.children (remembers_rests (out-Memory m).status node.kind about.children (out-Memory m).memo rests)) all)
      begun_left false m s is rests all =
          ruled_left (out-Memory m).status (out-Memory m).memo (out-Memory m).children s (kept_fits node.kind node.ports about.children (out-Memory m).memo is rests) all

    kept_as : (a : Answer) (memo : Memo) → is_running (status_of a) ≡ false → RestsWith node.kind about.children memo → MemoOf node.kind node.ports about.children (status_of a) memo
    kept_as answer.Running memo rests kept = cc
    kept_as answer.Success memo rests kept = kept
    kept_as answer.Failure memo rests kept = kept
    kept_as answer.Skipped memo rests kept = kept

    not_running : (a : Answer) → is_running (status_of a) ≡ false → status_of a ≡ status.Running → ⊥
    not_running a rests is = not_both (ap is_running is) rests

    guarded_left : (o : Option Answer) (m : Memory) (s : State) → Guarded (before_rule node.guards) o → RestsWith node.kind about.children (out-Memory m).memo → Below true (out-Memory m).children → Visited s (guarded o here m s)
    guarded_left None m s goes rests all = begun_left goes (starts node.kind (out-Memory m).memo) m s refl rests all
    guarded_left (Some a) m s guard rests all =
        ended_left (out-Memory m).status (record { answer = a; memo = remembers (out-Memory m).status (out-Memory m).memo }) (out-Memory m).children s
        (either_left a (before_rule node.guards).answers (only_if (before_rule node.guards).goes_on (by_rule about)) guard.0)
        (λ is. absurd (not_running a guard.1 is))
        (kept_as a (remembers (out-Memory m).status (out-Memory m).memo) guard.1 (remembers_rests (out-Memory m).status node.kind about.children (out-Memory m).memo rests)) all

    rests_visited : (m : Memory) (s : State) → RestsWith node.kind about.children (out-Memory m).memo → Below true (out-Memory m).children → Visited s (follow (guards_answer here s) (λ _. m) (λ a _ s1. guarded a here m s1))
    rests_visited m s rests all =
        follow_left is_dead (λ o _. Guarded (before_rule node.guards) o) (λ a m1. Has a (by_visit about) × Own true m1) (guards_answer here s) (λ _. m) (λ a _ s1. guarded a here m s1) s (guards_left is_dead here lives s)
        (λ o guard. guarded_left o m (guards_answer here s).state guard rests all)

    -- ---- Halts

    halt_spares : (kind : Kind) (s : State) (k : ℕ) → is_dead k ≡ true → slice_get (halt_state kind uid s).instances k ≡ slice_get s.instances k
    halt_spares Leaf s k dead = get_set_other s.instances uid k _ (apart is_dead uid lives k dead)
    halt_spares _ s k dead = refl

    halt_live : (kind : Kind) → AllLive is_dead (halt_notes kind uid)
    halt_live Leaf = (lives, tt)
    halt_live _ = tt

    -- the end of a halt
    halted_left : (reached : Bool) (idle : Memory) (s : State) → Own reached idle → Leaves is_dead (λ _ m1. Own reached m1) s (halted here idle s)
    halted_left reached idle s own =
        let s1 : State = halt_state node.kind uid s in
        let d : Done (Unit {0}) Memory = follow (script_if_there here node.guards.on_halted s1) (λ _. idle) (λ _ _ s2. done tt idle s2) in
        let after : Leaves is_dead (λ _ m1. Own reached m1) s1 d =
        follow_left is_dead (λ _ _. Unit {0}) (λ _ m1. Own reached m1) (script_if_there here node.guards.on_halted s1) (λ _. idle) (λ _ _ s2. done tt idle s2) s1 (script_if_there_runs is_dead here lives node.guards.on_halted s1)
        (λ _ _. nothing_left is_dead (λ _ m1. Own reached m1) tt idle (script_if_there here node.guards.on_halted s1).state own) in
        record {
          ends = after.ends;
          live = live_both is_dead (halt_notes node.kind uid ++ change uid status.Running status.Idle) d.notes (live_both is_dead (halt_notes node.kind uid) (change uid status.Running status.Idle) (halt_live node.kind) (lives, tt)) after.live;
          spares = λ k dead. after.spares k dead ∙ halt_spares node.kind s k dead;
        }

    halt_left : (reached : Bool) (m : Memory) (s : State) → reached ≡ true → Begins node.kind node.ports about.children (out-Memory m).memo → Below reached (out-Memory m).children → Leaves is_dead (λ _ m1. Own reached m1) s (halt here m s)
    halt_left reached m s is begins all =
        let d : Done (Unit {0}) (List Memory) = resets span.All (children_of here) 0 (out-Memory m).children s in
        follow_left is_dead (λ _ ms1. Below reached ms1) (λ _ m1. Own reached m1) d (λ ms. remembered status.Running (out-Memory m).memo ms) (λ _ ms s1. halted here (remembered status.Idle (cleared (out-Memory m).memo) ms) s1) s
        (span_left is_dead rows (kids reached) span.All (out-Memory m).children s all)
        (λ _ all1. halted_left reached (remembered status.Idle (cleared (out-Memory m).memo) d.memory) d.state
        (as_kept reached status.Idle (cleared (out-Memory m).memo) d.memory
        (record { lives = λ e. lives; able = able; state = record { rests = λ e. refl; goes_on = λ e. cc; kept = cleared_rests node.kind node.ports about.children (out-Memory m).memo begins } }) all1))

    -- ---- From a RUNNING node

    continued_left : (b : Bool) (m : Memory) (s : State) → GoesOn is_dead here lives b → (before_rule node.guards).goes_on ≡ true → Begins node.kind node.ports about.children (out-Memory m).memo → Below true (out-Memory m).children → Visited s (continued b here m s)
    continued_left true m s on goes begins all = ruled_left goes status.Running (out-Memory m).memo (out-Memory m).children s begins all
    continued_left false m s on goes begins all =
        follow_left is_dead (λ _ m1. Own true m1) (λ a m1. Has a (by_visit about) × Own true m1) (halt here m s) (λ m1. m1) (λ _ m1 s1. done answer.Skipped m1 s1) s (halt_left true m s refl begins all)
        (λ _ own. nothing_left is_dead (λ a m1. Has a (by_visit about) × Own true m1) answer.Skipped (halt here m s).memory (halt here m s).state
        (either_left answer.Skipped (before_rule node.guards).answers (only_if (before_rule node.guards).goes_on (by_rule about)) (on refl), own))

    runs_visited : (m : Memory) (s : State) → (before_rule node.guards).goes_on ≡ true → Begins node.kind node.ports about.children (out-Memory m).memo → Below true (out-Memory m).children → Visited s (follow (goes_on here s) (λ _. m) (λ b _ s1. continued b here m s1))
    runs_visited m s goes begins all =
        follow_left is_dead (λ b _. GoesOn is_dead here lives b) (λ a m1. Has a (by_visit about) × Own true m1) (goes_on here s) (λ _. m) (λ b _ s1. continued b here m s1) s (goes_on_left is_dead here lives s goes)
        (λ b on. continued_left b m (goes_on here s).state on goes begins all)

    visited_by : (st : Status) (m : Memory) (s : State) → HasState about true st (out-Memory m).memo → Below true (out-Memory m).children → Visited s (visit_by st here m s)
    visited_by status.Running m s state all = runs_visited m s (state.goes_on refl) state.kept all
    visited_by status.Idle m s state all = rests_visited m s state.kept all
    visited_by status.Success m s state all = rests_visited m s state.kept all
    visited_by status.Failure m s state all = rests_visited m s state.kept all

    -- ---- Resets

    rests_still : (reached : Bool) (st : Status) (m : Memory) (s : State) → RestsWith node.kind about.children (out-Memory m).memo → Below reached (out-Memory m).children →
        Leaves is_dead (λ (_ : Unit {0}) m1. Own reached m1) s (following (change uid st status.Idle) [] (done tt (remembered status.Idle (out-Memory m).memo (out-Memory m).children) s))
    rests_still reached st m s kept all =
        after_left is_dead (λ (_ : Unit {0}) m1. Own reached m1) (change uid st status.Idle) [] s (done tt (remembered status.Idle (out-Memory m).memo (out-Memory m).children) s) (change_live is_dead uid lives st status.Idle)
        (nothing_left is_dead (λ (_ : Unit {0}) m1. Own reached m1) tt (remembered status.Idle (out-Memory m).memo (out-Memory m).children) s
        (as_kept reached status.Idle (out-Memory m).memo (out-Memory m).children (record { lives = λ e. lives; able = able; state = record { rests = λ e. refl; goes_on = λ e. cc; kept = kept } }) all))

    reset_reached : (st : Status) (m : Memory) (s : State) → HasState about true st (out-Memory m).memo → Below true (out-Memory m).children → Leaves is_dead (λ _ m1. Own true m1) s (reset_by st here m s)
    reset_reached status.Running m s state all = halt_left true m s refl state.kept all
    reset_reached status.Idle m s state all = rests_still true status.Idle m s state.kept all
    reset_reached status.Success m s state all = rests_still true status.Success m s state.kept all
    reset_reached status.Failure m s state all = rests_still true status.Failure m s state.kept all

  -- a visit of the node
  pub visit_left : (m : Memory) (s : State) → Own true m → Leaves is_dead (λ a m1. Has a (by_visit about) × Own true m1) s (visit_by (out-Memory m).status here m s)
  visit_left m s own = visited_by (own.0.lives refl) own.0.able (out-Memory m).status m s own.0.state own.1

  -- a node that is not reached is IDLE, and stays so
  reset_dead : (st : Status) (m : Memory) (s : State) → st ≡ status.Idle → NodeStands is_dead rows about false uid st (out-Memory m).memo → Below false (out-Memory m).children → Leaves is_dead (λ _ m1. Own false m1) s (reset_by st here m s)
  reset_dead status.Idle m s idle own all = record { ends = as_kept false status.Idle (out-Memory m).memo (out-Memory m).children own all; live = tt; spares = λ p e. refl }
  reset_dead status.Running m s idle own all = cc
  reset_dead status.Success m s idle own all = cc
  reset_dead status.Failure m s idle own all = cc

  pub reset_left : (reached : Bool) (m : Memory) (s : State) → Own reached m → Leaves is_dead (λ _ m1. Own reached m1) s (reset_by (out-Memory m).status here m s)
  reset_left true m s own = reset_reached (own.0.lives refl) own.0.able (out-Memory m).status m s own.0.state own.1
  reset_left false m s own = reset_dead (out-Memory m).status m s (own.0.state.rests refl) own.0 own.1

  -- the node may become IDLE once it has completed
  settled_state : (st : Status) (memo : Memo) → HasState about true st memo → HasState about true (settled st) memo
  settled_state status.Running memo state = state
  settled_state status.Idle memo state = state
  settled_state status.Success memo state = record { rests = λ e. cc; goes_on = λ e. cc; kept = state.kept }
  settled_state status.Failure memo state = record { rests = λ e. cc; goes_on = λ e. cc; kept = state.kept }

  pub settled_left : (m : Memory) → Own true m → Own true (remembered (settled (out-Memory m).status) (out-Memory m).memo (out-Memory m).children)
  settled_left m own =
      as_kept true (settled (out-Memory m).status) (out-Memory m).memo (out-Memory m).children
      (record { lives = own.0.lives; able = own.0.able; state = settled_state (out-Memory m).status (out-Memory m).memo own.0.state }) own.1

  pub own_lives : (m : Memory) → Own true m → Lives is_dead uid
  own_lives m own = own.0.lives refl
