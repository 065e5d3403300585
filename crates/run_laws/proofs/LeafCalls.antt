-- A call of a leaf's driver keeps the rules of states.
use Rattle.std.proofs.Common.{◌≡◌, ℕ, ◌+◌, ◌≤◌, ℤ, List, [], ◌∷◌, length, slice_set, Bool, false, Option, Some, None, IfSome, Result, Ok, is_some, unwrap_or, refl, sym, ap, subst, ◌∙◌, arith}
use Rattle.std.proofs.lemmas.List.{length-set, set-get_or}
use Rattle.spec_script.specs.declared.value.Value.{Value}
use Rattle.spec_script.specs.declared.value.Value.TheVariants.{Int}
use Rattle.spec_run.specs.declared.fault.Cause.{Cause}
use Rattle.spec_run.specs.declared.fault.NodeFault.{NodeFault}
use Rattle.spec_run.specs.declared.leaf.Instance.{Instance}
use Rattle.spec_run.specs.declared.leaf.Phase.{Phase}
use Rattle.spec_run.specs.declared.leaf.Phase.TheVariants as phase
use Rattle.spec_run.specs.declared.leaf.Reply.{Reply}
use Rattle.spec_run.specs.declared.leaf.Reply.TheVariants as reply
use Rattle.spec_run.specs.declared.memory.Memo.{Memo}
use Rattle.spec_run.specs.declared.memory.Memo.TheVariants.{Nothing}
use Rattle.spec_run.specs.declared.memory.Memory.{Memory}
use Rattle.spec_run.specs.declared.status.Status.{Status}
use Rattle.spec_run.specs.declared.status.Status.TheVariants as status
use Rattle.spec_tree.specs.declared.term.Kind.TheVariants.{Leaf}
use Rattle.spec_tree.specs.declared.term.Port.{Port}
use Rattle.spec_tree.specs.declared.term.PortValue.{PortValue}
use Rattle.spec_tree.specs.declared.term.PortValue.TheVariants.{Lit, Key}
use Rattle.spec_tree.specs.declared.term.Term.{Term-F}
use Rattle.spec_world.specs.declared.world.Out.{Out}
use Rattle.spec_world.specs.declared.world.Row.{Row}
use Rattle.spec_world.specs.declared.world.ToldOut.{ToldOut}
use Rattle.spec_world.specs.Worlds.{outs_told}
use Rattle.spec_run.specs.Done.{State}
use Rattle.spec_run.specs.Leaf.{Answered, Rule, fresh, is_told_way, rule_of, start_of}
use Rattle.base_tables.specs.Outputs.{since_after}
use Rattle.spec_run.specs.Leaves.{inputs_of, instance_asked, instance_at, leaf_answered, leaf_call, phase_of, reply_answer, reply_board, told_for, with_output, with_outputs, with_told, with_value, values_of}
use Rattle.spec_run.specs.Ports.{given_at}
use Rattle.base_tables.specs.Shapes.{AllIdle, Lasts, Shape}
use Rattle.spec_run.specs.Sites.{Site, View, slot_at}
use Rattle.base_tables.specs.Sound.{Left, Leaves, NodeRule, Within, held_at, is_held, statuses}
use Rattle.spec_run.specs.Steps.{Given}
use Rattle.spec_run.specs.Visit.{status_of}
use Rattle.base_tables.proofs.Asked.{asked_deaf, asked_since, deaf_where_broken, start_same}
use Rattle.base_tables.proofs.Calls.{as_many_facts, call_keeps, held_while_running, running_lasts}
use Rattle.run_laws.proofs.Parts.{held_same, within_more, within_same}
use Rattle.run_laws.proofs.Children.{Family, SoundAll, all_move}
use Rattle.run_laws.proofs.Instances.{instance_dated, set_here, set_within}
use Rattle.run_laws.proofs.Beginnings.{site_here}
use Rattle.run_laws.proofs.KindRules.{rests_idle}
use Rattle.run_laws.proofs.Whole.{size_here}

-- ---- The board

with_output_many : (site : Site) (given : Option PortValue) (n : ℤ) (board : List (Option Value)) → length (with_output site given n board) ≡ length board
with_output_many site (Some (Key key)) n board = length-set board (slot_at site key) (Some (Int n))
with_output_many site (Some (Lit value)) n board = refl
with_output_many site None n board = refl

with_outputs_many : (site : Site) (outs : List Out) (ns : List ℤ) (board : List (Option Value)) → length (with_outputs site outs ns board) ≡ length board
with_outputs_many site [] ns board = refl
with_outputs_many site (out ∷ outs) [] board = refl
with_outputs_many site (out ∷ outs) (n ∷ ns) board = with_outputs_many site outs ns (with_output site (given_at site out.port) n board) ∙ with_output_many site (given_at site out.port) n board

with_value_many : (site : Site) (given : Option PortValue) (value : Option Value) (board : List (Option Value)) → length (with_value site given value board) ≡ length board
with_value_many site (Some (Key key)) (Some value) board = length-set board (slot_at site key) (Some value)
with_value_many site (Some (Key key)) None board = refl
with_value_many site (Some (Lit literal)) value board = refl
with_value_many site None value board = refl

with_told_many : (site : Site) (names : List (List ℕ)) (told : List ToldOut) (board : List (Option Value)) → length (with_told site names told board) ≡ length board
with_told_many site [] told board = refl
with_told_many site (name ∷ names) told board = with_told_many site names told (with_value site (given_at site name) (told_for told name) board) ∙ with_value_many site (given_at site name) (told_for told name) board

reply_board_many : (site : Site) (row : Row) (a : Answered) (board : List (Option Value)) (r : Reply) → length (reply_board site row a board r) ≡ length board
reply_board_many site row a board reply.Success = with_told_many site (outs_told row.sort) a.told (with_outputs site row.outs a.outputs board) ∙ with_outputs_many site row.outs a.outputs board
reply_board_many site row a board reply.Running = refl
reply_board_many site row a board reply.Failure = refl
reply_board_many site row a board (reply.Broken cause) = refl

-- ---- The moment since which an instance is held

-- a time, where there is one, is not later than now
abbrev NotAfter : ℕ → Option ℕ → Type 0
NotAfter now since = (t : ℕ) → since ≡ Some t → t ≤ now

held_or_now : (since : Option ℕ) (now : ℕ) → NotAfter now since → unwrap_or since now ≤ now
held_or_now None now before = omega arith
held_or_now (Some t) now before = before t refl

start_dated : (p : Phase) (i : Instance) (now : ℕ) → NotAfter now i.since → start_of p i now ≤ now
start_dated phase.Start i now before = omega arith
start_dated phase.Running i now before = held_or_now i.since now before
start_dated phase.Halted i now before = held_or_now i.since now before
start_dated phase.Told i now before = held_or_now i.since now before

since_dated : (r : Reply) (start now : ℕ) (since : Option ℕ) → start ≤ now → NotAfter now since → NotAfter now (since_after r start since)
since_dated reply.Running start now since begun before = λ t e. subst (λ (o : Option ℕ). IfSome o (λ k. k ≤ now)) e begun
since_dated (reply.Broken cause) start now since begun before = before
since_dated reply.Success start now since begun before = λ t e. cc
since_dated reply.Failure start now since begun before = λ t e. cc

-- ---- The leaf

-- a leaf's children are IDLE whatever its status
idle_of : (st : Status) (ports : List Port) (row : Option Row) (moment : ℕ) (memo : Memo) (ss : List Status) → Shape st Leaf ports row moment memo ss → AllIdle ss
idle_of status.Running ports row moment Nothing ss shape = shape.1
idle_of status.Running ports row moment _ ss shape = absurd shape
idle_of status.Idle ports row moment memo ss shape = rests_idle ports moment memo Leaf ss refl shape
idle_of status.Success ports row moment memo ss shape = rests_idle ports moment memo Leaf ss refl shape
idle_of status.Failure ports row moment memo ss shape = rests_idle ports moment memo Leaf ss refl shape

-- a leaf without a row is never RUNNING
rests_without_row : (st : Status) (ports : List Port) (moment : ℕ) (memo : Memo) (ss : List Status) → Shape st Leaf ports None moment memo ss → is_held st Leaf ≡ false
rests_without_row status.Running ports moment Nothing ss shape = absurd shape.0
rests_without_row status.Running ports moment _ ss shape = absurd shape
rests_without_row status.Idle ports moment memo ss shape = refl
rests_without_row status.Success ports moment memo ss shape = refl
rests_without_row status.Failure ports moment memo ss shape = refl

module _ (F : Family) (node : Term-F F.Child) (view : View) (uid : ℕ) (ms : List Memory) (s : State) (idle : AllIdle (statuses ms)) (sound : SoundAll F view.rows node.children None (uid + 1) ms s) where
  abbrev here : Site
  here = site_here F node view uid

  abbrev before : Instance
  before = instance_at s uid

  -- what a call leaves of a leaf with this row
  abbrev Called : Option Row → Result Given NodeFault → State → Type 0
  Called row answer s1 =
      Left (λ f ms1 s2. SoundAll F view.rows node.children f (uid + 1) ms1 s2) (λ g ms1 s2. NodeRule Leaf node.ports row uid (status_of g.answer) g.memo ms1 s2)
      uid (size_here F node view uid) s answer ms s1

  -- the rules of the children stay where only the leaf's instance has changed
  children_stay : (fault : Option ℕ) (s1 : State) → Within uid 1 s s1 → SoundAll F view.rows node.children fault (uid + 1) ms s1
  children_stay fault s1 within = all_move F view.rows node.children fault (uid + 1) ms s s1 sound (λ p a b. held_same s s1 p (within.above p a)) (omega (arith, within.moment))

  module _ (row : Row) (p : Phase) (a : Answered) (many : length a.facts ≡ length s.facts) (b : Bool) (held : held_at s uid ≡ Some b) where
    -- the state after the call, by its reply
    abbrev after : Reply → State
    after r = record { board = reply_board here row a s.board r; facts = a.facts; instances = slice_set s.instances uid a.instance; moment = s.moment }

    abbrev IsSince : Reply → Type 0
    IsSince r = a.instance.since ≡ since_after r (start_of p before s.moment) before.since

    call_within : (r : Reply) → IsSince r → Within uid 1 s (after r)
    call_within r since = set_within s (after r) uid a.instance refl (reply_board_many here row a s.board r) many refl
        (λ dated t e. let known : NotAfter s.moment before.since = λ u h. instance_dated s uid u dated h in
        since_dated r (start_of p before s.moment) s.moment before.since (start_dated p before s.moment known) known t (sym since ∙ e))

    -- the instance is held as the reply says
    call_holds : (r : Reply) → IsSince r → held_at (after r) uid ≡ Some (is_some (since_after r (start_of p before s.moment) before.since))
    call_holds r since = set_here s (after r) uid a.instance refl b held ∙ ap (λ (o : Option ℕ). Some (is_some o)) since

    called_with : (g : Given) (r : Reply) → IsSince r → NodeRule Leaf node.ports (Some row) uid (status_of g.answer) g.memo ms (after r) → Called (Some row) (Ok g) (after r)
    called_with g r since own = record { sound = children_stay None (after r) (call_within r since); within = within_more (call_within r since) (omega arith) (omega arith); ends = own }

    -- an instance is held exactly where the answer is RUNNING, and only where the row lasts
    by_reply : (r : Reply) → IsSince r → (r ≡ reply.Running → Lasts row.sort) → Called (Some row) (reply_answer uid r) (after r)
    by_reply reply.Running since lasts = called_with _ reply.Running since (record { shape = (lasts refl, idle); held = call_holds reply.Running since })
    by_reply reply.Success since lasts = called_with _ reply.Success since (record { shape = idle; held = call_holds reply.Success since })
    by_reply reply.Failure since lasts = called_with _ reply.Failure since (record { shape = idle; held = call_holds reply.Failure since })
    by_reply (reply.Broken cause) since lasts = record {
      sound = children_stay (Some uid) (after (reply.Broken cause)) (call_within (reply.Broken cause) since);
      within = within_more (call_within (reply.Broken cause) since) (omega arith) (omega arith);
      ends = (omega arith, omega arith);
    }

-- one call of the driver of a leaf; it keeps the rules where the leaf's status becomes that of the answer
pub leaf_call_leaves : (F : Family) (node : Term-F F.Child) (view : View) (uid : ℕ) (row : Option Row) (st : Status) (memo : Memo) (ms : List Memory) (s : State) →
    SoundAll F view.rows node.children None (uid + 1) ms s → NodeRule Leaf node.ports row uid st memo ms s →
    Leaves (λ f ms1 s2. SoundAll F view.rows node.children f (uid + 1) ms1 s2) (λ g ms1 s2. NodeRule Leaf node.ports row uid (status_of g.answer) g.memo ms1 s2)
    uid (size_here F node view uid) s (leaf_call row (site_here F node view uid) st ms s)
leaf_call_leaves F node view uid (Some row) st memo ms s sound own =
    let site : Site = site_here F node view uid in
    let p : Phase = phase_of st in
    let i : Instance = instance_asked site row p s in
    let a : Answered = leaf_answered site row st s in
    let same : i.since ≡ (instance_at s uid).since = asked_since (rule_of view.facts row).way p (values_of site s row) (instance_at s uid) in
    by_reply F node view uid ms s (idle_of st node.ports (Some row) s.moment memo (statuses ms) own.shape) sound row p a
    (as_many_facts (rule_of view.facts row) p i (inputs_of site s row) s.facts s.moment) (is_held st Leaf) own.held a.reply
    (held_while_running (rule_of view.facts row) p i (inputs_of site s row) s.facts s.moment
    ∙ (λ k. since_after a.reply (start_same p i (instance_at s uid) s.moment same k) (same k)))
    (running_lasts view.facts row p i (inputs_of site s row) s.facts s.moment)
leaf_call_leaves F node view uid None st memo ms s sound own = record {
  sound = sound;
  within = within_same uid (size_here F node view uid) s;
  ends = record { shape = idle_of st node.ports None s.moment memo (statuses ms) own.shape; held = own.held ∙ ap Some (rests_without_row st node.ports s.moment memo (statuses ms) own.shape) };
}

-- a call that ends with a fault changes nothing
pub broken_changes_nothing : (site : Site) (row : Row) (st : Status) (ms : List Memory) (s : State) (cause : Cause) →
    (leaf_answered site row st s).reply ≡ reply.Broken cause →
    (leaf_call (Some row) site st ms s).state ≡ s
broken_changes_nothing site row st ms s cause broken =
    let a : Answered = leaf_answered site row st s in
    let rule : Rule = rule_of site.view.facts row in
    let p : Phase = phase_of st in
    let asked : Instance = instance_asked site row p s in
    let same : (a.instance ≡ asked) × (a.facts ≡ s.facts) = (call_keeps rule p asked (inputs_of site s row) s.facts s.moment).breaks cause broken in
    let deaf : is_told_way rule.way ≡ false =
    deaf_where_broken rule.way rule (start_of p asked s.moment) asked (inputs_of site s row) s.facts s.moment cause broken in
    let stays : a.instance ≡ instance_at s site.uid = same.0 ∙ sym (asked_deaf rule.way p (values_of site s row) (instance_at s site.uid) deaf) in
    let instances : slice_set s.instances site.uid a.instance ≡ s.instances = ap (λ (i : Instance). slice_set s.instances site.uid i) stays ∙ set-get_or s.instances site.uid fresh in
    ap (λ (r : Reply). record { board = reply_board site row a s.board r; facts = a.facts; instances = slice_set s.instances site.uid a.instance; moment = s.moment }) broken
    ∙ ap (λ (facts : List ℤ). record { board = s.board; facts = facts; instances = slice_set s.instances site.uid a.instance; moment = s.moment }) same.1
    ∙ ap (λ (is : List Instance). record { board = s.board; facts = s.facts; instances = is; moment = s.moment }) instances
