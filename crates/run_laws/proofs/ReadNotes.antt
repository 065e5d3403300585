-- What is read from the notes of the calls of leaves is what is to be seen of the leaves' instances, after every part of an
-- event.
use Rattle.std.proofs.Common.{◌≡◌, ℕ, ◌+◌, ◌<◌, ◌≤◌, List, [], ◌∷◌, ◌++◌, map, length, slice_set, Bool, false, is_some, Option, Some, None, refl, sym, ap, ◌∙◌, arith}
use Rattle.std.specs.List.{AllByRecursion}
use Rattle.std.proofs.lemmas.List.{length-set}
use Rattle.spec_script.specs.declared.syntax.Script.{Script}
use Rattle.spec_run.specs.declared.fault.NodeFault.{NodeFault}
use Rattle.spec_run.specs.declared.leaf.Instance.{Instance}
use Rattle.spec_run.specs.declared.leaf.Phase.{Phase}
use Rattle.spec_run.specs.declared.leaf.Phase.TheVariants as phase
use Rattle.spec_run.specs.declared.leaf.Reply.{Reply}
use Rattle.spec_run.specs.declared.leaf.Reply.TheVariants as reply
use Rattle.spec_run.specs.declared.memory.Memory.{Memory, out-Memory}
use Rattle.spec_run.specs.declared.note.Note.{Note}
use Rattle.spec_run.specs.declared.note.Note.TheVariants as note
use Rattle.spec_run.specs.declared.status.Answer.{Answer}
use Rattle.spec_run.specs.declared.status.Answer.TheVariants as answer
use Rattle.spec_run.specs.declared.status.Status.{Status}
use Rattle.spec_tree.specs.declared.term.Term.{Term}
use Rattle.spec_tree.specs.declared.term.Term.TheFolds.{map-Term}
use Rattle.spec_tree.specs.declared.term.Tree.{Tree}
use Rattle.spec_world.specs.declared.world.Row.{Row}
use Rattle.spec_run.specs.Done.{Done, State, done}
use Rattle.spec_run.specs.Leaf.{Answered, released, rule_of, start_of}
use Rattle.base_tables.specs.Outputs.{since_after}
use Rattle.base_tables.specs.Shapes.{is_running}
use Rattle.spec_run.specs.Leaves.{called, inputs_of, instance_asked, instance_at, leaf_answered, leaf_call, phase_of, reply_notes, row_of}
use Rattle.spec_run.specs.Run.{root_reset, root_told, settled, ticked}
use Rattle.spec_run.specs.Sites.{Meaning, Site, View, remembered}
use Rattle.spec_run.specs.Visit.{change, meaning, status_of}
use Rattle.base_tables.proofs.Calls.{held_while_running}
use Rattle.run_laws.proofs.Claims.{Claim, Meets, TermMeets, any_end, done_meets, follow_meets, following_meets}
use Rattle.run_laws.proofs.ClaimedVisits.{NodeMeets, ScriptMeets, change_meets, node_meets}
use Rattle.run_laws.proofs.Induction.{every_term}
use Rattle.run_laws.proofs.LeafCalls.{broken_changes_nothing}

-- ---- Reading

-- what is known after some items, by what each says
abbrev pub read_all : {X : Type 0} → (X → Bool → Bool) → List X → Bool → Bool
read_all read [] known = known
read_all read (x ∷ xs) known = read_all read xs (read x known)

pub read_both : {X : Type 0} (read : X → Bool → Bool) (xs ys : List X) (known : Bool) → read_all read (xs ++ ys) known ≡ read_all read ys (read_all read xs known)
read_both read [] ys known = refl
read_both read (x ∷ xs) ys known = read_both read xs ys (read x known)

-- what is seen of the instances of the leaves of a runner, of which there are so many, is known from the notes of calls: each
-- says what is seen after it
pub record Follows (count : ℕ) (read : Note → Bool → Bool) (seen : List Instance → Bool) : Type 0 where
  pub changed : (uid : ℕ) (old new : Status) (known : Bool) → read (note.Changed uid old new) known ≡ known
  pub root : (runner : ℕ) (a : Answer) (known : Bool) → read (note.Root runner a) known ≡ known
  pub started : (is : List Instance) (uid : ℕ) (w : Instance) (a : Answer) → length is ≡ count → uid < count → is_some w.since ≡ is_running (status_of a) →
      read (note.Started uid a) (seen is) ≡ seen (slice_set is uid w)
  pub ran : (is : List Instance) (uid : ℕ) (w : Instance) (a : Answer) → length is ≡ count → uid < count → is_some w.since ≡ is_running (status_of a) →
      read (note.Ran uid a) (seen is) ≡ seen (slice_set is uid w)
  pub halted : (is : List Instance) (uid : ℕ) (w : Instance) → is_some w.since ≡ false → read (note.Halted uid) (seen is) ≡ seen (slice_set is uid w)

module _ {count : ℕ} {read : Note → Bool → Bool} {seen : List Instance → Bool} (follows : Follows count read seen) where
  -- it is so after every part
  abbrev pub noted : Claim
  noted = record {
    state = λ s. length s.instances ≡ count;
    notes = λ s notes s1. read_all read notes (seen s.instances) ≡ seen s1.instances;
    cause = λ cause. Unit {0};
    view = λ view. Unit {0};
    reach = λ far. far ≤ count;
    no_note = λ s. refl;
    both = λ s s1 s2 xs ys one other. read_both read xs ys (seen s.instances) ∙ ap (read_all read ys) one ∙ other;
    changed = λ s uid old new. follows.changed uid old new (seen s.instances);
    halted = λ s uid many. (length-set s.instances uid (released (instance_at s uid)) ∙ many, follows.halted s.instances uid (released (instance_at s uid)) refl);
    bad_port = λ port. tt;
    mixed = tt;
    below = λ v scope seen. tt;
    nearer = λ near far low high. omega (arith, low, high);
  }

  any_script : (site : Site) (script : Option Script) → ScriptMeets noted site script
  any_script site None = tt
  any_script site (Some script) = λ s many. record { state = many; notes = refl; end = any_end _ }

  -- ---- A call

  called_reads : (p : Phase) (is : List Instance) (uid : ℕ) (w : Instance) (a : Answer) → length is ≡ count → uid < count → is_some w.since ≡ is_running (status_of a) →
      read (called p uid a) (seen is) ≡ seen (slice_set is uid w)
  called_reads phase.Start is uid w a many within held = follows.started is uid w a many within held
  called_reads phase.Running is uid w a many within held = follows.ran is uid w a many within held
  called_reads phase.Halted is uid w a many within held = follows.ran is uid w a many within held
  called_reads phase.Told is uid w a many within held = follows.ran is uid w a many within held

  module _ (site : Site) (row : Row) (st : Status) (ms : List Memory) (s : State) (many : length s.instances ≡ count) (within : site.uid < count) where
    abbrev a : Answered
    a = leaf_answered site row st s

    reply_reads : (r : Reply) (start : ℕ) (before : Option ℕ) → a.reply ≡ r → a.instance.since ≡ since_after r start before →
        read_all read (reply_notes (phase_of st) site.uid r) (seen s.instances) ≡ seen (slice_set s.instances site.uid a.instance)
    reply_reads reply.Running start before is since = called_reads (phase_of st) s.instances site.uid a.instance answer.Running many within (ap is_some since)
    reply_reads reply.Success start before is since = called_reads (phase_of st) s.instances site.uid a.instance answer.Success many within (ap is_some since)
    reply_reads reply.Failure start before is since = called_reads (phase_of st) s.instances site.uid a.instance answer.Failure many within (ap is_some since)
    reply_reads (reply.Broken cause) start before is since = ap (λ (s1 : State). seen s1.instances) (sym (broken_changes_nothing site row st ms s cause is))

    call_reads : Meets noted s (leaf_call (Some row) site st ms s)
    call_reads =
        let p : Phase = phase_of st in
        let i : Instance = instance_asked site row p s in
        record {
          state = length-set s.instances site.uid a.instance ∙ many;
          notes = reply_reads a.reply (start_of p i s.moment) i.since refl (held_while_running (rule_of site.view.facts row) p i (inputs_of site s row) s.facts s.moment);
          end = any_end _;
        }

  leaf_reads : (row : Option Row) (site : Site) → site.uid + 1 ≤ count → (st : Status) (ms : List Memory) (s : State) → length s.instances ≡ count → Meets noted s (leaf_call row site st ms s)
  leaf_reads None site near st ms s many = done_meets noted _ ms s many
  leaf_reads (Some row) site near st ms s many = call_reads site row st ms s many (omega (arith, near))

  -- ---- Every term

  any_node : (site : Site) → site.uid + 1 ≤ count → NodeMeets noted site
  any_node site near = record {
    failure_if = any_script site site.node.guards.failure_if;
    success_if = any_script site site.node.guards.success_if;
    skip_if = any_script site site.node.guards.skip_if;
    while_true = any_script site site.node.guards.while_true;
    on_success = any_script site site.node.guards.on_success;
    on_failure = any_script site site.node.guards.on_failure;
    post = any_script site site.node.guards.post;
    on_halted = any_script site site.node.guards.on_halted;
    code = any_script site site.node.code;
    leaf = λ is st ms s many. leaf_reads (row_of site.view.rows site.node.id) site near st ms s many;
  }

  all_read : {X : Type 0} (term : X → Term) → ((c : X) → TermMeets noted (meaning (term c))) → (cs : List X) → AllByRecursion (TermMeets noted) (map (λ c. meaning (term c)) cs)
  all_read term each [] = tt
  all_read term each (c ∷ cs) = (each c, all_read term each cs)

  pub term_reads : (t : Term) → TermMeets noted (meaning t)
  term_reads = every_term (λ t c rules. TermMeets noted c) (λ X term each node.
      node_meets noted (map-Term X Meaning (λ c. meaning (term c)) node) (λ view seen uid near. any_node _ near) (all_read term each node.children))

  -- ---- A runner's root

  module _ (tree : Tree) (view : View) (m : Memory) (s : State) (room : 1 + (meaning tree.term).size ≤ count) (many : length s.instances ≡ count) where
    pub reset_reads : Meets noted s (root_reset tree view m s)
    reset_reads = (term_reads tree.term).reset view tt 1 room m s many

    pub tick_reads : (runner : ℕ) → Meets noted s (ticked tree view runner m s)
    tick_reads runner =
        let d : Done Answer Memory = (meaning tree.term).visit view 1 m s in
        let after : Status = settled (out-Memory d.memory).status in
        follow_meets noted s d (λ m1. m1) (λ a m1 s1. root_told runner a m1 s1) ((term_reads tree.term).visit view tt 1 room m s many)
        (λ a fits. following_meets noted (note.Root runner a ∷ change 1 (out-Memory d.memory).status after) [] d.state d.state (done a (remembered after (out-Memory d.memory).memo (out-Memory d.memory).children) d.state)
        (noted.both d.state d.state d.state (note.Root runner a ∷ []) (change 1 (out-Memory d.memory).status after) (follows.root runner a (seen d.state.instances)) (change_meets noted d.state 1 (out-Memory d.memory).status after))
        (done_meets noted a _ d.state fits))
