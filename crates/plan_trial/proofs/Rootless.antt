-- No visit and no reset notes an answer of the root, so the notes of a tick tell one at most.
use Rattle.std.proofs.Common.{◌≡◌, ℕ, ◌+◌, List, [], ◌∷◌, ◌++◌, cond, count_by, Option, Some, None, Result, Ok, Err, map, refl, arith}
use Rattle.std.specs.List.{AllByRecursion}
use Rattle.std.proofs.lemmas.List.Sums.{sum_by-append}
use Rattle.spec_script.specs.declared.syntax.Script.{Script}
use Rattle.spec_run.specs.declared.block.Header.{Header}
use Rattle.spec_run.specs.declared.block.Header.TheVariants as header
use Rattle.spec_run.specs.declared.fault.NodeFault.{NodeFault}
use Rattle.spec_run.specs.declared.leaf.Phase.{Phase}
use Rattle.spec_run.specs.declared.leaf.Phase.TheVariants as phase
use Rattle.spec_run.specs.declared.leaf.Reply.{Reply}
use Rattle.spec_run.specs.declared.leaf.Reply.TheVariants as reply
use Rattle.spec_run.specs.declared.memory.Memory.{Memory, out-Memory}
use Rattle.spec_run.specs.declared.note.Note.{Note}
use Rattle.spec_run.specs.declared.note.Note.TheVariants.{Root}
use Rattle.spec_run.specs.declared.status.Answer.{Answer}
use Rattle.spec_run.specs.declared.status.Status.{Status}
use Rattle.spec_tree.specs.declared.term.Term.{Term}
use Rattle.spec_tree.specs.declared.term.Term.TheFolds.{map-Term}
use Rattle.spec_tree.specs.declared.term.Tree.{Tree}
use Rattle.spec_world.specs.declared.world.Row.{Row}
use Rattle.spec_world.specs.declared.world.World.{World}
use Rattle.spec_run.specs.Done.{Call, Done, State, carried}
use Rattle.spec_run.specs.Leaves.{leaf_call, reply_notes, row_of}
use Rattle.spec_run.specs.Run.{RunState, Runner, root_told, root_view, settled, state_of, tick_step, ticked, told, with_runner}
use Rattle.spec_run.specs.Sites.{Meaning, Site, View}
use Rattle.spec_run.specs.Visit.{change, meaning}
use Rattle.run_laws.proofs.Induction.{every_term}
use Rattle.plan_trial.specs.Roots.{TellRootOnce, is_root}
use Rattle.run_laws.proofs.Claims.{Claim, Meets, TermMeets, any_end}
use Rattle.run_laws.proofs.ClaimedVisits.{NodeMeets, ScriptMeets, change_meets, node_meets}

-- how many notes tell an answer of the root
abbrev roots : List Note → ℕ
roots notes = count_by is_root notes

roots_both : (xs ys : List Note) → roots (xs ++ ys) ≡ roots xs + roots ys
roots_both xs ys = sum_by-append (λ note. cond (is_root note) 1 0) xs ys

-- no note tells an answer of the root
abbrev rootless : Claim
rootless = record {
  state = λ s. Unit {0};
  notes = λ s notes s1. roots notes ≡ 0;
  cause = λ cause. Unit {0};
  view = λ view. Unit {0};
  reach = λ far. Unit {0};
  no_note = λ s. refl;
  both = λ s s1 s2 xs ys one other. omega (arith, one, other, roots_both xs ys);
  changed = λ s uid old new. refl;
  halted = λ s uid fits. (tt, refl);
  bad_port = λ port. tt;
  mixed = tt;
  below = λ v scope seen. tt;
  nearer = λ near far low high. tt;
}

-- ---- Every term

without_notes : {A M : Type 0} (s : State) (d : Done A M) → roots d.notes ≡ 0 → Meets rootless s d
without_notes s d none = record { state = tt; notes = none; end = any_end d.answer }

any_script : (site : Site) (script : Option Script) → ScriptMeets rootless site script
any_script site None = tt
any_script site (Some script) = λ s fits. without_notes s _ refl

reply_rootless : (p : Phase) (uid : ℕ) (r : Reply) → roots (reply_notes p uid r) ≡ 0
reply_rootless phase.Start uid reply.Running = refl
reply_rootless phase.Start uid reply.Success = refl
reply_rootless phase.Start uid reply.Failure = refl
reply_rootless _ uid reply.Running = refl
reply_rootless _ uid reply.Success = refl
reply_rootless _ uid reply.Failure = refl
reply_rootless p uid (reply.Broken cause) = refl

any_leaf : (row : Option Row) (site : Site) (st : Status) (ms : List Memory) (s : State) → Meets rootless s (leaf_call row site st ms s)
any_leaf None site st ms s = without_notes s _ refl
any_leaf (Some row) site st ms s = without_notes s (leaf_call (Some row) site st ms s) (reply_rootless _ site.uid _)

any_node : (site : Site) → NodeMeets rootless site
any_node site = record {
  failure_if = any_script site site.node.guards.failure_if;
  success_if = any_script site site.node.guards.success_if;
  skip_if = any_script site site.node.guards.skip_if;
  while_true = any_script site site.node.guards.while_true;
  on_success = any_script site site.node.guards.on_success;
  on_failure = any_script site site.node.guards.on_failure;
  post = any_script site site.node.guards.post;
  on_halted = any_script site site.node.guards.on_halted;
  code = any_script site site.node.code;
  leaf = λ is st ms s fits. any_leaf (row_of site.view.rows site.node.id) site st ms s;
}

all_rootless : {X : Type 0} (term : X → Term) → ((c : X) → TermMeets rootless (meaning (term c))) → (cs : List X) → AllByRecursion (TermMeets rootless) (map (λ c. meaning (term c)) cs)
all_rootless term each [] = tt
all_rootless term each (c ∷ cs) = (each c, all_rootless term each cs)

term_rootless : (t : Term) → TermMeets rootless (meaning t)
term_rootless = every_term (λ t c rules. TermMeets rootless c) (λ X term each node.
    node_meets rootless (map-Term X Meaning (λ c. meaning (term c)) node) (λ view seen uid near. any_node _) (all_rootless term each node.children))

-- ---- A tick

module _ (tree : Tree) (runner : ℕ) where
  told_once : (r : Result Answer NodeFault) (d : Done Answer Memory) → roots d.notes ≡ 0 → TellRootOnce (carried r d (λ m1. m1) (λ a m1 s1. root_told runner a m1 s1)).notes
  told_once (Ok a) d none =
      let st : Status = (out-Memory d.memory).status in
      let change_notes : List Note = change 1 st (settled st) in
      let root : List Note = Root runner a ∷ [] in
      omega (arith, none, roots_both d.notes (Root runner a ∷ change_notes ++ []), roots_both root (change_notes ++ []), roots_both change_notes [], change_meets rootless d.state 1 st (settled st))
  told_once (Err f) d none = omega (arith, none)

  -- a tick tells the root's answer once, or it ends in a fault
  tick_once : (view : View) (m : Memory) (s : State) → TellRootOnce (ticked tree view runner m s).notes
  tick_once view m s = let d : Done Answer Memory = (meaning tree.term).visit view 1 m s in told_once d.answer d ((term_rootless tree.term).visit view tt 1 tt m s tt).notes

  without_fault : (r : Result Answer NodeFault) (header : Header) (notes : List Note) (calls : List Call) (s after : RunState) → TellRootOnce notes → (told r header tree runner notes calls s after).fault ≡ None → TellRootOnce (told r header tree runner notes calls s after).block.notes
  without_fault (Ok a) header notes calls s after once none = once
  without_fault (Err f) header notes calls s after once none = absurd (cc none)

  -- the block of a tick without a fault tells the root's answer once at most
  pub tick_tells_once : (o : Option Runner) (world : World) (at : ℕ) (s : RunState) → (tick_step o tree world runner at s).fault ≡ None → TellRootOnce (tick_step o tree world runner at s).block.notes
  tick_tells_once None world at s none = omega arith
  tick_tells_once (Some r) world at s none =
      let d : Done Answer Memory = ticked tree (root_view tree world) runner r.memory (state_of r s.facts at) in
      without_fault d.answer (header.Tick runner at) d.notes d.calls s (with_runner s runner at d) (tick_once (root_view tree world) r.memory (state_of r s.facts at)) none
