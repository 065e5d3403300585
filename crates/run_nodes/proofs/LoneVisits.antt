-- The answer of a node without children, and then the end of its visit.
use Rattle.std.proofs.Common.{◌≡◌, ℕ, ◌+◌, ◌<◌, List, length, set, Result, Ok, Err, sym, ap, subst, ◌∙◌}
use Rattle.base_texts.specs.declared.stop.Stop.{Stop}
use Rattle.spec_run.specs.declared.fault.NodeFault.{NodeFault}
use Rattle.spec_run.specs.declared.memory.Memo.{Memo}
use Rattle.spec_run.specs.declared.memory.Memo.TheVariants.{Nothing}
use Rattle.spec_run.specs.declared.memory.Memory.{Memory}
use Rattle.spec_run.specs.declared.note.Note.{Note}
use Rattle.spec_run.specs.declared.status.Answer.{Answer}
use Rattle.spec_run.specs.declared.status.Status.{Status}
use Rattle.spec_tree.specs.declared.term.Term.{Term, out-Term}
use Rattle.spec_run.specs.Done.{Done}
use Rattle.spec_run.specs.Sites.{Site, View, remembered}
use Rattle.spec_run.specs.Steps.{Given}
use Rattle.spec_run.specs.Visit.{ended, node_rule, ruled}
use Rattle.run_arena.specs.declared.nodes.Kept.{Kept}
use Rattle.run_arena.specs.declared.nodes.Node.{Node}
use Rattle.run_arena.specs.Ends.{Meets}
use Rattle.run_arena.specs.Nodes.{kept_at}
use Rattle.run_arena.specs.Scenes.{Scene, state_in}
use Rattle.run_arena.specs.Stands.{memories_of, memory_of}
use Rattle.run_arena.proofs.Follows.{followed, stopped}
use Rattle.run_nodes.specs.Here.{site_at}
use Rattle.run_nodes.proofs.EndedVisits.{now_kept}
use Rattle.run_nodes.proofs.Standing.{children_same, memory_now}

module _ (nodes : List Node) (uid now : ℕ) (t : Term) (view : View) (before mid : Scene) (k : Kept) (there : uid < length before.kept) (is : mid.kept ≡ set before.kept uid k) (same_status : k.status ≡ (kept_at before.kept uid).status) (same_memo : k.memo ≡ (kept_at before.kept uid).memo) (n0 n1 : List Note) where
  abbrev site : Site
  site = site_at view uid t

  abbrev status : Status
  status = (kept_at before.kept uid).status

  abbrev memo : Memo
  memo = (kept_at before.kept uid).memo

  abbrev ms : List Memory
  ms = memories_of (out-Term t).children (uid + 1) before.kept

  abbrev rule_done : Done Given (List Memory)
  rule_done = node_rule site.node.kind site status memo ms (state_in nodes before now)

  abbrev visit_done : Done Answer Memory
  visit_done = ruled site status memo ms (state_in nodes before now)

  status_kept : (kept_at mid.kept uid).status ≡ status
  status_kept = ap (λ (x : Kept). x.status) (now_kept before.kept mid.kept uid k there is) ∙ same_status

  memo_kept : (kept_at mid.kept uid).memo ≡ memo
  memo_kept = ap (λ (x : Kept). x.memo) (now_kept before.kept mid.kept uid k there is) ∙ same_memo

  -- there is an answer, and the visit ends
  pub lone_ended : (answer : Answer) (r : Result Answer (Stop NodeFault)) (after : Scene) (n2 : List Note) →
      Meets nodes now (λ _. ms) (Ok (record { answer = answer; memo = Nothing })) before mid n0 n1 rule_done →
      Meets nodes now (memory_of t uid) r mid after n1 n2 (ended site (kept_at mid.kept uid).status (record { answer = answer; memo = Nothing }) (memories_of (out-Term t).children (uid + 1) mid.kept) (state_in nodes mid now)) →
      Meets nodes now (memory_of t uid) r before after n0 n2 visit_done
  lone_ended answer r after n2 made rest =
      let same = children_same before.kept mid.kept uid k is (out-Term t).children in
      let end = λ (st : Status) (cs : List Memory). ended site st (record { answer = answer; memo = Nothing }) cs (state_in nodes mid now) in
      let P : Done Answer Memory → Type 0 = λ d. Meets nodes now (memory_of t uid) r mid after n1 n2 d in
      followed nodes now (λ _. ms) (memory_of t uid) before mid n0 n1 rule_done (λ ms1. remembered status memo ms1) (λ g ms1 s1. ended site status g ms1 s1) _ r after n2 made
      (subst P (λ i. end (status_kept i) (same i)) rest)

  -- there is a fault or want of memory, which ends the visit
  pub lone_stopped : (r : Result Answer (Stop NodeFault)) (cause : Stop NodeFault) → r ≡ Err cause → Meets {A = Given} nodes now (λ _. ms) (Err cause) before mid n0 n1 rule_done →
      Meets nodes now (memory_of t uid) r before mid n0 n1 visit_done
  lone_stopped r cause is_cause stops =
      let P : Result Answer (Stop NodeFault) → Type 0 = λ r1. Meets nodes now (memory_of t uid) r1 before mid n0 n1 visit_done in
      let remembers : remembered status memo ms ≡ memory_of t uid mid.kept = sym (memory_now before.kept mid.kept uid k is t ∙ (λ i. remembered (status_kept i) (memo_kept i) ms)) in
      subst P (sym is_cause)
      (stopped nodes now (λ _. ms) (memory_of t uid) before mid n0 n1 rule_done (λ ms1. remembered status memo ms1) (λ g ms1 s1. ended site status g ms1 s1) cause remembers stops)
