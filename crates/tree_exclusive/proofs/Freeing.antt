-- A reset only frees leaves, and only those of its nodes.
use Rattle.std.proofs.Common.{◌≡◌, ⊎_elim, inl, inr, ℕ, ◌+◌, ◌≤◌, List, [], ◌∷◌, ◌++◌, map, nat_eq, false, ◌&&◌, Result, Ok, Err, refl, sym, subst, arith}
use Rattle.std.specs.List.{AllByRecursion}
use Rattle.std.proofs.lemmas.Bool.{cond_both}
use Rattle.std.proofs.lemmas.List.Sums.{sum_by-cons}
use Rattle.run_laws.proofs.Induction.{every_term}
use Rattle.spec_run.specs.declared.fault.NodeFault.{NodeFault}
use Rattle.spec_run.specs.declared.memory.Memory.{Memory, out-Memory}
use Rattle.spec_run.specs.declared.moves.Span.{Span}
use Rattle.spec_run.specs.declared.moves.Span.TheVariants as span
use Rattle.spec_run.specs.declared.note.Note.{Note}
use Rattle.spec_run.specs.declared.note.Note.TheVariants.{Changed}
use Rattle.spec_run.specs.declared.status.Status.{Status}
use Rattle.spec_run.specs.declared.status.Status.TheVariants as status
use Rattle.spec_run.specs.Done.{Done, State, carried, done, follow}
use Rattle.spec_run.specs.NodeScripts.{script_if_there}
use Rattle.spec_run.specs.Sites.{Meaning, Site, View, child_of, children_from, children_of, memory_at, remembered, sizes, view_below}
use Rattle.spec_run.specs.Steps.{reset_within, resets, spans}
use Rattle.spec_run.specs.Visit.{cleared, halt, halt_notes, halt_state, halted, meaning, reset_by, site_of}
use Rattle.spec_tree.specs.declared.term.Kind.{Kind}
use Rattle.spec_tree.specs.declared.term.Kind.TheVariants.{Leaf}
use Rattle.spec_tree.specs.declared.term.Term.{Term, Term-F}
use Rattle.spec_tree.specs.declared.term.Term.TheFolds.{map-Term}
use Rattle.tree_exclusive.proofs.Apart.{Frees, Stays, change_stays, freeing, frees_both, other_call, stays_both, stays_frees}
use Rattle.tree_exclusive.proofs.Parted.{Beyond}
use Rattle.tree_exclusive.proofs.Silent.{if_there_silent}

module _ (runner : ℕ) where
  -- notes that free leaves of some nodes, and say nothing of others
  pub record Freeing (uid size : ℕ) (notes : List Note) : Type 0 where
    pub stays : (p : ℕ) → Beyond uid size p → Stays runner p notes
    pub frees : (p : ℕ) → Frees runner p notes

  module _ {uid size : ℕ} where
    none_freed : Freeing uid size []
    none_freed = record { stays = λ p out. tt; frees = λ p. tt }

    still_freed : (notes : List Note) → ((p : ℕ) → Stays runner p notes) → Freeing uid size notes
    still_freed notes stays = record { stays = λ p out. stays p; frees = λ p. stays_frees runner p notes (stays p) }

    silent_freed : (notes : List Note) → notes ≡ [] → Freeing uid size notes
    silent_freed notes silent = subst (λ (ns : List Note). Freeing uid size ns) (sym silent) none_freed

    both_freed : (xs ys : List Note) → Freeing uid size xs → Freeing uid size ys → Freeing uid size (xs ++ ys)
    both_freed xs ys one other = record {
      stays = λ p out. stays_both runner p xs ys (one.stays p out) (other.stays p out);
      frees = λ p. frees_both runner p xs ys (one.frees p) (other.frees p);
    }

    module _ {A M B N : Type 0} where
      carried_freed : (r : Result A NodeFault) (d : Done A M) (place : M → N) (go : A → M → State → Done B N) → Freeing uid size d.notes → ((a : A) → Freeing uid size (go a d.memory d.state).notes) → Freeing uid size (carried r d place go).notes
      carried_freed (Ok a) d place go freed goes = both_freed d.notes (go a d.memory d.state).notes freed (goes a)
      carried_freed (Err f) d place go freed goes = freed

      follow_freed : (d : Done A M) (place : M → N) (go : A → M → State → Done B N) → Freeing uid size d.notes → ((a : A) → Freeing uid size (go a d.memory d.state).notes) → Freeing uid size (follow d place go).notes
      follow_freed d = carried_freed d.answer d

  -- some of more nodes
  more_freed : (uid size uid1 size1 : ℕ) (notes : List Note) → uid ≤ uid1 → uid1 + size1 ≤ uid + size → Freeing uid1 size1 notes → Freeing uid size notes
  more_freed uid size uid1 size1 notes low high freed = record {
    stays = λ p out. freed.stays p (⊎_elim (λ below. inl (omega (arith, below, low))) (λ past. inr (omega (arith, past, high))) out);
    frees = freed.frees;
  }

  -- ---- Children

  abbrev pub TermFrees : Meaning → Type 0
  TermFrees c = (view : View) (uid : ℕ) (m : Memory) (s : State) → Freeing uid c.size (c.reset view uid m s).notes

  within_freed : (view : View) (c : Meaning) → TermFrees c → (span : Span) (uid place : ℕ) (ms : List Memory) (s : State) → Freeing uid c.size (reset_within span place (child_of view c uid place) ms s).notes
  within_freed view c frees span uid place ms s =
      cond_both (spans span place) ((child_of view c uid place).reset ms s) (done tt ms s) (λ (d : Done (Unit {0}) (List Memory)). Freeing uid c.size d.notes)
      (λ _. frees view uid (memory_at ms place) s)
      (λ _. none_freed)

  pub span_freed : (view : View) (cs : List Meaning) → AllByRecursion TermFrees cs → (span : Span) (uid first : ℕ) (ms : List Memory) (s : State) →
      Freeing uid (sizes cs) (resets span (children_from view cs uid first) first ms s).notes
  span_freed view [] each span uid first ms s = none_freed
  span_freed view (c ∷ cs) each span uid first ms s =
      let d : Done (Unit {0}) (List Memory) = reset_within span first (child_of view c uid first) ms s in
      let many : sizes (c ∷ cs) ≡ c.size + sizes cs = sum_by-cons (λ (k : Meaning). k.size) c cs in
      follow_freed d (λ ms1. ms1) (λ _ ms1 s1. resets span (children_from view cs (uid + c.size) (first + 1)) (first + 1) ms1 s1)
      (more_freed uid (sizes (c ∷ cs)) uid c.size d.notes (omega arith) (omega (arith, many)) (within_freed view c each.0 span uid first ms s))
      (λ _. more_freed uid (sizes (c ∷ cs)) (uid + c.size) (sizes cs) _ (omega arith) (omega (arith, many)) (span_freed view cs each.1 span (uid + c.size) (first + 1) d.memory d.state))

  -- ---- A node

  module _ (node : Term-F Meaning) (view : View) (uid : ℕ) (each : AllByRecursion TermFrees node.children) where
    abbrev site : Site
    site = site_of node view uid

    abbrev size : ℕ
    size = 1 + sizes node.children

    halt_freed : (kind : Kind) → Freeing uid size (halt_notes kind uid)
    halt_freed Leaf = record {
      stays = λ p out. ((λ known. other_call runner p uid false known (λ same. ⊎_elim (λ below. omega (arith, same, below)) (λ past. omega (arith, same, past)) out)), tt);
      frees = λ p. ((λ known e. freeing runner (nat_eq runner runner && nat_eq p uid) known e), tt);
    }
    halt_freed _ = none_freed

    halted_freed : (idle : Memory) (s : State) → Freeing uid size (halted site idle s).notes
    halted_freed idle s =
        let freed : State = halt_state node.kind uid s in
        both_freed (halt_notes node.kind uid ++ Changed uid status.Running status.Idle ∷ []) _
        (both_freed (halt_notes node.kind uid) (Changed uid status.Running status.Idle ∷ []) (halt_freed node.kind) (still_freed (Changed uid status.Running status.Idle ∷ []) (λ p. ((λ known. refl), tt))))
        (follow_freed (script_if_there site node.guards.on_halted freed) (λ _. idle) (λ _ _ s1. done tt idle s1) (silent_freed _ (if_there_silent site node.guards.on_halted freed)) (λ _. none_freed))

    pub halting_freed : (m : Memory) (s : State) → Freeing uid size (halt site m s).notes
    halting_freed m s =
        let d : Done (Unit {0}) (List Memory) = resets span.All (children_of site) 0 (out-Memory m).children s in
        follow_freed d (λ ms. remembered status.Running (out-Memory m).memo ms) (λ _ ms s1. halted site (remembered status.Idle (cleared (out-Memory m).memo) ms) s1)
        (more_freed uid size (uid + 1) (sizes node.children) d.notes (omega arith) (omega arith) (span_freed (view_below site) node.children each span.All (uid + 1) 0 (out-Memory m).children s))
        (λ _. halted_freed (remembered status.Idle (cleared (out-Memory m).memo) d.memory) d.state)

    reset_freed : (st : Status) (m : Memory) (s : State) → Freeing uid size (reset_by st site m s).notes
    reset_freed status.Running m s = halting_freed m s
    reset_freed status.Idle m s = none_freed
    reset_freed status.Success m s = still_freed _ (λ p. change_stays runner p uid status.Success status.Idle)
    reset_freed status.Failure m s = still_freed _ (λ p. change_stays runner p uid status.Failure status.Idle)

  -- ---- Every term

  all_free : {X : Type 0} (term : X → Term) → ((c : X) → TermFrees (meaning (term c))) → (cs : List X) → AllByRecursion TermFrees (map (λ c. meaning (term c)) cs)
  all_free term each [] = tt
  all_free term each (c ∷ cs) = (each c, all_free term each cs)

  pub term_frees : (t : Term) → TermFrees (meaning t)
  term_frees = every_term (λ t c rules. TermFrees c) (λ X term each node view uid m s.
      reset_freed (map-Term X Meaning (λ c. meaning (term c)) node) view uid (all_free term each node.children) (out-Memory m).status m s)

  pub children_free : {X : Type 0} (term : X → Term) (cs : List X) → AllByRecursion TermFrees (map (λ c. meaning (term c)) cs)
  children_free term cs = all_free term (λ c. term_frees (term c)) cs
