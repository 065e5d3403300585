-- Claims on the parts of events. Parts that follow one another meet a claim where each of them does.
use Rattle.std.proofs.Common.{ℕ, zero, suc, ◌+◌, ◌≤◌, List, [], ◌∷◌, ◌++◌, Result, Ok, Err, arith}
use Rattle.std.specs.List.{AllByRecursion}
use Rattle.std.specs.Result.{IfErr}
use Rattle.std.proofs.lemmas.Bool.{cond_both}
use Rattle.std.proofs.lemmas.List.Sums.{sum_by-cons}
use Rattle.spec_run.specs.declared.fault.Cause.{Cause}
use Rattle.spec_run.specs.declared.fault.Cause.TheVariants.{BadPort, Mixed}
use Rattle.spec_run.specs.declared.fault.NodeFault.{NodeFault}
use Rattle.spec_run.specs.declared.fault.NumericPort.{NumericPort}
use Rattle.spec_run.specs.declared.memory.Memory.{Memory}
use Rattle.spec_run.specs.declared.moves.Span.{Span}
use Rattle.spec_run.specs.declared.note.Note.{Note}
use Rattle.spec_run.specs.declared.note.Note.TheVariants.{Changed, Halted}
use Rattle.spec_run.specs.declared.status.Answer.TheVariants.{Skipped}
use Rattle.spec_run.specs.declared.status.Status.{Status}
use Rattle.spec_tree.specs.Boards.{Scope}
use Rattle.spec_run.specs.Done.{Call, Done, State, carried, done, ends, follow, following}
use Rattle.spec_run.specs.Sites.{Meaning, View, children_from, memory_at, placed, sizes}
use Rattle.spec_run.specs.Steps.{Child, child_at, reset_within, resets, spans}
use Rattle.spec_run.specs.Visit.{halt_state}
use Rattle.spec_tree.specs.declared.term.Kind.TheVariants.{Leaf}

-- what says nothing of a fault holds of each answer
pub any_end : {A : Type 0} (answer : Result A NodeFault) → IfErr answer (λ f. Unit {0})
any_end (Ok a) = tt
any_end (Err f) = tt

-- What is claimed of each part of an event: of the state after it; of its notes, with the states before and after it; and
-- of the cause of its fault; for nodes below a uid that is in reach, by what they see. And that what a node does without
-- scripts and drivers meets the claim.
pub record Claim : Type 1 where
  pub state : State → Type 0
  pub notes : State → List Note → State → Type 0
  pub cause : Cause → Type 0
  pub view : View → Type 0
  pub reach : ℕ → Type 0
  pub no_note : (s : State) → notes s [] s
  pub both : (s s1 s2 : State) (xs ys : List Note) → notes s xs s1 → notes s1 ys s2 → notes s (xs ++ ys) s2
  pub changed : (s : State) (uid : ℕ) (old new : Status) → notes s (Changed uid old new ∷ []) s
  pub halted : (s : State) (uid : ℕ) → state s → state (halt_state Leaf uid s) × notes s (Halted uid ∷ []) (halt_state Leaf uid s)
  pub bad_port : (port : NumericPort) → cause (BadPort port)
  pub mixed : cause Mixed
  pub below : (v : View) (scope : Scope) → view v → view (record v { scope = scope })
  pub nearer : (near far : ℕ) → near ≤ far → reach far → reach near

module _ (claim : Claim) where
  -- an answer, or a fault of which the cause meets the claim
  abbrev pub EndMeets : {A : Type 0} → Result A NodeFault → Type 0
  EndMeets answer = IfErr answer (λ (f : NodeFault). claim.cause f.cause)

  -- what a part leaves that began in a state meets the claim
  pub record Meets {A M : Type 0} (s : State) (d : Done A M) : Type 0 where
    pub state : claim.state d.state
    pub notes : claim.notes s d.notes d.state
    pub end : EndMeets d.answer

  pub ends_meet : {A M : Type 0} (answer : Result A NodeFault) (m : M) (s : State) → claim.state s → EndMeets answer → Meets s (ends answer m s)
  ends_meet answer m s fits end = record { state = fits; notes = claim.no_note s; end = end }

  pub done_meets : {A M : Type 0} (a : A) (m : M) (s : State) → claim.state s → Meets s (done a m s)
  done_meets a m s fits = ends_meet (Ok a) m s fits tt

  pub following_meets : {A M : Type 0} (notes : List Note) (calls : List Call) (s s1 : State) (d : Done A M) → claim.notes s notes s1 → Meets s1 d → Meets s (following notes calls d)
  following_meets notes calls s s1 d before meets = record { state = meets.state; notes = claim.both s s1 d.state notes d.notes before meets.notes; end = meets.end }

  carried_meets : {A M B N : Type 0} (r : Result A NodeFault) (s : State) (d : Done A M) (place : M → N) (go : A → M → State → Done B N) →
      claim.state d.state → claim.notes s d.notes d.state → EndMeets r → ((a : A) → claim.state d.state → Meets d.state (go a d.memory d.state)) → Meets s (carried r d place go)
  carried_meets (Ok a) s d place go state notes end goes = following_meets d.notes d.calls s d.state (go a d.memory d.state) notes (goes a state)
  carried_meets (Err f) s d place go state notes end goes = record { state = state; notes = notes; end = end }

  -- a part and the part after it
  pub follow_meets : {A M B N : Type 0} (s : State) (d : Done A M) (place : M → N) (go : A → M → State → Done B N) →
      Meets s d → ((a : A) → claim.state d.state → Meets d.state (go a d.memory d.state)) → Meets s (follow d place go)
  follow_meets s d place go meets goes = carried_meets d.answer s d place go meets.state meets.notes meets.end goes

  -- ---- Children

  -- visits and resets of a term meet the claim
  pub record TermMeets (c : Meaning) : Type 0 where
    pub reset : (view : View) → claim.view view → (uid : ℕ) → claim.reach (uid + c.size) → (m : Memory) (s : State) → claim.state s → Meets s (c.reset view uid m s)
    pub visit : (view : View) → claim.view view → (uid : ℕ) → claim.reach (uid + c.size) → (m : Memory) (s : State) → claim.state s → Meets s (c.visit view uid m s)

  -- .. and so it is for its parent
  pub record ChildMeets (c : Child) : Type 0 where
    pub reset : (ms : List Memory) (s : State) → claim.state s → Meets s (c.reset ms s)
    pub visit : (ms : List Memory) (s : State) → claim.state s → Meets s (c.visit ms s)

  placed_meets : {A : Type 0} (place : ℕ) (ms : List Memory) (s : State) (d : Done A Memory) → Meets s d → Meets s (placed place ms d)
  placed_meets place ms s d meets = record { state = meets.state; notes = meets.notes; end = meets.end }

  first_near : (c : Meaning) (cs : List Meaning) (uid : ℕ) → claim.reach (uid + sizes (c ∷ cs)) → claim.reach (uid + c.size)
  first_near c cs uid reached = claim.nearer (uid + c.size) (uid + sizes (c ∷ cs)) (omega (arith, sum_by-cons (λ (k : Meaning). k.size) c cs)) reached

  later_near : (c : Meaning) (cs : List Meaning) (uid : ℕ) → claim.reach (uid + sizes (c ∷ cs)) → claim.reach (uid + c.size + sizes cs)
  later_near c cs uid reached = claim.nearer (uid + c.size + sizes cs) (uid + sizes (c ∷ cs)) (omega (arith, sum_by-cons (λ (k : Meaning). k.size) c cs)) reached

  pub children_meet : (view : View) → claim.view view → (cs : List Meaning) → AllByRecursion TermMeets cs → (uid first place : ℕ) → claim.reach (uid + sizes cs) → ChildMeets (child_at (children_from view cs uid first) place)
  children_meet view seen [] each uid first place reached = record { reset = λ ms s fits. done_meets tt ms s fits; visit = λ ms s fits. done_meets Skipped ms s fits }
  children_meet view seen (c ∷ cs) each uid first zero reached = record {
    reset = λ ms s fits. placed_meets first ms s (c.reset view uid (memory_at ms first) s) (each.0.reset view seen uid (first_near c cs uid reached) (memory_at ms first) s fits);
    visit = λ ms s fits. placed_meets first ms s (c.visit view uid (memory_at ms first) s) (each.0.visit view seen uid (first_near c cs uid reached) (memory_at ms first) s fits);
  }
  children_meet view seen (c ∷ cs) each uid first (suc place) reached = children_meet view seen cs each.1 (uid + c.size) (first + 1) place (later_near c cs uid reached)

  pub resets_meet : (span : Span) (ks : List Child) (first : ℕ) (ms : List Memory) (s : State) → ((place : ℕ) → ChildMeets (child_at ks place)) → claim.state s → Meets s (resets span ks first ms s)
  resets_meet span [] first ms s each fits = done_meets tt ms s fits
  resets_meet span (k ∷ ks) first ms s each fits =
      let d : Done (Unit {0}) (List Memory) = reset_within span first k ms s in
      follow_meets s d (λ ms1. ms1) (λ _ ms1 s1. resets span ks (first + 1) ms1 s1)
      (cond_both (spans span first) (k.reset ms s) (done tt ms s) (λ d. Meets s d) (λ _. (each zero).reset ms s fits) (λ _. done_meets tt ms s fits))
      (λ _ after. resets_meet span ks (first + 1) d.memory d.state (λ place. each (suc place)) after)
