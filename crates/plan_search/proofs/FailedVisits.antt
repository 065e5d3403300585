-- Where a sequence of the goals fails, a condition with which one of its children begins was called and answered FAILURE.
use Rattle.std.proofs.Common.{◌≡◌, ℕ, zero, suc, ◌+◌, Bool, true, false, List, [], ◌∷◌, ◌++◌, length, map, Option, Some, None, Result, Ok, Err, refl, sym, ap, subst, ◌∙◌, arith}
use Rattle.std.specs.Prelude.{codes}
use Rattle.std.specs.List.{AllByRecursion}
use Rattle.std.proofs.lemmas.List.Sums.{sum_by-cons}
use Rattle.spec_run.specs.declared.fault.NodeFault.{NodeFault}
use Rattle.spec_run.specs.declared.leaf.Phase.{Phase}
use Rattle.spec_run.specs.declared.leaf.Reply.{Reply}
use Rattle.spec_run.specs.declared.leaf.Reply.TheVariants as reply
use Rattle.spec_run.specs.declared.memory.Memo.{Memo}
use Rattle.spec_run.specs.declared.memory.Memo.TheVariants.{Nothing}
use Rattle.spec_run.specs.declared.memory.Memory.{Memory, out-Memory}
use Rattle.spec_run.specs.declared.moves.Span.{Span}
use Rattle.spec_run.specs.declared.note.Note.{Note}
use Rattle.spec_run.specs.declared.status.Answer.{Answer}
use Rattle.spec_run.specs.declared.status.Answer.TheVariants as answer
use Rattle.spec_run.specs.declared.status.Status.{Status}
use Rattle.spec_run.specs.declared.status.Status.TheVariants as status
use Rattle.spec_tree.specs.declared.term.Kind.{Kind}
use Rattle.spec_tree.specs.declared.term.Kind.TheVariants.{ReactiveSequence, ReactiveFallback}
use Rattle.spec_tree.specs.declared.term.Term.{Term, Term-F, fold-roll-Term, roll-Term}
use Rattle.spec_world.specs.declared.world.Row.{Row}
use Rattle.spec_run.specs.Done.{Done, State, carried, done, ends}
use Rattle.spec_run.specs.Leaves.{called, leaf_answered, leaf_call, phase_of, reply_answer, reply_notes, row_of}
use Rattle.spec_run.specs.Rules.Kinds.{rule}
use Rattle.spec_run.specs.Rules.Sequences.{reactive_end, round, round_after}
use Rattle.spec_run.specs.Ports.{new_memo, picked}
use Rattle.spec_run.specs.Sites.{Meaning, Site, View, children_from, children_of, memory_at, remembered, sizes, view_below}
use Rattle.spec_run.specs.Steps.{Child, Given, child_at, keep, reset, resets, visit}
use Rattle.spec_run.specs.Visit.{begun, change, ended, kind_rule, meaning, meaning_of_node, node_rule, or_bad_port, remembers, ruled, site_of, started, visit_by}
use Rattle.spec_plan.specs.declared.part.Part.{Part}
use Rattle.spec_plan.specs.declared.part.Part.TheVariants.{Goals, Sequence, Fallback, Condition, Action}
use Rattle.spec_plan.specs.declared.places.Place.{Place}
use Rattle.spec_plan.specs.Failing.{own_place, places_from, spots_from}
use Rattle.spec_plan.specs.Forests.{Forest, Empty, Tree}
use Rattle.spec_plan.specs.Planned.{id_of, kind_of, no_guards, part_id, plain_node, terms_of}
use Rattle.plan_tree.specs.Sizes.{size}
use Rattle.plan_search.proofs.Conditions.{length-spots}
use Rattle.plan_search.proofs.Headed.{AreLed, IsLed, Leads}
use Rattle.plan_search.proofs.RowsThere.{HasRow}
use Rattle.plan_search.proofs.Spots.{places-append}

-- a plain node, with what its children mean
abbrev node : Kind → List ℕ → List Meaning → Term-F Meaning
node kind id children = record {
  kind = kind;
  id = id;
  name = id;
  ports = [];
  code = None;
  guards = no_guards;
  autoremap = false;
  children = children;
}

plain_is : (kind : Kind) (id : List ℕ) (children : List Term) → meaning (roll-Term (plain_node kind id children)) ≡ meaning_of_node (node kind id (map meaning children))
plain_is kind id children = fold-roll-Term Meaning meaning_of_node (plain_node kind id children)

-- the number of the condition with which the first tree begins, where that tree has this number
abbrev lead_of : Part → ℕ → ℕ → ℕ
lead_of Fallback uid lower = lower
lead_of _ uid lower = uid

abbrev lead : ℕ → Forest → ℕ
lead uid Empty = uid
lead uid (Tree key part below rest) = lead_of part uid (lead (uid + 1) below)

-- what is told by notes stays told where other notes come before or after them
module _ (T : List Note → Type 0) (left : (xs ys : List Note) → T xs → T (xs ++ ys)) (right : (xs ys : List Note) → T ys → T (xs ++ ys)) where
  -- FAILURE is told, and SKIPPED comes only where this is so
  abbrev pub Tells : Type 0 → Answer → List Note → Type 0
  Tells S answer.Failure notes = T notes
  Tells S answer.Skipped notes = S
  Tells S answer.Running notes = Unit {0}
  Tells S answer.Success notes = Unit {0}

  -- whatever a part answers
  abbrev pub Meets : {A M : Type 0} → Type 0 → (A → Answer) → Done A M → Type 0
  Meets {A} S says d = (a : A) → d.answer ≡ Ok a → Tells S (says a) d.notes

  -- the failure of the node of this number is told by its call
  abbrev pub IsMarked : ℕ → Type 0
  IsMarked uid = (p : Phase) → T (called p uid answer.Failure ∷ [])

  tells_left : (S : Type 0) (a : Answer) (xs ys : List Note) → Tells S a xs → Tells S a (xs ++ ys)
  tells_left S answer.Failure xs ys t = left xs ys t
  tells_left S answer.Skipped xs ys t = t
  tells_left S answer.Running xs ys t = tt
  tells_left S answer.Success xs ys t = tt

  tells_right : (S : Type 0) (a : Answer) (xs ys : List Note) → Tells S a ys → Tells S a (xs ++ ys)
  tells_right S answer.Failure xs ys t = right xs ys t
  tells_right S answer.Skipped xs ys t = t
  tells_right S answer.Running xs ys t = tt
  tells_right S answer.Success xs ys t = tt

  tells_as : (S : Type 0) (a b : Answer) (notes : List Note) → b ≡ a → Tells S a notes → Tells S b notes
  tells_as S a b notes is t = subst (λ (x : Answer). Tells S x notes) (sym is) t

  tells_any : (a : Answer) (notes : List Note) → (a ≡ answer.Skipped → ⊥) → T notes → Tells ⊥ a notes
  tells_any answer.Failure notes other t = t
  tells_any answer.Skipped notes other t = other refl
  tells_any answer.Running notes other t = tt
  tells_any answer.Success notes other t = tt

  tells_less : (a : Answer) (notes : List Note) → Tells ⊥ a notes → Tells (Unit {0}) a notes
  tells_less answer.Failure notes t = t
  tells_less answer.Skipped notes t = tt
  tells_less answer.Running notes t = tt
  tells_less answer.Success notes t = tt

  -- a part and the part after it
  carried_tells : {A M B N : Type 0} (S : Type 0) (says : B → Answer) (r : Result A NodeFault) (d : Done A M) (place : M → N) (go : A → M → State → Done B N) →
      ((a : A) → r ≡ Ok a → (b : B) → (go a d.memory d.state).answer ≡ Ok b → Tells S (says b) (d.notes ++ (go a d.memory d.state).notes)) → Meets S says (carried r d place go)
  carried_tells S says (Ok a) d place go each b is = each a refl b is
  carried_tells S says (Err f) d place go each b is = absurd (cc is)

  -- ---- Rounds

  given : {M N : Type 0} (r : Result (Unit {0}) NodeFault) (d : Done (Unit {0}) M) (place : M → N) (go : M → N) (a : Answer) (memo : Memo) (g : Given) →
      (carried r d place (λ _ ms s. done (record { answer = a; memo = memo }) (go ms) s)).answer ≡ Ok g → g.answer ≡ a
  given (Ok u) d place go a memo g is = let own : Given = record { answer = a; memo = memo } in let same : own ≡ g = cc is in sym (ap (λ (x : Given). x.answer) same)
  given (Err f) d place go a memo g is = absurd (cc is)

  -- the answer that is given after a reset
  kept : (span : Span) (a : Answer) (memo : Memo) (cs : List Child) (ms : List Memory) (s : State) (g : Given) → (reset span (keep a memo) cs ms s).answer ≡ Ok g → g.answer ≡ a
  unfolding reset keep
  kept span a memo cs ms s g is = let d = resets span cs 0 ms s in given d.answer d (λ ms1. ms1) (λ ms1. ms1) a memo g is

  module _ (cs : List Child) where
    abbrev in_sequence : ℕ → ℕ → Bool → List Memory → State → Done Given (List Memory)
    in_sequence count place seen ms s = round answer.Success (reactive_end answer.Success) count place seen cs ms s

    abbrev in_fallback : ℕ → ℕ → Bool → List Memory → State → Done Given (List Memory)
    in_fallback count place seen ms s = round answer.Failure (reactive_end answer.Failure) count place seen cs ms s

    sequence_over : (place : ℕ) (seen : Bool) (ms : List Memory) (s : State) → Meets (Unit {0}) (λ (g : Given). g.answer) (in_sequence zero place seen ms s)
    sequence_over place true ms s g is = tells_as (Unit {0}) answer.Success g.answer _ (kept _ answer.Success _ cs ms s g is) tt
    sequence_over place false ms s g is = tells_as (Unit {0}) answer.Skipped g.answer _ (kept _ answer.Skipped _ cs ms s g is) tt

    sequence_after : (count place : ℕ) (seen : Bool) (before : List Note) (ms : List Memory) (s : State) → ((b : Bool) → Meets (Unit {0}) (λ (g : Given). g.answer) (in_sequence count (place + 1) b ms s)) →
        (a : Answer) → Tells (Unit {0}) a before → (g : Given) →
        (round_after answer.Success (reactive_end answer.Success) place seen (λ b. round answer.Success (reactive_end answer.Success) count (place + 1) b) a cs ms s).answer ≡ Ok g →
        Tells (Unit {0}) g.answer (before ++ (round_after answer.Success (reactive_end answer.Success) place seen (λ b. round answer.Success (reactive_end answer.Success) count (place + 1) b) a cs ms s).notes)
    sequence_after count place seen before ms s later answer.Skipped t g is = tells_right (Unit {0}) g.answer before _ (later _ g is)
    sequence_after count place seen before ms s later answer.Success t g is = tells_right (Unit {0}) g.answer before _ (later _ g is)
    sequence_after count place seen before ms s later answer.Failure t g is = tells_left (Unit {0}) g.answer before _ (tells_as (Unit {0}) answer.Failure g.answer before (kept _ answer.Failure _ cs ms s g is) t)
    sequence_after count place seen before ms s later answer.Running t g is = tells_as (Unit {0}) answer.Running g.answer _ (kept _ answer.Running _ cs ms s g is) tt

    -- where each child that fails tells it, a sequence that fails does
    sequence_tells : ((place : ℕ) (ms : List Memory) (s : State) → Meets (Unit {0}) (λ (a : Answer). a) ((child_at cs place).visit ms s)) → (count place : ℕ) (seen : Bool) (ms : List Memory) (s : State) →
        Meets (Unit {0}) (λ (g : Given). g.answer) (in_sequence count place seen ms s)
    unfolding visit
    sequence_tells each zero place seen ms s = sequence_over place seen ms s
    sequence_tells each (suc count) place seen ms s =
        let d = (child_at cs place).visit ms s in
        carried_tells (Unit {0}) (λ (g : Given). g.answer) d.answer d (λ ms1. ms1) _
        (λ a is g ok. sequence_after count place seen d.notes d.memory d.state (λ b. sequence_tells each count (place + 1) b d.memory d.state) a (each place ms s a is) g ok)

    -- a fallback of which a child was not skipped
    seen_after : (count place : ℕ) (ms : List Memory) (s : State) → ((g : Given) → (in_fallback count (place + 1) true ms s).answer ≡ Ok g → g.answer ≡ answer.Skipped → ⊥) →
        (a : Answer) (g : Given) → (round_after answer.Failure (reactive_end answer.Failure) place true (λ b. round answer.Failure (reactive_end answer.Failure) count (place + 1) b) a cs ms s).answer ≡ Ok g → g.answer ≡ answer.Skipped → ⊥
    seen_after count place ms s later answer.Skipped g is skipped = later g is skipped
    seen_after count place ms s later answer.Failure g is skipped = later g is skipped
    seen_after count place ms s later answer.Success g is skipped = cc (kept _ answer.Success _ cs ms s g is, skipped)
    seen_after count place ms s later answer.Running g is skipped = cc (kept _ answer.Running _ cs ms s g is, skipped)

    seen_carried : {A M : Type 0} (r : Result A NodeFault) (d : Done A M) (place : M → List Memory) (go : A → M → State → Done Given (List Memory)) →
        ((a : A) (g : Given) → (go a d.memory d.state).answer ≡ Ok g → g.answer ≡ answer.Skipped → ⊥) → (g : Given) → (carried r d place go).answer ≡ Ok g → g.answer ≡ answer.Skipped → ⊥
    seen_carried (Ok a) d place go each g is = each a g is
    seen_carried (Err f) d place go each g is = absurd (cc is)

    not_skipped : (count place : ℕ) (ms : List Memory) (s : State) (g : Given) → (in_fallback count place true ms s).answer ≡ Ok g → g.answer ≡ answer.Skipped → ⊥
    unfolding visit
    not_skipped zero place ms s g is skipped = cc (kept _ answer.Failure _ cs ms s g is, skipped)
    not_skipped (suc count) place ms s g is skipped =
        let d = (child_at cs place).visit ms s in
        seen_carried d.answer d (λ ms1. ms1) _ (λ a. seen_after count place d.memory d.state (not_skipped count (place + 1) d.memory d.state) a) g is skipped

    fallback_after : (count place : ℕ) (before : List Note) (ms : List Memory) (s : State) (a : Answer) → Tells ⊥ a before → (g : Given) →
        (round_after answer.Failure (reactive_end answer.Failure) place false (λ b. round answer.Failure (reactive_end answer.Failure) count (place + 1) b) a cs ms s).answer ≡ Ok g →
        Tells ⊥ g.answer (before ++ (round_after answer.Failure (reactive_end answer.Failure) place false (λ b. round answer.Failure (reactive_end answer.Failure) count (place + 1) b) a cs ms s).notes)
    fallback_after count place before ms s answer.Skipped t g is = absurd t
    fallback_after count place before ms s answer.Failure t g is = tells_any g.answer _ (not_skipped count (place + 1) ms s g is) (left before _ t)
    fallback_after count place before ms s answer.Success t g is = tells_as ⊥ answer.Success g.answer _ (kept _ answer.Success _ cs ms s g is) tt
    fallback_after count place before ms s answer.Running t g is = tells_as ⊥ answer.Running g.answer _ (kept _ answer.Running _ cs ms s g is) tt

    -- where the first child is never skipped and tells that it fails, a fallback does
    fallback_tells : ((ms : List Memory) (s : State) → Meets ⊥ (λ (a : Answer). a) ((child_at cs 0).visit ms s)) → (count : ℕ) (ms : List Memory) (s : State) → Meets ⊥ (λ (g : Given). g.answer) (in_fallback (suc count) 0 false ms s)
    unfolding visit
    fallback_tells first count ms s =
        let d = (child_at cs 0).visit ms s in
        carried_tells ⊥ (λ (g : Given). g.answer) d.answer d (λ ms1. ms1) _ (λ a is g ok. fallback_after count 0 d.notes d.memory d.state a (first ms s a is) g ok)

  -- ---- Nodes

  module _ (S : Type 0) (kind : Kind) (id : List ℕ) (cs : List Meaning) (view : View) (uid : ℕ) where
    abbrev site : Site
    site = site_of (node kind id cs) view uid

    ended_tells : (st : Status) (x : Answer) (memo : Memo) (ms : List Memory) (s : State) (before : List Note) → Tells S x before → (a : Answer) →
        (ended site st (record { answer = x; memo = memo }) ms s).answer ≡ Ok a → Tells S a (before ++ (ended site st (record { answer = x; memo = memo }) ms s).notes)
    ended_tells st answer.Running memo ms s before t a is = tells_left S a before _ (tells_as S answer.Running a before (cc is) t)
    ended_tells st answer.Success memo ms s before t a is = tells_left S a before _ (tells_as S answer.Success a before (cc is) t)
    ended_tells st answer.Failure memo ms s before t a is = tells_left S a before _ (tells_as S answer.Failure a before (cc is) t)
    ended_tells st answer.Skipped memo ms s before t a is = tells_left S a before _ (tells_as S answer.Skipped a before (cc is) t)

    module _ (own : (st : Status) (memo : Memo) (ms : List Memory) (s : State) → Meets S (λ (g : Given). g.answer) (node_rule kind site st memo ms s)) where
      ruled_tells : (st : Status) (memo : Memo) (ms : List Memory) (s : State) → Meets S (λ (a : Answer). a) (ruled site st memo ms s)
      ruled_tells st memo ms s =
          let d = node_rule kind site st memo ms s in
          carried_tells S (λ (a : Answer). a) d.answer d _ _ (λ g is a ok. ended_tells st g.answer g.memo d.memory d.state d.notes (own st memo ms s g is) a ok)

      started_tells : (m : Memory) (s : State) → Meets S (λ (a : Answer). a) (started site m s)
      started_tells m s a is =
          let memo : Memo = (out-Memory m).memo in
          let ms : List Memory = (out-Memory m).children in
          let d : Done Memo (List Memory) = ends (or_bad_port uid (new_memo kind site (remembers (out-Memory m).status memo) s)) ms s in
          tells_right S a (change uid (out-Memory m).status status.Running) (carried d.answer d (λ ms1. remembered status.Running memo ms1) (λ memo1 ms1 s1. ruled site status.Running memo1 ms1 s1)).notes
          (carried_tells S (λ (x : Answer). x) d.answer d (λ ms1. remembered status.Running memo ms1) (λ memo1 ms1 s1. ruled site status.Running memo1 ms1 s1)
          (λ memo1 _ b ok. ruled_tells status.Running memo1 ms s b ok) a is)

      begun_tells : (starting : Bool) (m : Memory) (s : State) → Meets S (λ (a : Answer). a) (begun starting site m s)
      begun_tells true m s = started_tells m s
      begun_tells false m s = ruled_tells (out-Memory m).status (out-Memory m).memo (out-Memory m).children s

      visit_tells : (st : Status) (m : Memory) (s : State) → Meets S (λ (a : Answer). a) (visit_by st site m s)
      visit_tells status.Running m s = ruled_tells status.Running (out-Memory m).memo (out-Memory m).children s
      visit_tells status.Idle m s = begun_tells _ m s
      visit_tells status.Success m s = begun_tells _ m s
      visit_tells status.Failure m s = begun_tells _ m s

  -- a node with children, by the rule of its kind
  kind_tells : (S : Type 0) (own : Site) (memo : Memo) (ms : List Memory) (s : State) →
      ((place : ℕ) (ms1 : List Memory) (s1 : State) → Meets S (λ (g : Given). g.answer) (rule own.node.kind (length own.node.children) memo place s1.moment (children_of own) ms1 s1)) →
      Meets S (λ (g : Given). g.answer) (kind_rule own memo ms s)
  kind_tells S own memo ms s each =
      let d : Done ℕ (List Memory) = ends (or_bad_port own.uid (picked own.node.kind own memo s)) ms s in
      carried_tells S (λ (g : Given). g.answer) d.answer d (λ ms1. ms1) (λ place ms1 s1. rule own.node.kind (length own.node.children) memo place s1.moment (children_of own) ms1 s1)
      (λ place _ g ok. each place ms s g ok)

  says : (x : Answer) (g own : Given) → own.answer ≡ x → own ≡ g → g.answer ≡ x
  says x g own is same = sym (ap (λ (y : Given). y.answer) same) ∙ is

  reply_tells : (p : Phase) (uid : ℕ) (r : Reply) → IsMarked uid → (g : Given) → reply_answer uid r ≡ Ok g → Tells ⊥ g.answer (reply_notes p uid r)
  reply_tells p uid reply.Running own g is = tells_as ⊥ answer.Running g.answer _ (says answer.Running g (record { answer = answer.Running; memo = Nothing }) refl (cc is)) tt
  reply_tells p uid reply.Success own g is = tells_as ⊥ answer.Success g.answer _ (says answer.Success g (record { answer = answer.Success; memo = Nothing }) refl (cc is)) tt
  reply_tells p uid reply.Failure own g is = tells_as ⊥ answer.Failure g.answer _ (says answer.Failure g (record { answer = answer.Failure; memo = Nothing }) refl (cc is)) (own p)
  reply_tells p uid (reply.Broken cause) own g is = absurd (cc is)

  -- a leaf that has a row
  leaf_tells : (o : Option Row) (row : Row) → o ≡ Some row → (site : Site) → IsMarked site.uid → (st : Status) (ms : List Memory) (s : State) → Meets ⊥ (λ (g : Given). g.answer) (leaf_call o site st ms s)
  leaf_tells (Some found) row is site own st ms s = reply_tells (phase_of st) site.uid (leaf_answered site found st s).reply own
  leaf_tells None row is site own st ms s = absurd (cc is)

  -- ---- Trees

  module _ (rows : List Row) where
    abbrev pub NodeTells : Type 0 → Part → Forest → ℕ → Type 0
    NodeTells S part below uid = (view : View) → view.rows ≡ rows → (m : Memory) (s : State) →
        Meets S (λ (a : Answer). a) ((meaning (roll-Term (plain_node (kind_of part) (part_id rows part) (terms_of rows below)))).visit view uid m s)

    abbrev FirstTells : Forest → ℕ → Type 0
    FirstTells Empty uid = Unit {0}
    FirstTells (Tree key part below rest) uid = NodeTells ⊥ part below uid

    -- a node, by its rule
    plain_tells : (S : Type 0) (part : Part) (below : Forest) (uid : ℕ) → ((view : View) → view.rows ≡ rows → (st : Status) (memo : Memo) (ms : List Memory) (s : State) →
        Meets S (λ (g : Given). g.answer) (node_rule (kind_of part) (site_of (node (kind_of part) (part_id rows part) (map meaning (terms_of rows below))) view uid) st memo ms s)) → NodeTells S part below uid
    plain_tells S part below uid own view seen m s =
        subst (λ (c : Meaning). Meets S (λ (a : Answer). a) (c.visit view uid m s)) (sym (plain_is (kind_of part) (part_id rows part) (terms_of rows below)))
        (visit_tells S (kind_of part) (part_id rows part) (map meaning (terms_of rows below)) view uid (own view seen) (out-Memory m).status m s)

    condition_tells : (row : ℕ) (below : Forest) (uid : ℕ) → HasRow rows row → IsMarked uid → NodeTells ⊥ (Condition row) below uid
    condition_tells row below uid has own = plain_tells ⊥ (Condition row) below uid
        (λ view seen st memo ms s. leaf_tells (row_of view.rows (id_of rows row)) has.0 (ap (λ (l : List Row). row_of l (id_of rows row)) seen ∙ has.1) _ own st ms s)

    fallback_of : (below : Forest) (uid : ℕ) → IsLed (HasRow rows) below → FirstTells below (uid + 1) → NodeTells ⊥ Fallback below uid
    fallback_of Empty uid led first = absurd led
    fallback_of (Tree key part under others) uid led first = plain_tells ⊥ Fallback (Tree key part under others) uid
        (λ view seen st memo ms s.
        let own : Site = site_of (node ReactiveFallback (codes "ReactiveFallback") (map meaning (terms_of rows (Tree key part under others)))) view uid in
        kind_tells ⊥ own memo ms s
        (λ place ms1 s1. fallback_tells (children_of own) (λ ms2 s2. first (view_below own) seen (memory_at ms2 0) s2) (length (map meaning (terms_of rows others))) ms1 s1))

    led_tells : (part : Part) (below : Forest) (uid : ℕ) → Leads (HasRow rows) part (IsLed (HasRow rows) below) → IsMarked (lead_of part uid (lead (uid + 1) below)) → (IsLed (HasRow rows) below → IsMarked (lead (uid + 1) below) → FirstTells below (uid + 1)) → NodeTells ⊥ part below uid
    led_tells (Condition row) below uid led own lower = condition_tells row below uid led own
    led_tells Fallback below uid led own lower = fallback_of below uid led (lower led own)
    led_tells Goals below uid led own lower = absurd led
    led_tells (Sequence row) below uid led own lower = absurd led
    led_tells (Action row) below uid led own lower = absurd led

    first_tells : (f : Forest) (uid : ℕ) → IsLed (HasRow rows) f → IsMarked (lead uid f) → FirstTells f uid
    first_tells Empty uid led own = tt
    first_tells (Tree key part below rest) uid led own = led_tells part below uid led own (λ lower marked. first_tells below (uid + 1) lower marked)

    -- ---- Numbers

    abbrev pub AreMarked : List Place → Type 0
    AreMarked places = AllByRecursion (λ (c : Place). IsMarked c.uid) places

    all_left : (xs ys : List Place) → AreMarked (xs ++ ys) → AreMarked xs
    all_left [] ys all = tt
    all_left (x ∷ xs) ys all = (all.0, all_left xs ys all.1)

    all_right : (xs ys : List Place) → AreMarked (xs ++ ys) → AreMarked ys
    all_right [] ys all = all
    all_right (x ∷ xs) ys all = all_right xs ys all.1

    abbrev pub Listed : ℕ → ℕ → Forest → Type 0
    Listed uid level f = AreMarked (places_from uid (spots_from level f))

    module _ (uid level key : ℕ) (part : Part) (below rest : Forest) (all : Listed uid level (Tree key part below rest)) where
      inner : AreMarked (places_from (uid + 1) (spots_from (level + 1) below) ++ places_from (uid + 1 + length (spots_from (level + 1) below)) (spots_from level rest))
      inner = subst AreMarked (places-append (uid + 1) (spots_from (level + 1) below) (spots_from level rest)) (all_right (own_place uid key level part) _ all)

      pub listed_below : Listed (uid + 1) (level + 1) below
      listed_below = all_left (places_from (uid + 1) (spots_from (level + 1) below)) _ inner

      listed_rest : Listed (uid + (1 + size below)) level rest
      listed_rest =
          let many = length-spots (level + 1) below in
          let e : uid + 1 + length (spots_from (level + 1) below) ≡ uid + (1 + size below) = omega (arith, many) in
          subst (λ (n : ℕ). Listed n level rest) e (all_right (places_from (uid + 1) (spots_from (level + 1) below)) _ inner)

    lead_here : (part : Part) (uid level key : ℕ) (lower : Type 0) (marked : ℕ) → Leads (HasRow rows) part lower → AreMarked (own_place uid key level part) → (lower → IsMarked marked) → IsMarked (lead_of part uid marked)
    lead_here (Condition row) uid level key lower marked led own below = own.0
    lead_here Fallback uid level key lower marked led own below = below led
    lead_here Goals uid level key lower marked led own below = absurd led
    lead_here (Sequence row) uid level key lower marked led own below = absurd led
    lead_here (Action row) uid level key lower marked led own below = absurd led

    lead_marked : (f : Forest) (uid level : ℕ) → IsLed (HasRow rows) f → Listed uid level f → IsMarked (lead uid f)
    lead_marked Empty uid level led all = absurd led
    lead_marked (Tree key part below rest) uid level led all =
        lead_here part uid level key (IsLed (HasRow rows) below) (lead (uid + 1) below) led (all_left (own_place uid key level part) _ all)
        (λ lower. lead_marked below (uid + 1) (level + 1) lower (listed_below uid level key part below rest all))

    sizes_are : (f : Forest) → sizes (map meaning (terms_of rows f)) ≡ size f
    sizes_are Empty = refl
    sizes_are (Tree key part below rest) =
        let own = plain_is (kind_of part) (part_id rows part) (terms_of rows below) in
        let c : Meaning = meaning (roll-Term (plain_node (kind_of part) (part_id rows part) (terms_of rows below))) in
        let size_is : c.size ≡ 1 + sizes (map meaning (terms_of rows below)) = ap (λ (x : Meaning). x.size) own in
        let lower = sizes_are below in
        let later = sizes_are rest in
        let both = sum_by-cons (λ (x : Meaning). x.size) c (map meaning (terms_of rows rest)) in
        omega (arith, size_is, lower, later, both)

    children_tell : (f : Forest) → AreLed (HasRow rows) f → (uid first level : ℕ) → Listed uid level f → (view : View) → view.rows ≡ rows → (place : ℕ) (ms : List Memory) (s : State) →
        Meets (Unit {0}) (λ (a : Answer). a) ((child_at (children_from view (map meaning (terms_of rows f)) uid first) place).visit ms s)
    children_tell Empty led uid first level all view seen place ms s a is = tells_as (Unit {0}) answer.Skipped a _ (cc is) tt
    children_tell (Tree key part below rest) led uid first level all view seen zero ms s a is =
        tells_less a _ (first_tells (Tree key part below rest) uid led.0 (lead_marked (Tree key part below rest) uid level led.0 all) view seen (memory_at ms first) s a is)
    children_tell (Tree key part below rest) led uid first level all view seen (suc place) ms s a is =
        let c : Meaning = meaning (roll-Term (plain_node (kind_of part) (part_id rows part) (terms_of rows below))) in
        let own = plain_is (kind_of part) (part_id rows part) (terms_of rows below) in
        let size_is : c.size ≡ 1 + sizes (map meaning (terms_of rows below)) = ap (λ (x : Meaning). x.size) own in
        let lower = sizes_are below in
        let e : uid + (1 + size below) ≡ uid + c.size = omega (arith, size_is, lower) in
        children_tell rest led.1 (uid + c.size) (first + 1) level (subst (λ (n : ℕ). Listed n level rest) e (listed_rest uid level key part below rest all)) view seen place ms s a is

    -- where a sequence of the goals fails, it is told
    pub goals_tell : (below : Forest) → AreLed (HasRow rows) below → (uid level : ℕ) → Listed (uid + 1) level below → NodeTells (Unit {0}) Goals below uid
    goals_tell below led uid level all = plain_tells (Unit {0}) Goals below uid
        (λ view seen st memo ms s.
        let own : Site = site_of (node ReactiveSequence (codes "ReactiveSequence") (map meaning (terms_of rows below))) view uid in
        kind_tells (Unit {0}) own memo ms s
        (λ picked ms1 s1. sequence_tells (children_of own) (λ place ms2 s2. children_tell below led (uid + 1) 0 level all (view_below own) seen place ms2 s2) (length (map meaning (terms_of rows below))) 0 false ms1 s1))
