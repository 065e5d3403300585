-- Where a plan ends without a template, a condition failed.
use Rattle.std.proofs.Common.{◌≡◌, ◌≢◌, inl, inr, ℕ, zero, suc, ◌+◌, ◌<◌, ◌≤◌, ◌==◌, ◌||◌, Bool, true, false, cond, List, [], ◌∷◌, ◌++◌, length, Option, Some, None, Result, Ok, Err, refl, sym, ap, subst, ◌∙◌, arith, append_assoc}
use Rattle.std.specs.List.{AllByRecursion, filter, flat_map, list_any, range_with_len}
use Rattle.std.proofs.lemmas.Bool.{cases_eq, or_left, or_right}
use Rattle.std.proofs.lemmas.List.Folds.{list_any-append}
use Rattle.std.proofs.lemmas.List.Sums.{sum_by-append}
use Rattle.spec_run.specs.declared.block.Header.{Header}
use Rattle.spec_run.specs.declared.block.Header.TheVariants as header
use Rattle.spec_run.specs.declared.fault.NodeFault.{NodeFault}
use Rattle.spec_run.specs.declared.fault.RunFault.{RunFault}
use Rattle.spec_run.specs.declared.leaf.Phase.{Phase}
use Rattle.spec_run.specs.declared.leaf.Phase.TheVariants as phase
use Rattle.spec_run.specs.declared.memory.Memory.{Memory, out-Memory}
use Rattle.spec_run.specs.declared.note.Note.{Note}
use Rattle.spec_run.specs.declared.note.Note.TheVariants.{Root}
use Rattle.spec_run.specs.declared.status.Answer.{Answer}
use Rattle.spec_run.specs.declared.status.Answer.TheVariants as answer
use Rattle.spec_run.specs.declared.status.Status.{Status}
use Rattle.spec_run.specs.declared.status.Status.TheVariants as status
use Rattle.spec_tree.specs.declared.term.Tree.{Tree as Planned}
use Rattle.spec_world.specs.declared.world.Row.{Row}
use Rattle.spec_world.specs.declared.world.World.{World}
use Rattle.spec_run.specs.Done.{Call, Done, State, carried}
use Rattle.spec_run.specs.Leaves.{called}
use Rattle.spec_run.specs.Run.{RunState, Runner, root_told, root_view, runner_at, settled, state_of, tick_step, ticked, told, with_runner}
use Rattle.spec_run.specs.Sites.{View}
use Rattle.spec_run.specs.Visit.{change, meaning}
use Rattle.spec_world.specs.Worlds.{IsValidWorld}
use Rattle.spec_plan.specs.declared.part.Part.TheVariants.{Goals}
use Rattle.spec_plan.specs.declared.places.Place.{Place}
use Rattle.spec_plan.specs.declared.verdict.Verdict.TheVariants.{Fails}
use Rattle.spec_plan.specs.Failing.{at_level, breadth_first, conditions, failed, has_failed, ids_of, is_failure_of, levels}
use Rattle.spec_plan.specs.Forests.{Forest, Empty, Tree, times}
use Rattle.spec_plan.specs.Modelled.{decided, goals_hold, is_failed_root, modelled, next_tick, state_after, verdict_by}
use Rattle.spec_plan.specs.declared.ending.End.{End}
use Rattle.spec_plan.specs.declared.ending.End.TheVariants.{Reached, NoTemplate, NoOrder, Expansions, StillRunning, Faulted}
use Rattle.spec_plan.specs.declared.ending.Limits.{Limits}
use Rattle.spec_plan.specs.declared.ending.PlanEnd.{PlanEnd}
use Rattle.spec_plan.specs.declared.ending.Step.{Step}
use Rattle.spec_plan.specs.PlanRuns.{Ends, HasNoTemplate, IsFirst, IsStep, Lead, PlanRun, Trial, last_notes, tree_of}
use Rattle.spec_plan.specs.Settling.{AreRaises}
use Rattle.plan_tree.proofs.Counted.{one_of, test_same}
use Rattle.plan_trial.specs.Roots.{TellRootOnce, is_root}
use Rattle.plan_trial.proofs.RootAnswers.{root_decides}
use Rattle.plan_trial.proofs.Rootless.{tick_tells_once}
use Rattle.plan_search.specs.Lacking.{NamesSome}
use Rattle.plan_search.proofs.FailedVisits.{goals_tell, listed_below}
use Rattle.plan_search.proofs.Headed.{IsLedTree, expanded_led, first_led, raised_led}
use Rattle.plan_search.proofs.Nearer.{raised_many}
use Rattle.plan_search.proofs.RowsThere.{HasRow, goals_there}

-- ---- Trees

module _ (world : World) (valid : IsValidWorld world) where
  abbrev Led : Forest → Type 0
  Led f = IsLedTree (HasRow world.rows) f

  pub first_tree : (first : Forest) → IsFirst world first → Led first
  first_tree first is = subst Led (sym is.is) (first_led (HasRow world.rows) is.root is.keys world.goals (goals_there world valid))

  raises_led : (n sequence : ℕ) (f after : Forest) → ((j : ℕ) → times j f ≤ 1) → Led f → AreRaises world.rows sequence n f after → Led after
  raises_led zero sequence f after apart led raises = subst Led raises led
  raises_led (suc n) sequence f after apart led (pair, next, conflict, is, raises) =
      raises_led n sequence next after (λ (j : ℕ). let few = apart j in let same = raised_many (λ k x. one_of k j) sequence f next apart is in omega (arith, few, same))
      (raised_led (HasRow world.rows) sequence f next apart led is) raises

  module _ (limits : Limits) where
    step_led : (t : Trial) (s : Step) (next : Forest) → Led t.tree → IsStep world limits t s next → Led next
    step_led t s next led is =
        let grown : Led is.grown = subst Led (sym is.grows.is) (expanded_led (HasRow world.rows) world.rows is.grows.keys is.place.key is.template.row t.tree led) in
        raises_led s.raises is.sequence is.grown next is.grows.apart.once grown is.settles.raised

    pub lead_led : (trials : List Trial) (steps : List Step) (added : ℕ) (f after : Forest) → Led f → Lead world limits added f trials steps after → Led after
    lead_led [] [] added f after led lead = subst Led lead led
    lead_led (t ∷ trials) (s ∷ steps) added f after led lead =
        let next = lead.3 in
        lead_led trials steps (added + 1) next.0 after (step_led t s next.0 (subst Led (sym lead.0) led) next.1) next.2
    lead_led [] (s ∷ steps) added f after led lead = absurd lead
    lead_led (t ∷ trials) [] added f after led lead = absurd lead

-- ---- What is told of a condition

any_more : (p q : Place → Bool) (cs : List Place) → ((c : Place) → p c ≡ true → q c ≡ true) → list_any p cs ≡ true → list_any q cs ≡ true
any_more p q [] more is = is
any_more p q (c ∷ cs) more is =
    elim (p c) as (λ b. p c ≡ b → (b || list_any p cs) ≡ true → list_any q (c ∷ cs) ≡ true) [
      | true ↦ λ e _. or_left (q c) (list_any q cs) (more c e)
      | false ↦ λ _ e. or_right (q c) (list_any q cs) (any_more p q cs more e)
    ] refl is

abbrev Told : List Place → List Note → Type 0
Told cs notes = list_any (λ (c : Place). has_failed notes c.uid) cs ≡ true

failed_left : (xs ys : List Note) (uid : ℕ) → has_failed xs uid ≡ true → has_failed (xs ++ ys) uid ≡ true
failed_left xs ys uid is = list_any-append (is_failure_of uid) xs ys ∙ or_left (has_failed xs uid) (has_failed ys uid) is

failed_right : (xs ys : List Note) (uid : ℕ) → has_failed ys uid ≡ true → has_failed (xs ++ ys) uid ≡ true
failed_right xs ys uid is = list_any-append (is_failure_of uid) xs ys ∙ or_right (has_failed xs uid) (has_failed ys uid) is

told_left : (cs : List Place) (xs ys : List Note) → Told cs xs → Told cs (xs ++ ys)
told_left cs xs ys is = any_more (λ (c : Place). has_failed xs c.uid) (λ (c : Place). has_failed (xs ++ ys) c.uid) cs (λ (c : Place) e. failed_left xs ys c.uid e) is

told_right : (cs : List Place) (xs ys : List Note) → Told cs ys → Told cs (xs ++ ys)
told_right cs xs ys is = any_more (λ (c : Place). has_failed ys c.uid) (λ (c : Place). has_failed (xs ++ ys) c.uid) cs (λ (c : Place) e. failed_right xs ys c.uid e) is

failure_of : (p : Phase) (uid : ℕ) → has_failed (called p uid answer.Failure ∷ []) uid ≡ true
failure_of phase.Start uid = ap (λ (b : Bool). b || false) (test_same uid uid refl)
failure_of _ uid = ap (λ (b : Bool). b || false) (test_same uid uid refl)

all_as : (P Q : Place → Type 0) → ((c : Place) → P c → Q c) → (cs : List Place) → AllByRecursion P cs → AllByRecursion Q cs
all_as P Q each [] all = tt
all_as P Q each (c ∷ cs) all = (each c all.0, all_as P Q each cs all.1)

abbrev TellsAmong : List Place → Place → Type 0
TellsAmong cs c = (p : Phase) → Told cs (called p c.uid answer.Failure ∷ [])

all_told : (cs : List Place) → AllByRecursion (TellsAmong cs) cs
all_told [] = tt
all_told (c ∷ cs) = (
  λ p. or_left (has_failed (called p c.uid answer.Failure ∷ []) c.uid) _ (failure_of p c.uid),
  all_as (TellsAmong cs) (TellsAmong (c ∷ cs)) (λ (d : Place) own p. or_right (has_failed (called p d.uid answer.Failure ∷ []) c.uid) _ (own p)) cs (all_told cs),
)

-- ---- Lists

filter_some : (p : Place → Bool) (cs : List Place) → list_any p cs ≡ true → filter p cs ≢ []
filter_some p [] is none = cc is
filter_some p (c ∷ cs) is none =
    elim (p c) as (λ b. (b || list_any p cs) ≡ true → cond b (c ∷ filter p cs) (filter p cs) ≡ [] → ⊥) [
      | true ↦ λ _ e. cc e
      | false ↦ λ more e. filter_some p cs more e
    ] is none

append_none : (xs ys : List Place) → xs ++ ys ≡ [] → (xs ≡ []) × (ys ≡ [])
append_none [] ys e = (refl, e)
append_none (x ∷ xs) ys e = absurd (cc e)

flat_none : (f : ℕ → List Place) (n first l : ℕ) → first ≤ l → l < first + n → flat_map f (range_with_len first n) ≡ [] → f l ≡ []
flat_none f zero first l low high none = absurd (omega (arith, low, high))
flat_none f (suc n) first l low high none =
    let parts = append_none (f first) (flat_map f (range_with_len (first + 1) n)) none in
    elim (cases_eq first l) [
      | inl same ↦ subst (λ (k : ℕ). f k ≡ []) same parts.0
      | inr differs ↦ flat_none f n (first + 1) l (omega (arith, low, differs)) (omega (arith, high)) parts.1
    ]

ordered_some : (cs : List Place) → cs ≢ [] → breadth_first cs ≢ []
ordered_some [] some none = some refl
ordered_some (c ∷ cs) some none =
    let e : at_level (c ∷ cs) c.level ≡ [] = flat_none (at_level (c ∷ cs)) (levels (c ∷ cs)) 0 c.level (omega arith) (omega arith) none in
    filter_some (λ (d : Place). d.level == c.level) (c ∷ cs) (or_left (c.level == c.level) _ (test_same c.level c.level refl)) e

ids_some : (rows : List Row) (cs : List Place) → cs ≢ [] → ids_of rows cs ≢ []
ids_some rows [] some none = some refl
ids_some rows (c ∷ cs) some none = cc none

-- ---- A tick

no_root_changed : (st : Status) → list_any is_failed_root (change 1 st (settled st) ++ []) ≡ false
no_root_changed status.Idle = refl
no_root_changed status.Running = refl
no_root_changed status.Success = refl
no_root_changed status.Failure = refl

failed_answer : (runner : ℕ) (a : Answer) → is_failed_root (Root runner a) ≡ true → a ≡ answer.Failure
failed_answer runner answer.Failure is = refl
failed_answer runner answer.Success is = absurd (cc is)
failed_answer runner answer.Running is = absurd (cc is)
failed_answer runner answer.Skipped is = absurd (cc is)

or_none : (a b : Bool) → (a || b) ≡ true → b ≡ false → a ≡ true
or_none true b is none = refl
or_none false b is none = absurd (cc (is, none))

module _ (T : List Note → Type 0) (left : (xs ys : List Note) → T xs → T (xs ++ ys)) (tree : Planned) (runner : ℕ) where
  carried_fails : (r : Result Answer NodeFault) (d : Done Answer Memory) → (r ≡ Ok answer.Failure → T d.notes) → (a : Answer) → (carried r d (λ m1. m1) (λ a m1 s1. root_told runner a m1 s1)).answer ≡ Ok a →
      TellRootOnce (carried r d (λ m1. m1) (λ a m1 s1. root_told runner a m1 s1)).notes → list_any is_failed_root (carried r d (λ m1. m1) (λ a m1 s1. root_told runner a m1 s1)).notes ≡ true →
      T (carried r d (λ m1. m1) (λ a m1 s1. root_told runner a m1 s1)).notes
  carried_fails (Ok a) d own b is once fails =
      let st : Status = (out-Memory d.memory).status in
      let later : List Note = change 1 st (settled st) ++ [] in
      let first : List Note = d.notes ++ Root runner a ∷ [] in
      let e : d.notes ++ Root runner a ∷ later ≡ first ++ later = sym (append_assoc d.notes (Root runner a ∷ []) later) in
      let both : (list_any is_failed_root first || list_any is_failed_root later) ≡ true = sym (list_any-append is_failed_root first later) ∙ ap (list_any is_failed_root) (sym e) ∙ fails in
      let few : TellRootOnce (first ++ later) = subst TellRootOnce e once in
      let counted = sum_by-append (λ (n : Note). cond (is_root n) 1 0) first later in
      let told_once : TellRootOnce first = omega (arith, few, counted) in
      let root : is_failed_root (Root runner a) ≡ true = sym (root_decides d.notes (Root runner a) told_once refl) ∙ or_none _ _ both (no_root_changed st) in
      left d.notes (Root runner a ∷ later) (own (cc (failed_answer runner a root)))
  carried_fails (Err f) d own b is once fails = absurd (cc is)

  told_fails : (r : Result Answer NodeFault) (header : Header) (notes : List Note) (calls : List Call) (s after : RunState) → ((a : Answer) → r ≡ Ok a → list_any is_failed_root notes ≡ true → T notes) →
      (told r header tree runner notes calls s after).fault ≡ None → list_any is_failed_root (told r header tree runner notes calls s after).block.notes ≡ true → T (told r header tree runner notes calls s after).block.notes
  told_fails (Ok a) header notes calls s after own none fails = own a refl fails
  told_fails (Err f) header notes calls s after own none fails = absurd (cc none)

  tick_fails : (o : Option Runner) (world : World) (at : ℕ) (s : RunState) →
      ((m : Memory) (s : State) → ((meaning tree.term).visit (root_view tree world) 1 m s).answer ≡ Ok answer.Failure → T ((meaning tree.term).visit (root_view tree world) 1 m s).notes) →
      (tick_step o tree world runner at s).fault ≡ None → list_any is_failed_root (tick_step o tree world runner at s).block.notes ≡ true → T (tick_step o tree world runner at s).block.notes
  tick_fails None world at s own none fails = absurd (cc fails)
  tick_fails (Some r) world at s own none fails =
      let d : Done Answer Memory = (meaning tree.term).visit (root_view tree world) 1 r.memory (state_of r s.facts at) in
      let whole : Done Answer Memory = ticked tree (root_view tree world) runner r.memory (state_of r s.facts at) in
      let once = tick_tells_once tree runner (Some r) world at s none in
      told_fails whole.answer (header.Tick runner at) whole.notes whole.calls s (with_runner s runner at whole)
      (λ a is fail. carried_fails d.answer d (λ e. own r.memory (state_of r s.facts at) e) a is (once_of whole.answer whole.notes whole.calls s (with_runner s runner at whole) at none once) fail) none fails where
        once_of : (r : Result Answer NodeFault) (notes : List Note) (calls : List Call) (s after : RunState) (at : ℕ) → (told r (header.Tick runner at) tree runner notes calls s after).fault ≡ None →
            TellRootOnce (told r (header.Tick runner at) tree runner notes calls s after).block.notes → TellRootOnce notes
        once_of (Ok a) notes calls s after at none once = once
        once_of (Err f) notes calls s after at none once = absurd (cc none)

fails_by : (o : Option RunFault) (goals root : Bool) → verdict_by o (decided goals root) ≡ Some Fails → (o ≡ None) × (root ≡ true)
fails_by (Some fault) goals root is = absurd (cc is)
fails_by None true root is = absurd (cc is)
fails_by None false true is = (refl, refl)
fails_by None false false is = absurd (cc is)

-- ---- Ends

module _ (world : World) (valid : IsValidWorld world) (limits : Limits) where
  root_tells : (f : Forest) → IsLedTree (HasRow world.rows) f → (view : View) → view.rows ≡ world.rows → (m : Memory) (s : State) →
      ((meaning (tree_of world.rows f).term).visit view 1 m s).answer ≡ Ok answer.Failure → Told (conditions f) ((meaning (tree_of world.rows f).term).visit view 1 m s).notes
  root_tells f led = subst (λ (g : Forest). (view : View) → view.rows ≡ world.rows → (m : Memory) (s : State) →
      ((meaning (tree_of world.rows g).term).visit view 1 m s).answer ≡ Ok answer.Failure → Told (conditions g) ((meaning (tree_of world.rows g).term).visit view 1 m s).notes) (sym led.is)
      (λ view seen m s is.
      let whole : Forest = Tree led.root Goals led.below Empty in
      let T : List Note → Type 0 = Told (conditions whole) in
      goals_tell (Told (conditions whole)) (told_left (conditions whole)) (told_right (conditions whole)) world.rows led.below led.led 1 1
      (listed_below (Told (conditions whole)) (told_left (conditions whole)) (told_right (conditions whole)) world.rows 1 0 led.root Goals led.below Empty (all_told (conditions whole))) view seen m s answer.Failure is)

  none_lacks : (t : Trial) (names : List (List ℕ)) → IsLedTree (HasRow world.rows) t.tree → HasNoTemplate world limits t names → names ≢ []
  none_lacks t names led is none =
      let tree : Planned = tree_of world.rows t.tree in
      let d = next_tick tree world limits.period t.before in
      let by = fails_by d.fault (goals_hold world d.state.facts) (list_any is_failed_root d.block.notes) is.decides.last in
      let s : RunState = state_after tree world limits.period t.before in
      let told : Told (conditions t.tree) (last_notes world limits t) =
      tick_fails (Told (conditions t.tree)) (told_left (conditions t.tree)) tree 1 (runner_at s 1) (modelled world) _ s
      (λ m s1 e. root_tells t.tree led (root_view tree (modelled world)) refl m s1 e) by.0 by.1 in
      ids_some world.rows (failed t.tree (last_notes world limits t))
      (ordered_some _ (filter_some (λ (c : Place). has_failed (last_notes world limits t) c.uid) (conditions t.tree) told)) (sym is.are ∙ none)

  end_names : (added : ℕ) (t : Trial) (end : End) → IsLedTree (HasRow world.rows) t.tree → Ends world limits added t end → NamesSome end
  end_names added t (NoTemplate names) led ends = none_lacks t names led ends
  end_names added t (Reached tree tick) led ends = tt
  end_names added t (NoOrder action condition) led ends = tt
  end_names added t (Expansions n) led ends = tt
  end_names added t (StillRunning n) led ends = tt
  end_names added t (Faulted uid cause) led ends = tt

  -- a plan that ends without a template names a condition
  pub ends_name : (planned : PlanEnd) (trials : List Trial) (last : Trial) → PlanRun world limits planned trials last → NamesSome planned.end
  ends_name planned trials last run =
      end_names (length planned.steps) last planned.end (lead_led world valid limits trials planned.steps 0 run.first last.tree (first_tree world valid run.first run.is_first) run.lead) run.ends
