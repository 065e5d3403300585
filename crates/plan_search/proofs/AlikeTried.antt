-- Plan trees that differ by their keys alone are tried alike: the same step follows, or the same end.
use Rattle.std.proofs.Common.{◌≡◌, ℕ, ◌+◌, ◌<◌, List, [], Option, Some, None, sym, ap, subst, ◌∙◌, arith}
use Rattle.std.specs.Prelude.{slice_get}
use Rattle.std.specs.Option.{option_and_then, option_map_or}
use Rattle.spec_run.specs.declared.fault.RunFault.{RunFault}
use Rattle.spec_run.specs.declared.note.Note.{Note}
use Rattle.spec_tree.specs.declared.term.Tree.{Tree as Planned}
use Rattle.spec_world.specs.declared.world.World.{World}
use Rattle.spec_run.specs.Drivers.{DriverState}
use Rattle.spec_run.specs.Run.{Trace}
use Rattle.spec_plan.specs.declared.domain.Template.{Template}
use Rattle.spec_plan.specs.declared.part.Part.{Part}
use Rattle.spec_plan.specs.Expansion.{expanded, untried}
use Rattle.spec_plan.specs.Forests.{AreApart, Forest}
use Rattle.spec_plan.specs.Achievers.{row_in}
use Rattle.spec_plan.specs.Planned.{id_of}
use Rattle.spec_run.specs.Served.{roster_after_run}
use Rattle.spec_plan.specs.declared.verdict.Verdict.{Verdict}
use Rattle.spec_plan.specs.declared.verdict.Verdict.TheVariants.{Reaches, Fails, GoesOn}
use Rattle.spec_plan.specs.Modelled.{IsLast, modelled, modelled_run, next_tick, verdict_after}
use Rattle.plan_trial.proofs.Traces.{last_once}
use Rattle.spec_plan.specs.declared.ending.End.{End}
use Rattle.spec_plan.specs.declared.ending.End.TheVariants.{Reached, NoTemplate, NoOrder, Expansions, StillRunning, Faulted}
use Rattle.spec_plan.specs.declared.ending.Limits.{Limits}
use Rattle.spec_plan.specs.declared.ending.Step.{Step}
use Rattle.spec_plan.specs.declared.places.Place.{Place}
use Rattle.spec_plan.specs.Failing.{failed, first_open, ids_of}
use Rattle.spec_plan.specs.PlanRuns.{Decides, Ends, Grows, HasNoOrder, IsStep, IsTried, Trial, failed_in, last_notes, pace_of, run_of, tree_of}
use Rattle.spec_plan.specs.Settling.{name_at}
use Rattle.plan_search.proofs.Alike.{Marks, Same, part_alike, untried_alike}
use Rattle.plan_search.proofs.AlikeFailed.{IsSamePlace, ids_alike, open_alike, tree_alike}
use Rattle.plan_search.proofs.AlikeGrown.{expanded_same}
use Rattle.plan_search.proofs.AlikeSettled.{settled_alike, settled_not_stalled, some_same, stalled_alike}
use Rattle.plan_search.proofs.Growths.{condition_of}
use Rattle.plan_search.proofs.Pairwise.{OptionPaired}

step_same : (s z : Step) → s.uid ≡ z.uid → s.condition ≡ z.condition → s.action ≡ z.action → s.raises ≡ z.raises → s ≡ z
step_same s z uid condition action raises =
    ap {B = Step} (λ (x : ℕ). record s { uid = x }) uid
    ∙ ap {B = Step} (λ (x : List ℕ). record s { uid = z.uid; condition = x }) condition
    ∙ ap {B = Step} (λ (x : List ℕ). record z { action = x; raises = s.raises }) action
    ∙ ap {B = Step} (λ (x : ℕ). record z { raises = x }) raises

module _ (world : World) (limits : Limits) where
  -- two trials of trees that differ by their keys alone
  pub record TriedAlike (t u : Trial) : Type 0 where
    pub same : Same t.tree u.tree
    pub tried : IsTried world limits t
    pub again : IsTried world limits u

  -- how a run came out: by its last verdict, or by a fault
  abbrev outcome_by : Option RunFault → Option Verdict → Option Verdict
  outcome_by (Some fault) verdict = None
  outcome_by None verdict = verdict

  abbrev outcome : Trial → Option Verdict
  outcome t = outcome_by (run_of world limits t).fault (verdict_after (tree_of world.rows t.tree) world limits.period t.before)

  abbrev says : End → Option Verdict
  says (Reached tree tick) = Some Reaches
  says (NoTemplate names) = Some Fails
  says (Expansions n) = Some Fails
  says (NoOrder action condition) = Some Fails
  says (StillRunning n) = Some GoesOn
  says (Faulted uid cause) = None

  decides_outcome : (t : Trial) (v : Verdict) → Decides world limits t v → outcome t ≡ Some v
  decides_outcome t v d = ap (λ (o : Option RunFault). outcome_by o (verdict_after (tree_of world.rows t.tree) world limits.period t.before)) d.unbroken ∙ d.last

  ends_outcome : (added : ℕ) (t : Trial) (end : End) → Ends world limits added t end → outcome t ≡ says end
  ends_outcome added t (Reached tree tick) ends = decides_outcome t Reaches ends.0
  ends_outcome added t (NoTemplate names) ends = decides_outcome t Fails ends.decides
  ends_outcome added t (Expansions n) ends = decides_outcome t Fails ends.0.decides
  ends_outcome added t (NoOrder action condition) ends = decides_outcome t Fails ends.0.grows.decides
  ends_outcome added t (StillRunning n) ends = decides_outcome t GoesOn ends.0
  ends_outcome added t (Faulted uid cause) ends = ap (λ (o : Option RunFault). outcome_by o (verdict_after (tree_of world.rows t.tree) world limits.period t.before)) ends

  module _ (t u : Trial) (a : TriedAlike t u) where
    trees_equal : tree_of world.rows t.tree ≡ tree_of world.rows u.tree
    trees_equal = tree_alike world.rows t.tree u.tree a.same.alike

    befores_equal : t.before ≡ u.before
    befores_equal = last_once (tree_of world.rows u.tree) world (pace_of limits) t.before u.before (subst (λ (x : Planned). IsLast x world (pace_of limits) t.before) trees_equal a.tried) a.again

    -- what is read of the run alone
    equal_by : {A : Type 0} (read : Planned → ℕ → A) → read (tree_of world.rows t.tree) t.before ≡ read (tree_of world.rows u.tree) u.before
    equal_by read = ap (λ (x : Planned). read x t.before) trees_equal ∙ ap (read (tree_of world.rows u.tree)) befores_equal

    runs_equal : run_of world limits t ≡ run_of world limits u
    runs_equal = equal_by (λ (x : Planned) (n : ℕ). modelled_run x world limits.period (n + 1))

    outcomes_equal : outcome t ≡ outcome u
    outcomes_equal = equal_by (λ (x : Planned) (n : ℕ). outcome_by (modelled_run x world limits.period (n + 1)).fault (verdict_after x world limits.period n))

    notes_equal : last_notes world limits t ≡ last_notes world limits u
    notes_equal = equal_by (λ (x : Planned) (n : ℕ). (next_tick x world limits.period n).block.notes)

    -- the drivers after the run
    pub drivers_equal : (drivers : List DriverState) →
        roster_after_run (tree_of world.rows t.tree) (modelled world) drivers (run_of world limits t).calls ≡ roster_after_run (tree_of world.rows u.tree) (modelled world) drivers (run_of world limits u).calls
    drivers_equal drivers = equal_by (λ (x : Planned) (n : ℕ). roster_after_run x (modelled world) drivers (modelled_run x world limits.period (n + 1)).calls)

    open_equal : OptionPaired (IsSamePlace t.tree u.tree) (first_open world.rows t.tree (failed_in world limits t)) (first_open world.rows u.tree (failed_in world limits u))
    open_equal =
        subst (λ (notes : List Note). OptionPaired (IsSamePlace t.tree u.tree) (first_open world.rows t.tree (failed_in world limits t)) (first_open world.rows u.tree (failed u.tree notes))) notes_equal
        (open_alike world.rows t.tree u.tree a.same (last_notes world limits t))

    open_as : (o p : Option Place) → first_open world.rows t.tree (failed_in world limits t) ≡ o → first_open world.rows u.tree (failed_in world limits u) ≡ p → OptionPaired (IsSamePlace t.tree u.tree) o p
    open_as o p first second =
        subst (OptionPaired (IsSamePlace t.tree u.tree) o) second
        (subst (λ (o : Option Place). OptionPaired (IsSamePlace t.tree u.tree) o (first_open world.rows u.tree (failed_in world limits u))) first open_equal)

    -- ---- Steps

    record GrownAlike (c d : Place) (template other : Template) (sequence next : ℕ) (after second : Forest) : Type 0 where
      place : IsSamePlace t.tree u.tree c d
      template_is : template ≡ other
      same : Same after second
      marks : Marks sequence next after second

    module _ (c d : Place) (template other : Template) (sequence next : ℕ) (after second : Forest) (g : Grows world limits t c template sequence after) (h : Grows world limits u d other next second) where
      place_same : IsSamePlace t.tree u.tree c d
      place_same = open_as (Some c) (Some d) g.first h.first

      template_same : other ≡ template
      template_same = some_same (slice_get (untried world.rows d.key u.tree) 0) other template h.untried
          (subst (λ (xs : List Template). slice_get xs 0 ≡ Some template) (untried_alike world.rows c.key d.key t.tree u.tree a.same place_same.keys) g.untried)

      grown_from : Grows world limits u d template next second → GrownAlike c d template other sequence next after second
      grown_from k =
          let at = condition_of world t.tree c.key template g.untried in
          let one = expanded world.rows g.keys c.key template.row t.tree in
          let two = expanded world.rows k.keys d.key template.row u.tree in
          let both = expanded_same world.rows g.keys k.keys c.key d.key template.row at.0 t.tree u.tree a.same place_same.keys at.1 g.all k.all (subst AreApart g.is g.apart) (subst AreApart k.is k.apart) in
          let named : Marks sequence next one two = subst (λ (s : ℕ). Marks s next one two) (sym g.named) (subst (λ (s : ℕ). Marks g.keys.sequence s one two) (sym k.named) both.1) in
          record {
            place = place_same;
            template_is = sym template_same;
            same = subst (λ (x : Forest). Same x second) (sym g.is) (subst (Same one) (sym k.is) both.0);
            marks = subst (λ (x : Forest). Marks sequence next x second) (sym g.is) (subst (Marks sequence next one) (sym k.is) named);
          }

      grown_alike : GrownAlike c d template other sequence next after second
      grown_alike = grown_from (subst (λ (x : Template). Grows world limits u d x next second) template_same h)

    pub record SteppedAlike (s z : Step) (after second : Forest) : Type 0 where
      pub step : s ≡ z
      pub same : Same after second

    pub stepped_alike : (s z : Step) (after second : Forest) → IsStep world limits t s after → IsStep world limits u z second → SteppedAlike s z after second
    stepped_alike s z after second is again =
        let grown = grown_alike is.place again.place is.template again.template is.sequence again.sequence is.grown again.grown is.grows again.grows in
        let settled = settled_alike world.rows is.sequence again.sequence is.grown again.grown grown.same grown.marks s.raises z.raises after second is.settles again.settles in
        let uid : s.uid ≡ z.uid = is.uid ∙ grown.place.uid ∙ sym again.uid in
        let condition : s.condition ≡ z.condition = is.condition ∙ ap (id_of world.rows) grown.place.row ∙ sym again.condition in
        let action : s.action ≡ z.action = is.action ∙ ap (λ (x : Template). id_of world.rows x.row) grown.template_is ∙ sym again.action in
        record { step = step_same s z uid condition action settled.many; same = settled.trees }

    -- a step can be made, or the plan run ends, but not both
    pub step_or_end : (s : Step) (after : Forest) (added : ℕ) (end : End) → IsStep world limits t s after → added < limits.expand → Ends world limits added u end → ⊥
    step_or_end s after added end is room ends = elim end as (λ (e : End). Some Fails ≡ says e → Ends world limits added u e → ⊥) [
      | Reached tree tick ↦ λ e ends. cc e
      | NoTemplate names ↦ λ e ends. open_as (Some is.place) None is.grows.first ends.none
      | Expansions n ↦ λ e ends. let all = ends.1 in omega (arith, room, all)
      | NoOrder action condition ↦ λ e ends.
          let stuck = ends.0 in
          let grown = grown_alike is.place stuck.place is.template stuck.template is.sequence stuck.sequence is.grown stuck.grown is.grows stuck.grows in
          settled_not_stalled world.rows is.sequence stuck.sequence is.grown stuck.grown grown.same grown.marks s.raises after stuck.after stuck.pair is.settles stuck.stalls
      | StillRunning n ↦ λ e ends. cc e
      | Faulted uid cause ↦ λ e ends. cc e
    ] (sym (decides_outcome t Fails is.grows.decides) ∙ outcomes_equal ∙ ends_outcome added u end ends) ends

    -- ---- Ends

    ids_equal : ids_of world.rows (failed_in world limits t) ≡ ids_of world.rows (failed_in world limits u)
    ids_equal =
        ids_alike world.rows t.tree u.tree a.same (last_notes world limits t)
        ∙ ap (λ (notes : List Note). ids_of world.rows (failed u.tree notes)) notes_equal

    names_equal : (k j : ℕ) (f g : Forest) → Marks k j f g → name_at world.rows f k ≡ name_at world.rows g j
    names_equal k j f g marks = ap (λ (o : Option Part). option_map_or (id_of world.rows) (option_and_then row_in o) []) (part_alike k j f g marks)

    no_order_equal : (action condition acted tested : List ℕ) → HasNoOrder world limits t action condition → HasNoOrder world limits u acted tested → NoOrder action condition ≡ NoOrder acted tested
    no_order_equal action condition acted tested is stuck =
        let grown = grown_alike is.place stuck.place is.template stuck.template is.sequence stuck.sequence is.grown stuck.grown is.grows stuck.grows in
        let stalled = stalled_alike world.rows is.sequence stuck.sequence is.grown stuck.grown grown.same grown.marks is.after stuck.after is.pair stuck.pair is.stalls stuck.stalls in
        let action_same : action ≡ acted = is.action_is ∙ names_equal is.pair.0 stuck.pair.0 is.after stuck.after stalled.action ∙ sym stuck.action_is in
        let condition_same : condition ≡ tested = is.condition_is ∙ names_equal is.pair.1 stuck.pair.1 is.after stuck.after stalled.condition ∙ sym stuck.condition_is in
        cc (action_same, condition_same)

    ends_equal : (added : ℕ) (end other : End) → Ends world limits added t end → Ends world limits added u other → says end ≡ says other → end ≡ other
    ends_equal added (Reached tree tick) (Reached second tock) ends again e =
        let one : tree ≡ second = ends.1 ∙ trees_equal ∙ sym again.1 in
        let two : tick ≡ tock = ends.2 ∙ ap (λ (n : ℕ). n + 1) befores_equal ∙ sym again.2 in
        cc (one, two)
    ends_equal added (Reached tree tick) _ ends again e = absurd (cc e)
    ends_equal added (NoTemplate names) (NoTemplate others) ends again e =
        let one : names ≡ others = ends.are ∙ ids_equal ∙ sym again.are in
        ap (λ (l : List (List ℕ)). NoTemplate l) one
    ends_equal added (NoTemplate names) (Expansions n) ends again e = absurd (open_as None (Some again.0.place) ends.none again.0.first)
    ends_equal added (NoTemplate names) (NoOrder acted tested) ends again e = absurd (open_as None (Some again.0.place) ends.none again.0.grows.first)
    ends_equal added (NoTemplate names) _ ends again e = absurd (cc e)
    ends_equal added (Expansions n) (NoTemplate others) ends again e = absurd (open_as (Some ends.0.place) None ends.0.first again.none)
    ends_equal added (Expansions n) (Expansions m) ends again e =
        let one : n ≡ m = ends.2 ∙ sym again.2 in
        ap (λ (x : ℕ). Expansions x) one
    ends_equal added (Expansions n) (NoOrder acted tested) ends again e = let all = ends.1 in let room = again.1 in absurd (omega (arith, all, room))
    ends_equal added (Expansions n) _ ends again e = absurd (cc e)
    ends_equal added (NoOrder action condition) (NoTemplate others) ends again e = absurd (open_as (Some ends.0.place) None ends.0.grows.first again.none)
    ends_equal added (NoOrder action condition) (Expansions m) ends again e = let all = again.1 in let room = ends.1 in absurd (omega (arith, all, room))
    ends_equal added (NoOrder action condition) (NoOrder acted tested) ends again e = no_order_equal action condition acted tested ends.0 again.0
    ends_equal added (NoOrder action condition) _ ends again e = absurd (cc e)
    ends_equal added (StillRunning n) (StillRunning m) ends again e =
        let one : n ≡ m = ends.1 ∙ sym again.1 in
        ap (λ (x : ℕ). StillRunning x) one
    ends_equal added (StillRunning n) _ ends again e = absurd (cc e)
    ends_equal added (Faulted uid cause) (Faulted other why) ends again e =
        let one = some_same (run_of world limits u).fault (record { runner = 1; uid = uid; cause = cause }) (record { runner = 1; uid = other; cause = why }) (sym (ap (λ (r : Trace). r.fault) runs_equal) ∙ ends) again in
        ap (λ (f : RunFault). Faulted f.uid f.cause) one
    ends_equal added (Faulted uid cause) _ ends again e = absurd (cc e)

    pub ends_alike : (added : ℕ) (end other : End) → Ends world limits added t end → Ends world limits added u other → end ≡ other
    ends_alike added end other ends again = ends_equal added end other ends again (sym (ends_outcome added t end ends) ∙ outcomes_equal ∙ ends_outcome added u other again)
