-- From a tree that failed to the next one, or to an end.
use Rattle.std.proofs.Common.{◌≡◌, ℕ, ◌+◌, ◌*◌, ◌^◌, ◌<◌, ◌≤◌, true, false, not, List, [], ◌∷◌, length, drop, get_or, Option, Some, None, Result, Ok, Err, IfOk, IfSome, refl, ap, sym, ◌∙◌, subst, arith, add-one, drop-cons}
use Rattle.std.specs.Prelude.{slice_get}
use Rattle.std.specs.List.{AllByRecursion, find}
use Rattle.std.specs.Option.{option_and_then}
use Rattle.spec_run.specs.declared.note.Note.{Note}
use Rattle.spec_world.specs.declared.world.World.{World}
use Rattle.spec_plan.specs.Templates.{is_empty}
use Rattle.spec_plan.specs.declared.domain.Template.{Template}
use Rattle.spec_plan.specs.declared.part.Part.{Part}
use Rattle.spec_plan.specs.declared.part.Part.TheVariants.{Goals, Sequence, Fallback, Condition, Action}
use Rattle.plan_tree.specs.declared.tree.PlanTree.{PlanTree}
use Rattle.plan_tree.specs.Expanded.{Expands}
use Rattle.spec_plan.specs.Expansion.{condition_row, expanded, tried, untried, untried_of}
use Rattle.spec_plan.specs.Forests.{Forest, part_at}
use Rattle.plan_tree.specs.Sizes.{size, subtrees}
use Rattle.plan_tree.specs.Numbers.{IsRowAt}
use Rattle.spec_plan.specs.Achievers.{row_in}
use Rattle.spec_plan.specs.Planned.{id_of}
use Rattle.plan_tree.specs.Stands.{IsConditionOf, IsSequenceOf, StandsFor}
use Rattle.spec_plan.specs.declared.verdict.Verdict.TheVariants.{Reaches, Fails}
use Rattle.spec_plan.specs.declared.ending.End.{End}
use Rattle.spec_plan.specs.declared.ending.End.TheVariants.{Reached, NoTemplate, NoOrder, Expansions, StillRunning, Faulted}
use Rattle.spec_plan.specs.declared.ending.Limits.{Limits}
use Rattle.spec_plan.specs.declared.ending.Step.{Step}
use Rattle.plan_search.specs.declared.growing.Grown.{Grown}
use Rattle.spec_plan.specs.declared.places.Place.{Place}
use Rattle.spec_plan.specs.PlanAnswers.{StandsAlone}
use Rattle.spec_plan.specs.Failing.{failed, first_open, has_untried, ids_of}
use Rattle.plan_search.specs.Grown.{AreConditions, GoesOrEnds, IsGrown, IsNotGrown, SettlesOrStalls}
use Rattle.spec_plan.specs.PlanRuns.{Decides, Ends, Grows, HasNoOrder, HasNoTemplate, Trial, failed_in}
use Rattle.plan_tree.proofs.Searched.{find_ended, found_item, passed_item}
use Rattle.plan_search.proofs.Conditions.{failed_are}

pub ok_gives : {A E : Type 0} {P Q : A → Type 0} (r : Result A E) → ((a : A) → P a → Q a) → IfOk r P → IfOk r Q
ok_gives (Ok a) f p = f a p
ok_gives (Err e) f p = tt

-- a plan tree of few sequences is small
pub small : (world : World) (t : PlanTree) (tree : Forest) (n : ℕ) → StandsFor t world tree → subtrees tree ≤ n → size tree ≤ 65 + 19 * n
small world t tree n st few = let most = st.shape.few in omega (arith, most, few)

-- only a condition has an untried template
pub condition_of : (world : World) (tree : Forest) (k : ℕ) (template : Template) → slice_get (untried world.rows k tree) 0 ≡ Some template → IsConditionOf tree k
condition_of world tree k template is =
    elim (part_at k tree) as (λ (o : Option Part). part_at k tree ≡ o → slice_get (untried_of world.rows (condition_row o) (tried k tree)) 0 ≡ Some template → IsConditionOf tree k) [
      | Some (Condition row) ↦ λ at e. (row, at)
      | Some Goals ↦ λ at e. absurd (cc e)
      | Some (Sequence row) ↦ λ at e. absurd (cc e)
      | Some Fallback ↦ λ at e. absurd (cc e)
      | Some (Action row) ↦ λ at e. absurd (cc e)
      | None ↦ λ at e. absurd (cc e)
    ] refl is

-- the conditions that were found are those that failed
pub are_conditions : (world : World) (t : PlanTree) (tree : Forest) (notes : List Note) (places : List Place) → StandsFor t world tree → places ≡ failed tree notes → AreConditions tree places
are_conditions world t tree notes places st are = subst (AreConditions tree) (sym are) (failed_are tree notes st.apart.once)

module _ (world : World) (limits : Limits) (trial : Trial) (mid now : PlanTree) (places : List Place) (decides : Decides world limits trial Fails) (are : places ≡ failed_in world limits trial) where
  pub ends_without : (names : List (List ℕ)) → IsNotGrown mid world trial.tree places → names ≡ ids_of world.rows places → HasNoTemplate world limits trial names
  ends_without names none named = record {
    decides = decides;
    none = ap (first_open world.rows trial.tree) (sym are) ∙ none.none;
    are = named ∙ ap (ids_of world.rows) are;
  }

  module _ (g : Grown) (grown : IsGrown mid world trial.tree places g) where
    abbrev next : Forest
    next = expanded world.rows grown.expands.keys g.place.key grown.expands.template.row trial.tree

    grows : Grows world limits trial g.place grown.expands.template g.sequence next
    grows = record {
      decides = decides;
      first = ap (first_open world.rows trial.tree) (sym are) ∙ grown.first;
      untried = grown.expands.first;
      keys = grown.expands.keys;
      all = grown.expands.all;
      named = grown.expands.named;
      is = refl;
      apart = grown.expands.stands.apart;
    }

    pub settled_ends : (added : ℕ) (before after : List Step) (end : Option End) → added < limits.expand → SettlesOrStalls now world g next before after end → GoesOrEnds now world limits added trial before after end
    settled_ends added before after (Some end) room s =
        let order : HasNoOrder world limits trial _ _ = record {
          place = g.place;
          template = grown.expands.template;
          sequence = g.sequence;
          grown = next;
          after = s.0.after;
          pair = s.0.pair;
          grows = grows;
          stalls = s.0.stalls;
          action_is = refl;
          condition_is = refl;
        } in
        (subst (λ (e : End). Ends world limits added trial e) (sym s.0.is) (order, room), s.1)
    settled_ends added before after None room s = (
      omega (arith, room),
      record {
        step = s.step;
        tree = s.next;
        is = record {
          place = g.place;
          template = grown.expands.template;
          sequence = g.sequence;
          grown = next;
          grows = grows;
          settles = s.settles;
          uid = s.uid;
          condition = s.condition;
          action = s.action ∙ ap (λ (row : ℕ). id_of world.rows row) grown.action;
        };
        steps = s.steps;
        stands = s.stands;
        many = s.many ∙ grown.expands.many;
      },
    )

-- where a tree failed, no end reaches the goals
pub fails_alone : (now : PlanTree) (world : World) (limits : Limits) (added : ℕ) (t : Trial) (before after : List Step) (end : Option End) → Decides world limits t Fails →
    GoesOrEnds now world limits added t before after end → IfSome end StandsAlone
fails_alone now world limits added t before after None decides goes = tt
fails_alone now world limits added t before after (Some (Reached tree tick)) decides goes = let both : Some Reaches ≡ Some Fails = sym goes.0.0.last ∙ decides.last in absurd (cc both)
fails_alone now world limits added t before after (Some (NoTemplate names)) decides goes = tt
fails_alone now world limits added t before after (Some (NoOrder action condition)) decides goes = tt
fails_alone now world limits added t before after (Some (Expansions n)) decides goes = tt
fails_alone now world limits added t before after (Some (StillRunning n)) decides goes = tt
fails_alone now world limits added t before after (Some (Faulted uid cause)) decides goes = tt

-- ---- The first condition with an untried template

some_untried : (xs : List Template) (x : Template) → slice_get xs 0 ≡ Some x → not (is_empty xs) ≡ true
some_untried [] x is = cc is
some_untried (y ∷ xs) x is = refl

no_untried : (xs : List Template) → xs ≡ [] → not (is_empty xs) ≡ false
no_untried xs is = ap (λ (l : List Template). not (is_empty l)) is

pub condition_at : (tree : Forest) (places : List Place) (i : ℕ) (d c : Place) → i < length places → c ≡ get_or places i d → AreConditions tree (drop i places) → IsConditionOf tree c.key
condition_at tree places i d c within is are =
    subst (λ (x : Place). IsConditionOf tree x.key) (sym is) (subst (AllByRecursion (λ (c : Place). IsConditionOf tree c.key)) (drop-cons places i d within) are).0

pub conditions_next : (tree : Forest) (places : List Place) (i : ℕ) (d : Place) → i < length places → AreConditions tree (drop i places) → AreConditions tree (drop (i + 1) places)
conditions_next tree places i d within are =
    subst (λ (n : ℕ). AreConditions tree (drop n places)) (sym (add-one i)) (subst (AllByRecursion (λ (c : Place). IsConditionOf tree c.key)) (drop-cons places i d within) are).1

-- what is known before each condition
pub record Passed (world : World) (t : PlanTree) (tree : Forest) (places : List Place) (i : ℕ) : Type 0 where
  pub stands : StandsFor t world tree
  pub rest : AreConditions tree (drop i places)
  pub same : find (has_untried world.rows tree) (drop i places) ≡ find (has_untried world.rows tree) places

pub passed_none : (world : World) (t : PlanTree) (tree : Forest) (places : List Place) → StandsFor t world tree → AreConditions tree places → Passed world t tree places 0
passed_none world t tree places st are = record { stands = st; rest = are; same = refl }

pub passed_more : (world : World) (old now : PlanTree) (tree : Forest) (places : List Place) (i : ℕ) (d : Place) → i < length places → Passed world old tree places i → StandsFor now world tree →
    (c : Place) → c ≡ get_or places i d → untried world.rows c.key tree ≡ [] → Passed world now tree places (i + 1)
passed_more world old now tree places i d within p st c is none = record {
  stands = st;
  rest = conditions_next tree places i d within p.rest;
  same = passed_item (has_untried world.rows tree) places i d within (ap (has_untried world.rows tree) (sym is) ∙ no_untried (untried world.rows c.key tree) none) ∙ p.same;
}

pub passed_all : (world : World) (t : PlanTree) (tree : Forest) (places : List Place) (i : ℕ) → length places ≤ i → Passed world t tree places i → IsNotGrown t world tree places
passed_all world t tree places i past p = record { none = sym p.same ∙ find_ended (has_untried world.rows tree) places i past; stands = p.stands }

-- a condition without an untried template is passed over
pub passed_over : (world : World) (t : PlanTree) (tree : Forest) (places : List Place) (i : ℕ) (d : Place) → i < length places → Passed world t tree places i →
    has_untried world.rows tree (get_or places i d) ≡ false → Passed world t tree places (i + 1)
passed_over world t tree places i d within p none = record {
  stands = p.stands;
  rest = conditions_next tree places i d within p.rest;
  same = passed_item (has_untried world.rows tree) places i d within none ∙ p.same;
}

-- .. and one that has one is the first
pub open_at : (world : World) (t : PlanTree) (tree : Forest) (places : List Place) (i : ℕ) (d : Place) → i < length places → Passed world t tree places i →
    has_untried world.rows tree (get_or places i d) ≡ true → first_open world.rows tree places ≡ Some (get_or places i d)
open_at world t tree places i d within p open_ = sym p.same ∙ found_item (has_untried world.rows tree) places i d within open_

pub grown_at : (world : World) (old now : PlanTree) (tree : Forest) (places : List Place) (i : ℕ) (d : Place) → i < length places → Passed world old tree places i → (g : Grown) → g.place ≡ get_or places i d →
    (e : Expands now world tree g.place.key g.sequence) → g.action ≡ e.template.row → IsGrown now world tree places g
grown_at world old now tree places i d within p g is e action =
    let passes : has_untried world.rows tree (get_or places i d) ≡ true =
    ap (has_untried world.rows tree) (sym is) ∙ some_untried (untried world.rows g.place.key tree) e.template e.first in
    record {
      first = sym p.same ∙ found_item (has_untried world.rows tree) places i d within passes ∙ ap (λ (c : Place). Some c) (sym is);
      expands = e;
      action = action;
    }

pub row_is : (now : PlanTree) (world : World) (tree : Forest) (key added : ℕ) (e : Expands now world tree key added) → IsRowAt (expanded world.rows e.keys key e.template.row tree) added e.template.row
row_is now world tree key added e = ap (λ (o : Option Part). option_and_then row_in o) e.sequence

-- the new sequence can be settled
pub settle_within : (world : World) (mid : PlanTree) (tree : Forest) (places : List Place) → subtrees tree ≤ 120 → (g : Grown) → IsGrown mid world tree places g →
    (next : Forest) × StandsFor mid world next × IsSequenceOf next g.sequence × (size next < 2 ^ 32)
settle_within world mid tree places few g grown =
    let next = expanded world.rows grown.expands.keys g.place.key grown.expands.template.row tree in
    let many = grown.expands.many in
    let most = small world mid next 121 grown.expands.stands (omega (arith, many, few)) in
    (next, grown.expands.stands, (grown.expands.template.row, grown.expands.sequence), omega (arith, most))
