-- The own events of a world that can be run are taken by its session, one after another.
use Rattle.std.proofs.Common.{◌≡◌, ◌∙◌, ◌≤◌, ◌<◌, ℕ, nat_le, nat_lt, Bool, true, false, ◌&&◌, ◌||◌, not, List, [], ◌∷◌, ◌++◌, length, Option, Some, None, Result, Ok, Err, refl, sym, ap, subst, arith, append_assoc}
use Rattle.std.specs.Prelude.{IsTrue, bytes_eq, suc}
use Rattle.std.specs.Option.{option_or}
use Rattle.std.specs.List.{AllByRecursion, IsDistinct, list_all, list_any}
use Rattle.std.specs.List.Sorted.{IsNonDecreasingBy}
use Rattle.std.proofs.lemmas.Bool.Decides.{nat_tests}
use Rattle.std.proofs.lemmas.List.{length-map}
use Rattle.std.proofs.lemmas.List.Elements.{recursion_from_All}
use Rattle.std.proofs.lemmas.Slice.Eq.{bytes_eq-Decides}
use Rattle.cli_serve.specs.Serving.{TakesAll}
use Rattle.run_laws.proofs.Runs.{step_last}
use Rattle.spec_run.specs.declared.block.Header.{Header}
use Rattle.spec_run.specs.declared.block.Header.TheVariants as header
use Rattle.spec_run.specs.declared.fault.NodeFault.{NodeFault}
use Rattle.spec_run.specs.declared.join_fault.JoinFault.{JoinFault}
use Rattle.spec_run.specs.declared.memory.Memory.{Memory}
use Rattle.spec_run.specs.declared.note.Note.{Note}
use Rattle.spec_run.specs.Done.{Call, Done}
use Rattle.spec_run.specs.Joins.{event_lacks, first_missing, first_untold, lack_of}
use Rattle.spec_run.specs.Run.{RunState, Runner, reset_step, root_reset, root_view, runner_at, runner_step, state_of, step_by, tell_step, tick_step, ticked, told, with_runner}
use Rattle.spec_session.specs.declared.ended.Misuse.{Misuse}
use Rattle.spec_session.specs.declared.ended.Misuse.TheVariants as misuses
use Rattle.spec_session.specs.Events.{after_step, can_be_told, event_step, lack_misuse, moment_misuse, out_fits, runner_misuse, telling_misuse, unless, what_misuse}
use Rattle.spec_session.specs.Opening.{new_drivers, opened}
use Rattle.spec_session.specs.Sessions.{Sitting}
use Rattle.spec_script.specs.declared.value.Value.{Value}
use Rattle.spec_script.specs.declared.value.Value.TheVariants.{Int, Text}
use Rattle.spec_tree.specs.declared.term.Tree.{Tree}
use Rattle.spec_tree.specs.Limits.{last_moment, most_outputs}
use Rattle.spec_tree.specs.Terms.{leaf_ids}
use Rattle.spec_tree.specs.Trees.{nodes_of}
use Rattle.spec_world.specs.declared.world.Event.{Event}
use Rattle.spec_world.specs.declared.world.Telling.{Telling}
use Rattle.spec_world.specs.declared.world.Telling.TheVariants as telling
use Rattle.spec_world.specs.declared.world.ToldOut.{ToldOut}
use Rattle.spec_world.specs.declared.world.What.{What}
use Rattle.spec_world.specs.declared.world.What.TheVariants.{Change, Halt, Tell, Tick}
use Rattle.spec_world.specs.declared.world.World.{World}
use Rattle.spec_world.specs.Runnable.{IsRunnableWorld}
use Rattle.spec_world.specs.Worlds.{IsValidEvent, IsValidTelling, IsValidValue, IsValidWhat, is_name, ports_told}
use Rattle.spec_world_file.specs.WorldFile.{is_long, is_small, repeats}

-- ---- What is told

pub both_true : (a b : Bool) → a ≡ true → b ≡ true → (a && b) ≡ true
both_true true b p q = q
both_true false b p q = absurd cc

holds : (b : Bool) (m : Misuse) → b ≡ true → unless b m ≡ None
holds b m h = ap (λ (z : Bool). unless z m) h

or_none : (a b : Option Misuse) → a ≡ None → b ≡ None → option_or a b ≡ None
or_none None b p q = q
or_none (Some m) b p q = absurd cc

same_test : (x y : List ℕ) (t : Bool) → bytes_eq x y ≡ false → bytes_eq y x ≡ t → t ≡ false
same_test x y false differ is = refl
same_test x y true differ is =
    let same : y ≡ x = (bytes_eq-Decides y x).0 is in
    let tie : bytes_eq x y ≡ true = (bytes_eq-Decides x y).1 (sym same) in
    sym tie ∙ differ

-- one text is none of those before it
apart : (earlier : List (List ℕ)) (name : List ℕ) (names : List (List ℕ)) (other : List ℕ) →
    AllByRecursion (λ y. bytes_eq other y ≡ false) (earlier ++ name ∷ names) → bytes_eq other name ≡ false
apart [] name names other h = h.0
apart (e ∷ earlier) name names other h = apart earlier name names other h.1

or_false : (a b : Bool) → a ≡ false → b ≡ false → (a || b) ≡ false
or_false true b p q = absurd cc
or_false false b p q = q

unlike : (earlier : List (List ℕ)) (name : List ℕ) (names : List (List ℕ)) → IsDistinct bytes_eq (earlier ++ name ∷ names) → list_any (bytes_eq name) earlier ≡ false
unfolding IsDistinct
unlike [] name names d = refl
unlike (e ∷ earlier) name names d =
    or_false (bytes_eq name e) (list_any (bytes_eq name) earlier) (same_test e name (bytes_eq name e) (apart earlier name names e d.0) refl) (unlike earlier name names d.1)

single : (earlier names : List (List ℕ)) → IsDistinct bytes_eq (earlier ++ names) → repeats earlier names ≡ false
single earlier [] d = refl
single earlier (name ∷ names) d =
    or_false (list_any (bytes_eq name) earlier) (repeats (earlier ++ name ∷ []) names) (unlike earlier name names d)
    (single (earlier ++ name ∷ []) names (subst (IsDistinct bytes_eq) (sym (append_assoc earlier (name ∷ []) names)) d))

short_value : (value : Value) → IsValidValue value → (is_small value ≡ true) × (not (is_long value) ≡ true)
short_value (Int n) valid = (valid, refl)
short_value (Text text) valid = (refl, grind (arith, nat_tests))

all_fit : (outs : List ToldOut) → AllByRecursion (λ n. IsTrue (is_name n)) (ports_told outs) → AllByRecursion (λ (out : ToldOut). IsValidValue out.value) outs → list_all out_fits outs ≡ true
all_fit [] named valid = refl
all_fit (out ∷ outs) named valid =
    let v = short_value out.value valid.0 in
    both_true (out_fits out) (list_all out_fits outs)
    (both_true (is_name out.port && is_small out.value) (not (is_long out.value)) (both_true (is_name out.port) (is_small out.value) named.0 v.0) v.1)
    (all_fit outs named.1 valid.1)

few_outs : (outs : List ToldOut) → length (ports_told outs) ≤ most_outputs → nat_le (length outs) most_outputs ≡ true
few_outs outs few =
    let same : length (ports_told outs) ≡ length outs = length-map outs (λ (out : ToldOut). out.port) in
    let within : length outs ≤ 8 = omega (arith, same, few) in
    grind (arith, nat_tests)

told_fits : (t : Telling) → IsValidTelling t → telling_misuse t ≡ None
told_fits (telling.Success outs) valid =
    let few : nat_le (length outs) most_outputs ≡ true = few_outs outs valid.0.few in
    let fit : list_all out_fits outs ≡ true =
    all_fit outs (recursion_from_All (λ n. IsTrue (is_name n)) (ports_told outs) valid.0.named) (recursion_from_All (λ (out : ToldOut). IsValidValue out.value) outs valid.1) in
    let once : not (repeats [] (ports_told outs)) ≡ true = ap not (single [] (ports_told outs) valid.0.distinct) in
    holds (can_be_told outs) misuses.BadTelling
    (both_true (nat_le (length outs) most_outputs && list_all out_fits outs) (not (repeats [] (ports_told outs)))
    (both_true (nat_le (length outs) most_outputs) (list_all out_fits outs) few fit) once)
told_fits telling.Failure valid = refl

-- ---- An event

runner_fits : (world : World) (runner : ℕ) → 1 ≤ runner → runner ≤ world.runners → runner_misuse world runner ≡ None
runner_fits world runner first last =
    let from : nat_le 1 runner ≡ true = grind (arith, nat_tests) in
    let to : nat_le runner world.runners ≡ true = grind (arith, nat_tests) in
    holds (nat_le 1 runner && nat_le runner world.runners) misuses.NoRunner (both_true (nat_le 1 runner) (nat_le runner world.runners) from to)

what_fits : (tree : Tree) (world : World) (what : What) → IsValidWhat world.facts world.runners what → event_lacks world.rows (nodes_of tree.term) what ≡ None →
    what_misuse tree world what ≡ None
what_fits tree world (Tick runner) valid lacks = runner_fits world runner valid.0 valid.1
what_fits tree world (Halt runner) valid lacks = runner_fits world runner valid.0 valid.1
what_fits tree world (Change fact value) valid lacks =
    let within : fact < length world.facts = valid.0 in
    let there : nat_lt fact (length world.facts) ≡ true = grind (arith, nat_tests) in
    holds (nat_lt fact (length world.facts)) misuses.NoFact there
what_fits tree world (Tell runner uid telling) valid lacks =
    or_none (runner_misuse world runner) (option_or (lack_misuse (event_lacks world.rows (nodes_of tree.term) (Tell runner uid telling))) (telling_misuse telling))
    (runner_fits world runner valid.0 valid.1)
    (or_none (lack_misuse (event_lacks world.rows (nodes_of tree.term) (Tell runner uid telling))) (telling_misuse telling)
    (ap lack_misuse lacks) (told_fits telling valid.3))

-- the world's own events are of no account
bare_what : (tree : Tree) (world : World) (what : What) → what_misuse tree world what ≡ None → what_misuse tree (record world { events = [] }) what ≡ None
bare_what tree world (Tick runner) h = h
bare_what tree world (Halt runner) h = h
bare_what tree world (Change fact value) h = h
bare_what tree world (Tell runner uid telling) h = h

-- ---- All events

-- events that fit, in the order of their moments
abbrev Fit : Tree → World → ℕ → List Event → Type 0
Fit tree world last [] = Unit {0}
Fit tree world last (e ∷ events) = (last ≤ e.at) × (e.at ≤ last_moment) × (what_misuse tree world e.what ≡ None) × Fit tree world e.at events

moment_fits : (last at : ℕ) → last ≤ at → at ≤ last_moment → moment_misuse last at ≡ None
moment_fits last at first late =
    let from : nat_le last at ≡ true = grind (arith, nat_tests) in
    let to : nat_le at 1000000000000 ≡ true = grind (arith, nat_tests) in
    or_none (unless (nat_le last at) misuses.MomentBack) (unless (nat_le at 1000000000000) misuses.MomentLate) (holds (nat_le last at) misuses.MomentBack from)
    (holds (nat_le at 1000000000000) misuses.MomentLate to)

takes_from : (own : List Event) (s : Sitting) (last : ℕ) → s.usable ≡ true → s.state.last ≡ last → Fit s.tree s.world last own → TakesAll own s
takes_from [] s last usable is fit = tt
takes_from (e ∷ own) s last usable is fit =
    let moment : moment_misuse s.state.last e.at ≡ None = moment_fits s.state.last e.at (subst (λ (n : ℕ). n ≤ e.at) (sym is) fit.0) fit.1 in (
      or_none (unless s.usable misuses.Over) (option_or (moment_misuse s.state.last e.at) (what_misuse s.tree s.world e.what))
          (holds s.usable misuses.Over usable) (or_none (moment_misuse s.state.last e.at) (what_misuse s.tree s.world e.what) moment fit.2),
      takes_from own (after_step (record s { own = own }) (event_step s e) true) e.at refl (step_last e.what s.tree s.world e.at s.state) fit.3,
    )

none_both : (a b : Option JoinFault) → option_or a b ≡ None → (a ≡ None) × (b ≡ None)
none_both None b h = (refl, h)
none_both (Some f) b h = absurd cc

-- each event is after the one before it
abbrev Later : ℕ → List Event → Type 0
Later last [] = Unit {0}
Later last (e ∷ events) = (last ≤ e.at) × Later e.at events

later_from : (events : List Event) (e : Event) → IsNonDecreasingBy (λ (event : Event). event.at) (e ∷ events) → Later e.at events
later_from [] e order = tt
later_from (f ∷ events) e order = (
  order 0 1 e (omega arith) (omega arith),
  later_from events f (λ i j d le lt. order (suc i) (suc j) d (omega arith) (omega arith)),
)

later_all : (events : List Event) → IsNonDecreasingBy (λ (event : Event). event.at) events → Later 0 events
later_all [] order = tt
later_all (e ∷ events) order = (omega arith, later_from events e order)

fit_all : (events : List Event) (tree : Tree) (world : World) (last : ℕ) → AllByRecursion (IsValidEvent world.facts world.runners) events →
    first_untold world.rows (nodes_of tree.term) events ≡ None → Later last events → Fit tree world last events
fit_all [] tree world last valid untold later = tt
fit_all (e ∷ events) tree world last valid untold later =
    let lacks = none_both (event_lacks world.rows (nodes_of tree.term) e.what) (first_untold world.rows (nodes_of tree.term) events) untold in
    (later.0, valid.0.0, what_fits tree world e.what valid.0.1 lacks.0, fit_all events tree world e.at valid.1 lacks.1 later.1)

bare_fit : (events : List Event) (tree : Tree) (world : World) (last : ℕ) → Fit tree world last events → Fit tree (record world { events = [] }) last events
bare_fit [] tree world last fit = tt
bare_fit (e ∷ events) tree world last fit = (fit.0, fit.1, bare_what tree world e.what fit.2, bare_fit events tree world e.at fit.3)

-- the own events of a world are taken, one after another, by the session that it opens
pub own_taken : (tree : Tree) (world : World) → IsRunnableWorld world → lack_of tree world new_drivers ≡ None → TakesAll world.events (opened tree world)
own_taken tree world runnable joins =
    let untold = none_both (first_missing world.rows new_drivers (leaf_ids tree.term)) (first_untold world.rows (nodes_of tree.term) world.events) joins in
    takes_from world.events (opened tree world) 0 refl refl
    (bare_fit world.events tree world 0
    (fit_all world.events tree world 0 (recursion_from_All (IsValidEvent world.facts world.runners) world.events runnable.events) untold.1
    (later_all world.events runnable.in_order)))
