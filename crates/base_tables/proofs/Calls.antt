-- What each call of a driver keeps: the number of the facts, and that a leaf is held while it runs.
use Rattle.std.proofs.Common.{◌≡◌, ℕ, ◌-◌, ℤ, Bool, true, false, not, nat_lt, if◌then◌else◌, List, [], ◌∷◌, length, Option, Some, None, Result, Ok, Err, refl, ◌∙◌}
use Rattle.std.specs.Prelude.{IfOk, slice_set}
use Rattle.std.proofs.lemmas.List.{length-set}
use Rattle.base_texts.specs.Results.{◌>>=◌}
use Rattle.spec_script.specs.declared.cells.Seen.{Seen}
use Rattle.spec_run.specs.declared.fault.Cause.{Cause}
use Rattle.spec_run.specs.declared.leaf.Instance.{Instance}
use Rattle.spec_run.specs.declared.leaf.Phase.{Phase}
use Rattle.spec_run.specs.declared.leaf.Reply.TheVariants.{Running, Success, Failure, Broken}
use Rattle.spec_world.specs.declared.world.Fact.{Fact}
use Rattle.spec_world.specs.declared.world.Row.{Row}
use Rattle.spec_world.specs.declared.world.RowSort.{RowSort}
use Rattle.spec_world.specs.declared.world.RowSort.TheVariants as sort
use Rattle.spec_world.specs.declared.world.Set.{Set}
use Rattle.spec_world.specs.declared.world.Telling.{Telling}
use Rattle.spec_world.specs.declared.world.Telling.TheVariants as telling
use Rattle.spec_world.specs.declared.world.ToldOut.{ToldOut}
use Rattle.spec_run.specs.Leaf.{Answered, Rule, Test, Way, Tests, Lasts, LastsBy, Replays, Waits, Heeds, Obeys, answer_by, completed, completion, decided, effects_of, fact_at, finished, held, judged, lasting, lasting_for, leaf_rule, length_of, measured, released, made_by, outcome_at, outputs_of, replied, rule_answer, rule_of, sensed, start_of, timed_end, told_end, unheld, way_of}
use Rattle.base_tables.specs.Outputs.{since_after}
use Rattle.base_tables.specs.Shapes.{Lasts as SortLasts}

-- effects leave as many facts as there were
abbrev AsMany : List ℤ → Result (List ℤ) Cause → Type 0
AsMany facts effects = IfOk effects (λ left. length left ≡ length facts)

effect_keeps : (facts : List ℤ) (fact : ℕ) (made : Result ℤ Cause) (rest : Result (List ℤ) Cause) → AsMany facts rest →
    AsMany facts (made >>= λ value. rest >>= λ left. Ok (slice_set left fact value))
effect_keeps facts fact (Err cause) rest k = tt
effect_keeps facts fact (Ok value) (Err cause) k = tt
effect_keeps facts fact (Ok value) (Ok left) k = length-set left fact value ∙ k

effects_keep : (sets : List Set) (facts : List ℤ) → AsMany facts (effects_of sets facts)
effects_keep [] facts = refl
effects_keep (s ∷ ss) facts = effect_keeps facts s.fact (made_by s.how s.value (fact_at facts s.fact)) (effects_of ss facts) (effects_keep ss facts)

-- a condition answers at once
abbrev WayLasts : Way → Type 0
WayLasts (Tests test) = ⊥
WayLasts Heeds = ⊥
WayLasts _ = Unit {0}

-- of a leaf that answers so and began at this moment, with this instance and these facts before
pub record Keeps (way : Way) (since : ℕ) (instance : Instance) (facts : List ℤ) (a : Answered) : Type 0 where
  pub held_while_running : a.instance.since ≡ since_after a.reply since instance.since
  pub as_many : length a.facts ≡ length facts
  pub lasts : a.reply ≡ Running → WayLasts way
  pub breaks : (cause : Cause) → a.reply ≡ Broken cause → (a.instance ≡ instance) × (a.facts ≡ facts)

module _ (way : Way) (rule : Rule) (since : ℕ) (instance : Instance) (inputs : List Seen) (facts : List ℤ) where
  abbrev Kept : Answered → Type 0
  Kept a = Keeps way since instance facts a

  broken_keeps : (cause : Cause) → Kept (replied (Broken cause) instance facts)
  broken_keeps cause = record { held_while_running = refl; as_many = refl; lasts = λ e. cc; breaks = λ c e. (refl, refl) }

  failed_keeps : (after : Instance) → after.since ≡ None → Kept (replied Failure after facts)
  failed_keeps after free = record { held_while_running = free; as_many = refl; lasts = λ e. cc; breaks = λ c e. cc }

  succeeded_keeps : (told : List ToldOut) (after : Instance) → after.since ≡ None →
      Kept (record { reply = Success; instance = after; facts = facts; outputs = []; told = told })
  succeeded_keeps told after free = record { held_while_running = free; as_many = refl; lasts = λ e. cc; breaks = λ c e. cc }

  -- held as any instance
  running_keeps : WayLasts way → (left : Instance) → Kept (replied Running (held since left) facts)
  running_keeps lasts left = record { held_while_running = refl; as_many = refl; lasts = λ e. lasts; breaks = λ c e. cc }

  finished_keeps : (outputs effects : Result (List ℤ) Cause) (after : Instance) → AsMany facts effects → after.since ≡ None →
      Kept (finished (outputs >>= λ outputs. effects >>= λ left. Ok (outputs, left)) instance after facts)
  finished_keeps (Err cause) effects after many free = broken_keeps cause
  finished_keeps (Ok outputs) (Err cause) after many free = broken_keeps cause
  finished_keeps (Ok outputs) (Ok left) after many free = record { held_while_running = free; as_many = many; lasts = λ e. cc; breaks = λ c e. cc }

  decided_keeps : (b : Bool) (after : Instance) → after.since ≡ None → Kept (decided b rule instance after inputs facts)
  decided_keeps true after free = finished_keeps (outputs_of rule.outs inputs facts) (effects_of rule.sets facts) after (effects_keep rule.sets facts) free
  decided_keeps false after free = failed_keeps after free

  judged_keeps : (found : Result Bool Cause) (go : Bool → Answered) → ((b : Bool) → Kept (go b)) → Kept (judged found instance facts go)
  judged_keeps (Ok b) go keeps = keeps b
  judged_keeps (Err cause) go keeps = broken_keeps cause

  timed_keeps : (fails : Option Test) → Kept (timed_end fails rule instance inputs facts)
  timed_keeps None = decided_keeps true (released instance) refl
  timed_keeps (Some fails) =
      judged_keeps (fails inputs facts) (λ b. decided (not b) rule instance (released instance) inputs facts) (λ b. decided_keeps (not b) (released instance) refl)

  lasting_keeps : WayLasts way → (ms now : ℕ) (left : Instance) (ending : Answered) → Kept ending → Kept (lasting since ms now left facts ending)
  lasting_keeps lasts ms now left ending keeps =
      elim (nat_lt (now - since) ms) as (λ b. Kept (if b then replied Running (held since left) facts else ending)) [
        | true ↦ running_keeps lasts left
        | false ↦ keeps
      ]

  measured_keeps : WayLasts way → (length : Result ℕ Cause) (now : ℕ) (ending : Answered) → Kept ending →
      Kept (measured length instance facts (λ ms. lasting since ms now (lasting_for ms instance) facts ending))
  measured_keeps lasts (Ok ms) now ending keeps = lasting_keeps lasts ms now (lasting_for ms instance) ending keeps
  measured_keeps lasts (Err cause) now ending keeps = broken_keeps cause

  tested_keeps : (b : Bool) → Kept (replied (if b then Success else Failure) (released instance) facts)
  tested_keeps true = succeeded_keeps [] (released instance) refl
  tested_keeps false = failed_keeps (released instance) refl

  awaited_keeps : WayLasts way → (b : Bool) → Kept (if b then completion rule instance (released instance) inputs facts else replied Running (held since instance) facts)
  awaited_keeps lasts true = decided_keeps true (released instance) refl
  awaited_keeps lasts false = running_keeps lasts instance

  sensed_keeps : (o : Option Telling) → Kept (replied (sensed o) (unheld instance) facts)
  sensed_keeps (Some (telling.Success outs)) = succeeded_keeps [] (unheld instance) refl
  sensed_keeps (Some telling.Failure) = failed_keeps (unheld instance) refl
  sensed_keeps None = failed_keeps (unheld instance) refl

  obeyed_keeps : WayLasts way → (o : Option Telling) → Kept (told_end o since instance facts)
  obeyed_keeps lasts (Some (telling.Success outs)) = succeeded_keeps outs (released instance) refl
  obeyed_keeps lasts (Some telling.Failure) = failed_keeps (released instance) refl
  obeyed_keeps lasts None = running_keeps lasts instance

answer_keeps : (way : Way) (rule : Rule) (since : ℕ) (instance : Instance) (inputs : List Seen) (facts : List ℤ) (now : ℕ) → Keeps way since instance facts (answer_by way rule since instance inputs facts now)
answer_keeps (Tests test) rule since instance inputs facts now =
    judged_keeps (Tests test) rule since instance inputs facts (test inputs facts) (λ b. replied (if b then Success else Failure) (released instance) facts) (tested_keeps (Tests test) rule since instance inputs facts)
answer_keeps (Lasts ms fails) rule since instance inputs facts now =
    lasting_keeps (Lasts ms fails) rule since instance inputs facts tt ms now instance (timed_end fails rule instance inputs facts) (timed_keeps (Lasts ms fails) rule since instance inputs facts fails)
answer_keeps (LastsBy length fails) rule since instance inputs facts now =
    measured_keeps (LastsBy length fails) rule since instance inputs facts tt (length_of length instance inputs facts) now (timed_end fails rule instance inputs facts)
    (timed_keeps (LastsBy length fails) rule since instance inputs facts fails)
answer_keeps (Replays ms outcomes) rule since instance inputs facts now =
    lasting_keeps (Replays ms outcomes) rule since instance inputs facts tt ms now instance (decided (outcome_at outcomes instance.completions) rule instance (completed instance) inputs facts)
    (decided_keeps (Replays ms outcomes) rule since instance inputs facts (outcome_at outcomes instance.completions) (completed instance) refl)
answer_keeps (Waits test) rule since instance inputs facts now =
    judged_keeps (Waits test) rule since instance inputs facts (test inputs facts) (λ b. if b then completion rule instance (released instance) inputs facts else replied Running (held since instance) facts)
    (awaited_keeps (Waits test) rule since instance inputs facts tt)
answer_keeps Heeds rule since instance inputs facts now = sensed_keeps Heeds rule since instance inputs facts instance.told
answer_keeps Obeys rule since instance inputs facts now = obeyed_keeps Obeys rule since instance inputs facts tt instance.told

-- a call by a rule
pub call_keeps : (rule : Rule) (phase : Phase) (instance : Instance) (inputs : List Seen) (facts : List ℤ) (now : ℕ) →
    Keeps rule.way (start_of phase instance now) instance facts (rule_answer rule phase instance inputs facts now)
call_keeps rule phase instance inputs facts now = answer_keeps rule.way rule (start_of phase instance now) instance inputs facts now

-- an instance is held while its leaf runs
pub held_while_running : (rule : Rule) (phase : Phase) (instance : Instance) (inputs : List Seen) (facts : List ℤ) (now : ℕ) →
    (rule_answer rule phase instance inputs facts now).instance.since ≡ since_after (rule_answer rule phase instance inputs facts now).reply (start_of phase instance now) instance.since
held_while_running rule phase instance inputs facts now = (call_keeps rule phase instance inputs facts now).held_while_running

-- there are as many facts
pub as_many_facts : (rule : Rule) (phase : Phase) (instance : Instance) (inputs : List Seen) (facts : List ℤ) (now : ℕ) →
    length (rule_answer rule phase instance inputs facts now).facts ≡ length facts
as_many_facts rule phase instance inputs facts now = (call_keeps rule phase instance inputs facts now).as_many

sort_lasts : (places : List ℕ → ℕ) (s : RowSort) → WayLasts (way_of places s) → SortLasts s
sort_lasts places (sort.Timed ms fails) lasts = tt
sort_lasts places (sort.TimedBy length fails) lasts = tt
sort_lasts places (sort.Replay ms outcomes) lasts = tt
sort_lasts places (sort.Gate test) lasts = tt
sort_lasts places (sort.Told outs) lasts = tt
sort_lasts places _ lasts = absurd lasts

-- only a leaf whose row lasts answers RUNNING
pub running_lasts : (names : List Fact) (row : Row) (phase : Phase) (instance : Instance) (inputs : List Seen) (facts : List ℤ) (now : ℕ) →
    (leaf_rule names row phase instance inputs facts now).reply ≡ Running → SortLasts row.sort
running_lasts names row phase instance inputs facts now e = sort_lasts _ row.sort ((call_keeps (rule_of names row) phase instance inputs facts now).lasts e)
