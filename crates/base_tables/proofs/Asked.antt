-- Which instances keep the inputs of a start, and what stays of them.
use Rattle.std.proofs.Common.{◌≡◌, ℕ, ◌<◌, ℤ, List, [], ◌∷◌, length, Bool, true, false, if◌then◌else◌, Option, Some, None, refl, sym, ap, ◌∙◌, arith}
use Rattle.std.specs.Prelude.{unwrap_or}
use Rattle.spec_script.specs.declared.cells.Seen.{Seen}
use Rattle.spec_script.specs.declared.value.Value.{Value}
use Rattle.spec_run.specs.declared.fault.Cause.{Cause}
use Rattle.spec_run.specs.declared.leaf.DriverKind.TheVariants as driver
use Rattle.spec_run.specs.declared.leaf.Instance.{Instance}
use Rattle.spec_run.specs.declared.leaf.Phase.{Phase}
use Rattle.spec_run.specs.declared.leaf.Phase.TheVariants as phase
use Rattle.spec_run.specs.declared.leaf.Reply.TheVariants.{Broken}
use Rattle.spec_run.specs.declared.status.Status.{Status}
use Rattle.spec_run.specs.declared.status.Status.TheVariants as status
use Rattle.spec_world.specs.declared.world.Telling.{Telling}
use Rattle.spec_world.specs.declared.world.Telling.TheVariants as telling
use Rattle.spec_run.specs.Leaf.{Rule, Way, Tests, Lasts, LastsBy, Replays, Waits, Heeds, Obeys, answer_by, asked, is_told_way, keeping, sensed, start_of, started_with, told_end}
use Rattle.spec_run.specs.Leaves.{phase_of}
use Rattle.base_tables.specs.DriverCalls.{kind_of_way}

-- the moment since which an instance is held stays
asked_since_at : (b : Bool) (inputs : List (Option Value)) (i : Instance) → (if b then started_with inputs i else i).since ≡ i.since
asked_since_at true [] i = refl
asked_since_at true (input ∷ inputs) i = refl
asked_since_at false inputs i = refl

pub asked_since : (way : Way) (p : Phase) (inputs : List (Option Value)) (i : Instance) → (asked way p inputs i).since ≡ i.since
asked_since way phase.Start inputs i = asked_since_at (is_told_way way) inputs i
asked_since way phase.Running inputs i = refl
asked_since way phase.Halted inputs i = refl
asked_since way phase.Told inputs i = refl

-- where its leaf is told nothing, an instance stays as it is
pub asked_deaf : (way : Way) (p : Phase) (inputs : List (Option Value)) (i : Instance) → is_told_way way ≡ false → i ≡ asked way p inputs i
asked_deaf way phase.Start inputs i deaf = ap (λ (b : Bool). if b then started_with inputs i else i) (sym deaf)
asked_deaf way phase.Running inputs i deaf = refl
asked_deaf way phase.Halted inputs i deaf = refl
asked_deaf way phase.Told inputs i deaf = refl

started_some : (inputs : List (Option Value)) (i : Instance) → 0 < length inputs → keeping inputs i ≡ started_with inputs i
started_some [] i some = absurd (omega (arith, some))
started_some (input ∷ inputs) i some = refl

starts : (st : Status) → (st ≡ status.Running → ⊥) → phase_of st ≡ phase.Start
starts status.Running other = absurd (other refl)
starts status.Idle other = refl
starts status.Success other = refl
starts status.Failure other = refl

-- an instance that begins keeps its inputs where its leaf is told what it answers
pub asked_told : (way : Way) (st : Status) (inputs : List (Option Value)) (i : Instance) → is_told_way way ≡ true → (st ≡ status.Running → ⊥) → 0 < length inputs →
    keeping inputs i ≡ asked way (phase_of st) inputs i
asked_told way st inputs i told other some =
    started_some inputs i some
    ∙ ap (λ (b : Bool). if b then started_with inputs i else i) (sym told)
    ∙ ap (λ (p : Phase). asked way p inputs i) (sym (starts st other))

-- rows whose leaves are told what they answer are served by the driver of such rows
pub told_kind : (way : Way) → is_told_way way ≡ true → kind_of_way way ≡ driver.Told
told_kind Heeds told = refl
told_kind Obeys told = refl
told_kind (Tests test) told = absurd (cc)
told_kind (Lasts ms fails) told = absurd (cc)
told_kind (LastsBy length fails) told = absurd (cc)
told_kind (Replays ms outcomes) told = absurd (cc)
told_kind (Waits test) told = absurd (cc)

-- the moment of the start is that of any instance that is held as long
pub start_same : (p : Phase) (a b : Instance) (now : ℕ) → a.since ≡ b.since → start_of p a now ≡ start_of p b now
start_same phase.Start a b now same = refl
start_same phase.Running a b now same = ap (λ (since : Option ℕ). unwrap_or since now) same
start_same phase.Halted a b now same = ap (λ (since : Option ℕ). unwrap_or since now) same
start_same phase.Told a b now same = ap (λ (since : Option ℕ). unwrap_or since now) same

-- a leaf that is told what it answers has no fault
sensed_answers : (o : Option Telling) (cause : Cause) → sensed o ≡ Broken cause → ⊥
sensed_answers (Some (telling.Success outs)) cause broken = cc
sensed_answers (Some telling.Failure) cause broken = cc
sensed_answers None cause broken = cc

obeyed_answers : (o : Option Telling) (since : ℕ) (i : Instance) (facts : List ℤ) (cause : Cause) → (told_end o since i facts).reply ≡ Broken cause → ⊥
obeyed_answers (Some (telling.Success outs)) since i facts cause broken = cc
obeyed_answers (Some telling.Failure) since i facts cause broken = cc
obeyed_answers None since i facts cause broken = cc

pub deaf_where_broken : (way : Way) (rule : Rule) (since : ℕ) (i : Instance) (inputs : List Seen) (facts : List ℤ) (now : ℕ) (cause : Cause) →
    (answer_by way rule since i inputs facts now).reply ≡ Broken cause → is_told_way way ≡ false
deaf_where_broken (Tests test) rule since i inputs facts now cause broken = refl
deaf_where_broken (Lasts ms fails) rule since i inputs facts now cause broken = refl
deaf_where_broken (LastsBy length fails) rule since i inputs facts now cause broken = refl
deaf_where_broken (Replays ms outcomes) rule since i inputs facts now cause broken = refl
deaf_where_broken (Waits test) rule since i inputs facts now cause broken = refl
deaf_where_broken Heeds rule since i inputs facts now cause broken = absurd (sensed_answers i.told cause broken)
deaf_where_broken Obeys rule since i inputs facts now cause broken = absurd (obeyed_answers i.told since i facts cause broken)
