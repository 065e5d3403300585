-- A session that is served from its beginning to its end.
use Rattle.std.proofs.Common.{◌≡◌, ◌⊎◌, ◌≤◌, ℕ, List, Option, Some, refl, sym, subst, inl, inr, arith}
use Rattle.cli_serve.proofs.Hearing.{hears_nothing, hears_some, hears_weaker}
use Rattle.cli_serve.proofs.Parts.{part_over, part_said, part_then}
use Rattle.cli_serve.specs.declared.over.Over.{Over}
use Rattle.cli_serve.specs.declared.over.Over.TheVariants as over
use Rattle.cli_serve.specs.Serving.{HasEnded, HasSaid, IsOver, IsPart, IsStop, IsUnread, Out, Wrote, WroteFirst, stopped_exit}
use Rattle.spec_program.specs.declared.exit.Exit.{Exit}
use Rattle.spec_program.specs.declared.exit.Exit.TheVariants as exit
use Rattle.spec_serve.specs.declared.request_fault.RequestFault.TheVariants as request
use Rattle.spec_serve.specs.Served.{Hears, IsCutOff, IsHeard}
use Rattle.spec_serve.specs.Talks.{Heard, LinesSaid, Said, Serves, finish_all, nothing_heard, refuse}
use Rattle.spec_session.specs.Sessions.{Sitting}
use Rattle.spec_world.specs.declared.world.Event.{Event}
use Rattle.spec_world_file.specs.WorldFile.{Reading}
use Rattle.text_lines.specs.declared.stop.TextStop.{TextStop}
use Rattle.text_lines.specs.declared.stop.TextStop.TheVariants as stop

stopped_said : (cause : TextStop) (said : Said) (old new : Out) → WroteFirst cause said.lines old new → HasSaid said (stopped_exit cause) old new
stopped_said stop.WriteFault said old new p = p
stopped_said stop.NoMemory said old new p = p

-- all that is said, where no line is read any more
pub ended_said : (why : Over) (number : ℕ) (s : Sitting) (Whole : Said → Type 0) (result : Exit) (a b c : Out) →
    IsOver why number s Whole a b → a.faults ≤ b.faults → HasEnded why number s result b c → (said : Said) × Whole said × HasSaid said result a c
ended_said over.Faulted number s Whole result a b c done count ended = (
  done.0,
  done.1,
  subst (λ (e : Exit). HasSaid done.0 e a c) (sym ended.0)
      (done.2, subst (λ (o : Out). Wrote done.0.lines a o) (sym ended.1) done.3),
)
ended_said (over.Refused fault) number s Whole result a b c done count ended = part_said Whole (refuse fault number s) result a b c done count ended
ended_said (over.Stopped cause) number s Whole result a b c done count ended = (
  done.0,
  done.1,
  subst (λ (e : Exit). HasSaid done.0 e a c) (sym ended.0)
      (stopped_said cause done.0 a c (subst (λ (o : Out). WroteFirst cause done.0.lines a o) (sym ended.1) done.2)),
)

cut_off : (cause : TextStop) → IsCutOff (stopped_exit cause)
cut_off stop.WriteFault = tt
cut_off stop.NoMemory = tt

-- who is stopped is cut off
stop_cuts : (why : Over) (number : ℕ) (s : Sitting) (result : Exit) (b c : Out) → HasEnded why number s result b c → IsStop why → IsCutOff result
stop_cuts over.Faulted number s result b c ended stopped = absurd stopped
stop_cuts (over.Refused fault) number s result b c ended stopped = absurd stopped
stop_cuts (over.Stopped cause) number s result b c ended stopped = subst IsCutOff (sym ended.0) (cut_off cause)

-- what is heard, and said to it
abbrev pub Ran : Option (List ℕ) → Type 0 → List Event → Reading → Sitting → Exit → Out → Out → Type 0
Ran ahead Failed own r s result old new =
    (heard : Heard) × IsHeard ahead Failed result heard × (said : Said) × Serves own heard r s said × HasSaid said result old new

ran : (ahead : Option (List ℕ)) (Failed : Type 0) (own : List Event) (r : Reading) (s : Sitting) (result : Exit) (old new : Out) (heard : Heard) →
    IsHeard ahead Failed result heard → ((said : Said) × Serves own heard r s said × HasSaid said result old new) → Ran ahead Failed own r s result old new
ran ahead Failed own r s result old new heard is k = (heard, is, k.0, k.1, k.2)

-- the beginning came to no end
pub unbegun : (ahead : Option (List ℕ)) (Failed : Type 0) (own : List Event) (r : Reading) (s s' : Sitting) (why : Over) (result : Exit) (a b c : Out) →
    ((heard : Heard) → IsUnread why heard → IsOver why 0 s' (Serves own heard r s) a b) → a.faults ≤ b.faults → HasEnded why 0 s' result b c →
    Ran ahead Failed own r s result a c
unbegun ahead Failed own r s s' over.Faulted result a b c done count ended =
    let h = hears_some ahead (Failed ⊎ IsCutOff result) in
    ran ahead Failed own r s result a c h.0 h.1 (ended_said over.Faulted 0 s' (Serves own h.0 r s) result a b c (done h.0 tt) count ended)
unbegun ahead Failed own r s s' (over.Refused fault) result a b c done count ended =
    let h = hears_some ahead (Failed ⊎ IsCutOff result) in
    ran ahead Failed own r s result a c h.0 h.1 (ended_said (over.Refused fault) 0 s' (Serves own h.0 r s) result a b c (done h.0 tt) count ended)
unbegun ahead Failed own r s s' (over.Stopped cause) result a b c done count ended =
    let heard : Heard = nothing_heard (Some request.End) in
    ran ahead Failed own r s result a c heard (hears_nothing ahead (Failed ⊎ IsCutOff result) (inr (stop_cuts (over.Stopped cause) 0 s' result b c ended tt)))
    (ended_said (over.Stopped cause) 0 s' (Serves own heard r s) result a b c (done heard refl) count ended)

both_count : (a b c : Out) → a.faults ≤ b.faults → b.faults ≤ c.faults → a.faults ≤ c.faults
both_count a b c p q = omega arith

-- a line was not answered
pub run_over : (ahead : Option (List ℕ)) (Failed : Type 0) (own : List Event) (r : Reading) (s s' s'' : Sitting) (why : Over) (number : ℕ) (result : Exit) (a b c d : Out) →
    ((heard : Heard) → IsPart (Serves own heard r s) (LinesSaid heard.texts heard.broken 1 r s') a b) → a.faults ≤ b.faults → b.faults ≤ c.faults →
    ((heard : Heard) × Hears ahead (Failed ⊎ IsStop why) heard × IsOver why number s'' (LinesSaid heard.texts heard.broken 1 r s') b c) →
    HasEnded why number s'' result c d → Ran ahead Failed own r s result a d
run_over ahead Failed own r s s' s'' why number result a b c d begun first count lines ended =
    let heard : Heard = lines.0 in
    ran ahead Failed own r s result a d heard (hears_weaker ahead (Failed ⊎ IsStop why) (Failed ⊎ IsCutOff result) heard
    (λ may. elim may [ inl failed ↦ inl failed | inr stopped ↦ inr (stop_cuts why number s'' result c d ended stopped) ]) lines.1)
    (ended_said why number s'' (Serves own heard r s) result a c d
    (part_over why number s'' (Serves own heard r s) (LinesSaid heard.texts heard.broken 1 r s') a b c (begun heard) first lines.2) (both_count a b c first count) ended)

-- all lines were
pub run_done : (ahead : Option (List ℕ)) (Failed : Type 0) (own : List Event) (r : Reading) (s s' s'' : Sitting) (result : Exit) (a b c d : Out) →
    ((heard : Heard) → IsPart (Serves own heard r s) (LinesSaid heard.texts heard.broken 1 r s') a b) → a.faults ≤ c.faults →
    ((heard : Heard) × Hears ahead ⊥ heard × IsPart (LinesSaid heard.texts heard.broken 1 r s') (λ rest. rest ≡ finish_all exit.Done s'') b c) →
    HasSaid (finish_all exit.Done s'') result c d → Ran ahead Failed own r s result a d
run_done ahead Failed own r s s' s'' result a b c d begun count lines said =
    let heard : Heard = lines.0 in
    ran ahead Failed own r s result a d heard (hears_weaker ahead ⊥ (Failed ⊎ IsCutOff result) heard (λ never. absurd never) lines.1)
    (part_said (Serves own heard r s) (finish_all exit.Done s'') result a c d
    (part_then (Serves own heard r s) (LinesSaid heard.texts heard.broken 1 r s') (λ rest. rest ≡ finish_all exit.Done s'') a b c (begun heard) lines.2) count said)
