-- Parts of what is said, one after the other.
use Rattle.std.proofs.Common.{◌≡◌, ◌∙◌, ◌≤◌, ℕ, List, [], ◌∷◌, ◌++◌, Option, Some, None, Result, Err, refl, sym, ap, subst, append_assoc, append-nil}
use Rattle.std.specs.Io.KnownBytes.{Keeps}
use Rattle.std.specs.List.{concat}
use Rattle.std.proofs.lemmas.List.Folds.{concat-append}
use Rattle.base_outside.proofs.Appends.{Appended-nil, Appended-trans, AppendedPrefix-after, AppendedPrefix-longer, AppendedPrefix-nothing}
use Rattle.base_outside.proofs.Rises.{Rose-after}
use Rattle.base_outside.specs.declared.sink.SinkFault.{SinkFault}
use Rattle.base_outside.specs.declared.sink.SinkFault.TheVariants as sink_fault
use Rattle.cli_serve.specs.declared.over.Over.{Over}
use Rattle.cli_serve.specs.declared.over.Over.TheVariants as over
use Rattle.cli_serve.specs.Serving.{HasSaid, IsOver, IsPart, Out, Wrote, WroteFirst, stopped_exit}
use Rattle.spec_outside.specs.Appending.{Appended, AppendedPrefix}
use Rattle.spec_outside.specs.Counts.{Rose}
use Rattle.spec_program.specs.declared.exit.Exit.{Exit}
use Rattle.spec_program.specs.declared.exit.Exit.TheVariants as exit
use Rattle.spec_serve.specs.Talks.{Said, refuse, then_said}
use Rattle.spec_session.specs.Sessions.{Sitting}
use Rattle.spec_world.specs.declared.world.Event.{Event}
use Rattle.text_lines.specs.declared.stop.TextStop.{TextStop}
use Rattle.text_lines.specs.declared.stop.TextStop.TheVariants as stop
use Rattle.text_lines.specs.Stops.{text_stop}

-- ---- Lines

pub wrote_none : (o : Out) → Wrote [] o o
wrote_none o = Appended-nil o.written

pub wrote_then : (a b c : Out) (xs ys : List (List ℕ)) → Wrote xs a b → Wrote ys b c → Wrote (xs ++ ys) a c
wrote_then a b c xs ys p q =
    subst (λ (z : List ℕ). Appended a.written c.written z) (sym (concat-append xs ys))
    (Appended-trans a.written b.written c.written (concat xs) (concat ys) p q)

prefix_more : (a b : Out) (xs ys : List (List ℕ)) → AppendedPrefix a.written b.written (concat xs) → AppendedPrefix a.written b.written (concat (xs ++ ys))
prefix_more a b xs ys p =
    subst (λ (z : List ℕ). AppendedPrefix a.written b.written z) (sym (concat-append xs ys))
    (AppendedPrefix-longer a.written b.written (concat xs) (concat ys) p)

prefix_after : (a b c : Out) (xs ys : List (List ℕ)) → Wrote xs a b → AppendedPrefix b.written c.written (concat ys) →
    AppendedPrefix a.written c.written (concat (xs ++ ys))
prefix_after a b c xs ys p q =
    subst (λ (z : List ℕ). AppendedPrefix a.written c.written z) (sym (concat-append xs ys))
    (AppendedPrefix-after a.written b.written c.written (concat xs) (concat ys) p q)

-- the first of some lines are the first of more
pub first_more : (stop : TextStop) (a b : Out) (xs ys : List (List ℕ)) → WroteFirst stop xs a b → WroteFirst stop (xs ++ ys) a b
first_more stop.WriteFault a b xs ys p = (p.0, prefix_more a b xs ys p.1)
first_more stop.NoMemory a b xs ys p = prefix_more a b xs ys p

-- some lines, and the first of others
pub first_after : (stop : TextStop) (a b c : Out) (xs ys : List (List ℕ)) → Wrote xs a b → a.faults ≤ b.faults → WroteFirst stop ys b c → WroteFirst stop (xs ++ ys) a c
first_after stop.WriteFault a b c xs ys p count q = (Rose-after a.faults b.faults c.faults count q.0, prefix_after a b c xs ys p q.1)
first_after stop.NoMemory a b c xs ys p count q = prefix_after a b c xs ys p q

-- nothing, for want of memory
pub first_none : (o : Out) (xs : List (List ℕ)) → WroteFirst stop.NoMemory xs o o
first_none o xs = AppendedPrefix-nothing o.written (concat xs)

-- ---- What is said

-- nothing was said
pub part_none : (Whole Rest : Said → Type 0) (o : Out) → ((rest : Said) → Rest rest → Whole rest) → IsPart Whole Rest o o
part_none Whole Rest o h = record { lines = []; events = []; wrote = wrote_none o; all = h }

-- a part of a part
pub part_then : (A B C : Said → Type 0) (a b c : Out) → IsPart A B a b → IsPart B C b c → IsPart A C a c
part_then A B C a b c p q = record {
  lines = p.lines ++ q.lines;
  events = p.events ++ q.events;
  wrote = wrote_then a b c p.lines q.lines p.wrote q.wrote;
  all = λ rest h.
      subst (λ (z : List (List ℕ)). A (record { lines = z; events = (p.events ++ q.events) ++ rest.events; exit = rest.exit }))
      (sym (append_assoc p.lines q.lines rest.lines))
      (subst (λ (z : List Event). A (record { lines = p.lines ++ (q.lines ++ rest.lines); events = z; exit = rest.exit }))
      (sym (append_assoc p.events q.events rest.events))
      (p.all (record { lines = q.lines ++ rest.lines; events = q.events ++ rest.events; exit = rest.exit }) (q.all rest h)));
}

-- what may follow may be more
pub part_weaker : (A B C : Said → Type 0) (a b : Out) → IsPart A B a b → ((rest : Said) → C rest → B rest) → IsPart A C a b
part_weaker A B C a b p h = record { lines = p.lines; events = p.events; wrote = p.wrote; all = λ rest c. p.all rest (h rest c) }

-- a part, and what comes to no line after it
pub part_over : (why : Over) (number : ℕ) (s : Sitting) (A B : Said → Type 0) (a b c : Out) →
    IsPart A B a b → a.faults ≤ b.faults → IsOver why number s B b c → IsOver why number s A a c
part_over over.Faulted number s A B a b c p count q = (
  record { lines = p.lines ++ q.0.lines; events = p.events ++ q.0.events; exit = q.0.exit },
  p.all q.0 q.1,
  q.2,
  wrote_then a b c p.lines q.0.lines p.wrote q.3,
)
part_over (over.Refused fault) number s A B a b c p count q = part_then A B (λ rest. rest ≡ refuse fault number s) a b c p q
part_over (over.Stopped stop) number s A B a b c p count q = (
  record { lines = p.lines ++ q.0.lines; events = p.events ++ q.0.events; exit = q.0.exit },
  p.all q.0 q.1,
  first_after stop a b c p.lines q.0.lines p.wrote count q.2,
)

-- all that is said from here on was said, and before it these lines
pub said_after : (lines : List (List ℕ)) (said whole : Said) (result : Exit) (a b c : Out) → Wrote lines a b → a.faults ≤ b.faults →
    whole.lines ≡ lines ++ said.lines → whole.exit ≡ said.exit → HasSaid said result b c → HasSaid whole result a c
said_after lines said whole exit.Write a b c p count more same q =
    subst (λ (z : List (List ℕ)). WroteFirst stop.WriteFault z a c) (sym more) (first_after stop.WriteFault a b c lines said.lines p count q)
said_after lines said whole exit.Memory a b c p count more same q =
    subst (λ (z : List (List ℕ)). WroteFirst stop.NoMemory z a c) (sym more) (first_after stop.NoMemory a b c lines said.lines p count q)
said_after lines said whole result a b c p count more same q =
    (same ∙ q.0, subst (λ (z : List (List ℕ)). Wrote z a c) (sym more) (wrote_then a b c lines said.lines p q.1))

-- a part, and all that is said after it
pub part_said : (A : Said → Type 0) (said : Said) (result : Exit) (a b c : Out) → IsPart A (λ rest. rest ≡ said) a b → a.faults ≤ b.faults →
    HasSaid said result b c → (whole : Said) × A whole × HasSaid whole result a c
part_said A said result a b c p count q = (
  record { lines = p.lines ++ said.lines; events = p.events ++ said.events; exit = said.exit },
  p.all said refl,
  said_after p.lines said (record { lines = p.lines ++ said.lines; events = p.events ++ said.events; exit = said.exit }) result a b c
      p.wrote count refl refl q,
)

-- ---- What a write has left

abbrev pub unwritten : TextStop → Result (Unit {0}) TextStop
unwritten cause = Err cause

-- a prefix of some lines was written, since a write failed or for want of memory
pub first_by : (cause : TextStop) (lines : List (List ℕ)) (old new : Out) → AppendedPrefix old.written new.written (concat lines) →
    (unwritten cause ≡ unwritten stop.WriteFault → Rose old.faults new.faults) → WroteFirst cause lines old new
first_by stop.WriteFault lines old new p failed = (failed refl, p)
first_by stop.NoMemory lines old new p failed = p

-- .. of one line
pub line_first : (cause : TextStop) (line : List ℕ) (old new : Out) → AppendedPrefix old.written new.written line →
    (unwritten cause ≡ unwritten stop.WriteFault → Rose old.faults new.faults) → WroteFirst cause (line ∷ []) old new
line_first cause line old new p failed =
    first_by cause (line ∷ []) old new (subst (λ (z : List ℕ). AppendedPrefix old.written new.written z) (sym (append-nil line)) p) failed

abbrev pub unhanded : SinkFault → Result (Unit {0}) SinkFault
unhanded fault = Err fault

appended_kept : (old mid new : Option (List ℕ)) (line : List ℕ) → Appended old mid line → Keeps mid new → Appended old new line
appended_kept None mid new line p q = tt
appended_kept (Some x) None new line p q = cc
appended_kept (Some x) (Some y) None line p q = absurd q
appended_kept (Some x) (Some y) (Some z) line p q = ap Some q ∙ p

prefix_kept : (old mid new : Out) (line : List ℕ) → Appended old.written mid.written line → Keeps mid.written new.written → AppendedPrefix old.written new.written line
prefix_kept old mid new line whole kept =
    record { front = line; rest = []; parts = sym (append-nil line); appended = appended_kept old.written mid.written new.written line whole kept }

-- a line was written, and could not be handed on
pub line_unhanded : (fault : SinkFault) (cause : TextStop) (line : List ℕ) (old mid new : Out) → cause ≡ text_stop fault → Appended old.written mid.written line
    → Keeps mid.written new.written → old.faults ≤ mid.faults → (unhanded fault ≡ unhanded sink_fault.Failed → Rose mid.faults new.faults) → WroteFirst cause (line ∷ []) old new
line_unhanded sink_fault.Failed cause line old mid new is whole kept count failed =
    subst (λ (c : TextStop). WroteFirst c (line ∷ []) old new) (sym is)
    (line_first stop.WriteFault line old new (prefix_kept old mid new line whole kept) (λ _. Rose-after old.faults mid.faults new.faults count (failed refl)))
line_unhanded sink_fault.NoMemory cause line old mid new is whole kept count failed =
    subst (λ (c : TextStop). WroteFirst c (line ∷ []) old new) (sym is) (line_first stop.NoMemory line old new (prefix_kept old mid new line whole kept) (λ same. cc))

pub line_wrote : (line : List ℕ) (old new : Out) → Appended old.written new.written line → Wrote (line ∷ []) old new
line_wrote line old new p = subst (λ (z : List ℕ). Appended old.written new.written z) (sym (append-nil line)) p

-- a line was not written whole, before this is said
pub line_stopped : (cause : TextStop) (line : List ℕ) (said : Said) (old new : Out) → AppendedPrefix old.written new.written line →
    (unwritten cause ≡ unwritten stop.WriteFault → Rose old.faults new.faults) → HasSaid (then_said (line ∷ []) said) (stopped_exit cause) old new
line_stopped stop.WriteFault line said old new p failed = first_more stop.WriteFault old new (line ∷ []) said.lines (line_first stop.WriteFault line old new p failed)
line_stopped stop.NoMemory line said old new p failed = first_more stop.NoMemory old new (line ∷ []) said.lines (line_first stop.NoMemory line old new p failed)
