-- What is said to the events of a session.
use Rattle.std.proofs.Common.{◌≡◌, ◌∙◌, ◌+◌, ◌≤◌, ℕ, true, List, [], ◌∷◌, ◌++◌, Option, Some, None, Result, Ok, Err, refl, sym, ap, subst}
use Rattle.std.specs.Prelude.{IfErr, OnOk}
use Rattle.cli_serve.proofs.Parts.{first_after, first_more, first_none, part_none, part_over, part_then, wrote_then}
use Rattle.cli_serve.specs.declared.over.Over.{Over}
use Rattle.cli_serve.specs.declared.over.Over.TheVariants as over
use Rattle.cli_serve.specs.Serving.{Answers, IsOver, IsPart, IsStop, IsUnread, Out, Shows, Writes, Wrote, WroteFirst, last_lines}
use Rattle.spec_program.specs.declared.exit.Exit.TheVariants as exit
use Rattle.spec_run.specs.declared.fault.RunFault.{RunFault}
use Rattle.spec_run.specs.Run.{Stepped}
use Rattle.spec_serve.specs.declared.request.Request.TheVariants.{At, Make}
use Rattle.spec_serve.specs.declared.request_fault.RequestFault.{RequestFault}
use Rattle.spec_serve.specs.declared.request_fault.RequestFault.TheVariants as request
use Rattle.spec_serve.specs.Refusals.{misused}
use Rattle.spec_serve.specs.Talks.{Ahead, Heard, HeardSaid, LinesSaid, Said, Serves, StepSaid, TakenSaid, after_event, block_lines, nothing_heard, ok_line, ready_line, refuse, then_said}
use Rattle.spec_session.specs.declared.ended.Ended.{Ended}
use Rattle.spec_session.specs.declared.ended.Ended.TheVariants as ended
use Rattle.spec_session.specs.declared.ended.Misuse.{Misuse}
use Rattle.spec_session.specs.Events.{EventGives, FinishGives, Gives, Leaves, NextGives, OwnGives, after_step, event_step, finish_misuse, finish_step, misuse}
use Rattle.spec_session.specs.Sessions.{Sitting}
use Rattle.spec_world.specs.declared.world.Event.{Event}
use Rattle.spec_world_file.specs.WorldFile.{Reading}
use Rattle.text_lines.specs.declared.stop.TextStop.{TextStop}
use Rattle.text_lines.specs.declared.stop.TextStop.TheVariants as stop

-- ---- What was written

-- what is answered after lines is answered, or no more was written
pub writes_ok : (lines : List (List ℕ)) (answer : Result (Unit {0}) Over) (old new : Out) → Writes lines answer (Ok tt) old new → (Ok tt ≡ answer) × Wrote lines old new
writes_ok lines answer old new w = w

-- lines after which nothing is wrong: where something is, no more was written
pub writes_err : (lines : List (List ℕ)) (why : Over) (old new : Out) → Writes lines (Ok tt) (Err why) old new →
    (stop : TextStop) × (why ≡ over.Stopped stop) × WroteFirst stop lines old new
writes_err lines over.Faulted old new w = let no : Err over.Faulted ≡ Ok tt = w.0 in absurd cc
writes_err lines (over.Refused fault) old new w = let no : Err (over.Refused fault) ≡ Ok tt = w.0 in absurd cc
writes_err lines (over.Stopped stop) old new w = (stop, refl, w)

-- a block is shown whole only of an event that was made
pub shown_ok : (made : Result (Unit {0}) Ended) (s : Sitting) (old new : Out) → Shows made s (Ok tt) old new → (made ≡ Ok tt) × Wrote (last_lines s) old new
shown_ok (Ok done) s old new w = (refl, w.1)
shown_ok (Err (ended.Fault fault)) s old new w = let no : Ok tt ≡ Err over.Faulted = w.0 in absurd cc
shown_ok (Err ended.NoMemory) s old new w = let no : Ok tt ≡ Err (over.Stopped stop.NoMemory) = w.0 in absurd cc
shown_ok (Err (ended.Misused misuse)) s old new w = let no : Ok tt ≡ Err (over.Refused (misused misuse)) = w.0 in absurd cc

-- an event whose block is shown: it was made, or it ended in a fault
abbrev pub IsShown : Result (Unit {0}) Ended → Type 0
IsShown (Ok done) = Unit {0}
IsShown (Err (ended.Fault fault)) = Unit {0}
IsShown (Err ended.NoMemory) = ⊥
IsShown (Err (ended.Misused misuse)) = ⊥

abbrev unmade : Ended → Result (Unit {0}) Ended
unmade e = Err e

pub shown_made : (made : Result (Unit {0}) Ended) → made ≡ Ok tt → IsShown made
shown_made made is = subst IsShown (sym is) tt

pub shown_fault : (made : Result (Unit {0}) Ended) (e : Ended) (fault : RunFault) → made ≡ Err e → e ≡ ended.Fault fault → IsShown made
shown_fault made e fault is fault_is = subst IsShown (sym (is ∙ ap unmade fault_is)) tt

-- the first of its block was shown
pub shows_first : (made : Result (Unit {0}) Ended) (s : Sitting) (cause : TextStop) (old new : Out) → IsShown made → WroteFirst cause (last_lines s) old new →
    Shows made s (Err (over.Stopped cause)) old new
shows_first (Ok done) s cause old new shown wrote = wrote
shows_first (Err (ended.Fault fault)) s cause old new shown wrote = wrote
shows_first (Err ended.NoMemory) s cause old new shown wrote = absurd shown
shows_first (Err (ended.Misused misuse)) s cause old new shown wrote = absurd shown

-- ---- What is said to a step

-- this is said to a step, and this lies ahead
pub step_part : (fault : Option RunFault) (event : Event) (block lines : List (List ℕ)) (Rest : Said → Type 0) (old new : Out) →
    fault ≡ None → Wrote (block ++ lines) old new → IsPart (StepSaid fault event block lines Rest) Rest old new
step_part fault event block lines Rest old new none wrote = record {
  lines = block ++ lines;
  events = event ∷ [];
  wrote = wrote;
  all = λ rest h. subst (λ (f : Option RunFault). StepSaid f event block lines Rest (after_event event (block ++ lines) rest)) (sym none) (rest, h, refl);
}

step_fault : (fault : Option RunFault) (of : RunFault) (event : Event) (block lines : List (List ℕ)) (Rest : Said → Type 0) (number : ℕ) (s : Sitting) (old new : Out) →
    fault ≡ Some of → Wrote block old new → IsOver over.Faulted number s (StepSaid fault event block lines Rest) old new
step_fault fault of event block lines Rest number s old new some wrote = (
  record { lines = block; events = event ∷ []; exit = exit.Fault },
  subst (λ (f : Option RunFault). StepSaid f event block lines Rest (record { lines = block; events = event ∷ []; exit = exit.Fault })) (sym some) refl,
  refl,
  wrote,
)

-- the first of the block, where something may be said after it
step_first : (fault : Option RunFault) (event : Event) (block lines : List (List ℕ)) (Rest : Said → Type 0) (stop : TextStop) (number : ℕ) (s : Sitting) (old new : Out) →
    (rest : Said) → Rest rest → WroteFirst stop block old new → IsOver (over.Stopped stop) number s (StepSaid fault event block lines Rest) old new
step_first None event block lines Rest stop number s old new rest ahead wrote = (
  after_event event (block ++ lines) rest,
  (rest, ahead, refl),
  first_more stop old new (block ++ lines) rest.lines (first_more stop old new block lines wrote),
)
step_first (Some fault) event block lines Rest stop number s old new rest ahead wrote =
    (record { lines = block; events = event ∷ []; exit = exit.Fault }, refl, wrote)

-- .. and the first of the lines after it
step_next : (fault : Option RunFault) (event : Event) (block lines : List (List ℕ)) (Rest : Said → Type 0) (stop : TextStop) (number : ℕ) (s : Sitting) (old new : Out) →
    fault ≡ None → (rest : Said) → Rest rest → WroteFirst stop (block ++ lines) old new → IsOver (over.Stopped stop) number s (StepSaid fault event block lines Rest) old new
step_next fault event block lines Rest stop number s old new none rest ahead wrote = (
  after_event event (block ++ lines) rest,
  subst (λ (f : Option RunFault). StepSaid f event block lines Rest (after_event event (block ++ lines) rest)) (sym none) (rest, ahead, refl),
  first_more stop old new (block ++ lines) rest.lines wrote,
)

-- a step that has left this, where its block is not shown whole
pub step_over : (s s' after : Sitting) (event : Event) (lines : List (List ℕ)) (Rest : Said → Type 0) (made : Result (Unit {0}) Ended) (why : Over) (number : ℕ) (old new : Out) →
    Leaves s (event_step s event) made s' → Shows made s' (Err why) old new → (IsStop why → (rest : Said) × Rest rest) →
    IsOver why number after (StepSaid (event_step s event).fault event (block_lines s (event_step s event)) lines Rest) old new
step_over s s' after event lines Rest (Ok done) over.Faulted number old new leaves shows some = let no : Err over.Faulted ≡ Ok done = shows.0 in absurd cc
step_over s s' after event lines Rest (Ok done) (over.Refused fault) number old new leaves shows some = let no : Err (over.Refused fault) ≡ Ok done = shows.0 in absurd cc
step_over s s' after event lines Rest (Ok done) (over.Stopped stop) number old new leaves shows some =
    step_first (event_step s event).fault event (block_lines s (event_step s event)) lines Rest stop number after old new (some tt).0 (some tt).1
    (subst (λ (z : Sitting). WroteFirst stop (last_lines z) old new) leaves.1 shows)
step_over s s' after event lines Rest (Err (ended.Fault fault)) over.Faulted number old new leaves shows some =
    step_fault (event_step s event).fault fault event (block_lines s (event_step s event)) lines Rest number after old new leaves.0
    (subst (λ (z : Sitting). Wrote (last_lines z) old new) leaves.1 shows.1)
step_over s s' after event lines Rest (Err (ended.Fault fault)) (over.Refused other) number old new leaves shows some =
    let no : Err (over.Refused other) ≡ Err over.Faulted = shows.0 in absurd cc
step_over s s' after event lines Rest (Err (ended.Fault fault)) (over.Stopped stop) number old new leaves shows some =
    step_first (event_step s event).fault event (block_lines s (event_step s event)) lines Rest stop number after old new (some tt).0 (some tt).1
    (subst (λ (z : Sitting). WroteFirst stop (last_lines z) old new) leaves.1 shows)
step_over s s' after event lines Rest (Err ended.NoMemory) over.Faulted number old new leaves shows some =
    let no : Err over.Faulted ≡ Err (over.Stopped stop.NoMemory) = shows.0 in absurd cc
step_over s s' after event lines Rest (Err ended.NoMemory) (over.Refused fault) number old new leaves shows some =
    let no : Err (over.Refused fault) ≡ Err (over.Stopped stop.NoMemory) = shows.0 in absurd cc
step_over s s' after event lines Rest (Err ended.NoMemory) (over.Stopped stop.WriteFault) number old new leaves shows some =
    let no : Err (over.Stopped stop.WriteFault) ≡ Err (over.Stopped stop.NoMemory) = shows.0 in absurd cc
step_over s s' after event lines Rest (Err ended.NoMemory) (over.Stopped stop.NoMemory) number old new leaves shows some =
    step_first (event_step s event).fault event (block_lines s (event_step s event)) lines Rest stop.NoMemory number after old new (some tt).0 (some tt).1
    (subst (λ (o : Out). WroteFirst stop.NoMemory (block_lines s (event_step s event)) old o) (sym shows.1) (first_none old (block_lines s (event_step s event))))
step_over s s' after event lines Rest (Err (ended.Misused misuse)) why number old new leaves shows some = absurd leaves

-- ---- What is said to the event of a line

-- where nothing is heard any more something may be said
pub lines_end : (heard : Heard) (number : ℕ) (r : Reading) (s : Sitting) → heard ≡ nothing_heard (Some request.End) →
    LinesSaid heard.texts heard.broken number r s (refuse request.End number s)
lines_end heard number r s none =
    subst (λ (h : Heard). LinesSaid h.texts h.broken number r s (refuse request.End number s)) (sym none) refl

taken_over : (m : Option Misuse) (s s' : Sitting) (event : Event) (made : Result (Unit {0}) Ended) (why : Over) (number : ℕ) (old new : Out) (Rest : Ahead) →
    Gives m s (event_step s event) made s' → Shows made s' (Err why) old new →
    (IsStop why → (rest : Said) × Rest (after_step s (event_step s event) true) rest) → IsOver why number s' (TakenSaid m number s event Rest) old new
taken_over None s s' event made why number old new Rest gives shows some =
    step_over s s' s' event (ok_line ∷ []) (Rest (after_step s (event_step s event) true)) made why number old new gives shows some
taken_over (Some m) s s' event made why number old new Rest gives shows some =
    let refused : Shows (Err (ended.Misused m)) s' (Err why) old new = subst (λ (r : Result (Unit {0}) Ended). Shows r s' (Err why) old new) gives.0 shows in
    let is : Err why ≡ Err (over.Refused (misused m)) = refused.0 in
    let over_is : why ≡ over.Refused (misused m) = cc in
    subst (λ (o : Over). IsOver o number s' (λ said. said ≡ refuse (misused m) number s) old new) (sym over_is)
    (subst (λ (o : Out). IsPart (λ said. said ≡ refuse (misused m) number s) (λ rest. rest ≡ refuse (misused m) number s') old o) (sym refused.1)
    (part_none (λ said. said ≡ refuse (misused m) number s) (λ rest. rest ≡ refuse (misused m) number s') old
    (λ rest h. h ∙ ap (refuse (misused m) number) gives.1)))

-- the event of a line that was not made, or whose block was not shown whole
pub event_over : (s s' : Sitting) (event : Event) (made : Result (Unit {0}) Ended) (why : Over) (number : ℕ) (r : Reading) (heard : Heard) (old new : Out) →
    EventGives s event made s' → Shows made s' (Err why) old new → IsUnread why heard →
    IsOver why number s' (Answers (Make event) number r s heard) old new
event_over s s' event made over.Faulted number r heard old new gives shows unread =
    taken_over (misuse s event) s s' event made over.Faulted number old new (λ after rest. LinesSaid heard.texts heard.broken (number + 1) r after rest) gives shows (λ no. absurd no)
event_over s s' event made (over.Refused fault) number r heard old new gives shows unread =
    taken_over (misuse s event) s s' event made (over.Refused fault) number old new (λ after rest. LinesSaid heard.texts heard.broken (number + 1) r after rest) gives shows (λ no. absurd no)
event_over s s' event made (over.Stopped stop) number r heard old new gives shows unread =
    taken_over (misuse s event) s s' event made (over.Stopped stop) number old new (λ after rest. LinesSaid heard.texts heard.broken (number + 1) r after rest) gives shows
    (λ stopped. (
      refuse request.End (number + 1) (after_step s (event_step s event) true),
      lines_end heard (number + 1) r (after_step s (event_step s event) true) unread,
    ))

-- what an event has left that was made
made_leaves : (m : Option Misuse) (s s' : Sitting) (d : Stepped) → Gives m s d (Ok tt) s' → (m ≡ None) × (d.fault ≡ None) × (s' ≡ after_step s d true)
made_leaves None s s' d gives = (refl, gives.0, gives.1)
made_leaves (Some m) s s' d gives = let no : Ok tt ≡ Err (ended.Misused m) = gives.0 in absurd cc

pub event_made : (s s' : Sitting) (event : Event) (made : Result (Unit {0}) Ended) → EventGives s event made s' → made ≡ Ok tt →
    (misuse s event ≡ None) × ((event_step s event).fault ≡ None) × (s' ≡ after_step s (event_step s event) true)
event_made s s' event made gives is =
    made_leaves (misuse s event) s s' (event_step s event)
    (subst (λ (r : Result (Unit {0}) Ended). Gives (misuse s event) s (event_step s event) r s') is gives)

-- the event of a line that was made and answered
pub event_part : (s s' : Sitting) (event : Event) (made : Result (Unit {0}) Ended) (number : ℕ) (r : Reading) (heard : Heard) (old mid new : Out) →
    EventGives s event made s' → Shows made s' (Ok tt) old mid → Wrote (ok_line ∷ []) mid new →
    IsPart (Answers (Make event) number r s heard) (LinesSaid heard.texts heard.broken (number + 1) r s') old new
event_part s s' event made number r heard old mid new gives shows ok =
    let shown = shown_ok made s' old mid shows in
    let left = event_made s s' event made gives shown.0 in
    let Rest : Ahead = λ after rest. LinesSaid heard.texts heard.broken (number + 1) r after rest in
    let block : Wrote (block_lines s (event_step s event)) old mid = subst (λ (z : Sitting). Wrote (last_lines z) old mid) left.2 shown.1 in
    subst (λ (z : Sitting). IsPart (Answers (Make event) number r s heard) (Rest z) old new) (sym left.2)
    (subst (λ (m : Option Misuse). IsPart (TakenSaid m number s event Rest) (Rest (after_step s (event_step s event) true)) old new) (sym left.0)
    (step_part (event_step s event).fault event (block_lines s (event_step s event)) (ok_line ∷ []) (Rest (after_step s (event_step s event) true)) old new
    left.1 (wrote_then old mid new (block_lines s (event_step s event)) (ok_line ∷ []) block ok)))

-- .. and was not answered
pub event_unanswered : (s s' : Sitting) (event : Event) (made : Result (Unit {0}) Ended) (why : Over) (number : ℕ) (r : Reading) (heard : Heard) (old mid new : Out) →
    EventGives s event made s' → Shows made s' (Ok tt) old mid → old.faults ≤ mid.faults → Writes (ok_line ∷ []) (Ok tt) (Err why) mid new →
    IsUnread why heard → IsOver why number s' (Answers (Make event) number r s heard) old new
event_unanswered s s' event made why number r heard old mid new gives shows count ok unread =
    let shown = shown_ok made s' old mid shows in
    let left = event_made s s' event made gives shown.0 in
    let stopped = writes_err (ok_line ∷ []) why mid new ok in
    let Rest : Ahead = λ after rest. LinesSaid heard.texts heard.broken (number + 1) r after rest in
    let block : Wrote (block_lines s (event_step s event)) old mid = subst (λ (z : Sitting). Wrote (last_lines z) old mid) left.2 shown.1 in
    let none : heard ≡ nothing_heard (Some request.End) = subst (λ (o : Over). IsUnread o heard) stopped.1 unread in
    subst (λ (o : Over). IsOver o number s' (Answers (Make event) number r s heard) old new) (sym stopped.1)
    (subst (λ (m : Option Misuse). IsOver (over.Stopped stopped.0) number s' (TakenSaid m number s event Rest) old new) (sym left.0)
    (step_next (event_step s event).fault event (block_lines s (event_step s event)) (ok_line ∷ []) (Rest (after_step s (event_step s event) true)) stopped.0 number s' old new
    left.1 (refuse request.End (number + 1) (after_step s (event_step s event) true)) (lines_end heard (number + 1) r (after_step s (event_step s event) true) none)
    (first_after stopped.0 old mid new (block_lines s (event_step s event)) (ok_line ∷ []) block count stopped.2)))

-- what an event leaves as it was
gives_kept : (m : Option Misuse) (s s' : Sitting) (d : Stepped) (made : Result (Unit {0}) Ended) → Gives m s d made s' → (s'.tree ≡ s.tree) × (s'.world ≡ s.world)
gives_kept (Some m) s s' d made gives = (ap (λ (z : Sitting). z.tree) gives.1, ap (λ (z : Sitting). z.world) gives.1)
gives_kept None s s' d (Ok done) gives = (ap (λ (z : Sitting). z.tree) gives.1, ap (λ (z : Sitting). z.world) gives.1)
gives_kept None s s' d (Err (ended.Fault fault)) gives = (ap (λ (z : Sitting). z.tree) gives.1, ap (λ (z : Sitting). z.world) gives.1)
gives_kept None s s' d (Err ended.NoMemory) gives = (ap (λ (z : Sitting). z.tree) gives.rest, ap (λ (z : Sitting). z.world) gives.rest)
gives_kept None s s' d (Err (ended.Misused m)) gives = absurd gives

pub event_kept : (s s' : Sitting) (event : Event) (made : Result (Unit {0}) Ended) → EventGives s event made s' → (s'.tree ≡ s.tree) × (s'.world ≡ s.world)
event_kept s s' event made gives = gives_kept (misuse s event) s s' (event_step s event) made gives

pub finish_kept : (s s' : Sitting) (runner : ℕ) (made : Result (Unit {0}) Ended) → FinishGives s runner made s' → (s'.tree ≡ s.tree) × (s'.world ≡ s.world)
finish_kept s s' runner made gives = gives_kept (finish_misuse s runner) s s' (finish_step s runner) made gives

own_gives_kept : (m : Option Misuse) (event : Event) (own : List Event) (s s' : Sitting) (made : Result (Unit {0}) Ended) → OwnGives m event own s made s' →
    (s'.tree ≡ s.tree) × (s'.world ≡ s.world)
own_gives_kept (Some m) event own s s' made gives = (ap (λ (z : Sitting). z.tree) gives.1, ap (λ (z : Sitting). z.world) gives.1)
own_gives_kept None event own s s' made gives = gives_kept None (record s { own = own }) s' (event_step s event) made gives

pub own_kept : (own : List Event) (s s' : Sitting) (made : Result (Unit {0}) Ended) → NextGives own s made s' → (s'.tree ≡ s.tree) × (s'.world ≡ s.world)
own_kept [] s s' made gives = (ap (λ (z : Sitting). z.tree) gives.1, ap (λ (z : Sitting). z.world) gives.1)
own_kept (event ∷ own) s s' made gives = own_gives_kept (misuse s event) event own s s' made gives

-- an event that is refused leaves all as it was
refused_same : (m : Option Misuse) (s s' : Sitting) (d : Stepped) (made : Result (Unit {0}) Ended) (fault : RequestFault) (old new : Out) →
    Gives m s d made s' → Shows made s' (Err (over.Refused fault)) old new → s' ≡ s
refused_same (Some m) s s' d made fault old new gives shows = gives.1
refused_same None s s' d (Ok done) fault old new gives shows = let no : Err (over.Refused fault) ≡ Ok done = shows.0 in absurd cc
refused_same None s s' d (Err (ended.Fault of)) fault old new gives shows = let no : Err (over.Refused fault) ≡ Err over.Faulted = shows.0 in absurd cc
refused_same None s s' d (Err ended.NoMemory) fault old new gives shows = let no : Err (over.Refused fault) ≡ Err (over.Stopped stop.NoMemory) = shows.0 in absurd cc
refused_same None s s' d (Err (ended.Misused m)) fault old new gives shows = absurd gives

pub event_refused : (s s' : Sitting) (event : Event) (made : Result (Unit {0}) Ended) (fault : RequestFault) (old new : Out) →
    EventGives s event made s' → Shows made s' (Err (over.Refused fault)) old new → s' ≡ s
event_refused s s' event made fault old new gives shows = refused_same (misuse s event) s s' (event_step s event) made fault old new gives shows

-- a line that tells a moment was answered
pub moment_part : (s : Sitting) (number : ℕ) (r : Reading) (heard : Heard) (old new : Out) → Wrote (ok_line ∷ []) old new →
    IsPart (Answers At number r s heard) (LinesSaid heard.texts heard.broken (number + 1) r s) old new
moment_part s number r heard old new ok = record { lines = ok_line ∷ []; events = []; wrote = ok; all = λ rest h. (rest, h, refl) }

-- .. or not
pub moment_unanswered : (s : Sitting) (why : Over) (number : ℕ) (r : Reading) (heard : Heard) (old new : Out) → Writes (ok_line ∷ []) (Ok tt) (Err why) old new →
    IsUnread why heard → IsOver why number s (Answers At number r s heard) old new
moment_unanswered s why number r heard old new ok unread =
    let stopped = writes_err (ok_line ∷ []) why old new ok in
    let none : heard ≡ nothing_heard (Some request.End) = subst (λ (o : Over). IsUnread o heard) stopped.1 unread in
    let rest : Said = refuse request.End (number + 1) s in
    subst (λ (o : Over). IsOver o number s (Answers At number r s heard) old new) (sym stopped.1)
    (then_said (ok_line ∷ []) rest, (rest, lines_end heard (number + 1) r s none, refl), first_more stopped.0 old new (ok_line ∷ []) rest.lines stopped.2)

-- ---- The line that says that lines are read

pub ready_part : (s : Sitting) (r : Reading) (heard : Heard) (old new : Out) → Wrote (ready_line s ∷ []) old new →
    IsPart (HeardSaid heard r s) (LinesSaid heard.texts heard.broken 1 r s) old new
ready_part s r heard old new wrote = record { lines = ready_line s ∷ []; events = []; wrote = wrote; all = λ rest h. (rest, h, refl) }

pub ready_over : (s : Sitting) (why : Over) (r : Reading) (heard : Heard) (old new : Out) → Writes (ready_line s ∷ []) (Ok tt) (Err why) old new →
    IsUnread why heard → IsOver why 0 s (HeardSaid heard r s) old new
ready_over s why r heard old new wrote unread =
    let stopped = writes_err (ready_line s ∷ []) why old new wrote in
    let none : heard ≡ nothing_heard (Some request.End) = subst (λ (o : Over). IsUnread o heard) stopped.1 unread in
    let rest : Said = refuse request.End 1 s in
    subst (λ (o : Over). IsOver o 0 s (HeardSaid heard r s) old new) (sym stopped.1)
    (then_said (ready_line s ∷ []) rest, (rest, lines_end heard 1 r s none, refl), first_more stopped.0 old new (ready_line s ∷ []) rest.lines stopped.2)

-- ---- By what a call answers

-- the event of a line, by the answer of the line that says so
pub make_goes_on : (s s' after : Sitting) (event : Event) (made : Result (Unit {0}) Ended) (result : Result (Unit {0}) Over) (r : Reading) (old mid new : Out) →
    EventGives s event made s' → Shows made s' (Ok tt) old mid → Writes (ok_line ∷ []) (Ok tt) result mid new → after ≡ s' →
    OnOk result ((heard : Heard) (number : ℕ) → IsPart (Answers (Make event) number r s heard) (LinesSaid heard.texts heard.broken (number + 1) r after) old new)
make_goes_on s s' after event made (Ok done) r old mid new gives shows ok is = λ heard number.
    subst (λ (z : Sitting). IsPart (Answers (Make event) number r s heard) (LinesSaid heard.texts heard.broken (number + 1) r z) old new) (sym is)
    (event_part s s' event made number r heard old mid new gives shows ok.1)
make_goes_on s s' after event made (Err why) r old mid new gives shows ok is = tt

pub make_over : (s s' after : Sitting) (event : Event) (made : Result (Unit {0}) Ended) (result : Result (Unit {0}) Over) (r : Reading) (old mid new : Out) →
    EventGives s event made s' → Shows made s' (Ok tt) old mid → old.faults ≤ mid.faults → Writes (ok_line ∷ []) (Ok tt) result mid new → after ≡ s' →
    IfErr result (λ why. (heard : Heard) (number : ℕ) → IsUnread why heard → IsOver why number after (Answers (Make event) number r s heard) old new)
make_over s s' after event made (Ok done) r old mid new gives shows count ok is = tt
make_over s s' after event made (Err why) r old mid new gives shows count ok is = λ heard number unread.
    subst (λ (z : Sitting). IsOver why number z (Answers (Make event) number r s heard) old new) (sym is)
    (event_unanswered s s' event made why number r heard old mid new gives shows count ok unread)

pub make_stopped : (s s' after : Sitting) (event : Event) (made : Result (Unit {0}) Ended) (why : Over) (r : Reading) (old new : Out) →
    EventGives s event made s' → Shows made s' (Err why) old new → after ≡ s' →
    (heard : Heard) (number : ℕ) → IsUnread why heard → IsOver why number after (Answers (Make event) number r s heard) old new
make_stopped s s' after event made why r old new gives shows is heard number unread =
    subst (λ (z : Sitting). IsOver why number z (Answers (Make event) number r s heard) old new) (sym is)
    (event_over s s' event made why number r heard old new gives shows unread)

-- the beginning, by the answer of the line that says that lines are read
pub begin_whole : (own : List Event) (s s' after : Sitting) (result : Result (Unit {0}) Over) (r : Reading) (old mid new : Out) →
    ((heard : Heard) → IsPart (Serves own heard r s) (HeardSaid heard r s') old mid) → Writes (ready_line s' ∷ []) (Ok tt) result mid new → after ≡ s' →
    OnOk result ((heard : Heard) → IsPart (Serves own heard r s) (LinesSaid heard.texts heard.broken 1 r after) old new)
begin_whole own s s' after (Ok done) r old mid new part ready is = λ heard.
    subst (λ (z : Sitting). IsPart (Serves own heard r s) (LinesSaid heard.texts heard.broken 1 r z) old new) (sym is)
    (part_then (Serves own heard r s) (HeardSaid heard r s') (LinesSaid heard.texts heard.broken 1 r s') old mid new (part heard)
    (ready_part s' r heard mid new ready.1))
begin_whole own s s' after (Err why) r old mid new part ready is = tt

pub begin_over : (own : List Event) (s s' after : Sitting) (result : Result (Unit {0}) Over) (r : Reading) (old mid new : Out) →
    ((heard : Heard) → IsPart (Serves own heard r s) (HeardSaid heard r s') old mid) → old.faults ≤ mid.faults →
    Writes (ready_line s' ∷ []) (Ok tt) result mid new → after ≡ s' →
    IfErr result (λ why. (heard : Heard) → IsUnread why heard → IsOver why 0 after (Serves own heard r s) old new)
begin_over own s s' after (Ok done) r old mid new part count ready is = tt
begin_over own s s' after (Err why) r old mid new part count ready is = λ heard unread.
    subst (λ (z : Sitting). IsOver why 0 z (Serves own heard r s) old new) (sym is)
    (part_over why 0 s' (Serves own heard r s) (HeardSaid heard r s') old mid new (part heard) count (ready_over s' why r heard mid new ready unread))
