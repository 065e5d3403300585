-- The world's own events, which are made first.
use Rattle.std.proofs.Common.{◌≡◌, ◌<◌, ◌≤◌, ℕ, true, List, [], ◌∷◌, ◌++◌, length, Option, Some, None, Result, Ok, Err, refl, sym, ap, subst, append-nil, arith}
use Rattle.cli_serve.proofs.Parts.{part_over, part_then}
use Rattle.cli_serve.proofs.Saying.{lines_end, shown_ok, step_over, step_part}
use Rattle.cli_serve.specs.declared.over.Over.{Over}
use Rattle.cli_serve.specs.declared.over.Over.TheVariants as over
use Rattle.cli_serve.specs.Serving.{IsOver, IsPart, IsStop, IsUnread, Out, Shows, TakesAll, Wrote, last_lines}
use Rattle.spec_program.specs.declared.exit.Exit.TheVariants as exit
use Rattle.spec_run.specs.declared.fault.RunFault.{RunFault}
use Rattle.spec_serve.specs.declared.request_fault.RequestFault.{RequestFault}
use Rattle.spec_serve.specs.declared.request_fault.RequestFault.TheVariants as request
use Rattle.spec_serve.specs.Talks.{Heard, HeardSaid, Said, Serves, StepSaid, after_event, block_lines, nothing_heard, ready_line, refuse, then_said}
use Rattle.spec_session.specs.declared.ended.Ended.{Ended}
use Rattle.spec_session.specs.declared.ended.Ended.TheVariants as ended
use Rattle.spec_session.specs.declared.ended.Misuse.{Misuse}
use Rattle.spec_session.specs.declared.ended.Misuse.TheVariants as misuses
use Rattle.spec_session.specs.Events.{Leaves, NextGives, OwnGives, after_step, event_step, misuse}
use Rattle.spec_session.specs.Sessions.{Sitting}
use Rattle.spec_world.specs.declared.world.Event.{Event}
use Rattle.spec_world_file.specs.WorldFile.{Reading}
use Rattle.text_lines.specs.declared.stop.TextStop.TheVariants as stop

-- ---- What may be said

step_some : (fault : Option RunFault) (event : Event) (block lines : List (List ℕ)) (Rest : Said → Type 0) (rest : Said) → Rest rest →
    (said : Said) × StepSaid fault event block lines Rest said
step_some None event block lines Rest rest h = (after_event event (block ++ lines) rest, (rest, h, refl))
step_some (Some fault) event block lines Rest rest h = (record { lines = block; events = event ∷ []; exit = exit.Fault }, refl)

-- where nothing is heard something may be said
serves_some : (own : List Event) (heard : Heard) (r : Reading) (s : Sitting) → heard ≡ nothing_heard (Some request.End) → (said : Said) × Serves own heard r s said
serves_some [] heard r s none =
    (then_said (ready_line s ∷ []) (refuse request.End 1 s), (refuse request.End 1 s, lines_end heard 1 r s none, refl))
serves_some (event ∷ own) heard r s none =
    let s' : Sitting = record s { own = own } in
    let after : Sitting = after_step s' (event_step s' event) true in
    let more = serves_some own heard r after none in
    step_some (event_step s' event).fault event (block_lines s' (event_step s' event)) [] (Serves own heard r after) more.0 more.1

unread_stop : (why : Over) (heard : Heard) → IsUnread why heard → IsStop why → heard ≡ nothing_heard (Some request.End)
unread_stop over.Faulted heard unread never = absurd never
unread_stop (over.Refused fault) heard unread never = absurd never
unread_stop (over.Stopped stop) heard unread stopped = unread

-- ---- The next of the own events

-- the next one was made
record Made (own : List Event) (s after : Sitting) : Type 0 where
  event : Event
  rest : List Event
  is : own ≡ event ∷ rest
  none : (event_step s event).fault ≡ None
  after_is : after ≡ after_step (record s { own = rest }) (event_step s event) true
  takes : TakesAll rest after

own_leaves : (event : Event) (own : List Event) (s after : Sitting) (made : Result (Unit {0}) Ended) → misuse s event ≡ None →
    NextGives (event ∷ own) s made after → Leaves (record s { own = own }) (event_step s event) made after
own_leaves event own s after made none gives = subst (λ (m : Option Misuse). OwnGives m event own s made after) none gives

next_made : (own : List Event) (s after : Sitting) → TakesAll own s → NextGives own s (Ok tt) after → Made own s after
next_made [] s after takes gives = let no : Ok tt ≡ Err (ended.Misused misuses.NoEvent) = gives.0 in absurd cc
next_made (event ∷ own) s after takes gives =
    let leaves : Leaves (record s { own = own }) (event_step s event) (Ok tt) after = own_leaves event own s after (Ok tt) takes.0 gives in
    record {
      event = event;
      rest = own;
      is = refl;
      none = leaves.0;
      after_is = leaves.1;
      takes = subst (λ (z : Sitting). TakesAll own z) (sym leaves.1) takes.1;
    }

made_by : (own : List Event) (s after : Sitting) (made : Result (Unit {0}) Ended) (old new : Out) → TakesAll own s → NextGives own s made after →
    Shows made after (Ok tt) old new → Made own s after
made_by own s after made old new takes gives shows =
    next_made own s after takes (subst (λ (r : Result (Unit {0}) Ended). NextGives own s r after) (shown_ok made after old new shows).0 gives)

part_from : (event : Event) (rest : List Event) (s after : Sitting) (heard : Heard) (r : Reading) (old new : Out) →
    (event_step s event).fault ≡ None → after ≡ after_step (record s { own = rest }) (event_step s event) true → Wrote (last_lines after) old new →
    IsPart (Serves (event ∷ rest) heard r s) (Serves after.own heard r after) old new
part_from event rest s after heard r old new none is wrote =
    let s' : Sitting = record s { own = rest } in
    let left : Sitting = after_step s' (event_step s event) true in
    let block : List (List ℕ) = block_lines s' (event_step s event) in
    let wrote' : Wrote block old new = subst (λ (z : Sitting). Wrote (last_lines z) old new) is wrote in
    subst (λ (z : Sitting). IsPart (Serves (event ∷ rest) heard r s) (Serves z.own heard r z) old new) (sym is)
    (step_part (event_step s event).fault event block [] (Serves rest heard r left) old new none
    (subst (λ (z : List (List ℕ)). Wrote z old new) (sym (append-nil block)) wrote'))

-- its block was shown
pub own_part : (own : List Event) (s after : Sitting) (made : Result (Unit {0}) Ended) (heard : Heard) (r : Reading) (old new : Out) →
    TakesAll own s → NextGives own s made after → Shows made after (Ok tt) old new →
    IsPart (Serves own heard r s) (Serves after.own heard r after) old new
own_part own s after made heard r old new takes gives shows =
    let m = made_by own s after made old new takes gives shows in
    subst (λ (z : List Event). IsPart (Serves z heard r s) (Serves after.own heard r after) old new) (sym m.is)
    (part_from m.event m.rest s after heard r old new m.none m.after_is (shown_ok made after old new shows).1)

-- what is left of them, and of the session
pub record IsNext (own : List Event) (s after : Sitting) : Type 0 where
  pub takes : TakesAll after.own after
  pub fewer : length after.own < length own
  pub usable : after.usable ≡ true
  pub tree : after.tree ≡ s.tree
  pub world : after.world ≡ s.world

pub own_next : (own : List Event) (s after : Sitting) (made : Result (Unit {0}) Ended) (old new : Out) →
    TakesAll own s → NextGives own s made after → Shows made after (Ok tt) old new → IsNext own s after
own_next own s after made old new takes gives shows =
    let m = made_by own s after made old new takes gives shows in
    let own_is : after.own ≡ m.rest = ap (λ (z : Sitting). z.own) m.after_is in
    let before : length own ≡ length (m.event ∷ m.rest) = ap length m.is in
    let left : length after.own ≡ length m.rest = ap length own_is in
    record {
      takes = subst (λ (z : List Event). TakesAll z after) (sym own_is) m.takes;
      fewer = omega (arith, before, left);
      usable = ap (λ (z : Sitting). z.usable) m.after_is;
      tree = ap (λ (z : Sitting). z.tree) m.after_is;
      world = ap (λ (z : Sitting). z.world) m.after_is;
    }

-- .. or not, or it was not made
pub own_over : (own : List Event) (s after : Sitting) (made : Result (Unit {0}) Ended) (why : Over) (heard : Heard) (r : Reading) (old new : Out) →
    TakesAll own s → NextGives own s made after → (made ≡ Err (ended.Misused misuses.NoEvent) → ⊥) → Shows made after (Err why) old new →
    IsUnread why heard → IsOver why 0 after (Serves own heard r s) old new
own_over [] s after made why heard r old new takes gives some shows unread = absurd (some gives.0)
own_over (event ∷ own) s after made why heard r old new takes gives some shows unread =
    let s' : Sitting = record s { own = own } in
    let left : Sitting = after_step s' (event_step s event) true in
    step_over s' after after event [] (Serves own heard r left) made why 0 old new (own_leaves event own s after made takes.0 gives) shows
    (λ stopped. serves_some own heard r left (unread_stop why heard unread stopped))

-- none is left
pub own_none : (own : List Event) (s after : Sitting) → TakesAll own s → NextGives own s (Err (ended.Misused misuses.NoEvent)) after → (own ≡ []) × (after ≡ s)
own_none [] s after takes gives = (refl, gives.1)
own_none (event ∷ own) s after takes gives = absurd (own_leaves event own s after (Err (ended.Misused misuses.NoEvent)) takes.0 gives)

unrefused : (s after : Sitting) (event : Event) (made : Result (Unit {0}) Ended) (fault : RequestFault) (old new : Out) →
    Leaves s (event_step s event) made after → Shows made after (Err (over.Refused fault)) old new → ⊥
unrefused s after event (Ok done) fault old new leaves shows = let no : Err (over.Refused fault) ≡ Ok done = shows.0 in cc
unrefused s after event (Err (ended.Fault of)) fault old new leaves shows = let no : Err (over.Refused fault) ≡ Err over.Faulted = shows.0 in cc
unrefused s after event (Err ended.NoMemory) fault old new leaves shows = let no : Err (over.Refused fault) ≡ Err (over.Stopped stop.NoMemory) = shows.0 in cc
unrefused s after event (Err (ended.Misused misuse)) fault old new leaves shows = leaves

-- no own event is refused
pub own_unrefused : (own : List Event) (s after : Sitting) (made : Result (Unit {0}) Ended) (fault : RequestFault) (old new : Out) → TakesAll own s → NextGives own s made after →
    (made ≡ Err (ended.Misused misuses.NoEvent) → ⊥) → Shows made after (Err (over.Refused fault)) old new → ⊥
own_unrefused [] s after made fault old new takes gives some shows = some gives.0
own_unrefused (event ∷ own) s after made fault old new takes gives some shows =
    unrefused (record s { own = own }) after event made fault old new (own_leaves event own s after made takes.0 gives) shows

-- where none is left, what is said of the session follows
pub own_finished : (own : List Event) (s after : Sitting) (Whole : Said → Type 0) (heard : Heard) (r : Reading) (old new : Out) → TakesAll own s →
    NextGives own s (Err (ended.Misused misuses.NoEvent)) after → IsPart Whole (Serves own heard r s) old new → IsPart Whole (HeardSaid heard r after) old new
own_finished own s after Whole heard r old new takes gives part =
    let k = own_none own s after takes gives in
    let part' : IsPart Whole (HeardSaid heard r s) old new = subst (λ (z : List Event). IsPart Whole (Serves z heard r s) old new) k.0 part in
    subst (λ (z : Sitting). IsPart Whole (HeardSaid heard r z) old new) (sym k.1) part'

-- the events so far, and the next one that was not shown
pub own_part_over : (own : List Event) (s after final : Sitting) (made : Result (Unit {0}) Ended) (why : Over) (Whole : Said → Type 0) (heard : Heard) (r : Reading) (old mid new : Out) →
    TakesAll own s → NextGives own s made after → (made ≡ Err (ended.Misused misuses.NoEvent) → ⊥) → Shows made after (Err why) mid new → IsUnread why heard →
    IsPart Whole (Serves own heard r s) old mid → old.faults ≤ mid.faults → final ≡ after → IsOver why 0 final Whole old new
own_part_over own s after final made why Whole heard r old mid new takes gives some shows unread part count is =
    subst (λ (z : Sitting). IsOver why 0 z Whole old new) (sym is)
    (part_over why 0 after Whole (Serves own heard r s) old mid new part count (own_over own s after made why heard r mid new takes gives some shows unread))

-- the events so far, and the next one that was shown
pub own_part_more : (own : List Event) (s after final : Sitting) (made : Result (Unit {0}) Ended) (Whole : Said → Type 0) (heard : Heard) (r : Reading) (old mid new : Out) →
    TakesAll own s → NextGives own s made after → Shows made after (Ok tt) mid new →
    IsPart Whole (Serves own heard r s) old mid → final ≡ after → IsPart Whole (Serves final.own heard r final) old new
own_part_more own s after final made Whole heard r old mid new takes gives shows part is =
    subst (λ (z : Sitting). IsPart Whole (Serves z.own heard r z) old new) (sym is)
    (part_then Whole (Serves own heard r s) (Serves after.own heard r after) old mid new part (own_part own s after made heard r mid new takes gives shows))

pub next_left : (own : List Event) (s after final : Sitting) (made : Result (Unit {0}) Ended) (old new : Out) →
    TakesAll own s → NextGives own s made after → Shows made after (Ok tt) old new → final ≡ after → IsNext own s final
next_left own s after final made old new takes gives shows is =
    subst (λ (z : Sitting). IsNext own s z) (sym is) (own_next own s after made old new takes gives shows)
