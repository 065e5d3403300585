-- What the next line asks, and what is said to it.
use Rattle.std.proofs.Common.{◌≡◌, ◌∙◌, ◌⊎◌, ◌+◌, ◌≤◌, ℕ, nat_lt, Bool, true, false, List, [], ◌∷◌, ◌++◌, MatchBool, Option, Some, None, Result, Ok, Err, refl, sym, subst, inl, inr, arith}
use Rattle.std.proofs.lemmas.Bool.Decides.{nat_tests}
use Rattle.cli_serve.proofs.Hearing.{after_texts, hears_after, hears_cut, hears_end, hears_long, hears_nothing, hears_some, took_line}
use Rattle.cli_serve.proofs.Parts.{first_none, part_none}
use Rattle.cli_serve.proofs.Saying.{moment_part, moment_unanswered}
use Rattle.cli_serve.specs.declared.over.Over.{Over}
use Rattle.cli_serve.specs.declared.over.Over.TheVariants as over
use Rattle.cli_serve.specs.Serving.{Answers, IsOver, IsPart, IsStop, IsUnread, Out, TookLine, Writes, Wrote}
use Rattle.cli_serve.specs.Taking.{Asked, IsAsked, NoneTaken, Reads}
use Rattle.spec_program.specs.declared.exit.Exit.TheVariants as exit
use Rattle.spec_serve.specs.declared.request.Request.{Request}
use Rattle.spec_serve.specs.declared.request.Request.TheVariants.{At, Finish, Make}
use Rattle.spec_serve.specs.declared.request_fault.RequestFault.TheVariants as request
use Rattle.spec_serve.specs.Requests.{RequestReads}
use Rattle.spec_serve.specs.Served.{Hears}
use Rattle.spec_serve.specs.Talks.{Heard, LineSaid, LinesSaid, Said, finish_all, last_line, nothing_heard, ok_line, refuse}
use Rattle.spec_session.specs.Sessions.{Sitting}
use Rattle.spec_world.specs.declared.world.Event.{Event}
use Rattle.spec_world_file.specs.declared.world_fault.WorldFaultKind.{WorldFaultKind}
use Rattle.spec_world_file.specs.WorldFile.{Reading}
use Rattle.text_lines.specs.declared.stop.TextStop.TheVariants as stop

-- ---- A line

-- what is said to what a line reads as is said to the line
pub reads_said : (text : List ℕ) (heard : Heard) (number : ℕ) (r : Reading) (s : Sitting) (asks : Result (Request × Reading) WorldFaultKind) (said : Said) →
    nat_lt last_line number ≡ false → RequestReads r text asks →
    LineSaid asks number s (λ left after rest. LinesSaid heard.texts heard.broken (number + 1) left after rest) said →
    LinesSaid (text ∷ heard.texts) heard.broken number r s said
reads_said text heard number r s asks said early reads line =
    subst (λ (late : Bool). MatchBool late (said ≡ refuse request.TooMany number s)
    ((other : Result (Request × Reading) WorldFaultKind) × RequestReads r text other
    × LineSaid other number s (λ left after rest. LinesSaid heard.texts heard.broken (number + 1) left after rest) said)) (sym early) (asks, reads, line)

-- .. also what is said to what it asks
pub asked_said : (text : List ℕ) (heard : Heard) (number : ℕ) (r left : Reading) (s : Sitting) (asked : Request) (said : Said) →
    nat_lt last_line number ≡ false → RequestReads r text (Ok (asked, left)) → Answers asked number left s heard said →
    LinesSaid (text ∷ heard.texts) heard.broken number r s said
asked_said text heard number r left s asked said early reads answers = reads_said text heard number r s (Ok (asked, left)) said early reads answers

late_said : (text : List ℕ) (heard : Heard) (number : ℕ) (r : Reading) (s : Sitting) (said : Said) → nat_lt last_line number ≡ true →
    said ≡ refuse request.TooMany number s → LinesSaid (text ∷ heard.texts) heard.broken number r s said
late_said text heard number r s said late is =
    subst (λ (late : Bool). MatchBool late (said ≡ refuse request.TooMany number s)
    ((other : Result (Request × Reading) WorldFaultKind) × RequestReads r text other
    × LineSaid other number s (λ left after rest. LinesSaid heard.texts heard.broken (number + 1) left after rest) said)) (sym late) is

-- a part of what is said to what a line asks is one of what is said to the line
pub asked_part : (text : List ℕ) (heard : Heard) (number : ℕ) (r left : Reading) (s : Sitting) (asked : Request) (Rest : Said → Type 0) (old new : Out) →
    nat_lt last_line number ≡ false → RequestReads r text (Ok (asked, left)) → IsPart (Answers asked number left s heard) Rest old new →
    IsPart (LinesSaid (text ∷ heard.texts) heard.broken number r s) Rest old new
asked_part text heard number r left s asked Rest old new early reads p =
    record {
      lines = p.lines;
      events = p.events;
      wrote = p.wrote;
      all = λ rest h.
          asked_said text heard number r left s asked (record { lines = p.lines ++ rest.lines; events = p.events ++ rest.events; exit = rest.exit }) early reads (p.all rest h);
    }

-- what comes to no line in one way does in a wider one
pub over_wider : (why : Over) (number : ℕ) (s : Sitting) (A B : Said → Type 0) (old new : Out) → ((said : Said) → A said → B said) →
    IsOver why number s A old new → IsOver why number s B old new
over_wider over.Faulted number s A B old new f h = (h.0, f h.0 h.1, h.2, h.3)
over_wider (over.Refused fault) number s A B old new f h =
    record {
      lines = h.lines;
      events = h.events;
      wrote = h.wrote;
      all = λ rest is.
          f (record { lines = h.lines ++ rest.lines; events = h.events ++ rest.events; exit = rest.exit }) (h.all rest is);
    }
over_wider (over.Stopped stop) number s A B old new f h = (h.0, f h.0 h.1, h.2)

pub asked_over : (text : List ℕ) (heard : Heard) (number : ℕ) (r left : Reading) (s after : Sitting) (asked : Request) (why : Over) (old new : Out) →
    nat_lt last_line number ≡ false → RequestReads r text (Ok (asked, left)) → IsOver why number after (Answers asked number left s heard) old new →
    IsOver why number after (LinesSaid (text ∷ heard.texts) heard.broken number r s) old new
asked_over text heard number r left s after asked why old new early reads h =
    over_wider why number after (Answers asked number left s heard) (LinesSaid (text ∷ heard.texts) heard.broken number r s) old new
    (λ said answers. asked_said text heard number r left s asked said early reads answers) h

-- ---- What the next line asks

-- a line was taken that asks this
pub record LineAsks (ahead : Option (List ℕ)) (number : ℕ) (r : Reading) (asked : Request) (rest : Option (List ℕ)) (left : Reading) : Type 0 where
  pub text : List ℕ
  pub took : TookLine ahead text rest
  pub early : nat_lt last_line number ≡ false
  pub reads : RequestReads r text (Ok (asked, left))

in_time : (late : Bool) (number : ℕ) (text : List ℕ) (r left : Reading) (asked : Request) →
    MatchBool late ((Ok asked ≡ Err (over.Refused request.TooMany)) × (left ≡ r)) (Reads text r (Ok asked) left) →
    (late ≡ false) × RequestReads r text (Ok (asked, left))
in_time true number text r left asked h = let no : Ok asked ≡ Err (over.Refused request.TooMany) = h.0 in absurd cc
in_time false number text r left asked h = (refl, h)

line_asks : (ahead : Option (List ℕ)) (number : ℕ) (r : Reading) (asked : Request) (rest : Option (List ℕ)) (left : Reading) →
    (text : List ℕ) × TookLine ahead text rest × Asked number text r (Ok asked) left → LineAsks ahead number r asked rest left
line_asks ahead number r asked rest left h =
    let k = in_time (nat_lt last_line number) number h.0 r left asked h.2 in
    record { text = h.0; took = h.1; early = k.0; reads = k.1 }

-- what is asked that is no finish is asked by a line
pub moment_asked : (ahead : Option (List ℕ)) (Failed : Type 0) (number : ℕ) (r : Reading) (rest : Option (List ℕ)) (left : Reading) →
    IsAsked ahead Failed number r (Ok At) rest left → LineAsks ahead number r At rest left
moment_asked ahead Failed number r rest left h = elim h [ inl line ↦ line_asks ahead number r At rest left line | inr none ↦ absurd none.0 ]

pub event_asked : (ahead : Option (List ℕ)) (Failed : Type 0) (number : ℕ) (r : Reading) (event : Event) (rest : Option (List ℕ)) (left : Reading) →
    IsAsked ahead Failed number r (Ok (Make event)) rest left → LineAsks ahead number r (Make event) rest left
event_asked ahead Failed number r event rest left h = elim h [ inl line ↦ line_asks ahead number r (Make event) rest left line | inr none ↦ absurd none.0 ]

-- a finish is asked by a line or by the end of the input
pub finish_asked : (ahead : Option (List ℕ)) (Failed : Type 0) (number : ℕ) (r : Reading) (rest : Option (List ℕ)) (left : Reading) (s : Sitting) →
    IsAsked ahead Failed number r (Ok Finish) rest left →
    (heard : Heard) × Hears ahead ⊥ heard × LinesSaid heard.texts heard.broken number r s (finish_all exit.Done s)
finish_asked ahead Failed number r rest left s h =
    elim h [
      | inl line ↦
          let asks = line_asks ahead number r Finish rest left line in
          let more = hears_some rest ⊥ in (
            after_texts (asks.text ∷ []) more.0,
            hears_after ahead rest (asks.text ∷ []) ⊥ more.0 (took_line ahead rest asks.text asks.took) more.1,
            asked_said asks.text more.0 number r left s Finish (finish_all exit.Done s) asks.early asks.reads refl,
          )
      | inr none ↦ (nothing_heard None, hears_end ahead ⊥ none.0, refl)
    ]

-- ---- Where nothing is asked

-- what is heard where nothing is asked, and what is said to it
abbrev Unasked : Option (List ℕ) → Type 0 → ℕ → Reading → Over → Sitting → Out → Type 0
Unasked ahead Failed number r why s o =
    (heard : Heard) × Hears ahead (Failed ⊎ IsStop why) heard × IsOver why number s (LinesSaid heard.texts heard.broken number r s) o o

-- nothing more is heard where memory has run out
unasked_memory : (ahead : Option (List ℕ)) (Failed : Type 0) (number : ℕ) (r : Reading) (s : Sitting) (o : Out) →
    Unasked ahead Failed number r (over.Stopped stop.NoMemory) s o
unasked_memory ahead Failed number r s o = (
  nothing_heard (Some request.End),
  hears_nothing ahead (Failed ⊎ Unit {0}) (inr tt),
  (refuse request.End number s, refl, first_none o (refuse request.End number s).lines),
)

unasked_late : (ahead : Option (List ℕ)) (Failed : Type 0) (number : ℕ) (text : List ℕ) (r : Reading) (rest : Option (List ℕ)) (s : Sitting) (o : Out) →
    TookLine ahead text rest → nat_lt last_line number ≡ true → Unasked ahead Failed number r (over.Refused request.TooMany) s o
unasked_late ahead Failed number text r rest s o took late =
    let more = hears_some rest (Failed ⊎ ⊥) in (
      after_texts (text ∷ []) more.0,
      hears_after ahead rest (text ∷ []) (Failed ⊎ ⊥) more.0 (took_line ahead rest text took) more.1,
      part_none (LinesSaid (text ∷ more.0.texts) more.0.broken number r s) (λ said. said ≡ refuse request.TooMany number s) o
          (λ said is. late_said text more.0 number r s said late is),
    )

unasked_line : (ahead : Option (List ℕ)) (Failed : Type 0) (number : ℕ) (text : List ℕ) (r : Reading) (kind : WorldFaultKind) (rest : Option (List ℕ)) (s : Sitting) (o : Out) →
    TookLine ahead text rest → nat_lt last_line number ≡ false → RequestReads r text (Err kind) → Unasked ahead Failed number r (over.Refused (request.Line kind)) s o
unasked_line ahead Failed number text r kind rest s o took early reads =
    let more = hears_some rest (Failed ⊎ ⊥) in (
      after_texts (text ∷ []) more.0,
      hears_after ahead rest (text ∷ []) (Failed ⊎ ⊥) more.0 (took_line ahead rest text took) more.1,
      part_none (LinesSaid (text ∷ more.0.texts) more.0.broken number r s) (λ said. said ≡ refuse (request.Line kind) number s) o
          (λ said is. reads_said text more.0 number r s (Err kind) said early reads is),
    )

unasked_reads : (ahead : Option (List ℕ)) (Failed : Type 0) (number : ℕ) (text : List ℕ) (r : Reading) (why : Over) (rest : Option (List ℕ)) (left : Reading) (s : Sitting) (o : Out) →
    TookLine ahead text rest → nat_lt last_line number ≡ false → Reads text r (Err why) left → Unasked ahead Failed number r why s o
unasked_reads ahead Failed number text r (over.Refused (request.Line kind)) rest left s o took early reads =
    unasked_line ahead Failed number text r kind rest s o took early reads
unasked_reads ahead Failed number text r (over.Stopped stop.NoMemory) rest left s o took early reads = unasked_memory ahead Failed number r s o
unasked_reads ahead Failed number text r why rest left s o took early reads = absurd reads

abbrev as_asked : Over → Result Request Over
as_asked why = Err why

unasked_by : (late : Bool) (ahead : Option (List ℕ)) (Failed : Type 0) (number : ℕ) (text : List ℕ) (r : Reading) (why : Over) (rest : Option (List ℕ)) (left : Reading) (s : Sitting) (o : Out) →
    nat_lt last_line number ≡ late → TookLine ahead text rest →
    MatchBool late ((as_asked why ≡ as_asked (over.Refused request.TooMany)) × (left ≡ r)) (Reads text r (Err why) left) → Unasked ahead Failed number r why s o
unasked_by true ahead Failed number text r why rest left s o is took h =
    let err : as_asked why ≡ as_asked (over.Refused request.TooMany) = h.0 in
    let why_is : why ≡ over.Refused request.TooMany = cc in
    subst (λ (w : Over). Unasked ahead Failed number r w s o) (sym why_is) (unasked_late ahead Failed number text r rest s o took is)
unasked_by false ahead Failed number text r why rest left s o is took h = unasked_reads ahead Failed number text r why rest left s o took is h

untaken_end : (ahead : Option (List ℕ)) (Failed : Type 0) (number : ℕ) (r : Reading) (s : Sitting) (o : Out) →
    Hears ahead (Failed ⊎ ⊥) (nothing_heard (Some request.End)) → Unasked ahead Failed number r (over.Refused request.End) s o
untaken_end ahead Failed number r s o hears = (
  nothing_heard (Some request.End),
  hears,
  part_none (λ said. said ≡ refuse request.End number s) (λ said. said ≡ refuse request.End number s) o (λ said is. is),
)

untaken_over : (ahead : Option (List ℕ)) (Failed : Type 0) (number : ℕ) (r : Reading) (why : Over) (s : Sitting) (o : Out) →
    NoneTaken ahead Failed (Err why) → Unasked ahead Failed number r why s o
untaken_over ahead Failed number r (over.Refused request.End) s o none =
    elim none [
      | inl comes ↦ untaken_end ahead Failed number r s o (hears_cut ahead (Failed ⊎ ⊥) comes)
      | inr failed ↦ untaken_end ahead Failed number r s o (hears_nothing ahead (Failed ⊎ ⊥) (inl failed))
    ]
untaken_over ahead Failed number r (over.Refused request.TooLong) s o none = (
  nothing_heard (Some request.TooLong),
  hears_long ahead (Failed ⊎ ⊥) none,
  part_none (λ said. said ≡ refuse request.TooLong number s) (λ said. said ≡ refuse request.TooLong number s) o (λ said is. is),
)
untaken_over ahead Failed number r (over.Stopped stop.NoMemory) s o none = unasked_memory ahead Failed number r s o
untaken_over ahead Failed number r why s o none = absurd none

-- where nothing is asked, this is heard, and said to it
pub unasked : (ahead : Option (List ℕ)) (Failed : Type 0) (number : ℕ) (r : Reading) (why : Over) (rest : Option (List ℕ)) (left : Reading) (s : Sitting) (o : Out) →
    IsAsked ahead Failed number r (Err why) rest left →
    (heard : Heard) × Hears ahead (Failed ⊎ IsStop why) heard × IsOver why number s (LinesSaid heard.texts heard.broken number r s) o o
unasked ahead Failed number r why rest left s o h =
    elim h [
      | inl line ↦ unasked_by (nat_lt last_line number) ahead Failed number line.0 r why rest left s o refl line.1 line.2
      | inr none ↦ untaken_over ahead Failed number r why s o none.0
    ]

-- ---- Where a line is not answered

-- what is heard after a line that is not answered
abbrev after_line : Over → Option (List ℕ) → Type 0 → Type 0
after_line why rest MayFail = (heard : Heard) × Hears rest MayFail heard × IsUnread why heard

-- .. nothing, where no more is written
pub heard_after : (why : Over) (rest : Option (List ℕ)) (Failed : Type 0) → after_line why rest (Failed ⊎ IsStop why)
heard_after over.Faulted rest Failed = let more = hears_some rest (Failed ⊎ ⊥) in (more.0, more.1, tt)
heard_after (over.Refused fault) rest Failed = let more = hears_some rest (Failed ⊎ ⊥) in (more.0, more.1, tt)
heard_after (over.Stopped stop) rest Failed = (nothing_heard (Some request.End), hears_nothing rest (Failed ⊎ Unit {0}) (inr tt), refl)

-- a line that is not answered is heard, and this is said to it
pub unanswered : (ahead rest : Option (List ℕ)) (Failed : Type 0) (number : ℕ) (r left : Reading) (s after : Sitting) (asked : Request) (why : Over) (old new : Out) →
    LineAsks ahead number r asked rest left →
    ((heard : Heard) → IsUnread why heard → IsOver why number after (Answers asked number left s heard) old new) →
    (heard : Heard) × Hears ahead (Failed ⊎ IsStop why) heard × IsOver why number after (LinesSaid heard.texts heard.broken number r s) old new
unanswered ahead rest Failed number r left s after asked why old new asks h =
    let more = heard_after why rest Failed in (
      after_texts (asks.text ∷ []) more.0,
      hears_after ahead rest (asks.text ∷ []) (Failed ⊎ IsStop why) more.0 (took_line ahead rest asks.text asks.took) more.1,
      asked_over asks.text more.0 number r left s after asked why old new asks.early asks.reads (h more.0 more.2),
    )

-- ---- By what a call answers

-- nothing is asked, in the session that a call has left
pub unasked_left : (ahead : Option (List ℕ)) (Failed : Type 0) (number : ℕ) (r : Reading) (why : Over) (rest : Option (List ℕ)) (left : Reading) (s s' : Sitting) (o : Out) →
    IsAsked ahead Failed number r (Err why) rest left → s' ≡ s →
    (heard : Heard) × Hears ahead (Failed ⊎ IsStop why) heard × IsOver why number s' (LinesSaid heard.texts heard.broken number r s) o o
unasked_left ahead Failed number r why rest left s s' o asked is =
    let k = unasked ahead Failed number r why rest left s o asked in
    (k.0, k.1, subst (λ (z : Sitting). IsOver why number z (LinesSaid k.0.texts k.0.broken number r s) o o) (sym is) k.2)

-- the finish is asked
pub finish_left : (ahead : Option (List ℕ)) (Failed : Type 0) (number : ℕ) (r : Reading) (rest : Option (List ℕ)) (left : Reading) (s s' : Sitting) (written : Option (List ℕ)) →
    IsAsked ahead Failed number r (Ok Finish) rest left → s' ≡ s →
    (heard : Heard) × Hears ahead ⊥ heard × LinesSaid heard.texts heard.broken number r s (finish_all exit.Done s') × (written ≡ written)
finish_left ahead Failed number r rest left s s' written asked is =
    let k = finish_asked ahead Failed number r rest left s asked in
    (k.0, k.1, subst (λ (z : Sitting). LinesSaid k.0.texts k.0.broken number r s (finish_all exit.Done z)) (sym is) k.2, refl)

-- a line is answered, by what was said to what it asks
pub line_goes_on : (ahead rest : Option (List ℕ)) (number : ℕ) (r left after : Reading) (s s' : Sitting) (asked : Request) (old new : Out) →
    LineAsks ahead number r asked rest left → after ≡ left →
    ((heard : Heard) → IsPart (Answers asked number left s heard) (LinesSaid heard.texts heard.broken (number + 1) left s') old new) →
    (text : List ℕ) × TookLine ahead text rest
    × ((heard : Heard) → IsPart (LinesSaid (text ∷ heard.texts) heard.broken number r s) (LinesSaid heard.texts heard.broken (number + 1) after s') old new)
line_goes_on ahead rest number r left after s s' asked old new asks is part = (
  asks.text,
  asks.took,
  λ heard.
      subst (λ (z : Reading). IsPart (LinesSaid (asks.text ∷ heard.texts) heard.broken number r s) (LinesSaid heard.texts heard.broken (number + 1) z s') old new) (sym is)
      (asked_part asks.text heard number r left s asked (LinesSaid heard.texts heard.broken (number + 1) left s') old new asks.early asks.reads (part heard)),
)

-- the number of a line that asks something is that of one that may be taken
pub line_counted : (ahead rest : Option (List ℕ)) (number : ℕ) (r left : Reading) (asked : Request) → LineAsks ahead number r asked rest left → number ≤ 4294967295
line_counted ahead rest number r left asked asks = let early : nat_lt 4294967295 number ≡ false = asks.early in grind (arith, nat_tests)

pub moment_goes_on : (ahead : Option (List ℕ)) (Failed : Type 0) (number : ℕ) (r : Reading) (rest : Option (List ℕ)) (left after : Reading) (s mid s' : Sitting) (old new : Out) →
    IsAsked ahead Failed number r (Ok At) rest left → mid ≡ s → after ≡ left → s' ≡ mid → Wrote (ok_line ∷ []) old new →
    (text : List ℕ) × TookLine ahead text rest
    × ((heard : Heard) → IsPart (LinesSaid (text ∷ heard.texts) heard.broken number r s) (LinesSaid heard.texts heard.broken (number + 1) after s') old new)
moment_goes_on ahead Failed number r rest left after s mid s' old new asked same is same' ok =
    line_goes_on ahead rest number r left after s s' At old new (moment_asked ahead Failed number r rest left asked) is
    (λ heard. subst (λ (z : Sitting). IsPart (Answers At number left s heard) (LinesSaid heard.texts heard.broken (number + 1) left z) old new) (sym (same' ∙ same))
    (moment_part s number left heard old new ok))

pub moment_over : (ahead : Option (List ℕ)) (Failed : Type 0) (number : ℕ) (r : Reading) (rest : Option (List ℕ)) (left : Reading) (s mid s' : Sitting) (why : Over) (old new : Out) →
    IsAsked ahead Failed number r (Ok At) rest left → mid ≡ s → s' ≡ mid → Writes (ok_line ∷ []) (Ok tt) (Err why) old new →
    (heard : Heard) × Hears ahead (Failed ⊎ IsStop why) heard × IsOver why number s' (LinesSaid heard.texts heard.broken number r s) old new
moment_over ahead Failed number r rest left s mid s' why old new asked same same' ok =
    unanswered ahead rest Failed number r left s s' At why old new (moment_asked ahead Failed number r rest left asked)
    (λ heard unread. subst (λ (z : Sitting). IsOver why number z (Answers At number left s heard) old new) (sym (same' ∙ same))
    (moment_unanswered s why number left heard old new ok unread))

pub event_goes_on : (ahead : Option (List ℕ)) (Failed : Type 0) (number : ℕ) (r : Reading) (event : Event) (rest : Option (List ℕ)) (left after : Reading) (s mid s' : Sitting) (old new : Out) →
    IsAsked ahead Failed number r (Ok (Make event)) rest left → mid ≡ s → after ≡ left →
    ((heard : Heard) (n : ℕ) → IsPart (Answers (Make event) n left mid heard) (LinesSaid heard.texts heard.broken (n + 1) left s') old new) →
    (text : List ℕ) × TookLine ahead text rest
    × ((heard : Heard) → IsPart (LinesSaid (text ∷ heard.texts) heard.broken number r s) (LinesSaid heard.texts heard.broken (number + 1) after s') old new)
event_goes_on ahead Failed number r event rest left after s mid s' old new asked same is made =
    line_goes_on ahead rest number r left after s s' (Make event) old new (event_asked ahead Failed number r event rest left asked) is
    (λ heard. subst (λ (z : Sitting). IsPart (Answers (Make event) number left z heard) (LinesSaid heard.texts heard.broken (number + 1) left s') old new) same (made heard number))

pub event_unmade : (ahead : Option (List ℕ)) (Failed : Type 0) (number : ℕ) (r : Reading) (event : Event) (rest : Option (List ℕ)) (left : Reading) (s mid s' : Sitting) (why : Over) (old new : Out) →
    IsAsked ahead Failed number r (Ok (Make event)) rest left → mid ≡ s →
    ((heard : Heard) (n : ℕ) → IsUnread why heard → IsOver why n s' (Answers (Make event) n left mid heard) old new) →
    (heard : Heard) × Hears ahead (Failed ⊎ IsStop why) heard × IsOver why number s' (LinesSaid heard.texts heard.broken number r s) old new
event_unmade ahead Failed number r event rest left s mid s' why old new asked same made =
    unanswered ahead rest Failed number r left s s' (Make event) why old new (event_asked ahead Failed number r event rest left asked)
    (λ heard unread. subst (λ (z : Sitting). IsOver why number s' (Answers (Make event) number left z heard) old new) same (made heard number unread))

pub moment_counted : (ahead : Option (List ℕ)) (Failed : Type 0) (number : ℕ) (r : Reading) (rest : Option (List ℕ)) (left : Reading) →
    IsAsked ahead Failed number r (Ok At) rest left → number ≤ 4294967295
moment_counted ahead Failed number r rest left asked = line_counted ahead rest number r left At (moment_asked ahead Failed number r rest left asked)

pub event_counted : (ahead : Option (List ℕ)) (Failed : Type 0) (number : ℕ) (r : Reading) (event : Event) (rest : Option (List ℕ)) (left : Reading) →
    IsAsked ahead Failed number r (Ok (Make event)) rest left → number ≤ 4294967295
event_counted ahead Failed number r event rest left asked = line_counted ahead rest number r left (Make event) (event_asked ahead Failed number r event rest left asked)
