-- The finish of the runners, one after the other.
use Rattle.std.proofs.Common.{◌≡◌, ◌∙◌, ◌⊎◌, ◌+◌, ◌-◌, ◌<◌, ◌≤◌, ℕ, suc, nat_le, Bool, true, false, ◌&&◌, List, [], ◌++◌, Option, None, Result, Ok, Err, refl, sym, ap, subst, inl, inr, append-nil, arith}
use Rattle.std.specs.Option.{option_or}
use Rattle.std.proofs.lemmas.Bool.Decides.{nat_tests}
use Rattle.cli_serve.proofs.Owned.{both_true}
use Rattle.cli_serve.proofs.Parts.{first_after, first_more, first_none, part_none, part_then, part_weaker, wrote_then}
use Rattle.cli_serve.proofs.Saying.{shown_ok}
use Rattle.cli_serve.specs.declared.over.Over.{Over}
use Rattle.cli_serve.specs.declared.over.Over.TheVariants as over
use Rattle.cli_serve.specs.Serving.{FinishOver, HasSaid, IsPart, Out, Shows, Wrote, WroteFirst, last_lines, stopped_exit, unfinished_exit}
use Rattle.spec_program.specs.declared.exit.Exit.{Exit}
use Rattle.spec_program.specs.declared.exit.Exit.TheVariants as exit
use Rattle.spec_run.specs.declared.fault.RunFault.{RunFault}
use Rattle.spec_run.specs.Run.{Stepped}
use Rattle.spec_serve.specs.Talks.{Said, block_lines, by_fault, faulted, finish_all, finishes, only, then_said}
use Rattle.spec_session.specs.declared.ended.Ended.{Ended}
use Rattle.spec_session.specs.declared.ended.Ended.TheVariants as ended
use Rattle.spec_session.specs.declared.ended.Misuse.{Misuse}
use Rattle.spec_session.specs.declared.ended.Misuse.TheVariants as misuses
use Rattle.spec_session.specs.Events.{FinishGives, Gives, Leaves, after_step, finish_misuse, finish_step, unless}
use Rattle.spec_session.specs.Sessions.{Sitting}
use Rattle.spec_world.specs.declared.world.World.{World}
use Rattle.text_lines.specs.declared.stop.TextStop.{TextStop}
use Rattle.text_lines.specs.declared.stop.TextStop.TheVariants as stop

-- ---- One runner

-- the finish of a runner that is there is taken
taken : (s : Sitting) (runner : ℕ) → s.usable ≡ true → 1 ≤ runner → runner ≤ s.world.runners → finish_misuse s runner ≡ None
taken s runner usable first last =
    let from : nat_le 1 runner ≡ true = grind (arith, nat_tests) in
    let to : nat_le runner s.world.runners ≡ true = grind (arith, nat_tests) in
    ap (λ (b : Bool). option_or (unless b misuses.Over) (unless (nat_le 1 runner && nat_le runner s.world.runners) misuses.NoRunner)) usable
    ∙ ap (λ (b : Bool). unless b misuses.NoRunner) (both_true (nat_le 1 runner) (nat_le runner s.world.runners) from to)

pub finish_leaves : (s after : Sitting) (runner : ℕ) (made : Result (Unit {0}) Ended) → s.usable ≡ true → 1 ≤ runner → runner ≤ s.world.runners →
    FinishGives s runner made after → Leaves s (finish_step s runner) made after
finish_leaves s after runner made usable first last gives =
    subst (λ (m : Option Misuse). Gives m s (finish_step s runner) made after) (taken s runner usable first last) gives

-- .. of that after so many
pub place_leaves : (first s after : Sitting) (runners place : ℕ) (made : Result (Unit {0}) Ended) → s.usable ≡ true → s.world ≡ first.world → runners ≡ first.world.runners →
    place < runners → FinishGives s (place + 1) made after → Leaves s (finish_step s (place + 1)) made after
place_leaves first s after runners place made usable world all within gives =
    let same : s.world.runners ≡ first.world.runners = ap (λ (w : World). w.runners) world in
    finish_leaves s after (place + 1) made usable (omega arith) (omega (arith, same, all, within)) gives

-- what the finish of a runner has left
made_leaves : (s after : Sitting) (d : Stepped) (made : Result (Unit {0}) Ended) → made ≡ Ok tt → Leaves s d made after → (d.fault ≡ None) × (after ≡ after_step s d true)
made_leaves s after d made is leaves =
    let k : Leaves s d (Ok tt) after = subst (λ (r : Result (Unit {0}) Ended). Leaves s d r after) is leaves in (k.0, k.1)

pub finish_next : (s after : Sitting) (runner : ℕ) (made : Result (Unit {0}) Ended) (old new : Out) →
    Leaves s (finish_step s runner) made after → Shows made after (Ok tt) old new →
    (after.usable ≡ true) × (after.tree ≡ s.tree) × (after.world ≡ s.world)
finish_next s after runner made old new leaves shows =
    let k = made_leaves s after (finish_step s runner) made (shown_ok made after old new shows).0 leaves in
    (ap (λ (z : Sitting). z.usable) k.1, ap (λ (z : Sitting). z.tree) k.1, ap (λ (z : Sitting). z.world) k.1)

-- its block was shown
finish_part : (more runner : ℕ) (ends : Exit) (s after : Sitting) (made : Result (Unit {0}) Ended) (old new : Out) →
    Leaves s (finish_step s runner) made after → Shows made after (Ok tt) old new →
    IsPart (λ said. said ≡ finishes (suc more) runner ends s) (λ rest. rest ≡ finishes more (runner + 1) ends after) old new
finish_part more runner ends s after made old new leaves shows =
    let d : Stepped = finish_step s runner in
    let shown = shown_ok made after old new shows in
    let k = made_leaves s after d made shown.0 leaves in
    let block : List (List ℕ) = block_lines s d in
    record {
      lines = block;
      events = [];
      wrote = subst (λ (z : Sitting). Wrote (last_lines z) old new) k.1 shown.1;
      all = λ rest is. ap (then_said block) (is ∙ ap (finishes more (runner + 1) ends) k.1
          ∙ ap (λ (f : Option RunFault). by_fault f ends (finishes more (runner + 1) ends (after_step s d true))) (sym k.0));
    }

-- .. or not
finish_stopped : (more runner : ℕ) (ends : Exit) (s after : Sitting) (made : Result (Unit {0}) Ended) (why : Over) (old new : Out) →
    Leaves s (finish_step s runner) made after → Shows made after (Err why) old new → FinishOver why (finishes (suc more) runner ends s) ends old new
finish_stopped more runner ends s after (Ok done) over.Faulted old new leaves shows = let no : Err over.Faulted ≡ Ok done = shows.0 in absurd cc
finish_stopped more runner ends s after (Ok done) (over.Refused fault) old new leaves shows = let no : Err (over.Refused fault) ≡ Ok done = shows.0 in absurd cc
finish_stopped more runner ends s after (Ok done) (over.Stopped stop) old new leaves shows =
    let d : Stepped = finish_step s runner in
    first_more stop old new (block_lines s d) (by_fault d.fault ends (finishes more (runner + 1) ends (after_step s d true))).lines
    (subst (λ (z : Sitting). WroteFirst stop (last_lines z) old new) leaves.1 shows)
finish_stopped more runner ends s after (Err (ended.Fault fault)) over.Faulted old new leaves shows =
    let d : Stepped = finish_step s runner in
    let block : List (List ℕ) = block_lines s d in
    let wrote : Wrote block old new = subst (λ (z : Sitting). Wrote (last_lines z) old new) leaves.1 shows.1 in
    subst (λ (f : Option RunFault).
    FinishOver over.Faulted (then_said block (by_fault f ends (finishes more (runner + 1) ends (after_step s d true)))) ends old new) (sym leaves.0)
    (refl, subst (λ (z : List (List ℕ)). Wrote z old new) (sym (append-nil block)) wrote)
finish_stopped more runner ends s after (Err (ended.Fault fault)) (over.Refused other) old new leaves shows =
    let no : Err (over.Refused other) ≡ Err over.Faulted = shows.0 in absurd cc
finish_stopped more runner ends s after (Err (ended.Fault fault)) (over.Stopped stop) old new leaves shows =
    let d : Stepped = finish_step s runner in
    first_more stop old new (block_lines s d) (by_fault d.fault ends (finishes more (runner + 1) ends (after_step s d true))).lines
    (subst (λ (z : Sitting). WroteFirst stop (last_lines z) old new) leaves.1 shows)
finish_stopped more runner ends s after (Err ended.NoMemory) over.Faulted old new leaves shows =
    let no : Err over.Faulted ≡ Err (over.Stopped stop.NoMemory) = shows.0 in absurd cc
finish_stopped more runner ends s after (Err ended.NoMemory) (over.Refused fault) old new leaves shows =
    let no : Err (over.Refused fault) ≡ Err (over.Stopped stop.NoMemory) = shows.0 in absurd cc
finish_stopped more runner ends s after (Err ended.NoMemory) (over.Stopped stop.WriteFault) old new leaves shows =
    let no : Err (over.Stopped stop.WriteFault) ≡ Err (over.Stopped stop.NoMemory) = shows.0 in absurd cc
finish_stopped more runner ends s after (Err ended.NoMemory) (over.Stopped stop.NoMemory) old new leaves shows =
    subst (λ (o : Out). WroteFirst stop.NoMemory (finishes (suc more) runner ends s).lines old o) (sym shows.1)
    (first_none old (finishes (suc more) runner ends s).lines)
finish_stopped more runner ends s after (Err (ended.Misused misuse)) why old new leaves shows = absurd leaves

-- ---- All runners

-- the runners before a place were finished, of so many in all
abbrev pub Finished : ℕ → ℕ → Exit → Sitting → Sitting → Out → Out → Type 0
Finished runners place ends first s old new =
    IsPart (λ said. said ≡ finishes runners 1 ends first) (λ rest. rest ≡ finishes (runners - place) (place + 1) ends s) old new

pub finished_none : (runners : ℕ) (ends : Exit) (s : Sitting) (o : Out) → Finished runners 0 ends s s o o
finished_none runners ends s o =
    let all : runners - 0 ≡ runners = omega arith in
    part_none (λ said. said ≡ finishes runners 1 ends s) (λ rest. rest ≡ finishes (runners - 0) (0 + 1) ends s) o
    (λ rest is. is ∙ ap (λ (n : ℕ). finishes n 1 ends s) all)

-- one more was finished
pub finished_more : (runners place : ℕ) (ends : Exit) (first s after : Sitting) (made : Result (Unit {0}) Ended) (old mid new : Out) → place < runners →
    Finished runners place ends first s old mid → Leaves s (finish_step s (place + 1)) made after → Shows made after (Ok tt) mid new →
    Finished runners (place + 1) ends first after old new
finished_more runners place ends first s after made old mid new within done leaves shows =
    let left : runners - place ≡ suc (runners - (place + 1)) = omega arith in
    let B : Said → Type 0 = λ said. said ≡ finishes (runners - place) (place + 1) ends s in
    let C : Said → Type 0 = λ rest. rest ≡ finishes (runners - (place + 1)) (place + 1 + 1) ends after in
    part_then (λ said. said ≡ finishes runners 1 ends first) B C old mid new done
    (subst (λ (n : ℕ). IsPart (λ said. said ≡ finishes n (place + 1) ends s) C mid new) (sym left)
    (finish_part (runners - (place + 1)) (place + 1) ends s after made mid new leaves shows))

-- all were
pub finished_all : (runners place : ℕ) (ends : Exit) (first s : Sitting) (old new : Out) → runners ≤ place → Finished runners place ends first s old new →
    IsPart (λ said. said ≡ finishes runners 1 ends first) (λ rest. rest ≡ only ends) old new
finished_all runners place ends first s old new past done =
    let none : runners - place ≡ 0 = omega arith in
    part_weaker (λ said. said ≡ finishes runners 1 ends first) (λ rest. rest ≡ finishes (runners - place) (place + 1) ends s) (λ rest. rest ≡ only ends) old new done
    (λ rest is. is ∙ ap (λ (n : ℕ). finishes n (place + 1) ends s) (sym none))

finish_after : (why : Over) (ends : Exit) (x y : Said) (a b c : Out) → IsPart (λ said. said ≡ x) (λ rest. rest ≡ y) a b → a.faults ≤ b.faults →
    FinishOver why y ends b c → FinishOver why x ends a c
finish_after over.Faulted ends x y a b c p count q =
    let is : record { lines = p.lines ++ y.lines; events = p.events ++ y.events; exit = y.exit } ≡ x = p.all y refl in (
      sym (ap (λ (s : Said). s.exit) is) ∙ q.0,
      subst (λ (s : Said). Wrote s.lines a c) is (wrote_then a b c p.lines y.lines p.wrote q.1),
    )
finish_after (over.Refused fault) ends x y a b c p count q = absurd q
finish_after (over.Stopped stop) ends x y a b c p count q =
    let is : record { lines = p.lines ++ y.lines; events = p.events ++ y.events; exit = y.exit } ≡ x = p.all y refl in
    subst (λ (s : Said). WroteFirst stop s.lines a c) is (first_after stop a b c p.lines y.lines p.wrote count q)

-- one was not
pub all_over : (why : Over) (runners : ℕ) (ends : Exit) (first : Sitting) (old new : Out) → runners ≡ first.world.runners →
    FinishOver why (finishes runners 1 ends first) ends old new → FinishOver why (finish_all ends first) ends old new
all_over why runners ends first old new is p = subst (λ (n : ℕ). FinishOver why (finishes n 1 ends first) ends old new) is p

pub all_part : (runners : ℕ) (ends : Exit) (first : Sitting) (old new : Out) → runners ≡ first.world.runners →
    IsPart (λ said. said ≡ finishes runners 1 ends first) (λ rest. rest ≡ only ends) old new → IsPart (λ said. said ≡ finish_all ends first) (λ rest. rest ≡ only ends) old new
all_part runners ends first old new is p = subst (λ (n : ℕ). IsPart (λ said. said ≡ finishes n 1 ends first) (λ rest. rest ≡ only ends) old new) is p

pub finished_over : (runners place : ℕ) (ends : Exit) (first s after : Sitting) (made : Result (Unit {0}) Ended) (why : Over) (old mid new : Out) → place < runners →
    Finished runners place ends first s old mid → old.faults ≤ mid.faults → Leaves s (finish_step s (place + 1)) made after → Shows made after (Err why) mid new →
    FinishOver why (finishes runners 1 ends first) ends old new
finished_over runners place ends first s after made why old mid new within done count leaves shows =
    let left : runners - place ≡ suc (runners - (place + 1)) = omega arith in
    finish_after why ends (finishes runners 1 ends first) (finishes (runners - place) (place + 1) ends s) old mid new done count
    (subst (λ (n : ℕ). FinishOver why (finishes n (place + 1) ends s) ends mid new) (sym left)
    (finish_stopped (runners - (place + 1)) (place + 1) ends s after made why mid new leaves shows))

-- ---- The end

-- what is said where all runners were finished
pub ended_done : (said : Said) (ends : Exit) (old new : Out) → (ends ≡ exit.Done) ⊎ (ends ≡ exit.Request) → IsPart (λ s. s ≡ said) (λ rest. rest ≡ only ends) old new → HasSaid said ends old new
ended_done said ends old new which p =
    let is : record { lines = p.lines ++ []; events = p.events ++ []; exit = ends } ≡ said = p.all (only ends) refl in
    let wrote : Wrote said.lines old new = subst (λ (z : List (List ℕ)). Wrote z old new) (sym (append-nil p.lines) ∙ ap (λ (s : Said). s.lines) is) p.wrote in
    let exits : said.exit ≡ ends = sym (ap (λ (s : Said). s.exit) is) in
    elim which [
      | inl done ↦ subst (λ (e : Exit). HasSaid said e old new) (sym done) (exits ∙ done, wrote)
      | inr refused ↦ subst (λ (e : Exit). HasSaid said e old new) (sym refused) (exits ∙ refused, wrote)
    ]

-- .. or where one was not
pub ended_stopped : (said : Said) (ends : Exit) (stop : TextStop) (old new : Out) → FinishOver (over.Stopped stop) said ends old new → HasSaid said (stopped_exit stop) old new
ended_stopped said ends stop.WriteFault old new p = p
ended_stopped said ends stop.NoMemory old new p = p

pub ended_over : (why : Over) (said : Said) (ends : Exit) (old new : Out) → (ends ≡ exit.Done) ⊎ (ends ≡ exit.Request) → FinishOver why said ends old new →
    HasSaid said (unfinished_exit why ends) old new
ended_over over.Faulted said ends old new which p =
    elim which [
      | inl done ↦ subst (λ (e : Exit). HasSaid said (faulted e) old new) (sym done) (p.0 ∙ ap faulted done, p.1)
      | inr refused ↦ subst (λ (e : Exit). HasSaid said (faulted e) old new) (sym refused) (p.0 ∙ ap faulted refused, p.1)
    ]
ended_over (over.Refused fault) said ends old new which p = absurd p
ended_over (over.Stopped cause) said ends old new which p = ended_stopped said ends cause old new p
