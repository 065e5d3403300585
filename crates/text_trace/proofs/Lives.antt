-- Rounds at the moments of a clock, against the rounds of the definition.
use Rattle.std.proofs.Common.{◌≡◌, ℕ, zero, suc, ◌+◌, ◌-◌, ◌≤◌, max, arith, List, [], ◌∷◌, ◌++◌, length, take, drop, replicate, Option, Some, None, IfSome, IsSome, Result, Ok, Err, OnOk, true, false, refl, sym, ap, subst, ◌∙◌, append_assoc, append-nil}
use Rattle.std.specs.Option.{option_map}
use Rattle.std.specs.Result.{IsErr}
use Rattle.std.proofs.lemmas.List.{length-append, length-replicate, take-append-drop, take-append-le, take_at}
use Rattle.spec_run.specs.declared.fault.RunFault.{RunFault}
use Rattle.spec_tree.specs.declared.term.Tree.{Tree}
use Rattle.spec_world.specs.declared.world.World.{World}
use Rattle.spec_run.specs.Drivers.{DriverState}
use Rattle.spec_run.specs.Run.{RunState, Trace}
use Rattle.spec_outside.specs.Moments.{Moments, after_now}
use Rattle.text_lines.specs.declared.stop.TextStop.{TextStop}
use Rattle.run_loop.specs.declared.runs.Runs.{Runs}
use Rattle.spec_run.specs.Served.{Setup}
use Rattle.text_trace.specs.declared.ended.Ended.{Ended}
use Rattle.text_trace.specs.declared.ended.Ended.TheVariants.{Done, Faulted}
use Rattle.text_trace.specs.Going.{HasGiven, LiveMade, Makes, MakesPart, RoundsMade, Stage, finishes_then, rounds_then, state_at}
use Rattle.spec_output.specs.Rounds.{AreBegun, CanBegin, events_then, fault_in, moments_after, nothing_more, round_of, taken}
use Rattle.text_trace.specs.RoundMoments.{AreMoments, WasAsked}
use Rattle.text_trace.specs.Traces.{ended, state_in}
use Rattle.text_trace.proofs.Following.{round_next, rounds_front}
use Rattle.text_trace.proofs.Parts.{part_as, part_before, part_next, part_to}
use Rattle.text_trace.proofs.Unbegun.{none_begin}

-- ---- A clock

taken_more : (n : ℕ) (m : Moments) → taken (suc n) m ≡ taken n m ++ (after_now (moments_after n m)).last ∷ []
taken_more zero m = refl
taken_more (suc n) m = ap (λ (ms : List ℕ). (after_now m).last ∷ ms) (taken_more n (after_now m))

after_more : (n : ℕ) (m : Moments) → moments_after (suc n) m ≡ after_now (moments_after n m)
after_more zero m = refl
after_more (suc n) m = after_more n (after_now m)

taken_both : (n k : ℕ) (m : Moments) → taken (n + k) m ≡ taken n m ++ taken k (moments_after n m)
taken_both zero k m =
    let none : 0 + k ≡ k = omega arith in
    ap (λ (j : ℕ). taken j m) none
taken_both (suc n) k m =
    let more : suc n + k ≡ suc (n + k) = omega arith in
    ap (λ (j : ℕ). taken j m) more ∙ ap (λ (ms : List ℕ). (after_now m).last ∷ ms) (taken_both n k (after_now m))

length_taken : (n : ℕ) (m : Moments) → length (taken n m) ≡ n
length_taken zero m = refl
length_taken (suc n) m = ap suc (length_taken n (after_now m))

-- it was not asked yet
pub given_none : (old : Option Moments) → HasGiven old old []
given_none None = record { told = tt; left = refl }
given_none (Some m) = record { told = refl; left = refl }

-- .. and is asked once more
pub given_next : (old mid new : Option Moments) (given : List ℕ) (moment : ℕ) → HasGiven old mid given → new ≡ option_map after_now mid → IfSome new (λ m. moment ≡ m.last) → HasGiven old new (given ++ moment ∷ [])
given_next None mid new given moment has passed last = record { told = tt; left = passed ∙ ap (option_map after_now) has.left }
given_next (Some m) mid new given moment has passed last =
    let n = length given in
    let longer : length (given ++ moment ∷ []) ≡ suc n = length-append given (moment ∷ []) ∙ (let one : n + 1 ≡ suc n = omega arith in one) in
    let left : new ≡ Some (after_now (moments_after n m)) = passed ∙ ap (option_map after_now) has.left in
    let is : moment ≡ (after_now (moments_after n m)).last = subst (λ (o : Option Moments). IfSome o (λ m. moment ≡ m.last)) left last in
    record {
      told = ap (λ (ms : List ℕ). ms ++ moment ∷ []) has.told ∙ ap (λ (k : ℕ). taken n m ++ k ∷ []) is ∙ sym (taken_more n m) ∙ ap (λ (k : ℕ). taken k m) (sym longer);
      left = left ∙ ap Some (sym (after_more n m)) ∙ ap (λ (k : ℕ). Some (moments_after k m)) (sym longer);
    }

-- so many more moments: those that the clock gives, where it tells them
abbrev pub to_come : ℕ → Option Moments → List ℕ
to_come n None = replicate n 0
to_come n (Some m) = taken n m

length_to_come : (n : ℕ) (o : Option Moments) → length (to_come n o) ≡ n
length_to_come n None = length-replicate n 0
length_to_come n (Some m) = length_taken n m

-- the moments given, with those of the rounds that did not begin
pub are_moments : (rounds : ℕ) (old new : Option Moments) (given : List ℕ) → HasGiven old new given → length given ≤ rounds → AreMoments rounds old (given ++ to_come (rounds - length given) new)
are_moments rounds old new given has within = record { many = many; given = by old has } where
  all : length given + (rounds - length given) ≡ rounds
  all = omega (arith, within)

  many : length (given ++ to_come (rounds - length given) new) ≡ rounds
  many = length-append given (to_come (rounds - length given) new) ∙ ap (λ (k : ℕ). length given + k) (length_to_come (rounds - length given) new) ∙ all

  by : (old : Option Moments) → HasGiven old new given → IfSome old (λ m. given ++ to_come (rounds - length given) new ≡ taken rounds m)
  by None has = tt
  by (Some m) has =
      ap (λ (ms : List ℕ). ms ++ to_come (rounds - length given) new) has.told
      ∙ ap (λ (o : Option Moments). taken (length given) m ++ to_come (rounds - length given) o) has.left
      ∙ sym (taken_both (length given) (rounds - length given) m) ∙ ap (λ (k : ℕ). taken k m) all

-- all rounds began
pub are_all : (rounds : ℕ) (old new : Option Moments) (given : List ℕ) → HasGiven old new given → length given ≡ rounds → AreMoments rounds old given
are_all rounds old new given has all = record { many = all; given = by old has } where
  by : (old : Option Moments) → HasGiven old new given → IfSome old (λ m. given ≡ taken rounds m)
  by None has = tt
  by (Some m) has = has.told ∙ ap (λ (k : ℕ). taken k m) all

-- one moment more
pub one_more : (given : List ℕ) (moment : ℕ) → length (given ++ moment ∷ []) ≡ length given + 1
one_more given moment = length-append given (moment ∷ [])

-- ---- The next round

module _ (of : Setup) (opened last : ℕ) (given : List ℕ) (s0 s1 : Stage) where
  -- the rounds at these moments were made, and those at any later ones are to come
  abbrev pub SoFar : Type 0
  SoFar = (later : List ℕ) → MakesPart of (Ok Done) s0 s1 (λ rest. rounds_then of opened (given ++ later) rest (state_at of s0)) (λ rest. rounds_then of last later rest (state_at of s1))

  -- no round has ended in a fault
  pub no_fault : SoFar → fault_in of.tree of.world opened given (state_at of s0) ≡ None
  no_fault so_far =
      ap (λ (ms : List ℕ). fault_in of.tree of.world opened ms (state_at of s0)) (sym (append-nil given)) ∙ sym ((so_far []).goes nothing_more).fault

  -- .. before the last one of them either
  pub before_last : SoFar → fault_in of.tree of.world opened (take (length given - 1) given) (state_at of s0) ≡ None
  before_last so_far =
      rounds_front of.tree of.world opened (take (length given - 1) given) (drop (length given - 1) given) (state_at of s0)
      (ap (λ (ms : List ℕ). fault_in of.tree of.world opened ms (state_at of s0)) (take-append-drop (length given - 1) given) ∙ no_fault so_far)

  module _ (moment at : ℕ) (is : at ≡ max moment last) where
    next_is : (later : List ℕ) (rest : RunState → Trace) → rounds_then of last (moment ∷ later) rest (state_at of s1) ≡ events_then of.tree of.world (round_of of.world.runners at) (rounds_then of at later rest) (state_at of s1)
    next_is later rest =
        subst (λ (k : ℕ). rounds_then of last (moment ∷ later) rest (state_at of s1) ≡ events_then of.tree of.world (round_of of.world.runners k) (rounds_then of k later rest) (state_at of s1)) (sym is)
        (round_next of.tree of.world last moment later rest (state_at of s1))

    -- the next round, whatever was answered in it
    pub round_made : (result : Result Ended TextStop) (s2 : Stage) → SoFar → Makes of result s1 s2 (λ rest. events_then of.tree of.world (round_of of.world.runners at) rest (state_at of s1)) →
        (later : List ℕ) → MakesPart of result s0 s2 (λ rest. rounds_then of opened ((given ++ moment ∷ []) ++ later) rest (state_at of s0)) (λ rest. rounds_then of at later rest (state_at of s2))
    round_made result s2 so_far made later =
        part_as of s0 s2 (λ rest. rounds_then of opened (given ++ moment ∷ later) rest (state_at of s0)) (λ rest. rounds_then of at later rest (state_at of s2)) result
        (λ rest. rounds_then of opened ((given ++ moment ∷ []) ++ later) rest (state_at of s0))
        (λ rest. ap (λ (ms : List ℕ). rounds_then of opened ms rest (state_at of s0)) (sym (append_assoc given (moment ∷ []) later)))
        (part_next of s0 s1 (λ rest. rounds_then of opened (given ++ moment ∷ later) rest (state_at of s0)) (λ rest. rounds_then of last (moment ∷ later) rest (state_at of s1)) result s2
        (λ rest. events_then of.tree of.world (round_of of.world.runners at) rest (state_at of s1)) (λ rest. rounds_then of at later rest)
        (so_far (moment ∷ later)) (next_is later) made)

    -- .. and it was the last one
    pub rounds_ended : (result : Result Ended TextStop) (s2 : Stage) → (result ≡ Ok Done → ⊥) → SoFar → Makes of result s1 s2 (λ rest. events_then of.tree of.world (round_of of.world.runners at) rest (state_at of s1)) →
        (later : List ℕ) → Makes of result s0 s2 (λ rest. rounds_then of opened ((given ++ moment ∷ []) ++ later) rest (state_at of s0))
    rounds_ended result s2 over so_far made later =
        part_to of s0 s2 (λ rest. rounds_then of opened ((given ++ moment ∷ []) ++ later) rest (state_at of s0)) (λ rest. rounds_then of at later rest (state_at of s2)) result
        (λ rest. rest (state_at of s2)) (λ done. absurd (over done)) (round_made result s2 so_far made later)

    abbrev Round : Result Ended TextStop → Stage → Type 0
    Round result s2 = Makes of result s1 s2 (λ rest. events_then of.tree of.world (round_of of.world.runners at) rest (state_at of s1))

    -- the answer under another name
    pub round_on : (result : Result Ended TextStop) (s2 : Stage) → result ≡ Ok Done → SoFar → Round result s2 →
        (later : List ℕ) → MakesPart of (Ok Done) s0 s2 (λ rest. rounds_then of opened ((given ++ moment ∷ []) ++ later) rest (state_at of s0)) (λ rest. rounds_then of at later rest (state_at of s2))
    round_on result s2 done so_far made later = round_made (Ok Done) s2 so_far (subst (λ (r : Result Ended TextStop). Round r s2) done made) later

    pub round_over : (result ends : Result Ended TextStop) (s2 : Stage) → result ≡ ends → (ends ≡ Ok Done → ⊥) → SoFar → Round result s2 → (later : List ℕ) → Makes of ends s0 s2 (λ rest. rounds_then of opened ((given ++ moment ∷ []) ++ later) rest (state_at of s0))
    round_over result ends s2 same over so_far made later = rounds_ended ends s2 over so_far (subst (λ (r : Result Ended TextStop). Round r s2) same made) later

    -- the rounds before it ended in no fault
    pub before_it : SoFar → fault_in of.tree of.world opened (take (length (given ++ moment ∷ []) - 1) (given ++ moment ∷ [])) (state_at of s0) ≡ None
    before_it so_far =
        let longer : length (given ++ moment ∷ []) ≡ length given + 1 = one_more given moment in
        let many : length given ≡ length (given ++ moment ∷ []) - 1 = omega (arith, longer) in
        ap (λ (ms : List ℕ). fault_in of.tree of.world opened ms (state_at of s0)) (take_at given (moment ∷ []) (length (given ++ moment ∷ []) - 1) many) ∙ no_fault so_far

  -- no round is left
  pub rounds_all : SoFar → (later : List ℕ) → later ≡ [] → Makes of (Ok Done) s0 s1 (λ rest. rounds_then of opened (given ++ later) rest (state_at of s0))
  rounds_all so_far later none =
      part_to of s0 s1 (λ rest. rounds_then of opened (given ++ later) rest (state_at of s0)) (λ rest. rounds_then of last later rest (state_at of s1)) (Ok Done) (λ rest. rest (state_at of s1))
      (λ done rest. ap (λ (ms : List ℕ). rounds_then of last ms rest (state_at of s1)) none) (so_far later)

-- ---- All rounds

is_fault : (o : Option RunFault) → Faulted ≡ ended o → IsSome o
is_fault (Some fault) is = refl
is_fault None is = cc

module _ (of : Setup) (rounds : ℕ) (s0 s1 : Stage) (asked left : Option Moments) where
  abbrev Finishes : (RunState → Trace) → RunState → Trace
  Finishes rest = finishes_then of.tree of.world 1 of.world.runners rest

  abbrev Opened : ℕ
  Opened = s0.underway.runs.last

  abbrev Rounds : List ℕ → (RunState → Trace) → Trace
  Rounds moments rest = rounds_then of Opened moments rest (state_at of s0)

  -- whatever was answered, the rounds begun can begin
  can_begin : (result : Result Ended TextStop) (p : RoundsMade of result rounds s0 s1 asked left) (later : List ℕ) → CanBegin of.tree of.world Opened (p.given ++ later) (state_at of s0) (length p.given)
  can_begin result p later = record {
    within = omega (arith, length-append p.given later);
    before = ap (λ (ms : List ℕ). fault_in of.tree of.world Opened ms (state_at of s0)) (take-append-le (length p.given - 1) p.given later (omega arith)) ∙ p.before;
  }

  all_can : (result : Result Ended TextStop) (p : RoundsMade of result rounds s0 s1 asked left) (asked' : Option Moments) → HasGiven asked' left p.given → IfSome asked' (λ m. CanBegin of.tree of.world Opened (taken rounds m) (state_at of s0) (length p.given))
  all_can result p None has = tt
  all_can result p (Some m) has =
      subst (λ (ms : List ℕ). CanBegin of.tree of.world Opened ms (state_at of s0) (length p.given)) (are_moments rounds (Some m) left p.given has p.within).given
      (can_begin result p (to_come (rounds - length p.given) left))

  -- the rounds begun, where a fault ended them
  begun_last : (p : RoundsMade of (Ok Faulted) rounds s0 s1 asked left) (later : List ℕ) → AreBegun of.tree of.world Opened (p.given ++ later) (state_at of s0) (length p.given)
  begun_last p later = record {
    can = can_begin (Ok Faulted) p later;
    ended = λ more. subst (λ (ms : List ℕ). IsSome (fault_in of.tree of.world Opened ms (state_at of s0))) (append-nil p.given ∙ sym (take_at p.given later (length p.given) refl)) (is_fault _ ((p.made [] (λ done. cc)).goes nothing_more).ends);
  }

  -- .. and where none did
  begun_all : (p : RoundsMade of (Ok Done) rounds s0 s1 asked left) → AreBegun of.tree of.world Opened p.given (state_at of s0) (length p.given)
  begun_all p = record { can = record { within = omega arith; before = p.before }; ended = λ more. absurd (omega (arith, more)) }

  last_begun : (p : RoundsMade of (Ok Faulted) rounds s0 s1 asked left) (asked' : Option Moments) → HasGiven asked' left p.given → IfSome asked' (λ m. AreBegun of.tree of.world Opened (taken rounds m) (state_at of s0) (length p.given))
  last_begun p None has = tt
  last_begun p (Some m) has =
      subst (λ (ms : List ℕ). AreBegun of.tree of.world Opened ms (state_at of s0) (length p.given)) (are_moments rounds (Some m) left p.given has p.within).given
      (begun_last p (to_come (rounds - length p.given) left))

  on_any : {P : Type 0} (ends : Result Ended TextStop) → P → OnOk ends P
  on_any (Ok ending) p = p
  on_any (Err stopped) p = tt

  all_begun : (p : RoundsMade of (Ok Done) rounds s0 s1 asked left) (ends : Result Ended TextStop) (asked' : Option Moments) → HasGiven asked' left p.given → IfSome asked' (λ m. OnOk ends (AreBegun of.tree of.world Opened (taken rounds m) (state_at of s0) (length p.given)))
  all_begun p ends None has = tt
  all_begun p ends (Some m) has =
      on_any ends (subst (λ (ms : List ℕ). AreBegun of.tree of.world Opened ms (state_at of s0) (length p.given)) (are_all rounds (Some m) left p.given has (p.all refl)).given (begun_all p))

  none_begun : (stopped : TextStop) (asked' : Option Moments) (P : Moments → Type 0) → IfSome asked' (λ m. OnOk {T = Ended} {E = TextStop} (Err stopped) (P m))
  none_begun stopped None P = tt
  none_begun stopped (Some m) P = tt

  -- all rounds were made, and then the runners were finished
  pub live_done : (result : Result Ended TextStop) (s2 : Stage) → RoundsMade of (Ok Done) rounds s0 s1 asked left → Makes of result s1 s2 (λ rest. Finishes rest (state_at of s1)) → LiveMade of result rounds s0 s2 asked left
  live_done result s2 p q = record {
    moments = p.given;
    are = are_all rounds asked left p.given p.told (p.all refl);
    made =
        part_next of s0 s1 (λ rest. Rounds p.given (Finishes rest)) (λ rest. Finishes rest (state_at of s1)) result s2 (λ rest. Finishes rest (state_at of s1)) (λ rest. rest)
        (part_before of s0 s1 (Rounds p.given) (λ rest. rest (state_at of s1)) (Ok Done) Finishes
        (part_as of s0 s1 (Rounds (p.given ++ [])) (λ rest. rest (state_at of s1)) (Ok Done) (Rounds p.given) (λ rest. ap (λ (ms : List ℕ). Rounds ms rest) (append-nil p.given)) (p.made [] (λ done. refl))))
        (λ rest. refl) q;
    asked = record { begun = length p.given; within = p.within; asked = p.told.left; can = all_can (Ok Done) p asked p.told; begin = all_begun p result asked p.told; all = λ done. p.all refl };
  }

  rounds_over : (result : Result Ended TextStop) → (result ≡ Ok Done → ⊥) → (p : RoundsMade of result rounds s0 s1 asked left) (later : List ℕ) → Makes of result s0 s1 (λ rest. Rounds (p.given ++ later) (Finishes rest))
  rounds_over result ends p later =
      part_to of s0 s1 (λ rest. Rounds (p.given ++ later) (Finishes rest)) (λ rest. Finishes rest (state_at of s1)) result (λ rest. rest (state_at of s1)) (λ done. absurd (ends done))
      (part_before of s0 s1 (Rounds (p.given ++ later)) (λ rest. rest (state_at of s1)) result Finishes (p.made later (λ done. absurd (ends done))))

  -- a fault ended the run in a round
  pub live_faulted : RoundsMade of (Ok Faulted) rounds s0 s1 asked left → LiveMade of (Ok Faulted) rounds s0 s1 asked left
  live_faulted p = record {
    moments = p.given ++ to_come (rounds - length p.given) left;
    are = are_moments rounds asked left p.given p.told p.within;
    made = rounds_over (Ok Faulted) (λ done. cc) p (to_come (rounds - length p.given) left);
    asked = record { begun = length p.given; within = p.within; asked = p.told.left; can = all_can (Ok Faulted) p asked p.told; begin = last_begun p asked p.told; all = λ done. cc };
  }

  -- .. or it was stopped there
  live_stopped : (stopped : TextStop) → RoundsMade of (Err stopped) rounds s0 s1 asked left → LiveMade of (Err stopped) rounds s0 s1 asked left
  live_stopped stopped p = record {
    moments = p.given ++ to_come (rounds - length p.given) left;
    are = are_moments rounds asked left p.given p.told p.within;
    made = rounds_over (Err stopped) (λ done. cc) p (to_come (rounds - length p.given) left);
    asked = record { begun = length p.given; within = p.within; asked = p.told.left; can = all_can (Err stopped) p asked p.told; begin = none_begun stopped asked (λ m. AreBegun of.tree of.world Opened (taken rounds m) (state_at of s0) (length p.given)); all = λ done. cc };
  }

  pub live_over : (ends : Result Ended TextStop) → IsErr ends → RoundsMade of ends rounds s0 s1 asked left → LiveMade of ends rounds s0 s1 asked left
  live_over (Err stopped) err p = live_stopped stopped p
  live_over (Ok ending) err p = absurd (let w : false ≡ true = err in cc)

-- no round was begun
pub asked_nothing : (ends : Result Ended TextStop) → IsErr ends → (tree : Tree) (world : World) (rounds last : ℕ) (s : RunState) (old : Option Moments) → WasAsked ends tree world rounds last s old old
asked_nothing (Ok ending) err tree world rounds last s old = cc
asked_nothing (Err stopped) err tree world rounds last s old = record {
  begun = 0;
  within = omega arith;
  asked = (given_none old).left;
  can = could old;
  begin = none old;
  all = λ done. cc;
} where
  could : (o : Option Moments) → IfSome o (λ m. CanBegin tree world last (taken rounds m) s 0)
  could None = tt
  could (Some m) = none_begin tree world last (taken rounds m) s

  none : (o : Option Moments) → IfSome o (λ m. OnOk {T = Ended} {E = TextStop} (Err stopped) (AreBegun tree world last (taken rounds m) s 0))
  none None = tt
  none (Some m) = tt

-- rounds whose answer is known
pub rounds_as : (of : Setup) (result ends : Result Ended TextStop) (rounds : ℕ) (s0 s1 : Stage) (asked left : Option Moments) → result ≡ ends → RoundsMade of result rounds s0 s1 asked left → RoundsMade of ends rounds s0 s1 asked left
rounds_as of result ends rounds s0 s1 asked left same p = subst (λ (r : Result Ended TextStop). RoundsMade of r rounds s0 s1 asked left) same p

-- what was asked of a clock, of runs under another name
pub asked_as : (of : Setup) (result : Result Ended TextStop) (rounds : ℕ) (drivers : List DriverState) (a b : Runs) (old new : Option Moments) → a ≡ b → WasAsked result of.tree of.world rounds a.last (state_in of drivers a) old new →
    WasAsked result of.tree of.world rounds b.last (state_in of drivers b) old new
asked_as of result rounds drivers a b old new same p = subst (λ (r : Runs). WasAsked result of.tree of.world rounds r.last (state_in of drivers r) old new) same p
