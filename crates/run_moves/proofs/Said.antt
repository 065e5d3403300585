-- What a rule hears is what its children say.
use Rattle.std.proofs.Common.{◌≡◌, ℕ, ◌+◌, Bool, true, false, cond, List, [], ◌∷◌, ◌++◌, append_assoc, map, Result, Ok, Err, refl, sym, ap, ◌∙◌}
use Rattle.spec_run.specs.declared.fault.NodeFault.{NodeFault}
use Rattle.spec_run.specs.declared.memory.Memory.{Memory}
use Rattle.spec_run.specs.declared.moves.Heard.{Heard}
use Rattle.spec_run.specs.declared.moves.Heard.TheVariants.{Answered, Passed}
use Rattle.spec_run.specs.declared.moves.Span.{Span}
use Rattle.spec_run.specs.declared.moves.Span.TheVariants as span
use Rattle.spec_run.specs.declared.note.Note.{Note}
use Rattle.spec_tree.specs.declared.term.Kind.{Kind}
use Rattle.spec_tree.specs.declared.term.Kind.TheVariants.{Parallel}
use Rattle.spec_run.specs.Done.{Call, Done, State, following, carried, done, follow}
use Rattle.base_tables.specs.Moves.{after_resets, hears}
use Rattle.spec_run.specs.Steps.{Child, Given, Rule, child_at, is_completed, reset, resets, visit, visit_or_pass}
use Rattle.run_moves.specs.Visits.{Hears, Told, all_say, place_of, says}

-- ---- One part and the next

module _ {B C M : Type 0} (h : B → M → State → Done C M) where
  after_twice : (n n1 : List Note) (c c1 : List Call) (e : Done C M) → following n c (following n1 c1 e) ≡ following (n ++ n1) (c ++ c1) e
  after_twice n n1 c c1 e = λ i. record {
    answer = e.answer;
    memory = e.memory;
    state = e.state;
    notes = sym (append_assoc n n1 e.notes) i;
    calls = sym (append_assoc c c1 e.calls) i;
  }

  carried_after : (n : List Note) (c : List Call) (e : Done B M) (r : Result B NodeFault) →
      carried r (following n c e) (λ m. m) h ≡ following n c (carried r e (λ m. m) h)
  carried_after n c e (Ok b) = sym (after_twice n e.notes c e.calls (h b e.memory e.state))
  carried_after n c e (Err f) = refl

  -- two parts before a third
  follow_twice : {A : Type 0} (d : Done A M) (go : A → M → State → Done B M) →
      follow (follow d (λ m. m) go) (λ m. m) h ≡ follow d (λ m. m) (λ a m s. follow (go a m s) (λ m1. m1) h)
  follow_twice {A} d go = by_end d.answer
    where
      by_end : (r : Result A NodeFault) → follow (carried r d (λ m. m) go) (λ m. m) h ≡ carried r d (λ m. m) (λ a m s. follow (go a m s) (λ m1. m1) h)
      by_end (Ok a) = carried_after d.notes d.calls (go a d.memory d.state) (go a d.memory d.state).answer
      by_end (Err f) = refl

module _ {A B M : Type 0} (d : Done A M) where
  -- a part that has answered
  answered_follow : (a : A) (go : A → M → State → Done B M) → d.answer ≡ Ok a → follow d (λ m. m) go ≡ following d.notes d.calls (go a d.memory d.state)
  answered_follow a go is = ap (λ r. carried r d (λ m. m) go) is

  -- where two parts have answered, so has the first, and then the second
  first_answered : (go : A → M → State → Done B M) (b : B) → (follow d (λ m. m) go).answer ≡ Ok b →
      (a : A) × (d.answer ≡ Ok a) × ((go a d.memory d.state).answer ≡ Ok b)
  first_answered go b e = by_end d.answer refl e
    where
      by_end : (r : Result A NodeFault) → d.answer ≡ r → (carried r d (λ m. m) go).answer ≡ Ok b → (a : A) × (d.answer ≡ Ok a) × ((go a d.memory d.state).answer ≡ Ok b)
      by_end (Ok a) is e1 = (a, is, e1)
      by_end (Err f) is e1 = cc

-- ---- The words of rules

-- no child is reset
resets_none : (cs : List Child) (place : ℕ) (ms : List Memory) (s : State) → resets span.None cs place ms s ≡ done tt ms s
resets_none [] place ms s = refl
resets_none (c ∷ cs) place ms s = resets_none cs (place + 1) ms s

-- resets come first
resets_first : (span : Span) (rule : Rule) (cs : List Child) (ms : List Memory) (s : State) →
    after_resets span rule cs ms s ≡ follow (resets span cs 0 ms s) (λ ms1. ms1) (λ _ ms1 s1. rule cs ms1 s1)
unfolding reset
resets_first span.None rule cs ms s = ap (λ d. follow d (λ ms1. ms1) (λ _ ms1 s1. rule cs ms1 s1)) (sym (resets_none cs 0 ms s))
resets_first span.All rule cs ms s = refl
resets_first (span.From first) rule cs ms s = refl
resets_first (span.AllBut other) rule cs ms s = refl
resets_first (span.One only) rule cs ms s = refl

module _ (place : ℕ) (go : Heard → Rule) (cs : List Child) (ms : List Memory) (s : State) where
  abbrev Whole : Done Heard (List Memory) → Done Given (List Memory)
  Whole d = follow d (λ ms1. ms1) (λ h ms1 s1. go h cs ms1 s1)

  abbrev answers : Done Heard (List Memory)
  answers = follow ((child_at cs place).visit ms s) (λ ms1. ms1) (λ a ms1 s1. done (Answered place a) ms1 s1)

  -- a child is visited
  visit_says : visit place (λ a. go (Answered place a)) cs ms s ≡ Whole answers
  unfolding visit
  visit_says = sym (follow_twice (λ h ms1 s1. go h cs ms1 s1) ((child_at cs place).visit ms s) (λ a ms1 s1. done (Answered place a) ms1 s1))

  -- or passed over
  passing_says : (completed : Bool) →
      cond completed (go (Passed place) cs ms s) (visit place (λ a. go (Answered place a)) cs ms s) ≡ Whole (cond completed (done (Passed place) ms s) answers)
  passing_says true = refl
  passing_says false = visit_says

  hears_says : (kind : Kind) → hears kind place go cs ms s ≡ Whole (says kind cs place ms s)
  unfolding visit_or_pass
  hears_says Parallel = passing_says (is_completed ((child_at cs place).status ms))
  hears_says _ = visit_says

-- ---- A list of what is told

abbrev heards : List Told → List Heard
heards told = map (λ (t : Told). t.heard) told

module _ (kind : Kind) (rest : Rule) (cs : List Child) where
  abbrev Rest : List Told → List Memory → State → Done Given (List Memory)
  Rest told ms s = follow (all_say kind cs told ms s) (λ ms1. ms1) (λ _ ms1 s1. rest cs ms1 s1)

  -- two ways to go on that agree where the children have said so
  go_on_alike : (r : Done (Unit {0}) (List Memory)) (h : Heard) (place : ℕ) (one other : Heard → List Memory → State → Done Given (List Memory)) →
      r.answer ≡ Ok tt → (says kind cs place r.memory r.state).answer ≡ Ok h →
      one h (says kind cs place r.memory r.state).memory (says kind cs place r.memory r.state).state ≡ other h (says kind cs place r.memory r.state).memory (says kind cs place r.memory r.state).state →
      follow r (λ ms1. ms1) (λ _ ms1 s1. follow (says kind cs place ms1 s1) (λ ms2. ms2) one) ≡ follow r (λ ms1. ms1) (λ _ ms1 s1. follow (says kind cs place ms1 s1) (λ ms2. ms2) other)
  go_on_alike r h place one other reset_is said_is alike =
      let d : Done Heard (List Memory) = says kind cs place r.memory r.state in
      answered_follow r tt (λ _ ms1 s1. follow (says kind cs place ms1 s1) (λ ms2. ms2) one) reset_is
      ∙ ap (following r.notes r.calls) (answered_follow d h one said_is ∙ ap (following d.notes d.calls) alike ∙ sym (answered_follow d h other said_is))
      ∙ sym (answered_follow r tt (λ _ ms1 s1. follow (says kind cs place ms1 s1) (λ ms2. ms2) other) reset_is)

  -- what is said first, and then the others
  rest_is : (t : Told) (more : List Told) (ms : List Memory) (s : State) →
      Rest (t ∷ more) ms s ≡ follow (resets t.reset cs 0 ms s) (λ ms1. ms1) (λ _ ms1 s1. follow (says kind cs (place_of t.heard) ms1 s1) (λ ms2. ms2) (λ _ ms2 s2. Rest more ms2 s2))
  rest_is t more ms s =
      let end : List Heard → List Memory → State → Done Given (List Memory) = λ _ ms1 s1. rest cs ms1 s1 in
      let others : Heard → List Memory → State → Done (List Heard) (List Memory) = λ h ms2 s2. follow (all_say kind cs more ms2 s2) (λ ms3. ms3) (λ l ms3 s3. done (h ∷ l) ms3 s3) in
      follow_twice end (resets t.reset cs 0 ms s) (λ _ ms1 s1. follow (says kind cs (place_of t.heard) ms1 s1) (λ ms2. ms2) others)
      ∙ (λ i. follow (resets t.reset cs 0 ms s) (λ ms1. ms1) (λ _ ms1 s1. follow_twice end (says kind cs (place_of t.heard) ms1 s1) others i))
      ∙ (λ i. follow (resets t.reset cs 0 ms s) (λ ms1. ms1) (λ _ ms1 s1. follow (says kind cs (place_of t.heard) ms1 s1) (λ ms2. ms2)
      (λ h ms2 s2. follow_twice end (all_say kind cs more ms2 s2) (λ l ms3 s3. done (h ∷ l) ms3 s3) i)))

  pub told_is_said : (told : List Told) (rule : Rule) → Hears kind rule told rest → (ms : List Memory) (s : State) →
      (all_say kind cs told ms s).answer ≡ Ok (heards told) → rule cs ms s ≡ Rest told ms s
  told_is_said [] rule is ms s said = ap (λ (r : Rule). r cs ms s) is
  told_is_said (t ∷ more) rule is ms s said =
      let place : ℕ = place_of t.heard in
      let go : Heard → Rule = is.0 in
      let r : Done (Unit {0}) (List Memory) = resets t.reset cs 0 ms s in
      let d : Done Heard (List Memory) = says kind cs place r.memory r.state in
      let l : Done (List Heard) (List Memory) = all_say kind cs more d.memory d.state in
      let others : Heard → List Memory → State → Done (List Heard) (List Memory) = λ h ms2 s2. follow (all_say kind cs more ms2 s2) (λ ms3. ms3) (λ hs ms3 s3. done (h ∷ hs) ms3 s3) in
      let first = first_answered r (λ _ ms1 s1. follow (says kind cs place ms1 s1) (λ ms2. ms2) others) (t.heard ∷ heards more) said in
      let second = first_answered d others (t.heard ∷ heards more) first.2 in
      let third = first_answered l (λ hs ms3 s3. done (second.0 ∷ hs) ms3 s3) (t.heard ∷ heards more) second.2 in
      let same_heard : second.0 ≡ t.heard = head_is second.0 t.heard third.0 (heards more) third.2 in
      let same_others : third.0 ≡ heards more = tail_is second.0 t.heard third.0 (heards more) third.2 in
      ap (λ (x : Rule). x cs ms s) is.1
      ∙ resets_first t.reset (hears kind place go) cs ms s
      ∙ (λ i. follow r (λ ms1. ms1) (λ _ ms1 s1. hears_says place go cs ms1 s1 kind i))
      ∙ go_on_alike r second.0 place (λ h ms2 s2. go h cs ms2 s2) (λ _ ms2 s2. Rest more ms2 s2) first.1 second.1
      (ap (λ (h : Heard). go h cs d.memory d.state) same_heard ∙ told_is_said more (go t.heard) is.2 d.memory d.state (third.1 ∙ ap Ok same_others))
      ∙ sym (rest_is t more ms s)
    where
      head_is : (h h1 : Heard) (hs hs1 : List Heard) → ◌≡◌ {A = Result (List Heard) NodeFault} (Ok (h ∷ hs)) (Ok (h1 ∷ hs1)) → h ≡ h1
      head_is h h1 hs hs1 e = cc

      tail_is : (h h1 : Heard) (hs hs1 : List Heard) → ◌≡◌ {A = Result (List Heard) NodeFault} (Ok (h ∷ hs)) (Ok (h1 ∷ hs1)) → hs ≡ hs1
      tail_is h h1 hs hs1 e = cc
