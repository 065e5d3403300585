-- The Sequence and Fallback kinds, and Parallel.
use Rattle.std.proofs.Common.{◌≡◌, ℕ, zero, suc, ◌+◌, ◌-◌, ◌<◌, List, [], ◌∷◌, length, Bool, true, false, nat_eq, refl, sym, ap, subst, ◌∙◌, arith, if◌then◌else◌}
use Rattle.std.proofs.lemmas.Bool.{and_from, and_parts, cond_both}
use Rattle.spec_run.specs.declared.memory.Counts.{Counts}
use Rattle.spec_run.specs.declared.memory.Memo.TheVariants.{Nothing, Index, Counts as Counted}
use Rattle.spec_run.specs.declared.moves.Span.TheVariants as span
use Rattle.spec_run.specs.declared.status.Answer.{Answer}
use Rattle.spec_run.specs.declared.status.Answer.TheVariants as answer
use Rattle.spec_run.specs.declared.status.RoundEnd.TheVariants.{AtChild, AfterLast}
use Rattle.spec_tree.specs.declared.term.Kind.{Kind}
use Rattle.spec_tree.specs.declared.term.Kind.TheVariants.{SequenceWithMemory, Parallel}
use Rattle.spec_tree.specs.declared.term.Port.{Port}
use Rattle.spec_world.specs.declared.world.Row.{Row}
use Rattle.spec_run.specs.Rules.Parallels.{counted, failure_holds, parallel, parallel_after, success_holds}
use Rattle.spec_run.specs.Rules.Sequences.{passes, reactive_end, round, sequence_end, with_memory_end}
use Rattle.spec_run.specs.Steps.{Given, Rule, keep, over}
use Rattle.spec_run.specs.Visit.{status_of}
use Rattle.spec_dead.specs.declared.answers.Answers.{Answers}
use Rattle.spec_dead.specs.Reached.{all_pass, answers_at}
use Rattle.spec_dead.specs.Rules.{all_skip, last_skips, round_answers, rule_answers}
use Rattle.tree_dead.proofs.Fits.{Begins, CameTo, RestsWith, SkipsAll, SkipsLast, MemoOf, all_skip_before}
use Rattle.tree_dead.proofs.RoundSteps.{end_in, round_goes, runs_here, skip_in, stop_in}
use Rattle.tree_dead.proofs.Sets.{Has}
use Rattle.tree_dead.proofs.Words.{Children, Goes, answers_here, keep_goes, over_goes, pass_goes, reset_goes, visit_goes}

-- what a node of a kind gives: an answer that its rule may give, and a memo that it may keep
abbrev pub Gives : Kind → List Port → List Answers → Given → Type 0
Gives kind ports children g = Has g.answer (rule_answers kind ports children) × MemoOf kind ports children (status_of g.answer) g.memo

-- ---- Skipped children

pub skips_more : (children : List Answers) (place : ℕ) → place < length children → SkipsAll children place → (answers_at children place).skipped ≡ true → SkipsAll children (place + 1)
skips_more children place within before here =
    let next : suc place ≡ place + 1 = omega arith in
    subst (λ (k : ℕ). SkipsAll children k) next (and_from (all_skip_before children place) (answers_at children place).skipped before here)

-- if all before the place after the first are skipped, then so is the first, and all before the place among the others
skips_parts : (c : Answers) (cs : List Answers) (place : ℕ) → all_skip_before (c ∷ cs) (suc place) ≡ true → (c.skipped ≡ true) × (all_skip_before cs place ≡ true)
skips_parts c cs zero e = (e, refl)
skips_parts c cs (suc place) e =
    let parts : (all_skip_before (c ∷ cs) (suc place) ≡ true) × ((answers_at cs place).skipped ≡ true) = and_parts (all_skip_before (c ∷ cs) (suc place)) (answers_at cs place).skipped e in
    let first : (c.skipped ≡ true) × (all_skip_before cs place ≡ true) = skips_parts c cs place parts.0 in
    (first.0, and_from (all_skip_before cs place) (answers_at cs place).skipped first.1 parts.1)

pub skips_whole : (children : List Answers) → all_skip_before children (length children) ≡ true → all_skip children ≡ true
skips_whole [] e = refl
skips_whole (c ∷ cs) e =
    let parts : (c.skipped ≡ true) × (all_skip_before cs (length cs) ≡ true) = skips_parts c cs (length cs) e in
    and_from c.skipped (all_skip cs) parts.0 (skips_whole cs parts.1)

last_more : (children : List Answers) (place : ℕ) → place < length children → SkipsLast children place → (answers_at children place).skipped ≡ true → SkipsLast children (place + 1)
last_more children place within before here = λ past.
    let last : place ≡ length children - 1 = omega (arith, within, past) in
    ap (λ (k : ℕ). (answers_at children k).skipped) (sym last) ∙ here

-- ---- Rounds

module _ (is_dead : ℕ → Bool) (rows : List Row) (n : Children is_dead rows) where
  abbrev all : List Answers
  all = answers_here is_dead rows n

  module _ (kind : Kind) (ports : List Port) (goes : Answer) (b : Bool) (set : rule_answers kind ports all ≡ round_answers goes b all) (nothing : RestsWith kind all Nothing)
      (rests : (goes ≡ answer.Running → ⊥)) (skips : ℕ → Type 0) (whole : skips (length all) → b ≡ true) where
    abbrev Fit : Rule → Type 0
    Fit rule = Goes is_dead rows n (Gives kind ports all) rule

    in_set : (a : Answer) → Has a (round_answers goes b all) → Has a (rule_answers kind ports all)
    in_set a has = subst (λ (x : Answers). Has a x) (sym set) has

    over_fits : (a : Answer) → (a ≡ answer.Running → ⊥) → Has a (round_answers goes b all) → Fit (over a)
    over_fits answer.Running ends has = absurd (ends refl)
    over_fits answer.Success ends has = over_goes is_dead rows n (Gives kind ports all) answer.Success (in_set answer.Success has, nothing)
    over_fits answer.Failure ends has = over_goes is_dead rows n (Gives kind ports all) answer.Failure (in_set answer.Failure has, nothing)
    over_fits answer.Skipped ends has = over_goes is_dead rows n (Gives kind ports all) answer.Skipped (in_set answer.Skipped has, nothing)

    -- after the last child
    pub end_fits : (seen : Bool) → CameTo goes skips all (length all) seen → Fit (sequence_end goes (AfterLast seen))
    end_fits true came = over_fits goes rests (end_in goes all b came.passed (came.saw refl))
    end_fits false came = over_fits answer.Skipped (λ e. cc) (skip_in goes all b (whole (came.skipped refl)))

    -- at a child
    pub stop_fits : ((place : ℕ) → CameTo goes skips all place true → Begins kind ports all (Index place true)) → (place : ℕ) (seen : Bool) (a : Answer) → place < length all → CameTo goes skips all place seen → passes goes a ≡ false →
        Has a (answers_at all place) → Fit (sequence_end goes (AtChild place a))
    stop_fits begins place seen answer.Running within came stop has =
        keep_goes is_dead rows n (Gives kind ports all) answer.Running (Index place true)
        (in_set answer.Running (stop_in goes all b place answer.Running within came.passed stop has), begins place (runs_here goes all skips place seen within came has))
    stop_fits begins place seen answer.Success within came stop has = over_fits answer.Success (λ e. cc) (stop_in goes all b place answer.Success within came.passed stop has)
    stop_fits begins place seen answer.Failure within came stop has = over_fits answer.Failure (λ e. cc) (stop_in goes all b place answer.Failure within came.passed stop has)
    stop_fits begins place seen answer.Skipped within came stop has = over_fits answer.Skipped (λ e. cc) (stop_in goes all b place answer.Skipped within came.passed stop has)

    -- at a child of a reactive node
    pub reactive_stop_fits : ((place : ℕ) → Begins kind ports all (Index place true)) → (place : ℕ) (seen : Bool) (a : Answer) → place < length all → CameTo goes skips all place seen → passes goes a ≡ false →
        Has a (answers_at all place) → Fit (reactive_end goes (AtChild place a))
    reactive_stop_fits begins place seen answer.Running within came stop has =
        reset_goes is_dead rows n (Gives kind ports all) (span.AllBut place) (keep answer.Running (Index place true))
        (keep_goes is_dead rows n (Gives kind ports all) answer.Running (Index place true) (in_set answer.Running (stop_in goes all b place answer.Running within came.passed stop has), begins place))
    reactive_stop_fits begins place seen answer.Success within came stop has = over_fits answer.Success (λ e. cc) (stop_in goes all b place answer.Success within came.passed stop has)
    reactive_stop_fits begins place seen answer.Failure within came stop has = over_fits answer.Failure (λ e. cc) (stop_in goes all b place answer.Failure within came.passed stop has)
    reactive_stop_fits begins place seen answer.Skipped within came stop has = over_fits answer.Skipped (λ e. cc) (stop_in goes all b place answer.Skipped within came.passed stop has)

    pub reactive_last_fits : (seen : Bool) → CameTo goes skips all (length all) seen → Fit (reactive_end goes (AfterLast seen))
    reactive_last_fits true came = end_fits true came
    reactive_last_fits false came = end_fits false came

  -- at the start of a round
  begin_all : (goes : Answer) → CameTo goes (SkipsAll all) all 0 false
  begin_all goes = record { inside = omega arith; passed = refl; saw = λ e. cc; skipped = λ e. refl }

  -- ---- The kinds

  module _ (kind : Kind) (ports : List Port) (goes : Answer) (set : rule_answers kind ports all ≡ round_answers goes (all_skip all) all) (nothing : RestsWith kind all Nothing) (rests : goes ≡ answer.Running → ⊥)
      (comes : (place : ℕ) → all_pass goes all place ≡ true → n.visits place ≡ true) where
    abbrev Fitting : Rule → Type 0
    Fitting rule = Goes is_dead rows n (Gives kind ports all) rule

    -- a Sequence or Fallback from a place within its children on
    pub sequence_fits : ((place : ℕ) → CameTo goes (SkipsAll all) all place true → Begins kind ports all (Index place true)) → (place : ℕ) (seen : Bool) → CameTo goes (SkipsAll all) all place seen →
        Fitting (round goes (sequence_end goes) (length all - place) place seen)
    sequence_fits begins place seen came =
        round_goes is_dead rows n (Gives kind ports all) goes (SkipsAll all) (sequence_end goes) (skips_more all) comes
        (stop_fits kind ports goes (all_skip all) set nothing rests (SkipsAll all) (skips_whole all) begins)
        (end_fits kind ports goes (all_skip all) set nothing rests (SkipsAll all) (skips_whole all))
        (length all - place) place seen (omega (arith, came.inside)) came

    pub reactive_fits : ((place : ℕ) → Begins kind ports all (Index place true)) → Fitting (round goes (reactive_end goes) (length all) 0 false)
    reactive_fits begins =
        round_goes is_dead rows n (Gives kind ports all) goes (SkipsAll all) (reactive_end goes) (skips_more all) comes
        (reactive_stop_fits kind ports goes (all_skip all) set nothing rests (SkipsAll all) (skips_whole all) begins)
        (reactive_last_fits kind ports goes (all_skip all) set nothing rests (SkipsAll all) (skips_whole all))
        (length all) 0 false (omega arith) (begin_all goes)

  -- ---- SequenceWithMemory

  module _ (ports : List Port) (comes : (place : ℕ) → all_pass answer.Success all place ≡ true → n.visits place ≡ true) where
    abbrev MemoryFit : Rule → Type 0
    MemoryFit rule = Goes is_dead rows n (Gives SequenceWithMemory ports all) rule

    last_whole : SkipsLast all (length all) → last_skips all ≡ true
    last_whole skipped = skipped (omega arith)

    memory_stop : (place : ℕ) (seen : Bool) (a : Answer) → place < length all → CameTo answer.Success (SkipsLast all) all place seen → passes answer.Success a ≡ false → Has a (answers_at all place) →
        MemoryFit (with_memory_end (AtChild place a))
    memory_stop place seen answer.Failure within came stop has =
        reset_goes is_dead rows n (Gives SequenceWithMemory ports all) (span.From place) (keep answer.Failure (Index place false))
        (keep_goes is_dead rows n (Gives SequenceWithMemory ports all) answer.Failure (Index place false) (stop_in answer.Success all (last_skips all) place answer.Failure within came.passed stop has, (came.passed, within)))
    memory_stop place seen answer.Running within came stop has = stop_fits SequenceWithMemory ports answer.Success (last_skips all) refl tt (λ e. cc) (SkipsLast all) last_whole (λ place came. came) place seen answer.Running within came stop has
    memory_stop place seen answer.Success within came stop has = cc
    memory_stop place seen answer.Skipped within came stop has = cc

    memory_last : (seen : Bool) → CameTo answer.Success (SkipsLast all) all (length all) seen → MemoryFit (with_memory_end (AfterLast seen))
    memory_last true came = end_fits SequenceWithMemory ports answer.Success (last_skips all) refl tt (λ e. cc) (SkipsLast all) last_whole true came
    memory_last false came = end_fits SequenceWithMemory ports answer.Success (last_skips all) refl tt (λ e. cc) (SkipsLast all) last_whole false came

    pub memory_fits : (place : ℕ) (seen : Bool) → CameTo answer.Success (SkipsLast all) all place seen → MemoryFit (round answer.Success with_memory_end (length all - place) place seen)
    memory_fits place seen came =
        round_goes is_dead rows n (Gives SequenceWithMemory ports all) answer.Success (SkipsLast all) with_memory_end (last_more all) comes memory_stop memory_last
        (length all - place) place seen (omega (arith, came.inside)) came

  -- ---- Parallel

  module _ (ports : List Port) (comes : (place : ℕ) → n.visits place ≡ true) where
    abbrev ParallelFit : Rule → Type 0
    ParallelFit rule = Goes is_dead rows n (Gives Parallel ports all) rule

    any_over : (a : Answer) → (a ≡ answer.Running → ⊥) → ParallelFit (over a)
    any_over answer.Running ends = absurd (ends refl)
    any_over answer.Success ends = over_goes is_dead rows n (Gives Parallel ports all) answer.Success (refl, tt)
    any_over answer.Failure ends = over_goes is_dead rows n (Gives Parallel ports all) answer.Failure (refl, tt)
    any_over answer.Skipped ends = over_goes is_dead rows n (Gives Parallel ports all) answer.Skipped (refl, tt)

    after_fits : (children : ℕ) (c : Counts) (others : Rule) → ParallelFit others → ParallelFit (parallel_after children c others)
    after_fits children c others rest =
        cond_both (success_holds c) (over answer.Success) (if failure_holds children c then over answer.Failure else others) ParallelFit
        (λ _. any_over answer.Success (λ e. cc))
        (λ _. cond_both (failure_holds children c) (over answer.Failure) others ParallelFit (λ _. any_over answer.Failure (λ e. cc)) (λ _. rest))

    pub parallel_fits : (children left place : ℕ) (c : Counts) → ParallelFit (parallel children left place c)
    parallel_fits children zero place c =
        cond_both (nat_eq c.skipped children) (over answer.Skipped) (keep answer.Running (Counted (record c { skipped = 0 }))) ParallelFit
        (λ _. any_over answer.Skipped (λ e. cc))
        (λ _. keep_goes is_dead rows n (Gives Parallel ports all) answer.Running (Counted (record c { skipped = 0 })) (refl, tt))
    parallel_fits children (suc left) place c =
        let go : Answer → Rule = λ a. parallel_after children (counted a c) (parallel children left (place + 1) (counted a c)) in
        pass_goes is_dead rows n (Gives Parallel ports all) place (parallel_after children c (parallel children left (place + 1) c)) go
        (after_fits children c (parallel children left (place + 1) c) (parallel_fits children left (place + 1) c))
        (visit_goes is_dead rows n (Gives Parallel ports all) place go (comes place) (λ a _. after_fits children (counted a c) (parallel children left (place + 1) (counted a c)) (parallel_fits children left (place + 1) (counted a c))))
