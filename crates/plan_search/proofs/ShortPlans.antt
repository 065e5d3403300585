-- What is written of a plan that reaches the goals is a file that is not too long.
use Rattle.std.proofs.Common.{◌≡◌, inl, inr, ℕ, zero, suc, ◌+◌, ◌*◌, ◌-◌, ◌/◌, ◌%◌, ◌≤◌, ◌==◌, false, List, [], ◌∷◌, ◌++◌, length, map, Option, sym, ap, subst, arith, length-append}
use Rattle.std.specs.Prelude.{decimal, nat_le}
use Rattle.std.specs.Fmt.{digit_glyph, digits, digits_onto}
use Rattle.std.specs.List.{concat}
use Rattle.std.specs.Option.{option_map_or}
use Rattle.std.proofs.lemmas.Bool.{cond_both}
use Rattle.std.proofs.lemmas.Bool.Decides.{nat_tests}
use Rattle.std.proofs.lemmas.List.{length-map}
use Rattle.std.proofs.lemmas.Option.{slice_get_cases}
use Rattle.spec_script.proofs.Bools.{both}
use Rattle.spec_script.specs.Identifiers.{is_identifier}
use Rattle.spec_tree.specs.Limits.{most_name_bytes}
use Rattle.spec_tree.specs.PrintedTree.{tree_lines}
use Rattle.spec_tree.specs.declared.term.Tree.{Tree as Planned}
use Rattle.spec_world.specs.declared.world.Row.{Row}
use Rattle.spec_world.specs.declared.world.World.{World}
use Rattle.spec_world.specs.Worlds.{IsValidWorld}
use Rattle.spec_output.specs.NoNames.{no_names}
use Rattle.spec_plan.specs.declared.ending.End.{End}
use Rattle.spec_plan.specs.declared.ending.End.TheVariants.{Reached, NoTemplate, NoOrder, Expansions, StillRunning, Faulted}
use Rattle.spec_plan.specs.declared.ending.Limits.{Limits}
use Rattle.spec_plan.specs.declared.ending.PlanEnd.{PlanEnd}
use Rattle.spec_plan.specs.declared.ending.Step.{Step}
use Rattle.spec_plan.specs.declared.part.Part.TheVariants.{Action, Condition}
use Rattle.spec_plan.specs.Achievers.{needs_of}
use Rattle.spec_plan.specs.Expansion.{NewKeys, expanded, expanded_below, goal_tree, grown, leaves, new_sequence}
use Rattle.spec_plan.specs.Forests.{Ancestor, Forest, ancestors, times}
use Rattle.spec_plan.specs.Planned.{id_of}
use Rattle.spec_plan.specs.PlanLines.{end_line, step_line}
use Rattle.spec_plan.specs.PlanRuns.{Ends, IsFirst, IsStep, Lead, PlanRun, Trial, tree_of}
use Rattle.spec_plan.specs.Settling.{AreRaises}
use Rattle.plan_tree.specs.Sizes.{height}
use Rattle.plan_tree.proofs.Counted.{height-changed, height-grown, height-leaves, one_of}
use Rattle.plan_search.specs.Reached.{AreInRange}
use Rattle.plan_search.specs.Written.{IsShort}
use Rattle.plan_search.proofs.Growths.{condition_of}
use Rattle.plan_search.proofs.Headed.{IsLedTree}
use Rattle.plan_search.proofs.Named.{first_tree, lead_led}
use Rattle.plan_search.proofs.Nearer.{raised_is, raised_many}
use Rattle.plan_search.proofs.PrintedLength.{tree_len}
use Rattle.plan_search.proofs.RowsThere.{HasRow, named_at, valid_row}
use Rattle.plan_search.proofs.Spread.{LeavesFit, bare_at, expanded_fit, expanded_spread, goals_fit, height_moved, leaves_spread, moved_fit, new_spread, own_few, spread, spread_moved, times_over}

-- ---- Trees

-- the most bytes of a tree to which so many sequences were added
abbrev pub most_bytes : ℕ → ℕ
most_bytes zero = 4879
most_bytes (suc n) = most_bytes n + (1784 + 84 * n)

record IsSmall (n : ℕ) (f : Forest) : Type 0 where
  apart : (j : ℕ) → times j f ≤ 1
  fit : LeavesFit f
  low : height f ≤ 2 + 2 * n
  few : spread 0 f ≤ most_bytes n

small_as : (n m : ℕ) (f : Forest) → n ≡ m → IsSmall n f → IsSmall m f
small_as n m f is small = subst (λ (k : ℕ). IsSmall k f) is small

module _ (world : World) (valid : IsValidWorld world) where
  needs_few : (n : ℕ) → length (needs_of world.rows n) ≤ 16
  needs_few n = elim (slice_get_cases world.rows n).1 [
    | inl (row, within, there, at) ↦
        let e : needs_of world.rows n ≡ row.needs = ap (λ (o : Option Row). option_map_or (λ (r : Row). r.needs) o []) there in
        let few = (valid_row world valid n row there).needs.few in
        omega (arith, few, ap length e)
    | inr (past, none) ↦
        let e : needs_of world.rows n ≡ [] = ap (λ (o : Option Row). option_map_or (λ (r : Row). r.needs) o []) none in
        omega (arith, ap length e)
  ]

  first_small : (first : Forest) → IsFirst world first → IsSmall 0 first
  first_small first is = record {
    apart = is.apart.once;
    fit = subst LeavesFit (sym is.is) (goals_fit is.root is.keys world.goals);
    low =
        let e : height first ≡ height (goal_tree is.root is.keys world.goals) = ap height is.is in
        let one = height-leaves is.keys (map Condition world.goals) in
        omega (arith, e, one);
    few =
        let e : spread 0 first ≡ spread 0 (goal_tree is.root is.keys world.goals) = ap (spread 0) is.is in
        let few = valid.goals.few in
        let many = length-map world.goals Condition in
        let lower = leaves_spread 64 1 is.keys (map Condition world.goals) (omega (arith, few, many)) in
        let own = own_few 0 (leaves is.keys (map Condition world.goals)) in
        omega (arith, e, lower, own);
  }

  parts_few : (row : ℕ) → length (map Condition (needs_of world.rows row) ++ Action row ∷ []) ≤ 17
  parts_few row =
      let few = needs_few row in
      let many = length-map (needs_of world.rows row) Condition in
      let both = length-append (map Condition (needs_of world.rows row)) (Action row ∷ []) in
      omega (arith, few, many, both)

  new_low : (keys : NewKeys) (row : ℕ) → height (new_sequence world.rows keys row) ≤ 2
  new_low keys row = let one = height-leaves keys.leaves (map Condition (needs_of world.rows row) ++ Action row ∷ []) in omega (arith, one)

  above_low : (above : List Ancestor) (k fallback : ℕ) (new f : Forest) → height new ≤ 2 → height (expanded_below above k fallback new f) ≤ height f + 2
  above_low [] k fallback new f low = omega arith
  above_low (parent ∷ outer) k fallback new f low = height-changed parent.key (λ part. grown part k fallback new) f (λ part g. height-grown part k fallback new g low)

  raises_small : (n m sequence : ℕ) (f after : Forest) → IsSmall n f → AreRaises world.rows sequence m f after → IsSmall n after
  raises_small n zero sequence f after small raises = subst (IsSmall n) raises small
  raises_small n (suc m) sequence f after small (pair, next, conflict, is, raises) =
      let moved = raised_is sequence f next is in
      raises_small n m sequence next after (record {
        apart = λ (j : ℕ). let few = small.apart j in let same = raised_many (λ k x. one_of k j) sequence f next small.apart is in omega (arith, few, same);
        fit = subst LeavesFit moved.1 (moved_fit moved.0 f small.fit);
        low = let e = ap height moved.1 in let low = small.low in let same = height_moved moved.0 f in omega (arith, e, low, same);
        few = let e = ap (spread 0) moved.1 in let few = small.few in let same = spread_moved moved.0 0 f in omega (arith, e, few, same);
      }) raises

  module _ (limits : Limits) where
    step_small : (n : ℕ) (t : Trial) (s : Step) (next : Forest) → IsSmall n t.tree → IsStep world limits t s next → IsSmall (suc n) next
    step_small n t s next small is =
        let keys = is.grows.keys in
        let row = is.template.row in
        let key = is.place.key in
        let at = condition_of world t.tree key is.template is.grows.untried in
        let bare = bare_at t.tree key at.0 at.1 small.apart small.fit in
        let e : is.grown ≡ expanded world.rows keys key row t.tree = is.grows.is in
        raises_small (suc n) s.raises is.sequence is.grown next (record {
          apart = is.grows.apart.once;
          fit = subst LeavesFit (sym e) (expanded_fit world.rows keys key row t.tree small.fit);
          low = let same = ap height e in let more = above_low (ancestors key t.tree) key keys.fallback (new_sequence world.rows keys row) t.tree (new_low keys row) in let low = small.low in omega (arith, same, more, low);
          few =
              let same = ap (spread 0) e in
              let more = expanded_spread world.rows keys key row (2 + 2 * n) t.tree small.apart small.low bare
              (λ level. new_spread keys.sequence row keys.leaves (map Condition (needs_of world.rows row) ++ Action row ∷ []) (parts_few row) level) in
              let few = small.few in
              omega (arith, same, more, few);
        }) is.settles.raised

    lead_small : (trials : List Trial) (steps : List Step) (n : ℕ) (f after : Forest) → IsSmall n f → Lead world limits n f trials steps after → IsSmall (n + length steps) after
    lead_small [] [] n f after small lead = small_as n (n + 0) after (omega arith) (subst (IsSmall n) lead small)
    lead_small (t ∷ trials) (s ∷ steps) n f after small lead =
        let next = lead.3 in
        small_as (n + 1 + length steps) (n + length (s ∷ steps)) after (omega arith)
        (lead_small trials steps (n + 1) next.0 after (small_as (suc n) (n + 1) next.0 (omega arith) (step_small n t s next.0 (subst (IsSmall n) (sym lead.0) small) next.1)) next.2)
    lead_small [] (s ∷ steps) n f after small lead = absurd lead
    lead_small (t ∷ trials) [] n f after small lead = absurd lead

    few_steps : (trials : List Trial) (steps : List Step) (n : ℕ) (f after : Forest) → n ≤ limits.expand → Lead world limits n f trials steps after → n + length steps ≤ limits.expand
    few_steps [] [] n f after few lead = omega (arith, few)
    few_steps (t ∷ trials) (s ∷ steps) n f after few lead =
        let next = lead.3 in
        let room = lead.2 in
        let later = few_steps trials steps (n + 1) next.0 after (omega (arith, room)) next.2 in
        omega (arith, later)
    few_steps [] (s ∷ steps) n f after few lead = absurd lead
    few_steps (t ∷ trials) [] n f after few lead = absurd lead

-- the bound of fewer sequences is no higher
bytes_rise : (n m : ℕ) → most_bytes n ≤ most_bytes (n + m)
bytes_rise n zero = let e : n + 0 ≡ n = omega arith in subst (λ (k : ℕ). most_bytes n ≤ most_bytes k) (sym e) (omega arith)
bytes_rise n (suc m) =
    let lower = bytes_rise n m in
    let e : suc (n + m) ≡ n + suc m = omega arith in
    subst (λ (k : ℕ). most_bytes n ≤ most_bytes k) e (omega (arith, lower))

most_few : (n : ℕ) → n ≤ 120 → most_bytes n ≤ 820000
most_few n few =
    let more = bytes_rise n (120 - n) in
    let e : n + (120 - n) ≡ 120 = omega (arith, few) in
    let last : most_bytes (n + (120 - n)) ≡ most_bytes 120 = ap most_bytes e in
    omega (arith, more, last)

-- ---- Steps

digits_few : (k n : ℕ) (rest : List ℕ) → length (digits_onto k 10 false n rest) ≤ k + length rest
digits_few zero n rest = omega arith
digits_few (suc k) n rest =
    let later = digits_few k (n / 10) (digit_glyph false (n % 10) ∷ rest) in
    cond_both (n / 10 == 0) (digit_glyph false (n % 10) ∷ rest) (digits_onto k 10 false (n / 10) (digit_glyph false (n % 10) ∷ rest)) (λ z. length z ≤ suc k + length rest)
    (λ _. omega arith) (λ _. omega (arith, later))

decimal_few : (n : ℕ) → length (decimal n) ≤ 64
unfolding digits
decimal_few n = digits_few 64 n []

module _ (world : World) (valid : IsValidWorld world) (limits : Limits) where
  id_few : (n : ℕ) → length (id_of world.rows n) ≤ 64
  id_few n = elim (slice_get_cases world.rows n).1 [
    | inl (row, within, there, at) ↦
        let id : id_of world.rows n ≡ row.id = ap (λ (o : Option Row). option_map_or (λ (r : Row). r.id) o []) there in
        let named = both (is_identifier row.id) (nat_le (length row.id) most_name_bytes) (named_at world valid n row there) in
        let short : length row.id ≤ 64 = grind (arith, nat_tests, named.1) in
        omega (arith, short, ap length id)
    | inr (past, none) ↦
        let e : id_of world.rows n ≡ [] = ap (λ (o : Option Row). option_map_or (λ (r : Row). r.id) o []) none in
        omega (arith, ap length e)
  ]

  step_few : (s : Step) → length s.condition ≤ 64 → length s.action ≤ 64 → length (step_line s) ≤ 283
  step_few s condition action =
      let uid = decimal_few s.uid in
      let raises = decimal_few s.raises in
      simp length-append (omega (arith, uid, raises, condition, action))

  lead_few : (n : ℕ) (trials : List Trial) (steps : List Step) (added : ℕ) (f after : Forest) → length steps ≤ n → Lead world limits added f trials steps after → length (concat (map step_line steps)) ≤ times_over n 283
  lead_few n [] [] added f after few lead = omega arith
  lead_few zero (t ∷ trials) (s ∷ steps) added f after few lead = absurd (omega (arith, few))
  lead_few (suc n) (t ∷ trials) (s ∷ steps) added f after few lead =
      let next = lead.3 in
      let is = next.1 in
      let condition = id_few is.place.row in
      let action = id_few is.template.row in
      let own = step_few s (omega (arith, condition, ap length is.condition)) (omega (arith, action, ap length is.action)) in
      let later = lead_few n trials steps (added + 1) next.0 after (omega (arith, few)) next.2 in
      let parts = length-append (step_line s) (concat (map step_line steps)) in
      omega (arith, own, later, parts)
  lead_few n [] (s ∷ steps) added f after few lead = absurd lead
  lead_few n (t ∷ trials) [] added f after few lead = absurd lead

  end_few : (tree : Planned) (tick : ℕ) → length (end_line no_names (Reached tree tick)) ≤ 90
  end_few tree tick =
      let digits = decimal_few tick in
      simp length-append (omega (arith, digits))

  -- ---- Files

  file_few : (steps : List Step) (tree : Planned) (tick : ℕ) → length (concat (map step_line steps)) ≤ 33960 → length (concat (tree_lines tree)) ≤ 820280 → IsShort steps (Reached tree tick)
  file_few steps tree tick first last =
      let own = end_few tree tick in
      let both = length-append (concat (map step_line steps)) (end_line no_names (Reached tree tick) ++ concat (tree_lines tree)) in
      let rest = length-append (end_line no_names (Reached tree tick)) (concat (tree_lines tree)) in
      omega (arith, own, both, rest, first, last)

  led_len : (f : Forest) → IsLedTree (HasRow world.rows) f → length (concat (tree_lines (tree_of world.rows f))) ≤ 280 + spread 0 f
  led_len f led = subst (λ (g : Forest). length (concat (tree_lines (tree_of world.rows g))) ≤ 280 + spread 0 g) (sym led.is) (tree_len world valid led.root led.below)

  end_short : (added : ℕ) (t : Trial) (steps : List Step) (end : End) → length (concat (map step_line steps)) ≤ 33960 → length (concat (tree_lines (tree_of world.rows t.tree))) ≤ 820280 → Ends world limits added t end → IsShort steps end
  end_short added t steps (Reached tree tick) first last ends = file_few steps tree tick first (subst (λ (x : Planned). length (concat (tree_lines x)) ≤ 820280) (sym ends.1) last)
  end_short added t steps (NoTemplate names) first last ends = tt
  end_short added t steps (NoOrder action condition) first last ends = tt
  end_short added t steps (Expansions n) first last ends = tt
  end_short added t steps (StillRunning n) first last ends = tt
  end_short added t steps (Faulted uid cause) first last ends = tt

  -- a plan is no longer than a tree file may be
  pub ends_short : (planned : PlanEnd) (trials : List Trial) (last : Trial) → AreInRange limits → PlanRun world limits planned trials last → IsShort planned.steps planned.end
  ends_short planned trials last range run =
      let most = range.expand in
      let added = few_steps world valid limits trials planned.steps 0 run.first last.tree (omega arith) run.lead in
      let few : length planned.steps ≤ 120 = omega (arith, most, added) in
      let lines = lead_few 120 trials planned.steps 0 run.first last.tree few run.lead in
      let small = lead_small world valid limits trials planned.steps 0 run.first last.tree (first_small world valid run.first run.is_first) run.lead in
      let bytes = most_few (0 + length planned.steps) (omega (arith, few)) in
      let own = small.few in
      let led = lead_led world valid limits trials planned.steps 0 run.first last.tree (first_tree world valid run.first run.is_first) run.lead in
      let tree = led_len last.tree led in
      end_short (length planned.steps) last planned.steps planned.end (omega (arith, lines)) (omega (arith, tree, own, bytes)) run.ends
