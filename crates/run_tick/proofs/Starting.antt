-- The memos with which the rule of a node can begin.
use Rattle.std.proofs.Common.{◌≡◌, ℕ, zero, suc, ◌+◌, ◌<◌, ◌≤◌, ◌^◌, ℤ, pos, negsuc, int_le, List, [], ◌∷◌, ◌++◌, length, find, Bool, true, false, ◌&&◌, ◌||◌, cond, codes, Option, Some, None, Ok, sym, subst, ◌∙◌, arith, ⊎_elim, nat_eq}
use Rattle.std.proofs.lemmas.Bool.{and_parts, cases_lt, cond_both, eqb-true, leb-true, or_cases}
use Rattle.std.proofs.lemmas.List.{get_or_past}
use Rattle.std.proofs.lemmas.List.Sums.{count_by-le-length}
use Rattle.std.specs.Prelude.{decimal, IsTrue}
use Rattle.std.specs.List.{list_all}
use Rattle.std.specs.Ordering.{int_eq}
use Rattle.std.specs.Str.{bytes_eq}
use Rattle.spec_script.specs.declared.value.Value.{Value}
use Rattle.spec_script.specs.declared.value.Value.TheVariants.{Int}
use Rattle.spec_tree.specs.declared.built_ins.Range.{Range}
use Rattle.spec_tree.specs.declared.built_ins.Range.TheVariants as range
use Rattle.spec_run.specs.declared.memory.Memo.{Memo}
use Rattle.spec_run.specs.declared.memory.Memo.TheVariants.{Chosen, Counts as Counted, Turns as Turned, Recoveries as Recovering, Rotation as Rotating}
use Rattle.spec_run.specs.declared.memory.Turns.{Turns}
use Rattle.spec_run.specs.declared.status.Status.{Status}
use Rattle.spec_run.specs.declared.status.Status.TheVariants.{Idle, Running}
use Rattle.spec_tree.specs.declared.term.Kind.{Kind}
use Rattle.spec_tree.specs.declared.term.Kind.TheVariants.{Parallel, Switch, IfThenElse, WhileDoElse, RecoveryNode, RoundRobin, Retry, Repeat}
use Rattle.spec_tree.specs.declared.term.Port.{Port}
use Rattle.spec_tree.specs.declared.term.PortValue.{PortValue}
use Rattle.spec_tree.specs.declared.term.PortValue.TheVariants.{Lit, Key}
use Rattle.spec_tree.specs.BuiltIns.{PortRule, fits, required, takes, with_default}
use Rattle.spec_run.specs.Done.{State}
use Rattle.base_tables.specs.Moves.{TurnIsLeft}
use Rattle.spec_run.specs.Ports.{case_from, given_by, is_case, picked, selected, text_at}
use Rattle.spec_run.specs.Rules.Turns.{limit_of}
use Rattle.base_tables.specs.Shapes.{IsGiven, IsGivenAt, TurnsGoOn, is_failure, is_success, status_at}
use Rattle.spec_run.specs.Sites.{Site}
use Rattle.spec_tree.specs.Trees.{is_one_of, ports_fit}
use Rattle.spec_tree.specs.Values.{is_plain, value_fits}
use Rattle.run_laws.proofs.Beginnings.{Begins}
use Rattle.run_tick.specs.Turns.{CanBegin, CanPick}

-- ---- What is picked

case_within : (site : Site) (s : State) (left place : ℕ) (text : List ℕ) → case_from site s left place text ≤ place + left
case_within site s zero place text = omega arith
case_within site s (suc left) place text =
    let more = case_within site s left (place + 1) text in
    cond_both (is_case (text_at site s (codes "case_" ++ decimal (place + 1))) text) place (case_from site s left (place + 1) text) (λ (p : ℕ). p ≤ place + suc left) (λ _. omega arith) (λ _. omega (arith, more))

selected_within : (site : Site) (s : State) (cases : ℕ) (text : Option (List ℕ)) → selected site s cases text ≤ cases
selected_within site s cases (Some text) = omega (arith, case_within site s cases 0 text)
selected_within site s cases None = omega arith

-- what is picked can be picked
pub picks_so : (kind : Kind) (site : Site) (memo : Memo) (s : State) (place : ℕ) → picked kind site memo s ≡ Ok place → CanPick kind place
picks_so (Switch cases) site memo s place is =
    let same : selected site s cases (text_at site s (codes "variable")) ≡ place = cc in
    omega (arith, same, selected_within site s cases (text_at site s (codes "variable")))
picks_so _ site memo s place is = tt

-- ---- Limits of turns and recoveries

-- a limit, where it is one, is at most 1000
abbrev Small : ℤ → Type 0
Small (pos limit) = limit ≤ 1000
Small (negsuc n) = Unit {0}

-- the numbers of a range are such limits
abbrev AreSmall : Range → Type 0
AreSmall r = (k : ℤ) → fits r (Int k) ≡ true → Small k

turns_small : AreSmall range.Turns
turns_small (negsuc n) e = tt
turns_small (pos limit) e = ⊎_elim
    (λ same. absurd (not_same same))
    (λ between. leb-true limit 1000 (and_parts (int_le (pos 1) (pos limit)) (int_le (pos limit) (pos 1000)) between).1)
    (or_cases (int_eq (pos limit) (negsuc 0)) (int_le (pos 1) (pos limit) && int_le (pos limit) (pos 1000)) e)
  where
    not_same : int_eq (pos limit) (negsuc 0) ≡ true → ⊥
    not_same same = cc

recoveries_small : AreSmall range.Recoveries
recoveries_small (negsuc n) e = tt
recoveries_small (pos limit) e = leb-true limit 1000 (and_parts (int_le (pos 0) (pos limit)) (int_le (pos limit) (pos 1000)) e).1

fits_by : (b c : Bool) → cond b c false ≡ true → c ≡ true
fits_by true c e = e
fits_by false c e = cc

module _ (rule : PortRule) (small : AreSmall rule.range) where
  given_small : (given : PortValue) (k : ℤ) → value_fits rule.range given ≡ true → IsGiven rule.range (Some given) k → Small k
  given_small (Key key) k fit is = small k is
  given_small (Lit value) k fit is = small k (subst (λ (v : Value). fits rule.range v ≡ true) is (and_parts (is_plain value) (fits rule.range value) fit).1)

  first_small : (first : Port) (ports : List Port) (k : ℤ) → value_fits rule.range first.value ≡ true → (IsGivenAt rule.range ports rule.name k → Small k) →
      (b : Bool) → IsGiven rule.range (given_by (cond b (Some first) (find (λ (port : Port). bytes_eq port.name rule.name) ports))) k → Small k
  first_small first ports k fit others true given = given_small first.value k fit given
  first_small first ports k fit others false given = others given

  -- what the one port of a kind is given
  ports_small : (ports : List Port) (k : ℤ) → list_all (is_one_of (rule ∷ [])) ports ≡ true → IsGivenAt rule.range ports rule.name k → Small k
  ports_small [] k fit is = absurd is
  ports_small (first ∷ ports) k fit is =
      let parts = and_parts (is_one_of (rule ∷ []) first) (list_all (is_one_of (rule ∷ [])) ports) fit in
      first_small first ports k (fits_by (bytes_eq first.name rule.name) (value_fits rule.range first.value) parts.0) (λ given. ports_small ports k parts.1 given) (bytes_eq first.name rule.name) is

abbrev attempts : PortRule
attempts = required (codes "num_attempts") range.Turns

abbrev cycles : PortRule
cycles = required (codes "num_cycles") range.Turns

abbrev recoveries : PortRule
recoveries = with_default (codes "number_of_retries") range.Recoveries (codes "1")

-- where a Retry or Repeat goes on, a turn is left
turn_left : (t : Turns) → Small t.limit → TurnsGoOn t t.limit → TurnIsLeft t.done (limit_of t.limit)
turn_left t = by t.limit
  where
    by : (limit : ℤ) → Small limit → TurnsGoOn t limit → TurnIsLeft t.done (limit_of limit)
    by (pos limit) small goes = (goes, omega (arith, small))
    by (negsuc n) small goes = tt

-- ---- Beginnings

-- a RUNNING child is one of the children
runs_there : (ss : List Status) (place : ℕ) → status_at ss place ≡ Running → place < length ss
runs_there ss place runs = ⊎_elim
    (λ within. within)
    (λ past. absurd (not_idle (sym (get_or_past ss place Idle past) ∙ runs)))
    (cases_lt place (length ss))
  where
    not_idle : Idle ≡ Running → ⊥
    not_idle e = cc

two_children : (n : ℕ) → (nat_eq n 2 || nat_eq n 3) ≡ true → 2 ≤ n
two_children n e = ⊎_elim (λ two. omega (arith, eqb-true n 2 two)) (λ three. omega (arith, eqb-true n 3 three)) (or_cases (nat_eq n 2) (nat_eq n 3) e)

-- where the rule of a node can begin with a memo, so can its moves
pub begins_so : (ports : List Port) (moment n : ℕ) (ss : List Status) → n ≡ length ss → n < 2 ^ 30 → (kind : Kind) (memo : Memo) → IsTrue (takes kind n) → IsTrue (ports_fit kind ports) → Begins kind ports moment memo ss → CanBegin kind n memo
begins_so ports moment n ss all few Parallel (Counted c) takes_so fit counted = λ picked can. omega (arith, all, few, counted.successes, counted.failures, counted.skipped, count_by-le-length is_success ss, count_by-le-length is_failure ss)
begins_so ports moment n ss all few (Switch cases) memo takes_so fit begins = λ picked can. omega (arith, eqb-true n (cases + 1) takes_so, can)
begins_so ports moment n ss all few IfThenElse (Chosen None) takes_so fit begins = λ picked can. (two_children n takes_so, tt)
begins_so ports moment n ss all few IfThenElse (Chosen (Some place)) takes_so fit begins = λ picked can. (two_children n takes_so, omega (arith, all, runs_there ss place begins.runs))
begins_so ports moment n ss all few WhileDoElse memo takes_so fit begins = λ picked can. two_children n takes_so
begins_so ports moment n ss all few RecoveryNode (Recovering r) takes_so fit begins = λ picked can.
    let small : r.limit ≤ 1000 = ports_small recoveries recoveries_small ports (pos r.limit) (and_parts (list_all (is_one_of (recoveries ∷ [])) ports) _ fit).0 begins.0.limit in
    (eqb-true n 2 takes_so, (omega (arith, small), begins.0.goes_on))
begins_so ports moment n ss all few RoundRobin (Rotating r) takes_so fit begins = λ picked can.
    let is = begins.0 (omega (arith, all, leb-true 1 n takes_so)) in
    (omega (arith, all, is.at), omega (arith, all, is.passed), is.skipped)
begins_so ports moment n ss all few Retry (Turned t) takes_so fit begins = λ picked can.
    turn_left t (ports_small attempts turns_small ports t.limit (and_parts (list_all (is_one_of (attempts ∷ [])) ports) _ fit).0 begins.0.limit) begins.0.goes_on
begins_so ports moment n ss all few Repeat (Turned t) takes_so fit begins = λ picked can.
    turn_left t (ports_small cycles turns_small ports t.limit (and_parts (list_all (is_one_of (cycles ∷ [])) ports) _ fit).0 begins.0.limit) begins.0.goes_on
begins_so ports moment n ss all few Parallel memo takes_so fit begins = absurd begins
begins_so ports moment n ss all few IfThenElse memo takes_so fit begins = absurd begins
begins_so ports moment n ss all few RecoveryNode memo takes_so fit begins = absurd begins
begins_so ports moment n ss all few RoundRobin memo takes_so fit begins = absurd begins
begins_so ports moment n ss all few Retry memo takes_so fit begins = absurd begins
begins_so ports moment n ss all few Repeat memo takes_so fit begins = absurd begins
begins_so ports moment n ss all few _ memo takes_so fit begins = λ picked can. tt
