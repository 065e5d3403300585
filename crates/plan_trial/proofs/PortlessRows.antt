-- A call of a row without input ports ends in no fault whose cause has a name in it.
use Rattle.std.proofs.Common.{◌≡◌, ℕ, zero, suc, ◌+◌, ◌-◌, ℤ, ◌+ℤ◌, Bool, true, false, not, nat_lt, if◌then◌else◌, List, [], ◌∷◌, ◌++◌, length, map, Option, Some, None, Result, Ok, Err, IfSome, refl, sym, subst, ◌∙◌, arith, append_assoc}
use Rattle.std.specs.Prelude.{is_some, nat_abs, slice_index_or, unwrap_or, pos, negsuc, nat_le, int_le, int_div, int_rem, neg_ℤ, ◌-ℤ◌, ◌*ℤ◌, ◌&&◌, ◌^◌}
use Rattle.std.specs.List.{All, Contains}
use Rattle.std.specs.Ordering.{int_eq}
use Rattle.std.specs.Result.{IfErr}
use Rattle.std.specs.Str.{bytes_eq}
use Rattle.std.proofs.lemmas.Bool.{cond_both}
use Rattle.std.proofs.lemmas.List.{length-append, length-map}
use Rattle.std.proofs.lemmas.List.Elements.{All-head, All-tail, All-weaker}
use Rattle.std.proofs.lemmas.Slice.Eq.{bytes_eq-Decides}
use Rattle.std.proofs.Math.Seq.{get_or-append_seam}
use Rattle.spec_script.specs.declared.cells.Seen.{Seen}
use Rattle.spec_script.specs.declared.cells.Seen.TheVariants as seen
use Rattle.spec_script.specs.declared.fault.ExecFault.{ExecFault}
use Rattle.spec_script.specs.declared.fault.ExecFault.TheVariants as exec
use Rattle.spec_script.specs.declared.syntax.BinOp.{BinOp}
use Rattle.spec_script.specs.declared.syntax.BinOp.TheVariants.{Add, Sub, Mul, Div, And, Or, BitAnd, BitOr, BitXor, Compare}
use Rattle.spec_script.specs.declared.syntax.Expr.{Expr, ind-Expr, map-Expr, fold-roll-Expr}
use Rattle.spec_script.specs.declared.syntax.Expr.TheOpen.{Expr-F, Num, Lit, Look, Group, Unary, Binary, Choose}
use Rattle.spec_script.specs.declared.syntax.UnOp.{UnOp}
use Rattle.spec_script.specs.declared.syntax.UnOp.TheVariants.{Neg, Not, Flip}
use Rattle.spec_script.specs.declared.value.Value.{Value}
use Rattle.spec_script.specs.declared.value.Value.TheVariants.{Int, Text}
use Rattle.spec_script.specs.Entries.{look_of, seen_number}
use Rattle.spec_script.specs.Evaluation.{eval_of, eval_step}
use Rattle.spec_script.specs.Operators.{binary_on, both, bounded, chosen, combined, either, in_order, int_value, is_true, number_in, on_int, on_ints, on_texts, quotient, truth, unary_on}
use Rattle.base_texts.specs.Results.{◌>>=◌}
use Rattle.spec_script.specs.Scripts.{names_of, names_step}
use Rattle.spec_run.specs.declared.fault.Cause.{Cause}
use Rattle.spec_run.specs.declared.fault.Cause.TheVariants.{NoEntry, NoInput, Range}
use Rattle.spec_run.specs.declared.leaf.Instance.{Instance}
use Rattle.spec_run.specs.declared.leaf.Phase.{Phase}
use Rattle.spec_run.specs.declared.leaf.Reply.{Reply}
use Rattle.spec_run.specs.declared.leaf.Reply.TheVariants.{Running, Success, Failure, Broken}
use Rattle.spec_tree.specs.Limits.{last_moment}
use Rattle.spec_tree.specs.Numbers.{in_range}
use Rattle.spec_world.specs.declared.world.Fact.{Fact}
use Rattle.spec_world.specs.declared.world.How.{How}
use Rattle.spec_world.specs.declared.world.How.TheVariants.{To, By}
use Rattle.spec_world.specs.declared.world.Out.{Out}
use Rattle.spec_world.specs.declared.world.Row.{Row}
use Rattle.spec_world.specs.declared.world.RowSort.{RowSort}
use Rattle.spec_world.specs.declared.world.RowSort.TheVariants.{Is, When, Timed, TimedBy, Replay, Gate, Sensed, Told}
use Rattle.spec_world.specs.declared.world.Set.{Set}
use Rattle.spec_world.specs.declared.world.Telling.{Telling}
use Rattle.spec_world.specs.declared.world.Telling.TheVariants as telling
use Rattle.spec_run.specs.Leaf.{Answered, Rule, Test, Way, Tests, Lasts, LastsBy, Replays, Waits, Heeds, Obeys, answer_by, as_length, as_number, cause_of, caused, completed, completion, decided, effects_of, fact_at, finished, held, judged, lasting_for, leaf_rule, length_of, made_by, measured, number_of, outcome_at, outputs_of, padded, place_from, place_of, released, replied, rule_answer, sights, rule_by, sensed, start_of, test_of, timed_end, told_end, truth_of, way_of, with_output, worked_out}
use Rattle.spec_world.specs.Worlds.{IsExprOver, IsValidRow, IsValidSort, names_of_facts}
use Rattle.run_driver.proofs.Parts.{All-left, All-right}

-- the causes that name neither an entry nor an input
abbrev pub HasNoName : Cause → Type 0
HasNoName (NoEntry slot) = ⊥
HasNoName (NoInput place) = ⊥
HasNoName _ = Unit {0}

-- ---- Expressions

-- what follows a result ends in no other fault
then_ends : {A B E : Type 0} (P : E → Type 0) (r : Result A E) (go : A → Result B E) → IfErr r P → ((a : A) → IfErr (go a) P) → IfErr (r >>= go) P
then_ends P (Ok a) go end goes = goes a
then_ends P (Err e) go end goes = end

-- all that was looked at was there
abbrev AllThere : {A : Type 0} → Result A ExecFault → Type 0
AllThere r = IfErr r (λ (fault : ExecFault). HasNoName (cause_of fault))

then_there : {A B : Type 0} (r : Result A ExecFault) (go : A → Result B ExecFault) → AllThere r → ((a : A) → AllThere (go a)) → AllThere (r >>= go)
then_there r go there goes = then_ends (λ (fault : ExecFault). HasNoName (cause_of fault)) r go there goes

if_there : {A : Type 0} (b : Bool) (one other : Result A ExecFault) → AllThere one → AllThere other → AllThere (if b then one else other)
if_there b one other first second = cond_both b one other (λ r. AllThere r) (λ _. first) (λ _. second)

bounded_there : (z : ℤ) → AllThere (bounded z)
bounded_there z = if_there (int_le (negsuc (2 ^ 63 - 1)) z && int_le z (pos (2 ^ 63 - 1))) (Ok z) (Err exec.Overflow) tt tt

quotient_there : (x y : ℤ) → AllThere (quotient x y)
quotient_there x y = if_there (int_eq y (pos 0)) (Err exec.ZeroDivisor) _ tt (then_there (bounded (int_div x y)) _ (bounded_there (int_div x y)) (λ q. if_there (int_eq (int_rem x y) (pos 0)) (Ok q) (Err exec.NotWhole) tt tt))

on_int_there : (op : UnOp) (x : ℤ) → AllThere (on_int op x)
on_int_there Neg x = bounded_there (neg_ℤ x)
on_int_there Not x = tt
on_int_there Flip x = tt

on_ints_there : (op : BinOp) (x y : ℤ) → AllThere (on_ints op x y)
on_ints_there Add x y = bounded_there (x +ℤ y)
on_ints_there Sub x y = bounded_there (x -ℤ y)
on_ints_there Mul x y = bounded_there (x *ℤ y)
on_ints_there Div x y = quotient_there x y
on_ints_there _ x y = tt

on_texts_there : (op : BinOp) (s t : List ℕ) → AllThere (on_texts op s t)
on_texts_there Add s t = if_there (nat_le (length s + length t) 4096) (Ok (Text (s ++ t))) (Err exec.TextTooLong) tt tt
on_texts_there _ s t = tt

int_there : (r : Result ℤ ExecFault) → AllThere r → AllThere (int_value r)
int_there (Ok n) there = tt
int_there (Err fault) there = there

unary_there : (op : UnOp) (v : Value) → AllThere (unary_on op v)
unary_there op (Int x) = int_there (on_int op x) (on_int_there op x)
unary_there op (Text t) = tt

binary_there : (op : BinOp) (v w : Value) → AllThere (binary_on op v w)
binary_there op (Int x) (Int y) = int_there (on_ints op x y) (on_ints_there op x y)
binary_there op (Text s) (Text t) = on_texts_there op s t
binary_there op (Int x) (Text t) = tt
binary_there op (Text s) (Int y) = tt

number_in_there : (v : Value) → AllThere (number_in v)
number_in_there (Int n) = tt
number_in_there (Text t) = tt

module _ (left right : Result Value ExecFault) (first : AllThere left) (second : AllThere right) where
  -- the right side as a truth
  right_there : AllThere (right >>= number_in >>= λ y. Ok (Int (truth (is_true y))))
  right_there = then_there (right >>= number_in) _ (then_there right number_in second number_in_there) (λ y. tt)

  both_there : AllThere (both left right)
  both_there = then_there (left >>= number_in) _ (then_there left number_in first number_in_there) (λ x. if_there (is_true x) _ (Ok (Int (pos 0))) right_there tt)

  either_there : AllThere (either left right)
  either_there = then_there (left >>= number_in) _ (then_there left number_in first number_in_there) (λ x. if_there (is_true x) (Ok (Int (pos 1))) _ tt right_there)

  in_order_there : (op : BinOp) → AllThere (in_order op left right)
  in_order_there op = then_there left _ first (λ x. then_there right _ second (λ y. binary_there op x y))

  combined_there : (op : BinOp) → AllThere (combined op left right)
  combined_there And = both_there
  combined_there Or = either_there
  combined_there Add = in_order_there Add
  combined_there Sub = in_order_there Sub
  combined_there Mul = in_order_there Mul
  combined_there Div = in_order_there Div
  combined_there BitAnd = in_order_there BitAnd
  combined_there BitOr = in_order_there BitOr
  combined_there BitXor = in_order_there BitXor
  combined_there (Compare c) = in_order_there (Compare c)

chosen_there : (test one other : Result Value ExecFault) → AllThere test → AllThere one → AllThere other → AllThere (chosen test one other)
chosen_there test one other there first second = then_there (test >>= number_in) _ (then_there test number_in there number_in_there) (λ x. if_there (is_true x) one other first second)

module _ (look : List ℕ → Result Value ExecFault) where
  abbrev IsThere : List ℕ → Type 0
  IsThere name = AllThere (look name)

  abbrev ExprThere : Expr → Type 0
  ExprThere e = All IsThere (names_of e) → AllThere (eval_of look e)

  -- a node of an expression, where it holds of its parts
  there_at : (y : Expr-F ((e : Expr) × ExprThere e)) → All IsThere (names_step (map-Expr Expr (List (List ℕ)) names_of (map-Expr ((e : Expr) × ExprThere e) Expr (λ e. e.0) y))) →
      AllThere (eval_step look (map-Expr Expr (Result Value ExecFault) (eval_of look) (map-Expr ((e : Expr) × ExprThere e) Expr (λ e. e.0) y)))
  there_at (Num n) all = tt
  there_at (Lit t) all = tt
  there_at (Look name) all = All-head IsThere name [] all
  there_at (Group a) all = a.1 all
  there_at (Unary op a) all = then_there (eval_of look a.0) (unary_on op) (a.1 all) (unary_there op)
  there_at (Binary op a b) all =
      combined_there (eval_of look a.0) (eval_of look b.0) (a.1 (All-left IsThere (names_of a.0) (names_of b.0) all)) (b.1 (All-right IsThere (names_of a.0) (names_of b.0) all)) op
  there_at (Choose a b c) all =
      let front = All-left IsThere (names_of a.0 ++ names_of b.0) (names_of c.0) all in
      chosen_there (eval_of look a.0) (eval_of look b.0) (eval_of look c.0) (a.1 (All-left IsThere (names_of a.0) (names_of b.0) front)) (b.1 (All-right IsThere (names_of a.0) (names_of b.0) front))
      (c.1 (All-right IsThere (names_of a.0 ++ names_of b.0) (names_of c.0) all))

  expr_there : (e : Expr) → ExprThere e
  expr_there = ind-Expr ExprThere (λ x y is all.
      subst (λ (r : Result Value ExecFault). AllThere r) (sym (fold-roll-Expr (Result Value ExecFault) (eval_step look) x))
      (subst (λ (z : Expr-F Expr). All IsThere (names_step (map-Expr Expr (List (List ℕ)) names_of z)) → AllThere (eval_step look (map-Expr Expr (Result Value ExecFault) (eval_of look) z))) is (there_at y)
      (subst (All IsThere) (fold-roll-Expr (List (List ℕ)) names_step x) all)))

-- ---- Names of facts

-- a name among some facts, which come after these sights
fact_there : (names : List (List ℕ)) (facts : List ℤ) (before : List Seen) (place : ℕ) (name : List ℕ) → length before ≡ place → length facts ≡ length names → Contains names name →
    AllThere (look_of (before ++ map (λ n. seen.Int n) facts) (place_from place names name 0))
fact_there [] facts before place name at many among = absurd (let low = among.1 in omega (arith, low))
fact_there (first ∷ names) [] before place name at many among = absurd (omega (arith, many))
fact_there (first ∷ names) (n ∷ facts) before place name at many among =
    let later : List Seen = map (λ n. seen.Int n) facts in
    let here : slice_index_or (before ++ seen.Int n ∷ later) place seen.Absent ≡ seen.Int n =
    subst (λ k. slice_index_or (before ++ seen.Int n ∷ later) k seen.Absent ≡ seen.Int n) at (get_or-append_seam before (seen.Int n) later seen.Absent) in
    let next : bytes_eq first name ≡ false → AllThere (look_of (before ++ seen.Int n ∷ later) (place_from (place + 1) names name 0)) = λ other.
    subst (λ (sights : List Seen). AllThere (look_of sights (place_from (place + 1) names name 0))) (append_assoc before (seen.Int n ∷ []) later)
    (fact_there names facts (before ++ seen.Int n ∷ []) (place + 1) name (omega (arith, at, length-append before (seen.Int n ∷ []))) (omega (arith, many)) (among_rest among other)) in
    elim (bytes_eq first name) as (λ b. bytes_eq first name ≡ b → AllThere (look_of (before ++ seen.Int n ∷ later) (if b then place else place_from (place + 1) names name 0))) [
      | true ↦ λ is. subst (λ (sight : Seen). AllThere (seen_number place sight)) (sym here) tt
      | false ↦ next
    ] refl where
      among_rest : Contains (first ∷ names) name → bytes_eq first name ≡ false → Contains names name
      among_rest (zero, low, is) other = absurd (let same : bytes_eq first name ≡ true = (bytes_eq-Decides first name).1 is in let w : true ≡ false = sym same ∙ other in cc)
      among_rest (suc k, low, is) other = (k, omega (arith, low), is)

-- an answer, or a fault without a name
abbrev pub ReplyThere : Reply → Type 0
ReplyThere (Broken cause) = HasNoName cause
ReplyThere _ = Unit {0}

module _ (names : List Fact) (facts : List ℤ) (many : length facts ≡ length names) where
  abbrev NoName : {A : Type 0} → Result A Cause → Type 0
  NoName r = IfErr r HasNoName

  abbrev places : List ℕ → ℕ
  places = place_of [] names

  number_there : (e : Expr) → IsExprOver [] (names_of_facts names) e → NoName (number_of places e [] facts)
  number_there e over =
      let look : List ℕ → Result Value ExecFault = λ name. look_of (sights [] facts) (places name) in
      let all : length facts ≡ length (names_of_facts names) = omega (arith, many, length-map names (λ (f : Fact). f.name)) in
      as_number_there (eval_of look e)
      (expr_there look e (All-weaker (Contains (names_of_facts names)) (IsThere look) (λ name among. fact_there (names_of_facts names) facts (padded []) 8 name refl all among) (names_of e) over.named)) where
        as_number_there : (r : Result Value ExecFault) → AllThere r → NoName (as_number r)
        as_number_there (Ok (Int n)) there = tt
        as_number_there (Ok (Text t)) there = tt
        as_number_there (Err fault) there = there

  test_there : (e : Expr) → IsExprOver [] (names_of_facts names) e → NoName (test_of places e [] facts)
  test_there e over = truth_there (number_of places e [] facts) (number_there e over) where
    truth_there : (r : Result ℤ Cause) → NoName r → NoName (truth_of r)
    truth_there (Ok n) there = tt
    truth_there (Err cause) there = there

  -- ---- Completions

  then_no_name : {A B : Type 0} (r : Result A Cause) (go : A → Result B Cause) → NoName r → ((a : A) → NoName (go a)) → NoName (r >>= go)
  then_no_name r go there goes = then_ends HasNoName r go there goes

  abbrev IsOver : Out → Type 0
  IsOver out = IsExprOver [] (names_of_facts names) out.expr

  outputs_there : (outs : List Out) → All IsOver outs → NoName (outputs_of (map (λ (out : Out). number_of places out.expr) outs) [] facts)
  outputs_there [] over = tt
  outputs_there (out ∷ outs) over =
      output_there (number_of places out.expr [] facts) (outputs_of (map (λ (out : Out). number_of places out.expr) outs) [] facts)
      (number_there out.expr (All-head IsOver out outs over)) (outputs_there outs (All-tail IsOver out outs over)) where
        output_there : (r : Result ℤ Cause) (rest : Result (List ℤ) Cause) → NoName r → NoName rest → NoName (with_output r rest)
        output_there (Err cause) rest there later = there
        output_there (Ok n) (Err cause) there later = later
        output_there (Ok n) (Ok ns) there later = tt

  made_there : (how : How) (number value : ℤ) → NoName (made_by how number value)
  made_there To number value = tt
  made_there By number value = caused_there (bounded (value +ℤ number)) (bounded_there (value +ℤ number)) where
    caused_there : (r : Result ℤ ExecFault) → AllThere r → NoName (caused r)
    caused_there (Ok n) there = tt
    caused_there (Err fault) there = there

  effects_there : (sets : List Set) → NoName (effects_of sets facts)
  effects_there [] = tt
  effects_there (s ∷ ss) = then_no_name (made_by s.how s.value (fact_at facts s.fact)) _ (made_there s.how s.value (fact_at facts s.fact)) (λ value. then_no_name (effects_of ss facts) _ (effects_there ss) (λ left. tt))

  -- ---- Calls

  judged_there : (r : Result Bool Cause) → NoName r → (instance : Instance) (go : Bool → Answered) → ((b : Bool) → ReplyThere (go b).reply) → ReplyThere (judged r instance facts go).reply
  judged_there (Ok b) there instance go goes = goes b
  judged_there (Err cause) there instance go goes = there

  measured_there : (r : Result ℕ Cause) → NoName r → (instance : Instance) (go : ℕ → Answered) → ((ms : ℕ) → ReplyThere (go ms).reply) → ReplyThere (measured r instance facts go).reply
  measured_there (Ok ms) there instance go goes = goes ms
  measured_there (Err cause) there instance go goes = there

  length_there : (r : Result ℤ Cause) → NoName r → (b : Bool) (kept : ℕ) → NoName (if b then Ok kept else as_length r)
  length_there r there true kept = tt
  length_there (Err cause) there false kept = there
  length_there (Ok n) there false kept = cond_both (in_range (pos 0) (pos last_moment) n) (Ok (nat_abs n)) (Err Range) (λ (l : Result ℕ Cause). NoName l) (λ _. tt) (λ _. tt)

  -- what is looked at by a way to answer is there
  abbrev WayThere : Way → Type 0
  WayThere (Tests test) = NoName (test [] facts)
  WayThere (Lasts ms fails) = IfSome fails (λ test. NoName (test [] facts))
  WayThere (LastsBy length fails) = NoName (length [] facts) × IfSome fails (λ test. NoName (test [] facts))
  WayThere (Replays ms outcomes) = Unit {0}
  WayThere (Waits test) = NoName (test [] facts)
  WayThere Heeds = Unit {0}
  WayThere Obeys = Unit {0}

  module _ (rule : Rule) (outs : NoName (outputs_of rule.outs [] facts)) (instance : Instance) where
    completion_there : (after : Instance) → ReplyThere (completion rule instance after [] facts).reply
    completion_there after =
        finished_there (worked_out rule [] facts) (then_no_name (outputs_of rule.outs [] facts) _ outs (λ outputs. then_no_name (effects_of rule.sets facts) _ (effects_there rule.sets) (λ left. tt))) where
          finished_there : (r : Result (List ℤ × List ℤ) Cause) → NoName r → ReplyThere (finished r instance after facts).reply
          finished_there (Ok (outputs, left)) there = tt
          finished_there (Err cause) there = there

    decided_there : (b : Bool) (after : Instance) → ReplyThere (decided b rule instance after [] facts).reply
    decided_there true after = completion_there after
    decided_there false after = tt

    timed_there : (fails : Option Test) → IfSome fails (λ test. NoName (test [] facts)) → ReplyThere (timed_end fails rule instance [] facts).reply
    timed_there None there = completion_there (released instance)
    timed_there (Some fails) there = judged_there (fails [] facts) there instance (λ b. decided (not b) rule instance (released instance) [] facts) (λ b. decided_there (not b) (released instance))

    either_reply : (b : Bool) (one other : Answered) → ReplyThere one.reply → ReplyThere other.reply → ReplyThere (if b then one else other).reply
    either_reply b one other first second = cond_both b one other (λ (a : Answered). ReplyThere a.reply) (λ _. first) (λ _. second)

    tested_there : (b : Bool) → ReplyThere (replied (if b then Success else Failure) (released instance) facts).reply
    tested_there true = tt
    tested_there false = tt

    sensed_there : (told : Option Telling) → ReplyThere (sensed told)
    sensed_there None = tt
    sensed_there (Some (telling.Success outs)) = tt
    sensed_there (Some telling.Failure) = tt

    told_there : (told : Option Telling) (since : ℕ) → ReplyThere (told_end told since instance facts).reply
    told_there None since = tt
    told_there (Some (telling.Success outs)) since = tt
    told_there (Some telling.Failure) since = tt

    answer_there : (way : Way) → WayThere way → (since now : ℕ) → ReplyThere (answer_by way rule since instance [] facts now).reply
    answer_there (Tests test) there since now = judged_there (test [] facts) there instance _ tested_there
    answer_there (Lasts ms fails) there since now = either_reply (nat_lt (now - since) ms) (replied Running (held since instance) facts) (timed_end fails rule instance [] facts) tt (timed_there fails there)
    answer_there (LastsBy length fails) there since now =
        measured_there (length_of length instance [] facts) (length_there (length [] facts) there.0 (is_some instance.since) (unwrap_or instance.length 0)) instance _
        (λ ms. either_reply (nat_lt (now - since) ms) (replied Running (held since (lasting_for ms instance)) facts) (timed_end fails rule instance [] facts) tt (timed_there fails there.1))
    answer_there (Replays ms outcomes) there since now =
        let b : Bool = outcome_at outcomes instance.completions in
        either_reply (nat_lt (now - since) ms) (replied Running (held since instance) facts) (decided b rule instance (completed instance) [] facts) tt (decided_there b (completed instance))
    answer_there (Waits test) there since now =
        judged_there (test [] facts) there instance _ (λ b. either_reply b (completion rule instance (released instance) [] facts) (replied Running (held since instance) facts) (completion_there (released instance)) tt)
    answer_there Heeds there since now = sensed_there instance.told
    answer_there Obeys there since now = told_there instance.told since

  way_there : (sort : RowSort) → IsValidSort names [] sort → WayThere (way_of places sort)
  way_there (Is fact op value) valid = tt
  way_there (When e) valid = test_there e valid
  way_there (Timed ms None) valid = tt
  way_there (Timed ms (Some e)) valid = test_there e valid.1
  way_there (TimedBy e None) valid = (number_there e valid.0, tt)
  way_there (TimedBy e (Some fails)) valid = (number_there e valid.0, test_there fails valid.1)
  way_there (Replay ms outcomes) valid = tt
  way_there (Gate e) valid = test_there e valid
  way_there Sensed valid = tt
  way_there (Told outs) valid = tt

  -- a call of a row without input ports
  pub portless_there : (rows : List Row) (row : Row) → IsValidRow names rows row → row.ports ≡ [] → (phase : Phase) (instance : Instance) (now : ℕ) → ReplyThere (leaf_rule names row phase instance [] facts now).reply
  portless_there rows row valid none phase instance now =
      let rule : Rule = rule_by places row in
      subst (λ (ports : List (List ℕ)). ReplyThere (rule_answer (rule_by (place_of ports names) row) phase instance [] facts now).reply) (sym none)
      (answer_there rule (outputs_there row.outs (subst (λ (ports : List (List ℕ)). All (λ out. IsExprOver ports (names_of_facts names) out.expr) row.outs) none valid.outputs)) instance rule.way
      (way_there row.sort (subst (λ (ports : List (List ℕ)). IsValidSort names ports row.sort) none valid.sort)) (start_of phase instance now) now)
