-- What is given of a line is what the definition says.
use Rattle.std.proofs.Common.{◌≡◌, ℕ, Bool, true, false, ◌==◌, List, length, Option, Some, None, Result, Ok, Err, refl, sym, ap, ◌∙◌, subst, if◌then◌else◌}
use Rattle.std.specs.Prelude.{bytes_eq, codes, option_and_then, option_map}
use Rattle.std.specs.Str.Parse.{signed_digits_value}
use Rattle.base_texts.specs.declared.stop.Stop.{Stop}
use Rattle.base_texts.specs.declared.stop.Stop.TheVariants as stop
use Rattle.base_texts.specs.Results.{◌>>=◌}
use Rattle.base_texts.specs.Stops.{Gives}
use Rattle.spec_script.specs.declared.syntax.Expr.{Expr}
use Rattle.spec_tree.specs.Numbers.{is_canonical, number_in}
use Rattle.spec_world_file.specs.WorldFile.{ReadsNumeric, following, word}
use Rattle.spec_expect.specs.declared.expect_fault.ExpectFaultKind.{ExpectFaultKind}
use Rattle.spec_expect.specs.declared.expect_fault.ExpectFaultKind.TheVariants.{BadLine}
use Rattle.spec_expect.specs.declared.expectation.Expectation.{Expectation}
use Rattle.spec_expect.specs.declared.place.Pick.{Pick}
use Rattle.spec_expect.specs.declared.place.Place.{Place}
use Rattle.spec_expect.specs.ExpectFile.{FormSays, Line, Says, SaysOf, StartsOnlyLine, Subject, last_pick, leaves_in, only_line, pick_at_front, then_pick}
use Rattle.expect_reader.specs.Reading.{GivesSaid, IsBadLine, ReadsAs, alone, last_after}

-- what is given is what is said of an expression that was read
pub says_some : (text : List ℕ) (e : Expr) (rule : Expr → Result Expectation ExpectFaultKind) (said : Result Expectation ExpectFaultKind) → ReadsNumeric text (Some e) → said ≡ rule e → SaysOf text rule said
says_some text e rule said reads is = record { expr = Some e; reads = reads; is = is }

-- .. and of one that was not
pub says_none : (text : List ℕ) (rule : Expr → Result Expectation ExpectFaultKind) (s : Stop ExpectFaultKind) → ReadsAs text (Err s) → GivesSaid {X = Expectation} (Err s) (SaysOf text rule)
says_none text rule stop.NoMemory reads = tt
says_none text rule (stop.Fault BadLine) reads = record { expr = None; reads = reads; is = refl }
says_none text rule (stop.Fault kind) reads = absurd reads

pub number_is : (w text : List ℕ) → w ≡ word 0 text → is_canonical w ≡ true → number_in (word 0 text) ≡ Some (signed_digits_value 10 w)
number_is w text is canonical = ap number_in (sym is) ∙ ap (λ (t : Bool). if t then Some (signed_digits_value 10 w) else None) canonical

-- what is given is what the rule says of the expression
pub given_by : (text : List ℕ) (e : Expr) (rule : Expr → Result Expectation ExpectFaultKind) (given : Result Expectation (Stop ExpectFaultKind)) → ReadsNumeric text (Some e) → Gives given (rule e) → GivesSaid given (SaysOf text rule)
given_by text e rule (Ok x) reads is = says_some text e rule (Ok x) reads (sym is)
given_by text e rule (Err stop.NoMemory) reads is = tt
given_by text e rule (Err (stop.Fault kind)) reads is = says_some text e rule (Err kind) reads (sym is)

-- .. what a line says that has no expression
pub given_so : (given : Result Expectation (Stop ExpectFaultKind)) (said : Result Expectation ExpectFaultKind) → Gives given said → GivesSaid given (λ x. x ≡ said)
given_so (Ok x) said is = sym is
given_so (Err stop.NoMemory) said is = tt
given_so (Err (stop.Fault kind)) said is = sym is

-- first the one, then the other
pub then_gives : {A B : Type 0} (first : Result A ExpectFaultKind) (a : A) (rest : A → Result B ExpectFaultKind) (given : Result B (Stop ExpectFaultKind)) → first ≡ Ok a → Gives given (rest a) → Gives given (first >>= rest)
then_gives first a rest given is gives = subst (λ (r : Result _ ExpectFaultKind). Gives given (r >>= rest)) (sym is) gives

-- .. where the first is faulty
pub err_gives : {A B : Type 0} (first : Result A ExpectFaultKind) (rest : A → Result B ExpectFaultKind) (s : Stop ExpectFaultKind) → Gives {X = A} (Err s) first → Gives {X = B} (Err s) (first >>= rest)
err_gives first rest stop.NoMemory is = tt
err_gives first rest (stop.Fault kind) is = ap (λ (r : Result _ ExpectFaultKind). r >>= rest) is

-- a line of one of the forms
pub of_form : (s : Subject) (o : Option Line) (line : Line) (given : Result Expectation (Stop ExpectFaultKind)) → o ≡ Some line → GivesSaid given (Says s line) → GivesSaid given (FormSays s o)
of_form s o line given is says = subst (λ (x : Option Line). GivesSaid given (FormSays s x)) (sym is) says

-- .. and of none
pub of_none : (s : Subject) (o : Option Line) (stopped : Stop ExpectFaultKind) → IsBadLine (o ≡ None) stopped → GivesSaid {X = Expectation} (Err stopped) (FormSays s o)
of_none s o stop.NoMemory bad = tt
of_none s o (stop.Fault kind) bad = subst (λ (x : Option Line). GivesSaid {X = Expectation} (Err (stop.Fault kind)) (FormSays s x)) (sym bad.1) (ap (λ (k : ExpectFaultKind). (let r : Result Expectation ExpectFaultKind = Err k in r)) bad.0)

-- leaves, this word, and other leaves
pub then_is : (between : List ℕ) (line : Pick → Pick → Line) (pick : Pick) (text : List ℕ) → then_pick between line (pick, text) ≡ option_map (line pick) (last_after between text)
then_is between line pick text = by_word (bytes_eq (word 0 text) between) where
  by_length : (b : Bool) (found : Pick × List ℕ) → (if b then Some (line pick found.0) else None) ≡ option_map (line pick) (if b then Some found.0 else None)
  by_length true found = refl
  by_length false found = refl

  by_found : (o : Option (Pick × List ℕ)) → option_and_then (last_pick (line pick)) o ≡ option_map (line pick) (option_and_then alone o)
  by_found None = refl
  by_found (Some found) = by_length (length found.1 == 0) found

  by_word : (b : Bool) → (if b then option_and_then (last_pick (line pick)) (pick_at_front (following 1 text)) else None) ≡ option_map (line pick) (if b then option_and_then alone (pick_at_front (following 1 text)) else None)
  by_word true = by_found (pick_at_front (following 1 text))
  by_word false = refl

pub then_some : (between : List ℕ) (line : Pick → Pick → Line) (pick other : Pick) (text : List ℕ) → last_after between text ≡ Some other → then_pick between line (pick, text) ≡ Some (line pick other)
then_some between line pick other text is = then_is between line pick text ∙ ap (option_map (line pick)) is

pub then_none : (between : List ℕ) (line : Pick → Pick → Line) (pick : Pick) (text : List ℕ) (stopped : Stop ExpectFaultKind) → IsBadLine (last_after between text ≡ None) stopped → IsBadLine (then_pick between line (pick, text) ≡ None) stopped
then_none between line pick text stop.NoMemory bad = tt
then_none between line pick text (stop.Fault kind) bad = (bad.0, then_is between line pick text ∙ ap (option_map (line pick)) bad.1)

-- two lots of leaves, as a line says of them
pub both_leaves : (places : List Place) (pick other : Pick) (first second : List Bool) (line : List Bool → List Bool → Expectation) → leaves_in places pick ≡ Ok first → leaves_in places other ≡ Ok second →
    (leaves_in places pick >>= λ a. leaves_in places other >>= λ b. Ok (line a b)) ≡ Ok (line first second)
both_leaves places pick other first second line is also =
    ap (λ (r : Result (List Bool) ExpectFaultKind). r >>= λ a. leaves_in places other >>= λ b. Ok (line a b)) is
    ∙ ap (λ (r : Result (List Bool) ExpectFaultKind). r >>= λ b. Ok (line first b)) also

pub only_is : (w : List ℕ) (pick : Pick) (text : List ℕ) → w ≡ word 0 text → bytes_eq w (codes "only") ≡ true → only_line (pick, text) ≡ Some (StartsOnlyLine pick (following 1 text))
only_is w pick text is only =
    ap (λ (x : List ℕ). if bytes_eq x (codes "only") then Some (StartsOnlyLine pick (following 1 text)) else None) (sym is)
    ∙ ap (λ (b : Bool). if b then Some (StartsOnlyLine pick (following 1 text)) else None) only
