-- What a step leaves has room.
use Rattle.std.proofs.Common.{◌≡◌, ℕ, ◌+◌, ◌-◌, ◌≤◌, ℤ, Bool, true, false, List, [], ◌∷◌, length, refl, sym, ap, ◌∙◌, subst, arith, true≢false, eqb-true, zero, suc}
use Rattle.std.specs.Prelude.{◌||◌, Some, Result, Ok, Err, slice_get, if◌then◌else◌}
use Rattle.spec_script.specs.declared.value.Value.{Value}
use Rattle.spec_script.specs.declared.value.Value.TheVariants.{Int, Text}
use Rattle.spec_script.specs.declared.syntax.BinOp.{BinOp}
use Rattle.spec_script.specs.declared.syntax.BinOp.TheVariants.{Add, Sub, Mul}
use Rattle.spec_script.specs.declared.fault.ExecFault.{ExecFault}
use Rattle.base_texts.specs.declared.stop.Stop.{Stop}
use Rattle.base_texts.specs.declared.stop.Stop.TheVariants as stop
use Rattle.spec_script.specs.Operators.{number_in, is_true, unary_on, binary_on}
use Rattle.base_texts.specs.Results.{◌>>=◌}
use Rattle.script_code.specs.declared.instr.Instr.{Instr}
use Rattle.script_code.specs.declared.instr.Instr.TheVariants as instr
use Rattle.script_code.specs.Meeting.{is_ok_and}
use Rattle.script_code.specs.Rooms.{has_room, leads_well, fits_step, fits_from}
use Rattle.script_code.specs.Running.{on_top, put, binary_put, told, Step, next, either_step, step_of, jump_of, does, gives_from, puts_text, meets, meets_from}
use Rattle.script_code.specs.Stacks.{Leads, Leaves}
use Rattle.script_code.proofs.Standing.{opens, place_within, and_first, and_second}

pub or_first : (a b : Bool) → (a || b) ≡ false → a ≡ false
or_first true b none = none
or_first false b none = refl

or_second : (a b : Bool) → (a || b) ≡ false → b ≡ false
or_second true b none = absurd (true≢false none)
or_second false b none = none

module _ (go : ℕ → ℕ → Bool) where
  -- the place to which a step leads has room for what the step leaves
  abbrev IsWell : Result Step ExecFault → Type 0
  IsWell (Ok s) = go s.0 (length s.1) ≡ true
  IsWell (Err f) = Unit {0}

  put_well : (found : Result Value ExecFault) (below : List Value) (height : ℕ) → height ≡ length below + 1 → go 0 height ≡ true → IsWell (next (put found below))
  put_well (Ok x) below height same well =
      let e : height ≡ length (x ∷ below) = omega arith in subst (λ h. go 0 h ≡ true) e well
  put_well (Err f) below height same well = tt

  two_well : (op : BinOp) (stack : List Value) → go 0 (length stack - 1) ≡ true → IsWell (next (binary_put op stack))
  two_well op [] well = tt
  two_well op (y ∷ []) well = tt
  two_well op (y ∷ x ∷ below) well = put_well (binary_on op x y) below (length (y ∷ x ∷ below) - 1) (omega arith) well

  number_well : (op : BinOp) (n : ℤ) (x : Value) (below : List Value) → go 0 (length (x ∷ below)) ≡ true → IsWell (next (binary_put op (Int n ∷ x ∷ below)))
  number_well op n x below well = put_well (binary_on op x (Int n)) below (length (x ∷ below)) (omega arith) well

  truth_well : (one other : List Value → Step) (below : List Value) (r : Result ℤ ExecFault) → go (one below).0 (length (one below).1) ≡ true → go (other below).0 (length (other below).1) ≡ true →
      IsWell (r >>= told below >>= either_step one other)
  truth_well one other below (Err f) yes' no' = tt
  truth_well one other below (Ok n) yes' no' =
      elim (is_true n) as (λ b. IsWell (Ok (if b then one below else other below))) [ true ↦ yes' | false ↦ no' ]

  module _ (look : ℕ → Result Value ExecFault) where
    pub step_well : (i : Instr) (stack : List Value) → leads_well i go (length stack) ≡ true → IsWell (step_of look i stack)
    step_well (instr.Number n) stack well = let e : length stack + 1 ≡ length (Int n ∷ stack) = omega arith in subst (λ h. go 0 h ≡ true) e well
    step_well (instr.Text t) stack well = let e : length stack + 1 ≡ length (Text t ∷ stack) = omega arith in subst (λ h. go 0 h ≡ true) e well
    step_well (instr.Slot k) stack well = put_well (look k) stack (length stack + 1) refl well
    step_well (instr.Unary op) [] well = tt
    step_well (instr.Unary op) (x ∷ below) well = put_well (unary_on op x) below (length (x ∷ below)) (omega arith) well
    step_well (instr.Binary op) stack well = two_well op stack well
    step_well (instr.BinaryNumber op n) [] well = tt
    step_well (instr.BinaryNumber op n) (x ∷ below) well = number_well op n x below well
    step_well instr.Add stack well = two_well Add stack well
    step_well instr.Sub stack well = two_well Sub stack well
    step_well instr.Mul stack well = two_well Mul stack well
    step_well (instr.AddNumber n) [] well = tt
    step_well (instr.AddNumber n) (x ∷ below) well = number_well Add n x below well
    step_well (instr.SubNumber n) [] well = tt
    step_well (instr.SubNumber n) (x ∷ below) well = number_well Sub n x below well
    step_well (instr.MulNumber n) [] well = tt
    step_well (instr.MulNumber n) (x ∷ below) well = number_well Mul n x below well
    step_well (instr.AndThen n) [] well = tt
    step_well (instr.AndThen n) (x ∷ below) well =
        let e : length (x ∷ below) - 1 ≡ length below = omega arith in
        truth_well _ _ below (number_in x) (subst (λ h. go 0 h ≡ true) e (and_first _ _ well)) (and_second (go 0 (length (x ∷ below) - 1)) _ well)
    step_well (instr.OrElse n) [] well = tt
    step_well (instr.OrElse n) (x ∷ below) well =
        let e : length (x ∷ below) - 1 ≡ length below = omega arith in
        truth_well _ _ below (number_in x) (and_second (go 0 (length (x ∷ below) - 1)) _ well) (subst (λ h. go 0 h ≡ true) e (and_first _ _ well))
    step_well instr.Truth [] well = tt
    step_well instr.Truth (x ∷ below) well = truth_well _ _ below (number_in x) well well
    step_well (instr.Unless n) [] well = tt
    step_well (instr.Unless n) (x ∷ below) well =
        let e : length (x ∷ below) - 1 ≡ length below = omega arith in
        truth_well _ _ below (number_in x) (subst (λ h. go 0 h ≡ true) e (and_first _ _ well)) (subst (λ h. go n h ≡ true) e (and_second (go 0 (length (x ∷ below) - 1)) _ well))
    step_well (instr.Skip n) stack well = well

pub none_over : (n : ℕ) → n - n ≡ 0
none_over n = omega arith

pub passed_over : (n m : ℕ) → n + m - n ≡ m
passed_over n m = omega arith

module _ (room : ℕ) (look : ℕ → Result Value ExecFault) (code : List Instr) (place : ℕ) (i : Instr) (is : slice_get code place ≡ Some i) (stack : List Value) where
  abbrev heights : ℕ → ℕ → Bool
  heights n = fits_from room code (place + 1 + n)

  fit_here : fits_from room code place (length stack) ≡ true → fits_step room i heights (length stack) ≡ true
  fit_here fit = sym (ap (λ (f : ℕ → Bool). f (length stack)) (opens (fits_step room) _ _ code place i is)) ∙ fit

  pub room_here : fits_from room code place (length stack) ≡ true → has_room room i (length stack) ≡ true
  room_here fit = and_first (has_room room i (length stack)) _ (fit_here fit)

  jump_leads : (i : Instr) (height : ℕ) → leads_well i heights height ≡ true → (h : ℕ) × (heights (jump_of i) h ≡ true)
  jump_leads (instr.Number n) height well = (height + 1, well)
  jump_leads (instr.Text t) height well = (height + 1, well)
  jump_leads (instr.Slot k) height well = (height + 1, well)
  jump_leads (instr.Unary op) height well = (height, well)
  jump_leads (instr.Binary op) height well = (height - 1, well)
  jump_leads (instr.BinaryNumber op n) height well = (height, well)
  jump_leads instr.Add height well = (height - 1, well)
  jump_leads instr.Sub height well = (height - 1, well)
  jump_leads instr.Mul height well = (height - 1, well)
  jump_leads (instr.AddNumber n) height well = (height, well)
  jump_leads (instr.SubNumber n) height well = (height, well)
  jump_leads (instr.MulNumber n) height well = (height, well)
  jump_leads (instr.AndThen n) height well = (height, and_second (heights 0 (height - 1)) _ well)
  jump_leads (instr.OrElse n) height well = (height, and_second (heights 0 (height - 1)) _ well)
  jump_leads instr.Truth height well = (height, well)
  jump_leads (instr.Unless n) height well = (height - 1, and_second (heights 0 (height - 1)) _ well)
  jump_leads (instr.Skip n) height well = (height, well)

  -- the place to which a jump leads stands in the code, or at its end
  pub jump_within : fits_from room code place (length stack) ≡ true → place + 1 + jump_of i ≤ length code
  jump_within fit =
      let led = jump_leads i (length stack) (and_second (has_room room i (length stack)) _ (fit_here fit)) in
      place_within room code (place + 1 + jump_of i) led.0 led.1

  module _ (n : ℕ) (after : List Value) (leads : step_of look i stack ≡ Ok (n, after)) where
    -- the code gives the same from where the step leads
    pub same_on : gives_from look code (place + 1 + n) after ≡ gives_from look code place stack
    same_on =
        sym (ap (λ (f : List Value → Result Value ExecFault). f stack) (opens (does look) _ _ code place i is)
        ∙ ap (λ (r : Result Step ExecFault). r >>= λ s. gives_from look code (place + 1 + s.0) s.1) leads)

    -- there is room where the step leads
    pub room_on : fits_from room code place (length stack) ≡ true → fits_from room code (place + 1 + n) (length after) ≡ true
    room_on fit = subst (IsWell heights) leads (step_well heights look i stack (and_second (has_room room i (length stack)) _ (fit_here fit)))

    pub within_on : fits_from room code place (length stack) ≡ true → place + 1 + n ≤ length code
    within_on fit = place_within room code (place + 1 + n) (length after) (room_on fit)

  unfolded : meets_from look code place stack ≡ (puts_text look i || is_ok_and (step_of look i stack) (λ s. meets_from look code (place + 1 + s.0) s.1))
  unfolded = ap (λ (t : List Value → Bool). t stack) (opens (meets look) _ _ code place i is)

  -- an instruction of a code that meets no text
  pub none_put : meets_from look code place stack ≡ false → puts_text look i ≡ false
  none_put none = or_first (puts_text look i) _ (sym unfolded ∙ none)

  -- no text is met from where the step leads
  pub none_on : (n : ℕ) (after : List Value) → step_of look i stack ≡ Ok (n, after) → meets_from look code place stack ≡ false → meets_from look code (place + 1 + n) after ≡ false
  none_on n after leads none =
      ap (λ (r : Result Step ExecFault). is_ok_and r (λ s. meets_from look code (place + 1 + s.0) s.1)) (sym leads)
      ∙ or_second (puts_text look i) _ (sym unfolded ∙ none)

  -- a step's fault is that of the code
  fault_here : (f : ExecFault) → step_of look i stack ≡ Err f → gives_from look code place stack ≡ Err f
  fault_here f fails =
      ap (λ (g : List Value → Result Value ExecFault). g stack) (opens (does look) _ _ code place i is)
      ∙ ap (λ (r : Result Step ExecFault). r >>= λ s. gives_from look code (place + 1 + s.0) s.1) fails

  -- a step that stops, stops the code
  pub stops_here : (go : ℕ → Result Value ExecFault) (view : ℕ → Step) (cause : Stop ExecFault) → Leaves (Err cause) (step_of look i stack) view → Leads (Err cause) (gives_from look code place stack) go
  stops_here go view stop.NoMemory leaves = tt
  stops_here go view (stop.Fault f) leaves = fault_here f leaves

-- a stack of one value gives it
one_given : (stack : List Value) → length stack ≡ 1 → put (on_top (λ x below. Ok x) stack) [] ≡ Ok stack
one_given [] one = absurd (omega arith)
one_given (x ∷ []) one = refl
one_given (x ∷ y ∷ below) one = absurd (omega arith)

-- what a code gives where it ends
pub given_at_end : (room : ℕ) (look : ℕ → Result Value ExecFault) (code : List Instr) (place : ℕ) (stack : List Value) → length code ≤ place → fits_from room code place (length stack) ≡ true → put (gives_from look code place stack) [] ≡ Ok stack
given_at_end room look [] zero stack past fit = one_given stack (eqb-true (length stack) 1 fit)
given_at_end room look [] (suc n) stack past fit = absurd (true≢false (sym fit))
given_at_end room look (i ∷ code) zero stack past fit = absurd (omega arith)
given_at_end room look (i ∷ code) (suc n) stack past fit = given_at_end room look code n stack (omega arith) fit
