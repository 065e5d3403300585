-- What effects leave, by the first effect and those after it.
use Rattle.std.proofs.Common.{◌≡◌, ◌-◌, ◌≤◌, ℤ, List, [], ◌∷◌, length, take, drop, get_or, Result, Ok, Err, ap, sym, ◌∙◌, arith}
use Rattle.std.specs.Prelude.{slice_set}
use Rattle.std.proofs.Math.Seq.{take-length}
use Rattle.base_texts.specs.Results.{◌>>=◌}
use Rattle.spec_run.specs.declared.fault.Cause.{Cause}
use Rattle.spec_world.specs.declared.world.Set.{Set}
use Rattle.spec_run.specs.Leaf.{effects_of, fact_at, made_by}

-- what an effect makes
abbrev pub made : Set → List ℤ → Result ℤ Cause
made s facts = made_by s.how s.value (fact_at facts s.fact)

-- the effects after the first
abbrev pub others : List Set → List Set
others sets = take (length sets - 1) (drop 1 sets)

left_by : (s : Set) (ss : List Set) (facts : List ℤ) (value : ℤ) (rest : Result (List ℤ) Cause) → made s facts ≡ Ok value → effects_of (others (s ∷ ss)) facts ≡ rest →
    effects_of (s ∷ ss) facts ≡ (rest >>= λ left. Ok (slice_set left s.fact value))
left_by s ss facts value rest is following =
    let fewer : length (s ∷ ss) - 1 ≡ length ss = omega arith in
    let same : others (s ∷ ss) ≡ ss = ap (λ n. take n ss) fewer ∙ take-length ss in
    ap (λ m. m >>= λ n. effects_of ss facts >>= λ left. Ok (slice_set left s.fact n)) is
    ∙ ap (λ o. o >>= λ left. Ok (slice_set left s.fact value)) (ap (λ es. effects_of es facts) (sym same) ∙ following)

pub then_left : (sets : List Set) (facts left : List ℤ) (d : Set) (value : ℤ) → 1 ≤ length sets → made (get_or sets 0 d) facts ≡ Ok value → effects_of (others sets) facts ≡ Ok left →
    effects_of sets facts ≡ Ok (slice_set left (get_or sets 0 d).fact value)
then_left [] facts left d value some is following = absurd (omega (arith, some))
then_left (s ∷ ss) facts left d value some is following = left_by s ss facts value (Ok left) is following

pub then_fault : (sets : List Set) (facts : List ℤ) (d : Set) (value : ℤ) (cause : Cause) → 1 ≤ length sets → made (get_or sets 0 d) facts ≡ Ok value → effects_of (others sets) facts ≡ Err cause →
    effects_of sets facts ≡ Err cause
then_fault [] facts d value cause some is following = absurd (omega (arith, some))
then_fault (s ∷ ss) facts d value cause some is following = left_by s ss facts value (Err cause) is following
