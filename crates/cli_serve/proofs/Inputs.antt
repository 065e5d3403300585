-- What the inputs of a leaf held, and their lines.
use Rattle.std.proofs.Common.{◌≡◌, ℕ, zero, suc, ◌+◌, ◌<◌, ◌≤◌, List, [], ◌∷◌, length, drop, get_or, Option, refl, ap, sym, ◌∙◌}
use Rattle.std.proofs.lemmas.List.{drop_all, drop_more}
use Rattle.spec_script.specs.declared.value.Value.{Value}
use Rattle.spec_serve.specs.Inputs.{input_line, input_lines, kept_inputs}
use Rattle.spec_session.specs.Sessions.{Sitting}
use Rattle.host_session.specs.Reads.{inputs_of}

-- what a session has of a leaf's inputs is what its state keeps of them
pub inputs_kept : (s : Sitting) (runner uid : ℕ) → inputs_of s runner uid ≡ kept_inputs s.state runner uid
inputs_kept s zero uid = refl
inputs_kept s (suc place) uid = refl

-- a leaf that keeps nothing has no lines
pub no_inputs : (uid : ℕ) (ports : List (List ℕ)) → input_lines uid ports [] ≡ []
no_inputs uid [] = refl
no_inputs uid (port ∷ ports) = refl

module _ (uid : ℕ) (ports : List (List ℕ)) (values : List (Option Value)) (i : ℕ) where
  -- the line of the next input comes first
  pub next_input : (port : List ℕ) (value : Option Value) → i < length ports → i < length values → port ≡ get_or ports i port → value ≡ get_or values i value →
      input_lines uid (drop i ports) (drop i values) ≡ input_line uid port value ∷ input_lines uid (drop (i + 1) ports) (drop (i + 1) values)
  next_input port value there kept is held =
      ap (λ (ps : List (List ℕ)). input_lines uid ps (drop i values)) (drop_more ports i port there ∙ ap (λ (p : List ℕ). p ∷ drop (i + 1) ports) (sym is))
      ∙ ap (input_lines uid (port ∷ drop (i + 1) ports)) (drop_more values i value kept ∙ ap (λ (v : Option Value). v ∷ drop (i + 1) values) (sym held))

  -- no line is left after the ports, and none after what they held
  pub ports_ended : length ports ≤ i → input_lines uid (drop i ports) (drop i values) ≡ []
  ports_ended past = ap (λ (ps : List (List ℕ)). input_lines uid ps (drop i values)) (drop_all i ports past)

  pub values_ended : length values ≤ i → input_lines uid (drop i ports) (drop i values) ≡ []
  values_ended past = ap (input_lines uid (drop i ports)) (drop_all i values past) ∙ no_inputs uid (drop i ports)
