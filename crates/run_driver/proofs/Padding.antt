-- Inputs after the last port may be left out.
use Rattle.std.proofs.Common.{◌≡◌, ℕ, ◌-◌, ℤ, List, [], ◌∷◌, ◌++◌, length, map, replicate, not, if◌then◌else◌, Bool, true, false, Option, Some, None, Ok, refl, ap, ◌∙◌, arith, length-append}
use Rattle.std.specs.Prelude.{is_some, option_map, unwrap_or}
use Rattle.std.proofs.lemmas.List.{append-nil, length-replicate}
use Rattle.spec_script.specs.declared.cells.Seen.{Seen}
use Rattle.spec_script.specs.declared.cells.Seen.TheVariants as seen
use Rattle.spec_script.specs.declared.syntax.Expr.{Expr}
use Rattle.spec_script.specs.Entries.{look_of}
use Rattle.spec_script.specs.Evaluation.{eval_of}
use Rattle.base_texts.specs.Results.{◌>>=◌}
use Rattle.spec_run.specs.declared.leaf.Instance.{Instance}
use Rattle.spec_run.specs.declared.leaf.Phase.{Phase}
use Rattle.spec_run.specs.declared.leaf.Reply.TheVariants.{Running, Success, Failure}
use Rattle.spec_world.specs.declared.world.Fact.{Fact}
use Rattle.spec_world.specs.declared.world.Out.{Out}
use Rattle.spec_world.specs.declared.world.Row.{Row}
use Rattle.spec_world.specs.declared.world.RowSort.{RowSort}
use Rattle.spec_world.specs.declared.world.RowSort.TheVariants as sort
use Rattle.spec_run.specs.Leaf.{answer_by, as_length, as_number, completed, completion, decided, effects_of, finished, held, judged, lasting, lasting_for, leaf_rule, measured, released, number_of, outcome_at, outputs_of, padded, place_of, replied, rule_by, sights, start_of, test_of, timed_end, truth_of, way_of, with_output}

no_more : (inputs : List Seen) (n : ℕ) → n ≡ 0 → inputs ++ replicate n seen.Absent ≡ inputs
no_more inputs n none = ap (λ k. inputs ++ replicate k seen.Absent) none ∙ append-nil inputs

padded_once : (inputs : List Seen) → padded (padded inputs) ≡ padded inputs
padded_once inputs =
    no_more (padded inputs) (8 - length (padded inputs))
    (omega (arith, length-append inputs (replicate (8 - length inputs) seen.Absent), length-replicate (8 - length inputs) seen.Absent))

module _ (places : List ℕ → ℕ) (inputs : List Seen) (facts : List ℤ) where
  same_sights : sights (padded inputs) facts ≡ sights inputs facts
  same_sights = ap (λ xs. xs ++ map (λ n. seen.Int n) facts) (padded_once inputs)

  same_number : (e : Expr) → number_of places e (padded inputs) facts ≡ number_of places e inputs facts
  same_number e = ap (λ s. as_number (eval_of (λ name. look_of s (places name)) e)) same_sights

  same_test : (e : Expr) → test_of places e (padded inputs) facts ≡ test_of places e inputs facts
  same_test e = ap truth_of (same_number e)

  same_outputs : (outs : List Out) →
      outputs_of (map (λ (out : Out). number_of places out.expr) outs) (padded inputs) facts ≡ outputs_of (map (λ (out : Out). number_of places out.expr) outs) inputs facts
  same_outputs [] = refl
  same_outputs (out ∷ outs) = λ i. with_output (same_number out.expr i) (same_outputs outs i)

  module _ (row : Row) (instance : Instance) (since now : ℕ) where
    same_completion : (after : Instance) →
        completion (rule_by places row) instance after (padded inputs) facts ≡ completion (rule_by places row) instance after inputs facts
    same_completion after =
        ap (λ given. finished (given >>= λ outputs. effects_of row.sets facts >>= λ left. Ok (outputs, left)) instance after facts) (same_outputs row.outs)

    same_decided : (b : Bool) (after : Instance) →
        decided b (rule_by places row) instance after (padded inputs) facts ≡ decided b (rule_by places row) instance after inputs facts
    same_decided true after = same_completion after
    same_decided false after = refl

    same_timed_end : (fails : Option Expr) →
        timed_end (option_map (test_of places) fails) (rule_by places row) instance (padded inputs) facts ≡ timed_end (option_map (test_of places) fails) (rule_by places row) instance inputs facts
    same_timed_end None = same_completion (released instance)
    same_timed_end (Some fails) = λ i.
        judged (same_test fails i) instance facts (λ b. same_decided (not b) (released instance) i)

    same_answer : (s : RowSort) →
        answer_by (way_of places s) (rule_by places row) since instance (padded inputs) facts now ≡ answer_by (way_of places s) (rule_by places row) since instance inputs facts now
    same_answer (sort.Is fact op value) = refl
    same_answer (sort.When test) = λ i. judged (same_test test i) instance facts (λ b. replied (if b then Success else Failure) (released instance) facts)
    same_answer (sort.Timed ms fails) = λ i. lasting since ms now instance facts (same_timed_end fails i)
    same_answer (sort.TimedBy length fails) = λ i.
        measured (if is_some instance.since then Ok (unwrap_or instance.length 0) else as_length (same_number length i)) instance facts
        (λ ms. lasting since ms now (lasting_for ms instance) facts (same_timed_end fails i))
    same_answer (sort.Replay ms outcomes) = λ i.
        lasting since ms now instance facts (same_decided (outcome_at outcomes instance.completions) (completed instance) i)
    same_answer (sort.Gate test) = λ i.
        judged (same_test test i) instance facts (λ b. if b then same_completion (released instance) i else replied Running (held since instance) facts)
    same_answer sort.Sensed = refl
    same_answer (sort.Told outs) = refl

pub padding_is_nothing : (names : List Fact) (row : Row) (phase : Phase) (instance : Instance) (inputs : List Seen) (facts : List ℤ) (now : ℕ) →
    leaf_rule names row phase instance (padded inputs) facts now ≡ leaf_rule names row phase instance inputs facts now
padding_is_nothing names row phase instance inputs facts now =
    same_answer (place_of row.ports names) inputs facts row instance (start_of phase instance now) now row.sort
