use Rattle.std.proofs.Common.{◌≡◌, ◌≤◌, ◌∙◌, ℕ, List, [], Option, ap, arith, length, subst, sym}
use Rattle.std.proofs.lemmas.List.{drop_all}
use Rattle.spec_script.specs.declared.value.Value.{Value}
use Rattle.spec_run.specs.declared.block.Block.{Block}
use Rattle.spec_serve.specs.Inputs.{kept_inputs, runner_of, told_notes}
use Rattle.spec_session.specs.Sessions.{Sitting}
use Rattle.cli_serve.specs.Starts.{KnowsLast}
use Rattle.cli_serve.proofs.Inputs.{inputs_kept}
use Rattle.cli_serve.proofs.Noted.{inputs_noted, line_noted, none_noted, prefix_inputs, prefix_noted}
use Rattle.cli_serve.proofs.Written.{all_written, none_written, prefix_written, rest_is}
use Rattle.cli_serve.proofs.answer.write_noted.Goals as goal
use Rattle.cli_serve.proofs.answer.write_noted.Goals.{in-Some+in_ok-write_inputs, in_default}

-- what the session has for a runner is what its state keeps for that of the event
held_here : (s : Sitting) (block : Block) (runner uid : ℕ) (values : List (Option Value)) → block ≡ s.block → runner ≡ runner_of block.header →
    values ≡ kept_inputs s.state runner uid → values ≡ kept_inputs s.state (runner_of s.block.header) uid
held_here s block runner uid values is own held = held ∙ ap (λ (r : ℕ). kept_inputs s.state r uid) (own ∙ ap (λ (b : Block). runner_of b.header) is)

pub loop-place-init : goal.loop-place-init
loop-place-init g c = record { text = none_written _ _; count = omega arith }

pub returns-in_err-write_notes-clause-prefix : goal.returns-in_err-write_notes-clause-prefix
returns-in_err-write_notes-clause-prefix g c =
    let s = c.args.session.now in
    let kept : ℕ → List (Option Value) = kept_inputs s.state (runner_of s.block.header) in
    let notes = c.list-notes.result.now in
    let own : notes ≡ s.block.notes = c.list-notes.ensures ∙ ap (λ (b : Block). b.notes) c.block-block.ensures in
    rw own at (prefix_noted c.args.names.now kept notes c.args.starts.now.places.items c.loop-place.place _ c.from_ref.result.now _ c.loop-place-test.true
    c.from_ref.ensures.value c.loop-place.invariant.text c.in_err-write_notes.ensures.prefix)

pub returns-in_err-write_inputs-clause-prefix : goal.returns-in_err-write_inputs-clause-prefix
returns-in_err-write_inputs-clause-prefix g c =
    let s = c.args.session.now in
    let kept : ℕ → List (Option Value) = kept_inputs s.state (runner_of s.block.header) in
    let names = c.args.names.now in
    let notes = c.list-notes.result.now in
    let places = c.args.starts.now.places.items in
    let i = c.loop-place.place in
    let uid = c.in-Some.uid in
    let own : notes ≡ s.block.notes = c.list-notes.ensures ∙ ap (λ (b : Block). b.notes) c.block-block.ensures in
    let knows = subst (KnowsLast places) (sym own) c.requires.knows in
    let noted = line_noted names kept notes places i _ c.from_ref.result.now _ c.loop-place-test.true c.from_ref.ensures.value c.loop-place.invariant.text c.in_ok-write_notes.ensures.whole in
    let held = held_here s _ c.runner_of-runner.result uid c.inputs.result.now c.block-block.ensures c.runner_of-runner.ensures (c.inputs.ensures.inputs ∙ inputs_kept s c.runner_of-runner.result uid) in
    let nothing : length places ≤ uid → kept uid ≡ [] = λ past. sym held ∙ c.inputs.ensures.none (omega arith) in
    rw own at (prefix_inputs names kept notes places i _ uid c.inputs.result.now _ knows c.loop-place-test.true (sym c.started_last.ensures ∙ c.in-Some.is) nothing held noted
    c.in_err-write_inputs.ensures.prefix)

pub loop-place-preserved : goal.loop-place-preserved
loop-place-preserved g c =
    let s = c.args.session.now in
    let kept : ℕ → List (Option Value) = kept_inputs s.state (runner_of s.block.header) in
    let names = c.args.names.now in
    let notes = c.list-notes.result.now in
    let places = c.args.starts.now.places.items in
    let i = c.loop-place.place in
    let own : notes ≡ s.block.notes = c.list-notes.ensures ∙ ap (λ (b : Block). b.notes) c.block-block.ensures in
    let knows = subst (KnowsLast places) (sym own) c.requires.knows in
    let noted = line_noted names kept notes places i _ c.from_ref.result.now _ c.loop-place-test.true c.from_ref.ensures.value c.loop-place.invariant.text c.in_ok-write_notes.ensures.whole in
    elim c.match-started_last.branch [
      | in-Some+in_ok-write_inputs w ↦
          let uid = w.in-Some.uid in
          let held = held_here s _ c.runner_of-runner.result uid w.inputs.result.now c.block-block.ensures c.runner_of-runner.ensures (w.inputs.ensures.inputs ∙ inputs_kept s c.runner_of-runner.result uid) in
          let nothing : length places ≤ uid → kept uid ≡ [] = λ past. sym held ∙ w.inputs.ensures.none (omega arith) in
          rw w.out-is record {
            text = inputs_noted names kept notes places i _ uid w.inputs.result.now _ knows c.loop-place-test.true (sym c.started_last.ensures ∙ w.in-Some.is) nothing held noted w.in_ok-write_inputs.ensures.whole;
            count = omega arith;
          }
      | in_default w ↦
          rw w.out-is record {
            text = none_noted names kept notes places i _ knows c.loop-place-test.true (sym c.started_last.ensures ∙ w.in_default.is) noted;
            count = omega arith;
          }
    ]

pub returns-clause-whole : goal.returns-clause-whole
returns-clause-whole g c =
    let s = c.args.session.now in
    let notes = c.list-notes.result.now in
    let kept : ℕ → List (Option Value) = kept_inputs s.state (runner_of s.block.header) in
    let own : notes ≡ s.block.notes = c.list-notes.ensures ∙ ap (λ (b : Block). b.notes) c.block-block.ensures in
    rw own at (all_written {all = told_notes c.args.names.now kept notes} (rest_is (ap (told_notes c.args.names.now kept) (drop_all c.loop-place.place notes c.loop-place-test.false)) c.loop-place.invariant.text))

pub returns-clause-prefix : goal.returns-clause-prefix
returns-clause-prefix g c =
    let own = c.list-notes.ensures ∙ ap (λ (b : Block). b.notes) c.block-block.ensures in
    rw own at (prefix_written c.loop-place.invariant.text)
