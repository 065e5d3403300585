use Rattle.std.proofs.Common.{◌≡◌, ◌∙◌, ◌++◌, ℕ, List, Some, ap, append-nil}
use Rattle.std.proofs.lemmas.Result.{err_from_is_err_and}
use Rattle.spec_run.specs.Run.{Trace}
use Rattle.expect_watch.specs.States as states
use Rattle.run_loop.specs.Runs.{arenas_of}
use Rattle.spec_output.specs.Rounds.{nothing_more}
use Rattle.text_trace.specs.Expected.{came_out, failed_in, following, lines_by}
use Rattle.text_trace.specs.Following.{Following, all_followed}
use Rattle.text_trace.specs.Traces.{trace_of}
use Rattle.text_trace.proofs.Cuts.{cut_here}
use Rattle.text_trace.proofs.Expected.{after_blocks, came_so, following_is, lines_told, opening_following}
use Rattle.text_trace.proofs.expecting.run.run_expected.Goals as goal

is_same : (x y : Following) → Some x ≡ Some y → x ≡ y
is_same x y same = cc

pub returns-clause-whole : goal.returns-clause-whole
returns-clause-whole g c =
    let p = c.in-Ok.ensures.leaves.whole in
    let of = g.wanted.of in
    let trace : Trace = trace_of of (g.D.Drivers.states c.args.drivers.now) c.args.runs c.args.events.now in
    let first = opening_following (states.seen c.args.watching) in
    let after = after_blocks trace.blocks first in
    let followed = is_same _ (all_followed trace.blocks first) p.shown.followed ∙ following_is trace.blocks first in
    let begun = c.requires.1.0 in
    let named = c.requires.1.1.0 in
    let ends = p.ends in
    record {
      text =
          c.in_ok-expecting.ensures.lines
          ∙ ap (λ (xs : List ℕ). xs ++ lines_by c.in-Ok.ended c.args.names.now (following c.run_events.new.watch)) c.new-lines.ensures.items
          ∙ (λ i. lines_by (ends i) (named i) (followed i))
          ∙ lines_told of g.wanted.expected (states.seen c.args.watching) begun trace;
      out =
          c.in_ok-expecting.ensures.out
          ∙ (λ i. came_out (ends i) (failed_in (followed i).state))
          ∙ came_so of g.wanted.expected (states.seen c.args.watching) begun trace;
      drivers = p.drivers;
    }

-- the lines could not be made, after the whole run
pub returns-in_err-expecting-clause-cut : goal.returns-in_err-expecting-clause-cut
returns-in_err-expecting-clause-cut g c =
    let p = err_from_is_err_and c.from_residual.result c.from_residual.ensures.1 in
    let trace : Trace = trace_of g.wanted.of (g.D.Drivers.states c.args.drivers.now) c.args.runs c.args.events.now in
    rw p.1 (cut_here (arenas_of c.args.runs) (g.D.Drivers.states c.args.drivers.now) (g.D.Drivers.states c.run_events.new.drivers) trace (nothing_more trace.state) trace.calls (append-nil trace.calls) c.in-Ok.ensures.leaves.whole.drivers)
