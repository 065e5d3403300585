use Rattle.std.proofs.Common.{rules, ℕ, ◌≡◌, ◌∙◌, [], Some, ap, append-nil, length}
use Rattle.std.proofs.lemmas.Result.{err_from_is_err_and}
use Rattle.run_loop.specs.Runs.{arenas_of}
use Rattle.spec_run.specs.Run.{Trace}
use Rattle.spec_tree.specs.Terms.{node_count}
use Rattle.text_trace.proofs.Cuts.{cut_here}
use Rattle.spec_output.specs.Rounds.{nothing_more}
use Rattle.text_trace.specs.Traces.{trace_of}
use Rattle.spec_output.specs.declared.counts.Counts.{Counts}
use Rattle.spec_output.specs.Summaries.{summary_line}
use Rattle.text_trace.proofs.load.run.run_load.Goals as goal

is_same : (x y : Counts) → Some x ≡ Some y → x ≡ y
is_same x y same = cc

pub nodes-count-requires : goal.nodes-count-requires
nodes-count-requires g c = (g.D.Drivers.states c.args.drivers.now, c.requires.1.0.is_valid_world, c.requires.1.0.are)

pub returns-clause-whole : goal.returns-clause-whole
returns-clause-whole g c =
    let p = c.in-Ok.ensures.leaves.whole in
    let counted = is_same _ _ (p.shown.counted [] c.new-counter.ensures) in
    record {
      ends = p.ends;
      told =
          c.in_ok-line.ensures
          ∙ ap (λ (x : ℕ). summary_line c.args.n x (length c.args.events.now) c.run_events.new.watch.counts) c.nodes-count.ensures
          ∙ ap (λ (x : Counts). summary_line c.args.n (node_count g.of.tree.term) (length c.args.events.now) x) counted;
      drivers = p.drivers;
    }

-- the line could not be made, after the whole run
pub returns-in_err-line-clause-cut : goal.returns-in_err-line-clause-cut
returns-in_err-line-clause-cut g c =
    let p = err_from_is_err_and c.from_residual.result c.from_residual.ensures.1 in
    let trace : Trace = trace_of g.of (g.D.Drivers.states c.args.drivers.now) c.args.runs c.args.events.now in
    rw p.1 (cut_here (arenas_of c.args.runs) (g.D.Drivers.states c.args.drivers.now) (g.D.Drivers.states c.run_events.new.drivers) trace (nothing_more trace.state) trace.calls (append-nil trace.calls) c.in-Ok.ensures.leaves.whole.drivers)

pub run_events-requires : goal.run_events-requires
run_events-requires g c lifetimes live = (live, (search rules, (c.requires.1.0, c.requires.1.1)))
