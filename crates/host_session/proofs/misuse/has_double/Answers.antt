use Rattle.std.proofs.Common.{◌≡◌, ℕ, ◌+◌, Bool, ◌||◌, [], take, drop, sym, ap, ◌∙◌}
use Rattle.spec_world.specs.Worlds.{ports_told}
use Rattle.spec_world_file.specs.WorldFile.{repeats}
use Rattle.host_session.proofs.Tellings.{next_repeats}
use Rattle.host_session.proofs.misuse.has_double.Goals as goal

pub returns-then-is_among : goal.returns-then-is_among
returns-then-is_among c =
    let i = c.loop-i.i in
    let outs = c.args.outs.now in
    let rest : Bool = repeats (take (i + 1) (ports_told outs)) (drop (i + 1) (ports_told outs)) in
    sym (sym c.loop-i.invariant ∙ (next_repeats outs i c.index-outs-i.result c.is_among.result c.loop-i-test.true c.index-outs-i.is c.is_among.ensures ∙ ap (λ (b : Bool). b || rest) c.if-is_among.true))

pub loop-i-preserved : goal.loop-i-preserved
loop-i-preserved c =
    let i = c.loop-i.i in
    let outs = c.args.outs.now in
    let rest : Bool = repeats (take (i + 1) (ports_told outs)) (drop (i + 1) (ports_told outs)) in
    sym (next_repeats outs i c.index-outs-i.result c.is_among.result c.loop-i-test.true c.index-outs-i.is c.is_among.ensures ∙ ap (λ (b : Bool). b || rest) c.if-is_among.false) ∙ c.loop-i.invariant
