use Rattle.std.proofs.Common.{◌≡◌, ◌+◌, ◌-◌, length, refl, arith}
use Rattle.run_loop.proofs.Groups.{group_changes, group_told, rest_changes, rest_told}
use Rattle.run_loop.proofs.Results.{ok_gives}
use Rattle.run_loop.proofs.telling.tell_facts.Goals as goal

pub loop-first-preserved : goal.loop-first-preserved
loop-first-preserved c =
    let l = c.loop-first in
    let olds = c.args.told.now in
    let news = c.args.facts.now in
    let n = l.first + 8 - l.first in
    let is_end : l.first + 8 ≡ l.first + n = omega arith in record {
      within = omega (arith, c.loop-first-test.true, l.invariant.within);
      changes = group_changes olds news l.told l.first l.invariant.within l.invariant.told n (l.first + 8) is_end l.changes.items c.tell_group.new.changes.items _ l.invariant.changes
          c.in_ok-tell_group.ensures.changes;
      told = group_told olds news l.told l.first l.invariant.within l.invariant.told n (l.first + 8) is_end c.tell_group.new.told c.in_ok-tell_group.ensures.told;
    }

pub returns-clause-changes : goal.returns-clause-changes
returns-clause-changes c =
    let l = c.loop-first in
    ok_gives c.tell_each.result (rest_changes c.args.told.now c.args.facts.now l.told l.first l.invariant.within l.invariant.told (length l.told - l.first) refl
    l.changes.items c.tell_each.new.changes.items _ l.invariant.changes) c.tell_each.ensures.changes

pub returns-clause-told : goal.returns-clause-told
returns-clause-told c =
    let l = c.loop-first in
    ok_gives c.tell_each.result (rest_told c.args.told.now c.args.facts.now l.told l.first l.invariant.within l.invariant.told (length l.told - l.first) refl
    c.tell_each.new.told) c.tell_each.ensures.told
