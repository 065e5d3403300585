use Rattle.std.proofs.Common.{arith, drop}
use Rattle.std.proofs.lemmas.List.{drop_all}
use Rattle.std.specs.Str.{bytes_eq}
use Rattle.indexmap.specs.IndexMap.{get}
use Rattle.run_arena.proofs.Indexed.{finds_more, none_left}
use Rattle.run_arena.proofs.rows.index_of.Goals as goal

pub loop-row-preserved : goal.loop-row-preserved
loop-row-preserved c = record {
  place = omega (arith, c.loop-row.invariant.place);
  found = finds_more c.args.rows.now c.loop-row.row-index c.loop-row.number c.row-item.result (get bytes_eq c.loop-row.index) (get bytes_eq c.add_row.new.index) c.loop-row-test.true c.row-item.is c.loop-row.invariant.place
      c.in_ok-add_row.ensures c.loop-row.invariant.found;
}

pub returns : goal.returns
returns c = λ id.
    let i = c.loop-row.row-index in
    none_left c.args.rows.now (drop i c.args.rows.now) (get bytes_eq c.loop-row.index id) id (drop_all i c.args.rows.now c.loop-row-test.false) (c.loop-row.invariant.found id)
