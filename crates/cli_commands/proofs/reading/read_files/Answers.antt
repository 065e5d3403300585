use Rattle.std.proofs.lemmas.Result.{err_from_is_err_and}
use Rattle.spec_program.specs.Files.{Contents}
use Rattle.cli_commands.proofs.Files.{read_first, read_last, short_of, stop_first, stop_last, stop_later, told_of}
use Rattle.spec_program.specs.declared.file.File.TheVariants as file
use Rattle.cli_commands.proofs.reading.read_files.Goals as goal

pub returns-in_err-tree-clause-unread : goal.returns-in_err-tree-clause-unread
returns-in_err-tree-clause-unread g c =
    let p = err_from_is_err_and c.from_residual.result c.from_residual.ensures.1 in
    rw (p.1, p.2, ← c.names_of-names.ensures) (stop_first g.S.Shelf.read_gives g.S.Shelf.faults (g.S.Shelf.holds c.args.shelf.now) file.Tree _ _ _ _ c.in_err-tree.field-0.0 c.in_err-tree.ensures.unread)

pub returns-in_err-world-clause-unread : goal.returns-in_err-world-clause-unread
returns-in_err-world-clause-unread g c =
    let p = err_from_is_err_and c.from_residual-in_err-world.result c.from_residual-in_err-world.ensures.1 in
    rw (p.1, p.2, ← c.names_of-names.ensures) (stop_later g.S.Shelf.read_gives g.S.Shelf.faults (g.S.Shelf.holds c.args.shelf.now) file.Tree _ _ _ _ _ _ c.in_err-world.field-0.0 c.in_ok-tree.ensures.count c.in_ok-tree.ensures.read
    (stop_first g.S.Shelf.read_gives g.S.Shelf.faults (g.S.Shelf.holds c.args.shelf.now) file.World _ _ _ _ c.in_err-world.field-0.0 (rw c.in_ok-tree.ensures.holds at c.in_err-world.ensures.unread)))

pub returns-in_err-rules-clause-unread : goal.returns-in_err-rules-clause-unread
returns-in_err-rules-clause-unread g c =
    let p = err_from_is_err_and c.from_residual-in_err-rules.result c.from_residual-in_err-rules.ensures.1 in
    rw (p.1, p.2, ← c.names_of-names.ensures) (stop_later g.S.Shelf.read_gives g.S.Shelf.faults (g.S.Shelf.holds c.args.shelf.now) file.Tree _ _ _ _ _ _ c.in_err-rules.field-0.0 c.in_ok-tree.ensures.count c.in_ok-tree.ensures.read
    (stop_later g.S.Shelf.read_gives g.S.Shelf.faults (g.S.Shelf.holds c.args.shelf.now) file.World _ _ _ _ _ _ c.in_err-rules.field-0.0 c.in_ok-world.ensures.count (rw c.in_ok-tree.ensures.holds at c.in_ok-world.ensures.read)
    (stop_first g.S.Shelf.read_gives g.S.Shelf.faults (g.S.Shelf.holds c.args.shelf.now) file.Rules _ _ _ _ c.in_err-rules.field-0.0 (rw (c.in_ok-world.ensures.holds, c.in_ok-tree.ensures.holds) at c.in_err-rules.ensures.unread))))

pub returns-in_err-expect-clause-unread : goal.returns-in_err-expect-clause-unread
returns-in_err-expect-clause-unread g c =
    let p = err_from_is_err_and c.from_residual-in_err-expect.result c.from_residual-in_err-expect.ensures.1 in
    rw (p.1, p.2, ← c.names_of-names.ensures) (stop_later g.S.Shelf.read_gives g.S.Shelf.faults (g.S.Shelf.holds c.args.shelf.now) file.Tree _ _ _ _ _ _ c.in_err-expect.field-0.0 c.in_ok-tree.ensures.count c.in_ok-tree.ensures.read
    (stop_later g.S.Shelf.read_gives g.S.Shelf.faults (g.S.Shelf.holds c.args.shelf.now) file.World _ _ _ _ _ _ c.in_err-expect.field-0.0 c.in_ok-world.ensures.count (rw c.in_ok-tree.ensures.holds at c.in_ok-world.ensures.read)
    (stop_later g.S.Shelf.read_gives g.S.Shelf.faults (g.S.Shelf.holds c.args.shelf.now) file.Rules _ _ _ _ _ _ c.in_err-expect.field-0.0 c.in_ok-rules.ensures.count (rw (c.in_ok-world.ensures.holds, c.in_ok-tree.ensures.holds) at c.in_ok-rules.ensures.read)
    (stop_last g.S.Shelf.read_gives g.S.Shelf.faults (g.S.Shelf.holds c.args.shelf.now) file.Expect _ _ _ c.in_err-expect.field-0.0 (rw (c.in_ok-rules.ensures.holds, c.in_ok-world.ensures.holds, c.in_ok-tree.ensures.holds) at c.in_err-expect.ensures.unread)))))

pub returns-clause-read : goal.returns-clause-read
returns-clause-read g c =
    let contents : Contents = record { tree = c.in_ok-tree.tree.items; world = c.in_ok-world.world.items; rules = c.in_ok-rules.rules.items; expect = c.in_ok-expect.expect.items } in
    rw (← c.names_of-names.ensures) (read_first g.S.Shelf.read_gives g.S.Shelf.faults (g.S.Shelf.holds c.args.shelf.now) file.Tree _ _ contents _ _ _ c.in_ok-tree.ensures.read
    (read_first g.S.Shelf.read_gives g.S.Shelf.faults (g.S.Shelf.holds c.args.shelf.now) file.World _ _ contents _ _ _ (rw c.in_ok-tree.ensures.holds at c.in_ok-world.ensures.read)
    (read_first g.S.Shelf.read_gives g.S.Shelf.faults (g.S.Shelf.holds c.args.shelf.now) file.Rules _ _ contents _ _ _ (rw (c.in_ok-world.ensures.holds, c.in_ok-tree.ensures.holds) at c.in_ok-rules.ensures.read)
    (read_last g.S.Shelf.read_gives g.S.Shelf.faults (g.S.Shelf.holds c.args.shelf.now) file.Expect _ contents _ _ (rw (c.in_ok-rules.ensures.holds, c.in_ok-world.ensures.holds, c.in_ok-tree.ensures.holds) at c.in_ok-expect.ensures.read)))))

pub returns-clause-within : goal.returns-clause-within
returns-clause-within g c =
    let tree = c.in_ok-tree.ensures.read in
    let world = rw c.in_ok-tree.ensures.holds at c.in_ok-world.ensures.read in
    let rules = rw (c.in_ok-world.ensures.holds, c.in_ok-tree.ensures.holds) at c.in_ok-rules.ensures.read in
    let expect = rw (c.in_ok-rules.ensures.holds, c.in_ok-world.ensures.holds, c.in_ok-tree.ensures.holds) at c.in_ok-expect.ensures.read in
    rw (← c.names_of-names.ensures) (record {
      told = record {
        tree = told_of g.S.Shelf.read_gives g.S.Shelf.faults (g.S.Shelf.holds c.args.shelf.now) _ _ _ _ tree;
        world = told_of g.S.Shelf.read_gives g.S.Shelf.faults (g.S.Shelf.holds c.args.shelf.now) _ _ _ _ world;
        rules = told_of g.S.Shelf.read_gives g.S.Shelf.faults (g.S.Shelf.holds c.args.shelf.now) _ _ _ _ rules;
        expect = told_of g.S.Shelf.read_gives g.S.Shelf.faults (g.S.Shelf.holds c.args.shelf.now) _ _ _ _ expect;
      };
      short = record {
        tree = short_of g.S.Shelf.read_gives g.S.Shelf.faults (g.S.Shelf.holds c.args.shelf.now) _ _ _ _ tree;
        world = short_of g.S.Shelf.read_gives g.S.Shelf.faults (g.S.Shelf.holds c.args.shelf.now) _ _ _ _ world;
        rules = short_of g.S.Shelf.read_gives g.S.Shelf.faults (g.S.Shelf.holds c.args.shelf.now) _ _ _ _ rules;
        expect = short_of g.S.Shelf.read_gives g.S.Shelf.faults (g.S.Shelf.holds c.args.shelf.now) _ _ _ _ expect;
      };
    })
