use Rattle.std.proofs.Common.{[], ◌++◌, Some, refl}
use Rattle.std.specs.Option.{option_copied}
use Rattle.std.proofs.lemmas.Result.{err_from_is_err_and}
use Rattle.cli_commands.proofs.Files.{no_bytes, read_first, short_of, stop_first, stop_later, told_of}
use Rattle.spec_program.specs.Files.{Contents}
use Rattle.spec_program.specs.Reads.{if_named}
use Rattle.spec_program.specs.declared.file.File.TheVariants as file
use Rattle.cli_serve.specs.Files.{world_bytes}
use Rattle.cli_serve.proofs.files.read_files.Goals as goal

pub returns-in_err-tree-clause-unread : goal.returns-in_err-tree-clause-unread
returns-in_err-tree-clause-unread g c =
    let p = err_from_is_err_and c.from_residual.result c.from_residual.ensures.1 in
    rw (p.1, p.2)
    (stop_first g.S.Shelf.read_gives g.S.Shelf.faults (g.S.Shelf.holds c.args.shelf.now) file.Tree (Some c.args.serve.tree.now) (if_named file.World (option_copied c.args.serve.world) ++ [])
    c.args.shelf.now c.read_named.new.shelf c.in_err-tree.field-0.0 c.in_err-tree.ensures.unread)

pub returns-in_err-world-clause-unread : goal.returns-in_err-world-clause-unread
returns-in_err-world-clause-unread g c =
    let p = err_from_is_err_and c.from_residual-in_err-world.result c.from_residual-in_err-world.ensures.1 in
    rw (p.1, p.2)
    (stop_later g.S.Shelf.read_gives g.S.Shelf.faults (g.S.Shelf.holds c.args.shelf.now) file.Tree (Some c.args.serve.tree.now) (if_named file.World (option_copied c.args.serve.world) ++ [])
    c.in_ok-tree.tree.items c.args.shelf.now c.read_named.new.shelf c.read_world.new.shelf c.in_err-world.field-0.0 c.in_ok-tree.ensures.count c.in_ok-tree.ensures.read
    (stop_first g.S.Shelf.read_gives g.S.Shelf.faults (g.S.Shelf.holds c.args.shelf.now) file.World (option_copied c.args.serve.world) []
    c.read_named.new.shelf c.read_world.new.shelf c.in_err-world.field-0.0 (rw c.in_ok-tree.ensures.holds at c.in_err-world.ensures.unread)))

pub returns-clause-read : goal.returns-clause-read
returns-clause-read g c =
    let contents : Contents = record { tree = c.in_ok-tree.tree.items; world = world_bytes c.in_ok-world.world; rules = []; expect = [] } in
    read_first g.S.Shelf.read_gives g.S.Shelf.faults (g.S.Shelf.holds c.args.shelf.now) file.Tree (Some c.args.serve.tree.now) (if_named file.World (option_copied c.args.serve.world) ++ [])
    contents c.args.shelf.now c.read_named.new.shelf c.read_world.new.shelf c.in_ok-tree.ensures.read
    (read_first g.S.Shelf.read_gives g.S.Shelf.faults (g.S.Shelf.holds c.args.shelf.now) file.World (option_copied c.args.serve.world) []
    contents c.read_named.new.shelf c.read_world.new.shelf c.read_world.new.shelf (rw c.in_ok-tree.ensures.holds at c.in_ok-world.ensures.read) refl)

pub returns-clause-within : goal.returns-clause-within
returns-clause-within g c =
    let tree = c.in_ok-tree.ensures.read in
    let world = rw c.in_ok-tree.ensures.holds at c.in_ok-world.ensures.read in
    record {
      told = record {
        tree = told_of g.S.Shelf.read_gives g.S.Shelf.faults (g.S.Shelf.holds c.args.shelf.now) (Some c.args.serve.tree.now) c.in_ok-tree.tree.items c.args.shelf.now c.read_named.new.shelf tree;
        world = told_of g.S.Shelf.read_gives g.S.Shelf.faults (g.S.Shelf.holds c.args.shelf.now) (option_copied c.args.serve.world) (world_bytes c.in_ok-world.world) c.read_named.new.shelf c.read_world.new.shelf world;
        rules = tt;
        expect = tt;
      };
      short = record {
        tree = short_of g.S.Shelf.read_gives g.S.Shelf.faults (g.S.Shelf.holds c.args.shelf.now) (Some c.args.serve.tree.now) c.in_ok-tree.tree.items c.args.shelf.now c.read_named.new.shelf tree;
        world = short_of g.S.Shelf.read_gives g.S.Shelf.faults (g.S.Shelf.holds c.args.shelf.now) (option_copied c.args.serve.world) (world_bytes c.in_ok-world.world) c.read_named.new.shelf c.read_world.new.shelf world;
        rules = no_bytes;
        expect = no_bytes;
      };
    }
