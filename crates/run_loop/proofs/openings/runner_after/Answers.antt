use Rattle.run_loop.proofs.openings.runner_after.Goals as goal

pub arena_after-requires-clause-first : goal.arena_after-requires-clause-first
arena_after-requires-clause-first g c = (c.requires.first.0, c.requires.first.1.arena)

pub returns : goal.returns
returns g c world is = record { arena = c.in_ok-arena.ensures world is.arena; board = c.in_ok-board.ensures.board }
