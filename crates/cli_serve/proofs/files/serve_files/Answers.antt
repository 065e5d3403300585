use Rattle.spec_outside.specs.Counts.{Rose}
use Rattle.spec_serve.specs.Served.{IsHeard}
use Rattle.cli_words.specs.Serving.{serve_seen}
use Rattle.cli_serve.specs.Serving.{sink}
use Rattle.cli_serve.proofs.Answered.{read_answered, unread_answered}
use Rattle.cli_serve.proofs.files.serve_files.Goals as goal

pub returns-in-Ok-clause-answers : goal.returns-in-Ok-clause-answers
returns-in-Ok-clause-answers g c =
    read_answered g.S.Shelf.read_gives (g.S.Shelf.holds c.args.shelf.now) (serve_seen c.args.serve)
    (IsHeard (g.L.Lines.ahead c.args.lines.now) (Rose (g.L.Lines.faults c.args.lines.now) (g.L.Lines.faults c.serve_read.new.lines)))
    (Rose (g.S.Shelf.faults c.args.shelf.now) (g.S.Shelf.faults c.read_files.new.shelf)) c.args.shelf.now c.read_files.new.shelf c.serve_read.result
    (sink (g.K.Sink.written c.args.out.now) (g.K.Sink.handed c.args.out.now) (g.K.Sink.faults c.args.out.now))
    (sink (g.K.Sink.written c.serve_read.new.out) (g.K.Sink.handed c.serve_read.new.out) (g.K.Sink.faults c.serve_read.new.out))
    c.in-Ok.files c.in-Ok.ensures.read c.in-Ok.ensures.within c.in-Ok.ensures.world c.serve_read.ensures.said

pub returns-in-Err-clause-answers : goal.returns-in-Err-clause-answers
returns-in-Err-clause-answers g c =
    unread_answered g.S.Shelf.read_gives (g.S.Shelf.holds c.args.shelf.now) (serve_seen c.args.serve)
    (IsHeard (g.L.Lines.ahead c.args.lines.now) (Rose (g.L.Lines.faults c.args.lines.now) (g.L.Lines.faults c.args.lines.now)))
    (Rose (g.S.Shelf.faults c.args.shelf.now) (g.S.Shelf.faults c.read_files.new.shelf)) c.args.shelf.now c.read_files.new.shelf c.write_refusal.result
    (sink (g.K.Sink.written c.args.out.now) (g.K.Sink.handed c.args.out.now) (g.K.Sink.faults c.args.out.now))
    (sink (g.K.Sink.written c.write_refusal.new.out) (g.K.Sink.handed c.write_refusal.new.out) (g.K.Sink.faults c.write_refusal.new.out))
    c.in-Err.refusal c.in-Err.ensures.unread c.write_refusal.ensures.refused
