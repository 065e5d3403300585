use Rattle.std.proofs.Common.{◌≡◌, ℕ, List, false, true, Result, Err}
use Rattle.std.specs.Prelude.{codes}
use Rattle.std.specs.Str.{bytes_eq}
use Rattle.std.proofs.lemmas.Result.{err_from_is_err_and}
use Rattle.base_texts.specs.declared.stop.Stop.{Stop}
use Rattle.base_texts.specs.declared.stop.Stop.TheVariants as stop
use Rattle.cli_serve.proofs.Requests.{event_reads, fault_reads, moment_reads, no_request, tested_line, tested_word}
use Rattle.cli_serve.specs.Asking.{Asks, is_request_word}
use Rattle.spec_serve.specs.declared.request.Request.{Request}
use Rattle.spec_serve.specs.Requests.{RequestReads}
use Rattle.spec_world_file.specs.declared.world_fault.WorldFaultKind.{WorldFaultKind}
use Rattle.spec_world_file.specs.WorldFile.{AfterText, Reading, content, front_word}
use Rattle.world_draft.specs.Readings.{Leaves}
use Rattle.cli_serve.proofs.request.read_request.Goals as goal

abbrev unread : Stop WorldFaultKind → Result (Unit {0}) (Stop WorldFaultKind)
unread e = Err e

abbrev unasked : Stop WorldFaultKind → Result Request (Stop WorldFaultKind)
unasked e = Err e

-- a line that is not read asks nothing
stopped : (r left : Reading) (text : List ℕ) (e : Stop WorldFaultKind) → bytes_eq (content text) (codes "finish") ≡ false → is_request_word (front_word (content text)) ≡ true →
    Leaves (unread e) left (AfterText r text) → Asks (unasked e) left (RequestReads r text)
stopped r left text stop.NoMemory unfinished is_asked leaves = tt
stopped r left text (stop.Fault kind) unfinished is_asked leaves = fault_reads r text kind unfinished is_asked leaves

pub returns-then-not-is_request-clause-reads : goal.returns-then-not-is_request-clause-reads
returns-then-not-is_request-clause-reads c =
    no_request c.args.reading.now c.args.text.now (tested_line c.content-line.result.now c.args.text.now c.content-line.ensures c.if-is.ensures)
    (tested_word c.content-line.result.now c.cut.result.0.now c.args.text.now false c.content-line.ensures c.cut.ensures.prefix c.if-not-is_request.ensures)

pub returns-in_err-read_text-clause-reads : goal.returns-in_err-read_text-clause-reads
returns-in_err-read_text-clause-reads c =
    let p = err_from_is_err_and c.from_residual.result c.from_residual.ensures.1 in
    rw (p.1, p.2) (stopped c.args.reading.now c.read_text.new.reading c.args.text.now c.in_err-read_text.field-0.0
    (tested_line c.content-line.result.now c.args.text.now c.content-line.ensures c.if-is.ensures)
    (tested_word c.content-line.result.now c.cut.result.0.now c.args.text.now true c.content-line.ensures c.cut.ensures.prefix c.if-not-is_request.ensures)
    c.in_err-read_text.ensures)

pub returns-in-Some-clause-reads : goal.returns-in-Some-clause-reads
returns-in-Some-clause-reads c =
    (event_reads c.args.reading.now c.read_text.new.reading c.take_event.new.self c.args.text.now c.in-Some.event c.requires
    (tested_line c.content-line.result.now c.args.text.now c.content-line.ensures c.if-is.ensures)
    (tested_word c.content-line.result.now c.cut.result.0.now c.args.text.now true c.content-line.ensures c.cut.ensures.prefix c.if-not-is_request.ensures)
    c.in_ok-read_text.ensures c.in-Some.ensures.took c.take_event.ensures.kept).1

pub returns-in-Some-clause-taken : goal.returns-in-Some-clause-taken
returns-in-Some-clause-taken c =
    (event_reads c.args.reading.now c.read_text.new.reading c.take_event.new.self c.args.text.now c.in-Some.event c.requires
    (tested_line c.content-line.result.now c.args.text.now c.content-line.ensures c.if-is.ensures)
    (tested_word c.content-line.result.now c.cut.result.0.now c.args.text.now true c.content-line.ensures c.cut.ensures.prefix c.if-not-is_request.ensures)
    c.in_ok-read_text.ensures c.in-Some.ensures.took c.take_event.ensures.kept).0

pub returns-in-None-clause-reads : goal.returns-in-None-clause-reads
returns-in-None-clause-reads c =
    moment_reads c.args.reading.now c.read_text.new.reading c.take_event.new.self c.args.text.now
    (tested_line c.content-line.result.now c.args.text.now c.content-line.ensures c.if-is.ensures)
    (tested_word c.content-line.result.now c.cut.result.0.now c.args.text.now true c.content-line.ensures c.cut.ensures.prefix c.if-not-is_request.ensures)
    c.in_ok-read_text.ensures c.in-None.ensures.took.0 c.in-None.ensures.took.1 c.take_event.ensures.kept
