use Rattle.host_library.proofs.Utf8s.{is_not, is_so}
use Rattle.host_library.proofs.text.is_utf8.Goals as goal

pub returns-in-Ok-clause-test : goal.returns-in-Ok-clause-test
returns-in-Ok-clause-test c = is_so c.args.bytes.now c.in-Ok.ensures.cases.1

pub returns-in-Err-clause-test : goal.returns-in-Err-clause-test
returns-in-Err-clause-test c = is_not c.args.bytes.now c.in-Err.ensures.cases.0
