use Rattle.host_library.proofs.Utf8s.{fitting}
use Rattle.host_library.proofs.hosted.Hosted.output_text.Goals as goal

pub add_text-requires-clause-utf8 : goal.add_text-requires-clause-utf8
add_text-requires-clause-utf8 c = fitting c.args.text.now (cc)
