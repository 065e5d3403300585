-- Why lines are refused, and what is written then.
use Rattle.std.specs.Prelude.{ℕ, List, ◌++◌, codes, decimal}
use Rattle.spec_program.specs.Refusals.{kind_word}
use Rattle.spec_serve.specs.declared.request_fault.RequestFault.{RequestFault}
use Rattle.spec_serve.specs.declared.request_fault.RequestFault.TheVariants as request
use Rattle.spec_session.specs.declared.ended.Misuse.{Misuse}
use Rattle.spec_session.specs.declared.ended.Misuse.TheVariants as misuse
use Rattle.spec_world_file.specs.declared.world_fault.WorldFaultKind.TheVariants as line

-- the word of what is wrong
abbrev pub request_word : RequestFault → List ℕ
request_word (request.Line kind) = kind_word kind
request_word request.NoRunner = codes "NoRunner"
request_word request.NoLeaf = codes "NoLeaf"
request_word request.NoOutput = codes "NoOutput"
request_word request.TooLong = codes "TooLong"
request_word request.TooMany = codes "TooMany"
request_word request.End = codes "End"

-- the line that refuses the line of a number
abbrev pub refused_line : RequestFault → ℕ → List ℕ
refused_line fault number = codes "refused request " ++ request_word fault ++ codes " " ++ decimal number ++ codes "\n"

-- why a line is refused whose event a session does not take
abbrev pub misused : Misuse → RequestFault
misused misuse.NoRunner = request.NoRunner
misused misuse.NoLeaf = request.NoLeaf
misused misuse.NoOutput = request.NoOutput
misused misuse.MomentBack = request.Line line.MomentBack
misused misuse.MomentLate = request.Line line.Range
misused misuse.NoFact = request.Line line.NoName
misused misuse.BadTelling = request.Line line.TooMany
misused misuse.Over = request.End
misused misuse.NoEvent = request.End
