-- What a fault of a sink means for a text.
use Rattle.base_outside.specs.declared.sink.SinkFault.{SinkFault}
use Rattle.base_outside.specs.declared.sink.SinkFault.TheVariants as sink
use Rattle.text_lines.specs.declared.stop.TextStop.{TextStop}
use Rattle.text_lines.specs.declared.stop.TextStop.TheVariants as stop

-- the stop of a text at a fault of its sink
abbrev pub text_stop : SinkFault → TextStop
text_stop sink.Failed = stop.WriteFault
text_stop sink.NoMemory = stop.NoMemory
