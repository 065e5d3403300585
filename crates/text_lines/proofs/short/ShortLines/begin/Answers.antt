use Rattle.std.proofs.Common.{ℕ, List, ◌++◌, ap, ◌∙◌, arith, codes, length-take-le}
use Rattle.std.specs.Fmt.{decimal}
use Rattle.text_lines.proofs.Numbers.{labelled}
use Rattle.text_lines.proofs.short.ShortLines.begin.Goals as goal

pub returns-in-Some-clause-text : goal.returns-in-Some-clause-text
returns-in-Some-clause-text c =
    let room = c.room-len in
    let there = length-take-le c.self.inside.len c.self.inside.bytes (omega arith) in
    labelled c.copy_in-in-Some.new.bytes c.copy_in.new.bytes _ c.args.word room.result.0 c.in-Some.label.now _ room.result.1 c.args.number
    there (omega arith) c.copy_in.ensures.prefix (omega arith) c.copy_in-in-Some.ensures.prefix room.ensures.text c.in-Some.ensures.some
    ∙ ap (λ (z : List ℕ). z ++ (c.args.word ++ codes " " ++ decimal c.args.number)) c.self.view_is
