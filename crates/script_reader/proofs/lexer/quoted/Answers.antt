use Rattle.std.proofs.Common.{◌≤◌, ◌+◌, ◌-◌, length, drop, subst, sym, arith}
use Rattle.std.proofs.lemmas.Grind.{common_steps}
use Rattle.std.specs.Str.{IsUtf8}
use Rattle.std.proofs.lemmas.List.{take_all, length-drop}
use Rattle.script_reader.proofs.Lexing.{quoted_utf8}
use Rattle.script_reader.proofs.lexer.quoted.Goals as goal

pub of-requires-clause-utf8 : goal.of-requires-clause-utf8
of-requires-clause-utf8 c =
    let h = c.in_ok-from_slice.ensures.items in
    let text = c.args.text.now in
    let at = c.args.at in
    let fits : length (drop (at + 1) text) ≤ length text - (at + 1) = omega (arith, length-drop (at + 1) text) in
    subst IsUtf8 (sym h) (quoted_utf8 text _ at c.quote_place-len.result c.requires.utf8 c.requires.inside c.requires.quote (take_all _ _ fits) c.quote_place-len.ensures.value (grind (arith, common_steps)))
