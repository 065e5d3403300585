use Rattle.std.proofs.Common.{ℕ, ◌-◌, ◌∙◌, ap, length, drop, take}
use Rattle.std.specs.List.{list_all}
use Rattle.spec_script.specs.Identifiers.{is_identifier_continue}
use Rattle.script_reader.proofs.Lexing.{list_all-prefix}
use Rattle.script_reader.proofs.lexer.token.Goals as goal

pub word-requires : goal.word-requires
word-requires c =
    let bytes = take (length c.args.text.now - c.args.at) (drop c.args.at c.args.text.now) in
    ap (λ (n : ℕ). list_all is_identifier_continue (take n bytes)) c.rest_len-len.ensures.value ∙ list_all-prefix is_identifier_continue bytes
