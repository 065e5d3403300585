use Rattle.std.proofs.Common.{◌≡◌, true, sym, ◌∙◌}
use Rattle.spec_script.specs.Identifiers.{is_identifier}
use Rattle.script_reader.proofs.Identifiers.{IsUtf8-from_is_identifier}
use Rattle.tree_manifest.proofs.values.key_value.Goals as goal

pub copied-requires : goal.copied-requires
copied-requires c =
    let h : is_identifier c.args.key.now ≡ true = sym c.is_identifier.ensures ∙ c.if-not-is_identifier.false in
    IsUtf8-from_is_identifier c.args.key.now h
