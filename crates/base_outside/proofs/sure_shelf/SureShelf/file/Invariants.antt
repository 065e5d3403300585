use Rattle.std.proofs.Common.{◌≡◌, drop}
use Rattle.base_outside.specs.Files.{contents, file_of}
use Rattle.base_outside.proofs.sure_shelf.SureShelf.file.Given as goal

abbrev pub invariant-loop-key : goal.invariant-loop-key
invariant-loop-key l = file_of (contents (drop l.key-index l.key-items)) l.name ≡ file_of (contents l.key-items) l.name
