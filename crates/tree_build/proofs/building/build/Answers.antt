use Rattle.std.proofs.Common.{Result, subst}
use Rattle.std.specs.Option.{option_copied}
use Rattle.base_texts.specs.Stops.{Gives}
use Rattle.spec_tree.specs.declared.term.Tree.{Tree}
use Rattle.spec_tree_file.specs.declared.build_fault.BuildFault.{BuildFault}
use Rattle.tree_build.proofs.Fits.{gives_valid}
use Rattle.tree_build.proofs.ReadLaw.{file_same}
use Rattle.tree_build.proofs.building.build.Goals as goal

pub returns-clause-reads : goal.returns-clause-reads
returns-clause-reads c =
    subst (λ (said : Result Tree BuildFault). Gives c.file_read.result said) (file_same c.args.models.now (option_copied c.args.main) c.args.elements.now.root) c.file_read.ensures

pub returns-clause-valid : goal.returns-clause-valid
returns-clause-valid c =
    gives_valid c.file_read.result c.args.models.now (option_copied c.args.main) c.args.elements.now.root c.requires.valid c.requires.models
    (subst (λ (said : Result Tree BuildFault). Gives c.file_read.result said) (file_same c.args.models.now (option_copied c.args.main) c.args.elements.now.root) c.file_read.ensures)
