-- What is served of a session that files open is served of the files.
use Rattle.std.proofs.Common.{◌≡◌, ℕ, List, Option, Ok, subst}
use Rattle.cli_serve.specs.declared.files.Files.{Files}
use Rattle.cli_serve.specs.declared.serving.Serving.{Serving}
use Rattle.cli_serve.specs.Files.{IsOpened, OpensTo, world_read}
use Rattle.spec_serve.specs.Served.{FilesSaid, IsServed}
use Rattle.spec_serve.specs.Talks.{Heard, Said, Serves}
use Rattle.spec_session.specs.Opening.{opened}
use Rattle.spec_session.specs.Sessions.{Sitting}
use Rattle.spec_tree.specs.declared.term.Tree.{Tree}
use Rattle.spec_world.specs.declared.world.World.{World}
use Rattle.spec_world_file.specs.WorldFile.{Reading}
use Rattle.cli_serve.proofs.Laws.Served.{files_go, is_served}

module _ (serving : Serving) (heard : Heard) (said : Said) (serves : Serves serving.session.own heard serving.reading serving.session said) where
  -- it is served of the tree in the world that were opened
  serves_opened : (tree : Tree) (read : World × Reading) → IsOpened serving (λ other. other ≡ said) tree read.0 read.1 said → Serves read.0.events heard read.1 (opened tree read.0) said
  serves_opened tree read is =
      subst (λ (r : Reading). Serves read.0.events heard r (opened tree read.0) said) is.1
      (subst (λ (s : Sitting). Serves s.own heard serving.reading s said) is.0 serves)

  pub files_served : (main : Option (List ℕ)) (files : Files) → OpensTo (Ok serving) main files → FilesSaid (IsServed heard) main files.tree.items (world_read files) said
  files_served main files opens =
      files_go (IsOpened serving (λ other. other ≡ said)) (IsServed heard) (world_read files) files.tree.items said
      (λ tree read world is. is_served (world_read files) files.tree.items heard tree read said world (serves_opened tree read is)) main (opens said)
