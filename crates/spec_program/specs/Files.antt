-- The files of a command: how it names them, and what they hold.
use Rattle.std.specs.Prelude.{ℕ, List, Option, Some, None}

-- the names of the files that a command names
pub record Named : Type 0 where
  pub tree : Option (List ℕ)
  pub world : Option (List ℕ)
  pub rules : Option (List ℕ)
  pub expect : Option (List ℕ)

abbrev pub no_files : Named
no_files = record { tree = None; world = None; rules = None; expect = None }

abbrev pub tree_alone : List ℕ → Named
tree_alone tree = record { tree = Some tree; world = None; rules = None; expect = None }

abbrev pub world_alone : List ℕ → Named
world_alone world = record { tree = None; world = Some world; rules = None; expect = None }

abbrev pub tree_and_world : List ℕ → List ℕ → Named
tree_and_world tree world = record { tree = Some tree; world = Some world; rules = None; expect = None }

abbrev pub tree_and_rules : List ℕ → List ℕ → Named
tree_and_rules tree rules = record { tree = Some tree; world = None; rules = Some rules; expect = None }

abbrev pub tree_world_rules : List ℕ → List ℕ → List ℕ → Named
tree_world_rules tree world rules = record { tree = Some tree; world = Some world; rules = Some rules; expect = None }

abbrev pub tree_world_expect : List ℕ → List ℕ → List ℕ → Named
tree_world_expect tree world expect = record { tree = Some tree; world = Some world; rules = None; expect = Some expect }

-- the bytes of the files; those of a file that the command does not name are any
pub record Contents : Type 0 where
  pub tree : List ℕ
  pub world : List ℕ
  pub rules : List ℕ
  pub expect : List ℕ
