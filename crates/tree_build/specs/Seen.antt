-- What the code holds, as the definitions have it.
use Rattle.std.specs.Prelude.{ℕ, List, map, Option, Result, Ok, Err}
use Rattle.std.specs.Borrow.{Bor}
use Rattle.std.specs.Option.{option_copied}
use Rattle.spec_tree_file.specs.declared.element.Element.{Element}
use Rattle.base_tables.specs.BuiltInRows.{rule_seen}
use Rattle.tree_build.specs.declared.rules.Rules.{Rules as Kept}
use Rattle.tree_build.specs.declared.rules.Rules.TheVariants as kept
use Rattle.tree_build.specs.declared.tree.File.{File as Defined}
use Rattle.spec_tree_file.specs.Content.{Rules, AnyPort, AnyKey, Modelled, BuiltIn}
use Rattle.spec_tree_file.specs.Reads.{File, Trees}

-- the rules of ports
abbrev pub rules_seen : Kept → Rules
rules_seen kept.AnyPort = AnyPort
rules_seen kept.AnyKey = AnyKey
rules_seen (kept.Modelled model) = Modelled model.now.ports
rules_seen (kept.BuiltIn rules) = BuiltIn (map rule_seen rules.now)

-- a text that is lent, as a text
abbrev pub text_seen : {F : Type 0} → Result (Option (Bor (List ℕ))) F → Result (Option (List ℕ)) F
text_seen (Ok text) = Ok (option_copied text)
text_seen (Err stop) = Err stop

-- the table of trees
abbrev pub trees_seen : List (List ℕ × Bor Element) → Trees
trees_seen entries = map (λ tree. (tree.0, tree.1.now)) entries

-- what a file defines
abbrev pub file_seen : Defined → File
file_seen file = record { trees = trees_seen file.trees.now.entries; models = file.contents; version = file.version }

-- some IDs
abbrev pub ids_seen : List (Bor (List ℕ)) → List (List ℕ)
ids_seen ids = map (λ id. id.now) ids
