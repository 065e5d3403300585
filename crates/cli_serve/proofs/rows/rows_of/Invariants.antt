use Rattle.std.proofs.Common.{◌≡◌, ◌++◌, filter, map, true}
use Rattle.std.specs.List.{list_all}
use Rattle.spec_serve.specs.Rows.{is_small_row}
use Rattle.spec_tree_file.specs.Models.{is_model, name_of}
use Rattle.cli_serve.specs.Leaves.{row_of_leaf}
use Rattle.cli_serve.proofs.rows.rows_of.Given as goal

-- the rows so far, and those of the leaves that are left, are all
abbrev pub invariant-loop-id : goal.invariant-loop-id
invariant-loop-id l = record {
  all : l.rows.items ++ map (row_of_leaf (filter (λ m. is_model (name_of m)) l.models)) l.id-iterator ≡ map (row_of_leaf (filter (λ m. is_model (name_of m)) l.models)) l.leaves.entries;
  small : list_all is_small_row l.rows.items ≡ true;
}
