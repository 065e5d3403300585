-- The status of a node, by its place in an arena.
use Rattle.std.specs.Prelude.{ℕ, ◌&&◌, nat_le, nat_lt, if◌then◌else◌, List, length, Option, Some, None}
use Rattle.spec_run.specs.declared.status.Status.{Status}
use Rattle.run_arena.specs.declared.nodes.Kept.{Kept}
use Rattle.run_arena.specs.declared.nodes.Node.{Node}
use Rattle.run_arena.specs.Nodes.{kept_at}

-- that of the node of a uid; place 0 belongs to no node
abbrev pub status_at : List Node → List Kept → ℕ → Option Status
status_at nodes kept uid = if nat_le 1 uid && nat_lt uid (length nodes) then Some (kept_at kept uid).status else None
