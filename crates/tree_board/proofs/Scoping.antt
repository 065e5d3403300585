-- How the ports of a SubTree node, taken one after the other, give the cells of its scope.
use Rattle.std.proofs.Common.{◌≡◌, ℕ, List, [], Bool, true, false, cond, Option, Some, None, refl, sym, ap, ◌∙◌}
use Rattle.spec_tree.specs.declared.cell.Cell.{Cell}
use Rattle.spec_tree.specs.declared.term.Port.{Port}
use Rattle.spec_tree.specs.Boards.{Scope, cell_by_port, is_private, owner, scope_below}
use Rattle.tree_board.specs.Countings.{cell_left}
use Rattle.tree_board.specs.Scopes.{cell_by_entry}
use Rattle.tree_board.specs.declared.scope.Mappings.{Mappings}

-- the cell that is found for a key, or else that of the ports which are left
abbrev pub found_or : Option Cell → List Port → ℕ → Bool → Scope → Scope
found_or (Some cell) ports uid autoremap outer key = cell
found_or None ports uid autoremap outer key = scope_below uid ports autoremap outer key

-- what is found, and what is left, give the scope of all the ports
abbrev pub Gives : (List ℕ → Option Cell) → List Port → ℕ → Bool → Scope → Scope → Type 0
Gives found ports uid autoremap outer whole = (key : List ℕ) → found_or (found key) ports uid autoremap outer key ≡ whole key

-- where no ports are left, what is found gives the scope
pub all_found : (found : Option Cell) (mappings : Mappings) (outer : Scope) (key : List ℕ)
    → cell_by_entry found mappings outer key ≡ found_or found [] mappings.uid mappings.autoremap outer key
all_found (Some cell) mappings outer key = refl
all_found None mappings outer key = refl

-- the cell of a key that is named in the scope, by what is found of its port, or else by the ports which are left
abbrev pub left_or : Option (Option (List ℕ)) → List Port → ℕ → Bool → Scope → Scope
left_or (Some mapped) ports uid autoremap outer key = cell_left (Some mapped) uid autoremap outer key
left_or None ports uid autoremap outer key = scope_below uid ports autoremap outer key

-- the cell of a key that is left to the scope further out, or that its own scope keeps
pub left_mapped : (found : Option (Option (List ℕ))) (mapped : List ℕ) (uid : ℕ) (autoremap : Bool) (outer : Scope) (key : List ℕ) → Some (Some mapped) ≡ found
    → cell_left found uid autoremap outer key ≡ outer mapped
left_mapped found mapped uid autoremap outer key is = ap (λ (f : Option (Option (List ℕ))). cell_left f uid autoremap outer key) (sym is)

pub left_out : (found : Option (Option (List ℕ))) (uid : ℕ) (autoremap : Bool) (outer : Scope) (key : List ℕ) → None ≡ found → autoremap ≡ true → is_private key ≡ false
    → cell_left found uid autoremap outer key ≡ outer key
left_out found uid autoremap outer key is maps public =
    ap (λ (f : Option (Option (List ℕ))). cell_left f uid autoremap outer key) (sym is)
    ∙ ap (λ b. cell_by_port None uid b outer key) maps
    ∙ ap (λ b. cond b (owner uid key) (outer key)) public
