-- Putting in the literals of a term, node by node.
use Rattle.std.proofs.Common.{◌≡◌, ℕ, ◌+◌, ◌<◌, List, [], ◌∷◌, ◌++◌, Option, Some, map, length, length-set, drop, get_or, refl, sym, ap, ◌∙◌}
use Rattle.std.proofs.lemmas.Grind.{flat_map-append}
use Rattle.std.proofs.lemmas.List.{drop_more}
use Rattle.std.specs.List.{flat_map}
use Rattle.spec_script.specs.declared.value.Value.{Value}
use Rattle.spec_tree.specs.declared.cell.Cell.{Cell}
use Rattle.spec_tree.specs.declared.term.Term.{Term, out-Term}
use Rattle.spec_tree.specs.Boards.{Scope, children_scope, children_scope_number, literals_at, slot_in, standing_from, standing_all, with_literals}
use Rattle.spec_tree.specs.Terms.{node_count}
use Rattle.tree_board.specs.Openings.{node_literals}
use Rattle.tree_board.proofs.Standings.{standing_count, standing_out}

-- first the ones, and then the others
pub with_literals_append : (cells : List Cell) (xs ys : List (Cell × Value)) (entries : List (Option Value))
    → with_literals cells (xs ++ ys) entries ≡ with_literals cells ys (with_literals cells xs entries)
with_literals_append cells [] ys entries = refl
with_literals_append cells (x ∷ xs) ys entries = with_literals_append cells xs ys _

-- a term's literals: those of its node, and then those of its children
pub literals_out : (t : Term) (uid number : ℕ) (scope : Scope) → flat_map literals_at (standing_from t uid number scope)
    ≡ node_literals t uid ++ flat_map literals_at (standing_all (map standing_from (out-Term t).children) (uid + 1) (children_scope_number (out-Term t).kind uid number)
    (children_scope (out-Term t).kind uid (out-Term t).ports (out-Term t).autoremap scope))
literals_out t uid number scope = ap (flat_map literals_at) (standing_out t uid number scope)

-- the literals of the terms from one on
pub literals_here : (ts : List Term) (i : ℕ) (t : Term) (uid next number : ℕ) (scope : Scope) → i < length ts → t ≡ get_or ts i t → next ≡ uid + node_count t
    → flat_map literals_at (standing_all (map standing_from (drop i ts)) uid number scope)
    ≡ flat_map literals_at (standing_from t uid number scope) ++ flat_map literals_at (standing_all (map standing_from (drop (i + 1) ts)) next number scope)
literals_here ts i t uid next number scope within is_t is_next =
    ap (λ (xs : List Term). flat_map literals_at (standing_all (map standing_from xs) uid number scope)) (drop_more ts i t within ∙ ap (λ (x : Term). x ∷ drop (i + 1) ts) (sym is_t))
    ∙ flat_map-append literals_at (standing_from t uid number scope) _
    ∙ ap (λ n. flat_map literals_at (standing_from t uid number scope) ++ flat_map literals_at (standing_all (map standing_from (drop (i + 1) ts)) n number scope))
    (ap (λ n. uid + n) (standing_count t uid number scope) ∙ sym is_next)

-- a board keeps its number of slots
pub length_with_literals : (cells : List Cell) (ls : List (Cell × Value)) (entries : List (Option Value)) → length (with_literals cells ls entries) ≡ length entries
length_with_literals cells [] entries = refl
length_with_literals cells (l ∷ ls) entries = length_with_literals cells ls _ ∙ length-set entries (slot_in cells l.0) (Some l.1)
