-- A tree without SubTree nodes opens no other tree.
use Rattle.std.proofs.Common.{◌≡◌, ℕ, ◌+◌, Bool, true, ◌&&◌, List, [], ◌∷◌, ◌++◌, map, Some, refl, ap, sym, ◌∙◌, subst, arith}
use Rattle.std.specs.Prelude.{bytes_eq, sum}
use Rattle.std.specs.Cmp.Derive.{both_true}
use Rattle.std.specs.List.{flat_map, list_all, AllByRecursion}
use Rattle.std.specs.Map.{lookup}
use Rattle.std.proofs.lemmas.List.Sums.{sum_by-cons}
use Rattle.spec_tree_file.specs.declared.element.Element.{Element}
use Rattle.spec_tree.specs.declared.term.Kind.{Kind}
use Rattle.spec_tree.specs.declared.term.Kind.TheVariants.{SubTree}
use Rattle.spec_tree.specs.declared.term.Term.{Term, Term-F, roll-Term, fold-roll-Term, ind-Term}
use Rattle.spec_tree.specs.declared.term.Tree.{Tree}
use Rattle.spec_tree.specs.Terms.{own_scopes, scope_count}
use Rattle.tree_round_trip.specs.Openings.{OpensAlike, fresh_by, fresh_step, opens_fresh}
use Rattle.tree_round_trip.specs.TreeElements.{Said, Subtree, own_tree, said, said_node}
use Rattle.tree_round_trip.proofs.ReadNodes.{elements_of, opened_in}

-- a term that opens no tree
record OpensNone (t : Term) : Type 0 where
  fresh : (opened : List (List ℕ)) → opens_fresh t opened ≡ true
  none : (said t).opened ≡ []

record NoneOpens (ts : List Term) : Type 0 where
  fresh : (opened : List (List ℕ)) → list_all (λ (child : List (List ℕ) → Bool). child opened) (map opens_fresh ts) ≡ true
  none : opened_in ts ≡ []

abbrev IsLone : Term → Type 0
IsLone t = scope_count t ≡ 0 → OpensNone t

abbrev bare : List ((t : Term) × IsLone t) → List Term
bare ts = map (λ t. t.0) ts

abbrev parts : Term-F ((t : Term) × IsLone t) → Term-F Term
parts y = record { kind = y.kind; id = y.id; name = y.name; ports = y.ports; code = y.code; guards = y.guards; autoremap = y.autoremap; children = bare y.children }

children_lone : (ts : List ((t : Term) × IsLone t)) → sum (map scope_count (bare ts)) ≡ 0 → NoneOpens (bare ts)
children_lone [] few = record { fresh = λ opened. refl; none = refl }
children_lone (t ∷ ts) few =
    let first = sum_by-cons (λ (n : ℕ). n) (scope_count t.0) (map scope_count (bare ts)) in
    let own = t.1 (omega (arith, first, few)) in
    let others = children_lone ts (omega (arith, first, few)) in
    record {
      fresh = λ opened. both_true (own.fresh opened) (others.fresh opened);
      none = ap (λ (l : List Subtree). l ++ opened_in (bare ts)) own.none ∙ others.none;
    }

-- a node that is no SubTree opens what its children open
kind_lone : (kind : Kind) (id : List ℕ) (ts : List Term) → own_scopes kind ≡ 0 → NoneOpens ts →
    ((opened : List (List ℕ)) → fresh_by kind id (map opens_fresh ts) opened ≡ true) × (own_tree kind id (elements_of ts) ++ opened_in ts ≡ [])
kind_lone SubTree id ts few all = absurd (cc few)
kind_lone kind id ts few all = (all.fresh, all.none)

node_lone : (y : Term-F ((t : Term) × IsLone t)) → IsLone (roll-Term (parts y))
node_lone y few =
    let x = parts y in
    let scopes = fold-roll-Term ℕ (λ node. own_scopes node.kind + sum node.children) x in
    let below = children_lone y.children (omega (arith, scopes, few)) in
    let own = kind_lone y.kind y.id x.children (omega (arith, scopes, few)) below in
    record {
      fresh = λ opened. ap (λ (f : List (List ℕ) → Bool). f opened) (fold-roll-Term (List (List ℕ) → Bool) fresh_step x) ∙ own.0 opened;
      none = ap (λ (s : Said). s.opened) (fold-roll-Term Said said_node x) ∙ own.1;
    }

term_lone : (t : Term) → IsLone t
term_lone = ind-Term IsLone (λ x y is. subst (λ (z : Term-F Term). IsLone (roll-Term z)) is (node_lone y))

-- so its trees are opened alike
pub lone_alike : (tree : Tree) → scope_count tree.term ≡ 0 → OpensAlike tree
lone_alike tree few =
    let t = term_lone tree.term few in
    record {
      fresh = t.fresh (tree.main ∷ []);
      alike = subst (λ (l : List Subtree). AllByRecursion (λ s. lookup (bytes_eq s.0) l ≡ Some s.1) l) (sym t.none) tt;
    }
