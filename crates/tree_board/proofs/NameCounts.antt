-- How many keys a tree names: its slots are no more.
use Rattle.std.proofs.Common.{◌≡◌, ℕ, ◌+◌, ◌-◌, ◌≤◌, Bool, true, false, nat_le, List, [], ◌∷◌, ◌++◌, map, sum, length, length-append, Option, Some, None, if◌then◌else◌, refl, ap, subst, ◌∙◌, arith}
use Rattle.std.proofs.lemmas.Bool.Decides.{nat_tests}
use Rattle.std.proofs.lemmas.Grind.{flat_map-append}
use Rattle.std.proofs.lemmas.List.{length-map}
use Rattle.std.proofs.lemmas.List.Sums.{sum_by-cons}
use Rattle.std.specs.List.{flat_map}
use Rattle.std.specs.Option.{IfSome, SomeIff, is_some}
use Rattle.spec_script.specs.declared.syntax.Script.{Script}
use Rattle.spec_script.specs.Scripts.{stmt_names}
use Rattle.spec_tree.specs.declared.cell.Naming.{Naming}
use Rattle.spec_tree.specs.declared.term.Kind.{Kind}
use Rattle.spec_tree.specs.declared.term.Kind.TheVariants.{SubTree}
use Rattle.spec_tree.specs.declared.term.Port.{Port}
use Rattle.spec_tree.specs.declared.term.PortValue.{PortValue}
use Rattle.spec_tree.specs.declared.term.PortValue.TheVariants.{Lit, Key}
use Rattle.spec_tree.specs.declared.term.Term.{Term, Term-F, ind-Term, fold-roll-Term}
use Rattle.spec_tree.specs.declared.term.Tree.{Tree}
use Rattle.spec_tree.specs.Boards.{Scope, Standing, children_scope, children_scope_number, keys_named, literal_name, literal_names, main_scope, makes_scope, named_in, namings, namings_at, scope_below, scripts_of, slots, standing_all, standing_from, standing_step, value_keys}
use Rattle.tree_board.specs.Namings.{name_count, namings_of_term, namings_of_terms, own_name_count, script_names}
use Rattle.tree_board.proofs.CellOrder.{in_order_length}

-- the names of some scripts, and of others
pub script_names_both : (xs ys : List Script) → length (script_names (xs ++ ys)) ≡ length (script_names xs) + length (script_names ys)
script_names_both xs ys =
    let one = λ (script : Script). flat_map stmt_names script.stmts in
    ap (λ (names : List (List ℕ)). length names) (flat_map-append one xs ys) ∙ length-append (script_names xs) (script_names ys)

-- what a node names where it stands
abbrev here : {A : Type 0} → Term-F A → ℕ → ℕ → Scope → Standing
here x uid number scope = record {
  uid = uid;
  number = number;
  scope = scope;
  kind = x.kind;
  ports = x.ports;
  autoremap = x.autoremap;
  scripts = scripts_of x.code x.guards;
}

inner_count : (makes : Bool) (uid : ℕ) (inner : Scope) (ports : List Port)
    → length (if makes then map (named_in uid inner) (literal_names ports) else []) ≡ (if makes then length (literal_names ports) else 0)
inner_count true uid inner ports = length-map (literal_names ports) (named_in uid inner)
inner_count false uid inner ports = refl

own_count : {A : Type 0} (x : Term-F A) (uid number : ℕ) (scope : Scope) → length (namings_at (here x uid number scope)) ≡ own_name_count x
own_count x uid number scope =
    let node = here x uid number scope in
    let scripts = script_names (scripts_of x.code x.guards) in
    let values = flat_map (λ (port : Port). value_keys port.value) x.ports in
    let inner = scope_below uid x.ports x.autoremap scope in
    let made : List Naming = if makes_scope x.kind then map (named_in uid inner) (literal_names x.ports) else [] in
    length-append (map (named_in number scope) (keys_named node)) made
    ∙ omega (arith, length-map (keys_named node) (named_in number scope), length-append scripts values, inner_count (makes_scope x.kind) uid inner x.ports)

abbrev IsCounted : Term → Type 0
IsCounted t = (uid number : ℕ) (scope : Scope) → length (namings_of_term t uid number scope) ≡ name_count t

all_counted : (ts : List ((t : Term) × IsCounted t)) (uid number : ℕ) (scope : Scope)
    → length (namings_of_terms (map (λ e. e.0) ts) uid number scope) ≡ sum (map name_count (map (λ e. e.0) ts))
all_counted [] uid number scope = refl
all_counted (e ∷ ts) uid number scope =
    let rest = map (λ x. x.0) ts in
    let next = uid + length (standing_from e.0 uid number scope) in
    let first = namings_of_term e.0 uid number scope in
    ap (λ (names : List Naming). length names) (flat_map-append namings_at (standing_from e.0 uid number scope) (standing_all (map standing_from rest) next number scope))
    ∙ length-append first (namings_of_terms rest next number scope)
    ∙ omega (arith, e.1 uid number scope, all_counted ts next number scope, sum_by-cons (λ (k : ℕ). k) (name_count e.0) (map name_count rest))

abbrev Walk : Type 0
Walk = ℕ → ℕ → Scope → List Standing

-- a term names so many keys, wherever it stands
pub names_counted : (t : Term) (uid number : ℕ) (scope : Scope) → length (namings_of_term t uid number scope) ≡ name_count t
names_counted = ind-Term IsCounted (λ x y is uid number scope.
    let inner = children_scope x.kind uid x.ports x.autoremap scope in
    let inner_number = children_scope_number x.kind uid number in
    let below = namings_of_terms x.children (uid + 1) inner_number inner in
    let children = subst (λ (z : Term-F Term). length (namings_of_terms z.children (uid + 1) inner_number inner) ≡ sum (map name_count z.children)) is
    (all_counted y.children (uid + 1) inner_number inner) in
    ap (λ (walk : Walk). length (flat_map namings_at (walk uid number scope))) (fold-roll-Term Walk standing_step x)
    ∙ length-append (namings_at (here x uid number scope)) below
    ∙ omega (arith, own_count x uid number scope, children, fold-roll-Term ℕ (λ node. own_name_count node + sum node.children) x))

-- a tree has no more slots than it names keys
pub few_slots : (tree : Tree) → length (slots tree) ≤ name_count tree.term
few_slots tree =
    let names = namings tree in
    omega (arith, in_order_length (map (λ (n : Naming). n.cell) names), length-map names (λ (n : Naming). n.cell), names_counted tree.term 1 0 main_scope)

-- of so many names, no more are left than these scripts leave
pub record AreLeft (scripts : List Script) (before now : ℕ) : Type 0 where
  pub fits : length (script_names scripts) + now ≤ before

pub AreLeft-more : {xs : List Script} {before now : ℕ} → AreLeft xs before now → (ys : List Script) (next : ℕ) → length (script_names ys) + next ≤ now → AreLeft (xs ++ ys) before next
AreLeft-more {xs} {before} {now} so_far ys next more = record { fits = omega (arith, script_names_both xs ys, so_far.fits, more) }

literal_at_most : (value : PortValue) (name : List ℕ) → length (literal_name value name) ≤ 1
literal_at_most (Lit value) name = omega arith
literal_at_most (Key key) name = omega arith

-- no more ports have literals than there are
pub few_literals : (ports : List Port) → length (literal_names ports) ≤ length ports
few_literals [] = omega arith
few_literals (port ∷ ports) =
    omega (arith, length-append (literal_name port.value port.name) (literal_names ports), literal_at_most port.value port.name, few_literals ports)

-- a SubTree node names those of its ports that have literals as well
pub subtree_ports : (kind : Kind) (ports : ℕ) → kind ≡ SubTree → (if makes_scope kind then ports else 0) ≡ ports
subtree_ports kind ports is = ap (λ (k : Kind). if makes_scope k then ports else 0) is

-- and no other node names ports in a scope of its own
pub other_ports : (kind : Kind) (ports : ℕ) → (kind ≡ SubTree → ⊥) → (if makes_scope kind then ports else 0) ≡ 0
other_ports SubTree ports other = absurd (other refl)
other_ports _ ports other = refl

pub taken_from : (rest : Option ℕ) (n left : ℕ) → SomeIff rest (n ≤ left) (left - n) → IfSome rest (λ r. n + r ≤ left)
taken_from None n left h = tt
taken_from (Some r) n left h = omega (arith, h.0, h.1)

-- where some are left, no more were named
pub is_within : (rest : Option ℕ) (named most slots : ℕ) → is_some rest ≡ true → IfSome rest (λ r. named + r ≤ most) → slots ≤ named → true ≡ nat_le slots most
is_within None named most slots some h few = absurd (cc)
is_within (Some r) named most slots some h few = let small : slots ≤ most = omega (arith, h, few) in grind (arith, nat_tests)
