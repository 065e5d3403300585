-- A Switch over literals selects the child that it always selects.
use Rattle.std.proofs.Common.{◌≡◌, ℕ, zero, suc, ◌+◌, ◌<◌, ◌≤◌, List, [], ◌∷◌, ◌++◌, length, take, Bool, true, false, if◌then◌else◌, nat_eq, Option, Some, None, refl, sym, ap, ◌∙◌, arith}
use Rattle.std.specs.Prelude.{codes, decimal}
use Rattle.std.specs.Str.{bytes_eq}
use Rattle.std.proofs.lemmas.Bool.{cond_both, eq-eqb}
use Rattle.std.proofs.lemmas.Fmt.{decimal_digit}
use Rattle.spec_tree.specs.declared.term.Kind.TheVariants.{Switch}
use Rattle.spec_tree.specs.declared.term.PortValue.{PortValue}
use Rattle.spec_tree.specs.declared.term.PortValue.TheVariants.{Lit, Key}
use Rattle.spec_tree.specs.Boards.{port_of}
use Rattle.spec_tree.specs.BuiltIns.{PortRule, ports_of, switch_ports}
use Rattle.spec_run.specs.Done.{State}
use Rattle.spec_run.specs.Ports.{case_from, given_by, is_case, selected, text_at, text_by, value_by}
use Rattle.spec_run.specs.Sites.{Site}
use Rattle.spec_dead.specs.Reached.{always_selected, literal_at, literal_place, literal_text, may_be_selected, place_among, selected_by}

-- rules of ports that are the cases from a place on
abbrev AreCases : ℕ → List PortRule → Type 0
AreCases place [] = Unit {0}
AreCases place (rule ∷ rules) = (rule.name ≡ codes "case_" ++ decimal (place + 1)) × AreCases (place + 1) rules

cases_taken : (k place : ℕ) (rules : List PortRule) → AreCases place rules → AreCases place (take k rules)
cases_taken zero place rules are = tt
cases_taken (suc k) place [] are = tt
cases_taken (suc k) place (rule ∷ rules) are = (are.0, cases_taken k (place + 1) rules are.1)

-- the variable of a Switch, and its cases
record SwitchPorts (cases : ℕ) : Type 0 where
  variable : PortRule
  named : variable.name ≡ codes "variable"
  rules : List PortRule
  is : ports_of (Switch cases) ≡ variable ∷ rules
  many : length rules ≡ cases
  are : AreCases 0 rules

-- the name of a case whose number has one digit
case_name : (n : ℕ) → n < 10 → codes "case_" ++ (48 + n) ∷ [] ≡ codes "case_" ++ decimal n
case_name n small = ap (λ (digits : List ℕ). codes "case_" ++ digits) (sym (decimal_digit n small))

length_taken : (k : ℕ) (rules : List PortRule) → k ≤ length rules → length (take k rules) ≡ k
length_taken zero rules few = refl
length_taken (suc k) [] few = absurd (omega (arith, few))
length_taken (suc k) (rule ∷ rules) few = ap suc (length_taken k rules (omega (arith, few)))

switch_rules : (cases : ℕ) → cases < 7 → SwitchPorts cases
unfolding switch_ports
switch_rules cases few =
    let next : cases + 1 ≡ suc cases = omega arith in
    let tail : List PortRule = take 6 (drop_first switch_ports) in
    record {
      variable = _;
      named = refl;
      rules = take cases tail;
      is = ap (λ (k : ℕ). take k switch_ports) next;
      many = length_taken cases tail (omega (arith, few));
      are = cases_taken cases 0 tail (case_name 1 (omega arith), (case_name 2 (omega arith), (case_name 3 (omega arith), (case_name 4 (omega arith), (case_name 5 (omega arith), (case_name 6 (omega arith), tt))))));
    }
  where
    drop_first : List PortRule → List PortRule
    drop_first [] = []
    drop_first (r ∷ rs) = rs

module _ (site : Site) (s : State) where
  literal_is : (o : Option PortValue) (t : List ℕ) → literal_text o ≡ Some t → text_by (value_by site s o) ≡ Some t
  literal_is None t e = cc
  literal_is (Some (Lit v)) t e = e
  literal_is (Some (Key k)) t e = cc

  -- the text of a port that is given a literal
  literal_here : (name : List ℕ) (t : List ℕ) → literal_at site.node.ports name ≡ Some t → text_at site s name ≡ Some t
  literal_here name t e = literal_is (given_by (port_of site.node.ports name)) t e

  pub selected_below : (left place : ℕ) (text : List ℕ) → case_from site s left place text ≤ place + left
  selected_below zero place text = omega arith
  selected_below (suc left) place text =
      cond_both (is_case (text_at site s (codes "case_" ++ decimal (place + 1))) text) place (case_from site s left (place + 1) text) (λ k. k ≤ place + suc left)
      (λ _. omega arith) (λ _. omega (arith, selected_below left (place + 1) text))

  module _ (text : List ℕ) where
    -- the first case, and the place among the others
    first_case : (rule : PortRule) (left place : ℕ) (o : Option (List ℕ)) (later : Option ℕ) (p : ℕ) → rule.name ≡ codes "case_" ++ decimal (place + 1) → literal_at site.node.ports rule.name ≡ o →
        ((q : ℕ) → later ≡ Some q → case_from site s left (place + 1) text ≡ place + 1 + q) → place_among o text later ≡ Some p → case_from site s (suc left) place text ≡ place + p
    first_case rule left place None later p named is rest e = cc
    first_case rule left place (Some case) None p named is rest e = cc
    first_case rule left place (Some case) (Some q) p named is rest e =
        let here : text_at site s (codes "case_" ++ decimal (place + 1)) ≡ Some case = ap (text_at site s) (sym named) ∙ literal_here rule.name case is in
        let chosen : (if bytes_eq case text then 0 else q + 1) ≡ p = some_is e in
        ap (λ (o : Option (List ℕ)). if is_case o text then place else case_from site s left (place + 1) text) here
        ∙ split (bytes_eq case text) chosen
      where
        some_is : {a b : ℕ} → Some a ≡ Some b → a ≡ b
        some_is same = cc

        split : (b : Bool) → (if b then 0 else q + 1) ≡ p → (if b then place else case_from site s left (place + 1) text) ≡ place + p
        split true zero_is = omega (arith, zero_is)
        split false next_is = omega (arith, next_is, rest q refl)

    literal_cases : (rules : List PortRule) (left place p : ℕ) → length rules ≡ left → AreCases place rules → literal_place rules site.node.ports text ≡ Some p → case_from site s left place text ≡ place + p
    literal_cases [] zero place p many are e = let zero_is : 0 ≡ p = some_is e in omega (arith, zero_is)
      where
        some_is : {a b : ℕ} → Some a ≡ Some b → a ≡ b
        some_is same = cc
    literal_cases [] (suc left) place p many are e = absurd (omega (arith, many))
    literal_cases (rule ∷ rules) zero place p many are e = absurd (omega (arith, many))
    literal_cases (rule ∷ rules) (suc left) place p many are e =
        first_case rule left place (literal_at site.node.ports rule.name) (literal_place rules site.node.ports text) p are.0 refl
        (λ q is. literal_cases rules left (place + 1) q (omega (arith, many)) are.1 is) e

  -- what a Switch selects is what it may select
  module _ (cases : ℕ) (few : cases < 7) where
    by_variable : (o : Option (List ℕ)) (rules : List PortRule) (always : Option ℕ) → length rules ≡ cases → AreCases 0 rules → text_at site s (codes "variable") ≡ text_at site s (codes "variable") →
        ((t : List ℕ) → o ≡ Some t → text_at site s (codes "variable") ≡ Some t) → selected_by o rules site.node.ports ≡ always → may_be_selected always (selected site s cases (text_at site s (codes "variable"))) ≡ true
    by_variable o rules None many are same known is = refl
    by_variable None rules (Some p) many are same known is = cc
    by_variable (Some t) rules (Some p) many are same known is =
        let chosen : case_from site s cases 0 t ≡ 0 + p = literal_cases t rules cases 0 p many are is in
        ap (λ (x : Option (List ℕ)). nat_eq p (selected site s cases x)) (known t refl)
        ∙ eq-eqb p (case_from site s cases 0 t) (omega (arith, chosen))

    pub selects : may_be_selected (always_selected (ports_of (Switch cases)) site.node.ports) (selected site s cases (text_at site s (codes "variable"))) ≡ true
    selects =
        let rules : SwitchPorts cases = switch_rules cases few in
        ap (λ (rs : List PortRule). may_be_selected (always_selected rs site.node.ports) (selected site s cases (text_at site s (codes "variable")))) rules.is
        ∙ by_variable (literal_at site.node.ports rules.variable.name) rules.rules (selected_by (literal_at site.node.ports rules.variable.name) rules.rules site.node.ports) rules.many rules.are refl
        (λ t e. ap (text_at site s) (sym rules.named) ∙ literal_here rules.variable.name t e) refl

    pub selected_within : selected site s cases (text_at site s (codes "variable")) < cases + 1
    selected_within = by (text_at site s (codes "variable"))
      where
        by : (o : Option (List ℕ)) → selected site s cases o < cases + 1
        by None = omega arith
        by (Some text) = omega (arith, selected_below cases 0 text)
