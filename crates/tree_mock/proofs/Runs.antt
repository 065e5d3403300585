-- A tree with its leaves replaced by rules can be run.
use Rattle.std.proofs.Common.{◌≡◌, ◌≢◌, ℕ, ◌+◌, ◌≤◌, Bool, true, false, ◌&&◌, ◌||◌, nat_le, if◌then◌else◌, List, [], ◌∷◌, ◌++◌, length, map, sum, codes, Option, Some, None, Result, Ok, Err, refl, ap, sym, ◌∙◌, subst, arith, append-nil}
use Rattle.std.specs.Prelude.{IfOk}
use Rattle.std.specs.List.{AllByRecursion, flat_map, list_all}
use Rattle.std.specs.Str.{bytes_eq}
use Rattle.std.proofs.lemmas.Bool.{le-leb, leb-true}
use Rattle.std.proofs.lemmas.Bool.Decides.{nat_tests}
use Rattle.std.proofs.lemmas.List.{length-map}
use Rattle.std.proofs.lemmas.List.Sums.{sum_by-cons}
use Rattle.std.proofs.lemmas.Slice.Eq.{bytes_eq-Decides}
use Rattle.base_texts.specs.declared.stop.Stop.{Stop}
use Rattle.spec_script.specs.declared.syntax.Script.{Script}
use Rattle.spec_script.specs.declared.value.Value.{Value}
use Rattle.spec_script.specs.declared.value.Value.TheVariants.{Int, Text}
use Rattle.spec_script.specs.Identifiers.{is_identifier}
use Rattle.base_texts.specs.Stops.{Gives}
use Rattle.spec_script.proofs.Bools.{both}
use Rattle.spec_tree.specs.declared.built_ins.Range.{Range}
use Rattle.spec_tree.specs.declared.built_ins.Range.TheVariants.{AnyInt, AnyValue, Duration, Rate, Recoveries, Truth, Turns}
use Rattle.spec_tree.specs.declared.term.Guards.{Guards}
use Rattle.spec_tree.specs.declared.term.Kind.{Kind}
use Rattle.spec_tree.specs.declared.term.Kind.TheVariants.{Delay, Leaf, SubTree}
use Rattle.spec_tree.specs.declared.term.Port.{Port}
use Rattle.spec_tree.specs.declared.term.PortValue.{PortValue}
use Rattle.spec_tree.specs.declared.term.PortValue.TheVariants.{Key, Lit}
use Rattle.spec_tree.specs.declared.term.Term.{Term, Term-F, fold-roll-Term, ind-Term, out-roll-Term, roll-Term}
use Rattle.spec_tree.specs.declared.term.Tree.{Tree}
use Rattle.spec_tree.specs.Boards.{slots}
use Rattle.spec_tree.specs.BuiltIns.{PortRule, fits, ports_of}
use Rattle.spec_tree.specs.Limits.{longest_duration, most_depth, most_keys, most_nodes, most_scopes, most_work}
use Rattle.spec_tree.specs.Names.{is_among}
use Rattle.spec_tree.specs.Terms.{depth_of, node_count, own_scopes, scope_count, work_of}
use Rattle.spec_tree.specs.Trees.{GuardsFit, IsWithinLimits, Node, ScriptFits, is_one_of, names_of, nodes_of, nodes_step, ports_fit}
use Rattle.base_tables.specs.Runnable.{IsRunnable, NodeRuns}
use Rattle.spec_tree.specs.Values.{is_plain, value_fits}
use Rattle.spec_tree_file.specs.declared.mock_fault.MockFault.{MockFault}
use Rattle.spec_tree_file.specs.declared.mock_fault.MockFault.TheVariants.{TooDeep, TooManyKeys, TooManyNodes, TooMuchWork}
use Rattle.spec_tree_file.specs.declared.mock_rules.Configuration.{Configuration}
use Rattle.spec_tree_file.specs.declared.mock_rules.ReturnStatus.{ReturnStatus}
use Rattle.spec_tree_file.specs.declared.mock_rules.ReturnStatus.TheVariants.{Failure, Success}
use Rattle.spec_tree_file.specs.declared.mock_rules.Rule.{Rule}
use Rattle.spec_tree_file.specs.declared.mock_rules.Rules.{Rules}
use Rattle.tree_mock.specs.FitRules.{ConfigurationFits, RulesFit}
use Rattle.spec_tree_file.specs.Substitutions.{always, always_id, answering, by_id, by_name, by_rule, configuration_of, delay_port, delayed, inside, leaf, only_post, passed_limit, refused_by, replaced, rule_of, substitute, unless, with_children, with_mocks}
use Rattle.tree_mock.proofs.Rates.{rate_short}
use Rattle.tree_mock.proofs.Replacing.{replaced-inner, replaced-lone}

-- ---- Nodes that can be run

abbrev nodes_below : List Term → List Node
nodes_below terms = flat_map (λ (nodes : List Node). nodes) (map nodes_of terms)

abbrev AllRun : Term → Type 0
AllRun term = AllByRecursion NodeRuns (nodes_of term)

abbrev BelowRun : List Term → Type 0
BelowRun terms = AllByRecursion NodeRuns (nodes_below terms)

front_all : (P : Node → Type 0) (xs ys : List Node) → AllByRecursion P (xs ++ ys) → AllByRecursion P xs
front_all P [] ys all = tt
front_all P (x ∷ xs) ys all = (all.0, front_all P xs ys all.1)

back_all : (P : Node → Type 0) (xs ys : List Node) → AllByRecursion P (xs ++ ys) → AllByRecursion P ys
back_all P [] ys all = all
back_all P (x ∷ xs) ys all = back_all P xs ys all.1

joined : (P : Node → Type 0) (xs ys : List Node) → AllByRecursion P xs → AllByRecursion P ys → AllByRecursion P (xs ++ ys)
joined P [] ys front back = back
joined P (x ∷ xs) ys front back = (front.0, joined P xs ys front.1 back)

-- a node with this number of children
abbrev counted : Term-F Term → ℕ → Node
counted x n = record { kind = x.kind; id = x.id; name = x.name; ports = x.ports; code = x.code; guards = x.guards; autoremap = x.autoremap; children = n }

rolled : (x : Term-F Term) → NodeRuns (counted x (length x.children)) → BelowRun x.children → AllRun (roll-Term x)
rolled x runs below =
    subst (AllByRecursion NodeRuns) (sym (fold-roll-Term (List Node) nodes_step x)) (subst (λ (n : ℕ). NodeRuns (counted x n)) (sym (length-map x.children nodes_of)) runs, below)

unrolled : (x : Term-F Term) → AllRun (roll-Term x) → NodeRuns (counted x (length x.children)) × BelowRun x.children
unrolled x all =
    let parts : AllByRecursion NodeRuns (counted x (length (map nodes_of x.children)) ∷ nodes_below x.children) = subst (AllByRecursion NodeRuns) (fold-roll-Term (List Node) nodes_step x) all in
    (subst (λ (n : ℕ). NodeRuns (counted x n)) (length-map x.children nodes_of) parts.0, parts.1)

scopes_of : (x : Term-F Term) → scope_count (roll-Term x) ≡ own_scopes x.kind + sum (map scope_count x.children)
scopes_of x = fold-roll-Term ℕ (λ node. own_scopes node.kind + sum node.children) x

-- ---- Ports

all_weaker : {X : Type 0} (p q : X → Bool) → ((x : X) → p x ≡ true → q x ≡ true) → (xs : List X) → list_all p xs ≡ true → list_all q xs ≡ true
all_weaker p q implies [] all = refl
all_weaker p q implies (x ∷ xs) all =
    let parts = both (p x) (list_all p xs) all in
    ap (λ (b : Bool). b && list_all q xs) (implies x parts.0) ∙ all_weaker p q implies xs parts.1

short_truth : (b c : Bool) (text : List ℕ) → bytes_eq text (codes "true") ≡ b → bytes_eq text (codes "false") ≡ c → (b || c) ≡ true → fits AnyValue (Text text) ≡ true
short_truth true c text same other is = subst (λ (t : List ℕ). fits AnyValue (Text t) ≡ true) (sym ((bytes_eq-Decides text (codes "true")).0 same)) refl
short_truth false true text other same is = subst (λ (t : List ℕ). fits AnyValue (Text t) ≡ true) (sym ((bytes_eq-Decides text (codes "false")).0 same)) refl
short_truth false false text other last is = absurd (cc)

any_text : (range : Range) (text : List ℕ) → fits range (Text text) ≡ true → fits AnyValue (Text text) ≡ true
any_text AnyValue text is = is
any_text AnyInt text is = absurd (cc)
any_text Turns text is = absurd (cc)
any_text Duration text is = absurd (cc)
any_text Recoveries text is = absurd (cc)
any_text Rate text is = le-leb (length text) 4096 (rate_short text is)
any_text Truth text is = short_truth (bytes_eq text (codes "true")) (bytes_eq text (codes "false")) text refl refl is

any_literal : (range : Range) (value : Value) → fits range value ≡ true → fits AnyValue value ≡ true
any_literal range (Int n) is = refl
any_literal range (Text text) is = any_text range text is

-- what a port of some range may have, a port of any value may
any_value : (range : Range) (value : PortValue) → value_fits range value ≡ true → value_fits AnyValue value ≡ true
any_value range (Key key) is = is
any_value range (Lit value) is =
    let parts = both (is_plain value) (fits range value) is in
    ap (λ (b : Bool). b && fits AnyValue value) parts.0 ∙ any_literal range value parts.1

any_of : (rules : List PortRule) (port : Port) → is_one_of rules port ≡ true → value_fits AnyValue port.value ≡ true
any_of [] port is = absurd (cc)
any_of (rule ∷ rules) port is =
    elim (bytes_eq port.name rule.name) as (λ b. (if b then value_fits rule.range port.value else is_one_of rules port) ≡ true → value_fits AnyValue port.value ≡ true) [
      | true ↦ λ fit. any_value rule.range port.value fit
      | false ↦ λ one. any_of rules port one
    ] is

-- the ports of a node may be those of a leaf
any_ports : (kind : Kind) (ports : List Port) → ports_fit kind ports ≡ true → ports_fit Leaf ports ≡ true
any_ports SubTree ports fit =
    all_weaker (λ port. is_identifier port.name && value_fits AnyValue port.value) (λ port. value_fits AnyValue port.value) (λ port is. (both (is_identifier port.name) (value_fits AnyValue port.value) is).1) ports fit
any_ports Leaf ports fit = fit
any_ports kind ports fit =
    all_weaker (is_one_of (ports_of kind)) (λ port. value_fits AnyValue port.value) (any_of (ports_of kind)) ports
    (both (list_all (is_one_of (ports_of kind)) ports) (list_all (λ rule. is_among rule.name (names_of ports)) (ports_of kind)) fit).0

delay_fits : (ms : ℕ) → ms ≤ longest_duration → ports_fit Delay (delay_port ms ∷ []) ≡ true
delay_fits ms few = grind (arith, nat_tests, few)

-- ---- What takes the place of a node

-- a term that can be run and opens no scope
record IsSmall (term : Term) : Type 0 where
  runs : AllRun term
  scopes : scope_count term ≡ 0

post_fits : (script : Option Script) → ScriptFits script → GuardsFit (only_post script)
post_fits script fit = record { failure_if = tt; success_if = tt; skip_if = tt; while_true = tt; on_success = tt; on_failure = tt; post = fit; on_halted = tt }

always_small : (status : ReturnStatus) (name : List ℕ) (guards : Guards) → GuardsFit guards → IsSmall (always status name guards)
always_small Success name guards fit = record { runs = rolled _ (record { children = refl; cases = tt; ports = refl; code = tt; guards = fit }) tt; scopes = scopes_of _ }
always_small Failure name guards fit = record { runs = rolled _ (record { children = refl; cases = tt; ports = refl; code = tt; guards = fit }) tt; scopes = scopes_of _ }

module _ (node : Term-F Term) (ports : ports_fit Leaf node.ports ≡ true) (guards : GuardsFit node.guards) where
  leaf_small : (id : List ℕ) → IsSmall (leaf id node)
  leaf_small id = record { runs = rolled _ (record { children = refl; cases = tt; ports = ports; code = tt; guards = guards }) tt; scopes = scopes_of _ }

  delayed_small : (c : Configuration) → ConfigurationFits c → IsSmall (delayed c node)
  delayed_small c fit =
      let below = always_small c.return_status (always_id c.return_status) (only_post c.post_script) (post_fits c.post_script fit.post_script) in
      let one : sum (map scope_count (answering c ∷ [])) ≡ scope_count (answering c) + 0 = sum_by-cons (λ (k : ℕ). k) (scope_count (answering c)) [] in
      let all : scope_count (delayed c node) ≡ 0 + sum (map scope_count (answering c ∷ [])) = scopes_of _ in
      record {
        runs = rolled _ (record { children = refl; cases = tt; ports = delay_fits c.async_delay fit.async_delay; code = tt; guards = guards }) (subst (AllByRecursion NodeRuns) (sym (append-nil (nodes_of (answering c)))) below.runs);
        scopes = omega (arith, all, one, below.scopes);
      }

  by_id_small : (id : List ℕ) → IsSmall (by_id id node)
  by_id_small id =
      elim (bytes_eq id (codes "AlwaysSuccess")) as (λ b. IsSmall (if b then always Success node.name node.guards else (if bytes_eq id (codes "AlwaysFailure") then always Failure node.name node.guards else leaf id node))) [
        | true ↦ always_small Success node.name node.guards guards
        | false ↦
            elim (bytes_eq id (codes "AlwaysFailure")) as (λ b. IsSmall (if b then always Failure node.name node.guards else leaf id node)) [
              | true ↦ always_small Failure node.name node.guards guards
              | false ↦ leaf_small id
            ]
      ]

  named_small : (cs : List Configuration) (name : List ℕ) → AllByRecursion ConfigurationFits cs → IsSmall (by_name (configuration_of cs name) name node)
  named_small [] name fit = by_id_small name
  named_small (c ∷ cs) name fit =
      elim (bytes_eq c.name name) as (λ b. IsSmall (by_name (if b then Some c else configuration_of cs name) name node)) [
        | true ↦ delayed_small c fit.0
        | false ↦ named_small cs name fit.1
      ]

-- ---- Terms

-- a term that takes the place of another can be run, and opens no more scopes
record Mocks (term mock : Term) : Type 0 where
  runs : AllRun mock
  scopes : scope_count mock ≤ scope_count term

module _ (rules : Rules) (fit : RulesFit rules) where
  -- a node without children, by its rule
  lone_mocked : (x : Term-F Term) → x.children ≡ [] → AllRun (roll-Term x) → (o : Option Rule) → Mocks (roll-Term x) (by_rule rules.configurations o x)
  lone_mocked x none all None = record { runs = all; scopes = omega arith }
  lone_mocked x none all (Some rule) =
      let here = (unrolled x all).0 in
      let small = named_small x (any_ports x.kind x.ports here.ports) here.guards rules.configurations rule.replacement fit in
      record { runs = small.runs; scopes = omega (arith, small.scopes) }

  lone_is : (x : Term-F Term) → x.children ≡ [] → (above : List ℕ) →
      replaced rules (roll-Term x) above ≡ by_rule rules.configurations (rule_of rules.rules (above ++ x.name)) (with_children x [])
  lone_is x none above =
      replaced-lone rules (roll-Term x) above (ap (λ (z : Term-F Term). z.children) (out-roll-Term x) ∙ none)
      ∙ ap (λ (z : Term-F Term). by_rule rules.configurations (rule_of rules.rules (above ++ z.name)) (with_children z [])) (out-roll-Term x)

  -- what some terms become, where their paths begin with this text
  abbrev all_replaced : List Term → List ℕ → List Term
  all_replaced terms above = map (λ child. replaced rules child above) terms

  inner_is : (x : Term-F Term) → x.children ≢ [] → (above : List ℕ) →
      replaced rules (roll-Term x) above ≡ roll-Term (with_children x (all_replaced x.children (inside x.kind x.name above)))
  inner_is x some above =
      replaced-inner rules (roll-Term x) above (λ none. some (sym (ap (λ (z : Term-F Term). z.children) (out-roll-Term x)) ∙ none))
      ∙ ap (λ (z : Term-F Term). roll-Term (with_children z (all_replaced z.children (inside z.kind z.name above)))) (out-roll-Term x)

  abbrev Claim : Term → Type 0
  Claim term = AllRun term → (above : List ℕ) → Mocks term (replaced rules term above)

  abbrev bare : List ((t : Term) × Claim t) → List Term
  bare ts = map (λ t. t.0) ts

  record AllMock (terms mocks : List Term) : Type 0 where
    runs : BelowRun mocks
    scopes : sum (map scope_count mocks) ≤ sum (map scope_count terms)

  all_mock : (ts : List ((t : Term) × Claim t)) (above : List ℕ) → BelowRun (bare ts) → AllMock (bare ts) (all_replaced (bare ts) above)
  all_mock [] above all = record { runs = tt; scopes = omega arith }
  all_mock (t ∷ ts) above all =
      let one = t.1 (front_all NodeRuns (nodes_of t.0) (nodes_below (bare ts)) all) above in
      let rest = all_mock ts above (back_all NodeRuns (nodes_of t.0) (nodes_below (bare ts)) all) in
      let mocks = all_replaced (bare ts) above in
      record {
        runs = joined NodeRuns (nodes_of (replaced rules t.0 above)) (nodes_below mocks) one.runs rest.runs;
        scopes = omega (arith, one.scopes, rest.scopes, sum_by-cons (λ (k : ℕ). k) (scope_count t.0) (map scope_count (bare ts)), sum_by-cons (λ (k : ℕ). k) (scope_count (replaced rules t.0 above)) (map scope_count mocks));
      }

  whole : {A : Type 0} (x : Term-F A) (ts : List ((t : Term) × Claim t)) → Claim (roll-Term (with_children x (bare ts)))
  whole x [] all above =
      let z = with_children x [] in
      subst (Mocks (roll-Term z)) (sym (lone_is z refl above)) (lone_mocked z refl all (rule_of rules.rules (above ++ z.name)))
  whole x (t ∷ ts) all above =
      let z = with_children x (bare (t ∷ ts)) in
      let parts = unrolled z all in
      let text = inside z.kind z.name above in
      let each = all_mock (t ∷ ts) text parts.1 in
      let mock = with_children z (all_replaced z.children text) in
      subst (Mocks (roll-Term z)) (sym (inner_is z (λ none. absurd (cc)) above)) (record {
        runs = rolled mock (subst (λ (n : ℕ). NodeRuns (counted z n)) (sym (length-map z.children (λ child. replaced rules child text))) parts.0) each.runs;
        scopes = omega (arith, each.scopes, scopes_of z, scopes_of mock);
      })

  term_mocked : (term : Term) → Claim term
  term_mocked = ind-Term Claim (λ x y is. subst (λ (z : Term-F Term). Claim (roll-Term z)) is (whole y y.children))

-- ---- The tree

passed : (b : Bool) (fault : MockFault) (others : Option MockFault) → unless b fault others ≡ None → (b ≡ true) × (others ≡ None)
passed true fault others none = (refl, none)
passed false fault others none = absurd (cc)

within : (tree : Tree) → passed_limit tree ≡ None → 1 + scope_count tree.term ≤ most_scopes → IsWithinLimits tree
within tree none scopes =
    let nodes = passed (nat_le (node_count tree.term) most_nodes) TooManyNodes _ none in
    let depth = passed (nat_le (depth_of tree.term) most_depth) TooDeep _ nodes.1 in
    let keys = passed (nat_le (length (slots tree)) most_keys) TooManyKeys _ depth.1 in
    let work = passed (nat_le (work_of tree.term) most_work) TooMuchWork _ keys.1 in
    record {
      nodes = leb-true (node_count tree.term) most_nodes nodes.0;
      depth = leb-true (depth_of tree.term) most_depth depth.0;
      scopes = scopes;
      slots = leb-true (length (slots tree)) most_keys keys.0;
      work = leb-true (work_of tree.term) most_work work.0;
    }

module _ (tree : Tree) (rules : Rules) (can : IsRunnable tree) (fit : RulesFit rules) where
  abbrev mocked : Tree
  mocked = with_mocks tree rules

  refused_or_runs : (o : Option MockFault) → passed_limit mocked ≡ o → (t : Tree) → refused_by o mocked ≡ Ok t → IsRunnable t
  refused_or_runs None none t e =
      let mocks = term_mocked rules fit tree.term can.fit [] in
      let same : mocked ≡ t = cc in
      subst IsRunnable same (record { limits = within mocked none (omega (arith, mocks.scopes, can.limits.scopes)); fit = mocks.runs })
  refused_or_runs (Some fault) passes t e = absurd (cc)

  -- what is given of a tree that can be run can be run
  pub gives_runnable : (r : Result Tree (Stop MockFault)) → Gives r (substitute tree rules) → IfOk r IsRunnable
  gives_runnable (Ok t) e = refused_or_runs (passed_limit mocked) refl t e
  gives_runnable (Err stop) e = tt
