-- What the ports of a node give is what the definition reads from the ports of its term.
use Rattle.std.proofs.Common.{◌≡◌, ℕ, ℤ, zero, suc, ◌+◌, ◌<◌, ◌≤◌, List, [], ◌∷◌, ◌++◌, length, map, take, codes, decimal, Option, Some, None, Result, Ok, Err, refl, sym, ap, subst, ◌∙◌, arith, lit<, if◌then◌else◌}
use Rattle.std.proofs.lemmas.Fmt.{decimal_digit}
use Rattle.std.proofs.lemmas.List.{length-map, length-take}
use Rattle.std.specs.Prelude.{IsErrAnd, option_and_then, slice_index_or}
use Rattle.spec_script.specs.declared.value.Value.{Value}
use Rattle.spec_script.specs.declared.value.Value.TheVariants.{Int, Text}
use Rattle.spec_run.specs.declared.fault.NumericPort.{NumericPort}
use Rattle.spec_run.specs.declared.memory.Memo.{Memo}
use Rattle.spec_tree.specs.declared.term.Kind.{Kind}
use Rattle.spec_tree.specs.declared.term.Kind.TheVariants.{Parallel, RateController, Switch}
use Rattle.spec_tree.specs.declared.term.PortValue.{PortValue}
use Rattle.spec_tree.specs.declared.term.PortValue.TheVariants.{Key, Lit as Literal}
use Rattle.spec_tree.specs.declared.term.Term.{Term-F}
use Rattle.spec_tree.specs.declared.built_ins.Range.TheVariants.{AnyValue}
use Rattle.spec_tree.specs.BuiltIns.{PortRule, ports_of, rate_of, required, switch_ports}
use Rattle.spec_run.specs.Done.{State}
use Rattle.spec_run.specs.Ports.{case_from, given_at, is_case, is_negative, new_memo, next_pace, number_at, number_by, pace_start, parallel_start, picked, rate_by, rate_given, selected, text_at, text_by, threshold, value_at, value_by}
use Rattle.spec_run.specs.Sites.{Meaning, Site, View}
use Rattle.base_tables.specs.Runnable.{FewCases}
use Rattle.spec_run.specs.Visit.{or_bad_port, site_of}
use Rattle.run_arena.specs.declared.nodes.Node.{Node}
use Rattle.run_arena.specs.declared.source.Source.{Source}
use Rattle.run_arena.specs.declared.source.Source.TheVariants.{Absent}
use Rattle.run_arena.specs.Nodes.{IsNode}
use Rattle.run_arena.specs.Sources.{source_at, source_of, source_value}
use Rattle.run_arena.specs.Stands.{written}
use Rattle.run_nodes.specs.Given.{case_of, case_selected, first_case, port_at, source_number, source_rate, source_text, with_memo}

-- a source has the value of what is given
pub given_means : (site : Site) (s : State) (given : Option PortValue) → source_value s.board (source_of site.view given) ≡ value_by site s given
given_means site s (Some (Literal value)) = refl
given_means site s (Some (Key key)) = refl
given_means site s None = refl

-- so is the rate of what an entry holds
key_rate : (key : List ℕ) (entry : Option Value) → option_and_then (λ (n : ℤ). rate_of (Int n)) (number_by entry) ≡ rate_given (Key key) entry
key_rate key (Some (Int n)) = refl
key_rate key (Some (Text t)) = refl
key_rate key None = refl

-- a source has the rate of what is given
pub rate_means_given : (site : Site) (s : State) (given : Option PortValue) → source_rate s.board (source_of site.view given) ≡ rate_by site s given
rate_means_given site s (Some (Literal (Int n))) = refl
rate_means_given site s (Some (Literal (Text t))) = refl
rate_means_given site s (Some (Key key)) = key_rate key (value_by site s (Some (Key key)))
rate_means_given site s None = refl

-- a bad port is the same fault, whichever memo comes after it
pub bad_port_after : (uid : ℕ) (r : Result (Unit {0}) NumericPort) (memo : Memo) → with_memo (or_bad_port uid r) memo ≡ or_bad_port uid (with_memo r memo)
bad_port_after uid (Ok _) memo = refl
bad_port_after uid (Err p) memo = refl

-- an error leaves no memo to start with
pub no_memo : {E : Type 0} (r : Result (Unit {0}) E) (memo : Memo) (e : E) → IsErrAnd r (λ x. x ≡ e) → with_memo r memo ≡ Err e
no_memo (Ok _) memo e is = absurd is
no_memo (Err x) memo e is = ap Err is

-- these are the ports of cases in order, counted from this place on
abbrev AreNumbered : ℕ → List PortRule → Type 0
AreNumbered place [] = Unit {0}
AreNumbered place (rule ∷ rules) = (rule.name ≡ codes "case_" ++ decimal (place + 1)) × AreNumbered (place + 1) rules

-- these are the ports of a Switch with this many cases
abbrev IsSwitch : ℕ → List PortRule → Type 0
IsSwitch cases ports = (rules : List PortRule) × (ports ≡ required (codes "variable") AnyValue ∷ rules) × (length rules ≡ cases) × AreNumbered 0 rules

-- the name of the port of a case
case_name : (n : ℕ) → n < 10 → codes "case_" ++ (48 + n) ∷ [] ≡ codes "case_" ++ decimal n
case_name n small = ap (λ (digits : List ℕ). codes "case_" ++ digits) (sym (decimal_digit n small))

is_switch : (cases : ℕ) → cases ≤ 6 → IsSwitch cases (take (cases + 1) switch_ports)
unfolding switch_ports
is_switch zero few = (_, refl, refl, tt)
is_switch (suc zero) few = (_, refl, refl, (case_name 1 (lit< tt), tt))
is_switch (suc (suc zero)) few = (_, refl, refl, (case_name 1 (lit< tt), (case_name 2 (lit< tt), tt)))
is_switch (suc (suc (suc zero))) few = (_, refl, refl, (case_name 1 (lit< tt), (case_name 2 (lit< tt), (case_name 3 (lit< tt), tt))))
is_switch (suc (suc (suc (suc zero)))) few = (_, refl, refl, (case_name 1 (lit< tt), (case_name 2 (lit< tt), (case_name 3 (lit< tt), (case_name 4 (lit< tt), tt)))))
is_switch (suc (suc (suc (suc (suc zero))))) few = (_, refl, refl, (case_name 1 (lit< tt), (case_name 2 (lit< tt), (case_name 3 (lit< tt), (case_name 4 (lit< tt), (case_name 5 (lit< tt), tt))))))
is_switch (suc (suc (suc (suc (suc (suc zero)))))) few = (_, refl, refl, (case_name 1 (lit< tt), (case_name 2 (lit< tt), (case_name 3 (lit< tt), (case_name 4 (lit< tt), (case_name 5 (lit< tt), (case_name 6 (lit< tt), tt)))))))
is_switch (suc (suc (suc (suc (suc (suc (suc n))))))) few = absurd (omega arith)

-- no kind has more than 7 ports
pub few_ports : (kind : Kind) (cases : ℕ) → kind ≡ Switch cases → length (ports_of kind) ≤ 7
unfolding switch_ports
few_ports kind cases is = subst (λ (kd : Kind). length (ports_of kd) ≤ 7) (sym is) (omega (arith, length-take (cases + 1) switch_ports))

module _ (term : Term-F Meaning) (view : View) (whole uid : ℕ) (s : State) (node : Node) (k : IsNode view (written term) whole node) where
  -- the ports of a node of this kind
  pub ports_are : (kind : Kind) → node.kind ≡ kind → node.ports ≡ map (λ (rule : PortRule). source_at view term.ports rule.name) (ports_of kind)
  ports_are kind is = k.ports ∙ ap (λ (kd : Kind). map (λ (rule : PortRule). source_at view term.ports rule.name) (ports_of kd)) (sym k.kind ∙ is)

  -- the value of a port by its name
  pub value_means : (name : List ℕ) → source_value s.board (source_at view term.ports name) ≡ value_at (site_of term view uid) s name
  value_means name = given_means (site_of term view uid) s (given_at (site_of term view uid) name)

  -- the number of the port of this name, which stands at this place
  pub number_means : (kind : Kind) (place : ℕ) (name : List ℕ) → node.kind ≡ kind →
      slice_index_or (map (λ (rule : PortRule). source_at view term.ports rule.name) (ports_of kind)) place Absent ≡ source_at view term.ports name →
      source_number s.board (port_at node place) ≡ number_at (site_of term view uid) s name
  number_means kind place name is here =
      ap (λ (ports : List Source). source_number s.board (slice_index_or ports place Absent)) (ports_are kind is)
      ∙ ap (λ (source : Source). source_number s.board source) here
      ∙ ap number_by (value_means name)

  starts_as : (memo : Memo) (kind : Kind) → node.kind ≡ kind → new_memo kind (site_of term view uid) memo s ≡ new_memo term.kind (site_of term view uid) memo s
  starts_as memo kind is = ap (λ (kd : Kind). new_memo kd (site_of term view uid) memo s) (sym is ∙ k.kind)

  pub parallel_starts : (memo : Memo) (r : Result Memo NumericPort) → node.kind ≡ Parallel →
      r ≡ parallel_start (threshold node.children (source_number s.board (port_at node 0))) (is_negative (source_number s.board (port_at node 0))) (threshold node.children (source_number s.board (port_at node 1))) →
      r ≡ new_memo term.kind (site_of term view uid) memo s
  parallel_starts memo r is e =
      let success_is = number_means Parallel 0 (codes "success_count") is refl in
      let failure_is = number_means Parallel 1 (codes "failure_count") is refl in
      e
      ∙ (λ i. parallel_start (threshold (k.children i) (success_is i)) (is_negative (success_is i)) (threshold (k.children i) (failure_is i)))
      ∙ starts_as memo Parallel is

  -- the rate of a RateController
  pub pace_starts : (memo : Memo) (r : Result Memo NumericPort) → node.kind ≡ RateController →
      r ≡ next_pace memo (pace_start s.moment (source_rate s.board (port_at node 0))) →
      r ≡ new_memo term.kind (site_of term view uid) memo s
  pace_starts memo r is e =
      let rate_is = ap (λ (ports : List Source). source_rate s.board (slice_index_or ports 0 Absent)) (ports_are RateController is)
      ∙ rate_means_given (site_of term view uid) s (given_at (site_of term view uid) (codes "hz")) in
      e ∙ ap (λ (rate : Option ℕ). next_pace memo (pace_start s.moment rate)) rate_is ∙ starts_as memo RateController is

  -- ---- Switch

  -- the first of these ports of a Switch with a text is the case that the definition finds
  cases_from : (rules : List PortRule) (place : ℕ) (text : List ℕ) → AreNumbered place rules →
      first_case s.board (map (λ (rule : PortRule). source_at view term.ports rule.name) rules) place text ≡ case_from (site_of term view uid) s (length rules) place text
  cases_from [] place text numbered = refl
  cases_from (rule ∷ rules) place text numbered =
      let name = codes "case_" ++ decimal (place + 1) in
      let here = ap (λ (n : List ℕ). source_text s.board (source_at view term.ports n)) numbered.0 ∙ ap text_by (value_means name) in
      let rest = cases_from rules (place + 1) text numbered.1 in
      λ i. if is_case (here i) text then place else (rest i)

  selected_among : (rules : List PortRule) (text : Option (List ℕ)) → AreNumbered 0 rules →
      case_of s.board (map (λ (rule : PortRule). source_at view term.ports rule.name) rules) text ≡ selected (site_of term view uid) s (length rules) text
  selected_among rules (Some text) numbered = cases_from rules 0 text numbered
  selected_among rules None numbered = length-map rules (λ (rule : PortRule). source_at view term.ports rule.name)

  switch_picks_by : (cases : ℕ) → node.kind ≡ Switch cases → IsSwitch cases (take (cases + 1) switch_ports) →
      case_selected s.board node.ports ≡ selected (site_of term view uid) s cases (text_at (site_of term view uid) s (codes "variable"))
  switch_picks_by cases is (rules, ports, many, numbered) =
      let all = ports_are (Switch cases) is ∙ ap (λ (rs : List PortRule). map (λ (rule : PortRule). source_at view term.ports rule.name) rs) ports in
      ap (case_selected s.board) all
      ∙ ap (λ (text : Option (List ℕ)). case_of s.board (map (λ (rule : PortRule). source_at view term.ports rule.name) rules) text) (ap text_by (value_means (codes "variable")))
      ∙ selected_among rules (text_at (site_of term view uid) s (codes "variable")) numbered
      ∙ ap (λ (n : ℕ). selected (site_of term view uid) s n (text_at (site_of term view uid) s (codes "variable"))) many

  -- a Switch picks the child of the case that it selects
  pub switch_picks : (memo : Memo) (cases picks : ℕ) → node.kind ≡ Switch cases → FewCases term.kind → picks ≡ case_selected s.board node.ports →
      Ok picks ≡ picked term.kind (site_of term view uid) memo s
  switch_picks memo cases picks is few e =
      let few_here : cases ≤ 6 = subst FewCases (sym k.kind ∙ is) few in
      ap Ok (e ∙ switch_picks_by cases is (is_switch cases few_here))
      ∙ ap (λ (kd : Kind). picked kd (site_of term view uid) memo s) (sym is ∙ k.kind)
