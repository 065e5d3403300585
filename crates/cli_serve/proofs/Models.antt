-- The ports of a model that a file may have differ.
use Rattle.std.proofs.Common.{◌≡◌, ℕ, Bool, true, false, ◌||◌, cond, if◌then◌else◌, List, [], ◌∷◌, ◌++◌, filter, codes, Option, Some, None, Result, Ok, Err, refl, sym, ap, subst, ◌∙◌, append_assoc, append-nil}
use Rattle.std.specs.Prelude.{bytes_eq, is_some, option_to_list}
use Rattle.std.specs.Cmp.Lexicographic.{nat_list_eq_equiv}
use Rattle.std.specs.List.{AllByRecursion, IsDistinct, flat_map, list_any}
use Rattle.std.proofs.lemmas.Bool.{both_ways, or_left, or_right}
use Rattle.std.proofs.lemmas.Map.Keys.{IsDistinct-cons, IsDistinct-head, IsDistinct-push, IsDistinct-tail}
use Rattle.std.proofs.lemmas.Slice.Eq.{bytes_eq-Decides}
use Rattle.spec_tree.specs.declared.term.Kind.{Kind}
use Rattle.spec_tree.specs.BuiltIns.{kind_named}
use Rattle.spec_tree.specs.Names.{is_among}
use Rattle.spec_tree_file.specs.declared.element.Element.{Element}
use Rattle.spec_tree_file.specs.declared.manifest_fault.ManifestFault.{ManifestFault}
use Rattle.spec_tree_file.specs.declared.manifest_fault.ManifestFault.TheVariants.{DoubleModel, BadModel}
use Rattle.spec_tree_file.specs.Attributes.{value_of}
use Rattle.spec_tree_file.specs.Models.{Models, Ports, attributes_of, can_be_written, children_of, has_model, holds_models, is_model, is_port, manifest_in, models_in, name_of, no_ports, no_second, place_of, with_children, with_model_of, with_models, with_port, with_port_named, with_ports}
use Rattle.spec_tree_file.specs.ReadSteps.{go_on}
use Rattle.spec_serve.specs.Rows.{model_elements, model_of, ports_of}

-- ---- The names of ports

abbrev own_name : Element → List (List ℕ)
own_name e = option_to_list (value_of (codes "name") (attributes_of e))

abbrev names_by : (Element → Bool) → List Element → List (List ℕ)
names_by test es = flat_map own_name (filter test es)

abbrev is_any_port : Element → Bool
is_any_port e = is_port (name_of e)

none_ok : {A : Type 0} (f : ManifestFault) (x : A) → Err f ≡ Ok x → ⊥
none_ok f x e = cc

-- names of ports that were read differ
ports_differ : (es : List Element) (p q : Ports) → with_children p es ≡ Ok q → IsDistinct bytes_eq p.names → IsDistinct bytes_eq (p.names ++ names_by is_any_port es)
ports_differ [] p q read distinct = subst (IsDistinct bytes_eq) (sym (append-nil p.names)) distinct
ports_differ (e ∷ es) p q read distinct = by (is_any_port e) (ports_differ es) read
  where
    by_new : (b : Bool) (name : List ℕ) → is_among name p.names ≡ b
        → ((p q : Ports) → with_children p es ≡ Ok q → IsDistinct bytes_eq p.names → IsDistinct bytes_eq (p.names ++ names_by is_any_port es))
        → go_on (λ r. with_children r es) (if b then Err (BadModel (place_of e)) else Ok (with_port p name (value_of (codes "default") (attributes_of e)))) ≡ Ok q
        → IsDistinct bytes_eq (p.names ++ name ∷ names_by is_any_port es)
    by_new true name is more read = absurd (none_ok (BadModel (place_of e)) q read)
    by_new false name is more read =
        subst (IsDistinct bytes_eq) (append_assoc p.names (name ∷ []) (names_by is_any_port es))
        (more (with_port p name (value_of (codes "default") (attributes_of e))) q read (IsDistinct-push nat_list_eq_equiv p.names name distinct is))

    by_name : (name : Option (List ℕ))
        → ((p q : Ports) → with_children p es ≡ Ok q → IsDistinct bytes_eq p.names → IsDistinct bytes_eq (p.names ++ names_by is_any_port es))
        → go_on (λ r. with_children r es) (with_port_named p e name) ≡ Ok q
        → IsDistinct bytes_eq (p.names ++ (option_to_list name ++ names_by is_any_port es))
    by_name None more read = absurd (none_ok (BadModel (place_of e)) q read)
    by_name (Some name) more read = by_new (is_among name p.names) name refl more read

    by : (b : Bool)
        → ((p q : Ports) → with_children p es ≡ Ok q → IsDistinct bytes_eq p.names → IsDistinct bytes_eq (p.names ++ names_by is_any_port es))
        → go_on (λ r. with_children r es) (if b then with_port_named p e (value_of (codes "name") (attributes_of e)) else Ok p) ≡ Ok q
        → IsDistinct bytes_eq (p.names ++ flat_map own_name (cond b (e ∷ filter is_any_port es) (filter is_any_port es)))
    by false more read = more p q read distinct
    by true more read = by_name (value_of (codes "name") (attributes_of e)) more read

-- ---- Some of the names

module _ (test : Element → Bool) (ports : (e : Element) → test e ≡ true → is_any_port e ≡ true) where
  abbrev some_names : List Element → List (List ℕ)
  some_names es = filter can_be_written (names_by test es)

  kept_apart : (x : List ℕ) (es : List Element) → AllByRecursion (λ y. bytes_eq x y ≡ false) (names_by is_any_port es) → AllByRecursion (λ y. bytes_eq x y ≡ false) (some_names es)
  kept_apart x [] all = tt
  kept_apart x (e ∷ es) all = by (test e) (is_any_port e) (ports e) (kept_apart x es) all
    where
      by_written : (b : Bool) (name : List ℕ) → (AllByRecursion (λ y. bytes_eq x y ≡ false) (names_by is_any_port es) → AllByRecursion (λ y. bytes_eq x y ≡ false) (some_names es))
          → AllByRecursion (λ y. bytes_eq x y ≡ false) (name ∷ names_by is_any_port es) → AllByRecursion (λ y. bytes_eq x y ≡ false) (cond b (name ∷ some_names es) (some_names es))
      by_written true name more all = (all.0, more all.1)
      by_written false name more all = more all.1

      passed : (name : Option (List ℕ)) → (AllByRecursion (λ y. bytes_eq x y ≡ false) (names_by is_any_port es) → AllByRecursion (λ y. bytes_eq x y ≡ false) (some_names es))
          → AllByRecursion (λ y. bytes_eq x y ≡ false) (option_to_list name ++ names_by is_any_port es) → AllByRecursion (λ y. bytes_eq x y ≡ false) (some_names es)
      passed None more all = more all
      passed (Some name) more all = more all.1

      taken : (name : Option (List ℕ)) → (AllByRecursion (λ y. bytes_eq x y ≡ false) (names_by is_any_port es) → AllByRecursion (λ y. bytes_eq x y ≡ false) (some_names es))
          → AllByRecursion (λ y. bytes_eq x y ≡ false) (option_to_list name ++ names_by is_any_port es) → AllByRecursion (λ y. bytes_eq x y ≡ false) (filter can_be_written (option_to_list name ++ names_by test es))
      taken None more all = more all
      taken (Some name) more all = by_written (can_be_written name) name more all

      by : (a b : Bool) → (a ≡ true → b ≡ true) → (AllByRecursion (λ y. bytes_eq x y ≡ false) (names_by is_any_port es) → AllByRecursion (λ y. bytes_eq x y ≡ false) (some_names es))
          → AllByRecursion (λ y. bytes_eq x y ≡ false) (flat_map own_name (cond b (e ∷ filter is_any_port es) (filter is_any_port es)))
          → AllByRecursion (λ y. bytes_eq x y ≡ false) (filter can_be_written (flat_map own_name (cond a (e ∷ filter test es) (filter test es))))
      by false false is more all = more all
      by false true is more all = passed (value_of (codes "name") (attributes_of e)) more all
      by true false is more all = absurd (both_ways false refl (is refl))
      by true true is more all = taken (value_of (codes "name") (attributes_of e)) more all

  -- some of the names differ where all do
  some_differ : (es : List Element) → IsDistinct bytes_eq (names_by is_any_port es) → IsDistinct bytes_eq (some_names es)
  some_differ [] all = all
  some_differ (e ∷ es) all = by (test e) (is_any_port e) (ports e) (some_differ es) all
    where
      by_written : (b : Bool) (name : List ℕ) → (IsDistinct bytes_eq (names_by is_any_port es) → IsDistinct bytes_eq (some_names es))
          → IsDistinct bytes_eq (name ∷ names_by is_any_port es) → IsDistinct bytes_eq (cond b (name ∷ some_names es) (some_names es))
      by_written true name more all =
          IsDistinct-cons bytes_eq name (some_names es) (kept_apart name es (IsDistinct-head bytes_eq name (names_by is_any_port es) all)) (more (IsDistinct-tail bytes_eq name (names_by is_any_port es) all))
      by_written false name more all = more (IsDistinct-tail bytes_eq name (names_by is_any_port es) all)

      passed : (name : Option (List ℕ)) → (IsDistinct bytes_eq (names_by is_any_port es) → IsDistinct bytes_eq (some_names es))
          → IsDistinct bytes_eq (option_to_list name ++ names_by is_any_port es) → IsDistinct bytes_eq (some_names es)
      passed None more all = more all
      passed (Some name) more all = more (IsDistinct-tail bytes_eq name (names_by is_any_port es) all)

      taken : (name : Option (List ℕ)) → (IsDistinct bytes_eq (names_by is_any_port es) → IsDistinct bytes_eq (some_names es))
          → IsDistinct bytes_eq (option_to_list name ++ names_by is_any_port es) → IsDistinct bytes_eq (filter can_be_written (option_to_list name ++ names_by test es))
      taken None more all = more all
      taken (Some name) more all = by_written (can_be_written name) name more all

      by : (a b : Bool) → (a ≡ true → b ≡ true) → (IsDistinct bytes_eq (names_by is_any_port es) → IsDistinct bytes_eq (some_names es))
          → IsDistinct bytes_eq (flat_map own_name (cond b (e ∷ filter is_any_port es) (filter is_any_port es)))
          → IsDistinct bytes_eq (filter can_be_written (flat_map own_name (cond a (e ∷ filter test es) (filter test es))))
      by false false is more all = more all
      by false true is more all = passed (value_of (codes "name") (attributes_of e)) more all
      by true false is more all = absurd (both_ways false refl (is refl))
      by true true is more all = taken (value_of (codes "name") (attributes_of e)) more all

-- ---- The model of an ID

-- its ports were read
abbrev WereRead : Element → Type 0
WereRead m = (p : Ports) × (with_children no_ports (children_of m) ≡ Ok p)

-- the model that is found for an ID, if one is
abbrev IfFound : Option Element → Type 0
IfFound None = Unit {0}
IfFound (Some m) = WereRead m

abbrev candidates : List Element → List Element
candidates es = filter (λ m. is_model (name_of m)) es

module _ (id : List ℕ) (free : kind_named id ≡ None) where
  models_read : (es : List Element) (models more : Models) → with_models models es ≡ Ok more → IfFound (model_of id (candidates es))
  models_read [] models more read = tt
  models_read (e ∷ es) models more read = by (is_model (name_of e)) refl (models_read es) read
    where
      here : Option (List ℕ) → Option Element
      here found = if list_any (bytes_eq id) (option_to_list found) then Some e else model_of id (candidates es)

      by_children : (r : Result Ports ManifestFault) → with_children no_ports (children_of e) ≡ r → (other : List ℕ) → ((models more : Models) → with_models models es ≡ Ok more → IfFound (model_of id (candidates es)))
          → go_on (λ ms. with_models ms es) (go_on (λ p. Ok (with_ports models other p)) r) ≡ Ok more
          → IfFound (if list_any (bytes_eq id) (other ∷ []) then Some e else model_of id (candidates es))
      by_children (Err f) is other rest read = absurd (none_ok f more read)
      by_children (Ok p) is other rest read = by_own (bytes_eq id other || false)
        where
          by_own : (b : Bool) → IfFound (if b then Some e else model_of id (candidates es))
          by_own true = (p, is)
          by_own false = rest (with_ports models other p) more read

      by_new : (b : Bool) (other : List ℕ) → ((models more : Models) → with_models models es ≡ Ok more → IfFound (model_of id (candidates es)))
          → go_on (λ ms. with_models ms es) (if b then Err (DoubleModel (place_of e)) else go_on (λ p. Ok (with_ports models other p)) (with_children no_ports (children_of e))) ≡ Ok more
          → IfFound (if list_any (bytes_eq id) (other ∷ []) then Some e else model_of id (candidates es))
      by_new true other rest read = absurd (none_ok (DoubleModel (place_of e)) more read)
      by_new false other rest read = by_children (with_children no_ports (children_of e)) refl other rest read

      by_kind : (b : Bool) (other : List ℕ) → is_some (kind_named other) ≡ b → ((models more : Models) → with_models models es ≡ Ok more → IfFound (model_of id (candidates es)))
          → go_on (λ ms. with_models ms es)
          (if b then Ok models else if has_model models other then Err (DoubleModel (place_of e)) else go_on (λ p. Ok (with_ports models other p)) (with_children no_ports (children_of e))) ≡ Ok more
          → IfFound (if list_any (bytes_eq id) (other ∷ []) then Some e else model_of id (candidates es))
      by_kind false other is rest read = by_new (has_model models other) other rest read
      by_kind true other is rest read = by_own (bytes_eq id other) refl
        where
          by_own : (b : Bool) → bytes_eq id other ≡ b → IfFound (if b || false then Some e else model_of id (candidates es))
          by_own false apart = rest models more read
          by_own true same =
              absurd (both_ways (is_some (kind_named other)) (ap (λ (o : Option Kind). is_some o) (ap kind_named (sym ((bytes_eq-Decides id other).0 same)) ∙ free)) is)

      by_id : (own : Option (List ℕ)) → ((models more : Models) → with_models models es ≡ Ok more → IfFound (model_of id (candidates es)))
          → go_on (λ ms. with_models ms es) (with_model_of models e own) ≡ Ok more
          → IfFound (if list_any (bytes_eq id) (option_to_list own) then Some e else model_of id (candidates es))
      by_id None rest read = absurd (none_ok (BadModel (place_of e)) more read)
      by_id (Some other) rest read = by_kind (is_some (kind_named other)) other refl rest read

      by : (b : Bool) → is_model (name_of e) ≡ b → ((models more : Models) → with_models models es ≡ Ok more → IfFound (model_of id (candidates es)))
          → go_on (λ ms. with_models ms es) (if b then with_model_of models e (value_of (codes "ID") (attributes_of e)) else Ok models) ≡ Ok more
          → IfFound (model_of id (cond b (e ∷ candidates es) (candidates es)))
      by false is rest read = rest models more read
      by true is rest read =
          subst (λ (b : Bool). IfFound (if list_any (bytes_eq id) (option_to_list (if b then value_of (codes "ID") (attributes_of e) else Some (name_of e))) then Some e else model_of id (candidates es)))
          (sym is) (by_id (value_of (codes "ID") (attributes_of e)) rest read)

  found_read : (es : List Element) (models : Models) → models_in es ≡ Ok models → IfFound (model_of id (model_elements es))
  found_read [] models read = tt
  found_read (e ∷ es) models read = by (holds_models (name_of e)) (found_read es) read
    where
      by_models : (r : Result Models ManifestFault) → with_models [] (children_of e) ≡ r → go_on (λ ms. no_second ms es) r ≡ Ok models → IfFound (model_of id (candidates (children_of e)))
      by_models (Err f) is read = absurd (none_ok f models read)
      by_models (Ok all) is read = models_read (children_of e) [] all is

      by : (b : Bool) → ((models : Models) → models_in es ≡ Ok models → IfFound (model_of id (model_elements es)))
          → (if b then go_on (λ ms. no_second ms es) (with_models [] (children_of e)) else models_in es) ≡ Ok models
          → IfFound (model_of id (if b then candidates (children_of e) else model_elements es))
      by true more read = by_models (with_models [] (children_of e)) refl read
      by false more read = more models read

-- a port has a direction that is named so
is_directed : (direction : List ℕ) → ((e : Element) → bytes_eq (name_of e) direction ≡ true → is_any_port e ≡ true) → (e : Element)
    → (bytes_eq (name_of e) direction || bytes_eq (name_of e) (codes "inout_port")) ≡ true → is_any_port e ≡ true
is_directed direction own e is = by (bytes_eq (name_of e) direction) refl is
  where
    by : (b : Bool) → bytes_eq (name_of e) direction ≡ b → (b || bytes_eq (name_of e) (codes "inout_port")) ≡ true → is_any_port e ≡ true
    by true same is = own e same
    by false apart is =
        or_right (bytes_eq (name_of e) (codes "input_port") || bytes_eq (name_of e) (codes "output_port")) (bytes_eq (name_of e) (codes "inout_port")) is

-- the ports of a model differ, those of each direction
pub record PortsDiffer (model : Element) : Type 0 where
  pub inputs : IsDistinct bytes_eq (ports_of (codes "input_port") model)
  pub outputs : IsDistinct bytes_eq (ports_of (codes "output_port") model)

-- no names differ
pub no_names : IsDistinct bytes_eq []
unfolding IsDistinct
no_names = tt

ports_of_read : (m : Element) → WereRead m → PortsDiffer m
ports_of_read m read =
    let all = ports_differ (children_of m) no_ports read.0 read.1 no_names in
    record {
      inputs = some_differ (λ e. bytes_eq (name_of e) (codes "input_port") || bytes_eq (name_of e) (codes "inout_port"))
          (is_directed (codes "input_port") (λ e is. or_left (bytes_eq (name_of e) (codes "input_port") || bytes_eq (name_of e) (codes "output_port")) (bytes_eq (name_of e) (codes "inout_port"))
          (or_left (bytes_eq (name_of e) (codes "input_port")) (bytes_eq (name_of e) (codes "output_port")) is))) (children_of m) all;
      outputs = some_differ (λ e. bytes_eq (name_of e) (codes "output_port") || bytes_eq (name_of e) (codes "inout_port"))
          (is_directed (codes "output_port") (λ e is. or_left (bytes_eq (name_of e) (codes "input_port") || bytes_eq (name_of e) (codes "output_port")) (bytes_eq (name_of e) (codes "inout_port"))
          (or_right (bytes_eq (name_of e) (codes "input_port")) (bytes_eq (name_of e) (codes "output_port")) is))) (children_of m) all;
    }

-- .. of the model that is found for an ID, if one is
abbrev pub IfFoundDiffer : Option Element → Type 0
IfFoundDiffer None = Unit {0}
IfFoundDiffer (Some m) = PortsDiffer m

-- the model of an ID that is no built-in node's, in a file whose models can be read
pub model_ports_differ : (root : Element) (models : Models) (id : List ℕ) → manifest_in root ≡ Ok models → kind_named id ≡ None → IfFoundDiffer (model_of id (model_elements (children_of root)))
model_ports_differ root models id read free = by (model_of id (model_elements (children_of root))) (found_read id free (children_of root) models read)
  where
    by : (o : Option Element) → IfFound o → IfFoundDiffer o
    by None h = tt
    by (Some m) h = ports_of_read m h
