-- What the attributes of a node say fits its kind.
use Rattle.std.proofs.Common.{◌≡◌, ◌∙◌, inl, inr, ℕ, Bool, true, false, List, Option, Some, None, Ok, refl, sym, subst}
use Rattle.std.specs.Prelude.{not}
use Rattle.std.specs.List.{list_all}
use Rattle.spec_script.specs.declared.syntax.Script.{Script}
use Rattle.spec_tree_file.specs.Marks.{no_name_twice}
use Rattle.tree_elements.specs.Written.{can_stand}
use Rattle.spec_tree.specs.declared.term.Guards.{Guards}
use Rattle.spec_tree.specs.declared.term.Kind.{Kind}
use Rattle.spec_tree.specs.declared.term.Kind.TheVariants.{SubTree, Leaf}
use Rattle.spec_tree.specs.declared.term.Port.{Port}
use Rattle.spec_tree.specs.BuiltIns.{has_code, kind_named, ports_of}
use Rattle.spec_tree.specs.Trees.{CodeFits, GuardsFit, IdFits, autoremap_fits, guards_stand, ports_fit, script_stands}
use Rattle.spec_tree_file.specs.declared.models.NodeModel.{NodeModel}
use Rattle.spec_tree_file.specs.Attributes.{Attributes}
use Rattle.spec_tree_file.specs.Models.{Models, model_of}
use Rattle.spec_tree_file.specs.ReadSteps.{go_on}
use Rattle.spec_tree_file.specs.declared.content.Content.{Content}
use Rattle.spec_tree_file.specs.declared.build_fault.BuildFault.TheVariants.{UnknownPort, OldSubTree}
use Rattle.spec_tree_file.specs.declared.head.Head.{Head}
use Rattle.spec_tree_file.specs.declared.version.Form.{Form}
use Rattle.spec_tree_file.specs.Content.{Rules, all_known, content_in, form_fits, model_rules, rules_of}
use Rattle.tree_build.specs.ContentSteps.{autoremap_in, code_text, guards_in, ports_in, rest_in, ruled_in, script_of, scripts_in}
use Rattle.spec_tree_file.specs.FirstFaults.{refused_if}
use Rattle.tree_build.proofs.ContentLaw.{content_same}
use Rattle.tree_build.proofs.ElementTexts.{found}
use Rattle.tree_build.proofs.HeadFits.{HeadFits}
use Rattle.tree_build.proofs.KindFits.{fine}
use Rattle.tree_build.proofs.ModelTexts.{ModelsStand}
use Rattle.tree_build.proofs.PortLists.{any_fit, built_fit, key_fit, model_fit}
use Rattle.tree_build.proofs.PortTexts.{RulesStand, Stand, model_stands, ports_stand}
use Rattle.tree_build.proofs.ScriptFits.{GuardsRead, code_fits, code_text_stands, guards_fit, guards_in_stand, guards_read, script_of_stands, text_fits}
use Rattle.tree_build.proofs.Sizes.{not_refused, same_ok, went}

-- what was read of a node
pub record Parts (uid : ℕ) (kind : Kind) (form : Form) (rules : Rules) (attributes : Attributes) (content : Content) : Type 0 where
  pub ports : ports_in uid (has_code kind) rules attributes ≡ Ok content.ports
  pub code : CodeFits (has_code kind) content.code
  pub code_text : list_all can_stand attributes ≡ true → script_stands content.code ≡ true
  pub guards : GuardsRead uid attributes content.guards
  pub autoremap : autoremap_in uid kind form attributes ≡ Ok content.autoremap

pub parts_of : (uid : ℕ) (kind : Kind) (form : Form) (rules : Rules) (attributes : Attributes) (content : Content) → ruled_in uid kind form rules attributes ≡ Ok content → Parts uid kind form rules attributes content
parts_of uid kind form rules attributes content h =
    let all = go_on (rest_in uid kind form attributes) (ports_in uid (has_code kind) rules attributes) in
    let r = not_refused (not (all_known (has_code kind) rules attributes)) (UnknownPort uid) (refused_if (not (form_fits form attributes)) (OldSubTree uid) all) content h in
    let q = not_refused (not (form_fits form attributes)) (OldSubTree uid) all content r.1 in
    let p = went (rest_in uid kind form attributes) (ports_in uid (has_code kind) rules attributes) content q.1 in
    let t = went (λ (text : Option (List ℕ)). go_on (λ autoremap. scripts_in uid p.0 text autoremap attributes) (autoremap_in uid kind form attributes)) (code_text uid (has_code kind) attributes) content p.2 in
    let a = went (λ (autoremap : Bool). scripts_in uid p.0 t.0 autoremap attributes) (autoremap_in uid kind form attributes) content t.2 in
    let c = went (λ (code : Option Script). go_on (λ guards. Ok (record { ports = p.0; code = code; guards = guards; autoremap = a.0 })) (guards_in uid attributes)) (script_of uid t.0) content a.2 in
    let g = went (λ (guards : Guards). Ok (record { ports = p.0; code = c.0; guards = guards; autoremap = a.0 })) (guards_in uid attributes) content c.2 in
    subst (λ (x : Content). Parts uid kind form rules attributes x) (same_ok (record { ports = p.0; code = c.0; guards = g.0; autoremap = a.0 }) content g.2)
    (record {
      ports = p.1;
      code = code_fits uid (has_code kind) t.0 c.0 (text_fits uid (has_code kind) attributes t.0 t.1) c.1;
      code_text = λ all. script_of_stands uid t.0 c.0 (code_text_stands uid (has_code kind) attributes t.0 all t.1) c.1;
      guards = guards_read uid attributes g.0 g.1;
      autoremap = a.1;
    })

pub parts : (uid : ℕ) (models : Models) (kind : Kind) (id : List ℕ) (form : Form) (attributes : Attributes) (content : Content) → content_in uid models kind id form attributes ≡ Ok content →
    Parts uid kind form (rules_of models kind id) attributes content
parts uid models kind id form attributes content h =
    parts_of uid kind form (rules_of models kind id) attributes content (content_same uid kind form (rules_of models kind id) attributes ∙ h)

autoremap_said : (uid : ℕ) (kind : Kind) (form : Form) (attributes : Attributes) (b : Bool) → autoremap_in uid kind form attributes ≡ Ok b → autoremap_fits kind b ≡ true
autoremap_said uid SubTree form attributes b h = refl
autoremap_said uid _ form attributes b h = subst (λ (x : Bool). not x ≡ true) (same_ok false b h) refl

leaf_ports : (uid : ℕ) (attributes : Attributes) (ports : List Port) (o : Option NodeModel) → ports_in uid false (model_rules o) attributes ≡ Ok ports → ports_fit Leaf ports ≡ true
leaf_ports uid attributes ports None h = any_fit uid false attributes ports h
leaf_ports uid attributes ports (Some model) h = model_fit uid false model.ports attributes ports h

-- what a node says fits its kind and its ID
pub record Fitting (kind : Kind) (node_id : List ℕ) (content : Content) : Type 0 where
  pub id : IdFits kind node_id
  pub ports : ports_fit kind content.ports ≡ true
  pub code : CodeFits (has_code kind) content.code
  pub guards : GuardsFit content.guards
  pub autoremap : autoremap_fits kind content.autoremap ≡ true

subtree_fits : (uid : ℕ) (models : Models) (id : List ℕ) (form : Form) (attributes : Attributes) (content : Content) → content_in uid models SubTree id form attributes ≡ Ok content → Fitting SubTree id content
subtree_fits uid models id form attributes content h =
    let p = parts uid models SubTree id form attributes content h in
    record { id = tt; ports = key_fit uid false attributes content.ports p.ports; code = p.code; guards = guards_fit uid attributes content.guards p.guards; autoremap = refl }

leaf_fits : (uid : ℕ) (models : Models) (id : List ℕ) (form : Form) (attributes : Attributes) (content : Content) → kind_named id ≡ None → content_in uid models Leaf id form attributes ≡ Ok content → Fitting Leaf id content
leaf_fits uid models id form attributes content none h =
    let p = parts uid models Leaf id form attributes content h in
    record { id = none; ports = leaf_ports uid attributes content.ports (model_of id models) p.ports; code = p.code; guards = guards_fit uid attributes content.guards p.guards; autoremap = autoremap_said uid Leaf form attributes content.autoremap p.autoremap }

built_fits : (uid : ℕ) (models : Models) (kind : Kind) (id : List ℕ) (form : Form) (attributes : Attributes) (content : Content) → kind_named id ≡ Some kind → content_in uid models kind id form attributes ≡ Ok content → Fitting kind id content
built_fits uid models kind id form attributes content named h =
    let f = fine id kind named in
    let p = parts uid models kind id form attributes content h in
    let q = built_fit uid (has_code kind) (ports_of kind) attributes content.ports f.own f.written
    (subst (λ (r : Rules). ports_in uid (has_code kind) r attributes ≡ Ok content.ports) (f.rules models id) p.ports) in
    record { id = f.id id named; ports = f.fit content.ports q.0 q.1; code = p.code; guards = guards_fit uid attributes content.guards p.guards; autoremap = autoremap_said uid kind form attributes content.autoremap p.autoremap }

pub content_fits : (uid : ℕ) (models : Models) (head : Head) (attributes : Attributes) (content : Content) → HeadFits head → content_in uid models head.kind head.id head.form attributes ≡ Ok content →
    Fitting head.kind head.id content
content_fits uid models head attributes content (inl subtree) h =
    subst (λ (k : Kind). Fitting k head.id content) (sym subtree) (subtree_fits uid models head.id head.form attributes content (subst (λ (k : Kind). content_in uid models k head.id head.form attributes ≡ Ok content) subtree h))
content_fits uid models head attributes content (inr (inl leaf)) h =
    subst (λ (k : Kind). Fitting k head.id content) (sym leaf.0) (leaf_fits uid models head.id head.form attributes content leaf.1 (subst (λ (k : Kind). content_in uid models k head.id head.form attributes ≡ Ok content) leaf.0 h))
content_fits uid models head attributes content (inr (inr named)) h = built_fits uid models head.kind head.id head.form attributes content named h

-- ---- Texts

rules_by : (models : Models) (id : List ℕ) (o : Option NodeModel) → ModelsStand models → model_of id models ≡ o → RulesStand (model_rules o)
rules_by models id None all e = tt
rules_by models id (Some model) all e = found (λ (m : List ℕ × NodeModel). model_stands m.1.ports ≡ true) id models model all e

rules_of_stand : (models : Models) (head : Head) → ModelsStand models → HeadFits head → RulesStand (rules_of models head.kind head.id)
rules_of_stand models head all (inl subtree) = let any : RulesStand (rules_of models SubTree head.id) = tt in subst (λ (k : Kind). RulesStand (rules_of models k head.id)) (sym subtree) any
rules_of_stand models head all (inr (inl leaf)) =
    subst (λ (k : Kind). RulesStand (rules_of models k head.id)) (sym leaf.0) (rules_by models head.id (model_of head.id models) all refl)
rules_of_stand models head all (inr (inr named)) =
    let f = fine head.id head.kind named in subst RulesStand (sym (f.rules models head.id)) f.texts

-- what can be written of a node
pub record ContentStands (content : Content) : Type 0 where
  pub ports : Stand content.ports
  pub code : script_stands content.code ≡ true
  pub guards : guards_stand content.guards ≡ true

pub content_stands : (uid : ℕ) (models : Models) (head : Head) (attributes : Attributes) (content : Content) → ModelsStand models → HeadFits head → list_all can_stand attributes ≡ true → no_name_twice attributes ≡ true →
    content_in uid models head.kind head.id head.form attributes ≡ Ok content → ContentStands content
content_stands uid models head attributes content all fits stand single h =
    let p = parts uid models head.kind head.id head.form attributes content h in
    record {
      ports = ports_stand uid (has_code head.kind) (rules_of models head.kind head.id) attributes content.ports (rules_of_stand models head all fits) stand single p.ports;
      code = p.code_text stand;
      guards = guards_in_stand uid attributes content.guards stand p.guards;
    }
