-- A node without an attribute whose name begins with `_` has no guards.
use Rattle.std.proofs.Common.{◌≡◌, ℕ, Bool, true, false, ◌||◌, List, [], ◌∷◌, Option, Some, None, Result, Ok, cond, refl, ap, ◌∙◌, arith}
use Rattle.std.specs.Prelude.{codes}
use Rattle.std.specs.List.{list_any}
use Rattle.std.specs.Str.{bytes_eq}
use Rattle.std.proofs.lemmas.Bool.Decides.{nat_tests}
use Rattle.spec_tree.specs.declared.term.Guards.{Guards}
use Rattle.spec_tree.specs.Boards.{is_private}
use Rattle.spec_tree_file.specs.Attributes.{Attributes, value_of}
use Rattle.spec_tree_file.specs.ReadSteps.{go_on}
use Rattle.spec_tree_file.specs.declared.build_fault.BuildFault.{BuildFault}
use Rattle.tree_build.specs.ContentSteps.{guards_in, script_of}

other_name : (key name : List ℕ) → is_private name ≡ false → bytes_eq (95 ∷ key) name ≡ false
other_name key [] h = refl
other_name key (c ∷ cs) h = grind (arith, nat_tests)

neither : (a b : Bool) → (a || b) ≡ false → (a ≡ false) × (b ≡ false)
neither true b h = absurd (cc)
neither false b h = (refl, h)

-- no attribute has a name that begins so
unnamed : (attributes : Attributes) → list_any (λ a. is_private a.0) attributes ≡ false → (key : List ℕ) → value_of (95 ∷ key) attributes ≡ None
unnamed [] h key = refl
unnamed (a ∷ more) h key =
    let none = neither (is_private a.0) (list_any (λ b. is_private b.0) more) h in
    ap (λ (t : Bool). cond t (Some a.1) (value_of (95 ∷ key) more)) (other_name key a.0 none.0) ∙ unnamed more none.1 key

-- the guards whose texts are these
abbrev guards_by : ℕ → Option (List ℕ) → Option (List ℕ) → Option (List ℕ) → Option (List ℕ) → Option (List ℕ) → Option (List ℕ) → Option (List ℕ) → Option (List ℕ) → Result Guards BuildFault
guards_by uid a b c d e f g h =
    go_on (λ failure_if.
    go_on (λ success_if.
    go_on (λ skip_if.
    go_on (λ while_true.
    go_on (λ on_success.
    go_on (λ on_failure.
    go_on (λ post.
    go_on (λ on_halted. Ok (record {
      failure_if = failure_if;
      success_if = success_if;
      skip_if = skip_if;
      while_true = while_true;
      on_success = on_success;
      on_failure = on_failure;
      post = post;
      on_halted = on_halted;
    }))
    (script_of uid h))
    (script_of uid g))
    (script_of uid f))
    (script_of uid e))
    (script_of uid d))
    (script_of uid c))
    (script_of uid b))
    (script_of uid a)

pub no_guards : (uid : ℕ) (attributes : Attributes) → list_any (λ a. is_private a.0) attributes ≡ false → guards_in uid attributes ≡ Ok (record {
  failure_if = None;
  success_if = None;
  skip_if = None;
  while_true = None;
  on_success = None;
  on_failure = None;
  post = None;
  on_halted = None;
})
no_guards uid attributes h =
    let v = λ (name : List ℕ). value_of name attributes in
    let none = unnamed attributes h in
    ap (λ (t : Option (List ℕ)). guards_by uid t (v (codes "_successIf")) (v (codes "_skipIf")) (v (codes "_while")) (v (codes "_onSuccess")) (v (codes "_onFailure")) (v (codes "_post")) (v (codes "_onHalted"))) (none (codes "failureIf"))
    ∙ ap (λ (t : Option (List ℕ)). guards_by uid None t (v (codes "_skipIf")) (v (codes "_while")) (v (codes "_onSuccess")) (v (codes "_onFailure")) (v (codes "_post")) (v (codes "_onHalted"))) (none (codes "successIf"))
    ∙ ap (λ (t : Option (List ℕ)). guards_by uid None None t (v (codes "_while")) (v (codes "_onSuccess")) (v (codes "_onFailure")) (v (codes "_post")) (v (codes "_onHalted"))) (none (codes "skipIf"))
    ∙ ap (λ (t : Option (List ℕ)). guards_by uid None None None t (v (codes "_onSuccess")) (v (codes "_onFailure")) (v (codes "_post")) (v (codes "_onHalted"))) (none (codes "while"))
    ∙ ap (λ (t : Option (List ℕ)). guards_by uid None None None None t (v (codes "_onFailure")) (v (codes "_post")) (v (codes "_onHalted"))) (none (codes "onSuccess"))
    ∙ ap (λ (t : Option (List ℕ)). guards_by uid None None None None None t (v (codes "_post")) (v (codes "_onHalted"))) (none (codes "onFailure"))
    ∙ ap (λ (t : Option (List ℕ)). guards_by uid None None None None None None t (v (codes "_onHalted"))) (none (codes "post"))
    ∙ ap (λ (t : Option (List ℕ)). guards_by uid None None None None None None None t) (none (codes "onHalted"))
