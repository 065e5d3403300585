-- How nodes are read one after another.
use Rattle.std.proofs.Common.{◌≡◌, ℕ, ◌+◌, ◌<◌, List, [], ◌∷◌, ◌++◌, length, drop, get_or, Result, Ok, Err, refl, ap, sym, ◌∙◌, append_assoc}
use Rattle.std.proofs.lemmas.List.{drop_more}
use Rattle.spec_tree_file.specs.declared.element.Element.{Element}
use Rattle.spec_tree.specs.declared.term.Term.{Term}
use Rattle.spec_tree_file.specs.ReadSteps.{go_on}
use Rattle.spec_tree_file.specs.declared.build_fault.BuildFault.{BuildFault}
use Rattle.spec_tree_file.specs.declared.numbers.Numbers.{Numbers}
use Rattle.spec_tree_file.specs.Reads.{Reader, nodes_by}
use Rattle.tree_build.specs.ReadSteps.{with_first}

abbrev Read : Type 0
Read = Result (List Term × Numbers) BuildFault

-- a reading with some nodes before its own
abbrev pub following : List Term → Read → Read
following terms rest = go_on (λ r. Ok (terms ++ r.0, r.1)) rest

following_first : (terms : List Term) (t : Term) (r : Read) → following terms (with_first t r) ≡ following (terms ++ t ∷ []) r
following_first terms t (Ok r) = ap (λ (ts : List Term). Ok (ts, r.1)) (sym (append_assoc terms (t ∷ []) r.0))
following_first terms t (Err f) = refl

first_of_rest : (reader : Reader) (opened : List (List ℕ)) (es : List Element) (i : ℕ) (e : Element) (n : Numbers) →
    i < length es → e ≡ get_or es i e →
    nodes_by reader opened (drop i es) n ≡ go_on (λ r. with_first r.0 (nodes_by reader opened (drop (i + 1) es) r.1)) (reader e opened n)
first_of_rest reader opened es i e n within is_e =
    ap (λ (xs : List Element). nodes_by reader opened xs n) (drop_more es i e within)
    ∙ ap (λ (x : Element). nodes_by reader opened (x ∷ drop (i + 1) es) n) (sym is_e)

-- one node more
pub following_more : (reader : Reader) (opened : List (List ℕ)) (es : List Element) (i : ℕ) (e : Element) (n m : Numbers) (terms : List Term) (t : Term) →
    i < length es → e ≡ get_or es i e → reader e opened n ≡ Ok (t, m) →
    following terms (nodes_by reader opened (drop i es) n) ≡ following (terms ++ t ∷ []) (nodes_by reader opened (drop (i + 1) es) m)
following_more reader opened es i e n m terms t within is_e h =
    ap (following terms) (first_of_rest reader opened es i e n within is_e
    ∙ ap (λ (r : Result (Term × Numbers) BuildFault). go_on (λ r. with_first r.0 (nodes_by reader opened (drop (i + 1) es) r.1)) r) h)
    ∙ following_first terms t (nodes_by reader opened (drop (i + 1) es) m)

-- a node that can't be read
pub after_fault : (reader : Reader) (opened : List (List ℕ)) (es : List Element) (i : ℕ) (e : Element) (n : Numbers) (terms : List Term) (f : BuildFault) →
    i < length es → e ≡ get_or es i e → reader e opened n ≡ Err f →
    following terms (nodes_by reader opened (drop i es) n) ≡ Err f
after_fault reader opened es i e n terms f within is_e h =
    ap (following terms) (first_of_rest reader opened es i e n within is_e
    ∙ ap (λ (r : Result (Term × Numbers) BuildFault). go_on (λ r. with_first r.0 (nodes_by reader opened (drop (i + 1) es) r.1)) r) h)
