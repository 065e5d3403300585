-- The nodes that the walk reads are those of the definition.
use Rattle.std.proofs.Common.{◌≡◌, ℕ, zero, suc, ◌+◌, ◌-◌, ◌<◌, Bool, true, false, List, [], ◌∷◌, ◌++◌, length, Option, Some, Result, Ok, Err, ap, sym, ◌∙◌, arith}
use Rattle.std.specs.Prelude.{not, ◌&&◌, nat_eq, nat_le, if◌then◌else◌}
use Rattle.std.proofs.lemmas.Bool.{lt-leb}
use Rattle.base_texts.specs.declared.stop.Stop.{Stop}
use Rattle.base_texts.specs.declared.stop.Stop.TheVariants as stop
use Rattle.base_texts.specs.Stops.{Gives}
use Rattle.spec_tree_file.specs.declared.element.Element.{Element}
use Rattle.spec_tree.specs.declared.term.Term.{Term}
use Rattle.spec_tree.specs.BuiltIns.{takes}
use Rattle.spec_tree.specs.Names.{is_among}
use Rattle.spec_tree_file.specs.Attributes.{Attributes}
use Rattle.spec_tree_file.specs.Models.{Models, attributes_of, children_of, name_of}
use Rattle.spec_tree_file.specs.ReadSteps.{go_on}
use Rattle.spec_tree_file.specs.declared.content.Content.{Content}
use Rattle.spec_tree_file.specs.declared.build_fault.BuildFault.{BuildFault}
use Rattle.spec_tree_file.specs.declared.build_fault.BuildFault.TheVariants.{TooManyNodes, Recursive, TooManyScopes, ChildCount}
use Rattle.spec_tree_file.specs.declared.head.Head.{Head}
use Rattle.spec_tree_file.specs.declared.numbers.Numbers.{Numbers}
use Rattle.spec_tree_file.specs.Content.{content_in}
use Rattle.spec_tree_file.specs.FirstFaults.{refused_if}
use Rattle.spec_tree_file.specs.Heads.{head_of}
use Rattle.spec_tree_file.specs.Reads.{File, Reader, is_subtree, known, node_by, node_of, nodes_by, opened_by, read_node, tree_of}
use Rattle.tree_build.specs.ReadSteps.{node_with, one_node_more, one_scope_more, plain_by}

-- a fault of a part is one of the whole
pub passed : {A B : Type 0} (e : Stop BuildFault) (part : Result A BuildFault) (whole : Result B BuildFault) →
    Gives {X = A} (Err e) part → ((f : BuildFault) → part ≡ Err f → whole ≡ Err f) → Gives {X = B} (Err e) whole
passed stop.NoMemory part whole g h = tt
passed (stop.Fault f) part whole g h = h f g

-- an element that is a node
pub read_some : (file : File) (left : ℕ) (e : Element) (opened : List (List ℕ)) (n : Numbers) (head : Head) →
    0 < left → n.nodes < 4096 → Some head ≡ head_of file.version (name_of e) (attributes_of e) (length (children_of e)) →
    read_node file left e opened n ≡ node_by file (read_node file (left - 1)) head e opened n
read_some file zero e opened n head some few h = absurd (omega arith)
read_some file (suc k) e opened n head some few h =
    let same : k ≡ suc k - 1 = omega arith in
    ap (λ (b : Bool). refused_if b TooManyNodes (known file (read_node file k) e opened n (head_of file.version (name_of e) (attributes_of e) (length (children_of e))))) (lt-leb 4096 n.nodes few)
    ∙ ap (λ (o : Option Head). known file (read_node file k) e opened n o) (sym h)
    ∙ ap (λ (m : ℕ). node_by file (read_node file m) head e opened n) same

-- a node of another kind than SubTree
pub node_plain : (file : File) (below : Reader) (head : Head) (e : Element) (opened : List (List ℕ)) (n : Numbers) (written : Attributes) (es : List Element) →
    written ≡ attributes_of e → es ≡ children_of e → is_subtree head.kind ≡ false → takes head.kind (length es) ≡ true →
    node_by file below head e opened n ≡ node_of file.models below head written opened es (one_node_more n) (n.nodes + 1)
node_plain file below head e opened n written es is_written is_es plain fit =
    let node = λ (bs : Attributes) (cs : List Element). node_of file.models below head bs opened cs (one_node_more n) (n.nodes + 1) in
    ap (λ (b : Bool). if b then opened_by file below head e opened n (tree_of head.id file.trees) else plain_by file below head e opened n) plain
    ∙ ap (λ (b : Bool). refused_if (not b) (ChildCount (n.nodes + 1)) (node (attributes_of e) (children_of e))) (ap (λ (cs : List Element). takes head.kind (length cs)) (sym is_es) ∙ fit)
    ∙ ap (λ (bs : Attributes). node bs (children_of e)) (sym is_written)
    ∙ ap (λ (cs : List Element). node written cs) (sym is_es)

one_root : (a b : ℕ) → a ≡ 0 → b ≡ 1 → not (nat_eq a 0 && nat_eq b 1) ≡ false
one_root a b p q = ap (λ (x : ℕ). not (nat_eq x 0 && nat_eq b 1)) p ∙ ap (λ (x : ℕ). not (nat_eq 0 0 && nat_eq x 1)) q

-- a SubTree node that may be opened
pub node_opened : (file : File) (below : Reader) (head : Head) (e tree : Element) (opened inner : List (List ℕ)) (n : Numbers) (written : Attributes) (es roots : List Element) →
    written ≡ attributes_of e → es ≡ children_of e → roots ≡ children_of tree →
    Some tree ≡ tree_of head.id file.trees → is_among head.id opened ≡ false → n.scopes < 256 →
    length es ≡ 0 → length roots ≡ 1 → inner ≡ opened ++ head.id ∷ [] →
    opened_by file below head e opened n (tree_of head.id file.trees)
    ≡ node_of file.models below head written inner roots (one_scope_more (one_node_more n)) (n.nodes + 1)
node_opened file below head e tree opened inner n written es roots is_written is_es is_roots found fresh few none one is_inner =
    let node = λ (bs : Attributes) (os : List (List ℕ)) (rs : List Element). node_of file.models below head bs os rs (one_scope_more (one_node_more n)) (n.nodes + 1) in
    let whole = node (attributes_of e) (opened ++ head.id ∷ []) (children_of tree) in
    let counted = refused_if (not (nat_eq (length (children_of e)) 0 && nat_eq (length (children_of tree)) 1)) (ChildCount (n.nodes + 1)) whole in
    ap (λ (o : Option Element). opened_by file below head e opened n o) (sym found)
    ∙ ap (λ (b : Bool). refused_if b (Recursive head.id) (refused_if (nat_le 256 n.scopes) TooManyScopes counted)) fresh
    ∙ ap (λ (b : Bool). refused_if b TooManyScopes counted) (lt-leb 256 n.scopes few)
    ∙ ap (λ (b : Bool). refused_if b (ChildCount (n.nodes + 1)) whole)
    (one_root (length (children_of e)) (length (children_of tree)) (ap (λ (xs : List Element). length xs) (sym is_es) ∙ none) (ap (λ (xs : List Element). length xs) (sym is_roots) ∙ one))
    ∙ ap (λ (bs : Attributes). node bs (opened ++ head.id ∷ []) (children_of tree)) (sym is_written)
    ∙ ap (λ (os : List (List ℕ)). node written os (children_of tree)) (sym is_inner)
    ∙ ap (λ (rs : List Element). node written inner rs) (sym is_roots)

-- a node one of whose children can't be read
pub node_fault : (models : Models) (below : Reader) (head : Head) (attributes : Attributes) (opened : List (List ℕ)) (children : List Element) (n : Numbers) (uid : ℕ) (content : Content) (f : BuildFault) →
    content_in uid models head.kind head.id head.form attributes ≡ Ok content → nodes_by below opened children n ≡ Err f →
    node_of models below head attributes opened children n uid ≡ Err f
node_fault models below head attributes opened children n uid content f is_content fault =
    ap (λ (r : Result Content BuildFault). go_on (λ c. go_on (node_with head attributes c) (nodes_by below opened children n)) r) is_content
    ∙ ap (λ (r : Result (List Term × Numbers) BuildFault). go_on (node_with head attributes content) r) fault
