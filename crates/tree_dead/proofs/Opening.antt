-- A term of nodes that fit stands before its first visit, where its nodes are dead or not as its marks say.
use Rattle.std.proofs.Common.{◌≡◌, ℕ, ◌+◌, ◌<◌, ◌≤◌, List, [], ◌∷◌, ◌++◌, length, map, slice_index_or, Bool, true, not, Option, Some, None, refl, sym, ap, subst, ◌∙◌, arith, flat_map}
use Rattle.std.specs.List.{AllByRecursion}
use Rattle.std.specs.Prelude.{IsTrue}
use Rattle.std.proofs.lemmas.Bool.{eqb-true, leb-true}
use Rattle.std.proofs.lemmas.List.{get_or_append_left, get_or-append-add, length-append, length-map}
use Rattle.std.proofs.lemmas.List.Concat.{flat_map-cons}
use Rattle.std.proofs.lemmas.List.Sums.{sum_by-cons}
use Rattle.spec_script.specs.declared.syntax.Script.{Script}
use Rattle.spec_run.specs.declared.memory.Memo.TheVariants.{Nothing}
use Rattle.spec_run.specs.declared.memory.Memory.{Memory, Memory-F, out-roll-Memory}
use Rattle.spec_run.specs.declared.status.Status.TheVariants.{Idle}
use Rattle.spec_tree.specs.declared.term.Kind.{Kind}
use Rattle.spec_tree.specs.declared.term.Kind.TheVariants.{SequenceWithMemory, Switch, RoundRobin, ScriptNode, ScriptCondition, Leaf}
use Rattle.spec_tree.specs.declared.term.Term.{Term, Term-F, fold-roll-Term}
use Rattle.spec_tree.specs.declared.term.Term.TheFolds.{map-Term}
use Rattle.spec_world.specs.declared.world.Row.{Row}
use Rattle.spec_tree.specs.BuiltIns.{has_code, takes}
use Rattle.spec_run.specs.Sites.{Meaning, sizes}
use Rattle.spec_tree.specs.Terms.{leaf_ids, own_leaf_id}
use Rattle.spec_tree.specs.Trees.{CodeFits, IdFits, Node, NodeFits, nodes_of, nodes_step}
use Rattle.spec_run.specs.Visit.{idle, meaning}
use Rattle.base_tables.proofs.Runnable.{few_named}
use Rattle.spec_dead.specs.declared.answers.Answers.{Answers}
use Rattle.spec_dead.specs.Dead.{Outlook, marks_below, outlook, reaches_child}
use Rattle.tree_dead.specs.Runs.{HasRow}
use Rattle.tree_dead.proofs.Fits.{Claims, FewCases, HasCode, HasOwnRow, NodeStands, StandAll, Stands, about_of, may_visit, stands_of_node}
use Rattle.run_laws.proofs.Induction.{above, idle_of_terms, map_twice, node_means}
use Rattle.tree_dead.proofs.Induction.{every_term, node_outlook}
use Rattle.tree_dead.proofs.Picks.{nothing_rests}

-- ---- What a node has for its rule

code_there : (kind : Kind) (code : Option Script) → CodeFits (has_code kind) code → HasCode kind code
code_there ScriptNode None fits = absurd fits
code_there ScriptNode (Some code) fits = tt
code_there ScriptCondition None fits = absurd fits
code_there ScriptCondition (Some code) fits = tt
code_there _ code fits = tt

own_row : (rows : List Row) (kind : Kind) (id : List ℕ) (ids : List (List ℕ)) → AllByRecursion (HasRow rows) (own_leaf_id kind id ++ ids) → HasOwnRow kind rows id
own_row rows Leaf id ids all = all.0
own_row rows _ id ids all = tt

-- the IDs of the leaves below a node
rows_below : (rows : List Row) (kind : Kind) (id : List ℕ) (ids : List (List ℕ)) → AllByRecursion (HasRow rows) (own_leaf_id kind id ++ ids) → AllByRecursion (HasRow rows) ids
rows_below rows Leaf id ids all = all.1
rows_below rows _ id ids all = all

few_cases : (kind : Kind) (id : List ℕ) (children : ℕ) → IdFits kind id → IsTrue (takes kind children) → FewCases kind children
few_cases (Switch cases) id children named few = let most : cases ≤ 6 = few_named (Switch cases) id named in (omega (arith, most), eqb-true children (cases + 1) few)
few_cases SequenceWithMemory id children named few = let some : 1 ≤ children = leb-true 1 children few in omega (arith, some)
few_cases RoundRobin id children named few = let some : 1 ≤ children = leb-true 1 children few in omega (arith, some)
few_cases _ id children named few = tt

front_all : {X : Type 0} (P : X → Type 0) (xs ys : List X) → AllByRecursion P (xs ++ ys) → AllByRecursion P xs
front_all P [] ys all = tt
front_all P (x ∷ xs) ys all = (all.0, front_all P xs ys all.1)

back_all : {X : Type 0} (P : X → Type 0) (xs ys : List X) → AllByRecursion P (xs ++ ys) → AllByRecursion P ys
back_all P [] ys all = all
back_all P (x ∷ xs) ys all = back_all P xs ys all.1

module _ (is_dead : ℕ → Bool) (rows : List Row) where
  -- nodes are dead or not as marks say, of which the first is that of this uid
  abbrev pub AreMarked : ℕ → List Bool → Type 0
  AreMarked uid marks = (k : ℕ) → k < length marks → is_dead (uid + k) ≡ not (slice_index_or marks k true)

  marked_front : (uid : ℕ) (xs ys : List Bool) → AreMarked uid (xs ++ ys) → AreMarked uid xs
  marked_front uid xs ys are = λ k within. are k (omega (arith, within, length-append xs ys)) ∙ ap not (get_or_append_left xs ys true k within)

  pub marked_back : (uid n : ℕ) (xs ys : List Bool) → length xs ≡ n → AreMarked uid (xs ++ ys) → AreMarked (uid + n) ys
  marked_back uid n xs ys many are = λ k within.
      let there : uid + n + k ≡ uid + (length xs + k) = omega (arith, many) in
      ap is_dead there ∙ are (length xs + k) (omega (arith, within, length-append xs ys)) ∙ ap not (get_or-append-add xs ys k true)

  -- what holds of a term: it has a mark for each node, and it stands before its first visit
  pub record Opens (t : Term) (c : Meaning) (o : Outlook) (stands : Claims is_dead rows) : Type 0 where
    pub many : (reached : Bool) → length (o.marks reached) ≡ c.size
    pub opens : AllByRecursion NodeFits (nodes_of t) → AllByRecursion (HasRow rows) (leaf_ids t) → (reached : Bool) (uid : ℕ) → AreMarked uid (o.marks reached) → stands reached uid (idle t)

  module _ {X : Type 0} (term : X → Term) (opens : (c : X) → Opens (term c) (meaning (term c)) (outlook (term c)) (Stands is_dead rows (term c))) where
    abbrev outlooks : List X → List Outlook
    outlooks cs = map (λ c. outlook (term c)) cs

    many_below : (visits : ℕ → Bool) (place : ℕ) (cs : List X) → length (marks_below visits place (outlooks cs)) ≡ sizes (map (λ c. meaning (term c)) cs)
    many_below visits place [] = refl
    many_below visits place (c ∷ cs) =
        let parts : sizes (map (λ d. meaning (term d)) (c ∷ cs)) ≡ (meaning (term c)).size + sizes (map (λ d. meaning (term d)) cs) = sum_by-cons (λ (k : Meaning). k.size) (meaning (term c)) (map (λ d. meaning (term d)) cs) in
        omega (arith, parts, length-append ((outlook (term c)).marks (visits place)) (marks_below visits (place + 1) (outlooks cs)), (opens c).many (visits place), many_below visits (place + 1) cs)

    abbrev nodes_below : List X → List Node
    nodes_below cs = flat_map (λ (nodes : List Node). nodes) (map nodes_of (map term cs))

    abbrev ids_below : List X → List (List ℕ)
    ids_below cs = flat_map (λ (ids : List (List ℕ)). ids) (map leaf_ids (map term cs))

    all_open : (visits : ℕ → Bool) (cs : List X) (uid place : ℕ) → AllByRecursion NodeFits (nodes_below cs) → AllByRecursion (HasRow rows) (ids_below cs) → AreMarked uid (marks_below visits place (outlooks cs)) →
        StandAll is_dead rows (λ c. (meaning (term c)).size) (λ c. Stands is_dead rows (term c)) visits cs uid place (map (λ c. idle (term c)) cs)
    all_open visits [] uid place fit there are = tt
    all_open visits (c ∷ cs) uid place fit there are =
        let fit_parts : AllByRecursion NodeFits (nodes_of (term c) ++ nodes_below cs) = subst (λ ns. AllByRecursion NodeFits ns) (flat_map-cons (λ (nodes : List Node). nodes) (nodes_of (term c)) (map nodes_of (map term cs))) fit in
        let row_parts : AllByRecursion (HasRow rows) (leaf_ids (term c) ++ ids_below cs) = subst (λ ids. AllByRecursion (HasRow rows) ids) (flat_map-cons (λ (ids : List (List ℕ)). ids) (leaf_ids (term c)) (map leaf_ids (map term cs))) there in (
          (opens c).opens (front_all NodeFits (nodes_of (term c)) (nodes_below cs) fit_parts) (front_all (HasRow rows) (leaf_ids (term c)) (ids_below cs) row_parts) (visits place) uid
              (marked_front uid ((outlook (term c)).marks (visits place)) (marks_below visits (place + 1) (outlooks cs)) are),
          all_open visits cs (uid + (meaning (term c)).size) (place + 1) (back_all NodeFits (nodes_of (term c)) (nodes_below cs) fit_parts) (back_all (HasRow rows) (leaf_ids (term c)) (ids_below cs) row_parts)
              (marked_back uid (meaning (term c)).size ((outlook (term c)).marks (visits place)) (marks_below visits (place + 1) (outlooks cs)) ((opens c).many (visits place)) are),
        )

    node_opens : (node : Term-F X) → Opens (above term node) (node_means term node) (node_outlook term node) (stands_of_node is_dead rows X term (λ c. Stands is_dead rows (term c)) node)
    node_opens node =
        let ms : List Memory = map (λ c. idle (term c)) node.children in
        let answers : List Answers = map (λ c. (outlook (term c)).answers) node.children in
        let node_out : Term-F Outlook = map-Term X Outlook (λ c. outlook (term c)) node in
        record {
          many = λ reached. let below = many_below (reaches_child reached node_out) 0 node.children in omega (arith, below);
          opens = λ fit there reached uid are.
              let fits : AllByRecursion NodeFits (nodes_step (map-Term Term (List Node) nodes_of (map-Term X Term term node))) = subst (λ ns. AllByRecursion NodeFits ns) (fold-roll-Term (List Node) nodes_step (map-Term X Term term node)) fit in
              let ids : AllByRecursion (HasRow rows) (own_leaf_id node.kind node.id ++ ids_below node.children) = subst (λ xs. AllByRecursion (HasRow rows) xs) (fold-roll-Term (List (List ℕ)) (λ n. own_leaf_id n.kind n.id ++ flat_map (λ (xs : List (List ℕ)). xs) n.children) (map-Term X Term term node)) there in
              let same_number : length (map nodes_of (map term node.children)) ≡ length answers = length-map (map term node.children) nodes_of ∙ length-map node.children term ∙ sym (length-map node.children (λ c. (outlook (term c)).answers)) in
              let here : uid + 0 ≡ uid = omega arith in
              let visits_same : (λ place. reaches_child reached node_out place) ≡ may_visit (about_of is_dead rows node answers) reached = ap (λ (xs : List Answers). may_visit (about_of is_dead rows node xs) reached) (sym (map_twice (λ c. outlook (term c)) (λ (o : Outlook). o.answers) node.children)) in
              subst (λ (m : Memory). stands_of_node is_dead rows X term (λ c. Stands is_dead rows (term c)) node reached uid m) (sym (idle_of_terms term node))
              (subst (λ (x : Memory-F Memory). NodeStands is_dead rows (about_of is_dead rows node answers) reached uid x.status x.memo
              × StandAll is_dead rows (λ c. (meaning (term c)).size) (λ c. Stands is_dead rows (term c)) (may_visit (about_of is_dead rows node answers) reached) node.children (uid + 1) 0 x.children)
              (sym (out-roll-Memory (record { status = Idle; memo = Nothing; children = ms }))) (
                record {
                  lives = λ e. ap is_dead (sym here) ∙ are 0 (omega arith) ∙ ap not e;
                  able = record {
                    code = code_there node.kind node.code fits.0.code;
                    row = own_row rows node.kind node.id (ids_below node.children) ids;
                    children = subst (λ (k : ℕ). FewCases node.kind k) same_number (few_cases node.kind node.id (length (map nodes_of (map term node.children))) fits.0.id fits.0.children);
                  };
                  state = record { rests = λ e. refl; goes_on = λ e. cc; kept = nothing_rests node.kind answers };
                },
                subst (λ (visits : ℕ → Bool). StandAll is_dead rows (λ c. (meaning (term c)).size) (λ c. Stands is_dead rows (term c)) visits node.children (uid + 1) 0 ms) visits_same
                    (all_open (reaches_child reached node_out) node.children (uid + 1) 0 fits.1 (rows_below rows node.kind node.id (ids_below node.children) ids)
                    (marked_back uid 1 (reached ∷ []) (marks_below (reaches_child reached node_out) 0 (outlooks node.children)) refl are)),
              ));
        }

  pub term_opens : (t : Term) → Opens t (meaning t) (outlook t) (Stands is_dead rows t)
  term_opens = every_term is_dead rows Opens (λ X term opens node. node_opens term opens node)
