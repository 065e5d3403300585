-- The nodes that are not marked are IDLE.
use Rattle.std.proofs.Common.{◌≡◌, ℕ, zero, suc, ◌+◌, ◌-◌, ◌<◌, List, [], ◌∷◌, ◌++◌, length, map, slice_index_or, Bool, true, false, refl, sym, ap, subst, ◌∙◌, arith, flat_map, ⊎_elim}
use Rattle.std.proofs.lemmas.Bool.{cases_lt}
use Rattle.std.proofs.lemmas.List.{get_or_append_left, get_or-append_right, length-append}
use Rattle.std.proofs.lemmas.List.Concat.{flat_map-cons}
use Rattle.std.proofs.lemmas.List.Sums.{sum_by-cons}
use Rattle.spec_run.specs.declared.memory.Memory.{Memory, out-Memory, fold_out-Memory}
use Rattle.spec_run.specs.declared.status.Status.{Status}
use Rattle.spec_run.specs.declared.status.Status.TheVariants.{Idle}
use Rattle.spec_tree.specs.declared.term.Term.{Term, Term-F}
use Rattle.spec_tree.specs.declared.term.Term.TheFolds.{map-Term}
use Rattle.spec_world.specs.declared.world.Row.{Row}
use Rattle.spec_run.specs.Sites.{Meaning, sizes}
use Rattle.spec_run.specs.Visit.{meaning}
use Rattle.spec_dead.specs.declared.answers.Answers.{Answers}
use Rattle.spec_dead.specs.Dead.{Outlook, marks_below, outlook, reaches_child}
use Rattle.tree_dead.specs.Runs.{statuses_in, statuses_step}
use Rattle.tree_dead.proofs.Fits.{Claims, StandAll, Stands, about_of, may_visit, stands_of_node}
use Rattle.run_laws.proofs.Induction.{above, map_twice, node_means}
use Rattle.tree_dead.proofs.Induction.{every_term, node_outlook}
use Rattle.tree_dead.proofs.Opening.{term_opens}

-- the statuses of the nodes of some memories
abbrev statuses_below : List Memory → List Status
statuses_below ms = flat_map (λ (ss : List Status). ss) (map statuses_in ms)

statuses_of_node : (m : Memory) → statuses_in m ≡ (out-Memory m).status ∷ statuses_below (out-Memory m).children
statuses_of_node m = fold_out-Memory (List Status) statuses_step m

statuses_cons : (m : Memory) (ms : List Memory) → statuses_below (m ∷ ms) ≡ statuses_in m ++ statuses_below ms
statuses_cons m ms = flat_map-cons (λ (ss : List Status). ss) (statuses_in m) (map statuses_in ms)

module _ (is_dead : ℕ → Bool) (rows : List Row) where
  -- the memory of a term has a status for each node, and the nodes that are not marked are IDLE
  pub record Shows (t : Term) (c : Meaning) (o : Outlook) (stands : Claims is_dead rows) : Type 0 where
    pub many : (reached : Bool) (uid : ℕ) (m : Memory) → stands reached uid m → length (statuses_in m) ≡ c.size
    pub rests : (reached : Bool) (uid : ℕ) (m : Memory) → stands reached uid m → (k : ℕ) → slice_index_or (o.marks reached) k true ≡ false → slice_index_or (statuses_in m) k Idle ≡ Idle

  module _ {X : Type 0} (term : X → Term) (shows : (c : X) → Shows (term c) (meaning (term c)) (outlook (term c)) (Stands is_dead rows (term c))) where
    abbrev AllStand : (ℕ → Bool) → List X → ℕ → ℕ → List Memory → Type 0
    AllStand visits cs uid place ms = StandAll is_dead rows (λ c. (meaning (term c)).size) (λ c. Stands is_dead rows (term c)) visits cs uid place ms

    abbrev outlooks : List X → List Outlook
    outlooks cs = map (λ c. outlook (term c)) cs

    many_below : (visits : ℕ → Bool) (cs : List X) (uid place : ℕ) (ms : List Memory) → AllStand visits cs uid place ms → length (statuses_below ms) ≡ sizes (map (λ c. meaning (term c)) cs)
    many_below visits [] uid place [] all = refl
    many_below visits [] uid place (m ∷ ms) all = absurd all
    many_below visits (c ∷ cs) uid place [] all = absurd all
    many_below visits (c ∷ cs) uid place (m ∷ ms) all =
        let parts : sizes (map (λ d. meaning (term d)) (c ∷ cs)) ≡ (meaning (term c)).size + sizes (map (λ d. meaning (term d)) cs) = sum_by-cons (λ (k : Meaning). k.size) (meaning (term c)) (map (λ d. meaning (term d)) cs) in
        omega (arith, parts, ap length (statuses_cons m ms), length-append (statuses_in m) (statuses_below ms), (shows c).many (visits place) uid m all.0, many_below visits cs (uid + (meaning (term c)).size) (place + 1) ms all.1)

    rest_below : (visits : ℕ → Bool) (cs : List X) (uid place : ℕ) (ms : List Memory) → AllStand visits cs uid place ms → (k : ℕ) → slice_index_or (marks_below visits place (outlooks cs)) k true ≡ false →
        slice_index_or (statuses_below ms) k Idle ≡ Idle
    rest_below visits [] uid place ms all k unmarked = cc
    rest_below visits (c ∷ cs) uid place [] all k unmarked = absurd all
    rest_below visits (c ∷ cs) uid place (m ∷ ms) all k unmarked =
        let marks : List Bool = (outlook (term c)).marks (visits place) in
        let others : List Bool = marks_below visits (place + 1) (outlooks cs) in
        let size : ℕ = (meaning (term c)).size in
        let marked : length marks ≡ size = (term_opens is_dead rows (term c)).many (visits place) in
        let shown : length (statuses_in m) ≡ size = (shows c).many (visits place) uid m all.0 in
        ap (λ (ss : List Status). slice_index_or ss k Idle) (statuses_cons m ms)
        ∙ ⊎_elim
        (λ within. get_or_append_left (statuses_in m) (statuses_below ms) Idle k (let e : k < length (statuses_in m) = omega (arith, within, shown) in e)
        ∙ (shows c).rests (visits place) uid m all.0 k (sym (get_or_append_left marks others true k (let e : k < length marks = omega (arith, within, marked) in e)) ∙ unmarked))
        (λ past. get_or-append_right (statuses_in m) (statuses_below ms) size k Idle shown past
        ∙ rest_below visits cs (uid + size) (place + 1) ms all.1 (k - size) (sym (get_or-append_right marks others size k true marked past) ∙ unmarked))
        (cases_lt k size)

    node_shows : (node : Term-F X) → Shows (above term node) (node_means term node) (node_outlook term node) (stands_of_node is_dead rows X term (λ c. Stands is_dead rows (term c)) node)
    node_shows node =
        let answers : List Answers = map (λ c. (outlook (term c)).answers) node.children in
        let node_out : Term-F Outlook = map-Term X Outlook (λ c. outlook (term c)) node in
        record {
          many = λ reached uid m stands. let below = many_below (may_visit (about_of is_dead rows node answers) reached) node.children (uid + 1) 0 (out-Memory m).children stands.1 in omega (arith, ap length (statuses_of_node m), below);
          rests = λ reached uid m stands k unmarked.
              let visits_same : may_visit (about_of is_dead rows node answers) reached ≡ (λ place. reaches_child reached node_out place) = ap (λ (xs : List Answers). may_visit (about_of is_dead rows node xs) reached) (map_twice (λ c. outlook (term c)) (λ (o : Outlook). o.answers) node.children) in
              let all : AllStand (reaches_child reached node_out) node.children (uid + 1) 0 (out-Memory m).children = subst (λ (visits : ℕ → Bool). AllStand visits node.children (uid + 1) 0 (out-Memory m).children) visits_same stands.1 in
              ap (λ (ss : List Status). slice_index_or ss k Idle) (statuses_of_node m)
              ∙ at_place reached node_out (out-Memory m).status stands.0.state.rests (marks_below (reaches_child reached node_out) 0 (outlooks node.children)) (statuses_below (out-Memory m).children)
              (λ j. rest_below (reaches_child reached node_out) node.children (uid + 1) 0 (out-Memory m).children all j) k unmarked;
        }
      where
        at_place : (reached : Bool) (out : Term-F Outlook) (st : Status) → (reached ≡ false → st ≡ Idle) → (marks : List Bool) (ss : List Status) → ((j : ℕ) → slice_index_or marks j true ≡ false → slice_index_or ss j Idle ≡ Idle) →
            (k : ℕ) → slice_index_or (reached ∷ marks) k true ≡ false → slice_index_or (st ∷ ss) k Idle ≡ Idle
        at_place reached out st first marks ss below zero unmarked = first unmarked
        at_place reached out st first marks ss below (suc j) unmarked = below j unmarked

  pub term_shows : (t : Term) → Shows t (meaning t) (outlook t) (Stands is_dead rows t)
  term_shows = every_term is_dead rows Shows (λ X term shows node. node_shows term shows node)
