-- Every term keeps its rules.
use Rattle.std.proofs.Common.{◌≡◌, ℕ, sym, subst, List, [], None}
use Rattle.spec_run.specs.declared.memory.Memory.{Memory, out-Memory}
use Rattle.spec_run.specs.declared.status.Status.{Status}
use Rattle.spec_run.specs.declared.status.Status.TheVariants.{Running}
use Rattle.spec_tree.specs.declared.term.Term.{Term, Term-F}
use Rattle.spec_world.specs.declared.world.Row.{Row}
use Rattle.spec_tree.specs.Boards.{main_scope}
use Rattle.spec_run.specs.Done.{State}
use Rattle.spec_run.specs.Sites.{Meaning, View}
use Rattle.base_tables.specs.Sound.{Leaves, Sound, States, states_of_node}
use Rattle.spec_run.specs.Visit.{meaning, reset_by}
use Rattle.run_laws.proofs.Children.{Family, Keeps, status_in}
use Rattle.run_laws.proofs.Whole.{NodeKeeps, Own, fields_move, size_here}
use Rattle.run_laws.proofs.Beginnings.{site_here}
use Rattle.run_laws.proofs.Halts.{IsHalted, halt_leaves, halts, here_settles, reset_leaves}
use Rattle.run_laws.proofs.Visits.{visit_leaves}
use Rattle.run_laws.proofs.Induction.{above, every_term, node_means}

-- a view of some rows; the rules of states look at nothing else of it
abbrev pub only_rows : List Row → View
only_rows rows = record { rows = rows; facts = []; slots = []; scope = main_scope }

-- terms that keep their rules
abbrev pub family : {X : Type 0} (term : X → Term) → ((c : X) → Keeps (meaning (term c)) (Sound (term c))) → Family
family {X} term keeps = record { Child = X; meaning = λ c. meaning (term c); rules = λ c. Sound (term c); keeps = keeps }

node_keeps : (X : Type 0) (term : X → Term) → ((c : X) → Keeps (meaning (term c)) (Sound (term c))) → (node : Term-F X) → Keeps (node_means term node) (states_of_node X term (λ c. Sound (term c)) node)
node_keeps X term keeps node =
    let F : Family = family term keeps in
    record {
      moves = λ rows fault uid m s s1 sound same later. fields_move F node (only_rows rows) uid fault (out-Memory m).status (out-Memory m).memo (out-Memory m).children s s1 sound same later;
      settles = λ rows uid m s sound rests. here_settles F node (only_rows rows) uid m s sound rests;
      reset = λ view uid m s sound. reset_leaves F node view uid m s sound;
      visit = λ view uid m s sound. visit_leaves F node view uid (halts F node view uid) m s sound;
    }

pub term_keeps : (t : Term) → Keeps (meaning t) (Sound t)
term_keeps = every_term (λ t c rules. Keeps c rules) node_keeps

-- ---- Halts

-- a reset of a RUNNING term is a halt
abbrev pub HaltKeeps : Term → Meaning → States → Type 0
HaltKeeps t c rules =
    (view : View) (uid : ℕ) (m : Memory) (s : State) → rules view.rows None uid m s → status_in m ≡ Running →
    Leaves (λ f m1 s1. rules view.rows f uid m1 s1) (λ _ m1 s1. IsHalted m1) uid c.size s (c.reset view uid m s)

node_halts : (X : Type 0) (term : X → Term) (node : Term-F X) → HaltKeeps (above term node) (node_means term node) (states_of_node X term (λ c. Sound (term c)) node)
node_halts X term node =
    let F : Family = family term (λ c. term_keeps (term c)) in
    λ view uid m s sound is.
    let own : NodeKeeps F node view uid Running (out-Memory m).memo (out-Memory m).children s = subst (λ (st : Status). NodeKeeps F node view uid st (out-Memory m).memo (out-Memory m).children s) is sound.0 in
    subst (λ (st : Status). Leaves (λ f m1 s1. Own F node view uid f m1 s1) (λ _ m1 s1. IsHalted m1) uid (size_here F node view uid) s (reset_by st (site_here F node view uid) m s)) (sym is) (halt_leaves F node view uid m s own sound.1)

pub term_halts : (t : Term) → HaltKeeps t (meaning t) (Sound t)
term_halts = every_term HaltKeeps (λ X term halts node. node_halts X term node)
