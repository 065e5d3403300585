-- What is opened of a tree whose leaves are all told what they answer, and what C is told of an opening.
use Rattle.std.proofs.Common.{◌≡◌, ◌⊎◌, ℕ, List, [], ◌∷◌, Bool, true, false, Option, Ok, Err, inl, inr, refl, sym, subst}
use Rattle.std.specs.Prelude.{Result}
use Rattle.std.specs.Global.{Global}
use Rattle.std.specs.declared.boxed.Box.{Box}
use Rattle.base_texts.specs.Stops.{Gives}
use Rattle.base_texts.specs.declared.stop.Stop.{Stop}
use Rattle.base_texts.specs.declared.stop.Stop.TheVariants as stop
use Rattle.cli_refusals.specs.declared.refusal.Refusal.{Refusal}
use Rattle.cli_refusals.specs.declared.refusal.Refusal.TheVariants as refusal
use Rattle.cli_serve.specs.Rows.{IsTreeOf, MadeOf, ToldWorld}
use Rattle.spec_program.specs.declared.tree_fault.TreeFault.TheVariants as fault
use Rattle.spec_program.specs.Gives.{is_too_long}
use Rattle.spec_program.specs.TreeFiles.{TreeReads}
use Rattle.spec_run.specs.Joins.{lack_of}
use Rattle.spec_session.specs.declared.open_fault.OpenFault.{OpenFault}
use Rattle.spec_session.specs.declared.open_fault.OpenFault.TheVariants as open_fault
use Rattle.spec_session.specs.Opening.{joined, new_drivers}
use Rattle.spec_session.specs.Sessions.{Sitting}
use Rattle.spec_tree.specs.declared.term.Tree.{Tree}
use Rattle.spec_tree_file.specs.declared.element.ElementFault.{ElementFault}
use Rattle.spec_tree_file.specs.ElementFaults.{ElementFaultOf}
use Rattle.spec_world.specs.declared.world.World.{World}
use Rattle.tree_elements.proofs.Verdicts.{not_both}
use Rattle.world_reader.specs.Readings as readings
use Rattle.host_session.proofs.Files.{when_not}
use Rattle.host_library.specs.declared.hosted.Hosted.{Hosted}
use Rattle.host_library.specs.Opening.{Explained, Given, OpensIn, OpensTold, ToldOpens, main_of, refused_as, session_of, told_stop}
use Rattle.host_library.specs.Texts.{TextTold}

-- the world of its told rows is joined with the tree
pub joined_told : (bytes : List ℕ) (tree : Tree) (world : World) (given : Result Sitting (Stop OpenFault)) → MadeOf bytes tree.term (Ok world)
    → Gives given (joined (lack_of tree world new_drivers) tree world) → readings.Gives given (ToldOpens (Ok tree) bytes)
joined_told bytes tree world (Ok s) made is = (Ok world, made, sym is)
joined_told bytes tree world (Err stop.NoMemory) made is = tt
joined_told bytes tree world (Err (stop.Fault f)) made is = (Ok world, made, sym is)

-- a file that reads as a tree has no fault of its elements
no_fault : (bytes : List ℕ) (tree : Tree) (f : ElementFault) → IsTreeOf bytes tree → ElementFaultOf bytes f → ⊥
no_fault bytes tree f (main, inl (e, spells, is)) found = not_both bytes e f spells found
no_fault bytes tree f (main, inr (g, found_too, is)) found = absurd (cc)

-- there is no such world
pub refused_told : (bytes : List ℕ) (tree : Tree) (r : Refusal) → IsTreeOf bytes tree → ToldWorld (Err r) bytes tree.term
    → readings.Gives (Err (told_stop r)) (ToldOpens (Ok tree) bytes)
refused_told bytes tree (refusal.World f) of told = (Err f, told, refl)
refused_told bytes tree (refusal.Tree (fault.Elements f)) of told = absurd (no_fault bytes tree f of told)
refused_told bytes tree (refusal.Tree (fault.Manifest f)) of told = absurd told
refused_told bytes tree (refusal.Tree (fault.Build f)) of told = absurd told
refused_told bytes tree refusal.NoMemory of told = tt
refused_told bytes tree refusal.Words of told = absurd told
refused_told bytes tree (refusal.Unread which) of told = absurd told
refused_told bytes tree (refusal.TooLong which) of told = absurd told
refused_told bytes tree (refusal.Join f) of told = absurd told
refused_told bytes tree refusal.NoGoal of told = absurd told
refused_told bytes tree (refusal.Rules f) of told = absurd told
refused_told bytes tree (refusal.Expect f) of told = absurd told
refused_told bytes tree (refusal.Ground f) of told = absurd told

-- a file that is not too long, and is read
pub read_told : (main : Option (List ℕ)) (bytes : List ℕ) (tree : Tree) (given : Result Sitting (Stop OpenFault)) → is_too_long bytes ≡ false
    → TreeReads main bytes (Ok tree) → readings.Gives given (ToldOpens (Ok tree) bytes) → readings.Gives given (OpensTold main bytes)
read_told main bytes tree (Ok s) short reads told = when_not _ _ (is_too_long bytes) short (Ok tree, reads, told)
read_told main bytes tree (Err stop.NoMemory) short reads told = tt
read_told main bytes tree (Err (stop.Fault f)) short reads told = when_not _ _ (is_too_long bytes) short (Ok tree, reads, told)

-- it is opened
pub ok_given : (tree world main : List ℕ) (is_text : Bool) (hosted : Hosted) → is_text ≡ true → OpensIn (main_of main) tree world (Ok hosted.session)
    → hosted.outs.items ≡ [] → Given is_text tree world main (Ok hosted)
ok_given tree world main is_text hosted so opens none = subst (λ (b : Bool). Given b tree world main (Ok hosted)) (sym so) (opens, none)

-- it is refused
pub refused_given : (tree world main : List ℕ) (is_text : Bool) (given : Result (Box Hosted Global) (Stop OpenFault)) (f : OpenFault) → is_text ≡ true
    → given ≡ Err (stop.Fault f) → readings.Gives (session_of given) (OpensIn (main_of main) tree world) → Given is_text tree world main (Err 4)
refused_given tree world main is_text given f so is opens =
    let refused = subst (λ (g : Result (Box Hosted Global) (Stop OpenFault)). readings.Gives (session_of g) (OpensIn (main_of main) tree world)) is opens in
    subst (λ (b : Bool). Given b tree world main (Err 4)) (sym so) (inl (refl, f, refused))

-- a room into which nothing was put
untouched : (room : List ℕ) → TextTold [] room 0 room
untouched [] = (refl, refl)
untouched (b ∷ room) = (refl, refl)

-- nothing is told
pub unsaid : (tree world main room : List ℕ) (is_text : Bool) → Explained is_text tree world main room 0 room
unsaid tree world main room true = inr (untouched room)
unsaid tree world main room false = untouched room

-- why files are refused, as far as there is memory for its line
pub said_why : (tree world main room after : List ℕ) (size : ℕ) (is_text : Bool) (given : Result Sitting (Stop OpenFault)) (f : OpenFault) → is_text ≡ true
    → given ≡ Err (stop.Fault f) → readings.Gives given (OpensIn (main_of main) tree world)
    → TextTold (refused_as f).bytes room size after ⊎ TextTold [] room size after → Explained is_text tree world main room size after
said_why tree world main room after size is_text given f so is opens (inl told) =
    let refused = subst (λ (g : Result Sitting (Stop OpenFault)). readings.Gives g (OpensIn (main_of main) tree world)) is opens in
    subst (λ (b : Bool). Explained b tree world main room size after) (sym so) (inl (f, refused, told))
said_why tree world main room after size is_text given f so is opens (inr nothing) =
    subst (λ (b : Bool). Explained b tree world main room size after) (sym so) (inr nothing)
