-- What the bytes of a tree file and of a world script open for a program in C, which may give no world.
use Rattle.std.specs.Prelude.{◌≡◌, ◌⊎◌, ℕ, List, [], ◌∷◌, Bool, true, false, MatchBool, Option, Some, None, Result, Ok, Err, IfErr}
use denote.RawPtr.{Ptr}
use Rattle.std.specs.Global.{Global}
use Rattle.std.specs.declared.boxed.Box.{Box}
use Rattle.base_texts.specs.declared.stop.Stop.{Stop}
use Rattle.base_texts.specs.declared.stop.Stop.TheVariants as stop
use Rattle.cli_refusals.specs.declared.refusal.Refusal.{Refusal}
use Rattle.cli_refusals.specs.declared.refusal.Refusal.TheVariants as refusal
use Rattle.cli_serve.specs.Rows.{MadeOf}
use Rattle.spec_program.specs.declared.file.File.TheVariants as file
use Rattle.spec_program.specs.declared.tree_fault.TreeFault.{TreeFault}
use Rattle.spec_program.specs.Output.{Output}
use Rattle.spec_program.specs.RefusalOutputs.{join_refused, too_long, tree_refused, world_refused}
use Rattle.spec_program.specs.Gives.{is_too_long}
use Rattle.spec_program.specs.TreeFiles.{TreeReads}
use Rattle.spec_session.specs.declared.open_fault.OpenFault.{OpenFault}
use Rattle.spec_session.specs.declared.open_fault.OpenFault.TheVariants as fault
use Rattle.spec_session.specs.Opening.{Opens, world_opens}
use Rattle.spec_session.specs.Sessions.{Sitting}
use Rattle.spec_tree.specs.declared.term.Tree.{Tree}
use Rattle.spec_world.specs.declared.world.World.{World}
use Rattle.spec_world_file.specs.declared.world_fault.WorldFault.{WorldFault}
use Rattle.host_library.specs.declared.hosted.Hosted.{Hosted}
use Rattle.host_library.specs.Codes.{misuse, no_memory, ok, refused}
use Rattle.host_library.specs.Texts.{TextTold}

-- the main tree that is asked for by these bytes; by no bytes none is
abbrev pub main_of : List ℕ → Option (List ℕ)
main_of [] = None
main_of (b ∷ bytes) = Some (b ∷ bytes)

-- what a tree file reads as opens this without a world script: the session in the world of its told rows
abbrev pub ToldOpens : Result Tree TreeFault → List ℕ → Result Sitting OpenFault → Type 0
ToldOpens (Ok tree) bytes sitting = (made : Result World WorldFault) × MadeOf bytes tree.term made × (sitting ≡ world_opens made tree)
ToldOpens (Err f) bytes sitting = sitting ≡ Err (fault.Tree f)

-- the bytes of a tree file open this without a world script
abbrev pub OpensTold : Option (List ℕ) → List ℕ → Result Sitting OpenFault → Type 0
OpensTold main tree sitting =
    MatchBool (is_too_long tree) (sitting ≡ Err fault.TreeTooLong)
    ((read : Result Tree TreeFault) × TreeReads main tree read × ToldOpens read tree sitting)

-- the bytes of a tree file and of a world script open this; no bytes of a world script say that there is none
abbrev pub OpensIn : Option (List ℕ) → List ℕ → List ℕ → Result Sitting OpenFault → Type 0
OpensIn main tree [] sitting = OpensTold main tree sitting
OpensIn main tree (b ∷ world) sitting = Opens main tree (b ∷ world) sitting

-- why a tree opens no session whose leaves are all told what they answer; what refuses no file is want of memory
abbrev pub told_stop : Refusal → Stop OpenFault
told_stop (refusal.World f) = stop.Fault (fault.World f)
told_stop (refusal.Tree f) = stop.Fault (fault.Tree f)
told_stop _ = stop.NoMemory

-- the session in the block of its own that was opened
abbrev pub session_of : Result (Box Hosted Global) (Stop OpenFault) → Result Sitting (Stop OpenFault)
session_of (Ok hosted) = Ok hosted.value.session
session_of (Err stopped) = Err stopped

-- the session that is handed out in a block of its own, or the code of why there is none
abbrev pub given_of : Result (Box Hosted Global) ℕ → Result Hosted ℕ
given_of (Ok hosted) = Ok hosted.value
given_of (Err code) = Err code

-- this is handed out of the opening with a main tree that is asked for by UTF-8, or by other bytes: the session that the bytes open, with no outputs for the next telling, or the code of why there is none
abbrev pub Given : Bool → List ℕ → List ℕ → List ℕ → Result Hosted ℕ → Type 0
Given false tree world main (Ok hosted) = ⊥
Given false tree world main (Err code) = code ≡ misuse
Given true tree world main (Ok hosted) = OpensIn (main_of main) tree world (Ok hosted.session) × (hosted.outs.items ≡ [])
Given true tree world main (Err code) = ((code ≡ refused) × (f : OpenFault) × OpensIn (main_of main) tree world (Err f)) ⊎ (code ≡ no_memory)

-- the code of what is handed out
abbrev pub opened_code : Result Hosted ℕ → ℕ
opened_code (Ok hosted) = ok
opened_code (Err code) = code

-- C is told this of an opening: the code of what is handed out; and where that is nothing, the pointer is as it was
abbrev pub OpenTold : Bool → List ℕ → List ℕ → List ℕ → Ptr → Ptr → Result Hosted ℕ → ℕ → Type 0
OpenTold is_text tree world main before after given code = (code ≡ opened_code given) × IfErr given (λ _. after ≡ before) × Given is_text tree world main given

-- what a command prints whose files are refused so
abbrev pub refused_as : OpenFault → Output
refused_as fault.TreeTooLong = too_long file.Tree
refused_as fault.WorldTooLong = too_long file.World
refused_as (fault.Tree f) = tree_refused f
refused_as (fault.World f) = world_refused f
refused_as (fault.Join f) = join_refused f

-- C is told this of why the files are refused: the line of a command that refuses them, where they are, or nothing where they are not or memory ran out; and nothing of a main tree that is asked for by no UTF-8
abbrev pub Explained : Bool → List ℕ → List ℕ → List ℕ → List ℕ → ℕ → List ℕ → Type 0
Explained false tree world main room size after = TextTold [] room size after
Explained true tree world main room size after =
    ((f : OpenFault) × OpensIn (main_of main) tree world (Err f) × TextTold (refused_as f).bytes room size after) ⊎ TextTold [] room size after
