-- The drop of a `Hosted`, as the glue that a call at its type is given.
use mathlib.Core.List.{[], ◌∷◌}
use mathlib.Core.Path.{refl}
use seplogic.Ra.Ura.{Ura}
use mir.Raw.{raw as bare}
use mir.Syntax.{Dict, impl, method, tnil, dnil}
use prog.Model.{Model}
use prog.Wired.{Wired}
use types.Logic.{Logic}
use contract.Running.{Running}
use borrow.Fn.Glue.{glue_by, glue_ps}
use borrow.Fn.Impl.{method_Known, via_longer}
use borrow.Fn.Kinds.{ended_of, stays, r_unit}
use borrow.Fn.Run.{Over}
use denote.Exit.{no}
use denote.Memory.{lone}
use denote.Param.{arg, layouts}
use denote.Param.Glue.{Met}
use denote.Param.Laws.{Laws, arg_laws}
use denote.RattleType.{RattleType}
use denote.Triple.Carry.{AllWithin}
use denote.Triple.Clauses.{Ended, Lasts, lasts, at_exit}
use denote.Triple.Walked.{Fit}
use Rattle.host_library.specs.contracts.hosted.Hosted.{the_row as R}
use Rattle.host_library.proofs.hosted.Hosted.TheLaws.{the_row_laws as laws}
use Rattle.host_library.proofs.host_library++hosted++Hosted+Destruct.drop.Kinds as kinds
use Rattle.host_library.proofs.host_library++hosted++Hosted+Destruct.drop.Reads as reads
use Rattle.host_library.proofs.host_library++hosted++Hosted+Destruct.drop.Met as dropped
use Rattle.host_library.proofs.host_library++hosted++Hosted+Destruct.drop.Symbol as symbol

abbrev pub Y : RattleType
Y = arg (bare (lone R.mir)) no R

abbrev pub Y-laws : Laws Y
Y-laws = arg_laws (bare (lone R.mir)) no R laws refl

abbrev pub drops : Dict
drops = impl ("host_library::host_library++hosted++Hosted+Destruct::drop" ∷ []) tnil dnil

abbrev E : Ended
E = ended_of 0 kinds.ps kinds.r

pub glued : {M : Type 1} (𝓤 : Ura M) (𝓛 : Logic 𝓤) (𝓜 : Model 𝓤 𝓛.H) (𝓡 : Running 𝓤 𝓛.H 𝓜) → Wired 𝓡.env symbol.code → Met 𝓛 𝓜 𝓡 𝓡.env Y drops
glued {M} 𝓤 𝓛 𝓜 𝓡 w =
    glue_by Y Y-laws (record { M = M; 𝓤 = 𝓤; 𝓛 = 𝓛; 𝓜 = 𝓜; 𝓡 = 𝓡 }) drops 𝓡.env
    (λ κs a. Lasts E tt a) (λ κs a. lasts E tt a) (λ κs a x ws. Fit E (stays kinds.ps) tt a ws × reads.Learnt tt a x (at_exit E tt a ws))
    (λ κs a. AllWithin 1 (κs.0, tt) (Y.lives, tt) × Unit {0}) 0 tt (λ κs a h. ((h, tt), tt))
    (via_longer 𝓛 (Over 𝓛 𝓜 𝓡 𝓡.env) 1 (glue_ps Y Y-laws) r_unit
    (λ κs a. Lasts E tt a) (λ κs a. lasts E tt a) (λ κs a x ws. Fit E (stays kinds.ps) tt a ws × reads.Learnt tt a x (at_exit E tt a ws))
    (λ κs a. AllWithin 1 (κs.0, tt) (Y.lives, tt) × Unit {0}) (method drops 0 (layouts [] tt)) 0 tt (λ κs. tt) (λ κs a. reads.Asked tt a) (λ κs a p. (tt, tt))
    (λ κs bd within a vss qs. method_Known 0 kinds.ps kinds.r reads.requires reads.ensures reads.Asked reads.Learnt reads.known (record { M = M; 𝓤 = 𝓤; 𝓛 = 𝓛; 𝓜 = 𝓜; 𝓡 = 𝓡 })
    symbol.name (method drops 0 (layouts [] tt)) (symbol.as_method 𝓡.env w (method drops 0 (layouts [] tt)) refl) (dropped.met 𝓤 𝓛 𝓜 𝓡 w) ((tt, qs, tt, a, vss), tt)))
