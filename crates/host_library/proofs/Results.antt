-- What is owned of a `Result` by value is owned of one of its variants. Assumes `Logic`.
use Rattle.std.proofs.Common.{◌≡◌, List, [], ◌∷◌, ◌++◌, refl, ap, ◌∙◌, subst}
use Rattle.std.specs.Prelude.{Result, Ok, Err}
use Rattle.std.specs.contracts.result.Result as RS
use mathlib.Core.Bool.{Bool, true, false, ◌&&◌}
use lib.Dec.{T}
use seplogic.Ra.Ura.{Ura}
use mir.Syntax.{Ty}
use mir.Val.{Val, vcons, vnil, of_list, has_ty, WT}
use types.Logic.{Logic}
use types.Kit.{Item, Goal, Seq, ‵, ◌$◌, move, drop, fsplit, fpick, feq_l, rewrite}
use types.Match.{live}
use denote.RattleType.{RattleType}
use denote.Laws.{Is, Lawful, Typed, shows}
use denote.Steps.{only, peeks}

abbrev pub Good : Ty → Val → Type 0
Good τ v = T (has_ty τ v) × WT v

pub and_tt : (b : Bool) → T b → T (b && true)
and_tt true t = tt
and_tt false t = absurd t

-- values of one type are one value
alone : (τ : Ty) (vs : List Val) → Typed (τ ∷ []) vs → (v : Val) × (vs ≡ v ∷ []) × Good τ v
alone τ [] t = absurd t
alone τ (v ∷ []) t = (v, refl, t.0)
alone τ (v ∷ w ∷ vs) t = absurd t.1

module _ (R R' : RattleType) (τ τ' : Ty) (one : R.mir ≡ τ ∷ []) (one' : R'.mir ≡ τ' ∷ []) {M : Type 1} {𝓤 : Ura M} (𝓛 : Logic 𝓤) (L : Lawful 𝓛 R) (L' : Lawful 𝓛 R') {K : Type 0} {Γ : List (Item 𝓤)} {G : Goal 𝓤 𝓛.H} where
  pub result_out : K → (r : Result R.Denot R'.Denot) (v : Val)
      → ((x : R.Denot) (u : Val) → r ≡ Ok x → v ≡ live 0 (vcons u vnil) → Good τ u → Seq K 𝓛 (‵ (R.own_val x (u ∷ [])) ∷ Γ) G)
      → ((x : R'.Denot) (u : Val) → r ≡ Err x → v ≡ live 1 (vcons u vnil) → Good τ' u → Seq K 𝓛 (‵ (R'.own_val x (u ∷ [])) ∷ Γ) G)
      → Seq K 𝓛 (‵ ((RS.the_row R R').own_val r (v ∷ [])) ∷ Γ) G
  result_out t (Ok x) v ok err =
      fpick t (λ us. fsplit t $ feq_l t (λ e. fpick t (λ vss. fsplit t $ feq_l t (λ f. fsplit t $ peeks t R (Is R) (shows 𝓛 R) x vss.0 (λ is.
      let a = alone τ vss.0 (subst (λ (ρs : List Ty). Typed ρs vss.0) one (L.typed x vss.0 is)) in
      rewrite t 0 (λ (ws : List Val). ‵ (R.own_val x ws)) a.1 refl $ move t (1 ∷ []) $ drop t $
      ok x a.0 refl (ap only e ∙ ap (λ (ws : List Val). live 0 (of_list ws)) (f ∙ ap (λ (ws : List Val). ws ++ []) a.1)) a.2)))))
  result_out t (Err x) v ok err =
      fpick t (λ us. fsplit t $ feq_l t (λ e. fpick t (λ vss. fsplit t $ feq_l t (λ f. fsplit t $ peeks t R' (Is R') (shows 𝓛 R') x vss.0 (λ is.
      let a = alone τ' vss.0 (subst (λ (ρs : List Ty). Typed ρs vss.0) one' (L'.typed x vss.0 is)) in
      rewrite t 0 (λ (ws : List Val). ‵ (R'.own_val x ws)) a.1 refl $ move t (1 ∷ []) $ drop t $
      err x a.0 refl (ap only e ∙ ap (λ (ws : List Val). live 1 (of_list ws)) (f ∙ ap (λ (ws : List Val). ws ++ []) a.1)) a.2)))))
