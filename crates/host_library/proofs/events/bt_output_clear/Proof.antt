-- `bt_output_clear` lends the session for the one call that it makes, and has it back.
use Rattle.std.proofs.Common.{ℤ}
use Rattle.host_library.proofs.Steps.{ap, only, unit, unit_lit, vunit, feq_l, feq_i, ◌<◌, ◌^◌, ◌++◌, w32, w64, vint, ℕ, u32, u64, i64, usize, owned, uint_vals, uint_Tells, uint_Makes, uint_Lawful, sint_vals, sint_Tells, sint_Makes, of_z, of_z_fits, mag, hbits, [], ◌∷◌, refl, MutBor, proved, full_share, SProp, emp, sep, ex, ex_i, id⊢, fst∗, never, Lft, GName, ftrue, flft, flent, named, vptr, bare, fact, fact_i, tables, sem, ‵, raw, ◌⊛◌, some, later, prop, ◌$◌, ◌∵◌, !, qed, done, move, keep, drop, use0, use1, use2, use3, split, join, fsplit, fjoin, pick, await, regoal, suffices, group, Body, lft_new, lft_end, enter, of_opd, addr, stop, no_more, and_then, returns, alloc_all, pass_all, free_all, look_at, get, through, sets, lands_as, yes, Is, shows, lends_ref, ref_back, lone, mem, part_at, Ptr, RawPtr, block_ptr, null_ptr, in_a_block, rawptr_vals, rawptr_Tells, MutRef, mut_vals, plain, nothing, heard, peeks, calls_at, lasts, on_entry, triple_of, framed, Stays, walk_of, stay_dropped, Goes-dropped, ends_at}
use prog.Wp.{WpFn}
use Rattle.host_library.specs.declared.hosted.Hosted.{Hosted}
use Rattle.host_library.specs.contracts.hosted.Hosted.{the_row as R}
use Rattle.host_library.specs.Events.{Forgets}
use Rattle.host_library.specs.Owned.{hosted_owns, holds}
use Rattle.host_library.specs.contracts.hosted.Hosted.clear_outs as g
use Rattle.host_library.proofs.hosted.Hosted.clear_outs.Met.{met}
use Rattle.host_library.specs.contracts.events.bt_output_clear as f
use Rattle.host_library.proofs.events.bt_output_clear.Statement.{statement}
use Rattle.host_library.proofs.events.bt_output_clear.Code as code

abbrev stayed : Stays f.ended.signature.params f.ended.kept
stayed = (stay_dropped _ yes, tt)

pub bt_output_clear_spec : {M : Type 1} → statement M
bt_output_clear_spec 𝓤 𝓛 𝓜 𝓡 wired =
    let c = f.clauses 𝓛 𝓜.mem 𝓡.returns in let W = walk_of 𝓛 f.ended stayed c in let 𝓣 = tables 𝓤 𝓛.H 𝓜 𝓡 𝓡.env in
    proved 𝓛 f.ended stayed c 𝓜 𝓡 (Goes-dropped 𝓛 0 (plain (λ _. RawPtr)) yes (λ κs x w. refl), tt)
    f.Key.name code.function (code.unfolded 𝓤 𝓛.H 𝓜 𝓡 wired)
    (λ κs. (rawptr_vals, tt)) (λ κs. (rawptr_Tells, tt)) (λ κs qs bounds a e are.
    let y : Ptr → W.Ghost = λ p. ((κs, qs, bounds, (p, tt), (rawptr_vals p, tt)), e) in
    qed 𝓛 (raw (on_entry 𝓛 f.signature κs qs a (y a.0).0.4) ∷ ‵ (hosted_owns a.0 e) ∷ []) ∵ drop ! $
    in_a_block ! a.0 (λ p. hosted_owns p e) (fst∗ 𝓤 (never 𝓤) (sem 𝓛 (holds (bare (lone R.mir)) null_ptr))) (λ b o same.
    regoal ! (λ p. prop (WpFn 𝓤 𝓛.H 𝓣.C 𝓣.Λ code.function (rawptr_vals p) (W.post (y p)))) same refl $
    fsplit ! $ enter ! _ _ _ _ _ $ alloc_all ! (λ l. pass_all ! refl ((tt, tt), tt) $
    -- [the session in its block; the right to free it; the locals]
    sets ! (of_opd ! (get ! refl)) refl (tt, tt) $ sets ! (addr ! (through ! refl (stop !))) refl (tt, tt) $
    lft_new ! tt (λ α. let κ : Lft = α ∷ [] in move ! (1 ∷ []) $
    use1 𝓛 (later (some (λ (γ : GName). ‵ ((MutRef (named 0) κ R).own_val (record { ref_ptr = (b, o); ghost_name = γ; now = e }) (vptr b o ∷ [])) ⊛ ‵ (flent κ (Body (mem R) b o γ)))))
    (lends_ref 𝓛 R (named 0) κ e b o) $ await ! tt $ pick ! (λ γ. split ! $
    -- [the loan; the lender's part; the token of α; the right to free; the locals]
    let r : MutBor Hosted = record { ref_ptr = (b, o); ghost_name = γ; now = e } in
    let G = triple_of 𝓛 g.signature (g.spec 𝓛 𝓜.mem 𝓡.returns) in
    let z : G.Ghost = (((κ, tt), (full_share, tt), tt, (r, tt), (mut_vals r, tt)), tt) in
    nothing ! $ move ! (1 ∷ 0 ∷ []) $ join ! $ nothing ! $ move ! (3 ∷ 0 ∷ []) $ join ! $ join ! $
    nothing ! $ move ! (1 ∷ 0 ∷ []) $ use2 𝓛 (raw (G.pre z)) (id⊢ 𝓤 _) $
    calls_at ! (framed 𝓤 𝓛.H 𝓜 (tables 𝓤 𝓛.H 𝓜 𝓡 𝓡.env)) G (met 𝓤 𝓛 𝓜 𝓡 (code.calls-host_library::hosted::Hosted::clear_outs 𝓡.env wired)) z
    (and_then ! (get ! refl) (no_more !)) (λ v.
    use1 𝓛 (later (some (λ (m : Unit {0}). ((‵ (flft κ full_share) ⊛ ‵ ftrue) ⊛ ‵ (unit.own_val m (v ∷ []))) ⊛
    some (λ (ws : Hosted × Unit {0}). ‵ (lasts g.ended z.0.0 z.0.3 ws) ⊛ raw (fact 𝓤 (Forgets e ws.0)))))) (id⊢ 𝓤 _) $
    await ! tt $ pick ! (λ m. split ! $ split ! $ split ! $ lft_end ! tt $
    -- [α is over; nothing; the result; what is left; the lender's part; the right to free; the locals]
    move ! (2 ∷ []) $ feq_l ! (λ is_unit. lands_as ! (ap only is_unit) refl (tt, tt) $ sets ! (of_opd ! (unit_lit !)) refl (tt, tt) $
    -- [α is over; nothing; what is left; the lender's part; the right to free; the locals]
    move ! (2 ∷ []) $ pick ! (λ ws. split ! $ move ! (1 ∷ []) $ heard ! _ (λ left. fsplit ! $ fsplit ! $
    -- [the last value of the loan; its borrow; nothing; α is over; nothing; the lender's part; the right to free; the locals]
    move ! (3 ∷ 5 ∷ 0 ∷ []) $ use3 𝓛 (later (‵ (part_at R full_share ws.0 b o))) (ref_back 𝓛 R κ γ ws.0 b o) $ await ! tt $ move ! (0 ∷ 4 ∷ []) $ fjoin ! $
    returns ! (look_at ! 0 refl) $ free_all ! refl $ keep ! (0 ∷ []) $
    let Left : Hosted → SProp 𝓤 = λ x. sep 𝓤 (sem 𝓛 (hosted_owns (block_ptr b o) x)) (fact 𝓤 (Forgets e x)) in
    use0 𝓛 (raw (fact 𝓤 (Forgets e ws.0))) (fact_i 𝓤 (Forgets e ws.0) (emp 𝓤) left) $ move ! (1 ∷ 0 ∷ []) $ join ! $
    use1 𝓛 (raw (ex 𝓤 Left)) (ex_i 𝓤 Left ws.0) $ feq_i ! _ (vunit ∷ []) _ refl $
    suffices ! _ (ends_at 𝓛 f.ended stayed c (y (block_ptr b o)) vunit tt (tt, tt) (tt, tt)) $
    nothing ! $ nothing ! $ join ! $ nothing ! $ group ! 3 $ done !))))))))))
