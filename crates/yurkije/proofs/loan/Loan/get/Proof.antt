-- `get` follows the pointer to what is lent. Assumes `Logic`.
use Rattle.std.proofs.Common.{ℕ, ◌+◌, List, [], ◌∷◌, ◌++◌, refl, sym, subst}
use mir.Syntax.{named, ty_ptr}
use mir.Val.{Val, vptr}
use base.Logic.{SProp, ent, emp, via, never, fst∗, id⊢}
use base.Fml.{Lft, Share, ftrue, fat, flft}
use prog.Wp.{WpFn}
use types.Logic.{sem}
use types.Kit.{‵, ◌⊛◌, at_ret, ◌$◌, ◌∵◌, !, qed, move, keep, drop, split, join}
use types.Kit.{rewrite, fsplit, fjoin, feq_i, feq_l, suffices, frame, done}
use types.Run.{look, stop, hop, fld, of_opd, addr, first, blocks, exec, returns, enter}
use types.ByLocal.{alloc_all, pass_all, free_all, look_at, get, through, sets, sets_last, env}
use contract.Running.{tables}
use denote.Exit.{yes}
use denote.RattleType.{owns}
use denote.Builtin.{RefOf}
use denote.Memory.{shared_of}
use denote.RawPtr.{Ptr, ptr_val, in_a_block}
use denote.Ref.{Bor, ShrRef}
use denote.Signature.{plain}
use denote.Opens.{hide, unhide}
use denote.Steps.{nothing}
use denote.Struct.Lending.{lent_at}
use denote.Triple.Walked.{says, Stays, stay_dropped, walk_of, ends_at, Goes-dropped}
use Rattle.std.proofs.alloc.Shapes.{after}
use Rattle.std.proofs.raw_atomic.Walks.{proved_at}
use Rattle.yurkije.proofs.LoanValues.{R, N, at_in, at_out}
use Rattle.yurkije.specs.contracts.loan.Loan.get.{ended, clauses}
use Rattle.yurkije.specs.contracts.loan.Loan.get.Key.{name as #self}
use Rattle.yurkije.proofs.loan.Loan.get.Statement.{statement}
use Rattle.yurkije.proofs.loan.Loan.get.Code as code

pub get_spec : {M : Type 1} → statement M
get_spec 𝓤 𝓛 𝓜 𝓡 wired =
    let 𝓣 = tables 𝓤 𝓛.H 𝓜 𝓡 𝓡.env in let c = clauses 𝓛 𝓜.mem 𝓡.returns in
    let fn = code.function in
    let hs : Stays ended.signature.params ended.kept =
    (stay_dropped (RefOf (0 ∷ []) tt (plain (λ _. N)) (λ _. tt)) yes, tt) in
    proved_at 𝓛 ended hs c 𝓜 𝓡
    (Goes-dropped 𝓛 1 (RefOf (0 ∷ []) tt (plain (λ _. N)) (λ _. tt)) yes (λ κs x f. refl), tt) #self fn
    (code.unfolded 𝓤 𝓛.H 𝓜 𝓡 wired) (λ z are.
    let κ : Lft = z.0.0.0 in let q : Share = z.0.1.0 in
    let rb : ℕ = z.0.3.0.ref_ptr.0 in let ro : ℕ = z.0.3.0.ref_ptr.1 in
    let d : N.Denot = z.0.3.0.now in let us0 : List Val = z.0.4.0 in
    let Post : Val → SProp 𝓤 = (walk_of 𝓛 ended hs c).post z in
    let Run : List Val → SProp 𝓤 = λ ws. WpFn 𝓤 𝓛.H 𝓣.C 𝓣.Λ fn ws Post in
    via 𝓤 _ (fst∗ 𝓤 _ (emp 𝓤))
    (qed 𝓛 ((‵ (flft κ q) ⊛ ‵ ftrue) ∷ ‵ (owns (ShrRef (named 0) κ N ∷ []) (z.0.3.0, tt) (us0, tt)) ∷ [])
    ∵ split ! $ move ! (2 ∷ []) $ fsplit ! $ fsplit ! $ feq_l ! (λ e0.
    keep ! (0 ∷ 2 ∷ []) $
    suffices ! (Run (vptr rb ro ∷ []))
    (subst (λ (us : List Val). ent 𝓤 (Run (vptr rb ro ∷ [])) (Run us)) (sym (λ i. e0 i ++ []))
    (id⊢ 𝓤 (Run (vptr rb ro ∷ [])))) $
    enter ! 𝓣.C 𝓣.Λ fn (vptr rb ro ∷ []) Post $ alloc_all ! (λ l. pass_all ! refl ((tt, tt), tt) $
    let En = env fn.locals l in
    unhide ! $ fsplit ! $ fsplit ! $ fsplit ! $ hide ! $ move ! (0 ∷ 4 ∷ []) $
    at_in ! tt d.at rb (ro + 0) (λ s. move ! (4 ∷ []) $
    in_a_block ! d.at (λ p. lent_at R p d.held κ)
    (fst∗ 𝓤 (never 𝓤) (sem 𝓛 (shared_of R d.held 0 0 κ))) (λ kb kc e.
    fsplit ! $ drop ! $ hide ! $
    rewrite ! 1 (λ (p : Ptr). ‵ (fat s ty_ptr rb (ro + 0) (ptr_val p))) e refl $ first ! $ blocks ! $
    sets_last ! (addr ! (through ! refl (fld ! refl (hop ! (look ! 1 refl) (stop !))))) refl (tt, tt) $
    exec ! 𝓣.C 𝓣.Λ En (after 1 fn.body) (at_ret En Post) $
    sets ! (of_opd ! (get ! refl)) refl (tt, tt) $
    rewrite ! 1 (λ (p : Ptr). ‵ (fat s ty_ptr rb (ro + 0) (ptr_val p))) (sym e) refl $
    feq_i ! (List Val) (vptr kb kc ∷ []) (vptr kb kc ∷ []) refl $ fjoin ! $
    move ! (1 ∷ 2 ∷ []) $ at_out ! tt d.at rb (ro + 0) $
    returns ! (look_at ! 0 refl) $ free_all ! refl $ keep ! (0 ∷ 1 ∷ []) $
    let r : Bor R.Denot = record { ref_ptr = (kb, kc); now = d.held } in
    suffices ! _ (ends_at 𝓛 ended hs c z (vptr kb kc) r (tt, tt) (tt, tt)) $ says ! refl $
    nothing ! $ move ! (1 ∷ 0 ∷ []) $ join ! $ frame ! $ nothing ! $ nothing ! $ fjoin ! $
    done !))))))
