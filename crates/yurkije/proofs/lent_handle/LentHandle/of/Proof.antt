-- `of` hands what the loan owns to the handle.
use Rattle.std.proofs.Common.{◌≡◌, List, [], ◌∷◌, ◌++◌, refl, sym, subst}
use mathlib.Core.Bool.{true}
use mir.Val.{Val, vbool}
use base.Logic.{SProp, ent, emp, id⊢}
use base.Fml.{ftrue}
use prog.Wp.{WpFn}
use types.Kit.{‵, raw, ◌⊛◌, ◌$◌, ◌∵◌, !, qed, by, move, keep, split, fsplit, fjoin, suffices, use0}
use types.Run.{stop, fld, true_lit, of_opd, no_more, and_then, returns, enter}
use types.ByLocal.{alloc_all, pass_all, free_all, look_at, get, get_in, sets}
use types.Part.{agg, sub, whole}
use contract.Monad.{fact, fact_i}
use contract.Running.{tables}
use denote.Exit.{yes}
use denote.RattleType.{owns}
use denote.Signature.{types_at, plain}
use denote.RawPtr.{ptr_val, rawptr_Lawful}
use denote.Steps.{nothing}
use denote.Triple.Walked.{Stays, stay_dropped, walk_of, Goes-dropped}
use Rattle.std.specs.declared.option.Option.TheVariants.{Some}
use Rattle.std.proofs.raw_atomic.Walks.{proved_at, leaves}
use Rattle.yurkije.proofs.LoanValues.{word, two, N, loan_good, lent_good, loan_out, some_in}
use Rattle.yurkije.specs.contracts.lent_handle.LentHandle.of.{ended, clauses}
use Rattle.yurkije.specs.contracts.lent_handle.LentHandle.of.Key.{name as #self}
use Rattle.yurkije.proofs.lent_handle.LentHandle.of.Statement.{statement}
use Rattle.yurkije.proofs.lent_handle.LentHandle.of.Code as code

pub of_spec : {M : Type 1} → statement M
of_spec 𝓤 𝓛 𝓜 𝓡 wired =
    let 𝓣 = tables 𝓤 𝓛.H 𝓜 𝓡 𝓡.env in let c = clauses 𝓛 𝓜.mem 𝓡.returns in
    let hs : Stays ended.signature.params ended.kept = (stay_dropped (plain (λ _. N)) yes, tt) in
    proved_at 𝓛 ended hs c 𝓜 𝓡
    (Goes-dropped 𝓛 0 (plain (λ _. N)) yes (λ κs x f. refl), tt) #self code.function
    (code.unfolded 𝓤 𝓛.H 𝓜 𝓡 wired) (λ z are.
    let d = z.0.3.0 in let p = d.at in let x = d.held in
    let Post : Val → SProp 𝓤 = (walk_of 𝓛 ended hs c).post z in
    let Run : List Val → SProp 𝓤 = λ ws. WpFn 𝓤 𝓛.H 𝓣.C 𝓣.Λ code.function ws Post in
    let w : Val = word (ptr_val p) in let v : Val = two (ptr_val p) (vbool true) in
    let typed = ((rawptr_Lawful 𝓛).typed p _ refl).0 in
    qed 𝓛 ((‵ ftrue ⊛ ‵ (owns (types_at ended.signature.params z.0.0) z.0.3 z.0.4)) ∷ raw
    ((c z.0.0 z.0.3).requires z.1) ∷ []) ∵ split ! $ move ! (1 ∷ []) $ fsplit ! $
    loan_out ! z.0.3.0 z.0.4.0 (λ ws.
    suffices ! (Run (w ∷ []))
    (subst (λ (us : List Val). ent 𝓤 (Run (w ∷ [])) (Run us)) (sym (λ i. ws i ++ []))
    (id⊢ 𝓤 (Run (w ∷ [])))) $
    enter ! 𝓣.C 𝓣.Λ code.function (w ∷ []) Post $ alloc_all !
    (λ l. pass_all ! refl (loan_good p, tt) $
    sets ! (of_opd ! (get_in ! (fld ! refl (stop !)) (sub ! 0 refl (whole !)))) refl typed $
    sets ! (of_opd ! (get ! refl)) refl typed $
    sets ! (agg ! (and_then ! (get ! refl) (and_then ! (true_lit !) (no_more !))))
    refl (lent_good p true) $
    some_in ! p d.life d.share x $ use0 𝓛 (raw (fact 𝓤 (Some x ≡ Some x)))
    (fact_i 𝓤 (Some x ≡ Some x) (emp 𝓤) refl) $ nothing ! $ nothing ! $ fjoin ! $
    returns ! (look_at ! 0 refl) $ free_all ! refl $ keep ! (4 ∷ 0 ∷ 2 ∷ 1 ∷ []) $ by !
    (leaves 𝓛 ended hs c z v
    (record { at = p; live = true; life = d.life; share = d.share; held = Some x })
    (tt, tt) (tt, tt)))))
