-- The machine values of a loan and of a handle that is lent. Assumes `Logic`.
use Rattle.std.proofs.Common.{◌≡◌, ℕ, List, [], ◌∷◌, ◌++◌, refl, subst, lit<}
use mathlib.Core.Bool.{Bool, true, false}
use seplogic.Ra.Ura.{Ura}
use mir.Val.{Val, vbool, vstruct, vcons, vnil, of_list}
use base.Fml.{Lft, Share, fat, flft}
use mir.Syntax.{ty_ptr}
use types.Logic.{Logic}
use types.Kit.{Item, Goal, Seq, Step, step, ‵, ◌$◌, move, drop, fsplit, fjoin, fpick, fpack, feq_i}
use types.Kit.{feq_l, Soaks, rewrite}
use denote.RattleType.{RattleType, Valss}
use denote.Builtin.{RawPtr, bool}
use denote.RawPtr.{Ptr, block_ptr, null_ptr, ptr_val, coded_ptr, ptr_own, rawptr_pure}
use denote.Copied.{plain_Copied}
use denote.Memory.{cell_at, part_at, hidden_shr}
use denote.Opens.{Shut}
use denote.Steps.{nothing, looks, shuts}
use denote.Struct.Laws.{RawPtr-laws}
use denote.Param.{layout}
use denote.Struct.Struct.{within}
use denote.Struct.Owning.{shape}
use Rattle.std.proofs.cell.Inside.{Good}
use Rattle.std.specs.declared.option.Option.{Option}
use Rattle.std.specs.declared.option.Option.TheVariants.{None, Some}
use Rattle.yurkije.specs.Owned.{loan_owns, lent_owns}
use Rattle.yurkije.specs.contracts.held.Held as held_type
use Rattle.yurkije.specs.contracts.loan.Loan as loan
use Rattle.yurkije.specs.contracts.lent_handle.LentHandle as lent

abbrev pub word : Val → Val
word v = vstruct (vcons v vnil)

abbrev pub two : Val → Val → Val
two v w = vstruct (vcons v (vcons w vnil))

abbrev pub R : RattleType
R = held_type.the_row

abbrev pub N : RattleType
N = loan.the_row

abbrev pub H : RattleType
H = lent.the_row

pub loan_good : (p : Ptr) → Good (layout N) (word (ptr_val p))
loan_good null_ptr = (tt, (record { fits = lit< tt }, tt))
loan_good (block_ptr b o) = (tt, (tt, tt))

pub lent_good : (p : Ptr) (l : Bool) → Good (layout H) (two (ptr_val p) (vbool l))
lent_good null_ptr l = (tt, (record { fits = lit< tt }, (tt, tt)))
lent_good (block_ptr b o) l = (tt, (tt, (tt, tt)))

module _ {M : Type 1} {𝓤 : Ura M} {𝓛 : Logic 𝓤} {K : Type 0} {Γ : List (Item 𝓤)} {G : Goal 𝓤 𝓛.H}
  where
    pub loan_in : K → (p : Ptr) (a : ℕ) (q : Share) (x : R.Denot)
        → Step K 𝓛 (‵
        (N.own_val (record { at = p; life = a; share = q; held = x })
        (word (ptr_val p) ∷ [])) ∷ Γ) G (‵ (loan_owns p a q x) ∷ Γ) G
    loan_in t p a q x = step (λ s. let v : Val = word (ptr_val p) in
        nothing t $ feq_i t (List Val) (ptr_val p ∷ []) (ptr_val p ∷ []) refl $ fjoin t $
        feq_i t (List Val) (v ∷ []) (v ∷ []) refl $ fjoin t $
        fpack t (Valss (RawPtr ∷ [])) (within (shape loan.the_type) (p, tt) (v ∷ []))
        (ptr_val p ∷ [], tt) $ fjoin t $ s)

    pub loan_out : K → (d : N.Denot) (vs : List Val)
        → (vs ≡ word (ptr_val d.at) ∷ []
        → Seq K 𝓛 (‵ (loan_owns d.at d.life d.share d.held) ∷ Γ) G)
        → Seq K 𝓛 (‵ (N.own_val d vs) ∷ Γ) G
    loan_out t d vs k =
        fsplit t $ fpick t (λ vss. fsplit t $ feq_l t (λ ev. fsplit t $ feq_l t (λ ep. drop t $
        k (subst (λ (ws : List Val). vs ≡ vstruct (of_list (ws ++ [])) ∷ []) ep ev))))

    pub some_in : K → (p : Ptr) (a : ℕ) (q : Share) (x : R.Denot)
        → Step K 𝓛 (‵
        (H.own_val (record { at = p; live = true; life = a; share = q; held = Some x })
        (two (ptr_val p) (vbool true) ∷ [])) ∷ Γ) G (‵ (loan_owns p a q x) ∷ Γ) G
    unfolding lent_owns
    some_in t p a q x = step (λ s. let v : Val = two (ptr_val p) (vbool true) in
        feq_i t Bool true true refl $ fjoin t $ nothing t $
        feq_i t (List Val) (vbool true ∷ []) (vbool true ∷ []) refl $ fjoin t $
        feq_i t (List Val) (ptr_val p ∷ []) (ptr_val p ∷ []) refl $ fjoin t $
        feq_i t (List Val) (v ∷ []) (v ∷ []) refl $ fjoin t $
        fpack t (Valss (RawPtr ∷ bool ∷ []))
        (within (shape lent.the_type) (p, (true, tt)) (v ∷ []))
        (ptr_val p ∷ [], (vbool true ∷ [], tt)) $ fjoin t $ s)

    pub none_in : K → (p : Ptr) (a : ℕ) (q : Share)
        → Step K 𝓛 (‵
        (H.own_val (record { at = p; live = false; life = a; share = q; held = None })
        (two (ptr_val p) (vbool false) ∷ [])) ∷ Γ) G Γ G
    unfolding lent_owns
    none_in t p a q = step (λ s. let v : Val = two (ptr_val p) (vbool false) in
        feq_i t Bool false false refl $ nothing t $
        feq_i t (List Val) (vbool false ∷ []) (vbool false ∷ []) refl $ fjoin t $
        feq_i t (List Val) (ptr_val p ∷ []) (ptr_val p ∷ []) refl $ fjoin t $
        feq_i t (List Val) (v ∷ []) (v ∷ []) refl $ fjoin t $
        fpack t (Valss (RawPtr ∷ bool ∷ []))
        (within (shape lent.the_type) (p, (false, tt)) (v ∷ []))
        (ptr_val p ∷ [], (vbool false ∷ [], tt)) $ fjoin t $ s)

    apart : K → (p : Ptr) (l : Bool) (a : ℕ) (q : Share) (m : Option R.Denot)
        → (m ≡ None → l ≡ false → Seq K 𝓛 Γ G)
        → ((x : R.Denot) → m ≡ Some x → l ≡ true
        → Seq K 𝓛 (‵ (loan_owns p a q x) ∷ Γ) G)
        → Seq K 𝓛 (‵ (lent_owns p l a q m) ∷ Γ) G
    unfolding lent_owns
    apart t p l a q None none some = feq_l t (λ e. none refl e)
    apart t p l a q (Some x) none some = fsplit t $ feq_l t (λ e. some x refl e)

module _ {M : Type 1} {𝓤 : Ura M} {𝓛 : Logic 𝓤} {K : Type 0} {Γ : List (Item 𝓤)} {G : Goal 𝓤 𝓛.H}
  where
    pub lent_out : K → (d : H.Denot) (vs : List Val)
        → (d.held ≡ None → vs ≡ two (ptr_val d.at) (vbool false) ∷ [] → Seq K 𝓛 Γ G)
        → ((x : R.Denot) → d.held ≡ Some x → vs ≡ two (ptr_val d.at) (vbool true) ∷ []
        → Seq K 𝓛 (‵ (loan_owns d.at d.life d.share x) ∷ Γ) G)
        → Seq K 𝓛 (‵ (H.own_val d vs) ∷ Γ) G
    lent_out t d vs none some =
        fsplit t $ fpick t (λ vss. fsplit t $ feq_l t (λ ev. fsplit t $ feq_l t (λ ep. fsplit t $
        feq_l t (λ eb. drop t $
        let words : vs ≡ two (ptr_val d.at) (vbool d.live) ∷ [] =
        subst (λ (bs : List Val). vs ≡ vstruct (of_list (ptr_val d.at ∷ (bs ++ []))) ∷ []) eb
        (subst (λ (ps : List Val). vs ≡ vstruct (of_list (ps ++ (vss.1.0 ++ []))) ∷ []) ep ev) in
        apart t d.at d.live d.life d.share d.held
        (λ em el. none em
        (subst (λ (l : Bool). vs ≡ two (ptr_val d.at) (vbool l) ∷ []) el words))
        (λ x em el. some x em
        (subst (λ (l : Bool). vs ≡ two (ptr_val d.at) (vbool l) ∷ []) el words))))))

    -- a pointer is read through a `&`
    pub at_in : K → Soaks G → {κ : Lft} {q : Share} (p : Ptr) (b at : ℕ)
        → ((part : Share)
        → Seq K 𝓛 (‵ (fat part ty_ptr b at (ptr_val p)) ∷ Shut 𝓛 κ q (part_at RawPtr part p b at) ∷ Γ)
        G)
        → Seq K 𝓛 (‵ (hidden_shr RawPtr κ p b at) ∷ ‵ (flft κ q) ∷ Γ) G
    at_in t z p b at k =
        looks t z RawPtr
        (plain_Copied 𝓛 Ptr coded_ptr (ty_ptr ∷ []) ptr_own rawptr_pure ptr_val RawPtr-laws.tells).opens
        p b at
        (λ part vs. move t (1 ∷ []) $ feq_l t (λ e.
        rewrite t 0 (λ (us : List Val). ‵ (cell_at part RawPtr.mir us b at)) e refl $
        move t (2 ∷ []) $ drop t $ k part))

    pub at_out : K → Soaks G → {κ : Lft} {q part : Share} (p : Ptr) (b at : ℕ)
        → Step K 𝓛 (‵ (flft κ q) ∷ Γ) G
        (‵ (fat part ty_ptr b at (ptr_val p)) ∷ Shut 𝓛 κ q (part_at RawPtr part p b at) ∷ Γ) G
    at_out t z {part = part} p b at = step (λ s.
        feq_i t (List Val) (ptr_val p ∷ []) (ptr_val p ∷ []) refl $ move t (1 ∷ 0 ∷ []) $
        shuts t z RawPtr part p (ptr_val p ∷ []) b at $ s)
