-- The machine values of a box's parts and of a handle. Assumes `Logic`.
use Rattle.std.proofs.Common.{◌≡◌, ℕ, List, [], ◌∷◌, ◌++◌, refl, subst, lit<}
use mathlib.Core.Bool.{Bool, true, false, ◌&&◌}
use lib.Dec.{T}
use seplogic.Ra.Ura.{Ura}
use mir.Syntax.{impl, tnil, dnil}
use mir.Raw.{raw as bare}
use mir.Val.{Val, vptr, vbool, vstruct, vcons, vnil, of_list, has_ty, WT}
use base.Logic.{never, fst∗}
use types.Logic.{Logic, sem}
use types.Kit.{Item, Goal, Seq, Step, step, ‵, ◌$◌, move, drop, fsplit, fjoin, fpick, fpack, feq_i}
use types.Kit.{feq_l}
use denote.RattleType.{RattleType, Valss}
use denote.Builtin.{RawPtr, bool}
use denote.Memory.{lone}
use denote.RawPtr.{Ptr, block_ptr, null_ptr, ptr_val, in_a_block}
use denote.Steps.{nothing}
use denote.Param.{layout}
use denote.Param.Laws.{Laws}
use denote.Struct.Struct.{within}
use denote.Struct.Owning.{shape}
use Rattle.std.specs.declared.alloc.Allocator.{Ghosts}
use Rattle.std.proofs.alloc.Calls.{Al, handle_tells}
use Rattle.std.proofs.cell.Inside.{Good}
use Rattle.yurkije.specs.Owned.{held_owns}
use Rattle.std.specs.declared.option.Option.{Option}
use Rattle.std.specs.Box.Ownership.{box_owns}
use Rattle.std.proofs.ResultValues.{and_tt}
use Rattle.std.specs.declared.option.Option.TheVariants.{None, Some}
use Rattle.std.specs.declared.alloc.Global.{Global}
use Rattle.std.specs.contracts.alloc.Global as heap
use Rattle.std.proofs.alloc.Global.TheLaws as heap_laws
use Rattle.std.specs.contracts.impls.GlobalAllocator.TheImpl.{ghosts}
use Rattle.yurkije.specs.contracts.parts.Parts as parts
use Rattle.yurkije.specs.contracts.held.Held as program
use Rattle.yurkije.specs.contracts.handle.Handle as handle

abbrev pub both : Val → Val → Val
both v w = vstruct (vcons v (vcons w vnil))

abbrev pub three : Val → Val → Val → Val
three v w x = vstruct (vcons v (vcons w (vcons x vnil)))

module _ (R Z : RattleType) (L : Laws Z) (g : Ghosts Z.Denot) where
  abbrev pub Parts : RattleType
  Parts = parts.the_row R Z g

  abbrev pub al : Al
  al = record { row = Z; laws = L; g = g; d = impl [] tnil dnil; drops = impl [] tnil dnil }

  pub parts_good : (b o : ℕ) (h : Val) → Good (layout Z) h
      → T (has_ty (layout Z) h && true) × WT (both (vptr b o) h)
  parts_good b o h fits = (and_tt (has_ty (layout Z) h) fits.0, (tt, (fits.1, tt)))

  module _ {M : Type 1} {𝓤 : Ura M} {𝓛 : Logic 𝓤} {K : Type 0} {Γ : List (Item 𝓤)} {G : Goal 𝓤 𝓛.H}
    where
      pub parts_out : K → (d : Parts.Denot) (vs : List Val)
          → ((b o : ℕ) (h : Val) → d.ptr ≡ block_ptr b o → vs ≡ both (vptr b o) h ∷ []
          → Good (layout Z) h
          → Seq K 𝓛 (‵ (box_owns (g.dealloc_token d.alloc) R (block_ptr b o) d.value) ∷ ‵
          (Z.own_val d.alloc (h ∷ [])) ∷ Γ) G)
          → Seq K 𝓛 (‵ (Parts.own_val d vs) ∷ Γ) G
      parts_out t d vs k =
          fsplit t $ fpick t
          (λ vss. fsplit t $ feq_l t
          (λ ev. fsplit t $ feq_l t
          (λ ep. fsplit t $ handle_tells al t d.alloc vss.1.0
          (λ h ea fits. move t (1 ∷ []) $ drop t $ move t (1 ∷ []) $
          in_a_block t d.ptr (λ p. box_owns (g.dealloc_token d.alloc) R p d.value)
          (fst∗ 𝓤 (never 𝓤) (sem 𝓛 (g.dealloc_token d.alloc (bare (lone R.mir)) null_ptr)))
          (λ b o e. k b o h e
          (subst (λ (p : Ptr). vs ≡ vstruct (of_list (ptr_val p ∷ h ∷ [])) ∷ []) e
          (subst (λ (ws : List Val). vs ≡ vstruct (of_list (ptr_val d.ptr ∷ (ws ++ []))) ∷ []) ea
          (subst (λ (ps : List Val). vs ≡ vstruct (of_list (ps ++ (vss.1.0 ++ []))) ∷ []) ep ev)))
          fits)))))

      pub parts_in : K → (b o : ℕ) (h : Val) (a : Z.Denot) (x : R.Denot)
          → Step K 𝓛 (‵
          (Parts.own_val (record { ptr = block_ptr b o; alloc = a; value = x })
          (both (vptr b o) h ∷ [])) ∷ Γ) G
          (‵ (box_owns (g.dealloc_token a) R (block_ptr b o) x) ∷ ‵ (Z.own_val a (h ∷ [])) ∷ Γ) G
      parts_in t b o h a x = step (λ s. let v : Val = both (vptr b o) h in
          nothing t $ move t (2 ∷ 0 ∷ []) $ fjoin t $ feq_i t (List Val) (vptr b o ∷ [])
          (vptr b o ∷ []) refl $ fjoin t $ feq_i t (List Val) (v ∷ []) (v ∷ []) refl $ fjoin t $
          fpack t (Valss (RawPtr ∷ Z ∷ []))
          (within (shape (parts.the_type R Z g)) (block_ptr b o, (a, tt)) (v ∷ []))
          (vptr b o ∷ [], (h ∷ [], tt)) $ fjoin t $ s)

-- at a program and the C library's heap
abbrev pub R : RattleType
R = program.the_row

abbrev pub Z : RattleType
Z = heap.the_row

abbrev pub P : RattleType
P = parts.the_row R Z ghosts

abbrev pub H : RattleType
H = handle.the_row

abbrev pub flag : Bool → Val
flag t = vbool t

pub some_good : (b o : ℕ) (h : Val) → Good (layout Z) h
    → Good (layout H) (three (vptr b o) h (flag true))
some_good b o h fits = (and_tt (has_ty (layout Z) h) fits.0, (tt, (fits.1, (tt, tt))))

pub idle_good : (p : Ptr) (h : Val) → Good (layout Z) h
    → Good (layout H) (three (ptr_val p) h (flag false))
idle_good null_ptr h fits =
    (and_tt (has_ty (layout Z) h) fits.0, (record { fits = lit< tt }, (fits.1, (tt, tt))))
idle_good (block_ptr b o) h fits = (and_tt (has_ty (layout Z) h) fits.0, (tt, (fits.1, (tt, tt))))

pub none_good : (h : Val) → Good (layout Z) h
    → Good (layout H) (three (ptr_val null_ptr) h (flag false))
none_good h fits =
    (and_tt (has_ty (layout Z) h) fits.0, (record { fits = lit< tt }, (fits.1, (tt, tt))))

module _ {M : Type 1} {𝓤 : Ura M} {𝓛 : Logic 𝓤} {K : Type 0} {Γ : List (Item 𝓤)} {G : Goal 𝓤 𝓛.H}
  where
    pub some_in : K → (b o : ℕ) (h : Val) (a : Global) (x : R.Denot)
        → Step K 𝓛 (‵
        (H.own_val (record { at = block_ptr b o; alloc = a; live = true; held = Some x })
        (three (vptr b o) h (flag true) ∷ [])) ∷ Γ) G
        (‵ (box_owns (ghosts.dealloc_token a) R (block_ptr b o) x) ∷ ‵ (Z.own_val a (h ∷ [])) ∷ Γ) G
    unfolding held_owns
    some_in t b o h a x = step (λ s. let v : Val = three (vptr b o) h (flag true) in
        feq_i t Bool true true refl $ fjoin t $ nothing t $ feq_i t (List Val) (flag true ∷ [])
        (flag true ∷ []) refl $ fjoin t $
        move t (2 ∷ 0 ∷ []) $ fjoin t $ feq_i t (List Val) (vptr b o ∷ [])
        (vptr b o ∷ []) refl $ fjoin t $ feq_i t (List Val) (v ∷ []) (v ∷ []) refl $ fjoin t $
        fpack t (Valss (RawPtr ∷ Z ∷ bool ∷ []))
        (within (shape handle.the_type) (block_ptr b o, (((a.memory.seal, tt), tt), (true, tt)))
        (v ∷ [])) (vptr b o ∷ [], (h ∷ [], (flag true ∷ [], tt))) $ fjoin t $ s)

    pub none_in : K → (h : Val) (a : Global)
        → Step K 𝓛 (‵
        (H.own_val (record { at = null_ptr; alloc = a; live = false; held = None })
        (three (ptr_val null_ptr) h (flag false) ∷ [])) ∷ Γ) G (‵ (Z.own_val a (h ∷ [])) ∷ Γ) G
    unfolding held_owns
    none_in t h a = step (λ s. let v : Val = three (ptr_val null_ptr) h (flag false) in
        feq_i t Bool false false refl $ nothing t $ feq_i t (List Val) (flag false ∷ [])
        (flag false ∷ []) refl $ fjoin t $
        move t (2 ∷ 0 ∷ []) $ fjoin t $ feq_i t (List Val) (ptr_val null_ptr ∷ [])
        (ptr_val null_ptr ∷ []) refl $ fjoin t $ feq_i t (List Val) (v ∷ [])
        (v ∷ []) refl $ fjoin t $
        fpack t (Valss (RawPtr ∷ Z ∷ bool ∷ []))
        (within (shape handle.the_type) (null_ptr, (((a.memory.seal, tt), tt), (false, tt)))
        (v ∷ [])) (ptr_val null_ptr ∷ [], (h ∷ [], (flag false ∷ [], tt))) $ fjoin t $ s)

    apart : K → (p : Ptr) (a : Global) (l : Bool) (m : Option R.Denot)
        → (m ≡ None → l ≡ false → Seq K 𝓛 Γ G)
        → ((b o : ℕ) (x : R.Denot) → m ≡ Some x → l ≡ true → p ≡ block_ptr b o
        → Seq K 𝓛 (‵ (box_owns (ghosts.dealloc_token a) R (block_ptr b o) x) ∷ Γ) G)
        → Seq K 𝓛 (‵ (held_owns p a l m) ∷ Γ) G
    unfolding held_owns
    apart t p a l None none some = feq_l t (λ e. none refl e)
    apart t p a l (Some x) none some =
        fsplit t $ feq_l t
        (λ e. in_a_block t p (λ q. box_owns (ghosts.dealloc_token a) R q x)
        (fst∗ 𝓤 (never 𝓤) (sem 𝓛 (ghosts.dealloc_token a (bare (lone R.mir)) null_ptr)))
        (λ b o i. some b o x refl e i))

module _ {M : Type 1} {𝓤 : Ura M} {𝓛 : Logic 𝓤} {K : Type 0} {Γ : List (Item 𝓤)} {G : Goal 𝓤 𝓛.H}
  where
    pub handle_out : K → (d : H.Denot) (vs : List Val)
        → ((h : Val) → d.held ≡ None → vs ≡ three (ptr_val d.at) h (flag false) ∷ []
        → Good (layout Z) h → Seq K 𝓛 (‵ (Z.own_val d.alloc (h ∷ [])) ∷ Γ) G)
        → ((b o : ℕ) (h : Val) (x : R.Denot) → d.held ≡ Some x
        → vs ≡ three (vptr b o) h (flag true) ∷ [] → Good (layout Z) h
        → Seq K 𝓛 (‵ (box_owns (ghosts.dealloc_token d.alloc) R (block_ptr b o) x) ∷ ‵
        (Z.own_val d.alloc (h ∷ [])) ∷ Γ) G)
        → Seq K 𝓛 (‵ (H.own_val d vs) ∷ Γ) G
    handle_out t d vs none some =
        fsplit t $ fpick t (λ vss. fsplit t $ feq_l t (λ ev. fsplit t $ feq_l t (λ ep. fsplit t $
        handle_tells (al R Z heap_laws.the_row_laws ghosts) t d.alloc vss.1.0
        (λ h ea fits. move t (1 ∷ []) $ fsplit t $ feq_l t (λ eb. drop t $ move t (1 ∷ []) $
        let words : vs ≡ three (ptr_val d.at) h (flag d.live) ∷ [] =
        subst (λ (bs : List Val). vs ≡ vstruct (of_list (ptr_val d.at ∷ h ∷ (bs ++ []))) ∷ []) eb
        (subst (λ (ws : List Val). vs
        ≡ vstruct (of_list (ptr_val d.at ∷ (ws ++ (vss.1.1.0 ++ [])))) ∷ []) ea
        (subst (λ (ps : List Val). vs
        ≡ vstruct (of_list (ps ++ (vss.1.0 ++ (vss.1.1.0 ++ [])))) ∷ []) ep ev)) in
        apart t d.at d.alloc d.live d.held
        (λ em el. none h em (subst (λ (l : Bool). vs ≡ three (ptr_val d.at) h (flag l) ∷ []) el words)
        fits)
        (λ b o x em el ep'. some b o h x em
        (subst (λ (p : Ptr). vs ≡ three (ptr_val p) h (flag true) ∷ []) ep'
        (subst (λ (l : Bool). vs ≡ three (ptr_val d.at) h (flag l) ∷ []) el words)) fits))))))
