use Rattle.std.proofs.Common.{◌≡◌, ◌<◌, ◌+◌, ◌∷◌, ◌&&◌, true, false, nat_eq, length, get_or}
use Rattle.std.proofs.Common.{drop, refl, sym, ap, ◌∙◌, arith, rules}
use Rattle.std.proofs.lemmas.Bool.{and_left, and_right, and_from, eq-eqb, ne_eqb}
use Rattle.std.proofs.lemmas.List.{drop_more}
use Rattle.vortex_types.specs.Agreement.{nulls_agree, types_agree}
use Rattle.vortex_types.specs.TypeOf.{type_of, struct_fields, allows_null}
use Rattle.vortex_types.specs.TypeParts.{type_weight}
use Rattle.vortex_types.specs.TypePairs.{all_agree, waiting}
use Rattle.vortex_types.proofs.TypeViews.{struct_count}
use Rattle.vortex_types.proofs.Agreeing.{struct_agrees, counts_refute, agree_from_end, names_refute}
use Rattle.vortex_types.proofs.Agreeing.{types_refute, passed, part_differs, part_passed}
use Rattle.vortex_types.proofs.CopySteps.{weights_at}
use Rattle.vortex_types.proofs.PairSteps.{all_put, field_weighs_less}
use Rattle.vortex_types.proofs.PairSteps.{struct_pair, list_pair, fixed_pair, map_pair}
use Rattle.vortex_types.proofs.PairSteps.{inside_alike, inside_differs}
use Rattle.vortex_types.proofs.dtype.pairs.Pairs.+agree.Goals as goal

pub put-returns-in-Ok-clause-agree : goal.put-returns-in-Ok-clause-agree
put-returns-in-Ok-clause-agree t c =
    all_put c.args.exactly c.args.self.now.first _ _ _ c.in-Ok.ensures.items

pub put_fields-returns-then-len-clause-agree :
    goal.put_fields-returns-then-len-clause-agree
put_fields-returns-then-len-clause-agree t c =
    let a = struct_count c.args.own.now in
    let b = struct_count c.args.other.now in
    ap (λ b. b && all_agree c.args.exactly (waiting c.args.self.now))
    (counts_refute c.args.exactly (struct_fields c.args.own.now)
    (struct_fields c.args.other.now) (λ e. omega arith))

pub put_fields-returns-then-ne-clause-agree :
    goal.put_fields-returns-then-ne-clause-agree
put_fields-returns-then-ne-clause-agree t c =
    let e = c.args.exactly in
    let fs = c.args.own.now.fields.items in
    let gs = c.args.other.now.fields.items in
    let k = c.loop-k.k in
    let h : k < length fs = omega arith in
    let l : k < length gs = omega arith in
    let differ =
    names_refute e k fs gs c.index-field.result.now c.index-others.result.now h l
    c.index-field.ensures c.index-others.ensures _ _ c.as_str.ensures.value
    c.as_str-in-loop-k.ensures.value (sym c.ne.ensures ∙ c.if-ne.true) in
    sym (ap (λ b. b && all_agree e (waiting c.loop-k.self)) differ) ∙ c.loop-k.invariant.0
    ∙ sym
    (ap (λ b. b && all_agree e (waiting c.args.self.now))
    (struct_agrees e c.args.own.now c.args.other.now))

pub put_fields-put-requires : goal.put_fields-put-requires
put_fields-put-requires t c =
    let fs = c.args.own.now.fields.items in
    let f = c.index-field.result.now in
    let same : f ≡ get_or fs c.loop-k.k f = c.index-field.ensures in
    let less = field_weighs_less fs c.loop-k.k f (omega arith) in
    let weight = ap (λ g. type_weight g.1) same in search rules

pub put_fields-returns-then-not-put-clause-agree :
    goal.put_fields-returns-then-not-put-clause-agree
put_fields-returns-then-not-put-clause-agree t c =
    let e = c.args.exactly in
    let fs = c.args.own.now.fields.items in
    let gs = c.args.other.now.fields.items in
    let k = c.loop-k.k in
    let h : k < length fs = omega arith in
    let l : k < length gs = omega arith in
    types_refute e k fs gs c.index-field.result.now c.index-others.result.now h l
    c.index-field.ensures c.index-others.ensures _ c.if-not-put.ensures.agree
    ∙ c.loop-k.invariant.0
    ∙ sym
    (ap (λ b. b && all_agree e (waiting c.args.self.now))
    (struct_agrees e c.args.own.now c.args.other.now))

pub put_fields-loop-k-preserved : goal.put_fields-loop-k-preserved
put_fields-loop-k-preserved t c =
    let e = c.args.exactly in
    let fs = c.args.own.now.fields.items in
    let gs = c.args.other.now.fields.items in
    let k = c.loop-k.k in
    let h : k < length fs = omega arith in
    let l : k < length gs = omega arith in
    let f = c.index-field.result.now in
    let same : get_or fs k f ≡ f = sym c.index-field.ensures in
    let at : drop k fs ≡ f ∷ drop (k + 1) fs =
    drop_more fs k f h ∙ ap (λ g. g ∷ drop (k + 1) fs) same in (
      passed e k fs gs f c.index-others.result.now h l c.index-field.ensures
          c.index-others.ensures _ _ _ _ c.as_str.ensures.value
          c.as_str-in-loop-k.ensures.value (sym c.ne.ensures ∙ c.if-ne.false)
          c.if-not-put.ensures.agree
          ∙ c.loop-k.invariant.0,
      omega (arith, c.put.ensures.fewer, weights_at _ _ f at, c.loop-k.invariant.1),
    )

pub put_fields-returns-clause-agree :
    goal.put_fields-returns-clause-agree
put_fields-returns-clause-agree t c =
    let e = c.args.exactly in
    let fs = c.args.own.now.fields.items in
    let gs = c.args.other.now.fields.items in
    let at_end : c.loop-k.k ≡ length fs = omega arith in
    let same : length fs ≡ length gs = omega arith in
    sym
    (ap (λ b. b && all_agree e (waiting c.loop-k.self))
    (agree_from_end e c.loop-k.k fs gs at_end same))
    ∙ c.loop-k.invariant.0
    ∙ sym
    (ap (λ b. b && all_agree e (waiting c.args.self.now))
    (struct_agrees e c.args.own.now c.args.other.now))

pub step-returns-then-agrees-clause-agree :
    goal.step-returns-then-agrees-clause-agree
step-returns-then-agrees-clause-agree t c =
    let s = c.in-Struct-Struct in
    inside_alike _ _ _ _ c.put_fields.ensures.agree c.if-agrees.ensures
    ∙ sym
    (ap (λ b. b && all_agree c.args.exactly (waiting c.args.self.now))
    (struct_pair c.args.exactly _ _ s.n s.m s.fs s.gs s.is-0 s.is-1))

pub step-returns-else-agrees-clause-agree :
    goal.step-returns-else-agrees-clause-agree
step-returns-else-agrees-clause-agree t c =
    let s = c.in-Struct-Struct in
    inside_differs _ _ _ _ c.agrees.ensures c.if-agrees.ensures
    ∙ sym
    (ap (λ b. b && all_agree c.args.exactly (waiting c.args.self.now))
    (struct_pair c.args.exactly _ _ s.n s.m s.fs s.gs s.is-0 s.is-1))

pub step-returns-then-agrees-2-clause-agree :
    goal.step-returns-then-agrees-2-clause-agree
step-returns-then-agrees-2-clause-agree t c =
    let s = c.in-List-List in
    inside_alike _ _ _ _ c.put.ensures.agree c.if-agrees-2.ensures
    ∙ sym
    (ap (λ b. b && all_agree c.args.exactly (waiting c.args.self.now))
    (list_pair c.args.exactly _ _ s.n s.m s.t s.u _ _ s.is-0 s.is-1 c.deref.ensures
    c.deref-then-agrees-2.ensures))

pub step-returns-else-agrees-2-clause-agree :
    goal.step-returns-else-agrees-2-clause-agree
step-returns-else-agrees-2-clause-agree t c =
    let s = c.in-List-List in
    inside_differs _ _ _ _ c.agrees-in-List-List.ensures c.if-agrees-2.ensures
    ∙ sym
    (ap (λ b. b && all_agree c.args.exactly (waiting c.args.self.now))
    (list_pair c.args.exactly _ _ s.n s.m s.t s.u _ _ s.is-0 s.is-1 refl refl))

pub step-returns-then-s-r-clause-agree :
    goal.step-returns-then-s-r-clause-agree
step-returns-then-s-r-clause-agree t c =
    let s = c.in-FixedSizeList-FixedSizeList in
    let differ = sym (and_left (nat_eq s.s s.r) _ (ne_eqb s.s s.r c.if-s-r.true)) in
    inside_differs _ _ _ false differ differ
    ∙ sym
    (ap (λ b. b && all_agree c.args.exactly (waiting c.args.self.now))
    (fixed_pair c.args.exactly _ _ s.n s.m s.t s.u s.s s.r _ _ s.is-0 s.is-1 refl refl))

pub step-returns-then-agrees-3-clause-agree :
    goal.step-returns-then-agrees-3-clause-agree
step-returns-then-agrees-3-clause-agree t c =
    let s = c.in-FixedSizeList-FixedSizeList in
    let same : nat_eq s.s s.r ≡ true = eq-eqb s.s s.r c.if-s-r.false in
    inside_alike _ _ _ _ c.put-then-agrees-3.ensures.agree
    (sym (and_from (nat_eq s.s s.r) _ same (sym c.if-agrees-3.ensures)))
    ∙ sym
    (ap (λ b. b && all_agree c.args.exactly (waiting c.args.self.now))
    (fixed_pair c.args.exactly _ _ s.n s.m s.t s.u s.s s.r _ _ s.is-0 s.is-1
    c.deref-then-agrees-3.ensures c.deref-then-agrees-3-2.ensures))

pub step-returns-else-agrees-3-clause-agree :
    goal.step-returns-else-agrees-3-clause-agree
step-returns-else-agrees-3-clause-agree t c =
    let s = c.in-FixedSizeList-FixedSizeList in
    let differ = sym (and_right (nat_eq s.s s.r) _ (sym c.if-agrees-3.ensures)) in
    inside_differs _ _ _ _ (c.if-agrees-3.false ∙ differ) differ
    ∙ sym
    (ap (λ b. b && all_agree c.args.exactly (waiting c.args.self.now))
    (fixed_pair c.args.exactly _ _ s.n s.m s.t s.u s.s s.r _ _ s.is-0 s.is-1 refl refl))

pub step-returns-then-not-agrees-clause-agree :
    goal.step-returns-then-not-agrees-clause-agree
step-returns-then-not-agrees-clause-agree t c =
    let s = c.in-Map-Map in
    let differ =
    sym
    (and_right (types_agree c.args.exactly (type_of s.v.value) (type_of s.w.value)) _
    (sym c.if-not-agrees.ensures)) in
    inside_differs _ _ _ false differ differ
    ∙ sym
    (ap (λ b. b && all_agree c.args.exactly (waiting c.args.self.now))
    (map_pair c.args.exactly _ _ s.n s.m s.k s.v s.l s.w _ _ _ _ s.is-0 s.is-1 refl refl
    refl refl))

pub step-returns-then-put-clause-agree :
    goal.step-returns-then-put-clause-agree
step-returns-then-put-clause-agree t c =
    let e = c.args.exactly in
    let s = c.in-Map-Map in
    let others = all_agree e (waiting c.args.self.now) in
    let keys =
    types_agree e (type_of c.deref-in-Map-Map.result.now)
    (type_of c.deref-in-Map-Map-2.result.now) in
    let values =
    types_agree e (type_of c.deref-then-put.result.now)
    (type_of c.deref-then-put-2.result.now) in
    let nulls = nulls_agree e (allows_null s.n) (allows_null s.m) in
    let after = all_agree e (waiting c.put-in-Map-Map.new.self) in
    inside_alike values nulls after _ c.put-then-put.ensures.agree c.if-not-agrees.ensures
    ∙ part_passed true keys (values && nulls) others after refl c.if-put.ensures.agree
    ∙ sym
    (ap (λ b. b && others)
    (map_pair e _ _ s.n s.m s.k s.v s.l s.w _ _ _ _ s.is-0 s.is-1
    c.deref-in-Map-Map.ensures c.deref-then-put.ensures c.deref-in-Map-Map-2.ensures
    c.deref-then-put-2.ensures))

pub step-returns-else-put-clause-agree :
    goal.step-returns-else-put-clause-agree
step-returns-else-put-clause-agree t c =
    let e = c.args.exactly in
    let s = c.in-Map-Map in
    let others = all_agree e (waiting c.args.self.now) in
    let keys =
    types_agree e (type_of c.deref-in-Map-Map.result.now)
    (type_of c.deref-in-Map-Map-2.result.now) in
    let values = types_agree e (type_of s.v.value) (type_of s.w.value) in
    let nulls = nulls_agree e (allows_null s.n) (allows_null s.m) in
    ap (λ b. b && all_agree e (waiting c.put-in-Map-Map.new.self)) c.if-put.false
    ∙ part_differs true keys (values && nulls) others c.if-put.ensures.agree
    ∙ sym
    (ap (λ b. b && others)
    (map_pair e _ _ s.n s.m s.k s.v s.l s.w _ _ _ _ s.is-0 s.is-1
    c.deref-in-Map-Map.ensures refl c.deref-in-Map-Map-2.ensures refl))
