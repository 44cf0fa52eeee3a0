-- Rows that are appended to those of each column.
use Rattle.std.proofs.Common.{◌≡◌, ℕ, zero, suc, ◌<◌, ◌≤◌, refl, sym, ap, subst, ◌∙◌, List, [], ◌∷◌}
use Rattle.std.proofs.Common.{◌++◌, length, arith, get_or}
use Rattle.std.proofs.Common.{Some, drop}
use Rattle.std.specs.Prelude.{slice_set}
use Rattle.std.proofs.lemmas.List.{append_assoc}
use Rattle.vortex_types.specs.LogicalTypes.{LogicalType}
use Rattle.vortex_columns.specs.ColumnView.{ColumnView}
use Rattle.vortex_interface.specs.Eval.{tree_type, HasTreeRows}
use Rattle.vortex_functions.specs.Walks.{AllMean}
use Rattle.vortex_expressions.specs.Items.{Tree, meaning}
use Rattle.yurkije_core.specs.Chunks.{TakesRows, ArePut}

-- so it is with the first columns, and the others are as they were
abbrev pub PutSoFar : ℕ → List ColumnView → List ColumnView → List ColumnView → Type 0
PutSoFar k [] [] [] = Unit {0}
PutSoFar zero (o ∷ os) (d ∷ ds) (e ∷ es) = (e ≡ o) × PutSoFar zero os ds es
PutSoFar (suc k) (o ∷ os) (d ∷ ds) (e ∷ es) =
    (e.dtype ≡ o.dtype) × (e.rows ≡ o.rows ++ d.rows) × PutSoFar k os ds es
PutSoFar k os ds es = ⊥

pub none_put : (os ds : List ColumnView) → AllMean TakesRows os ds → PutSoFar 0 os ds os
none_put [] [] h = tt
none_put [] (d ∷ ds) h = absurd h
none_put (o ∷ os) [] h = absurd h
none_put (o ∷ os) (d ∷ ds) h = (refl, none_put os ds h.1)

pub all_put : (k : ℕ) (os ds es : List ColumnView) → length ds ≤ k → PutSoFar k os ds es
    → ArePut os ds es
all_put k [] [] [] le h = tt
all_put zero [] [] (e ∷ es) le h = absurd h
all_put (suc k) [] [] (e ∷ es) le h = absurd h
all_put zero [] (d ∷ ds) es le h = absurd (omega (arith, le))
all_put (suc k) [] (d ∷ ds) es le h = absurd h
all_put zero (o ∷ os) [] es le h = absurd h
all_put (suc k) (o ∷ os) [] es le h = absurd h
all_put zero (o ∷ os) (d ∷ ds) es le h = absurd (omega (arith, le))
all_put (suc k) (o ∷ os) (d ∷ ds) [] le h = absurd h
all_put (suc k) (o ∷ os) (d ∷ ds) (e ∷ es) le h =
    (h.0, h.1, all_put k os ds es (omega (arith, le)) h.2)

-- there are as many columns as those of which rows are put
pub put_counted : (k : ℕ) (os ds es : List ColumnView) → PutSoFar k os ds es
    → length es ≡ length ds
put_counted k [] [] [] h = refl
put_counted zero [] [] (e ∷ es) h = absurd h
put_counted (suc k) [] [] (e ∷ es) h = absurd h
put_counted zero [] (d ∷ ds) es h = absurd h
put_counted (suc k) [] (d ∷ ds) es h = absurd h
put_counted zero (o ∷ os) [] es h = absurd h
put_counted (suc k) (o ∷ os) [] es h = absurd h
put_counted zero (o ∷ os) (d ∷ ds) [] h = absurd h
put_counted (suc k) (o ∷ os) (d ∷ ds) [] h = absurd h
put_counted zero (o ∷ os) (d ∷ ds) (e ∷ es) h =
    let rest : length es ≡ length ds = put_counted zero os ds es h.1 in omega (arith, rest)
put_counted (suc k) (o ∷ os) (d ∷ ds) (e ∷ es) h =
    let rest : length es ≡ length ds = put_counted k os ds es h.2 in omega (arith, rest)

-- the next column takes its rows
pub next_takes : (k : ℕ) (os ds es : List ColumnView) (d e : ColumnView) → AllMean TakesRows os ds
    → PutSoFar k os ds es → k < length ds → e ≡ get_or es k e → d ≡ get_or ds k d → TakesRows e d
next_takes k [] [] es d e t h lt at_e at_d = absurd (omega (arith, lt))
next_takes k [] (x ∷ ds) es d e t h lt at_e at_d = absurd t
next_takes k (o ∷ os) [] es d e t h lt at_e at_d = absurd t
next_takes zero (o ∷ os) (x ∷ ds) [] d e t h lt at_e at_d = absurd h
next_takes (suc k) (o ∷ os) (x ∷ ds) [] d e t h lt at_e at_d = absurd h
next_takes zero (o ∷ os) (x ∷ ds) (y ∷ es) d e t h lt at_e at_d =
    subst (λ z. TakesRows z d) (sym (at_e ∙ h.0)) (subst (TakesRows o) (sym at_d) t.0)
next_takes (suc k) (o ∷ os) (x ∷ ds) (y ∷ es) d e t h lt at_e at_d =
    next_takes k os ds es d e t.1 h.2 (omega (arith, lt)) at_e at_d

-- and its rows are put
pub put_more : (k j : ℕ) (os ds es : List ColumnView) (d o e : ColumnView) → j ≡ suc k
    → PutSoFar k os ds es → k < length ds → o ≡ get_or es k o → d ≡ get_or ds k d
    → e.dtype ≡ o.dtype → e.rows ≡ o.rows ++ d.rows → PutSoFar j os ds (slice_set es k e)
put_more k j os ds es d o e next h lt at_o at_d dtype rows =
    subst (λ (n : ℕ). PutSoFar n os ds (slice_set es k e)) (sym next)
    (go k os ds es h lt at_o at_d)
  where
    go : (l : ℕ) (ps qs rs : List ColumnView) → PutSoFar l ps qs rs → l < length qs
        → o ≡ get_or rs l o → d ≡ get_or qs l d → PutSoFar (suc l) ps qs (slice_set rs l e)
    go l ps [] rs h lt at_o at_d = absurd (omega (arith, lt))
    go zero [] (q ∷ qs) rs h lt at_o at_d = absurd h
    go (suc l) [] (q ∷ qs) rs h lt at_o at_d = absurd h
    go zero (p ∷ ps) (q ∷ qs) [] h lt at_o at_d = absurd h
    go (suc l) (p ∷ ps) (q ∷ qs) [] h lt at_o at_d = absurd h
    go zero (p ∷ ps) (q ∷ qs) (r ∷ rs) h lt at_o at_d =
        let was : o ≡ p = at_o ∙ h.0 in (
          dtype ∙ ap (λ (x : ColumnView). x.dtype) was,
          rows ∙ ap (λ (x : ColumnView). x.rows ++ d.rows) was
              ∙ ap (λ (x : ColumnView). p.rows ++ x.rows) at_d,
          h.1,
        )
    go (suc l) (p ∷ ps) (q ∷ qs) (r ∷ rs) h lt at_o at_d =
        (h.0, h.1, go l ps qs rs h.2 (omega (arith, lt)) at_o at_d)

-- a column of no row
pub none_run : (cs : List ColumnView) (t : Tree) (l : LogicalType) (d : ColumnView)
    → tree_type meaning t ≡ Some l → (d.dtype ≡ l) × (d.rows ≡ []) → HasTreeRows meaning cs 0 t d
none_run cs t l d typed none = record {
  dtype = typed ∙ ap Some (sym none.0);
  count = ap length none.1;
  each = λ i lt. absurd (omega (arith, lt));
}

-- the next column is moved after the others
pub moved : (os rest : List ColumnView) (d : ColumnView) → 0 < length rest → d ≡ get_or rest 0 d
    → (os ++ d ∷ []) ++ drop 1 rest ≡ os ++ rest
moved os [] d lt first = absurd (omega (arith, lt))
moved os (r ∷ rest) d lt first =
    append_assoc os (d ∷ []) rest ∙ ap (λ (x : ColumnView). os ++ x ∷ rest) first
