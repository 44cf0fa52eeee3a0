-- Exact ranges of leaves, literals and truth values.
use Rattle.std.specs.Prelude.{◌≡◌, ◌||◌, ℕ, zero, suc, ◌<◌, List, [], ◌∷◌, Bool, true, false}
use Rattle.std.specs.Prelude.{Option, Some, slice_get, refl}
use Rattle.std.proofs.Common.{sym, ap, ◌∙◌, subst}
use Rattle.vortex_types.specs.LogicalTypes.{LogicalType, bool_type, integer_type}
use Rattle.vortex_types.specs.LogicalTypes.{text_type, bytes_type}
use Rattle.vortex_types.specs.ScalarView.{ScalarView}
use Rattle.vortex_types.specs.Values.{Value, null, truth, number, text, bytes, list}
use Rattle.vortex_types.specs.Typing.{HasType}
use Rattle.vortex_columns.specs.ColumnView.{ColumnView, row}
use Rattle.vortex_statistics.specs.StatisticsView.{StatisticsView, AreConsistent}
use Rattle.vortex_statistics.specs.Extremes.{is_measured}
use Rattle.vortex_interface.specs.Outcomes.{gives}
use Rattle.vortex_interface.specs.Meaning.{Meaning}
use Rattle.vortex_interface.specs.Trees.{place, Tree, leaf, constant}
use Rattle.vortex_interface.specs.Eval.{rows_or_none}
use Rattle.vortex_ranges.specs.Ranges.{RangeView, is_above, may_be}
use Rattle.vortex_ranges.specs.Truths.{truths}
use Rattle.vortex_ranges.specs.Described.{IsDescribed, DescribeAll, described, literal_range}
use Rattle.vortex_ranges.proofs.Above.{not_under, not_over, not_itself}
use Rattle.vortex_pruning.specs.Exact.{IsReached, Gives, IsValueOf, HasEnds, IsExact}
use Rattle.vortex_pruning.specs.Sharpness.{HasRoom}
use Rattle.vortex_pruning.proofs.DescribedColumns.{described_column}
use Rattle.vortex_pruning.proofs.SoleValues.{one_value}
use Rattle.vortex_pruning.proofs.FirstRows.{described_ends, first_value, first_null}

-- the columns with another one in a place
put : ℕ → ColumnView → List ColumnView → List ColumnView
put k c [] = []
put zero c (d ∷ ds) = c ∷ ds
put (suc k) c (d ∷ ds) = d ∷ put k c ds

put_described : (n : ℕ) (ss : List StatisticsView) (cs : List ColumnView) (p : ℕ)
    (s : StatisticsView) (c : ColumnView) → DescribeAll n ss cs → slice_get ss p ≡ Some s
    → IsDescribed n s c → DescribeAll n ss (put p c cs) × (slice_get (put p c cs) p ≡ Some c)
unfolding put
put_described n [] cs p s c d e h = cc
put_described n (x ∷ ss) [] p s c d e h = absurd d
put_described n (x ∷ ss) (y ∷ cs) zero s c d e h =
    let is : s ≡ x = cc in
    ((subst (λ (z : StatisticsView). IsDescribed n z c) is h, d.1), refl)
put_described n (x ∷ ss) (y ∷ cs) (suc p) s c d e h =
    let rest = put_described n ss cs p s c d.1 e h in ((d.0, rest.0), rest.1)

sure_true : (u n y : Bool) → may_be (truths u n y) (truth true) ≡ true → y ≡ true
sure_true u n true e = refl
sure_true u true false e = cc
sure_true u false false e = cc

sure_false : (u n y : Bool) → may_be (truths u n y) (truth false) ≡ true → n ≡ true
sure_false u true y e = refl
sure_false u false true e = cc
sure_false u false false e = cc

truth_ends : (b u n y : Bool) → (n || y) ≡ true → HasEnds (bool_type b) (truths u n y)
truth_ends b u true y e =
    record {
      low = truth false;
      is_low = refl;
      low_value = record { typed = tt; valid = refl };
      low_inside = by y;
      high = record { typed = tt; valid = refl };
    }
  where
    by : (y : Bool) → is_above (truth false) (truth y) ≡ false
    by true = refl
    by false = refl
truth_ends b u false true e =
    record {
      low = truth true;
      is_low = refl;
      low_value = record { typed = tt; valid = refl };
      low_inside = refl;
      high = record { typed = tt; valid = refl };
    }
truth_ends b u false false e = cc

module _ {V O : Type 0} (m : Meaning V O) (n : ℕ) (ss : List StatisticsView)
    (base : List ColumnView) (d : DescribeAll n ss base) (some : 0 < n) where
  abbrev pub Reaches : Tree V O → Value → Type 0
  Reaches t v = IsReached m n ss t (Gives v)

  abbrev Exact : Tree V O → LogicalType → RangeView → Type 0
  Exact t k r = IsExact m n ss t k r

  module _ (p : ℕ) (name : List ℕ) (s : StatisticsView) (at : slice_get ss p ≡ Some s)
      (consistent : AreConsistent s) (measured : is_measured s.dtype ≡ true)
      (room : HasRoom n s) where
    put_first : (v : Value) → (col : ColumnView) × IsDescribed n s col × (row col.rows 0 ≡ v)
        → Reaches (leaf (place p name s.dtype)) v
    put_first v a =
        let b = put_described n ss base p s a.0 d at a.1 in
        record {
          columns = put p a.0 base;
          described = b.0;
          here =
              ap (λ (o : Option ColumnView). gives (row (rows_or_none o) 0)) b.1 ∙ ap gives a.2;
        }

    pub leaf_exact : Exact (leaf (place p name s.dtype)) s.dtype (described n s)
    leaf_exact =
        let col = described_column n ss base p s d at in
        record {
          measured = measured;
          faultless = refl;
          nulls = λ e.
              put_first null (first_null n s consistent measured col.0 col.2 some room e);
          values = λ v h e.
              put_first v (first_value n s consistent measured col.0 col.2 some room v h e);
          ends = λ e. described_ends n s consistent measured;
        }

  at_base : (s : ScalarView) → Reaches (constant s) s.value
  at_base s = record { columns = base; described = d; here = refl }

  sole_exact : (k : LogicalType) (v : Value) → is_measured k ≡ true → IsValueOf k v
      → (r : RangeView)
      → r ≡ record {
        may_fault = false;
        may_be_null = false;
        may_be_value = true;
        low = Some v;
        high = Some v;
      }
      → Exact (constant (record { dtype = k; value = v })) k r
  sole_exact k v measured h r is =
      subst (λ (q : RangeView). Exact (constant (record { dtype = k; value = v })) k q) (sym is)
      (record {
        measured = measured;
        faultless = refl;
        nulls = λ e. cc;
        values = λ w g e.
            subst (λ (x : Value). Reaches (constant (record { dtype = k; value = v })) x)
            (one_value v w (not_under (Some v) (Some v) w e) (not_over (Some v) (Some v) w e))
            (at_base (record { dtype = k; value = v }));
        ends = λ e.
            record {
              low = v;
              is_low = refl;
              low_value = h;
              low_inside = not_itself v;
              high = h;
            };
      })

  pub literal_exact : (k : LogicalType) (v : Value) → is_measured k ≡ true → HasType k v
      → Exact (constant (record { dtype = k; value = v })) k (literal_range v)
  literal_exact k null measured h =
      record {
        measured = measured;
        faultless = refl;
        nulls = λ e. at_base (record { dtype = k; value = null });
        values = λ w g e. cc;
        ends = λ e. cc;
      }
  literal_exact k (truth b) measured h =
      sole_exact k (truth b) measured (record { typed = h; valid = refl }) _ refl
  literal_exact k (number z) measured h =
      sole_exact k (number z) measured (record { typed = h; valid = refl }) _ refl
  literal_exact k (text bs) measured h =
      sole_exact k (text bs) measured (record { typed = h; valid = refl }) _ refl
  literal_exact k (bytes bs) measured h =
      sole_exact k (bytes bs) measured (record { typed = h; valid = refl }) _ refl
  literal_exact (bool_type b) (list vs) measured h = absurd h
  literal_exact (integer_type p b) (list vs) measured h = absurd h
  literal_exact (text_type b) (list vs) measured h = absurd h
  literal_exact (bytes_type b) (list vs) measured h = absurd h
  literal_exact k (list vs) measured h = cc

  -- a range of truth values, of which each that may be is reached
  pub truths_exact : (t : Tree V O) (b u f y : Bool) → (u ≡ true → Reaches t null)
      → (f ≡ true → Reaches t (truth false)) → (y ≡ true → Reaches t (truth true))
      → Exact t (bool_type b) (truths u f y)
  truths_exact t b u f y p q r =
      record {
        measured = refl;
        faultless = refl;
        nulls = p;
        values = by;
        ends = truth_ends b u f y;
      }
    where
      by : (v : Value) → IsValueOf (bool_type b) v → may_be (truths u f y) v ≡ true → Reaches t v
      by null h e = let never : true ≡ false = h.valid in cc
      by (truth true) h e = r (sure_true u f y e)
      by (truth false) h e = q (sure_false u f y e)
      by (number z) h e = absurd h.typed
      by (text bs) h e = absurd h.typed
      by (bytes bs) h e = absurd h.typed
      by (list vs) h e = absurd h.typed
