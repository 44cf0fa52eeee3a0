-- Statistics whose ends lie farther out.
use Rattle.std.proofs.Common.{◌≡◌, ℕ, List, true, false, refl, sym, ap, subst, length}
use Rattle.std.proofs.Common.{◌∙◌}
use Rattle.std.specs.Prelude.{Option, Some, None, IfSome, MatchOption, option_map, slice_index_or}
use Rattle.std.specs.Prelude.{count_by, unwrap_or}
use Rattle.std.specs.Borrow.{Bor}
use Rattle.vortex_statistics.specs.declared.end.End.{End}
use Rattle.vortex_statistics.specs.Parts.{end_view}
use Rattle.vortex_types.specs.LogicalTypes.{LogicalType}
use Rattle.vortex_types.specs.Values.{Value, is_null}
use Rattle.vortex_types.specs.ValueOf.{value_of}
use Rattle.vortex_types.specs.declared.scalar_value.ScalarValue.{ScalarValue}
use Rattle.vortex_columns.specs.ColumnView.{ColumnView, AreTyped}
use Rattle.vortex_statistics.specs.StatisticsView.{EndView, StatisticsView}
use Rattle.vortex_statistics.specs.Describes.{Describes, IsLowEnd, IsHighEnd}
use Rattle.vortex_statistics.specs.Measured.{Measures}
use Rattle.vortex_statistics.proofs.ValueOrder.{at_most_trans}
use Rattle.rowfn_index.specs.declared.measured.ColumnEnds.{ColumnEnds}
use Rattle.rowfn_index.specs.Measured.{outer_view, ends_view, LiesBelow, LiesAbove}

low_widened : (vs : List Value) (low : Option ScalarValue) (e : Option EndView) → LiesBelow low e
    → IfSome e (IsLowEnd false vs) → IfSome (option_map outer_view low) (IsLowEnd false vs)
low_widened vs None e h p = tt
low_widened vs (Some v) None h p = absurd h
low_widened vs (Some v) (Some e) h p =
    record {
      outermost = λ k d lt q.
          at_most_trans (value_of v) e.value (slice_index_or vs k d) h (p.outermost k d lt q);
      found = λ x. cc;
    }

high_widened : (vs : List Value) (high : Option ScalarValue) (e : Option EndView) → LiesAbove high e
    → IfSome e (IsHighEnd false vs) → IfSome (option_map outer_view high) (IsHighEnd false vs)
high_widened vs None e h p = tt
high_widened vs (Some v) None h p = absurd h
high_widened vs (Some v) (Some e) h p =
    record {
      outermost = λ k d lt q.
          at_most_trans (slice_index_or vs k d) e.value (value_of v) (p.outermost k d lt q) h;
      found = λ x. cc;
    }

-- they describe the rows that the statistics of a column describe
pub widened : (c : ColumnView) (s : StatisticsView) (ends : ColumnEnds) → Measures c s
    → Describes s c.rows → s.nulls ≡ Some ends.nulls → LiesBelow ends.low s.low
    → LiesAbove ends.high s.high → Describes (ends_view c.dtype (length c.rows) ends) c.rows
widened c s ends m d nulls low high =
    record {
      typed = subst (λ (t : LogicalType). AreTyped t c.rows) m.dtype d.typed;
      rows = refl;
      nulls =
          subst (λ (n : Option ℕ). IfSome n (λ k. count_by is_null c.rows ≡ k)) nulls d.nulls;
      low =
          low_widened c.rows ends.low s.low low
          (subst (λ b. IfSome s.low (IsLowEnd b c.rows)) m.skips_nan d.low);
      high =
          high_widened c.rows ends.high s.high high
          (subst (λ b. IfSome s.high (IsHighEnd b c.rows)) m.skips_nan d.high);
    }

-- an end that is borrowed, if there is one
pub shown : (o : Option (Bor End)) (e : Option EndView)
    → MatchOption o (e ≡ None) (λ x. e ≡ Some (end_view x.now))
    → option_map (λ x. end_view x.now) o ≡ e
shown None e h = sym h
shown (Some x) e h = sym h

-- a count that is known
pub counted : (o p : Option ℕ) (r k : ℕ) → o ≡ p → p ≡ Some k → r ≡ unwrap_or o 0 → p ≡ Some r
counted o p r k same known is =
    let r_is : r ≡ k = is ∙ ap (λ (x : Option ℕ). unwrap_or x 0) (same ∙ known) in
    known ∙ ap (λ (x : ℕ). Some x) (sym r_is)
