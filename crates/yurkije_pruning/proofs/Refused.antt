-- Why statistics are refused, by what is refused of their parts.
use Rattle.std.proofs.Common.{◌≡◌, ◌<◌, ℕ, suc, List, [], ◌∷◌, ◌++◌, length, take, get_or, Some}
use Rattle.std.proofs.Common.{sym, subst, refl, inl}
use Rattle.std.specs.Prelude.{◌≢◌, slice_get}
use Rattle.std.proofs.lemmas.Option.{slice_get-get_or}
use Rattle.vortex_types.specs.LogicalTypes.{LogicalType, Fields, field_count, field_type}
use Rattle.vortex_interface.specs.Meaning.{Meaning}
use Rattle.vortex_interface.specs.Trees.{Tree}
use Rattle.vortex_pruning.specs.declared.groups.FieldStatistics.{FieldStatistics}
use Rattle.vortex_pruning.specs.Groups.{AllFrom}
use Rattle.vortex_pruning.proofs.GroupsPruned.{all_more}
use Rattle.yurkije_columns.specs.declared.borrowed.BorrowedColumn.{BorrowedColumn}
use Rattle.yurkije_pruning.specs.declared.lent.BorrowedStatistics.{BorrowedStatistics}
use Rattle.yurkije_pruning.specs.declared.error.PartFault.{PartFault}
use Rattle.yurkije_pruning.specs.declared.error.PartFault.TheVariants as fault
use Rattle.yurkije_pruning.specs.declared.error.PruneError.{PruneError}
use Rattle.yurkije_pruning.specs.declared.error.PruneError.TheVariants as error
use Rattle.yurkije_pruning.specs.Lent.{IsTyped, RefusesType, RefusesRead, RefusesPart}
use Rattle.yurkije_pruning.specs.Lent.{IsField, RefusesField, RefusesCount, RefusesStatistics, type_in, column_in}
use Rattle.yurkije_pruning.specs.Lent.{number_in}
use Rattle.yurkije_columns.specs.Kinds.{number_at}
use Rattle.vortex_logical.specs.declared.kind.Kind.{Kind}
use Rattle.yurkije_pruning.specs.Pruning.{RefusesLent}

module _ (t : LogicalType) (m n : ℕ) (c : BorrowedColumn) (some : c.rows ≢ 0) where
  pub type_refused : (f : PartFault) → RefusesType t m c f → RefusesPart t m n c f
  type_refused fault.UnknownKind r = (some, r)
  type_refused fault.OtherType r = (some, r)
  type_refused (fault.OtherLength l) r = absurd r
  type_refused (fault.Unread e) r = absurd r

  pub read_refused : (f : PartFault) → IsTyped t m c → c.rows ≡ n → RefusesRead c f
      → RefusesPart t m n c f
  read_refused fault.UnknownKind typed counted r = (some, r)
  read_refused fault.OtherType typed counted r = absurd r
  read_refused (fault.OtherLength l) typed counted r = absurd r
  read_refused (fault.Unread e) typed counted r = (some, typed, counted, r)

module _ (scope : Fields) (kinds : List Kind) (n : ℕ) (ss : List BorrowedStatistics) where
  pub count_refused : (e : PruneError) → RefusesCount scope ss e → RefusesStatistics scope kinds n ss e
  count_refused error.NoCondition r = r
  count_refused (error.Missing k) r = r
  count_refused (error.Unasked k) r = r
  count_refused (error.Column k p f) r = absurd r
  count_refused (error.Groups e) r = absurd r

  pub field_refused : (k : ℕ) (d : BorrowedStatistics) (t : LogicalType) (m : ℕ) (e : PruneError)
      → length ss ≡ field_count scope → k < length ss → t ≡ field_type k scope
      → m ≡ number_at kinds k → RefusesField k t m n (get_or ss k d) e → RefusesStatistics scope kinds n ss e
  field_refused k d t m error.NoCondition each lt is means r = r
  field_refused k d t m (error.Missing j) each lt is means r = absurd r
  field_refused k d t m (error.Unasked j) each lt is means r = absurd r
  field_refused k d t m (error.Column j p f) each lt is means r = record {
    each = each;
    lent = get_or ss k d;
    there = subst (λ (i : ℕ). slice_get ss i ≡ Some (get_or ss k d)) (sym r.0) (slice_get-get_or ss k d lt);
    refused = let c = column_in p (get_or ss k d) in
        subst
        (λ (i : ℕ).
        RefusesPart (type_in p (field_type i scope)) (number_in p (number_at kinds i)) n c f)
        (sym r.0)
        (subst (λ (u : LogicalType). RefusesPart (type_in p u) (number_in p (number_at kinds k)) n c f)
        is
        (subst (λ (l : ℕ). RefusesPart (type_in p t) (number_in p l) n c f) means r.1));
  }
  field_refused k d t m (error.Groups e) each lt is means r = r

-- one field more
pub field_more : (scope : Fields) (kinds : List Kind) (n : ℕ) (ss : List BorrowedStatistics) (fs : List FieldStatistics)
    (k j : ℕ) (d : BorrowedStatistics) (f : FieldStatistics) (t : LogicalType) (m : ℕ)
    → j ≡ suc k → k < length ss → t ≡ field_type k scope → m ≡ number_at kinds k
    → AllFrom (λ i s g. IsField (field_type i scope) (number_at kinds i) n s g) 0 (take k ss) fs
    → IsField t m n (get_or ss k d) f
    → AllFrom (λ i s g. IsField (field_type i scope) (number_at kinds i) n s g) 0 (take j ss)
    (fs ++ f ∷ [])
field_more scope kinds n ss fs k j d f t m next lt is means so_far here =
    all_more (λ i s g. IsField (field_type i scope) (number_at kinds i) n s g) d (get_or ss k d) f ss
    fs k j next lt refl so_far
    (subst (λ (u : LogicalType). IsField u (number_at kinds k) n (get_or ss k d) f) is
    (subst (λ (l : ℕ). IsField t l n (get_or ss k d) f) means here))

-- statistics that are refused of a tree that is a condition
pub statistics_refused : {V O : Type 0} (m : Meaning V O) (scope : Fields)
    (kinds : List Kind) (ss : List BorrowedStatistics) (t : Tree V O) (ns : List ℕ) (e : PruneError)
    → RefusesStatistics scope kinds (length ns) ss e → RefusesLent m scope kinds ss t ns e
statistics_refused m scope kinds ss t ns error.NoCondition r = absurd r
statistics_refused m scope kinds ss t ns (error.Missing k) r = r
statistics_refused m scope kinds ss t ns (error.Unasked k) r = r
statistics_refused m scope kinds ss t ns (error.Column k p f) r = r
statistics_refused m scope kinds ss t ns (error.Groups e) r = inl r
