-- Truth values stay as they are where truth values are taken.
use Rattle.std.proofs.Common.{◌≡◌, true, false, ◌∷◌, [], Some, refl, ap, sym, ◌∙◌}
use Rattle.std.specs.Prelude.{is_some, List}
use Rattle.std.proofs.lemmas.Bool.{false≢true}
use Rattle.vortex_types.specs.declared.dtype.PType.TheVariants.{I64}
use Rattle.vortex_types.specs.LogicalTypes.{LogicalType, null_type, bool_type, integer_type}
use Rattle.vortex_types.specs.LogicalTypes.{text_type, bytes_type, struct_type, list_type}
use Rattle.vortex_types.specs.LogicalTypes.{fixed_size_list_type, map_type, is_integer_type}
use Rattle.vortex_operators.specs.declared.operators.Operator.{Operator}
use Rattle.vortex_operators.specs.declared.operators.Operator.TheVariants as operator
use Rattle.vortex_interface.specs.Shipped.BinaryFunction.{operator_type, both_bool}
use Rattle.vortex_interface.specs.Shipped.NotFunction.{not_type}
use Rattle.vortex_interface.specs.Eval.{tree_type}
use Rattle.vortex_sql_rows.specs.declared.types.Kind.TheVariants.{Truth}
use Rattle.vortex_sql_rows.specs.Types.{is_kind}
use Rattle.vortex_syntax.specs.declared.step.WrittenOperator.{WrittenOperator}
use Rattle.vortex_syntax.specs.declared.step.WrittenOperator.TheVariants as written
use Rattle.vortex_expressions.specs.Literals as literal
use Rattle.vortex_expressions.specs.Outcomes.{answers, and_then}
use Rattle.vortex_expressions.specs.Items.{Item, literal, bound, kinded, fraction, interval, Tree}
use Rattle.vortex_expressions.specs.Items.{meaning, settled, truth_type}
use Rattle.vortex_expressions.specs.Truths.{typed_truth, as_truth, truth_settled}
use Rattle.vortex_expressions.specs.Calls.{plain_joined, parts_joined}
use Rattle.vortex_expressions.specs.Writing.{written_operator}
use Rattle.vortex_expressions.proofs.Options.{some_is}
use Rattle.vortex_expressions.proofs.LiteralsBack.{Stands}
use Rattle.vortex_expressions.proofs.Beside.{Operand, settles, other_beside}

typed_stays : (ty : LogicalType) (t : Tree) → is_integer_type ty ≡ false
    → typed_truth (Some ty) t ≡ answers (bound t)
typed_stays (integer_type p n) t h = absurd (false≢true (sym h))
typed_stays null_type t h = refl
typed_stays (bool_type n) t h = refl
typed_stays (text_type n) t h = refl
typed_stays (bytes_type n) t h = refl
typed_stays (struct_type fs n) t h = refl
typed_stays (list_type u n) t h = refl
typed_stays (fixed_size_list_type u k n) t h = refl
typed_stays (map_type k v n) t h = refl

pub truth_stays : (i : Item) (t : Tree) (ty : LogicalType) → Stands i t → tree_type meaning t ≡ Some ty
    → is_integer_type ty ≡ false → as_truth i ≡ answers i
truth_stays (bound u) t ty st e h =
    ap (λ o. typed_truth o u) (ap (tree_type meaning) st ∙ e) ∙ typed_stays ty u h
truth_stays (kinded k u) t ty st e h = absurd st
truth_stays (fraction w) t ty st e h = absurd st
truth_stays (interval z) t ty st e h = absurd st
truth_stays (literal (literal.number w)) t ty st e h =
    let s = st.0 in
    let own : integer_type I64 false ≡ s.dtype =
    some_is (integer_type I64 false) s.dtype st.2 in
    let is : s.dtype ≡ ty = some_is s.dtype ty (ap (tree_type meaning) st.1 ∙ e) in
    absurd (false≢true (sym h ∙ sym (ap is_integer_type (own ∙ is))))
truth_stays (literal (literal.text bs)) t ty st e h = refl
truth_stays (literal (literal.truth b)) t ty st e h = refl
truth_stays (literal literal.null) t ty st e h = refl

-- a condition
pub truth_settles : (i : Item) (t : Tree) (ty : LogicalType) → Stands i t
    → tree_type meaning t ≡ Some ty → is_integer_type ty ≡ false → truth_settled i ≡ answers t
truth_settles i t ty st e h =
    ap (λ o. and_then o (settled truth_type)) (truth_stays i t ty st e h)
    ∙ settles truth_type i t ty st e (other_beside (bool_type false) ty refl)

-- Not, And and Or take truth values alone
pub not_takes : (ty : LogicalType) → is_some (not_type (ty ∷ [])) ≡ true
    → is_integer_type ty ≡ false
not_takes (integer_type p n) h = absurd (false≢true h)
not_takes null_type h = refl
not_takes (bool_type n) h = refl
not_takes (text_type n) h = refl
not_takes (bytes_type n) h = refl
not_takes (struct_type fs n) h = refl
not_takes (list_type u n) h = refl
not_takes (fixed_size_list_type u k n) h = refl
not_takes (map_type k v n) h = refl

first_takes : (t u : LogicalType) → is_some (both_bool (t ∷ u ∷ [])) ≡ true
    → is_integer_type t ≡ false
first_takes (integer_type p n) u h = absurd (false≢true h)
first_takes null_type u h = refl
first_takes (bool_type n) u h = refl
first_takes (text_type n) u h = refl
first_takes (bytes_type n) u h = refl
first_takes (struct_type fs n) u h = refl
first_takes (list_type v n) u h = refl
first_takes (fixed_size_list_type v k n) u h = refl
first_takes (map_type k v n) u h = refl

second_takes : (t u : LogicalType) → is_some (both_bool (t ∷ u ∷ [])) ≡ true
    → is_integer_type u ≡ false
second_takes (bool_type n) (integer_type p m) h = absurd (false≢true h)
second_takes (bool_type n) (bool_type m) h = refl
second_takes t u h = absurd (false≢true h)

pub condition_takes : (ty : LogicalType) → is_kind Truth ty ≡ true → is_integer_type ty ≡ false
condition_takes (integer_type p n) h = absurd (false≢true h)
condition_takes null_type h = refl
condition_takes (bool_type n) h = refl
condition_takes (text_type n) h = refl
condition_takes (bytes_type n) h = refl
condition_takes (struct_type fs n) h = refl
condition_takes (list_type u n) h = refl
condition_takes (fixed_size_list_type u k n) h = refl
condition_takes (map_type k v n) h = refl

-- so what a shipped operator joins stays as it is
truths_stay : {s t : Tree} (o : WrittenOperator) (x : Operand s) (y : Operand t)
    → is_some (both_bool (x.dtype ∷ y.dtype ∷ [])) ≡ true
    → and_then (as_truth x.item) (λ i. and_then (as_truth y.item) (parts_joined o i))
    ≡ parts_joined o x.item y.item
truths_stay {s} {t} o x y h =
    ap (λ v. and_then v (λ i. and_then (as_truth y.item) (parts_joined o i)))
    (truth_stays x.item s x.dtype x.stands x.typed (first_takes x.dtype y.dtype h))
    ∙ ap (λ v. and_then v (parts_joined o x.item))
    (truth_stays y.item t y.dtype y.stands y.typed (second_takes x.dtype y.dtype h))

pub parts_stay : {s t : Tree} (o : Operator) (x : Operand s) (y : Operand t)
    → is_some (operator_type o (x.dtype ∷ y.dtype ∷ [])) ≡ true
    → plain_joined (written_operator o) x.item y.item
    ≡ parts_joined (written_operator o) x.item y.item
parts_stay operator.And x y h = truths_stay written.And x y h
parts_stay operator.Or x y h = truths_stay written.Or x y h
parts_stay operator.Add x y h = refl
parts_stay operator.Sub x y h = refl
parts_stay operator.Mul x y h = refl
parts_stay operator.Div x y h = refl
parts_stay operator.Eq x y h = refl
parts_stay operator.NotEq x y h = refl
parts_stay operator.Lt x y h = refl
parts_stay operator.Lte x y h = refl
parts_stay operator.Gt x y h = refl
parts_stay operator.Gte x y h = refl
