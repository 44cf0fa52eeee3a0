-- Columns and literals bind to what they were written from.
use Rattle.std.proofs.Common.{◌≡◌, ℕ, suc, ◌<◌, ◌^◌, Bool, true, false, cond, ◌==◌, ◌&&◌, not, List}
use Rattle.std.proofs.Common.{[], ◌∷◌, length, Some, refl, ap, sym, ◌∙◌, arith, option_map, nat_lt}
use Rattle.std.proofs.Common.{ℤ, pos, negsuc}
use Rattle.std.specs.Prelude.{codes, nat_le, if◌then◌else◌, IsUtf8}
use Rattle.std.specs.List.{list_all}
use Rattle.std.specs.Char.{is_ascii_digit}
use Rattle.std.specs.Str.{is_utf8}
use Rattle.std.specs.Fmt.{decimal}
use Rattle.std.specs.Int.Signed.{le_z}
use lib.Utf8.{encode}
use Rattle.std.proofs.lemmas.Bool.{lt-ltb, and_parts, and_from, false≢true}
use Rattle.std.proofs.lemmas.Bool.Decides.{nat_tests}
use Rattle.std.proofs.lemmas.Str.{is_utf8-from_IsUtf8, IsUtf8-from_ascii}
use Rattle.std.proofs.lemmas.Fmt.{digits_decimal, digits_value-decimal, decimal_nonempty}
use Rattle.std.proofs.lemmas.Fmt.{IsAscii-decimal, IsAscii-signed}
use Rattle.std.proofs.lemmas.Int.{ints}
use Rattle.vortex_types.specs.declared.dtype.PType.{PType}
use Rattle.vortex_types.specs.declared.dtype.PType.TheVariants.{I8, I16, I32, I64, U8, U16, U32}
use Rattle.vortex_types.specs.declared.dtype.PType.TheVariants.{U64}
use Rattle.vortex_types.specs.LogicalTypes.{Fields, LogicalType, null_type, bool_type, integer_type}
use Rattle.vortex_types.specs.LogicalTypes.{text_type, bytes_type, struct_type, list_type}
use Rattle.vortex_types.specs.LogicalTypes.{fixed_size_list_type, map_type, is_nullable, find_field}
use Rattle.vortex_types.specs.LogicalTypes.{with_nullability}
use Rattle.vortex_types.specs.TypeTexts.{ptype_text}
use Rattle.vortex_types.specs.ScalarView.{ScalarView}
use Rattle.vortex_types.specs.Typing.{HasType, FitsPType, least_of, greatest_of}
use Rattle.vortex_types.specs.Values as value
use Rattle.vortex_types.specs.Values.{Value}
use Rattle.vortex_interface.specs.Trees.{place, leaf, constant}
use Rattle.vortex_cells.specs.Ranges.{in_range}
use Rattle.vortex_expressions.specs.TypeNames.{named_type}
use Rattle.vortex_cells.specs.CellValues.{decimal_from, digits_of, integer_of}
use Rattle.vortex_cells.specs.CellValues as cells
use Rattle.vortex_cells.proofs.Numbers as numbers
use Rattle.vortex_syntax.specs.declared.token.Sign.TheVariants as sign
use Rattle.vortex_syntax.specs.Tokens as token
use Rattle.vortex_syntax.specs.Syntax.{Syntax, operand, negative, typed, grouped}
use Rattle.vortex_syntax.specs.Levels.{level}
use Rattle.vortex_syntax.specs.Writing.{is_bare, name_token, text_token, doubled}
use Rattle.vortex_expressions.specs.Literals as literal
use Rattle.vortex_expressions.specs.Literals.{Literal, own_type}
use Rattle.vortex_expressions.specs.Outcomes.{answers, and_then, or_refuses}
use Rattle.vortex_expressions.specs.declared.refusal.Refusal.TheVariants.{UnknownType}
use Rattle.vortex_expressions.specs.Items.{Item, literal, bound, kinded, Tree, constant_at}
use Rattle.vortex_expressions.specs.Items.{fraction, interval}
use Rattle.vortex_expressions.specs.Calls.{unquoted_behind, unquoted, text_of, between_quotes}
use Rattle.vortex_expressions.specs.Calls.{as_item, field_found, column_of, operand_item}
use Rattle.vortex_expressions.specs.Calls.{type_of_name, typed_item}
use Rattle.vortex_expressions.specs.Binding.{item_of}
use Rattle.vortex_expressions.specs.Writing.{at_level, value_syntax, type_name, is_i64, is_own_type}
use Rattle.vortex_expressions.specs.Writing.{literal_syntax}
use Rattle.vortex_expressions.proofs.Options.{some_is}
use Rattle.vortex_expressions.proofs.SyntaxLevels.{IsLiteral, literal_is}
use Rattle.vortex_expressions.proofs.SyntaxWritten.{fits_small, least_low}

-- texts that are read back
utf8_text : (bs : List ℕ) → IsUtf8 bs → text_of bs ≡ answers bs
utf8_text bs u = let k : is_utf8 bs ≡ true = is_utf8-from_IsUtf8 bs u in rw k refl

unquoted_step : (q b : ℕ) (ds : List ℕ) (v : Bool) → (b == q) ≡ v
    → unquoted_behind q false (cond v (b ∷ b ∷ ds) (b ∷ ds)) ≡ b ∷ unquoted_behind q false ds
unquoted_step q b ds true h = rw h refl
unquoted_step q b ds false h = rw h refl

unquoted_doubled : (q : ℕ) (bs : List ℕ) → unquoted q (doubled q bs) ≡ bs
unquoted_doubled q [] = refl
unquoted_doubled q (b ∷ bs) = unquoted_step q b (doubled q bs) (b == q) refl
    ∙ ap (λ ds. b ∷ ds) (unquoted_doubled q bs)

pub quoted_text : (q : ℕ) (bs : List ℕ) → IsUtf8 bs → between_quotes q (doubled q bs) ≡ answers bs
quoted_text q bs u = ap text_of (unquoted_doubled q bs) ∙ utf8_text bs u

-- an item of a tree: the tree, or a literal with its default type
abbrev pub Stands : Item → Tree → Type 0
Stands (bound u) t = u ≡ t
Stands (kinded k u) t = ⊥
Stands (fraction w) t = ⊥
Stands (interval z) t = ⊥
Stands (literal l) t = (s : ScalarView) × (constant s ≡ t) × (own_type l ≡ Some s.dtype)
    × (constant_at l s.dtype ≡ answers (constant s))

pub record Standing (scope : Fields) (a : Syntax) (t : Tree) : Type 0 where
  pub item : Item
  pub is : item_of scope a ≡ answers item
  pub stands : Stands item t

pub tree_standing : (scope : Fields) (a : Syntax) (t : Tree) → item_of scope a ≡ answers (bound t)
    → Standing scope a t
tree_standing scope a t e = record { item = bound t; is = e; stands = refl }

pub at_level_item : (scope : Fields) (l : ℕ) (a : Syntax)
    → item_of scope (at_level l a) ≡ item_of scope a
at_level_item scope l a = by (nat_le l (level a))
  where
    by : (b : Bool) → item_of scope (if b then a else grouped a) ≡ item_of scope a
    by true = refl
    by false = refl

-- columns
pub column_standing : (scope : Fields) (p : ℕ) (w : List ℕ) (t : LogicalType)
    → find_field w scope ≡ Some (p, t) → IsUtf8 w
    → operand_item scope (name_token w) ≡ answers (bound (leaf (place p w t)))
column_standing scope p w t h u = by (is_bare w)
  where
    found : field_found [] w (find_field w scope) ≡ answers (bound (leaf (place p w t)))
    found = ap (field_found [] w) h

    by : (b : Bool) → operand_item scope (if b then token.name w else token.quoted (doubled 34 w))
        ≡ answers (bound (leaf (place p w t)))
    by true = ap (λ o. and_then o (column_of scope)) (utf8_text w u) ∙ found
    by false = ap (λ o. and_then o (column_of scope)) (quoted_text 34 w u) ∙ found

-- numbers
digits_are : (ds : List ℕ) → 0 < length ds → list_all is_ascii_digit ds ≡ true
    → digits_of ds ≡ Some (decimal_from 0 ds)
digits_are ds some all = let k : nat_lt 0 (length ds) ≡ true = lt-ltb 0 (length ds) some in
    rw (k, all) refl

no_minus : (d : ℕ) → is_ascii_digit d ≡ true → (d == 45) ≡ false
no_minus d h = grind (arith, nat_tests)

integer_digits : (ds : List ℕ) (n : ℕ) → 0 < length ds → list_all is_ascii_digit ds ≡ true
    → decimal_from 0 ds ≡ n → integer_of ds ≡ Some (pos n)
integer_digits [] n some all e = absurd (let k : ⊥ = omega (arith, some) in k)
integer_digits (d ∷ ds) n some all e =
    let first = no_minus d (and_parts (is_ascii_digit d) (list_all is_ascii_digit ds) all).0 in
    rw first (ap (option_map pos) (digits_are (d ∷ ds) some all ∙ ap (λ m. Some m) e))

pub pos_back : (n : ℕ) → n < 2 ^ 64 → integer_of (decimal n) ≡ Some (pos n)
pos_back n h = integer_digits (decimal n) n (decimal_nonempty n h) (digits_decimal numbers.own n h)
    (digits_value-decimal numbers.own n h)

pub negsuc_back : (n : ℕ) → suc n < 2 ^ 64 → integer_of (45 ∷ decimal (suc n)) ≡ Some (negsuc n)
negsuc_back n h =
    let ds = decimal (suc n) in
    ap (option_map cells.negative)
    (digits_are ds (decimal_nonempty (suc n) h) (digits_decimal numbers.own (suc n) h)
    ∙ ap (λ m. Some m) (digits_value-decimal numbers.own (suc n) h))

is_in_range : (p : PType) (z : ℤ) → FitsPType p z → in_range p z ≡ true
is_in_range p z h =
    let low : le_z (least_of p) z ≡ true = grind (arith, ints, h.0) in
    let high : le_z z (greatest_of p) ≡ true = grind (arith, ints, h.1) in
    and_from (le_z (least_of p) z) (le_z z (greatest_of p)) low high

number_held : (p : PType) (n : Bool) (w : List ℕ) (z : ℤ) → integer_of w ≡ Some z → FitsPType p z
    → constant_at (literal.number w) (integer_type p n)
    ≡ answers (constant (record { dtype = integer_type p n; value = value.number z }))
number_held p n w z e h = let k = is_in_range p z h in rw (e, k) refl

-- a literal without its type
abbrev literal_of : Value → Literal
literal_of value.null = literal.null
literal_of (value.truth b) = literal.truth b
literal_of (value.number (pos n)) = literal.number (decimal n)
literal_of (value.number (negsuc n)) = literal.number (45 ∷ decimal (suc n))
literal_of (value.text bs) = literal.text bs
literal_of v = literal.null

number_fits : (t : LogicalType) (w : List ℕ) (z : ℤ) → type_name t ≡ Some w
    → HasType t (value.number z) → (p : PType) × (n : Bool) × (t ≡ integer_type p n) × FitsPType p z
number_fits (integer_type p n) w z e h = (p, n, refl, h)
number_fits (bool_type n) w z e h = absurd h
number_fits (text_type n) w z e h = absurd h
number_fits null_type w z e h = absurd cc
number_fits (bytes_type m) w z e h = absurd cc
number_fits (struct_type fs m) w z e h = absurd cc
number_fits (list_type t m) w z e h = absurd cc
number_fits (fixed_size_list_type t k m) w z e h = absurd cc
number_fits (map_type k v m) w z e h = absurd cc

text_is_utf8 : (t : LogicalType) (w bs : List ℕ) → type_name t ≡ Some w → HasType t (value.text bs)
    → IsUtf8 bs
text_is_utf8 (text_type n) w bs e h = h
text_is_utf8 (integer_type p n) w bs e h = absurd h
text_is_utf8 (bool_type n) w bs e h = absurd h
text_is_utf8 null_type w bs e h = absurd cc
text_is_utf8 (bytes_type m) w bs e h = absurd cc
text_is_utf8 (struct_type fs m) w bs e h = absurd cc
text_is_utf8 (list_type t m) w bs e h = absurd cc
text_is_utf8 (fixed_size_list_type t k m) w bs e h = absurd cc
text_is_utf8 (map_type k v m) w bs e h = absurd cc

minus_ascii : (p : PType) (n : ℕ) → FitsPType p (negsuc n) → IsUtf8 (45 ∷ decimal (suc n))
minus_ascii p n h =
    IsUtf8-from_ascii (45 ∷ decimal (suc n)) (IsAscii-signed (negsuc n) (least_mag p n h))
  where
    least_mag : (p : PType) (n : ℕ) → FitsPType p (negsuc n) → n < 2 ^ 63
    least_mag p n h = omega (arith, ints, h.0, least_low p)

value_item : (scope : Fields) (t : LogicalType) (v : Value) (w : List ℕ) (a : Syntax)
    → type_name t ≡ Some w → HasType t v → value_syntax v ≡ Some a
    → item_of scope a ≡ answers (literal (literal_of v))
value_item scope t value.null w a n h e =
    ap (item_of scope) (sym (some_is (operand (token.sign sign.Null)) a e))
value_item scope t (value.truth true) w a n h e =
    ap (item_of scope) (sym (some_is (operand (token.sign sign.True)) a e))
value_item scope t (value.truth false) w a n h e =
    ap (item_of scope) (sym (some_is (operand (token.sign sign.False)) a e))
value_item scope t (value.number (pos m)) w a n h e =
    let f = number_fits t w (pos m) n h in
    let small = fits_small f.0 (pos m) f.3 in
    ap (item_of scope) (sym (some_is (operand (token.number (decimal m))) a e))
    ∙ ap (λ o. and_then o (λ v. answers (literal (literal.number v))))
    (utf8_text (decimal m) (IsUtf8-from_ascii (decimal m) (IsAscii-decimal m small)))
value_item scope t (value.number (negsuc m)) w a n h e =
    let f = number_fits t w (negsuc m) n h in
    ap (item_of scope) (sym (some_is (negative (decimal (suc m))) a e))
    ∙ ap (λ o. and_then o (λ v. answers (literal (literal.number v))))
    (utf8_text (45 ∷ decimal (suc m)) (minus_ascii f.0 m f.3))
value_item scope t (value.text bs) w a n h e =
    ap (item_of scope) (sym (some_is (operand (text_token bs)) a e))
    ∙ ap (λ o. and_then o (λ v. answers (literal (literal.text v))))
    (quoted_text 39 bs (text_is_utf8 t w bs n h))
value_item scope t (value.bytes bs) w a n h e = absurd cc
value_item scope t (value.list vs) w a n h e = absurd cc

-- literals with their types
word_back : (w : List ℕ) (n : Bool) (t : LogicalType) → IsUtf8 w → named_type n w ≡ Some t
    → type_of_name w n ≡ answers t
word_back w n t u e =
    ap (λ o. and_then o (λ v. or_refuses UnknownType (named_type n v))) (utf8_text w u)
    ∙ ap (or_refuses UnknownType) e

ptype_back : (p : PType) (n : Bool) → type_of_name (ptype_text p) n ≡ answers (integer_type p n)
unfolding encode
ptype_back I8 n = word_back (codes "i8") n (integer_type I8 n) (codes "i8", (refl, refl)) refl
ptype_back I16 n = word_back (codes "i16") n (integer_type I16 n) (codes "i16", (refl, refl)) refl
ptype_back I32 n = word_back (codes "i32") n (integer_type I32 n) (codes "i32", (refl, refl)) refl
ptype_back I64 n = word_back (codes "i64") n (integer_type I64 n) (codes "i64", (refl, refl)) refl
ptype_back U8 n = word_back (codes "u8") n (integer_type U8 n) (codes "u8", (refl, refl)) refl
ptype_back U16 n = word_back (codes "u16") n (integer_type U16 n) (codes "u16", (refl, refl)) refl
ptype_back U32 n = word_back (codes "u32") n (integer_type U32 n) (codes "u32", (refl, refl)) refl
ptype_back U64 n = word_back (codes "u64") n (integer_type U64 n) (codes "u64", (refl, refl)) refl

pub bool_back : (n : Bool) → type_of_name (codes "bool") n ≡ answers (bool_type n)
unfolding encode
bool_back n = word_back (codes "bool") n (bool_type n) (codes "bool", (refl, refl)) refl

text_back : (n : Bool) → type_of_name (codes "utf8") n ≡ answers (text_type n)
unfolding encode
text_back n = word_back (codes "utf8") n (text_type n) (codes "utf8", (refl, refl)) refl

type_back : (t : LogicalType) (w : List ℕ) → type_name t ≡ Some w
    → type_of_name w (is_nullable t) ≡ answers t
type_back (bool_type n) w e = ap (λ v. type_of_name v n) (sym (some_is (codes "bool") w e))
    ∙ bool_back n
type_back (integer_type p n) w e = ap (λ v. type_of_name v n) (sym (some_is (ptype_text p) w e))
    ∙ ptype_back p n
type_back (text_type n) w e = ap (λ v. type_of_name v n) (sym (some_is (codes "utf8") w e))
    ∙ text_back n
type_back null_type w e = absurd cc
type_back (bytes_type m) w e = absurd cc
type_back (struct_type fs m) w e = absurd cc
type_back (list_type t m) w e = absurd cc
type_back (fixed_size_list_type t k m) w e = absurd cc
type_back (map_type k v m) w e = absurd cc

null_held : (t : LogicalType) (w : List ℕ) → type_name t ≡ Some w → HasType t value.null
    → with_nullability t true ≡ t
null_held (bool_type true) w e h = refl
null_held (bool_type false) w e h = absurd (false≢true h)
null_held (integer_type p true) w e h = refl
null_held (integer_type p false) w e h = absurd (false≢true h)
null_held (text_type true) w e h = refl
null_held (text_type false) w e h = absurd (false≢true h)
null_held null_type w e h = absurd cc
null_held (bytes_type m) w e h = absurd cc
null_held (struct_type fs m) w e h = absurd cc
null_held (list_type t m) w e h = absurd cc
null_held (fixed_size_list_type t k m) w e h = absurd cc
null_held (map_type k v m) w e h = absurd cc

truth_held : (t : LogicalType) (w : List ℕ) (b : Bool) → type_name t ≡ Some w
    → HasType t (value.truth b)
    → constant_at (literal.truth b) t
    ≡ answers (constant (record { dtype = t; value = value.truth b }))
truth_held (bool_type n) w true e h = refl
truth_held (bool_type n) w false e h = refl
truth_held (integer_type p n) w b e h = absurd h
truth_held (text_type n) w b e h = absurd h
truth_held null_type w b e h = absurd cc
truth_held (bytes_type m) w b e h = absurd cc
truth_held (struct_type fs m) w b e h = absurd cc
truth_held (list_type t m) w b e h = absurd cc
truth_held (fixed_size_list_type t k m) w b e h = absurd cc
truth_held (map_type k v m) w b e h = absurd cc

text_held : (t : LogicalType) (w bs : List ℕ) → type_name t ≡ Some w → HasType t (value.text bs)
    → constant_at (literal.text bs) t
    ≡ answers (constant (record { dtype = t; value = value.text bs }))
text_held (text_type n) w bs e h = refl
text_held (bool_type n) w bs e h = absurd h
text_held (integer_type p n) w bs e h = absurd h
text_held null_type w bs e h = absurd cc
text_held (bytes_type m) w bs e h = absurd cc
text_held (struct_type fs m) w bs e h = absurd cc
text_held (list_type t m) w bs e h = absurd cc
text_held (fixed_size_list_type t k m) w bs e h = absurd cc
text_held (map_type k v m) w bs e h = absurd cc

number_held_at : (t : LogicalType) (w v : List ℕ) (z : ℤ) → type_name t ≡ Some w
    → HasType t (value.number z) → integer_of v ≡ Some z
    → constant_at (literal.number v) t
    ≡ answers (constant (record { dtype = t; value = value.number z }))
number_held_at (integer_type p n) w v z e h k = number_held p n v z k h
number_held_at (bool_type n) w v z e h k = absurd h
number_held_at (text_type n) w v z e h k = absurd h
number_held_at null_type w v z e h k = absurd cc
number_held_at (bytes_type m) w v z e h k = absurd cc
number_held_at (struct_type fs m) w v z e h k = absurd cc
number_held_at (list_type t m) w v z e h k = absurd cc
number_held_at (fixed_size_list_type t j m) w v z e h k = absurd cc
number_held_at (map_type j u m) w v z e h k = absurd cc

literal_held : (t : LogicalType) (w : List ℕ) (v : Value) (a : Syntax) → type_name t ≡ Some w
    → HasType t v → value_syntax v ≡ Some a
    → constant_at (literal_of v) t ≡ answers (constant (record { dtype = t; value = v }))
literal_held t w value.null a e h k =
    ap (λ u. answers (constant (record { dtype = u; value = value.null }))) (null_held t w e h)
literal_held t w (value.truth b) a e h k = truth_held t w b e h
literal_held t w (value.text bs) a e h k = text_held t w bs e h
literal_held t w (value.number (pos m)) a e h k =
    let f = number_fits t w (pos m) e h in
    number_held_at t w (decimal m) (pos m) e h (pos_back m (fits_small f.0 (pos m) f.3))
literal_held t w (value.number (negsuc m)) a e h k =
    let f = number_fits t w (negsuc m) e h in
    number_held_at t w (45 ∷ decimal (suc m)) (negsuc m) e h
    (negsuc_back m (fits_small f.0 (negsuc m) f.3))
literal_held t w (value.bytes bs) a e h k = absurd cc
literal_held t w (value.list vs) a e h k = absurd cc

i64_only : (p : PType) (n : Bool) → (is_i64 p && not n) ≡ true
    → integer_type I64 false ≡ integer_type p n
i64_only I64 false h = refl
i64_only I64 true h = absurd (false≢true h)
i64_only p n h = absurd (false≢true h)

number_own : (t : LogicalType) (w v : List ℕ) (z : ℤ) → type_name t ≡ Some w
    → HasType t (value.number z) → is_own_type t ≡ true → own_type (literal.number v) ≡ Some t
number_own (integer_type p n) w v z e h o = ap (λ u. Some u) (i64_only p n o)
number_own (bool_type n) w v z e h o = absurd h
number_own (text_type n) w v z e h o = absurd h
number_own null_type w v z e h o = absurd cc
number_own (bytes_type m) w v z e h o = absurd cc
number_own (struct_type fs m) w v z e h o = absurd cc
number_own (list_type t m) w v z e h o = absurd cc
number_own (fixed_size_list_type t k m) w v z e h o = absurd cc
number_own (map_type k u m) w v z e h o = absurd cc

never_null : (n : Bool) → not n ≡ true → n ≡ true → ⊥
never_null true o h = false≢true o
never_null false o h = false≢true h

null_own : (t : LogicalType) (w : List ℕ) → type_name t ≡ Some w → HasType t value.null
    → is_own_type t ≡ true → ⊥
null_own (bool_type n) w e h o = never_null n o h
null_own (integer_type p n) w e h o = never_null n (and_parts (is_i64 p) (not n) o).1 h
null_own (text_type n) w e h o = never_null n o h
null_own null_type w e h o = cc
null_own (bytes_type m) w e h o = cc
null_own (struct_type fs m) w e h o = cc
null_own (list_type t m) w e h o = cc
null_own (fixed_size_list_type t k m) w e h o = cc
null_own (map_type k u m) w e h o = cc

truth_own : (t : LogicalType) (w : List ℕ) (b : Bool) → type_name t ≡ Some w
    → HasType t (value.truth b) → is_own_type t ≡ true → own_type (literal.truth b) ≡ Some t
truth_own (bool_type true) w b e h o = absurd (false≢true o)
truth_own (bool_type false) w b e h o = refl
truth_own (integer_type p n) w b e h o = absurd h
truth_own (text_type n) w b e h o = absurd h
truth_own null_type w b e h o = absurd cc
truth_own (bytes_type m) w b e h o = absurd cc
truth_own (struct_type fs m) w b e h o = absurd cc
truth_own (list_type t m) w b e h o = absurd cc
truth_own (fixed_size_list_type t k m) w b e h o = absurd cc
truth_own (map_type k u m) w b e h o = absurd cc

text_own : (t : LogicalType) (w bs : List ℕ) → type_name t ≡ Some w → HasType t (value.text bs)
    → is_own_type t ≡ true → own_type (literal.text bs) ≡ Some t
text_own (text_type true) w bs e h o = absurd (false≢true o)
text_own (text_type false) w bs e h o = refl
text_own (bool_type n) w bs e h o = absurd h
text_own (integer_type p n) w bs e h o = absurd h
text_own null_type w bs e h o = absurd cc
text_own (bytes_type m) w bs e h o = absurd cc
text_own (struct_type fs m) w bs e h o = absurd cc
text_own (list_type t m) w bs e h o = absurd cc
text_own (fixed_size_list_type t k m) w bs e h o = absurd cc
text_own (map_type k u m) w bs e h o = absurd cc

literal_own : (t : LogicalType) (w : List ℕ) (v : Value) (a : Syntax) → type_name t ≡ Some w
    → HasType t v → value_syntax v ≡ Some a → is_own_type t ≡ true
    → own_type (literal_of v) ≡ Some t
literal_own t w value.null a e h k o = absurd (null_own t w e h o)
literal_own t w (value.truth b) a e h k o = truth_own t w b e h o
literal_own t w (value.number (pos m)) a e h k o = number_own t w (decimal m) (pos m) e h o
literal_own t w (value.number (negsuc m)) a e h k o =
    number_own t w (45 ∷ decimal (suc m)) (negsuc m) e h o
literal_own t w (value.text bs) a e h k o = text_own t w bs e h o
literal_own t w (value.bytes bs) a e h k o = absurd cc
literal_own t w (value.list vs) a e h k o = absurd cc

-- a literal, from what it was written from
module _ (scope : Fields) (s : ScalarView) (a : Syntax) (h : HasType s.dtype s.value)
    (m : IsLiteral s a) where
  literal_read : item_of scope m.value ≡ answers (literal (literal_of s.value))
  literal_read = value_item scope s.dtype s.value m.word m.value m.named h m.says

  held_there : constant_at (literal_of s.value) s.dtype ≡ answers (constant s)
  held_there = literal_held s.dtype m.word s.value m.value m.named h m.says

  constant_by : (b : Bool) → is_own_type s.dtype ≡ b
      → (if b then m.value else typed m.value m.word (is_nullable s.dtype)) ≡ a
      → Standing scope a (constant s)
  constant_by true o g = record {
    item = literal (literal_of s.value);
    is = ap (item_of scope) (sym g) ∙ literal_read;
    stands = (s, refl, literal_own s.dtype m.word s.value m.value m.named h m.says o, held_there);
  }
  constant_by false o g =
      tree_standing scope a (constant s)
      (ap (item_of scope) (sym g)
      ∙ ap (λ i. and_then i (typed_item m.word (is_nullable s.dtype))) literal_read
      ∙ ap (λ t. as_item (and_then t (constant_at (literal_of s.value))))
      (type_back s.dtype m.word m.named)
      ∙ ap as_item held_there)

pub constant_standing : (scope : Fields) (s : ScalarView) (a : Syntax) → HasType s.dtype s.value
    → literal_syntax s ≡ Some a → Standing scope a (constant s)
constant_standing scope s a h e = let m = literal_is s a e in
    constant_by scope s a h m (is_own_type s.dtype) refl m.made
