-- The tokens of the syntax of a tree can be written.
use Rattle.std.proofs.Common.{◌≡◌, ℕ, suc, ◌<◌, ◌==◌, ◌^◌, Bool, true, false, List, [], ◌∷◌, ◌++◌}
use Rattle.std.proofs.Common.{length, Option, Some, None, refl, ap, sym, subst, ◌∙◌, arith, ℤ, pos}
use Rattle.std.proofs.Common.{negsuc, ◌||◌}
use Rattle.std.specs.Prelude.{codes, nat_le, if◌then◌else◌, ◌≤ℤ◌}
use Rattle.std.specs.List.{list_all}
use Rattle.std.specs.Char.{is_ascii_digit}
use Rattle.std.specs.Fmt.{decimal}
use Rattle.std.proofs.lemmas.Fmt.{digits_decimal, decimal_nonempty}
use Rattle.std.proofs.lemmas.Int.{ints}
use Rattle.std.proofs.lemmas.List.{append-nil}
use Rattle.std.proofs.lemmas.Bool.{and_parts}
use Rattle.std.proofs.lemmas.Bool.Decides.{nat_tests}
use Rattle.vortex_types.specs.declared.dtype.PType.{PType}
use Rattle.vortex_types.specs.declared.dtype.PType.TheVariants.{I8, I16, I32, I64, U8, U16, U32}
use Rattle.vortex_types.specs.declared.dtype.PType.TheVariants.{U64}
use Rattle.vortex_types.specs.LogicalTypes.{Fields, LogicalType, null_type, bool_type, integer_type}
use Rattle.vortex_types.specs.LogicalTypes.{text_type, bytes_type, struct_type, list_type}
use Rattle.vortex_types.specs.LogicalTypes.{fixed_size_list_type, map_type, is_nullable}
use Rattle.vortex_types.specs.TypeTexts.{ptype_text}
use Rattle.vortex_types.specs.Typing.{HasType, FitsPType, least_of, greatest_of}
use Rattle.vortex_types.specs.Values.{Value, null, truth, number, text, bytes, list}
use Rattle.vortex_interface.specs.Shipped.{Shipped, Binary, Not, NullTest, Cast, Between, Like}
use Rattle.vortex_interface.specs.Functions.{ours, custom}
use Rattle.vortex_interface.specs.Trees as trees
use Rattle.vortex_interface.specs.Trees.{place, held, leaf, constant, call, no_trees}
use Rattle.vortex_interface.specs.declared.options.EmptyOptions.{EmptyOptions}
use Rattle.vortex_standard.specs.declared.standard.Standard.{Standard}
use Rattle.vortex_cells.proofs.Numbers as numbers
use Rattle.vortex_syntax.specs.declared.token.Sign.TheVariants as sign
use Rattle.vortex_syntax.specs.Syntax.{Null}
use Rattle.vortex_syntax.specs.Tokens as token
use Rattle.vortex_syntax.specs.Tokens.{Token, nullable, quoted, sign}
use Rattle.vortex_syntax.specs.Syntax.{Syntax, operand, negative, typed, grouped, negated, tested}
use Rattle.vortex_syntax.specs.Syntax.{cast}
use Rattle.vortex_syntax.specs.Levels.{level, left, right, not_level, is_level, concat_level}
use Rattle.vortex_syntax.specs.Spelling.{spelling, operator_sign, type_token, like_sign}
use Rattle.vortex_expressions.specs.Writing.{null_test}
use Rattle.vortex_syntax.specs.Spelling.{escape_tokens}
use Rattle.vortex_syntax.specs.Keywords.{keyword_of}
use Rattle.vortex_syntax.specs.declared.pieces.Run.TheVariants.{Digits}
use Rattle.vortex_syntax.specs.Pieces.{behind, behind_fraction, behind_exponent, begins_number}
use Rattle.vortex_syntax.specs.Writing.{is_bare, is_word, IsNumber, name_token, text_token}
use Rattle.vortex_syntax.proofs.Runs.{behind_all}
use Rattle.vortex_syntax.specs.Writing.{doubled, IsWritable, AllWritable, is_sized}
use Rattle.vortex_standard.specs.Names.{name_of}
use Rattle.vortex_expressions.specs.Items.{Tree}
use Rattle.vortex_expressions.specs.Writing.{at_level, value_syntax, type_name, is_own_type}
use Rattle.vortex_expressions.specs.Writing.{of_type, joined_syntax, written_operator, is_within}
use Rattle.vortex_expressions.specs.Writing.{between_syntax, like_kind, escape_text, is_own_escape}
use Rattle.vortex_expressions.specs.Writing.{escape_written, matched_syntax, all_three, nth}
use Rattle.vortex_expressions.specs.Writing.{shipped_syntax, syntax_of, syntaxes_of, IsOver}
use Rattle.vortex_expressions.specs.Writing.{AllOver, all_present, named_syntax}
use Rattle.vortex_expressions.proofs.Options.{some_is, both_is, three_is, mapped_is, where_is}
use Rattle.vortex_expressions.proofs.SyntaxLevels.{literal_is, AllSyntax, at_place, with_syntax}
use Rattle.vortex_expressions.proofs.SyntaxLevels.{each_present}
use Rattle.vortex_expressions.proofs.NamedSyntax.{AllOf, spelled_from, call_spelled}
use Rattle.vortex_expressions.proofs.NamedSyntax.{spelling_named}
use Rattle.vortex_expressions.proofs.FunctionNames.{bare_name, unsized_name}

abbrev Trees : Type 0
Trees = trees.Trees Standard EmptyOptions

pub all_written : (ts us : List Token) → AllWritable ts → AllWritable us → AllWritable (ts ++ us)
all_written [] us h k = k
all_written (t ∷ ts) us h k = (h.0, all_written ts us h.1 k)

abbrev pub Writes : Syntax → Type 0
Writes a = AllWritable (spelling a)

name_written : (w : List ℕ) → IsWritable (name_token w)
name_written w = by (is_bare w) refl
  where
    by : (b : Bool) → is_bare w ≡ b → IsWritable (if b then token.name w else quoted (doubled 34 w))
    by true h = ap (λ b. b || is_sized w) h
    by false h = (w, refl)

no_point : (d : ℕ) → is_ascii_digit d ≡ true → (d == 46) ≡ false
no_point d h = grind (arith, nat_tests)

digits_written : (ds : List ℕ) → 0 < length ds → list_all is_ascii_digit ds ≡ true → IsNumber ds
digits_written [] some h = absurd (let k : ⊥ = omega (arith, some) in k)
digits_written (d ∷ ds) some h =
    let first : is_ascii_digit d ≡ true =
    (and_parts (is_ascii_digit d) (list_all is_ascii_digit ds) h).0 in
    let other = no_point d first in
    let begun : begins_number (d ∷ ds) ≡ true = rw other first in
    let none : behind Digits (d ∷ ds) ≡ [] =
    ap (behind Digits) (sym (append-nil (d ∷ ds))) ∙ behind_all Digits (d ∷ ds) [] h tt in
    (begun, ap (λ ys. behind_exponent (behind_fraction ys)) none)

pub decimal_written : (n : ℕ) → n < 2 ^ 64 → IsNumber (decimal n)
decimal_written n h =
    digits_written (decimal n) (decimal_nonempty n h) (digits_decimal numbers.own n h)

at_level_written : (l : ℕ) (a : Syntax) → Writes a → Writes (at_level l a)
at_level_written l a h = by (nat_le l (level a))
  where
    by : (b : Bool) → Writes (if b then a else grouped a)
    by true = h
    by false = (tt, all_written (spelling a) (sign sign.Close ∷ []) h (tt, tt))

null_written : (n : Bool) → AllWritable (null_test n)
null_written true = (tt, (tt, (tt, tt)))
null_written false = (tt, (tt, tt))

like_written : (n i : Bool) → AllWritable (like_sign (record { negated = n; case_insensitive = i }))
like_written true true = (tt, (tt, tt))
like_written true false = (tt, (tt, tt))
like_written false true = (tt, tt)
like_written false false = (tt, tt)

escape_written_is : (e : Option ℕ) → AllWritable (escape_tokens (escape_written e))
escape_written_is e = by (is_own_escape e)
  where
    by : (b : Bool)
        → AllWritable (escape_tokens (if b then None else Some (doubled 39 (escape_text e))))
    by true = tt
    by false = (tt, ((escape_text e, refl), tt))

-- the words of types
word_written : (w : List ℕ) (n : Bool) → is_bare w ≡ true → is_word w ≡ true
    → IsWritable (type_token w n)
word_written w true b h = h
word_written w false b h = ap (λ v. v || is_sized w) b

pub bool_written : (n : Bool) → IsWritable (type_token (codes "bool") n)
unfolding keyword_of
bool_written n = word_written (codes "bool") n refl refl

text_written : (n : Bool) → IsWritable (type_token (codes "utf8") n)
unfolding keyword_of
text_written n = word_written (codes "utf8") n refl refl

ptype_written : (p : PType) (n : Bool) → IsWritable (type_token (ptype_text p) n)
unfolding keyword_of
ptype_written I8 n = word_written (codes "i8") n refl refl
ptype_written I16 n = word_written (codes "i16") n refl refl
ptype_written I32 n = word_written (codes "i32") n refl refl
ptype_written I64 n = word_written (codes "i64") n refl refl
ptype_written U8 n = word_written (codes "u8") n refl refl
ptype_written U16 n = word_written (codes "u16") n refl refl
ptype_written U32 n = word_written (codes "u32") n refl refl
ptype_written U64 n = word_written (codes "u64") n refl refl

type_written : (t : LogicalType) (w : List ℕ) (n : Bool) → type_name t ≡ Some w
    → IsWritable (type_token w n)
type_written (bool_type m) w n e =
    subst (λ (v : List ℕ). IsWritable (type_token v n)) (some_is (codes "bool") w e)
    (bool_written n)
type_written (integer_type p m) w n e =
    subst (λ (v : List ℕ). IsWritable (type_token v n)) (some_is (ptype_text p) w e)
    (ptype_written p n)
type_written (text_type m) w n e =
    subst (λ (v : List ℕ). IsWritable (type_token v n)) (some_is (codes "utf8") w e)
    (text_written n)
type_written null_type w n e = absurd cc
type_written (bytes_type m) w n e = absurd cc
type_written (struct_type fs m) w n e = absurd cc
type_written (list_type t m) w n e = absurd cc
type_written (fixed_size_list_type t k m) w n e = absurd cc
type_written (map_type k v m) w n e = absurd cc

-- numbers of the integer types
pub least_low : (p : PType) → negsuc 9223372036854775807 ≤ℤ least_of p
least_low I8 = omega (arith, ints)
least_low I16 = omega (arith, ints)
least_low I32 = omega (arith, ints)
least_low I64 = omega (arith, ints)
least_low U8 = omega (arith, ints)
least_low U16 = omega (arith, ints)
least_low U32 = omega (arith, ints)
least_low U64 = omega (arith, ints)

pub greatest_high : (p : PType) → greatest_of p ≤ℤ pos 18446744073709551615
greatest_high I8 = omega (arith, ints)
greatest_high I16 = omega (arith, ints)
greatest_high I32 = omega (arith, ints)
greatest_high I64 = omega (arith, ints)
greatest_high U8 = omega (arith, ints)
greatest_high U16 = omega (arith, ints)
greatest_high U32 = omega (arith, ints)
greatest_high U64 = omega (arith, ints)

abbrev pub digits_in : ℤ → ℕ
digits_in (pos n) = n
digits_in (negsuc n) = suc n

pub fits_small : (p : PType) (z : ℤ) → FitsPType p z → digits_in z < 2 ^ 64
fits_small p (pos n) h = omega (arith, ints, h.1, greatest_high p)
fits_small p (negsuc n) h = omega (arith, ints, h.0, least_low p)

number_small : (t : LogicalType) (w : List ℕ) (z : ℤ) → type_name t ≡ Some w → HasType t (number z)
    → digits_in z < 2 ^ 64
number_small (integer_type p n) w z e h = fits_small p z h
number_small (bool_type n) w z e h = absurd h
number_small (text_type n) w z e h = absurd h
number_small null_type w z e h = absurd cc
number_small (bytes_type m) w z e h = absurd cc
number_small (struct_type fs m) w z e h = absurd cc
number_small (list_type t m) w z e h = absurd cc
number_small (fixed_size_list_type t k m) w z e h = absurd cc
number_small (map_type k v m) w z e h = absurd cc

value_written : (t : LogicalType) (v : Value) (w : List ℕ) (a : Syntax) → type_name t ≡ Some w
    → HasType t v → value_syntax v ≡ Some a → Writes a
value_written t null w a n h e = subst Writes (some_is (operand (sign sign.Null)) a e) (tt, tt)
value_written t (truth true) w a n h e =
    subst Writes (some_is (operand (sign sign.True)) a e) (tt, tt)
value_written t (truth false) w a n h e =
    subst Writes (some_is (operand (sign sign.False)) a e) (tt, tt)
value_written t (number (pos m)) w a n h e =
    subst Writes (some_is (operand (token.number (decimal m))) a e)
    (decimal_written m (number_small t w (pos m) n h), tt)
value_written t (number (negsuc m)) w a n h e =
    subst Writes (some_is (negative (decimal (suc m))) a e)
    (tt, (decimal_written (suc m) (number_small t w (negsuc m) n h), tt))
value_written t (text bs) w a n h e =
    subst Writes (some_is (operand (text_token bs)) a e) ((bs, refl), tt)
value_written t (bytes bs) w a n h e = absurd cc
value_written t (list vs) w a n h e = absurd cc

of_type_written : (t : LogicalType) (v : Syntax) (w : List ℕ) → type_name t ≡ Some w → Writes v
    → Writes (of_type t v w)
of_type_written t v w n h = by (is_own_type t)
  where
    by : (b : Bool) → Writes (if b then v else typed v w (is_nullable t))
    by true = h
    by false = all_written (spelling v) (sign sign.Typed ∷ type_token w (is_nullable t) ∷ []) h
        (tt, (type_written t w (is_nullable t) n, tt))

shipped_written : (s : Shipped) (os : List (Option Syntax)) (a : Syntax) → AllSyntax Writes os
    → shipped_syntax s os ≡ Some a → Writes a
shipped_written (Binary o) os a h e =
    let w = written_operator o in
    let m = both_is (joined_syntax w) (nth 0 os) (nth 1 os) a e in
    let x = at_level_written (left w) m.a (at_place Writes 0 os m.a h m.first) in
    let y = at_level_written (right w) m.b (at_place Writes 1 os m.b h m.second) in
    subst Writes m.made
    (all_written (spelling (at_level (left w) m.a))
    (sign (operator_sign w) ∷ spelling (at_level (right w) m.b)) x (tt, y))
shipped_written Not os a h e =
    let m = mapped_is (λ b. negated (at_level not_level b)) (nth 0 os) a e in
    subst Writes m.made (tt, at_level_written not_level m.a (at_place Writes 0 os m.a h m.there))
shipped_written (NullTest n) os a h e =
    let m = mapped_is (λ b. tested Null n (at_level is_level b)) (nth 0 os) a e in
    let x = at_level_written is_level m.a (at_place Writes 0 os m.a h m.there) in
    subst Writes m.made
    (all_written (spelling (at_level is_level m.a)) (null_test n) x (null_written n))
shipped_written Cast os a h e =
    let m = mapped_is (λ b. cast false b (codes "bool") true) (nth 0 os) a e in
    let x = at_place Writes 0 os m.a h m.there in
    subst Writes m.made (
      tt,
      (
        tt,
        all_written (spelling m.a)
            (sign sign.As ∷ nullable (codes "bool") ∷ sign sign.Close ∷ []) x
            (tt, (bool_written true, (tt, tt))),
      ),
    )
shipped_written (Between o) os a h e =
    let g = where_is (is_within o)
    (all_three between_syntax (nth 0 os) (nth 1 os) (nth 2 os)) a e in
    let m = three_is between_syntax (nth 0 os) (nth 1 os) (nth 2 os) a g.there in
    let x = at_level_written concat_level m.a (at_place Writes 0 os m.a h m.first) in
    let y = at_level_written concat_level m.b (at_place Writes 1 os m.b h m.second) in
    let z = at_level_written concat_level m.c (at_place Writes 2 os m.c h m.third) in
    let low = at_level concat_level m.b in
    let high = at_level concat_level m.c in
    subst Writes m.made
    (all_written (spelling (at_level concat_level m.a))
    (sign sign.Between ∷ (spelling low ++ (sign sign.And ∷ spelling high))) x
    (tt, all_written (spelling low) (sign sign.And ∷ spelling high) y (tt, z)))
shipped_written (Like o) os a h e =
    let m = both_is (matched_syntax o) (nth 0 os) (nth 1 os) a e in
    let x = at_level_written concat_level m.a (at_place Writes 0 os m.a h m.first) in
    let y = at_level_written concat_level m.b (at_place Writes 1 os m.b h m.second) in
    let ls = like_sign (like_kind o) in
    let es = escape_tokens (escape_written o.escape) in
    let p = spelling (at_level concat_level m.b) in
    subst Writes m.made
    (all_written (spelling (at_level concat_level m.a)) (ls ++ (p ++ es)) x
    (all_written ls (p ++ es) (like_written o.negated o.case_insensitive)
    (all_written p es y (escape_written_is o.escape))))

-- a call by its name
spelled_written : (a : Syntax) (bs : List Syntax) → Writes a → AllOf Writes bs
    → AllWritable (spelled_from a bs)
spelled_written a [] h k = all_written (spelling a) (sign sign.Close ∷ []) h (tt, tt)
spelled_written a (b ∷ bs) h k =
    all_written (spelling a) (sign sign.Comma ∷ spelled_from b bs) h
    (tt, spelled_written b bs k.0 k.1)

call_written : (bs : List Syntax) → AllOf Writes bs → AllWritable (call_spelled bs)
call_written [] h = (tt, tt)
call_written (a ∷ bs) h = spelled_written a bs h.0 h.1

named_written : (f : Standard) (bs : List Syntax) → AllOf Writes bs
    → Writes (named_syntax (name_of f) bs)
named_written f bs h =
    subst AllWritable (sym (spelling_named (name_of f) bs))
    ((bare_name f, unsized_name f), call_written bs h)

module _ (scope : Fields) where
  mutual
    pub written_of : (t : Tree) (a : Syntax) → IsOver scope t → syntax_of t ≡ Some a → Writes a
    written_of (leaf (place p name t)) a o e =
        subst Writes (some_is (operand (name_token name)) a e) (name_written name, tt)
    written_of (leaf (held c)) a o e = absurd o
    written_of (constant s) a o e =
        let m = literal_is s a e in
        subst Writes m.made
        (of_type_written s.dtype m.value m.word m.named
        (value_written s.dtype s.value m.word m.value m.named o m.says))
    written_of (call (ours s) ts) a o e =
        shipped_written s (syntaxes_of ts) a (all_written_of ts o.2) e
    written_of (call (custom f c) ts) a o e = let m =
        mapped_is (named_syntax (name_of f)) (all_present (syntaxes_of ts)) a e in
        subst Writes m.made
        (named_written f m.a
        (each_present Writes (syntaxes_of ts) m.a (all_written_of ts o.2) m.there))

    all_written_of : (ts : Trees) → AllOver scope ts → AllSyntax Writes (syntaxes_of ts)
    all_written_of no_trees o = tt
    all_written_of (trees.tree t ts) o =
        with_syntax Writes (syntax_of t) (syntaxes_of ts) (λ a e. written_of t a o.0 e)
        (all_written_of ts o.1)
