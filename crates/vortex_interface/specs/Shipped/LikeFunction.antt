-- SQL's LIKE of a text and a pattern, and ILIKE ignoring case; either may be negated.
use Rattle.std.specs.Prelude.{◌≡◌, ℕ, zero, suc, List, [], ◌∷◌, Option, Some, None, Bool, true}
use Rattle.std.specs.Prelude.{◌++◌, false, ◌||◌, ◌==◌, codes, Any, if◌then◌else◌, refl}
use Rattle.std.specs.Prelude.{encode_utf8}
use Rattle.std.specs.Str.{bytes_eq}
use Rattle.std.proofs.Common.{sym, ap, ◌∙◌, subst, inl, inr}
use Rattle.vortex_errors.specs.declared.error.MismatchPlace.{MismatchPlace}
use Rattle.vortex_errors.specs.declared.error.MismatchPlace.TheVariants as place
use Rattle.vortex_types.specs.LogicalTypes.{LogicalType, bool_type, text_type, is_nullable}
use Rattle.vortex_types.specs.Values.{Value, null, text}
use Rattle.vortex_types.specs.Typing.{HasType}
use Rattle.vortex_like.specs.declared.options.LikeOptions.{LikeOptions}
use Rattle.vortex_like.specs.Tokens.{backslash}
use Rattle.vortex_like.specs.Patterns.{like_value}
use Rattle.vortex_interface.specs.Outcomes.{gives}
use Rattle.vortex_interface.specs.Meaning.{HaveTypes}
use Rattle.vortex_interface.specs.Arguments.{of_two, two_there, either_of, or_either}
use Rattle.vortex_interface.specs.Arguments.{null_of_two}
use Rattle.vortex_interface.specs.RowFunction.{RowFunction, LawfulRow}

abbrev pub like_id : List ℕ
like_id = codes "vortex.like"

abbrev pub like_argument : ℕ → List ℕ
like_argument zero = codes "child"
like_argument (suc i) = codes "pattern"

-- Bool for two texts, nullable if either is
abbrev pub like_type : List LogicalType → Option LogicalType
like_type (text_type n ∷ text_type m ∷ []) = Some (bool_type (n || m))
like_type ts = None

-- the error for the input comes before that for the pattern
abbrev pub like_place : List LogicalType → MismatchPlace
like_place (text_type n ∷ ts) = place.LikePattern
like_place ts = place.LikeInput

-- the words between the two arguments, by negated and case_insensitive
abbrev pub words_by : Bool → Bool → List ℕ
words_by false false = codes " like "
words_by true false = codes " not like "
words_by false true = codes " ilike "
words_by true true = codes " not ilike "

abbrev pub like_words : LikeOptions → List ℕ
like_words options = words_by options.negated options.case_insensitive

-- the escape after them, in quotes, or empty quotes for none; the backslash is not printed
abbrev pub escape_text : Option ℕ → List ℕ
escape_text None = codes " escape ''"
escape_text (Some e) =
    if e == backslash then [] else codes " escape '" ++ encode_utf8 e ++ codes "'"

-- the words between the two arguments, and the text of the escape
abbrev pub like_before : LikeOptions → ℕ → List ℕ
like_before options zero = []
like_before options (suc zero) = like_words options
like_before options (suc (suc k)) = escape_text options.escape

abbrev pub like_function : LikeOptions → RowFunction
like_function options = record {
  id = like_id;
  count = 2;
  child_name = like_argument;
  return_type = like_type;
  place = λ ts. Some (like_place ts);
  means = λ ts vs. gives (of_two (like_value options) vs);
  strict = true;
  infallible = true;
  before = like_before options;
  printed = λ k. k;
  added = λ nullable. 5;
}

abbrev pub like_options : Bool → Bool → Option ℕ → LikeOptions
like_options negated case_insensitive escape =
    record { negated = negated; case_insensitive = case_insensitive; escape = escape }

-- the words of scripts, with the backslash as the escape
abbrev pub like_word : List ℕ → Option LikeOptions
like_word w =
    if bytes_eq w (codes "like") then Some (like_options false false (Some backslash))
    else (if bytes_eq w (codes "not_like") then Some (like_options true false (Some backslash))
    else (if bytes_eq w (codes "ilike") then Some (like_options false true (Some backslash))
    else (if bytes_eq w (codes "not_ilike") then Some (like_options true true (Some backslash))
    else None)))

abbrev pub like_named : List (List ℕ) → Option LikeOptions
like_named (w ∷ []) = like_word w
like_named ws = None

-- the same options with that escape
abbrev pub with_escape : LikeOptions → Option ℕ → LikeOptions
with_escape options escape = like_options options.negated options.case_insensitive escape

module _ (options : LikeOptions) where
  pair_typed : (n m : Bool) (v w : Value) → HasType (text_type n) v → HasType (text_type m) w
      → HasType (bool_type (n || m)) (like_value options v w)
  pair_typed n m (text bs) (text p) h k = tt
  pair_typed n m (text bs) null h k = or_either n m (inr k)
  pair_typed n m (text bs) w h k = absurd k
  pair_typed n m null w h k = or_either n m (inl h)
  pair_typed n m v w h k = absurd h

  like_typed : (ts : List LogicalType) (t : LogicalType) (vs : List Value)
      → like_type ts ≡ Some t → HaveTypes ts vs → HasType t (of_two (like_value options) vs)
  like_typed (text_type n ∷ text_type m ∷ []) t vs e h =
      let is : bool_type (n || m) ≡ t = cc in
      two_there (text_type n) (text_type m) (λ us. HasType t (of_two (like_value options) us))
      (λ v w p q. subst (λ (u : LogicalType). HasType u (like_value options v w)) is
      (pair_typed n m v w p q)) vs h
  like_typed ts t vs e h = cc

  null_pattern : (v : Value) → like_value options v null ≡ null
  null_pattern null = refl
  null_pattern v = refl

like_nullable : (ts : List LogicalType) (t : LogicalType)
    → like_type ts ≡ Some t → Any (λ a. is_nullable a ≡ true) ts → is_nullable t ≡ true
like_nullable (text_type n ∷ text_type m ∷ []) t e a =
    let is : bool_type (n || m) ≡ t = cc in
    let one = either_of (λ u. is_nullable u ≡ true) (text_type n) (text_type m) a in
    ap is_nullable (sym is) ∙ or_either n m one
like_nullable ts t e a = cc

pub like_lawful : (options : LikeOptions) → LawfulRow (like_function options)
like_lawful options = record {
  typed = like_typed options;
  alike = λ ts us t u vs e g a h k. refl;
  strict_type = λ ts t s e a. like_nullable ts t e a;
  strict_value = λ ts t vs s e h a.
      null_of_two (like_value options) (λ w. refl) (null_pattern options) vs a;
  never_faults = λ ts t vs s e h. tt;
  one_fault = λ ts us vs ws x y e g. cc;
}

-- the number of the options, in the code of trees: that of the two flags, plus four times that of
-- the escape: no escape, then the character 0, then 1 and so on
abbrev pub number_by : Bool → Bool → ℕ
number_by false false = 0
number_by true false = 1
number_by false true = 2
number_by true true = 3

abbrev pub steps_to : Option ℕ → ℕ
steps_to None = 0
steps_to (Some e) = suc e

abbrev pub fours : ℕ → ℕ → ℕ
fours zero n = n
fours (suc k) n = suc (suc (suc (suc (fours k n))))

abbrev pub like_number : LikeOptions → ℕ
like_number options =
    fours (steps_to options.escape) (number_by options.negated options.case_insensitive)

abbrev pub next_escape : Option ℕ → Option ℕ
next_escape None = Some 0
next_escape (Some e) = Some (suc e)

abbrev pub with_next_escape : LikeOptions → LikeOptions
with_next_escape options = with_escape options (next_escape options.escape)

abbrev pub like_numbered : ℕ → LikeOptions
like_numbered zero = like_options false false None
like_numbered (suc zero) = like_options true false None
like_numbered (suc (suc zero)) = like_options false true None
like_numbered (suc (suc (suc zero))) = like_options true true None
like_numbered (suc (suc (suc (suc n)))) = with_next_escape (like_numbered n)

none_back : (n c : Bool) → like_numbered (number_by n c) ≡ like_options n c None
none_back false false = refl
none_back true true = refl
none_back n c = refl

some_back : (e : ℕ) (n c : Bool)
    → like_numbered (fours (suc e) (number_by n c)) ≡ like_options n c (Some e)
some_back zero n c = ap with_next_escape (none_back n c)
some_back (suc e) n c = ap with_next_escape (some_back e n c)

back_by : (e : Option ℕ) (n c : Bool)
    → like_numbered (fours (steps_to e) (number_by n c)) ≡ like_options n c e
back_by None n c = none_back n c
back_by (Some e) n c = some_back e n c

pub like_back : (options : LikeOptions) → like_numbered (like_number options) ≡ options
like_back options = back_by options.escape options.negated options.case_insensitive
