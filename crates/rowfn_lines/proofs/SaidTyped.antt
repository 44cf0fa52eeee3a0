-- The values of a line have its types: the values of a column, and a literal's.
use Rattle.std.proofs.Common.{◌≡◌, ◌==◌, ℕ, zero, suc, ◌+◌, ◌<◌, Bool, true, false, Option, Some}
use Rattle.std.proofs.Common.{None, List, [], ◌∷◌, ◌++◌, ℤ, length, drop, get_or, refl, sym, ap}
use Rattle.std.proofs.Common.{subst, ◌∙◌, arith, tests, append_assoc, if◌then◌else◌}
use Rattle.std.specs.Prelude.{⊤, IsUtf8, codes}
use Rattle.std.specs.Option.{option_and_then, option_map}
use Rattle.std.specs.Str.{chars, is_utf8, bytes_eq}
use Rattle.std.proofs.lemmas.List.{get_or_at, length-append, take_at, drop_at}
use Rattle.std.proofs.lemmas.Str.{IsUtf8-from_is_utf8, IsUtf8-take, IsUtf8-drop}
use Rattle.std.proofs.lemmas.Str.{IsCharBoundary-before_ascii, IsCharBoundary-after_ascii}
use Rattle.vortex_types.specs.declared.dtype.PType.{PType}
use Rattle.vortex_types.specs.LogicalTypes.{LogicalType, null_type, bool_type, integer_type}
use Rattle.vortex_types.specs.LogicalTypes.{text_type, bytes_type, struct_type, list_type}
use Rattle.vortex_types.specs.LogicalTypes.{fixed_size_list_type, map_type, is_nullable}
use Rattle.vortex_types.specs.LogicalTypes.{is_text_type}
use Rattle.vortex_types.specs.Values.{Value, null, truth, number, text}
use Rattle.vortex_types.specs.Typing.{HasType}
use Rattle.vortex_types.specs.ScalarView.{ScalarView}
use Rattle.vortex_columns.specs.ColumnView.{ColumnView, AreTyped}
use Rattle.vortex_cells.specs.Ranges.{in_range}
use Rattle.rowfn_lines.specs.Lines.{Word, plain, quoted, with_word, words_of, in_word, in_quotes}
use Rattle.rowfn_lines.specs.Lines.{after_quotes, after_spaces}
use Rattle.rowfn_lines.specs.Commands.{Command, nothing, malformed, rows, column, get, literal}
use Rattle.rowfn_lines.specs.Commands.{call, show, optimize, run_after, begins_comment}
use Rattle.vortex_cells.specs.Escapes.{escape_of}
use Rattle.rowfn_lines.specs.Commands.{is_name}
use Rattle.vortex_cells.specs.CellValues.{number_where, integer_of, value_of_text, cell_value}
use Rattle.vortex_cells.specs.CellValues.{cell_values, if_cells, with_first}
use Rattle.rowfn_lines.specs.Commands.{cell_of, cells_of}
use Rattle.vortex_cells.specs.CellValues.{fit_column, column_of, column_of_cells, literal_of_cell}
use Rattle.vortex_cells.specs.CellValues.{column_where}
use Rattle.rowfn_lines.specs.Commands.{written_column, written_literal, only_word}
use Rattle.rowfn_lines.specs.Commands.{or_malformed, rows_command, count_of, limit_of, name_of}
use Rattle.vortex_cells.specs.TypeWords.{type_of_word}
use Rattle.rowfn_lines.specs.Commands.{column_command, literal_command, get_command}
use Rattle.rowfn_lines.specs.Commands.{call_of, call_command, alone, run_command, command_by}
use Rattle.rowfn_lines.specs.Commands.{command_of_words, command_of_text, command_of}
use Rattle.vortex_cells.proofs.Numbers.{fits}

-- bytes in quotes are a text
abbrev IsTextIn : Word → Type 0
IsTextIn (plain w) = ⊤
IsTextIn (quoted w) = IsUtf8 w

abbrev AreTexts : List Word → Type 0
AreTexts [] = ⊤
AreTexts (w ∷ ws) = IsTextIn w × AreTexts ws

-- a text may be cut on both sides of an ASCII byte
cut_beside : (xs ys : List ℕ) (b : ℕ) → b < 128 → IsUtf8 (xs ++ b ∷ ys) → IsUtf8 xs × IsUtf8 ys
cut_beside xs ys b small u =
    let bs = xs ++ b ∷ ys in
    let n = length xs in
    let here : get_or bs n 0 ≡ b = get_or_at xs b ys 0 n refl in
    let within : n < length bs = omega (arith, length-append xs (b ∷ ys)) in
    let ascii : get_or bs n 0 < 128 = omega (arith, here, small) in
    let one : length (xs ++ b ∷ []) ≡ n + 1 = omega (arith, length-append xs (b ∷ [])) in
    let rest : drop (n + 1) bs ≡ ys =
    ap (drop (n + 1)) (sym (append_assoc xs (b ∷ []) ys)) ∙ drop_at (xs ++ b ∷ []) ys (n + 1) one in
    let before = IsUtf8-take bs n u (IsCharBoundary-before_ascii bs n within ascii) in
    let after = IsUtf8-drop bs (n + 1) u (IsCharBoundary-after_ascii bs n u within ascii) in
    (subst IsUtf8 (take_at xs (b ∷ ys) n refl) before, subst IsUtf8 rest after)

cut_at : (xs ys : List ℕ) (b c : ℕ) → (b == c) ≡ true → c < 128 → IsUtf8 (xs ++ b ∷ ys)
    → IsUtf8 xs × IsUtf8 ys
cut_at xs ys b c e small u =
    let same : b ≡ c = grind (arith, tests) in
    cut_beside xs ys b (omega (arith, same, small)) u

longer : (xs ys : List ℕ) (b : ℕ) → IsUtf8 (xs ++ b ∷ ys) → IsUtf8 ((xs ++ b ∷ []) ++ ys)
longer xs ys b u = subst IsUtf8 (sym (append_assoc xs (b ∷ []) ys)) u

texts_with : (w : Word) (o : Option (List Word)) (ws : List Word) → with_word w o ≡ Some ws
    → IsTextIn w → ((more : List Word) → o ≡ Some more → AreTexts more) → AreTexts ws
texts_with w None ws e h k = cc
texts_with w (Some more) ws e h k =
    let is : w ∷ more ≡ ws = cc in
    subst AreTexts is (h, k more refl)

texts_by : (b : ℕ) (bs : List ℕ) (ws : List Word) (c d : Bool) → (b == 32) ≡ c → (b == 34) ≡ d
    → IsUtf8 (b ∷ bs) → (IsUtf8 bs → words_of bs ≡ Some ws → AreTexts ws)
    → (IsUtf8 bs → in_quotes [] bs ≡ Some ws → AreTexts ws)
    → (in_word (b ∷ []) bs ≡ Some ws → AreTexts ws)
    → (if c then words_of bs else (if d then in_quotes [] bs else in_word (b ∷ []) bs)) ≡ Some ws
    → AreTexts ws
texts_by b bs ws true d g k u s q p e = s (cut_at [] bs b 32 g (omega arith) u).1 e
texts_by b bs ws false true g k u s q p e = q (cut_at [] bs b 34 k (omega arith) u).1 e
texts_by b bs ws false false g k u s q p e = p e

plain_by : (w : List ℕ) (b : ℕ) (bs : List ℕ) (ws : List Word) (c : Bool) → (b == 32) ≡ c
    → IsUtf8 (w ++ b ∷ bs)
    → (IsUtf8 bs → (more : List Word) → words_of bs ≡ Some more → AreTexts more)
    → (IsUtf8 ((w ++ b ∷ []) ++ bs) → in_word (w ++ b ∷ []) bs ≡ Some ws → AreTexts ws)
    → (if c then with_word (plain w) (words_of bs) else in_word (w ++ b ∷ []) bs) ≡ Some ws
    → AreTexts ws
plain_by w b bs ws true g u s p e =
    texts_with (plain w) (words_of bs) ws e tt (s (cut_at w bs b 32 g (omega arith) u).1)
plain_by w b bs ws false g u s p e = p (longer w bs b u) e

quoted_by : (w : List ℕ) (b : ℕ) (bs : List ℕ) (ws : List Word) (c : Bool) → (b == 34) ≡ c
    → IsUtf8 (w ++ b ∷ bs)
    → (IsUtf8 w → IsUtf8 bs → after_quotes w bs ≡ Some ws → AreTexts ws)
    → (IsUtf8 ((w ++ b ∷ []) ++ bs) → in_quotes (w ++ b ∷ []) bs ≡ Some ws → AreTexts ws)
    → (if c then after_quotes w bs else in_quotes (w ++ b ∷ []) bs) ≡ Some ws
    → AreTexts ws
quoted_by w b bs ws true g u s p e =
    let parts = cut_at w bs b 34 g (omega arith) u in s parts.0 parts.1 e
quoted_by w b bs ws false g u s p e = p (longer w bs b u) e

closed_by : (w : List ℕ) (b : ℕ) (bs : List ℕ) (ws : List Word) (c : Bool) → (b == 32) ≡ c
    → IsUtf8 w → IsUtf8 (b ∷ bs)
    → (IsUtf8 bs → (more : List Word) → words_of bs ≡ Some more → AreTexts more)
    → (if c then with_word (quoted w) (words_of bs) else None) ≡ Some ws → AreTexts ws
closed_by w b bs ws true g u v s e =
    texts_with (quoted w) (words_of bs) ws e u (s (cut_at [] bs b 32 g (omega arith) v).1)
closed_by w b bs ws false g u v s e = cc

mutual
  texts : (line : List ℕ) → IsUtf8 line → (ws : List Word) → words_of line ≡ Some ws → AreTexts ws
  texts [] u ws e = let is : [] ≡ ws = cc in subst AreTexts is tt
  texts (b ∷ bs) u ws e =
      texts_by b bs ws (b == 32) (b == 34) refl refl u (λ v. texts bs v ws)
      (λ v. texts_quoted [] bs v ws) (texts_plain (b ∷ []) bs u ws) e

  texts_plain : (w line : List ℕ) → IsUtf8 (w ++ line) → (ws : List Word)
      → in_word w line ≡ Some ws → AreTexts ws
  texts_plain w [] u ws e =
      let is : plain w ∷ [] ≡ ws = cc in subst AreTexts is (tt, tt)
  texts_plain w (b ∷ bs) u ws e =
      plain_by w b bs ws (b == 32) refl u (texts bs) (λ v. texts_plain (w ++ b ∷ []) bs v ws) e

  texts_quoted : (w line : List ℕ) → IsUtf8 (w ++ line) → (ws : List Word)
      → in_quotes w line ≡ Some ws → AreTexts ws
  texts_quoted w [] u ws e = cc
  texts_quoted w (b ∷ bs) u ws e =
      quoted_by w b bs ws (b == 34) refl u (λ v x. texts_closed w bs v x ws)
      (λ v. texts_quoted (w ++ b ∷ []) bs v ws) e

  texts_closed : (w line : List ℕ) → IsUtf8 w → IsUtf8 line → (ws : List Word)
      → after_quotes w line ≡ Some ws → AreTexts ws
  texts_closed w [] u v ws e =
      let is : quoted w ∷ [] ≡ ws = cc in subst AreTexts is (u, tt)
  texts_closed w (b ∷ bs) u v ws e = closed_by w b bs ws (b == 32) refl u v (texts bs) e

spaces_by : (b : ℕ) (bs : List ℕ) (c : Bool) → (b == 32) ≡ c → IsUtf8 (b ∷ bs)
    → (IsUtf8 bs → IsUtf8 (after_spaces bs)) → IsUtf8 (if c then after_spaces bs else b ∷ bs)
spaces_by b bs true g u h = h (cut_at [] bs b 32 g (omega arith) u).1
spaces_by b bs false g u h = u

text_after : (line : List ℕ) → IsUtf8 line → IsUtf8 (after_spaces line)
text_after [] u = u
text_after (b ∷ bs) u = spaces_by b bs (b == 32) refl u (text_after bs)

-- null is a value of each nullable type
null_typed : (t : LogicalType) → is_nullable t ≡ true → HasType t null
null_typed null_type h = refl
null_typed (bool_type n) h = h
null_typed (integer_type p n) h = h
null_typed (text_type n) h = h
null_typed (bytes_type n) h = h
null_typed (struct_type fs n) h = h
null_typed (list_type t n) h = h
null_typed (fixed_size_list_type t s n) h = h
null_typed (map_type k v n) h = h

truth_by : (n a b : Bool) (v : Value)
    → (if a then Some (truth true) else (if b then Some (truth false) else None)) ≡ Some v
    → HasType (bool_type n) v
truth_by n true b v e = let is : truth true ≡ v = cc in subst (HasType (bool_type n)) is tt
truth_by n false true v e = let is : truth false ≡ v = cc in subst (HasType (bool_type n)) is tt
truth_by n false false v e = cc

number_by : (p : PType) (n : Bool) (z : ℤ) (v : Value) (b : Bool) → in_range p z ≡ b
    → number_where b z ≡ Some v → HasType (integer_type p n) v
number_by p n z v true h e =
    let is : number z ≡ v = cc in subst (HasType (integer_type p n)) is (fits p z h)
number_by p n z v false h e = cc

number_typed : (p : PType) (n : Bool) (o : Option ℤ) (v : Value)
    → option_and_then (λ z. number_where (in_range p z) z) o ≡ Some v
    → HasType (integer_type p n) v
number_typed p n None v e = cc
number_typed p n (Some z) v e = number_by p n z v (in_range p z) refl e

-- the text of a cell of texts is one
abbrev IsTextOf : LogicalType → Option (List ℕ) → Type 0
IsTextOf t None = ⊤
IsTextOf t (Some w) = is_text_type t ≡ true → IsUtf8 w

abbrev AreTextsOf : LogicalType → List (Option (List ℕ)) → Type 0
AreTextsOf t [] = ⊤
AreTextsOf t (c ∷ cs) = IsTextOf t c × AreTextsOf t cs

cell_said : (t : LogicalType) (w : Word) (c : Option (List ℕ)) → IsTextIn w
    → cell_of t w ≡ Some c → IsTextOf t c
cell_said t (quoted w) c h e = by (is_text_type t) e
  where
    by : (b : Bool) → (if b then Some (Some w) else None) ≡ Some c → IsTextOf t c
    by true g = let is : Some w ≡ c = cc in subst (IsTextOf t) is (λ x. h)
    by false g = cc
cell_said t (plain w) c h e = by (bytes_eq w (codes "null")) (is_text_type t) refl e
  where
    by : (a b : Bool) → is_text_type t ≡ b
        → (if a then Some None else (if b then None else Some (Some w))) ≡ Some c → IsTextOf t c
    by true b k g = let is : None ≡ c = cc in subst (IsTextOf t) is tt
    by false true k g = cc
    by false false k g =
        let is : Some w ≡ c = cc in subst (IsTextOf t) is (λ x. absurd (cc (sym x ∙ k)))

value_typed : (t : LogicalType) (w : List ℕ) (v : Value) → (is_text_type t ≡ true → IsUtf8 w)
    → value_of_text t w ≡ Some v → HasType t v
value_typed (bool_type n) w v h e =
    truth_by n (bytes_eq w (codes "true")) (bytes_eq w (codes "false")) v e
value_typed (integer_type p n) w v h e = number_typed p n (integer_of w) v e
value_typed (text_type n) w v h e =
    let is : text w ≡ v = cc in subst (HasType (text_type n)) is (h refl)
value_typed t w v h e = cc

cell_typed : (t : LogicalType) (c : Option (List ℕ)) (v : Value) → IsTextOf t c
    → cell_value t c ≡ Some v → HasType t v
cell_typed t (Some w) v h e = value_typed t w v h e
cell_typed t None v h e = by (is_nullable t) refl e
  where
    by : (b : Bool) → is_nullable t ≡ b → (if b then Some null else None) ≡ Some v → HasType t v
    by true g k = let is : null ≡ v = cc in subst (HasType t) is (null_typed t g)
    by false g k = cc

one_more : (t : LogicalType) (v : Value) (vs : List Value) → HasType t v → AreTyped t vs
    → AreTyped t (v ∷ vs)
one_more t v vs h k zero d lt = h
one_more t v vs h k (suc i) d lt = k i d (omega arith)

first_parts : {A : Type 0} (a : Option A) (b : Option (List A)) (ys : List A)
    → with_first a b ≡ Some ys
    → (x : A) × (xs : List A) × (a ≡ Some x) × (b ≡ Some xs) × (x ∷ xs ≡ ys)
first_parts None b ys e = cc
first_parts (Some x) None ys e = cc
first_parts (Some x) (Some xs) ys e = (x, xs, refl, refl, cc)

cells_said : (t : LogicalType) (ws : List Word) → AreTexts ws → (cs : List (Option (List ℕ)))
    → cells_of t ws ≡ Some cs → AreTextsOf t cs
cells_said t [] h cs e = let is : [] ≡ cs = cc in subst (AreTextsOf t) is tt
cells_said t (w ∷ ws) h cs e =
    let p = first_parts (cell_of t w) (cells_of t ws) cs e in
    subst (AreTextsOf t) p.4 (cell_said t w p.0 h.0 p.2, cells_said t ws h.1 p.1 p.3)

cells_typed : (t : LogicalType) (cs : List (Option (List ℕ))) → AreTextsOf t cs
    → (vs : List Value) → cell_values t cs ≡ Some vs → AreTyped t vs
cells_typed t [] h vs e =
    let is : [] ≡ vs = cc in subst (AreTyped t) is (λ i d lt. absurd (omega arith))
cells_typed t (c ∷ cs) h vs e =
    let p = first_parts (cell_value t c) (cell_values t cs) vs e in
    subst (AreTyped t) p.4
    (one_more t p.0 p.1 (cell_typed t c p.0 h.0 p.2) (cells_typed t cs h.1 p.1 p.3))

in_cells : {A : Type 0} (t : LogicalType) (o : Option A) (x : A) → if_cells t o ≡ Some x
    → o ≡ Some x
in_cells (bool_type n) o x e = e
in_cells (integer_type p n) o x e = e
in_cells (text_type n) o x e = e
in_cells t o x e = cc

-- the content of a command of a column or of a literal has its type
abbrev pub IsTyped : Command → Type 0
IsTyped (column name c) = AreTyped c.dtype c.rows
IsTyped (literal s) = HasType s.dtype s.value
IsTyped k = ⊤

or_typed : {A : Type 0} (f : A → Command) (o : Option A) → ((x : A) → o ≡ Some x → IsTyped (f x))
    → IsTyped (or_malformed f o)
or_typed f None h = tt
or_typed f (Some x) h = h x refl

if_typed : (b : Bool) (j k : Command) → IsTyped j → IsTyped k → IsTyped (if b then j else k)
if_typed true j k g h = g
if_typed false j k g h = h

column_by : (t : LogicalType) (vs : List Value) (c : ColumnView) (b : Bool) → AreTyped t vs
    → (if b then Some (column_of t vs) else None) ≡ Some c → AreTyped c.dtype c.rows
column_by t vs c true h e =
    let is : column_of t vs ≡ c = cc in
    subst (λ (d : ColumnView). AreTyped d.dtype d.rows) is h
column_by t vs c false h e = cc

column_in : (t : LogicalType) (o : Option (List Value)) (c : ColumnView)
    → ((vs : List Value) → o ≡ Some vs → AreTyped t vs)
    → option_and_then (column_where t) o ≡ Some c → AreTyped c.dtype c.rows
column_in t None c h e = cc
column_in t (Some vs) c h e = column_by t vs c (fit_column vs) (h vs refl) e

column_from : (t : LogicalType) (o : Option (List (Option (List ℕ)))) (c : ColumnView)
    → ((cs : List (Option (List ℕ))) → o ≡ Some cs → AreTextsOf t cs)
    → option_and_then (column_of_cells t) o ≡ Some c → AreTyped c.dtype c.rows
column_from t None c h e = cc
column_from t (Some cs) c h e =
    column_in t (cell_values t cs) c (cells_typed t cs (h cs refl))
    (in_cells t (option_and_then (column_where t) (cell_values t cs)) c e)

column_typed : (ws : List Word) → AreTexts ws → (o : Option LogicalType) (c : ColumnView)
    → option_and_then (λ t. written_column t ws) o ≡ Some c → AreTyped c.dtype c.rows
column_typed ws h None c e = cc
column_typed ws h (Some t) c e = column_from t (cells_of t ws) c (cells_said t ws h) e

scalar_in : (t : LogicalType) (o : Option Value) (s : ScalarView)
    → ((v : Value) → o ≡ Some v → HasType t v)
    → option_map (λ v. record { dtype = t; value = v }) o ≡ Some s → HasType s.dtype s.value
scalar_in t None s h e = cc
scalar_in t (Some v) s h e =
    let it : ScalarView = record { dtype = t; value = v } in
    let is : it ≡ s = cc in
    subst (λ (x : ScalarView). HasType x.dtype x.value) is (h v refl)

literal_from : (t : LogicalType) (o : Option (Option (List ℕ))) (s : ScalarView)
    → ((c : Option (List ℕ)) → o ≡ Some c → IsTextOf t c)
    → option_and_then (literal_of_cell t) o ≡ Some s → HasType s.dtype s.value
literal_from t None s h e = cc
literal_from t (Some c) s h e =
    scalar_in t (cell_value t c) s (λ v. cell_typed t c v (h c refl)) (in_cells t _ s e)

literal_typed : (w : Word) → IsTextIn w → (o : Option LogicalType) (s : ScalarView)
    → option_and_then (λ t. written_literal t w) o ≡ Some s → HasType s.dtype s.value
literal_typed w h None s e = cc
literal_typed w h (Some t) s e = literal_from t (cell_of t w) s (λ c. cell_said t w c h) e

columns_typed : (ws : List Word) → AreTexts ws → IsTyped (column_command ws)
columns_typed [] h = tt
columns_typed (plain name ∷ []) h = tt
columns_typed (plain name ∷ plain t ∷ cells) h =
    if_typed (is_name name)
    (or_malformed (column name) (option_and_then (λ u. written_column u cells) (type_of_word t)))
    malformed
    (or_typed (column name) (option_and_then (λ u. written_column u cells) (type_of_word t))
    (column_typed cells h.1.1 (type_of_word t)))
    tt
columns_typed (plain name ∷ quoted t ∷ cells) h = tt
columns_typed (quoted name ∷ ws) h = tt

literals_typed : (ws : List Word) → AreTexts ws → IsTyped (literal_command ws)
literals_typed [] h = tt
literals_typed (plain t ∷ []) h = tt
literals_typed (plain t ∷ cell ∷ []) h =
    or_typed literal (option_and_then (λ u. written_literal u cell) (type_of_word t))
    (literal_typed cell h.1.0 (type_of_word t))
literals_typed (plain t ∷ cell ∷ w ∷ ws) h = tt
literals_typed (quoted t ∷ ws) h = tt

call_typed : (w : List ℕ) (ws : List Word) → IsTyped (call_of w ws)
call_typed w [] = tt
call_typed w (plain lower ∷ []) = tt
call_typed w (plain lower ∷ plain upper ∷ []) = tt
call_typed w (plain lower ∷ plain upper ∷ v ∷ vs) = tt
call_typed w (plain option ∷ quoted t ∷ []) =
    if_typed (bytes_eq option (codes "escape"))
    (or_malformed (λ escape. call (w ∷ []) (Some escape)) (escape_of (chars t))) malformed
    (or_typed (λ escape. call (w ∷ []) (Some escape)) (escape_of (chars t)) (λ escape e. tt))
    tt
call_typed w (plain option ∷ quoted t ∷ v ∷ vs) = tt
call_typed w (quoted lower ∷ vs) = tt

calls_typed : (ws : List Word) → IsTyped (call_command ws)
calls_typed [] = tt
calls_typed (plain w ∷ ws) = call_typed w ws
calls_typed (quoted w ∷ ws) = tt

alone_typed : (k : Command) (ws : List Word) → IsTyped k → IsTyped (alone k ws)
alone_typed k [] h = h
alone_typed k (w ∷ ws) h = tt

runs_typed : (ws : List Word) → IsTyped (run_command ws)
runs_typed [] = tt
runs_typed (w ∷ ws) =
    or_typed run_after (option_and_then limit_of (only_word (w ∷ ws))) (λ n e. tt)

abbrev chosen : List ℕ → List ℕ → Command → Command → Command
chosen w name j k = if bytes_eq w name then j else k

typed_by : (w : List ℕ) (ws : List Word) → AreTexts ws → IsTyped (command_by w ws)
typed_by w ws h =
    let runs = chosen w (codes "run") (run_command ws) malformed in
    let optimizes = chosen w (codes "optimize") (alone optimize ws) runs in
    let shows = chosen w (codes "show") (alone show ws) optimizes in
    let calls = chosen w (codes "call") (call_command ws) shows in
    let literals = chosen w (codes "lit") (literal_command ws) calls in
    let gets = chosen w (codes "get") (get_command ws) literals in
    let columns = chosen w (codes "col") (column_command ws) gets in
    if_typed (bytes_eq w (codes "rows")) (rows_command ws) columns
    (or_typed rows (option_and_then count_of (only_word ws)) (λ n e. tt))
    (if_typed (bytes_eq w (codes "col")) (column_command ws) gets (columns_typed ws h)
    (if_typed (bytes_eq w (codes "get")) (get_command ws) literals
    (or_typed get (option_and_then name_of (only_word ws)) (λ n e. tt))
    (if_typed (bytes_eq w (codes "lit")) (literal_command ws) calls (literals_typed ws h)
    (if_typed (bytes_eq w (codes "call")) (call_command ws) shows (calls_typed ws)
    (if_typed (bytes_eq w (codes "show")) (alone show ws) optimizes (alone_typed show ws tt)
    (if_typed (bytes_eq w (codes "optimize")) (alone optimize ws) runs
    (alone_typed optimize ws tt)
    (if_typed (bytes_eq w (codes "run")) (run_command ws) malformed (runs_typed ws) tt)))))))

words_typed : (ws : List Word) → AreTexts ws → IsTyped (command_of_words ws)
words_typed [] h = tt
words_typed (plain w ∷ ws) h = typed_by w ws h.1
words_typed (quoted w ∷ ws) h = tt

text_typed : (t : List ℕ) → IsUtf8 t → IsTyped (command_of_text t)
text_typed t u =
    if_typed (begins_comment t) nothing (or_malformed command_of_words (words_of t)) tt
    (or_typed command_of_words (words_of t) (λ ws e. words_typed ws (texts t u ws e)))

pub said_typed : (line : List ℕ) → IsTyped (command_of line)
said_typed line = by (is_utf8 line) refl
  where
    by : (b : Bool) → is_utf8 line ≡ b
        → IsTyped (if b then command_of_text (after_spaces line) else malformed)
    by true e = text_typed (after_spaces line) (text_after line (IsUtf8-from_is_utf8 line e))
    by false e = tt
