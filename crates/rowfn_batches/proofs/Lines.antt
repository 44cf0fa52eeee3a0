-- Lines of rows, one more of them.
use Rattle.std.proofs.Common.{◌≡◌, ℕ, zero, suc, ◌+◌, Bool, true, false, List, [], ◌∷◌, ◌++◌, refl}
use Rattle.std.proofs.Common.{ap, sym, ◌∙◌, append_assoc, append-nil, arith, if◌then◌else◌, get_or}
use Rattle.std.proofs.Common.{cond}
use Rattle.std.proofs.Common.{length, ◌<◌, ◌≤◌, map, add-one, zero-add, add-zero}
use Rattle.std.specs.Prelude.{count_by, slice_index_or, Option}
use Rattle.std.specs.List.{flat_map, range_with_len}
use Rattle.std.proofs.lemmas.Grind.{flat_map-append}
use Rattle.std.proofs.lemmas.List.{get_or-map}
use Rattle.std.proofs.lemmas.List.Sums.{sum_by_push}
use Rattle.std.specs.Int.{from_bool}
use Rattle.vortex_columns.specs.ColumnView.{ColumnView, row}
use Rattle.rowfn_csv.specs.declared.format.Format.{Format}
use Rattle.rowfn_csv.specs.declared.records.Records.{Records}
use Rattle.rowfn_csv.specs.declared.records.Span.{Span}
use Rattle.rowfn_csv.specs.KeptLines.{line_of}
use Rattle.rowfn_batches.specs.declared.output.Output.{Output}
use Rattle.rowfn_csv.specs.Records.{without_line_end}
use Rattle.rowfn_batches.specs.BatchAnswers.{row_among}
use Rattle.rowfn_batches.specs.Outputs.{Adds, row_line, row_lines, is_true, appended_line}
use Rattle.rowfn_batches.specs.Outputs.{appended_lines}

range_from : (a n : ℕ) → range_with_len a (suc n) ≡ range_with_len a n ++ ((a + n) ∷ [])
range_from a zero = ap (λ (x : ℕ). x ∷ []) (sym (add-zero a))
range_from a (suc n) =
    let next : (a + 1) + n ≡ a + suc n = omega arith in
    ap (λ (t : List ℕ). a ∷ t)
    (range_from (a + 1) n ∙ ap (λ (x : ℕ). range_with_len (a + 1) n ++ (x ∷ [])) next)

pub range_more : (n : ℕ) → range_with_len 0 (n + 1) ≡ range_with_len 0 n ++ (n ∷ [])
range_more n =
    ap (range_with_len 0) (add-one n)
    ∙ range_from 0 n
    ∙ ap (λ (x : ℕ). range_with_len 0 n ++ (x ∷ [])) (zero-add n)

pub flat_map_more : (f : ℕ → List ℕ) (n : ℕ)
    → flat_map f (range_with_len 0 (n + 1)) ≡ flat_map f (range_with_len 0 n) ++ f n
flat_map_more f n =
    ap (flat_map f) (range_more n)
    ∙ flat_map-append f (range_with_len 0 n) (n ∷ [])
    ∙ ap (λ (t : List ℕ). flat_map f (range_with_len 0 n) ++ t) (append-nil (f n))

-- a turn of a loop over rows: bytes are put down behind those of the rows before
pub next_bytes : (old now last : Output) (f : ℕ → List ℕ) (n : ℕ)
    → Adds old now (flat_map f (range_with_len 0 n)) → Adds now last (f n)
    → Adds old last (flat_map f (range_with_len 0 (n + 1)))
next_bytes old now last f n before added = (
  added.0
      ∙ ap (λ (t : List ℕ). t ++ f n) before.0
      ∙ append_assoc old.bytes.items (flat_map f (range_with_len 0 n)) (f n)
      ∙ ap (λ (t : List ℕ). old.bytes.items ++ t) (sym (flat_map_more f n)),
  added.1 ∙ before.1,
)

pub next_line : (old now last : Output) (answers : List ColumnView) (n : ℕ)
    → Adds old now (row_lines old.format answers n)
    → Adds now last (row_line now.format answers n)
    → Adds old last (row_lines old.format answers (n + 1))
next_line old now last answers n before added =
    next_bytes old now last (row_line old.format answers) n before (
      added.0
          ∙ ap (λ (f : Format). now.bytes.items ++ row_line f answers n)
          before.1,
      added.1,
    )

pub no_bytes : (old : Output) → Adds old old []
no_bytes old = (sym (append-nil old.bytes.items), refl)

-- the line of a row, where the column is true in it
abbrev pub picked_line : {R : Type 0} → Records R → List Span → ColumnView → ℕ → List ℕ
picked_line records spans top i =
    if is_true (row top.rows i) then get_or (map (line_of records) spans) i [] else []

pub next_picked : {R : Type 0} (records : Records R) (spans : List Span) (top : ColumnView)
    (old now last : Output) (i : ℕ) (s : Span) (line : List ℕ) → i < length spans
    → line ≡ line_of records (get_or spans i s)
    → Adds old now (flat_map (picked_line records spans top) (range_with_len 0 i))
    → Adds now last (if is_true (row top.rows i) then line else [])
    → Adds old last (flat_map (picked_line records spans top) (range_with_len 0 (i + 1)))
next_picked records spans top old now last i s line h is before added =
    next_bytes old now last (picked_line records spans top) i before (
      added.0
          ∙ ap (λ (t : List ℕ). now.bytes.items ++ (if is_true (row top.rows i) then t else []))
          (is ∙ sym (get_or-map (line_of records) spans i s [] h)),
      added.1,
    )

-- how many pass a test of the first numbers, with one more
pub next_count : (p : ℕ → Bool) (n count x : ℕ) (b : Bool) → count ≡ count_by p (range_with_len 0 n)
    → x ≡ from_bool b → b ≡ p n → count + x ≡ count_by p (range_with_len 0 (n + 1))
next_count p n count x b h e f =
    ap (λ (k : ℕ). k + x) h
    ∙ ap (λ (k : ℕ). count_by p (range_with_len 0 n) + k)
    (e ∙ as_number b ∙ ap (λ (c : Bool). cond c 1 0) f)
    ∙ sym (sum_by_push (λ i. cond (p i) 1 0) (range_with_len 0 n) n)
    ∙ ap (count_by p) (sym (range_more n))
  where
    as_number : (b : Bool) → from_bool b ≡ cond b 1 0
    as_number true = refl
    as_number false = refl

pub one_at_most : (x : ℕ) (b : Bool) → x ≡ from_bool b → x ≤ 1
one_at_most x true e = omega arith
one_at_most x false e = omega arith

-- a row of the answers behind its row of the input
pub next_appended : (old now last : Output) (lines : List (List ℕ)) (rows : Option (List ℕ))
    (answers : List ColumnView) (k at : ℕ) (line : List ℕ) → at ≡ row_among rows k
    → line ≡ slice_index_or lines at []
    → Adds old now (appended_lines old.format lines rows answers k)
    → Adds now last (without_line_end line ++ (now.format.output_delimiter
    ∷ row_line now.format answers k))
    → Adds old last
    (appended_lines old.format lines rows answers (k + 1))
next_appended old now last lines rows answers k at line among is before added =
    next_bytes old now last
    (appended_line old.format lines rows answers) k before (
      added.0
          ∙ ap (λ (f : Format). now.bytes.items ++ (without_line_end line ++ (f.output_delimiter
          ∷ row_line f answers k))) before.1
          ∙ ap (λ (t : List ℕ). now.bytes.items ++ (without_line_end t ++ (old.format.output_delimiter
          ∷ row_line old.format answers k)))
          (is ∙ ap (λ (m : ℕ). slice_index_or lines m []) among),
      added.1,
    )
