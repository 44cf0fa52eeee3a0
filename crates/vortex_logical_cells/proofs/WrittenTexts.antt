-- Texts that are written one by one, and the column made of them.
use Rattle.std.proofs.Common.{◌≡◌, ◌∙◌, ℕ, ◌<◌, ◌≤◌, ◌⊎◌, inl, inr, Bool, false, List, []}
use Rattle.std.proofs.Common.{◌∷◌, ◌++◌, length, refl, sym, ap, subst, arith, length-append}
use Rattle.std.proofs.Common.{if◌then◌else◌}
use Rattle.std.specs.Prelude.{slice_index_or}
use Rattle.std.proofs.Math.ListN.{get_or-append}
use Rattle.std.proofs.Math.Seq.{get_or-append_seam}
use Rattle.std.proofs.lemmas.Bool.{cases_lt}
use Rattle.std.proofs.lemmas.List.Elements.{All-append, All-cons, All-nil}
use Rattle.std.proofs.lemmas.List.FromFn.{get_or-map-range_with_len, length-map-range_with_len}
use Rattle.vortex_errors.specs.declared.error.VortexError.{VortexError}
use Rattle.vortex_errors.specs.declared.error.VortexError.TheVariants.{InvalidColumn}
use Rattle.vortex_errors.specs.Answers.{UnlessMemory}
use Rattle.vortex_errors.proofs.Answering.{UnlessMemory-weaker}
use Rattle.vortex_types.specs.Values.{Value, null, number, text}
use Rattle.vortex_views.specs.Placing.{most_bytes}
use Rattle.vortex_views.specs.Built.{HasRoomFor}
use Rattle.vortex_views.specs.Collected.{HaveRoom}
use Rattle.vortex_columns.specs.ColumnView.{ColumnView, row}
use Rattle.vortex_columns.specs.Made.{text_rows}
use Rattle.vortex_columns.specs.ValidityView.{array}
use Rattle.vortex_logical.specs.declared.kind.Kind.{Kind}
use Rattle.vortex_logical_cells.specs.StoredTexts.{HasText, IsTextOf, IsWritten, AreTextsOf, AreWritten}
use Rattle.vortex_logical_cells.specs.StoredTexts.{MakeNoColumn, AreUtf8}

pub no_room : HaveRoom []
no_room = record { lens = All-nil (λ (t : List ℕ). length t ≤ most_bytes); buffers = omega arith }

-- the last of several texts has room behind the others
pub last_room : (ts : List (List ℕ)) (t : List ℕ) → HaveRoom (ts ++ t ∷ []) → HasRoomFor ts t
last_room ts t h = record {
  len = subst (λ (w : List ℕ). length w ≤ most_bytes) (get_or-append_seam ts t [] [])
      (h.lens (length ts) [] (omega (arith, length-append ts (t ∷ []))));
  buffers = h.buffers;
}

pub more_room : (ts : List (List ℕ)) (t : List ℕ) → HaveRoom ts → HasRoomFor ts t
    → HaveRoom (ts ++ t ∷ [])
more_room ts t h here = record {
  lens = All-append (λ (w : List ℕ). length w ≤ most_bytes) ts (t ∷ []) h.lens
      (All-cons (λ (w : List ℕ). length w ≤ most_bytes) t [] here.len
      (All-nil (λ (w : List ℕ). length w ≤ most_bytes)));
  buffers = here.buffers;
}

module _ (k : Kind) (rows : List Value) where
  pub none_written : AreWritten k rows [] []
  none_written = record { count = refl; each = λ i lt. absurd (omega (arith, lt)) }

  -- one more row
  pub one_written : (ts : List (List ℕ)) (bs : List Bool) (t : List ℕ) (b : Bool) (i : ℕ)
      → length ts ≡ i → AreWritten k rows ts bs → IsWritten k (row rows i) t b
      → AreWritten k rows (ts ++ t ∷ []) (bs ++ b ∷ [])
  one_written ts bs t b i here h w = record {
    count = omega (arith, length-append ts (t ∷ []), length-append bs (b ∷ []), h.count);
    each = λ j lt. by j lt (cases_lt j (length ts));
  }
    where
      by : (j : ℕ) → j < length (ts ++ t ∷ []) → (j < length ts) ⊎ (length ts ≤ j)
          → IsWritten k (row rows j) (slice_index_or (ts ++ t ∷ []) j [])
          (slice_index_or (bs ++ b ∷ []) j false)
      by j lt (inl less) =
          subst (λ (u : List ℕ). IsWritten k (row rows j) u (slice_index_or (bs ++ b ∷ []) j false))
          (sym (get_or-append ts (t ∷ []) [] j less))
          (subst (λ (c : Bool). IsWritten k (row rows j) (slice_index_or ts j []) c)
          (sym (get_or-append bs (b ∷ []) false j (omega (arith, less, h.count))))
          (h.each j less))
      by j lt (inr more) =
          let last : length ts ≡ j = omega (arith, lt, more, length-append ts (t ∷ [])) in
          let marked : length bs ≡ j = omega (arith, last, h.count) in
          subst (λ (u : List ℕ). IsWritten k (row rows j) u (slice_index_or (bs ++ b ∷ []) j false))
          (sym (get_or-append_seam ts t [] [])
          ∙ ap (λ (m : ℕ). slice_index_or (ts ++ t ∷ []) m []) last)
          (subst (λ (c : Bool). IsWritten k (row rows j) t c)
          (sym (get_or-append_seam bs b [] false)
          ∙ ap (λ (m : ℕ). slice_index_or (bs ++ b ∷ []) m false) marked)
          (subst (λ (m : ℕ). IsWritten k (row rows m) t b) (sym here ∙ last) w))

  has_text : (v : Value) (t : List ℕ) (b : Bool) → IsWritten k v t b → HasText k v
  has_text null t b w = tt
  has_text (number z) t b w = w.0
  has_text v t b w = absurd w

  -- rows that are written have texts
  pub have_texts : (ts : List (List ℕ)) (bs : List Bool) (i : ℕ) → length ts ≡ i
      → AreWritten k rows ts bs → (j : ℕ) → j < i → HasText k (row rows j)
  have_texts ts bs i count h j lt = has_text (row rows j) _ _ (h.each j (omega (arith, lt, count)))

  -- a text that is refused, and texts that make no column
  pub refused_text : (ts : List (List ℕ)) (bs : List Bool) (t s : List ℕ) (b : Bool) (i : ℕ)
      (e : VortexError)
      → length ts ≡ i → AreWritten k rows ts bs → IsWritten k (row rows i) s b → t ≡ s
      → UnlessMemory (λ f. (¬ HasRoomFor ts t) × (f ≡ InvalidColumn)) e
      → UnlessMemory (MakeNoColumn k rows) e
  refused_text ts bs t s b i e here h w same =
      UnlessMemory-weaker (λ f. (¬ HasRoomFor ts t) × (f ≡ InvalidColumn)) (MakeNoColumn k rows)
      (λ f p. record {
        texts = ts ++ t ∷ [];
        valid = bs ++ b ∷ [];
        written = one_written ts bs t b i here h
            (subst (λ (u : List ℕ). IsWritten k (row rows i) u b) (sym same) w);
        unfit = λ q. p.0 (last_room ts t q.0);
        refusal = p.1;
      })
      e

  pub refused_texts : (ts : List (List ℕ)) (bs cs : List Bool) (e : VortexError)
      → AreWritten k rows ts bs → cs ≡ bs
      → UnlessMemory (λ f. (¬ AreUtf8 ts cs) × (f ≡ InvalidColumn)) e
      → UnlessMemory (MakeNoColumn k rows) e
  refused_texts ts bs cs e h same =
      UnlessMemory-weaker (λ f. (¬ AreUtf8 ts cs) × (f ≡ InvalidColumn)) (MakeNoColumn k rows)
      (λ f p. record {
        texts = ts;
        valid = cs;
        written = subst (AreWritten k rows ts) (sym same) h;
        unfit = λ q. p.0 q.1;
        refusal = p.1;
      })
      e

  shown : (v : Value) (t : List ℕ) (b : Bool) → IsWritten k v t b
      → IsTextOf k v (if b then text t else null)
  shown null t b w = ap (λ c. if c then text t else null) w.1
  shown (number z) t b w = (t, w.0, w.1, ap (λ c. if c then text t else null) w.2)
  shown v t b w = absurd w

  -- the column of written texts
  pub are_texts : (ts : List (List ℕ)) (bs cs : List Bool) (n : ℕ) (c : ColumnView)
      → length ts ≡ n → AreWritten k rows ts bs → cs ≡ bs
      → c ≡ text_rows ts (record { form = array; bits = cs }) → AreTextsOf k rows n c
  are_texts ts bs cs n c count h same made =
      let e = made ∙ ap (λ (u : List Bool). text_rows ts (record { form = array; bits = u })) same in
      record {
        dtype = ap (λ (d : ColumnView). d.dtype) e;
        count = ap (λ (d : ColumnView). length d.rows) e
            ∙ length-map-range_with_len
            (λ i. if slice_index_or bs i false then text (slice_index_or ts i []) else null) 0
            (length ts)
            ∙ count;
        each = λ i lt.
            subst (IsTextOf k (row rows i))
            (sym
            (ap (λ (d : ColumnView). row d.rows i) e
            ∙ get_or-map-range_with_len
            (λ j. if slice_index_or bs j false then text (slice_index_or ts j []) else null) 0
            (length ts) i i null (omega (arith, lt, count)) (omega arith)))
            (shown (row rows i) _ _ (h.each i (omega (arith, lt, count))));
      }
