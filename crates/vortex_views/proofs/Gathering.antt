-- Items gathered place by place.
use Rattle.std.proofs.Common.{◌≡◌, ℕ, ◌+◌, ◌<◌, List, [], ◌∷◌, ◌++◌, length, map, get_or, take}
use Rattle.std.proofs.Common.{refl, sym, ap, ◌∙◌, subst, arith}
use Rattle.std.specs.Prelude.{All}
use Rattle.std.proofs.lemmas.List.Elements.{All-head, All-tail}
use Rattle.std.proofs.lemmas.List.{get_or-map, length-map, get_or_default, take_more, map-append}
use Rattle.vortex_views.specs.declared.view.BinaryView.{BinaryView}
use Rattle.vortex_views.specs.ViewBytes.{view_bytes}
use Rattle.vortex_views.specs.Resolved.{AreViewsIn, IsViewIn, values_in, value_in}

pub place_within : {C : Type 0} (f : C → ℕ) (places : List C) (n i : ℕ) (p : C)
    → All (λ k. k < n) (map f places) → i < length places → p ≡ get_or places i p → f p < n
place_within f places n i p h b is =
    subst (λ (k : ℕ). k < n) (get_or-map f places i p 0 b ∙ ap f (sym is))
    (h i 0 (omega (arith, length-map places f, b)))

pub gathered_more : {A C : Type 0} (f : C → ℕ) (items : List A) (places : List C) (taken : List A)
    (i : ℕ) (p : C) (x d : A)
    → taken ≡ map (λ k. get_or items k d) (map f (take i places)) → i < length places
    → p ≡ get_or places i p → f p < length items → x ≡ get_or items (f p) x
    → taken ++ x ∷ [] ≡ map (λ k. get_or items k d) (map f (take (i + 1) places))
gathered_more f items places taken i p x d so b p_is within x_is =
    let g : ℕ → _ = λ k. get_or items k d in
    (λ j. so j ++ (x_is ∙ get_or_default items (f p) x d within) j ∷ [])
    ∙ sym (map-append g (map f (take i places)) (f p ∷ []))
    ∙ ap (map g) (sym (map-append f (take i places) (p ∷ [])))
    ∙ ap (λ ps. map g (map f (take i places ++ ps ∷ []))) p_is
    ∙ ap (λ ps. map g (map f ps)) (sym (take_more places i p b))

-- mapping the gathered items is gathering the mapped items
pub map_gathered : {A B : Type 0} (g : A → B) (items : List A) (d : A) (e : B) (places : List ℕ)
    → All (λ i. i < length items) places
    → map g (map (λ i. get_or items i d) places) ≡ map (λ i. get_or (map g items) i e) places
map_gathered g items d e [] h = refl
map_gathered g items d e (p ∷ ps) h =
    λ j.
    sym (get_or-map g items p d e (All-head (λ i. i < length items) p ps h)) j
    ∷ map_gathered g items d e ps (All-tail (λ i. i < length items) p ps h) j

-- gathered views, over the same buffers
module _ (bufs bufs' : List (List ℕ)) (views views' : List BinaryView) (places : List ℕ)
    (same : bufs' ≡ bufs) (within : All (λ i. i < length (values_in bufs views)) places)
    (so : (d : BinaryView) → views' ≡ map (λ i. get_or views i d) places) where
  any_view : BinaryView
  any_view = record { bytes = [] }

  within_views : All (λ i. i < length views) places
  within_views k d h =
      omega (arith, within k d h, length-map views (λ v. value_in bufs (view_bytes v)))

  pub gathered_fit : AreViewsIn bufs views → AreViewsIn bufs' views'
  gathered_fit fit i h =
      let count : length views' ≡ length places =
      ap length (so any_view) ∙ length-map places (λ k. get_or views k any_view) in
      let here : i < length places = omega (arith, count, h) in
      let view_is : get_or views' i any_view ≡ get_or views (get_or places i 0) any_view =
      ap (λ vs. get_or vs i any_view) (so any_view)
      ∙ get_or-map (λ k. get_or views k any_view) places i 0 any_view here in
      let place : get_or places i 0 < length views = within_views i 0 here in
      subst (IsViewIn bufs')
      (get_or-map view_bytes views (get_or places i 0) any_view [] place
      ∙ ap view_bytes (sym view_is) ∙ sym (get_or-map view_bytes views' i any_view [] h))
      (subst (λ (bs : List (List ℕ)). IsViewIn bs
      (get_or (map view_bytes views) (get_or places i 0) []))
      (sym same) (fit (get_or places i 0) place))

  pub gathered_values : values_in bufs' views'
      ≡ map (λ i. get_or (values_in bufs views) i []) places
  gathered_values =
      (λ j. values_in (same j) (so any_view j))
      ∙ map_gathered (λ v. value_in bufs (view_bytes v)) views any_view [] places within_views
