use Rattle.std.proofs.Common.{◌≡◌, ◌+◌, ◌∷◌, ◌++◌, ◌∙◌, drop, get_or, refl, sym, ap, rules, arith}
use Rattle.std.proofs.Common.{string_bytes}
use Rattle.std.specs.Prelude.{codes}
use Rattle.std.proofs.lemmas.List.{drop_more}
use Rattle.vortex_types.specs.TypeOf.{type_of}
use Rattle.vortex_types.specs.Texts.{comma, separator_before}
use Rattle.vortex_types.specs.DTypeTexts.{type_text}
use Rattle.vortex_types.specs.TypePieces.{fields_text, pieces_text}
use Rattle.vortex_types.proofs.CopySteps.{weights_at}
use Rattle.vortex_types.proofs.PrintedTypes.{three_pieces}
use Rattle.vortex_types.proofs.TextPieces.{piece_more, piece_cost_more, fields_at, field_grouped}
use Rattle.vortex_types.proofs.dtype.StructFields.write_field.Goals as goal

pub returns-in_ok-push-2-clause-text : goal.returns-in_ok-push-2-clause-text
returns-in_ok-push-2-clause-text c =
    let s = c.args.self.now in
    let k = c.args.k in
    let xs = s.fields.items in
    let f = c.index-field.result.now in
    let same : get_or xs k f ≡ f = search rules in
    let at : drop k xs ≡ f ∷ drop (k + 1) xs =
    drop_more xs k f (search rules) ∙ ap (λ g. g ∷ drop (k + 1) xs) same in
    let old = string_bytes c.args.out.now in
    let below = pieces_text c.args.pieces.now.items in
    let listed =
    piece_more _ _ _ _ c.in_ok-push-2.ensures.items
    (piece_more _ _ _ below c.in_ok-push.ensures.items refl) in
    let written =
    three_pieces old (string_bytes c.write_separator.new.out) (string_bytes c.push_str.new.self)
    (string_bytes c.push_str-then-k-len.new.self) (separator_before comma k) (string_bytes f.0)
    (codes ": ") c.in_ok-write_separator.ensures
    (c.in_ok-push_str.ensures.bytes
    ∙ ap (λ n. string_bytes c.write_separator.new.out ++ n) c.as_str.ensures.value)
    c.in_ok-push_str-2.ensures.bytes in
    ap (λ ys. ys ++ pieces_text c.push-then-k-len.new.self.items) written
    ∙ ap (λ ys. (old ++ (separator_before comma k ++ string_bytes f.0 ++ codes ": ")) ++ ys) listed
    ∙ field_grouped old (separator_before comma k) (string_bytes f.0) (codes ": ")
    (type_text (type_of f.1)) (fields_text s (k + 1)) below
    ∙ ap (λ ys. old ++ (ys ++ below)) (sym (fields_at s k f at))

pub returns-in_ok-push-2-clause-fewer : goal.returns-in_ok-push-2-clause-fewer
returns-in_ok-push-2-clause-fewer c =
    let xs = c.args.self.now.fields.items in
    let f = c.index-field.result.now in
    let same : get_or xs c.args.k f ≡ f = search rules in
    let at : drop c.args.k xs ≡ f ∷ drop (c.args.k + 1) xs =
    drop_more xs c.args.k f (search rules) ∙ ap (λ g. g ∷ drop (c.args.k + 1) xs) same in
    omega (
      arith,
      piece_cost_more _ _ _ c.in_ok-push.ensures.items,
      piece_cost_more _ _ _ c.in_ok-push-2.ensures.items,
      weights_at _ _ f at,
    )
