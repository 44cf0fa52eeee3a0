use Rattle.std.proofs.Common.{refl, ap, ◌∙◌, subst, IsTrue, ◌↔◌, false, sym}
use Rattle.std.specs.Prelude.{string_bytes}
use Rattle.std.proofs.lemmas.Option.{slice_get_read}
use Rattle.vortex_types.specs.TypeOf.{type_of}
use Rattle.vortex_types.specs.TypeEquality.{type_eq}
use Rattle.vortex_functions.specs.ExpressionLeaves.{HasColumn}
use Rattle.vortex_functions.proofs.Opened.{leaf_fits, no_leaf, never, past_end}
use Rattle.vortex_functions.proofs.expression.ExpressionLeaf.fits.Goals as goal

pub returns-in-Some : goal.returns-in-Some
returns-in-Some c =
    let cs = c.args.columns.now in
    let p = c.in-Column.place in
    let t = type_of c.in-Column.dtype in
    subst (λ l. IsTrue c.eq.result ↔ HasColumn cs l) (sym c.in-Column.is)
    (leaf_fits cs p (string_bytes c.in-Column.field-1) t c.in-Some.column.now c.eq.result
    (slice_get_read cs _ p c.in-Some.column.now refl c.in-Some.ensures.lookup.3.0
    c.in-Some.ensures.lookup.1)
    (c.eq.ensures ∙ ap (λ u. type_eq u t) c.dtype.ensures.dtype))

pub returns-in-None : goal.returns-in-None
returns-in-None c =
    let cs = c.args.columns.now in
    let p = c.in-Column.place in
    let name = string_bytes c.in-Column.field-1 in
    let t = type_of c.in-Column.dtype in
    subst (λ l. IsTrue false ↔ HasColumn cs l) (sym c.in-Column.is)
    (never _ (no_leaf cs p name t (past_end cs p c.in-None.ensures.lookup.3)))
