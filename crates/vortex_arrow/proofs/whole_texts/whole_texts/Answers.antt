use Rattle.std.proofs.Common.{sym, subst}
use Rattle.vortex_columns.specs.declared.validity.Validity.{Validity}
use Rattle.vortex_columns.specs.ValidityView.{validity_of}
use Rattle.vortex_arrow.proofs.Found.{AnswersTexts}
use Rattle.vortex_arrow.proofs.whole_texts.whole_texts.Goals as goal

pub returns-in-NonNullable : goal.returns-in-NonNullable
returns-in-NonNullable g c =
    subst
    (λ (w : Validity). AnswersTexts g.O.IndexType.number c.args.rows.now.offsets.now
    c.args.rows.now.data.now c.args.offset c.args.count (validity_of w) c.cut_texts.result)
    (sym c.in-NonNullable.is) c.cut_texts.ensures

pub returns-in-AllValid : goal.returns-in-AllValid
returns-in-AllValid g c =
    subst
    (λ (w : Validity). AnswersTexts g.O.IndexType.number c.args.rows.now.offsets.now
    c.args.rows.now.data.now c.args.offset c.args.count (validity_of w) c.cut_texts-in-AllValid.result)
    (sym c.in-AllValid.is) c.cut_texts-in-AllValid.ensures

pub returns-in-Array : goal.returns-in-Array
returns-in-Array g c =
    subst
    (λ (w : Validity). AnswersTexts g.O.IndexType.number c.args.rows.now.offsets.now
    c.args.rows.now.data.now c.args.offset c.args.count (validity_of w) c.cut_texts-in-Array.result)
    (sym c.in-Array.is) c.cut_texts-in-Array.ensures
