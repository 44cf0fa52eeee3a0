use Rattle.std.proofs.Common.{sym, subst, map, pos}
use Rattle.vortex_types.specs.declared.dtype.PType.TheVariants.{I8, I16, I32, I64, U8, U16, U32}
use Rattle.vortex_types.specs.declared.dtype.PType.TheVariants.{U64}
use Rattle.vortex_columns.specs.ValidityView.{validity_of}
use Rattle.vortex_arrow.specs.declared.column.ArrowValues.{ArrowValues}
use Rattle.vortex_arrow.specs.Values.{buffers_of}
use Rattle.vortex_arrow.specs.Floats.{wide_key, narrow_key}
use Rattle.vortex_arrow.specs.Layouts.{bits, numbers, offsets, views, layout_of}
use Rattle.std.proofs.Common.{true, false}
use Rattle.vortex_arrow.proofs.Answered.{AnswersValues, plain_answer, texts_answer, bytes_answer}
use Rattle.vortex_arrow.proofs.reading.read_values.Goals as goal

pub returns-in-Bool : goal.returns-in-Bool
returns-in-Bool c =
    let v = validity_of c.args.validity in
    subst
    (λ (w : ArrowValues). AnswersValues c.read_bools.result (layout_of w) v c.args.from c.args.count)
    (sym c.in-Bool.is)
    (plain_answer (bits c.in-Bool.bits.now) v c.args.from c.args.count c.read_bools.result
    (record { lie = λ i h. tt; room = tt; texts = λ i h. tt }) c.read_bools.ensures)

pub returns-in-Int8 : goal.returns-in-Int8
returns-in-Int8 c =
    let v = validity_of c.args.validity in
    subst
    (λ (w : ArrowValues). AnswersValues c.read_integers.result (layout_of w) v c.args.from c.args.count)
    (sym c.in-Int8.is)
    (plain_answer (numbers I8 (map (λ x. x) c.in-Int8.values.now)) v c.args.from c.args.count c.read_integers.result
    (record { lie = λ i h. tt; room = tt; texts = λ i h. tt }) c.read_integers.ensures)

pub returns-in-Int16 : goal.returns-in-Int16
returns-in-Int16 c =
    let v = validity_of c.args.validity in
    subst
    (λ (w : ArrowValues). AnswersValues c.read_integers-in-Int16.result (layout_of w) v c.args.from c.args.count)
    (sym c.in-Int16.is)
    (plain_answer (numbers I16 (map (λ x. x) c.in-Int16.values.now)) v c.args.from c.args.count c.read_integers-in-Int16.result
    (record { lie = λ i h. tt; room = tt; texts = λ i h. tt }) c.read_integers-in-Int16.ensures)

pub returns-in-Int32 : goal.returns-in-Int32
returns-in-Int32 c =
    let v = validity_of c.args.validity in
    subst
    (λ (w : ArrowValues). AnswersValues c.read_integers-in-Int32.result (layout_of w) v c.args.from c.args.count)
    (sym c.in-Int32.is)
    (plain_answer (numbers I32 (map (λ x. x) c.in-Int32.values.now)) v c.args.from c.args.count c.read_integers-in-Int32.result
    (record { lie = λ i h. tt; room = tt; texts = λ i h. tt }) c.read_integers-in-Int32.ensures)

pub returns-in-Int64 : goal.returns-in-Int64
returns-in-Int64 c =
    let v = validity_of c.args.validity in
    subst
    (λ (w : ArrowValues). AnswersValues c.read_integers-in-Int64.result (layout_of w) v c.args.from c.args.count)
    (sym c.in-Int64.is)
    (plain_answer (numbers I64 (map (λ x. x) c.in-Int64.values.now)) v c.args.from c.args.count c.read_integers-in-Int64.result
    (record { lie = λ i h. tt; room = tt; texts = λ i h. tt }) c.read_integers-in-Int64.ensures)

pub returns-in-UInt8 : goal.returns-in-UInt8
returns-in-UInt8 c =
    let v = validity_of c.args.validity in
    subst
    (λ (w : ArrowValues). AnswersValues c.read_integers-in-UInt8.result (layout_of w) v c.args.from c.args.count)
    (sym c.in-UInt8.is)
    (plain_answer (numbers U8 (map pos c.in-UInt8.values.now)) v c.args.from c.args.count c.read_integers-in-UInt8.result
    (record { lie = λ i h. tt; room = tt; texts = λ i h. tt }) c.read_integers-in-UInt8.ensures)

pub returns-in-UInt16 : goal.returns-in-UInt16
returns-in-UInt16 c =
    let v = validity_of c.args.validity in
    subst
    (λ (w : ArrowValues). AnswersValues c.read_integers-in-UInt16.result (layout_of w) v c.args.from c.args.count)
    (sym c.in-UInt16.is)
    (plain_answer (numbers U16 (map pos c.in-UInt16.values.now)) v c.args.from c.args.count c.read_integers-in-UInt16.result
    (record { lie = λ i h. tt; room = tt; texts = λ i h. tt }) c.read_integers-in-UInt16.ensures)

pub returns-in-UInt32 : goal.returns-in-UInt32
returns-in-UInt32 c =
    let v = validity_of c.args.validity in
    subst
    (λ (w : ArrowValues). AnswersValues c.read_integers-in-UInt32.result (layout_of w) v c.args.from c.args.count)
    (sym c.in-UInt32.is)
    (plain_answer (numbers U32 (map pos c.in-UInt32.values.now)) v c.args.from c.args.count c.read_integers-in-UInt32.result
    (record { lie = λ i h. tt; room = tt; texts = λ i h. tt }) c.read_integers-in-UInt32.ensures)

pub returns-in-UInt64 : goal.returns-in-UInt64
returns-in-UInt64 c =
    let v = validity_of c.args.validity in
    subst
    (λ (w : ArrowValues). AnswersValues c.read_integers-in-UInt64.result (layout_of w) v c.args.from c.args.count)
    (sym c.in-UInt64.is)
    (plain_answer (numbers U64 (map pos c.in-UInt64.values.now)) v c.args.from c.args.count c.read_integers-in-UInt64.result
    (record { lie = λ i h. tt; room = tt; texts = λ i h. tt }) c.read_integers-in-UInt64.ensures)

pub returns-in-Date : goal.returns-in-Date
returns-in-Date c =
    let v = validity_of c.args.validity in
    subst
    (λ (w : ArrowValues). AnswersValues c.read_integers-in-Date.result (layout_of w) v c.args.from c.args.count)
    (sym c.in-Date.is)
    (plain_answer (numbers I32 (map (λ x. x) c.in-Date.days.now)) v c.args.from c.args.count c.read_integers-in-Date.result
    (record { lie = λ i h. tt; room = tt; texts = λ i h. tt }) c.read_integers-in-Date.ensures)

pub returns-in-Timestamp : goal.returns-in-Timestamp
returns-in-Timestamp c =
    let v = validity_of c.args.validity in
    subst
    (λ (w : ArrowValues). AnswersValues c.read_integers-in-Timestamp.result (layout_of w) v c.args.from c.args.count)
    (sym c.in-Timestamp.is)
    (plain_answer (numbers I64 (map (λ x. x) c.in-Timestamp.times.now)) v c.args.from c.args.count c.read_integers-in-Timestamp.result
    (record { lie = λ i h. tt; room = tt; texts = λ i h. tt }) c.read_integers-in-Timestamp.ensures)

pub returns-in-Decimal : goal.returns-in-Decimal
returns-in-Decimal c =
    let v = validity_of c.args.validity in
    subst
    (λ (w : ArrowValues). AnswersValues c.read_integers-in-Decimal.result (layout_of w) v c.args.from c.args.count)
    (sym c.in-Decimal.is)
    (plain_answer (numbers I64 (map (λ x. x) c.in-Decimal.values.now)) v c.args.from c.args.count c.read_integers-in-Decimal.result
    (record { lie = λ i h. tt; room = tt; texts = λ i h. tt }) c.read_integers-in-Decimal.ensures)

pub returns-in-Float64 : goal.returns-in-Float64
returns-in-Float64 c =
    let v = validity_of c.args.validity in
    subst
    (λ (w : ArrowValues). AnswersValues c.read_wide_floats.result (layout_of w) v c.args.from c.args.count)
    (sym c.in-Float64.is)
    (plain_answer (numbers I64 (map wide_key c.in-Float64.patterns.now)) v c.args.from c.args.count c.read_wide_floats.result
    (record { lie = λ i h. tt; room = tt; texts = λ i h. tt }) c.read_wide_floats.ensures)

pub returns-in-Float32 : goal.returns-in-Float32
returns-in-Float32 c =
    let v = validity_of c.args.validity in
    subst
    (λ (w : ArrowValues). AnswersValues c.read_narrow_floats.result (layout_of w) v c.args.from c.args.count)
    (sym c.in-Float32.is)
    (plain_answer (numbers I32 (map narrow_key c.in-Float32.patterns.now)) v c.args.from c.args.count c.read_narrow_floats.result
    (record { lie = λ i h. tt; room = tt; texts = λ i h. tt }) c.read_narrow_floats.ensures)

pub returns-in-Utf8 : goal.returns-in-Utf8
returns-in-Utf8 c =
    let v = validity_of c.args.validity in
    subst
    (λ (w : ArrowValues). AnswersValues c.read_spanned_texts.result (layout_of w) v c.args.from c.args.count)
    (sym c.in-Utf8.is)
    (texts_answer (offsets true (map (λ x. x) c.in-Utf8.offsets.now) c.in-Utf8.data.now) v c.args.from c.args.count c.read_spanned_texts.result
    c.read_spanned_texts.ensures)

pub returns-in-LargeUtf8 : goal.returns-in-LargeUtf8
returns-in-LargeUtf8 c =
    let v = validity_of c.args.validity in
    subst
    (λ (w : ArrowValues). AnswersValues c.read_spanned_texts-in-LargeUtf8.result (layout_of w) v c.args.from c.args.count)
    (sym c.in-LargeUtf8.is)
    (texts_answer (offsets true (map (λ x. x) c.in-LargeUtf8.offsets.now) c.in-LargeUtf8.data.now) v c.args.from c.args.count c.read_spanned_texts-in-LargeUtf8.result
    c.read_spanned_texts-in-LargeUtf8.ensures)

pub returns-in-Binary : goal.returns-in-Binary
returns-in-Binary c =
    let v = validity_of c.args.validity in
    subst
    (λ (w : ArrowValues). AnswersValues c.read_byte_strings.result (layout_of w) v c.args.from c.args.count)
    (sym c.in-Binary.is)
    (bytes_answer (offsets false (map (λ x. x) c.in-Binary.offsets.now) c.in-Binary.data.now) v c.args.from c.args.count c.read_byte_strings.result
    (λ i h. tt) c.read_byte_strings.ensures)

pub returns-in-LargeBinary : goal.returns-in-LargeBinary
returns-in-LargeBinary c =
    let v = validity_of c.args.validity in
    subst
    (λ (w : ArrowValues). AnswersValues c.read_byte_strings-in-LargeBinary.result (layout_of w) v c.args.from c.args.count)
    (sym c.in-LargeBinary.is)
    (bytes_answer (offsets false (map (λ x. x) c.in-LargeBinary.offsets.now) c.in-LargeBinary.data.now) v c.args.from c.args.count c.read_byte_strings-in-LargeBinary.result
    (λ i h. tt) c.read_byte_strings-in-LargeBinary.ensures)

pub returns-in-Utf8View : goal.returns-in-Utf8View
returns-in-Utf8View c =
    let v = validity_of c.args.validity in
    subst
    (λ (w : ArrowValues). AnswersValues c.read_texts.result (layout_of w) v c.args.from c.args.count)
    (sym c.in-Utf8View.is)
    (texts_answer (views true c.in-Utf8View.views.now (buffers_of c.in-Utf8View.buffers.now)) v c.args.from c.args.count c.read_texts.result
    c.read_texts.ensures)

pub returns-in-BinaryView : goal.returns-in-BinaryView
returns-in-BinaryView c =
    let v = validity_of c.args.validity in
    subst
    (λ (w : ArrowValues). AnswersValues c.read_byte_strings-in-BinaryView.result (layout_of w) v c.args.from c.args.count)
    (sym c.in-BinaryView.is)
    (bytes_answer (views false c.in-BinaryView.views.now (buffers_of c.in-BinaryView.buffers.now)) v c.args.from c.args.count c.read_byte_strings-in-BinaryView.result
    (λ i h. tt) c.read_byte_strings-in-BinaryView.ensures)
