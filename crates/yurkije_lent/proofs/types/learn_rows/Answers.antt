use Rattle.std.proofs.Common.{map, ap}
use Rattle.std.specs.Prelude.{pos}
use Rattle.vortex_types.specs.declared.dtype.PType.TheVariants.{I8, I16, I32, I64, U8, U16, U32, U64}
use Rattle.vortex_arrow.specs.Layouts.{layout_of}
use Rattle.vortex_arrow.specs.Floats.{wide_key, narrow_key}
use Rattle.yurkije_lent.proofs.LentRows.{lent_typed, lent_truths}
use Rattle.yurkije_lent.proofs.types.learn_rows.Goals as goal

pub returns-in-Bool : goal.returns-in-Bool
returns-in-Bool c = λ yes.
    lent_truths c.args.column.now c.in-Bool.field-0.now (ap layout_of c.in-Bool.is)

pub returns-in-Int8 : goal.returns-in-Int8
returns-in-Int8 c = λ yes.
    lent_typed c.args.column.now I8 (map (λ x. x) c.in-Int8.xs.now) (ap layout_of c.in-Int8.is)
    c.learn_ranges.ensures

pub returns-in-Int16 : goal.returns-in-Int16
returns-in-Int16 c = λ yes.
    lent_typed c.args.column.now I16 (map (λ x. x) c.in-Int16.xs.now) (ap layout_of c.in-Int16.is)
    c.learn_ranges-in-Int16.ensures

pub returns-in-Int32 : goal.returns-in-Int32
returns-in-Int32 c = λ yes.
    lent_typed c.args.column.now I32 (map (λ x. x) c.in-Int32.xs.now) (ap layout_of c.in-Int32.is)
    c.learn_ranges-in-Int32.ensures

pub returns-in-Int64 : goal.returns-in-Int64
returns-in-Int64 c = λ yes.
    lent_typed c.args.column.now I64 (map (λ x. x) c.in-Int64.xs.now) (ap layout_of c.in-Int64.is)
    c.learn_ranges-in-Int64.ensures

pub returns-in-UInt8 : goal.returns-in-UInt8
returns-in-UInt8 c = λ yes.
    lent_typed c.args.column.now U8 (map pos c.in-UInt8.xs.now) (ap layout_of c.in-UInt8.is)
    c.learn_ranges-in-UInt8.ensures

pub returns-in-UInt16 : goal.returns-in-UInt16
returns-in-UInt16 c = λ yes.
    lent_typed c.args.column.now U16 (map pos c.in-UInt16.xs.now) (ap layout_of c.in-UInt16.is)
    c.learn_ranges-in-UInt16.ensures

pub returns-in-UInt32 : goal.returns-in-UInt32
returns-in-UInt32 c = λ yes.
    lent_typed c.args.column.now U32 (map pos c.in-UInt32.xs.now) (ap layout_of c.in-UInt32.is)
    c.learn_ranges-in-UInt32.ensures

pub returns-in-UInt64 : goal.returns-in-UInt64
returns-in-UInt64 c = λ yes.
    lent_typed c.args.column.now U64 (map pos c.in-UInt64.xs.now) (ap layout_of c.in-UInt64.is)
    c.learn_ranges-in-UInt64.ensures

pub returns-in-Date : goal.returns-in-Date
returns-in-Date c = λ yes.
    lent_typed c.args.column.now I32 (map (λ x. x) c.in-Date.days.now) (ap layout_of c.in-Date.is)
    c.learn_ranges-in-Date.ensures

pub returns-in-Timestamp : goal.returns-in-Timestamp
returns-in-Timestamp c = λ yes.
    lent_typed c.args.column.now I64 (map (λ x. x) c.in-Timestamp.times.now) (ap layout_of c.in-Timestamp.is)
    c.learn_ranges-in-Timestamp.ensures

pub returns-in-Decimal : goal.returns-in-Decimal
returns-in-Decimal c = λ yes.
    lent_typed c.args.column.now I64 (map (λ x. x) c.in-Decimal.values.now) (ap layout_of c.in-Decimal.is)
    c.learn_ranges-in-Decimal.ensures

pub returns-in-Float64 : goal.returns-in-Float64
returns-in-Float64 c = λ yes.
    lent_typed c.args.column.now I64 (map wide_key c.in-Float64.patterns.now) (ap layout_of c.in-Float64.is)
    c.learn_wide_keys.ensures

pub returns-in-Float32 : goal.returns-in-Float32
returns-in-Float32 c = λ yes.
    lent_typed c.args.column.now I32 (map narrow_key c.in-Float32.patterns.now) (ap layout_of c.in-Float32.is)
    c.learn_narrow_keys.ensures
