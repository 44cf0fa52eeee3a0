use Rattle.std.proofs.Common.{refl, true, false}
use Rattle.yurkije_columns.specs.declared.kinds.Kind.TheVariants as kind
use Rattle.yurkije_columns.specs.Outputs.{holding}
use Rattle.yurkije_columns.proofs.TextOutputs.{text_of_kind, texts_stand, same_of_two, same_of_three}
use Rattle.yurkije_columns.proofs.outputs.copy_into.Goals as goal

pub returns-in-Utf8-clause-copied : goal.returns-in-Utf8-clause-copied
returns-in-Utf8-clause-copied c =
    texts_stand _ c.args.kind kind.Utf8 c.args.column.now c.args.room.now _ true _ _ _ _
    c.in-Utf8.is refl refl
    (text_of_kind c.args.kind kind.Utf8 c.args.column.now.dtype c.in-Utf8.is c.requires)
    c.copy_texts.ensures.copied c.copy_texts.ensures.behind
    (λ offsets bytes. (offsets, bytes)) refl

pub returns-in-LargeUtf8-clause-copied : goal.returns-in-LargeUtf8-clause-copied
returns-in-LargeUtf8-clause-copied c =
    texts_stand _ c.args.kind kind.LargeUtf8 c.args.column.now c.args.room.now _ true _ _ _ _
    c.in-LargeUtf8.is refl refl
    (text_of_kind c.args.kind kind.LargeUtf8 c.args.column.now.dtype c.in-LargeUtf8.is c.requires)
    c.copy_texts-in-LargeUtf8.ensures.copied c.copy_texts-in-LargeUtf8.ensures.behind
    (λ offsets bytes. (offsets, bytes)) refl

pub returns-in-Binary-clause-copied : goal.returns-in-Binary-clause-copied
returns-in-Binary-clause-copied c =
    texts_stand _ c.args.kind kind.Binary c.args.column.now c.args.room.now _ false _ _ _ _
    c.in-Binary.is refl refl
    (text_of_kind c.args.kind kind.Binary c.args.column.now.dtype c.in-Binary.is c.requires)
    c.copy_texts-in-Binary.ensures.copied c.copy_texts-in-Binary.ensures.behind
    (λ offsets bytes. (offsets, bytes)) refl

pub returns-in-LargeBinary-clause-copied : goal.returns-in-LargeBinary-clause-copied
returns-in-LargeBinary-clause-copied c =
    texts_stand _ c.args.kind kind.LargeBinary c.args.column.now c.args.room.now _ false _ _ _ _
    c.in-LargeBinary.is refl refl
    (text_of_kind c.args.kind kind.LargeBinary c.args.column.now.dtype c.in-LargeBinary.is
    c.requires)
    c.copy_texts-in-LargeBinary.ensures.copied c.copy_texts-in-LargeBinary.ensures.behind
    (λ offsets bytes. (offsets, bytes)) refl

pub returns-in-Bool-clause-kept : goal.returns-in-Bool-clause-kept
returns-in-Bool-clause-kept c =
    let room = c.args.room.now in
    same_of_two c.copy_bools.result
    (λ v xs. record room { validity = holding room.validity v; bools = holding room.bools xs })
    room.validity.now c.copy_bools.new.validity room.bools.now c.copy_bools.new.values
    c.copy_bools.ensures.kept

pub returns-in-I8-clause-kept : goal.returns-in-I8-clause-kept
returns-in-I8-clause-kept c =
    let room = c.args.room.now in
    same_of_two c.copy_integers.result
    (λ v xs. record room { validity = holding room.validity v; i8s = holding room.i8s xs })
    room.validity.now c.copy_integers.new.validity room.i8s.now c.copy_integers.new.values
    c.copy_integers.ensures.kept

pub returns-in-I16-clause-kept : goal.returns-in-I16-clause-kept
returns-in-I16-clause-kept c =
    let room = c.args.room.now in
    same_of_two c.copy_integers-in-I16.result
    (λ v xs. record room { validity = holding room.validity v; i16s = holding room.i16s xs })
    room.validity.now c.copy_integers-in-I16.new.validity room.i16s.now
    c.copy_integers-in-I16.new.values
    c.copy_integers-in-I16.ensures.kept

pub returns-in-I32-clause-kept : goal.returns-in-I32-clause-kept
returns-in-I32-clause-kept c =
    let room = c.args.room.now in
    same_of_two c.copy_integers-in-I32.result
    (λ v xs. record room { validity = holding room.validity v; i32s = holding room.i32s xs })
    room.validity.now c.copy_integers-in-I32.new.validity room.i32s.now
    c.copy_integers-in-I32.new.values
    c.copy_integers-in-I32.ensures.kept

pub returns-in-I64-clause-kept : goal.returns-in-I64-clause-kept
returns-in-I64-clause-kept c =
    let room = c.args.room.now in
    same_of_two c.copy_integers-in-I64.result
    (λ v xs. record room { validity = holding room.validity v; i64s = holding room.i64s xs })
    room.validity.now c.copy_integers-in-I64.new.validity room.i64s.now
    c.copy_integers-in-I64.new.values
    c.copy_integers-in-I64.ensures.kept

pub returns-in-U8-clause-kept : goal.returns-in-U8-clause-kept
returns-in-U8-clause-kept c =
    let room = c.args.room.now in
    same_of_two c.copy_integers-in-U8.result
    (λ v xs. record room { validity = holding room.validity v; u8s = holding room.u8s xs })
    room.validity.now c.copy_integers-in-U8.new.validity room.u8s.now
    c.copy_integers-in-U8.new.values
    c.copy_integers-in-U8.ensures.kept

pub returns-in-U16-clause-kept : goal.returns-in-U16-clause-kept
returns-in-U16-clause-kept c =
    let room = c.args.room.now in
    same_of_two c.copy_integers-in-U16.result
    (λ v xs. record room { validity = holding room.validity v; u16s = holding room.u16s xs })
    room.validity.now c.copy_integers-in-U16.new.validity room.u16s.now
    c.copy_integers-in-U16.new.values
    c.copy_integers-in-U16.ensures.kept

pub returns-in-U32-clause-kept : goal.returns-in-U32-clause-kept
returns-in-U32-clause-kept c =
    let room = c.args.room.now in
    same_of_two c.copy_integers-in-U32.result
    (λ v xs. record room { validity = holding room.validity v; u32s = holding room.u32s xs })
    room.validity.now c.copy_integers-in-U32.new.validity room.u32s.now
    c.copy_integers-in-U32.new.values
    c.copy_integers-in-U32.ensures.kept

pub returns-in-U64-clause-kept : goal.returns-in-U64-clause-kept
returns-in-U64-clause-kept c =
    let room = c.args.room.now in
    same_of_two c.copy_integers-in-U64.result
    (λ v xs. record room { validity = holding room.validity v; u64s = holding room.u64s xs })
    room.validity.now c.copy_integers-in-U64.new.validity room.u64s.now
    c.copy_integers-in-U64.new.values
    c.copy_integers-in-U64.ensures.kept

pub returns-in-Utf8-clause-kept : goal.returns-in-Utf8-clause-kept
returns-in-Utf8-clause-kept c =
    let room = c.args.room.now in
    same_of_three c.copy_texts.result
    (λ v os bs. record room {
      validity = holding room.validity v;
      offsets32 = holding room.offsets32 os;
      «data» = holding room.data bs;
    })
    room.validity.now c.copy_texts.new.validity room.offsets32.now c.copy_texts.new.offsets
    room.data.now c.copy_texts.new.bytes
    c.copy_texts.ensures.kept

pub returns-in-LargeUtf8-clause-kept : goal.returns-in-LargeUtf8-clause-kept
returns-in-LargeUtf8-clause-kept c =
    let room = c.args.room.now in
    same_of_three c.copy_texts-in-LargeUtf8.result
    (λ v os bs. record room {
      validity = holding room.validity v;
      offsets64 = holding room.offsets64 os;
      «data» = holding room.data bs;
    })
    room.validity.now c.copy_texts-in-LargeUtf8.new.validity room.offsets64.now
    c.copy_texts-in-LargeUtf8.new.offsets room.data.now c.copy_texts-in-LargeUtf8.new.bytes
    c.copy_texts-in-LargeUtf8.ensures.kept

pub returns-in-Binary-clause-kept : goal.returns-in-Binary-clause-kept
returns-in-Binary-clause-kept c =
    let room = c.args.room.now in
    same_of_three c.copy_texts-in-Binary.result
    (λ v os bs. record room {
      validity = holding room.validity v;
      offsets32 = holding room.offsets32 os;
      «data» = holding room.data bs;
    })
    room.validity.now c.copy_texts-in-Binary.new.validity room.offsets32.now
    c.copy_texts-in-Binary.new.offsets room.data.now c.copy_texts-in-Binary.new.bytes
    c.copy_texts-in-Binary.ensures.kept

pub returns-in-LargeBinary-clause-kept : goal.returns-in-LargeBinary-clause-kept
returns-in-LargeBinary-clause-kept c =
    let room = c.args.room.now in
    same_of_three c.copy_texts-in-LargeBinary.result
    (λ v os bs. record room {
      validity = holding room.validity v;
      offsets64 = holding room.offsets64 os;
      «data» = holding room.data bs;
    })
    room.validity.now c.copy_texts-in-LargeBinary.new.validity room.offsets64.now
    c.copy_texts-in-LargeBinary.new.offsets room.data.now c.copy_texts-in-LargeBinary.new.bytes
    c.copy_texts-in-LargeBinary.ensures.kept

pub returns-in-F64-clause-kept : goal.returns-in-F64-clause-kept
returns-in-F64-clause-kept c =
    let room = c.args.room.now in
    same_of_two c.copy_wide_floats.result
    (λ v xs. record room { validity = holding room.validity v; i64s = holding room.i64s xs })
    room.validity.now c.copy_wide_floats.new.validity room.i64s.now
    c.copy_wide_floats.new.patterns
    c.copy_wide_floats.ensures.kept

pub returns-in-F32-clause-kept : goal.returns-in-F32-clause-kept
returns-in-F32-clause-kept c =
    let room = c.args.room.now in
    same_of_two c.copy_narrow_floats.result
    (λ v xs. record room { validity = holding room.validity v; i32s = holding room.i32s xs })
    room.validity.now c.copy_narrow_floats.new.validity room.i32s.now
    c.copy_narrow_floats.new.patterns
    c.copy_narrow_floats.ensures.kept

pub returns-in-Date-clause-kept : goal.returns-in-Date-clause-kept
returns-in-Date-clause-kept c =
    let room = c.args.room.now in
    same_of_two c.copy_integers-in-Date.result
    (λ v xs. record room { validity = holding room.validity v; i32s = holding room.i32s xs })
    room.validity.now c.copy_integers-in-Date.new.validity room.i32s.now
    c.copy_integers-in-Date.new.values
    c.copy_integers-in-Date.ensures.kept

pub returns-in-Timestamp-clause-kept : goal.returns-in-Timestamp-clause-kept
returns-in-Timestamp-clause-kept c =
    let room = c.args.room.now in
    same_of_two c.copy_integers-in-Timestamp.result
    (λ v xs. record room { validity = holding room.validity v; i64s = holding room.i64s xs })
    room.validity.now c.copy_integers-in-Timestamp.new.validity room.i64s.now
    c.copy_integers-in-Timestamp.new.values
    c.copy_integers-in-Timestamp.ensures.kept

pub returns-in-Decimal-clause-kept : goal.returns-in-Decimal-clause-kept
returns-in-Decimal-clause-kept c =
    let room = c.args.room.now in
    same_of_two c.copy_integers-in-Decimal.result
    (λ v xs. record room { validity = holding room.validity v; i64s = holding room.i64s xs })
    room.validity.now c.copy_integers-in-Decimal.new.validity room.i64s.now
    c.copy_integers-in-Decimal.new.values
    c.copy_integers-in-Decimal.ensures.kept
