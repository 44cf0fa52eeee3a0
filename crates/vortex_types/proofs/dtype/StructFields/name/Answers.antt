use Rattle.std.proofs.Common.{◌≡◌, ℕ, zero, suc, ◌<◌, List, [], ◌∷◌, length, get_or, refl, sym, ap}
use Rattle.std.proofs.Common.{◌∙◌, arith}
use Rattle.std.specs.Prelude.{String, string_bytes}
use Rattle.std.specs.declared.alloc.Global.{Global}
use Rattle.vortex_types.specs.declared.dtype.DType.{DType}
use Rattle.vortex_types.specs.FieldNames.{field_name}
use Rattle.vortex_types.specs.TypeOf.{fields_view}
use Rattle.vortex_types.proofs.TypeViews.{struct_fields-out, struct_count}
use Rattle.vortex_types.proofs.dtype.StructFields.name.Goals as goal

name_at : (fs : List (String Global × DType)) (k : ℕ) (d : String Global × DType) → k < length fs
    → field_name k (fields_view fs) ≡ string_bytes (get_or fs k d).0
name_at [] k d h = absurd (omega arith)
name_at (f ∷ fs) zero d h = refl
name_at (f ∷ fs) (suc k) d h = name_at fs k d (omega arith)

pub index-requires : goal.index-requires
index-requires c =
    let s = c.args.self.now in
    omega (arith, struct_count s, s.fields.ok.0)

pub returns : goal.returns
returns c =
    let s = c.args.self.now in
    let h : c.args.k < length s.fields.items = omega (arith, struct_count s) in
    c.as_str.ensures.value ∙ ap (λ f. string_bytes f.0) c.index.ensures
    ∙ sym (ap (field_name c.args.k) (struct_fields-out s) ∙ name_at s.fields.items c.args.k _ h)
