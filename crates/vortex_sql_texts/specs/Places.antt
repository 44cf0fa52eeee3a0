-- The place of a text in another: `strpos`.
use Rattle.std.specs.Prelude.{◌≡◌, ◌+◌, codes, ℕ, zero, suc, pos, List, [], ◌∷◌, true, false, chars}
use Rattle.std.specs.Prelude.{encode_utf8_all, nat_eq, refl, if◌then◌else◌}
use Rattle.std.specs.List.{starts_with}
use Rattle.vortex_types.specs.declared.dtype.PType.TheVariants.{I64}
use Rattle.vortex_interface.specs.Outcomes.{Outcome}
use Rattle.vortex_sql_rows.specs.declared.faults.RowFault.TheVariants.{TextTooLong}
use Rattle.vortex_sql_rows.specs.declared.types.Gives.TheVariants as answer
use Rattle.vortex_sql_rows.specs.declared.types.Kind.TheVariants.{Text}
use Rattle.vortex_sql_rows.specs.declared.types.Takes.TheVariants.{Alike}
use Rattle.vortex_sql_rows.specs.Integers.{checked, checked_fits, int_or_fault}
use Rattle.vortex_sql_rows.specs.Row.{Row, LawfulRow}
use Rattle.vortex_sql_rows.specs.Shapes.{strict_row, two_texts, two_texts_lawful}

-- a place in what follows k characters less one: none stays none
abbrev pub further : ℕ → ℕ → ℕ
further k zero = 0
further k (suc n) = k + n

-- the place of the first character with which the text begins as ds does, where the first has place
-- 1; 0 where there is none
abbrev pub place_of : List ℕ → List ℕ → ℕ
place_of ds [] = if starts_with nat_eq [] ds then 1 else 0
place_of ds (c ∷ cs) =
    if starts_with nat_eq (encode_utf8_all (c ∷ cs)) ds then 1 else further 2 (place_of ds cs)

abbrev pub strpos : List ℕ → List ℕ → Outcome
strpos bs ds = int_or_fault TextTooLong (checked I64 (pos (place_of ds (chars bs))))

abbrev pub strpos_row : Row
strpos_row =
    strict_row (codes "sql.strpos") 2 (Alike Text) (answer.Integer I64) false (two_texts strpos)

pub strpos_lawful : LawfulRow strpos_row
strpos_lawful =
    two_texts_lawful (codes "sql.strpos") (answer.Integer I64) false refl strpos
    (λ n bs ds u v. checked_fits TextTooLong I64 (pos (place_of ds (chars bs))))
    (λ bs ds e u v. cc)
