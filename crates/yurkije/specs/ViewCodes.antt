-- Codes of what a handle holds, as its ghost field wants them.
use Rattle.std.specs.Prelude.{◌≡◌, ℕ, zero, suc, Bool, List, Option, refl, unwrap_or}
use Rattle.std.proofs.Common.{ap}
use Rattle.std.specs.Coded.{Coded, code_by, coded×, coded_ℕ, coded_bool, coded_list}
use Rattle.std.specs.Coded.{coded_option}
use Rattle.vortex_types.specs.Codes.{coded_fields}
use Rattle.vortex_types.specs.LogicalTypes.{Fields}
use Rattle.vortex_columns.specs.ColumnView.{ColumnView, coded_column}
use Rattle.vortex_interface.specs.TreeCodes.{coded_tree}
use Rattle.vortex_interface.specs.declared.options.EmptyOptions.{EmptyOptions}
use Rattle.vortex_standard.specs.declared.standard.Standard.{Standard}
use Rattle.vortex_standard.specs.declared.standard.Standard.TheVariants.{Coalesce}
use Rattle.vortex_standard.specs.Names.{name_of, standard_named}
use Rattle.vortex_standard.specs.NameLaws.{named_back}
use Rattle.vortex_logical.specs.Digits.{Digits, digits_of}
use Rattle.vortex_logical.specs.declared.kind.Kind.{Kind}
use Rattle.vortex_logical.specs.declared.kind.Kind.TheVariants as kind
use Rattle.vortex_expressions.specs.Items.{Tree}
use Rattle.yurkije.specs.Views.{ProgramView, HeldView}

-- a function by its name
function_named : List ℕ → Standard
function_named w = unwrap_or (standard_named w) Coalesce

pub coded_standard : Coded Standard
unfolding function_named
coded_standard =
    code_by (List ℕ) (coded_list coded_ℕ) name_of function_named
    (λ f. ap (λ o. unwrap_or o Coalesce) (named_back f))

abbrev coded_empty : Coded EmptyOptions
coded_empty = code_by ℕ coded_ℕ (λ _. 0) (λ _. record {}) (λ _. refl)

-- a kind by a number, and the digits of a decimal
abbrev kind_code : Kind → ℕ × (ℕ × ℕ)
kind_code kind.Plain = (0, (0, 0))
kind_code kind.Date = (1, (0, 0))
kind_code kind.Timestamp = (2, (0, 0))
kind_code (kind.Decimal d) = (3, (d.precision, d.scale))
kind_code kind.F64 = (4, (0, 0))
kind_code kind.F32 = (5, (0, 0))

abbrev kind_by : ℕ → Digits → Kind
kind_by zero d = kind.Plain
kind_by (suc zero) d = kind.Date
kind_by (suc (suc zero)) d = kind.Timestamp
kind_by (suc (suc (suc zero))) d = kind.Decimal d
kind_by (suc (suc (suc (suc zero)))) d = kind.F64
kind_by n d = kind.F32

abbrev kind_coded : ℕ × (ℕ × ℕ) → Kind
kind_coded p = kind_by p.0 (digits_of p.1.0 p.1.1)

kind_back : (k : Kind) → kind_coded (kind_code k) ≡ k
kind_back kind.Plain = refl
kind_back kind.Date = refl
kind_back kind.Timestamp = refl
kind_back (kind.Decimal d) = refl
kind_back kind.F64 = refl
kind_back kind.F32 = refl

pub coded_kind : Coded Kind
coded_kind =
    code_by (ℕ × (ℕ × ℕ)) (coded× coded_ℕ (coded× coded_ℕ coded_ℕ)) kind_code kind_coded kind_back

abbrev Parts : Type 0
Parts =
    Fields × (List Kind
    × (List (List ℕ) × (List Kind × (List Tree × (List Tree × List Bool)))))

abbrev parts_of : ProgramView → Parts
parts_of p = (p.scope, (p.kinds, (p.names, (p.means, (p.written, (p.optimized, p.reads))))))

abbrev of_parts : Parts → ProgramView
of_parts p = record {
  scope = p.0;
  kinds = p.1.0;
  names = p.1.1.0;
  means = p.1.1.1.0;
  written = p.1.1.1.1.0;
  optimized = p.1.1.1.1.1.0;
  reads = p.1.1.1.1.1.1;
}

abbrev pub coded_program : Coded ProgramView
coded_program =
    let trees = coded_list (coded_tree coded_standard coded_empty) in
    let kinds = coded_list coded_kind in
    let parts =
    coded× coded_fields (coded× kinds (coded× (coded_list (coded_list coded_ℕ))
    (coded× kinds (coded× trees (coded× trees (coded_list coded_bool)))))) in
    code_by Parts parts parts_of of_parts (λ _. refl)

abbrev pub coded_held : Coded HeldView
coded_held =
    code_by (Option ProgramView × (Option (List ColumnView) × List Kind))
    (coded× (coded_option coded_program)
    (coded× (coded_option (coded_list coded_column)) (coded_list coded_kind)))
    (λ h. (h.program, (h.answers, h.kinds)))
    (λ p. record { program = p.0; answers = p.1.0; kinds = p.1.1 }) (λ _. refl)
