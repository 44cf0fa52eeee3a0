-- The definition of a shipped function: its names, the types that it takes, its outcome in a row,
-- its marks and its text.
use Rattle.std.specs.Prelude.{◌≡◌, ℕ, List, Option, Some, Bool, true, Any}
use Rattle.vortex_errors.specs.declared.error.MismatchPlace.{MismatchPlace}
use Rattle.vortex_types.specs.LogicalTypes.{LogicalType, is_nullable}
use Rattle.vortex_types.specs.Values.{Value, null}
use Rattle.vortex_interface.specs.Outcomes.{Fault, Outcome, faults, GivesValue, GivesType}
use Rattle.vortex_interface.specs.Outcomes.{GivesNull}
use Rattle.vortex_interface.specs.Meaning.{HaveTypes, AreAlike}

-- id: the identity
-- count: how many arguments
-- child_name: the name of each
-- return_type: the return type, if the argument types are accepted
-- place: the place in E3 for other argument types; none for a function that accepts all
-- means: the row meaning of argument types and values
-- strict: null where an argument is
-- infallible: no row faults
-- before: the text of a call before the argument that is printed k-th, and at the end
-- printed: which argument that is; none at the end
-- added: what a call adds to the weight of its arguments, if it is nullable and if it is not
pub record RowFunction : Type 0 where
  pub id : List ℕ
  pub count : ℕ
  pub child_name : ℕ → List ℕ
  pub return_type : List LogicalType → Option LogicalType
  pub place : List LogicalType → Option MismatchPlace
  pub means : List LogicalType → List Value → Outcome
  pub strict : Bool
  pub infallible : Bool
  pub before : ℕ → List ℕ
  pub printed : ℕ → ℕ
  pub added : Bool → ℕ

-- the laws of a lawful function, as in `Meaning`, and one more
-- one_fault: it has at most one fault, so its error is the same for
-- any row
pub record LawfulRow (f : RowFunction) : Type 0 where
  pub typed : (ts : List LogicalType) (t : LogicalType) (vs : List Value)
      → f.return_type ts ≡ Some t → HaveTypes ts vs → GivesType t (f.means ts vs)
  pub alike : (ts us : List LogicalType) (t u : LogicalType) (vs : List Value)
      → f.return_type ts ≡ Some t → f.return_type us ≡ Some u → AreAlike ts us
      → HaveTypes ts vs → HaveTypes us vs → f.means ts vs ≡ f.means us vs
  pub strict_type : (ts : List LogicalType) (t : LogicalType)
      → f.strict ≡ true → f.return_type ts ≡ Some t
      → Any (λ a. is_nullable a ≡ true) ts → is_nullable t ≡ true
  pub strict_value : (ts : List LogicalType) (t : LogicalType) (vs : List Value)
      → f.strict ≡ true → f.return_type ts ≡ Some t → HaveTypes ts vs
      → Any (λ v. v ≡ null) vs → GivesNull (f.means ts vs)
  pub never_faults : (ts : List LogicalType) (t : LogicalType) (vs : List Value)
      → f.infallible ≡ true → f.return_type ts ≡ Some t → HaveTypes ts vs
      → GivesValue (f.means ts vs)
  pub one_fault : (ts us : List LogicalType) (vs ws : List Value) (x y : Fault)
      → f.means ts vs ≡ faults x → f.means us ws ≡ faults y → x ≡ y
