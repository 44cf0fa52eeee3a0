-- Where declared columns stand in a header, and what is told where one does not stand there once.
use Rattle.std.specs.Prelude.{◌≡◌, ◌≢◌, ◌<◌, ◌≤◌, ℕ, List, Option, Some, None, ⊤, length, get_or}
use Rattle.std.specs.Prelude.{string_bytes, unwrap_or, fold, max, min}
use Rattle.std.specs.Prelude.{◌+◌, ◌-◌, ◌^◌}
use Rattle.std.specs.Prelude.{All, Contains, String}
use Rattle.std.specs.declared.alloc.Global.{Global}
use Rattle.csv.specs.Records.{field_at}
use Rattle.vortex_types.specs.FieldNames.{field_name}
use Rattle.vortex_types.specs.LogicalTypes.{Fields, field_count}
use Rattle.vortex_program.specs.declared.answer.Answer.{Answer}
use Rattle.rowfn_batches.specs.declared.errors.StreamError.{StreamError}
use Rattle.rowfn_batches.specs.declared.errors.StreamError.TheVariants as end

-- no field from that place on is that name
abbrev pub LacksFrom : List (List ℕ) → List ℕ → ℕ → Type 0
LacksFrom fields name start = (q : ℕ) → start ≤ q → field_at fields q ≢ Some name

-- the first place, from another on, at which the name stands
abbrev pub IsFirstFrom : List (List ℕ) → List ℕ → ℕ → ℕ → Type 0
IsFirstFrom fields name start place =
    (start ≤ place) × (place < length fields) × (field_at fields place ≡ Some name)
    × ((q : ℕ) → start ≤ q → q < place → field_at fields q ≢ Some name)

-- the name stands at that place and at no other
abbrev pub StandsOnce : List (List ℕ) → List ℕ → ℕ → Type 0
StandsOnce fields name place =
    (field_at fields place ≡ Some name)
    × ((q : ℕ) → field_at fields q ≡ Some name → q ≡ place)

-- the place that the expression says of a column, if it does
abbrev pub given_place : List (Option ℕ) → ℕ → Option ℕ
given_place said k = get_or said k None

-- a column stands at the place that is said of it, which the header has; else where its name
-- stands, and nowhere else
abbrev pub StandsWhere : List (List ℕ) → Option ℕ → List ℕ → ℕ → Type 0
StandsWhere fields None name place = StandsOnce fields name place
StandsWhere fields (Some at) name place = (place ≡ at) × (at < length fields)

-- the first n declared columns stand at those places
pub record FirstStandAt (fields : List (List ℕ)) (ds : Fields) (said : List (Option ℕ)) (n : ℕ)
    (places : List ℕ) : Type 0 where
  pub count : length places ≡ n
  pub each : (k : ℕ) → k < n
      → StandsWhere fields (given_place said k) (field_name k ds) (get_or places k 0)

abbrev pub StandAt : List (List ℕ) → Fields → List (Option ℕ) → List ℕ → Type 0
StandAt fields ds said = FirstStandAt fields ds said (field_count ds)

-- the name stands at two places
abbrev pub StandsTwice : List (List ℕ) → List ℕ → Type 0
StandsTwice fields name =
    (p q : ℕ) × (p < q) × (field_at fields p ≡ Some name) × (field_at fields q ≡ Some name)

-- the name is told: it is missing, or stands twice; or memory ran out
abbrev pub RefusesName : List (List ℕ) → List ℕ → StreamError → Type 0
RefusesName fields name (end.ColumnMissing told) =
    (string_bytes told ≡ name) × LacksFrom fields name 0
RefusesName fields name (end.ColumnTwice told) =
    (string_bytes told ≡ name) × StandsTwice fields name
RefusesName fields name end.OutOfMemory = ⊤
RefusesName fields name e = ⊥

-- the column is told, whose place lies behind so many fields; or memory ran out
abbrev pub RefusesPlace : List (List ℕ) → ℕ → List ℕ → StreamError → Type 0
RefusesPlace fields at name (end.PlaceMissing told place found) =
    (string_bytes told ≡ name) × (place ≡ at) × (found ≡ length fields) × (length fields ≤ at)
RefusesPlace fields at name end.OutOfMemory = ⊤
RefusesPlace fields at name e = ⊥

abbrev pub RefusesColumn : List (List ℕ) → Option ℕ → List ℕ → StreamError → Type 0
RefusesColumn fields None = RefusesName fields
RefusesColumn fields (Some at) = RefusesPlace fields at

-- why a header is refused: by the first declared column that does not stand there once, all before
-- it do; or memory ran out
pub data RefusesHeader (fields : List (List ℕ)) (ds : Fields) (said : List (Option ℕ))
    (e : StreamError) : Type 0 where
  at_column : (k : ℕ) (places : List ℕ) → k < field_count ds
      → FirstStandAt fields ds said k places
      → RefusesColumn fields (given_place said k) (field_name k ds) e
      → RefusesHeader fields ds said e
  without_memory : e ≡ end.OutOfMemory → RefusesHeader fields ds said e

-- without a header a column stands at the place that is said of it, else at its own among those
-- that are declared
abbrev pub declared_place : List (Option ℕ) → ℕ → ℕ
declared_place said k = unwrap_or (given_place said k) k

-- how many fields each record has where the first one has found: that many, but no fewer than
-- reach to each column
abbrev pub width_by : List ℕ → ℕ → ℕ
width_by places found =
    fold (λ width place. max width (min (place + 1) (2 ^ 64 - 1))) found places

-- no field of a header is the name of one of these answers
abbrev pub AreApartFrom : List (List ℕ) → List Answer → Type 0
AreApartFrom fields answers = All (λ a. LacksFrom fields (string_bytes a.name) 0) answers

-- the name of an answer, which is that of a field of the header, is told; or memory ran out
pub data TellsTaken (fields : List (List ℕ)) (name : List ℕ) (e : StreamError) : Type 0 where
  is_taken : (place : ℕ) (told : String Global) → field_at fields place ≡ Some name
      → string_bytes told ≡ name → e ≡ end.NameTaken told → TellsTaken fields name e
  out_of_memory : e ≡ end.OutOfMemory → TellsTaken fields name e

abbrev pub IsNameTaken : List (List ℕ) → List Answer → StreamError → Type 0
IsNameTaken fields answers e =
    (a : Answer) × Contains answers a × TellsTaken fields (string_bytes a.name) e
