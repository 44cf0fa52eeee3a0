-- The fields of a batch, row by row, with its nulls.
use Rattle.std.specs.Prelude.{◌≤◌, ◌-◌, Bool, Option, Some, None, ℕ, List, length, map, All}
use Rattle.std.specs.Prelude.{◌≡◌, if◌then◌else◌, take, drop, nat_le}
use Rattle.rowfn_csv.specs.declared.records.Span.{Span}
use Rattle.rowfn_csv.specs.declared.batch.Part.{Part}
use Rattle.rowfn_csv.specs.declared.batch.Batch.TheInside.{Inside}

-- what a clause sees of a batch: its fields, nothing for each null, and where its rows lie
pub record BatchView : Type 0 where
  pub fields : List (Option (List ℕ))
  pub spans : List Span

abbrev pub field_said : List ℕ → Bool → Option (List ℕ)
field_said field is_null = if is_null then None else Some field

-- the bytes of a field, and what it says: nothing where its end stands before its start
abbrev pub part_bytes : List ℕ → Part → List ℕ
part_bytes bytes p = take (p.end - p.start) (drop p.start bytes)

abbrev pub part_said : List ℕ → Part → Option (List ℕ)
part_said bytes p = if nat_le p.start p.end then Some (part_bytes bytes p) else None

abbrev pub batch_of : Inside → BatchView
batch_of a = record {
  fields = map (part_said a.bytes.items) a.parts.items;
  spans = a.spans.items;
}

-- the fields lie within so many bytes
abbrev pub AreParts : ℕ → List Part → Type 0
AreParts size parts = All (λ p. p.end ≤ size) parts

-- fields that lie within the first bytes say the same among other bytes, of which more are theirs
pub record KeepsParts (size : ℕ) (bytes : List ℕ) (more : ℕ) (others : List ℕ) : Type 0 where
  pub grows : size ≤ more
  pub said : (p : Part) → p.end ≤ size → part_said others p ≡ part_said bytes p

pub record IsBatch (a : Inside) : Type 0 where
  pub filled : a.filled ≤ length a.bytes.items
  pub parts : AreParts a.filled a.parts.items
