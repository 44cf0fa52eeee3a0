-- Digests of bytes.
use Rattle.std.specs.Prelude.{ℕ, ◌+◌, ◌*◌, ◌%◌, ◌^◌, List, fold}

-- of bytes whose digest is d, and one more
abbrev pub digest_step : ℕ → ℕ → ℕ
digest_step d byte = ((d * 1099511628211) % 18446744073709551616 + byte) % 18446744073709551616

abbrev pub digest : List ℕ → ℕ
digest bytes = fold digest_step 14695981039346656037 bytes
