-- The status with which a program tells why words ask nothing.
use Rattle.std.specs.Prelude.{ℕ, Bool, true, false, if◌then◌else◌}
use Rattle.vortex_expressions.specs.Reading.{is_want_of_memory}
use Rattle.rowfn_queries.specs.declared.error.QueryError.{QueryError}
use Rattle.rowfn_queries.specs.declared.error.QueryError.TheVariants as error
use Rattle.rowfn_queries.specs.declared.scope.ScopeReason.{ScopeReason}
use Rattle.rowfn_queries.specs.declared.scope.ScopeReason.TheVariants as reason

abbrev pub is_memory : ScopeReason → Bool
is_memory reason.OutOfMemory = true
is_memory r = false

-- whether memory ran out, and nothing is wrong with the words as far as is known
abbrev pub is_out_of_memory : QueryError → Bool
is_out_of_memory (error.Unread place e mixed) = is_want_of_memory e
is_out_of_memory (error.Columns e) = is_memory e.reason
is_out_of_memory (error.NoTruth t) = false
is_out_of_memory (error.Header fault) = false
is_out_of_memory (error.Reading e) = false
is_out_of_memory error.OutOfMemory = true

abbrev pub words_status : Bool → ℕ
words_status want = if want then 3 else 4

-- 2 for a header that is none, 3 for reading and memory, 4 for words that are wrong
abbrev pub status_of : QueryError → ℕ
status_of (error.Header fault) = 2
status_of (error.Reading e) = 3
status_of (error.Unread place e mixed) = words_status (is_want_of_memory e)
status_of (error.Columns e) = words_status (is_memory e.reason)
status_of (error.NoTruth t) = 4
status_of error.OutOfMemory = 3
