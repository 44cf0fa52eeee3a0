use Rattle.vortex_sql_date_formats.proofs.written.+push_digits.Given as goal

abbrev pub decreases-push_digits : goal.decreases-push_digits
decreases-push_digits l = l.width
