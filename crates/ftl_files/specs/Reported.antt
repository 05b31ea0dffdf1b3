-- Which kinds of errors are reported of files.
use Rattle.std.specs.Prelude.{Bool, true, false, ◌||◌}
use Rattle.ftl_files.specs.declared.reported.Reported.{Reported}

abbrev pub none_reported : Reported
none_reported = record { no_file = false; failure = false; out_of_memory = false }

-- those that are reported of these files or of others
abbrev pub both : Reported → Reported → Reported
both a b = record { no_file = a.no_file || b.no_file; failure = a.failure || b.failure; out_of_memory = a.out_of_memory || b.out_of_memory }

-- whether any is
abbrev pub is_any : Reported → Bool
is_any r = r.no_file || (r.failure || r.out_of_memory)

-- and after one more
abbrev pub with_no_file : Reported → Reported
with_no_file r = record r { no_file = true }

abbrev pub with_failure : Reported → Reported
with_failure r = record r { failure = true }

abbrev pub with_out_of_memory : Reported → Reported
with_out_of_memory r = record r { out_of_memory = true }
