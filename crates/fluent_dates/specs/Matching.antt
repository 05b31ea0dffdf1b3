-- The pattern that is nearest to the fields that are wanted (UTS 35, "Matching Skeletons").
use Rattle.std.specs.Prelude.{ℕ, ◌+◌, ◌*◌, min, Bool, true, false, ◌&&◌, ◌||◌, ◌==◌, nat_lt, if◌then◌else◌, List, [], ◌∷◌, map, Option, Some, None, slice_get}
use Rattle.std.specs.Int.{abs_diff}
use Rattle.fluent_dates.specs.Fields.{Field, measure}
use Rattle.fluent_date_tables.specs.Tables.{Pair, Row, Skeleton}
use Rattle.fluent_date_tables.specs.Lists.{list_numbered}
use Rattle.fluent_date_tables.specs.Skeletons.{skeletons}
use Rattle.fluent_dates.specs.declared.matching.Gap as code_gap
use Rattle.fluent_dates.specs.declared.matching.Found as code_found

-- How far a pattern is, which of the wanted fields it lacks (a bit for each place), and whether it has fields that aren't wanted.
abbrev pub Gap : Type 0
Gap = code_gap.Gap

abbrev pub no_gap : Gap
no_gap = record { far = 0; lacks = 0; extra = false }

-- sums stop at the most that their words hold, which eleven fields never reach
abbrev pub word16 : ℕ → ℕ
word16 n = min n 65535

abbrev pub word32 : ℕ → ℕ
word32 n = min n 4294967295

-- a gap with that of two measures for the place of this bit
abbrev pub wider : ℕ → Gap → ℕ → ℕ → Gap
wider bit gap asked have =
    if asked == have then gap
    else (if asked == 0 then record { far = word32 (gap.far + 0x10000); lacks = gap.lacks; extra = true }
    else (if have == 0 then record { far = word32 (gap.far + 0x1000); lacks = word16 (gap.lacks + bit); extra = gap.extra }
    else record { far = word32 (gap.far + abs_diff asked have); lacks = gap.lacks; extra = gap.extra }))

-- a gap with those of measures, from the place of this bit on
abbrev pub gap_from : ℕ → Gap → List ℕ → List ℕ → Gap
gap_from bit gap [] known = gap
gap_from bit gap (asked ∷ wanted) [] = gap
gap_from bit gap (asked ∷ wanted) (have ∷ known) = gap_from (word16 (bit * 2)) (wider bit gap asked have) wanted known

abbrev pub gap_between : List ℕ → List ℕ → Gap
gap_between wanted known = gap_from 1 no_gap wanted known

-- a pattern that was found: its gap, the skeleton that it is for, and its number
pub record Found : Type 0 where
  pub gap : Gap
  pub skeleton : Skeleton
  pub pattern : ℕ

abbrev pub found_view : code_found.Found → Found
found_view found = record { gap = found.gap; skeleton = found.skeleton.now; pattern = found.pattern }

-- of equally near patterns one that lacks later fields is nearer
abbrev pub is_nearer : Gap → Gap → Bool
is_nearer new old = nat_lt new.far old.far || (new.far == old.far && nat_lt old.lacks new.lacks)

abbrev pub nearer : Option Found → Found → Option Found
nearer None new = Some new
nearer (Some old) new = if is_nearer new.gap old.gap then Some new else Some old

-- the nearer of the nearest until now and a pattern for a skeleton
abbrev pub with_pair : List ℕ → Option Found → ℕ → Option Skeleton → Option Found
with_pair wanted best pattern None = best
with_pair wanted best pattern (Some skeleton) =
    nearer best (record { gap = gap_between wanted skeleton.measures; skeleton = skeleton; pattern = pattern })

abbrev pub paired : List ℕ → Option Found → Pair → Option Found
paired wanted best pair = with_pair wanted best pair.pattern (slice_get skeletons pair.skeleton)

-- the nearest of a list and of one before it
abbrev pub nearest_of : Option Found → List Pair → List ℕ → Option Found
nearest_of best [] wanted = best
nearest_of best (pair ∷ pairs) wanted = nearest_of (paired wanted best pair) pairs wanted

-- the nearest pattern of a locale: of those of dates, and then of those of times
abbrev pub nearest : Row → List Field → Option Found
nearest row fields =
    let wanted = map measure fields in
    nearest_of (nearest_of None (list_numbered row.date_patterns) wanted) (list_numbered row.time_patterns) wanted
