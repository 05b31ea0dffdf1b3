-- A pattern that fits is for the fields that are wanted.
use Rattle.std.proofs.Common.{◌≡◌, ◌∙◌, ◌↔◌, ℕ, zero, suc, ◌+◌, ◌*◌, ◌≤◌, Bool, true, false, ◌&&◌, not, ◌==◌, if◌then◌else◌, List, [], ◌∷◌, Option, Some, None, refl, subst, sym, map, arith}
use Rattle.std.specs.Prelude.{slice_get}
use Rattle.std.specs.Int.{abs_diff}
use Rattle.std.proofs.lemmas.Bool.{and_parts, eq-eqb, eqb-true}
use Rattle.std.proofs.lemmas.Option.{none-some, same_Some}
use Rattle.fluent_date_tables.specs.Lists.{list_numbered}
use Rattle.fluent_date_tables.specs.Skeletons.{skeletons}
use Rattle.fluent_date_tables.specs.Tables.{Pair, Row, Skeleton}
use Rattle.fluent_dates.specs.Fields.{Field, measure}
use Rattle.fluent_dates.specs.Laws.{AreForSamePlaces}
use Rattle.fluent_dates.specs.Matching.{Found, Gap, gap_between, gap_from, is_nearer, nearer, nearest, nearest_of, no_gap, paired, wider, with_pair, word16, word32}
use Rattle.fluent_dates.specs.Patterns.{fitting, if_fits}

-- ---- gaps

-- nothing is wanted that isn't there, and nothing is there that isn't wanted
abbrev IsNone : Gap → Type 0
IsNone gap = (gap.lacks ≡ 0) × (gap.extra ≡ false)

-- a test that fails, and what it tests
no_test : (a b : ℕ) → (a == b) ≡ false → a ≡ b → false ≡ true
no_test a b test same = sym test ∙ eq-eqb a b same

abbrev pub gap_if : Bool → Bool → Bool → ℕ → Gap → ℕ → ℕ → Gap
gap_if same none other bit gap asked have =
    if same then gap
    else (if none then record { far = word32 (gap.far + 0x10000); lacks = gap.lacks; extra = true }
    else (if other then record { far = word32 (gap.far + 0x1000); lacks = word16 (gap.lacks + bit); extra = gap.extra }
    else record { far = word32 (gap.far + abs_diff asked have); lacks = gap.lacks; extra = gap.extra }))

wider_by : (same none other : Bool) (bit : ℕ) (gap : Gap) (asked have : ℕ) → (asked == have) ≡ same → (asked == 0) ≡ none → (have == 0) ≡ other → 1 ≤ bit
    → IsNone (gap_if same none other bit gap asked have) → IsNone gap × ((asked ≡ 0) ↔ (have ≡ 0))
wider_by true none other bit gap asked have is _ _ some h =
    let e = eqb-true asked have is in (h, (λ z. sym e ∙ z, λ z. e ∙ z))
wider_by false true other bit gap asked have is _ _ some h = absurd (let no : true ≡ false = h.1 in cc)
wider_by false false true bit gap asked have is _ _ some h = absurd (omega (arith, h.0, some))
wider_by false false false bit gap asked have is a b some h =
    (h, (λ z. absurd (let no = no_test asked 0 a z in cc), λ z. absurd (let no = no_test have 0 b z in cc)))

places : (a b : ℕ) (wanted known : List ℕ) → ((a ≡ 0) ↔ (b ≡ 0)) → AreForSamePlaces wanted known → AreForSamePlaces (a ∷ wanted) (b ∷ known)
places a b wanted known first rest zero inside there = first
places a b wanted known first rest (suc i) inside there = rest i (omega (arith, inside)) (omega (arith, there))

gaps_none : (bit : ℕ) (gap : Gap) (wanted known : List ℕ) → 1 ≤ bit → IsNone (gap_from bit gap wanted known) → IsNone gap × AreForSamePlaces wanted known
gaps_none bit gap [] known some h = (h, λ i inside there. absurd (omega (arith, inside)))
gaps_none bit gap (asked ∷ wanted) [] some h = (h, λ i inside there. absurd (omega (arith, there)))
gaps_none bit gap (asked ∷ wanted) (have ∷ known) some h =
    let rest = gaps_none (word16 (bit * 2)) (wider bit gap asked have) wanted known (omega (arith, some)) h in
    let here = wider_by (asked == have) (asked == 0) (have == 0) bit gap asked have refl refl refl some rest.0 in
    (here.0, places asked have wanted known here.1 rest.1)

-- ---- what is found

-- the gap is that between the wanted measures and those of the pattern's skeleton
abbrev IsGauged : List ℕ → Found → Type 0
IsGauged wanted known = known.gap ≡ gap_between wanted known.skeleton.measures

abbrev AreGauged : List ℕ → Option Found → Type 0
AreGauged wanted best = (known : Found) → best ≡ Some known → IsGauged wanted known

nearer_by : (b : Bool) (wanted : List ℕ) (old new : Found) → IsGauged wanted old → IsGauged wanted new → AreGauged wanted (if b then Some new else Some old)
nearer_by true wanted old new o n known is = subst (IsGauged wanted) (same_Some new known is) n
nearer_by false wanted old new o n known is = subst (IsGauged wanted) (same_Some old known is) o

nearer_gauged : (wanted : List ℕ) (best : Option Found) (new : Found) → AreGauged wanted best → IsGauged wanted new → AreGauged wanted (nearer best new)
nearer_gauged wanted None new b n = λ known is. subst (IsGauged wanted) (same_Some new known is) n
nearer_gauged wanted (Some old) new b n = nearer_by (is_nearer new.gap old.gap) wanted old new (b old refl) n

with_gauged : (wanted : List ℕ) (best : Option Found) (pattern : ℕ) (skeleton : Option Skeleton) → AreGauged wanted best → AreGauged wanted (with_pair wanted best pattern skeleton)
with_gauged wanted best pattern None b = b
with_gauged wanted best pattern (Some s) b =
    nearer_gauged wanted best (record { gap = gap_between wanted s.measures; skeleton = s; pattern = pattern }) b refl

all_gauged : (best : Option Found) (pairs : List Pair) (wanted : List ℕ) → AreGauged wanted best → AreGauged wanted (nearest_of best pairs wanted)
all_gauged best [] wanted b = b
all_gauged best (pair ∷ pairs) wanted b =
    all_gauged (paired wanted best pair) pairs wanted (with_gauged wanted best pair.pattern (slice_get skeletons pair.skeleton) b)

nearest_gauged : (row : Row) (wanted : List Field) → AreGauged (map measure wanted) (nearest row wanted)
nearest_gauged row wanted =
    let measures = map measure wanted in
    let dates = all_gauged None (list_numbered row.date_patterns) measures (λ known is. absurd (none-some known is)) in
    all_gauged (nearest_of None (list_numbered row.date_patterns) measures) (list_numbered row.time_patterns) measures dates

-- ---- what fits

not_true : (b : Bool) → not b ≡ true → b ≡ false
not_true true h = cc
not_true false h = refl

fits_by : (b : Bool) (found known : Found) → (found.gap.lacks == 0 && not found.gap.extra) ≡ b → (if b then Some found else None) ≡ Some known → IsNone found.gap × (found ≡ known)
fits_by true found known test is =
    let both = and_parts (found.gap.lacks == 0) (not found.gap.extra) test in
    ((eqb-true found.gap.lacks 0 both.0, not_true found.gap.extra both.1), same_Some found known is)
fits_by false found known test is = absurd (none-some known is)

found_has_fields : (found : Option Found) (wanted : List ℕ) (known : Found) → AreGauged wanted found → if_fits found ≡ Some known → AreForSamePlaces wanted known.skeleton.measures
found_has_fields None wanted known gauged is = absurd (none-some known is)
found_has_fields (Some found) wanted known gauged is =
    let fits = fits_by (found.gap.lacks == 0 && not found.gap.extra) found known refl is in
    let same : known.gap ≡ gap_between wanted known.skeleton.measures = subst (IsGauged wanted) fits.1 (gauged found refl) in
    let none : IsNone known.gap = subst (λ k. IsNone k.gap) fits.1 fits.0 in
    (gaps_none 1 no_gap wanted known.skeleton.measures (omega arith) (subst IsNone same none)).1

pub fitting_has_fields : (row : Row) (wanted : List Field) (known : Found) → fitting row wanted ≡ Some known → AreForSamePlaces (map measure wanted) known.skeleton.measures
fitting_has_fields row wanted known is = found_has_fields (nearest row wanted) (map measure wanted) known (nearest_gauged row wanted) is
