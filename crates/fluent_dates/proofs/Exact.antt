-- A pattern that is for the very fields that are wanted is the nearest.
use Rattle.std.proofs.Common.{◌≡◌, ◌∙◌, ℕ, zero, suc, ◌*◌, ◌≤◌, Bool, true, false, ◌&&◌, ◌==◌, if◌then◌else◌, List, [], ◌∷◌, Option, Some, None, refl, subst, sym, ap, map, arith}
use Rattle.std.specs.Prelude.{slice_get}
use Rattle.std.specs.Int.{abs_diff}
use Rattle.std.proofs.lemmas.Bool.{and_parts, eqb-false, lt-ltb, or_left}
use Rattle.std.proofs.lemmas.Option.{none-some, same_Some}
use Rattle.fluent_date_tables.specs.Lists.{list_numbered}
use Rattle.fluent_date_tables.specs.Skeletons.{skeletons}
use Rattle.fluent_date_tables.specs.Tables.{Pair, Row, Skeleton}
use Rattle.fluent_dates.specs.Exact.{are_same, exact_in, exact_of, exact_one, exact_with, first_found}
use Rattle.fluent_dates.specs.Fields.{Field, measure}
use Rattle.fluent_dates.specs.Matching.{Found, Gap, gap_between, gap_from, is_nearer, nearer, nearest, nearest_of, no_gap, paired, wider, with_pair, word16}
use Rattle.fluent_dates.proofs.Fitting.{gap_if}
use Rattle.fluent_dates.proofs.Nearest.{to_test}

-- ---- gaps of measures that are the same, and of others

same_wider : (same none other : Bool) (bit : ℕ) (gap : Gap) (asked have : ℕ) → same ≡ true → gap_if same none other bit gap asked have ≡ gap
same_wider true none other bit gap asked have h = refl
same_wider false none other bit gap asked have h = absurd (let no : false ≡ true = h in cc)

same_from : (bit : ℕ) (gap : Gap) (wanted known : List ℕ) → are_same wanted known ≡ true → gap_from bit gap wanted known ≡ gap
same_from bit gap [] known h = refl
same_from bit gap (asked ∷ wanted) [] h = refl
same_from bit gap (asked ∷ wanted) (have ∷ known) h =
    let both = and_parts (asked == have) (are_same wanted known) h in
    ap (λ g. gap_from (word16 (bit * 2)) g wanted known) (same_wider (asked == have) (asked == 0) (have == 0) bit gap asked have both.0)
    ∙ same_from (word16 (bit * 2)) gap wanted known both.1

-- what is far stays far
far_wider : (same none other : Bool) (bit : ℕ) (gap : Gap) (asked have : ℕ) → 1 ≤ gap.far → 1 ≤ (gap_if same none other bit gap asked have).far
far_wider true none other bit gap asked have h = h
far_wider false true other bit gap asked have h = omega (arith, h)
far_wider false false true bit gap asked have h = omega (arith, h)
far_wider false false false bit gap asked have h = omega (arith, h)

far_from : (bit : ℕ) (gap : Gap) (wanted known : List ℕ) → 1 ≤ gap.far → 1 ≤ (gap_from bit gap wanted known).far
far_from bit gap [] known h = h
far_from bit gap (asked ∷ wanted) [] h = h
far_from bit gap (asked ∷ wanted) (have ∷ known) h =
    far_from (word16 (bit * 2)) (wider bit gap asked have) wanted known (far_wider (asked == have) (asked == 0) (have == 0) bit gap asked have h)

-- numbers that differ are apart
apart_by : (a b d : ℕ) → abs_diff a b ≡ d → (a == b) ≡ false → 1 ≤ d
apart_by a b zero e test = absurd (eqb-false a b test (omega (arith, e)))
apart_by a b (suc d) e test = omega arith

other_wider : (same none other : Bool) (bit : ℕ) (gap : Gap) (asked have : ℕ) → same ≡ false → (asked == have) ≡ false → 1 ≤ (gap_if same none other bit gap asked have).far
other_wider true none other bit gap asked have h test = absurd (let no : true ≡ false = h in cc)
other_wider false true other bit gap asked have h test = omega arith
other_wider false false true bit gap asked have h test = omega arith
other_wider false false false bit gap asked have h test = let some = apart_by asked have (abs_diff asked have) refl test in omega (arith, some)

other_by : (same : Bool) (bit : ℕ) (gap : Gap) (asked have : ℕ) (wanted known : List ℕ) → (asked == have) ≡ same
    → (are_same wanted known ≡ false → 1 ≤ (gap_from (word16 (bit * 2)) (wider bit gap asked have) wanted known).far) → (same && are_same wanted known) ≡ false
    → 1 ≤ (gap_from (word16 (bit * 2)) (wider bit gap asked have) wanted known).far
other_by true bit gap asked have wanted known test rest h = rest h
other_by false bit gap asked have wanted known test rest h =
    far_from (word16 (bit * 2)) (wider bit gap asked have) wanted known (other_wider (asked == have) (asked == 0) (have == 0) bit gap asked have test test)

other_from : (bit : ℕ) (gap : Gap) (wanted known : List ℕ) → are_same wanted known ≡ false → 1 ≤ (gap_from bit gap wanted known).far
other_from bit gap [] known h = absurd (let no : true ≡ false = h in cc)
other_from bit gap (asked ∷ wanted) [] h = absurd (let no : true ≡ false = h in cc)
other_from bit gap (asked ∷ wanted) (have ∷ known) h =
    other_by (asked == have) bit gap asked have wanted known refl (λ e. other_from (word16 (bit * 2)) (wider bit gap asked have) wanted known e) h

-- ---- none is nearer than one without a gap

no_nearer_by : (same : Bool) (wanted known : List ℕ) → are_same wanted known ≡ same → is_nearer (gap_between wanted known) no_gap ≡ false
no_nearer_by true wanted known h = subst (λ g. is_nearer g no_gap ≡ false) (sym (same_from 1 no_gap wanted known h)) refl
no_nearer_by false wanted known h =
    let far = other_from 1 no_gap wanted known h in
    let least : 0 ≤ (gap_between wanted known).far = omega arith in
    to_test (gap_between wanted known) no_gap (least, λ e. let none : (gap_between wanted known).far ≡ 0 = e in absurd (omega (arith, none, far)))

kept : {X : Type 0} (b : Bool) (x y : X) → b ≡ false → (if b then x else y) ≡ y
kept true x y h = absurd (let no : true ≡ false = h in cc)
kept false x y h = refl

taken : {X : Type 0} (b : Bool) (x y : X) → b ≡ true → (if b then x else y) ≡ x
taken true x y h = refl
taken false x y h = absurd (let no : false ≡ true = h in cc)

stays_by_pair : (old : Found) (pattern : ℕ) (skeleton : Option Skeleton) (wanted : List ℕ) → old.gap ≡ no_gap → with_pair wanted (Some old) pattern skeleton ≡ Some old
stays_by_pair old pattern None wanted e = refl
stays_by_pair old pattern (Some s) wanted e =
    let test : is_nearer (gap_between wanted s.measures) old.gap ≡ false =
    subst (λ g. is_nearer (gap_between wanted s.measures) g ≡ false) (sym e) (no_nearer_by (are_same wanted s.measures) wanted s.measures refl) in
    kept (is_nearer (gap_between wanted s.measures) old.gap) _ (Some old) test

stays : (old : Found) (pairs : List Pair) (wanted : List ℕ) → old.gap ≡ no_gap → nearest_of (Some old) pairs wanted ≡ Some old
stays old [] wanted e = refl
stays old (pair ∷ pairs) wanted e =
    ap (λ best. nearest_of best pairs wanted) (stays_by_pair old pair.pattern (slice_get skeletons pair.skeleton) wanted e) ∙ stays old pairs wanted e

-- ---- one without a gap is nearer than one with a gap

abbrev IsFar : Option Found → Type 0
IsFar best = (one : Found) → best ≡ Some one → 1 ≤ one.gap.far

nearer_exact : (best : Option Found) (new : Found) → IsFar best → new.gap ≡ no_gap → nearer best new ≡ Some new
nearer_exact None new far e = refl
nearer_exact (Some old) new far e =
    let some = far old refl in
    let less : is_nearer no_gap old.gap ≡ true = or_left _ _ (lt-ltb 0 old.gap.far (omega (arith, some))) in
    taken (is_nearer new.gap old.gap) (Some new) (Some old) (subst (λ g. is_nearer g old.gap ≡ true) (sym e) less)

chosen_far : (b : Bool) (old new : Found) → 1 ≤ old.gap.far → 1 ≤ new.gap.far → IsFar (if b then Some new else Some old)
chosen_far true old new o n one is = subst (λ k. 1 ≤ k.gap.far) (same_Some new one is) n
chosen_far false old new o n one is = subst (λ k. 1 ≤ k.gap.far) (same_Some old one is) o

nearer_far : (best : Option Found) (new : Found) → IsFar best → 1 ≤ new.gap.far → IsFar (nearer best new)
nearer_far None new far n = λ one is. subst (λ k. 1 ≤ k.gap.far) (same_Some new one is) n
nearer_far (Some old) new far n = chosen_far (is_nearer new.gap old.gap) old new (far old refl) n

abbrev exact_if : Bool → Skeleton → ℕ → Option Found
exact_if same s pattern = if same then Some (record { gap = no_gap; skeleton = s; pattern = pattern }) else None

exact_by : (same : Bool) (wanted : List ℕ) (best : Option Found) (pattern : ℕ) (s : Skeleton) (known : Found) → IsFar best → are_same wanted s.measures ≡ same
    → exact_if same s pattern ≡ Some known → (with_pair wanted best pattern (Some s) ≡ Some known) × (known.gap ≡ no_gap)
exact_by true wanted best pattern s known far test is =
    let found : Found = record { gap = no_gap; skeleton = s; pattern = pattern } in (
      ap (λ g. nearer best (record { gap = g; skeleton = s; pattern = pattern })) (same_from 1 no_gap wanted s.measures test)
          ∙ nearer_exact best found far refl
          ∙ is,
      ap (λ k. k.gap) (sym (same_Some found known is)),
    )
exact_by false wanted best pattern s known far test is = absurd (none-some known is)

with_exact : (wanted : List ℕ) (best : Option Found) (pattern : ℕ) (skeleton : Option Skeleton) (known : Found) → IsFar best → exact_with wanted pattern skeleton ≡ Some known
    → (with_pair wanted best pattern skeleton ≡ Some known) × (known.gap ≡ no_gap)
with_exact wanted best pattern None known far is = absurd (none-some known is)
with_exact wanted best pattern (Some s) known far is = exact_by (are_same wanted s.measures) wanted best pattern s known far refl is

far_by : (same : Bool) (wanted : List ℕ) (best : Option Found) (pattern : ℕ) (s : Skeleton) → IsFar best → are_same wanted s.measures ≡ same
    → exact_if same s pattern ≡ None → IsFar (with_pair wanted best pattern (Some s))
far_by true wanted best pattern s far test is = absurd (none-some _ (sym is))
far_by false wanted best pattern s far test is =
    nearer_far best (record { gap = gap_between wanted s.measures; skeleton = s; pattern = pattern }) far (other_from 1 no_gap wanted s.measures test)

with_far : (wanted : List ℕ) (best : Option Found) (pattern : ℕ) (skeleton : Option Skeleton) → IsFar best → exact_with wanted pattern skeleton ≡ None
    → IsFar (with_pair wanted best pattern skeleton)
with_far wanted best pattern None far is = far
with_far wanted best pattern (Some s) far is = far_by (are_same wanted s.measures) wanted best pattern s far refl is

-- ---- lists

exact_step : (first : Option Found) (best : Option Found) (pair : Pair) (pairs : List Pair) (wanted : List ℕ) (known : Found)
    → ((b : Option Found) → IsFar b → exact_of pairs wanted ≡ Some known → (nearest_of b pairs wanted ≡ Some known) × (known.gap ≡ no_gap))
    → IsFar best → exact_one wanted pair ≡ first → first_found first (exact_of pairs wanted) ≡ Some known
    → (nearest_of (paired wanted best pair) pairs wanted ≡ Some known) × (known.gap ≡ no_gap)
exact_step None best pair pairs wanted known rest far here is =
    rest (paired wanted best pair) (with_far wanted best pair.pattern (slice_get skeletons pair.skeleton) far here) is
exact_step (Some found) best pair pairs wanted known rest far here is =
    let one = with_exact wanted best pair.pattern (slice_get skeletons pair.skeleton) found far here in (
      ap (λ b. nearest_of b pairs wanted) one.0 ∙ stays found pairs wanted one.1 ∙ is,
      subst (λ k. k.gap ≡ no_gap) (same_Some found known is) one.1,
    )

list_exact : (best : Option Found) (pairs : List Pair) (wanted : List ℕ) (known : Found) → IsFar best → exact_of pairs wanted ≡ Some known
    → (nearest_of best pairs wanted ≡ Some known) × (known.gap ≡ no_gap)
list_exact best [] wanted known far is = absurd (none-some known is)
list_exact best (pair ∷ pairs) wanted known far is =
    exact_step (exact_one wanted pair) best pair pairs wanted known (λ b f e. list_exact b pairs wanted known f e) far refl is

far_step : (first : Option Found) (best : Option Found) (pair : Pair) (pairs : List Pair) (wanted : List ℕ)
    → ((b : Option Found) → IsFar b → exact_of pairs wanted ≡ None → IsFar (nearest_of b pairs wanted))
    → IsFar best → exact_one wanted pair ≡ first → first_found first (exact_of pairs wanted) ≡ None → IsFar (nearest_of (paired wanted best pair) pairs wanted)
far_step None best pair pairs wanted rest far here is =
    rest (paired wanted best pair) (with_far wanted best pair.pattern (slice_get skeletons pair.skeleton) far here) is
far_step (Some found) best pair pairs wanted rest far here is = absurd (none-some found (sym is))

list_far : (best : Option Found) (pairs : List Pair) (wanted : List ℕ) → IsFar best → exact_of pairs wanted ≡ None → IsFar (nearest_of best pairs wanted)
list_far best [] wanted far is = far
list_far best (pair ∷ pairs) wanted far is =
    far_step (exact_one wanted pair) best pair pairs wanted (λ b f e. list_far b pairs wanted f e) far refl is

none_far : IsFar None
none_far one is = absurd (none-some one is)

row_step : (first : Option Found) (dates times : List Pair) (wanted : List ℕ) (known : Found) → exact_of dates wanted ≡ first
    → first_found first (exact_of times wanted) ≡ Some known → nearest_of (nearest_of None dates wanted) times wanted ≡ Some known
row_step None dates times wanted known here is =
    (list_exact (nearest_of None dates wanted) times wanted known (list_far None dates wanted none_far here) is).0
row_step (Some found) dates times wanted known here is =
    let one = list_exact None dates wanted found none_far here in
    ap (λ b. nearest_of b times wanted) one.0 ∙ stays found times wanted one.1 ∙ is

-- The first pattern for the very fields that are wanted is the nearest of the locale.
pub exact_is_nearest : (row : Row) (fields : List Field) (known : Found) → exact_in row (map measure fields) ≡ Some known → nearest row fields ≡ Some known
exact_is_nearest row fields known is =
    let wanted = map measure fields in
    let dates = list_numbered row.date_patterns in
    row_step (exact_of dates wanted) dates (list_numbered row.time_patterns) wanted known refl is
