-- The pattern that is found is the nearest.
use Rattle.std.proofs.Common.{◌≡◌, ◌∙◌, ℕ, ◌≤◌, Bool, true, false, ◌&&◌, ◌||◌, ◌==◌, if◌then◌else◌, List, [], ◌∷◌, ◌++◌, Option, Some, None, refl, subst, sym, map, arith}
use Rattle.std.specs.Prelude.{nat_lt, slice_get}
use Rattle.std.specs.List.{All}
use Rattle.std.proofs.lemmas.Bool.{or_from, or_parts, eq-eqb, eqb-true, le-ltb, ltb-false, ltb-true}
use Rattle.std.proofs.lemmas.List.Elements.{All-append, All-cons, All-nil}
use Rattle.std.proofs.lemmas.Option.{none-some, same_Some}
use Rattle.fluent_date_tables.specs.Lists.{list_numbered}
use Rattle.fluent_date_tables.specs.Skeletons.{skeletons}
use Rattle.fluent_date_tables.specs.Tables.{Pair, Row, Skeleton}
use Rattle.fluent_dates.specs.Fields.{Field, measure}
use Rattle.fluent_dates.specs.Laws.{IsNoNearer, NoneIsNearer}
use Rattle.fluent_dates.specs.Matching.{Found, Gap, gap_between, is_nearer, nearer, nearest, nearest_of, paired, with_pair}

-- ---- gaps in their order

-- the first gap isn't nearer than the second
abbrev pub IsAfter : Gap → Gap → Type 0
IsAfter new old = (old.far ≤ new.far) × (new.far ≡ old.far → new.lacks ≤ old.lacks)

and_right : (x y : Bool) → x ≡ true → (x && y) ≡ false → y ≡ false
and_right true y t h = h
and_right false y t h = absurd (let no : false ≡ true = t in cc)

and_if : (x y : Bool) → (x ≡ true → y ≡ false) → (x && y) ≡ false
and_if true y h = h refl
and_if false y h = refl

after_itself : (a : Gap) → IsAfter a a
after_itself a = (omega arith, λ e. omega arith)

after_both : (a b c : Gap) → IsAfter a b → IsAfter b c → IsAfter a c
after_both a b c first second = (
  omega (arith, first.0, second.0),
  λ e. let ab : a.far ≡ b.far = omega (arith, first.0, second.0, e) in
      let bc : b.far ≡ c.far = omega (arith, first.0, second.0, e) in
      let l = first.1 ab in
      let m = second.1 bc in
      omega (arith, l, m),
)

from_test : (a b : Gap) → is_nearer a b ≡ false → IsAfter a b
from_test a b h =
    let both = or_parts (nat_lt a.far b.far) (a.far == b.far && nat_lt b.lacks a.lacks) h in (
      ltb-false a.far b.far both.0,
      λ e. ltb-false b.lacks a.lacks (and_right (a.far == b.far) (nat_lt b.lacks a.lacks) (eq-eqb a.far b.far e) both.1),
    )

pub to_test : (a b : Gap) → IsAfter a b → is_nearer a b ≡ false
to_test a b h =
    or_from (nat_lt a.far b.far) (a.far == b.far && nat_lt b.lacks a.lacks) (le-ltb a.far b.far h.0)
    (and_if (a.far == b.far) (nat_lt b.lacks a.lacks) (λ t. le-ltb b.lacks a.lacks (h.1 (eqb-true a.far b.far t))))

after_by : (x y z : Bool) (a b : Gap) → nat_lt a.far b.far ≡ x → (a.far == b.far) ≡ y → nat_lt b.lacks a.lacks ≡ z → (x || (y && z)) ≡ true → IsAfter b a
after_by true y z a b lt e l h = let less = ltb-true a.far b.far lt in (omega (arith, less), λ same. absurd (omega (arith, less, same)))
after_by false true true a b lt e l h =
    let same = eqb-true a.far b.far e in let more = ltb-true b.lacks a.lacks l in (omega (arith, same), λ again. omega (arith, more))
after_by false true false a b lt e l h = absurd (let no : false ≡ true = h in cc)
after_by false false z a b lt e l h = absurd (let no : false ≡ true = h in cc)

-- the farther of two comes after the nearer
nearer_first : (a b : Gap) → is_nearer a b ≡ true → IsAfter b a
nearer_first a b h = after_by (nat_lt a.far b.far) (a.far == b.far) (nat_lt b.lacks a.lacks) a b refl refl refl h

-- ---- what is found

-- what is the nearest until now comes after what is found in the end
abbrev AreAfter : Option Found → Found → Type 0
AreAfter best known = (one : Found) → best ≡ Some one → IsAfter one.gap known.gap

-- and so is the pattern for a skeleton
abbrev IsPassed : List ℕ → Option Skeleton → Found → Type 0
IsPassed wanted skeleton known = (s : Skeleton) → skeleton ≡ Some s → is_nearer (gap_between wanted s.measures) known.gap ≡ false

after_one : (one old known : Found) → IsAfter old.gap known.gap → Some old ≡ Some one → IsAfter one.gap known.gap
after_one one old known h is = subst (λ k. IsAfter k.gap known.gap) (same_Some old one is) h

chosen : (b : Bool) (old new known : Found) → is_nearer new.gap old.gap ≡ b → AreAfter (if b then Some new else Some old) known
    → IsAfter old.gap known.gap × IsAfter new.gap known.gap
chosen true old new known test h =
    let first = h new refl in (after_both old.gap new.gap known.gap (nearer_first new.gap old.gap test) first, first)
chosen false old new known test h =
    let first = h old refl in (first, after_both new.gap old.gap known.gap (from_test new.gap old.gap test) first)

nearer_after : (best : Option Found) (new known : Found) → AreAfter (nearer best new) known → AreAfter best known × IsAfter new.gap known.gap
nearer_after None new known h = (λ one is. absurd (none-some one is), h new refl)
nearer_after (Some old) new known h =
    let both = chosen (is_nearer new.gap old.gap) old new known refl h in (λ one is. after_one one old known both.0 is, both.1)

passed_one : (wanted : List ℕ) (s : Skeleton) (known : Found) → IsAfter (gap_between wanted s.measures) known.gap → IsPassed wanted (Some s) known
passed_one wanted s known h other is =
    subst (λ k. is_nearer (gap_between wanted k.measures) known.gap ≡ false) (same_Some s other is) (to_test (gap_between wanted s.measures) known.gap h)

with_after : (wanted : List ℕ) (best : Option Found) (pattern : ℕ) (skeleton : Option Skeleton) (known : Found) → AreAfter (with_pair wanted best pattern skeleton) known
    → AreAfter best known × IsPassed wanted skeleton known
with_after wanted best pattern None known h = (h, λ s is. absurd (none-some s is))
with_after wanted best pattern (Some s) known h =
    let both = nearer_after best (record { gap = gap_between wanted s.measures; skeleton = s; pattern = pattern }) known h in
    (both.0, passed_one wanted s known both.1)

-- If the nearest of a list comes after a pattern, none of the list is nearer than that one.
list_after : (best : Option Found) (pairs : List Pair) (wanted : List ℕ) (known : Found) → AreAfter (nearest_of best pairs wanted) known
    → AreAfter best known × All (IsNoNearer wanted known) pairs
list_after best [] wanted known h = (h, All-nil (IsNoNearer wanted known))
list_after best (pair ∷ pairs) wanted known h =
    let rest = list_after (paired wanted best pair) pairs wanted known h in
    let here = with_after wanted best pair.pattern (slice_get skeletons pair.skeleton) known rest.0 in
    (here.0, All-cons (IsNoNearer wanted known) pair pairs here.1 rest.1)

-- what is found comes after itself
found_after : (best : Option Found) (known : Found) → best ≡ Some known → AreAfter best known
found_after best known is one same = subst (λ k. IsAfter one.gap k.gap) (same_Some one known (sym same ∙ is)) (after_itself one.gap)

pub none_is_nearer : NoneIsNearer
none_is_nearer row fields known is =
    let wanted = map measure fields in
    let dates = list_numbered row.date_patterns in
    let times = list_numbered row.time_patterns in
    let first = nearest_of None dates wanted in
    let second = list_after first times wanted known (found_after (nearest_of first times wanted) known is) in
    All-append (IsNoNearer wanted known) dates times (list_after None dates wanted known second.0).1 second.1
