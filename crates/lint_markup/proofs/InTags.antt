-- Where a tag ends.
use Rattle.std.proofs.Common.{◌≡◌, ◌∙◌, ℕ, suc, ◌+◌, ◌-◌, ◌<◌, ◌≤◌, Bool, true, false, not, ◌||◌, if◌then◌else◌, [], ◌∷◌, length, drop, take, get_or, eqb-true, Option, Some, None, option_map, refl, ap, sym, arith, length-drop, get_or-drop}
use Rattle.std.specs.Prelude.{◌==◌}
use Rattle.std.proofs.lemmas.Bool.Decides.{nat_tests}
use Rattle.std.proofs.lemmas.List.{length-take-le}
use Rattle.fluent_grammar.specs.Words.{Text, greater, begins_with}
use Rattle.fluent_tokens.specs.Counted.{Cuts}
use Rattle.fluent_tokens.proofs.Counted.{cut_before_ascii, cut_by_ascii}
use Rattle.lint_findings.specs.Numbers.{tag_len}
use Rattle.lint_findings.specs.Tags as t
use Rattle.lint_markup.specs.Pieces.{after_tag}

-- ---- the sign that ends it

-- a `>` is at this place
pub record EndsAt (s : Text) (k : ℕ) : Type 0 where
  pub within : k < length s
  pub sign : get_or s k 0 ≡ 62

later : (c : ℕ) (cs : Text) (o : Option ℕ) (k : ℕ) → ((j : ℕ) → o ≡ Some j → EndsAt cs j) → option_map suc o ≡ Some k → EndsAt (c ∷ cs) k
later c cs None k h e = absurd cc
later c cs (Some j) k h e =
    let is : k ≡ suc j = cc in
    let there = h j refl in
    rw is (record { within = omega (arith, there.within); sign = there.sign })

at_first : (c : ℕ) (cs : Text) (k : ℕ) → (c == greater) ≡ true → ◌≡◌ {A = Option ℕ} (Some 0) (Some k) → EndsAt (c ∷ cs) k
at_first c cs k e h =
    let is : k ≡ 0 = cc in
    rw is (record { within = omega arith; sign = eqb-true c 62 e })

plain_end : (c : ℕ) (cs : Text) (l g : Bool) (o : Option ℕ) (k : ℕ) → (c == greater) ≡ g → ((j : ℕ) → o ≡ Some j → EndsAt cs j) →
    (if l then None else if g then Some 0 else option_map suc o) ≡ Some k → EndsAt (c ∷ cs) k
plain_end c cs true g o k e h is = absurd cc
plain_end c cs false true o k e h is = at_first c cs k e is
plain_end c cs false false o k e h is = later c cs o k h is

quoted_end : (c : ℕ) (cs : Text) (b : Bool) (o : Option ℕ) (k : ℕ) → ((j : ℕ) → o ≡ Some j → EndsAt cs j) →
    (if b then None else option_map suc o) ≡ Some k → EndsAt (c ∷ cs) k
quoted_end c cs true o k h is = absurd cc
quoted_end c cs false o k h is = later c cs o k h is

pub inside_end : (q : Option ℕ) (s : Text) (k : ℕ) → t.inside_len q s ≡ Some k → EndsAt s k
inside_end q [] k h = absurd cc
inside_end None (c ∷ cs) k h =
    plain_end c cs (c == t.less) (c == greater) (t.inside_len (t.quoted_by c) cs) k refl (λ j is. inside_end (t.quoted_by c) cs j is) h
inside_end (Some q) (c ∷ cs) k h =
    quoted_end c cs (c == t.less || c == greater) (t.inside_len (if c == q then None else Some q) cs) k (λ j is. inside_end (if c == q then None else Some q) cs j is) h

pub cut_inside : (s : Text) (k : ℕ) → t.inside_len None s ≡ Some k → Cuts s k
cut_inside s k h =
    let there = inside_end None s k h in
    cut_before_ascii s k there.within (omega (arith, there.sign))

-- ---- the tag at the front

-- Its name and what is inside of it are at the front of a text, before `>`.
record IsTagOf (text : Text) (closing : Bool) (s : Text) (tag : t.Tag) : Type 0 where
  ends : EndsAt s (length tag.element + length tag.inside)
  at : tag.at ≡ text
  closes : tag.closes ≡ closing

with_inside : (at : Text) (closes : Bool) (s : Text) (n : ℕ) (o : Option ℕ) (tag : t.Tag) → ((k : ℕ) → o ≡ Some k → EndsAt (drop n s) k) →
    option_map (λ k. record { closes = closes; element = take n s; inside = take k (drop n s); at = at }) o ≡ Some tag → IsTagOf at closes s tag
with_inside at closes s n None tag h e = absurd cc
with_inside at closes s n (Some k) tag h e =
    let is : tag ≡ record { closes = closes; element = take n s; inside = take k (drop n s); at = at } = cc in
    let there = h k refl in
    let long : n + k < length s = omega (arith, there.within, length-drop n s) in
    let first : length (take n s) ≡ n = length-take-le n s (omega arith) in
    let second : length (take k (drop n s)) ≡ k = length-take-le k (drop n s) (omega (arith, there.within)) in
    let sum : length (take n s) + length (take k (drop n s)) ≡ n + k = omega arith in
    rw is (record {
      ends = rw sum (record { within = long; sign = sym (get_or-drop n s k 0) ∙ there.sign });
      at = refl;
      closes = refl;
    })

named_end : (at : Text) (closes : Bool) (s : Text) (n : ℕ) (b : Bool) (tag : t.Tag) →
    (if b then None else option_map (λ k. record { closes = closes; element = take n s; inside = take k (drop n s); at = at }) (t.inside_len None (drop n s))) ≡ Some tag →
    IsTagOf at closes s tag
named_end at closes s n true tag e = absurd cc
named_end at closes s n false tag e = with_inside at closes s n (t.inside_len None (drop n s)) tag (λ k is. inside_end None (drop n s) k is) e

named_is : (at : Text) (closes : Bool) (s : Text) (n : ℕ) (tag : t.Tag) → t.tag_named at closes s n ≡ Some tag → IsTagOf at closes s tag
named_is at closes s n tag e = named_end at closes s n (n == 0 || not (t.goes_on (drop n s))) tag e

-- It ends within the text, by a `>`.
pub record IsWhole (s : Text) (tag : t.Tag) : Type 0 where
  pub at : tag.at ≡ s
  pub within : tag_len (Some tag) ≤ length s
  pub sign : get_or s (tag_len (Some tag) - 1) 0 ≡ 62

whole : (s : Text) (closes : Bool) (n : ℕ) (tag : t.Tag) → n ≡ (if closes then 2 else 1) → IsTagOf s closes (drop n s) tag → IsWhole s tag
whole s true n tag e is =
    let closing : tag.closes ≡ true = is.closes in
    let len : tag_len (Some tag) ≡ 3 + (length tag.element + length tag.inside) = rw closing (omega arith) in
    let last : tag_len (Some tag) - 1 ≡ n + (length tag.element + length tag.inside) = omega (arith, e) in
    record {
      at = is.at;
      within = omega (arith, is.ends.within, length-drop n s, e);
      sign = rw last (sym (get_or-drop n s (length tag.element + length tag.inside) 0) ∙ is.ends.sign);
    }
whole s false n tag e is =
    let closing : tag.closes ≡ false = is.closes in
    let len : tag_len (Some tag) ≡ 2 + (length tag.element + length tag.inside) = rw closing (omega arith) in
    let last : tag_len (Some tag) - 1 ≡ n + (length tag.element + length tag.inside) = omega (arith, e) in
    record {
      at = is.at;
      within = omega (arith, is.ends.within, length-drop n s, e);
      sign = rw last (sym (get_or-drop n s (length tag.element + length tag.inside) 0) ∙ is.ends.sign);
    }

behind_is : (c : ℕ) (cs : Text) (b : Bool) (tag : t.Tag) →
    (if b then t.tag_named (c ∷ cs) true (drop 1 cs) (t.element_len (drop 1 cs)) else t.tag_named (c ∷ cs) false cs (t.element_len cs)) ≡ Some tag → IsWhole (c ∷ cs) tag
behind_is c cs true tag e = whole (c ∷ cs) true 2 tag refl (named_is (c ∷ cs) true (drop 1 cs) (t.element_len (drop 1 cs)) tag e)
behind_is c cs false tag e = whole (c ∷ cs) false 1 tag refl (named_is (c ∷ cs) false cs (t.element_len cs) tag e)

front_is : (c : ℕ) (cs : Text) (b : Bool) (tag : t.Tag) → (if b then t.tag_after (c ∷ cs) cs else None) ≡ Some tag → IsWhole (c ∷ cs) tag
front_is c cs true tag e = behind_is c cs (begins_with t.slash cs) tag e
front_is c cs false tag e = absurd cc

pub tag_is_whole : (s : Text) (tag : t.Tag) → t.tag_at s ≡ Some tag → IsWhole s tag
tag_is_whole [] tag e = absurd cc
tag_is_whole (c ∷ cs) tag e = front_is c cs (c == t.less) tag e

-- its length, as the code adds it up
pub tag_len_is : (tag : t.Tag) → tag_len (Some tag) ≡ length tag.element + length tag.inside + (if tag.closes then 3 else 2)
tag_len_is tag = by tag.closes
  where
    by : (b : Bool) → suc (suc (length tag.element + length tag.inside)) + (if b then 1 else 0) ≡ length tag.element + length tag.inside + (if b then 3 else 2)
    by true = omega arith
    by false = omega arith

pub cut_tag : (s : Text) (tag : t.Tag) → t.tag_at s ≡ Some tag → Cuts s (tag_len (Some tag))
cut_tag s tag h =
    let is = tag_is_whole s tag h in
    cut_by_ascii s (tag_len (Some tag)) is.within (λ _. omega (arith, is.sign))

-- what follows it
pub after_is : (s rest : Text) (tag : t.Tag) → t.tag_at s ≡ Some tag → rest ≡ drop (tag_len (Some tag)) s → Some rest ≡ after_tag s
after_is s rest tag h is =
    let some : (tag_len (Some tag) == 0) ≡ false = grind (arith, nat_tests, tag_len_is tag) in
    ap Some is
    ∙ sym (ap (λ (b : Bool). if b then None else Some (drop (tag_len (Some tag)) s)) some)
    ∙ sym (ap (λ (o : Option t.Tag). if tag_len o == 0 then None else Some (drop (tag_len o) s)) h)
