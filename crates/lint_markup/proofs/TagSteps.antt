-- Tags, from one sign to the next.
use Rattle.std.proofs.Common.{◌≡◌, ◌∙◌, ℕ, ◌+◌, ◌<◌, Bool, true, false, not, ◌&&◌, ◌||◌, if◌then◌else◌, List, [], ◌∷◌, ◌++◌, length, drop, take, get_or, Option, Some, None, refl, ap, sym, arith}
use Rattle.std.specs.Prelude.{is_some}
use Rattle.std.specs.List.{list_any}
use Rattle.std.specs.Option.{option_to_list, option_or}
use Rattle.std.proofs.lemmas.List.{drop_more}
use Rattle.std.specs.Str.{bytes_eq}
use Rattle.std.proofs.lemmas.Bool.Decides.{Decides-like, same_from_decides}
use Rattle.std.proofs.lemmas.Slice.Eq.{bytes_eq-Decides}
use Rattle.std.proofs.lemmas.Str.Pattern.{starts_text}
use Rattle.memchr.specs.Find.{IsFirstByte, is_byte}
use Rattle.fluent_grammar.specs.Words.{Text}
use Rattle.lint_findings.specs.Tags as t
use Rattle.lint_markup.specs.Pieces.{name_after}
use Rattle.lint_markup.specs.Wanted as w
use Rattle.lint_markup.specs.declared.wanted.Wanted.{Wanted}
use Rattle.lint_markup.specs.declared.wanted.Wanted.TheVariants as wanted
use Rattle.lint_markup.proofs.Signs.{PassesOver, next_found, none_found}

-- ---- the tags of a text

tags_pass : PassesOver (is_byte 60) t.tags_in
tags_pass c cs h = rw h refl

tags_here : (s : Text) → t.tags_in s ≡ option_to_list (t.tag_at s) ++ t.tags_in (drop 1 s)
tags_here [] = refl
tags_here (c ∷ cs) = refl

pub next_tag : (s : Text) (n : ℕ) → IsFirstByte (is_byte 60) s (Some n) → t.tags_in s ≡ option_to_list (t.tag_at (drop n s)) ++ t.tags_in (drop 1 (drop n s))
next_tag s n found = next_found (is_byte 60) t.tags_in tags_pass s n found ∙ tags_here (drop n s)

pub no_tag : (s : Text) → IsFirstByte (is_byte 60) s None → t.tags_in s ≡ []
no_tag s none = none_found (is_byte 60) t.tags_in tags_pass s none

-- ---- the first sign that begins no tag

module _ (all : Bool) where
  broken_pass : PassesOver (is_byte 60) (t.broken_in all)
  broken_pass c cs h = rw h refl

  pub next_broken : (s : Text) (n : ℕ) → IsFirstByte (is_byte 60) s (Some n) → t.broken_in all s ≡ t.broken_in all (drop n s)
  next_broken = next_found (is_byte 60) (t.broken_in all) broken_pass

  pub none_broken : (s : Text) → IsFirstByte (is_byte 60) s None → t.broken_in all s ≡ None
  none_broken = none_found (is_byte 60) (t.broken_in all) broken_pass

  pub broken_here : (s : Text) → 0 < length s → (t.begins_tag all s && not (is_some (t.tag_at s))) ≡ true → t.broken_in all s ≡ Some s
  broken_here [] lt h = absurd (omega (arith, lt))
  broken_here (c ∷ cs) lt h = rw h refl

  pub broken_passed : (s : Text) → (t.begins_tag all s && not (is_some (t.tag_at s))) ≡ false → t.broken_in all s ≡ t.broken_in all (drop 1 s)
  broken_passed [] h = refl
  broken_passed (c ∷ cs) h = rw h refl

-- ---- a tag that is looked for

found_first : (wanted : Wanted) (tag : Option t.Tag) (ts : List t.Tag) →
    list_any (w.is_tag wanted) (option_to_list tag ++ ts) ≡ (w.is_found wanted tag || list_any (w.is_tag wanted) ts)
found_first wanted None ts = refl
found_first wanted (Some tag) ts = refl

by_tags : (wanted : Wanted) (s : Text) → w.is_wanted wanted s ≡ list_any (w.is_tag wanted) (t.tags_in s)
by_tags (wanted.Opening element) s = refl
by_tags (wanted.Named name) s = refl

pub next_wanted : (wanted : Wanted) (s : Text) (n : ℕ) → IsFirstByte (is_byte 60) s (Some n) →
    w.is_wanted wanted s ≡ (w.is_found wanted (t.tag_at (drop n s)) || w.is_wanted wanted (drop 1 (drop n s)))
next_wanted wanted s n found =
    by_tags wanted s
    ∙ ap (list_any (w.is_tag wanted)) (next_tag s n found)
    ∙ found_first wanted (t.tag_at (drop n s)) (t.tags_in (drop 1 (drop n s)))
    ∙ ap (λ b. w.is_found wanted (t.tag_at (drop n s)) || b) (sym (by_tags wanted (drop 1 (drop n s))))

pub none_wanted : (wanted : Wanted) (s : Text) → IsFirstByte (is_byte 60) s None → w.is_wanted wanted s ≡ false
none_wanted wanted s none = by_tags wanted s ∙ ap (list_any (w.is_tag wanted)) (no_tag s none)

-- ---- names of elements

names_pass : PassesOver t.is_blank_byte t.name_in
names_pass c cs h = rw h refl

name_here : (c : ℕ) (cs : Text) → t.is_blank_byte c ≡ true → t.name_in (c ∷ cs) ≡ option_or (name_after cs) (t.name_in cs)
name_here c cs h = rw h refl

pub next_name : (s : Text) (n : ℕ) → IsFirstByte t.is_blank_byte s (Some n) →
    t.name_in s ≡ option_or (name_after (drop (n + 1) s)) (t.name_in (drop (n + 1) s))
next_name s n found =
    next_found t.is_blank_byte t.name_in names_pass s n found
    ∙ ap t.name_in (drop_more s n 0 (omega (arith, found.0.high)))
    ∙ name_here (get_or s n 0) (drop (n + 1) s) found.1

pub no_name : (s : Text) → IsFirstByte t.is_blank_byte s None → t.name_in s ≡ None
no_name = none_found t.is_blank_byte t.name_in names_pass

-- ---- the attribute that gives a name

bytes_sym : (xs ys : Text) → bytes_eq xs ys ≡ bytes_eq ys xs
bytes_sym xs ys = same_from_decides (bytes_eq xs ys) (bytes_eq ys xs) (bytes_eq-Decides xs ys) (Decides-like (bytes_eq ys xs) sym sym (bytes_eq-Decides ys xs))

-- a text that doesn't begin with it
pub without_naming : (s : Text) → ((rest : Text) → s ≡ t.naming ++ rest → ⊥) → name_after s ≡ None
without_naming s lacks =
    ap (λ b. if b then t.value_at (t.skip_blanks (drop 14 s)) else None) (bytes_sym (take 14 s) t.naming ∙ sym (starts_text false t.naming s lacks))
