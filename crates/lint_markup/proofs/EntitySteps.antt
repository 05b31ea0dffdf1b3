-- Entities, from one sign to the next.
use Rattle.std.proofs.Common.{◌≡◌, ◌∙◌, ℕ, ◌+◌, ◌-◌, ◌<◌, ◌≤◌, Bool, true, false, not, ◌&&◌, ◌||◌, if◌then◌else◌, List, [], ◌∷◌, ◌++◌, map, length, drop, take, get_or, Option, Some, None, option_map, refl, ap, sym, arith, length-drop, get_or-drop}
use Rattle.std.specs.Prelude.{◌==◌}
use Rattle.std.specs.List.{prefix_len}
use Rattle.std.specs.Option.{option_to_list, option_or}
use Rattle.std.proofs.lemmas.Bool.Decides.{nat_tests}
use Rattle.std.proofs.lemmas.List.{drop_more, length-take-le}
use Rattle.std.proofs.lemmas.List.Sums.{prefix_len-le-length, prefix_len_passes}
use Rattle.memchr.specs.Find.{IsFirstByte, is_byte}
use Rattle.fluent_grammar.specs.Words.{Text, begins, begins_with, is_digit, is_hex_digit, is_letter, number_sign}
use Rattle.fluent_tokens.specs.Counted.{Cuts}
use Rattle.fluent_tokens.proofs.Counted.{cut_by_ascii, cut_none}
use Rattle.lint_findings.specs.Doubts.{broken_entity, doubt_remark, entity_hint, spotted_at}
use Rattle.lint_findings.specs.Entities as e
use Rattle.lint_findings.specs.Finding as f
use Rattle.lint_markup.specs.Beside.{unended_said}
use Rattle.lint_markup.specs.InCode.{said, said_at}
use Rattle.lint_markup.specs.Pieces.{ended_after, unended_after}
use Rattle.lint_markup.proofs.Cuts.{cut_prefix}
use Rattle.lint_markup.proofs.Known.{Same}
use Rattle.lint_markup.proofs.Signs.{PassesOver, next_found, none_found}

-- ---- where a name ends

word_ascii : (c : ℕ) → (is_letter c || is_digit c) ≡ true → c < 128
word_ascii c h = grind (arith, nat_tests)

digit_ascii : (c : ℕ) → is_digit c ≡ true → c < 128
digit_ascii c h = grind (arith, nat_tests)

hex_ascii : (c : ℕ) → is_hex_digit c ≡ true → c < 128
hex_ascii c h = grind (arith, nat_tests)

module _ (before : ℕ) (p : ℕ → Bool) (ascii : (c : ℕ) → p c ≡ true → c < 128) (s : Text) where
  number_cuts : (n : ℕ) (b : Bool) → n ≡ prefix_len p (drop before s) → (n == 0) ≡ b → Cuts s (if b then 0 else before + n)
  number_cuts n true is h = cut_none s 0 refl
  number_cuts n false is h =
      let some : 0 < n = grind (arith, nat_tests) in
      let le : n ≤ length (drop before s) = rw is (prefix_len-le-length p (drop before s)) in
      let last : before + n - 1 ≡ before + (n - 1) = omega (arith, some) in
      let passes : p (get_or (drop before s) (n - 1) 0) ≡ true = prefix_len_passes p (drop before s) (n - 1) 0 (omega (arith, some, is)) in
      cut_by_ascii s (before + n) (omega (arith, le, some, length-drop before s))
      (λ _. rw last (ascii _ (ap p (sym (get_or-drop before s (n - 1) 0)) ∙ passes)))

  number_cut : Cuts s (e.number_len before p s)
  number_cut = number_cuts (prefix_len p (drop before s)) (prefix_len p (drop before s) == 0) refl refl

name_cut : (s : Text) (letter sign hex : Bool) →
    Cuts s (if letter then prefix_len (λ c. is_letter c || is_digit c) s else if not sign then 0 else if hex then e.number_len 2 is_hex_digit s else e.number_len 1 is_digit s)
name_cut s true sign hex = cut_prefix _ word_ascii s _ refl
name_cut s false false hex = cut_none s 0 refl
name_cut s false true true = number_cut 2 is_hex_digit hex_ascii s
name_cut s false true false = number_cut 1 is_digit digit_ascii s

pub cut_entity : (s : Text) (n : ℕ) → n ≡ e.entity_len s → Cuts s n
cut_entity s n is = rw is (name_cut s (begins is_letter s) (begins_with number_sign s) (begins (λ c. c == 88 || c == 120) (drop 1 s)))

-- ---- after the sign

module _ (c : ℕ) (cs : Text) (sign : (c == 38) ≡ true) where
  long : (n : ℕ) → n ≡ e.entity_len cs → length (take n cs) ≡ n
  long n is = length-take-le n cs (cut_entity cs n is).within

  ended_is : (n : ℕ) (b : Bool) → n ≡ e.entity_len cs →
      e.ended_at (c ∷ cs) (if b then Some (take n cs) else None) ≡ (if b && begins_with e.semicolon (drop n cs) then take n cs ∷ [] else [])
  ended_is n true is = ap (λ k. if begins_with e.semicolon (drop k cs) then take n cs ∷ [] else []) (long n is)
  ended_is n false is = refl

  name_is : e.name_at (c ∷ cs) ≡ (if not (e.entity_len cs == 0) then Some (take (e.entity_len cs) cs) else None)
  name_is = ap (λ b. if b && not (e.entity_len cs == 0) then Some (take (e.entity_len cs) cs) else None) sign

  ended_here : e.entities_in (c ∷ cs) ≡ ended_after cs ++ e.entities_in cs
  ended_here = ap (λ x. e.ended_at (c ∷ cs) x ++ e.entities_in cs) name_is ∙ ap (λ xs. xs ++ e.entities_in cs) (ended_is (e.entity_len cs) (not (e.entity_len cs == 0)) refl)

  abbrev of_name : Text → e.Unended
  of_name name = record { name = name; at = c ∷ cs }

  not_ended : (n : ℕ) (b d : Bool) →
      (if d then None else Some (of_name (take n cs))) ≡ option_map of_name (if true && not d then Some (take n cs) else None)
  not_ended n b true = refl
  not_ended n b false = refl

  unended_is : (n : ℕ) (b : Bool) → n ≡ e.entity_len cs →
      e.unended_at (c ∷ cs) (if b then Some (take n cs) else None) ≡ option_map of_name (if b && not (begins_with e.semicolon (drop n cs)) then Some (take n cs) else None)
  unended_is n true is =
      ap (λ k. if begins_with e.semicolon (drop k cs) then None else Some (of_name (take n cs))) (long n is) ∙ not_ended n true (begins_with e.semicolon (drop n cs))
  unended_is n false is = refl

  unended_here : e.unended_in (c ∷ cs) ≡ option_or (option_map of_name (unended_after cs)) (e.unended_in cs)
  unended_here = ap (λ x. option_or (e.unended_at (c ∷ cs) x) (e.unended_in cs)) name_is ∙ ap (λ x. option_or x (e.unended_in cs)) (unended_is (e.entity_len cs) (not (e.entity_len cs == 0)) refl)

-- ---- from sign to sign

entities_pass : PassesOver (is_byte 38) e.entities_in
entities_pass c cs h = rw h refl

pub next_entity : (s : Text) (n : ℕ) → IsFirstByte (is_byte 38) s (Some n) → e.entities_in s ≡ ended_after (drop (n + 1) s) ++ e.entities_in (drop (n + 1) s)
next_entity s n found =
    next_found (is_byte 38) e.entities_in entities_pass s n found
    ∙ ap e.entities_in (drop_more s n 0 (omega (arith, found.0.high)))
    ∙ ended_here (get_or s n 0) (drop (n + 1) s) found.1

pub no_entity : (s : Text) → IsFirstByte (is_byte 38) s None → e.entities_in s ≡ []
no_entity = none_found (is_byte 38) e.entities_in entities_pass

unended_pass : PassesOver (is_byte 38) e.unended_in
unended_pass c cs h = rw h refl

-- u is what follows the sign
pub next_unended : (s at u : Text) (n : ℕ) → IsFirstByte (is_byte 38) s (Some n) → at ≡ drop n s → u ≡ drop 1 at →
    e.unended_in s ≡ option_or (option_map (λ name. record { name = name; at = at }) (unended_after u)) (e.unended_in u)
next_unended s at u n found here after =
    let front : drop n s ≡ get_or s n 0 ∷ drop (n + 1) s = drop_more s n 0 (omega (arith, found.0.high)) in
    let is : at ≡ get_or s n 0 ∷ drop (n + 1) s = here ∙ front in
    let rest : u ≡ drop (n + 1) s = after ∙ ap (drop 1) is in
    next_found (is_byte 38) e.unended_in unended_pass s n found
    ∙ ap e.unended_in front
    ∙ unended_here (get_or s n 0) (drop (n + 1) s) found.1
    ∙ ap (λ (x : Text). option_or (option_map (λ name. record { name = name; at = x }) (unended_after (drop (n + 1) s))) (e.unended_in (drop (n + 1) s))) (sym is)
    ∙ ap (λ (x : Text). option_or (option_map (λ name. record { name = name; at = at }) (unended_after x)) (e.unended_in x)) (sym rest)

pub none_unended : (s : Text) → IsFirstByte (is_byte 38) s None → e.unended_in s ≡ None
none_unended = none_found (is_byte 38) e.unended_in unended_pass

-- ---- what is said

same_hint : (xs ys : List Text) (name : Text) → Same xs ys → entity_hint xs name ≡ entity_hint ys name
same_hint xs ys name same = rw (same name) refl

pub same_remark : (xs ys : List Text) (name : Text) → Same xs ys → doubt_remark (broken_entity xs name) ≡ doubt_remark (broken_entity ys name)
same_remark xs ys name same = ap (λ h. record (doubt_remark (broken_entity xs name)) { hint = h }) (same_hint xs ys name same)

-- beside names of which there are some, by any list of the same
pub entities_said : (texts names known : List Text) → (names ≡ [] → ⊥) → Same known names → map said (unended_said known (e.first_unended texts)) ≡ map said (e.with_known texts names)
entities_said texts [] known some same = absurd (some refl)
entities_said texts (n ∷ ns) known some same = by (e.first_unended texts)
  where
    by : (u : Option e.Unended) → map said (unended_said known u) ≡ map said (map (λ (u : e.Unended). spotted_at u.at (broken_entity (n ∷ ns) u.name)) (option_to_list u))
    by None = refl
    by (Some u) = ap (λ (r : f.Remark). said_at u.at r ∷ []) (same_remark known (n ∷ ns) u.name same)

pub nothing_said : (texts names : List Text) → names ≡ [] → e.with_known texts names ≡ []
nothing_said texts names h = ap (e.with_known texts) h
