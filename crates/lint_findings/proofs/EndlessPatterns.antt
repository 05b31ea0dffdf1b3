-- The endless patterns: each refers to one of them, and they are the most of which that holds.
use Rattle.std.proofs.Common.{◌≡◌, ◌∙◌, ℕ, zero, suc, ◌≤◌, Bool, true, false, if◌then◌else◌, List, [], ◌∷◌, filter, length, Option, refl, ap, sym, arith}
use Rattle.std.specs.Prelude.{◌||◌, ◌==◌}
use Rattle.std.specs.List.{list_any}
use Rattle.std.proofs.lemmas.Bool.Decides.{nat_tests}
use Rattle.fluent_grammar.specs.Words.{Text}
use Rattle.fluent_grammar.specs.Tree.{Elements}
use Rattle.fluent_meaning.specs.Ids.{Ids, Meaning, find}
use Rattle.fluent_meaning.specs.Same.{same_elements}
use Rattle.fluent_meaning.proofs.SameDecides.{elements-decides}
use Rattle.lint_findings.specs.References.{next_patterns}
use Rattle.lint_findings.specs.Endless.{all_patterns, is_pattern_among, referring_patterns, patterns_left, endless_patterns}

-- ---- filters of patterns

pub any_here : (b c : Bool) → b ≡ true → (b || c) ≡ true
any_here true c e = refl
any_here false c e = absurd cc

pub any_later : (b c : Bool) → c ≡ true → (b || c) ≡ true
any_later true c e = refl
any_later false c e = e

keep_step : (test : Elements → Bool) (es p : Elements) (ps : List Elements) (b : Bool) → same_elements es p ≡ b → (b || is_pattern_among es ps) ≡ true → test es ≡ true → (is_pattern_among es ps ≡ true → is_pattern_among es (filter test ps) ≡ true) →
    (c : Bool) → test p ≡ c → is_pattern_among es (if c then p ∷ filter test ps else filter test ps) ≡ true
keep_step test es p ps true same e passes later true kept = ap (λ x. x || is_pattern_among es (filter test ps)) same
keep_step test es p ps true same e passes later false kept = let is : es ≡ p = (elements-decides es p).0 same in let bad : test es ≡ false = ap test is ∙ kept in absurd cc
keep_step test es p ps false same e passes later true kept = ap (λ x. x || is_pattern_among es (filter test ps)) same ∙ later e
keep_step test es p ps false same e passes later false kept = later e

-- a pattern that passes is kept
pub keeps : (test : Elements → Bool) (es : Elements) → test es ≡ true → (ps : List Elements) → is_pattern_among es ps ≡ true → is_pattern_among es (filter test ps) ≡ true
keeps test es passes [] e = absurd cc
keeps test es passes (p ∷ ps) e = keep_step test es p ps (same_elements es p) refl e passes (λ more. keeps test es passes ps more) (test p) refl

found_step : (test : Elements → Bool) (es p : Elements) (later : Bool) → test p ≡ true → (later ≡ true → test es ≡ true) → (b : Bool) → same_elements es p ≡ b → (b || later) ≡ true → test es ≡ true
found_step test es p later passes more true same e = ap test ((elements-decides es p).0 same) ∙ passes
found_step test es p later passes more false same e = more e

pass_step : (test : Elements → Bool) (es p : Elements) (ps : List Elements) → (is_pattern_among es (filter test ps) ≡ true → test es ≡ true) → (c : Bool) → test p ≡ c →
    is_pattern_among es (if c then p ∷ filter test ps else filter test ps) ≡ true → test es ≡ true
pass_step test es p ps more true passes e = found_step test es p (is_pattern_among es (filter test ps)) passes more (same_elements es p) refl e
pass_step test es p ps more false passes e = more e

-- a pattern that is kept passes
pub passes : (test : Elements → Bool) (es : Elements) (ps : List Elements) → is_pattern_among es (filter test ps) ≡ true → test es ≡ true
passes test es [] e = absurd cc
passes test es (p ∷ ps) e = pass_step test es p ps (passes test es ps) (test p) refl e

-- ---- filters that drop nothing

module _ {X : Type 0} (test : X → Bool) where
  less_step : (b : Bool) (x : X) (ys xs : List X) → length ys ≤ length xs → length (if b then x ∷ ys else ys) ≤ suc (length xs)
  less_step true x ys xs h = omega arith
  less_step false x ys xs h = omega arith

  at_most : (xs : List X) → length (filter test xs) ≤ length xs
  at_most [] = omega arith
  at_most (x ∷ xs) = less_step (test x) x (filter test xs) xs (at_most xs)

  whole_step : (b : Bool) (x : X) (ys xs : List X) → length ys ≤ length xs → (length ys ≡ length xs → ys ≡ xs) → length (if b then x ∷ ys else ys) ≡ suc (length xs) →
      (if b then x ∷ ys else ys) ≡ x ∷ xs
  whole_step true x ys xs h more e = ap (λ zs. x ∷ zs) (more (omega arith))
  whole_step false x ys xs h more e = absurd (omega arith)

  whole : (xs : List X) → length (filter test xs) ≡ length xs → filter test xs ≡ xs
  whole [] e = refl
  whole (x ∷ xs) e = whole_step (test x) x (filter test xs) xs (at_most xs) (whole xs) e

-- ---- rounds

module _ {F : Type 0} (meaning : Text → Option (Meaning F)) where
  -- whether a pattern refers to one of these
  abbrev pub refers_into : List Elements → Elements → Bool
  refers_into ps es = list_any (λ next. is_pattern_among next ps) (next_patterns meaning es)

  -- if a round drops nothing, no round does
  unchanged : (n : ℕ) (ps : List Elements) → referring_patterns meaning ps ≡ ps → patterns_left n meaning ps ≡ ps
  unfolding patterns_left
  unchanged zero ps e = refl
  unchanged (suc n) ps e = ap (patterns_left n meaning) e ∙ unchanged n ps e

  last_step : (n : ℕ) (ps : List Elements) → length ps ≤ suc n → (length (referring_patterns meaning ps) ≤ n → referring_patterns meaning (patterns_left n meaning (referring_patterns meaning ps)) ≡ patterns_left n meaning (referring_patterns meaning ps)) →
      (b : Bool) → (length (referring_patterns meaning ps) == length ps) ≡ b →
      referring_patterns meaning (patterns_left n meaning (referring_patterns meaning ps)) ≡ patterns_left n meaning (referring_patterns meaning ps)
  last_step n ps h more true e =
      let same : length (referring_patterns meaning ps) ≡ length ps = grind (arith, nat_tests) in
      let all : referring_patterns meaning ps ≡ ps = whole (refers_into ps) ps same in
      let left : patterns_left n meaning (referring_patterns meaning ps) ≡ ps = ap (patterns_left n meaning) all ∙ unchanged n ps all in
      ap (referring_patterns meaning) left ∙ all ∙ sym left
  last_step n ps h more false e =
      let most : length (referring_patterns meaning ps) ≤ length ps = at_most (refers_into ps) ps in
      let fewer : length (referring_patterns meaning ps) ≤ n = grind (arith, nat_tests) in
      more fewer

  -- as many rounds as there are patterns leave those that no round drops
  left_alone : (n : ℕ) (ps : List Elements) → length ps ≤ n → referring_patterns meaning (patterns_left n meaning ps) ≡ patterns_left n meaning ps
  unfolding patterns_left
  left_alone zero [] h = refl
  left_alone zero (p ∷ ps) h = absurd (omega arith)
  left_alone (suc n) ps h = last_step n ps h (λ fewer. left_alone n (referring_patterns meaning ps) fewer) (length (referring_patterns meaning ps) == length ps) refl

  -- what keeps referring to its like is never dropped
  module _ (S : Elements → Type 0) (goes_on : (es : Elements) → S es → (ps : List Elements) → ((next : Elements) → S next → is_pattern_among next ps ≡ true) → refers_into ps es ≡ true) where
    pub stays : (n : ℕ) (ps : List Elements) → ((es : Elements) → S es → is_pattern_among es ps ≡ true) → (es : Elements) → S es → is_pattern_among es (patterns_left n meaning ps) ≡ true
    unfolding patterns_left
    stays zero ps among = among
    stays (suc n) ps among = stays n (referring_patterns meaning ps) (λ es s. keeps (refers_into ps) es (goes_on es s ps among) ps (among es s))

-- an endless pattern refers to an endless one
pub endless_goes_on : {F : Type 0} (ids : Ids F) (es : Elements) → is_pattern_among es (endless_patterns ids) ≡ true → refers_into (find ids) (endless_patterns ids) es ≡ true
endless_goes_on ids es e =
    let alone = left_alone (find ids) (length (all_patterns ids)) (all_patterns ids) (omega arith) in
    passes (refers_into (find ids) (endless_patterns ids)) es (endless_patterns ids) (ap (λ ps. is_pattern_among es ps) alone ∙ e)
