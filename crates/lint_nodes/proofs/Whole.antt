-- If the ids that were looked at are all that name patterns, the list has each pattern that a reference enters.
use Rattle.std.proofs.Common.{◌≡◌, Bool, true, false, if◌then◌else◌, List, Option, None, refl, sym}
use Rattle.fluent_grammar.specs.Words.{Text, is_among}
use Rattle.fluent_meaning.specs.Ids.{Ids}
use Rattle.lint_findings.specs.Endless.{all_patterns}
use Rattle.lint_nodes.specs.declared.entered.EnteredPatterns.{EnteredPatterns}
use Rattle.lint_nodes.specs.Holding.{Holds, HasPatternsOf, patterns_of, entered, entered_among}
use Rattle.lint_nodes.proofs.Owned.{renamed}

module _ (ids : Ids (Unit {0})) (seen : List Text) (others : (t : Bool) (i : Text) (a : Option Text) → is_among i seen ≡ false → entered ids t i a ≡ None) where
  all_by : (b : Bool) (t : Bool) (i : Text) (a : Option Text) → is_among i seen ≡ b → (if b then entered ids t i a else None) ≡ entered ids t i a
  all_by true t i a e = refl
  all_by false t i a e = sym (others t i a e)

  pub whole : (found : EnteredPatterns) → HasPatternsOf ids found seen → Holds (all_patterns ids) found.indices (patterns_of found.patterns.items) (entered ids)
  whole found has =
      renamed (all_patterns ids) found.indices (patterns_of found.patterns.items) (entered_among ids seen) (entered ids)
      (λ t i a. all_by (is_among i seen) t i a refl) has
