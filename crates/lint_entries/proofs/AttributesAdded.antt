-- The findings of attributes are added one after the other.
use Rattle.std.proofs.Common.{◌≡◌, ◌∙◌, Bool, true, false, if◌then◌else◌, ◌||◌, List, [], ◌∷◌, ◌++◌, Some, drop, refl, sym, ap, subst, append_assoc}
use denote.Ref.{Bor}
use Rattle.fluent_grammar.specs.Words.{Text, is_among, skip_spaces}
use Rattle.fluent_grammar.specs.Refusal.{got}
use Rattle.fluent_grammar.specs.Tree as t
use Rattle.lint_findings.specs.EntryFindings as e
use Rattle.lint_findings.specs.Finding.{Finding}
use Rattle.lint_findings.specs.Occurrences.{after_equals, pattern_read}
use Rattle.lint_entries.specs.CatalogView.{ids_in, reference_in}
use Rattle.lint_entries.specs.AttributePlaces.{attribute_value, AreAttributesAt, read_rest}
use Rattle.lint_entries.specs.AttributesFound.{taken_found, place_of_attribute, label_with, attributes_found}
use Rattle.lint_entries.specs.FoundAt.{pattern_found}
use Rattle.lint_entries.specs.declared.catalog.Catalog.{Catalog}
use Rattle.lint_entries.specs.declared.finding.EntryPoint.{EntryPoint}
use Rattle.lint_entries.proofs.SameRests.{rest_is}

-- the value of the attribute on the line at the front
pub value_there : (v d p s : Text) → v ≡ after_equals d → d ≡ drop 1 p → p ≡ skip_spaces s → v ≡ attribute_value s
value_there v d p s value dot spaces = value ∙ ap after_equals (dot ∙ ap (drop 1) spaces)

-- after the first of attributes, the others are there
pub others_there : (a : t.Attribute) (as' : List t.Attribute) (s u rest : Text) → AreAttributesAt (a ∷ as') s rest → pattern_read (attribute_value s) ≡ got a.value u → AreAttributesAt as' u rest
others_there a as' s u rest there read = subst (λ v. AreAttributesAt as' v rest) (rest_is there.1 read) there.2

or_false : (b : Bool) (f : Finding) → (if b then f ∷ [] else []) ≡ (if b || false then f ∷ [] else [])
or_false true f = refl
or_false false f = refl

module _ (catalog : Catalog) (entry : EntryPoint) where
  -- The findings of an attribute are added, and then those of the others.
  pub one_added : (a : t.Attribute) (as' : List t.Attribute) (before : List Text) (s u v : Text) (name at : Bor Text) (place : EntryPoint) (x y z : List Finding) →
      name.now ≡ a.id → at.now ≡ skip_spaces s → place ≡ place_of_attribute entry name at → v ≡ attribute_value s → pattern_read (attribute_value s) ≡ got a.value u →
      y ≡ x ++ taken_found before name.now place → z ≡ y ++ pattern_found catalog place v a.value →
      z ++ attributes_found catalog entry (a.id ∷ before) as' u ≡ x ++ attributes_found catalog entry before (a ∷ as') s
  one_added a as' before s u v name at place x y z named there placed value read first later =
      let ids = ids_in catalog in
      let reference = reference_in catalog in
      let source = entry.source.now in
      let taken = λ (n p : Text). e.attribute_findings ids reference catalog.plurals source (label_with entry n) before (record { attribute = Some n; name_at = p; pattern_at = attribute_value s }) (Some n) in
      let found = λ (n p : Text). e.pattern_findings ids reference catalog.plurals source (label_with entry n) (record { attribute = Some n; name_at = p; pattern_at = attribute_value s }) a.value in
      let here = place_of_attribute entry name at in
      let others = attributes_found catalog entry (a.id ∷ before) as' in
      let taken_is : taken_found before name.now place ≡ taken a.id (skip_spaces s) =
      ap (taken_found before name.now) placed ∙ or_false (is_among name.now before) (e.finding_in source (label_with entry name.now) at.now e.taken_remark)
      ∙ ap (λ n. taken n at.now) named ∙ ap (taken a.id) there in
      let found_is : pattern_found catalog place v a.value ≡ found a.id (skip_spaces s) =
      ap (λ p. pattern_found catalog p v a.value) placed ∙ ap (λ t. pattern_found catalog here t a.value) value
      ∙ ap (λ n. found n at.now) named ∙ ap (found a.id) there in
      let others_are : others u ≡ others (read_rest (pattern_read (attribute_value s))) = ap others (sym (ap read_rest read)) in
      ap (λ l. l ++ others u) (later ∙ ap (λ l. l ++ pattern_found catalog place v a.value) first)
      ∙ append_assoc (x ++ taken_found before name.now place) (pattern_found catalog place v a.value) (others u)
      ∙ append_assoc x (taken_found before name.now place) (pattern_found catalog place v a.value ++ others u)
      ∙ ap (λ l. x ++ (l ++ (pattern_found catalog place v a.value ++ others u))) taken_is
      ∙ ap (λ l. x ++ (taken a.id (skip_spaces s) ++ (l ++ others u))) found_is
      ∙ ap (λ l. x ++ (taken a.id (skip_spaces s) ++ (found a.id (skip_spaces s) ++ l))) others_are
