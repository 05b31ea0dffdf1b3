-- The findings of what is said of texts, one text after the other.
use Rattle.std.proofs.Common.{◌≡◌, ◌∙◌, ◌==◌, ◌-◌, ◌+◌, ◌<◌, ◌≤◌, ◌||◌, not, ℕ, Bool, true, false, List, [], ◌∷◌, ◌++◌, length, drop, get_or, map, take, Option, option_map, refl, ap, sym, append_assoc, Bor}
use Rattle.std.specs.List.{list_any}
use Rattle.std.proofs.Math.Dec.{eqb-suc-zero}
use Rattle.fluent_ast.specs.Borrowed.{attribute_of, elements_of, message_of}
use Rattle.fluent_ast.specs.declared.Attribute.{Attribute}
use Rattle.fluent_ast.specs.declared.Message.{Message}
use Rattle.fluent_grammar.specs.Refusal.{got}
use Rattle.fluent_grammar.specs.Tree as t
use Rattle.fluent_grammar.specs.Tree.{Elements}
use Rattle.fluent_grammar.specs.Words.{Text, skip_blank_block}
use Rattle.lint_comparison.specs.TextsView.{attribute_found, attributes_found, attributes_said, beside_found, is_found, is_said, owner_of, said_of, value_found}
use Rattle.lint_comparison.specs.declared.texts.Texts.{Texts}
use Rattle.lint_entries.proofs.BodiesAreRead.{message_parts}
use Rattle.lint_entries.proofs.Pushed.{next, none_left}
use Rattle.lint_entries.specs.AttributePlaces.{LeavesRest, attribute_value, read_rest, value_elements}
use Rattle.lint_findings.specs.ComparisonFindings.{texts_findings}
use Rattle.lint_findings.specs.Doubts as d
use Rattle.lint_findings.specs.Doubts.{doubt_remark}
use Rattle.lint_findings.specs.EntryFindings.{finding_in, read_text}
use Rattle.lint_findings.specs.Finding as f
use Rattle.lint_findings.specs.Occurrences.{PatternPlace, after_equals, pattern_read}
use Rattle.lint_findings.specs.Pairs.{on_attribute, on_texts}
use Rattle.lint_findings.specs.Runs.{place_of}
use Rattle.lint_markup.specs.InCode.{Said, said, spotted_views}
use Rattle.lint_markup.specs.declared.spotted.Spotted.{Spotted}
use Rattle.lint_texts.specs.OfMessages.{on_attribute_in}

-- two maps are one
both_maps : {A B C : Type 0} (g : B → C) (h : A → B) (xs : List A) → map g (map h xs) ≡ map (λ x. g (h x)) xs
both_maps g h [] = refl
both_maps g h (x ∷ xs) = ap (λ l. g (h x) ∷ l) (both_maps g h xs)

-- where nothing is said, nothing is found
pub nothing_found : (source id : Text) (ps : List PatternPlace) (doubts : List (List d.Spotted)) → list_any is_said doubts ≡ false → texts_findings source id ps doubts ≡ []
nothing_found source id [] doubts none = refl
nothing_found source id (p ∷ ps) [] none = refl
nothing_found source id (p ∷ ps) ([] ∷ doubts) none = nothing_found source id ps doubts none
nothing_found source id (p ∷ ps) ((x ∷ xs) ∷ doubts) none = absurd cc

not_empty : (y : Spotted) (ys : List Spotted) → (length (y ∷ ys) == 0) ≡ false
not_empty y ys = eqb-suc-zero (length ys)

-- code has nothing if nothing is said
pub empty_is : (found : List Spotted) (xs : List d.Spotted) → spotted_views found ≡ map said xs → (length found == 0) ≡ not (is_said xs)
empty_is [] [] same = refl
empty_is [] (x ∷ xs) same = absurd cc
empty_is (y ∷ ys) [] same = absurd cc
empty_is (y ∷ ys) (x ∷ xs) same = not_empty y ys

pub is_said_if : (b c : Bool) → b ≡ not c → c ≡ not b
is_said_if true false same = refl
is_said_if false true same = refl
is_said_if true true same = absurd cc
is_said_if false false same = absurd cc

-- whether something is said of the attributes that are left
module _ (m o : Message (Bor Text)) (items : List (Attribute (Bor Text))) (i : ℕ) where
  pub said_next : (item : Attribute (Bor Text)) → i < length items → item ≡ get_or items i item → (b : Bool) → is_said (on_attribute_in m o item) ≡ b →
      attributes_said m o (drop i items) ≡ (b || attributes_said m o (drop (i + 1) items))
  said_next item inside is b said_here =
      ap (λ l. list_any is_said (map (on_attribute (message_of m) (message_of o)) l)) (next attribute_of items i item inside is)
      ∙ ap (λ x. x || attributes_said m o (drop (i + 1) items)) said_here

  pub said_last : length items ≤ i → attributes_said m o (drop i items) ≡ false
  said_last past = ap (λ l. list_any is_said (map (on_attribute (message_of m) (message_of o)) l)) (none_left attribute_of items i past)

module _ (texts : Texts) where
  -- what is said of a pattern that leaves this rest
  pub said_are : (name : Option (Bor Text)) (at rest : Text) (es : Elements) → pattern_read at ≡ got es rest → (ss : List Said) (xs : List d.Spotted) → ss ≡ map said xs →
      map (is_found texts name at (take (length at - length rest) at)) ss ≡ said_of texts (option_map (λ s. s.now) name) at xs
  said_are name at rest es read ss xs are =
      let here : Said → f.Finding = is_found texts name at (take (length at - length rest) at) in
      let found : Text → d.Spotted → f.Finding =
      λ (w : Text) (x : d.Spotted). finding_in texts.source.now (owner_of texts name) at (record (doubt_remark x.doubt) { inside = place_of x.piece w }) in
      ap (map here) are ∙ both_maps here said xs ∙ ap (λ w. map (found w) xs) (ap (read_text at) (sym read))

  -- of an attribute, and then of the others
  pub next_attribute : (item : Attribute (Bor Text)) (as' : List t.Attribute) (s u v : Text) → v ≡ attribute_value s → pattern_read v ≡ got (elements_of item.value) u →
      attribute_found texts item v ++ attributes_found texts as' u ≡ attributes_found texts (attribute_of item ∷ as') s
  next_attribute item as' s u v value read =
      let there : pattern_read (attribute_value s) ≡ got (elements_of item.value) u = sym (ap pattern_read value) ∙ read in
      ap (λ x. attribute_found texts item x ++ attributes_found texts as' u) value
      ∙ ap (λ x. attribute_found texts item (attribute_value s) ++ attributes_found texts as' x) (ap read_rest (sym there))

  abbrev m : t.Message
  m = message_of texts.message.now

  -- of the value, and then of the attributes
  pub message_found : (as' : List t.Attribute) (s rest u v w : Text) → LeavesRest (t.message m) s rest → as' ≡ m.attributes → v ≡ after_equals s → pattern_read v ≡ got (value_elements m.value) u → w ≡ skip_blank_block u →
      value_found texts v ++ attributes_found texts as' w ≡ beside_found texts.source.now texts.message.now texts.other.now s
  message_found as' s rest u v w leaves same value read there =
      let left = skip_blank_block (read_rest (pattern_read (after_equals s))) in
      let left_is : w ≡ left = there ∙ ap (λ r. skip_blank_block (read_rest r)) (sym read ∙ ap pattern_read value) in
      ap (λ x. value_found texts x ++ attributes_found texts as' w) value
      ∙ ap (λ x. value_found texts (after_equals s) ++ attributes_found texts as' x) left_is
      ∙ ap (λ l. value_found texts (after_equals s) ++ attributes_found texts l left) same
      ∙ ap (λ ps. texts_findings texts.source.now m.id ps (on_texts m (message_of texts.other.now))) (sym (message_parts m s rest leaves).1)

  pub message_added : (x : List f.Finding) {y z : List f.Finding} (as' : List t.Attribute) (s rest u v w : Text) → LeavesRest (t.message m) s rest → as' ≡ m.attributes → v ≡ after_equals s → pattern_read v ≡ got (value_elements m.value) u → w ≡ skip_blank_block u →
      y ≡ x ++ value_found texts v → z ≡ y ++ attributes_found texts as' w → z ≡ x ++ beside_found texts.source.now texts.message.now texts.other.now s
  message_added x as' s rest u v w leaves same value read there first later =
      later ∙ ap (λ l. l ++ attributes_found texts as' w) first ∙ append_assoc x (value_found texts v) (attributes_found texts as' w)
      ∙ ap (λ l. x ++ l) (message_found as' s rest u v w leaves same value read there)
