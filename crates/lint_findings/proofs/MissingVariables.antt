-- A variable that is reported as missing is shown by the message of the reference, and not used by the catalog's.
use Rattle.std.proofs.Common.{◌≡◌, Bool, true, false, cond, not, ◌&&◌, ◌||◌, if◌then◌else◌, List, [], ◌∷◌, ◌++◌, map, Option, Some, None, refl, sym, ap, subst, All}
use Rattle.std.specs.Cmp.Lexicographic.{same_text}
use Rattle.std.specs.Str.{bytes_eq}
use Rattle.std.proofs.lemmas.Bool.{false≢true}
use Rattle.std.proofs.lemmas.List.Elements.{All-nil, All-cons, All-append, All-contains}
use Rattle.std.proofs.lemmas.List.Folds.{Any-from_list_any}
use Rattle.fluent_grammar.proofs.Cases.{cases, and-right}
use Rattle.fluent_grammar.specs.Words.{Text, is_among}
use Rattle.fluent_grammar.specs.Tree as t
use Rattle.fluent_grammar.specs.Tree.{Elements, Expression, Variants, Inline, Inlines}
use Rattle.fluent_meaning.specs.Ids.{Ids, Meaning, number_function, function, message, term, find}
use Rattle.lint_findings.specs.Comparison.{Difference, missing_message, obsolete_message, missing_value, obsolete_value, missing_attribute, obsolete_attribute, unknown_variable, missing_variable, untranslated, attribute_names, without, value_difference, same_message, message_patterns, message_shows, lost_variable, has_new, message_differences, as_message, differences_between, differences, variables_of}
use Rattle.lint_findings.specs.FactLaws.{Shows, in_placeable, after_placeable, after_text, ExpressionShows, in_variant, in_inline, VariantsShow, in_this, in_later, InlineShows, itself, in_nested, given_to, InlinesShow, first, next, MessageShows, IsLost, MissingVariablesAreShown}
use Rattle.lint_findings.specs.Shown.{elements_show, expression_shows, variants_show, inline_shows, inlines_show}

pub either : {P : Type 0} (a b : Bool) → (a || b) ≡ true → (a ≡ true → P) → (b ≡ true → P) → P
either true b h here later = here refl
either false b h here later = later h

-- ---- what is computed is shown

pub same_variable : (x y : Text) → bytes_eq x y ≡ true → x ≡ y
same_variable x y h = same_text x y (sym h)

mutual
  shown : (x : Text) (es : Elements) → elements_show x es ≡ true → Shows es x
  shown x t.no_elements h = absurd (false≢true h)
  shown x (t.text s es) h = after_text (shown x es h)
  shown x (t.placeable e es) h = either (expression_shows x e) (elements_show x es) h (λ k. in_placeable (expression_shown x e k)) (λ k. after_placeable (shown x es k))

  expression_shown : (x : Text) (e : Expression) → expression_shows x e ≡ true → ExpressionShows e x
  expression_shown x (t.select i vs) h = in_variant (variants_shown x vs h)
  expression_shown x (t.inline i) h = in_inline (inline_shown x i h)

  variants_shown : (x : Text) (vs : Variants) → variants_show x vs ≡ true → VariantsShow vs x
  variants_shown x t.no_variants h = absurd (false≢true h)
  variants_shown x (t.variant k es d vs) h = either (elements_show x es) (variants_show x vs) h (λ k. in_this (shown x es k)) (λ k. in_later (variants_shown x vs k))

  inline_shown : (x : Text) (i : Inline) → inline_shows x i ≡ true → InlineShows i x
  inline_shown x (t.string_literal s) h = absurd (false≢true h)
  inline_shown x (t.number_literal s) h = absurd (false≢true h)
  inline_shown x (t.function_reference id (t.arguments ps ns)) h = given_to (inlines_shown x ps h)
  inline_shown x (t.message_reference id a) h = absurd (false≢true h)
  inline_shown x (t.term_reference id a c) h = absurd (false≢true h)
  inline_shown x (t.variable_reference y) h = subst (λ z. InlineShows (t.variable_reference y) z) (sym (same_variable x y h)) itself
  inline_shown x (t.nested e) h = in_nested (expression_shown x e h)

  pub inlines_shown : (x : Text) (ps : Inlines) → inlines_show x ps ≡ true → InlinesShow ps x
  inlines_shown x t.no_inlines h = absurd (false≢true h)
  inlines_shown x (t.positional i ps) h = either (inline_shows x i) (inlines_show x ps) h (λ k. first (inline_shown x i k)) (λ k. next (inlines_shown x ps k))

pub message_shown : (o : t.Message) (x : Text) → message_shows o x ≡ true → MessageShows o x
message_shown o x h =
    let at = Any-from_list_any (elements_show x) (message_patterns o) h in
    (at.1, (at.0, at.2, at.3), shown x at.1 at.4)

-- ---- differences

module _ {F : Type 0} (ids reference : Ids F) (id : Text) where
  -- what is said if this is a difference
  abbrev Right : Difference → Type 0
  Right d = (x : Text) → d ≡ missing_variable x → IsLost ids reference id x

  mapped : {A : Type 0} (make : A → Difference) → ((a : A) → Right (make a)) → (as' : List A) → All Right (map make as')
  mapped make h [] = All-nil Right
  mapped make h (a ∷ as') = All-cons Right (make a) (map make as') (h a) (mapped make h as')

  of_value : (v w : Option Elements) → All Right (value_difference v w)
  of_value None None = All-nil Right
  of_value None (Some es) = All-cons Right missing_value [] (λ x e. absurd cc) (All-nil Right)
  of_value (Some es) None = All-cons Right obsolete_value [] (λ x e. absurd cc) (All-nil Right)
  of_value (Some es) (Some fs) = All-nil Right

  module _ (o : t.Message) (found : find reference id ≡ Some (message o)) where
    of_lost : (has_unknown : Bool) (y : Text) → is_among y (variables_of ids id) ≡ false → Right (lost_variable has_unknown o y)
    of_lost has_unknown y new = cases (not has_unknown && message_shows o y)
        (λ h. rw h (λ x e.
        let is : y ≡ x = cc in
        subst (IsLost ids reference id) is (o, found, message_shown o y (and-right (not has_unknown) (message_shows o y) h), new)))
        (λ h. rw h (λ x e. absurd cc))

    lost_step : (has_unknown b : Bool) (y : Text) (rest : List Text) → is_among y (variables_of ids id) ≡ b → All Right (map (lost_variable has_unknown o) rest) →
        All Right (map (lost_variable has_unknown o) (cond (not b) (y ∷ rest) rest))
    lost_step has_unknown true y rest e h = h
    lost_step has_unknown false y rest e h = All-cons Right (lost_variable has_unknown o y) (map (lost_variable has_unknown o) rest) (of_lost has_unknown y e) h

    of_losts : (has_unknown : Bool) (ys : List Text) → All Right (map (lost_variable has_unknown o) (without ys (variables_of ids id)))
    of_losts has_unknown [] = All-nil Right
    of_losts has_unknown (y ∷ ys) = lost_step has_unknown (is_among y (variables_of ids id)) y (without ys (variables_of ids id)) refl (of_losts has_unknown ys)

    of_untranslated : (b : Bool) → All Right (if b then untranslated ∷ [] else [])
    of_untranslated true = All-cons Right untranslated [] (λ x e. absurd cc) (All-nil Right)
    of_untranslated false = All-nil Right

    of_messages : (m : t.Message) → All Right (message_differences ids reference id m o)
    of_messages m =
        let xs = variables_of ids id in
        let ys = variables_of reference id in
        let lost = map (lost_variable (has_new xs ys) o) (without ys xs) in
        let new = map unknown_variable (without xs ys) in
        All-append Right (value_difference m.value o.value) _ (of_value m.value o.value)
        (All-append Right (map missing_attribute (without (attribute_names o) (attribute_names m))) _ (mapped missing_attribute (λ a x e. absurd cc) (without (attribute_names o) (attribute_names m)))
        (All-append Right (map obsolete_attribute (without (attribute_names m) (attribute_names o))) _ (mapped obsolete_attribute (λ a x e. absurd cc) (without (attribute_names m) (attribute_names o)))
        (All-append Right (new ++ lost) _ (All-append Right new lost (mapped unknown_variable (λ a x e. absurd cc) (without xs ys)) (of_losts (has_new xs ys) ys))
        (of_untranslated (same_message m o)))))

  pub meant : (o : Option (Meaning F)) (m : t.Message) → as_message o ≡ Some m → o ≡ Some (message m)
  meant None m e = absurd cc
  meant (Some number_function) m e = absurd cc
  meant (Some (function f)) m e = absurd cc
  meant (Some (term n)) m e = absurd cc
  meant (Some (message n)) m e = let is : n ≡ m = cc in ap (λ k. Some (message k)) is

  of_both : (m o : Option t.Message) → as_message (find reference id) ≡ o → All Right (differences_between ids reference id m o)
  of_both None None e = All-nil Right
  of_both None (Some o) e = All-cons Right missing_message [] (λ x k. absurd cc) (All-nil Right)
  of_both (Some m) None e = All-cons Right obsolete_message [] (λ x k. absurd cc) (All-nil Right)
  of_both (Some m) (Some o) e = of_messages o (meant (find reference id) o e) m

pub missing_variables_are_shown : {F : Type 0} → MissingVariablesAreShown F
missing_variables_are_shown ids reference id x at =
    All-contains (Right ids reference id) (differences ids reference id) (missing_variable x) (of_both ids reference id (as_message (find ids id)) (as_message (find reference id)) refl) at x refl
