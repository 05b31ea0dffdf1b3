-- A pattern, by how many of its elements were written.
use Rattle.std.proofs.Common.{◌≡◌, ◌∙◌, ◌+◌, ◌<◌, ◌≤◌, ◌++◌, ◌∷◌, ℕ, List, Bor, ap, drop, get_or, length, map, sym, take}
use Rattle.std.proofs.lemmas.List.{take_all}
use Rattle.fluent_ast.specs.Borrowed.{elements_of as pattern_of}
use Rattle.fluent_ast.specs.View.{Element, element_view, elements_of}
use Rattle.fluent_ast.specs.declared.Pattern.{Pattern, out-Pattern}
use Rattle.fluent_ast.specs.declared.PatternElement.{PatternElement}
use Rattle.fluent_grammar.specs.Words.{Text}
use Rattle.fluent_meaning.proofs.Fixpoint.{pattern-is}
use Rattle.fluent_meaning.proofs.Writing.{beside-shut, elements-append}
use Rattle.fluent_meaning.specs.Environment.{Environment}
use Rattle.fluent_meaning.specs.Steps.{Budget, Done, shut}
use Rattle.fluent_meaning.specs.Substitution as s
use Rattle.fluent_meaning.specs.Substitution.{Surroundings}
use Rattle.fluent_resolver.proofs.Elements.{whole-around, whole-elements, whole-split}

abbrev pub element_of : PatternElement (Bor Text) → Element
element_of = element_view (Bor Text) (λ s. s.now)

module _ {S F : Type 0} (env : Environment S F) (here : Surroundings S) (b : Budget) (pattern : Pattern (Bor Text)) {items : List (PatternElement (Bor Text))} (same : items ≡ (out-Pattern (Bor Text) pattern).elements.items) (i : ℕ) where
  abbrev some_written : List Element → Done Text
  some_written es = s.elements_written env (pattern_of pattern) (elements_of es) here b

  abbrev all_written : Done Text
  all_written = s.pattern_written env (pattern_of pattern) here b

  -- all of them were
  pub walked : length items ≤ i → some_written (map element_of (take i items)) ≡ all_written
  walked over =
      ap (λ x. s.elements_written env (pattern_of pattern) x here b) (ap (λ ys. elements_of (map element_of ys)) (take_all i items over) ∙ whole-elements pattern same)
      ∙ sym (pattern-is env (pattern_of pattern) here b)

  -- those after them are as they were written
  pub rest-walked : some_written (map element_of (take i items) ++ map element_of (drop i items)) ≡ all_written
  rest-walked = ap (λ x. s.elements_written env (pattern_of pattern) x here b) (whole-split pattern same i) ∙ sym (pattern-is env (pattern_of pattern) here b)

  -- nothing more is, since one was too many
  pub shut-walked : (some_written (map element_of (take i items))).budget ≡ shut → some_written (map element_of (take i items)) ≡ all_written
  shut-walked closed =
      sym (beside-shut env (s.expression_written env) (pattern_of pattern) here (some_written (map element_of (take i items))) (elements_of (map element_of (drop i items))) closed)
      ∙ sym (elements-append env (s.expression_written env) (pattern_of pattern) here (map element_of (take i items)) (map element_of (drop i items)) b)
      ∙ rest-walked

  -- the next one stands between them and the rest
  pub around-walked : (x : PatternElement (Bor Text)) (e : Element) → i < length items → x ≡ get_or items i x → element_of x ≡ e → some_written (map element_of (take i items) ++ e ∷ map element_of (drop (i + 1) items)) ≡ all_written
  around-walked x e less here_is is = ap (λ z. s.elements_written env (pattern_of pattern) z here b) (whole-around pattern same i x e less here_is is) ∙ sym (pattern-is env (pattern_of pattern) here b)
