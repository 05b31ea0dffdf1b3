-- A pattern that is written from the start is what is asked for.
use Rattle.std.proofs.Common.{◌≡◌, ℕ, ◌+◌, false, List, [], ◌∷◌, ◌++◌, map, Option, None, Some, option_map, refl, ap, sym, ◌∙◌, append-nil}
use Rattle.std.specs.Prelude.{◌==◌, length, IfOk, Result, Ok, Err, is_some}
use Rattle.std.proofs.lemmas.Bool.{false≢true}
use Rattle.fluent_ast.specs.View.{Element, text, placeable, elements_of}
use Rattle.fluent_errors.specs.declared.bundle.FluentError.{FluentError}
use Rattle.std.specs.Global.{Vec}
use Rattle.fluent_errors.specs.Errors.{Reported, Unresolved, unresolved}
use Rattle.fluent_grammar.specs.Tree as t
use Rattle.fluent_grammar.specs.Tree.{Elements, Expression}
use Rattle.fluent_grammar.specs.Words.{Text}
use Rattle.fluent_meaning.proofs.Fixpoint.{pattern-is}
use Rattle.fluent_meaning.proofs.Refusals.{begins-as}
use Rattle.fluent_meaning.specs.Environment.{Environment}
use Rattle.fluent_meaning.specs.Refused.{Begins, TellsSome}
use Rattle.fluent_meaning.specs.Steps.{may_open, Done}
use Rattle.fluent_meaning.specs.Substitution as s
use Rattle.fluent_meaning.specs.Substitution.{Surroundings, outset, answer_written}
use Rattle.fluent_meaning.specs.Told.{State, Writes}
use Rattle.fluent_progress.specs.Telling.{fresh}
use Rattle.fluent_value.specs.Value.{Value}
use Rattle.fluent_resolver.specs.Asked.{TellsAll, lone_text, told}

pub some-same : {A : Type 0} {x y : A} → Some x ≡ Some y → x ≡ y
some-same {x = x} e = ap (or_that x) e
  where
    or_that : {A : Type 0} → A → Option A → A
    or_that x None = x
    or_that x (Some y) = y

pub none-some : {A : Type 0} {x : A} → None ≡ Some x → ⊥
none-some e = false≢true (ap is_some e)

-- ---- from the start

module _ {S F : Type 0} (env : Environment S F) (args : List (Text × Value S)) (es : Elements) (o : Option (List Reported)) (place : Surroundings S) (start : State) (at : place ≡ outset args) (new : start ≡ fresh o) where
  same : s.pattern_written env es place start.budget ≡ s.pattern_written env es (outset args) (may_open 100)
  same = ap (λ (p : Surroundings S). s.pattern_written env es p start.budget) at ∙ ap (λ (x : State). s.pattern_written env es (outset args) x.budget) new

  module _ {x y : Text} {end : State} (p : Writes x y start end (s.pattern_written env es place)) where
    pub asked-text : y ≡ x ++ (answer_written env args es).value
    asked-text = p.text ∙ ap (λ (d : Done Text). x ++ d.value) same

    pub asked-told : end.errors ≡ option_map (λ told. told ++ map unresolved (answer_written env args es).errors) o
    asked-told =
        ap (λ (x : State). x.errors) p.state
        ∙ ap (λ (d : Done Text). option_map (λ told. told ++ map unresolved d.errors) start.errors) same
        ∙ ap (λ (x : State). option_map (λ told. told ++ map unresolved (answer_written env args es).errors) x.errors) new

  module _ {end : State} (h : TellsSome start end (s.pattern_written env es place start.budget)) where
    pub some-begin : Begins h.told (answer_written env args es).errors
    some-begin = begins-as (ap (λ (d : Done Text). d.errors) same) h.first

    pub some-told : end.errors ≡ option_map (λ told. told ++ map unresolved h.told) o
    some-told = h.errors ∙ ap (λ (x : State). option_map (λ told. told ++ map unresolved h.told) x.errors) new

-- ---- a pattern of one text

module _ {S F : Type 0} (env : Environment S F) (place : Surroundings S) (k : ℕ) where
  lone-step : (x : Text) → s.elements_written env (t.text x t.no_elements) (t.text x t.no_elements) place (may_open k) ≡ record { value = env.transformed x ++ []; errors = []; budget = may_open k; opened = 0 + 0; entered = 0 + 0 }
  unfolding s.elements_with
  lone-step x = refl

  pub lone-value : (es : Elements) (x : Text) → lone_text es ≡ Some x → (s.pattern_written env es place (may_open k)).value ≡ env.transformed x
  lone-value t.no_elements x h = absurd (none-some h)
  lone-value (t.text r t.no_elements) x h = ap (λ (d : Done Text). d.value) (pattern-is env (t.text r t.no_elements) place (may_open k) ∙ lone-step r) ∙ append-nil (env.transformed r) ∙ ap env.transformed (some-same h)
  lone-value (t.text r (t.text q es)) x h = absurd (none-some h)
  lone-value (t.text r (t.placeable e es)) x h = absurd (none-some h)
  lone-value (t.placeable e es) x h = absurd (none-some h)

  pub lone-errors : (es : Elements) (x : Text) → lone_text es ≡ Some x → (s.pattern_written env es place (may_open k)).errors ≡ []
  lone-errors t.no_elements x h = absurd (none-some h)
  lone-errors (t.text r t.no_elements) x h = ap (λ (d : Done Text). d.errors) (pattern-is env (t.text r t.no_elements) place (may_open k) ∙ lone-step r)
  lone-errors (t.text r (t.text q es)) x h = absurd (none-some h)
  lone-errors (t.text r (t.placeable e es)) x h = absurd (none-some h)
  lone-errors (t.placeable e es) x h = absurd (none-some h)

-- by its elements
several-none : (a b : Element) (es : List Element) → lone_text (elements_of (a ∷ b ∷ es)) ≡ None
several-none (text r) (text q) es = refl
several-none (text r) (placeable e) es = refl
several-none (placeable e) b es = refl

module _ {A : Type 0} (view : A → Element) (items : List A) (x : A) where
  pub lone-text : (rest : List A) (r : Text) → items ≡ x ∷ rest → rest ≡ [] → view x ≡ text r → lone_text (elements_of (map view items)) ≡ Some r
  lone-text rest r h e is = ap (λ (xs : List A). lone_text (elements_of (map view xs))) (h ∙ ap (λ (xs : List A). x ∷ xs) e) ∙ ap (λ (a : Element). lone_text (elements_of (a ∷ []))) is

  pub lone-several : (rest : List A) → items ≡ x ∷ rest → (rest ≡ [] → ⊥) → lone_text (elements_of (map view items)) ≡ None
  lone-several [] h e = absurd (e refl)
  lone-several (y ∷ ys) h e = ap (λ (xs : List A). lone_text (elements_of (map view xs))) h ∙ several-none (view x) (view y) (map view ys)

  pub lone-placeable : (rest : List A) (e : Expression) → items ≡ x ∷ rest → view x ≡ placeable e → lone_text (elements_of (map view items)) ≡ None
  lone-placeable rest e h is = ap (λ (xs : List A). lone_text (elements_of (map view xs))) h ∙ ap (λ (a : Element). lone_text (elements_of (a ∷ map view rest))) is

-- by how long the rest is
pub not-nil : {A : Type 0} (xs : List A) → (length xs == 0) ≡ false → xs ≡ [] → ⊥
not-nil {A = A} xs h e = false≢true (sym h ∙ ap (λ (ys : List A). length ys == 0) e)

-- what holds of an equal value
pub if-ok-same : {T E A : Type 0} {x y : A} (r : Result T E) (f : T → A) → x ≡ y → IfOk r (λ t. f t ≡ y) → IfOk r (λ t. f t ≡ x)
if-ok-same (Ok t) f e h = h ∙ sym e
if-ok-same (Err e) f same h = h

-- no errors
pub tells-none : {A : Type 0} (errors : Vec FluentError) (answer : Done A) → answer.errors ≡ [] → TellsAll errors errors answer
tells-none errors answer h = sym (ap (λ (xs : List Unresolved). told errors ++ map unresolved xs) h ∙ append-nil (told errors))
