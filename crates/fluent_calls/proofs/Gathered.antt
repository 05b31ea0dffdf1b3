-- Gathering the calls of a pattern: what was gathered so far, and an element more.
use Rattle.std.proofs.Common.{◌≡◌, ℕ, ◌+◌, ◌<◌, ◌≤◌, Bool, true, false, List, [], ◌∷◌, ◌++◌, Bor, Option, None, Some, refl, ap, sym, subst, ◌∙◌, append_assoc, append-nil, drop, get_or, length, map, option_map}
use Rattle.std.specs.Global.{Vec}
use Rattle.std.proofs.lemmas.Grind.{flat_map-append}
use Rattle.std.proofs.lemmas.List.{drop_all}
use Rattle.fluent_ast.proofs.Views.{element_view-TextElement}
use Rattle.fluent_ast.specs.Borrowed.{arguments_of, elements_of as pattern_of, expression_of}
use Rattle.fluent_ast.specs.View.{Element, element_view, elements_of, placeable as a_placeable, text as a_text_element}
use Rattle.fluent_ast.specs.declared.CallArguments.{CallArguments}
use Rattle.fluent_ast.specs.declared.Expression.{Expression as CodeExpression}
use Rattle.fluent_ast.specs.declared.Pattern.{Pattern}
use Rattle.fluent_ast.specs.declared.PatternElement.{PatternElement, out-PatternElement, roll-PatternElement, roll-out-PatternElement}
use Rattle.fluent_ast.specs.declared.PatternElement.TheVariants.{Placeable, rolls-Placeable, rolls-TextElement}
use Rattle.fluent_ast.specs.declared.Expression.TheOpen as o
use Rattle.fluent_ast.specs.declared.InlineExpression.{InlineExpression}
use Rattle.fluent_ast.specs.declared.NamedArgument.{NamedArgument}
use Rattle.fluent_ast.specs.declared.Variant.{Variant}
use Rattle.fluent_grammar.specs.Tree as t
use Rattle.fluent_grammar.specs.Tree.{Elements, Expression, Inline}
use Rattle.fluent_grammar.specs.Words.{Text}
use Rattle.fluent_meaning.proofs.Looking.{drop-here}
use Rattle.fluent_meaning.specs.Environment.{Environment}
use Rattle.fluent_meaning.specs.Ids.{Meaning}
use Rattle.fluent_meaning.specs.Steps.{Budget, may_open, opens}
use Rattle.fluent_meaning.specs.Substitution as s
use Rattle.fluent_meaning.specs.Substitution.{most_placeables, outset, unmarked_written}
use Rattle.fluent_progress.specs.Views.{given_args, path_of, place_view, resolved_in, state}
use Rattle.fluent_progress.specs.declared.context.Context.{Ghosts as Context}
use Rattle.fluent_progress.specs.declared.place.Surroundings.{Surroundings}
use Rattle.fluent_progress.specs.declared.progress.Progress.{Progress}
use Rattle.fluent_resolver.proofs.ArgumentLists.{arguments-in, nameds_in, positional_in}
use Rattle.fluent_run.specs.Listing.{lines}
use Rattle.fluent_serve.specs.Frames.{ended as frame}
use Rattle.fluent_value.specs.Args.{all_set, argument}
use Rattle.fluent_value.specs.Value.{Value}
use Rattle.fluent_value.specs.declared.custom.FluentType.{Ghosts as Custom}
use Rattle.fluent_value.specs.declared.value.FluentValue.{FluentValue}
use Rattle.fluent_value.specs.declared.scope.ValueScope.{Ghosts as Scope}
use Rattle.fluent_calls.specs.CallValues.{plain_all}
use Rattle.fluent_calls.specs.Functions.{IsUnanswered, Table}
use Rattle.fluent_calls.specs.GatheringView.{arguments_in, left_by}
use Rattle.fluent_calls.specs.Gathering.{AreGathered, Gathers, a_text, all_known, all_lacking, ended, is_plain, is_plain_expression, lacking, literals, no_more, plain, resolved, too_many, unanswered, unanswered_if, with_value}
use Rattle.fluent_date.specs.declared.date_time.FluentDateTime.{FluentDateTime}
use Rattle.fluent_dates.specs.declared.value.DateTimeValue.{DateTimeValue}
use Rattle.fluent_calls.specs.declared.callee.Callee.{Callee}

-- lines of some calls, and of some more
pub more-lines : (text old : Text) (before calls : List Text) → text ≡ old ++ lines calls → old ≡ lines before → text ≡ lines (before ++ calls)
more-lines text old before calls is was = is ∙ ap (λ x. x ++ lines calls) was ∙ sym (flat_map-append frame before calls)

-- the same after what was there before both
pub added : (text mid old : Text) (before calls : List Text) → text ≡ mid ++ lines calls → mid ≡ old ++ lines before → text ≡ old ++ lines (before ++ calls)
added text mid old before calls is was =
    is ∙ ap (λ x. x ++ lines calls) was ∙ append_assoc old (lines before) (lines calls) ∙ ap (λ x. old ++ x) (sym (flat_map-append frame before calls))

-- no line
pub nothing-added : (text : Text) → text ≡ text ++ lines []
nothing-added text = sym (append-nil text)

-- a line
pub line-added : (text old call : Text) → text ≡ old ++ frame call → text ≡ old ++ lines (call ∷ [])
line-added text old call is = is ∙ ap (λ x. old ++ x) (sym (append-nil (frame call)))

-- values of the code, if they are known
pub these-known : {given : Option (Vec (FluentValue DateTimeValue))} {positional : Vec (FluentValue DateTimeValue)} {items : List (FluentValue DateTimeValue)} {all : Option (List (Value FluentDateTime))} →
    option_map (λ (vs : Vec (FluentValue DateTimeValue)). plain_all vs.items) given ≡ all → given ≡ Some positional → items ≡ positional.items → Some (plain_all items) ≡ all
these-known known is same = ap (λ x. Some (plain_all x)) same ∙ ap (option_map (λ (vs : Vec (FluentValue DateTimeValue)). plain_all vs.items)) (sym is) ∙ known

pub none-known : {given : Option (Vec (FluentValue DateTimeValue))} {all : Option (List (Value FluentDateTime))} → option_map (λ (vs : Vec (FluentValue DateTimeValue)). plain_all vs.items) given ≡ all → given ≡ None → None ≡ all
none-known known is = ap (option_map (λ (vs : Vec (FluentValue DateTimeValue)). plain_all vs.items)) (sym is) ∙ known

-- The calls in a call that lack answers: those among its arguments, and the call itself if these are known.
module _ (find : Text → Option (Meaning Callee)) (args : List (Text × Value FluentDateTime)) (table : Table) (id : Text) (a : CallArguments (Bor Text)) where
  abbrev call_lines : Text → Text
  call_lines old = old ++ lines (lacking find args table (t.function_reference id (arguments_of a)))

  -- with these values of positional arguments
  abbrev lines_with : Text → Option (List (Value FluentDateTime)) → Text
  lines_with old values = old ++ lines (all_lacking find args table (positional_in a) ++ unanswered_if find args table id (all_set [] (literals (nameds_in a))) values)

  as-call : (old : Text) → lines_with old (all_known find args table (positional_in a)) ≡ call_lines old
  as-call old = ap (λ x. old ++ lines (lacking find args table (t.function_reference id x))) (sym (arguments-in a))

  pub lines-of-known : (text mid old : Text) {values : List (Value FluentDateTime)} {pairs : List (Text × Value FluentDateTime)} → Some values ≡ all_known find args table (positional_in a) → pairs ≡ all_set [] (literals (nameds_in a)) →
      mid ≡ old ++ lines (all_lacking find args table (positional_in a)) → text ≡ mid ++ lines (unanswered find args table id values pairs (find id)) → text ≡ call_lines old
  lines-of-known text mid old {values = values} {pairs = pairs} known named was is =
      added text mid old (all_lacking find args table (positional_in a)) (unanswered find args table id values pairs (find id)) is was
      ∙ ap (λ p. old ++ lines (all_lacking find args table (positional_in a) ++ unanswered_if find args table id p (Some values))) named
      ∙ ap (lines_with old) known
      ∙ as-call old

  pub lines-of-unknown : (text old : Text) → None ≡ all_known find args table (positional_in a) → text ≡ old ++ lines (all_lacking find args table (positional_in a)) → text ≡ call_lines old
  lines-of-unknown text old unknown is =
      is ∙ ap (λ x. old ++ lines x) (sym (append-nil (all_lacking find args table (positional_in a)))) ∙ ap (lines_with old) unknown ∙ as-call old

-- The elements of the code's pattern that are left at an index.
abbrev element_of : PatternElement (Bor Text) → Element
element_of = element_view (Bor Text) (λ s. s.now)

abbrev pub left_at : List (PatternElement (Bor Text)) → ℕ → Elements
left_at items i = elements_of (map element_of (drop i items))

abbrev Layer : Type 0
Layer = o.PatternElement-F (Bor Text) (CodeExpression (Bor Text)) (InlineExpression (Bor Text)) (PatternElement (Bor Text)) (CallArguments (Bor Text)) (NamedArgument (Bor Text)) (Pattern (Bor Text)) (Variant (Bor Text))

by_layer : {P : Type 0} (x : PatternElement (Bor Text)) (d : Layer) → x ≡ roll-PatternElement (Bor Text) d → ((e : _) → x ≡ Placeable e → ⊥) → ((s : Text) → element_of x ≡ a_text_element s → P) → P
by_layer x (o.TextElement s) is other goes = goes s.now (ap element_of (is ∙ rolls-TextElement s) ∙ element_view-TextElement (Bor Text) (λ z. z.now) s)
by_layer x (o.PatternElement::Placeable e) is other goes = absurd (other e (is ∙ rolls-Placeable e))

-- an element that is no placeable is a text
pub as-text : {P : Type 0} (x : PatternElement (Bor Text)) → ((e : _) → x ≡ Placeable e → ⊥) → ((s : Text) → element_of x ≡ a_text_element s → P) → P
as-text x other goes = by_layer x (out-PatternElement (Bor Text) x) (sym (roll-out-PatternElement (Bor Text) x)) other goes

module _ (items : List (PatternElement (Bor Text))) (i : ℕ) where
  next-element : (x : PatternElement (Bor Text)) → i < length items → x ≡ get_or items i x → left_at items i ≡ elements_of (element_of x ∷ map element_of (drop (i + 1) items))
  next-element x less here = ap (λ xs. elements_of (map element_of xs)) (drop-here items i x less here)

  pub next-text : (x : PatternElement (Bor Text)) (s : Text) → i < length items → x ≡ get_or items i x → element_of x ≡ a_text_element s → left_at items i ≡ t.text s (left_at items (i + 1))
  next-text x s less here is = next-element x less here ∙ ap (λ y. elements_of (y ∷ map element_of (drop (i + 1) items))) is

  pub next-placeable : (x : PatternElement (Bor Text)) (e : Expression) → i < length items → x ≡ get_or items i x → element_of x ≡ a_placeable e → left_at items i ≡ t.placeable e (left_at items (i + 1))
  next-placeable x e less here is = next-element x less here ∙ ap (λ y. elements_of (y ∷ map element_of (drop (i + 1) items))) is

  pub none-left : length items ≤ i → left_at items i ≡ t.no_elements
  none-left over = ap (λ xs. elements_of (map element_of xs)) (drop_all i items over)

module _ (env : Environment FluentDateTime Callee) (args : List (Text × Value FluentDateTime)) (table : Table) (whole : Elements) where
  -- lines of these calls were gathered before the elements that are left
  pub record SoFar (left : Elements) (now : Budget) (text : Text) : Type 0 where
    pub calls : List Text
    pub in_lines : text ≡ lines calls
    pub goes_on : (rest : List Text) → Gathers env args table whole left now rest → Gathers env args table whole whole (may_open most_placeables) (calls ++ rest)

  pub at-start : {left : Elements} {now : Budget} {text : Text} → left ≡ whole → now ≡ may_open most_placeables → text ≡ [] → SoFar left now text
  at-start {now = now} all new is = record {
    calls = [];
    in_lines = is;
    goes_on = λ rest h. subst (λ b. Gathers env args table whole whole b rest) new (subst (λ es. Gathers env args table whole es now rest) all h);
  }

  -- the same of what is left, in other words
  pub with-left : {left next : Elements} {now : Budget} {text : Text} → left ≡ next → SoFar left now text → SoFar next now text
  with-left {now = now} {text = text} same p = subst (λ es. SoFar es now text) same p

  pub with-now : {left : Elements} {now next : Budget} {old text : Text} → next ≡ now → text ≡ old → SoFar left now old → SoFar left next text
  with-now {left = left} {next = next} {old = old} same is p = subst (λ x. SoFar left next x) (sym is) (subst (λ b. SoFar left b old) (sym same) p)

  pub past-text : {s : Text} {es : Elements} {now : Budget} {text : Text} → SoFar (t.text s es) now text → SoFar es now text
  past-text p = record { calls = p.calls; in_lines = p.in_lines; goes_on = λ rest h. p.goes_on rest (a_text h) }

  pub past-placeable : {e : Expression} {es : Elements} {now next : Budget} {old text : Text} (calls : List Text) → text ≡ old ++ lines calls →
      ((rest : List Text) → Gathers env args table whole es next rest → Gathers env args table whole (t.placeable e es) now (calls ++ rest)) →
      SoFar (t.placeable e es) now old → SoFar es next text
  past-placeable {old = old} {text = text} calls is more p = record {
    calls = p.calls ++ calls;
    in_lines = more-lines text old p.calls calls is p.in_lines;
    goes_on = λ rest h. subst (λ cs. Gathers env args table whole whole (may_open most_placeables) cs) (sym (append_assoc p.calls calls rest)) (p.goes_on (calls ++ rest) (more rest h));
  }

  -- it ends at a placeable, or after all elements
  pub at-placeable : {e : Expression} {es : Elements} {now : Budget} {old text : Text} (calls : List Text) → text ≡ old ++ lines calls →
      Gathers env args table whole (t.placeable e es) now calls → SoFar (t.placeable e es) now old → AreGathered env args table whole text
  at-placeable {old = old} {text = text} calls is last p =
      record { calls = p.calls ++ calls; in_lines = more-lines text old p.calls calls is p.in_lines; gathered = p.goes_on calls last }

  pub at-end : {now : Budget} {text : Text} → SoFar t.no_elements now text → AreGathered env args table whole text
  at-end p = record {
    calls = p.calls;
    in_lines = p.in_lines;
    gathered = subst (λ cs. Gathers env args table whole whole (may_open most_placeables) cs) (append-nil p.calls) (p.goes_on [] no_more);
  }

  -- a placeable that opens: it is plain, or it was resolved, or that ended at a call
  pub goes-plain : {e : Expression} {i : Inline} {now next : Budget} → e ≡ t.inline i → is_plain i ≡ true → true ≡ (opens now).value → next ≡ (opens now).budget →
      (es : Elements) (rest : List Text) → Gathers env args table whole es next rest → Gathers env args table whole (t.placeable e es) now (lacking env.find args table i ++ rest)
  goes-plain {i = i} {now = now} is holds opened same es rest h =
      subst (λ x. Gathers env args table whole (t.placeable x es) now (lacking env.find args table i ++ rest)) (sym is)
      (plain (sym opened) holds (subst (λ c. Gathers env args table whole es c rest) same h))

  pub goes-resolved : {e : Expression} {now next : Budget} → is_plain_expression e ≡ false → true ≡ (opens now).value → next ≡ (unmarked_written env whole e (outset args) (opens now).budget).budget →
      (es : Elements) (rest : List Text) → Gathers env args table whole es next rest → Gathers env args table whole (t.placeable e es) now rest
  goes-resolved other opened same es rest h = resolved (sym opened) other (subst (λ c. Gathers env args table whole es c rest) same h)

  pub ends-at : {e : Expression} {now : Budget} {call : Text} → is_plain_expression e ≡ false → true ≡ (opens now).value → IsUnanswered env.find table call →
      (es : Elements) → Gathers env args table whole (t.placeable e es) now (call ∷ [])
  ends-at other opened is es = ended (sym opened) other is

  -- one that doesn't
  pub ends-shut : {e : Expression} {now : Budget} → false ≡ (opens now).value → (es : Elements) → Gathers env args table whole (t.placeable e es) now []
  ends-shut closed es = too_many (sym closed)

-- What resolving the inside of a placeable leaves, if no pattern is being written.
module _ {E : Type 0} {c : Custom DateTimeValue FluentDateTime} {e : Context E DateTimeValue Callee FluentDateTime} {v : Scope E DateTimeValue FluentDateTime} (place : Surroundings DateTimeValue Callee E FluentDateTime c e v) (progress : Progress) where
  abbrev surrounded : Option (List (Text × Value FluentDateTime)) → List Elements → s.Surroundings FluentDateTime
  surrounded locals path = record { arguments = arguments_in place; locals = locals; path = path }

  at-outset : place.locals ≡ None → path_of progress ≡ [] → place_view place progress ≡ outset (arguments_in place)
  at-outset outside here = ap (λ l. surrounded (given_args c.meaning l) (path_of progress)) outside ∙ ap (surrounded None) here

  pub left-inside : (whole : Pattern (Bor Text)) (expression : CodeExpression (Bor Text)) {next now : Budget} → place.locals ≡ None → path_of progress ≡ [] →
      next ≡ left_by place whole expression progress → (state progress).budget ≡ now →
      next ≡ (unmarked_written (resolved_in place) (pattern_of whole) (expression_of expression) (outset (arguments_in place)) now).budget
  left-inside whole expression outside here is was =
      let write = unmarked_written (resolved_in place) (pattern_of whole) (expression_of expression) in
      is ∙ ap (λ p. (write p (state progress).budget).budget) (at-outset outside here) ∙ ap (λ b. (write (outset (arguments_in place)) b).budget) was

-- the values of arguments, if all so far are known, before those that are left
abbrev pub joined : Bool → List (Value FluentDateTime) → Option (List (Value FluentDateTime)) → Option (List (Value FluentDateTime))
joined true values rest = option_map (λ vs. values ++ vs) rest
joined false values rest = None

pub joined-first : (rest : Option (List (Value FluentDateTime))) → joined true [] rest ≡ rest
joined-first None = refl
joined-first (Some vs) = refl

pub joined-more : (known : Bool) (values : List (Value FluentDateTime)) (value : Value FluentDateTime) (rest : Option (List (Value FluentDateTime))) → joined known (values ++ value ∷ []) rest ≡ joined known values (with_value (Some value) rest)
joined-more true values value None = refl
joined-more true values value (Some vs) = ap Some (append_assoc values (value ∷ []) vs)
joined-more false values value rest = refl

pub joined-lost : (known : Bool) (values : List (Value FluentDateTime)) (rest : Option (List (Value FluentDateTime))) → joined false values rest ≡ joined known values (with_value None rest)
joined-lost true values rest = refl
joined-lost false values rest = refl

pub joined-all : (values : List (Value FluentDateTime)) → joined true values (Some []) ≡ Some values
joined-all values = ap Some (append-nil values)
