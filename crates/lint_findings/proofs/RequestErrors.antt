-- If nothing that patterns refer to is missing, errors depend on the request alone.
use Rattle.std.proofs.Common.{◌≡◌, ℕ, zero, suc, ◌≤◌, ◌<◌, Bool, true, false, cond, List, [], ◌∷◌, ◌++◌, Option, Some, None, refl, sym, ap, ◌∙◌, arith}
use Rattle.std.specs.Prelude.{◌&&◌, not, is_some, encode_utf8, if◌then◌else◌}
use Rattle.std.specs.List.{All}
use Rattle.std.proofs.lemmas.List.Elements.{All-nil, All-cons, All-head, All-tail, All-append, All-weaker, All-contains}
use Rattle.fluent_grammar.specs.Words.{Text, dollar}
use Rattle.fluent_grammar.specs.Tree as t
use Rattle.fluent_grammar.specs.Tree.{Elements, no_elements, Expression, select, inline, Variants, Inline, Arguments, arguments, Inlines, no_inlines, positional, Nameds, no_nameds, named, MaybeArguments, no_arguments, with_arguments}
use Rattle.fluent_errors.specs.Errors.{Unresolved, unknown, too_many_placeables, to_variable}
use Rattle.fluent_value.specs.Value as v
use Rattle.fluent_value.specs.Value.{Value}
use Rattle.fluent_value.specs.Args.{argument}
use Rattle.fluent_value.specs.Matching.{matches}
use Rattle.fluent_meaning.specs.Choice.{chosen, first_match, first_default, or_else, key_value, is_choice}
use Rattle.fluent_meaning.specs.Environment.{Environment}
use Rattle.fluent_meaning.specs.Fallback.{braced, fallback}
use Rattle.fluent_meaning.specs.Ids.{Meaning, number_function, function, message, term}
use Rattle.fluent_meaning.specs.Steps.{Budget, may_open, shut, is_shut, Done, done, faulty, and_then, mapped, entering}
use Rattle.fluent_meaning.specs.Substitution as s
use Rattle.fluent_meaning.specs.Substitution.{Surroundings, Called, Target, there, missing, is_on_path, deeper, rooted_path, Writer, outset}
use Rattle.fluent_meaning.proofs.OnPath.{on-path-decides}
use Rattle.lint_findings.specs.References.{elements_references, expression_references, variants_references, inline_references, maybe_references, arguments_references, inlines_references, nameds_references, reference_error, function_error, target_error, reference_patterns, target_patterns}
use Rattle.lint_findings.specs.Flaws.{elements_selects, expression_selects, variants_selects, inline_selects, maybe_selects, arguments_selects, inlines_selects, nameds_selects}
use Rattle.lint_findings.specs.ReportLaws.{IsOfRequest}
use Rattle.lint_findings.proofs.Lists.{all_left, all_right}

rank-falls : (r m : ℕ) → m < r → r ≤ m → ⊥
rank-falls r m h k = absurd (omega (arith, h, k))

rank-weaker : (m r n : ℕ) → m < r → r ≤ n → m ≤ n
rank-weaker m r n h k = omega (arith, h, k)

rank-same : (m : ℕ) → m ≤ m
rank-same m = omega arith

abbrev pub HasDefault : Variants → Type 0
HasDefault vs = is_some (first_default vs) ≡ true

module _ {S : Type 0} (asked : List (Text × Value S)) where
  -- the errors of a step are the request's
  pub record Fine {A : Type 0} (a : Done A) : Type 0 where
    pub all : All (IsOfRequest asked) a.errors

  fine-done : {A : Type 0} {v : A} {o n : ℕ} (b : Budget) → Fine (record { value = v; errors = []; budget = b; opened = o; entered = n })
  fine-done b = record { all = All-nil (IsOfRequest asked) }

  fine-one : {A : Type 0} {v : A} {o n : ℕ} (e : Unresolved) (b : Budget) → IsOfRequest asked e → Fine (record { value = v; errors = e ∷ []; budget = b; opened = o; entered = n })
  fine-one e b h = record { all = All-cons (IsOfRequest asked) e [] h (All-nil (IsOfRequest asked)) }

  fine-then : {A B : Type 0} {x : Done A} (f : A → Budget → Done B) → Fine x → ((v : A) (c : Budget) → Fine (f v c)) → Fine (and_then x f)
  fine-then {x = x} f p q = record { all = All-append (IsOfRequest asked) x.errors (f x.value x.budget).errors p.all (q x.value x.budget).all }

  fine-mapped : {A B : Type 0} {x : Done A} (f : A → B) → Fine x → Fine (mapped f x)
  fine-mapped f p = record { all = p.all }

  fine-entering : {A : Type 0} {x : Done A} → Fine x → Fine (entering x)
  fine-entering p = record { all = p.all }

  fine-if : {A : Type 0} (c : Bool) {x y : Done A} → Fine x → Fine y → Fine (cond c x y)
  fine-if true p q = p
  fine-if false p q = q

  module _ {F : Type 0} (env : Environment S F) (R : Elements → ℕ) where
    -- a reference has its target, whose rank is below this
    abbrev pub Fit : ℕ → Inline → Type 0
    Fit r i = (reference_error env.find i ≡ None) × All (λ es. R es < r) (reference_patterns env.find i)

    -- all that these refer to is there and below this rank, and their selects have defaults
    abbrev pub Fits : ℕ → List Inline → List Variants → Type 0
    Fits r is vss = All (Fit r) is × All HasDefault vss

    fits-left : (r : ℕ) (is js : List Inline) (us vss : List Variants) → Fits r (is ++ js) (us ++ vss) → Fits r is us
    fits-left r is js us vss h = (all_left (Fit r) is js h.0, all_left HasDefault us vss h.1)

    fits-right : (r : ℕ) (is js : List Inline) (us vss : List Variants) → Fits r (is ++ js) (us ++ vss) → Fits r js vss
    fits-right r is js us vss h = (all_right (Fit r) is js h.0, all_right HasDefault us vss h.1)

    abbrev pub PatternFits : ℕ → Elements → Type 0
    PatternFits r es = Fits r (elements_references es) (elements_selects es)

    -- ---- variants

    abbrev IfFits : ℕ → Option Elements → Type 0
    IfFits r None = Unit {0}
    IfFits r (Some es) = PatternFits r es

    abbrev SomeFits : ℕ → Option Elements → Type 0
    SomeFits r None = ⊥
    SomeFits r (Some es) = PatternFits r es

    match-step : (r : ℕ) (b : Bool) (es : Elements) (o : Option Elements) → PatternFits r es → IfFits r o → IfFits r (if b then Some es else o)
    match-step r true es o h k = h
    match-step r false es o h k = k

    match-fits : (r : ℕ) (v : Value S) (vs : Variants) → Fits r (variants_references vs) (variants_selects vs) → IfFits r (first_match env.plurals v vs)
    match-fits r v t.no_variants h = tt
    match-fits r v (t.variant k es d vs) h =
        match-step r (matches env.plurals (key_value k) v) es (first_match env.plurals v vs) (fits-left r (elements_references es) (variants_references vs) (elements_selects es) (variants_selects vs) h)
        (match-fits r v vs (fits-right r (elements_references es) (variants_references vs) (elements_selects es) (variants_selects vs) h))

    default-fits : (r : ℕ) (vs : Variants) → Fits r (variants_references vs) (variants_selects vs) → IfFits r (first_default vs)
    default-fits r t.no_variants h = tt
    default-fits r (t.variant k es d vs) h =
        match-step r d es (first_default vs) (fits-left r (elements_references es) (variants_references vs) (elements_selects es) (variants_selects vs) h)
        (default-fits r vs (fits-right r (elements_references es) (variants_references vs) (elements_selects es) (variants_selects vs) h))

    one-fits : (r : ℕ) (o d : Option Elements) → IfFits r o → IfFits r d → is_some d ≡ true → SomeFits r (or_else o d)
    one-fits r None None h k e = absurd cc
    one-fits r None (Some es) h k e = k
    one-fits r (Some es) d h k e = h

    if-fits : (r : ℕ) (b : Bool) (o : Option Elements) → IfFits r o → IfFits r (if b then o else None)
    if-fits r true o h = h
    if-fits r false o h = tt

    chosen-fits : (r : ℕ) (v : Value S) (vs : Variants) → Fits r (variants_references vs) (variants_selects vs) → HasDefault vs → SomeFits r (chosen env.plurals v vs)
    chosen-fits r v vs h e = one-fits r (if is_choice v then first_match env.plurals v vs else None) (first_default vs) (if-fits r (is_choice v) (first_match env.plurals v vs) (match-fits r v vs h)) (default-fits r vs h) e

    -- ---- places

    abbrev Above : ℕ → List Elements → Type 0
    Above r path = All (λ p. r ≤ R p) path

    -- within a pattern of this rank: those on the path are not below it
    record Inside (r : ℕ) (place : Surroundings S) : Type 0 where
      above : Above r place.path
      there_is : place.path ≡ [] → ⊥
      same : place.arguments ≡ asked

    record Ready (r : ℕ) (whole : Elements) (place : Surroundings S) : Type 0 where
      above : Above r place.path
      first : place.path ≡ [] → r ≤ R whole
      same : place.arguments ≡ asked

    root-above : (r : ℕ) (whole : Elements) (path : List Elements) → Above r path → (path ≡ [] → r ≤ R whole) → Above r (rooted_path whole path)
    root-above r whole [] h k = All-cons (λ p. r ≤ R p) whole [] (k refl) h
    root-above r whole (p ∷ ps) h k = h

    root-there : (whole : Elements) (path : List Elements) → rooted_path whole path ≡ [] → ⊥
    root-there whole [] e = absurd cc
    root-there whole (p ∷ ps) e = absurd cc

    root-inside : (r : ℕ) (whole : Elements) (place : Surroundings S) → Ready r whole place → Inside r (s.rooted whole place)
    root-inside r whole place h = record { above = root-above r whole place.path h.above h.first; there_is = root-there whole place.path; same = h.same }

    variant-ready : (r : ℕ) (es : Elements) (place : Surroundings S) → Inside r place → Ready r es place
    variant-ready r es place h = record { above = h.above; first = λ e. absurd (h.there_is e); same = h.same }

    deeper-ready : (r : ℕ) (es : Elements) (place : Surroundings S) → R es < r → Inside r place → Ready (R es) es (deeper es place)
    deeper-ready r es place below h = record {
      above = All-append (λ p. R es ≤ R p) place.path (es ∷ []) (All-weaker (λ p. r ≤ R p) (λ p. R es ≤ R p) (λ p k. rank-weaker (R es) r (R p) below k) place.path h.above) (All-cons (λ p. R es ≤ R p) es [] (rank-same (R es)) (All-nil (λ p. R es ≤ R p)));
      first = λ e. rank-same (R es);
      same = h.same;
    }

    -- ---- steps

    -- a variable that is missing outside of terms is none of the arguments
    missing-fine : {A : Type 0} (v : A) (id : Text) (locals : Option (List (Text × Value S))) (b : Budget) → argument id (s.locals_or asked locals) ≡ None →
        Fine (if is_some locals then done v b else faulty v (unknown (to_variable id)) b)
    missing-fine v id None b e = fine-one (unknown (to_variable id)) b e
    missing-fine v id (Some locals) b e = fine-done b

    is-missing : (id : Text) (place : Surroundings S) → place.arguments ≡ asked → s.variable env id place ≡ None → argument id (s.locals_or asked place.locals) ≡ None
    is-missing id place same e = ap (λ xs. argument id (s.locals_or xs place.locals)) (sym same) ∙ e

    variable_written-fine : (id : Text) (place : Surroundings S) (b : Budget) → place.arguments ≡ asked → (o : Option (Value S)) → s.variable env id place ≡ o → Fine (s.variable_written env id o place b)
    variable_written-fine id place b same (Some v) e = fine-done b
    variable_written-fine id place b same None e = missing-fine (braced (dollar ∷ id)) id place.locals b (is-missing id place same e)

    variable_found-fine : (id : Text) (place : Surroundings S) (b : Budget) → place.arguments ≡ asked → (o : Option (Value S)) → s.variable env id place ≡ o → Fine (s.variable_found env id o place b)
    variable_found-fine id place b same (Some v) e = fine-done b
    variable_found-fine id place b same None e = missing-fine v.error id place.locals b (is-missing id place same e)

    result-fine : (id : Text) (r : Value S) (b : Budget) → Fine (s.result_written env id r b)
    result-fine id (v.text x) b = fine-done b
    result-fine id (v.number x) b = fine-done b
    result-fine id (v.custom x) b = fine-done b
    result-fine id v.none b = fine-done b
    result-fine id v.error b = fine-done b

    call_written-fine : (i : Inline) (id : Text) (o : Option (Meaning F)) → function_error id o ≡ None → (args : Called S) (b : Budget) → Fine (s.call_written env i id o args b)
    call_written-fine i id None e args b = absurd cc
    call_written-fine i id (Some number_function) e args b = result-fine id _ b
    call_written-fine i id (Some (function f)) e args b = result-fine id _ b
    call_written-fine i id (Some (message m)) e args b = absurd cc
    call_written-fine i id (Some (term m)) e args b = absurd cc

    call_found-fine : (o : Option (Meaning F)) (args : Called S) (b : Budget) → Fine (s.call_found env o args b)
    call_found-fine None args b = fine-done b
    call_found-fine (Some number_function) args b = fine-done b
    call_found-fine (Some (function f)) args b = fine-done b
    call_found-fine (Some (message m)) args b = fine-done b
    call_found-fine (Some (term m)) args b = fine-done b

    closed-fine : (e : Expression) {a : Done Text} → Fine a → Fine (s.closed env e a)
    closed-fine e {a = a} p = fine-if (is_shut a.budget) (fine-mapped (λ x. x ++ braced (fallback e)) p) p

    surrounded-fine : (c : Bool) {a : Done Text} → Fine a → Fine (s.surrounded env c a)
    surrounded-fine c p = fine-if c (fine-mapped (λ x. encode_utf8 0x2068 ++ (x ++ encode_utf8 0x2069)) p) p

    text-fine : (x : Text) (b : Budget) → Fine (s.text_written env x b)
    text-fine x (may_open k) = fine-done (may_open k)
    text-fine x shut = fine-done shut

    -- what is entered fits by its own rank
    module _ (message_fits : (id : Text) (attr : Option Text) (es : Elements) → s.message_target id attr (env.find id) ≡ there es → PatternFits (R es) es)
        (term_fits : (id : Text) (attr : Option Text) (es : Elements) → s.term_target id attr (env.find id) ≡ there es → PatternFits (R es) es) where
      abbrev Enters : Writer env Elements → Type 0
      Enters enter = (r : ℕ) (es : Elements) (place : Surroundings S) (b : Budget) → PatternFits r es → Ready r es place → Fine (enter es place b)

      module _ (enter : Writer env Elements) (enters : Enters enter) where
        target-step : (r : ℕ) (i : Inline) (es : Elements) (place : Surroundings S) (b : Budget) → R es < r → PatternFits (R es) es → Inside r place → (on : Bool) → is_on_path es place.path ≡ on → Fine (s.referred env enter i es place b)
        target-step r i es place b below fits inside true e = absurd (rank-falls r (R es) below (All-contains (λ p. r ≤ R p) place.path es inside.above ((on-path-decides es place.path).0 e)))
        target-step r i es place b below fits inside false e = rw e (fine-entering (enters (R es) es (deeper es place) b fits (deeper-ready r es place below inside)))

        target-fine : (r : ℕ) (i : Inline) (o : Target) (place : Surroundings S) (b : Budget) → Inside r place → target_error o ≡ None → All (λ es. R es < r) (target_patterns o) → ((es : Elements) → o ≡ there es → PatternFits (R es) es) → Fine (s.target_written env enter i o place b)
        target-fine r i (missing e) place b inside h below fits = absurd cc
        target-fine r i (there es) place b inside h below fits = target-step r i es place b (All-head (λ p. R p < r) es [] below) (fits es refl) inside (is_on_path es place.path) refl

        variant-fine : (r : ℕ) (o : Option Elements) (place : Surroundings S) (b : Budget) → Inside r place → SomeFits r o → Fine (s.variant_written env enter o place b)
        variant-fine r None place b inside h = absurd h
        variant-fine r (Some es) place b inside h = fine-entering (enters r es place b h (variant-ready r es place inside))

        message-fine : (r : ℕ) (i : Inline) (id : Text) (attr : Option Text) (place : Surroundings S) (b : Budget) → Inside r place → Fit r (t.message_reference id attr) → Fine (s.target_written env enter i (s.message_target id attr (env.find id)) place b)
        message-fine r i id attr place b inside h = target-fine r i (s.message_target id attr (env.find id)) place b inside h.0 h.1 (message_fits id attr)

        term-inside : (r : ℕ) (given : List (Text × Value S)) (place : Surroundings S) → Inside r place → Inside r (s.in_term given place)
        term-inside r given place h = record { above = h.above; there_is = h.there_is; same = h.same }

        term-fine : (r : ℕ) (i : Inline) (id : Text) (attr : Option Text) (args : MaybeArguments) (place : Surroundings S) (b : Budget) → Inside r place → Fit r (t.term_reference id attr args) → Fine (s.target_written env enter i (s.term_target id attr (env.find id)) place b)
        term-fine r i id attr args place b inside h = target-fine r i (s.term_target id attr (env.find id)) place b inside h.0 h.1 (term_fits id attr)

        -- the first of some references, and the others
        abbrev first_fit : (r : ℕ) (i : Inline) (is : List Inline) (vss : List Variants) → Fits r (i ∷ is) vss → Fit r i
        first_fit r i is vss h = All-head (Fit r) i is h.0

        abbrev other_fits : (r : ℕ) (i : Inline) (is : List Inline) (vss : List Variants) → Fits r (i ∷ is) vss → Fits r is vss
        other_fits r i is vss h = (All-tail (Fit r) i is h.0, h.1)

        mutual
          unfolding s.expression_with s.inline_with s.value_with s.maybe_arguments_with s.arguments_with s.positional_with s.named_with

          expression-fine : (r : ℕ) (e : Expression) (place : Surroundings S) (b : Budget) → Fits r (expression_references e) (expression_selects e) → Inside r place → Fine (s.expression_with env enter e place b)
          expression-fine r (inline i) place b h k = inline-fine r i place b h k
          expression-fine r (select i vs) place b h k =
              let others : Fits r (variants_references vs) (vs ∷ variants_selects vs) = fits-right r (inline_references i) (variants_references vs) (inline_selects i) (vs ∷ variants_selects vs) h in
              fine-then (λ v c. s.variant_written env enter (chosen env.plurals v vs) place c) (value-fine r i place b (fits-left r (inline_references i) (variants_references vs) (inline_selects i) (vs ∷ variants_selects vs) h) k)
              (λ v c. variant-fine r (chosen env.plurals v vs) place c k (chosen-fits r v vs (others.0, All-tail HasDefault vs (variants_selects vs) others.1) (All-head HasDefault vs (variants_selects vs) others.1)))

          inline-fine : (r : ℕ) (i : Inline) (place : Surroundings S) (b : Budget) → Fits r (inline_references i) (inline_selects i) → Inside r place → Fine (s.inline_with env enter i place b)
          inline-fine r (t.string_literal x) place b h k = fine-done b
          inline-fine r (t.number_literal x) place b h k = fine-done b
          inline-fine r (t.function_reference id args) place b h k =
              fine-then (λ called c. s.call_written env (t.function_reference id args) id (env.find id) called c) (arguments-fine r args place b (other_fits r (t.function_reference id args) (arguments_references args) (arguments_selects args) h) k)
              (call_written-fine (t.function_reference id args) id (env.find id) (first_fit r (t.function_reference id args) (arguments_references args) (arguments_selects args) h).0)
          inline-fine r (t.message_reference id attr) place b h k = message-fine r (t.message_reference id attr) id attr place b k (first_fit r (t.message_reference id attr) [] [] h)
          inline-fine r (t.term_reference id attr args) place b h k =
              fine-then (λ called c. s.target_written env enter (t.term_reference id attr args) (s.term_target id attr (env.find id)) (s.in_term called.named place) c) (maybe_arguments-fine r args place b (other_fits r (t.term_reference id attr args) (maybe_references args) (maybe_selects args) h) k)
              (λ called c. term-fine r (t.term_reference id attr args) id attr args (s.in_term called.named place) c (term-inside r called.named place k) (first_fit r (t.term_reference id attr args) (maybe_references args) (maybe_selects args) h))
          inline-fine r (t.variable_reference id) place b h k = variable_written-fine id place b k.same (s.variable env id place) refl
          inline-fine r (t.nested e) place b h k = expression-fine r e place b h k

          value-fine : (r : ℕ) (i : Inline) (place : Surroundings S) (b : Budget) → Fits r (inline_references i) (inline_selects i) → Inside r place → Fine (s.value_with env enter i place b)
          value-fine r (t.string_literal x) place b h k = fine-done b
          value-fine r (t.number_literal x) place b h k = fine-done b
          value-fine r (t.function_reference id args) place b h k =
              fine-then (λ called c. s.call_found env (env.find id) called c) (arguments-fine r args place b (other_fits r (t.function_reference id args) (arguments_references args) (arguments_selects args) h) k) (call_found-fine (env.find id))
          value-fine r (t.message_reference id attr) place b h k = fine-mapped v.text (message-fine r (t.message_reference id attr) id attr place b k (first_fit r (t.message_reference id attr) [] [] h))
          value-fine r (t.term_reference id attr args) place b h k =
              fine-mapped v.text (fine-then (λ called c. s.target_written env enter (t.term_reference id attr args) (s.term_target id attr (env.find id)) (s.in_term called.named place) c) (maybe_arguments-fine r args place b (other_fits r (t.term_reference id attr args) (maybe_references args) (maybe_selects args) h) k)
              (λ called c. term-fine r (t.term_reference id attr args) id attr args (s.in_term called.named place) c (term-inside r called.named place k) (first_fit r (t.term_reference id attr args) (maybe_references args) (maybe_selects args) h)))
          value-fine r (t.variable_reference id) place b h k = variable_found-fine id place b k.same (s.variable env id place) refl
          value-fine r (t.nested e) place b h k = fine-mapped v.text (expression-fine r e place b h k)

          maybe_arguments-fine : (r : ℕ) (args : MaybeArguments) (place : Surroundings S) (b : Budget) → Fits r (maybe_references args) (maybe_selects args) → Inside r place → Fine (s.maybe_arguments_with env enter args place b)
          maybe_arguments-fine r no_arguments place b h k = fine-done b
          maybe_arguments-fine r (with_arguments args) place b h k = arguments-fine r args place b h k

          arguments-fine : (r : ℕ) (args : Arguments) (place : Surroundings S) (b : Budget) → Fits r (arguments_references args) (arguments_selects args) → Inside r place → Fine (s.arguments_with env enter args place b)
          arguments-fine r (arguments ps ns) place b h k =
              fine-then (λ vs c. mapped (s.both vs) (s.named_with env enter ns place c)) (positional-fine r ps place b (fits-left r (inlines_references ps) (nameds_references ns) (inlines_selects ps) (nameds_selects ns) h) k)
              (λ vs c. fine-mapped (s.both vs) (named-fine r ns place c (fits-right r (inlines_references ps) (nameds_references ns) (inlines_selects ps) (nameds_selects ns) h) k))

          positional-fine : (r : ℕ) (ps : Inlines) (place : Surroundings S) (b : Budget) → Fits r (inlines_references ps) (inlines_selects ps) → Inside r place → Fine (s.positional_with env enter ps place b)
          positional-fine r no_inlines place b h k = fine-done b
          positional-fine r (positional e ps) place b h k =
              fine-then (λ v c. mapped (λ vs. v ∷ vs) (s.positional_with env enter ps place c)) (value-fine r e place b (fits-left r (inline_references e) (inlines_references ps) (inline_selects e) (inlines_selects ps) h) k)
              (λ v c. fine-mapped (λ vs. v ∷ vs) (positional-fine r ps place c (fits-right r (inline_references e) (inlines_references ps) (inline_selects e) (inlines_selects ps) h) k))

          named-fine : (r : ℕ) (ns : Nameds) (place : Surroundings S) (b : Budget) → Fits r (nameds_references ns) (nameds_selects ns) → Inside r place → Fine (s.named_with env enter ns place b)
          named-fine r no_nameds place b h k = fine-done b
          named-fine r (named x e ns) place b h k =
              fine-then (λ v c. mapped (λ pairs. (x, v) ∷ pairs) (s.named_with env enter ns place c)) (value-fine r e place b (fits-left r (inline_references e) (nameds_references ns) (inline_selects e) (nameds_selects ns) h) k)
              (λ v c. fine-mapped (λ pairs. (x, v) ∷ pairs) (named-fine r ns place c (fits-right r (inline_references e) (nameds_references ns) (inline_selects e) (nameds_selects ns) h) k))

      module _ (write : Writer env Expression) (writes : (r : ℕ) (e : Expression) (place : Surroundings S) (b : Budget) → Fits r (expression_references e) (expression_selects e) → Inside r place → Fine (write e place b)) where
        placeable-fine : (r : ℕ) (whole : Elements) (e : Expression) (place : Surroundings S) (b : Budget) → Fits r (expression_references e) (expression_selects e) → Ready r whole place → Fine (s.placeable_with env write whole e place b)
        placeable-fine r whole e place shut h k = fine-done shut
        placeable-fine r whole e place (may_open zero) h k = fine-one too_many_placeables shut tt
        placeable-fine r whole e place (may_open (suc n)) h k =
            let p = surrounded-fine (env.isolating && (s.several whole && not (s.stands_bare e))) (closed-fine e (writes r e (s.rooted whole place) (may_open n) h (root-inside r whole place k))) in record { all = p.all }

        elements-fine : (r : ℕ) (whole es : Elements) (place : Surroundings S) (b : Budget) → PatternFits r es → Ready r whole place → Fine (s.elements_with env write whole es place b)
        unfolding s.elements_with
        elements-fine r whole no_elements place b h k = fine-done b
        elements-fine r whole (t.text x es) place b h k = fine-then (λ q c. mapped (λ z. q ++ z) (s.elements_with env write whole es place c)) (text-fine x b) (λ q c. fine-mapped (λ z. q ++ z) (elements-fine r whole es place c h k))
        elements-fine r whole (t.placeable e es) place b h k =
            fine-then (λ q c. mapped (λ z. q ++ z) (s.elements_with env write whole es place c)) (placeable-fine r whole e place b (fits-left r (expression_references e) (elements_references es) (expression_selects e) (elements_selects es) h) k)
            (λ q c. fine-mapped (λ z. q ++ z) (elements-fine r whole es place c (fits-right r (expression_references e) (elements_references es) (expression_selects e) (elements_selects es) h) k))

      pattern_at-fine : (d : ℕ) → Enters (s.pattern_at env d)
      unfolding s.pattern_at
      pattern_at-fine zero r es place b h k = elements-fine (λ e p c. done [] c) (λ q e p c x y. fine-done c) r es es place b h k
      pattern_at-fine (suc d) r es place b h k = elements-fine (s.expression_with env (s.pattern_at env d)) (expression-fine (s.pattern_at env d) (pattern_at-fine d)) r es es place b h k

      pub answer-fine : (k : ℕ) (es : Elements) → PatternFits (R es) es → Fine (s.formatted env k asked es)
      unfolding s.pattern_written
      answer-fine k es h = fine-entering (pattern_at-fine k (R es) es (outset asked) (may_open k) h (record { above = All-nil (λ p. R es ≤ R p); first = λ e. rank-same (R es); same = refl }))
