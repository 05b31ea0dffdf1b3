-- Each misuse that a call is said to have is one, and what its hint names is there.
use Rattle.std.proofs.Common.{◌≡◌, ◌≢◌, ◌∙◌, Bool, true, false, if◌then◌else◌, List, [], Option, Some, None, refl, sym, ap, subst, All, Contains}
use Rattle.std.specs.Prelude.{is_some, option_map}
use Rattle.std.specs.List.{find}
use Rattle.std.specs.Option.{option_to_list}
use Rattle.std.specs.Str.{bytes_eq}
use Rattle.std.proofs.lemmas.Bool.{false≢true}
use Rattle.std.proofs.lemmas.List.Elements.{All-nil, All-cons, All-append}
use Rattle.fluent_grammar.proofs.Cases.{cases}
use Rattle.fluent_grammar.specs.Escapes.{unescaped}
use Rattle.fluent_grammar.specs.Words.{Text, is_among}
use Rattle.fluent_grammar.specs.Tree as t
use Rattle.fluent_grammar.specs.Tree.{Inline, Nameds}
use Rattle.lint_findings.specs.Builtins.{Builtin, FunctionOption, Takes, a_number, any_text, one_of, builtins, builtin_named, has_option, taken_by}
use Rattle.lint_findings.specs.Misuses.{Misuse, unknown_option, takes_number, takes_text, unknown_value, overruled, text_misuse, number_misuse, literal_misuse, option_misuse, argument_misuse, misuses_of, named_misuses, first_named, overruled_by, misuses_beside, overruled_misuses, misuses_by}
use Rattle.lint_findings.specs.MisuseLaws.{HasNamed, this, later, IsRowOf, HasOption, IsMisusedSo, MisusesAreTrue, MisuseHintsAreSo}
use Rattle.lint_findings.proofs.FactsAreTrue.{same_bytes}
use Rattle.lint_findings.proofs.NearNamesAreThere.{asks_for, found_in, is_among_it, is_one_of, is_same, none_found, none_is_some, some_is}

-- ---- options

abbrev is_named : Text → FunctionOption → Bool
is_named name o = bytes_eq o.name name

option_there : (row : Builtin) (name : Text) (takes : Takes) (r : Option FunctionOption) → find (is_named name) row.options ≡ r → option_map (λ (o : FunctionOption). o.takes) r ≡ Some takes →
    HasOption row name takes
option_there row name takes None is e = none_is_some e
option_there row name takes (Some o) is e =
    let at = found_in (is_named name) row.options o is in
    (o, at.0, is_same o.name name at.1, some_is e)

has_it : (row : Builtin) (name : Text) (takes : Takes) → taken_by row.options name ≡ Some takes → HasOption row name takes
has_it row name takes e = option_there row name takes (find (is_named name) row.options) refl e

option_lacks : (row : Builtin) (name : Text) (r : Option FunctionOption) → find (is_named name) row.options ≡ r → option_map (λ (o : FunctionOption). o.takes) r ≡ None →
    (takes : Takes) → HasOption row name takes → ⊥
option_lacks row name None is e takes has = none_found (is_named name) row.options has.0 is has.1 (ap (λ s. bytes_eq s name) has.2 ∙ same_bytes name)
option_lacks row name (Some o) is e takes has = none_is_some (sym e)

lacks_it : (row : Builtin) (name : Text) → taken_by row.options name ≡ None → (takes : Takes) → HasOption row name takes → ⊥
lacks_it row name e = option_lacks row name (find (is_named name) row.options) refl e

-- what takes no number
abbrev takes_other : Takes → Type 0
takes_other a_number = ⊥
takes_other any_text = Unit {0}
takes_other (one_of values) = Unit {0}

other_takes : (takes : Takes) → takes_other takes → takes ≢ a_number
other_takes takes h e = subst takes_other e h

-- ---- a call

module _ (id : Text) (whole : Nameds) (row : Builtin) (is_row : IsRowOf id row) where
  abbrev So : Misuse → Type 0
  So = IsMisusedSo id whole

  abbrev Has : Text → Inline → Type 0
  Has name e = HasNamed whole name e

  of_value : (name : Text) (values : List Text) (raw : Text) → Has name (t.string_literal raw) → HasOption row name (one_of values) → (b : Bool) → is_among (unescaped raw) values ≡ b →
      All So (option_to_list (if b then None else Some (unknown_value name values raw (unescaped raw))))
  of_value name values raw there takes true is = All-nil So
  of_value name values raw there takes false is =
      All-cons So (unknown_value name values raw (unescaped raw)) [] (there, refl, (row, is_row, takes), λ at. false≢true (sym is ∙ is_among_it values (unescaped raw) at)) (All-nil So)

  of_text : (name : Text) (takes : Takes) (raw : Text) → Has name (t.string_literal raw) → HasOption row name takes → All So (option_to_list (text_misuse name takes raw (unescaped raw)))
  of_text name a_number raw there has = All-cons So (takes_number name) [] (raw, there, (row, is_row, has)) (All-nil So)
  of_text name any_text raw there has = All-nil So
  of_text name (one_of values) raw there has = of_value name values raw there has (is_among (unescaped raw) values) refl

  of_number : (name : Text) (takes : Takes) (x : Text) → Has name (t.number_literal x) → HasOption row name takes → All So (option_to_list (number_misuse name takes))
  of_number name a_number x there has = All-nil So
  of_number name any_text x there has = All-cons So (takes_text name) [] (x, there, any_text, (row, is_row, has), λ e. other_takes any_text tt e) (All-nil So)
  of_number name (one_of values) x there has = All-cons So (takes_text name) [] (x, there, one_of values, (row, is_row, has), λ e. other_takes (one_of values) tt e) (All-nil So)

  of_literal : (name : Text) (takes : Takes) (e : Inline) → Has name e → HasOption row name takes → All So (option_to_list (literal_misuse name takes e))
  of_literal name takes (t.string_literal raw) there has = of_text name takes raw there has
  of_literal name takes (t.number_literal x) there has = of_number name takes x there has
  of_literal name takes (t.function_reference f c) there has = All-nil So
  of_literal name takes (t.message_reference f c) there has = All-nil So
  of_literal name takes (t.term_reference f b c) there has = All-nil So
  of_literal name takes (t.variable_reference y) there has = All-nil So
  of_literal name takes (t.nested i) there has = All-nil So

  of_option : (name : Text) (e : Inline) → Has name e → (o : Option Takes) → taken_by row.options name ≡ o → All So (option_to_list (option_misuse row name e o))
  of_option name e there None is = All-cons So (unknown_option row name) [] (is_row, e, there, lacks_it row name is) (All-nil So)
  of_option name e there (Some takes) is = of_literal name takes e there (has_it row name takes is)

  of_overruled : (style : Text) (f : Inline) → Has style f → Contains row.styles style → (name : Text) (e : Inline) → Has name e → (b : Bool) → is_among name row.components ≡ b →
      All So (option_to_list (if b then Some (overruled name style) else None))
  of_overruled style f beside is_style name e there true is = All-cons So (overruled name style) [] (row, is_row, e, there, is_one_of row.components name is, f, beside, is_style) (All-nil So)
  of_overruled style f beside is_style name e there false is = All-nil So

  -- what holds of each argument by itself holds of all
  of_each : (misuse : Text → Inline → Option Misuse) → ((name : Text) (e : Inline) → Has name e → All So (option_to_list (misuse name e))) →
      (ns : Nameds) → ((name : Text) (e : Inline) → HasNamed ns name e → Has name e) → All So (misuses_of misuse ns)
  of_each misuse h t.no_nameds inside = All-nil So
  of_each misuse h (t.named name e ns) inside =
      All-append So (option_to_list (misuse name e)) (misuses_of misuse ns) (h name e (inside name e this)) (of_each misuse h ns (λ other f at. inside other f (later at)))

  first_there : (ns : Nameds) → ((name : Text) (e : Inline) → HasNamed ns name e → Has name e) → (names : List Text) (style : Text) → first_named ns names ≡ Some style →
      (f : Inline) × Has style f × Contains names style
  first_there t.no_nameds inside names style e = none_is_some e
  first_there (t.named name f ns) inside names style e = cases (is_among name names)
      (λ b. let same : name ≡ style = some_is (ap (λ c. if c then Some name else first_named ns names) (sym b) ∙ e) in
      (f, subst (λ s. Has s f) same (inside name f this), subst (Contains names) same (is_one_of names name b)))
      (λ b. first_there ns (λ other g at. inside other g (later at)) names style (ap (λ c. if c then Some name else first_named ns names) (sym b) ∙ e))

  of_beside : (o : Option Text) → first_named whole row.styles ≡ o → All So (misuses_beside row o whole)
  of_beside None is = All-nil So
  of_beside (Some style) is =
      let there = first_there whole (λ name e at. at) row.styles style is in
      of_each (overruled_by row style) (λ name e at. of_overruled style there.0 there.1 there.2 name e at (is_among name row.components) refl) whole (λ name e at. at)

  of_row : All So (misuses_by (Some row) whole)
  of_row =
      All-append So (named_misuses row whole) (overruled_misuses row whole)
      (of_each (argument_misuse row) (λ name e at. of_option name e at (taken_by row.options name) refl) whole (λ name e at. at))
      (of_beside (first_named whole row.styles) refl)

of_found : (id : Text) (ns : Nameds) (o : Option Builtin) → builtin_named id ≡ o → All (IsMisusedSo id ns) (misuses_by o ns)
of_found id ns None is = All-nil (IsMisusedSo id ns)
of_found id ns (Some row) is =
    let at = found_in (λ (r : Builtin). bytes_eq r.name id) builtins row is in
    of_row id ns row (at.0, is_same row.name id at.1)

pub misuses_are_true : MisusesAreTrue
misuses_are_true id ns = of_found id ns (builtin_named id) refl

-- ---- hints

is_there : (row : Builtin) (name : Text) (o : Option Takes) → taken_by row.options name ≡ o → is_some o ≡ true → (takes : Takes) × HasOption row name takes
is_there row name None is h = absurd (false≢true h)
is_there row name (Some takes) is h = (takes, has_it row name takes is)

pub misuse_hints_are_so : MisuseHintsAreSo
misuse_hints_are_so (unknown_option row name) hint e =
    asks_for (λ option. (takes : Takes) × HasOption row option takes) [] (has_option row) name (λ option h. is_there row option (taken_by row.options option) refl h) hint e
misuse_hints_are_so (takes_number name) hint e = none_is_some e
misuse_hints_are_so (takes_text name) hint e = none_is_some e
misuse_hints_are_so (unknown_value name values raw s) hint e = asks_for (Contains values) [] (λ value. is_among value values) s (is_one_of values) hint e
misuse_hints_are_so (overruled name style) hint e = none_is_some e
