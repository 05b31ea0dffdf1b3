use Rattle.std.proofs.Common.{◌≡◌, ◌∙◌, ◌++◌, [], ◌∷◌, refl, ap, sym, subst, Bool, Some, None, true, false, List, Option, Bor}
use Rattle.std.proofs.lemmas.Result.{on_ok_weaker}
use Rattle.std.specs.Option.{option_map, option_copied}
use Rattle.fluent_ast.specs.Borrowed.{message_of, term_of, elements_of, elements_found, attributes_of}
use Rattle.fluent_ast.specs.declared.Pattern.{Pattern}
use Rattle.fluent_grammar.specs.Tree as t
use Rattle.fluent_grammar.specs.Tree.{Elements}
use Rattle.fluent_grammar.specs.Words.{Text}
use Rattle.fluent_ids.specs.EntryView.{meaning_of}
use Rattle.fluent_ids.specs.IdsView.{ids_view}
use Rattle.fluent_meaning.specs.Ids.{Ids, Meaning, find, message, term, function, number_function}
use Rattle.lint_findings.specs.Endless.{all_patterns}
use Rattle.lint_nodes.specs.Holding.{GetsEntry, patterns_of, entered, entered_among, with_entry}
use Rattle.lint_nodes.proofs.Owned.{renamed}
use Rattle.lint_nodes.proofs.Catalog.{message_more, message_whole, term_more, term_whole, none_more, found_known}
use Rattle.lint_nodes.proofs.entered.EnteredPatterns.add.Goals as goal

found_copied : (o : Option (Bor (Pattern (Bor Text)))) → elements_found o ≡ option_map elements_of (option_copied o)
found_copied None = refl
found_copied (Some p) = refl

a_function : (ids : Ids (Unit {0})) (id : Text) (f : Unit {0}) → find ids id ≡ Some (function f) → (t : Bool) (a : Option Text) → entered ids t id a ≡ None
a_function ids id f e true a = rw e
a_function ids id f e false a = rw e

a_number : (ids : Ids (Unit {0})) (id : Text) → find ids id ≡ Some number_function → (t : Bool) (a : Option Text) → entered ids t id a ≡ None
a_number ids id e true a = rw e
a_number ids id e false a = rw e

-- an id that names nothing
nothing : (ids : Ids (Unit {0})) (id : Text) → find ids id ≡ None → (t : Bool) (a : Option Text) → entered ids t id a ≡ None
nothing ids id e true a = rw e
nothing ids id e false a = rw e

pub returns-in-Some-Message : goal.returns-in-Some-Message
returns-in-Some-Message c =
    let ids = ids_view (Unit {0}) c.args.ids.now in
    let old = c.args.self.now in
    let id = c.args.id.now in
    let m = message_of c.in-Some-Message.message.now in
    let meaning : Meaning (Unit {0}) = message m in
    let found : find ids id ≡ Some meaning =
    sym c.get.ensures ∙ ap (λ o. option_map (meaning_of (Unit {0})) (option_copied o)) c.in-Some-Message.is ∙ ap (λ e. Some (meaning_of (Unit {0}) e)) c.in-Some-Message.field-0-is in
    let value : elements_found c.as_ref.result ≡ m.value = found_copied c.as_ref.result ∙ ap (option_map elements_of) c.as_ref.ensures.value in
    let attributes : attributes_of c.deref.result.now ≡ m.attributes = ap attributes_of c.deref.ensures.value in
    let Then : Option Elements → List t.Attribute → Type 0 = λ v as'. GetsEntry old c.add_entry.new.self false id v as' in
    on_ok_weaker c.add_entry.result
    (λ (gets : Then (elements_found c.as_ref.result) (attributes_of c.deref.result.now)) seen has.
    let own : Then m.value m.attributes = subst (λ as'. Then m.value as') attributes (subst (λ v. Then v (attributes_of c.deref.result.now)) value gets) in
    renamed (all_patterns ids) c.add_entry.new.self.indices (patterns_of c.add_entry.new.self.patterns.items) (with_entry false id m.value m.attributes (entered_among ids seen)) (entered_among ids (seen ++ id ∷ []))
    (message_more ids seen id m found) (own (all_patterns ids) (entered_among ids seen) has (message_whole ids seen id m found) (found_known ids id meaning found)))
    c.add_entry.ensures

pub returns-in-Some-Term : goal.returns-in-Some-Term
returns-in-Some-Term c =
    let ids = ids_view (Unit {0}) c.args.ids.now in
    let old = c.args.self.now in
    let id = c.args.id.now in
    let m = term_of c.in-Some-Term.term.now in
    let meaning : Meaning (Unit {0}) = term m in
    let found : find ids id ≡ Some meaning =
    sym c.get.ensures ∙ ap (λ o. option_map (meaning_of (Unit {0})) (option_copied o)) c.in-Some-Term.is ∙ ap (λ e. Some (meaning_of (Unit {0}) e)) c.in-Some-Term.field-0-is in
    let new = c.add_entry-in-Some-Term.new.self in
    let attributes : attributes_of c.deref-in-Some-Term.result.now ≡ m.attributes = ap attributes_of c.deref-in-Some-Term.ensures.value in
    let Then : List t.Attribute → Type 0 = λ as'. GetsEntry old new true id (Some m.value) as' in
    on_ok_weaker c.add_entry-in-Some-Term.result
    (λ (gets : Then (attributes_of c.deref-in-Some-Term.result.now)) seen has.
    let own : Then m.attributes = subst Then attributes gets in
    renamed (all_patterns ids) new.indices (patterns_of new.patterns.items) (with_entry true id (Some m.value) m.attributes (entered_among ids seen)) (entered_among ids (seen ++ id ∷ []))
    (term_more ids seen id m found) (own (all_patterns ids) (entered_among ids seen) has (term_whole ids seen id m found) (found_known ids id meaning found)))
    c.add_entry-in-Some-Term.ensures

pub returns-in-None : goal.returns-in-None
returns-in-None c = λ seen has.
    let ids = ids_view (Unit {0}) c.args.ids.now in
    let old = c.args.self.now in
    let found : find ids c.args.id.now ≡ None = sym c.get.ensures ∙ ap (λ o. option_map (meaning_of (Unit {0})) (option_copied o)) c.in-None.is in
    renamed (all_patterns ids) old.indices (patterns_of old.patterns.items) (entered_among ids seen) (entered_among ids (seen ++ c.args.id.now ∷ [])) (none_more ids seen c.args.id.now (nothing ids c.args.id.now found)) has

pub returns-in-Some-Function : goal.returns-in-Some-Function
returns-in-Some-Function c = λ seen has.
    let ids = ids_view (Unit {0}) c.args.ids.now in
    let old = c.args.self.now in
    let meaning : Meaning (Unit {0}) = function c.in-Some-Function.field-0-0 in
    let found : find ids c.args.id.now ≡ Some meaning =
    sym c.get.ensures ∙ ap (λ o. option_map (meaning_of (Unit {0})) (option_copied o)) c.in-Some-Function.is ∙ ap (λ e. Some (meaning_of (Unit {0}) e)) c.in-Some-Function.field-0-is in
    renamed (all_patterns ids) old.indices (patterns_of old.patterns.items) (entered_among ids seen) (entered_among ids (seen ++ c.args.id.now ∷ [])) (none_more ids seen c.args.id.now (a_function ids c.args.id.now c.in-Some-Function.field-0-0 found)) has

pub returns-in-Some-Number : goal.returns-in-Some-Number
returns-in-Some-Number c = λ seen has.
    let ids = ids_view (Unit {0}) c.args.ids.now in
    let old = c.args.self.now in
    let meaning : Meaning (Unit {0}) = number_function in
    let found : find ids c.args.id.now ≡ Some meaning =
    sym c.get.ensures ∙ ap (λ o. option_map (meaning_of (Unit {0})) (option_copied o)) c.in-Some-Number.is ∙ ap (λ e. Some (meaning_of (Unit {0}) e)) c.in-Some-Number.field-0-is in
    renamed (all_patterns ids) old.indices (patterns_of old.patterns.items) (entered_among ids seen) (entered_among ids (seen ++ c.args.id.now ∷ [])) (none_more ids seen c.args.id.now (a_number ids c.args.id.now found)) has
