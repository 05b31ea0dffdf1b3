use Rattle.std.proofs.Common.{◌∙◌, None, refl, ap}
use Rattle.fluent_ast.specs.Borrowed.{entry_of, message_of, term_of}
use Rattle.lint_entries.specs.AttributePlaces.{uncommented}
use Rattle.fluent_grammar.specs.Reading.{entry_at}
use Rattle.fluent_grammar.specs.Tree as t
use Rattle.lint_entries.specs.Kept.{entry_part, kept_entry}
use Rattle.lint_entries.proofs.Passing.{found, entry_passed, junk_passed}
use Rattle.lint_entries.proofs.walk.Walk.next.Goals as goal

pub message_rest-requires : goal.message_rest-requires
message_rest-requires c =
    let m = message_of c.in-Message.message in
    let f = found c.args.self.now c.args.self.now (entry_of c.args.entry.now) (t.message (record m { comment = None })) (ap (λ x. kept_entry (entry_of x)) c.in-Message.is) c.requires.1 c.requires.0 c.requires.2 in
    (f.rest, ap entry_at c.next_start-text.ensures ∙ f.read)

pub term_rest-requires : goal.term_rest-requires
term_rest-requires c =
    let m = term_of c.in-Term.term in
    let f = found c.args.self.now c.args.self.now (entry_of c.args.entry.now) (t.term (record m { comment = None })) (ap (λ x. kept_entry (entry_of x)) c.in-Term.is) c.requires.1 c.requires.0 c.requires.2 in
    (f.rest, ap entry_at c.next_start-text-in-Term.ensures ∙ f.read)

pub returns-in_ok-self-in-Message : goal.returns-in_ok-self-in-Message
returns-in_ok-self-in-Message c = λ ahead es are.
    let m = message_of c.in-Message.message in
    entry_passed c.args.self.now _ (entry_of c.args.entry.now) (t.message (record m { comment = None })) (ap (λ x. kept_entry (entry_of x)) c.in-Message.is) es ahead are
    _ c.next_start-text.result.now c.next_start-text.ensures c.in_ok-self-in-Message.ensures refl refl (ap (λ x. entry_part c.next_start-text.result.now (uncommented (entry_of x))) c.in-Message.is)

pub returns-in_ok-self-in-Term : goal.returns-in_ok-self-in-Term
returns-in_ok-self-in-Term c = λ ahead es are.
    let m = term_of c.in-Term.term in
    entry_passed c.args.self.now _ (entry_of c.args.entry.now) (t.term (record m { comment = None })) (ap (λ x. kept_entry (entry_of x)) c.in-Term.is) es ahead are
    _ c.next_start-text-in-Term.result.now c.next_start-text-in-Term.ensures c.in_ok-self-in-Term.ensures refl refl (ap (λ x. entry_part c.next_start-text-in-Term.result.now (uncommented (entry_of x))) c.in-Term.is)

pub returns-in-Junk : goal.returns-in-Junk
returns-in-Junk c = λ ahead es are.
    junk_passed c.args.self.now c.skip_junk.new.self es ahead (entry_of c.args.entry.now) (ap (λ x. kept_entry (entry_of x)) c.in-Junk.is) are c.skip_junk.ensures _ refl
