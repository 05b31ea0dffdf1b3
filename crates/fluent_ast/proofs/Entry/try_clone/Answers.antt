use Rattle.std.proofs.Common.{ap, sym, ◌∙◌}
use Rattle.fluent_grammar.specs.Tree as t
use Rattle.fluent_ast.specs.View.{entry_view}
use Rattle.fluent_ast.proofs.Entry.try_clone.Goals as goal

pub returns-in_ok-try_clone-in-Message : goal.returns-in_ok-try_clone-in-Message
returns-in_ok-try_clone-in-Message g c = ap t.message c.in_ok-try_clone-in-Message.ensures ∙ sym (ap (entry_view g.row.S.Denot g.S.Slice.text) c.in-Message.is)

pub returns-in_ok-try_clone-in-Term : goal.returns-in_ok-try_clone-in-Term
returns-in_ok-try_clone-in-Term g c = ap t.term c.in_ok-try_clone-in-Term.ensures ∙ sym (ap (entry_view g.row.S.Denot g.S.Slice.text) c.in-Term.is)

pub returns-in_ok-try_clone-in-Comment : goal.returns-in_ok-try_clone-in-Comment
returns-in_ok-try_clone-in-Comment g c = ap t.comment c.in_ok-try_clone-in-Comment.ensures ∙ sym (ap (entry_view g.row.S.Denot g.S.Slice.text) c.in-Comment.is)

pub returns-in_ok-try_clone-in-GroupComment : goal.returns-in_ok-try_clone-in-GroupComment
returns-in_ok-try_clone-in-GroupComment g c = ap t.group_comment c.in_ok-try_clone-in-GroupComment.ensures ∙ sym (ap (entry_view g.row.S.Denot g.S.Slice.text) c.in-GroupComment.is)

pub returns-in_ok-try_clone-in-ResourceComment : goal.returns-in_ok-try_clone-in-ResourceComment
returns-in_ok-try_clone-in-ResourceComment g c = ap t.resource_comment c.in_ok-try_clone-in-ResourceComment.ensures ∙ sym (ap (entry_view g.row.S.Denot g.S.Slice.text) c.in-ResourceComment.is)

pub returns-in_ok-try_clone-in-Junk : goal.returns-in_ok-try_clone-in-Junk
returns-in_ok-try_clone-in-Junk g c = ap t.junk c.in_ok-try_clone-in-Junk.ensures ∙ sym (ap (entry_view g.row.S.Denot g.S.Slice.text) c.in-Junk.is)
