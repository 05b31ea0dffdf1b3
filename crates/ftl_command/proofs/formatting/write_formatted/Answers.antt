use Rattle.std.proofs.Common.{◌∙◌, ap, rules, subst}
use Rattle.ftl_command.specs.FormatView.{formatted_view}
use Rattle.ftl_arguments.specs.CommandView.{format_view}
use Rattle.ftl_command.specs.Program.{WritesFront}
use Rattle.ftl_command.proofs.FormatLemmas.{on_found, on_shown, written_so}
use Rattle.ftl_command.proofs.Refusals.{of_output, text_cut, text_unwritten}
use Rattle.ftl_command.proofs.formatting.write_formatted.Goals as goal

pub returns-in_err-formatted-clause-stops : goal.returns-in_err-formatted-clause-stops
returns-in_err-formatted-clause-stops g c = search (rules, text_unwritten)

pub returns-in_err-write_to_stream-clause-fault : goal.returns-in_err-write_to_stream-clause-fault
returns-in_err-write_to_stream-clause-fault g c = search (rules, of_output)

pub returns-in_err-write_to_stream-clause-stops : goal.returns-in_err-write_to_stream-clause-stops
returns-in_err-write_to_stream-clause-stops g c = search (rules, text_cut)

pub returns-in_err-write_to_stream-clause-ended : goal.returns-in_err-write_to_stream-clause-ended
returns-in_err-write_to_stream-clause-ended g c = record {
  written = search rules;
  output = λ is. on_found (g.F.Folder.contents c.args.folder.now) (format_view c.args.format.now)
      (λ found. on_shown (formatted_view c.in_ok-formatted.formatted)
      (λ reply same. subst (WritesFront _ _) (c.as_str.ensures.value ∙ ap (λ s. s.text) same) c.in_err-write_to_stream.ensures.front) found)
      c.in_ok-formatted.ensures.found;
}

pub returns-clause-ended : goal.returns-clause-ended
returns-clause-ended g c = record {
  written = on_found (g.F.Folder.contents c.args.folder.now) (format_view c.args.format.now)
      (λ found. written_so _ _ _ _ (formatted_view c.in_ok-formatted.formatted) found c.in_ok-write_to_stream.ensures.written c.as_str.ensures.value c.end_with.ensures.errors c.end_with.ensures.status)
      c.in_ok-formatted.ensures.found;
  output = λ is. absurd cc;
}
