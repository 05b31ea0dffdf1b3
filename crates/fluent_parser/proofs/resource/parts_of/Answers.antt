use Rattle.std.proofs.Common.{ap, [], ℕ, None, List, map, subst, ◌≡◌, IfOk}
use Rattle.std.specs.Prelude.{OnOk}
use Rattle.fluent_grammar.specs.Tree as t
use Rattle.fluent_grammar.specs.Tiling.{Piece, entries_of, errors_of}
use Rattle.fluent_parsed.specs.ErrorView.{ErrorView, error_told}
use Rattle.fluent_parsed.specs.Collected.{entries_with, errors_with}
use Rattle.fluent_parser.proofs.Beginnings.{whole_starts}
use Rattle.fluent_parser.proofs.Left.{whole_left}
use Rattle.fluent_parser.specs.Depth.{NestsPast, PastSomewhere}
use Rattle.fluent_parser.specs.Placed.{Adds}
use Rattle.fluent_parser.proofs.Deepening.{halted_same, nests}
use Rattle.fluent_parser.proofs.resource.parts_of.Goals as goal

pub returns-clause-entries : goal.returns-clause-entries
returns-clause-entries g c =
    let whole = whole_left (g.T.Texts.text c.args.source.now) c.new-parser.result.text.now c.new-parser.result.rest.now c.new-parser.ensures.text c.new-parser.ensures.rest in
    subst (λ (es : List t.Entry). IfOk c.get_parts.result (λ all. entries_with g.row.S.Denot g.T.Texts.text all [] ≡ es)) (ap (entries_of None) whole) c.get_parts.ensures.entries

pub returns-clause-errors : goal.returns-clause-errors
returns-clause-errors g c =
    let whole = whole_left (g.T.Texts.text c.args.source.now) c.new-parser.result.text.now c.new-parser.result.rest.now c.new-parser.ensures.text c.new-parser.ensures.rest in
    subst (λ (es : List ErrorView). IfOk c.get_parts.result (λ all. errors_with g.row.S.Denot all [] ≡ es)) (ap (λ (ps : List Piece). map error_told (errors_of ps)) whole) c.get_parts.ensures.errors

pub returns-clause-starts : goal.returns-clause-starts
returns-clause-starts g c =
    let whole = whole_starts (g.T.Texts.text c.args.source.now) c.new-parser.result.text.now c.new-parser.result.rest.now c.new-parser.ensures.text c.new-parser.ensures.rest in
    subst (λ (l : List ℕ). OnOk c.get_parts.result (Adds c.args.starts.now c.get_parts.new.starts l)) whole c.get_parts.ensures.starts

pub returns-clause-deep : goal.returns-clause-deep
returns-clause-deep g c =
    halted_same c.get_parts.result (PastSomewhere c.new-parser.result) (NestsPast c.args.budget.bytes (g.T.Texts.text c.args.source.now)) c.get_parts.ensures.deep
    (nests c.new-parser.result c.args.budget.bytes (g.T.Texts.text c.args.source.now) c.new-parser.ensures.closed (ap (λ z. z.bytes) c.new-parser.ensures.budget) c.new-parser.ensures.text)
