use Rattle.std.proofs.Common.{◌≡◌, ◌∙◌, ◌-◌, ◌<◌, ◌++◌, ℕ, Bool, true, false, List, ◌∷◌, length, sym, ap, arith, rules, append-nil}
use Rattle.std.specs.Prelude.{◌==◌}
use Rattle.fluent_grammar.specs.Reading.{entry_at}
use Rattle.fluent_grammar.specs.Tiling.{Piece}
use Rattle.fluent_parsed.specs.Collected.{entries_with, errors_with}
use Rattle.fluent_parser.specs.Left.{pieces_left}
use Rattle.fluent_parser.specs.Parts.{piece_of}
use Rattle.fluent_parsed.proofs.CollectedEntries.{test_some}
use Rattle.fluent_parser.specs.Starts.{starts_left}
use Rattle.fluent_parser.proofs.Beginnings.{no_start_left, start_left, one_more_start}
use Rattle.fluent_parser.proofs.Left.{nothing_left, piece_left}
use Rattle.fluent_tokens.proofs.Scanned.{test_of}
use Rattle.fluent_parser.specs.Depth.{PastSomewhere}
use Rattle.fluent_parser.proofs.Deepening.{halted_map, moved}
use Rattle.fluent_parser.proofs.parser.Parser.get_parts.Goals as goal

pub returns-then-is_empty-clause-entries : goal.returns-then-is_empty-clause-entries
returns-then-is_empty-clause-entries g c =
    let u = c.skip_blank_block-apart.new.self.rest.now in
    let z : (length u == 0) ≡ true = search rules in
    ap (λ (ps : List Piece). entries_with g.row.S.Denot g.T.Texts.text c.parts.collected ps) (sym (nothing_left (length c.args.self.now.text.now) c.parts.self.rest.now u c.skip_blank_block-apart.ensures.rest (test_of (length u) 0 z)))
    ∙ c.parts.invariant.entries

pub returns-then-is_empty-clause-errors : goal.returns-then-is_empty-clause-errors
returns-then-is_empty-clause-errors g c =
    let u = c.skip_blank_block-apart.new.self.rest.now in
    let z : (length u == 0) ≡ true = search rules in
    ap (λ (ps : List Piece). errors_with g.row.S.Denot c.parts.collected ps) (sym (nothing_left (length c.args.self.now.text.now) c.parts.self.rest.now u c.skip_blank_block-apart.ensures.rest (test_of (length u) 0 z)))
    ∙ c.parts.invariant.errors

pub returns-then-is_empty-clause-starts : goal.returns-then-is_empty-clause-starts
returns-then-is_empty-clause-starts g c = λ keeping.
    let u = c.skip_blank_block-apart.new.self.rest.now in
    let z : (length u == 0) ≡ true = search rules in
    sym (append-nil c.parts.starts.all.items)
    ∙ ap (λ l. c.parts.starts.all.items ++ l) (sym (no_start_left (length c.args.self.now.text.now) c.parts.self.rest.now u c.skip_blank_block-apart.ensures.rest (test_of (length u) 0 z)))
    ∙ c.parts.invariant.starts keeping

pub parts-preserved : goal.parts-preserved
parts-preserved g c =
    let total = length c.args.self.now.text.now in
    let s = c.parts.self.rest.now in
    let u = c.skip_blank_block-apart.new.self.rest.now in
    let rest = c.get_part.new.self.rest.now in
    let apart = c.skip_blank_block-apart.result in
    let z : (length u == 0) ≡ false = search rules in
    let less : length rest < length u = c.in_ok-get_part.ensures.less in
    let step : pieces_left total s ≡ piece_of (total - length u) apart u (entry_at u) ∷ pieces_left total rest =
    piece_left total s u rest c.parts.invariant.within c.skip_blank_block-apart.ensures.rest (test_some (length u) z) c.in_ok-get_part.ensures.rest less
    ∙ ap (λ (b : Bool). piece_of (total - length u) b u (entry_at u) ∷ pieces_left total rest) (sym c.skip_blank_block-apart.ensures.value) in
    let here : length c.skip_blank_block-apart.new.self.text.now ≡ total = ap length (c.skip_blank_block-apart.ensures.advances.text ∙ c.parts.invariant.text) in
    let old = c.parts.collected in
    let more = pieces_left total rest in
    let put : entries_with g.row.S.Denot g.T.Texts.text c.get_part.new.collected more ≡ entries_with g.row.S.Denot g.T.Texts.text old (piece_of (total - length u) apart u (entry_at u) ∷ more) =
    c.in_ok-get_part.ensures.entries more ∙ ap (λ (n : ℕ). entries_with g.row.S.Denot g.T.Texts.text old (piece_of (n - length u) apart u (entry_at u) ∷ more)) here in
    let place : c.place.result ≡ total - length u = c.place.ensures.value ∙ ap (λ n. n - length u) here in
    let start : starts_left total s ≡ c.place.result ∷ starts_left total rest =
    start_left total s u rest c.parts.invariant.within c.skip_blank_block-apart.ensures.rest (test_some (length u) z) c.in_ok-get_part.ensures.rest less
    ∙ ap (λ n. n ∷ starts_left total rest) (sym place) in
    let told : errors_with g.row.S.Denot c.get_part.new.collected more ≡ errors_with g.row.S.Denot old (piece_of (total - length u) apart u (entry_at u) ∷ more) =
    c.in_ok-get_part.ensures.errors more ∙ ap (λ (n : ℕ). errors_with g.row.S.Denot old (piece_of (n - length u) apart u (entry_at u) ∷ more)) here in
    record {
      closed = c.get_part.ensures.closed;
      budget = c.get_part.ensures.budget ∙ c.skip_blank_block-apart.ensures.advances.budget ∙ c.parts.invariant.budget;
      text = c.get_part.ensures.text ∙ c.skip_blank_block-apart.ensures.advances.text ∙ c.parts.invariant.text;
      within = omega (arith, less, c.skip_blank_block-apart.ensures.advances.onward, c.parts.invariant.within);
      entries = put ∙ ap (λ (ps : List Piece). entries_with g.row.S.Denot g.T.Texts.text old ps) (sym step) ∙ c.parts.invariant.entries;
      errors = told ∙ ap (λ (ps : List Piece). errors_with g.row.S.Denot old ps) (sym step) ∙ c.parts.invariant.errors;
      keeping = c.push.ensures.keeping ∙ c.parts.invariant.keeping;
      starts = λ keeping. one_more_start c.parts.starts.all.items _ _ c.place.result (starts_left total s) (starts_left total rest) start (c.parts.invariant.starts keeping) (c.in_ok-push.ensures.kept (c.parts.invariant.keeping ∙ keeping));
    }

pub returns-in_err-get_part-clause-deep : goal.returns-in_err-get_part-clause-deep
returns-in_err-get_part-clause-deep g c =
    search (
      rules,
      halted_map c.in_err-get_part.field-0.0 (PastSomewhere c.skip_blank_block-apart.new.self) (PastSomewhere c.args.self.now) c.in_err-get_part.ensures.deep
          (moved c.args.self.now c.skip_blank_block-apart.new.self (c.skip_blank_block-apart.ensures.advances.text ∙ c.parts.invariant.text) (c.skip_blank_block-apart.ensures.advances.stack ∙ c.parts.invariant.closed ∙ sym c.requires.closed) (c.skip_blank_block-apart.ensures.advances.budget ∙ c.parts.invariant.budget)),
    )
