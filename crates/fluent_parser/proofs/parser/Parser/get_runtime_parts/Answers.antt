use Rattle.std.proofs.Common.{◌≡◌, ◌∙◌, ◌-◌, ◌<◌, ℕ, true, false, List, ◌∷◌, length, sym, ap, arith, rules}
use Rattle.std.specs.Prelude.{◌==◌}
use Rattle.fluent_grammar.specs.Reading.{entry_at}
use Rattle.fluent_grammar.specs.Tiling.{Piece}
use Rattle.fluent_parsed.specs.Collected.{entries_with, errors_with}
use Rattle.fluent_parser.specs.Left.{runtime_left}
use Rattle.fluent_parser.specs.Parts.{piece_of}
use Rattle.fluent_parsed.proofs.CollectedEntries.{test_some}
use Rattle.fluent_parser.proofs.Left.{nothing_left_at_runtime, piece_left_at_runtime, comments_passed, comments_less}
use Rattle.fluent_tokens.proofs.Scanned.{test_of}
use Rattle.fluent_parser.specs.Depth.{PastSomewhere}
use Rattle.fluent_parser.proofs.Deepening.{halted_map, moved}
use Rattle.fluent_parser.proofs.parser.Parser.get_runtime_parts.Goals as goal

pub returns-then-is_empty-clause-entries : goal.returns-then-is_empty-clause-entries
returns-then-is_empty-clause-entries g c =
    let u = c.skip_blank_block.new.self.rest.now in
    let z : (length u == 0) ≡ true = search rules in
    ap (λ (ps : List Piece). entries_with g.row.S.Denot g.T.Texts.text c.parts.collected ps) (sym (nothing_left_at_runtime (length c.args.self.now.text.now) c.parts.self.rest.now u c.skip_blank_block.ensures.rest (test_of (length u) 0 z)))
    ∙ c.parts.invariant.entries

pub returns-then-is_empty-clause-errors : goal.returns-then-is_empty-clause-errors
returns-then-is_empty-clause-errors g c =
    let u = c.skip_blank_block.new.self.rest.now in
    let z : (length u == 0) ≡ true = search rules in
    ap (λ (ps : List Piece). errors_with g.row.S.Denot c.parts.collected ps) (sym (nothing_left_at_runtime (length c.args.self.now.text.now) c.parts.self.rest.now u c.skip_blank_block.ensures.rest (test_of (length u) 0 z)))
    ∙ c.parts.invariant.errors

pub parts-smaller-then-is_current_byte : goal.parts-smaller-then-is_current_byte
parts-smaller-then-is_current_byte g c =
    let u = c.skip_blank_block.new.self.rest.now in
    let z : (length u == 0) ≡ false = search rules in
    omega (arith, comments_less u c.skip_comments.new.self.rest.now (test_some (length u) z) c.skip_comments.ensures.rest, c.skip_blank_block.ensures.advances.onward)

pub parts-preserved-then-is_current_byte : goal.parts-preserved-then-is_current_byte
parts-preserved-then-is_current_byte g c =
    let total = length c.args.self.now.text.now in
    let s = c.parts.self.rest.now in
    let u = c.skip_blank_block.new.self.rest.now in
    let rest = c.skip_comments.new.self.rest.now in
    let z : (length u == 0) ≡ false = search rules in
    let less : length rest < length u = comments_less u rest (test_some (length u) z) c.skip_comments.ensures.rest in
    let step : runtime_left total s ≡ runtime_left total rest =
    comments_passed total s u rest c.parts.invariant.within c.skip_blank_block.ensures.rest (test_some (length u) z) (sym c.is_current_byte.ensures ∙ c.if-is_current_byte.true) c.skip_comments.ensures.rest in
    record {
      closed = c.skip_comments.ensures.advances.stack ∙ c.skip_blank_block.ensures.advances.stack ∙ c.parts.invariant.closed;
      budget = c.skip_comments.ensures.advances.budget ∙ c.skip_blank_block.ensures.advances.budget ∙ c.parts.invariant.budget;
      text = c.skip_comments.ensures.advances.text ∙ c.skip_blank_block.ensures.advances.text ∙ c.parts.invariant.text;
      within = omega (arith, less, c.skip_blank_block.ensures.advances.onward, c.parts.invariant.within);
      entries = ap (λ (ps : List Piece). entries_with g.row.S.Denot g.T.Texts.text c.parts.collected ps) (sym step) ∙ c.parts.invariant.entries;
      errors = ap (λ (ps : List Piece). errors_with g.row.S.Denot c.parts.collected ps) (sym step) ∙ c.parts.invariant.errors;
    }

pub parts-preserved : goal.parts-preserved
parts-preserved g c =
    let total = length c.args.self.now.text.now in
    let s = c.parts.self.rest.now in
    let u = c.skip_blank_block.new.self.rest.now in
    let rest = c.get_part.new.self.rest.now in
    let z : (length u == 0) ≡ false = search rules in
    let less : length rest < length u = c.in_ok-get_part.ensures.less in
    let step : runtime_left total s ≡ piece_of (total - length u) false u (entry_at u) ∷ runtime_left total rest =
    piece_left_at_runtime total s u rest c.parts.invariant.within c.skip_blank_block.ensures.rest (test_some (length u) z) (sym c.is_current_byte.ensures ∙ c.if-is_current_byte.false) c.in_ok-get_part.ensures.rest less in
    let here : length c.skip_blank_block.new.self.text.now ≡ total = ap length (c.skip_blank_block.ensures.advances.text ∙ c.parts.invariant.text) in
    let old = c.parts.collected in
    let more = runtime_left total rest in
    let put : entries_with g.row.S.Denot g.T.Texts.text c.get_part.new.collected more ≡ entries_with g.row.S.Denot g.T.Texts.text old (piece_of (total - length u) false u (entry_at u) ∷ more) =
    c.in_ok-get_part.ensures.entries more ∙ ap (λ (n : ℕ). entries_with g.row.S.Denot g.T.Texts.text old (piece_of (n - length u) false u (entry_at u) ∷ more)) here in
    let told : errors_with g.row.S.Denot c.get_part.new.collected more ≡ errors_with g.row.S.Denot old (piece_of (total - length u) false u (entry_at u) ∷ more) =
    c.in_ok-get_part.ensures.errors more ∙ ap (λ (n : ℕ). errors_with g.row.S.Denot old (piece_of (n - length u) false u (entry_at u) ∷ more)) here in
    record {
      closed = c.get_part.ensures.closed;
      budget = c.get_part.ensures.budget ∙ c.skip_blank_block.ensures.advances.budget ∙ c.parts.invariant.budget;
      text = c.get_part.ensures.text ∙ c.skip_blank_block.ensures.advances.text ∙ c.parts.invariant.text;
      within = omega (arith, less, c.skip_blank_block.ensures.advances.onward, c.parts.invariant.within);
      entries = put ∙ ap (λ (ps : List Piece). entries_with g.row.S.Denot g.T.Texts.text old ps) (sym step) ∙ c.parts.invariant.entries;
      errors = told ∙ ap (λ (ps : List Piece). errors_with g.row.S.Denot old ps) (sym step) ∙ c.parts.invariant.errors;
    }

pub returns-in_err-get_part-clause-deep : goal.returns-in_err-get_part-clause-deep
returns-in_err-get_part-clause-deep g c =
    search (
      rules,
      halted_map c.in_err-get_part.field-0.0 (PastSomewhere c.skip_blank_block.new.self) (PastSomewhere c.args.self.now) c.in_err-get_part.ensures.deep
          (moved c.args.self.now c.skip_blank_block.new.self (c.skip_blank_block.ensures.advances.text ∙ c.parts.invariant.text) (c.skip_blank_block.ensures.advances.stack ∙ c.parts.invariant.closed ∙ sym c.requires.closed) (c.skip_blank_block.ensures.advances.budget ∙ c.parts.invariant.budget)),
    )
