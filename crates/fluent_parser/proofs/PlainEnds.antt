-- Where a pattern in plain lines ends, and where it goes on.
use Rattle.std.proofs.Common.{◌≡◌, ℕ, Bool, true, false, [], ◌∷◌, length, take, drop, refl, sym, ap, ◌∙◌, arith, subst, Option, Some, None}
use Rattle.std.specs.Prelude.{◌==◌, IfSome}
use Rattle.fluent_grammar.specs.Words.{Text}
use Rattle.fluent_grammar.specs.Refusal.{got}
use Rattle.fluent_grammar.specs.Lines.{indent_of, is_blank_text, pattern_ends}
use Rattle.fluent_tokens.specs.IndentedTexts.{IsPlainLine, IsTextOf, IsTextStart}
use Rattle.fluent_tokens.specs.Lookup.{is_last_feed}
use Rattle.fluent_tokens.specs.declared.plain.PlainLine.{PlainLine}
use Rattle.fluent_tokens.proofs.Scanned.{test_of}
use Rattle.fluent_parser.specs.PlainLines.{EndsPattern, IsNextText, said}
use Rattle.fluent_parser.specs.Steps.{kept_piece_by, piece_behind, text_from, text_piece, text_step}
use Rattle.fluent_parser.proofs.LinePieces.{kept_in_line, kept_feed, kept_end, kept_at_line}

at_end : (s : Text) → length s ≡ 0 → kept_piece_by false s ≡ got None s
at_end [] h = kept_in_line [] ∙ refl
at_end (c ∷ cs) h = absurd (omega (arith, h))

in_line_by : (s : Text) (b : Bool) → b ≡ (length s == 0) → EndsPattern b false s s
in_line_by s true h = at_end s (test_of (length s) 0 (sym h))
in_line_by s false h = tt

pub end_in_line : (line : Bool) (s : Text) (b : Bool) → line ≡ false → b ≡ (length s == 0) → EndsPattern b line s s
end_in_line line s b n h = subst (λ (z : Bool). EndsPattern b z s s) (sym n) (in_line_by s b h)

pub end_at_feed : (line : Bool) (s rest : Text) → line ≡ true → is_last_feed s ≡ true → rest ≡ drop 1 s → kept_piece_by line s ≡ got None rest
end_at_feed line s rest n f r = ap (λ (z : Bool). kept_piece_by z s) n ∙ kept_feed s f ∙ ap (got None) (sym r)

at_line_by : (s : Text) (b : Bool) → is_last_feed s ≡ false → b ≡ pattern_ends s → EndsPattern b true s s
at_line_by s true f h = kept_end s f (sym h)
at_line_by s false f h = tt

pub end_at_line : (line : Bool) (s rest : Text) (b : Bool) → line ≡ true → is_last_feed s ≡ false → b ≡ pattern_ends s → rest ≡ s → EndsPattern b line s rest
end_at_line line s rest b n f h r =
    subst (λ (z : Text). EndsPattern b line s z) (sym r) (subst (λ (z : Bool). EndsPattern b z s s) (sym n) (at_line_by s b f h))

-- the text with which it goes on
text_next : (line : Bool) (n : ℕ) (u : Text) → IsTextStart u → piece_behind line n u ≡ text_step line n u
text_next line n u b = rw (b.some, b.brace, b.crlf) refl

at_line_on : (s : Text) (line : PlainLine) → IsPlainLine s line → IsNextText true s line
at_line_on s line h = record {
  indent_is = h.indent_is;
  text = h.text;
  next = kept_at_line s h.feed h.pattern ∙ ap (λ (i : ℕ). piece_behind true i (drop i s)) (sym h.indent_is) ∙ text_next true line.indent (drop line.indent s) h.text.start;
}

pub on_at_line : (at_line_start : Bool) (s : Text) (found : Option PlainLine) → at_line_start ≡ true → IfSome found (IsPlainLine s) → IfSome found (IsNextText at_line_start s)
on_at_line at_line_start s None e h = h
on_at_line at_line_start s (Some line) e h = subst (λ (z : Bool). IsNextText z s line) (sym e) (at_line_on s line h)

pub in_line_on : (s : Text) (line : PlainLine) → line.indent ≡ 0 → IsTextOf line s → IsNextText false s line
in_line_on s line e h =
    let here : drop line.indent s ≡ s = ap (λ (n : ℕ). drop n s) e in
    record {
      indent_is = e;
      text = subst (IsTextOf line) (sym here) h;
      next = kept_in_line s ∙ text_next false 0 s h.start ∙ ap (λ (n : ℕ). text_from false n s) (sym e);
    }

-- what it says of the common indent
said_by : (z b : Bool) (s x : Text) (line : PlainLine) → is_blank_text x ≡ b → line.is_blank ≡ b → said z line ≡ indent_of (text_piece z line.indent x)
said_by true true s x line e h = rw (h, e) refl
said_by true false s x line e h = rw (h, e) refl
said_by false b s x line e h = refl

pub said_is : (at_line_start : Bool) (s : Text) (line : PlainLine) → IsTextOf line s → said at_line_start line ≡ indent_of (text_piece at_line_start line.indent (take line.count s))
said_is at_line_start s line h = said_by at_line_start (is_blank_text (take line.count s)) s (take line.count s) line refl h.blank
