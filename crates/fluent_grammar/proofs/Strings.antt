-- String literals and text pieces: reading gives what is spelled, and what is spelled is read.
use Rattle.std.proofs.Common.{◌≡◌, ℕ, true, false, ◌||◌, [], ◌∷◌, refl, ap, ◌∙◌, arith, inl, inr}
use Rattle.std.specs.Prelude.{◌==◌}
use Rattle.fluent_grammar.specs.Words.{Text, begins_with, begins_crlf, quote, line_feed, carriage_return, backslash, small_u, capital_u, open_brace, close_brace, hex_digits}
use Rattle.fluent_grammar.specs.Refusal.{got}
use Rattle.fluent_grammar.specs.Lexical.{SpellsString, closing_quote, plain_byte, escaped_backslash, escaped_quote, four_digits, six_digits, is_plain, SpellsText, to_line_feed, to_brace, to_crlf, to_end, text_byte, is_text_byte}
use Rattle.fluent_grammar.specs.Reading.{string_content, missing_hex, before, text_run}
use Rattle.fluent_grammar.proofs.Got.{mapped_got, got_node, which, either, same}

-- ---- strings

closed : (c : ℕ) (rest raw u : Text) → (c == quote) ≡ true → got [] rest ≡ got raw u → SpellsString raw (c ∷ rest) u
closed c rest raw u h e = let g = got_node e in rw (same c quote h, ← g.0, ← g.1) closing_quote

plainly : (c : ℕ) (s raw rest : Text) → (c == quote) ≡ false → (c == line_feed) ≡ false → (c == backslash) ≡ false →
    ((raw rest : Text) → string_content s ≡ got raw rest → SpellsString raw s rest) → before (c ∷ []) (string_content s) ≡ got raw rest → SpellsString raw (c ∷ s) rest
plainly c s raw rest no_quote no_feed no_backslash more e =
    let m = mapped_got _ _ _ _ e in
    let plain : is_plain c ≡ true = rw (no_quote, no_feed, no_backslash) refl in
    rw (← m.2) (plain_byte plain (more _ _ m.1))

no_hex_here : (s : Text) {raw rest : Text} {A : Type 0} → missing_hex s ≡ got raw rest → A
unfolding missing_hex
no_hex_here s e = absurd cc

-- a backslash and the byte after it
escaped : (c d : ℕ) (s raw rest : Text) → (c == backslash) ≡ true → (d == backslash || d == quote) ≡ true → SpellsString raw s rest → SpellsString (c ∷ d ∷ raw) (c ∷ d ∷ s) rest
escaped c d s raw rest h k more =
    rw (same c backslash h) (elim (either (d == backslash) (d == quote) k) [
      | inl x ↦ rw (same d backslash x) (escaped_backslash more)
      | inr x ↦ rw (same d quote x) (escaped_quote more)
    ])

four : (c d : ℕ) (s raw rest : Text) → (c == backslash) ≡ true → (d == small_u) ≡ true → hex_digits 4 s ≡ true → SpellsString raw s rest → SpellsString (c ∷ d ∷ raw) (c ∷ d ∷ s) rest
four c d s raw rest h k digits more = rw (same c backslash h, same d small_u k) (four_digits digits more)

six : (c d : ℕ) (s raw rest : Text) → (c == backslash) ≡ true → (d == capital_u) ≡ true → hex_digits 6 s ≡ true → SpellsString raw s rest → SpellsString (c ∷ d ∷ raw) (c ∷ d ∷ s) rest
six c d s raw rest h k digits more = rw (same c backslash h, same d capital_u k) (six_digits digits more)

behind-two : (c d : ℕ) (s raw rest : Text) → ((raw rest : Text) → string_content s ≡ got raw rest → SpellsString raw s rest) →
    ((raw : Text) → SpellsString raw s rest → SpellsString (c ∷ d ∷ raw) (c ∷ d ∷ s) rest) → before (c ∷ d ∷ []) (string_content s) ≡ got raw rest → SpellsString raw (c ∷ d ∷ s) rest
behind-two c d s raw rest more two e = let m = mapped_got _ _ _ _ e in rw (← m.2) (two m.0 (more _ _ m.1))

string-step : (c d : ℕ) (ds raw rest : Text) → ((raw rest : Text) → string_content ds ≡ got raw rest → SpellsString raw ds rest) →
    ((raw rest : Text) → string_content (d ∷ ds) ≡ got raw rest → SpellsString raw (d ∷ ds) rest) → string_content (c ∷ d ∷ ds) ≡ got raw rest → SpellsString raw (c ∷ d ∷ ds) rest
unfolding string_content
string-step c d ds raw rest behind next e =
    elim (which (c == quote) _ _ _ e) [
      | inl q ↦ closed c (d ∷ ds) raw rest q.0 q.1
      | inr q ↦ elim (which (c == line_feed) _ _ _ q.1) [
        | inl f ↦ absurd cc
        | inr f ↦ elim (which (c == backslash) _ _ _ f.1) [
          | inr b ↦ plainly c (d ∷ ds) raw rest q.0 f.0 b.0 next b.1
          | inl b ↦ elim (which (d == backslash || d == quote) _ _ _ b.1) [
            | inl x ↦ behind-two c d ds raw rest behind (λ y. escaped c d ds y rest b.0 x.0) x.1
            | inr x ↦ elim (which (d == small_u) _ _ _ x.1) [
              | inl y ↦ elim (which (hex_digits 4 ds) _ _ _ y.1) [
                | inl h ↦ behind-two c d ds raw rest behind (λ y2. four c d ds y2 rest b.0 y.0 h.0) h.1
                | inr h ↦ no_hex_here ds h.1
              ]
              | inr y ↦ elim (which (d == capital_u) _ _ _ y.1) [
                | inl z ↦ elim (which (hex_digits 6 ds) _ _ _ z.1) [
                  | inl h ↦ behind-two c d ds raw rest behind (λ y2. six c d ds y2 rest b.0 z.0 h.0) h.1
                  | inr h ↦ no_hex_here ds h.1
                ]
                | inr z ↦ absurd cc
              ]
            ]
          ]
        ]
      ]
    ]

one-sound : (c : ℕ) (raw rest : Text) → string_content (c ∷ []) ≡ got raw rest → SpellsString raw (c ∷ []) rest
unfolding string_content
one-sound c raw rest e =
    elim (which (c == quote) _ _ _ e) [
      | inl q ↦ closed c [] raw rest q.0 q.1
      | inr q ↦ elim (which (c == line_feed) _ _ _ q.1) [
        | inl f ↦ absurd cc
        | inr f ↦ elim (which (c == backslash) _ _ _ f.1) [ inl b ↦ absurd cc | inr b ↦ absurd cc ]
      ]
    ]

none-sound : (raw rest : Text) → string_content [] ≡ got raw rest → SpellsString raw [] rest
unfolding string_content
none-sound raw rest e = absurd cc

pub string_sound : (s raw rest : Text) → string_content s ≡ got raw rest → SpellsString raw s rest
string_sound [] raw rest e = none-sound raw rest e
string_sound (c ∷ []) raw rest e = one-sound c raw rest e
string_sound (c ∷ d ∷ ds) raw rest e = string-step c d ds raw rest (string_sound ds) (string_sound (d ∷ ds)) e

quote-closes : (rest : Text) → string_content (quote ∷ rest) ≡ got [] rest
unfolding string_content
quote-closes [] = refl
quote-closes (c ∷ cs) = refl

plain-tests : (c : ℕ) → is_plain c ≡ true → ((c == quote) ≡ false) × ((c == line_feed) ≡ false) × ((c == backslash) ≡ false)
plain-tests c h = (grind arith, grind arith, grind arith)

plain-goes_on : (c : ℕ) (s : Text) → is_plain c ≡ true → string_content (c ∷ s) ≡ before (c ∷ []) (string_content s)
unfolding string_content
plain-goes_on c [] h = let p = plain-tests c h in rw (p.0, p.1, p.2) refl
plain-goes_on c (d ∷ ds) h = let p = plain-tests c h in rw (p.0, p.1, p.2) refl

four-goes_on : (s : Text) → hex_digits 4 s ≡ true → string_content (backslash ∷ small_u ∷ s) ≡ before (backslash ∷ small_u ∷ []) (string_content s)
unfolding string_content
four-goes_on s h = rw h refl

six-goes_on : (s : Text) → hex_digits 6 s ≡ true → string_content (backslash ∷ capital_u ∷ s) ≡ before (backslash ∷ capital_u ∷ []) (string_content s)
unfolding string_content
six-goes_on s h = rw h refl

backslash-goes_on : (s : Text) → string_content (backslash ∷ backslash ∷ s) ≡ before (backslash ∷ backslash ∷ []) (string_content s)
unfolding string_content
backslash-goes_on s = refl

quote-goes_on : (s : Text) → string_content (backslash ∷ quote ∷ s) ≡ before (backslash ∷ quote ∷ []) (string_content s)
unfolding string_content
quote-goes_on s = refl

pub string_complete : {raw s rest : Text} → SpellsString raw s rest → string_content s ≡ got raw rest
string_complete (closing_quote {rest}) = quote-closes rest
string_complete (plain_byte {c} {raw} {s} {rest} p d) = plain-goes_on c s p ∙ ap (before (c ∷ [])) (string_complete d)
string_complete (escaped_backslash {raw} {s} {rest} d) = backslash-goes_on s ∙ ap (before (backslash ∷ backslash ∷ [])) (string_complete d)
string_complete (escaped_quote {raw} {s} {rest} d) = quote-goes_on s ∙ ap (before (backslash ∷ quote ∷ [])) (string_complete d)
string_complete (four_digits {raw} {s} {rest} h d) = four-goes_on s h ∙ ap (before (backslash ∷ small_u ∷ [])) (string_complete d)
string_complete (six_digits {raw} {s} {rest} h d) = six-goes_on s h ∙ ap (before (backslash ∷ capital_u ∷ [])) (string_complete d)

-- ---- text pieces

text-step : (c : ℕ) (cs piece rest : Text) → ((piece rest : Text) → text_run cs ≡ got piece rest → SpellsText piece cs rest) →
    text_run (c ∷ cs) ≡ got piece rest → SpellsText piece (c ∷ cs) rest
unfolding text_run
text-step c cs piece rest more e =
    elim (which (c == open_brace) _ _ _ e) [
      | inl b ↦ let g = got_node b.1 in rw (← g.0, ← g.1, same c open_brace b.0) to_brace
      | inr b ↦ elim (which (c == close_brace) _ _ _ b.1) [
        | inl x ↦ absurd cc
        | inr x ↦ elim (which (c == line_feed) _ _ _ x.1) [
          | inl f ↦ let g = got_node f.1 in rw (← g.0, ← g.1, same c line_feed f.0) to_line_feed
          | inr f ↦ elim (which (begins_crlf (c ∷ cs)) _ _ _ f.1) [
            | inl r ↦ let g = got_node r.1 in rw (← g.0, ← g.1) (to_crlf r.0)
            | inr r ↦ let m = mapped_got _ _ _ _ r.1 in
                let plain : is_text_byte c ≡ true = rw (b.0, x.0, f.0) refl in
                rw (← m.2) (text_byte plain r.0 (more _ _ m.1))
          ]
        ]
      ]
    ]

nothing-sound : (piece rest : Text) → text_run [] ≡ got piece rest → SpellsText piece [] rest
unfolding text_run
nothing-sound piece rest e = let g = got_node e in rw (← g.0, ← g.1) to_end

pub text_sound : (s piece rest : Text) → text_run s ≡ got piece rest → SpellsText piece s rest
text_sound [] piece rest e = nothing-sound piece rest e
text_sound (c ∷ cs) piece rest e = text-step c cs piece rest (text_sound cs) e

text-tests : (c : ℕ) → is_text_byte c ≡ true → ((c == open_brace) ≡ false) × ((c == close_brace) ≡ false) × ((c == line_feed) ≡ false)
text-tests c h = (grind arith, grind arith, grind arith)

crlf-stops : (s : Text) → begins_crlf s ≡ true → text_run s ≡ got [] s
unfolding text_run
crlf-stops [] h = refl
crlf-stops (c ∷ cs) h =
    let r : (c == carriage_return) ≡ true = grind arith in
    rw (same c carriage_return r) (let t : begins_with line_feed cs ≡ true = grind arith in rw t refl)

byte-goes_on : (c : ℕ) (s : Text) → is_text_byte c ≡ true → begins_crlf (c ∷ s) ≡ false → text_run (c ∷ s) ≡ before (c ∷ []) (text_run s)
unfolding text_run
byte-goes_on c s h k = let p = text-tests c h in rw (p.0, p.1, p.2, k) refl

line_feed-ends : (s : Text) → text_run (line_feed ∷ s) ≡ got (line_feed ∷ []) s
unfolding text_run
line_feed-ends s = refl

brace-stops : (s : Text) → text_run (open_brace ∷ s) ≡ got [] (open_brace ∷ s)
unfolding text_run
brace-stops s = refl

end-stops : text_run [] ≡ got [] []
unfolding text_run
end-stops = refl

pub text_complete : {piece s rest : Text} → SpellsText piece s rest → text_run s ≡ got piece rest
text_complete (to_line_feed {rest}) = line_feed-ends rest
text_complete (to_brace {rest}) = brace-stops rest
text_complete (to_crlf {rest} h) = crlf-stops rest h
text_complete to_end = end-stops
text_complete (text_byte {c} {piece} {s} {rest} h k d) = byte-goes_on c s h k ∙ ap (before (c ∷ [])) (text_complete d)
