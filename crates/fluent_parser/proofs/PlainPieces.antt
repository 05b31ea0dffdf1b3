-- The pieces of a pattern in plain lines.
use Rattle.std.proofs.Common.{◌≡◌, ℕ, zero, suc, ◌+◌, ◌-◌, ◌≤◌, Bool, true, false, List, [], ◌∷◌, ◌++◌, take, drop, map, min, refl, sym, ap, ◌∙◌, arith, subst, Option, Some, None}
use Rattle.std.specs.Prelude.{◌==◌, Ok}
use Rattle.std.proofs.lemmas.List.{drop-drop, map-append}
use Rattle.fluent_grammar.specs.Words.{Text, space, spaces, after_line_end}
use Rattle.fluent_grammar.specs.Refusal.{got, mapped}
use Rattle.fluent_grammar.specs.Lines as l
use Rattle.fluent_grammar.specs.Lines.{Piece, dedented}
use Rattle.fluent_grammar.specs.Reading as g
use Rattle.fluent_grammar.specs.Tree as t
use Rattle.fluent_tokens.specs.Counted.{Cuts}
use Rattle.fluent_tokens.proofs.Counted.{cut_none}
use Rattle.fluent_ast.specs.declared.Pattern.{Pattern}
use Rattle.fluent_ast.specs.View.{text, element_view}
use Rattle.fluent_parsed.specs.declared.dedented.DedentedElements.{DedentedElements}
use Rattle.fluent_parsed.specs.Elements.{dedented_value, plain_elements}
use Rattle.fluent_parsed.specs.Pieces.{undented, dedented_piece}
use Rattle.fluent_parsed.proofs.Dedenting.{cut_among_spaces}
use Rattle.fluent_parsed.proofs.Gathering.{common_more, dedented_pieces}
use Rattle.fluent_parser.specs.PlainLines.{PutsPiece, PutsPlain, GivesPlain}
use Rattle.fluent_parser.specs.Reads.{whole}
use Rattle.fluent_parser.specs.Steps.{pattern_behind, pieces_by, kept_piece_by, text_piece, indent_at, first_place}
use Rattle.fluent_parser.proofs.Cycle.{pieces_start, piece_read}
use Rattle.fluent_parser.proofs.LastFeeds.{kept_some, kept_end}
use Rattle.fluent_parser.proofs.Runs.{cut_behind_indent, undented_text}

-- ---- a text, cut

spaces_case : (b : Bool) (c : ℕ) (cs : Text) (k : ℕ) → (c == space) ≡ b → suc k ≤ spaces (c ∷ cs) → (k ≤ spaces cs → spaces cs - k ≡ spaces (drop k cs)) → spaces (c ∷ cs) - suc k ≡ spaces (drop k cs)
spaces_case true c cs k e h more =
    let n : spaces (c ∷ cs) ≡ 1 + spaces cs = rw e refl in
    let m : spaces (c ∷ cs) - suc k ≡ spaces cs - k = omega (arith, n) in
    m ∙ more (omega (arith, n, h))
spaces_case false c cs k e h more =
    let n : spaces (c ∷ cs) ≡ 0 = rw e refl in
    absurd (omega (arith, n, h))

spaces_left : (s : Text) (k : ℕ) → k ≤ spaces s → spaces s - k ≡ spaces (drop k s)
spaces_left s zero h = omega arith
spaces_left [] (suc k) h = omega arith
spaces_left (c ∷ cs) (suc k) h = spaces_case (c == space) c cs k refl h (spaces_left cs k)

pub indent_left : (line : Bool) (s : Text) (n k : ℕ) → n ≡ indent_at line s → k ≤ n → n - k ≡ indent_at line (drop k s)
indent_left true s n k e h = ap (λ (m : ℕ). m - k) e ∙ spaces_left s k (omega (arith, e, h))
indent_left false s n k e h = omega (arith, e)

pub cut_in_indent : (line : Bool) (s : Text) (n k : ℕ) → n ≡ indent_at line s → k ≤ n → Cuts s k
cut_in_indent true s n k e h = cut_among_spaces s k (omega (arith, e, h))
cut_in_indent false s n k e h = cut_none s k (omega (arith, e, h))

behind_cut : (s : Text) (n k : ℕ) → k ≤ n → drop (n - k) (drop k s) ≡ drop n s
behind_cut s n k h = let e : k + (n - k) ≡ n = omega (arith, h) in drop-drop (n - k) k s ∙ ap (λ (i : ℕ). drop i s) e

pub cut_behind_cut : (line : Bool) (s : Text) (n k m : ℕ) → n ≡ indent_at line s → k ≤ n → Cuts (drop n s) m → Cuts (drop k s) (n - k + m)
cut_behind_cut line s n k m e h c = cut_behind_indent line (drop k s) (drop n s) (n - k) m (indent_left line s n k e h) (sym (behind_cut s n k h)) c

pub rest_behind_cut : (s : Text) (n k m : ℕ) → k ≤ n → drop (n - k + m) (drop k s) ≡ drop (n + m) s
rest_behind_cut s n k m h = let e : k + (n - k + m) ≡ n + m = omega (arith, h) in drop-drop (n - k + m) k s ∙ ap (λ (i : ℕ). drop i s) e

dedented_by : (line : Bool) (n told : ℕ) (x : Text) → undented (text_piece line (n - min n told) x) ≡ dedented_piece (Some told) (text_piece line n x)
dedented_by true n told x = let e : n - min n told ≡ n - told = omega arith in rw e refl
dedented_by false n told x = refl

pub dedented_text : (s x : Text) (line : Bool) (n k m told : ℕ) → n ≡ indent_at line s → k ≡ min n told → x ≡ take (n - k + m) (drop k s) → text x ≡ dedented_piece (Some told) (text_piece line n (take m (drop n s)))
dedented_text s x line n k m told e f h =
    let within : k ≤ n = omega (arith, f) in
    undented_text (drop k s) x line (n - k) m (indent_left line s n k e within) h
    ∙ ap (λ (u : Text). undented (text_piece line (n - k) (take m u))) (behind_cut s n k within)
    ∙ ap (λ (i : ℕ). undented (text_piece line (n - i) (take m (drop n s)))) f
    ∙ dedented_by line n told (take m (drop n s))

-- ---- pieces, one after the other

module _ (S : Type 0) (text_of : S → List ℕ) where
  -- What was put of the pattern that begins with u are some pieces, and what is left of it are the pieces read from here on.
  pub record GathersPlain (dedented : DedentedElements S) (line : Bool) (rest u : Text) : Type 0 where
    pub pieces : List Piece
    pub elements : map (element_view S text_of) dedented.elements.items ≡ map (dedented_piece (Some dedented.told)) pieces
    pub common : dedented.common_indent ≡ l.common_indent pieces
    pub same : mapped (λ more. pieces ++ more) (pieces_by line rest) ≡ g.first_pieces_at whole u (after_line_end u)

  pub plain_none : (dedented : DedentedElements S) (line : Bool) (rest u : Text) → dedented.elements.items ≡ [] → dedented.common_indent ≡ None →
      (line, rest) ≡ first_place u (after_line_end u) → GathersPlain dedented line rest u
  plain_none dedented line rest u e c p = record {
    pieces = [];
    elements = ap (map (element_view S text_of)) e;
    common = c;
    same = pieces_start (λ (q : Piece). q) [] line u rest (after_line_end u) refl p;
  }

  pub plain_more : (old new : DedentedElements S) (line next : Bool) (s rest u : Text) → GathersPlain old line s u → PutsPiece S text_of line s rest old new next → GathersPlain new next rest u
  plain_more old new line next s rest u h r =
      let p = r.piece in
      record {
        pieces = h.pieces ++ p ∷ [];
        elements = r.elements ∙ ap (λ z. z ++ dedented_piece (Some old.told) p ∷ []) h.elements ∙ sym (map-append (dedented_piece (Some old.told)) h.pieces (p ∷ []))
            ∙ ap (λ (n : ℕ). map (dedented_piece (Some n)) (h.pieces ++ p ∷ [])) (sym r.told);
        common = r.common_indent ∙ ap (λ z. l.lesser z (l.indent_of p)) h.common ∙ sym (common_more h.pieces p);
        same = piece_read h.pieces line next s rest p (g.first_pieces_at whole u (after_line_end u)) h.same (kept_some line s rest (p, next) r.read_is);
      }

  plain_all : (dedented : DedentedElements S) (line : Bool) (s rest u : Text) → GathersPlain dedented line s u → dedented.common_indent ≡ Some dedented.told → kept_piece_by line s ≡ got None rest →
      pattern_behind u ≡ got (dedented_value (plain_elements S text_of dedented.elements.items)) rest
  plain_all dedented line s rest u h e k =
      kept_end s u rest line h.pieces h.same k
      ∙ ap (λ z. got z rest) (sym (ap dedented_value (h.elements ∙ ap (λ (o : Option ℕ). map (dedented_piece o) h.pieces) (sym e ∙ h.common)) ∙ dedented_pieces h.pieces))

  -- what reading a plain line said
  pub piece_put : (old new : DedentedElements S) (line : Bool) (s rest : Text) (found : Option Bool) (ends : Bool) → found ≡ Some ends → PutsPlain S text_of line s rest old new found → PutsPiece S text_of line s rest old new ends
  piece_put old new line s rest found ends e h = subst (λ o. PutsPlain S text_of line s rest old new o) e h

  no_piece : (old new : DedentedElements S) (line : Bool) (s rest : Text) (found : Option Bool) → found ≡ None → PutsPlain S text_of line s rest old new found → (rest ≡ s) × (new ≡ old)
  no_piece old new line s rest found e h = subst (λ o. PutsPlain S text_of line s rest old new o) e h

  pub plain_end : (old new : DedentedElements S) (line : Bool) (s at rest u : Text) (found : Option Bool) (value : t.Elements) → GathersPlain old line s u → found ≡ None → PutsPlain S text_of line s at old new found →
      new.common_indent ≡ Some new.told → kept_piece_by line at ≡ got None rest → Some value ≡ dedented_value (plain_elements S text_of new.elements.items) → pattern_behind u ≡ got (Some value) rest
  plain_end old new line s at rest u found value h e p i k v =
      let end = no_piece old new line s at found e p in
      plain_all new line at rest u (subst (λ (z : Text). GathersPlain new line z u) (sym end.0) (subst (λ z. GathersPlain z line s u) (sym end.1) h)) i k
      ∙ ap (λ z. got z rest) (sym v)

  pub nothing_read : (s rest : Text) (found : Option (Pattern S)) → found ≡ None → GivesPlain S text_of s rest (Ok found) → rest ≡ s
  nothing_read s rest found e h = subst (λ o. GivesPlain S text_of s rest (Ok o)) e h
