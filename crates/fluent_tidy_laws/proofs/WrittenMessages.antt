-- What is written of a well-formed message or term spells it; where it has a comment, that is spelled before it.
use Rattle.std.proofs.Common.{◌≡◌, ℕ, Bool, true, false, cond, List, [], ◌∷◌, ◌++◌, Option, Some, None, refl, sym, ap, ◌∙◌, append_assoc}
use Rattle.std.specs.Prelude.{◌==◌}
use Rattle.fluent_grammar.specs.Words.{Text, line_feed, space, number_sign, hyphen, equals, begins, begins_with, begins_entry}
use Rattle.fluent_grammar.specs.Tree as t
use Rattle.fluent_grammar.specs.Spelling.{SpellsEntry}
use Rattle.fluent_grammar.specs.Written.{Sign, sign, ends_line, takes_indent, indent_before, laid_out, new_line, pattern_signs, value_signs, attributes_signs, own_comment_signs, message_signs, term_signs}
use Rattle.fluent_tidy_laws.specs.WellFormed.{IsName, WellFormedComment, WellFormedOwn, WellFormedEntry}
use Rattle.fluent_tidy_laws.proofs.MovingEntries.{Stops}
use Rattle.fluent_tidy_laws.proofs.WrittenEntries.{message-written}
use Rattle.fluent_tidy_laws.proofs.WrittenTerms.{term-written}
use Rattle.fluent_tidy_laws.proofs.Cutting.{letter-begins, letter-sign}

-- ---- names at the start of a line

chosen-none : (b : Bool) (s : Text) → s ≡ [] → cond b s [] ≡ []
chosen-none true s h = h
chosen-none false s h = refl

flat : (s : Text) → indent_before true 0 s ≡ []
flat s = chosen-none (takes_indent s) _ refl

-- a name at the start of a line
pub name-flat : (id : Text) (more : List Sign) → IsName id → laid_out true (sign 0 id ∷ more) ≡ laid_out false (sign 0 id ∷ more)
name-flat [] more n = absurd (let h : false ≡ true = n.letter_first in cc)
name-flat (c ∷ cs) more n = ap (λ z. z ++ ((c ∷ cs) ++ laid_out (ends_line (c == line_feed) cs) more)) (flat (c ∷ cs))

name-first : (p : ℕ → Bool) (id : Text) (more : List Sign) → IsName id → begins p (laid_out true (sign 0 id ∷ more)) ≡ begins p id
name-first p [] more n = absurd (let h : false ≡ true = n.letter_first in cc)
name-first p (c ∷ cs) more n = ap (begins p) (name-flat (c ∷ cs) more n)

-- ---- what is written of them, without their comments

abbrev pub bare_message_signs : t.Message → List Sign
bare_message_signs m = sign 0 m.id ∷ sign 0 (space ∷ equals ∷ []) ∷ (value_signs m.value ++ attributes_signs m.attributes)

abbrev pub bare_term_signs : t.Term → List Sign
bare_term_signs m = sign 0 (hyphen ∷ []) ∷ sign 0 m.id ∷ sign 0 (space ∷ equals ∷ []) ∷ (pattern_signs 1 m.value ++ attributes_signs m.attributes)

pub message-signs-are : (m : t.Message) (behind : List Sign) → message_signs m ++ behind ≡ own_comment_signs m.comment ++ (bare_message_signs m ++ new_line ∷ behind)
message-signs-are m behind =
    append_assoc (own_comment_signs m.comment) _ behind
    ∙ ap (λ z. own_comment_signs m.comment ++ (sign 0 m.id ∷ sign 0 (space ∷ equals ∷ []) ∷ z))
    (append_assoc (value_signs m.value) (attributes_signs m.attributes ++ new_line ∷ []) behind
    ∙ ap (λ z. value_signs m.value ++ z) (append_assoc (attributes_signs m.attributes) (new_line ∷ []) behind)
    ∙ sym (append_assoc (value_signs m.value) (attributes_signs m.attributes) (new_line ∷ behind)))

pub term-signs-are : (m : t.Term) (behind : List Sign) → term_signs m ++ behind ≡ own_comment_signs m.comment ++ (bare_term_signs m ++ new_line ∷ behind)
term-signs-are m behind =
    append_assoc (own_comment_signs m.comment) _ behind
    ∙ ap (λ z. own_comment_signs m.comment ++ (sign 0 (hyphen ∷ []) ∷ sign 0 m.id ∷ sign 0 (space ∷ equals ∷ []) ∷ z))
    (append_assoc (pattern_signs 1 m.value) (attributes_signs m.attributes ++ new_line ∷ []) behind
    ∙ ap (λ z. pattern_signs 1 m.value ++ z) (append_assoc (attributes_signs m.attributes) (new_line ∷ []) behind)
    ∙ sym (append_assoc (pattern_signs 1 m.value) (attributes_signs m.attributes) (new_line ∷ behind)))

pub own-well_formed : (c : Option (List Text)) (lines : List Text) → c ≡ Some lines → WellFormedOwn c → WellFormedComment lines
own-well_formed c lines e f = rw e at f

pub spelled-at : {e : t.Entry} {s u rest : Text} → s ≡ u → SpellsEntry e u rest → SpellsEntry e s rest
spelled-at h d = rw h d

-- ---- messages

name-of-message : (m : t.Message) (behind : List Sign) (p : ℕ → Bool) → IsName m.id → begins p (laid_out true (bare_message_signs m ++ new_line ∷ behind)) ≡ begins p m.id
name-of-message m behind p n = name-first p m.id (sign 0 (space ∷ equals ∷ []) ∷ ((value_signs m.value ++ attributes_signs m.attributes) ++ new_line ∷ behind)) n

pub message-first : (m : t.Message) (behind : List Sign) → IsName m.id → begins begins_entry (laid_out true (bare_message_signs m ++ new_line ∷ behind)) ≡ true
message-first m behind n = name-of-message m behind begins_entry n ∙ letter-begins m.id n.letter_first

pub message-no_sign : (m : t.Message) (behind : List Sign) → IsName m.id → begins_with number_sign (laid_out true (bare_message_signs m ++ new_line ∷ behind)) ≡ false
message-no_sign m behind n = name-of-message m behind (λ c. c == number_sign) n ∙ letter-sign m.id n.letter_first

pub message-start : (m : t.Message) (behind : List Sign) → IsName m.id → laid_out false (bare_message_signs m ++ new_line ∷ behind) ≡ laid_out true (bare_message_signs m ++ new_line ∷ behind)
message-start m behind n = sym (name-flat m.id (sign 0 (space ∷ equals ∷ []) ∷ ((value_signs m.value ++ attributes_signs m.attributes) ++ new_line ∷ behind)) n)

pub bare-message-written : (m : t.Message) (behind : List Sign) → WellFormedEntry (t.message m) → Stops (laid_out true behind) →
    SpellsEntry (t.message (record m { comment = None })) (laid_out true (bare_message_signs m ++ new_line ∷ behind)) (laid_out true behind)
bare-message-written m behind f s =
    spelled-at
    (sym (message-start m behind f.0) ∙ ap (λ z. laid_out false (sign 0 m.id ∷ sign 0 (space ∷ equals ∷ []) ∷ z)) (append_assoc (value_signs m.value) (attributes_signs m.attributes) (new_line ∷ behind)))
    (message-written m.id m.value m.attributes behind f.0 f.1 f.2 s)

-- ---- terms

pub bare-term-written : (m : t.Term) (behind : List Sign) → WellFormedEntry (t.term m) → Stops (laid_out true behind) →
    SpellsEntry (t.term (record m { comment = None })) (laid_out true (bare_term_signs m ++ new_line ∷ behind)) (laid_out true behind)
bare-term-written m behind f s =
    spelled-at
    (ap (λ z. hyphen ∷ laid_out false (sign 0 m.id ∷ sign 0 (space ∷ equals ∷ []) ∷ z)) (append_assoc (pattern_signs 1 m.value) (attributes_signs m.attributes) (new_line ∷ behind)))
    (term-written m.id m.value m.attributes behind f.0 f.1 f.2 s)
