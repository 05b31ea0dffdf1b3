-- Entries: reading gives what is spelled, and what is spelled is read.
use Rattle.std.proofs.Common.{◌≡◌, ℕ, zero, suc, ◌≤◌, true, false, List, [], ◌∷◌, length, None, refl, arith, inl, inr}
use Rattle.std.specs.Prelude.{◌⊎◌, ◌≢◌}
use Rattle.std.proofs.lemmas.Bool.Decides.{nat_tests}
use Rattle.fluent_grammar.specs.Words.{Text, begins, begins_with, is_letter, hyphen, number_sign, skip_blank_block}
use Rattle.fluent_grammar.specs.Refusal.{got}
use Rattle.fluent_grammar.specs.Tree as t
use Rattle.fluent_grammar.specs.Lines.{value_of}
use Rattle.fluent_grammar.specs.Spelling.{SpellsHead, a_head, SpellsAttributes, SpellsComment, SpellsEntry, a_message, a_term, a_comment, a_group_comment, a_resource_comment}
use Rattle.fluent_grammar.specs.Reading.{attributes_at, message_of, term_of, message_at, term_entry_at, comment_of, comment_at, entry_at}
use Rattle.fluent_grammar.proofs.Got.{bind_got, got_node, which, begins_is}
use Rattle.fluent_grammar.proofs.Attributes.{head_sound, head_complete, attributes_sound, attributes_complete}
use Rattle.fluent_grammar.proofs.Comments.{comment_sound, comment_complete, level-up_to_three}

-- ---- messages

message_of_sound : (id : Text) (value : t.Elements) (attributes : List t.Attribute) (s : Text) (e : t.Entry) (rest : Text) → message_of id (value_of value) attributes s ≡ got e rest →
    ((value ≢ t.no_elements) ⊎ (attributes ≢ [])) × (t.message (record { id = id; value = value_of value; attributes = attributes; comment = None }) ≡ e) × (s ≡ rest)
message_of_sound id t.no_elements [] s e rest h = absurd cc
message_of_sound id t.no_elements (a ∷ more) s e rest h = let g = got_node h in (inr (λ k. cc), g.0, g.1)
message_of_sound id (t.text x es) attributes s e rest h = let g = got_node h in (inl (λ k. cc), g.0, g.1)
message_of_sound id (t.placeable x es) attributes s e rest h = let g = got_node h in (inl (λ k. cc), g.0, g.1)

message_of_complete : (id : Text) (value : t.Elements) (attributes : List t.Attribute) (s : Text) → (value ≢ t.no_elements) ⊎ (attributes ≢ []) →
    message_of id (value_of value) attributes s ≡ got (t.message (record { id = id; value = value_of value; attributes = attributes; comment = None })) s
message_of_complete id t.no_elements [] s h = elim h [ inl k ↦ absurd (k refl) | inr k ↦ absurd (k refl) ]
message_of_complete id t.no_elements (a ∷ more) s h = refl
message_of_complete id (t.text x es) attributes s h = refl
message_of_complete id (t.placeable x es) attributes s h = refl

message_sound : (s : Text) (e : t.Entry) (rest : Text) → message_at s ≡ got e rest → SpellsEntry e s rest
unfolding message_at
message_sound s e rest h =
    let head = bind_got _ _ _ _ h in
    let u : Text = skip_blank_block head.1 in
    let m = message_of_sound head.0.0 head.0.1 (attributes_at (length u) u).0 (attributes_at (length u) u).1 e rest head.3 in
    let attributes : SpellsAttributes (attributes_at (length u) u).0 u rest = rw m.2 at (attributes_sound (length u) u (omega arith)) in
    rw (← m.1) (a_message (head_sound s head.0 head.1 head.2) attributes m.0)

message_complete : (id : Text) (value : t.Elements) (s u : Text) (attributes : List t.Attribute) (rest : Text) → SpellsHead id value s u →
    SpellsAttributes attributes (skip_blank_block u) rest → (value ≢ t.no_elements) ⊎ (attributes ≢ []) →
    message_at s ≡ got (t.message (record { id = id; value = value_of value; attributes = attributes; comment = None })) rest
unfolding message_at
message_complete id value s u attributes rest h a c =
    rw (head_complete h, attributes_complete a (length (skip_blank_block u)) (omega arith)) (message_of_complete id value attributes rest c)

-- ---- terms

term_of_sound : (id : Text) (value : t.Elements) (attributes : List t.Attribute) (s : Text) (e : t.Entry) (rest : Text) → term_of id (value_of value) attributes s ≡ got e rest →
    (value ≢ t.no_elements) × (t.term (record { id = id; value = value; attributes = attributes; comment = None }) ≡ e) × (s ≡ rest)
term_of_sound id t.no_elements attributes s e rest h = absurd cc
term_of_sound id (t.text x es) attributes s e rest h = let g = got_node h in ((λ k. cc), g.0, g.1)
term_of_sound id (t.placeable x es) attributes s e rest h = let g = got_node h in ((λ k. cc), g.0, g.1)

term_of_complete : (id : Text) (value : t.Elements) (attributes : List t.Attribute) (s : Text) → value ≢ t.no_elements →
    term_of id (value_of value) attributes s ≡ got (t.term (record { id = id; value = value; attributes = attributes; comment = None })) s
term_of_complete id t.no_elements attributes s h = absurd (h refl)
term_of_complete id (t.text x es) attributes s h = refl
term_of_complete id (t.placeable x es) attributes s h = refl

term_sound : (s : Text) (e : t.Entry) (rest : Text) → begins_with hyphen s ≡ true → term_entry_at s ≡ got e rest → SpellsEntry e s rest
unfolding term_entry_at
term_sound s e rest b h =
    let head = bind_got _ _ _ _ h in
    let u : Text = skip_blank_block head.1 in
    let m = term_of_sound head.0.0 head.0.1 (attributes_at (length u) u).0 (attributes_at (length u) u).1 e rest head.3 in
    let attributes : SpellsAttributes (attributes_at (length u) u).0 u rest = rw m.2 at (attributes_sound (length u) u (omega arith)) in
    rw (← m.1) (a_term (begins_is hyphen s b) (head_sound _ head.0 head.1 head.2) attributes m.0)

term_complete : (id : Text) (value : t.Elements) (u v : Text) (attributes : List t.Attribute) (rest : Text) → SpellsHead id value u v →
    SpellsAttributes attributes (skip_blank_block v) rest → value ≢ t.no_elements →
    term_entry_at (hyphen ∷ u) ≡ got (t.term (record { id = id; value = value; attributes = attributes; comment = None })) rest
unfolding term_entry_at
term_complete id value u v attributes rest h a c =
    rw (head_complete h, attributes_complete a (length (skip_blank_block v)) (omega arith)) (term_of_complete id value attributes rest c)

-- ---- entries

comment-of_level : (k : ℕ) (lines : List Text) (s rest : Text) → suc k ≤ 3 → SpellsComment (suc k) lines s rest → SpellsEntry (comment_of (suc k) lines) s rest
comment-of_level zero lines s rest le d = a_comment d
comment-of_level (suc zero) lines s rest le d = a_group_comment d
comment-of_level (suc (suc zero)) lines s rest le d = a_resource_comment d
comment-of_level (suc (suc (suc k))) lines s rest le d = absurd (omega arith)

comment_entry_sound : (s : Text) (e : t.Entry) (rest : Text) → begins_with number_sign s ≡ true → comment_at s ≡ got e rest → SpellsEntry e s rest
comment_entry_sound s e rest b h =
    let level = level-up_to_three s b in
    let c = comment_sound s level.0 e rest level.1 h in
    rw (← c.2) (comment-of_level level.0 c.0 s rest level.2 c.1)

pub entry_sound : (s : Text) (e : t.Entry) (rest : Text) → entry_at s ≡ got e rest → SpellsEntry e s rest
unfolding entry_at
entry_sound s e rest h =
    elim (which (begins_with number_sign s) _ _ _ h) [
      | inl p ↦ comment_entry_sound s e rest p.0 p.1
      | inr p ↦ elim (which (begins_with hyphen s) _ _ _ p.1) [
        | inl q ↦ term_sound s e rest q.0 q.1
        | inr q ↦ message_sound s e rest q.1
      ]
    ]

letter-no_sign : (s : Text) → begins is_letter s ≡ true → (begins_with number_sign s ≡ false) × (begins_with hyphen s ≡ false)
letter-no_sign [] h = absurd cc
letter-no_sign (c ∷ cs) h = (grind (arith, nat_tests), grind (arith, nat_tests))

pub head-letter : {id : Text} {value : t.Elements} {s rest : Text} → SpellsHead id value s rest → begins is_letter s ≡ true
head-letter (a_head n e p) = n.letter_first

as_message : (s : Text) (e : t.Entry) (rest : Text) → begins is_letter s ≡ true → message_at s ≡ got e rest → entry_at s ≡ got e rest
unfolding entry_at
as_message s e rest b h = let no = letter-no_sign s b in rw (no.0, no.1) h

as_term : (u : Text) (e : t.Entry) (rest : Text) → term_entry_at (hyphen ∷ u) ≡ got e rest → entry_at (hyphen ∷ u) ≡ got e rest
unfolding entry_at
as_term u e rest h = h

as_comment : (s : Text) (e : t.Entry) (rest : Text) → (begins_with number_sign s ≡ true) × (comment_at s ≡ got e rest) → entry_at s ≡ got e rest
unfolding entry_at
as_comment s e rest h = rw h.0 h.1

pub entry_complete : {e : t.Entry} {s rest : Text} → SpellsEntry e s rest → entry_at s ≡ got e rest
entry_complete (a_message {id} {s} {u} {rest} {value} {attributes} h a c) = as_message s _ rest (head-letter h) (message_complete id value s u attributes rest h a c)
entry_complete (a_term {id} {s} {u} {v} {rest} {value} {attributes} b h a c) = rw b (as_term u _ rest (term_complete id value u v attributes rest h a c))
entry_complete (a_comment {s} {rest} {lines} d) = as_comment s _ rest (comment_complete d 0 refl)
entry_complete (a_group_comment {s} {rest} {lines} d) = as_comment s _ rest (comment_complete d 1 refl)
entry_complete (a_resource_comment {s} {rest} {lines} d) = as_comment s _ rest (comment_complete d 2 refl)

-- ---- which entry it is

pub entry-of_letter : (s : Text) → begins is_letter s ≡ true → entry_at s ≡ message_at s
unfolding entry_at
entry-of_letter s b = let no = letter-no_sign s b in rw (no.0, no.1) refl

hyphen-no_sign : (s : Text) → begins_with hyphen s ≡ true → begins_with number_sign s ≡ false
hyphen-no_sign [] h = refl
hyphen-no_sign (c ∷ cs) h = grind (arith, nat_tests)

pub entry-of_hyphen : (s : Text) → begins_with hyphen s ≡ true → entry_at s ≡ term_entry_at s
unfolding entry_at
entry-of_hyphen s b = rw (hyphen-no_sign s b, b) refl

pub entry-of_sign : (s : Text) → begins_with number_sign s ≡ true → entry_at s ≡ comment_at s
unfolding entry_at
entry-of_sign s b = rw b refl
