-- What is read as an entry: a comment, or a message or a term without the comment above it.
use Rattle.std.proofs.Common.{◌≡◌, Bool, true, false, ◌||◌, List, [], ◌∷◌, Option, Some, None, refl, inl, inr}
use Rattle.std.specs.Prelude.{◌==◌, ◌⊎◌, if◌then◌else◌}
use Rattle.fluent_grammar.specs.Words.{Text, line_feed, hyphen, number_sign, begins, begins_with, is_letter}
use Rattle.fluent_grammar.specs.Refusal.{Reading, got, refused, ◌>>=◌}
use Rattle.fluent_grammar.specs.Tree as t
use Rattle.fluent_grammar.specs.Reading as g
use Rattle.fluent_grammar.specs.Reading.{entry_at}
use Rattle.fluent_grammar.proofs.Cases.{cases}
use Rattle.lint_entries.specs.Starts.{next_start}
use Rattle.lint_entries.specs.AttributePlaces.{uncommented}
use Rattle.lint_entries.proofs.Starts.{is_comment, comment-start}

abbrev pub is_kept : t.Entry → Bool
is_kept (t.message m) = true
is_kept (t.term m) = true
is_kept _ = false

abbrev KeptParts : Reading t.Entry → Type 0
KeptParts (got e rest) = (is_kept e ≡ true) × (uncommented e ≡ e)
KeptParts (refused fault) = Unit {0}

record Kept (x : Reading t.Entry) : Type 0 where
  pub parts : KeptParts x

kept-bind : {A : Type 0} (x : Reading A) (f : A × Text → Reading t.Entry) → ((a : A) (rest : Text) → Kept (f (a, rest))) → Kept (x >>= f)
kept-bind (got a rest) f q = q a rest
kept-bind (refused fault) f q = record { parts = tt }

message_of-kept : (id : Text) (value : Option t.Elements) (attributes : List t.Attribute) (s : Text) → Kept (g.message_of id value attributes s)
message_of-kept id None [] s = record { parts = tt }
message_of-kept id None (a ∷ more) s = record { parts = (refl, refl) }
message_of-kept id (Some v) attributes s = record { parts = (refl, refl) }

term_of-kept : (id : Text) (value : Option t.Elements) (attributes : List t.Attribute) (s : Text) → Kept (g.term_of id value attributes s)
term_of-kept id None attributes s = record { parts = tt }
term_of-kept id (Some v) attributes s = record { parts = (refl, refl) }

message-kept : (s : Text) → Kept (g.message_at s)
unfolding g.message_at
message-kept s = search (kept-bind, message_of-kept)

term-kept : (s : Text) → Kept (g.term_entry_at s)
unfolding g.term_entry_at
term-kept s = search (kept-bind, term_of-kept)

-- a message begins with a letter
message-letter : (s : Text) (e : t.Entry) (rest : Text) → g.message_at s ≡ got e rest → begins is_letter s ≡ true
unfolding g.message_at g.head_at g.identifier_at
message-letter [] e rest h = absurd cc
message-letter (c ∷ cs) e rest h = cases (is_letter c) (λ k. k) (λ k. absurd (let none = rw k at h in cc))

letter-starts : (s : Text) → begins is_letter s ≡ true → next_start true s ≡ s
letter-starts [] h = absurd cc
letter-starts (c ∷ cs) h = rw h refl

minus-starts : (s : Text) → begins_with hyphen s ≡ true → next_start true s ≡ s
minus-starts [] h = absurd cc
minus-starts (c ∷ cs) h = by (is_letter c)
  where
    by : (b : Bool) → (if b || c == hyphen then c ∷ cs else next_start (c == line_feed) cs) ≡ c ∷ cs
    by true = refl
    by false = rw h refl

-- a comment was passed over, or a message or a term stands here
pub record IsPassed (s : Text) (e : t.Entry) (rest : Text) : Type 0 where
  pub comment : is_comment e ≡ true
  pub start : next_start true s ≡ next_start true rest

pub record IsHere (s : Text) (e : t.Entry) : Type 0 where
  pub kept : is_kept e ≡ true
  pub plain : uncommented e ≡ e
  pub start : next_start true s ≡ s

pub entry_cases : (s : Text) (e : t.Entry) (rest : Text) → entry_at s ≡ got e rest → IsPassed s e rest ⊎ IsHere s e
unfolding entry_at
entry_cases s e rest h = cases (begins_with number_sign s)
    (λ k. let passed = comment-start s e rest k (rw k at h) in inl (record { comment = passed.0; start = passed.1 }))
    (λ k. cases (begins_with hyphen s)
    (λ m. let read : g.term_entry_at s ≡ got e rest = rw (k, m) at h in
    let parts = rw read at (term-kept s).parts in inr (record { kept = parts.0; plain = parts.1; start = minus-starts s m }))
    (λ m. let read : g.message_at s ≡ got e rest = rw (k, m) at h in
    let parts = rw read at (message-kept s).parts in inr (record { kept = parts.0; plain = parts.1; start = letter-starts s (message-letter s e rest read) })))
