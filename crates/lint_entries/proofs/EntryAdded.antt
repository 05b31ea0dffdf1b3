-- The findings of a value and of attributes make up those of an entry.
use Rattle.std.proofs.Common.{◌≡◌, ◌∙◌, List, [], ◌++◌, length, Option, Some, None, refl, sym, ap, subst, drop}
use denote.Ref.{Bor}
use Rattle.fluent_grammar.specs.Words.{Text, skip_blank_block}
use Rattle.fluent_grammar.specs.Refusal.{got}
use Rattle.fluent_grammar.specs.Tree as t
use Rattle.lint_findings.specs.Finding.{Finding}
use Rattle.lint_findings.specs.Occurrences.{after_equals, pattern_read}
use Rattle.lint_entries.specs.CatalogView.{ids_in, reference_in}
use Rattle.lint_entries.specs.AttributePlaces.{AreAttributesAt, LeavesRest, read_rest, value_elements}
use Rattle.lint_entries.specs.AttributesFound.{attributes_found}
use Rattle.lint_entries.specs.EntryParts.{LeaveRest, Parts, maybe_value_at, parts_found, value_at}
use Rattle.lint_entries.specs.FoundAt.{value_found}
use Rattle.lint_entries.specs.declared.catalog.Catalog.{Catalog}
use Rattle.lint_entries.specs.declared.finding.EntryPoint.{EntryPoint}
use Rattle.lint_entries.proofs.BodiesAreRead.{message_parts, term_parts}
use Rattle.lint_entries.proofs.SameRests.{same_rest, attributes_after}

-- the place of an entry
abbrev pub place_of_entry : Bor Text → Bor Text → Bor Text → Bor Text → EntryPoint
place_of_entry source at sign id = record { source = source; at = at; label = record { sign = sign; id = id; attribute = None } }

module _ (catalog : Catalog) (source at sign id : Bor Text) where
  abbrev here : EntryPoint
  here = place_of_entry source at sign id

  -- the place of the attributes after a value that leaves this
  after_value : (value : t.Elements) (name u w : Text) → pattern_read (after_equals name) ≡ got value u → w ≡ skip_blank_block u →
      w ≡ skip_blank_block (read_rest (pattern_read (after_equals name)))
  after_value value name u w read there = there ∙ ap (λ r. skip_blank_block (read_rest r)) (sym read)

  value_same : (value : Option t.Elements) (v name : Text) → v ≡ after_equals name →
      value_found catalog here v value ≡ maybe_value_at (ids_in catalog) (reference_in catalog) catalog.plurals source.now (sign.now ++ id.now) at.now (after_equals name) value
  value_same None v name same = refl
  value_same (Some es) v name same = ap (λ p. value_at (ids_in catalog) (reference_in catalog) catalog.plurals source.now (sign.now ++ id.now) at.now p es) same

  -- what is added to no findings: those of a value, and then those of attributes after it
  pub parts_added : (value : Option t.Elements) (attributes : List t.Attribute) (u v w : Text) (x y z : List Finding) →
      v ≡ after_equals (drop (length sign.now) at.now) → pattern_read v ≡ got (value_elements value) u → w ≡ skip_blank_block u →
      x ≡ [] → y ≡ x ++ value_found catalog here v value → z ≡ y ++ attributes_found catalog here [] attributes w →
      z ≡ parts_found (ids_in catalog) (reference_in catalog) catalog.plurals source.now (record { sign = sign.now; id = id.now; value = value; attributes = attributes }) at.now
  parts_added value attributes u v w x y z there read after none first later =
      let name = drop (length sign.now) at.now in
      let read_there : pattern_read (after_equals name) ≡ got (value_elements value) u = sym (ap pattern_read there) ∙ read in
      later ∙ ap (λ l. l ++ attributes_found catalog here [] attributes w) (first ∙ ap (λ l. l ++ value_found catalog here v value) none ∙ value_same value v name there)
      ∙ ap (λ p. maybe_value_at (ids_in catalog) (reference_in catalog) catalog.plurals source.now (sign.now ++ id.now) at.now (after_equals name) value ++ attributes_found catalog here [] attributes p)
      (after_value (value_elements value) name u w read_there after)

-- where the value of an entry is, and its attributes after it
pub value_there : (p : Parts) (s rest v : Text) → LeaveRest p s rest → v ≡ after_equals (drop (length p.sign) s) → (u : Text) × (pattern_read v ≡ got (value_elements p.value) u)
value_there p s rest v read there = (read.0, ap pattern_read there ∙ read.1)

pub attributes_there : (p : Parts) (s rest u v w : Text) → LeaveRest p s rest → v ≡ after_equals (drop (length p.sign) s) → pattern_read v ≡ got (value_elements p.value) u → w ≡ skip_blank_block u →
    (r : Text) × AreAttributesAt p.attributes w r
attributes_there p s rest u v w read there value after =
    let body = attributes_after (value_elements p.value) p.attributes (drop (length p.sign) s) rest u read (sym (ap pattern_read there) ∙ value) in
    (rest, subst (λ x. AreAttributesAt p.attributes x rest) (sym after) body)

-- What a message's attributes leave, after a value that left this, is what the message leaves.
pub message_leaves : (m : t.Message) (attributes : List t.Attribute) (s rest u v w r : Text) → attributes ≡ m.attributes → LeavesRest (t.message m) s rest → v ≡ after_equals s → pattern_read v ≡ got (value_elements m.value) u → w ≡ skip_blank_block u →
    AreAttributesAt attributes w r → LeavesRest (t.message m) s r
message_leaves m attributes s rest u v w r same leaves value read there left =
    let body = (message_parts m s rest leaves).0 in
    let after = attributes_after (value_elements m.value) m.attributes s rest u body (sym (ap pattern_read value) ∙ read) in
    subst (LeavesRest (t.message m) s) (same_rest m.attributes (skip_blank_block u) rest r after (subst (λ x. AreAttributesAt m.attributes x r) there (subst (λ l. AreAttributesAt l w r) same left))) leaves

pub term_leaves : (m : t.Term) (attributes : List t.Attribute) (s rest u v w r : Text) → attributes ≡ m.attributes → LeavesRest (t.term m) s rest → v ≡ after_equals (drop 1 s) → pattern_read v ≡ got m.value u → w ≡ skip_blank_block u →
    AreAttributesAt attributes w r → LeavesRest (t.term m) s r
term_leaves m attributes s rest u v w r same leaves value read there left =
    let body = (term_parts m s rest leaves).0 in
    let after = attributes_after m.value m.attributes (drop 1 s) rest u body (sym (ap pattern_read value) ∙ read) in
    subst (LeavesRest (t.term m) s) (same_rest m.attributes (skip_blank_block u) rest r after (subst (λ x. AreAttributesAt m.attributes x r) there (subst (λ l. AreAttributesAt l w r) same left))) leaves

-- where the value of a message or a term is, and its attributes after it
pub message_value : (m : t.Message) (s rest v : Text) → LeavesRest (t.message m) s rest → v ≡ after_equals s → (u : Text) × (pattern_read v ≡ got (value_elements m.value) u)
message_value m s rest v leaves value = let body = (message_parts m s rest leaves).0 in (body.0, ap pattern_read value ∙ body.1)

pub term_value : (m : t.Term) (s rest v : Text) → LeavesRest (t.term m) s rest → v ≡ after_equals (drop 1 s) → (u : Text) × (pattern_read v ≡ got m.value u)
term_value m s rest v leaves value = let body = (term_parts m s rest leaves).0 in (body.0, ap pattern_read value ∙ body.1)

pub message_attributes : (m : t.Message) (attributes : List t.Attribute) (s rest u v w : Text) → attributes ≡ m.attributes → LeavesRest (t.message m) s rest → v ≡ after_equals s → pattern_read v ≡ got (value_elements m.value) u → w ≡ skip_blank_block u →
    (r : Text) × AreAttributesAt attributes w r
message_attributes m attributes s rest u v w same leaves value read there =
    let after = attributes_after (value_elements m.value) m.attributes s rest u (message_parts m s rest leaves).0 (sym (ap pattern_read value) ∙ read) in
    (rest, subst (λ l. AreAttributesAt l w rest) (sym same) (subst (λ x. AreAttributesAt m.attributes x rest) (sym there) after))

pub term_attributes : (m : t.Term) (attributes : List t.Attribute) (s rest u v w : Text) → attributes ≡ m.attributes → LeavesRest (t.term m) s rest → v ≡ after_equals (drop 1 s) → pattern_read v ≡ got m.value u → w ≡ skip_blank_block u →
    (r : Text) × AreAttributesAt attributes w r
term_attributes m attributes s rest u v w same leaves value read there =
    let after = attributes_after m.value m.attributes (drop 1 s) rest u (term_parts m s rest leaves).0 (sym (ap pattern_read value) ∙ read) in
    (rest, subst (λ l. AreAttributesAt l w rest) (sym same) (subst (λ x. AreAttributesAt m.attributes x rest) (sym there) after))
