-- What each finding says is so: those of references, of repeated variants, and of unused terms.
use Rattle.std.proofs.Common.{◌≡◌, ◌∙◌, ℕ, ◌==◌, Bool, true, false, if◌then◌else◌, List, [], ◌∷◌, ◌++◌, length, map, Option, Some, None, refl, sym, ap, subst}
use Rattle.std.specs.Prelude.{codes, not}
use Rattle.std.specs.Option.{option_to_list}
use Rattle.std.specs.List.{All, flat_map, list_any}
use Rattle.std.specs.Str.{bytes_eq}
use Rattle.std.proofs.lemmas.Bool.{false≢true}
use Rattle.std.proofs.lemmas.List.Elements.{All-nil, All-cons, All-head, All-tail, All-append, All-filter, Contains-append_left, Contains-append_right}
use Rattle.fluent_grammar.specs.Words.{Text, is_among}
use Rattle.fluent_grammar.specs.Refusal.{got}
use Rattle.fluent_grammar.specs.Tree as t
use Rattle.fluent_grammar.specs.Tree.{Elements}
use Rattle.fluent_grammar.specs.Ends.{EndsIn}
use Rattle.fluent_grammar.specs.Reading.{entry_at, key_at}
use Rattle.fluent_grammar.proofs.Cases.{cases, or-right}
use Rattle.fluent_grammar.proofs.Within.{end-trans}
use Rattle.fluent_errors.specs.Errors.{Unresolved, unknown, no_value, missing_default, cyclic, too_many_placeables, to_function, to_message, to_term, to_variable}
use Rattle.fluent_meaning.specs.Choice.{first_default}
use Rattle.fluent_meaning.specs.Fallback.{with_attribute}
use Rattle.fluent_meaning.specs.Ids.{Ids, find}
use Rattle.fluent_plurals.specs.declared.plurals.LanguagePlurals.{LanguagePlurals}
use Rattle.lint_findings.specs.Tiles.{entry_tile}
use Rattle.lint_findings.specs.References.{reference_error}
use Rattle.lint_findings.specs.Flaws.{unresolved, duplicate_key, default_flaws, elements_selects, entry_patterns, Owner}
use Rattle.lint_findings.specs.FlawHints.{never_ends}
use Rattle.lint_findings.specs.FlawWords.{flaw_words}
use Rattle.lint_findings.specs.Nodes.{Node, expression, select, repeated_key, elements_nodes}
use Rattle.lint_findings.specs.Occurrences.{Occurrence, occurrences, inline_read, pattern_read, PatternPlace}
use Rattle.lint_findings.specs.Finding.{Finding, Remark, finding_at}
use Rattle.lint_findings.proofs.NearNamesAreThere.{is_same}
use Rattle.lint_findings.proofs.NodeRemarks.{flaw_finding, node_findings_are, lone_codes, IsPlain, doubts_are_plain}
use Rattle.lint_findings.proofs.LetterRemarks.{all_are_plain}
use Rattle.lint_findings.specs.Encodings.{wrong_encodings}
use Rattle.lint_findings.specs.Letters.{letters}
use Rattle.lint_findings.specs.Scripts.{mixed_words}
use Rattle.lint_findings.specs.EntryFindings.{endless_remark, finding_in, node_flaws, node_doubts, node_findings, nodes_findings, pattern_text, pattern_findings, attribute_findings, patterns_findings, pattern_places, entry_findings}
use Rattle.lint_findings.specs.Files.{File}
use Rattle.lint_findings.specs.DuplicateIds.{Declaration, id_of, label_of, duplicate_findings}
use Rattle.lint_findings.specs.UnusedTerms.{unused_remark, unused_findings}
use Rattle.lint_findings.specs.Findings.{Rules, FileFinding, findings_if_first, findings_of_entry, findings_of_tile, is_quoted, own_findings, plurals_for, unless_quoted}
use Rattle.lint_findings.specs.PlaceLaws.{IsReadAt, IsReadIn, nodes, ArePatternsAt}
use Rattle.lint_findings.specs.FindingLaws.{syntax_codes, reference_codes, IsOfReference, source_selects, IsOfLostVariant, is_repeated, IsOfLoneTerm, is_unused}
use Rattle.lint_findings.proofs.OccurrencesAreRead.{occurrences_are_read}
use Rattle.lint_findings.proofs.OccurrencesAreTheNodes.{occurrences_are_the_nodes}
use Rattle.lint_findings.proofs.PatternPlaces.{patterns_have_places}
use Rattle.lint_findings.proofs.RepeatedKeys.{has_key, never_matches, IsOfSelects, AreAmong, more, elements_known}
use Rattle.lint_findings.proofs.SourcePlaces.{at_offset, IsPlace, places_within, IsReadTile, IsTileAmong, entry_selects}

clash : (b : Bool) → b ≡ false → b ≡ true → ⊥
clash b p q = false≢true (sym p ∙ q)

-- ---- codes

not_syntax : (e : Unresolved) → is_among ((flaw_words (unresolved e)).code) lone_codes ≡ false
not_syntax (unknown (to_function id)) = refl
not_syntax (unknown (to_message id None)) = refl
not_syntax (unknown (to_message id (Some a))) = refl
not_syntax (unknown (to_term id None)) = refl
not_syntax (unknown (to_term id (Some a))) = refl
not_syntax (unknown (to_variable id)) = refl
not_syntax (no_value id) = refl
not_syntax missing_default = refl
not_syntax cyclic = refl
not_syntax too_many_placeables = refl

not_repeated : (e : Unresolved) → bytes_eq ((flaw_words (unresolved e)).code) (codes "duplicate-variant") ≡ false
not_repeated (unknown (to_function id)) = refl
not_repeated (unknown (to_message id None)) = refl
not_repeated (unknown (to_message id (Some a))) = refl
not_repeated (unknown (to_term id None)) = refl
not_repeated (unknown (to_term id (Some a))) = refl
not_repeated (unknown (to_variable id)) = refl
not_repeated (no_value id) = refl
not_repeated missing_default = refl
not_repeated cyclic = refl
not_repeated too_many_placeables = refl

-- a code that is none of these
other_syntax : (code : Text) → is_among code lone_codes ≡ false → is_among code syntax_codes ≡ false
other_syntax code p = or-right (bytes_eq (codes "unused-term") code) (is_among code syntax_codes) p

other_unused : (code : Text) → is_among code lone_codes ≡ false → bytes_eq code (codes "unused-term") ≡ false
other_unused code p = cases (bytes_eq code (codes "unused-term"))
    (λ b. absurd (false≢true (sym p ∙ ap (λ c. is_among c lone_codes) (is_same code (codes "unused-term") b))))
    (λ b. b)

-- what the laws say of a finding with such a code
pub record Keeps (S : Type 0) (ids : Ids (Unit {0})) (is_referred : Text → Bool) (f : FileFinding) : Type 0 where
  pub reference : is_among f.finding.code reference_codes ≡ true → IsOfReference ids f
  pub repeated : is_repeated f ≡ true → IsOfLostVariant S f
  pub unused : is_unused f ≡ true → IsOfLoneTerm (λ id. is_referred id ≡ true) f

-- ---- findings of an entry

module _ (S : Type 0) (rules : Rules) (file : File) where
  abbrev in_file : Finding → FileFinding
  in_file f = record { file = file; finding = f }

  abbrev source : Text
  source = file.source

  -- a finding that the laws hold of, and that isn't of junk
  pub record IsSound (f : Finding) : Type 0 where
    pub unlike_syntax : is_among f.code syntax_codes ≡ false
    pub keeps : Keeps S rules.ids rules.is_referred (in_file f)

  abbrev AreSound : List Finding → Type 0
  AreSound fs = All IsSound fs

  pub none : AreSound []
  none = All-nil IsSound

  both : (fs gs : List Finding) → AreSound fs → AreSound gs → AreSound (fs ++ gs)
  both fs gs h k = All-append IsSound fs gs h k

  pub one : (f : Finding) → IsSound f → AreSound (f ∷ [])
  one f h = All-cons IsSound f [] h none

  -- a finding that no law is about
  pub plain : (f : Finding) → is_among f.code lone_codes ≡ false → is_among f.code reference_codes ≡ false → bytes_eq f.code (codes "duplicate-variant") ≡ false → IsSound f
  plain f p q r = record {
    unlike_syntax = other_syntax f.code p;
    keeps = record {
      reference = λ e. absurd (clash (is_among f.code reference_codes) q e);
      repeated = λ e. absurd (clash (bytes_eq f.code (codes "duplicate-variant")) r e);
      unused = λ e. absurd (clash (bytes_eq f.code (codes "unused-term")) (other_unused f.code p) e);
    };
  }

  pub if_one : (b : Bool) (f : Finding) → IsSound f → AreSound (if b then f ∷ [] else [])
  if_one true f h = one f h
  if_one false f h = none

  unless_one : (b : Bool) (f : Finding) → IsSound f → AreSound (if b then [] else f ∷ [])
  unless_one true f h = none
  unless_one false f h = one f h

  pub mapped : {X : Type 0} (make : X → Finding) → ((x : X) → IsSound (make x)) → (xs : List X) → AreSound (map make xs)
  mapped make h [] = none
  mapped make h (x ∷ xs) = All-cons IsSound (make x) (map make xs) (h x) (mapped make h xs)

  module _ (plurals : Option LanguagePlurals) (owner : Text) where
    -- at an end of the source
    module _ (at : Text) (h : EndsIn at source) where
      of_reference : (i : t.Inline) (rest : Text) → inline_read at ≡ got i rest → (o : Option Unresolved) → reference_error (find rules.ids) i ≡ o →
          AreSound (map (flaw_finding rules.ids rules.reference source owner at) (map unresolved (option_to_list o)))
      of_reference i rest read None is = none
      of_reference i rest read (Some e) is =
          one (flaw_finding rules.ids rules.reference source owner at (unresolved e)) (record {
            unlike_syntax = other_syntax ((flaw_words (unresolved e)).code) (not_syntax e);
            keeps = record {
              reference = λ c. record { reference = i; rest = rest; error = e; read = ap inline_read (at_offset source at h) ∙ read; missing = is; code = refl; text = refl };
              repeated = λ c. absurd (clash (bytes_eq ((flaw_words (unresolved e)).code) (codes "duplicate-variant")) (not_repeated e) c);
              unused = λ c. absurd (clash (bytes_eq ((flaw_words (unresolved e)).code) (codes "unused-term")) (other_unused ((flaw_words (unresolved e)).code) (not_syntax e)) c);
            };
          })

      of_default : (o : Option Elements) → AreSound (map (flaw_finding rules.ids rules.reference source owner at) (default_flaws o))
      of_default None = one (flaw_finding rules.ids rules.reference source owner at (unresolved missing_default)) (plain _ refl refl refl)
      of_default (Some ds) = none

      of_key : (key : t.VariantKey) → IsReadAt at (repeated_key key) → IsOfSelects (source_selects source) (repeated_key key) → IsSound (flaw_finding rules.ids rules.reference source owner at (duplicate_key key))
      of_key key read known =
          record {
            unlike_syntax = refl;
            keeps = record {
              reference = λ c. absurd (false≢true c);
              repeated = λ c. record {
                key = key;
                rest = read.0;
                variants = known.0;
                index = known.1;
                read = ap key_at (at_offset source at h) ∙ read.1;
                there = known.2.0;
                keyed = has_key [] known.1 known.0 key known.2.1;
                lost = never_matches known.1 known.0 key known.2.1;
                text = refl;
              };
              unused = λ c. absurd (false≢true c);
            };
          }

      of_flaws : (node : Node) → IsReadAt at node → IsOfSelects (source_selects source) node → AreSound (map (flaw_finding rules.ids rules.reference source owner at) (node_flaws rules.ids node))
      of_flaws (expression i) read known = of_reference i read.0 read.1 (reference_error (find rules.ids) i) refl
      of_flaws (select i vs) read known = of_default (first_default vs)
      of_flaws (repeated_key key) read known = one (flaw_finding rules.ids rules.reference source owner at (duplicate_key key)) (of_key key read known)

      of_doubts : (rs : List Remark) → All IsPlain rs → AreSound (map (finding_in source owner at) rs)
      of_doubts [] h = none
      of_doubts (r ∷ rs) h =
          let here = All-head IsPlain r rs h in
          All-cons IsSound (finding_in source owner at r) (map (finding_in source owner at) rs)
          (plain (finding_in source owner at r) here.no_syntax here.no_reference here.no_variant) (of_doubts rs (All-tail IsPlain r rs h))

      of_node : (node : Node) → IsReadAt at node → IsOfSelects (source_selects source) node → AreSound (node_findings rules.ids rules.reference plurals source owner at node)
      of_node node read known =
          subst AreSound (sym (node_findings_are rules.ids rules.reference plurals source owner at node))
          (both (map (flaw_finding rules.ids rules.reference source owner at) (node_flaws rules.ids node)) _ (of_flaws node read known)
          (of_doubts (node_doubts rules.ids plurals node) (doubts_are_plain rules.ids plurals node)))

    of_nodes : (s : Text) → EndsIn s source → (at : Text) (os : List Occurrence) → All (IsReadIn s) os → All (IsOfSelects (source_selects source)) (nodes os) →
        AreSound (nodes_findings rules.ids rules.reference plurals source owner at (nodes os) os)
    of_nodes s h at [] read known = none
    of_nodes s h at (o ∷ os) read known =
        let here = All-head (IsReadIn s) o os read in
        both (node_findings rules.ids rules.reference plurals source owner o.at o.node) _
        (of_node o.at (end-trans here.place h) o.node here.read (All-head (IsOfSelects (source_selects source)) o.node (nodes os) known))
        (of_nodes s h at os (All-tail (IsReadIn s) o os read) (All-tail (IsOfSelects (source_selects source)) o.node (nodes os) known))

  of_pattern : (plurals : Option LanguagePlurals) (owner : Text) (place : PatternPlace) (es : Elements) (rest : Text) → EndsIn place.pattern_at source → pattern_read place.pattern_at ≡ got es rest → AreAmong (elements_selects es) (source_selects source) →
      AreSound (pattern_findings rules.ids rules.reference plurals source owner place es)
  of_pattern plurals owner place es rest h read among =
      let os = occurrences place.pattern_at in
      let same : nodes os ≡ elements_nodes es = occurrences_are_the_nodes place.pattern_at es rest read in
      let known = more (elements_selects es) (source_selects source) (elements_nodes es) among (elements_known es) in
      both (if never_ends rules.ids es then finding_in source owner place.name_at (endless_remark rules.ids rules.reference es) ∷ [] else []) _
      (if_one (never_ends rules.ids es) (finding_in source owner place.name_at (endless_remark rules.ids rules.reference es)) (plain _ refl refl refl))
      (both (nodes_findings rules.ids rules.reference plurals source owner place.pattern_at (elements_nodes es) os) _
      (subst (λ ns. AreSound (nodes_findings rules.ids rules.reference plurals source owner place.pattern_at ns os)) same
      (of_nodes plurals owner place.pattern_at h place.pattern_at os (occurrences_are_read place.pattern_at) (subst (All (IsOfSelects (source_selects source))) (sym same) known)))
      (of_doubts plurals owner place.pattern_at h
      (letters (pattern_text place.pattern_at) ++ (mixed_words (pattern_text place.pattern_at) ++ wrong_encodings (pattern_text place.pattern_at)))
      (all_are_plain (pattern_text place.pattern_at))))

  abbrev HasSelects : Owner × Elements → Type 0
  HasSelects p = AreAmong (elements_selects p.1) (source_selects source)

  of_patterns : (plurals : Option LanguagePlurals) (s : Text) (before : List Text) (places : List PatternPlace) (ps : List (Owner × Elements)) → All (IsPlace source) places → ArePatternsAt places ps → All HasSelects ps →
      AreSound (patterns_findings rules.ids rules.reference plurals source s before places ps)
  of_patterns plurals s before places [] h at among = none
  of_patterns plurals s before [] (p ∷ ps) h at among = absurd at
  of_patterns plurals s before (place ∷ places) (p ∷ ps) h at among =
      let owner = with_attribute p.0.label p.0.attribute in
      both (attribute_findings rules.ids rules.reference plurals source owner before place p.0.attribute) _ (if_one (list_any (λ name. is_among name before) (option_to_list p.0.attribute)) _ (plain _ refl refl refl))
      (both (pattern_findings rules.ids rules.reference plurals source owner place p.1) _
      (of_pattern plurals owner place p.1 at.1.0 (All-head (IsPlace source) place places h) at.1.1 (All-head HasSelects p ps among))
      (of_patterns plurals s (option_to_list p.0.attribute ++ before) places ps (All-tail (IsPlace source) place places h) at.2 (All-tail HasSelects p ps among)))

  all_selects : (ps : List (Owner × Elements)) → AreAmong (flat_map (λ (p : Owner × Elements). elements_selects p.1) ps) (source_selects source) → All HasSelects ps
  all_selects [] h = All-nil HasSelects
  all_selects (p ∷ ps) h =
      let others = flat_map (λ (q : Owner × Elements). elements_selects q.1) ps in
      All-cons HasSelects p ps (λ vs c. h vs (Contains-append_left (elements_selects p.1) others vs c)) (all_selects ps (λ vs c. h vs (Contains-append_right (elements_selects p.1) others vs c)))

  of_entry : (plurals : Option LanguagePlurals) (e : t.Entry) (s : Text) → IsReadTile source (entry_tile 0 s e) → AreAmong (entry_selects e) (source_selects source) → AreSound (entry_findings rules.ids rules.reference plurals source e s)
  of_entry plurals e s read among =
      of_patterns plurals s [] (pattern_places e s) (entry_patterns e) (places_within source s read.0 e) (patterns_have_places s e read.1.0 read.1.1) (all_selects (entry_patterns e) among)

  -- ---- findings of a tile

  module _ (compares : (e : t.Entry) (s : Text) → AreSound (rules.compare source e s)) where
    of_id : (before : List Declaration) (e : t.Entry) (at : ℕ) (id : Text) → AreSound (duplicate_findings rules.functions before e at id)
    of_id before e at id = if_one _ _ (plain _ refl refl refl)

    of_lone : (m : t.Term) (at : ℕ) (s rest : Text) → EndsIn s source → entry_at s ≡ got (t.term m) rest → (b : Bool) → rules.is_referred m.id ≡ b →
        AreSound (if b then [] else finding_at at (label_of (t.term m)) unused_remark ∷ [])
    of_lone m at s rest place read true is = none
    of_lone m at s rest place read false is =
        one (finding_at at (label_of (t.term m)) unused_remark) (record {
          unlike_syntax = refl;
          keeps = record {
            reference = λ c. absurd (false≢true c);
            repeated = λ c. absurd (false≢true c);
            unused = λ c. record { term = m; at = s; rest = rest; place = place; read = read; label = refl; unused = λ h. false≢true (sym is ∙ h) };
          };
        })

    of_unused : (e : t.Entry) (at : ℕ) (s : Text) → IsReadTile source (entry_tile at s e) → AreSound (unused_findings rules.is_referred e at)
    of_unused (t.message m) at s read = none
    of_unused (t.term m) at s read = of_lone m at s read.1.0 read.0 read.1.1 (rules.is_referred m.id) refl
    of_unused (t.comment c) at s read = none
    of_unused (t.group_comment c) at s read = none
    of_unused (t.resource_comment c) at s read = none
    of_unused (t.junk x) at s read = none

    unless_taken : (b : Bool) (e : t.Entry) (at : ℕ) (s : Text) → IsReadTile source (entry_tile at s e) → AreSound (if b then findings_if_first rules source e at s else [])
    unless_taken true e at s read = both (unused_findings rules.is_referred e at) _ (of_unused e at s read) (compares e s)
    unless_taken false e at s read = none

    of_known : (before : List Declaration) (e : t.Entry) (at : ℕ) (s : Text) (o : Option Text) → IsReadTile source (entry_tile at s e) → AreSound (own_findings rules source e s) →
        AreSound (findings_of_entry rules before source e at s o)
    of_known before e at s None read h = none
    of_known before e at s (Some id) read h =
        let duplicates = duplicate_findings rules.functions before e at id in
        both duplicates _ (of_id before e at id) (both (own_findings rules source e s) _ h (unless_taken (length duplicates == 0) e at s read))

    -- what is left of them is, too
    of_own : (b : Bool) (fs : List Finding) → AreSound fs → AreSound (unless_quoted b fs)
    of_own true fs h = All-filter (λ f. not (bytes_eq f.code (codes "placeable-in-literal"))) IsSound fs h
    of_own false fs h = h

    pub of_entry_tile : (before : List Declaration) (at : ℕ) (s : Text) (e : t.Entry) → IsReadTile source (entry_tile at s e) → IsTileAmong (source_selects source) (entry_tile at s e) →
        AreSound (findings_of_tile rules before file (entry_tile at s e))
    of_entry_tile before at s e read among =
        of_known before e at s (id_of e) read (of_own (is_quoted rules.reference e) _ (of_entry (plurals_for rules e) e s read among))
