-- The first declarations, once one more was added.
use Rattle.std.proofs.Common.{◌≡◌, ◌∙◌, Bool, true, false, cond, if◌then◌else◌, List, [], ◌∷◌, ◌++◌, Option, Some, None, option_map, refl, ap, sym, Bor}
use Rattle.std.specs.Option.{unwrap_or}
use Rattle.std.specs.Bool.{nat_eq}
use Rattle.std.specs.Str.{bytes_eq}
use Rattle.std.specs.Cmp.Lexicographic.{pointwise, same_text}
use Rattle.std.specs.HashMap.{HashMap, Updates, get, get_by}
use Rattle.fluent_grammar.specs.Words.{Text}
use Rattle.lint_findings.specs.DuplicateIds.{Declaration, first_declaration}
use Rattle.lint_entries.specs.declared.location.Location.{Location}
use Rattle.lint_entries.specs.LocationText.{location_text}
use Rattle.lint_entries.specs.First.{declared_at}

-- ids are the same, by their bytes
abbrev pub same_id : Bor Text → Bor Text → Bool
same_id x y = pointwise nat_eq x.now y.now

abbrev or_else : Option Declaration → Option Declaration → Option Declaration
or_else None o = o
or_else (Some d) o = Some d

first_more : (id : Text) (before : List Declaration) (d : Declaration) → first_declaration id (before ++ d ∷ []) ≡ or_else (first_declaration id before) (if bytes_eq d.id id then Some d else None)
first_more id [] d = refl
first_more id (e ∷ before) d = by (bytes_eq e.id id) (first_more id before d)
  where
    by : (b : Bool) → first_declaration id (before ++ d ∷ []) ≡ or_else (first_declaration id before) (if bytes_eq d.id id then Some d else None) →
        (if b then Some e else first_declaration id (before ++ d ∷ [])) ≡ or_else (if b then Some e else first_declaration id before) (if bytes_eq d.id id then Some d else None)
    by true later = refl
    by false later = later

module _ {S : Type 0} (m n : HashMap (Bor Text) Location S) (id : Bor Text) (l : Location) (before : List Declaration) (d : Declaration)
    (first : (q : Text) → option_map location_text (get_by (λ k. bytes_eq q k.now) m) ≡ option_map declared_at (first_declaration q before))
    (same : d.id ≡ id.now) (at : declared_at d ≡ location_text l) where
  -- under the id that was added
  here : (v : Option Location) (o : Option Declaration) → option_map location_text v ≡ option_map declared_at o → Some (location_text (unwrap_or v l)) ≡ option_map declared_at (or_else o (Some d))
  here None None e = ap Some (sym at)
  here None (Some x) e = absurd cc
  here (Some v) None e = absurd cc
  here (Some v) (Some x) e = e

  -- under another one
  there : (o : Option Declaration) → option_map declared_at o ≡ option_map declared_at (or_else o None)
  there None = refl
  there (Some x) = refl

  kept_or : (q : Text) → (b : Bool) → bytes_eq id.now q ≡ b →
      option_map location_text (cond b (Some (unwrap_or (get same_id m id) l)) (get_by (λ k. bytes_eq q k.now) m)) ≡ option_map declared_at (or_else (first_declaration q before) (if b then Some d else None))
  kept_or q true is =
      let is_id : id.now ≡ q = same_text id.now q (sym is) in
      let found : option_map location_text (get same_id m id) ≡ option_map declared_at (first_declaration q before) = first id.now ∙ ap (λ x. option_map declared_at (first_declaration x before)) is_id in
      here (get same_id m id) (first_declaration q before) found
  kept_or q false is = first q ∙ there (first_declaration q before)

  pub added : Updates same_id m n id (Some (unwrap_or (get same_id m id) l)) → (q : Text) → option_map location_text (get_by (λ k. bytes_eq q k.now) n) ≡ option_map declared_at (first_declaration q (before ++ d ∷ []))
  added updates q =
      ap (option_map location_text) (updates.0 (record { ref_ptr = (0, 0); now = q }))
      ∙ kept_or q (bytes_eq id.now q) refl
      ∙ ap (λ x. option_map declared_at (or_else (first_declaration q before) (if bytes_eq x q then Some d else None))) (sym same)
      ∙ ap (option_map declared_at) (sym (first_more q before d))
