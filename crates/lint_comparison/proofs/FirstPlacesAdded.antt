-- The first places of names, once one more was added.
use Rattle.std.proofs.Common.{◌≡◌, ◌∙◌, Bool, true, false, cond, if◌then◌else◌, List, [], ◌∷◌, ◌++◌, Option, Some, None, option_map, refl, ap, sym, Bor}
use Rattle.std.specs.Option.{unwrap_or}
use Rattle.std.specs.Bool.{nat_eq}
use Rattle.std.specs.Str.{bytes_eq}
use Rattle.std.specs.Cmp.Lexicographic.{pointwise, same_text}
use Rattle.std.specs.HashMap.{HashMap, Updates, get, get_by}
use Rattle.fluent_grammar.specs.Words.{Text}
use Rattle.lint_comparison.specs.HasFirstPlaces.{first_at}

-- names are the same, by their bytes
abbrev pub same_name : Bor Text → Bor Text → Bool
same_name x y = pointwise nat_eq x.now y.now

abbrev or_else : Option Text → Option Text → Option Text
or_else None o = o
or_else (Some at) o = Some at

first_more : (name : Text) (ps : List (Text × Text)) (p : Text × Text) → first_at name (ps ++ p ∷ []) ≡ or_else (first_at name ps) (if bytes_eq p.0 name then Some p.1 else None)
first_more name [] p = refl
first_more name (q ∷ ps) p = by (bytes_eq q.0 name) (first_more name ps p)
  where
    by : (b : Bool) → first_at name (ps ++ p ∷ []) ≡ or_else (first_at name ps) (if bytes_eq p.0 name then Some p.1 else None) →
        (if b then Some q.1 else first_at name (ps ++ p ∷ [])) ≡ or_else (if b then Some q.1 else first_at name ps) (if bytes_eq p.0 name then Some p.1 else None)
    by true later = refl
    by false later = later

module _ {S : Type 0} (m n : HashMap (Bor Text) (Bor Text) S) (name at : Bor Text) (ps : List (Text × Text))
    (first : (q : Text) → option_map (λ s. s.now) (get_by (λ k. bytes_eq q k.now) m) ≡ first_at q ps) where
  here : (v : Option (Bor Text)) (o : Option Text) → option_map (λ s. s.now) v ≡ o → Some (unwrap_or v at).now ≡ or_else o (Some at.now)
  here None None e = refl
  here None (Some x) e = absurd cc
  here (Some v) None e = absurd cc
  here (Some v) (Some x) e = e

  there : (o : Option Text) → o ≡ or_else o None
  there None = refl
  there (Some x) = refl

  kept_or : (q : Text) → (b : Bool) → bytes_eq name.now q ≡ b →
      option_map (λ s. s.now) (cond b (Some (unwrap_or (get same_name m name) at)) (get_by (λ k. bytes_eq q k.now) m)) ≡ or_else (first_at q ps) (if b then Some at.now else None)
  kept_or q true is =
      let same : name.now ≡ q = same_text name.now q (sym is) in
      here (get same_name m name) (first_at q ps) (first name.now ∙ ap (λ x. first_at x ps) same)
  kept_or q false is = first q ∙ there (first_at q ps)

  pub added : Updates same_name m n name (Some (unwrap_or (get same_name m name) at)) → (q : Text) → option_map (λ s. s.now) (get_by (λ k. bytes_eq q k.now) n) ≡ first_at q (ps ++ (name.now, at.now) ∷ [])
  added updates q =
      ap (option_map (λ s. s.now)) (updates.0 (record { ref_ptr = (0, 0); now = q }))
      ∙ kept_or q (bytes_eq name.now q) refl
      ∙ sym (first_more q ps (name.now, at.now))
