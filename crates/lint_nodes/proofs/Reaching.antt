-- A search that follows one message at a time finds what rounds of the definition find.
use Rattle.std.proofs.Common.{◌≡◌, ◌∙◌, ℕ, zero, suc, ◌+◌, ◌-◌, ◌<◌, ◌≤◌, Bool, true, false, cond, ◌||◌, List, [], ◌∷◌, ◌++◌, length, map, take, drop, get_or, Option, Some, None, refl, ap, sym, subst, append_assoc, append-nil, arith, Bor}
use Rattle.std.specs.BTreeMap.{is_at}
use Rattle.std.specs.List.{flat_map}
use Rattle.std.specs.Str.{bytes_eq}
use Rattle.std.proofs.lemmas.List.{length-append, length-map, length-take-le, take_all}
use Rattle.std.proofs.lemmas.List.Concat.{flat_map-append}
use Rattle.lint_findings.specs.Comparison.{messages_of, messages_within, references_of, union, variables_of}
use Rattle.lint_findings.proofs.NothingMissing.{key_is}
use Rattle.fluent_grammar.specs.Words.{Text, is_among}
use Rattle.fluent_meaning.specs.Ids.{Ids, Meaning, find}
use Rattle.fluent_value.specs.Args.{order}
use Rattle.lint_nodes.specs.HasNames.{HasNames, texts}
use Rattle.lint_nodes.specs.HasReached.{HasReached, GetsReferences, messages_in, variables_in}
use Rattle.lint_nodes.specs.declared.reached.Reached.{Reached}
use Rattle.lint_nodes.proofs.Rounds.{round, rounds, rounds_begin, done_stays, Follows, one_more, one_followed, enough}
use Rattle.lint_nodes.proofs.Unions.{among_here, union-append, union_begins}

module _ {F : Type 0} (ids : Ids F) where
  -- the messages and the variables that what an id stands for names
  abbrev pub refers : Text → List Text
  refers id = messages_in (references_of (find ids id))

  abbrev pub shows : Text → List Text
  shows id = variables_in (references_of (find ids id))

  are_rounds : (n : ℕ) (known : List Text) → messages_within n ids known ≡ rounds refers n known
  unfolding messages_within
  are_rounds zero known = refl
  are_rounds (suc n) known = are_rounds n (round refers known)

-- ---- the rounds of the definition are enough

abbrev keys_of : {F : Type 0} → Ids F → List Text
keys_of ids = map (λ p. p.0) ids

or_parts : (a b : Bool) → (a || b) ≡ false → (a ≡ false) × (b ≡ false)
or_parts true b e = absurd cc
or_parts false b e = (refl, e)

not_found_by : {F : Type 0} (id k : Text) (v : Meaning F) (o : Option (Meaning F)) (others : List Text) → is_among id (k ∷ others) ≡ false → o ≡ None → (b : Bool) → is_at (order id) k ≡ b → cond b (Some v) o ≡ None
not_found_by id k v o others none later true at = absurd (let there : is_among id (id ∷ others) ≡ false = ap (λ x. is_among id (x ∷ others)) (key_is id k at) ∙ none in let here = among_here id others in cc)
not_found_by id k v o others none later false at = later

not_found : {F : Type 0} (ids : Ids F) (id : Text) → is_among id (keys_of ids) ≡ false → find ids id ≡ None
not_found [] id none = refl
not_found (p ∷ ps) id none = not_found_by id p.0 p.1 (find ps id) (keys_of ps) none (not_found ps id (or_parts (bytes_eq p.0 id) (is_among id (keys_of ps)) none).1) (is_at (order id) p.0) refl

module _ {F : Type 0} (ids : Ids F) (id : Text) where
  by_rounds : messages_of ids id ≡ rounds (refers ids) (length ids) (id ∷ [])
  by_rounds = are_rounds ids (length ids) (id ∷ [])

  settled : round (refers ids) (messages_of ids id) ≡ messages_of ids id
  settled =
      let enough_rounds = enough (refers ids) (keys_of ids) (λ x none. ap (λ o. messages_in (references_of o)) (not_found ids x none)) (id ∷ []) in
      let all : messages_of ids id ≡ rounds (refers ids) (length (keys_of ids)) (id ∷ []) = by_rounds ∙ ap (λ n. rounds (refers ids) n (id ∷ [])) (sym (length-map ids (λ p. p.0))) in
      ap (round (refers ids)) all ∙ enough_rounds ∙ sym all

-- ---- one message at a time

-- The first messages that are known were followed, and following the others finds all that a message refers to.
pub record IsReaching {F : Type 0} (ids : Ids F) (id : Text) (reached : Reached) (next : ℕ) : Type 0 where
  pub known : List Text
  pub variables : List Text
  pub has : HasReached reached known variables
  pub leads : messages_within (length ids) ids known ≡ messages_of ids id
  pub followed : Follows (refers ids) (take next known) known
  pub shown : variables ≡ union [] (flat_map (shows ids) (take next known))
  pub inside : next ≤ length known

split_at : (items : List (Bor Text)) (i : ℕ) (item : Bor Text) → i < length items → item ≡ get_or items i item → texts items ≡ take i (texts items) ++ (item.now ∷ drop (suc i) (texts items))
split_at [] i item inside is = absurd (omega arith)
split_at (x ∷ xs) zero item inside is = ap (λ (z : Bor Text). z.now ∷ texts xs) (sym is)
split_at (x ∷ xs) (suc i) item inside is = ap (λ zs. x.now ∷ zs) (split_at xs i item (omega arith) is)

take_front : (front rest : List Text) (x : Text) → take (suc (length front)) (front ++ (x ∷ rest)) ≡ front ++ x ∷ []
take_front [] rest x = refl
take_front (y ∷ front) rest x = ap (λ zs. y ∷ zs) (take_front front rest x)

module _ {F : Type 0} (ids : Ids F) (id : Text) where
  pub reaching_first : (reached : Reached) → HasReached reached (id ∷ []) [] → IsReaching ids id reached 0
  reaching_first reached has = record { known = id ∷ []; variables = []; has = has; leads = refl; followed = refl; shown = refl; inside = omega arith }

  pub reaching_more : (old new : Reached) (next : ℕ) (item : Bor Text) → IsReaching ids id old next → next < length old.messages.list.items → item ≡ get_or old.messages.list.items next item →
      GetsReferences old (references_of (find ids item.now)) new → IsReaching ids id new (next + 1)
  reaching_more old new next item r below is gets =
      let known = r.known in
      let x = item.now in
      let done = take next known in
      let todo = drop (suc next) known in
      let listed = r.has.messages_are.listed in
      let split : known ≡ done ++ (x ∷ todo) = sym listed ∙ split_at old.messages.list.items next item below is ∙ ap (λ xs. take next xs ++ (x ∷ drop (suc next) xs)) listed in
      let more = union_begins known (refers ids x) in
      let new_known = union known (refers ids x) in
      let whole : new_known ≡ done ++ (x ∷ (todo ++ more.0)) = more.1 ∙ ap (λ xs. xs ++ more.0) split ∙ append_assoc done (x ∷ todo) more.0 in
      let as_many : length done ≡ next = length-take-le next known r.inside in
      let plus : next + 1 ≡ suc next = omega arith in
      let followed_now : take (next + 1) new_known ≡ done ++ x ∷ [] =
      ap (λ n. take n new_known) plus ∙ ap (take (suc next)) whole ∙ ap (λ n. take (suc n) (done ++ (x ∷ (todo ++ more.0)))) (sym as_many) ∙ take_front done (todo ++ more.0) x in
      let n = length ids in
      let leads_by_rounds : rounds (refers ids) n known ≡ messages_of ids id = sym (are_rounds ids n known) ∙ r.leads in
      let settled_here : round (refers ids) (rounds (refers ids) n known) ≡ rounds (refers ids) n known = ap (round (refers ids)) leads_by_rounds ∙ settled ids id ∙ sym leads_by_rounds in
      let long : length known ≡ length old.messages.list.items = sym (ap length listed) ∙ length-map old.messages.list.items (λ (s : Bor Text). s.now) in
      let longer : length new_known ≡ length known + length more.0 = ap length more.1 ∙ length-append known more.0 in
      record {
        known = new_known;
        variables = union r.variables (shows ids x);
        has = gets known r.variables r.has;
        leads = are_rounds ids n new_known ∙ one_more (refers ids) n done todo known x split r.followed settled_here ∙ leads_by_rounds;
        followed = subst (λ xs. Follows (refers ids) xs new_known) (sym followed_now) (one_followed (refers ids) done known x r.followed);
        shown = ap (λ xs. union xs (shows ids x)) r.shown ∙ sym (union-append [] (flat_map (shows ids) done) (shows ids x))
            ∙ ap (λ xs. union [] (flat_map (shows ids) done ++ xs)) (sym (append-nil (shows ids x))) ∙ ap (union []) (sym (flat_map-append (shows ids) done (x ∷ [])))
            ∙ ap (λ xs. union [] (flat_map (shows ids) xs)) (sym followed_now);
        inside = omega arith;
      }

  -- there is no end before all messages are known
  reaching_ends : (reached : Reached) (next : ℕ) → IsReaching ids id reached next → next < length reached.messages.list.items → next < length (messages_of ids id)
  reaching_ends reached next r below =
      let begins = rounds_begin (refers ids) (length ids) r.known in
      let all : messages_of ids id ≡ r.known ++ begins.0 = sym r.leads ∙ are_rounds ids (length ids) r.known ∙ begins.1 in
      let long : length r.known ≡ length reached.messages.list.items = sym (ap length r.has.messages_are.listed) ∙ length-map reached.messages.list.items (λ (s : Bor Text). s.now) in
      let longer : length (messages_of ids id) ≡ length r.known + length begins.0 = ap length all ∙ length-append r.known begins.0 in
      omega arith

  pub reaching_falls : (reached : Reached) (next : ℕ) → IsReaching ids id reached next → next < length reached.messages.list.items → length (messages_of ids id) - (next + 1) < length (messages_of ids id) - next
  reaching_falls reached next r below = let ends = reaching_ends reached next r below in omega arith

  pub reaching_all : (reached : Reached) (next : ℕ) → IsReaching ids id reached next → length reached.messages.list.items ≤ next → HasNames reached.variables (variables_of ids id)
  reaching_all reached next r past =
      let long : length r.known ≡ length reached.messages.list.items = sym (ap length r.has.messages_are.listed) ∙ length-map reached.messages.list.items (λ (s : Bor Text). s.now) in
      let all : take next r.known ≡ r.known = take_all next r.known (omega arith) in
      let done : round (refers ids) r.known ≡ r.known = ap (λ xs. union r.known (flat_map (refers ids) xs)) (sym all) ∙ r.followed in
      let known : r.known ≡ messages_of ids id = sym (done_stays (refers ids) (length ids) r.known done) ∙ sym (are_rounds ids (length ids) r.known) ∙ r.leads in
      subst (HasNames reached.variables) (r.shown ∙ ap (λ xs. union [] (flat_map (shows ids) xs)) (all ∙ known)) r.has.variables_are
