-- Paths that are listed, and the names of their files.
use Rattle.std.proofs.Common.{◌≡◌, ℕ, ◌+◌, ◌<◌, List, [], ◌∷◌, ◌++◌, Bor, String, ap, length, take, map, get_or, string_bytes, sym}
use Rattle.std.proofs.lemmas.List.{map-append, take_more}
use Rattle.std.specs.Global.{Global}
use Rattle.fluent_serve.specs.Text.{Text}
use Rattle.fluent_serve.specs.Texts.{texts}
use Rattle.ftl_files.specs.Files.{State}
use Rattle.ftl_files.specs.Listed.{AreListed, IsListedAs, Listed, listed_after, one_path}

-- one path more is listed
pub listed_next : (start here there : State) (paths : List (Bor Text)) (i : ℕ) (d : Bor Text) (old new : Listed) (below : List Text) → i < length paths →
    AreListed start (texts (take i paths)) old here → IsListedAs (get_or paths i d).now below here there → there.contents ≡ here.contents →
    new ≡ listed_after old (get_or paths i d).now below → AreListed start (texts (take (i + 1) paths)) new there
listed_next start here there paths i d old new below inside before listed same is =
    rw (is, take_more paths i d inside, map-append (λ (p : Bor Text). p.now) (take i paths) (get_or paths i d ∷ []))
    (one_path (get_or paths i d).now below there before listed same)

-- one name more
pub more_names : (names : List (String Global)) (i : ℕ) (item : String Global) → i < length names → item ≡ get_or names i item →
    map string_bytes (take (i + 1) names) ≡ map string_bytes (take i names) ++ string_bytes item ∷ []
more_names names i item inside at =
    rw (take_more names i item inside, map-append string_bytes (take i names) (get_or names i item ∷ []))
    (ap (λ n. map string_bytes (take i names) ++ string_bytes n ∷ []) (sym at))
