-- The names that paths stand for begin with them.
use Rattle.std.proofs.Common.{Bool, true, false, if◌then◌else◌, List, [], ◌∷◌, ◌++◌, append-nil, arith, inl, inr, subst, sym}
use Rattle.std.specs.Prelude.{All}
use Rattle.std.proofs.lemmas.List.Elements.{All-append, All-cons, All-head, All-nil, All-tail, All-weaker, Contains-append_left, Contains-append_right, Contains-get_or}
use Rattle.fluent_grammar.specs.Words.{is_among}
use Rattle.fluent_serve.specs.Text.{Text}
use Rattle.lint_findings.specs.Comparison.{union}
use Rattle.ftl_files.specs.Files.{IsBelow, IsSourceBelow, StandFor, State}
use Rattle.ftl_files.specs.Listed.{AreListed, IsListedAs, Listed, listed_after, no_path, one_path}
use Rattle.ftl_files.specs.ListedLaws.{IsOfPaths, ListedAreOfPaths}

-- ---- one path

itself : (path : Text) → IsBelow path path
itself path = record { rest = []; is = sym (append-nil path) }

stands_below : (path : Text) (names : List Text) → StandFor path names → All (IsBelow path) names
stands_below path names (inl is) =
    subst (All (IsBelow path)) (sym is) (All-cons (IsBelow path) path [] (itself path) (All-nil (IsBelow path)))
stands_below path names (inr below) =
    subst (All (IsBelow path)) (sym below.are)
    (All-append (IsBelow path) below.sources below.folders (All-weaker (IsSourceBelow path) (IsBelow path) (λ name h. h.1) below.sources below.of_sources) below.of_folders)

listed_below : (path : Text) (names : List Text) (before after : State) → IsListedAs path names before after → All (IsBelow path) names
listed_below path names before after (inl right) = stands_below path names right.stand
listed_below path names before after (inr failed) = stands_below path names (inl failed.0)

-- ---- several

of_more : (paths others : List Text) (name : Text) → IsOfPaths paths name → IsOfPaths (paths ++ others) name
of_more paths others name h = record { path = h.path; among = Contains-append_left paths others h.path h.among; below = h.below }

of_last : (paths : List Text) (path name : Text) → IsBelow path name → IsOfPaths (paths ++ path ∷ []) name
of_last paths path name below = record {
  path = path;
  among = Contains-append_right paths (path ∷ []) path (Contains-get_or (path ∷ []) 0 path (omega arith));
  below = below;
}

added : (paths : List Text) (path : Text) (listed : Listed) (names : List Text) → All (IsOfPaths paths) listed.names → All (IsBelow path) names →
    All (IsOfPaths (paths ++ path ∷ [])) (listed_after listed path names).names
added paths path listed [] old new = All-weaker (IsOfPaths paths) (IsOfPaths (paths ++ path ∷ [])) (of_more paths (path ∷ [])) listed.names old
added paths path listed (name ∷ names) old new =
    All-append (IsOfPaths (paths ++ path ∷ [])) listed.names (name ∷ names) (All-weaker (IsOfPaths paths) (IsOfPaths (paths ++ path ∷ [])) (of_more paths (path ∷ [])) listed.names old)
    (All-weaker (IsBelow path) (IsOfPaths (paths ++ path ∷ [])) (of_last paths path) (name ∷ names) new)

all_listed : {start there : State} {paths : List Text} {listed : Listed} → AreListed start paths listed there → All (IsOfPaths paths) listed.names
all_listed no_path = All-nil (IsOfPaths [])
all_listed (one_path {paths} {listed} {here} path below there before is same) = added paths path listed below (all_listed before) (listed_below path below here there is)

-- ---- each once

all_once : (P : Text → Type 0) (xs ys : List Text) → All P xs → All P ys → All P (union xs ys)
all_once P xs [] old new = old
all_once P xs (y ∷ ys) old new =
    by (is_among y xs) (all_once P xs ys old (All-tail P y ys new))
    (all_once P (xs ++ y ∷ []) ys (All-append P xs (y ∷ []) old (All-cons P y [] (All-head P y ys new) (All-nil P))) (All-tail P y ys new))
  where
    by : (b : Bool) → All P (union xs ys) → All P (union (xs ++ y ∷ []) ys) → All P (if b then union xs ys else union (xs ++ y ∷ []) ys)
    by true known added = known
    by false known added = added

pub listed_are_of_paths : ListedAreOfPaths
listed_are_of_paths start paths listed there lists = all_once (IsOfPaths paths) [] listed.names (All-nil (IsOfPaths paths)) (all_listed lists)
