-- Faults of files, and statuses.
use Rattle.std.proofs.Common.{◌≡◌, ◌∙◌, ◌<◌, ℕ, suc, List, [], ◌∷◌, ◌++◌, Option, None, Some, IfSome, Bor, String, length, take, drop, map, get_or, ap, refl, sym, arith, subst, lit<, drop-cons, take-append-drop, string_bytes}
use Rattle.std.specs.List.{Contains}
use Rattle.std.specs.Prelude.{IsUtf8}
use Rattle.ftl_files.specs.Rows.{bad_row}
use Rattle.std.proofs.lemmas.List.Elements.{Contains-append_right, Contains-get_or}
use Rattle.std.proofs.lemmas.List.{map-append}
use Rattle.std.proofs.lemmas.Str.{IsUtf8-string_bytes}
use Rattle.fluent_serve.specs.Text.{Text}
use Rattle.fluent_serve.specs.Texts.{texts}
use Rattle.fluent_tidy_laws.specs.Joined.{AreUtf8}
use Rattle.ftl_command.specs.Files.{Reaches}
use Rattle.ftl_command.specs.Faults.{FailsAsTold, IsFaultOfFiles, IsWithMeant, ReachesFile, SaysNoUtf8, end_status, status_of}
use Rattle.ftl_files.specs.declared.folder.Folder.{Ghosts as FolderGhosts}
use Rattle.ftl_command.specs.declared.ended.Ended.{Ended}
use Rattle.ftl_command.specs.declared.ended.Ended.TheVariants.{Done, Found, Incomplete, NoFile, Partial, OutOfMemory}
use Rattle.ftl_command.specs.declared.fault.Fault.{Fault}
use Rattle.ftl_command.specs.declared.fault.Fault.TheVariants.{CarriageReturn, NotNormal, NotTree, NotJson, NoMessage, CommandLine, Project, UnknownLocale, FileUnreadable, FileNotUtf8, Input, Output, Memory}

-- a list of one name has no other
only_name : (front behind : List Text) (name file : Text) → name ∷ [] ≡ front ++ file ∷ behind → name ≡ file
only_name [] behind name file split = cc
only_name (x ∷ []) behind name file split = absurd cc
only_name (x ∷ y ∷ rest) behind name file split = absurd cc

-- the file that is reached is one of these
pub Reaches-contains : (contents : Text → Option Text) (files : List Text) (file : Text) → Reaches contents files file → Contains files file
Reaches-contains contents files file r = rw r.split (Contains-append_right r.front (file ∷ r.behind) file (Contains-get_or (file ∷ r.behind) 0 file (omega arith)))

-- what strings hold is UTF-8
pub AreUtf8-strings : {Z : Type 0} (strings : List (String Z)) → AreUtf8 (map string_bytes strings)
AreUtf8-strings [] = tt
AreUtf8-strings (s ∷ rest) = (IsUtf8-string_bytes s, AreUtf8-strings rest)

-- the names before and after the one at a place
pub texts_around : (words : List (Bor Text)) (i : ℕ) (d : Bor Text) → i < length words →
    texts words ≡ texts (take i words) ++ (get_or words i d).now ∷ texts (drop (suc i) words)
texts_around words i d within =
    ap texts (sym (take-append-drop i words)) ∙ (ap (λ l. texts (take i words ++ l)) (drop-cons words i d within)
    ∙ map-append (λ (w : Bor Text). w.now) (take i words) (get_or words i d ∷ drop (suc i) words))

-- a fault of one file is one of several that reach it
pub ReachesFile-one : (contents other : Text → Option Text) (files : List Text) (name : Text) → Reaches contents files name →
    (fault : Fault) → ReachesFile other (name ∷ []) fault → ReachesFile contents files fault
ReachesFile-one contents other files name reached (FileUnreadable file why meant) one = subst (Reaches contents files) (only_name one.front one.behind name file.now one.split) reached
ReachesFile-one contents other files name reached (FileNotUtf8 file row) one = subst (Reaches contents files) (only_name one.front one.behind name file.now one.split) reached
ReachesFile-one contents other files name reached fault one = one

pub one_of_files : {F : Type 0} (folders : FolderGhosts F) (first before after : F) (files : List Text) (name : Text) (fault : Fault) →
    folders.contents before ≡ folders.contents first → folders.failures before ≡ folders.failures first → Reaches (folders.contents first) files name →
    IsFaultOfFiles folders before after (name ∷ []) fault → IsFaultOfFiles folders first after files fault
one_of_files folders first before after files name fault same works reached one = record {
  of_files = one.of_files;
  says = record {
    reached = ReachesFile-one (folders.contents first) (folders.contents before) files name reached fault one.says.reached;
    not_utf8 = subst (λ contents. SaysNoUtf8 contents fault) same one.says.not_utf8;
    unreadable = subst (λ count. FailsAsTold count (folders.failures after) fault) works one.says.unreadable;
  };
}

-- what may be meant by the name of a missing file says nothing of the files
pub with_meant : {F : Type 0} (folders : FolderGhosts F) (before after : F) (files : List Text) (fault other : Fault) → IsWithMeant fault other →
    IsFaultOfFiles folders before after files fault → IsFaultOfFiles folders before after files other
with_meant folders before after files (CarriageReturn place) other is of = rw is of
with_meant folders before after files (NotNormal report) other is of = rw is of
with_meant folders before after files NotTree other is of = rw is of
with_meant folders before after files NotJson other is of = rw is of
with_meant folders before after files (NoMessage meant) other is of = rw is of
with_meant folders before after files (CommandLine advice) other is of = rw is of
with_meant folders before after files (Project text) other is of = rw is of
with_meant folders before after files (UnknownLocale tag) other is of = rw is of
with_meant folders before after files (FileUnreadable file why meant) other is of =
    rw is.is (record { of_files = of.of_files; says = record { reached = of.says.reached; not_utf8 = tt; unreadable = of.says.unreadable } })
with_meant folders before after files (FileNotUtf8 file row) other is of = rw is of
with_meant folders before after files Input other is of = rw is of
with_meant folders before after files Output other is of = rw is of
with_meant folders before after files Memory other is of = rw is of

-- bytes that are no text, and where they aren't, are what the file holds, if that is known
pub not_text : (known : Option Text) (bytes : Text) (row : ℕ) → IfSome known (λ held. bytes ≡ held) → (IsUtf8 bytes → ⊥) → row ≡ bad_row bytes →
    IfSome known (λ held. (IsUtf8 held → ⊥) × (row ≡ bad_row held))
not_text None bytes row same none is = tt
not_text (Some held) bytes row same none is = (λ utf8. none (rw same utf8), is ∙ ap bad_row same)

-- the first file is reached
pub Reaches-first : (contents : Text → Option Text) (name : Text) (behind : List Text) → Reaches contents (name ∷ behind) name
Reaches-first contents name behind = record { front = []; behind = behind; split = refl; sources = []; held = tt; utf8 = tt }

-- a fault's status is one of the program's
pub status_of-among : (fault : Fault) → Contains (0 ∷ 1 ∷ 2 ∷ 3 ∷ 4 ∷ []) (status_of fault)
status_of-among (CarriageReturn place) = Contains-get_or (0 ∷ 1 ∷ 2 ∷ 3 ∷ 4 ∷ []) 1 0 (lit< tt)
status_of-among (NotNormal report) = Contains-get_or (0 ∷ 1 ∷ 2 ∷ 3 ∷ 4 ∷ []) 1 0 (lit< tt)
status_of-among NotTree = Contains-get_or (0 ∷ 1 ∷ 2 ∷ 3 ∷ 4 ∷ []) 1 0 (lit< tt)
status_of-among NotJson = Contains-get_or (0 ∷ 1 ∷ 2 ∷ 3 ∷ 4 ∷ []) 1 0 (lit< tt)
status_of-among (NoMessage meant) = Contains-get_or (0 ∷ 1 ∷ 2 ∷ 3 ∷ 4 ∷ []) 1 0 (lit< tt)
status_of-among (CommandLine advice) = Contains-get_or (0 ∷ 1 ∷ 2 ∷ 3 ∷ 4 ∷ []) 2 0 (lit< tt)
status_of-among (Project text) = Contains-get_or (0 ∷ 1 ∷ 2 ∷ 3 ∷ 4 ∷ []) 2 0 (lit< tt)
status_of-among (UnknownLocale tag) = Contains-get_or (0 ∷ 1 ∷ 2 ∷ 3 ∷ 4 ∷ []) 2 0 (lit< tt)
status_of-among (FileUnreadable file why meant) = Contains-get_or (0 ∷ 1 ∷ 2 ∷ 3 ∷ 4 ∷ []) 3 0 (lit< tt)
status_of-among (FileNotUtf8 file row) = Contains-get_or (0 ∷ 1 ∷ 2 ∷ 3 ∷ 4 ∷ []) 3 0 (lit< tt)
status_of-among Input = Contains-get_or (0 ∷ 1 ∷ 2 ∷ 3 ∷ 4 ∷ []) 3 0 (lit< tt)
status_of-among Output = Contains-get_or (0 ∷ 1 ∷ 2 ∷ 3 ∷ 4 ∷ []) 3 0 (lit< tt)
status_of-among Memory = Contains-get_or (0 ∷ 1 ∷ 2 ∷ 3 ∷ 4 ∷ []) 4 0 (lit< tt)

-- which isn't 0
pub never_zero : (fault : Fault) → status_of fault ≡ 0 → ⊥
never_zero (CarriageReturn place) is = absurd cc
never_zero (NotNormal report) is = absurd cc
never_zero NotTree is = absurd cc
never_zero NotJson is = absurd cc
never_zero (NoMessage meant) is = absurd cc
never_zero (CommandLine advice) is = absurd cc
never_zero (Project text) is = absurd cc
never_zero (UnknownLocale tag) is = absurd cc
never_zero (FileUnreadable file why meant) is = absurd cc
never_zero (FileNotUtf8 file row) is = absurd cc
never_zero Input is = absurd cc
never_zero Output is = absurd cc
never_zero Memory is = absurd cc

-- and so is that of an end without a fault
pub end_status-among : (end : Ended) → Contains (0 ∷ 1 ∷ 2 ∷ 3 ∷ 4 ∷ []) (end_status end)
end_status-among Done = Contains-get_or (0 ∷ 1 ∷ 2 ∷ 3 ∷ 4 ∷ []) 0 0 (lit< tt)
end_status-among Found = Contains-get_or (0 ∷ 1 ∷ 2 ∷ 3 ∷ 4 ∷ []) 1 0 (lit< tt)
end_status-among (Incomplete errors) = Contains-get_or (0 ∷ 1 ∷ 2 ∷ 3 ∷ 4 ∷ []) 1 0 (lit< tt)
end_status-among (NoFile errors) = Contains-get_or (0 ∷ 1 ∷ 2 ∷ 3 ∷ 4 ∷ []) 2 0 (lit< tt)
end_status-among (Partial errors) = Contains-get_or (0 ∷ 1 ∷ 2 ∷ 3 ∷ 4 ∷ []) 3 0 (lit< tt)
end_status-among (OutOfMemory errors) = Contains-get_or (0 ∷ 1 ∷ 2 ∷ 3 ∷ 4 ∷ []) 4 0 (lit< tt)
