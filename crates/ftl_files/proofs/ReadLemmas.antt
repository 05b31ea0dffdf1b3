-- Files that are read, one after the other.
use Rattle.std.proofs.Common.{◌≡◌, ℕ, ◌+◌, ◌<◌, List, [], ◌∷◌, inl, inr, Bor, Option, None, IfSome, length, take, get_or, refl, subst}
use Rattle.std.specs.Prelude.{IsUtf8}
use Rattle.std.proofs.lemmas.List.{take_more, map-append}
use Rattle.fluent_serve.specs.Text.{Text}
use Rattle.fluent_serve.specs.Texts.{texts}
use Rattle.ftl_files.specs.Files.{State}
use Rattle.ftl_files.specs.Reading.{IsAddedRead, Read, ReadFailsSo, ReadsBytes, ReadsOne, ReadsThrough, failed, held, one_read, read_after, refused}
use Rattle.ftl_files.specs.Tidying.{Failure, IsLeft, not_utf8}

-- one file more is read
pub read_next : (start here there : State) (names : List (Bor Text)) (i : ℕ) (d : Bor Text) (old new : Read) → i < length names →
    ReadsThrough start (texts (take i names)) old here → ReadsOne (get_or names i d).now old new here there →
    ReadsThrough start (texts (take (i + 1) names)) new there
read_next start here there names i d old new inside before one =
    rw (one.is, take_more names i d inside, map-append (λ (n : Bor Text). n.now) (take i names) (get_or names i d ∷ []))
    (one_read (get_or names i d).now one.end there before one.so)

-- a file was read, and its source is held or refused
pub source_read : (name : Text) (old new : Read) (source : Text) (before after : State) → IsLeft before after → IfSome (before.contents name) (λ known. source ≡ known) →
    IsAddedRead name source old new → ReadsOne name old new before after
source_read name old new source before after left known (inl is) = record { end = held source; so = (left, known); is = is }
source_read name old new source before after left known (inr refusal) =
    record { end = refused source refusal.0; so = ((left, known), refusal.1.0); is = refusal.1.1 }

-- or it could not be
pub read_failed : (name : Text) (old new : Read) (f : Failure) (why : Option Text) (before after : State) → ReadFailsSo name f before after →
    new ≡ read_after old name (failed f why) → ReadsOne name old new before after
read_failed name old new f why before after fails is = record { end = failed f why; so = fails; is = is }

-- bytes were read that are a text
pub bytes_read : (name bytes source : Text) (old new : Read) → IsUtf8 source → source ≡ bytes → IsAddedRead name source old new → ReadsBytes name bytes old new
bytes_read name bytes source old new text same (inl is) = record { end = held source; right = (subst IsUtf8 same text, same); is = is }
bytes_read name bytes source old new text same (inr refusal) =
    record { end = refused source refusal.0; right = (subst IsUtf8 same text, (same, refusal.1.0)); is = refusal.1.1 }

-- or that are none
pub bytes_refused : (name bytes : Text) (old new : Read) → (IsUtf8 bytes → ⊥) → new ≡ read_after old name (failed not_utf8 None) → ReadsBytes name bytes old new
bytes_refused name bytes old new other is = record { end = failed not_utf8 None; right = (other, (refl, refl)); is = is }
