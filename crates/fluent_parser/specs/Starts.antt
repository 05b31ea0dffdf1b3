-- Where the entries and the junk of a source begin.
use Rattle.std.specs.Prelude.{ℕ, zero, suc, ◌+◌, ◌-◌, ◌==◌, if◌then◌else◌, List, [], ◌∷◌, length}
use Rattle.fluent_grammar.specs.Words.{Text, skip_blank_block}
use Rattle.fluent_grammar.specs.Reading.{entry_at}
use Rattle.fluent_parser.specs.Parts.{behind_piece}

-- The offsets at which the entries and the junk of a text begin, if the text begins at this one. Each begins after a blank block, as
-- long as that can be, and the next one is looked for after it.
unfoldable pub starts_from : ℕ → ℕ → Text → List ℕ
starts_from zero at s = []
starts_from (suc n) at s =
    let u = skip_blank_block s in
    let here = at + (length s - length u) in
    if length u == 0 then []
    else (let rest = behind_piece u (entry_at u) in here ∷ starts_from n (here + (length u - length rest)) rest)

-- the offsets at which the entries and the junk of a source begin
abbrev pub starts : Text → List ℕ
starts source = starts_from (suc (length source)) 0 source

-- those in the end of a source of so many bytes
unfoldable pub starts_left : ℕ → Text → List ℕ
starts_left total s = starts_from (suc (length s)) (total - length s) s
