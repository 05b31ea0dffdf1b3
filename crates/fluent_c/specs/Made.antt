-- What a text that a caller got is.
use Rattle.std.specs.Prelude.{◌≡◌, ℕ, true, false, List}
use Rattle.fluent_c.specs.Texts.{HeldBy, with_nul}
use Rattle.fluent_c.specs.declared.buffers.Buffers.{Buffers}
use Rattle.fluent_c.specs.declared.text.FluentText.{FluentText}

-- there is a text, and all its bytes are these
abbrev pub HoldsBytes : FluentText → List ℕ → Type 0
HoldsBytes t bytes = (t.held ≡ true) × (t.text ≡ bytes)

-- there is this text, and the byte 0 after it
abbrev pub Holds : FluentText → List ℕ → Type 0
Holds t text = HoldsBytes t (with_nul text)

-- there is no text
abbrev pub HoldsNone : FluentText → Type 0
HoldsNone t = t.held ≡ false

-- there is a text, and its bytes are those of the buffers, at the same address
abbrev pub HoldsBuffers : FluentText → Buffers → Type 0
HoldsBuffers t buffers = HeldBy t.held t.bytes t.len t.text buffers

-- the text has the bytes that another has, and they have stayed at their address
abbrev pub StaysAt : FluentText → FluentText → Type 0
StaysAt now before = (now.text ≡ before.text) × ((now.bytes ≡ before.bytes) × (now.len ≡ before.len))

-- there is the text that there was, at the same address, or none as before
abbrev pub HoldsSame : FluentText → FluentText → Type 0
HoldsSame now before = (now.held ≡ before.held) × (before.held ≡ true → StaysAt now before)
