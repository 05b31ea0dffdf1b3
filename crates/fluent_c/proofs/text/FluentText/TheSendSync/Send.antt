-- A text may go to another thread.
use base.Shift.{Keyless}
use denote.Param.Send.{IsSend, owning_send, sendable}
use denote.RawPtr.{Ptr}
use Rattle.std.proofs.Crossing as std
use Rattle.std.specs.Prelude.{ℕ, Bool, true, false, List}
use Rattle.std_alloc.proofs.SendSync.{lies}
use Rattle.fluent_c.specs.Texts.{buffers_row, text_owns}
use Rattle.fluent_c.specs.contracts.text.FluentText.{the_row, the_type}

buffers_send : IsSend buffers_row
buffers_send = search (std.crosses, sendable) depth 40

text_keyless : (held : Bool) (owner bytes : Ptr) (n : ℕ) (text : List ℕ) → Keyless (text_owns held owner bytes n text)
text_keyless false owner bytes n text = tt
text_keyless true owner bytes n text = λ v. ((λ a. (lies buffers_row buffers_send owner v, std.frees.frees a _ _)), (tt, (tt, tt)))

pub send : IsSend the_row
send =
    owning_send the_type (search sendable, (search sendable, (search sendable, (search sendable, tt))))
    (λ d. text_keyless d.held d.owner d.bytes d.len d.text) (λ k x w. tt)
