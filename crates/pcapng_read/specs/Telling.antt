-- What calls answer, beside what the bytes say.
use Rattle.std.specs.Prelude.{◌≡◌, ℕ, List, []}
use Rattle.std.specs.declared.option.Option.{Option}
use Rattle.std.specs.declared.option.Option.TheVariants.{None, Some}
use Rattle.std.specs.declared.result.Result.{Result}
use Rattle.std.specs.declared.result.Result.TheVariants.{Ok, Err}
use Rattle.br_model.specs.declared.capture.Packet.{Packet}
use Rattle.br_model.specs.Wire.Captures.{Capture, Said, in_front}
use Rattle.pcapng_read.specs.declared.fault.CapFault.{CapFault}
use Rattle.pcapng_read.specs.declared.fault.CapFault.TheVariants.{At, NoMemory}

-- what the block at this place says, with the link types that were kept before and are kept now
abbrev pub Tells : ℕ → Said → List ℕ → Result (Option Packet) CapFault → List ℕ → Type 0
Tells at said old (Ok packet) new = said ≡ Ok (new, packet)
Tells at said old (Err (At offset kind)) new = (offset ≡ at) × (said ≡ Err kind) × (new ≡ old)
Tells at said old (Err NoMemory) new = new ≡ old

-- The next packet of what was left, of which the rest is left now. Only a packet takes something away.
abbrev pub TellsNext : Capture → Result (Option Packet) CapFault → Capture → Type 0
TellsNext old (Ok (Some packet)) new = old ≡ in_front (Some packet) new
TellsNext old (Ok None) new = (old ≡ record { packets = []; fault = None }) × (new ≡ old)
TellsNext old (Err (At offset kind)) new = (old ≡ record { packets = []; fault = Some (record { at = offset; kind = kind }) }) × (new ≡ old)
TellsNext old (Err NoMemory) new = new ≡ old
