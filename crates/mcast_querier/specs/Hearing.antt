-- Which frames are another querier's: general queries from an address that isn't zero.
-- Source: RFC 2236 section 3, RFC 2710 section 4, RFC 4541 section 2.1.1; that general queries alone count is this profile's.
use Rattle.std.specs.Prelude.{ℕ, ◌==◌, Bool, if◌then◌else◌, List, drop}
use Rattle.std.specs.declared.option.Option.{Option}
use Rattle.std.specs.declared.option.Option.TheVariants.{None, Some}
use Rattle.std.specs.declared.result.Result.{Result}
use Rattle.std.specs.declared.result.Result.TheVariants.{Ok, Err}
use Rattle.br_model.specs.declared.frame.FrameFault.{FrameFault}
use Rattle.br_model.specs.declared.frame.Head.{Head}
use Rattle.br_model.specs.declared.frame.McastMsg.{McastMsg}
use Rattle.br_model.specs.declared.frame.McastMsg.TheVariants.{Plain, Payload, Query, Report, Leave, Records, Unrecognized}
use Rattle.br_model.specs.Wire.Frames.{frame}
use Rattle.br_model.specs.Wire.IpHeaders.{type_four, source_four, source_six}
use Rattle.br_model.specs.Wire.Messages.{message}

-- whether of IP version 6, and the source's address
abbrev pub Asker : Type 0
Asker = Bool × ℕ

-- the source's address of the packet in a frame of this type
abbrev pub source_in : ℕ → List ℕ → ℕ
source_in kind packet = if kind == type_four then source_four packet else source_six packet

-- where that address ends
abbrev pub source_end : ℕ → ℕ
source_end kind = if kind == type_four then 16 else 24

-- who asks by this message, which comes from this address
abbrev pub asker_by : McastMsg → ℕ → Option Asker
asker_by Plain source = None
asker_by (Payload group) source = None
asker_by (Query six counted) source = if counted then Some (six, source) else None
asker_by (Report group) source = None
asker_by (Leave group) source = None
asker_by (Records six first count) source = None
asker_by Unrecognized source = None

-- who asks by a frame of this header
abbrev pub asker : List ℕ → Head → Option Asker
asker bytes head = asker_by (message bytes head) (source_in head.kind (drop head.body bytes))

-- the same of bytes that may be no frame
abbrev pub asker_as : List ℕ → Result Head FrameFault → Option Asker
asker_as bytes (Err why) = None
asker_as bytes (Ok head) = asker bytes head

abbrev pub asker_in : List ℕ → Option Asker
asker_in bytes = asker_as bytes (frame bytes)

abbrev pub message_as : List ℕ → Result Head FrameFault → Option McastMsg
message_as bytes (Err why) = None
message_as bytes (Ok head) = Some (message bytes head)

-- what the bytes say to snooping, where they are a frame
abbrev pub message_in : List ℕ → Option McastMsg
message_in bytes = message_as bytes (frame bytes)
