-- What bytes on the wire say: frames, headers, messages, BPDUs, captures.
pub mod Frames
pub mod Heads
pub mod Checksum
pub mod IpHeaders
pub mod MldHeaders
pub mod Records
pub mod Messages
pub mod Bpdus
pub mod Captures
