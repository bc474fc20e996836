pub mod BpduReads
