-- Words that theorems and proofs are said in. None is needed to believe what `run` says.
pub mod Invariants
pub mod Applied
pub mod OnceOnly
pub mod Refused
pub mod Agreement
pub mod FrameLines
pub mod Applying
pub mod EndsTied
pub mod StampsTied
pub mod StatesAgree
pub mod TreeLaws
pub mod Wanted
pub mod WholeLines
pub mod WrittenSteps
