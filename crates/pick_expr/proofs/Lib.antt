mod BodyLines
mod ByteSets
mod ClassMembers
mod Days
mod ElementSteps
pub mod FittingPieces
mod ItemByItem
pub mod ItemValues
mod LineEnds
mod MaskSteps
mod OneBit
mod PassedBytes
pub mod Picks
mod ReaderFaults
mod Skipping
mod WordPlaces
mod WordValues
