pub mod FittingColumns
pub mod LongestFronts
mod PrintedNumbers
