pub mod ArrangedGiven
pub mod ArrangedPledged
pub mod ArrangedShown
pub mod AsideNames
pub mod InOrder
pub mod NumberLists
pub mod Permuted
pub mod PlaceAsks
pub mod PlacesMind
pub mod SlotsGiven
pub mod SortingKinds
pub mod Sources
pub mod Standing
pub mod TakenGiven
mod Turns
pub mod WithdrawnMarks
